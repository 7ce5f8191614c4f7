-- How many entries a listing has, at most.
--
-- Carries: given_within, for Moving. On: Layouts, Blocks, Finding, Law and 6 more.
use Rattle.std.proofs.Common.{◌≡◌, ℕ, zero, suc, ◌+◌, ◌*◌, ◌≤◌, Bool, true, false, not, ◌&&◌, ◌||◌, ◌==◌, cond, List, [], ◌∷◌, ◌++◌, length}
use Rattle.std.proofs.Common.{replicate, refl, ap, ◌∙◌, arith, Option, Some, None, IsUtf8, ⊎_elim}
use Rattle.std.specs.List.{count_by}
use Rattle.std.specs.Prelude.{nat_lt}
use Rattle.std.proofs.lemmas.List.Sums.{count_by-le-length}
use Rattle.pylex_lexeme.specs.declared.lexeme.Class.{Class}
use Rattle.pylex_lexeme.specs.declared.lexeme.Class.TheVariants.{Name, Number, String, Operator, Comment, Blanks, LineEnd, Join}
use Rattle.pylex_listing.specs.declared.kind.Kind.TheVariants as kinds
use Rattle.pylex_listing.specs.declared.entries.Entry.{Entry}
use Rattle.pylex_listing.specs.declared.entries.ListingFault.{ListingFault}
use Rattle.pylex_listing.specs.declared.entries.Step.{Step}
use Rattle.pylex_listing.specs.declared.entries.Step.TheVariants as steps
use Rattle.pylex_lexeme.specs.Operators.{is_closer}
use Rattle.pylex_lexeme.specs.Lexemes.{Lexeme, cut, left_by_cut}
use Rattle.pylex_listing.specs.Lines.{is_significant}
use Rattle.pylex_lexeme.specs.Chars.{bytes_in}
use Rattle.pylex_listing.specs.Listing.{Source, listing, stop_fault, up_to_end}
use Rattle.pylex_listing.specs.Steps.{entries_of}
use Rattle.pylex_listing.specs.Machine.{State, pushed, after, dedents_at, mark_at, last_place, layout_of, entry_by, gives, is_hash}
use Rattle.pylex_listing.specs.Machine.{last_line_end, tail_of, stop_of, run, remaining, first_state}
use Rattle.pylex_listing.specs.Laws.{AreLexemes}
use Rattle.pylex.specs.Listers.{Listed, StandsIn}
use Rattle.pylex.specs.LineState.{is_above, is_level}
use Rattle.std.proofs.Math.Bool.{and-true, and-false}
use Rattle.std.proofs.lemmas.Bool.{cases_Bool}
use Rattle.pylex.proofs.Levels.Layouts.{layout_indent, layout_dedents, layout_mismatch}
use Rattle.pylex.proofs.Listers.Finding.{settled_layout}
use Rattle.pylex_listing.proofs.Callers.{bytes_in-append, listing_is, lexeme_full, cut_lexed}
use Rattle.pylex.proofs.Listing.Ends.{stop_is_fault}
use Rattle.pylex.proofs.Listing.Blocks.{three_ways, some_at, pushed_length}
use Rattle.pylex.proofs.Resumption.CursorBounds.{text_length}
use Rattle.pylex.proofs.Callers.{is_following}

abbrev many : List Step → ℕ
many ss = length (entries_of ss)

many-append : (a b : List Step) → many (a ++ b) ≡ many a + many b
many-append [] b = omega arith
many-append (steps.Entry e ∷ a) b = let h = many-append a b in omega arith
many-append (steps.End ∷ a) b = many-append a b
many-append (steps.Fault f ∷ a) b = many-append a b

many_up_to_end : (ss : List Step) → many (up_to_end ss) ≤ many ss
many_up_to_end [] = omega arith
many_up_to_end (steps.Entry e ∷ ss) = let h = many_up_to_end ss in omega arith
many_up_to_end (steps.End ∷ ss) = omega arith
many_up_to_end (steps.Fault f ∷ ss) = omega arith

cond_many : (b : Bool) (n : ℕ) (a c : List Step) → (b ≡ true → many a ≤ n) → (b ≡ false → many c ≤ n) → many (cond b a c) ≤ n
cond_many true n a c h k = h refl
cond_many false n a c h k = k refl

many_marks : (n : ℕ) (e : Entry) → many (replicate n (steps.Entry e)) ≡ n
many_marks zero e = refl
many_marks (suc n) e = let h = many_marks n e in omega arith

-- a layout opens one level, or closes as many as it gives DEDENTs
abbrev levels_after : State → List ℕ
levels_after s = cond s.margin (pushed s.width s.levels) s.levels

laid_many : (s : State) (ss : List Step) → s.margin ≡ true → layout_of s ≡ ss → many ss + length (pushed s.width s.levels) ≤ length s.levels
    + 2 → many (layout_of s) + length (levels_after s) ≤ length s.levels + 2
laid_many s ss m e h = let l : length (levels_after s) ≡ length (pushed s.width s.levels) =
    ap (λ b. length (cond b (pushed s.width s.levels) s.levels)) m in let n : many (layout_of s) ≡ many ss = ap many e in omega arith

layout_many : (s : State) → many (layout_of s) + length (levels_after s) ≤ length s.levels + 2
layout_many s = ⊎_elim
    (λ (m : s.margin ≡ true).
    let l = pushed_length s.width s.levels in
    let t = three_ways s.width s.levels in
    ⊎_elim
    (λ (b : is_above s.width s.levels ≡ true). laid_many s _ m (layout_indent s m b) (omega arith))
    (λ (b : is_above s.width s.levels ≡ false). ⊎_elim
    (λ (v : is_level s.width s.levels ≡ true).
    let n : many (dedents_at s.width s.levels s.now.offset s.now.place) ≡ count_by (nat_lt s.width) s.levels =
    many_marks (count_by (nat_lt s.width) s.levels) _ in
    let w = some_at s.width s.levels v in
    laid_many s _ m (layout_dedents s m b v) (omega arith))
    (λ (v : is_level s.width s.levels ≡ false). laid_many s _ m (layout_mismatch s m b v) (omega arith))
    (cases_Bool (is_level s.width s.levels)))
    (cases_Bool (is_above s.width s.levels)))
    (λ (m : s.margin ≡ false).
    let n : many (layout_of s) ≡ 0 = ap many (settled_layout s m) in
    let l : length (levels_after s) ≡ length s.levels = ap (λ b. length (cond b (pushed s.width s.levels) s.levels)) m in
    omega arith)
    (cases_Bool s.margin)

-- a lexeme gives one entry at most
entry_many : (s : State) (x : Lexeme) → many (entry_by s x) ≤ 1
unfolding entry_by
entry_many s x = by_class x.«class» x.text
  where
    by_class : (k : Class) (t : List ℕ) → many (entry_by s (record { «class» = k; text = t })) ≤ 1
    by_class Name t = omega arith
    by_class Number t = omega arith
    by_class String t = omega arith
    by_class (Operator o) t = cond_many (is_closer o && (s.depth == 0)) 1 _ _ (λ _. omega arith) (λ _. omega arith)
    by_class Comment t = omega arith
    by_class Blanks t = omega arith
    by_class LineEnd t = omega arith
    by_class Join t = omega arith

gives_many : (s : State) (x : Lexeme) → many (gives s x) + length (after s x).levels ≤ length s.levels + 3
unfolding gives after
gives_many s x = by_significant (is_significant x)
  where
    by_significant : (b : Bool) → many (cond b (layout_of s) [] ++ entry_by s x) + length
        (cond (s.margin && b) (pushed s.width s.levels) s.levels) ≤ length s.levels + 3
    by_significant true =
        let a = many-append (layout_of s) (entry_by s x) in
        let l = layout_many s in
        let e = entry_many s x in
        let m : length (cond (s.margin && true) (pushed s.width s.levels) s.levels) ≡ length (levels_after s) =
        ap (λ b. length (cond b (pushed s.width s.levels) s.levels)) (and-true s.margin) in
        omega arith
    by_significant false =
        let e = entry_many s x in
        let m : length (cond (s.margin && false) (pushed s.width s.levels) s.levels) ≡ length s.levels =
        ap (λ b. length (cond b (pushed s.width s.levels) s.levels)) (and-false s.margin) in
        omega arith

last_many : (s : State) → many (last_line_end s) ≤ 1
unfolding last_line_end
last_many s = cond_many s.logical 1 _ _
    (λ _. cond_many (is_hash s.lead) 1 [] _ (λ _. omega arith) (λ _. omega arith))
    (λ _. cond_many s.margin 1 [] _ (λ _. omega arith) (λ _. omega arith))

tail_many : (s : State) → many (tail_of s) ≤ length s.levels + 2
unfolding tail_of
tail_many s =
    let marker = mark_at kinds.EndMarker s.now.offset (last_place s) (last_place s) ∷ steps.End ∷ [] in
    let d = dedents_at 0 s.levels s.now.offset (last_place s) in
    let n : many d ≡ count_by (nat_lt 0) s.levels = many_marks (count_by (nat_lt 0) s.levels) _ in
    let c = count_by-le-length (nat_lt 0) s.levels in
    let l = last_many s in
    let a = many-append (last_line_end s ++ d) marker in
    let b = many-append (last_line_end s) d in
    cond_many (not (s.depth == 0) || s.joined) (length s.levels + 2) _ _ (λ _. omega arith) (λ _. omega arith)

stop_many : (fault : Option ListingFault) (left : List ℕ) (s : State) → many (stop_of fault s left) ≤ length s.levels + 2
unfolding stop_of
stop_many fault left s =
    let f = stop_is_fault fault s.now.place left in
    let z : many (stop_fault fault s.now.place left ∷ []) ≡ 0 = ap (λ t. many (t ∷ [])) f.1 in
    let a = many-append (layout_of s) (stop_fault fault s.now.place left ∷ []) in
    let l = layout_many s in
    cond_many (not (length left == 0)) (length s.levels + 2) _ _ (λ _. omega arith) (λ _. by_fault fault)
  where
    by_fault : (f : Option ListingFault) → many (elim f [ Some g ↦ steps.Fault g ∷ [] | None ↦ tail_of s ]) ≤ length s.levels + 2
    by_fault (Some f) = omega arith
    by_fault None = tail_many s

run_many : (fault : Option ListingFault) (left : List ℕ) (xs : List Lexeme) (s : State)
    → many (run fault left s xs) ≤ 3 * length xs + length s.levels + 2
run_many fault left [] s = let h = stop_many fault left s in omega arith
run_many fault left (x ∷ xs) s =
    let a = many-append (gives s x) (run fault left (after s x) xs) in
    let g = gives_many s x in
    let h = run_many fault left xs (after s x) in
    omega arith

-- a text has no more lexemes than bytes
lexemes_within : (xs : List Lexeme) (text left : List ℕ) → AreLexemes text xs left → length xs ≤ bytes_in text
lexemes_within [] text left l = omega arith
lexemes_within (x ∷ xs) text left l =
    let h = lexemes_within xs l.0 left l.3 in
    let f = lexeme_full text x l.1 in
    let b : bytes_in text ≡ bytes_in x.text + bytes_in l.0 = ap bytes_in l.2 ∙ bytes_in-append x.text l.0 in
    omega arith

pub entries_within : (s : Source) → length (entries_of (listing s)) ≤ 3 * bytes_in s.text + 4
unfolding remaining
entries_within s =
    let l : length (entries_of (listing s)) ≡ suc (many (remaining s.fault first_state s.text)) =
    ap (λ ss. length (entries_of ss)) (listing_is s) in
    let u = many_up_to_end (run s.fault (left_by_cut s.text) first_state (cut s.text)) in
    let r = run_many s.fault (left_by_cut s.text) (cut s.text) first_state in
    let x = lexemes_within (cut s.text) s.text (left_by_cut s.text) (cut_lexed s.text) in
    omega arith

-- so many a cursor can count
pub given_within : (l : Listed) (a : Source) (k : ℕ) → IsUtf8 l.source.text → StandsIn l a k → k ≤ 3 * length l.source.text + 4
given_within l a k u h =
    let e = entries_within a in
    let t = text_length l a k u h in
    let c = h.count in
    let w = (is_following h.cursor).within in
    omega arith
