-- A lister goes on from a cursor as if it had listed all before.
--
-- Carries: state_at_margin, begun_state, resumes, encoding_entry and 3 more, for Cursoring, Points,
-- Passing, Moving and 1 more. On: Ahead, Law, Run, Resume and 4 more.
use Rattle.std.proofs.Common.{◌≡◌, ℕ, ◌+◌, ◌≤◌, zero, suc, Bool, true, false, not, ◌&&◌, ◌||◌, ◌==◌, cond, List, [], ◌∷◌, ◌++◌, length}
use Rattle.std.proofs.Common.{take, drop, reverse, replicate, refl, ap, ◌∙◌, sym, subst, arith, Option, Some, None, append_assoc, ⊎_elim}
use Rattle.std.specs.List.{list_all, list_any, count_by, prefix_len}
use Rattle.std.specs.Prelude.{nat_lt}
use Rattle.std.proofs.lemmas.List.{reverse-append, drop-drop}
use Rattle.std.proofs.lemmas.Grind.{common_steps}
use Rattle.std.proofs.lemmas.Bool.Decides.{nat_tests}
use Rattle.std.proofs.lemmas.Bool.{cases_Bool}
use Rattle.pysource.specs.Places.{place_after}
use Rattle.pysource.specs.declared.places.Place.{Place}
use Rattle.pylex_lexeme.specs.declared.lexeme.Class.{Class}
use Rattle.pylex_lexeme.specs.declared.lexeme.Class.TheVariants.{Name, Number, String, Operator, Comment, Blanks, LineEnd, Join}
use Rattle.pylex_listing.specs.declared.kind.Kind.{Kind}
use Rattle.pylex_listing.specs.declared.kind.Kind.TheVariants as kinds
use Rattle.pylex_listing.specs.declared.entries.Entry.{Entry}
use Rattle.pylex_listing.specs.declared.entries.ListingFault.{ListingFault}
use Rattle.pylex_listing.specs.declared.entries.Step.{Step}
use Rattle.pylex_listing.specs.declared.entries.Step.TheVariants as steps
use Rattle.pylex_lexeme.specs.Operators.{is_closer}
use Rattle.pylex_lexeme.specs.Lexemes.{Lexeme, cut, left_by_cut}
use Rattle.pylex_listing.specs.Lines.{text_before, depth, closes, is_of_blanks, is_significant, line_so_far, is_at_margin, is_logical}
use Rattle.pylex_lexeme.specs.Chars.{bytes_in}
use Rattle.pylex_listing.specs.Indentation.{width_from, width_at, widths, open_levels}
use Rattle.pylex_listing.specs.Listing.{Source, listing, rest, origin, further, last_line, up_to_end, stop_fault}
use Rattle.pylex_listing.specs.Steps.{entries_of, mark}
use Rattle.pylex.specs.Cursors.{given_last_first, has_no_text, is_encoding, with_text, point, ends_in_indent, lexemes_to}
use Rattle.pylex_listing.specs.Laws.{is_indent}
use Rattle.pylex.specs.Cursors.{cursor_at, cursor}
use Rattle.pylex_listing.specs.Machine.{State, past, following, after, is_of_join, dedents_at, mark_at, line_end_kind_of, layout_of, entry_by}
use Rattle.pylex_listing.specs.Machine.{gives, is_hash, last_line_end, last_place, tail_of, stop_of, run, remaining, first_state}
use Rattle.pylex.specs.Standing.{standing_by, standing, resumed, to_give, Resumes, StandsInAgreeing}
use Rattle.pylex_listing.proofs.Callers.{state_of, state_push, IsBalanced, balanced_push, bytes_in-append, listing_is}
use Rattle.pylex.proofs.Resumption.Resume.{agreeing}
use Rattle.pylex.proofs.Listing.Ends.{stop_is_fault}
use Rattle.pylex.proofs.Resumption.Resumed.{resumed_start}
use Rattle.pylex.proofs.MachineLaws.LexemeClasses.{lexeme_says}
use Rattle.pylex.proofs.Resumption.Ahead.{ahead, Placed, placed_next, placed_first, history_is, ahead_runs, ahead_own, ahead_indented}
use Rattle.pylex.proofs.Resumption.Ahead.{ahead_indented_stop}
use Rattle.pylex.proofs.Callers.{is_following}

-- after each entry with text there stands what is ahead by the cursor there
abbrev Resumable : Source → List Step → Type 0
Resumable s [] = Unit {0}
Resumable s (steps.Entry e ∷ ss) =
    (is_encoding e ≡ false) × (has_no_text e ≡ false → ahead s (is_indent e) (lexemes_to e.to [] (cut s.text)) ≡ up_to_end ss) × Resumable s
    ss
Resumable s (steps.End ∷ ss) = Unit {0}
Resumable s (steps.Fault f ∷ ss) = Unit {0}

cond_resumable : (s : Source) (b : Bool) (a c ss : List Step) → (b ≡ true → Resumable s (a ++ ss)) → (b ≡ false → Resumable s (c ++ ss))
    → Resumable s (cond b a c ++ ss)
cond_resumable s true a c ss h k = h refl
cond_resumable s false a c ss h k = k refl

-- an entry without text
empty_resumable : (s : Source) (e : Entry) (ss : List Step) → is_encoding e ≡ false → e.«from» ≡ e.to → Resumable s ss
    → Resumable s (steps.Entry e ∷ ss)
empty_resumable s e ss n t r = (n, (λ h. absurd (full e.«from» e.to t h)), r)
  where
    full : (a b : ℕ) → a ≡ b → (a == b) ≡ false → ⊥
    full a b e h = grind (arith, nat_tests)

abbrev mark_of : Kind → ℕ → Place → Place → Entry
mark_of k o p q = record { kind = k; exact = None; start = p; «end» = q; «from» = o; to = o }

marks_resumable : (s : Source) (m : ℕ) (e : Entry) (ss : List Step) → is_encoding e ≡ false → e.«from» ≡ e.to → Resumable s ss
    → Resumable s (replicate m (steps.Entry e) ++ ss)
marks_resumable s zero e ss n t r = r
marks_resumable s (suc m) e ss n t r = empty_resumable s e (replicate m (steps.Entry e) ++ ss) n t (marks_resumable s m e ss n t r)

dedents_resumable : (s : Source) (w : ℕ) (levels : List ℕ) (o : ℕ) (p : Place) (ss : List Step) → Resumable s ss
    → Resumable s (dedents_at w levels o p ++ ss)
dedents_resumable s w levels o p ss r = marks_resumable s (count_by (nat_lt w) levels) (mark_of kinds.Dedent o p p) ss refl refl r

layout_resumable : (s : Source) (t : State) (ss : List Step)
    → (t.margin ≡ true → ahead s true (lexemes_to t.now.offset [] (cut s.text)) ≡ up_to_end ss) → Resumable s ss
    → Resumable s (layout_of t ++ ss)
unfolding layout_of
layout_resumable s t ss h r =
    cond_resumable s t.margin _ [] ss
    (λ m. cond_resumable s (list_all (λ v. nat_lt v t.width) t.levels) _ _ ss
    (λ _. (refl, (λ _. h m), r))
    (λ _. cond_resumable s (list_any (λ v. v == t.width) t.levels) (dedents_at t.width t.levels t.now.offset t.now.place) _ ss
    (λ _. dedents_resumable s t.width t.levels t.now.offset t.now.place ss r)
    (λ _. tt)))
    (λ _. r)

-- a lexeme's own entry
entry_resumable : (s : Source) (t : State) (x : Lexeme) (ss : List Step)
    → (is_of_blanks x ≡ false → is_of_join x ≡ false → ahead s false (lexemes_to (past t.now x.text).offset [] (cut s.text)) ≡ up_to_end ss)
    → Resumable s ss → Resumable s (entry_by t x ++ ss)
unfolding entry_by
entry_resumable s t x ss h r = by_class x.«class» x.text h
  where
    by_end : (b : Bool) (e : Entry) → e.kind ≡ cond b kinds.Newline kinds.Nl → ahead s false (lexemes_to e.to [] (cut s.text)) ≡ up_to_end
        ss → Resumable s (steps.Entry e ∷ ss)
    by_end true e k a = (rw k refl, (λ _. rw k a), r)
    by_end false e k a = (rw k refl, (λ _. rw k a), r)

    by_class : (k : Class) (u : List ℕ) → (is_of_blanks (record { «class» = k; text = u }) ≡ false
        → is_of_join (record { «class» = k; text = u }) ≡ false → ahead s false (lexemes_to (past t.now u).offset [] (cut s.text)) ≡
        up_to_end ss) → Resumable s (entry_by t (record { «class» = k; text = u }) ++ ss)
    by_class Name u h = (refl, (λ _. h refl refl), r)
    by_class Number u h = (refl, (λ _. h refl refl), r)
    by_class String u h = (refl, (λ _. h refl refl), r)
    by_class (Operator o) u h = cond_resumable s (is_closer o && (t.depth == 0)) _ _ ss (λ _. tt) (λ _. (refl, (λ _. h refl refl), r))
    by_class Comment u h = (refl, (λ _. h refl refl), r)
    by_class Blanks u h = r
    by_class LineEnd u h = by_end (t.logical && (t.depth == 0)) (record {
      kind = line_end_kind_of t;
      exact = None;
      start = t.now.place;
      «end» = (following t.now u).place;
      «from» = t.now.offset;
      to = (following t.now u).offset;
    }) refl (h refl refl)
    by_class Join u h = r

-- after an unmatched closing bracket nothing counts
unmatched_resumable : (s : Source) (t : State) (x : Lexeme) (ss : List Step) → (closes x && (t.depth == 0)) ≡ true
    → Resumable s (entry_by t x ++ ss)
unfolding entry_by
unmatched_resumable s t x ss e = by_class x.«class» x.text e
  where
    by_class : (k : Class) (u : List ℕ) → (closes (record { «class» = k; text = u }) && (t.depth == 0)) ≡ true
        → Resumable s (entry_by t (record { «class» = k; text = u }) ++ ss)
    by_class (Operator o) u e = rw e tt
    by_class Name u e = cc
    by_class Number u e = cc
    by_class String u e = cc
    by_class Comment u e = cc
    by_class Blanks u e = cc
    by_class LineEnd u e = cc
    by_class Join u e = cc

tail_resumable : (s : Source) (t : State) → Resumable s (tail_of t)
unfolding tail_of last_line_end
tail_resumable s t =
    let marker = mark_at kinds.EndMarker t.now.offset (last_place t) (last_place t) ∷ steps.End ∷ [] in
    let closing : Resumable s marker = empty_resumable s (mark_of kinds.EndMarker t.now.offset (last_place t) (last_place t))
    (steps.End ∷ []) refl refl tt in
    let closes = dedents_resumable s 0 t.levels t.now.offset (last_place t) marker closing in
    pick (not (t.depth == 0) || t.joined) _ _ tt
    (subst (λ (us : List Step). Resumable s us)
    (sym (append_assoc (last_line_end t) (dedents_at 0 t.levels t.now.offset (last_place t)) marker))
    (cond_resumable s t.logical _ _ (dedents_at 0 t.levels t.now.offset (last_place t) ++ marker)
    (λ _. cond_resumable s (is_hash t.lead) [] _ (dedents_at 0 t.levels t.now.offset (last_place t) ++ marker) (λ _. closes)
    (λ _. empty_resumable s (mark_of kinds.Newline t.now.offset t.now.place (further t.now.place 1))
    (dedents_at 0 t.levels t.now.offset (last_place t) ++ marker) refl refl closes))
    (λ _. cond_resumable s t.margin [] _ (dedents_at 0 t.levels t.now.offset (last_place t) ++ marker) (λ _. closes)
    (λ _. empty_resumable s (mark_of kinds.Nl t.now.offset t.now.place t.now.place) (dedents_at 0 t.levels t.now.offset (last_place t)
    ++ marker) refl refl closes))))
  where
    pick : (b : Bool) (a c : List Step) → Resumable s a → Resumable s c → Resumable s (cond b a c)
    pick true a c h k = h
    pick false a c h k = k

-- the places of the machine's state are those of the lexemes
pub state_offset : (h : List Lexeme) → (state_of h).now.offset ≡ bytes_in (text_before h)
unfolding state_of
state_offset h = refl

pub state_at_margin : (h : List Lexeme) → (state_of h).margin ≡ is_at_margin h
unfolding state_of
state_at_margin h = refl

pub state_depth : (h : List Lexeme) → (state_of h).depth ≡ depth h
unfolding state_of
state_depth h = refl

history_at : (s : Source) (h xs : List Lexeme) (text left : List ℕ) → Placed s h xs text left
    → lexemes_to (state_of h).now.offset [] (cut s.text) ≡ h
history_at s h xs text left p = ap (λ n. lexemes_to n [] (cut s.text)) (state_offset h) ∙ history_is s h xs text left p

stop_resumable : (s : Source) (h : List Lexeme) (text left : List ℕ) → Placed s h [] text left
    → Resumable s (stop_of s.fault (state_of h) left)
unfolding stop_of
stop_resumable s h text left p =
    pick (not (length left == 0)) _ _
    (λ e. layout_resumable s (state_of h) (stop_fault s.fault (state_of h).now.place left ∷ [])
    (λ _. ap (ahead s true) (history_at s h [] text left p) ∙ ahead_indented_stop s h text left p e)
    (let f = stop_is_fault s.fault (state_of h).now.place left in subst (λ (t : Step). Resumable s (t ∷ [])) (sym f.1) tt))
    (by_fault s.fault)
  where
    pick : (b : Bool) (a c : List Step) → (b ≡ true → Resumable s a) → Resumable s c → Resumable s (cond b a c)
    pick true a c h k = h refl
    pick false a c h k = k

    by_fault : (f : Option ListingFault) → Resumable s (elim f [ Some g ↦ steps.Fault g ∷ [] | None ↦ tail_of (state_of h) ])
    by_fault (Some f) = tt
    by_fault None = tail_resumable s (state_of h)

-- one lexeme, and what is after it
own_resumable : (s : Source) (h xs : List Lexeme) (x : Lexeme) (text left : List ℕ) → (p : Placed s h (x ∷ xs) text left) → IsBalanced h
    → (IsBalanced (x ∷ h) → Resumable s (run s.fault left (state_of (x ∷ h)) xs))
    → Resumable s (entry_by (state_of h) x ++ run s.fault left (after (state_of h) x) xs)
own_resumable s h xs x text left p b k = ⊎_elim
    (λ (e : (closes x && (depth h == 0)) ≡ true). unmatched_resumable s (state_of h) x (run s.fault left (after (state_of h) x) xs)
    (ap (λ n. closes x && (n == 0)) (state_depth h) ∙ e))
    (λ (e : (closes x && (depth h == 0)) ≡ false).
    let q = placed_next s h xs x text left p in
    let same : run s.fault left (state_of (x ∷ h)) xs ≡ run s.fault left (after (state_of h) x) xs =
    ap (λ t. run s.fault left t xs) (state_push h x b e) in
    let offset : (past (state_of h).now x.text).offset ≡ bytes_in (text_before (x ∷ h)) = ap (λ n. n + bytes_in x.text) (state_offset h)
    ∙ sym (bytes_in-append (text_before h) x.text) in
    entry_resumable s (state_of h) x (run s.fault left (after (state_of h) x) xs)
    (λ nb nj.
    ap (λ n. ahead s false (lexemes_to n [] (cut s.text))) offset
    ∙ ap (ahead s false) (history_is s (x ∷ h) xs p.lexemes.0 left q)
    ∙ ahead_own s h xs x p.lexemes.0 left q (lexeme_says text x p.lexemes.1) nb nj
    ∙ ap up_to_end same)
    (subst (Resumable s) same (k (balanced_push h x b e))))
    (cases_Bool (closes x && (depth h == 0)))

lexeme_resumable : (s : Source) (h xs : List Lexeme) (x : Lexeme) (text left : List ℕ) → (p : Placed s h (x ∷ xs) text left) → IsBalanced h
    → (IsBalanced (x ∷ h) → Resumable s (run s.fault left (state_of (x ∷ h)) xs))
    → Resumable s (gives (state_of h) x ++ run s.fault left (after (state_of h) x) xs)
unfolding gives
lexeme_resumable s h xs x text left p b k =
    let r = run s.fault left (after (state_of h) x) xs in
    let own = own_resumable s h xs x text left p b k in
    subst (Resumable s) (sym (append_assoc (cond (is_significant x) (layout_of (state_of h)) []) (entry_by (state_of h) x) r))
    (cond_resumable s (is_significant x) (layout_of (state_of h)) [] (entry_by (state_of h) x ++ r)
    (λ e. layout_resumable s (state_of h) (entry_by (state_of h) x ++ r)
    (λ m. ap (ahead s true) (history_at s h (x ∷ xs) text left p) ∙ ahead_indented s h xs x text left p (sym (state_at_margin h) ∙ m) e)
    own)
    (λ _. own))

run_resumable : (s : Source) (xs h : List Lexeme) (text left : List ℕ) → Placed s h xs text left → IsBalanced h
    → Resumable s (run s.fault left (state_of h) xs)
run_resumable s [] h text left p b = stop_resumable s h text left p
run_resumable s (x ∷ xs) h text left p b =
    lexeme_resumable s h xs x text left p b (λ c. run_resumable s xs (x ∷ h) p.lexemes.0 left (placed_next s h xs x text left p) c)

-- the same of steps that leave off at the first that is no entry
abbrev Rests : Source → List Step → Type 0
Rests s [] = Unit {0}
Rests s (steps.Entry e ∷ ss) =
    (is_encoding e ≡ false) × (has_no_text e ≡ false → ahead s (is_indent e) (lexemes_to e.to [] (cut s.text)) ≡ ss) × Rests s ss
Rests s (steps.End ∷ ss) = entries_of ss ≡ []
Rests s (steps.Fault f ∷ ss) = entries_of ss ≡ []

cut_rests : (s : Source) (ss : List Step) → Resumable s ss → Rests s (up_to_end ss)
cut_rests s [] r = tt
cut_rests s (steps.Entry e ∷ ss) r = (r.0, r.1, cut_rests s ss r.2)
cut_rests s (steps.End ∷ ss) r = refl
cut_rests s (steps.Fault f ∷ ss) r = refl

-- What a cursor tells after given entries, which stand last first.
abbrev skipped : List Entry → ℕ
skipped es = count_by (λ e. not (is_encoding e)) (take (prefix_len has_no_text es) es)

abbrev from_point : Source → List Entry → List Step
from_point s es = ahead s (ends_in_indent (with_text es)) (lexemes_to (point (with_text es)) [] (cut s.text))

-- after these entries these steps are left
record Leaves (s : Source) (es : List Entry) (ss : List Step) : Type 0 where
  left : drop (skipped es) (from_point s es) ≡ ss

one_skipped : (e : Entry) (es : List Entry) → is_encoding e ≡ false → has_no_text e ≡ true → skipped (e ∷ es) ≡ skipped es + 1
one_skipped e es n t =
    let o : 1 + prefix_len has_no_text es ≡ suc (prefix_len has_no_text es) = omega arith in
    rw (t, o) (counted e (take (prefix_len has_no_text es) es) n)
  where
    counted : (e : Entry) (es : List Entry) → is_encoding e ≡ false → count_by (λ d. not (is_encoding d)) (e ∷ es) ≡ count_by
        (λ d. not (is_encoding d)) es + 1
    counted e es n = grind (arith, common_steps)

same_point : (s : Source) (e : Entry) (es : List Entry) → has_no_text e ≡ true → from_point s (e ∷ es) ≡ from_point s es
unfolding with_text
same_point s e es t = let o : 1 + prefix_len has_no_text es ≡ suc (prefix_len has_no_text es) = omega arith in rw (t, o) refl

none_skipped : (e : Entry) (es : List Entry) → has_no_text e ≡ false → skipped (e ∷ es) ≡ 0
none_skipped e es t = rw t refl

new_point : (s : Source) (e : Entry) (es : List Entry) → has_no_text e ≡ false
    → from_point s (e ∷ es) ≡ ahead s (is_indent e) (lexemes_to e.to [] (cut s.text))
unfolding with_text
new_point s e es t = rw t refl

drop_one_more : {X : Type 0} (n : ℕ) (xs : List X) (x : X) (ys : List X) → drop n xs ≡ x ∷ ys → drop (n + 1) xs ≡ ys
drop_one_more n xs x ys e = sym (drop-drop 1 n xs) ∙ ap (drop 1) e

leaves_next : (s : Source) (e : Entry) (es : List Entry) (ss : List Step) → is_encoding e ≡ false
    → (has_no_text e ≡ false → ahead s (is_indent e) (lexemes_to e.to [] (cut s.text)) ≡ ss)
    → Leaves s es (steps.Entry e ∷ ss) → Leaves s (e ∷ es) ss
leaves_next s e es ss n h l = ⊎_elim
    (λ (t : has_no_text e ≡ true).
    record {
      left = ap (λ m. drop m (from_point s (e ∷ es))) (one_skipped e es n t) ∙ ap (drop (skipped es + 1)) (same_point s e es t)
          ∙ drop_one_more (skipped es) (from_point s es) (steps.Entry e) ss l.left;
    })
    (λ (t : has_no_text e ≡ false).
    record { left = ap (λ m. drop m (from_point s (e ∷ es))) (none_skipped e es t) ∙ new_point s e es t ∙ h t })
    (cases_Bool (has_no_text e))

walk : (s : Source) (ss : List Step) (es : List Entry) (j : ℕ) → Rests s ss → Leaves s es ss → j ≤ length (entries_of ss)
    → Leaves s (reverse (take j (entries_of ss)) ++ es) (drop j ss)
walk s ss es zero r l b = l
walk s [] es (suc j) r l b = absurd (omega arith)
walk s (steps.End ∷ ss) es (suc j) r l b = absurd (omega (arith, ap length r))
walk s (steps.Fault f ∷ ss) es (suc j) r l b = absurd (omega (arith, ap length r))
walk s (steps.Entry e ∷ ss) es (suc j) r l b =
    let k = walk s ss (e ∷ es) j r.2 (leaves_next s e es ss r.0 r.1 l) (omega arith) in
    let t = take j (entries_of ss) in
    let m : reverse (e ∷ t) ++ es ≡ reverse t ++ (e ∷ es) = ap (λ u. u ++ es) (reverse-append (e ∷ []) t)
    ∙ append_assoc (reverse t) (e ∷ []) es in
    subst (λ (u : List Entry). Leaves s u (drop j ss)) (sym m) k

-- nothing is given before the first lexeme
begins_so : (s : Source) → ahead s false [] ≡ remaining s.fault first_state s.text
unfolding remaining state_of place_after depth open_levels widths is_at_margin width_at line_so_far is_logical width_from last_line
begins_so s =
    let p = placed_first s in
    let r = resumed_start [] 0 0 refl refl refl in
    ahead_runs s false [] (cut s.text) s.text (left_by_cut s.text) p
    ∙ ap (λ t. up_to_end (run s.fault (left_by_cut s.text) t (cut s.text))) r

pub begun_state : state_of [] ≡ first_state
unfolding state_of place_after depth open_levels widths is_at_margin width_at line_so_far is_logical width_from
begun_state = refl

abbrev pub encoding_entry : Entry
encoding_entry = record { kind = kinds.Encoding; exact = None; start = origin; «end» = origin; «from» = 0; to = 0 }

begins_leaving : (s : Source) → Leaves s (encoding_entry ∷ []) (remaining s.fault first_state s.text)
unfolding with_text
begins_leaving s = record {
  left = ap (ahead s false) (history_is s [] (cut s.text) s.text (left_by_cut s.text) (placed_first s))
      ∙ begins_so s;
}

rests : (s : Source) → Rests s (remaining s.fault first_state s.text)
unfolding remaining
rests s = subst (λ (t : State). Rests s (up_to_end (run s.fault (left_by_cut s.text) t (cut s.text)))) begun_state
    (cut_rests s (run s.fault (left_by_cut s.text) (state_of []) (cut s.text)) (run_resumable s (cut s.text) [] s.text (left_by_cut s.text)
    (placed_first s) nothing_open))
  where
    nothing_open : IsBalanced []
    nothing_open = record { closed = omega arith }

pub given_first : (s : Source) (j : ℕ)
    → given_last_first s (suc j) ≡ reverse (take j (entries_of (remaining s.fault first_state s.text))) ++ encoding_entry ∷ []
unfolding given_last_first
given_first s j =
    let t = take j (entries_of (remaining s.fault first_state s.text)) in
    ap (λ ss. reverse (take (suc j) (entries_of ss))) (listing_is s) ∙ reverse-append (encoding_entry ∷ []) t

pub some_given : (j : ℕ) → (suc j == 0) ≡ false
some_given j = grind (arith, nat_tests)

gives_from_point : (s : Source) (j : ℕ) → to_give (standing s (suc j)) ≡ drop (skipped (given_last_first s (suc j)))
    (from_point s (given_last_first s (suc j)))
unfolding to_give standing_by cursor cursor_at ahead resumed
gives_from_point s j = let z = some_given j in rw z refl

gives_all : (s : Source) → to_give (standing s 0) ≡ listing s
unfolding to_give standing_by cursor cursor_at given_last_first with_text ahead resumed
gives_all s =
    ap (λ ss. mark kinds.Encoding [] origin origin ∷ ss)
    (ap (ahead s false) (history_is s [] (cut s.text) s.text (left_by_cut s.text) (placed_first s)) ∙ begins_so s)
    ∙ sym (listing_is s)

later : (s : Source) (j : ℕ) → suc j ≤ length (entries_of (listing s)) → to_give (standing s (suc j)) ≡ rest s (suc j)
later s j b =
    let e = listing_is s in
    let n : suc j ≤ length (entries_of (mark kinds.Encoding [] origin origin ∷ remaining s.fault first_state s.text)) = rw e at b in
    let w = walk s (remaining s.fault first_state s.text) (encoding_entry ∷ []) j (rests s) (begins_leaving s) (omega arith) in
    gives_from_point s j ∙ ap (λ es. drop (skipped es) (from_point s es)) (given_first s j) ∙ w.left ∙ sym (ap (drop (suc j)) e)

at_each : (s : Source) (k : ℕ) → k ≤ length (entries_of (listing s)) → to_give (standing s k) ≡ rest s k
at_each s zero b = gives_all s
at_each s (suc j) b = later s j b

-- what every lister gives is the rest of the listing
pub resumes : Resumes
resumes v s k h = ap to_give h.is ∙ at_each s k h.within

-- a cursor of a source stands in each source that agrees with it from its line on
pub stands_in_agreeing : StandsInAgreeing
stands_in_agreeing a b c h g = let own = is_following h in record { within = own.within; is = agreeing a b c g ∙ ap (standing_by a) own.is }
