-- How many entries without text can follow one another after a cursor's point.
--
-- Carries: skip_within, for Moving. On: Blocks, Cursoring, Resume, Layouts and 8 more.
use Rattle.std.proofs.Common.{◌≡◌, ℕ, zero, suc, ◌+◌, ◌-◌, ◌≤◌, ◌<◌, Bool, true, false, not, ◌&&◌, ◌||◌, ◌==◌, cond, List, [], ◌∷◌, ◌++◌}
use Rattle.std.proofs.Common.{length, map, drop, replicate, refl, ap, ◌∙◌, sym, subst, arith, Option, Some, None, append_assoc, ⊎_elim}
use Rattle.std.specs.List.{count_by}
use Rattle.std.specs.Prelude.{nat_lt}
use Rattle.std.proofs.lemmas.Bool.Decides.{nat_tests}
use Rattle.std.proofs.Math.Bool.{and-false}
use Rattle.std.proofs.lemmas.Bool.{cases_Bool, and_parts}
use Rattle.pysource.specs.declared.places.Place.{Place}
use Rattle.pylex_lexeme.specs.declared.lexeme.Class.{Class}
use Rattle.pylex_lexeme.specs.declared.lexeme.Class.TheVariants.{Name, Number, String, Operator, Comment, Blanks, LineEnd, Join}
use Rattle.pylex_listing.specs.declared.kind.Kind.TheVariants as kinds
use Rattle.pylex_listing.specs.declared.entries.Entry.{Entry}
use Rattle.pylex_listing.specs.declared.entries.ListingFault.{ListingFault}
use Rattle.pylex_listing.specs.declared.entries.Step.{Step}
use Rattle.pylex_listing.specs.declared.entries.Step.TheVariants as steps
use Rattle.pylex_lexeme.specs.Operators.{is_closer}
use Rattle.pylex_lexeme.specs.Lexemes.{Lexeme, cut, left_by_cut}
use Rattle.pylex_listing.specs.Lines.{is_significant, is_of_blanks, is_of_line_end}
use Rattle.pylex_listing.specs.Indentation.{width_from}
use Rattle.pylex_lexeme.specs.Chars.{bytes_in}
use Rattle.pylex_listing.specs.Listing.{Source, listing, rest, stop_fault, up_to_end}
use Rattle.pylex_listing.specs.Steps.{entries_of, first_step}
use Rattle.pylex.specs.Cursors.{CursorParts, cursor_at, cursor, has_no_text}
use Rattle.pylex_listing.specs.Machine.{State, past, pushed, after, ends_line, still, dedents_at, mark_at, last_place, layout_of, entry_by}
use Rattle.pylex_listing.specs.Machine.{gives, is_hash, last_line_end, tail_of, stop_of, run, remaining}
use Rattle.pylex.specs.LineState.{IsAscending, is_above, is_level}
use Rattle.pylex.specs.Standing.{standing, resumed}
use Rattle.pylex.specs.Listers.{Listed, StandsIn}
use Rattle.pylex.proofs.Listing.Ends.{is_whole, stop_is_fault}
use Rattle.pylex_listing.proofs.Callers.{Full, cut_full}
use Rattle.pylex.proofs.Resumption.Resume.{margin_goes, cursor_skips, cursor_moves}
use Rattle.pylex.proofs.Levels.Layouts.{layout_indent, layout_dedents, layout_mismatch}
use Rattle.pylex.proofs.Listers.Finding.{settled_layout, no_layout}
use Rattle.pylex.proofs.Resumption.Ahead.{significant_margin}
use Rattle.pylex.proofs.Listing.Blocks.{AreApart, count_step, three_ways, some_at, pushed_length, pushed_apart}
use Rattle.pylex.proofs.Levels.OpenLevels.{Grounded}
use Rattle.pylex.proofs.Resumption.CursorBounds.{small_parts}
use Rattle.pylex.proofs.Resumption.Cursoring.{given_next, not_encoding, ahead_is, given_of, first_skip, no_skip}
use Rattle.pylex.proofs.Resumption.Resuming.{resumes}
use Rattle.pylex.proofs.Callers.{is_following}

-- at most n entries without text stand before the first with text, or before the end
abbrev Leads : ℕ → List Step → Type 0
Leads n [] = Unit {0}
Leads n (steps.Entry e ∷ ss) = has_no_text e ≡ true → (0 < n) × Leads (n - 1) ss
Leads n (steps.End ∷ ss) = Unit {0}
Leads n (steps.Fault f ∷ ss) = Unit {0}

leads_more : (m n : ℕ) (ss : List Step) → m ≤ n → Leads m ss → Leads n ss
leads_more m n [] h l = tt
leads_more m n (steps.Entry e ∷ ss) h l = λ t. let p = l t in let q : 0 < m = p.0 in
    (omega arith, leads_more (m - 1) (n - 1) ss (omega arith) p.1)
leads_more m n (steps.End ∷ ss) h l = tt
leads_more m n (steps.Fault f ∷ ss) h l = tt

leads_up_to_end : (n : ℕ) (ss : List Step) → Leads n ss → Leads n (up_to_end ss)
leads_up_to_end n [] l = tt
leads_up_to_end n (steps.Entry e ∷ ss) l = λ t. let p = l t in (p.0, leads_up_to_end (n - 1) ss p.1)
leads_up_to_end n (steps.End ∷ ss) l = tt
leads_up_to_end n (steps.Fault f ∷ ss) l = tt

marks_lead : (m n o : ℕ) (p : Place) (ss : List Step) → m ≤ n → Leads (n - m) ss → Leads n (replicate m (mark_at kinds.Dedent o p p) ++ ss)
marks_lead zero n o p ss h l = let e : n - 0 ≡ n = omega arith in rw e at l
marks_lead (suc m) n o p ss h l =
    λ t. (omega arith, marks_lead m (n - 1) o p ss (omega arith) (let e : n - suc m ≡ (n - 1) - m = omega arith in rw e at l))

cond_leads : (b : Bool) (n : ℕ) (a c ss : List Step) → (b ≡ true → Leads n (a ++ ss)) → (b ≡ false → Leads n (c ++ ss))
    → Leads n (cond b a c ++ ss)
cond_leads true n a c ss h k = h refl
cond_leads false n a c ss h k = k refl

-- an entry with text
full_entry : (m b : ℕ) → 0 < b → (m == m + b) ≡ true → ⊥
full_entry m b p h = grind (arith, nat_tests)

-- A state whose line holds text where it is wider than 0, and whose levels are apart.
record IsSound (s : State) : Type 0 where
  apart : AreApart s.levels
  order : s.line.offset ≤ s.now.offset
  wide : s.margin ≡ true → 0 < s.width → s.line.offset < s.now.offset

-- a lexeme that gives an entry with text, a fault, or nothing
entry_leads : (s : State) (x : Lexeme) (n : ℕ) (ss : List Step) → 0 < bytes_in x.text → (is_of_line_end x ≡ false → Leads n ss)
    → Leads n (entry_by s x ++ ss)
unfolding entry_by
entry_leads s x n ss f h = by_class x.«class» x.text f h
  where
    by_class : (k : Class) (t : List ℕ) → 0 < bytes_in t → (is_of_line_end (record { «class» = k; text = t }) ≡ false → Leads n ss)
        → Leads n (entry_by s (record { «class» = k; text = t }) ++ ss)
    by_class Name t f h = λ q. absurd (full_entry s.now.offset (bytes_in t) f q)
    by_class Number t f h = λ q. absurd (full_entry s.now.offset (bytes_in t) f q)
    by_class String t f h = λ q. absurd (full_entry s.now.offset (bytes_in t) f q)
    by_class (Operator o) t f h = cond_leads (is_closer o && (s.depth == 0)) n _ _ ss (λ _. tt)
        (λ _ q. absurd (full_entry s.now.offset (bytes_in t) f q))
    by_class Comment t f h = λ q. absurd (full_entry s.now.offset (bytes_in t) f q)
    by_class Blanks t f h = h refl
    by_class LineEnd t f h = λ q. absurd (full_entry s.now.offset (bytes_in t) f q)
    by_class Join t f h = h refl

-- The end.
ground_count : (levels : List ℕ) → AreApart levels → count_by (nat_lt 0) levels + 1 ≡ length levels
ground_count levels a =
    let t = three_ways 0 levels in
    let z = none_below levels in
    let g = a.ground in
    omega arith
  where
    none : (v : ℕ) → ◌≡◌ {A = ℕ} (cond (nat_lt v 0) 1 0) 0
    none v = grind (arith, nat_tests)

    none_below : (levels : List ℕ) → count_by (λ v. nat_lt v 0) levels ≡ 0
    none_below [] = refl
    none_below (v ∷ levels) = let a = count_step (λ u. nat_lt u 0) v levels in let h = none_below levels in let f = none v in omega arith

tail_leads : (s : State) → AreApart s.levels → Leads (length s.levels + 1) (tail_of s)
unfolding tail_of last_line_end
tail_leads s a =
    let n = length s.levels in
    let marker = mark_at kinds.EndMarker s.now.offset (last_place s) (last_place s) ∷ steps.End ∷ [] in
    let g = ground_count s.levels a in
    let closes : Leads n (dedents_at 0 s.levels s.now.offset (last_place s) ++ marker) =
    marks_lead (count_by (nat_lt 0) s.levels) n s.now.offset (last_place s) marker (omega arith) (λ _. (omega arith, tt)) in
    let more : Leads (n + 1) (dedents_at 0 s.levels s.now.offset (last_place s) ++ marker) =
    leads_more n (n + 1) (dedents_at 0 s.levels s.now.offset (last_place s) ++ marker) (omega arith) closes in
    let o : (n + 1) - 1 ≡ n = omega arith in
    let one : (0 < n + 1) × Leads ((n + 1) - 1) (dedents_at 0 s.levels s.now.offset (last_place s) ++ marker) =
    (omega arith, rw o closes) in
    pick (not (s.depth == 0) || s.joined) (n + 1) _ _ tt
    (subst (λ (us : List Step). Leads (n + 1) us)
    (sym (append_assoc (last_line_end s) (dedents_at 0 s.levels s.now.offset (last_place s)) marker))
    (cond_leads s.logical (n + 1) _ _ (dedents_at 0 s.levels s.now.offset (last_place s) ++ marker)
    (λ _. cond_leads (is_hash s.lead) (n + 1) [] _ (dedents_at 0 s.levels s.now.offset (last_place s) ++ marker) (λ _. more) (λ _ t. one))
    (λ _. cond_leads s.margin (n + 1) [] _ (dedents_at 0 s.levels s.now.offset (last_place s) ++ marker) (λ _. more) (λ _ t. one))))
  where
    pick : (b : Bool) (n : ℕ) (a c : List Step) → Leads n a → Leads n c → Leads n (cond b a c)
    pick true n a c h k = h
    pick false n a c h k = k

-- The stop, and what is before it.
fault_leads : (fault : Option ListingFault) (p : Place) (left : List ℕ) (n : ℕ) → Leads n (stop_fault fault p left ∷ [])
fault_leads fault p left n = let f = stop_is_fault fault p left in subst (λ (t : Step). Leads n (t ∷ [])) (sym f.1) tt

stop_leads : (fault : Option ListingFault) (left : List ℕ) (s : State) → AreApart s.levels
    → Leads (length s.levels + 1) (layout_of s ++ stop_fault fault s.now.place left ∷ [])
    → Leads (length s.levels + 1) (stop_of fault s left)
unfolding stop_of
stop_leads fault left s a h = pick (not (length left == 0)) (length s.levels + 1) _ _ h (by_fault fault)
  where
    pick : (b : Bool) (n : ℕ) (a c : List Step) → Leads n a → Leads n c → Leads n (cond b a c)
    pick true n a c h k = h
    pick false n a c h k = k

    by_fault : (f : Option ListingFault) → Leads (length s.levels + 1) (elim f [ Some g ↦ steps.Fault g ∷ [] | None ↦ tail_of s ])
    by_fault (Some f) = tt
    by_fault None = tail_leads s a

-- Where a line has begun, no layout is due.
levels_stay : (s : State) (x : Lexeme) → s.margin ≡ false → (after s x).levels ≡ s.levels
unfolding after
levels_stay s x m = rw m refl

not_ends : (s : State) (x : Lexeme) → is_of_line_end x ≡ false → ends_line s x ≡ false
not_ends s x e = ap (λ b. b && (s.depth == 0)) e

begun_gives : (s : State) (x : Lexeme) → s.margin ≡ false → gives s x ≡ entry_by s x
begun_gives s x m = no_layout s x (ap (λ b. b && is_significant x) m)

begun_leads : (fault : Option ListingFault) (left : List ℕ) (xs : List Lexeme) (s : State) → Full xs → AreApart s.levels → s.margin ≡ false
    → Leads (length s.levels + 1) (run fault left s xs)
begun_leads fault left [] s f a m =
    stop_leads fault left s a (subst (λ (ss : List Step). Leads (length s.levels + 1) (ss ++ stop_fault fault s.now.place left ∷ []))
    (sym (settled_layout s m)) (fault_leads fault s.now.place left (length s.levels + 1)))
begun_leads fault left (x ∷ xs) s f a m =
    let l = levels_stay s x m in
    subst (λ (ss : List Step). Leads (length s.levels + 1) (ss ++ run fault left (after s x) xs)) (sym (begun_gives s x m))
    (entry_leads s x (length s.levels + 1) (run fault left (after s x) xs) f.0
    (λ e. subst (λ (n : ℕ). Leads (n + 1) (run fault left (after s x) xs)) (ap length l)
    (begun_leads fault left xs (after s x) f.1 (subst AreApart (sym l) a) (margin_goes s x m (not_ends s x e)))))

-- Where one may be due, a DEDENT closes a level, and an INDENT has text.
above_zero : (w : ℕ) (levels : List ℕ) → 1 ≤ count_by (λ u. u == 0) levels → is_above w levels ≡ true → 0 < w
above_zero w [] c a = absurd (omega arith)
above_zero w (v ∷ levels) c a =
    let p = and_parts (nat_lt v w) (is_above w levels) a in
    let less : v < w = let q = p.0 in grind (arith, nat_tests) in
    omega arith

layout_leads : (s : State) (ss : List Step) → IsSound s → s.margin ≡ true
    → (is_level s.width s.levels ≡ true → Leads (length (pushed s.width s.levels) + 1) ss) → Leads (length s.levels + 1) (layout_of s ++ ss)
layout_leads s ss i m h = ⊎_elim
    (λ (b : is_above s.width s.levels ≡ true).
    let g = i.apart.ground in
    let w = above_zero s.width s.levels (omega arith) b in
    let less = i.wide m w in
    subst (λ (us : List Step). Leads (length s.levels + 1) (us ++ ss)) (sym (layout_indent s m b))
    (λ q. absurd (apart s.line.offset s.now.offset less q)))
    (λ (b : is_above s.width s.levels ≡ false). ⊎_elim
    (λ (v : is_level s.width s.levels ≡ true).
    let l = pushed_length s.width s.levels in
    let t = three_ways s.width s.levels in
    let o = some_at s.width s.levels v in
    let c = i.apart.once s.width in
    let d = count_by (nat_lt s.width) s.levels in
    let n : length (pushed s.width s.levels) + 1 ≡ (length s.levels + 1) - d = omega arith in
    subst (λ (us : List Step). Leads (length s.levels + 1) (us ++ ss)) (sym (layout_dedents s m b v))
    (marks_lead d (length s.levels + 1) s.now.offset s.now.place ss (omega arith) (subst (λ (k : ℕ). Leads k ss) n (h v))))
    (λ (v : is_level s.width s.levels ≡ false). subst (λ (us : List Step). Leads (length s.levels + 1) (us ++ ss))
    (sym (layout_mismatch s m b v)) tt)
    (cases_Bool (is_level s.width s.levels)))
    (cases_Bool (is_above s.width s.levels))
  where
    apart : (x y : ℕ) → x < y → (x == y) ≡ true → ⊥
    apart x y l e = grind (arith, nat_tests)

plain_levels : (s : State) (x : Lexeme) → is_significant x ≡ false → (after s x).levels ≡ s.levels
unfolding after
plain_levels s x e = let f = and-false s.margin in rw (e, f) refl

significant_levels : (s : State) (x : Lexeme) → s.margin ≡ true → is_significant x ≡ true → (after s x).levels ≡ pushed s.width s.levels
unfolding after
significant_levels s x m e = rw (m, e) refl

sound_order : (s : State) (x : Lexeme) → s.line.offset ≤ s.now.offset → (after s x).line.offset ≤ (after s x).now.offset
unfolding after
sound_order s x h = either (ends_line s x)
  where
    either : (b : Bool) → (cond b (past s.now x.text) s.line).offset ≤ s.now.offset + bytes_in x.text
    either true = omega arith
    either false = omega arith

sound_wide : (s : State) (x : Lexeme) → s.line.offset ≤ s.now.offset → 0 < bytes_in x.text → 0 < (after s x).width
    → (after s x).line.offset < (after s x).now.offset
unfolding after
sound_wide s x h f w = either (ends_line s x) w
  where
    either : (b : Bool) → 0 < cond b 0 (still (is_of_blanks x && s.margin) (width_from s.width x.text))
        → (cond b (past s.now x.text) s.line).offset < s.now.offset + bytes_in x.text
    either true w = absurd (omega arith)
    either false w = omega arith

sound_after : (s : State) (x : Lexeme) → IsSound s → 0 < bytes_in x.text → is_significant x ≡ false → IsSound (after s x)
sound_after s x i f e = record {
  apart = subst AreApart (sym (plain_levels s x e)) i.apart;
  order = sound_order s x i.order;
  wide = λ _ w. sound_wide s x i.order f w;
}

significant_gives : (s : State) (x : Lexeme) → is_significant x ≡ true → gives s x ≡ layout_of s ++ entry_by s x
unfolding gives
significant_gives s x e = rw e refl

plain_gives : (s : State) (x : Lexeme) → is_significant x ≡ false → gives s x ≡ entry_by s x
unfolding gives
plain_gives s x e = rw e refl

sound_leads : (fault : Option ListingFault) (left : List ℕ) (xs : List Lexeme) (s : State) → Full xs → IsSound s
    → Leads (length s.levels + 1) (run fault left s xs)
sound_leads fault left [] s f i = ⊎_elim
    (λ (m : s.margin ≡ true). stop_leads fault left s i.apart
    (layout_leads s _ i m (λ _. fault_leads fault s.now.place left (length (pushed s.width s.levels) + 1))))
    (λ (m : s.margin ≡ false). begun_leads fault left [] s f i.apart m)
    (cases_Bool s.margin)
sound_leads fault left (x ∷ xs) s f i =
    let r = run fault left (after s x) xs in
    ⊎_elim
    (λ (m : s.margin ≡ true). ⊎_elim
    (λ (e : is_significant x ≡ true).
    let l = significant_levels s x m e in
    let rest : Leads (length (pushed s.width s.levels) + 1) r = subst (λ (ls : List ℕ). Leads (length ls + 1) r) l
    (begun_leads fault left xs (after s x) f.1 (subst AreApart (sym l) (pushed_apart s.width s.levels i.apart))
    (significant_margin s x e)) in
    subst (λ (ss : List Step). Leads (length s.levels + 1) ss) (sym (ap (λ ss. ss ++ r) (significant_gives s x e)
    ∙ append_assoc (layout_of s) (entry_by s x) r))
    (layout_leads s (entry_by s x ++ r) i m (λ _. entry_leads s x (length (pushed s.width s.levels) + 1) r f.0 (λ _. rest))))
    (λ (e : is_significant x ≡ false).
    let l = plain_levels s x e in
    let rest : Leads (length s.levels + 1) r = subst (λ (ls : List ℕ). Leads (length ls + 1) r) l
    (sound_leads fault left xs (after s x) f.1 (sound_after s x i f.0 e)) in
    subst (λ (ss : List Step). Leads (length s.levels + 1) (ss ++ r)) (sym (plain_gives s x e))
    (entry_leads s x (length s.levels + 1) r f.0 (λ _. rest)))
    (cases_Bool (is_significant x)))
    (λ (m : s.margin ≡ false). begun_leads fault left (x ∷ xs) s f i.apart m)
    (cases_Bool s.margin)

-- Levels that begin with 0 and ascend are apart.
none_of : (n v : ℕ) (ls : List ℕ) → IsAscending n ls → v ≤ n → count_by (λ u. u == v) ls ≡ 0
none_of n v [] h o = refl
none_of n v (m ∷ ls) h o =
    let c = count_step (λ u. u == v) m ls in
    let l : n < m = h.0 in
    let r = none_of m v ls h.1 (omega arith) in
    let z : ◌≡◌ {A = ℕ} (cond (m == v) 1 0) 0 = other m v (omega arith) in
    omega arith
  where
    other : (m v : ℕ) → v < m → ◌≡◌ {A = ℕ} (cond (m == v) 1 0) 0
    other m v l = grind (arith, nat_tests)

one_of : (n v : ℕ) (ls : List ℕ) → IsAscending n ls → count_by (λ u. u == v) (n ∷ ls) ≤ 1
one_of n v ls h =
    let c = count_step (λ u. u == v) n ls in
    ⊎_elim
    (λ (e : (n == v) ≡ true).
    let s : n ≡ v = grind (arith, nat_tests) in
    let z = none_of n v ls h (omega arith) in
    let o : ◌≡◌ {A = ℕ} (cond (n == v) 1 0) 1 = ap (λ b. cond {A = ℕ} b 1 0) e in
    omega arith)
    (λ (e : (n == v) ≡ false).
    let z : ◌≡◌ {A = ℕ} (cond (n == v) 1 0) 0 = ap (λ b. cond {A = ℕ} b 1 0) e in
    let r = later n ls h in
    omega arith)
    (cases_Bool (n == v))
  where
    later : (n : ℕ) (ls : List ℕ) → IsAscending n ls → count_by (λ u. u == v) ls ≤ 1
    later n [] h = omega arith
    later n (m ∷ ls) h = let c = count_step (λ u. u == v) m ls in ⊎_elim
        (λ (e : (m == v) ≡ true). let s : m ≡ v = grind (arith, nat_tests) in let z = none_of m v ls h.1 (omega arith) in
        let o : ◌≡◌ {A = ℕ} (cond (m == v) 1 0) 1 = ap (λ b. cond {A = ℕ} b 1 0) e in omega arith)
        (λ (e : (m == v) ≡ false). let z : ◌≡◌ {A = ℕ} (cond (m == v) 1 0) 0 = ap (λ b. cond {A = ℕ} b 1 0) e in let r =
        later m ls h.1 in omega arith)
        (cases_Bool (m == v))

apart_of : (levels : List ℕ) → Grounded levels → AreApart levels
apart_of levels g = subst AreApart (sym g.is) (record {
  once = λ v. one_of 0 v g.above g.ascending;
  ground = let c = count_step (λ u. u == 0) 0 g.above in let z = none_of 0 0 g.above g.ascending (omega arith) in omega arith;
})

-- What is ahead of a cursor's point.
resumed_sound : (c : CursorParts) (line : List ℕ) → Grounded c.levels → IsSound (resumed c line)
unfolding resumed
resumed_sound c line g = record { apart = apart_of c.levels g; order = omega arith; wide = λ _ w. absurd (omega arith) }

levels_resumed : (c : CursorParts) (line : List ℕ) → (resumed c line).levels ≡ c.levels
unfolding resumed
levels_resumed c line = refl

remaining_leads : (fault : Option ListingFault) (s : State) (text : List ℕ) → IsSound s
    → Leads (length s.levels + 1) (remaining fault s text)
unfolding remaining
remaining_leads fault s text i =
    leads_up_to_end (length s.levels + 1) _ (sound_leads fault (left_by_cut text) (cut text) s (cut_full text) i)

-- What a cursor skips, and the entries without text that come next.
record SkipsFew (a : Source) (k : ℕ) : Type 0 where
  few : (cursor a k).skip ≤ length (cursor a k).levels + 1
  leads : Leads ((length (cursor a k).levels + 1) - (cursor a k).skip) (rest a k)

at_point : (a : Source) (k : ℕ) → 0 < k → k ≤ length (entries_of (listing a)) → (cursor a k).skip ≡ 0 → SkipsFew a k
at_point a k n w z =
    let c = cursor a k in
    let g = given_of a k in
    let v = standing a k in
    let r : rest a k ≡ remaining a.fault (resumed c v.line) v.left = sym (resumes v a k (record { within = w; is = refl }))
    ∙ ahead_is a c (omega arith) ∙ ap (λ m. drop m (remaining a.fault (resumed c v.line) v.left)) z in
    let l : Leads (length c.levels + 1) (remaining a.fault (resumed c v.line) v.left) =
    subst (λ (ls : List ℕ). Leads (length ls + 1) (remaining a.fault (resumed c v.line) v.left)) (levels_resumed c v.line)
    (remaining_leads a.fault (resumed c v.line) v.left (resumed_sound c v.line (small_parts a k).grounded)) in
    let o : length c.levels + 1 ≡ (length c.levels + 1) - c.skip = omega arith in
    record { few = omega arith; leads = subst (λ (m : ℕ). Leads m (rest a k)) o (subst (Leads (length c.levels + 1)) (sym r) l) }

-- the next entry, where one is to come
record Comes (a : Source) (k : ℕ) : Type 0 where
  entry : Entry
  is : rest a k ≡ steps.Entry entry ∷ rest a (k + 1)

comes_in : (es : List Entry) (last : Step) (k : ℕ) → k < length es
    → (e : Entry) × (drop k (map steps.Entry es ++ last ∷ []) ≡ steps.Entry e ∷ drop (k + 1) (map steps.Entry es ++ last ∷ []))
comes_in [] last k h = absurd (omega arith)
comes_in (d ∷ es) last zero h = (d, refl)
comes_in (d ∷ es) last (suc k) h = let c = comes_in es last k (omega arith) in let o : suc k + 1 ≡ suc (k + 1) =
    omega arith in (c.0, rw o c.1)

comes : (a : Source) (k : ℕ) → k < length (entries_of (listing a)) → Comes a k
comes a k h =
    let w = is_whole a in
    let c = comes_in (entries_of (listing a)) w.last k h in
    record { entry = c.0; is = ap (drop k) w.whole ∙ c.1 ∙ ap (λ ss. steps.Entry c.0 ∷ drop (k + 1) ss) (sym w.whole) }

pub skip_at : (k n : ℕ) (b : Bool) (h : List Lexeme) → (cursor_at k n b h).skip ≡ n
unfolding cursor_at
skip_at k n b h = refl

one_more : (a : Source) (k : ℕ) → 0 < k → k + 1 ≤ length (entries_of (listing a)) → SkipsFew a k → SkipsFew a (k + 1)
one_more a k n w s =
    let c = comes a k (omega arith) in
    let e = c.entry in
    let f : first_step (rest a k) ≡ steps.Entry e = ap first_step c.is in
    let g = given_next a k e f in
    ⊎_elim
    (λ (t : has_no_text e ≡ true).
    let m = cursor_skips a k e g.given t (not_encoding a k e n f) in
    let l : Leads ((length (cursor a k).levels + 1) - (cursor a k).skip) (steps.Entry e ∷ rest a (k + 1)) =
    subst (Leads ((length (cursor a k).levels + 1) - (cursor a k).skip)) c.is s.leads in
    let p = l t in
    let more : 0 < (length (cursor a k).levels + 1) - (cursor a k).skip = p.0 in
    let skips : (cursor a (k + 1)).skip ≡ (cursor a k).skip + 1 = ap (λ (q : CursorParts). q.skip) m in
    let levels : (cursor a (k + 1)).levels ≡ (cursor a k).levels = ap (λ (q : CursorParts). q.levels) m in
    let size : length (cursor a (k + 1)).levels ≡ length (cursor a k).levels = ap length levels in
    let few = s.few in
    let o : ((length (cursor a k).levels + 1) - (cursor a k).skip) - 1 ≡ (length (cursor a (k + 1)).levels + 1) - (cursor a (k + 1)).skip =
    omega arith in
    record { few = omega arith; leads = subst (λ (j : ℕ). Leads j (rest a (k + 1))) o p.1 })
    (λ (t : has_no_text e ≡ false).
    let m = cursor_moves a k e g.given t in
    at_point a (k + 1) (omega arith) w (ap (λ (q : CursorParts). q.skip) m ∙ skip_at (k + 1) 0 _ _))
    (cases_Bool (has_no_text e))

skips_few : (a : Source) (j : ℕ) → j + 1 ≤ length (entries_of (listing a)) → SkipsFew a (j + 1)
skips_few a zero w = let o : 0 + 1 ≡ 1 = omega arith in subst (SkipsFew a) (sym o) (at_point a 1 (omega arith) (omega arith) (first_skip a))
skips_few a (suc j) w = let o : (j + 1) + 1 ≡ suc j + 1 = omega arith in
    subst (SkipsFew a) o (one_more a (j + 1) (omega arith) (omega arith) (skips_few a j (omega arith)))

-- A cursor skips one entry more than it has levels, at most.
skip_of : (a : Source) (k : ℕ) → k ≤ length (entries_of (listing a)) → (cursor a k).skip ≤ length (cursor a k).levels + 1
skip_of a zero w = let z = no_skip a in omega arith
skip_of a (suc j) w = let o : j + 1 ≡ suc j = omega arith in let s = subst (SkipsFew a) o (skips_few a j (omega arith)) in s.few

pub skip_within : (l : Listed) (a : Source) (k : ℕ) → StandsIn l a k → l.shown.skip ≤ length l.shown.levels + 1
skip_within l a k h = subst (λ (c : CursorParts). c.skip ≤ length c.levels + 1) (sym (is_following h.cursor).is)
    (skip_of a l.shown.given (is_following h.cursor).within)
