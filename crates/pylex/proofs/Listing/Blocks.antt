-- Each INDENT of a listing that comes to its end has its DEDENT.
--
-- Carries: Lister::new. On: Run, Ends.
use Rattle.std.proofs.Common.{◌≡◌, ℕ, ◌+◌, ◌-◌, ◌≤◌, ◌<◌, zero, suc, Bool, true, false, not, ◌&&◌, ◌||◌, ◌==◌, cond, List, [], ◌∷◌, ◌++◌}
use Rattle.std.proofs.Common.{length, take, replicate, refl, ap, ◌∙◌, sym, subst, arith, Option, Some, None, append_assoc, length-append}
use Rattle.std.proofs.Common.{⊎_elim}
use Rattle.std.specs.List.{list_all, list_any, count_by, filter}
use Rattle.std.specs.Prelude.{nat_lt}
use Rattle.std.proofs.lemmas.Grind.{common_steps}
use Rattle.std.proofs.lemmas.Bool.Decides.{nat_tests}
use Rattle.std.proofs.lemmas.List.Sums.{length-filter}
use Rattle.std.proofs.lemmas.Bool.{cases_Bool}
use Rattle.pysource.specs.declared.places.Place.{Place}
use Rattle.pylex_lexeme.specs.declared.lexeme.Class.{Class}
use Rattle.pylex_lexeme.specs.declared.lexeme.Class.TheVariants.{Name, Number, String, Operator, Comment, Blanks, LineEnd, Join}
use Rattle.pylex_listing.specs.declared.kind.Kind.{Kind}
use Rattle.pylex_listing.specs.declared.kind.Kind.TheVariants as kinds
use Rattle.pylex_listing.specs.declared.entries.Entry.{Entry}
use Rattle.pylex_listing.specs.declared.entries.ListingFault.{ListingFault}
use Rattle.pylex_listing.specs.declared.entries.Step.{Step}
use Rattle.pylex_listing.specs.declared.entries.Step.TheVariants as steps
use Rattle.pylex_lexeme.specs.Operators.{is_closer}
use Rattle.pylex_lexeme.specs.Lexemes.{Lexeme, cut, left_by_cut}
use Rattle.pylex_listing.specs.Lines.{is_significant}
use Rattle.pylex_listing.specs.Listing.{Source, origin, up_to_end, stop_fault}
use Rattle.pylex_listing.specs.Steps.{entries_of, fault_of, mark}
use Rattle.pylex_listing.specs.Laws.{is_indent, is_dedent, ClosesBlocks}
use Rattle.pylex_listing.specs.Machine.{State, following, pushed, after, dedents_at, mark_at, line_end_kind_of, layout_of, entry_by, gives}
use Rattle.pylex_listing.specs.Machine.{is_hash, last_line_end, last_place, tail_of, stop_of, run, remaining, first_state}
use Rattle.pylex_listing.proofs.Callers.{listing_is}
use Rattle.pylex.proofs.Listing.Ends.{stop_is_fault}

-- Counts over a list of levels.
pub count_step : {X : Type 0} (p : X → Bool) (x : X) (xs : List X) → count_by p (x ∷ xs) ≡ cond (p x) 1 0 + count_by p xs
count_step p x xs = grind (arith, common_steps)

count_append : {X : Type 0} (p : X → Bool) (xs ys : List X) → count_by p (xs ++ ys) ≡ count_by p xs + count_by p ys
count_append p [] ys = omega arith
count_append p (x ∷ xs) ys = let a = count_step p x (xs ++ ys) in let b = count_step p x xs in let h = count_append p xs ys in omega arith

-- each level is below, at or above a width
pub three_ways : (w : ℕ) (levels : List ℕ) → count_by (λ v. nat_lt v w) levels + count_by (λ v. v == w) levels + count_by
    (nat_lt w) levels ≡ length levels
three_ways w [] = omega arith
three_ways w (v ∷ levels) =
    let a = count_step (λ v. nat_lt v w) v levels in
    let b = count_step (λ v. v == w) v levels in
    let c = count_step (nat_lt w) v levels in
    let h = three_ways w levels in
    let o : cond (nat_lt v w) 1 0 + cond (v == w) 1 0 + cond (nat_lt w v) 1 0 ≡ 1 = one_way v w in
    omega arith
  where
    one_way : (v w : ℕ) → cond (nat_lt v w) 1 0 + cond (v == w) 1 0 + cond (nat_lt w v) 1 0 ≡ 1
    one_way v w = grind (arith, nat_tests)

pub all_below : (w : ℕ) (levels : List ℕ) → list_all (λ v. nat_lt v w) levels ≡ true → count_by (λ v. nat_lt v w) levels ≡ length levels
all_below w [] e = refl
all_below w (v ∷ levels) e =
    let a = count_step (λ v. nat_lt v w) v levels in
    let p = both (nat_lt v w) (list_all (λ v. nat_lt v w) levels) e in
    let h = all_below w levels p.1 in
    let c : ◌≡◌ {A = ℕ} (cond (nat_lt v w) 1 0) 1 = ap (λ b. cond {A = ℕ} b 1 0) p.0 in
    omega arith
  where
    both : (s t : Bool) → (s && t) ≡ true → (s ≡ true) × (t ≡ true)
    both true t e = (refl, e)
    both false t e = cc

pub some_at : (w : ℕ) (levels : List ℕ) → list_any (λ v. v == w) levels ≡ true → 1 ≤ count_by (λ v. v == w) levels
some_at w [] e = absurd cc
some_at w (v ∷ levels) e =
    let a = count_step (λ v. v == w) v levels in
    let h = either (v == w) (list_any (λ v. v == w) levels) (count_by (λ v. v == w) levels) e (some_at w levels) in
    omega arith
  where
    either : (s t : Bool) (n : ℕ) → (s || t) ≡ true → (t ≡ true → 1 ≤ n) → 1 ≤ cond s 1 0 + n
    either true t n e h = omega arith
    either false t n e h = let k = h e in omega arith

-- the levels are apart, and 0 is one
pub record AreApart (levels : List ℕ) : Type 0 where
  pub once : (v : ℕ) → count_by (λ u. u == v) levels ≤ 1
  pub ground : count_by (λ u. u == 0) levels ≡ 1

kept_count : (u v w n : ℕ) → nat_lt u w ≡ true → cond (u == v) 1 0 + cond (nat_lt v w) n 0 ≡ cond (nat_lt v w) (cond (u == v) 1 0 + n) 0
kept_count u v w n e = grind (arith, nat_tests)

left_count : (u v w n : ℕ) → nat_lt u w ≡ false → cond (nat_lt v w) n 0 ≡ cond (nat_lt v w) (cond (u == v) 1 0 + n) 0
left_count u v w n e = grind (arith, nat_tests)

below_count : (v w : ℕ) (levels : List ℕ) → count_by (λ u. u == v) (filter (λ u. nat_lt u w) levels) ≡ cond (nat_lt v w)
    (count_by (λ u. u == v) levels) 0
below_count v w [] = nothing (nat_lt v w)
  where
    nothing : (b : Bool) → ◌≡◌ {A = ℕ} 0 (cond b 0 0)
    nothing true = refl
    nothing false = refl
below_count v w (u ∷ levels) =
    let h = below_count v w levels in
    let a = count_step (λ u. u == v) u levels in
    ⊎_elim
    (λ (e : nat_lt u w ≡ true).
    rw e (count_step (λ u. u == v) u (filter (λ u. nat_lt u w) levels) ∙ ap (λ n. cond (u == v) 1 0 + n) h
    ∙ kept_count u v w (count_by (λ u. u == v) levels) e ∙ ap (λ n. cond (nat_lt v w) n 0) (sym a)))
    (λ (e : nat_lt u w ≡ false). rw e (h ∙ left_count u v w (count_by (λ u. u == v) levels) e ∙ ap (λ n. cond (nat_lt v w) n 0) (sym a)))
    (cases_Bool (nat_lt u w))

pushed_count : (v w : ℕ) (levels : List ℕ) → count_by (λ u. u == v) (pushed w levels) ≡ cond (nat_lt v w)
    (count_by (λ u. u == v) levels) 0 + cond (w == v) 1 0
pushed_count v w levels =
    let a = count_append (λ u. u == v) (filter (λ u. nat_lt u w) levels) (w ∷ []) in
    let b = below_count v w levels in
    let c = count_step (λ u. u == v) w [] in
    omega arith

pub pushed_length : (w : ℕ) (levels : List ℕ) → length (pushed w levels) ≡ count_by (λ v. nat_lt v w) levels + 1
pushed_length w levels = let f = length-filter (λ v. nat_lt v w) levels in let a =
    length-append (filter (λ v. nat_lt v w) levels) (w ∷ []) in omega arith

pub pushed_apart : (w : ℕ) (levels : List ℕ) → AreApart levels → AreApart (pushed w levels)
pushed_apart w levels a = record {
  once = λ v. let p = pushed_count v w levels in let o = a.once v in let f = at_most v (count_by (λ u. u == v) levels) o in omega arith;
  ground = let p = pushed_count 0 w levels in let f = at_ground (count_by (λ u. u == 0) levels) a.ground in omega arith;
}
  where
    at_most : (v n : ℕ) → n ≤ 1 → cond (nat_lt v w) n 0 + cond (w == v) 1 0 ≤ 1
    at_most v n h = grind (arith, nat_tests)

    at_ground : (n : ℕ) → n ≡ 1 → cond (nat_lt 0 w) n 0 + cond (w == 0) 1 0 ≡ 1
    at_ground n h = grind (arith, nat_tests)

-- what holds of so many open blocks, after an entry of a kind
abbrev Following : (ℕ → Type 0) → ℕ → Kind → Type 0
Following P n kinds.Indent = P (n + 1)
Following P n kinds.Dedent = (0 < n) × P (n - 1)
Following P n _ = P n

-- steps that open and close blocks, where so many are open
abbrev Nested : ℕ → List Step → Type 0
Nested n [] = ⊥
Nested n (steps.Entry e ∷ ss) = Following (λ m. Nested m ss) n e.kind
Nested n (steps.End ∷ ss) = n ≡ 0
Nested n (steps.Fault f ∷ ss) = Unit {0}

cond_nested : (b : Bool) (n : ℕ) (a c ss : List Step) → (b ≡ true → Nested n (a ++ ss)) → (b ≡ false → Nested n (c ++ ss))
    → Nested n (cond b a c ++ ss)
cond_nested true n a c ss h k = h refl
cond_nested false n a c ss h k = k refl

marks_nested : (m n o : ℕ) (p : Place) (ss : List Step) → m ≤ n → Nested (n - m) ss
    → Nested n (replicate m (mark_at kinds.Dedent o p p) ++ ss)
marks_nested zero n o p ss l h = let e : n - 0 ≡ n = omega arith in rw e at h
marks_nested (suc m) n o p ss l h =
    (omega arith, marks_nested m (n - 1) o p ss (omega arith) (let e : n - suc m ≡ (n - 1) - m = omega arith in rw e at h))

dedents_nested : (w : ℕ) (levels : List ℕ) (n o : ℕ) (p : Place) (ss : List Step) → count_by (nat_lt w) levels ≤ n
    → Nested (n - count_by (nat_lt w) levels) ss → Nested n (dedents_at w levels o p ++ ss)
dedents_nested w levels n o p ss l h = marks_nested (count_by (nat_lt w) levels) n o p ss l h

-- so many blocks are open as there are levels above 0
record Open (levels : List ℕ) (n : ℕ) : Type 0 where
  apart : AreApart levels
  many : n + 1 ≡ length levels

abbrev NestedFrom : List ℕ → List Step → Type 0
NestedFrom levels ss = (n : ℕ) → Open levels n → Nested n ss

layout_nested : (s : State) (ss : List Step) → NestedFrom (cond s.margin (pushed s.width s.levels) s.levels) ss
    → NestedFrom s.levels (layout_of s ++ ss)
unfolding layout_of
layout_nested s ss k n o = ⊎_elim
    (λ (m : s.margin ≡ true).
    let above : NestedFrom (pushed s.width s.levels) ss = rw m at k in
    let l = pushed_length s.width s.levels in
    let t = three_ways s.width s.levels in
    let g = pushed_apart s.width s.levels o.apart in
    let h = o.many in
    rw m (cond_nested (list_all (λ v. nat_lt v s.width) s.levels) n _ _ ss
    (λ e. let b = all_below s.width s.levels e in above (n + 1) (record { apart = g; many = omega arith }))
    (λ _. cond_nested (list_any (λ v. v == s.width) s.levels) n (dedents_at s.width s.levels s.now.offset s.now.place) _ ss
    (λ e.
    let b = some_at s.width s.levels e in
    let c = o.apart.once s.width in
    dedents_nested s.width s.levels n s.now.offset s.now.place ss (omega arith)
    (above (n - count_by (nat_lt s.width) s.levels) (record { apart = g; many = omega arith })))
    (λ _. tt))))
    (λ (m : s.margin ≡ false). let same : NestedFrom s.levels ss = rw m at k in rw m (same n o))
    (cases_Bool s.margin)

entry_nested : (s : State) (x : Lexeme) (n : ℕ) (ss : List Step) → Nested n ss → Nested n (entry_by s x ++ ss)
unfolding entry_by
entry_nested s x n ss h = by_class x.«class» x.text
  where
    by_end : (b : Bool) (e : Entry) → e.kind ≡ cond b kinds.Newline kinds.Nl → Nested n (steps.Entry e ∷ ss)
    by_end true e k = rw k h
    by_end false e k = rw k h

    by_class : (c : Class) (t : List ℕ) → Nested n (entry_by s (record { «class» = c; text = t }) ++ ss)
    by_class Name t = h
    by_class Number t = h
    by_class String t = h
    by_class (Operator o) t = cond_nested (is_closer o && (s.depth == 0)) n _ _ ss (λ _. tt) (λ _. h)
    by_class Comment t = h
    by_class Blanks t = h
    by_class LineEnd t = by_end (s.logical && (s.depth == 0)) (record {
      kind = line_end_kind_of s;
      exact = None;
      start = s.now.place;
      «end» = (following s.now t).place;
      «from» = s.now.offset;
      to = (following s.now t).offset;
    }) refl
    by_class Join t = h

lexeme_nested : (s : State) (x : Lexeme) (ss : List Step) → NestedFrom (after s x).levels ss → NestedFrom s.levels (gives s x ++ ss)
unfolding gives after
lexeme_nested s x ss k n o =
    subst (λ (us : List Step). Nested n us) (sym (append_assoc (cond (is_significant x) (layout_of s) []) (entry_by s x) ss))
    (cond_nested (is_significant x) n (layout_of s) [] (entry_by s x ++ ss)
    (λ e. layout_nested s (entry_by s x ++ ss) (λ m p. entry_nested s x m ss (k m (moved s.margin (is_significant x) m e p))) n o)
    (λ e. entry_nested s x n ss (k n (stayed s.margin (is_significant x) n e o))))
  where
    moved : (b t : Bool) (m : ℕ) → t ≡ true → Open (cond b (pushed s.width s.levels) s.levels) m
        → Open (cond (b && t) (pushed s.width s.levels) s.levels) m
    moved true t m e p = rw e p
    moved false t m e p = p

    stayed : (b t : Bool) (m : ℕ) → t ≡ false → Open s.levels m → Open (cond (b && t) (pushed s.width s.levels) s.levels) m
    stayed true t m e p = rw e p
    stayed false t m e p = p

tail_nested : (s : State) → NestedFrom s.levels (tail_of s)
unfolding tail_of last_line_end
tail_nested s n o =
    let marker = mark_at kinds.EndMarker s.now.offset (last_place s) (last_place s) ∷ steps.End ∷ [] in
    let t = three_ways 0 s.levels in
    let z : count_by (λ v. nat_lt v 0) s.levels ≡ 0 = none_below s.levels in
    let g = o.apart.ground in
    let w = o.many in
    let closes : Nested n (dedents_at 0 s.levels s.now.offset (last_place s) ++ marker) =
    dedents_nested 0 s.levels n s.now.offset (last_place s) marker (omega arith) (omega arith) in
    pick (not (s.depth == 0) || s.joined) _ _ tt
    (subst (λ (us : List Step). Nested n us)
    (sym (append_assoc (last_line_end s) (dedents_at 0 s.levels s.now.offset (last_place s)) marker))
    (cond_nested s.logical n _ _ (dedents_at 0 s.levels s.now.offset (last_place s) ++ marker)
    (λ _. cond_nested (is_hash s.lead) n [] _ (dedents_at 0 s.levels s.now.offset (last_place s) ++ marker) (λ _. closes) (λ _. closes))
    (λ _. cond_nested s.margin n [] _ (dedents_at 0 s.levels s.now.offset (last_place s) ++ marker) (λ _. closes) (λ _. closes))))
  where
    pick : (b : Bool) (a c : List Step) → Nested n a → Nested n c → Nested n (cond b a c)
    pick true a c h k = h
    pick false a c h k = k

    none : (v : ℕ) → ◌≡◌ {A = ℕ} (cond (nat_lt v 0) 1 0) 0
    none v = grind (arith, nat_tests)

    none_below : (levels : List ℕ) → count_by (λ v. nat_lt v 0) levels ≡ 0
    none_below [] = refl
    none_below (v ∷ levels) = let a = count_step (λ u. nat_lt u 0) v levels in let h = none_below levels in let f = none v in omega arith

stop_nested : (fault : Option ListingFault) (left : List ℕ) (s : State) → NestedFrom s.levels (stop_of fault s left)
unfolding stop_of
stop_nested fault left s n o =
    pick (not (length left == 0)) _ _
    (layout_nested s (stop_fault fault s.now.place left ∷ []) (λ m p. let f = stop_is_fault fault s.now.place left in
    subst (λ (t : Step). Nested m (t ∷ [])) (sym f.1) tt) n o)
    (by_fault fault)
  where
    pick : (b : Bool) (a c : List Step) → Nested n a → Nested n c → Nested n (cond b a c)
    pick true a c h k = h
    pick false a c h k = k

    by_fault : (f : Option ListingFault) → Nested n (elim f [ Some g ↦ steps.Fault g ∷ [] | None ↦ tail_of s ])
    by_fault (Some f) = tt
    by_fault None = tail_nested s n o

run_nested : (fault : Option ListingFault) (left : List ℕ) (xs : List Lexeme) (s : State) → NestedFrom s.levels (run fault left s xs)
run_nested fault left [] s = stop_nested fault left s
run_nested fault left (x ∷ xs) s = lexeme_nested s x (run fault left (after s x) xs) (run_nested fault left xs (after s x))

record Closing (n : ℕ) (ss : List Step) : Type 0 where
  within : (k : ℕ) → count_by is_dedent (take k (entries_of ss)) ≤ n + count_by is_indent (take k (entries_of ss))
  at_end : fault_of ss ≡ None → count_by is_dedent (entries_of ss) ≡ n + count_by is_indent (entries_of ss)

one_closing : (e : Entry) (ss : List Step) (n m : ℕ) → Closing m ss → cond (is_dedent e) 1 0 + m ≡ n + cond (is_indent e) 1 0
    → Closing n (steps.Entry e ∷ ss)
one_closing e ss n m c h = record {
  within = within;
  at_end = λ f. let a = count_step is_dedent e (entries_of ss) in let b =
      count_step is_indent e (entries_of ss) in let g = c.at_end f in omega arith;
}
  where
    within : (k : ℕ) → count_by is_dedent (take k (e ∷ entries_of ss)) ≤ n + count_by is_indent (take k (e ∷ entries_of ss))
    within zero = omega arith
    within (suc k) = let a = count_step is_dedent e (take k (entries_of ss)) in let b = count_step is_indent e (take k (entries_of ss)) in
        let g = c.within k in omega arith

by_kind : (e : Entry) (ss : List Step) (n : ℕ) (k : Kind) → e.kind ≡ k → ((m : ℕ) → Nested m ss → Closing m (up_to_end ss))
    → Following (λ m. Nested m ss) n k → Closing n (steps.Entry e ∷ up_to_end ss)
by_kind e ss n kinds.Indent k f h = one_closing e (up_to_end ss) n (n + 1) (f (n + 1) h) (rw k (omega arith))
by_kind e ss n kinds.Dedent k f h = let p : 0 < n = h.0 in one_closing e (up_to_end ss) n (n - 1) (f (n - 1) h.1) (rw k (omega arith))
by_kind e ss n kinds.Encoding k f h = one_closing e (up_to_end ss) n n (f n h) (rw k (omega arith))
by_kind e ss n kinds.Name k f h = one_closing e (up_to_end ss) n n (f n h) (rw k (omega arith))
by_kind e ss n kinds.Number k f h = one_closing e (up_to_end ss) n n (f n h) (rw k (omega arith))
by_kind e ss n kinds.String k f h = one_closing e (up_to_end ss) n n (f n h) (rw k (omega arith))
by_kind e ss n kinds.Op k f h = one_closing e (up_to_end ss) n n (f n h) (rw k (omega arith))
by_kind e ss n kinds.Comment k f h = one_closing e (up_to_end ss) n n (f n h) (rw k (omega arith))
by_kind e ss n kinds.Nl k f h = one_closing e (up_to_end ss) n n (f n h) (rw k (omega arith))
by_kind e ss n kinds.Newline k f h = one_closing e (up_to_end ss) n n (f n h) (rw k (omega arith))
by_kind e ss n kinds.EndMarker k f h = one_closing e (up_to_end ss) n n (f n h) (rw k (omega arith))

closing : (ss : List Step) (n : ℕ) → Nested n ss → Closing n (up_to_end ss)
closing [] n h = absurd h
closing (steps.Entry e ∷ ss) n h = by_kind e ss n e.kind refl (λ m g. closing ss m g) h
closing (steps.End ∷ ss) n h = let z : n ≡ 0 = h in record { within = none; at_end = λ _. omega arith }
  where
    none : (k : ℕ) → count_by is_dedent (take k []) ≤ n + count_by is_indent (take k [])
    none zero = omega arith
    none (suc k) = omega arith
closing (steps.Fault f ∷ ss) n h = record { within = none; at_end = λ e. cc }
  where
    none : (k : ℕ) → count_by is_dedent (take k []) ≤ n + count_by is_indent (take k [])
    none zero = omega arith
    none (suc k) = omega arith

first_open : Open first_state.levels 0
first_open = record { apart = record { once = at_most; ground = refl }; many = omega arith }
  where
    at_most : (v : ℕ) → count_by (λ u. u == v) (0 ∷ []) ≤ 1
    at_most v = let a = count_step (λ u. u == v) 0 [] in let f = one (0 == v) in omega arith
      where
        one : (b : Bool) → cond b 1 0 ≤ 1
        one true = omega arith
        one false = omega arith

pub closes_blocks : (s : Source) → ClosesBlocks s
unfolding remaining
closes_blocks s =
    let c = closing (mark kinds.Encoding [] origin origin ∷ run s.fault (left_by_cut s.text) first_state (cut s.text)) 0
    (run_nested s.fault (left_by_cut s.text) (cut s.text) first_state 0 first_open) in
    let e = listing_is s in
    record {
      within = λ k. let w = c.within k in rw e (omega arith);
      at_end =
          λ f. let g : fault_of (mark kinds.Encoding [] origin origin ∷ remaining s.fault first_state s.text) ≡ None = rw e at f in let w =
          c.at_end g in rw e (omega arith);
    }
