-- What is written of a source after some of its entries, a step on.
--
-- Carries: held_next, told_next, output_ended, fault_ended and 2 more, for
-- ListLemmas. On: RunLemmas.
use Rattle.std.proofs.Common.{◌≡◌, ◌≢◌, ℕ, zero, suc, ◌+◌, ◌-◌, Bool, true, false, not, ◌==◌, if◌then◌else◌, List, [], ◌∷◌, ◌++◌, take}
use Rattle.std.proofs.Common.{length, slice_get, refl, sym, ap, ◌∙◌, Option, Some, None, append_assoc, append-nil, nat_le, arith}
use Rattle.std.proofs.lemmas.Bool.Decides.{nat_tests}
use Rattle.pysource.specs.Parts.{Parts}
use Rattle.pylex_listing.specs.declared.entries.Entry.{Entry}
use Rattle.pylex_listing.specs.declared.entries.Step.TheVariants as steps
use Rattle.pylex_listing.specs.declared.kind.Kind.{Kind}
use Rattle.pylex.specs.Cursors.{CursorParts, cursor}
use Rattle.pylex.specs.Standing.{IsCursorOf}
use Rattle.pylex_listing.specs.Listing.{in_characters, listing, rest}
use Rattle.pylex_listing.specs.ListingLines.{listing_line, text_of}
use Rattle.pylex_listing.specs.Steps.{entries_of}
use Rattle.pyast_command.specs.Listings.{is_marker, stops_after, lines_of, cursor_line, told_of, left_after, output_from, fault_from}
use Rattle.pyast_command.specs.Runs.{TakesAllBut}
use Rattle.pyast_command.proofs.RunLemmas.{TakesAllBut-held}
use Rattle.pylex.proofs.Callers.{is_following, next_is}
use Rattle.pyast_fault.specs.declared.fault.Fault.{Fault}

le_zero : (n : ℕ) → nat_le 0 n ≡ true
le_zero n = grind (arith, nat_tests)

le_none : (m : ℕ) → nat_le (suc m) 0 ≡ false
le_none m = grind (arith, nat_tests)

le_next : (m n : ℕ) → nat_le (suc m) (suc n) ≡ nat_le m n
le_next m n = grind (arith, nat_tests)

stops_at_once : (es : List Entry) → stops_after 0 es ≡ true
stops_at_once es = rw (le_zero (length es)) refl

stops_none : (m : ℕ) → stops_after (suc m) [] ≡ false
stops_none m = rw (le_none m) refl

stops_first : (e : Entry) (es : List Entry) → stops_after 1 (e ∷ es) ≡ not (is_marker e.kind)
stops_first e es = rw (le_next 0 (length es), le_zero (length es)) refl

stops_next : (m : ℕ) (e : Entry) (es : List Entry) → stops_after (suc (suc m)) (e ∷ es) ≡ stops_after (suc m) es
stops_next m e [] = rw (le_next (suc m) 0, le_none m) refl
stops_next m e (d ∷ es) = rw (le_next (suc m) (suc (length es))) refl

following_more : (m : ℕ) (kind : Kind) → left_after (Some (suc (suc m))) kind ≡ Some (suc m)
following_more m kind = let a : (suc (suc m) == 1) ≡ false = grind (arith, nat_tests) in let b : suc (suc m) - 1 ≡ suc m =
    omega arith in rw (a, b) refl

-- a count of none stops the listing at once
pub output_stopped : (exact : Bool) (p : Parts) (k : ℕ) → output_from exact p (Some 0) k ≡ cursor_line (cursor (in_characters p) k)
output_stopped exact p k =
    let e : k + 0 ≡ k = omega arith in
    rw (stops_at_once (entries_of (rest (in_characters p) k)), e) refl

pub fault_stopped : (p : Parts) (k : ℕ) → fault_from p (Some 0) k ≡ None
fault_stopped p k = rw (stops_at_once (entries_of (rest (in_characters p) k))) refl

-- nothing is written where no entry is left
pub output_ended : (exact : Bool) (p : Parts) (left : Option ℕ) (k : ℕ) → left ≢ Some 0 → entries_of (rest (in_characters p) k) ≡ []
    → output_from exact p left k ≡ []
output_ended exact p None k n h = rw h refl
output_ended exact p (Some zero) k n h = absurd (n refl)
output_ended exact p (Some (suc m)) k n h = rw (h, stops_none m) refl

pub fault_ended : (p : Parts) (left : Option ℕ) (k : ℕ) → left ≢ Some 0 → entries_of (rest (in_characters p) k) ≡ []
    → fault_from p left k ≡ told_of (rest (in_characters p) k)
fault_ended p None k n h = refl
fault_ended p (Some zero) k n h = absurd (n refl)
fault_ended p (Some (suc m)) k n h = rw (h, stops_none m) refl

-- what is written of these entries, which stand after k others
abbrev output_among : Bool → Parts → ℕ → ℕ → List Entry → List ℕ
output_among exact p n k es = if stops_after n es then lines_of exact p (take n es) ++ cursor_line (cursor (in_characters p) (k + n))
    else lines_of exact p es

abbrev fault_among : ℕ → List Entry → Option Fault → Option Fault
fault_among n es told = if stops_after n es then None else told

if_lines : (b : Bool) (line xs ys zs : List ℕ) → (if b then (line ++ xs) ++ ys else line ++ zs) ≡ line ++ (if b then xs ++ ys else zs)
if_lines true line xs ys zs = append_assoc line xs ys
if_lines false line xs ys zs = refl

among_next : (exact : Bool) (p : Parts) (m k : ℕ) (e : Entry) (es : List Entry)
    → output_among exact p (suc (suc m)) k (e ∷ es) ≡ listing_line exact e (text_of p e) ++ output_among exact p (suc m) (k + 1) es
among_next exact p m k e es =
    let c : k + suc (suc m) ≡ (k + 1) + suc m = omega arith in
    let b = stops_next m e es in
    rw (b, c) (if_lines (stops_after (suc m) es) (listing_line exact e (text_of p e)) (lines_of exact p (take (suc m) es))
    (cursor_line (cursor (in_characters p) ((k + 1) + suc m))) (lines_of exact p es))

-- the output after k entries, the next of which is known, is its line and the output after that
pub output_next : (exact : Bool) (p : Parts) (left : Option ℕ) (k : ℕ) (e : Entry) → left ≢ Some 0
    → rest (in_characters p) k ≡ steps.Entry e ∷ rest (in_characters p) (k + 1)
    → output_from exact p left k ≡ listing_line exact e (text_of p e) ++ output_from exact p (left_after left e.kind) (k + 1)
output_next exact p None k e n h = rw h refl
output_next exact p (Some zero) k e n h = absurd (n refl)
output_next exact p (Some (suc zero)) k e n h = rw h (by_kind (is_marker e.kind) refl)
  where
    by_kind : (b : Bool) → b ≡ is_marker e.kind → output_among exact p 1 k (e ∷ entries_of (rest (in_characters p) (k + 1))) ≡ listing_line
        exact e (text_of p e) ++ output_from exact p (left_after (Some 1) e.kind) (k + 1)
    by_kind true is = rw (stops_first e (entries_of (rest (in_characters p) (k + 1))), ← is) refl
    by_kind false is =
        let c : (k + 1) + 0 ≡ k + 1 = omega arith in
        let now = stops_first e (entries_of (rest (in_characters p) (k + 1))) in
        let at_once = stops_at_once (entries_of (rest (in_characters p) (k + 1))) in
        rw (now, ← is, at_once, c) (append_assoc (listing_line exact e (text_of p e)) [] (cursor_line (cursor (in_characters p) (k + 1))))
output_next exact p (Some (suc (suc m))) k e n h =
    rw (h, following_more m e.kind) (among_next exact p m k e (entries_of (rest (in_characters p) (k + 1))))

-- and the fault is the same
pub fault_next : (p : Parts) (left : Option ℕ) (k : ℕ) (e : Entry) → left ≢ Some 0 → rest (in_characters p) k ≡ steps.Entry e ∷ rest
    (in_characters p) (k + 1)
    → fault_from p left k ≡ fault_from p (left_after left e.kind) (k + 1)
fault_next p None k e n h = rw h refl
fault_next p (Some zero) k e n h = absurd (n refl)
fault_next p (Some (suc zero)) k e n h = rw h (by_kind (is_marker e.kind) refl)
  where
    by_kind : (b : Bool) → b ≡ is_marker e.kind → fault_among 1 (e ∷ entries_of (rest (in_characters p) (k + 1)))
        (told_of (rest (in_characters p) (k + 1))) ≡ fault_from p (left_after (Some 1) e.kind) (k + 1)
    by_kind true is = rw (stops_first e (entries_of (rest (in_characters p) (k + 1))), ← is) refl
    by_kind false is = rw (
      stops_first e (entries_of (rest (in_characters p) (k + 1))),
      ← is,
      stops_at_once (entries_of (rest (in_characters p) (k + 1))),
    ) refl
fault_next p (Some (suc (suc m))) k e n h = rw (h, following_more m e.kind, stops_next m e (entries_of (rest (in_characters p) (k + 1)))) refl

-- the line of the next entry is held then
pub held_next : (exact : Bool) (p : Parts) (k : ℕ) (left : Option ℕ) (e : Entry) (x y : Option (List ℕ)) (output before held : List ℕ)
    → slice_get (listing (in_characters p)) k ≡ Some (steps.Entry e) → left ≢ Some 0 → held ≡ before ++ listing_line exact e (text_of p e)
    → TakesAllBut x y output before (output_from exact p left k)
    → TakesAllBut x y output held (output_from exact p (left_after left e.kind) (k + 1))
held_next exact p k left e x y output before held t n is h =
    rw is (TakesAllBut-held x y output before (listing_line exact e (text_of p e)) (output_from exact p (left_after left e.kind) (k + 1))
    (rw (output_next exact p left k e n (next_is (in_characters p) k (steps.Entry e) t)) at h))

pub told_next : (p : Parts) (k : ℕ) (left : Option ℕ) (e : Entry)
    → slice_get (listing (in_characters p)) k ≡ Some (steps.Entry e) → left ≢ Some 0
    → fault_from p left k ≡ fault_from p (left_after left e.kind) (k + 1)
told_next p k left e t n = fault_next p left k e n (next_is (in_characters p) k (steps.Entry e) t)

-- the line of the cursor at which a lister stands is held, and nothing is left
pub cursor_held : (exact : Bool) (p : Parts) (shown : CursorParts) (left : Option ℕ) (x y : Option (List ℕ)) (output before held : List ℕ)
    → left ≡ Some 0
    → IsCursorOf shown (in_characters p) → held ≡ before ++ cursor_line shown
    → TakesAllBut x y output before (output_from exact p left shown.given) → TakesAllBut x y output held []
cursor_held exact p shown left x y output before held zero_left own is h =
    let line : output_from exact p left shown.given ≡ cursor_line shown ++ [] =
    ap (λ n. output_from exact p n shown.given) zero_left ∙ output_stopped exact p shown.given ∙ ap cursor_line (sym (is_following own).is)
    ∙ sym (append-nil (cursor_line shown)) in
    rw is (TakesAllBut-held x y output before (cursor_line shown) [] (rw line at h))

pub told_none : (p : Parts) (left : Option ℕ) (k : ℕ) → left ≡ Some 0 → fault_from p left k ≡ None
told_none p left k zero_left = ap (λ n. fault_from p n k) zero_left ∙ fault_stopped p k
