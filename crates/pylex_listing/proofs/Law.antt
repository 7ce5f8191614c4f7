-- The listing, which speaks of all lexemes before a place, is what the machine makes of its state.
--
-- Carries: bytes_in-append, state_of, state_push, IsBalanced and 7 more, for Run, Points, Ahead,
-- Resuming and 12 more. On: Stack.
use Rattle.std.proofs.Common.{◌≡◌, ℕ, ◌+◌, ◌-◌, ◌≤◌, ◌<◌, Bool, true, false, not, ◌&&◌, ◌||◌, ◌==◌, List, [], ◌∷◌, ◌++◌, length, refl, ap}
use Rattle.std.proofs.Common.{◌∙◌, sym, arith, cond, append_assoc, reverse, add_comm, add_assoc, add-zero, ⊎_elim, length-append}
use Rattle.std.specs.List.{prefix_len, count_by}
use Rattle.std.specs.Str.{encode_utf8_all}
use Rattle.std.proofs.lemmas.Str.{encodes-append}
use Rattle.std.proofs.lemmas.List.{append-nil, reverse-append}
use Rattle.std.proofs.lemmas.Grind.{common_steps}
use Rattle.std.proofs.lemmas.Bool.Decides.{nat_tests}
use Rattle.std.proofs.lemmas.Bool.{cases_Bool}
use Rattle.pysource.specs.Places.{place_after}
use Rattle.pylex_lexeme.specs.Lexemes.{Lexeme}
use Rattle.pylex_listing.specs.Lines.{text_before, depth, is_of_blanks, is_of_line_end, is_significant, opens, closes, line_so_far}
use Rattle.pylex_listing.specs.Lines.{before_line, is_at_margin, is_logical, count_if}
use Rattle.pylex_lexeme.specs.Chars.{bytes_in}
use Rattle.pylex_listing.specs.Indentation.{column_after, width_from, width_at, widths, open_levels}
use Rattle.pylex_listing.specs.Listing.{ends_in_join}
use Rattle.pylex_listing.specs.Machine.{State, place_past, lead_after_char, lead_after, past, after, still, pushed}
use Rattle.pylex_listing.specs.declared.point.Point.{Point}
use Rattle.pylex_listing.specs.declared.leading_char.LeadingChar.{LeadingChar}
use Rattle.pylex_listing.specs.declared.leading_char.LeadingChar.TheVariants.{Nothing}
use Rattle.pylex_listing.proofs.Stack.{push}

-- Places and offsets.
abbrev pub point_after : List ℕ → Point
point_after t = record { place = place_after t; offset = bytes_in t }

count_push : (p : ℕ → Bool) (cs : List ℕ) (c : ℕ) → count_by p (cs ++ c ∷ []) ≡ count_by p cs + cond (p c) 1 0
count_push p cs c = grind (arith, common_steps)

place_of_one : (cs : List ℕ) (c : ℕ) → place_after (cs ++ c ∷ []) ≡ place_past (place_after cs) (c ∷ [])
unfolding place_after
place_of_one cs c =
    let r : reverse (cs ++ c ∷ []) ≡ c ∷ reverse cs = reverse-append cs (c ∷ []) in
    let n = count_push (λ d. d == 10) cs c in
    rw (r, n)
    (⊎_elim
    (λ (e : (c == 10) ≡ true). rw e (ap (λ k. record { row = k; column = 0 }) (sym (add_assoc 1 (count_by (λ d. d == 10) cs) 1))))
    (λ (e : (c == 10) ≡ false). rw e
    (rw add-zero (ap (λ k. record { row = 1 + count_by (λ d. d == 10) cs; column = k })
    (add_comm 1 (prefix_len (λ d. not (d == 10)) (reverse cs))))))
    (cases_Bool (c == 10)))

pub place_after-append : (a b : List ℕ) → place_after (a ++ b) ≡ place_past (place_after a) b
place_after-append a [] = ap place_after (append-nil a)
place_after-append a (c ∷ b) =
    ap place_after (sym (append_assoc a (c ∷ []) b))
    ∙ place_after-append (a ++ c ∷ []) b
    ∙ ap (λ p. place_past p b) (place_of_one a c)

pub bytes_in-append : (a b : List ℕ) → bytes_in (a ++ b) ≡ bytes_in a + bytes_in b
bytes_in-append a b = ap length (encodes-append a b) ∙ length-append (encode_utf8_all a) (encode_utf8_all b)

pub point-append : (a b : List ℕ) → point_after (a ++ b) ≡ past (point_after a) b
point-append a b =
    let p = place_after-append a b in
    let o = bytes_in-append a b in
    rw (p, o) refl

pub front-append : (a b : List ℕ) (f : LeadingChar) → lead_after f (a ++ b) ≡ lead_after (lead_after f a) b
front-append [] b f = refl
front-append (c ∷ a) b f = front-append a b (lead_after_char f c)

pub width-append : (a b : List ℕ) (n : ℕ) → width_from n (a ++ b) ≡ width_from (width_from n a) b
unfolding width_from
width-append [] b n = refl
width-append (c ∷ a) b n = width-append a b (column_after n c)

-- The state that all lexemes before a place lead to.
unfoldable pub state_of : List Lexeme → State
state_of before = record {
  now = point_after (text_before before);
  line = point_after (text_before (before_line before));
  depth = depth before;
  levels = open_levels (widths before);
  margin = is_at_margin before;
  width = still (is_at_margin before) (width_at before);
  logical = is_logical before;
  joined = ends_in_join before;
  lead = lead_after Nothing (text_before before);
}

-- No closing bracket is without its opening one so far.
pub record IsBalanced (before : List Lexeme) : Type 0 where
  pub closed : count_by closes before ≤ count_by opens before

abbrev ends : List Lexeme → Lexeme → Bool
ends before x = is_of_line_end x && (depth before == 0)

line_push : (before : List Lexeme) (x : Lexeme) → point_after (text_before (before_line (x ∷ before))) ≡ cond (ends before x)
    (past (point_after (text_before before)) x.text) (point_after (text_before (before_line before)))
unfolding line_so_far
line_push before x = ⊎_elim
    (λ (e : ends before x ≡ true). rw e (point-append (text_before before) x.text))
    (λ (e : ends before x ≡ false). rw e refl)
    (cases_Bool (ends before x))

pub margin_push : (before : List Lexeme) (x : Lexeme)
    → is_at_margin (x ∷ before) ≡ (ends before x || (is_of_blanks x && is_at_margin before))
unfolding line_so_far is_at_margin
margin_push before x = ⊎_elim
    (λ (e : ends before x ≡ true). rw e refl)
    (λ (e : ends before x ≡ false). rw e refl)
    (cases_Bool (ends before x))

pub logical_push : (before : List Lexeme) (x : Lexeme)
    → is_logical (x ∷ before) ≡ (not (ends before x) && (is_significant x || is_logical before))
unfolding line_so_far is_logical
logical_push before x = ⊎_elim
    (λ (e : ends before x ≡ true). rw e refl)
    (λ (e : ends before x ≡ false). rw e refl)
    (cases_Bool (ends before x))

width_at_push : (before : List Lexeme) (x : Lexeme) → width_at (x ∷ before) ≡ cond (ends before x) 0 (width_from (width_at before) x.text)
unfolding line_so_far width_at width_from
width_at_push before x = ⊎_elim
    (λ (e : ends before x ≡ true). rw e refl)
    (λ (e : ends before x ≡ false). rw e (width-append (text_before (line_so_far before)) x.text 0))
    (cases_Bool (ends before x))

still_width : (e b m : Bool) (w : ℕ) (t : List ℕ) → still (e || (b && m)) (cond e 0 (width_from w t)) ≡ cond e 0
    (still (b && m) (width_from (still m w) t))
still_width true b m w t = refl
still_width false true true w t = refl
still_width false true false w t = refl
still_width false false m w t = refl

width_push : (before : List Lexeme) (x : Lexeme) → still (is_at_margin (x ∷ before)) (width_at (x ∷ before)) ≡ cond (ends before x) 0
    (still (is_of_blanks x && is_at_margin before) (width_from (still (is_at_margin before) (width_at before)) x.text))
width_push before x =
    let m = margin_push before x in
    let w = width_at_push before x in
    rw (m, w) (still_width (ends before x) (is_of_blanks x) (is_at_margin before) (width_at before) x.text)

levels_push : (before : List Lexeme) (x : Lexeme) → open_levels (widths (x ∷ before)) ≡ cond (is_at_margin before && is_significant x)
    (pushed (still (is_at_margin before) (width_at before)) (open_levels (widths before))) (open_levels (widths before))
unfolding widths
levels_push before x = by_cases (is_at_margin before) (is_significant x)
  where
    by_cases : (m t : Bool) → open_levels (cond (m && t) (width_at before ∷ widths before) (widths before)) ≡ cond (m && t)
        (pushed (still m (width_at before)) (open_levels (widths before))) (open_levels (widths before))
    by_cases true true = push (width_at before) (widths before)
    by_cases true false = refl
    by_cases false t = refl

pub count_cons : (p : Lexeme → Bool) (x : Lexeme) (xs : List Lexeme) → count_by p (x ∷ xs) ≡ count_if (p x) + count_by p xs
count_cons p x xs = grind (arith, common_steps)

less_one : (o c : Bool) (m n : ℕ) → n ≤ m → (c && ((m - n) == 0)) ≡ false
    → (count_if o + m) - (count_if c + n) ≡ (m - n) + count_if o - count_if c
less_one true true m n h e = omega arith
less_one true false m n h e = omega arith
less_one false true m n h e = omega (arith, one_more m n e)
  where
    one_more : (m n : ℕ) → ((m - n) == 0) ≡ false → n < m
    one_more m n e = grind (arith, nat_tests)
less_one false false m n h e = omega arith

depth_push : (before : List Lexeme) (x : Lexeme) → IsBalanced before → (closes x && (depth before == 0)) ≡ false
    → depth (x ∷ before) ≡ depth before + count_if (opens x) - count_if (closes x)
unfolding depth
depth_push before x b n =
    let o = count_cons opens x before in
    let c = count_cons closes x before in
    rw (o, c) (less_one (opens x) (closes x) (count_by opens before) (count_by closes before) b.closed n)

still_balanced : (o c : Bool) (m n : ℕ) → n ≤ m → (c && ((m - n) == 0)) ≡ false → count_if c + n ≤ count_if o + m
still_balanced true true m n h e = omega arith
still_balanced true false m n h e = omega arith
still_balanced false true m n h e = omega (arith, one_more m n e)
  where
    one_more : (m n : ℕ) → ((m - n) == 0) ≡ false → n < m
    one_more m n e = grind (arith, nat_tests)
still_balanced false false m n h e = omega arith

pub balanced_push : (before : List Lexeme) (x : Lexeme) → IsBalanced before → (closes x && (depth before == 0)) ≡ false
    → IsBalanced (x ∷ before)
unfolding depth
balanced_push before x b n =
    let o = count_cons opens x before in
    let c = count_cons closes x before in
    record { closed = rw (o, c) (still_balanced (opens x) (closes x) (count_by opens before) (count_by closes before) b.closed n) }

pub state_push : (before : List Lexeme) (x : Lexeme) → IsBalanced before → (closes x && (depth before == 0)) ≡ false
    → state_of (x ∷ before) ≡ after (state_of before) x
unfolding state_of after
state_push before x b n =
    let now = point-append (text_before before) x.text in
    let line = line_push before x in
    let depths = depth_push before x b n in
    let levels = levels_push before x in
    let width = width_push before x in
    let margin = margin_push before x in
    let logical = logical_push before x in
    let front = front-append (text_before before) x.text Nothing in
    rw (now, line, depths, levels, width, margin, logical, front) refl
