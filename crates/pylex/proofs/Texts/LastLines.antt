-- The line that a text ends in, over bytes.
--
-- Carries: last_line. On: Resume.
use Rattle.std.proofs.Common.{◌≡◌, ◌≢◌, ℕ, suc, ◌+◌, ◌-◌, ◌<◌, ◌≤◌, true, false, ◌&&◌, ◌==◌, List, [], ◌∷◌, ◌++◌, length, take, drop}
use Rattle.std.proofs.Common.{get_or}
use Rattle.std.proofs.Common.{reverse, refl, ap, ◌∙◌, sym, subst, arith, ⊎_elim, append_assoc, Some, None, drop-cons, get_or-drop}
use Rattle.std.proofs.Common.{length-drop}
use Rattle.std.specs.List.{take_while, list_all}
use Rattle.std.specs.Str.{chars, IsUtf8, IsCharBoundary, encode_utf8_all}
use Rattle.std.specs.Str.Pattern.{RFindsChar}
use Rattle.std.proofs.lemmas.Str.{chars-append, encodes-append, encodes-chars, IsUtf8-take, IsCharBoundary-before_ascii}
use Rattle.std.proofs.lemmas.Str.Pattern.{rfind_char}
use Rattle.std.proofs.lemmas.List.{reverse-append, reverse-reverse, take-append-drop, drop_all}
use Rattle.std.proofs.lemmas.List.Folds.{list_all-append}
use Rattle.std.proofs.lemmas.List.Sums.{take_while-cons}
use Rattle.std.proofs.lemmas.Bool.Decides.{nat_tests}
use Rattle.std.proofs.lemmas.Bool.{cases_Bool, and_parts}
use Rattle.pylex_listing.specs.Listing.{last_line}
use Rattle.pylex.proofs.Resumption.Resume.{goes_on}

all_reverse : (t : List ℕ) → list_all goes_on t ≡ true → list_all goes_on (reverse t) ≡ true
all_reverse [] h = refl
all_reverse (c ∷ t) h =
    let p = and_parts (goes_on c) (list_all goes_on t) h in
    let r = all_reverse t p.1 in
    let one : list_all goes_on (c ∷ []) ≡ true = ap (λ b. b && true) p.0 in
    ap (list_all goes_on) (reverse-append (c ∷ []) t) ∙ list_all-append goes_on (reverse t) (c ∷ [])
    ∙ ap (λ b. b && list_all goes_on (c ∷ [])) r ∙ one

-- characters that go on, up to a line feed
taken_up : (r s : List ℕ) → list_all goes_on r ≡ true → take_while goes_on (r ++ 10 ∷ s) ≡ r
taken_up [] s h = rw take_while-cons refl
taken_up (c ∷ r) s h =
    let p = and_parts (goes_on c) (list_all goes_on r) h in
    let first = p.0 in
    let rest = taken_up r s p.1 in
    rw take_while-cons (rw (first, rest) refl)

taken_whole : (r : List ℕ) → list_all goes_on r ≡ true → take_while goes_on r ≡ r
taken_whole [] h = refl
taken_whole (c ∷ r) h =
    let p = and_parts (goes_on c) (list_all goes_on r) h in
    let first = p.0 in
    let rest = taken_whole r p.1 in
    rw take_while-cons (rw (first, rest) refl)

line_of : (x y : List ℕ) → list_all goes_on y ≡ true → last_line (x ++ 10 ∷ y) ≡ y
unfolding last_line
line_of x y h =
    let parts : reverse (x ++ 10 ∷ y) ≡ reverse y ++ 10 ∷ reverse x = reverse-append x (10 ∷ y)
    ∙ ap (λ t. t ++ reverse x) (reverse-append (10 ∷ []) y) ∙ append_assoc (reverse y) (10 ∷ []) (reverse x) in
    ap (λ t. reverse (take_while goes_on t)) parts ∙ ap reverse (taken_up (reverse y) (reverse x) (all_reverse y h)) ∙ reverse-reverse y

line_whole : (y : List ℕ) → list_all goes_on y ≡ true → last_line y ≡ y
unfolding last_line
line_whole y h = ap reverse (taken_whole (reverse y) (all_reverse y h)) ∙ reverse-reverse y

-- bytes without a line feed spell characters without one
clean_chars : (cs : List ℕ) → list_all goes_on (encode_utf8_all cs) ≡ true → list_all goes_on cs ≡ true
unfolding lib.Utf8.encode
clean_chars [] h = refl
clean_chars (c ∷ cs) h =
    let p = and_parts (list_all goes_on (encode_utf8_all (c ∷ []))) (list_all goes_on (encode_utf8_all cs))
    (sym (ap (list_all goes_on) (encodes-append (c ∷ []) cs) ∙ list_all-append goes_on (encode_utf8_all (c ∷ [])) (encode_utf8_all cs))
    ∙ h) in
    let rest = clean_chars cs p.1 in ⊎_elim
    (λ (e : (c == 10) ≡ true). let same : c ≡ 10 = grind (arith, nat_tests) in
    absurd (never (sym (ap (λ d. list_all goes_on (encode_utf8_all (d ∷ []))) same) ∙ p.0)))
    (λ (e : (c == 10) ≡ false). rw (e, rest) refl)
    (cases_Bool (c == 10))
  where
    never : false ≡ true → ⊥
    never e = cc

clean_bytes : (bs : List ℕ) → ((k : ℕ) → k < length bs → get_or bs k 0 ≢ 10) → list_all goes_on bs ≡ true
clean_bytes [] h = refl
clean_bytes (b ∷ bs) h =
    let n = h 0 (omega arith) in
    let first : (b == 10) ≡ false = grind (arith, nat_tests, n) in
    let rest = clean_bytes bs (λ k l. h (suc k) (omega arith)) in
    rw (first, rest) refl

clean_line : (line : List ℕ) → IsUtf8 line → ((k : ℕ) → k < length line → get_or line k 0 ≢ 10) → list_all goes_on (chars line) ≡ true
clean_line line u h = clean_chars (chars line) (ap (list_all goes_on) (encodes-chars line u) ∙ clean_bytes line h)

pub line_following : (text line : List ℕ) (at : ℕ) → IsUtf8 text → IsUtf8 line → (j : ℕ) × RFindsChar 10 text (Some (at, j)) × (at ≤ j) ×
    IsCharBoundary text at × IsCharBoundary text j → line ≡ drop (at + 1) text → chars line ≡ last_line (chars text)
unfolding lib.Utf8.encode chars
line_following text line at u v f e =
    let g = rfind_char 10 text (Some at) f (omega arith) in
    let whole : text ≡ take at text ++ 10 ∷ line = sym (take-append-drop at text) ∙ ap (λ t. take at text ++ t) (drop-cons text at 0 g.0
    ∙ ap (λ b. b ∷ drop (suc at) text) g.1 ∙ ap (λ t. 10 ∷ t) (ap (λ n. drop n text) (sym (next at)) ∙ sym e)) in
    let front : IsUtf8 (take at text) = IsUtf8-take text at u f.3 in
    let spelled : chars text ≡ chars (take at text) ++ 10 ∷ chars line = ap chars whole ∙ chars-append (take at text) (10 ∷ line) front
    ∙ ap (λ t. chars (take at text) ++ t) (chars-append (10 ∷ []) line (10 ∷ [], (refl, refl))) in
    let clean = clean_line line v (λ k h. subst (λ (b : ℕ). b ≢ 10) (read k) (g.2 (k + (at + 1)) (omega arith) (within k h))) in
    sym (ap last_line spelled ∙ line_of (chars (take at text)) (chars line) clean)
  where
    next : (n : ℕ) → n + 1 ≡ suc n
    next n = omega arith

    read : (k : ℕ) → get_or text (k + (at + 1)) 0 ≡ get_or line k 0
    read k = let o : k + (at + 1) ≡ (at + 1) + k = omega arith in ap (λ n. get_or text n 0) o ∙ sym (get_or-drop (at + 1) text k 0)
        ∙ ap (λ t. get_or t k 0) (sym e)

    within : (k : ℕ) → k < length line → k + (at + 1) < length text
    within k h = let l = ap length e ∙ length-drop (at + 1) text in omega arith

pub line_alone : (text : List ℕ) → IsUtf8 text → RFindsChar 10 text None → chars text ≡ last_line (chars text)
line_alone text u f = sym (line_whole (chars text) (clean_line text u (rfind_char 10 text None f (omega arith))))

pub line_begun : (text : List ℕ) → IsUtf8 text → 0 < length text → get_or text (length text - 1) 0 ≡ 10 → chars [] ≡ last_line (chars text)
unfolding lib.Utf8.encode chars
line_begun text u some last =
    let at = length text - 1 in
    let less : at < length text = omega arith in
    let none : drop (suc at) text ≡ [] = drop_all (suc at) text (omega arith) in
    let whole : text ≡ take at text ++ 10 ∷ [] = sym (take-append-drop at text) ∙ ap (λ t. take at text ++ t) (drop-cons text at 0 less
    ∙ ap (λ b. b ∷ drop (suc at) text) last ∙ ap (λ t. 10 ∷ t) none) in
    let front : IsUtf8 (take at text) = IsUtf8-take text at u (IsCharBoundary-before_ascii text at less (omega (arith, last))) in
    let spelled : chars text ≡ chars (take at text) ++ 10 ∷ [] = ap chars whole ∙ chars-append (take at text) (10 ∷ []) front in
    sym (ap last_line spelled ∙ line_of (chars (take at text)) [] refl)
