-- The state at a point, told by the cursor's parts and the line before it.
--
-- Carries: column_is, resumed_start, front_line, for Ahead, Looking, Ranges, Points and 1 more. On:
-- Law, LeadingChar, Resume.
use Rattle.std.proofs.Common.{◌≡◌, ℕ, Bool, true, false, not, ◌==◌, List, [], ◌∷◌, length, refl, ap, ◌∙◌, sym, arith, reverse, ⊎_elim}
use Rattle.std.specs.List.{take_while, prefix_len}
use Rattle.std.proofs.lemmas.List.{reverse-reverse, length-reverse}
use Rattle.std.proofs.lemmas.List.Sums.{take_while-cons}
use Rattle.std.proofs.lemmas.Bool.{cases_Bool}
use Rattle.pysource.specs.Places.{place_after}
use Rattle.pylex_lexeme.specs.Lexemes.{Lexeme}
use Rattle.pylex_listing.specs.Lines.{text_before, line_so_far, is_at_margin, is_logical}
use Rattle.pylex_listing.specs.Indentation.{width_from, width_at}
use Rattle.pylex_listing.specs.Listing.{last_line, ends_in_join}
use Rattle.pylex.specs.Cursors.{cursor_at}
use Rattle.pylex_listing.specs.Machine.{lead_after}
use Rattle.pylex_listing.specs.declared.leading_char.LeadingChar.TheVariants.{Nothing}
use Rattle.pylex.specs.Standing.{resumed}
use Rattle.pylex_listing.proofs.Callers.{state_of, last_front, front_in}

abbrev goes_on : ℕ → Bool
goes_on c = not (c == 10)

front_length : (r : List ℕ) → length (take_while goes_on r) ≡ prefix_len goes_on r
front_length [] = refl
front_length (c ∷ r) = ⊎_elim
    (λ (e : (c == 10) ≡ true). rw take_while-cons (rw e refl))
    (λ (e : (c == 10) ≡ false). let h = front_length r in rw take_while-cons (rw e (omega arith)))
    (cases_Bool (c == 10))

pub column_is : (t : List ℕ) → (place_after t).column ≡ length (last_line t)
unfolding place_after last_line
column_is t = sym (length-reverse (take_while goes_on (reverse t)) ∙ front_length (reverse t))

front_again : (r : List ℕ) → take_while goes_on (take_while goes_on r) ≡ take_while goes_on r
front_again [] = refl
front_again (c ∷ r) = ⊎_elim
    (λ (e : (c == 10) ≡ true). let w : take_while goes_on (c ∷ r) ≡ [] = rw take_while-cons (rw e refl) in
    ap (take_while goes_on) w ∙ sym w)
    (λ (e : (c == 10) ≡ false).
    let h = front_again r in
    let w : take_while goes_on (c ∷ r) ≡ c ∷ take_while goes_on r = rw take_while-cons (rw e refl) in
    let v : take_while goes_on (c ∷ take_while goes_on r) ≡ c ∷ take_while goes_on r = rw take_while-cons (rw e (ap (λ t. c ∷ t) h)) in
    ap (take_while goes_on) w ∙ v ∙ sym w)
    (cases_Bool (c == 10))

pub front_line : (t : List ℕ) → lead_after Nothing (last_line t) ≡ lead_after Nothing t
unfolding last_line
front_line t =
    let again : last_line (last_line t) ≡ last_line t =
    ap (λ r. reverse (take_while goes_on r)) (reverse-reverse (take_while goes_on (reverse t)))
    ∙ ap reverse (front_again (reverse t)) in
    sym (last_front (last_line t) []) ∙ ap front_in again ∙ last_front t []

pub resumed_start : (h : List Lexeme) (k n : ℕ) → line_so_far h ≡ [] → ends_in_join h ≡ false → last_line (text_before h) ≡ []
    → resumed (cursor_at k n false h) (last_line (text_before h)) ≡ state_of h
unfolding resumed cursor_at state_of is_logical is_at_margin width_at width_from
resumed_start h k n l j e =
    let c : (place_after (text_before h)).column ≡ 0 = column_is (text_before h) ∙ ap length e in
    let p : record { row = (place_after (text_before h)).row; column = 0 } ≡ place_after (text_before h) =
    sym (ap (λ q. record { row = (place_after (text_before h)).row; column = q }) c) in
    let f : Nothing ≡ lead_after Nothing (text_before h) = sym (ap (lead_after Nothing) e) ∙ front_line (text_before h) in
    rw (e, l, j, ← f, p) refl
