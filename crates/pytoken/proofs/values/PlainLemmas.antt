-- Carries: comment_fault, string_fault. On: a text of characters that stand for themselves.
use Rattle.std.proofs.Common.{◌≡◌, ℕ, Bool, true, false, List, [], ◌∷◌, refl, ap, ◌∙◌, arith, Some, None}
use Rattle.std.specs.Prelude.{◌==◌, ◌&&◌, not, nat_lt, nat_le}
use Rattle.std.specs.List.{list_all, list_any}
use Rattle.std.specs.Str.{chars, IsAscii}
use Rattle.std.proofs.lemmas.Bool.{and_parts, leb-true, le-ltb, not-true, and_right}
use Rattle.std.proofs.lemmas.Str.{chars-IsAscii}
use Rattle.std.proofs.lemmas.Str.Ascii.{IsAscii-nil, IsAscii-cons}
use Rattle.pytoken.specs.declared.faults.TokenError.TheVariants.{FString}
use Rattle.pytoken.specs.declared.meanings.Meaning.{Meaning}
use Rattle.pytoken.specs.Escapes.{meanings, meanings_after, is_named_escape, is_bad_escape, escape_fault}
use Rattle.pytoken.specs.StringValues.{with_line_feeds, is_raw, is_bytes, is_formatted, body_of, nul_fault, literal_fault, string_fault}
use Rattle.pytoken.proofs.Callers.Bodies.{body_all, filter_all}
use Rattle.pytoken.specs.Inner.Readings.{is_plain}
use Rattle.pytoken.proofs.values.LiteralLemmas.{fault_none, literal_formatted, literal_sound}

-- a plain character is none of those that can be wrong
record Plain (c : ℕ) : Type 0 where
  low : nat_lt 0x7F c ≡ false
  escape : (c == 92) ≡ false
  nul : (c == 0) ≡ false

plain : (c : ℕ) → is_plain c ≡ true → Plain c
plain c is =
    let first = and_parts (nat_le c 0x7F) (not (c == 92) && not (c == 0)) is in
    let second = and_parts (not (c == 92)) (not (c == 0)) first.1 in
    record {
      low = le-ltb 0x7F c (leb-true c 0x7F first.0);
      escape = not-true (c == 92) second.0;
      nul = not-true (c == 0) second.1;
    }

-- no character of a plain text passes a test that no plain character passes
none_passes : (p : ℕ → Bool) → ((c : ℕ) → is_plain c ≡ true → p c ≡ false) → (t : List ℕ)
    → list_all is_plain t ≡ true → list_any p t ≡ false
none_passes p fails [] all = refl
none_passes p fails (c ∷ cs) all =
    let parts = and_parts (is_plain c) (list_all is_plain cs) all in
    let here = fails c parts.0 in
    rw here (none_passes p fails cs parts.1)

-- in a plain body nothing is an escape
no_escape : (p : Meaning → Bool) → ((m : ℕ) → p (Meaning.Point m) ≡ false) → (raw bytes : Bool) (cs : List ℕ)
    → list_all is_plain cs ≡ true →
    list_any p (meanings_after raw bytes 0 cs) ≡ false
no_escape p fails raw bytes [] all = refl
no_escape p fails raw bytes (c ∷ cs) all =
    let parts = and_parts (is_plain c) (list_all is_plain cs) all in
    let step : (not raw && (c == 92)) ≡ false = ap (λ (b : Bool). not raw && b) (plain c parts.0).escape ∙ and_right (not raw) false refl in
    let here = fails c in
    rw (step, here) (no_escape p fails raw bytes cs parts.1)

no_fault : (raw bytes : Bool) (cs : List ℕ) → list_all is_plain cs ≡ true → escape_fault (meanings raw bytes cs) ≡ None
unfolding meanings
no_fault raw bytes cs all =
    fault_none (meanings_after raw bytes 0 cs) (no_escape is_named_escape (λ m. refl) raw bytes cs all)
    (no_escape is_bad_escape (λ m. refl) raw bytes cs all)

plain_ascii : (bs : List ℕ) → list_all is_plain bs ≡ true → IsAscii bs
plain_ascii [] all = IsAscii-nil
plain_ascii (b ∷ bs) all =
    let parts = and_parts (is_plain b) (list_all is_plain bs) all in
    let first = and_parts (nat_le b 0x7F) (not (b == 92) && not (b == 0)) parts.0 in
    IsAscii-cons b bs (omega (arith, leb-true b 0x7F first.0)) (plain_ascii bs parts.1)

-- plain bytes are plain characters
pub plain_chars : (bs : List ℕ) → list_all is_plain bs ≡ true → list_all is_plain (chars bs) ≡ true
plain_chars bs all = ap (list_all is_plain) (chars-IsAscii bs (plain_ascii bs all)) ∙ all

pub plain_no_nul : (bs : List ℕ) → list_all is_plain bs ≡ true → nul_fault (chars bs) ≡ None
unfolding nul_fault
plain_no_nul bs all =
    let none = none_passes (λ c. c == 0) (λ c is. (plain c is).nul) (chars bs) (plain_chars bs all) in rw none refl

pub plain_formatted : (t : List ℕ) → is_formatted (with_line_feeds t) ≡ true → string_fault t ≡ Some FString
unfolding string_fault
plain_formatted t f = literal_formatted (with_line_feeds t) f

pub plain_sound : (t : List ℕ) → list_all is_plain t ≡ true → is_formatted (with_line_feeds t) ≡ false → string_fault t ≡ None
unfolding string_fault
plain_sound t all f =
    let l = with_line_feeds t in
    let kept : list_all is_plain l ≡ true = filter_all is_plain (λ c. not (c == 13)) t all in
    let high = none_passes (nat_lt 0x7F) (λ c is. (plain c is).low) l kept in
    literal_sound l f (no_fault (is_raw l) (is_bytes l) (body_of l) (body_all is_plain l kept))
    (ap (λ (b : Bool). is_bytes l && b) high ∙ and_right (is_bytes l) false refl)
    (none_passes (λ c. c == 0) (λ c is. (plain c is).nul) l kept)

pub any_fault : (t literal : List ℕ) → literal ≡ with_line_feeds t → literal_fault literal ≡ string_fault t
unfolding string_fault
any_fault t literal is = ap literal_fault is
