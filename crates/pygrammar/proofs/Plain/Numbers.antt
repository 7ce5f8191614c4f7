-- A token has no fault in the plain language where it has none in the whole one and its terminals are
-- plain.
--
-- Carries: is_token_plain, faultless_plain, plain_faultless, for Tokens, Law. On: Terminals,
-- FormattedStrings.
use Rattle.std.proofs.Common.{◌≡◌, ◌↔◌, inl, inr, refl, sym, ap, ◌∙◌, ℕ, ◌^◌, Bool, true, false, ◌&&◌, cond, List, Option, Some, None}
use Rattle.std.specs.Prelude.{nat_le, nat_lt}
use Rattle.std.specs.List.{list_all}
use Rattle.std.specs.Str.{encode_utf8_all}
use Rattle.std.specs.Float.Ieee as ieee
use Rattle.std.proofs.lemmas.Bool.{cases_Bool, and_parts, leb-false, lt-leb, ltb-true, lt-ltb}
use Rattle.pylex_lexeme.specs.declared.kinds.Exact.{Exact}
use Rattle.pylex_lexeme.specs.Operators.{exact_of}
use Rattle.pylex_listing.specs.declared.kind.Kind.{Kind}
use Rattle.pylex_listing.specs.declared.kind.Kind.TheVariants as kinds
use Rattle.pytree_node.specs.Values.{Int, Float, Imaginary, Str, Bytes}
use Rattle.pytree_node.specs.declared.profiles.Extent.TheVariants.{Plain, Whole}
use Rattle.pytoken.specs.declared.faults.TokenError.{TokenError}
use Rattle.pytoken.specs.declared.faults.TokenError.TheVariants as errors
use Rattle.pytoken.specs.declared.keywords.Keyword.{Keyword}
use Rattle.pytoken.specs.Keywords.{keyword_of}
use Rattle.pytoken.specs.NumberValues.{is_complex, is_real, whole_value, number_value, number_fault}
use Rattle.pytoken.specs.StringValues.{is_bytes, points_of, is_unicode, with_line_feeds, value_of, string_value}
use Rattle.pytoken.specs.FormattedStrings.{is_fstring}
use Rattle.pytoken.specs.Terminals.{Op, Word, Ident, Layout, terminal_of, single_fault, terminals_of, fault_of, expression}
use Rattle.pytoken.specs.Tokens.{Token}
use Rattle.pygrammar.specs.Extents.{is_plain_value}
use Rattle.pygrammar.proofs.Plain.Terminals.{is_terminal_plain}
use Rattle.pytoken.proofs.Callers.Singles.{one_terminal, of_single, plain_formatted}
use Rattle.pygrammar.proofs.Plain.FormattedStrings.{formatted_said}

-- ---- Numbers.

abbrev limit : ℕ
limit = 2 ^ 128

abbrev fault_if : Bool → Option TokenError
fault_if large = cond large (Some errors.IntegerTooLarge) None

none_if : (large : Bool) → fault_if large ≡ None → large ≡ false
none_if true h = absurd cc
none_if false h = refl

small : (n : ℕ) → (fault_if (nat_le limit n) ≡ None) ↔ (nat_lt n limit ≡ true)
small n = (
  λ h. lt-ltb n limit (leb-false limit n (none_if (nat_le limit n) h)),
  λ h. ap fault_if (lt-leb limit n (ltb-true n limit h)),
)

number_plain : (t : List ℕ) → (number_fault Plain t ≡ None) ↔ (is_plain_value (number_value t) ≡ true)
unfolding number_fault number_value
number_plain t = by (is_complex t) (is_real t) _ (whole_value t)
  where
    by : (c r : Bool) (x : ieee.Float) (n : ℕ) →
        (cond c (Some errors.Complex) (cond r (Some errors.Float) (fault_if (nat_le limit n))) ≡ None) ↔
        (is_plain_value (cond c (Imaginary x) (cond r (Float x) (Int n))) ≡ true)
    by true r x n = (λ h. absurd cc, λ h. absurd cc)
    by false true x n = (λ h. absurd cc, λ h. absurd cc)
    by false false x n = small n

-- ---- Tokens.

string_plain : (t : List ℕ) → is_plain_value (string_value t) ≡ true
unfolding string_value value_of
string_plain t = by (is_bytes (with_line_feeds t)) (points_of (with_line_feeds t)) (is_unicode (with_line_feeds t))
  where
    by : (b : Bool) (points : List ℕ) (unicode : Bool) → is_plain_value (cond b (Bytes points) (Str points unicode)) ≡ true
    by true points unicode = refl
    by false points unicode = refl

-- what is one terminal, and has no fault in the plain language, is plain
single_plain : (k : Kind) (t : List ℕ) → single_fault Plain k t ≡ None → is_terminal_plain (terminal_of k t) ≡ true
unfolding single_fault terminal_of
single_plain kinds.Number t h = (number_plain (encode_utf8_all t)).0 h
single_plain kinds.String t h = string_plain t
single_plain kinds.Name t h = by (keyword_of t) _
  where
    by : (o : Option Keyword) (form : List ℕ)
        → is_terminal_plain (elim o [ Some w ↦ Word w | None ↦ Ident (record { spelling = t; form = form }) ]) ≡ true
    by (Some w) form = refl
    by None form = refl
single_plain kinds.Op t h = by (exact_of t)
  where
    by : (o : Option Exact) → is_terminal_plain (elim o [ Some e ↦ Op e | None ↦ Layout ]) ≡ true
    by (Some e) = refl
    by None = refl
single_plain _ t h = refl

-- and what is plain, and has no fault in the whole language, has none in the plain one
plain_single : (k : Kind) (t : List ℕ) → is_terminal_plain (terminal_of k t) ≡ true → single_fault Whole k t ≡ None
    → single_fault Plain k t ≡ None
unfolding single_fault terminal_of
plain_single kinds.Number t p h = (number_plain (encode_utf8_all t)).1 p
plain_single _ t p h = h

-- so it is with each token
pub faultless_plain : (k : Kind) (t : List ℕ) → fault_of Plain k t ≡ None → list_all is_terminal_plain (terminals_of k t) ≡ true
faultless_plain k t h = elim (cases_Bool (is_fstring k t)) [
  | inl formatted ↦ absurd (let e = plain_formatted k t formatted in cc)
  | inr other ↦
      let plain = single_plain k t (sym (of_single Plain k t other) ∙ h) in
      ap (list_all is_terminal_plain) (one_terminal false expression k t other) ∙ ap (λ z. z && true) plain
]

pub plain_faultless : (k : Kind) (t : List ℕ) → list_all is_terminal_plain (terminals_of k t) ≡ true → fault_of Whole k t ≡ None
    → fault_of Plain k t ≡ None
plain_faultless k t p h = elim (cases_Bool (is_fstring k t)) [
  | inl formatted ↦ absurd (let e = formatted_said k t formatted h in cc)
  | inr other ↦
      let plain = and_parts (is_terminal_plain (terminal_of k t)) true
      (sym (ap (list_all is_terminal_plain) (one_terminal false expression k t other)) ∙ p) in
      of_single Plain k t other ∙ plain_single k t plain.0 (sym (of_single Whole k t other) ∙ h)
]

abbrev pub is_token_plain : Token → Bool
is_token_plain t = list_all is_terminal_plain (terminals_of t.kind t.text)
