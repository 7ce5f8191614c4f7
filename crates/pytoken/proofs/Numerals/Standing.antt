-- The texts that are written for numbers stand for them, and have no fault in the whole language.
-- Carries: come_back. On: Lexemes, NumberKinds.
use Rattle.std.proofs.Common.{◌≡◌, ℕ, ◌^◌, ◌<◌, List, ap, ◌∙◌, refl, arith, None}
use Rattle.std.specs.Float.Ieee.{Float}
use Rattle.std.specs.Str.{IsAscii}
use Rattle.std.proofs.lemmas.Bool.{lt-leb}
use Rattle.std.proofs.lemmas.Str.{encodes-IsAscii}
use Rattle.pynumber.specs.Decimals.{decimal_text}
use Rattle.pynumber.specs.Readings.{most_digits}
use Rattle.pynumber.specs.FloatTexts.{float_source, imaginary_source}
use Rattle.pynumber.specs.Laws.{IsDouble}
use Rattle.pynumber.proofs.Callers.Law.{floats_are_lawful}
use Rattle.pylex_listing.specs.declared.kind.Kind.TheVariants as kinds
use Rattle.pytree_node.specs.Values as value
use Rattle.pytree_node.specs.Values.{Value}
use Rattle.pytree_node.specs.declared.profiles.Extent.TheVariants.{Whole}
use Rattle.pytoken.specs.NumberValues.{whole_value, number_value, number_fault}
use Rattle.pytoken.specs.Terminals.{Number, terminal_of, single_fault}
use Rattle.pytoken.proofs.Constants.{Stands}
use Rattle.pytoken.proofs.NumberKinds.{fault_complex, fault_real, fault_none, value_complex, value_real, value_whole}
use Rattle.pytoken.proofs.Numerals.Lexemes.{IsNumeral, float_lexeme, imaginary_lexeme, whole_lexeme, float_numeral, imaginary_numeral}
use Rattle.pytoken.proofs.Numerals.Lexemes.{whole_numeral}

-- a number is ASCII, so its bytes are its characters

is_value : (t : List ℕ) (v : Value) → IsAscii t → number_value t ≡ v → terminal_of kinds.Number t ≡ Number v
unfolding terminal_of
is_value t v ascii is = ap (λ (u : List ℕ). Number (number_value u)) (encodes-IsAscii t ascii) ∙ ap Number is

is_faultless : (t : List ℕ) → IsAscii t → number_fault Whole t ≡ None → single_fault Whole kinds.Number t ≡ None
unfolding single_fault
is_faultless t ascii none = ap (number_fault Whole) (encodes-IsAscii t ascii) ∙ none

stands : (t : List ℕ) (v : Value) → IsNumeral t → number_value t ≡ v → number_fault Whole t ≡ None → Stands kinds.Number t (Number v)
stands t v numeral is none = record {
  terminal = is_value t v numeral.ascii is;
  single = refl;
  faultless =
      is_faultless t numeral.ascii none;
}

pub whole_stands : (n : ℕ) → n < 10 ^ most_digits → Stands kinds.Number (decimal_text n) (Number (value.Int n))
whole_stands n small =
    let t = decimal_text n in
    let lexeme = whole_lexeme n in
    let worth = lexeme.1.1.0 in
    let real = lexeme.1.1.1.0 in
    let complex = lexeme.1.1.1.1 in
    stands t (value.Int n) (whole_numeral n) (value_whole t complex real ∙ ap value.Int worth)
    (fault_none Whole t complex real (lt-leb (10 ^ most_digits) (whole_value t) (omega (arith, worth, small))))

pub float_stands : (x : Float) → IsDouble x → Stands kinds.Number (float_source x) (Number (value.Float x))
float_stands x double =
    let t = float_source x in
    let lexeme = float_lexeme x double in
    let real = lexeme.1.1.0 in
    let complex = lexeme.1.1.1 in
    stands t (value.Float x) (float_numeral x double) (value_real t complex real ∙ ap value.Float (floats_are_lawful.back x double).source)
    (fault_real Whole t complex real)

pub imaginary_stands : (x : Float) → IsDouble x → Stands kinds.Number (imaginary_source x) (Number (value.Imaginary x))
imaginary_stands x double =
    let t = imaginary_source x in
    let complex = (imaginary_lexeme x double).1.1 in
    stands t (value.Imaginary x) (imaginary_numeral x double)
    (value_complex t complex ∙ ap value.Imaginary (floats_are_lawful.back x double).imaginary_source)
    (fault_complex Whole t complex)
