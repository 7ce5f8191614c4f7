-- What holds of the values and the faults of tokens: what the text of a tree writes for a name or a constant stands for that again.
use Rattle.std.specs.Prelude.{◌≡◌, ◌↔◌, ℕ, ◌^◌, ◌<◌, Bool, true, false, ◌||◌, nat_lt, nat_le, List, ◌∷◌, map, reverse, Some, None, All}
use Rattle.std.specs.List.{list_all, flat_map}
use Rattle.std.specs.Str.{chars, all_scalars}
use Rattle.std.specs.Float.Ieee as ieee
use Rattle.unicode_normalization.specs.Forms.{nfkc}
use Rattle.pynumber.specs.Decimals.{decimal_text}
use Rattle.pynumber.specs.Readings.{most_digits}
use Rattle.pynumber.specs.FloatValues.{float_value}
use Rattle.pynumber.specs.FloatTexts.{float_source, imaginary_source}
use Rattle.pynumber.specs.Laws.{IsDouble}
use Rattle.pysource.specs.Reprs.{repr_chars, repr_text, repr_bytes}
use Rattle.pylex_lexeme.specs.Numbers.{is_decimal, is_radix, is_float, is_imaginary}
use Rattle.pylex_lexeme.specs.Lexemes.{is_name, cut}
use Rattle.pylex_listing.specs.declared.kind.Kind.TheVariants as kinds
use Rattle.pylex_listing.specs.Indentation.{widths}
use Rattle.pylex_listing.specs.Listing.{Source, listing}
use Rattle.pylex_listing.specs.Steps.{entries_of, fault_of as listing_fault}
use Rattle.pytree_node.specs.Points.{IsPoint}
use Rattle.pytree_node.specs.Values as value
use Rattle.pytree_node.specs.Values.{Str, Bytes}
use Rattle.pytree_node.specs.declared.profiles.Extent.TheVariants.{Plain, Whole}
use Rattle.pytoken.specs.declared.keywords.Keyword.{Keyword}
use Rattle.pytoken.specs.declared.faults.TokenError.TheVariants as errors
use Rattle.pytoken.specs.Keywords.{keyword_of, spelling_of}
use Rattle.pytoken.specs.NumberValues.{whole_value, number_value, number_fault, too_large}
use Rattle.pytoken.specs.Escapes.{meanings, points_in}
use Rattle.pytoken.specs.StringValues.{string_value, string_fault}
use Rattle.pytoken.specs.NameValues.{name_fault}
use Rattle.pytoken.specs.Terminals.{IsSound, Gives, fault_of, Word, in_form, Number, Literal}
use Rattle.pytoken.specs.Tokens.{Token, tokens}
use Rattle.pytoken.specs.Indentation.{margins}
use Rattle.pytoken.specs.Refusals.{refusal}

-- a name that a tree may hold: an identifier that is no keyword and is its own form NFKC
pub record IsProper (t : List ℕ) : Type 0 where
  pub name : is_name t ≡ true
  pub free : keyword_of t ≡ None
  pub form : nfkc t ≡ t

-- Each constant and each name of a tree comes back from its text. A whole number is written in decimal, a double as its shortest decimal, a
-- text and bytes by their repr.
pub record ComeBack : Type 0 where
  pub whole : (n : ℕ) → n < 10 ^ most_digits → Gives kinds.Number (decimal_text n) (Number (value.Int n))
  pub float : (x : ieee.Float) → IsDouble x → Gives kinds.Number (float_source x) (Number (value.Float x))
  pub imaginary : (x : ieee.Float) → IsDouble x → Gives kinds.Number (imaginary_source x) (Number (value.Imaginary x))
  pub text : (points : List ℕ) → All IsPoint points → Gives kinds.String (repr_chars points) (Literal (Str points false))
  pub unicode : (points : List ℕ) → All IsPoint points → Gives kinds.String (117 ∷ repr_chars points) (Literal (Str points true))
  pub bytes : (bs : List ℕ) → All (λ b. b < 0x100) bs → Gives kinds.String (repr_bytes bs) (Literal (Bytes bs))
  pub name : (t : List ℕ) → IsProper t → Gives kinds.Name t (in_form t)
  pub keyword : (k : Keyword) → Gives kinds.Name (spelling_of k) (Word k)
  -- a repr, in UTF-8, is of the repr's characters, though the points may be surrogates
  pub characters : (points : List ℕ) → All IsPoint points → chars (repr_text points) ≡ repr_chars points

-- what a faultless NAME that is no keyword stands for is a name that a tree may hold
abbrev pub NamesAreProper : Type 0
NamesAreProper = (t : List ℕ) → is_name t ≡ true → keyword_of t ≡ None → name_fault t ≡ None → IsProper (nfkc t)

-- A number's value, and its fault in the plain language, by its class (reference 2.4.5 to 2.4.7): an imaginary number is a complex literal,
-- a floating
-- point number is a float literal, and a whole number has a fault only where it is too large.
pub record IsByClass (t : List ℕ) : Type 0 where
  pub imaginary : is_imaginary t ≡ true → (number_fault Plain t ≡ Some errors.Complex) × (number_value t ≡ value.Imaginary (float_value t))
  pub float : is_float t ≡ true → (number_fault Plain t ≡ Some errors.Float) × (number_value t ≡ value.Float (float_value t))
  pub whole : (is_decimal t || is_radix t) ≡ true → (number_fault Plain t ≡ too_large (2 ^ 128) t) ×
      (number_value t ≡ value.Int (whole_value t))

abbrev pub FaultsAreByClass : Type 0
FaultsAreByClass = (t : List ℕ) → IsByClass t

-- a byte, as a test
abbrev pub is_byte : ℕ → Bool
is_byte b = nat_lt b 0x100

-- faultless bytes are of numbers below 256
abbrev pub BytesAreSmall : Type 0
BytesAreSmall = (t bs : List ℕ) → string_value t ≡ Bytes bs → string_fault t ≡ None → All (λ b. b < 0x100) bs

-- a code point, as a test
abbrev pub is_point : ℕ → Bool
is_point c = nat_le c 0x10_FFFF

-- what stands in the body of a literal stands for code points
abbrev pub PointsAreInRange : Type 0
PointsAreInRange = (raw bytes : Bool) (cs : List ℕ) → list_all is_point cs ≡ true
    → list_all is_point (flat_map points_in (meanings raw bytes cs)) ≡ true

-- The margins of a listing that comes to its end are of the lines that open and close its levels, one after another, and each is as wide, a
-- tab
-- going to the next multiple of 8, as the line is where an INDENT or DEDENT is decided (reference 2.1.8).
abbrev pub MarginsAreWidths : Type 0
MarginsAreWidths = (s : Source) → all_scalars s.text ≡ true → listing_fault (listing s) ≡ None
    → map (λ m. m.widths.eight) (margins s.text (entries_of (listing s))) ≡ reverse (widths (reverse (cut s.text)))

-- the laws of what tokens say
pub record AreLawful : Type 0 where
  pub constants : ComeBack
  pub names : NamesAreProper
  pub numbers : FaultsAreByClass
  pub bytes : BytesAreSmall
  pub points : PointsAreInRange
  pub margins : MarginsAreWidths

-- Where a source of Unicode characters isn't refused, each of its tokens is what its type says, and has no fault.
abbrev pub TokensAreSound : Source → Type 0
TokensAreSound s = all_scalars s.text ≡ true → refusal Whole s ≡ None → All (λ (t : Token). IsSound t.kind t.text) (tokens s)

-- A source is refused in the plain language for its tokens exactly where it is in the whole one, or where a literal is none in the plain
-- language: a
-- number, or an f-string.
abbrev pub ExtentsDifferInNumbers : Source → Type 0
ExtentsDifferInNumbers s =
    (refusal Plain s ≡ None) ↔ ((refusal Whole s ≡ None) × All (λ (t : Token). fault_of Plain t.kind t.text ≡ None) (tokens s))
