-- Worked values of tokens and worked faults, by computation. The values are
-- those that Python 3.11 gives.
--
-- Carries: no contract; its rows are computed as it is checked. On: Computing.
use Rattle.std.proofs.Common.{◌≡◌, ℕ, ◌-◌, ◌^◌, List, [], ◌∷◌, ◌++◌, refl, Option, Some, None, true, false, map, replicate, pos, negsuc}
use Rattle.std.specs.Prelude.{codes}
use Rattle.std.specs.Float.Ieee.{inf, fin}
use Rattle.pynumber.specs.FloatValues.{float_value}
use Rattle.pylex_listing.specs.declared.kind.Kind.{Kind}
use Rattle.pylex_listing.specs.declared.kind.Kind.TheVariants as kinds
use Rattle.pytree_node.specs.Values.{Float, Imaginary, Str, Bytes}
use Rattle.pytree_node.specs.declared.profiles.Extent.{Extent}
use Rattle.pytree_node.specs.declared.profiles.Extent.TheVariants.{Plain, Whole}
use Rattle.pytoken.specs.declared.faults.TokenError.{TokenError}
use Rattle.pytoken.specs.declared.faults.TokenError.TheVariants as errors
use Rattle.pytoken.specs.declared.keywords.Keyword.TheVariants as words
use Rattle.pytoken.specs.Terminals.{Terminal, Ident, in_form, Word, Number, whole, Literal, terminal_of, fault_of}
use Rattle.pytoken.proofs.Computing.{values}

-- a text, and what it stands for
record Row : Type 0 where
  text : List ℕ
  terminal : Terminal

abbrev row : List ℕ → Terminal → Row
row t x = record { text = t; terminal = x }

-- each text, as one of a type, stands for its terminal, and has no fault in an extent
abbrev Stand : Extent → Kind → List Row → Type 0
Stand extent k rows =
    (map (λ r. terminal_of k r.text) rows ≡ map (λ r. r.terminal) rows) × (map (λ r. fault_of extent k r.text) rows ≡ map no_fault rows)
  where
    no_fault : Row → Option TokenError
    no_fault r = None

-- a text, and its fault
record Faulty : Type 0 where
  text : List ℕ
  fault : TokenError

abbrev faulty : List ℕ → TokenError → Faulty
faulty t e = record { text = t; fault = e }

-- each text, as one of a type, has its fault in an extent
abbrev AreFaulty : Extent → Kind → List Faulty → Type 0
AreFaulty extent k rows = map (λ r. fault_of extent k r.text) rows ≡ map (λ r. Some r.fault) rows

-- whole numbers
abbrev numbers : List Row
numbers =
    row (codes "0") (whole 0) ∷
    row (codes "00_0") (whole 0) ∷
    row (codes "1") (whole 1) ∷
    row (codes "12_345") (whole 12345) ∷
    row (codes "0xFf_0a") (whole 65290) ∷
    row (codes "0X1f") (whole 31) ∷
    row (codes "0o17") (whole 15) ∷
    row (codes "0O7_7") (whole 63) ∷
    row (codes "0b1_01") (whole 5) ∷
    row (codes "0B0") (whole 0) ∷
    row (codes "340282366920938463463374607431768211455") (whole 340282366920938463463374607431768211455) ∷
    row (codes "0xffffffffffffffffffffffffffffffff") (whole 340282366920938463463374607431768211455) ∷
    row (codes "0o3777777777777777777777777777777777777777777") (whole 340282366920938463463374607431768211455) ∷
    row (codes "0xe1") (whole 225) ∷
    row (codes "0b1") (whole 1) ∷
    []

numbers_stand : Stand Plain kinds.Number numbers
unfolding values
numbers_stand = (refl, refl)

-- numbers without a value in the plain language
abbrev faulty_numbers : List Faulty
faulty_numbers =
    faulty (codes "1.5") errors.Float ∷
    faulty (codes "1.") errors.Float ∷
    faulty (codes ".5") errors.Float ∷
    faulty (codes "1e5") errors.Float ∷
    faulty (codes "1E+5") errors.Float ∷
    faulty (codes "0.0") errors.Float ∷
    faulty (codes "1_0.0_1e-1_0") errors.Float ∷
    faulty (codes "012.5") errors.Float ∷
    faulty (codes "012e1") errors.Float ∷
    faulty (codes "1j") errors.Complex ∷
    faulty (codes "1.5J") errors.Complex ∷
    faulty (codes "012j") errors.Complex ∷
    faulty (codes "1e5j") errors.Complex ∷
    faulty (codes "340282366920938463463374607431768211456") errors.IntegerTooLarge ∷
    faulty (codes "0x100000000000000000000000000000000") errors.IntegerTooLarge ∷
    []

faulty_numbers_are : AreFaulty Plain kinds.Number faulty_numbers
unfolding values
faulty_numbers_are = refl

-- numbers of the whole language alone: a float is an odd number times a power of two
abbrev more_numbers : List Row
more_numbers =
    row (codes "1.5") (Number (Float (fin false 3 (negsuc 0)))) ∷
    row (codes ".5") (Number (Float (fin false 1 (negsuc 0)))) ∷
    row (codes "0.1") (Number (Float (fin false 3602879701896397 (negsuc 54)))) ∷
    row (codes "1e16") (Number (Float (fin false 152587890625 (pos 16)))) ∷
    row (codes "1_0.0_1e-1_0") (Number (Float (float_value (codes "10.01e-10")))) ∷
    row (codes "012.5") (Number (Float (fin false 25 (negsuc 0)))) ∷
    row (codes "0.0") (Number (Float (fin false 0 (pos 0)))) ∷
    row (codes "1e309") (Number (Float (inf false))) ∷
    row (codes "2j") (Number (Imaginary (fin false 1 (pos 1)))) ∷
    row (codes "1.5J") (Number (Imaginary (fin false 3 (negsuc 0)))) ∷
    row (codes "0j") (Number (Imaginary (fin false 0 (pos 0)))) ∷
    row (codes "340282366920938463463374607431768211456") (whole 340282366920938463463374607431768211456) ∷
    row (codes "0x" ++ replicate 64 102) (whole (2 ^ 256 - 1)) ∷
    row (replicate 4300 57) (whole (10 ^ 4300 - 1)) ∷
    row (codes "12") (whole 12) ∷
    []

more_numbers_stand : Stand Whole kinds.Number more_numbers
unfolding values
more_numbers_stand = (refl, refl)

-- numbers without a value in either
abbrev too_large_numbers : List Faulty
too_large_numbers =
    faulty (49 ∷ replicate 4300 48) errors.IntegerTooLarge ∷
    faulty (codes "0x" ++ replicate 3572 102) errors.IntegerTooLarge ∷
    []

too_large_numbers_are : AreFaulty Whole kinds.Number too_large_numbers
unfolding values
too_large_numbers_are = refl

-- texts
abbrev texts : List Row
texts =
    row (codes "''") (Literal (Str [] false)) ∷
    row (codes "\"\"") (Literal (Str [] false)) ∷
    row (codes "''''''") (Literal (Str [] false)) ∷
    row (codes "\"\"\"a\"b\"\"\"") (Literal (Str (codes "a\"b") false)) ∷
    row (codes "'a'") (Literal (Str (codes "a") false)) ∷
    row (codes "\"it's\"") (Literal (Str (codes "it's") false)) ∷
    row (codes "'\\777'") (Literal (Str (511 ∷ []) false)) ∷
    row (codes "'\\0'") (Literal (Str (0 ∷ []) false)) ∷
    row (codes "'\\08'") (Literal (Str (0 ∷ 56 ∷ []) false)) ∷
    row (codes "'\\1234'") (Literal (Str (codes "S4") false)) ∷
    row (codes "'\\x41\\x7e'") (Literal (Str (codes "A~") false)) ∷
    row (codes "'\\u00e9\\U0010ffff'") (Literal (Str (233 ∷ 1114111 ∷ []) false)) ∷
    row (codes "'\\ud800'") (Literal (Str (55296 ∷ []) false)) ∷
    row (codes "'\\q\\d\\%'") (Literal (Str (codes "\\q\\d\\%") false)) ∷
    row (codes "'\\\\\\'\\\"\\a\\b\\f\\n\\r\\t\\v'") (Literal (Str (92 ∷ 39 ∷ 34 ∷ 7 ∷ 8 ∷ 12 ∷ 10 ∷ 13 ∷ 9 ∷ 11 ∷ []) false)) ∷
    row (codes "'a\\\nb'") (Literal (Str (codes "ab") false)) ∷
    row (39 ∷ 97 ∷ 92 ∷ 13 ∷ 10 ∷ 98 ∷ 39 ∷ []) (Literal (Str (codes "ab") false)) ∷  -- 'a\\\r\nb'
    row (39 ∷ 39 ∷ 39 ∷ 97 ∷ 13 ∷ 10 ∷ 98 ∷ 39 ∷ 39 ∷ 39 ∷ []) (Literal (Str (codes "a\nb") false)) ∷  -- '''a\r\nb'''
    row (codes "r'\\n\\''") (Literal (Str (codes "\\n\\'") false)) ∷
    row (codes "R'\\x'") (Literal (Str (codes "\\x") false)) ∷
    row (codes "u'a'") (Literal (Str (codes "a") true)) ∷
    row (codes "U'a'") (Literal (Str (codes "a") false)) ∷
    row (codes "u'\\x41'") (Literal (Str (codes "A") true)) ∷
    row (39 ∷ 233 ∷ 39 ∷ []) (Literal (Str (233 ∷ []) false)) ∷  -- '\xe9'
    row (codes "r'\\N'") (Literal (Str (codes "\\N") false)) ∷
    []

texts_stand : Stand Plain kinds.String texts
unfolding values
texts_stand = (refl, refl)

-- bytes
abbrev literals_of_bytes : List Row
literals_of_bytes =
    row (codes "rb'\\N\\xg'") (Literal (Bytes (codes "\\N\\xg"))) ∷
    row (codes "Rb'\\''") (Literal (Bytes (codes "\\'"))) ∷
    row (codes "b'\\u00e9\\U\\N{x}'") (Literal (Bytes (codes "\\u00e9\\U\\N{x}"))) ∷
    row (codes "b'\\377\\xff'") (Literal (Bytes (255 ∷ 255 ∷ []))) ∷
    row (codes "BR'\\\\'") (Literal (Bytes (codes "\\\\"))) ∷
    []

literals_of_bytes_stand : Stand Plain kinds.String literals_of_bytes
unfolding values
literals_of_bytes_stand = (refl, refl)

-- strings with a fault: of several the first is told
abbrev faulty_strings : List Faulty
faulty_strings =
    faulty (codes "f''") errors.FString ∷
    faulty (codes "F'a'") errors.FString ∷
    faulty (codes "rf'{x}'") errors.FString ∷
    faulty (codes "fR'\\N'") errors.FString ∷
    faulty (codes "'\\N{DASH}'") errors.NamedEscape ∷
    faulty (codes "'\\N'") errors.NamedEscape ∷
    faulty (codes "'\\x4\\N{a}'") errors.NamedEscape ∷
    faulty (codes "'\\N\\x'") errors.NamedEscape ∷
    faulty (codes "'\\x4'") errors.BadEscape ∷
    faulty (codes "b'\\400'") errors.BadEscape ∷
    faulty (codes "'\\u12'") errors.BadEscape ∷
    faulty (codes "'\\U00110000'") errors.BadEscape ∷
    faulty (codes "'\\x'") errors.BadEscape ∷
    faulty (codes "b'\\xg'") errors.BadEscape ∷
    faulty (codes "'\\Uffffffff'") errors.BadEscape ∷
    faulty (98 ∷ 39 ∷ 233 ∷ 92 ∷ 120 ∷ 39 ∷ []) errors.BadEscape ∷  -- b'\xe9\\x'
    faulty (98 ∷ 39 ∷ 233 ∷ 39 ∷ []) errors.NonAsciiBytes ∷  -- b'\xe9'
    faulty (114 ∷ 98 ∷ 39 ∷ 233 ∷ 39 ∷ []) errors.NonAsciiBytes ∷  -- rb'\xe9'
    faulty (39 ∷ 0 ∷ 39 ∷ []) errors.Nul ∷  -- '\x00'
    faulty (114 ∷ 39 ∷ 0 ∷ 39 ∷ []) errors.Nul ∷  -- r'\x00'
    faulty (98 ∷ 39 ∷ 0 ∷ 39 ∷ []) errors.Nul ∷  -- b'\x00'
    []

faulty_strings_are : AreFaulty Plain kinds.String faulty_strings
unfolding values
faulty_strings_are = refl

-- a comment with a fault
abbrev faulty_comments : List Faulty
faulty_comments =
    faulty (35 ∷ 32 ∷ 0 ∷ []) errors.Nul ∷  -- # \x00
    []

faulty_comments_are : AreFaulty Plain kinds.Comment faulty_comments
unfolding values
faulty_comments_are = refl

-- names and keywords
abbrev names : List Row
names =
    row (codes "x") (in_form (codes "x")) ∷
    row (64257 ∷ []) (Ident (record { spelling = 64257 ∷ []; form = codes "fi" })) ∷  -- \ufb01
    row (codes "while") (Word words.While) ∷
    row (codes "None") (Word words.None) ∷
    row (codes "print") (in_form (codes "print")) ∷
    row (101 ∷ 769 ∷ []) (Ident (record { spelling = 101 ∷ 769 ∷ []; form = 233 ∷ [] })) ∷  -- e\u0301
    []

names_stand : Stand Plain kinds.Name names
unfolding values
names_stand = (refl, refl)

-- a name whose form is a keyword
abbrev faulty_names : List Faulty
faulty_names =
    faulty (65353 ∷ 65350 ∷ []) errors.NameForm ∷  -- \uff49\uff46
    []

faulty_names_are : AreFaulty Plain kinds.Name faulty_names
unfolding values
faulty_names_are = refl
