-- The texts of a body and of its format specs (reference 2.4.3).
use Rattle.std.specs.Prelude.{ℕ, zero, suc, ◌+◌, Bool, false, not, ◌&&◌, ◌||◌, ◌==◌, if◌then◌else◌, List, [], ◌∷◌, drop}
use Rattle.std.specs.List.{prefix_len}
use Rattle.pyfstring.specs.Characters.{backslash, capital_n, left_curly_bracket, right_curly_bracket}

-- the first character is there, and passes
abbrev pub begins : (ℕ → Bool) → List ℕ → Bool
begins f [] = false
begins f (c ∷ cs) = f c

-- the first character is this one
abbrev pub begins_with : ℕ → List ℕ → Bool
begins_with c cs = begins (λ d. d == c) cs

abbrev pub is_brace : ℕ → Bool
is_brace c = (c == left_curly_bracket) || (c == right_curly_bracket)

-- literal_char ::= <any code point except "{", "}" or NULL>
abbrev pub is_literal_char : ℕ → Bool
is_literal_char c = not (is_brace c)

-- a backslash, and a character that is no brace
abbrev pub begins_escape : List ℕ → Bool
begins_escape cs = begins_with backslash cs && begins is_literal_char (drop 1 cs)

abbrev pub is_no_closing : ℕ → Bool
is_no_closing c = not (c == right_curly_bracket)

-- How many characters an escape has, so far as there are any: `\N{` with all up to and with the next `}`, `\N` with one more, a backslash
-- with the one after it.
abbrev pub escape_len : List ℕ → ℕ
escape_len cs =
    if not (begins_with capital_n (drop 1 cs)) then 2
    else (if not (begins_with left_curly_bracket (drop 2 cs)) then 3 else 3 + (prefix_len is_no_closing (drop 3 cs) + 1))

-- "{{" | "}}"
abbrev pub begins_pair : List ℕ → Bool
begins_pair [] = false
begins_pair (c ∷ cs) = is_brace c && begins_with c cs

-- How many characters the unit of a text has that stands at the front, 0 where none does. In a raw literal there are no escapes; in a spec
-- there
-- are no pairs.
-- f_string    ::= (literal_char | "{{" | "}}" | replacement_field)*
-- format_spec ::= (literal_char | replacement_field)*
unfoldable pub unit_len : Bool → Bool → List ℕ → ℕ
unit_len is_raw has_pairs cs =
    if not is_raw && begins_escape cs then escape_len cs
    else (if has_pairs && begins_pair cs then 2
    else (if begins is_literal_char cs then 1 else 0))

-- what is left after the longest run of units, where the first n characters belong to a unit already
abbrev pub units_after : Bool → Bool → ℕ → List ℕ → List ℕ
units_after is_raw has_pairs n [] = []
units_after is_raw has_pairs (suc n) (c ∷ cs) = units_after is_raw has_pairs n cs
units_after is_raw has_pairs zero (c ∷ cs) = elim (unit_len is_raw has_pairs (c ∷ cs)) [
  | zero ↦ c ∷ cs
  | suc n ↦ units_after is_raw has_pairs n cs
]

-- what stands after the text at the front: the longest run of units
unfoldable pub after_text : Bool → Bool → List ℕ → List ℕ
after_text is_raw has_pairs cs = units_after is_raw has_pairs 0 cs
