-- What stands between the quotes of a literal, character by character: escapes and what they stand for (reference 2.4.1).
use Rattle.std.specs.Prelude.{ℕ, zero, suc, ◌+◌, Bool, true, false, not, ◌&&◌, ◌==◌, nat_lt, nat_le, List, [], ◌∷◌, length, take, Option}
use Rattle.std.specs.Prelude.{Some, None}
use Rattle.std.specs.Prelude.{option_map, if◌then◌else◌}
use Rattle.std.specs.Char.{is_digit}
use Rattle.std.specs.List.{list_any, find, take_while}
use Rattle.std.specs.Str.Parse.{digits_value}
use Rattle.pytoken.specs.declared.faults.TokenError.{TokenError}
use Rattle.pytoken.specs.declared.faults.TokenError.TheVariants.{NamedEscape, BadEscape}
use Rattle.pytoken.specs.declared.meanings.Meaning.{Meaning}
use Rattle.pytoken.specs.declared.meanings.Meaning.TheVariants.{Point, Nothing, Wrong}
use Rattle.pylex_lexeme.specs.Characters.{tab, line_feed, form_feed, carriage_return, double_quote, single_quote, backslash}

-- what stands at a place, and how many more characters belong to it than the first
pub record Reading : Type 0 where
  pub meaning : Meaning
  pub more : ℕ

abbrev pub reads : Meaning → ℕ → Reading
reads m n = record { meaning = m; more = n }

-- an escape of one character after the backslash, and the point that it stands for
pub record Escape : Type 0 where
  pub letter : ℕ
  pub point : ℕ

abbrev esc : ℕ → ℕ → Escape
esc letter point = record { letter = letter; point = point }

-- these escapes, in the reference's order
abbrev pub escapes : List Escape
escapes =
    esc backslash backslash ∷  -- \\ a backslash
    esc single_quote single_quote ∷  -- \' a single quote
    esc double_quote double_quote ∷  -- \" a double quote
    esc 97 7 ∷  -- \a BEL
    esc 98 8 ∷  -- \b BS
    esc 102 form_feed ∷  -- \f FF
    esc 110 line_feed ∷  -- \n LF
    esc 114 carriage_return ∷  -- \r CR
    esc 116 tab ∷  -- \t TAB
    esc 118 11 ∷  -- \v VT
    []

abbrev pub escape_point : ℕ → Option ℕ
escape_point letter = option_map (λ e. e.point) (find (λ e. e.letter == letter) escapes)

-- the longest front of digits in a base, of at most n
abbrev pub digits_at_front : ℕ → ℕ → List ℕ → List ℕ
digits_at_front radix n cs = take_while (λ c. is_digit c radix) (take n cs)

-- \ooo: one to three octal digits, of which a byte is at most 377
abbrev pub octal : Bool → List ℕ → Reading
octal bytes ds = reads (if bytes && nat_lt 0xFF (digits_value 8 ds) then Wrong BadEscape else Point (digits_value 8 ds)) (length ds)

-- \xhh, \uxxxx, \Uxxxxxxxx: a letter and exactly n hexadecimal digits, of at most 10FFFF
abbrev pub hexadecimal : ℕ → List ℕ → Reading
hexadecimal n ds =
    reads (if (length ds == n) && nat_le (digits_value 16 ds) 0x10_FFFF then Point (digits_value 16 ds) else Wrong
    BadEscape) (1 + length ds)

-- how many hexadecimal digits a letter after a backslash asks for: x, and in texts u and U
abbrev pub hexadecimal_len : Bool → ℕ → ℕ
hexadecimal_len bytes c = if c == 120 then 2 else (if bytes then 0 else (if c == 117 then 4 else (if c == 85 then 8 else 0)))

-- \N{name}: in texts
abbrev pub names_character : Bool → ℕ → Bool
names_character bytes c = not bytes && (c == 78)

-- stringescapeseq ::= "\" <any source character>; bytesescapeseq ::= "\" <any ASCII character>
-- A backslash, by what stands after it. With a line end it is nothing; where no escape stands, it stands for itself.
unfoldable pub escaped_by : Bool → List ℕ → Reading
escaped_by bytes [] = reads (Point backslash) 0
escaped_by bytes (c ∷ cs) =
    if c == line_feed then reads Nothing 1
    else (if is_digit c 8 then octal bytes (digits_at_front 8 3 (c ∷ cs))
    else (if nat_lt 0 (hexadecimal_len bytes c) then hexadecimal (hexadecimal_len bytes c) (digits_at_front 16 (hexadecimal_len bytes c) cs)
    else (if names_character bytes c then reads (Wrong NamedEscape) 1
    else elim (escape_point c) [ Some p ↦ reads (Point p) 1 | None ↦ reads (Point backslash) 0 ])))

-- A character, by what stands after it: it stands for itself, but for a backslash of a literal that isn't raw.
abbrev pub reading : Bool → Bool → ℕ → List ℕ → Reading
reading raw bytes c cs = if not raw && (c == backslash) then escaped_by bytes cs else reads (Point c) 0

-- what stands in a text of which n more characters belong to the one before
abbrev pub meanings_after : Bool → Bool → ℕ → List ℕ → List Meaning
meanings_after raw bytes n [] = []
meanings_after raw bytes (suc n) (c ∷ cs) = meanings_after raw bytes n cs
meanings_after raw bytes zero (c ∷ cs) = let r = reading raw bytes c cs in r.meaning ∷ meanings_after raw bytes r.more cs

-- what stands in the body of a literal, one after another
unfoldable pub meanings : Bool → Bool → List ℕ → List Meaning
meanings raw bytes cs = meanings_after raw bytes 0 cs

-- the points that it stands for
abbrev pub points_in : Meaning → List ℕ
points_in (Point c) = c ∷ []
points_in Nothing = []
points_in (Wrong e) = []

abbrev pub is_named_escape : Meaning → Bool
is_named_escape m = elim m [ Wrong e ↦ elim e [ NamedEscape ↦ true | _ ↦ false ] | _ ↦ false ]

abbrev pub is_bad_escape : Meaning → Bool
is_bad_escape m = elim m [ Wrong e ↦ elim e [ BadEscape ↦ true | _ ↦ false ] | _ ↦ false ]

-- the fault of the escapes: one by name before a bad one, wherever they stand
unfoldable pub escape_fault : List Meaning → Option TokenError
escape_fault ms = if list_any is_named_escape ms then Some NamedEscape else (if list_any is_bad_escape ms then Some BadEscape else None)
