-- Where the expression of a field ends (reference 2.4.3).
use Rattle.std.specs.Prelude.{ℕ, zero, suc, ◌-◌, Bool, true, false, ◌&&◌, ◌||◌, ◌==◌, nat_lt, if◌then◌else◌, List, [], ◌∷◌, ◌++◌, length}
use Rattle.std.specs.Prelude.{take, drop, slice_get, Option, Some, None}
use Rattle.pyfstring.specs.declared.expressions.Bracket.{Bracket}
use Rattle.pyfstring.specs.declared.expressions.Bracket.TheVariants.{Round, Square, Curly}
use Rattle.pyfstring.specs.declared.expressions.Step.{Step}
use Rattle.pyfstring.specs.declared.expressions.Step.TheVariants.{Ends, Fails, Literal, Compares, Opens, Closes, Passes}
use Rattle.pyfstring.specs.Characters.{exclamation_mark, double_quote, hash, single_quote, left_parenthesis, right_parenthesis, colon}
use Rattle.pyfstring.specs.Characters.{less_than_sign, equals_sign, greater_than_sign, left_square_bracket, backslash, right_square_bracket}
use Rattle.pyfstring.specs.Characters.{left_curly_bracket, right_curly_bracket}
use Rattle.pyfstring.specs.Texts.{begins_with}

abbrev pub is_quote : ℕ → Bool
is_quote c = (c == single_quote) || (c == double_quote)

-- "Backslashes are not allowed in format expressions", nor is a comment.
abbrev pub is_refused : ℕ → Bool
is_refused c = (c == backslash) || (c == hash)

-- what may follow an expression: "}", "!" conversion, ":" format_spec, "="
abbrev pub is_end : ℕ → Bool
is_end c = (c == right_curly_bracket) || (c == exclamation_mark) || (c == colon) || (c == equals_sign)

abbrev pub opened_by : ℕ → Option Bracket
opened_by c = if c == left_parenthesis then Some Round else (if c == left_square_bracket then Some Square else
    (if c == left_curly_bracket then Some Curly else None))

abbrev pub closed_by : ℕ → Option Bracket
closed_by c = if c == right_parenthesis then Some Round else (if c == right_square_bracket then Some Square else
    (if c == right_curly_bracket then Some Curly else None))

abbrev pub same_bracket : Bracket → Bracket → Bool
same_bracket Round Round = true
same_bracket Square Square = true
same_bracket Curly Curly = true
same_bracket _ _ = false

-- "!=", "==", "<=" or ">="
abbrev pub begins_comparison : List ℕ → Bool
begins_comparison [] = false
begins_comparison (c ∷ cs) = ((c == exclamation_mark) || (c == equals_sign) || (c == less_than_sign) || (c == greater_than_sign)) &&
    begins_with equals_sign cs

-- the same character three times
abbrev pub begins_three : ℕ → List ℕ → Bool
begins_three c cs = begins_with c cs && begins_with c (drop 1 cs) && begins_with c (drop 2 cs)

-- the brackets that are open in an expression at most: with the pair that is thought around it 600
abbrev pub most_open : ℕ
most_open = 599

abbrev pub is_last : Option Bracket → Bracket → Bool
is_last None b = false
is_last (Some o) b = same_bracket o b

-- what a character is, by the bracket that it opens or closes, where these are open, the last one last
abbrev pub bracket_step : List Bracket → Option Bracket → Option Bracket → Step
bracket_step opened (Some b) _ = if nat_lt (length opened) most_open then Opens b else Fails
bracket_step opened None (Some b) = if is_last (slice_get opened (length opened - 1)) b then Closes else Fails
bracket_step opened None None = Passes

abbrev pub is_empty : List Bracket → Bool
is_empty opened = length opened == 0

-- what stands at the front outside literals
unfoldable pub step : List Bracket → List ℕ → Step
step opened [] = Fails
step opened (c ∷ cs) =
    if is_quote c then Literal
    else (if is_refused c then Fails
    else (if is_empty opened && begins_comparison (c ∷ cs) then Compares
    else (if is_empty opened && is_end c then Ends
    else bracket_step opened (opened_by c) (closed_by c))))

-- in no literal, in a short or in a long one with this quote
pub data Inside : Type 0 where
  expression : Inside
  shortstring : ℕ → Inside
  longstring : ℕ → Inside

-- What stands after an expression, read from here on; none where it has no end, or has what no expression has. The first n characters were
-- read
-- already.
abbrev pub scan : Inside → List Bracket → ℕ → List ℕ → Option (List ℕ)
scan inside opened n [] = None
scan inside opened (suc n) (c ∷ cs) = scan inside opened n cs
scan expression opened zero (c ∷ cs) = elim (step opened (c ∷ cs)) [
  | Ends ↦ Some (c ∷ cs)
  | Fails ↦ None
  | Literal ↦ elim (begins_three c (c ∷ cs)) [ true ↦ scan (longstring c) opened 2 cs | false ↦ scan (shortstring c) opened 0 cs ]
  | Compares ↦ scan expression opened 1 cs
  | Opens b ↦ scan expression (opened ++ b ∷ []) 0 cs
  | Closes ↦ scan expression (take (length opened - 1) opened) 0 cs
  | Passes ↦ scan expression opened 0 cs
]
scan (shortstring q) opened zero (c ∷ cs) = elim (c == backslash) [
  | true ↦ None
  | false ↦ elim (c == q) [ true ↦ scan expression opened 0 cs | false ↦ scan (shortstring q) opened 0 cs ]
]
scan (longstring q) opened zero (c ∷ cs) = elim (c == backslash) [
  | true ↦ None
  | false ↦ elim (begins_three q (c ∷ cs)) [ true ↦ scan expression opened 2 cs | false ↦ scan (longstring q) opened 0 cs ]
]

-- what stands after the expression at the front
unfoldable pub following_expression : List ℕ → Option (List ℕ)
following_expression cs = scan expression [] 0 cs
