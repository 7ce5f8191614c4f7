-- One lexeme off the front of a text.
use Rattle.std.specs.Prelude.{◌≡◌, ℕ, ◌+◌, ◌<◌, Bool, true, false, not, if◌then◌else◌, ◌&&◌, ◌==◌, List, [], ◌∷◌, ◌++◌, length, drop}
use Rattle.std.specs.Prelude.{Option, Some, option_map}
use Rattle.std.specs.Str.{chars, IsUtf8}
use Rattle.pylex_lexeme.specs.declared.kinds.Exact.{Exact}
use Rattle.pylex_lexeme.specs.declared.kinds.Exact.TheVariants.{LPar, RPar, LSqb, RSqb, LBrace, RBrace, Comma}
use Rattle.pylex_lexeme.specs.declared.lexeme.Class.{Class}
use Rattle.pylex_lexeme.specs.Chars.{is_blank_char, starts_name, begins}
use Rattle.pylex_lexeme.specs.Strings.{opens_string}
use Rattle.pylex_lexeme.specs.Lengths.{begins_number}
use Rattle.pylex_lexeme.specs.Lexemes.{lexeme_at, lexeme_len}
use Rattle.pylex_lexeme.specs.Chars.{bytes_in}
use Rattle.pylex_lexeme.specs.Characters.{line_feed, carriage_return, hash, backslash, left_parenthesis, right_parenthesis}
use Rattle.pylex_lexeme.specs.Characters.{left_square_bracket, right_square_bracket, left_curly_bracket, right_curly_bracket, comma}

-- the longest lexeme at the front of old is taken, and its class is said; new is what is left, all of old where there is none
pub record TakesLexeme (old : List ℕ) (k : Option Class) (new : List ℕ) : Type 0 where
  pub «class» : k ≡ option_map (λ x. x.«class») (lexeme_at old)
  pub rest : new ≡ drop (lexeme_len old) old

-- what begins no name, comment, blanks, line end or join
abbrev pub starts_other : ℕ → Bool
starts_other c = not (starts_name c) && not (c == hash) && not (is_blank_char c) && not (c == line_feed) && not
    (c == carriage_return) && not (c == backslash)

-- no lexeme but an operator begins here
pub record BeginsOther (cs : List ℕ) : Type 0 where
  pub string : opens_string cs ≡ false
  pub number : begins_number cs ≡ false
  pub first : begins starts_other cs ≡ true

-- the front of a text, in bytes, is its first lexeme, of this class, and the rest is after it
pub record Cuts (bytes : List ℕ) (k : Class) (front back : List ℕ) : Type 0 where
  pub lexeme : lexeme_at (chars bytes) ≡ Some (record { «class» = k; text = chars front })
  pub whole : chars bytes ≡ chars front ++ chars back
  pub counted : bytes_in (chars front) ≡ length front
  pub sizes : length bytes ≡ length front + length back
  pub nonempty : 0 < length (chars front)
  pub front_utf8 : IsUtf8 front
  pub back_utf8 : IsUtf8 back

-- a character alone is this operator, and begins no longer one: the brackets and the comma
abbrev pub is_delimiter : Exact → ℕ → Bool
is_delimiter e c = elim e [
  | LPar ↦ c == left_parenthesis
  | RPar ↦ c == right_parenthesis
  | LSqb ↦ c == left_square_bracket
  | RSqb ↦ c == right_square_bracket
  | LBrace ↦ c == left_curly_bracket
  | RBrace ↦ c == right_curly_bracket
  | Comma ↦ c == comma
  | _ ↦ false
]

-- a text begins with LF, or with CR LF
abbrev pub begins_line_end : List ℕ → Bool
begins_line_end [] = false
begins_line_end (c ∷ []) = c == line_feed
begins_line_end (c ∷ d ∷ cs) = if c == line_feed then true else (c == carriage_return) && (d == line_feed)

-- a text begins with what makes a line logical: a lexeme other than blanks, a comment and a line end, or what begins none
unfoldable pub begins_significant : List ℕ → Bool
begins_significant [] = false
begins_significant (c ∷ cs) = not (is_blank_char c) && not (c == hash) && not (begins_line_end (c ∷ cs))
