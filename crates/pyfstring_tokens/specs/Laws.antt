-- The tokens of a field's text are those of its own lexemes.
use Rattle.std.specs.Prelude.{◌≡◌, ℕ, false, List, [], ◌∷◌, count_by, if◌then◌else◌}
use Rattle.pylex_lexeme.specs.Lexemes.{Lexeme, cut, left_by_cut}
use Rattle.pylex_listing.specs.Lines.{opens, closes}
use Rattle.pyfstring_tokens.specs.FieldTokens.{FieldToken, is_gap, has_fault, closes_outer, has_comment}
use Rattle.pyfstring_tokens.specs.Answers.{field_token}
use Rattle.pyfstring_tokens.specs.Given.{AreAll}

-- the tokens of some lexemes: blanks, line ends and joins give none
abbrev pub tokens_of : List Lexeme → List FieldToken
tokens_of [] = []
tokens_of (x ∷ xs) = if is_gap x.«class» then tokens_of xs else field_token x.«class» x.text ∷ tokens_of xs

-- A text is cut to its end, as many of its brackets close as open, none closes what the text didn't open, and it has no comment.
pub record IsWhole (text : List ℕ) : Type 0 where
  pub end : left_by_cut text ≡ []
  pub closed : count_by opens (cut text) ≡ count_by closes (cut text)
  pub balanced : closes_outer text ≡ false
  pub uncommented : has_comment text ≡ false

-- Such a text in parentheses has its tokens between these, and no fault; and no other text has none, unless it closes what it didn't open
-- or has a
-- comment.
pub record HasOwnTokens (text : List ℕ) : Type 0 where
  pub all : IsWhole text → AreAll text (tokens_of (cut text))
  pub faultless : IsWhole text → has_fault text ≡ false
  pub whole : has_fault text ≡ false → closes_outer text ≡ false → has_comment text ≡ false → IsWhole text
