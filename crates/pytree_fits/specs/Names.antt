-- Identifiers, keywords, and the names that a well-formed tree holds (reference 2.3).
use Rattle.std.specs.Prelude.{ℕ, Bool, ◌&&◌, not, List, is_some}
use Rattle.unicode_normalization.specs.Forms.{Nfkc, is_in_form}
use Rattle.pylex_lexeme.specs.Lexemes
use Rattle.pytoken.specs.Keywords.{keyword_of}

-- one of the keywords (2.3.1)
abbrev pub is_keyword : List ℕ → Bool
is_keyword text = is_some (keyword_of text)

-- an identifier is a text that is a name as a lexeme (2.3)
abbrev pub is_identifier : List ℕ → Bool
is_identifier text = Lexemes.is_name text

-- a name of a well-formed tree: an identifier that is no keyword and is its own form NFKC
unfoldable pub is_name : List ℕ → Bool
is_name text = is_identifier text && not (is_keyword text) && is_in_form Nfkc text
