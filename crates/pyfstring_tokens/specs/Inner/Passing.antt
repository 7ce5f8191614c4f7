-- What stands between one token of a field and the next.
use Rattle.std.specs.Prelude.{◌≡◌, ℕ, ◌<◌, true, false, List, length, None}
use Rattle.std.specs.Str.{chars}
use Rattle.pylex_lexeme.specs.declared.lexeme.Class.{Class}
use Rattle.pylex_lexeme.specs.declared.lexeme.Class.TheVariants.{Comment}
use Rattle.pylex_lexeme.specs.Lexemes.{lexeme_at}
use Rattle.pylex_lexeme.specs.Cuts.{Cuts}
use Rattle.pyfstring_tokens.specs.FieldTokens.{is_gap, is_comment_class}
use Rattle.pyfstring_tokens.specs.declared.faults.FieldFault.{FieldFault}
use Rattle.pyfstring_tokens.specs.declared.faults.FieldFault.TheVariants as faults

-- From bytes past such lexemes, one after another, to those that are left.
pub data Passes (bytes : List ℕ) : List ℕ → Type 0 where
  here : Passes bytes bytes
  past : (rest front back : List ℕ) (k : Class) → Passes bytes rest → Cuts rest k front back → is_gap k ≡ true → Passes bytes back

-- the next token stands in bytes: its class, its text, and what is left after it
pub record TokenAhead (bytes : List ℕ) (k : Class) (front back : List ℕ) : Type 0 where
  pub rest : List ℕ
  pub passes : Passes bytes rest
  pub cuts : Cuts rest k front back
  pub no_gap : is_gap k ≡ false
  pub no_comment : is_comment_class k ≡ false

-- no lexeme stands where bytes are left
pub record NoneAhead (bytes : List ℕ) : Type 0 where
  pub rest : List ℕ
  pub passes : Passes bytes rest
  pub some : 0 < length (chars rest)
  pub none : lexeme_at (chars rest) ≡ None

-- a comment stands there
pub record CommentAhead (bytes : List ℕ) : Type 0 where
  pub rest : List ℕ
  pub front : List ℕ
  pub back : List ℕ
  pub passes : Passes bytes rest
  pub cuts : Cuts rest Comment front back

-- why no token stands next
abbrev pub Stops : List ℕ → FieldFault → Type 0
Stops bytes faults.NoToken = NoneAhead bytes
Stops bytes faults.Unclosed = ⊥
Stops bytes faults.Closer = ⊥
Stops bytes faults.Comment = CommentAhead bytes
