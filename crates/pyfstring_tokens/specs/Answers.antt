-- What the calls of a reader of a field's tokens answer.
use Rattle.std.specs.Prelude.{◌≡◌, ℕ, ◌+◌, true, false, List, [], ◌∷◌}
use Rattle.pylex_lexeme.specs.declared.lexeme.Class.{Class}
use Rattle.pylex_listing.specs.EntryKinds.{kind_of, operator_of}
use Rattle.pyfstring_tokens.specs.declared.faults.FieldFault.{FieldFault}
use Rattle.pyfstring_tokens.specs.declared.faults.FieldFault.TheVariants as faults
use Rattle.pyfstring_tokens.specs.FieldTokens.{FieldToken, tokens_ahead, closing, has_fault, closes_outer, has_comment}

-- the token of a lexeme
abbrev pub field_token : Class → List ℕ → FieldToken
field_token k t = record { kind = kind_of k true; exact = operator_of k; text = t }

-- after n tokens of a text this one is the next
abbrev pub Gives : List ℕ → ℕ → Class → List ℕ → Type 0
Gives text n k t = tokens_ahead text n ≡ field_token k t ∷ tokens_ahead text (n + 1)

-- after n tokens of a text the parenthesis around it is closed, and that was all
pub record Ends (text : List ℕ) (n : ℕ) : Type 0 where
  pub last : tokens_ahead text n ≡ closing ∷ []
  pub whole : has_fault text ≡ false
  pub balanced : closes_outer text ≡ false
  pub uncommented : has_comment text ≡ false

-- why a text gives no more tokens
abbrev pub Refuses : List ℕ → FieldFault → Type 0
Refuses text faults.NoToken = has_fault text ≡ true
Refuses text faults.Unclosed = has_fault text ≡ true
Refuses text faults.Closer = closes_outer text ≡ true
Refuses text faults.Comment = has_comment text ≡ true
