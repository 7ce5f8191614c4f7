-- All tokens that were given of a field's text, one after another.
use Rattle.std.specs.Prelude.{◌≡◌, ℕ, List, [], ◌∷◌, ◌++◌}
use Rattle.pyfstring_tokens.specs.FieldTokens.{FieldToken, field_tokens, tokens_ahead, opening, closing}

-- the tokens given are the n first ones after the parenthesis before the text
pub record AreGiven (text : List ℕ) (n : ℕ) (ts : List FieldToken) : Type 0 where
  pub parts : field_tokens text ≡ opening ∷ (ts ++ tokens_ahead text n)

-- they are all that stand between the parentheses
abbrev pub AreAll : List ℕ → List FieldToken → Type 0
AreAll text ts = field_tokens text ≡ opening ∷ (ts ++ closing ∷ [])
