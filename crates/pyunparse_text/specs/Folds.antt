-- What a writer is after tokens that are written one after another, and after an f-string that is written step by step.
use Rattle.std.specs.Prelude.{ℕ, Bool, true, false, List, [], ◌∷◌}
use Rattle.std.specs.Str.{encode_utf8_all}
use Rattle.pyfstring.specs.declared.parts.Conversion.{Conversion}
use Rattle.pylex_lexeme.specs.declared.kinds.Exact.TheVariants.{LPar, RPar}
use Rattle.pyunparse_text.specs.Spacing.{Piece}
use Rattle.pyunparse_text.specs.Written.{Element, Text, Field, Spec, End, leading, trailing}
use Rattle.pyunparse_text.specs.Pieces.{Sited, piece}

-- a token with its text in UTF-8
abbrev pub in_utf8 : Piece → Piece
in_utf8 p = record { kind = p.kind; text = encode_utf8_all p.text; before = p.before; following = p.following }

abbrev pub sited_in_utf8 : Sited → Sited
sited_in_utf8 p is_in_field = in_utf8 (p is_in_field)

-- a token that is the same in a field
abbrev pub anywhere : Piece → Sited
anywhere p is_in_field = p

-- a writer after some tokens
abbrev pub puts : {S : Type 0} → (S → Sited → S) → S → List Sited → S
puts after s [] = s
puts after s (p ∷ ps) = puts after (after s (sited_in_utf8 p)) ps

-- the bracket before an expression, where it is not bare, and the one after it
abbrev pub opened : Bool → List Sited
opened true = []
opened false = leading piece LPar ∷ []

abbrev pub closed : Bool → List Sited
closed true = []
closed false = trailing piece RPar ∷ []

-- ---- F-strings.

-- a step in the writing of an f-string, where it matters by whether that stands in a field itself
pub data Step : Type 0 where
  Begin : Step
  PutText : Bool → Bool → List ℕ → Step  -- whether the text is one of a format spec, too
  BeginField : Step
  EndExpression : Bool → Conversion → Step
  BeginSpec : Step
  EndField : Step

-- a writer after some elements of an f-string; the tokens of a field's expression are put by themselves
module _ {S : Type 0} (after : S → Sited → S) (step : S → Step → S) (is_in_field : Bool) where
  abbrev pub puts_element : S → Element Sited → S
  puts_element s (Text in_spec t) = step s (PutText is_in_field in_spec t)
  puts_element s (Field c ps) = step (puts after (step s BeginField) ps) (EndExpression is_in_field c)
  puts_element s Spec = step s BeginSpec
  puts_element s End = step s EndField

  abbrev pub puts_elements : S → List (Element Sited) → S
  puts_elements s [] = s
  puts_elements s (e ∷ es) = puts_elements (puts_element s e) es
