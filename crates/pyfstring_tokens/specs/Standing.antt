-- Where a reader of a field's tokens stands in the field's text.
use Rattle.std.specs.Prelude.{◌≡◌, ℕ, ◌+◌, true, false, List, [], ◌∷◌, ◌++◌, length, None}
use Rattle.std.specs.List.{list_any}
use Rattle.std.specs.Str.{chars, all_scalars}
use Rattle.pylex_lexeme.specs.Chars.{bytes_in}
use Rattle.pylex_lexeme.specs.Characters.{left_parenthesis, right_parenthesis}
use Rattle.pylex_lexeme.specs.Lexemes.{cut}
use Rattle.pylex_listing.specs.Listing.{listing}
use Rattle.pylex_listing.specs.Machine.{State, remaining}
use Rattle.pylex_listing.specs.Steps.{entries_of, fault_of}
use Rattle.pyfstring_tokens.specs.declared.field_tokens.FieldTokens.{FieldTokens}
use Rattle.pyfstring_tokens.specs.FieldTokens.{parenthesized, field_source, field_tokens, tokens_among, tokens_ahead, opening, closes_none}
use Rattle.pyfstring_tokens.specs.FieldTokens.{closes_outer, is_of_comment, has_comment}

abbrev pub closed : List ℕ → List ℕ
closed rest = rest ++ right_parenthesis ∷ []

-- After n tokens of a text, with so many of its brackets open, this rest is left. A lister of the text in parentheses would stand there
-- within
-- these, and have the same tokens and the same fault ahead.
pub record StandsAt (text : List ℕ) (n : ℕ) (rest : List ℕ) (within : ℕ) : Type 0 where
  pub before : List ℕ
  pub whole : text ≡ before ++ rest
  pub scalars : all_scalars text ≡ true
  pub state : State
  pub margin : state.margin ≡ false
  pub depth : state.depth ≡ within + 1
  pub offset : state.now.offset ≡ bytes_in (left_parenthesis ∷ before)
  pub tokens : tokens_ahead text n ≡ tokens_among (parenthesized text) (entries_of (remaining None state (closed rest)))
  pub fault : fault_of (listing (field_source text)) ≡ fault_of (remaining None state (closed rest))
  pub closers : closes_outer text ≡ closes_none within (cut rest)
  pub comments : has_comment text ≡ list_any is_of_comment (cut rest)

-- n tokens of a text have been given
abbrev pub StandsIn : FieldTokens → List ℕ → ℕ → Type 0
StandsIn f text n = StandsAt text n (chars f.rest.now) f.depth

-- the bytes that are left to a reader
abbrev pub bytes_left : FieldTokens → ℕ
bytes_left f = length f.rest.now

-- at the begin of a text, after the parenthesis before it
pub record Begins (f : FieldTokens) (text : List ℕ) : Type 0 where
  pub stands : StandsIn f text 0
  pub first : field_tokens text ≡ opening ∷ tokens_ahead text 0
