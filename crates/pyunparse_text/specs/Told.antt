-- Tokens as they are handed out: their kinds, and their texts in UTF-8.
use Rattle.std.specs.Prelude.{◌++◌, Bool, true, false, List, [], ◌∷◌, Option, Some, None, option_map, if◌then◌else◌}
use Rattle.std.specs.Str.{encode_utf8_all}
use Rattle.std.specs.String.{string_bytes}
use Rattle.pyunparse_text.specs.Spacing
use Rattle.pyunparse_text.specs.Tokens.{PlainToken, token_of}
use Rattle.pyunparse_text.specs.Pieces.{Sited}
use Rattle.pyunparse_text.specs.Folds.{Step, Begin}
use Rattle.pyunparse_text.specs.Writing.{Writing, following, no_text, stepped}
use Rattle.pyunparse_text.specs.declared.pieces.Piece as given

-- of a token of the program
abbrev pub told : given.Piece → PlainToken
told p = record { kind = p.kind; text = string_bytes p.text }

-- of a token by its definition
abbrev pub in_bytes : Spacing.Piece → PlainToken
in_bytes p = record { kind = p.kind; text = encode_utf8_all p.text }

-- ---- A list of tokens while it is written.

-- the tokens, and the text of the f-string that is open after them
pub record Listed : Type 0 where
  pub tokens : List PlainToken
  pub string : Option Writing

abbrev pub listed : List PlainToken → Listed
listed ts = record { tokens = ts; string = None }

-- the open f-string, where a field of it is open too
abbrev pub field_of : Option Writing → Option Writing
field_of None = None
field_of (Some w) = if w.in_field then Some w else None

abbrev pub is_field : Option Writing → Bool
is_field None = false
is_field (Some w) = w.in_field

abbrev pub after_in : List PlainToken → Option Writing → Sited → Listed
after_in ts None p = listed (ts ++ token_of (p false) ∷ [])
after_in ts (Some w) p = record { tokens = ts; string = Some (following w (p true)) }

-- after a token
abbrev pub listed_after : Listed → Sited → Listed
listed_after l p = after_in l.tokens (field_of l.string) p

-- the text after which an f-string begins
abbrev pub or_none : Option Writing → Writing
or_none None = no_text
or_none (Some w) = w

-- after a step of the writing of an f-string
abbrev pub listed_stepped : Listed → Step → Listed
listed_stepped l Begin = record { tokens = l.tokens; string = Some (stepped (or_none (field_of l.string)) Begin) }
listed_stepped l s = record { tokens = l.tokens; string = option_map (λ w. stepped w s) l.string }
