-- What one pass over a listing keeps of its faults after some entries.
use Rattle.std.specs.Prelude.{◌≡◌, ℕ, ◌+◌, ◌-◌, ◌==◌, nat_lt, ◌&&◌, Bool, true, false, List, [], count_by, Option, Some, None}
use Rattle.std.specs.Prelude.{if◌then◌else◌}
use Rattle.pylex_listing.specs.declared.kind.Kind.{Kind}
use Rattle.pylex_listing.specs.declared.kind.Kind.TheVariants as kinds
use Rattle.pylex_listing.specs.declared.entries.Entry.{Entry}
use Rattle.pytoken.specs.declared.refusals.Refusal.{Refusal}
use Rattle.pytoken.specs.declared.refusals.Refusal.TheVariants.{TooDeep}
use Rattle.pytoken.specs.Inner.Following.{following}
use Rattle.pytoken.specs.Brackets.{opens, closes}
use Rattle.pytoken.specs.Indentation.{Margin, margin_at, margins}
use Rattle.pytoken.specs.Tokens.{is_open}
use Rattle.pytoken.specs.Refusals.{most_brackets, first_entry_refusal, first_too_deep}
use Rattle.pyparse_tokens.specs.declared.pass.Pass.{Pass}
use Rattle.pyparse_tokens.specs.Inner.Indenting.{Measures, Measured}
use Rattle.std.specs.Option.{option_or}

-- whether a line has tokens and no NEWLINE after an entry of this type, by whether it had before
abbrev pub still_open : Kind → Bool → Bool
still_open k begun = elim k [
  | kinds.Comment ↦ begun
  | kinds.Nl ↦ begun
  | kinds.Name ↦ true
  | kinds.Number ↦ true
  | kinds.String ↦ true
  | kinds.Op ↦ true
  | _ ↦ false
]

-- the refusal of a bracket that is one too many, after so many opening and closing ones
abbrev pub exceeding : Entry → ℕ → ℕ → Option Refusal
exceeding e opened closed = if opens e && nat_lt most_brackets (opened + 1 - closed) then Some (TooDeep e.start) else None

-- a count, with one more where that is said
abbrev pub counted : ℕ → Bool → ℕ
counted n more = if more then n + 1 else n

-- whether an entry of this type ends a line, after so many opening and closing brackets
abbrev pub line_ends : Kind → ℕ → ℕ → Bool
line_ends k opened closed = elim k [ kinds.Newline ↦ opened - closed == 0 | kinds.Nl ↦ opened - closed == 0 | _ ↦ false ]

-- the margins that an entry gives
abbrev pub given_margins : List ℕ → Entry → ℕ → ℕ → List Margin
given_margins text e opened closed = if line_ends e.kind opened closed then margin_at text e.to else []

-- what is kept of an entry that may be a bracket
pub record TakesBracket (e : Entry) (old new : Pass) : Type 0 where
  pub extent : new.extent ≡ old.extent
  pub begun : new.begun ≡ old.begun
  pub opened : new.opened ≡ counted old.opened (opens e)
  pub closed : new.closed ≡ counted old.closed (closes e)
  pub faulty : new.faulty ≡ old.faulty
  pub deep : new.deep ≡ option_or old.deep (exceeding e old.opened old.closed)
  pub indents : new.indents ≡ old.indents

-- what is kept after one entry more, with its refusal if it has a fault of its own
pub record Gains (text : List ℕ) (e : Entry) (own : Option Refusal) (old new : Pass) : Type 0 where
  pub extent : new.extent ≡ old.extent
  pub begun : new.begun ≡ still_open e.kind old.begun
  pub opened : new.opened ≡ counted old.opened (opens e)
  pub closed : new.closed ≡ counted old.closed (closes e)
  pub faulty : new.faulty ≡ option_or old.faulty own
  pub deep : new.deep ≡ option_or old.deep (exceeding e old.opened old.closed)
  pub indents : Measures (given_margins text e old.opened old.closed) old.indents new.indents

-- what is kept is what the entries say, in the extent that is kept
pub record Passed (text : List ℕ) (es : List Entry) (p : Pass) : Type 0 where
  pub begun : p.begun ≡ is_open (following [] es)
  pub opened : p.opened ≡ count_by opens (following [] es)
  pub closed : p.closed ≡ count_by closes (following [] es)
  pub faulty : p.faulty ≡ first_entry_refusal p.extent text es
  pub deep : p.deep ≡ first_too_deep most_brackets [] es
  pub indents : Measured (margins text es) p.indents

-- the first refusal that is kept
abbrev pub kept_refusal : Pass → Option Refusal
kept_refusal p = option_or p.faulty (option_or p.deep p.indents.mixed)
