-- What the logical lines of a source are to a reader that has them one after another.
use Rattle.std.specs.Prelude.{◌≡◌, ℕ, Bool, true, false, List, [], ◌∷◌, ◌++◌, take, slice_get, Option, Some, None, Result, Ok, Err}
use Rattle.std.specs.List.{flat_map}
use Rattle.pysource.specs.declared.places.Place.{Place}
use Rattle.pysource.specs.Parts.{Parts}
use Rattle.pylex_listing.specs.Listing.{Source, listing}
use Rattle.pylex_listing.specs.Steps.{entries_of}
use Rattle.pytree_node.specs.declared.profiles.Extent.{Extent}
use Rattle.pytoken.specs.Terminals.{Terminal, terminals_of}
use Rattle.pytoken.specs.Tokens.{Token, Line, tokens_from, tokens, lines_from, lines}
use Rattle.pytoken.specs.MatchHeaders.{is_match}
use Rattle.pyparse_tokens.specs.declared.faults.ParseFault.{ParseFault}

-- the lines that end within the first entries of a listing, so many of them
abbrev pub lines_within : Source → ℕ → List Line
lines_within s n = lines_from [] [] (tokens_from s.text [] (take n (entries_of (listing s))))

-- A source in hand, and the extent of the language in which it is read; how many of its lines were given, which after a fault says
-- nothing; of
-- the line that is held its level, its start, its terminals and whether it looks like a `match` statement; where ENDMARKER starts, after
-- the
-- last line; and what each later call answers, once that is known.
pub record LineReading : Type 0 where
  pub source : Parts
  pub extent : Extent
  pub given : ℕ
  pub level : ℕ
  pub start : Place
  pub terminals : List Terminal
  pub is_match : Bool
  pub marker : Place
  pub outcome : Option (Result Bool ParseFault)

-- where the first of some tokens starts
abbrev pub first_start : List Token → Option Place
first_start [] = None
first_start (t ∷ ts) = Some t.start

-- what a token is to the grammar: one terminal, but for an f-string
abbrev pub token_terminals : Token → List Terminal
token_terminals t = terminals_of t.kind t.text

-- the line that is held is this one, which has a token
pub record Holds (l : Line) (r : LineReading) : Type 0 where
  pub level : r.level ≡ l.level
  pub terminals : r.terminals ≡ flat_map token_terminals l.tokens
  pub start : first_start l.tokens ≡ Some r.start
  pub is_match : r.is_match ≡ is_match l.tokens

-- the line of this number is held, the first of the source being 0
pub record HoldsLine (s : Source) (k : ℕ) (r : LineReading) : Type 0 where
  pub line : Line
  pub stands : slice_get (lines s) k ≡ Some line
  pub holds : Holds line r

-- the last token of a source, ENDMARKER, starts here
pub record EndsAt (s : Source) (p : Place) : Type 0 where
  pub before : List Token
  pub last : Token
  pub tokens : tokens s ≡ before ++ last ∷ []
  pub start : last.start ≡ p

-- a reader before the first line of a source, in an extent, which holds none
abbrev pub before_first : Parts → Extent → LineReading
before_first p extent = record {
  source = p;
  extent = extent;
  given = 0;
  level = 0;
  start = record { row = 1; column = 0 };
  terminals = [];
  is_match = false;
  marker = record { row = 1; column = 0 };
  outcome = None;
}

-- what each call answers after this answer: the same again, but for a line
abbrev pub outcome_of : Result Bool ParseFault → Option (Result Bool ParseFault)
outcome_of (Ok true) = None
outcome_of (Ok false) = Some (Ok false)
outcome_of (Err fault) = Some (Err fault)
