-- A reading without trees: what is asked for at the front of some terminals, and what is to come.
--
-- A derivation is a way from a question to its answer, and as each question has one next step, two derivations have one answer.
use Rattle.std.specs.Prelude.{ℕ, List, Option, Bool}
use Rattle.pylex_lexeme.specs.declared.kinds.Exact.{Exact}
use Rattle.pytree_node.specs.declared.operators.BoolOperator.{BoolOperator}
use Rattle.pytoken.specs.Terminals.{Terminal}
use Rattle.pygrammar.specs.declared.levels.Level.{Level}
use Rattle.pygrammar.specs.declared.pattern_levels.PatternLevel.{PatternLevel}
use Rattle.pygrammar.specs.Entries.{Item}
use Rattle.pygrammar.specs.PatternEntries.{PatternItem}
use Rattle.pygrammar.specs.FormattedStrings.{StringPart}
use Rattle.pyplaces.specs.Stretches.{Stretch}
use Rattle.pyplaces.specs.EntryPlaces.{EntryPlaces}
use Rattle.pyplaces.specs.PatternPlaces
use Rattle.pyplaces.specs.FormPlaces.{FormPlaces}

-- what stands between commas in a line
pub data Element : Type 0 where
  AParameter : Element  -- of types
  AnAlias : Element
  ADotted : Element
  ADeleted : Element
  AnItem : Element
  AName : Element

-- what is asked for
pub data Question : Type 0 where
  An : Level → Question
  More : Level → List Stretch → ℕ → Question  -- the operators of a level, after so many terminals with these places
  Trailers : List Stretch → ℕ → Question  -- what follows an Atom in a Primary
  Bounds : List Stretch → ℕ → Question  -- a Slice after its first bound, from the colon on
  Yielded : Question
  Perhaps : Level → Question
  Suffixed : Option Exact → Question
  Links : BoolOperator → Question
  Signs : Question
  Strings : Question
  Parts : Question
  Specified : Question
  Items : Item → Question
  Piece : Item → Question
  Clauses : Question
  Iteration : Question
  Conditions : Question
  ATarget : Question  -- a target in front of `in`
  LoneTarget : Question
  TargetList : Question
  Pattern : PatternLevel → Question
  Dotted : List Stretch → ℕ → Question  -- the rest of a dotted name
  Alternatives : Question
  Entries : PatternItem → Question
  Entry : PatternItem → Question
  Commaed : Element → Question
  Module : Question
  Dots : Question
  Valued : Question  -- what an `=` may stand after
  Statement : Question
  Statements : Question

-- what a run of literals and f-strings is: whether one is an f-string, its parts, and for each field the places in it by that of the run
pub record Row : Type 0 where
  pub is_formatted : Bool
  pub parts : List StringPart
  pub fields : Stretch → List (List Stretch)

abbrev pub row_of : Bool → List StringPart → (Stretch → List (List Stretch)) → Row
row_of is_formatted parts fields = record { is_formatted = is_formatted; parts = parts; fields = fields }

-- what answers it
abbrev pub Answer : Question → Type 0
Answer Strings = Row
Answer Parts = Row
Answer Specified = Stretch → List Stretch
Answer (Items i) = List EntryPlaces
Answer (Piece i) = EntryPlaces
Answer TargetList = List EntryPlaces
Answer (Entries i) = List PatternPlaces.EntryPlaces
Answer (Entry i) = PatternPlaces.EntryPlaces
Answer _ = List Stretch

-- what is still to come: a question at a place of the line, in front of some terminals, and how its answer, how many terminals that has
-- and those after them go on
pub data Reading : Type 0 where
  Done : FormPlaces → List Terminal → Reading
  Ask : (q : Question) → ℕ → List Terminal → (Answer q → ℕ → List Terminal → Reading) → Reading
