-- What holds of the places of an accepted source whose text is of Unicode characters, as that of each decoded source is.
use Rattle.std.specs.Prelude.{◌≡◌, ℕ, true, List}
use Rattle.std.specs.Str.{all_scalars}
use Rattle.pylex_lexeme.specs.Chars.{bytes_in}
use Rattle.pylex_listing.specs.Listing.{Source}
use Rattle.pytree_node.specs.declared.profiles.Profile.{Profile}
use Rattle.pytree_node.specs.Trees.{Module, Stmt}
use Rattle.pyparse_marks.specs.Spans.{Span}
use Rattle.pyparse_marks.specs.LineSpans.{line_spans}
use Rattle.pygrammar.specs.Refusals.{Accepted}
use Rattle.pyplaces.specs.ModulePlaces.{formed_places, source_places}
use Rattle.pyplaces.specs.Laws.{AreInOrder, LinesInOrder, statement_spans}
use Rattle.pyplaces.specs.EachBlock.{InBlock}
use Rattle.pyplaces.specs.Laminar.{IsAmong, AreClearIn}
use Rattle.pyplaces.specs.Nesting.{AllHoldTheirParts}

-- each line ends before the next begins, and so do the statements in a line
abbrev pub LinesAreInOrder : Type 0
LinesAreInOrder = (profile : Profile) (s : Source) (m : Module) (a : Accepted profile s m) → all_scalars s.text ≡ true
    → LinesInOrder profile 0 a.forms (formed_places (line_spans s.text) a.formed) (bytes_in s.text)

-- each statement of the module ends before the next begins
abbrev pub StatementsAreInOrder : Type 0
StatementsAreInOrder = (profile : Profile) (s : Source) (m : Module) (a : Accepted profile s m) → all_scalars s.text ≡ true
    → AreInOrder 0 (statement_spans profile m.body (source_places a)) (bytes_in s.text)

-- The statements of a block and their spans: each statement's own holds what is in it, and ends before the next begins.
pub record IsLaidOut (profile : Profile) (ss : List Stmt) (ps : List Span) : Type 0 where
  pub rooted : AllHoldTheirParts profile ss ps
  pub from : ℕ
  pub to : ℕ
  pub order : AreInOrder from (statement_spans profile ss ps) to

-- so it is with the module's block, and with each block inside its statements
abbrev pub BlocksAreLaidOut : Type 0
BlocksAreLaidOut = (profile : Profile) (s : Source) (m : Module) (a : Accepted profile s m) → all_scalars s.text ≡ true
    → IsLaidOut profile m.body (source_places a)
    × InBlock (IsLaidOut profile) (formed_places (line_spans s.text) a.formed) a.block

-- Of any two spans one holds the other, or one ends no later than the other begins: but of two of one line that both begin or end within an
-- f-string (of whose terminals pyplaces says it).
abbrev pub PlacesAreClear : Type 0
PlacesAreClear = (profile : Profile) (s : Source) (m : Module) (a : Accepted profile s m) → all_scalars s.text ≡ true → (p q : Span)
    → IsAmong p (source_places a) → IsAmong q (source_places a)
    → AreClearIn (line_spans s.text) a.formed p q

pub record SourcePlacesAreLawful : Type 0 where
  pub lines : LinesAreInOrder
  pub statements : StatementsAreInOrder
  pub blocks : BlocksAreLaidOut
  pub clear : PlacesAreClear
