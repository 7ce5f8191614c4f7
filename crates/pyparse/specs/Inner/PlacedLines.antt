-- What is known of the places of a source after some of its lines.
use Rattle.std.specs.Prelude.{◌≡◌, ℕ, false, List, []}
use Rattle.pylex_listing.specs.Listing.{Source}
use Rattle.pytree_node.specs.declared.profiles.Profile.{Profile}
use Rattle.pytoken.specs.Inner.Following.{following}
use Rattle.pytoken.specs.Tokens as Tokens
use Rattle.pygrammar.specs.Lines.{Line}
use Rattle.pygrammar.specs.Refusals.{Formed}
use Rattle.pyparse_marks.specs.LineSpans.{line_spans}
use Rattle.pyparse_marks.specs.Spans.{Span}
use Rattle.pyplaces.specs.BlockPlaces.{LinePlaces}
use Rattle.pyplaces.specs.ModulePlaces.{formed_places}
use Rattle.pyplaces.specs.StateOf.{Follows}
use Rattle.pyparse.specs.declared.placed.PlacedProgress.{PlacedProgress}
use Rattle.pyparse_block.specs.LastLines.{HoldsLastLines}
use Rattle.pyparse_block.specs.Known.{first_lines, is_unread, IsKnown}

-- these are the forms of some lines, and these their places
pub record PlacedLines (profile : Profile) (earlier : List Line) (spans : Tokens.Line → List Span) (xs : List Tokens.Line)
    (forms : List Line) (zs : List LinePlaces) : Type 0 where
  pub formed : Formed profile earlier xs forms
  pub are : formed_places spans formed ≡ zs

-- the forms of so many lines; what says where a further one stands; and where each has a form, the places of their statements
pub record IsPlaced (profile : Profile) (s : Source) (k : ℕ) (p : PlacedProgress) : Type 0 where
  pub forms : List Line
  pub known : IsKnown profile s k forms p.progress.known
  pub last_lines : HoldsLastLines (following [] forms) p.progress.last_lines
  pub zs : List LinePlaces
  pub placed : is_unread p.progress.known ≡ false
      → PlacedLines profile [] (line_spans s.text) (first_lines s k) forms zs × Follows forms zs p.stack
