-- What the answer for a source with places says: the module that the grammar gives it, and the places of its derivation.
use Rattle.std.specs.Prelude.{◌≡◌, ℕ, List, length}
use Rattle.pylex_listing.specs.Listing.{Source}
use Rattle.pytree_node.specs.declared.profiles.Profile.{Profile}
use Rattle.pytree_node.specs.Trees.{Module}
use Rattle.pytree_dump_text.specs.Shows.{shown_module}
use Rattle.pytree_marked.specs.MarkedNodes.{marked}
use Rattle.pygrammar.specs.Refusals.{Accepted}
use Rattle.pyplaces.specs.LineStarts.{line_starts}
use Rattle.pyplaces.specs.ModulePlaces.{source_places}
use Rattle.pyplaces.specs.PlacesOf.{PlacesOf}

-- the source is accepted as this module; these are the spans of its marked nodes, in the order of the dump, one for each; and its lines
-- start
-- there, in bytes
pub record PlacedAs (profile : Profile) (s : Source) (bytes : List ℕ) (m : Module) (p : PlacesOf) : Type 0 where
  pub accepted : Accepted profile s m
  pub spans : p.spans ≡ source_places accepted
  pub starts : p.starts ≡ line_starts bytes
  pub fits : length p.spans ≡ marked (shown_module profile m)
