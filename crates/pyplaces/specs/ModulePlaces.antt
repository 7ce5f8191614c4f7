-- The places of an accepted source: those of its block, over the forms of its lines.
use Rattle.std.specs.Prelude.{List, [], ◌∷◌}
use Rattle.pylex_listing.specs.Listing.{Source}
use Rattle.pytree_node.specs.declared.profiles.Profile.{Profile}
use Rattle.pytree_node.specs.Trees.{Module}
use Rattle.pytoken.specs.Tokens as Tokens
use Rattle.pyparse_marks.specs.LineSpans.{line_spans}
use Rattle.pygrammar.specs.Lines as Lines
use Rattle.pygrammar.specs.Refusals.{Accepted, Formed, formed_end, formed_line}
use Rattle.pyplaces.specs.Stretches.{Span}
use Rattle.pyplaces.specs.FormPlaces.{places_at}
use Rattle.pyplaces.specs.BlockPlaces.{LinePlaces, line_of, block_places}

abbrev pub formed_places : {profile : Profile} {earlier : List Lines.Line} {xs : List Tokens.Line} {ys : List Lines.Line}
    → (Tokens.Line → List Span) → Formed profile earlier xs ys → List LinePlaces
formed_places spans formed_end = []
formed_places spans (formed_line {x = x} h r) = line_of (spans x) (places_at h.is) ∷ formed_places spans r

abbrev pub module_places : {profile : Profile} {s : Source} {m : Module} → (Tokens.Line → List Span) → Accepted profile s m → List Span
module_places spans a = block_places (formed_places spans a.formed) a.block

-- by the spans of the terminals of its own lines
abbrev pub source_places : {profile : Profile} {s : Source} {m : Module} → Accepted profile s m → List Span
source_places {s = s} a = module_places (line_spans s.text) a
