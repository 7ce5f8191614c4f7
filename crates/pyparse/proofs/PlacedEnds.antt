-- Carries: PlacedProgress::finish, Known::finish. On: the places of all lines of a source.
use Rattle.std.proofs.Common.{◌≡◌, ℕ, false, List, [], length, sym, ap, ◌∙◌, subst}
use Rattle.pysource.specs.declared.places.Place.{Place}
use Rattle.pylex_listing.specs.Listing.{Source}
use Rattle.pytree_node.specs.declared.profiles.Profile.{Profile}
use Rattle.pytree_node.specs.Trees.{Module}
use Rattle.pytoken.specs.Tokens.{lines}
use Rattle.pytoken.specs.Tokens as Tokens
use Rattle.pygrammar.specs.Blocks.{Block}
use Rattle.pygrammar.specs.Refusals.{Accepted}
use Rattle.pyparse_marks.specs.LineSpans.{line_spans}
use Rattle.pyparse_marks.specs.Spans.{Span}
use Rattle.pyplaces.specs.BlockPlaces.{LinePlaces, block_places}
use Rattle.pyplaces.specs.LineStarts.{line_starts}
use Rattle.pyplaces.specs.PlacesOf.{PlacesOf}
use Rattle.pyplaces.proofs.Laws.Law.{places_are_lawful}
use Rattle.pyplaces.specs.StateOf.{Follows}
use Rattle.pyparse.specs.declared.placed.PlacedProgress.{PlacedProgress}
use Rattle.pyparse.specs.Placed.{PlacedAs}
use Rattle.pyparse.specs.Inner.PlacedLines.{PlacedLines, IsPlaced}
use Rattle.pyparse_block.specs.Known.{Closes, is_unread}
use Rattle.pyparse_block.proofs.Callers.FinishLemmas.{all_lines}

-- the places that are kept are those of the module
pub placed_as : {profile : Profile} {s : Source} {k : ℕ} {end : Place} {p : PlacedProgress} (bytes : List ℕ)
    (m : Module) (places : PlacesOf)
    (spans : List Span) → Closes profile s k end → (was : IsPlaced profile s k p) → Accepted profile s m
    → is_unread p.progress.known ≡ false → Block 0 was.forms m.body
    → ((b : Block 0 was.forms m.body) → Follows was.forms was.zs p.stack → spans ≡ block_places was.zs b)
    → places.spans ≡ spans → places.starts ≡ line_starts bytes → PlacedAs profile s bytes m places
placed_as {profile} {s} {k} bytes m places spans closes was accepted read block finished are starts =
    let found = was.placed read in
    let whole : PlacedLines profile [] (line_spans s.text) (lines s) was.forms was.zs =
    subst (λ (xs : List Tokens.Line). PlacedLines profile [] (line_spans s.text) xs was.forms was.zs) (all_lines closes) found.0 in
    let a : Accepted profile s m = record {
      clear = closes.clear;
      forms = was.forms;
      formed = whole.formed;
      block = block;
      low = accepted.low;
    } in
    let spans_are = are ∙ finished block found.1 ∙ ap (λ (zs : List LinePlaces). block_places zs block) (sym whole.are) in
    record {
      accepted = a;
      spans = spans_are;
      starts = starts;
      fits = ap length spans_are ∙ places_are_lawful.count (line_spans s.text) profile s m a;
    }
