use Rattle.pytree_node.specs.TreeOf.{module_of}
use Rattle.std.proofs.Common.{map}
use Rattle.pylex_listing.specs.Listing.{in_characters}
use Rattle.pyparse_marks.specs.Spans.{told}
use Rattle.pyparse.proofs.PlacedEnds.{placed_as}
use Rattle.pyparse.proofs.placed.PlacedProgress.finish.Goals as goal

pub returns-in_ok-places-in-Ok-clause-placed : goal.returns-in_ok-places-in-Ok-clause-placed
returns-in_ok-places-in-Ok-clause-placed c profile k was closes =
    let s = in_characters c.args.source.now in
    placed_as c.args.source.now.text (module_of c.in-Ok.module) c.in_ok-places-in-Ok.places
    (map told c.in_ok-finish-in-Ok.field-0.items) closes was
    (c.in-Ok.ensures.accepted profile s k (record { forms = was.forms; known = was.known; last_lines = was.last_lines }) closes)
    c.in-Ok.ensures.read (c.in-Ok.ensures.block profile s k was.forms (record { known = was.known; last_lines = was.last_lines }))
    (λ b follows. c.in_ok-finish-in-Ok.ensures.placed was.forms was.zs (module_of c.in-Ok.module).body b follows)
    c.in_ok-places-in-Ok.ensures.spans c.in_ok-places-in-Ok.ensures.starts

pub returns-in-Err-clause-refused : goal.returns-in-Err-clause-refused
returns-in-Err-clause-refused c profile k was closes =
    c.in-Err.ensures.refused profile (in_characters c.args.source.now) k
    (record { forms = was.forms; known = was.known; last_lines = was.last_lines }) closes
