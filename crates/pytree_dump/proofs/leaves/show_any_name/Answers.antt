use Rattle.std.proofs.Common.{sym}
use Rattle.std.proofs.lemmas.Result.{on_ok_weaker}
use Rattle.std.specs.String.{string_bytes}
use Rattle.pytree_node.specs.Trees.{Name}
use Rattle.pytree_dump_text.specs.Shows.{shown}
use Rattle.pytree_dump.proofs.JoinedLemmas.{none_is, unplaced_appended}
use Rattle.pytree_dump.proofs.leaves.show_any_name.Goals as goal

pub returns-then-is_done-clause-text : goal.returns-then-is_done-clause-text
returns-then-is_done-clause-text g c =
    on_ok_weaker c.show_name.result (unplaced_appended c.args.style (string_bytes c.args.indentation.now) (string_bytes c.args.out.now)
    (string_bytes c.show_name.new.out) (g.P.PlaceSource.left c.args.places.now) (shown (Name c.args.id.now c.args.ctx))
    (none_is _ (sym c.if-is_done.ensures)))
    (c.show_name.ensures (string_bytes c.args.indentation.now))
