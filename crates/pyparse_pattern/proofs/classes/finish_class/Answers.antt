use Rattle.std.proofs.Common.{sym}
use Rattle.pyparse_pattern.proofs.Recorders.Levels.{class_placed}
use Rattle.pyparse_pattern.proofs.classes.finish_class.Goals as goal

pub returns-clause-placed : goal.returns-clause-placed
returns-clause-placed g c =
    class_placed g.R.Recorder.after _ _ c.args.tokens.now c.args.at c.args.room c.args.class c.args.entries c.make_class.result
    c.if-not-is_op.ensures (rw c.deref.ensures.value at (sym c.if-not-are_class_arguments.ensures))
    c.in_ok-node.ensures c.make_class.ensures
