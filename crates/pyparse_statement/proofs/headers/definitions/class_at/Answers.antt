use Rattle.std.proofs.Common.{map}
use Rattle.pytree_node.specs.TreeOf.{type_param_of}
use Rattle.pyparse_statement.proofs.headers.DefinitionSteps.{class_made}
use Rattle.pyplaces.proofs.Asides.{Apart, Still}
use Rattle.pyparse_statement.proofs.Recorders.Definitions.{class_placed}
use Rattle.pyparse_statement.proofs.headers.definitions.class_at.Goals as goal

pub returns-clause-answered : goal.returns-clause-answered
returns-clause-answered g c = class_made c.args.tokens.now c.args.depth c.args.name
    (map type_param_of c.args.types.params.items) c.args.at _ _ _
    c.class_of.result c.in_ok-arguments.ensures.answered c.if-not-is_op.ensures c.class_of.ensures.header c.class_of.ensures.next

pub returns-clause-placed : goal.returns-clause-placed
returns-clause-placed g c = λ e s.
    let apart : Apart g.R.Recorder.after g.R.Recorder.beside = record { is = g.met.R.Recorder.apart } in
    let still : Still g.R.Recorder.after g.R.Recorder.aside_count = record { is = g.met.R.Recorder.aside_still } in
    let kept : Still g.R.Recorder.beside g.R.Recorder.recorded_count = record { is = g.met.R.Recorder.recorded_still } in
    class_placed g.R.Recorder.recorded_count g.R.Recorder.aside_count c.args.tokens.now apart still kept c.args.types c.args.aside
    c.in_ok-arguments.arguments c.recorded-before.result e c.in_ok-arguments.ensures.placed
    c.if-not-is_op.ensures c.recorded-before.ensures (record { is = c.in_ok-take_back.ensures }) c.class_of.ensures.header
    c.class_of.ensures.next c.class_of.ensures.before s
