use Rattle.std.proofs.Common.{map, refl}
use Rattle.pytree_node.specs.TreeOf.{type_param_of}
use Rattle.pyparse_statement.proofs.headers.DefinitionSteps.{class_open}
use Rattle.pyplaces.proofs.Asides.{Apart, Still}
use Rattle.pyparse_statement.proofs.Recorders.Definitions.{bare_class_placed}
use Rattle.pyparse_statement.proofs.headers.definitions.bases_rest.Goals as goal

pub returns-clause-answered : goal.returns-clause-answered
returns-clause-answered g c = class_open c.args.tokens.now c.args.depth c.args.name
    (map type_param_of c.args.types.params.items) c.args.types.next
    c.if-not-is_op.ensures c.class_at.result c.class_at.ensures.answered

pub returns-then-not-is_op-clause-placed : goal.returns-then-not-is_op-clause-placed
returns-then-not-is_op-clause-placed g c = let apart : Apart g.R.Recorder.after g.R.Recorder.beside =
    record { is = g.met.R.Recorder.apart } in
    let still : Still g.R.Recorder.after g.R.Recorder.aside_count = record { is = g.met.R.Recorder.aside_still } in
    let kept : Still g.R.Recorder.beside g.R.Recorder.recorded_count = record { is = g.met.R.Recorder.recorded_still } in
    bare_class_placed g.R.Recorder.recorded_count g.R.Recorder.aside_count c.args.tokens.now apart still kept c.args.types c.args.aside
    c.recorded-before.result
    c.recorded-before.ensures (record { is = c.in_ok-take_back.ensures }) c.bare_class.ensures.header c.bare_class.ensures.next
    c.bare_class.ensures.before

pub returns-clause-placed : goal.returns-clause-placed
returns-clause-placed g c = c.class_at.ensures.placed refl c.if-not-is_op.ensures
