use Rattle.std.proofs.Common.{◌∷◌}
use Rattle.pytoken.specs.Terminals.{Ident}
use Rattle.pyparse_nodes.specs.Views.{seen}
use Rattle.pyparse_pattern.proofs.KeySteps.{key_dotted}
use Rattle.pyparse_pattern.proofs.Recorders.Values.{key_pointed}
use Rattle.pyparse_pattern.proofs.keys.dotted_key.Goals as goal

pub returns-clause-answered : goal.returns-clause-answered
returns-clause-answered g c =
    key_dotted c.args.tokens.now c.args.room c.args.at _ c.dotted.result c.if-not-is_op.ensures c.dotted.ensures.answered

pub returns-clause-placed : goal.returns-clause-placed
returns-clause-placed g c = λ q x e.
    key_pointed g.R.Recorder.after _ _ c.args.tokens.now x (Ident x ∷ seen c.args.tokens.now c.args.at) c.args.from c.args.room c.args.at _
    c.dotted.result c.if-not-is_op.ensures c.dotted.ensures.answered (c.dotted.ensures.placed q x e)
