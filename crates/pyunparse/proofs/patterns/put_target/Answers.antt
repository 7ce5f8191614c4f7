use Rattle.std.proofs.lemmas.Result.{IfOk-equal}
use Rattle.pyunparse.proofs.PatternLemmas.{wildcard_on}
use Rattle.pyunparse.proofs.patterns.put_target.Goals as goal

pub returns-in-None : goal.returns-in-None
returns-in-None g c = IfOk-equal _ _ _ _ c.put_text.ensures (wildcard_on g.W.Writer.after c.args.out.now c.args.name.now c.in-None.is)
