use Rattle.std.proofs.Common.{sym}
use Rattle.pyunparse.proofs.Sequences.AloneLemmas.{not_lone_star}
use Rattle.pyunparse.proofs.tuples.lone_star.Goals as goal

pub returns-then-count-ne1 : goal.returns-then-count-ne1
returns-then-count-ne1 c = sym (not_lone_star c.args.es.now c.if-count-ne1.true)
