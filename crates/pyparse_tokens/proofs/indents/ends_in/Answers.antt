use Rattle.std.proofs.Common.{arith}
use Rattle.pyparse_tokens.proofs.RisingLemmas.{last_as}
use Rattle.pyparse_tokens.proofs.indents.ends_in.Goals as goal

pub returns : goal.returns
returns c = λ _. last_as c.args.standing.now c.in-Some.last.now c.args.widths c.in-Some.ensures.value (omega arith) (omega arith)
