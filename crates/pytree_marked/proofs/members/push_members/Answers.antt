use Rattle.pytree_marked.proofs.members.push_members.Goals as goal
use Rattle.std.proofs.lemmas.Result.{on_ok_weaker}

pub returns-then-told : goal.returns-then-told
returns-then-told c = on_ok_weaker c.push_on_line.result (λ grown s. grown s c.args.indentation.now) c.push_on_line.ensures
