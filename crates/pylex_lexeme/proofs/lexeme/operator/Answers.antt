use Rattle.pylex_lexeme.proofs.Lexemes.Union.{operator_takes, operator_none}
use Rattle.pylex_lexeme.proofs.lexeme.operator.Goals as goal

pub returns-in_err-exact : goal.returns-in_err-exact
returns-in_err-exact c =
    rw c.from_residual.ensures (operator_none c.args.text.now c.longest_operator.result c.requires
    c.longest_operator.ensures c.in_err-exact.was)

pub returns : goal.returns
returns c = rw c.bump_count.ensures (operator_takes c.args.text.now c.longest_operator.result c.in_ok-exact.exact c.in_ok-exact.len
    c.requires c.longest_operator.ensures c.in_ok-exact.was)
