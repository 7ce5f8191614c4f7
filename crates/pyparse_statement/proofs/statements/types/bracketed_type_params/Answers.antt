use Rattle.pyparse_statement.proofs.Recorders.Types.{no_params_placed, params_bracketed}
use Rattle.pyparse_statement.proofs.statements.types.bracketed_type_params.Goals as goal

pub returns-then-not-is_op-clause-placed : goal.returns-then-not-is_op-clause-placed
returns-then-not-is_op-clause-placed g c = λ prof t. no_params_placed c.no_params.ensures.params c.no_params.ensures.next

pub returns-clause-placed : goal.returns-clause-placed
returns-clause-placed g c = λ prof t. params_bracketed c.in_ok-params.params t c.if-not-is_op.ensures c.in_ok-params.ensures.placed
    c.if-not-is_op-2.ensures
    c.placed.ensures.params c.placed.ensures.next
