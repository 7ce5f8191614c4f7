use Rattle.pyparse_statement.proofs.Recorders.Types.{newer, no_params_placed}
use Rattle.pyparse_statement.proofs.statements.types.read_type_params.Goals as goal

pub returns-in-Py311-clause-placed : goal.returns-in-Py311-clause-placed
returns-in-Py311-clause-placed g c = no_params_placed c.no_params.ensures.params c.no_params.ensures.next

pub returns-in-Py312-clause-placed : goal.returns-in-Py312-clause-placed
returns-in-Py312-clause-placed g c = c.bracketed_type_params.ensures.placed c.args.profile (newer c.args.profile c.in-Py312.is)
