use Rattle.std.proofs.Common.{map, refl}
use Rattle.pytree_node.specs.TreeOf.{type_param_of}
use Rattle.pyparse_statement.proofs.headers.DefinitionSteps.{function_open}
use Rattle.pyparse_statement.proofs.headers.definitions.function_rest.Goals as goal

pub returns-clause-answered : goal.returns-clause-answered
returns-clause-answered g c = function_open c.args.tokens.now c.args.depth c.args.name
    (map type_param_of c.args.types.params.items) c.args.types.next
    c.if-not-is_op.ensures c.args.is_async c.function_at.result c.function_at.ensures.answered

pub returns-clause-placed : goal.returns-clause-placed
returns-clause-placed g c = c.function_at.ensures.placed refl c.if-not-is_op.ensures
