use Rattle.std.proofs.Common.{length}
use Rattle.pytree_node.specs.TreeOf.{arg_of, tree_of}
use Rattle.pytree_fits.proofs.Counts.{count_exprs, count_arguments, fewer, fewer_after}
use Rattle.pytree_fits.proofs.leaves.are_defaults.Goals as goal

pub returns-then-defaults-posonlyargs : goal.returns-then-defaults-posonlyargs
returns-then-defaults-posonlyargs c = rw (
  count_exprs tree_of c.args.defaults.now,
  count_arguments arg_of c.args.posonlyargs.now,
  count_arguments arg_of c.args.plain.now,
)
    (fewer (length c.args.defaults.now) (length c.args.posonlyargs.now) (length c.args.plain.now) c.if-defaults-posonlyargs.true)

pub returns-else-defaults-posonlyargs : goal.returns-else-defaults-posonlyargs
returns-else-defaults-posonlyargs c = rw (
  count_exprs tree_of c.args.defaults.now,
  count_arguments arg_of c.args.posonlyargs.now,
  count_arguments arg_of c.args.plain.now,
)
    (fewer_after (length c.args.defaults.now) (length c.args.posonlyargs.now) (length c.args.plain.now) c.if-defaults-posonlyargs.false)
