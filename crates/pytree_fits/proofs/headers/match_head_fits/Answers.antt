use Rattle.std.proofs.Common.{map}
use Rattle.pytree_node.specs.TreeOf.{case_of, tree_of}
use Rattle.pytree_node.specs.Trees.{cases}
use Rattle.pygrammar.specs.declared.levels.Level.TheVariants.{Expression}
use Rattle.pygrammar.specs.Forms.{is_whole}
use Rattle.pytree_fits.specs.Tests.{tests_at}
use Rattle.pytree_fits.specs.Slots.{fits_at}
use Rattle.pytree_fits.specs.Statements.{has_case}
use Rattle.pytree_fits.proofs.Chains.{last_of_three}
use Rattle.pytree_fits.proofs.Counts.{with_case}
use Rattle.pytree_fits.proofs.headers.match_head_fits.Goals as goal

pub returns : goal.returns
returns c = last_of_three c.expr_fits.result (is_whole c.args.asked.extent) (has_case (cases (map case_of c.args.clauses.now)))
    (fits_at (tests_at c.args.asked.extent c.args.asked.fields) Expression (tree_of c.args.subject.now))
    c.if-not-is_whole.ensures (with_case case_of c.args.clauses.now c.if-is_empty.ensures) c.expr_fits.ensures
