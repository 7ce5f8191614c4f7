use Rattle.pytree_node.specs.TreeOf.{tree_of}
use Rattle.pytree_fits.specs.Tests.{tests_in}
use Rattle.pytree_fits.specs.Slots.{fits_at}
use Rattle.pytree_fits.proofs.Callers.Law.{expressions_fit_exactly}
use Rattle.pytree.proofs.FitLemmas.{told_of_tokens, tokens_of_told}
use Rattle.pytree.proofs.fits.well_formed_at.Goals as goal

pub returns-clause-given : goal.returns-clause-given
returns-clause-given c =
    told_of_tokens c.expr_fits.result (fits_at (tests_in c.args.extent) c.args.level (tree_of c.args.expr.now))
    (expressions_fit_exactly c.args.extent c.args.level (tree_of c.args.expr.now)).0 c.expr_fits.ensures

pub returns-clause-tokens : goal.returns-clause-tokens
returns-clause-tokens c =
    tokens_of_told c.expr_fits.result (fits_at (tests_in c.args.extent) c.args.level (tree_of c.args.expr.now))
    (expressions_fit_exactly c.args.extent c.args.level (tree_of c.args.expr.now)).1 c.expr_fits.ensures
