use Rattle.std.proofs.Common.{◌≡◌, map, subst}
use Rattle.std.specs.Prelude.{IfOk}
use Rattle.pytree_node.specs.TreeOf.{module_of, stmt_of}
use Rattle.pytree_node.specs.Trees.{stmts}
use Rattle.pytree_fits.specs.Tests.{tests_in}
use Rattle.pytree_fits.specs.Statements.{module_fits, statements_fit}
use Rattle.pytree_fits.proofs.Callers.Law.{modules_fit_exactly}
use Rattle.pytree.proofs.FitLemmas.{told_of_tokens, tokens_of_told}
use Rattle.pytree.proofs.fits.well_formed.Goals as goal

pub returns-clause-given : goal.returns-clause-given
returns-clause-given c =
    told_of_tokens c.statements_fit.result (module_fits c.args.profile (tests_in c.args.profile.extent) (module_of c.args.tree.now))
    (modules_fit_exactly c.args.profile (module_of c.args.tree.now)).0
    (subst (λ ss. IfOk c.statements_fit.result (λ told. told ≡ statements_fit c.args.profile (tests_in c.args.profile.extent)
    (stmts (map stmt_of ss)))) c.deref.ensures.value c.statements_fit.ensures)

pub returns-clause-tokens : goal.returns-clause-tokens
returns-clause-tokens c =
    tokens_of_told c.statements_fit.result (module_fits c.args.profile (tests_in c.args.profile.extent) (module_of c.args.tree.now))
    (modules_fit_exactly c.args.profile (module_of c.args.tree.now)).1
    (subst (λ ss. IfOk c.statements_fit.result (λ told. told ≡ statements_fit c.args.profile (tests_in c.args.profile.extent)
    (stmts (map stmt_of ss)))) c.deref.ensures.value c.statements_fit.ensures)
