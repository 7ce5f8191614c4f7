use Rattle.std.proofs.Common.{◌+◌, ◌*◌, ◌<◌, List, map, refl, sym, subst, arith}
use denote.Param.Weighed.{most}
use Rattle.std.specs.Prelude.{◌&&◌}
use Rattle.pytree_node.specs.declared.statements.Stmt.{Stmt}
use Rattle.pytree_node.specs.declared.statements.Stmt.TheViews.{size-Stmt, size_is-Case}
use Rattle.pytree_node.specs.TreeOf.{case_of, handler_of, stmt_of}
use Rattle.pytree_node.specs.Trees.{optional, cases, handlers, stmts}
use Rattle.pygrammar.specs.declared.levels.Level.TheVariants.{Expression}
use Rattle.pygrammar.specs.declared.pattern_levels.PatternLevel.TheVariants.{AsPattern}
use Rattle.pytree_fits.specs.Tests.{tests_in}
use Rattle.pytree_fits.specs.Slots.{perhaps_fits}
use Rattle.pytree_fits.specs.PatternSlots.{pattern_fits_at}
use Rattle.pytree_fits.specs.Statements.{caught_fits, statement_fits, statements_fit, suite_fits, cases_fit, handlers_fit}
use Rattle.pytree_node.proofs.Callers.StmtShapes.{function_def_tree, async_function_def_tree, class_def_tree, return_tree, delete_tree}
use Rattle.pytree_node.proofs.Callers.StmtShapes.{assign_tree, type_alias_tree, aug_assign_tree, ann_assign_tree, for_tree, async_for_tree}
use Rattle.pytree_node.proofs.Callers.StmtShapes.{while_tree, if_tree, match_tree, raise_tree, try_tree}
use Rattle.pytree_node.proofs.Callers.StmtShapes.{try_star_tree, assert_tree, import_tree, import_from_tree, global_tree, nonlocal_tree}
use Rattle.pytree_node.proofs.Callers.StmtShapes.{expr_stmt_tree, pass_tree, break_tree, continue_tree}
use Rattle.pytree_fits.proofs.Chains.{two_and, three_and, five_and}
use Rattle.pytree_fits.proofs.Loops.{goes_on, stops}
use Rattle.pytree_fits.proofs.statements.+statements.Goals as goal

pub statements_fit-returns-then-not-branch : goal.statements_fit-returns-then-not-branch
statements_fit-returns-then-not-branch t c =
    stops (λ ss. statements_fit c.args.profile (tests_in c.args.profile.extent) (stmts (map stmt_of ss)))
    (λ s. statement_fits c.args.profile (tests_in c.args.profile.extent) (stmt_of s)) refl (λ _ _. refl) _
    c.loop-s-test.true c.s-item.is c.in_ok-statement_fits.ensures c.if-not-branch.true

pub statements_fit-loop-s-preserved : goal.statements_fit-loop-s-preserved
statements_fit-loop-s-preserved t c =
    goes_on (λ ss. statements_fit c.args.profile (tests_in c.args.profile.extent) (stmts (map stmt_of ss)))
    (λ s. statement_fits c.args.profile (tests_in c.args.profile.extent) (stmt_of s)) refl (λ _ _. refl) _
    c.loop-s-test.true c.s-item.is c.loop-s.invariant c.in_ok-statement_fits.ensures c.if-not-branch.false

pub cases_fit-returns-then-not-branch : goal.cases_fit-returns-then-not-branch
cases_fit-returns-then-not-branch t c = stops (λ cs. cases_fit c.args.profile (tests_in c.args.profile.extent) (cases (map case_of cs)))
    (λ x. pattern_fits_at (tests_in c.args.profile.extent) AsPattern (case_of x).pattern && perhaps_fits (tests_in c.args.profile.extent)
    Expression (optional (case_of x).guard) && suite_fits c.args.profile (tests_in c.args.profile.extent) (stmts (case_of x).body)) refl
    (λ _ _. refl) _
    c.loop-c-test.true c.c-item.is c.in_ok-case_fits.ensures c.if-not-branch.true

pub cases_fit-loop-c-preserved : goal.cases_fit-loop-c-preserved
cases_fit-loop-c-preserved t c = goes_on (λ cs. cases_fit c.args.profile (tests_in c.args.profile.extent) (cases (map case_of cs)))
    (λ x. pattern_fits_at (tests_in c.args.profile.extent) AsPattern (case_of x).pattern && perhaps_fits (tests_in c.args.profile.extent)
    Expression (optional (case_of x).guard) && suite_fits c.args.profile (tests_in c.args.profile.extent) (stmts (case_of x).body)) refl
    (λ _ _. refl) _
    c.loop-c-test.true c.c-item.is c.loop-c.invariant c.in_ok-case_fits.ensures c.if-not-branch.false

pub handlers_fit-returns-then-not-branch : goal.handlers_fit-returns-then-not-branch
handlers_fit-returns-then-not-branch t c =
    stops (λ hs. handlers_fit c.args.profile (tests_in c.args.profile.extent) c.args.star (handlers (map handler_of hs)))
    (λ h. caught_fits (tests_in c.args.profile.extent) c.args.star (handler_of h).class (handler_of h).name && suite_fits c.args.profile
    (tests_in c.args.profile.extent) (stmts (handler_of h).body)) refl (λ _ _. refl) _
    c.loop-h-test.true c.h-item.is c.in_ok-handler_fits.ensures c.if-not-branch.true

pub handlers_fit-loop-h-preserved : goal.handlers_fit-loop-h-preserved
handlers_fit-loop-h-preserved t c =
    goes_on (λ hs. handlers_fit c.args.profile (tests_in c.args.profile.extent) c.args.star (handlers (map handler_of hs)))
    (λ h. caught_fits (tests_in c.args.profile.extent) c.args.star (handler_of h).class (handler_of h).name && suite_fits c.args.profile
    (tests_in c.args.profile.extent) (stmts (handler_of h).body)) refl (λ _ _. refl) _
    c.loop-h-test.true c.h-item.is c.loop-h.invariant c.in_ok-handler_fits.ensures c.if-not-branch.false

-- the body of a case is smaller than the case
pub case_fits-suite_fits-requires : goal.case_fits-suite_fits-requires
case_fits-suite_fits-requires t c = (
  subst (λ (z : List Stmt). 3 * most size-Stmt z + 2 < t) (sym c.deref.ensures.value)
      (omega (arith, size_is-Case c.args.c.now, c.decreases)),
  tt,
)

pub statement_fits-returns-in-FunctionDef : goal.statement_fits-returns-in-FunctionDef
statement_fits-returns-in-FunctionDef t c = rw (c.in-FunctionDef.is, function_def_tree, ← c.deref.ensures) c.function_fits.ensures

pub statement_fits-returns-in-AsyncFunctionDef : goal.statement_fits-returns-in-AsyncFunctionDef
statement_fits-returns-in-AsyncFunctionDef t c =
    rw (c.in-AsyncFunctionDef.is, async_function_def_tree, ← c.deref-in-AsyncFunctionDef.ensures)
    c.function_fits-in-AsyncFunctionDef.ensures

pub statement_fits-returns-in-ClassDef : goal.statement_fits-returns-in-ClassDef
statement_fits-returns-in-ClassDef t c = rw (c.in-ClassDef.is, class_def_tree, ← c.deref-in-ClassDef.ensures) c.class_fits.ensures

pub statement_fits-returns-in-Try : goal.statement_fits-returns-in-Try
statement_fits-returns-in-Try t c = rw (c.in-Try.is, try_tree, ← c.deref-in-Try.ensures) c.try_fits.ensures

pub statement_fits-returns-in-TryStar : goal.statement_fits-returns-in-TryStar
statement_fits-returns-in-TryStar t c = rw (c.in-TryStar.is, try_star_tree, ← c.deref-in-TryStar.ensures) c.try_fits-in-TryStar.ensures

pub statement_fits-returns-in-Return : goal.statement_fits-returns-in-Return
statement_fits-returns-in-Return t c = rw (c.in-Return.is, return_tree) c.option_fits.ensures

pub statement_fits-returns-in-Delete : goal.statement_fits-returns-in-Delete
statement_fits-returns-in-Delete t c = rw (c.in-Delete.is, delete_tree, ← c.deref-in-Delete.ensures.value) c.some_targets_fit.ensures

pub statement_fits-returns-in-Assign : goal.statement_fits-returns-in-Assign
statement_fits-returns-in-Assign t c = rw (c.in-Assign.is, assign_tree, ← c.deref-in-Assign.ensures.value) c.assign_fits.ensures

pub statement_fits-returns-in-TypeAlias : goal.statement_fits-returns-in-TypeAlias
statement_fits-returns-in-TypeAlias t c =
    rw (
      c.in-TypeAlias.is,
      type_alias_tree,
      ← c.deref-in-TypeAlias.ensures,
      ← c.deref-in-TypeAlias-2.ensures.value,
      ← c.deref-in-TypeAlias-3.ensures,
    ) c.type_alias_fits.ensures

pub statement_fits-returns-in-AugAssign : goal.statement_fits-returns-in-AugAssign
statement_fits-returns-in-AugAssign t c = rw (c.in-AugAssign.is, aug_assign_tree, ← c.deref-in-AugAssign.ensures) c.aug_assign_fits.ensures

pub statement_fits-returns-in-AnnAssign : goal.statement_fits-returns-in-AnnAssign
statement_fits-returns-in-AnnAssign t c =
    rw (c.in-AnnAssign.is, ann_assign_tree, ← c.deref-in-AnnAssign.ensures, ← c.deref-in-AnnAssign-2.ensures) c.ann_assign_fits.ensures

pub statement_fits-returns-then-not-branch : goal.statement_fits-returns-then-not-branch
statement_fits-returns-then-not-branch t c =
    rw (
      c.in-For.is,
      for_tree,
      ← c.deref-in-For.ensures,
      ← c.deref-in-For-2.ensures,
      ← two_and,
      ← c.in_ok-for_head_fits-in-For.ensures,
      c.if-not-branch.true,
    )

pub statement_fits-returns-then-not-branch-2 : goal.statement_fits-returns-then-not-branch-2
statement_fits-returns-then-not-branch-2 t c =
    rw (
      c.in-For.is,
      for_tree,
      ← c.deref-in-For.ensures,
      ← c.deref-in-For-2.ensures,
      ← two_and,
      ← c.in_ok-for_head_fits-in-For.ensures,
      c.if-not-branch.false,
      ← c.deref-in-For-3.ensures.value,
      ← c.in_ok-suite_fits-in-For.ensures,
      c.if-not-branch-2.true,
    )

pub statement_fits-returns-else-not-branch-2 : goal.statement_fits-returns-else-not-branch-2
statement_fits-returns-else-not-branch-2 t c =
    rw (
      c.in-For.is,
      for_tree,
      ← c.deref-in-For.ensures,
      ← c.deref-in-For-2.ensures,
      ← two_and,
      ← c.in_ok-for_head_fits-in-For.ensures,
      c.if-not-branch.false,
      ← c.deref-in-For-3.ensures.value,
      ← c.in_ok-suite_fits-in-For.ensures,
      c.if-not-branch-2.false,
      ← c.deref-in-For-4.ensures.value,
    ) c.statements_fit.ensures

pub statement_fits-returns-then-not-branch-3 : goal.statement_fits-returns-then-not-branch-3
statement_fits-returns-then-not-branch-3 t c =
    rw (
      c.in-AsyncFor.is,
      async_for_tree,
      ← c.deref-in-AsyncFor.ensures,
      ← c.deref-in-AsyncFor-2.ensures,
      ← two_and,
      ← c.in_ok-for_head_fits-in-AsyncFor.ensures,
      c.if-not-branch-3.true,
    )

pub statement_fits-returns-then-not-branch-4 : goal.statement_fits-returns-then-not-branch-4
statement_fits-returns-then-not-branch-4 t c =
    rw (
      c.in-AsyncFor.is,
      async_for_tree,
      ← c.deref-in-AsyncFor.ensures,
      ← c.deref-in-AsyncFor-2.ensures,
      ← two_and,
      ← c.in_ok-for_head_fits-in-AsyncFor.ensures,
      c.if-not-branch-3.false,
      ← c.deref-in-AsyncFor-3.ensures.value,
      ← c.in_ok-suite_fits-in-AsyncFor.ensures,
      c.if-not-branch-4.true,
    )

pub statement_fits-returns-else-not-branch-4 : goal.statement_fits-returns-else-not-branch-4
statement_fits-returns-else-not-branch-4 t c =
    rw (
      c.in-AsyncFor.is,
      async_for_tree,
      ← c.deref-in-AsyncFor.ensures,
      ← c.deref-in-AsyncFor-2.ensures,
      ← two_and,
      ← c.in_ok-for_head_fits-in-AsyncFor.ensures,
      c.if-not-branch-3.false,
      ← c.deref-in-AsyncFor-3.ensures.value,
      ← c.in_ok-suite_fits-in-AsyncFor.ensures,
      c.if-not-branch-4.false,
      ← c.deref-in-AsyncFor-4.ensures.value,
    )
    c.statements_fit-in-AsyncFor.ensures

pub statement_fits-returns-then-not-branch-5 : goal.statement_fits-returns-then-not-branch-5
statement_fits-returns-then-not-branch-5 t c = rw (
  c.in-While.is,
  while_tree,
  ← c.deref-in-While.ensures,
  ← c.in_ok-expr_fits-in-While.ensures,
  c.if-not-branch-5.true,
)

pub statement_fits-returns-then-not-branch-6 : goal.statement_fits-returns-then-not-branch-6
statement_fits-returns-then-not-branch-6 t c =
    rw (
      c.in-While.is,
      while_tree,
      ← c.deref-in-While.ensures,
      ← c.in_ok-expr_fits-in-While.ensures,
      c.if-not-branch-5.false,
      ← c.deref-in-While-2.ensures.value,
      ← c.in_ok-suite_fits-in-While.ensures,
      c.if-not-branch-6.true,
    )

pub statement_fits-returns-else-not-branch-6 : goal.statement_fits-returns-else-not-branch-6
statement_fits-returns-else-not-branch-6 t c =
    rw (
      c.in-While.is,
      while_tree,
      ← c.deref-in-While.ensures,
      ← c.in_ok-expr_fits-in-While.ensures,
      c.if-not-branch-5.false,
      ← c.deref-in-While-2.ensures.value,
      ← c.in_ok-suite_fits-in-While.ensures,
      c.if-not-branch-6.false,
      ← c.deref-in-While-3.ensures.value,
    ) c.statements_fit-in-While.ensures

pub statement_fits-returns-then-not-branch-7 : goal.statement_fits-returns-then-not-branch-7
statement_fits-returns-then-not-branch-7 t c =
    rw (c.in-If.is, if_tree, ← c.deref-in-If.ensures, ← c.in_ok-expr_fits-in-If.ensures, c.if-not-branch-7.true)

pub statement_fits-returns-then-not-branch-8 : goal.statement_fits-returns-then-not-branch-8
statement_fits-returns-then-not-branch-8 t c =
    rw (
      c.in-If.is,
      if_tree,
      ← c.deref-in-If.ensures,
      ← c.in_ok-expr_fits-in-If.ensures,
      c.if-not-branch-7.false,
      ← c.deref-in-If-2.ensures.value,
      ← c.in_ok-suite_fits-in-If.ensures,
      c.if-not-branch-8.true,
    )

pub statement_fits-returns-else-not-branch-8 : goal.statement_fits-returns-else-not-branch-8
statement_fits-returns-else-not-branch-8 t c =
    rw (
      c.in-If.is,
      if_tree,
      ← c.deref-in-If.ensures,
      ← c.in_ok-expr_fits-in-If.ensures,
      c.if-not-branch-7.false,
      ← c.deref-in-If-2.ensures.value,
      ← c.in_ok-suite_fits-in-If.ensures,
      c.if-not-branch-8.false,
      ← c.deref-in-If-3.ensures.value,
    ) c.statements_fit-in-If.ensures

pub statement_fits-returns-then-not-branch-9 : goal.statement_fits-returns-then-not-branch-9
statement_fits-returns-then-not-branch-9 t c =
    rw (
      c.in-Match.is,
      match_tree,
      ← c.deref-in-Match.ensures.value,
      ← three_and,
      ← c.in_ok-match_head_fits-in-Match.ensures,
      c.if-not-branch-9.true,
    )

pub statement_fits-returns-else-not-branch-9 : goal.statement_fits-returns-else-not-branch-9
statement_fits-returns-else-not-branch-9 t c =
    rw (
      c.in-Match.is,
      match_tree,
      ← c.deref-in-Match.ensures.value,
      ← three_and,
      ← c.in_ok-match_head_fits-in-Match.ensures,
      c.if-not-branch-9.false,
      c.deref-in-Match.ensures.value,
      ← c.deref-in-Match-2.ensures.value,
    ) c.cases_fit.ensures

pub statement_fits-returns-in-Raise : goal.statement_fits-returns-in-Raise
statement_fits-returns-in-Raise t c = rw (c.in-Raise.is, raise_tree) c.raise_fits.ensures

pub statement_fits-returns-in-Assert : goal.statement_fits-returns-in-Assert
statement_fits-returns-in-Assert t c = rw (c.in-Assert.is, assert_tree) c.assert_fits.ensures

pub statement_fits-returns-in-Import : goal.statement_fits-returns-in-Import
statement_fits-returns-in-Import t c = rw (c.in-Import.is, import_tree, ← c.deref-in-Import.ensures.value) c.modules_fit.ensures

pub statement_fits-returns-in-ImportFrom : goal.statement_fits-returns-in-ImportFrom
statement_fits-returns-in-ImportFrom t c =
    rw (c.in-ImportFrom.is, import_from_tree, ← c.deref-in-ImportFrom.ensures.value) c.import_from_fits.ensures

pub statement_fits-returns-in-Global : goal.statement_fits-returns-in-Global
statement_fits-returns-in-Global t c = rw (c.in-Global.is, global_tree, ← c.deref-in-Global.ensures.value) c.names_fit.ensures

pub statement_fits-returns-in-Nonlocal : goal.statement_fits-returns-in-Nonlocal
statement_fits-returns-in-Nonlocal t c =
    rw (c.in-Nonlocal.is, nonlocal_tree, ← c.deref-in-Nonlocal.ensures.value) c.names_fit-in-Nonlocal.ensures

pub statement_fits-returns-in-Expr : goal.statement_fits-returns-in-Expr
statement_fits-returns-in-Expr t c = rw (c.in-Expr.is, expr_stmt_tree) c.expr_fits-in-Expr.ensures

pub statement_fits-returns-in-Pass : goal.statement_fits-returns-in-Pass
statement_fits-returns-in-Pass t c = rw (c.in-Pass.is, pass_tree)

pub statement_fits-returns-in-Break : goal.statement_fits-returns-in-Break
statement_fits-returns-in-Break t c = rw (c.in-Break.is, break_tree)

pub statement_fits-returns-in-Continue : goal.statement_fits-returns-in-Continue
statement_fits-returns-in-Continue t c = rw (c.in-Continue.is, continue_tree)
