use Rattle.std.specs.Prelude.{decimal}
use Rattle.std.proofs.Common.{◌≡◌, subst, refl, ap, sym, ◌∙◌, codes}
use Rattle.pytree_node.specs.TreeOf.{alias_of, boxed_of, item_of}
use Rattle.pytree_node.specs.TreeOf.{stmt_of, tree_of, type_param_of, class_def_of, function_def_of, try_of}
use Rattle.pytree_dump_text.specs.Shows.{Fields, Node, Scalar, a_field, expr_field, left_out, name_field, no_field, shown}
use Rattle.pytree_dump_text.specs.Shows.{shown_alias, shown_flag, shown_item, shown_name}
use Rattle.pytree_dump_text.specs.Shows.{shown_stmt, shown_type_param}
use Rattle.pytree_dump_text.specs.Blocks.{listed, shown_block, shown_matched}
use Rattle.pytree_dump_text.specs.Slots.{slot_of, with_slot}
use Rattle.pytree_dump.proofs.RowLemmas.{aliases_row, boxed_field, exprs_row, items_row, names_row}
use Rattle.pytree_dump.proofs.RowLemmas.{type_params_row}
use Rattle.pytree_dump.proofs.BlockLemmas.{stmts_row, cases_row}
use Rattle.pytree_dump.specs.Inner.Definitions.{function_def_fields, try_fields}
use Rattle.pytree_node.proofs.Callers.StmtShapes.{ann_assign_tree, assert_tree, assign_tree, async_function_def_tree, async_with_tree}
use Rattle.pytree_node.proofs.Callers.StmtShapes.{aug_assign_tree, class_def_tree, delete_tree, expr_stmt_tree, function_def_tree}
use Rattle.pytree_node.proofs.Callers.StmtShapes.{global_tree, if_tree, import_from_tree, import_tree, nonlocal_tree, raise_tree}
use Rattle.pytree_node.proofs.Callers.StmtShapes.{return_tree, type_alias_tree, while_tree, with_tree, break_tree, continue_tree, pass_tree}
use Rattle.pytree_node.proofs.Callers.StmtShapes.{for_tree, async_for_tree, match_tree, try_tree, try_star_tree}
use Rattle.pytree_dump.specs.Inner.Branches.{BranchShows}
use Rattle.pytree_dump.proofs.statements.stmt_node.Goals as goal

pub returns-in-FunctionDef : goal.returns-in-FunctionDef
returns-in-FunctionDef c =
    let e : shown_stmt c.args.style.profile (stmt_of c.args.s.now) ≡ Node (codes "FunctionDef")
    (function_def_fields c.args.style.profile (function_def_of c.deref.result.now)) =
    ap (λ z. shown_stmt c.args.style.profile (stmt_of z)) c.in-FunctionDef.is ∙ ap (shown_stmt c.args.style.profile) (function_def_tree _)
    ∙ ap (λ z. Node (codes "FunctionDef") (function_def_fields c.args.style.profile (function_def_of z))) (sym c.deref.ensures) in
    subst (λ x. BranchShows c.args.style c.function_node.result x) (sym e) c.function_node.ensures

pub returns-in-AsyncFunctionDef : goal.returns-in-AsyncFunctionDef
returns-in-AsyncFunctionDef c =
    let e : shown_stmt c.args.style.profile (stmt_of c.args.s.now) ≡ Node (codes "AsyncFunctionDef")
    (function_def_fields c.args.style.profile (function_def_of c.deref-in-AsyncFunctionDef.result.now)) =
    ap (λ z. shown_stmt c.args.style.profile (stmt_of z)) c.in-AsyncFunctionDef.is
    ∙ ap (shown_stmt c.args.style.profile) (async_function_def_tree _)
    ∙ ap (λ z. Node (codes "AsyncFunctionDef") (function_def_fields c.args.style.profile (function_def_of z)))
    (sym c.deref-in-AsyncFunctionDef.ensures) in
    subst (λ x. BranchShows c.args.style c.function_node-in-AsyncFunctionDef.result x) (sym e) c.function_node-in-AsyncFunctionDef.ensures

pub returns-in-ClassDef : goal.returns-in-ClassDef
returns-in-ClassDef c =
    let e : shown_stmt c.args.style.profile (stmt_of c.args.s.now) ≡ shown_stmt c.args.style.profile
    (class_def_of c.deref-in-ClassDef.result.now) =
    rw (c.in-ClassDef.is, class_def_tree, sym c.deref-in-ClassDef.ensures) refl in
    subst (λ x. BranchShows c.args.style c.class_node.result x) (sym e) c.class_node.ensures

pub returns-in-Return : goal.returns-in-Return
returns-in-Return c =
    rw (c.in-Return.is, return_tree) (rw (sym (c.option_part.ensures no_field)) c.one.ensures)

pub returns-in-Delete : goal.returns-in-Delete
returns-in-Delete c =
    let e : shown_stmt c.args.style.profile (stmt_of c.args.s.now) ≡ Node (codes "Delete")
    (a_field (codes "targets") (listed (λ e. shown (tree_of e)) c.deref-in-Delete.result.now) no_field) =
    rw (c.in-Delete.is, delete_tree, exprs_row c.in-Delete.targets.items, sym c.deref-in-Delete.ensures.value) refl in
    subst (λ x. BranchShows c.args.style c.one-in-Delete.result x) (sym e) c.one-in-Delete.ensures

pub returns-in-Assign : goal.returns-in-Assign
returns-in-Assign c =
    let e : shown_stmt c.args.style.profile (stmt_of c.args.s.now) ≡ Node (codes "Assign")
    (a_field (codes "targets") (listed (λ e. shown (tree_of e)) c.deref-in-Assign.result.now)
    (a_field (codes "value") (shown (tree_of c.in-Assign.value)) (left_out no_field))) =
    rw (c.in-Assign.is, assign_tree, exprs_row c.in-Assign.targets.items, sym c.deref-in-Assign.ensures.value) refl in
    subst (λ x. BranchShows c.args.style c.three.result x) (sym e) c.three.ensures

pub returns-in-TypeAlias : goal.returns-in-TypeAlias
returns-in-TypeAlias c =
    let e : shown_stmt c.args.style.profile (stmt_of c.args.s.now) ≡ Node (codes "TypeAlias")
    (a_field (codes "name") (shown (tree_of c.deref-in-TypeAlias.result.now))
    (a_field (codes "type_params") (listed (λ p. shown_type_param (type_param_of p)) c.deref-in-TypeAlias-2.result.now)
    (a_field (codes "value") (shown (tree_of c.deref-in-TypeAlias-3.result.now)) no_field))) =
    rw (
      c.in-TypeAlias.is,
      type_alias_tree,
      type_params_row c.in-TypeAlias.type_params.items,
      sym c.deref-in-TypeAlias.ensures,
      sym c.deref-in-TypeAlias-2.ensures.value,
      sym c.deref-in-TypeAlias-3.ensures,
    ) refl in
    subst (λ x. BranchShows c.args.style c.three-in-TypeAlias.result x) (sym e) c.three-in-TypeAlias.ensures

pub returns-in-AugAssign : goal.returns-in-AugAssign
returns-in-AugAssign c =
    rw (c.in-AugAssign.is, aug_assign_tree, sym c.deref-in-AugAssign.ensures) c.three-in-AugAssign.ensures

pub returns-in-AnnAssign : goal.returns-in-AnnAssign
returns-in-AnnAssign c =
    let rest : Fields = a_field (codes "simple") (shown_flag c.in-AnnAssign.simple) no_field in
    let k : expr_field (codes "value") (boxed_of c.in-AnnAssign.value) rest ≡ with_slot (slot_of c.boxed_part.result) rest =
    sym (c.boxed_part.ensures rest ∙ boxed_field (codes "value") (boxed_of c.in-AnnAssign.value) rest) in
    let e : shown_stmt c.args.style.profile (stmt_of c.args.s.now) ≡ Node (codes "AnnAssign")
    (a_field (codes "target") (shown (tree_of c.deref-in-AnnAssign.result.now))
    (a_field (codes "annotation") (shown (tree_of c.deref-in-AnnAssign-2.result.now)) (with_slot (slot_of c.boxed_part.result) rest))) =
    rw (c.in-AnnAssign.is, ann_assign_tree, k, sym c.deref-in-AnnAssign.ensures, sym c.deref-in-AnnAssign-2.ensures) refl in
    subst (λ x. BranchShows c.args.style c.four.result x) (sym e) c.four.ensures

pub returns-in-For : goal.returns-in-For
returns-in-For c =
    let e : shown_stmt c.args.style.profile (stmt_of c.args.s.now) ≡ Node (codes "For")
    (a_field (codes "target") (shown (tree_of c.deref-in-For.result.now))
    (a_field (codes "iter") (shown (tree_of c.deref-in-For-2.result.now))
    (a_field (codes "body") (shown_block c.args.style.profile c.deref-in-For-3.result.now)
    (a_field (codes "orelse") (shown_block c.args.style.profile c.deref-in-For-4.result.now) (left_out no_field))))) =
    rw (
      c.in-For.is,
      for_tree,
      stmts_row c.args.style.profile c.in-For.body.items,
      stmts_row c.args.style.profile c.in-For.orelse.items,
      sym c.deref-in-For.ensures,
      sym c.deref-in-For-2.ensures,
      sym c.deref-in-For-3.ensures.value,
      sym c.deref-in-For-4.ensures.value,
    ) refl in
    subst (λ x. BranchShows c.args.style c.for_node.result x) (sym e) c.for_node.ensures

pub returns-in-AsyncFor : goal.returns-in-AsyncFor
returns-in-AsyncFor c =
    let e : shown_stmt c.args.style.profile (stmt_of c.args.s.now) ≡ Node (codes "AsyncFor")
    (a_field (codes "target") (shown (tree_of c.deref-in-AsyncFor.result.now))
    (a_field (codes "iter") (shown (tree_of c.deref-in-AsyncFor-2.result.now))
    (a_field (codes "body") (shown_block c.args.style.profile c.deref-in-AsyncFor-3.result.now)
    (a_field (codes "orelse") (shown_block c.args.style.profile c.deref-in-AsyncFor-4.result.now) (left_out no_field))))) =
    rw (
      c.in-AsyncFor.is,
      async_for_tree,
      stmts_row c.args.style.profile c.in-AsyncFor.body.items,
      stmts_row c.args.style.profile c.in-AsyncFor.orelse.items,
      sym c.deref-in-AsyncFor.ensures,
      sym c.deref-in-AsyncFor-2.ensures,
      sym c.deref-in-AsyncFor-3.ensures.value,
      sym c.deref-in-AsyncFor-4.ensures.value,
    ) refl in
    subst (λ x. BranchShows c.args.style c.for_node-in-AsyncFor.result x) (sym e) c.for_node-in-AsyncFor.ensures

pub returns-in-While : goal.returns-in-While
returns-in-While c =
    let e : shown_stmt c.args.style.profile (stmt_of c.args.s.now) ≡ Node (codes "While")
    (a_field (codes "test") (shown (tree_of c.deref-in-While.result.now))
    (a_field (codes "body") (shown_block c.args.style.profile c.deref-in-While-2.result.now)
    (a_field (codes "orelse") (shown_block c.args.style.profile c.deref-in-While-3.result.now) no_field))) =
    rw (
      c.in-While.is,
      while_tree,
      stmts_row c.args.style.profile c.in-While.body.items,
      stmts_row c.args.style.profile c.in-While.orelse.items,
      sym c.deref-in-While.ensures,
      sym c.deref-in-While-2.ensures.value,
      sym c.deref-in-While-3.ensures.value,
    ) refl in
    subst (λ x. BranchShows c.args.style c.test_node.result x) (sym e) c.test_node.ensures

pub returns-in-If : goal.returns-in-If
returns-in-If c =
    let e : shown_stmt c.args.style.profile (stmt_of c.args.s.now) ≡ Node (codes "If")
    (a_field (codes "test") (shown (tree_of c.deref-in-If.result.now))
    (a_field (codes "body") (shown_block c.args.style.profile c.deref-in-If-2.result.now)
    (a_field (codes "orelse") (shown_block c.args.style.profile c.deref-in-If-3.result.now) no_field))) =
    rw (
      c.in-If.is,
      if_tree,
      stmts_row c.args.style.profile c.in-If.body.items,
      stmts_row c.args.style.profile c.in-If.orelse.items,
      sym c.deref-in-If.ensures,
      sym c.deref-in-If-2.ensures.value,
      sym c.deref-in-If-3.ensures.value,
    ) refl in
    subst (λ x. BranchShows c.args.style c.test_node-in-If.result x) (sym e) c.test_node-in-If.ensures

pub returns-in-With : goal.returns-in-With
returns-in-With c =
    let e : shown_stmt c.args.style.profile (stmt_of c.args.s.now) ≡ Node (codes "With")
    (a_field (codes "items") (listed (λ item. shown_item (item_of item)) c.deref-in-With.result.now)
    (a_field (codes "body") (shown_block c.args.style.profile c.deref-in-With-2.result.now) (left_out no_field))) =
    rw (
      c.in-With.is,
      with_tree,
      items_row c.in-With.items.items,
      stmts_row c.args.style.profile c.in-With.body.items,
      sym c.deref-in-With.ensures.value,
      sym c.deref-in-With-2.ensures.value,
    ) refl in
    subst (λ x. BranchShows c.args.style c.with_node.result x) (sym e) c.with_node.ensures

pub returns-in-AsyncWith : goal.returns-in-AsyncWith
returns-in-AsyncWith c =
    let e : shown_stmt c.args.style.profile (stmt_of c.args.s.now) ≡ Node (codes "AsyncWith")
    (a_field (codes "items") (listed (λ item. shown_item (item_of item)) c.deref-in-AsyncWith.result.now)
    (a_field (codes "body") (shown_block c.args.style.profile c.deref-in-AsyncWith-2.result.now) (left_out no_field))) =
    rw (
      c.in-AsyncWith.is,
      async_with_tree,
      items_row c.in-AsyncWith.items.items,
      stmts_row c.args.style.profile c.in-AsyncWith.body.items,
      sym c.deref-in-AsyncWith.ensures.value,
      sym c.deref-in-AsyncWith-2.ensures.value,
    ) refl in
    subst (λ x. BranchShows c.args.style c.with_node-in-AsyncWith.result x) (sym e) c.with_node-in-AsyncWith.ensures

pub returns-in-Match : goal.returns-in-Match
returns-in-Match c =
    let e : shown_stmt c.args.style.profile (stmt_of c.args.s.now) ≡ Node (codes "Match")
    (a_field (codes "subject") (shown (tree_of c.in-Match.subject))
    (a_field (codes "cases") (shown_matched c.args.style.profile c.deref-in-Match.result.now) no_field)) =
    rw (c.in-Match.is, match_tree, cases_row c.args.style.profile c.in-Match.cases.items, sym c.deref-in-Match.ensures.value) refl in
    subst (λ x. BranchShows c.args.style c.match_node.result x) (sym e) c.match_node.ensures

pub returns-in-Raise : goal.returns-in-Raise
returns-in-Raise c =
    let last : Fields = with_slot (slot_of c.boxed_part-in-Raise-2.result) no_field in
    rw (c.in-Raise.is, raise_tree) (rw (
      sym (c.boxed_part-in-Raise-2.ensures no_field ∙ boxed_field (codes "cause") (boxed_of c.in-Raise.cause) no_field),
      sym (c.boxed_part-in-Raise.ensures last ∙ boxed_field (codes "exc") (boxed_of c.in-Raise.exc) last),
    ) c.two.ensures)

pub returns-in-Try : goal.returns-in-Try
returns-in-Try c =
    let e : shown_stmt c.args.style.profile (stmt_of c.args.s.now) ≡ Node (codes "Try")
    (try_fields c.args.style.profile (try_of c.deref-in-Try.result.now)) =
    rw (c.in-Try.is, try_tree, sym c.deref-in-Try.ensures) refl in
    subst (λ x. BranchShows c.args.style c.try_node.result x) (sym e) c.try_node.ensures

pub returns-in-TryStar : goal.returns-in-TryStar
returns-in-TryStar c =
    let e : shown_stmt c.args.style.profile (stmt_of c.args.s.now) ≡ Node (codes "TryStar")
    (try_fields c.args.style.profile (try_of c.deref-in-TryStar.result.now)) =
    rw (c.in-TryStar.is, try_star_tree, sym c.deref-in-TryStar.ensures) refl in
    subst (λ x. BranchShows c.args.style c.try_node-in-TryStar.result x) (sym e) c.try_node-in-TryStar.ensures

pub returns-in-Assert : goal.returns-in-Assert
returns-in-Assert c =
    rw (c.in-Assert.is, assert_tree) (rw
    (sym (c.boxed_part-in-Assert.ensures no_field ∙ boxed_field (codes "msg") (boxed_of c.in-Assert.msg) no_field))
    c.two-in-Assert.ensures)

pub returns-in-Import : goal.returns-in-Import
returns-in-Import c =
    let e : shown_stmt c.args.style.profile (stmt_of c.args.s.now) ≡ Node (codes "Import")
    (a_field (codes "names") (listed (λ a. shown_alias (alias_of a)) c.deref-in-Import.result.now) no_field) =
    rw (c.in-Import.is, import_tree, aliases_row c.in-Import.names.items, sym c.deref-in-Import.ensures.value) refl in
    subst (λ x. BranchShows c.args.style c.one-in-Import.result x) (sym e) c.one-in-Import.ensures

pub returns-in-ImportFrom : goal.returns-in-ImportFrom
returns-in-ImportFrom c =
    let rest : Fields = a_field (codes "names") (listed (λ a. shown_alias (alias_of a)) c.deref-in-ImportFrom.result.now)
    (a_field (codes "level") (Scalar (decimal c.in-ImportFrom.level)) no_field) in
    let k : name_field (codes "module") c.in-ImportFrom.module rest ≡ with_slot (slot_of c.name_part.result) rest =
    sym (c.name_part.ensures rest) in
    let e : shown_stmt c.args.style.profile (stmt_of c.args.s.now) ≡ Node (codes "ImportFrom")
    (with_slot (slot_of c.name_part.result) rest) =
    rw (c.in-ImportFrom.is, import_from_tree, aliases_row c.in-ImportFrom.names.items, sym c.deref-in-ImportFrom.ensures.value, k) refl in
    subst (λ x. BranchShows c.args.style c.three-in-ImportFrom.result x) (sym e) c.three-in-ImportFrom.ensures

pub returns-in-Global : goal.returns-in-Global
returns-in-Global c =
    let e : shown_stmt c.args.style.profile (stmt_of c.args.s.now) ≡ Node (codes "Global")
    (a_field (codes "names") (listed (λ name. shown_name name) c.deref-in-Global.result.now) no_field) =
    rw (c.in-Global.is, global_tree, names_row c.in-Global.names.items, sym c.deref-in-Global.ensures.value) refl in
    subst (λ x. BranchShows c.args.style c.one-in-Global.result x) (sym e) c.one-in-Global.ensures

pub returns-in-Nonlocal : goal.returns-in-Nonlocal
returns-in-Nonlocal c =
    let e : shown_stmt c.args.style.profile (stmt_of c.args.s.now) ≡ Node (codes "Nonlocal")
    (a_field (codes "names") (listed (λ name. shown_name name) c.deref-in-Nonlocal.result.now) no_field) =
    rw (c.in-Nonlocal.is, nonlocal_tree, names_row c.in-Nonlocal.names.items, sym c.deref-in-Nonlocal.ensures.value) refl in
    subst (λ x. BranchShows c.args.style c.one-in-Nonlocal.result x) (sym e) c.one-in-Nonlocal.ensures

pub returns-in-Expr : goal.returns-in-Expr
returns-in-Expr c = rw (c.in-Expr.is, expr_stmt_tree) c.one-in-Expr.ensures

pub returns-in-Pass : goal.returns-in-Pass
returns-in-Pass c = rw (c.in-Pass.is, pass_tree) (c.none.ensures c.args.style)

pub returns-in-Break : goal.returns-in-Break
returns-in-Break c = rw (c.in-Break.is, break_tree) (c.none-in-Break.ensures c.args.style)

pub returns-in-Continue : goal.returns-in-Continue
returns-in-Continue c = rw (c.in-Continue.is, continue_tree) (c.none-in-Continue.ensures c.args.style)
