use Rattle.std.proofs.Common.{ap, sym}
use Rattle.std.proofs.lemmas.Result.{IfOk-equal}
use Rattle.pyunparse_text.specs.Folds.{puts}
use Rattle.pyunparse.proofs.StatementParts.SimpleLemmas.{alias_on, annotation_on, assert_is, assign_on, augmented_on, break_is, continue_is}
use Rattle.pyunparse.proofs.StatementParts.SimpleLemmas.{delete_on, expression_is, global_on, import_from_is, import_on, nonlocal_on}
use Rattle.pyunparse.proofs.StatementParts.SimpleLemmas.{pass_is, raise_is, return_on}
use Rattle.pyunparse.proofs.Shapes.StatementLemmas.{not_simple}
use Rattle.pyunparse.proofs.statements.write_simple.Goals as goal

pub returns-in-Expr : goal.returns-in-Expr
returns-in-Expr g c = IfOk-equal _ _ _ _ c.write_expr.ensures (expression_is g.W.Writer.after c.args.out.now c.args.s.now _ c.in-Expr.is)

pub returns-in_ok-write_targets-in-Assign : goal.returns-in_ok-write_targets-in-Assign
returns-in_ok-write_targets-in-Assign g c = IfOk-equal _ _ _ _ c.write_expr-in-Assign.ensures
    (assign_on g.W.Writer.after c.args.out.now c.args.s.now _ _ _ _ c.in-Assign.is c.deref.ensures.value
    c.in_ok-write_targets-in-Assign.ensures)

pub returns-in_ok-put_sign-in-AugAssign : goal.returns-in_ok-put_sign-in-AugAssign
returns-in_ok-put_sign-in-AugAssign g c = IfOk-equal _ _ _ _ c.write_expr-in-AugAssign-2.ensures
    (augmented_on g.W.Writer.after c.args.out.now c.args.s.now _ _ _ _ _ _ _ c.in-AugAssign.is c.deref-in-AugAssign.ensures
    c.augmented_sign.ensures
    c.in_ok-write_expr-in-AugAssign.ensures c.in_ok-put_sign-in-AugAssign.ensures)

pub returns-in_ok-write_expr-in-AnnAssign : goal.returns-in_ok-write_expr-in-AnnAssign
returns-in_ok-write_expr-in-AnnAssign g c = IfOk-equal _ _ _ _ c.write_after.ensures
    (annotation_on g.W.Writer.after c.args.out.now c.args.s.now c.in-AnnAssign.is c.deref-in-AnnAssign.ensures
    c.deref-in-AnnAssign-2.ensures
    c.in_ok-write_annotated-in-AnnAssign.ensures c.in_ok-put_sign-in-AnnAssign.ensures c.in_ok-write_expr-in-AnnAssign.ensures)

pub returns-in_ok-put_sign-in-TypeAlias : goal.returns-in_ok-put_sign-in-TypeAlias
returns-in_ok-put_sign-in-TypeAlias g c = IfOk-equal _ _ _ _ c.write_expr-in-TypeAlias-2.ensures
    (alias_on g.W.Writer.after c.args.out.now c.args.s.now c.in-TypeAlias.is c.deref-in-TypeAlias.ensures
    c.deref-in-TypeAlias-2.ensures.value c.deref-in-TypeAlias-3.ensures
    c.in_ok-put_text-in-TypeAlias.ensures c.in_ok-write_expr-in-TypeAlias.ensures c.in_ok-write_type_params-in-TypeAlias.ensures
    c.in_ok-put_sign-in-TypeAlias.ensures)

pub returns-in_ok-put_word-in-Return : goal.returns-in_ok-put_word-in-Return
returns-in_ok-put_word-in-Return g c = IfOk-equal _ _ _ _ c.write_option.ensures (return_on g.W.Writer.after c.args.out.now c.args.s.now _ _
    c.in-Return.is c.in_ok-put_word-in-Return.ensures)

pub returns-in-Raise : goal.returns-in-Raise
returns-in-Raise g c = IfOk-equal _ _ _ _ c.write_raise.ensures (raise_is g.W.Writer.after c.args.out.now c.args.s.now _ _ c.in-Raise.is)

pub returns-in-Assert : goal.returns-in-Assert
returns-in-Assert g c =
    IfOk-equal _ _ _ _ c.write_assert.ensures (assert_is g.W.Writer.after c.args.out.now c.args.s.now _ _ c.in-Assert.is)

pub returns-in_ok-put_word-in-Delete : goal.returns-in_ok-put_word-in-Delete
returns-in_ok-put_word-in-Delete g c = IfOk-equal _ _ _ _ c.write_members.ensures
    (delete_on g.W.Writer.after c.args.out.now c.args.s.now _ _ _ c.in-Delete.is c.deref-in-Delete.ensures.value
    c.in_ok-put_word-in-Delete.ensures)

pub returns-in_ok-put_word-in-Global : goal.returns-in_ok-put_word-in-Global
returns-in_ok-put_word-in-Global g c = IfOk-equal _ _ _ _ c.write_names.ensures
    (global_on g.W.Writer.after c.args.out.now c.args.s.now _ _ _ c.in-Global.is c.deref-in-Global.ensures.value
    c.in_ok-put_word-in-Global.ensures)

pub returns-in_ok-put_word-in-Nonlocal : goal.returns-in_ok-put_word-in-Nonlocal
returns-in_ok-put_word-in-Nonlocal g c = IfOk-equal _ _ _ _ c.write_names-in-Nonlocal.ensures
    (nonlocal_on g.W.Writer.after c.args.out.now c.args.s.now _ _ _ c.in-Nonlocal.is c.deref-in-Nonlocal.ensures.value
    c.in_ok-put_word-in-Nonlocal.ensures)

pub returns-in-Pass : goal.returns-in-Pass
returns-in-Pass g c = IfOk-equal _ _ _ _ c.put_word-in-Pass.ensures (pass_is g.W.Writer.after c.args.out.now c.args.s.now c.in-Pass.is)

pub returns-in-Break : goal.returns-in-Break
returns-in-Break g c = IfOk-equal _ _ _ _ c.put_word-in-Break.ensures (break_is g.W.Writer.after c.args.out.now c.args.s.now c.in-Break.is)

pub returns-in-Continue : goal.returns-in-Continue
returns-in-Continue g c = IfOk-equal _ _ _ _ c.put_word-in-Continue.ensures
    (continue_is g.W.Writer.after c.args.out.now c.args.s.now c.in-Continue.is)

pub returns-in_ok-put_word-in-Import : goal.returns-in_ok-put_word-in-Import
returns-in_ok-put_word-in-Import g c = IfOk-equal _ _ _ _ c.write_modules.ensures
    (import_on g.W.Writer.after c.args.out.now c.args.s.now _ _ _ c.in-Import.is c.deref-in-Import.ensures.value
    c.in_ok-put_word-in-Import.ensures)

pub returns-in-ImportFrom : goal.returns-in-ImportFrom
returns-in-ImportFrom g c = IfOk-equal _ _ _ _ c.write_import_from.ensures
    (import_from_is g.W.Writer.after c.args.out.now c.args.s.now _ _ _ _ c.in-ImportFrom.is c.deref-in-ImportFrom.ensures.value)

pub returns-in_default : goal.returns-in_default
returns-in_default g c = ap (puts g.W.Writer.after c.args.out.now) (sym (not_simple c.args.s.now
    c.in_default.not-Expr c.in_default.not-Assign c.in_default.not-AugAssign c.in_default.not-AnnAssign
    c.in_default.not-TypeAlias c.in_default.not-Return
    c.in_default.not-Raise c.in_default.not-Assert c.in_default.not-Delete c.in_default.not-Global
    c.in_default.not-Nonlocal c.in_default.not-Pass
    c.in_default.not-Break c.in_default.not-Continue c.in_default.not-Import c.in_default.not-ImportFrom))
