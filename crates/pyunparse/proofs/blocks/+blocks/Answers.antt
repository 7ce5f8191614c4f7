use Rattle.std.proofs.Common.{◌≡◌, ◌++◌, ◌∷◌, [], ◌∙◌, ◌<◌, ap, arith, false, true, length, map, refl, subst, suc, sym}
use Rattle.std.proofs.lemmas.Result.{IfOk-weaker}
use Rattle.pytree_node.specs.declared.statements.Case as given_case
use Rattle.pytree_node.specs.declared.statements.ClassDef as given_class_def
use Rattle.pytree_node.specs.declared.statements.FunctionDef as given_function_def
use Rattle.pytree_node.specs.declared.statements.Handler as given_handler
use Rattle.pytree_node.specs.Trees.{cases, handlers, keywords, stmts}
use Rattle.pytree_node.specs.TreeOf.{arguments_of, boxed_of, case_of, handler_of, item_of, keyword_of, option_of, pattern_of, stmt_of}
use Rattle.pytree_node.specs.TreeOf.{tree_of, type_param_of, class_def_of, function_def_of, try_of}
use Rattle.pygrammar.specs.Lines.{case_header, class_head, def_header, elif_header, else_header, except_header, finally_header, for_head}
use Rattle.pygrammar.specs.Lines.{function_head, if_header, loop_header, match_header, try_header, while_head, with_header}
use Rattle.pytree_height.specs.Heights.{case_heights, handler_heights, stmt_height, stmt_heights}
use Rattle.pyunparse_text.specs.Modules.{alternative, case_lines, clause, decorators, handler_lines, lines_of, statement_lines}
use Rattle.pylex_lexeme.specs.declared.kinds.Exact.TheVariants.{Colon}
use Rattle.pyunparse_text.specs.Pieces.{piece}
use Rattle.pyunparse_text.specs.Written.{trailing}
use Rattle.pyunparse_text.specs.Folds.{puts}
use Rattle.pyunparse_text.specs.Writing.{after_sited}
use Rattle.pytree_node.proofs.Callers.StmtShapes.{async_for_tree, async_function_def_tree, async_with_tree, case_tree, class_def_tree}
use Rattle.pytree_node.proofs.Callers.StmtShapes.{for_tree, function_def_tree, handler_tree, if_tree, match_tree, try_star_tree, try_tree}
use Rattle.pytree_node.proofs.Callers.StmtShapes.{while_tree, with_tree, class_def_shape, function_def_shape, try_shape}
use Rattle.pyunparse.specs.Inner.Lines.{Wrote, class_def_lines, def_lines, one_case, one_handler}
use Rattle.pyunparse.proofs.Shapes.StatementLemmas.{not_compound, not_elif, not_one, one_if, one_other}
use Rattle.pyunparse.proofs.Texts.LineLemmas.{all_lines, async_function_lines, block_wrote, class_lines, deeper, function_lines}
use Rattle.pyunparse.proofs.Texts.LineLemmas.{header_block, if_lines, line_on, match_lines, no_clause, some_clause, while_lines, wrote_none}
use Rattle.pyunparse.proofs.Texts.LineLemmas.{wrote_as, wrote_then}
use Rattle.pyunparse.proofs.Shapes.HeightLemmas.{case_height, class_height, function_decorators, function_height, handler_height}
use Rattle.pyunparse.proofs.Shapes.HeightLemmas.{try_body_height, try_final_height, try_handlers_height, try_orelse_height}
use Rattle.pyunparse.proofs.Sequences.MemberLemmas.{no_higher}
use Rattle.pyunparse.proofs.blocks.+blocks.Goals as goal

pub write_stmts-loop-s-preserved : goal.write_stmts-loop-s-preserved
unfolding lines_of
write_stmts-loop-s-preserved t c = record {
  text = line_on c.args.out.now c.loop-s.out (λ n xs. lines_of piece n (stmts (map stmt_of xs)))
      (λ n x. statement_lines piece n (stmt_of x))
      (λ _ _ _. refl) c.args.body.now _ _ _ _ c.loop-s-test.true c.s-item.is c.loop-s.invariant.level c.loop-s.invariant.text
      c.in_ok-write_stmt.ensures;
  level = c.in_ok-write_stmt.ensures.level ∙ c.loop-s.invariant.level;
}

pub write_stmts-returns : goal.write_stmts-returns
unfolding lines_of
write_stmts-returns t c = record {
  text = all_lines c.args.out.now c.loop-s.out (λ n xs. lines_of piece n (stmts (map stmt_of xs))) c.args.out.now.level refl c.args.body.now
      _ c.loop-s-test.false c.loop-s.invariant.text;
  level = c.loop-s.invariant.level;
}

pub write_stmts-write_stmt-requires : goal.write_stmts-write_stmt-requires
write_stmts-write_stmt-requires t c = let h : _ = no_higher (λ xs. stmt_heights (stmts (map stmt_of xs))) (λ x. stmt_height (stmt_of x))
    (λ _ _. refl) _ _ _ c.loop-s-test.true c.s-item.is in (omega (arith, h), tt)

pub write_handlers-loop-handler-preserved : goal.write_handlers-loop-handler-preserved
unfolding handler_lines
write_handlers-loop-handler-preserved t c = record {
  text = line_on c.args.out.now c.loop-handler.out (λ n xs. handler_lines piece n c.args.is_star (handlers (map handler_of xs)))
      (λ n x. one_handler n c.args.is_star (handler_of x))
      (λ _ _ _. refl) c.args.caught.now _ _ _ _ c.loop-handler-test.true c.handler-item.is c.loop-handler.invariant.level
      c.loop-handler.invariant.text c.in_ok-write_handler.ensures;
  level = c.in_ok-write_handler.ensures.level ∙ c.loop-handler.invariant.level;
}

pub write_handlers-returns : goal.write_handlers-returns
unfolding handler_lines
write_handlers-returns t c = record {
  text = all_lines c.args.out.now c.loop-handler.out (λ n xs. handler_lines piece n c.args.is_star (handlers (map handler_of xs)))
      c.args.out.now.level refl c.args.caught.now _ c.loop-handler-test.false c.loop-handler.invariant.text;
  level = c.loop-handler.invariant.level;
}

pub write_handlers-write_handler-requires : goal.write_handlers-write_handler-requires
write_handlers-write_handler-requires t c = let h : _ = no_higher (λ xs. handler_heights (handlers (map handler_of xs)))
    (λ x. stmt_heights (stmts (handler_of x).body)) (λ _ _. refl) _ _ _ c.loop-handler-test.true c.handler-item.is in (omega (arith, h), tt)

pub write_cases-loop-case-preserved : goal.write_cases-loop-case-preserved
unfolding case_lines
write_cases-loop-case-preserved t c = record {
  text = line_on c.args.out.now c.loop-case.out (λ n xs. case_lines piece n (cases (map case_of xs))) (λ n x. one_case n (case_of x))
      (λ _ _ _. refl) c.args.clauses.now _ _ _ _ c.loop-case-test.true c.case-item.is c.loop-case.invariant.level c.loop-case.invariant.text
      c.in_ok-write_case.ensures;
  level = c.in_ok-write_case.ensures.level ∙ c.loop-case.invariant.level;
}

pub write_cases-returns : goal.write_cases-returns
unfolding case_lines
write_cases-returns t c = record {
  text = all_lines c.args.out.now c.loop-case.out (λ n xs. case_lines piece n (cases (map case_of xs))) c.args.out.now.level refl
      c.args.clauses.now _ c.loop-case-test.false c.loop-case.invariant.text;
  level = c.loop-case.invariant.level;
}

pub write_cases-write_case-requires : goal.write_cases-write_case-requires
write_cases-write_case-requires t c = let h : _ = no_higher (λ xs. case_heights (cases (map case_of xs)))
    (λ x. stmt_heights (stmts (case_of x).body)) (λ _ _. refl) _ _ _ c.loop-case-test.true c.case-item.is in (omega (arith, h), tt)

pub write_match-returns : goal.write_match-returns
write_match-returns t c =
    let e = tree_of c.args.subject.now in
    let cs = cases (map case_of c.args.clauses.now) in
    IfOk-weaker _ _ _ (λ _ b. subst (Wrote c.args.out.now _) (match_lines c.args.out.now.level e cs)
    (header_block c.args.out.now _ _ _ (match_header e) (λ n. case_lines piece (suc n) cs)
    c.in_ok-begin_line.ensures c.in_ok-write_match_header.ensures b)) c.write_case_block.ensures

pub write_case_block-returns : goal.write_case_block-returns
write_case_block-returns t c = block_wrote c.args.out.now _ _ _ _ (λ n. case_lines piece n (cases (map case_of c.args.clauses.now)))
    c.in_ok-end_line.ensures c.in_ok-indent.ensures c.in_ok-write_cases.ensures c.dedent.ensures

pub write_case_block-dedent-requires : goal.write_case_block-dedent-requires
write_case_block-dedent-requires t c = deeper c.args.out.now _ _ _ _ c.in_ok-end_line.ensures c.in_ok-indent.ensures
    c.in_ok-write_cases.ensures

pub write_case-write_block-requires : goal.write_case-write_block-requires
write_case-write_block-requires t c = let h : _ = case_height c.args.case.now c.deref.result.now c.deref.ensures.value in
    (omega (arith, h), tt)

pub write_case-returns : goal.write_case-returns
write_case-returns t c =
    let o = given_case.out-Case c.args.case.now in
    rw (case_tree, sym c.deref.ensures.value)
    (IfOk-weaker _ _ _ (λ _ b. header_block c.args.out.now _ _ _ (case_header (pattern_of o.pattern) (option_of o.guard))
    (λ n. lines_of piece (suc n) (stmts (map stmt_of c.deref.result.now))) c.in_ok-begin_line.ensures c.in_ok-write_case_header.ensures
    b) c.write_block.ensures)

pub write_if-returns : goal.write_if-returns
write_if-returns t c =
    let n = c.args.out.now.level in
    let e = tree_of c.args.test.now in
    let body = stmts (map stmt_of c.args.body.now) in
    let orelse = stmts (map stmt_of c.args.orelse.now) in
    IfOk-weaker _ _ _ (λ _ w. subst (Wrote c.args.out.now _) (if_lines n e body orelse)
    (wrote_then c.args.out.now _ _ _ (λ l. alternative piece l orelse)
    (header_block c.args.out.now _ _ _ (if_header e) (λ l. lines_of piece (suc l) body) c.in_ok-begin_line.ensures
    c.in_ok-write_test_header.ensures c.in_ok-write_block.ensures) w)) c.write_alternative.ensures

pub write_while-returns : goal.write_while-returns
write_while-returns t c =
    let n = c.args.out.now.level in
    let e = tree_of c.args.test.now in
    let body = stmts (map stmt_of c.args.body.now) in
    let orelse = stmts (map stmt_of c.args.orelse.now) in
    IfOk-weaker _ _ _ (λ _ w. subst (Wrote c.args.out.now _) (while_lines n e body orelse)
    (wrote_then c.args.out.now _ _ _ (λ l. clause piece l else_header orelse)
    (header_block c.args.out.now _ _ _ (loop_header (while_head e)) (λ l. lines_of piece (suc l) body) c.in_ok-begin_line.ensures
    c.in_ok-write_test_header.ensures c.in_ok-write_block.ensures) w))
    (c.write_clause.ensures else_header refl)

pub write_for-returns : goal.write_for-returns
write_for-returns t c =
    IfOk-weaker _ _ _ (λ _ w. wrote_then c.args.out.now _ _ _ (λ n. clause piece n else_header (stmts (map stmt_of c.args.orelse.now)))
    (header_block c.args.out.now _ _ _ (loop_header (for_head c.args.is_async (tree_of c.args.target.now) (tree_of c.args.iter.now)))
    (λ n. lines_of piece (suc n) (stmts (map stmt_of c.args.body.now)))
    c.in_ok-begin_line.ensures c.in_ok-write_for_header.ensures c.in_ok-write_block.ensures) w) (c.write_clause.ensures else_header refl)

pub write_with-returns : goal.write_with-returns
write_with-returns t c =
    IfOk-weaker _ _ _ (λ _ b. header_block c.args.out.now _ _ _ (with_header c.args.is_async (map item_of c.args.items.now))
    (λ n. lines_of piece (suc n) (stmts (map stmt_of c.args.body.now)))
    c.in_ok-begin_line.ensures c.in_ok-write_with_header.ensures b) c.write_block.ensures

pub write_function-returns : goal.write_function-returns
write_function-returns t c = let o = given_function_def.out-FunctionDef c.args.def.now in
    rw (function_def_shape, sym c.deref.ensures.value, sym c.deref-2.ensures, sym c.deref-3.ensures.value)
    (IfOk-weaker _ _ _ (λ _ b. header_block c.args.out.now _ _ _
    (def_header (function_head c.args.is_async o.name (map type_param_of c.deref.result.now) (arguments_of c.deref-2.result.now)
    (boxed_of o.returns))) (λ n. lines_of piece (suc n) (stmts (map stmt_of c.deref-3.result.now)))
    c.in_ok-begin_line.ensures c.in_ok-write_function_header.ensures b) c.write_block.ensures)

pub write_class-returns : goal.write_class-returns
write_class-returns t c = let o = given_class_def.out-ClassDef c.args.class.now in
    rw (class_def_shape, sym c.deref.ensures.value, sym c.deref-2.ensures.value, sym c.deref-3.ensures.value, sym c.deref-4.ensures.value)
    (IfOk-weaker _ _ _ (λ _ b. header_block c.args.out.now _ _ _
    (def_header (class_head o.name (map type_param_of c.deref.result.now) (map tree_of c.deref-2.result.now)
    (keywords (map keyword_of c.deref-3.result.now)))) (λ n. lines_of piece (suc n) (stmts (map stmt_of c.deref-4.result.now)))
    c.in_ok-begin_line.ensures c.in_ok-write_class_header.ensures b) c.write_block.ensures)

pub write_try-returns : goal.write_try-returns
write_try-returns t c = rw (
  try_shape,
  sym c.deref.ensures.value,
  sym c.deref-2.ensures.value,
  sym c.deref-3.ensures.value,
  sym c.deref-4.ensures.value,
)
    (IfOk-weaker _ _ _ (λ _ w. wrote_then c.args.out.now _ _ _
    (λ n. handler_lines piece n c.args.is_star (handlers (map handler_of c.deref-2.result.now)) ++
    (clause piece n else_header (stmts (map stmt_of c.deref-3.result.now)) ++ clause piece n finally_header
    (stmts (map stmt_of c.deref-4.result.now))))
    (header_block c.args.out.now _ _ _ try_header (λ n. lines_of piece (suc n) (stmts (map stmt_of c.deref.result.now)))
    c.in_ok-begin_line.ensures c.in_ok-write_word_header.ensures c.in_ok-write_block.ensures)
    (wrote_then _ _ _ _ (λ n. clause piece n else_header (stmts (map stmt_of c.deref-3.result.now)) ++ clause piece n finally_header
    (stmts (map stmt_of c.deref-4.result.now))) c.in_ok-write_handlers.ensures
    (wrote_then _ _ _ _ (λ n. clause piece n finally_header (stmts (map stmt_of c.deref-4.result.now)))
    (c.in_ok-write_clause.ensures else_header refl) w))) (c.write_clause-2.ensures finally_header refl))

pub write_block-returns : goal.write_block-returns
write_block-returns t c = block_wrote c.args.out.now _ _ _ _ (λ n. lines_of piece n (stmts (map stmt_of c.args.body.now)))
    c.in_ok-end_line.ensures c.in_ok-indent.ensures c.in_ok-write_stmts.ensures c.dedent.ensures

pub write_block-dedent-requires : goal.write_block-dedent-requires
write_block-dedent-requires t c = deeper c.args.out.now _ _ _ _ c.in_ok-end_line.ensures c.in_ok-indent.ensures c.in_ok-write_stmts.ensures

pub write_elif-returns-in_ok-write_block-in-If : goal.write_elif-returns-in_ok-write_block-in-If
write_elif-returns-in_ok-write_block-in-If t c = rw (
  c.in-If.is,
  if_tree,
  sym c.deref.ensures,
  sym c.deref-in-If.ensures.value,
  sym c.deref-in-If-2.ensures.value,
)
    (IfOk-weaker _ _ _ (λ _ w. wrote_then c.args.out.now _ _ _ (λ n. alternative piece n (stmts (map stmt_of c.deref-in-If-2.result.now)))
    (header_block c.args.out.now _ _ _ (elif_header (tree_of c.deref.result.now))
    (λ n. lines_of piece (suc n) (stmts (map stmt_of c.deref-in-If.result.now)))
    c.in_ok-begin_line-in-If.ensures c.in_ok-write_test_header-in-If.ensures c.in_ok-write_block-in-If.ensures) w)
    c.write_alternative.ensures)

pub write_elif-returns-in_default : goal.write_elif-returns-in_default
write_elif-returns-in_default t c =
    subst (Wrote c.args.out.now c.args.out.now) (sym (not_elif c.args.s.now c.in_default.not-If c.args.out.now.level))
    (wrote_none c.args.out.now)

pub write_alternative-write_elif-requires : goal.write_alternative-write_elif-requires
write_alternative-write_elif-requires t c =
    let a : 0 < length c.args.body.now = omega arith in
    let h : _ = no_higher (λ xs. stmt_heights (stmts (map stmt_of xs))) (λ x. stmt_height (stmt_of x)) (λ _ _. refl) c.args.body.now 0 _ a
    c.index-body-0.is in (omega (arith, h), tt)

pub write_alternative-returns-then-count-ne1 : goal.write_alternative-returns-then-count-ne1
write_alternative-returns-then-count-ne1 t c =
    IfOk-weaker _ _ _ (λ _ w. subst (Wrote c.args.out.now _) (not_one c.args.out.now.level c.args.body.now c.if-count-ne1.true) w)
    (c.write_clause.ensures else_header refl)

pub write_alternative-returns-then-is_if : goal.write_alternative-returns-then-is_if
write_alternative-returns-then-is_if t c = IfOk-weaker _ _ _ (λ _ w. subst (Wrote c.args.out.now _)
    (one_if c.args.out.now.level c.args.body.now _ c.if-count-ne1.false c.index-body-0.is (sym c.is_if.ensures ∙ c.if-is_if.true)) w)
    c.write_elif.ensures

pub write_alternative-returns : goal.write_alternative-returns
write_alternative-returns t c = IfOk-weaker _ _ _ (λ _ w. subst (Wrote c.args.out.now _)
    (one_other c.args.out.now.level c.args.body.now _ c.if-count-ne1.false c.index-body-0.is (sym c.is_if.ensures ∙ c.if-is_if.false)) w)
    (c.write_clause-2.ensures else_header refl)

pub write_stmt-returns-in-If : goal.write_stmt-returns-in-If
unfolding lines_of
write_stmt-returns-in-If t c = rw (
  c.in-If.is,
  if_tree,
  sym c.deref.ensures,
  sym c.deref-in-If.ensures.value,
  sym c.deref-in-If-2.ensures.value,
) c.write_if.ensures

pub write_stmt-returns-in-While : goal.write_stmt-returns-in-While
unfolding lines_of
write_stmt-returns-in-While t c = rw (
  c.in-While.is,
  while_tree,
  sym c.deref-in-While.ensures,
  sym c.deref-in-While-2.ensures.value,
  sym c.deref-in-While-3.ensures.value,
) c.write_while.ensures

pub write_stmt-returns-in-For : goal.write_stmt-returns-in-For
unfolding lines_of
write_stmt-returns-in-For t c = rw (
  c.in-For.is,
  for_tree,
  sym c.deref-in-For.ensures,
  sym c.deref-in-For-2.ensures,
  sym c.deref-in-For-3.ensures.value,
  sym c.deref-in-For-4.ensures.value,
) c.write_for.ensures

pub write_stmt-returns-in-AsyncFor : goal.write_stmt-returns-in-AsyncFor
unfolding lines_of
write_stmt-returns-in-AsyncFor t c = rw (
  c.in-AsyncFor.is,
  async_for_tree,
  sym c.deref-in-AsyncFor.ensures,
  sym c.deref-in-AsyncFor-2.ensures,
  sym c.deref-in-AsyncFor-3.ensures.value,
  sym c.deref-in-AsyncFor-4.ensures.value,
)
    c.write_for-in-AsyncFor.ensures

pub write_stmt-returns-in-With : goal.write_stmt-returns-in-With
unfolding lines_of
write_stmt-returns-in-With t c = rw (
  c.in-With.is,
  with_tree,
  sym c.deref-in-With.ensures.value,
  sym c.deref-in-With-2.ensures.value,
) c.write_with.ensures

pub write_stmt-returns-in-AsyncWith : goal.write_stmt-returns-in-AsyncWith
unfolding lines_of
write_stmt-returns-in-AsyncWith t c = rw (
  c.in-AsyncWith.is,
  async_with_tree,
  sym c.deref-in-AsyncWith.ensures.value,
  sym c.deref-in-AsyncWith-2.ensures.value,
) c.write_with-in-AsyncWith.ensures

pub write_stmt-returns-in-Match : goal.write_stmt-returns-in-Match
write_stmt-returns-in-Match t c = rw (c.in-Match.is, match_tree, sym c.deref-in-Match.ensures.value) c.write_match.ensures

pub write_stmt-returns-in-Try : goal.write_stmt-returns-in-Try
unfolding lines_of
write_stmt-returns-in-Try t c = rw (
  c.in-Try.is,
  try_tree,
  sym c.deref-in-Try.ensures,
) c.write_try.ensures

pub write_stmt-returns-in-TryStar : goal.write_stmt-returns-in-TryStar
unfolding lines_of
write_stmt-returns-in-TryStar t c = rw (
  c.in-TryStar.is,
  try_star_tree,
  sym c.deref-in-TryStar.ensures,
)
    c.write_try-in-TryStar.ensures

pub write_stmt-returns-in_ok-write_decorators-in-FunctionDef : goal.write_stmt-returns-in_ok-write_decorators-in-FunctionDef
write_stmt-returns-in_ok-write_decorators-in-FunctionDef t c = let n = c.args.out.now.level in
    let f = function_def_of c.deref-in-FunctionDef-3.result.now in
    let ds = function_decorators c.deref-in-FunctionDef-3.result.now c.deref-in-FunctionDef-2.result.now
    (c.deref-in-FunctionDef-2.ensures.value
    ∙ ap (λ d. (given_function_def.out-FunctionDef d).decorator_list.items) (c.deref-in-FunctionDef.ensures
    ∙ sym c.deref-in-FunctionDef-3.ensures)) in
    rw (c.in-FunctionDef.is, function_def_tree, sym c.deref-in-FunctionDef-3.ensures)
    (IfOk-weaker _ _ _ (λ _ w. subst (Wrote c.args.out.now _) (function_lines n f.name f.args (stmts f.body) f.decorator_list
    f.returns f.type_params)
    (wrote_then c.args.out.now _ _ (decorators piece n f.decorator_list)
    (λ l. def_lines l (function_head false f.name f.type_params f.args f.returns) (stmts f.body))
    (wrote_as (ap (decorators piece n) ds) c.in_ok-write_decorators-in-FunctionDef.ensures) w)) c.write_function.ensures)

pub write_stmt-returns-in_ok-write_decorators-in-AsyncFunctionDef : goal.write_stmt-returns-in_ok-write_decorators-in-AsyncFunctionDef
write_stmt-returns-in_ok-write_decorators-in-AsyncFunctionDef t c = let n = c.args.out.now.level in
    let f = function_def_of c.deref-in-AsyncFunctionDef-3.result.now in
    let ds = function_decorators c.deref-in-AsyncFunctionDef-3.result.now c.deref-in-AsyncFunctionDef-2.result.now
    (c.deref-in-AsyncFunctionDef-2.ensures.value
    ∙ ap (λ d. (given_function_def.out-FunctionDef d).decorator_list.items) (c.deref-in-AsyncFunctionDef.ensures
    ∙ sym c.deref-in-AsyncFunctionDef-3.ensures)) in
    rw (c.in-AsyncFunctionDef.is, async_function_def_tree, sym c.deref-in-AsyncFunctionDef-3.ensures)
    (IfOk-weaker _ _ _ (λ _ w. subst (Wrote c.args.out.now _) (async_function_lines n f.name f.args (stmts f.body) f.decorator_list
    f.returns f.type_params)
    (wrote_then c.args.out.now _ _ (decorators piece n f.decorator_list)
    (λ l. def_lines l (function_head true f.name f.type_params f.args f.returns) (stmts f.body))
    (wrote_as (ap (decorators piece n) ds) c.in_ok-write_decorators-in-AsyncFunctionDef.ensures) w))
    c.write_function-in-AsyncFunctionDef.ensures)

pub write_stmt-returns-in_ok-write_decorators-in-ClassDef : goal.write_stmt-returns-in_ok-write_decorators-in-ClassDef
write_stmt-returns-in_ok-write_decorators-in-ClassDef t c =
    let n = c.args.out.now.level in
    let d = c.deref-in-ClassDef-3.result.now in
    let o = given_class_def.out-ClassDef d in
    let ds = map tree_of o.decorator_list.items in
    let is_ds = ap (map tree_of) (c.deref-in-ClassDef-2.ensures.value
    ∙ ap (λ d. (given_class_def.out-ClassDef d).decorator_list.items) (c.deref-in-ClassDef.ensures ∙ sym c.deref-in-ClassDef-3.ensures)) in
    let whole = subst (λ z. decorators piece n ds ++ class_def_lines n z ≡ statement_lines piece n z) (sym (class_def_shape d))
    (class_lines n o.name (map tree_of o.bases.items) (keywords (map keyword_of o.keywords.items)) (stmts (map stmt_of o.body.items)) ds
    (map type_param_of o.type_params.items)) in
    rw (c.in-ClassDef.is, class_def_tree, sym c.deref-in-ClassDef-3.ensures)
    (IfOk-weaker _ _ _ (λ _ w. subst (Wrote c.args.out.now _) whole
    (wrote_then c.args.out.now _ _ (decorators piece n ds) (λ l. class_def_lines l (class_def_of d))
    (wrote_as (ap (decorators piece n) is_ds) c.in_ok-write_decorators-in-ClassDef.ensures) w))
    c.write_class.ensures)

pub write_stmt-returns-in_default : goal.write_stmt-returns-in_default
write_stmt-returns-in_default t c =
    IfOk-weaker _ _ _ (λ _ w. subst (Wrote c.args.out.now _) (not_compound c.args.s.now c.in_default.not-If c.in_default.not-While
    c.in_default.not-For c.in_default.not-AsyncFor c.in_default.not-With c.in_default.not-AsyncWith c.in_default.not-Match
    c.in_default.not-Try c.in_default.not-TryStar c.in_default.not-FunctionDef c.in_default.not-AsyncFunctionDef c.in_default.not-ClassDef
    c.args.out.now.level) w) c.write_line.ensures

pub write_handler-write_block-requires : goal.write_handler-write_block-requires
write_handler-write_block-requires t c = let h : _ = handler_height c.args.handler.now c.deref.result.now c.deref.ensures.value in
    (omega (arith, h), tt)

pub write_handler-returns : goal.write_handler-returns
write_handler-returns t c =
    let o = given_handler.out-Handler c.args.handler.now in
    rw (handler_tree, sym c.deref.ensures.value)
    (IfOk-weaker _ _ _ (λ _ b. header_block c.args.out.now _ _ _ (except_header c.args.is_star (option_of o.class) o.name)
    (λ n. lines_of piece (suc n) (stmts (map stmt_of c.deref.result.now))) c.in_ok-begin_line.ensures c.in_ok-write_except_header.ensures
    b) c.write_block.ensures)

pub write_clause-returns : goal.write_clause-returns
write_clause-returns t c =
    λ h e. IfOk-weaker _ _ _
    (λ _ b. subst (Wrote c.args.out.now _) (some_clause c.args.out.now.level h c.args.body.now _ c.is_empty.ensures c.if-is_empty.false)
    (header_block c.args.out.now _ _ _ h (λ n. lines_of piece (suc n) (stmts (map stmt_of c.args.body.now)))
    c.in_ok-begin_line.ensures (c.in_ok-write_word_header.ensures
    ∙ ap (λ z. puts after_sited c.begin_line.new.self (z ++ trailing piece Colon ∷ [])) (sym e)) b)) c.write_block.ensures

pub write_clause-returns-then-is_empty : goal.write_clause-returns-then-is_empty
write_clause-returns-then-is_empty t c = λ h e. subst (Wrote c.args.out.now c.args.out.now)
    (no_clause c.args.out.now.level h c.args.body.now _ c.is_empty.ensures c.if-is_empty.true) (wrote_none c.args.out.now)

pub write_function-write_block-requires : goal.write_function-write_block-requires
write_function-write_block-requires t c = let h = function_height c.args.def.now c.deref-3.result.now c.deref-3.ensures.value in
    (omega (arith, h), tt)

pub write_class-write_block-requires : goal.write_class-write_block-requires
write_class-write_block-requires t c = let h = class_height c.args.class.now c.deref-4.result.now c.deref-4.ensures.value in
    (omega (arith, h), tt)

pub write_try-write_block-requires : goal.write_try-write_block-requires
write_try-write_block-requires t c = let h = try_body_height c.args.parts.now c.deref.result.now c.deref.ensures.value in
    (omega (arith, h), tt)

pub write_try-write_handlers-requires : goal.write_try-write_handlers-requires
write_try-write_handlers-requires t c = let h = try_handlers_height c.args.parts.now c.deref-2.result.now c.deref-2.ensures.value in
    (omega (arith, h), tt)

pub write_try-write_clause-requires : goal.write_try-write_clause-requires
write_try-write_clause-requires t c = let h = try_orelse_height c.args.parts.now c.deref-3.result.now c.deref-3.ensures.value in
    (omega (arith, h), tt)

pub write_try-write_clause-requires-2 : goal.write_try-write_clause-requires-2
write_try-write_clause-requires-2 t c = let h = try_final_height c.args.parts.now c.deref-4.result.now c.deref-4.ensures.value in
    (omega (arith, h), tt)
