use Rattle.std.proofs.Common.{◌≡◌, ◌≤◌, ◌+◌, ◌++◌, ◌||◌, arith, ap, codes, drop, false, length, refl, subst, sym, take, true, ◌∙◌}
use Rattle.std.proofs.lemmas.List.{drop_all}
use Rattle.std.proofs.lemmas.Result.{on_ok_weaker}
use Rattle.std.specs.String.{string_bytes}
use Rattle.pytree_node.specs.TreeOf.{stmt_of, tree_of}
use Rattle.pytree_node.proofs.Callers.StmtShapes.{assign_tree, expr_stmt_tree}
use Rattle.pytree_dump_text.specs.Layout.{before, is_flat, is_short}
use Rattle.pytree_dump_text.specs.Blocks.{listed}
use Rattle.pytree_dump_text.specs.Names.{field_name}
use Rattle.pytree_dump_text.specs.Shows.{Node, Row, a_field, a_shown, left_out, no_field, no_shown, shown, shown_stmt, showns}
use Rattle.pytree_marked.specs.Appends.{AppendsNode, coming_with}
use Rattle.pytree_marked.specs.MarkedNodes.{closed, fields_with}
use Rattle.pytree_dump.specs.Inner.Branches.{branch_fields, branch_shown, branch_sketch, branch_slot, branches_shown}
use Rattle.pytree_dump.specs.Inner.Nodes.{slotted}
use Rattle.pytree_dump.specs.Inner.Weights.{weight, weights, field_weights, slot_weight}
use Rattle.pytree_dump.proofs.BlockLemmas.{branches_count}
use Rattle.pytree_dump.proofs.JoinedLemmas.{on_always, on_both}
use Rattle.pytree_dump.proofs.NodeLemmas.{bare_ended, element_weight, field_left, field_passed, laid_shown, list_ended, marked_ended}
use Rattle.pytree_dump.proofs.NodeLemmas.{next_appended, next_left, node_weight, part_weight, shown_on_ok}
use Rattle.pytree_dump.proofs.PlaceLemmas.{field_appended, shown_on}
use Rattle.pytree_dump.proofs.RowLemmas.{exprs_row}
use Rattle.pytree_dump.proofs.TextLemmas.{left}
use Rattle.pytree_dump.proofs.blocks.+blocks.Goals as goal

pub show_branch-show_branch_node-requires : goal.show_branch-show_branch_node-requires
show_branch-show_branch_node-requires g t c =
    let s = c.args.style in
    let k = branch_sketch s.profile c.node.result in
    let w = node_weight s k (branch_shown s.profile c.args.branch) c.node.ensures in
    (λ κs l. (omega (arith, w), (l, laid_shown s k (branch_shown s.profile c.args.branch) c.node.ensures)))

pub show_branch-returns-in_default-clause-text : goal.show_branch-returns-in_default-clause-text
show_branch-returns-in_default-clause-text g t c =
    let s = c.args.style in
    shown_on_ok s (string_bytes c.args.indentation.now) (string_bytes c.args.out.now) (string_bytes c.show_branch_node.new.out)
    (g.P.PlaceSource.left c.args.places.now) (g.P.PlaceSource.left c.show_branch_node.new.places) (branch_sketch s.profile c.node.result)
    (branch_shown s.profile c.args.branch) c.show_branch_node.result c.node.ensures c.show_branch_node.ensures.text

pub show_stmt-show_branch_node-requires : goal.show_stmt-show_branch_node-requires
show_stmt-show_branch_node-requires g t c =
    let s = c.args.style in
    let k = branch_sketch s.profile c.stmt_node.result in
    let x = shown_stmt s.profile (stmt_of c.args.s.now) in
    let w = node_weight s k x c.stmt_node.ensures in (λ κs l. (omega (arith, w), (l, laid_shown s k x c.stmt_node.ensures)))

pub show_stmt-returns-in_default-clause-text : goal.show_stmt-returns-in_default-clause-text
show_stmt-returns-in_default-clause-text g t c =
    let s = c.args.style in
    shown_on_ok s (string_bytes c.args.indentation.now) (string_bytes c.args.out.now) (string_bytes c.show_branch_node.new.out)
    (g.P.PlaceSource.left c.args.places.now) (g.P.PlaceSource.left c.show_branch_node.new.places)
    (branch_sketch s.profile c.stmt_node.result) (shown_stmt s.profile (stmt_of c.args.s.now)) c.show_branch_node.result
    c.stmt_node.ensures c.show_branch_node.ensures.text

pub show_stmt-returns-in-Expr-clause-text : goal.show_stmt-returns-in-Expr-clause-text
show_stmt-returns-in-Expr-clause-text g t c =
    let e : shown_stmt c.args.style.profile (stmt_of c.args.s.now) ≡ Node (codes "Expr")
    (a_field (codes "value") (shown (tree_of c.in-Expr.value)) no_field) =
    rw (c.in-Expr.is, expr_stmt_tree) refl in
    shown_on c.args.style (string_bytes c.args.indentation.now) (string_bytes c.args.out.now) (string_bytes c.show_joined_value.new.out)
    (g.P.PlaceSource.left c.args.places.now) (g.P.PlaceSource.left c.show_joined_value.new.places) c.show_joined_value.result _ _ (sym e)
    (c.show_joined_value.ensures.text (codes "Expr(") refl)

pub show_stmt-returns-in-Assign-clause-text : goal.show_stmt-returns-in-Assign-clause-text
show_stmt-returns-in-Assign-clause-text g t c =
    let e : shown_stmt c.args.style.profile (stmt_of c.args.s.now) ≡ Node (codes "Assign")
    (a_field (codes "targets") (listed (λ e. shown (tree_of e)) c.deref.result.now)
    (a_field (codes "value") (shown (tree_of c.in-Assign.value)) (left_out no_field))) =
    rw (c.in-Assign.is, assign_tree, exprs_row c.in-Assign.targets.items, sym c.deref.ensures.value) refl in
    shown_on c.args.style (string_bytes c.args.indentation.now) (string_bytes c.args.out.now)
    (string_bytes c.show_joined_assignment.new.out) (g.P.PlaceSource.left c.args.places.now)
    (g.P.PlaceSource.left c.show_joined_assignment.new.places) c.show_joined_assignment.result _ _ (sym e)
    c.show_joined_assignment.ensures.text

pub show_branch_node-show_branch_field-requires : goal.show_branch_node-show_branch_field-requires
show_branch_node-show_branch_field-requires g t c =
    let p = c.args.style.profile in
    let h : slot_weight (branch_slot p c.part-item.result) ≤ field_weights (branch_fields p c.args.node.now) =
    part_weight (branch_slot p) (take c.args.node.now.len c.args.node.now.parts) c.loop-part.part-index c.part-item.result
    c.loop-part-test.true c.part-item.is in
    (λ κs l. (omega (arith, h), l))

pub show_branch_node-loop-part-preserved : goal.show_branch_node-loop-part-preserved
show_branch_node-loop-part-preserved g t c =
    let n = c.args.node.now in
    let g1 = branch_slot c.args.style.profile in
    let xs = take n.len n.parts in
    record {
      text = field_passed g1 n.is_marked xs c.args.style (string_bytes c.open.new.indentation) c.loop-part-test.true c.part-item.is
          c.loop-part.invariant.indentation c.loop-part.invariant.text c.in_ok-told.ensures.text;
      left = field_left g1 xs c.loop-part-test.true c.part-item.is c.loop-part.invariant.left c.in_ok-told.ensures.text;
      indentation = c.in_ok-told.ensures.indentation ∙ c.loop-part.invariant.indentation;
    }

pub show_branch_node-returns-then-node-clause-text : goal.show_branch_node-returns-then-node-clause-text
show_branch_node-returns-then-node-clause-text g t c =
    let n = c.args.node.now in
    let s = c.args.style in
    let g1 = branch_slot s.profile in
    let fs = branch_fields s.profile n in
    let f = string_bytes c.args.indentation.now in
    let ps = (g.P.PlaceSource.left c.args.places.now) in
    let m : n.is_marked ≡ true = c.if-node.true in
    on_both c.end_node.result
    (λ text left. subst (λ b. AppendsNode b s f (string_bytes c.args.out.now) (string_bytes c.end_node.new.out) ps
    (g.P.PlaceSource.left c.end_node.new.places) n.class.now fs) (sym m)
    (marked_ended g1 s f n.class.now (take n.len n.parts) (take n.len n.parts) (string_bytes c.args.out.now)
    (string_bytes c.loop-part.out) ps
    (g.P.PlaceSource.left c.loop-part.places) c.loop-part.told c.loop-part-test.false refl c.in_ok-outer.ensures.indentation
    (subst (λ b. c.is_told_on_line.result ≡ (is_flat s.indent || is_short (closed b (fields_with ps fs)).shown)) m
    (c.requires.line ps c.is_told_on_line.result c.is_told_on_line.ensures)) c.in_ok-outer.ensures.text
    (subst (λ b. string_bytes c.loop-part.out ++ coming_with b s (string_bytes c.open.new.indentation)
    (g.P.PlaceSource.left c.loop-part.places) c.loop-part.told (slotted g1 (drop c.loop-part.part-index (take n.len n.parts)))
    ≡ string_bytes c.open.new.out ++ coming_with b s (string_bytes c.open.new.indentation) ps
    (record { one_line = c.is_told_on_line.result; named = s.names; first = true }) fs) m c.loop-part.invariant.text)
    c.loop-part.invariant.left c.loop-part.invariant.indentation text left))
    c.end_node.ensures.text c.end_node.ensures.left

pub show_branch_node-returns-else-node-clause-text : goal.show_branch_node-returns-else-node-clause-text
show_branch_node-returns-else-node-clause-text g t c =
    let n = c.args.node.now in
    let s = c.args.style in
    let g1 = branch_slot s.profile in
    let fs = branch_fields s.profile n in
    let f = string_bytes c.args.indentation.now in
    let ps = (g.P.PlaceSource.left c.args.places.now) in
    let m : n.is_marked ≡ false = c.if-node.false in
    on_ok_weaker c.close.result
    (λ text. subst (λ b. AppendsNode b s f (string_bytes c.args.out.now) (string_bytes c.close.new.out) ps
    (g.P.PlaceSource.left c.loop-part.places) n.class.now fs) (sym m)
    (bare_ended g1 s f n.class.now (take n.len n.parts) (take n.len n.parts) (string_bytes c.args.out.now)
    (string_bytes c.loop-part.out) ps
    c.loop-part.told c.loop-part-test.false refl c.in_ok-outer.ensures.indentation
    (subst (λ b. c.is_told_on_line.result ≡ (is_flat s.indent || is_short (closed b (fields_with ps fs)).shown)) m
    (c.requires.line ps c.is_told_on_line.result c.is_told_on_line.ensures)) c.in_ok-outer.ensures.text
    (subst (λ b. string_bytes c.loop-part.out ++ coming_with b s (string_bytes c.open.new.indentation)
    (g.P.PlaceSource.left c.loop-part.places) c.loop-part.told (slotted g1 (drop c.loop-part.part-index (take n.len n.parts)))
    ≡ string_bytes c.open.new.out ++ coming_with b s (string_bytes c.open.new.indentation) ps
    (record { one_line = c.is_told_on_line.result; named = s.names; first = true }) fs) m c.loop-part.invariant.text)
    c.loop-part.invariant.left text))
    c.close.ensures.text

pub show_branch_node-returns-then-node-clause-indentation : goal.show_branch_node-returns-then-node-clause-indentation
show_branch_node-returns-then-node-clause-indentation g t c =
    on_ok_weaker c.end_node.result
    (λ e. left c.args.style.indent _ _ _ _ c.in_ok-outer.ensures.len (c.loop-part.invariant.indentation
    ∙ c.in_ok-outer.ensures.indentation) e)
    c.end_node.ensures.indentation

pub show_branch_node-returns-else-node-clause-indentation : goal.show_branch_node-returns-else-node-clause-indentation
show_branch_node-returns-else-node-clause-indentation g t c =
    on_always c.close.result (left c.args.style.indent _ _ _ _ c.in_ok-outer.ensures.len
    (c.loop-part.invariant.indentation ∙ c.in_ok-outer.ensures.indentation) c.close.ensures.indentation)

pub show_branch_field-returns-in-Any-clause-text : goal.show_branch_field-returns-in-Any-clause-text
show_branch_field-returns-in-Any-clause-text g t c = rw c.in-Any.is c.show_any_field.ensures.text

pub show_branch_field-returns-in_ok-show_branches-in-Branches-clause-text
    : goal.show_branch_field-returns-in_ok-show_branches-in-Branches-clause-text
show_branch_field-returns-in_ok-show_branches-in-Branches-clause-text g t c =
    rw c.in-Branches.is (field_appended c.args.style _ _ _ _ _ _ _ c.args.told (field_name c.in-Branches.field)
    (Row (showns (branches_shown c.args.style.profile c.in-Branches.branches))) c.as_str.ensures.value c.in_ok-push_lead-in-Branches.ensures
    c.in_ok-show_branches-in-Branches.ensures.text)

pub show_branch_field-show_branches-requires : goal.show_branch_field-show_branches-requires
show_branch_field-show_branches-requires g t c =
    let h = ap (λ z. slot_weight (branch_slot c.args.style.profile z)) c.in-Branches.is in (λ κs l. (omega (arith, h), l))

pub show_branches-show_branch-requires : goal.show_branches-show_branch-requires
show_branches-show_branch-requires g t c =
    let p = c.args.style.profile in
    let h = element_weight (branches_shown p c.args.branches) c.loop-i.i (branch_shown p c.at.result) _ (c.at.ensures p) in
    (λ κs l. (omega (arith, h), l))

pub show_branches-loop-i-preserved : goal.show_branches-loop-i-preserved
show_branches-loop-i-preserved g t c =
    let s = c.args.style in
    let x = branch_shown s.profile c.at.result in
    let rest = showns (drop (c.loop-i.i + 1) (branches_shown s.profile c.args.branches)) in
    let split : showns (drop c.loop-i.i (branches_shown s.profile c.args.branches)) ≡ a_shown x rest = ap showns (c.at.ensures s.profile) in
    let e1 : string_bytes c.push_before.new.out ≡ string_bytes c.loop-i.out ++ before (is_flat s.indent)
    (string_bytes c.loop-i.indentation) c.loop-i.first =
    c.in_ok-push_before.ensures
    ∙ (λ i. string_bytes c.loop-i.out ++ before (c.is_flat.ensures i) (c.as_str.ensures.value i) c.loop-i.first) in
    record {
      text = next_appended x rest s _ c.loop-i.first _ split c.loop-i.invariant.indentation c.loop-i.invariant.text e1
          c.in_ok-show_branch.ensures.text;
      left = next_left x rest _ split c.loop-i.invariant.left c.in_ok-show_branch.ensures.text.1;
      indentation = c.in_ok-show_branch.ensures.indentation ∙ c.loop-i.invariant.indentation;
    }

pub show_branches-returns-clause-text : goal.show_branches-returns-clause-text
show_branches-returns-clause-text g t c =
    let p = c.args.style.profile in
    let xs = branches_shown p c.args.branches in
    let n = branches_count p c.args.branches in
    let past : length xs ≤ c.loop-i.i = omega (arith, n, c.len-i-end.ensures) in
    let none : showns (drop c.loop-i.i xs) ≡ no_shown = ap showns (drop_all c.loop-i.i xs past) in
    on_ok_weaker c.close.result
    (λ e. list_ended (showns xs) c.args.style (string_bytes c.args.indentation.now) (string_bytes c.args.out.now)
    (string_bytes c.loop-i.out) c.loop-i.first (g.P.PlaceSource.left c.args.places.now) none c.in_ok-outer.ensures.indentation
    c.in_ok-outer.ensures.text c.loop-i.invariant.text c.loop-i.invariant.left e)
    c.close.ensures.text

pub show_branches-returns-clause-indentation : goal.show_branches-returns-clause-indentation
show_branches-returns-clause-indentation g t c =
    on_always c.close.result (left c.args.style.indent _ _ _ _ c.in_ok-outer.ensures.len
    (c.loop-i.invariant.indentation ∙ c.in_ok-outer.ensures.indentation) c.close.ensures.indentation)
