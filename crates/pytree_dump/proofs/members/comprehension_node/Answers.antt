use Rattle.std.proofs.Common.{◌≡◌, arith, refl, sym, map, codes, ◌∙◌, false}
use Rattle.pytree_node.specs.Trees.{exprs}
use Rattle.pytree_node.specs.TreeOf.{tree_of, comprehension_of}
use Rattle.pytree_dump_text.specs.Shows.{Fields, shown_flag, a_field}
use Rattle.pytree_dump_text.specs.Shows.{shown}
use Rattle.pytree_dump_text.specs.Shows.{showns, Row, no_field}
use Rattle.pytree_dump_text.specs.Shows.{shown_exprs}
use Rattle.pytree_dump.proofs.RowLemmas.{exprs_row}
use Rattle.pytree_marked.proofs.Callers.Shortness.{four_or_more}
use Rattle.pytree_node.proofs.Callers.ExprShapes.{comprehension_tree}
use Rattle.pytree_dump.proofs.NodeLemmas.{long_node}
use Rattle.pytree_marked.proofs.Callers.Shortness.{four_or_more}
use Rattle.pytree_dump.proofs.members.comprehension_node.Goals as goal

pub returns : goal.returns
returns c =
    let t = c.args.c.now in
    let fs : Fields = a_field (codes "target") (shown (tree_of t.target)) (a_field (codes "iter") (shown (tree_of t.iter))
    (a_field (codes "ifs") (Row (showns (map (λ e. shown (tree_of e)) t.ifs.items)))
    (a_field (codes "is_async") (shown_flag t.is_async) no_field))) in
    let of = comprehension_of t in
    let gs : Fields = a_field (codes "target") (shown of.target) (a_field (codes "iter") (shown of.iter)
    (a_field (codes "ifs") (Row (shown_exprs (exprs of.ifs))) (a_field (codes "is_async") (shown_flag of.is_async) no_field))) in
    let e : gs ≡ fs = rw (comprehension_tree, exprs_row t.ifs.items) refl in
    long_node false c.args.style _ (codes "comprehension(") gs (omega arith) refl refl
    ((λ i. a_field (codes "target") (shown (tree_of t.target)) (a_field (codes "iter") (shown (tree_of t.iter))
    (a_field (codes "ifs") (Row (showns (map (λ e. shown (tree_of e)) (c.deref.ensures.value i))))
    (a_field (codes "is_async") (shown_flag t.is_async) no_field)))) ∙ sym e) c.is_flat.ensures (four_or_more gs 0 refl)
