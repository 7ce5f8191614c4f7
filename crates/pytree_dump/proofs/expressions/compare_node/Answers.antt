use Rattle.std.proofs.Common.{◌≡◌, ap, sym, subst, map, codes, ◌∙◌}
use Rattle.pytree_node.specs.TreeOf.{tree_of}
use Rattle.pytree_node.specs.TreeOf.{compare_of}
use Rattle.pytree_dump_text.specs.Shows.{a_field}
use Rattle.pytree_dump_text.specs.Shows.{shown}
use Rattle.pytree_dump_text.specs.Shows.{word, comparison_name, showns, Row, no_field}
use Rattle.pytree_dump_text.specs.Shows.{Node}
use Rattle.pytree_dump.proofs.RowLemmas.{exprs_row, comparisons_row}
use Rattle.pytree_node.proofs.Callers.ExprShapes.{compare_shape}
use Rattle.pytree_node.specs.declared.expressions.Compare as given_compare
use Rattle.pytree_dump.specs.Inner.Nodes.{DescribesShown}
use Rattle.pytree_dump.proofs.expressions.compare_node.Goals as goal

pub returns : goal.returns
returns c =
    let o = given_compare.out-Compare c.args.compare.now in
    let e : shown (compare_of c.args.compare.now) ≡ Node (codes "Compare") (a_field (codes "left") (shown (tree_of o.left))
    (a_field (codes "ops") (Row (showns (map (λ c. word (comparison_name c)) c.deref.result.now)))
    (a_field (codes "comparators") (Row (showns (map (λ e. shown (tree_of e)) c.deref-2.result.now))) no_field))) =
    ap shown (compare_shape c.args.compare.now)
    ∙ (λ i. Node (codes "Compare") (a_field (codes "left") (shown (tree_of o.left))
    (a_field (codes "ops") (Row (comparisons_row o.ops.items i))
    (a_field (codes "comparators") (Row (exprs_row o.comparators.items i)) no_field))))
    ∙ (λ i. Node (codes "Compare") (a_field (codes "left") (shown (tree_of o.left))
    (a_field (codes "ops") (Row (showns (map (λ c. word (comparison_name c)) (sym c.deref.ensures.value i))))
    (a_field (codes "comparators") (Row (showns (map (λ e. shown (tree_of e)) (sym c.deref-2.ensures.value i)))) no_field)))) in
    subst (λ x. DescribesShown c.args.style c.three.result x) (sym e) c.three.ensures
