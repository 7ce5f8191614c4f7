use Rattle.std.proofs.Common.{◌≡◌, refl, sym, subst, map, codes}
use Rattle.pytree_node.specs.TreeOf.{tree_of, keyword_of}
use Rattle.pytree_node.specs.TreeOf.{call_of}
use Rattle.pytree_dump_text.specs.Shows.{a_field}
use Rattle.pytree_dump_text.specs.Shows.{shown, shown_keyword}
use Rattle.pytree_dump_text.specs.Shows.{showns, Row, no_field}
use Rattle.pytree_dump_text.specs.Shows.{Node}
use Rattle.pytree_dump.proofs.RowLemmas.{exprs_row, keywords_row}
use Rattle.pytree_node.proofs.Callers.ExprShapes.{call_shape}
use Rattle.pytree_node.specs.declared.expressions.Call as given_call
use Rattle.pytree_dump.specs.Inner.Nodes.{DescribesShown}
use Rattle.pytree_dump.proofs.expressions.call_node.Goals as goal

pub returns : goal.returns
returns c =
    let e : shown (call_of c.args.call.now) ≡ Node (codes "Call")
    (a_field (codes "func") (shown (tree_of (given_call.out-Call c.args.call.now).func))
    (a_field (codes "args") (Row (showns (map (λ e. shown (tree_of e)) c.deref.result.now)))
    (a_field (codes "keywords") (Row (showns (map (λ k. shown_keyword (keyword_of k)) c.deref-2.result.now))) no_field))) =
    rw (
      call_shape,
      exprs_row (given_call.out-Call c.args.call.now).args.items,
      keywords_row (given_call.out-Call c.args.call.now).keywords.items,
      sym c.deref.ensures.value,
      sym c.deref-2.ensures.value,
    ) refl in
    subst (λ x. DescribesShown c.args.style c.three.result x) (sym e) c.three.ensures
