use Rattle.std.proofs.Common.{◌≡◌, refl, sym, subst, map, codes}
use Rattle.pytree_node.specs.Trees.{optional}
use Rattle.pytree_node.specs.TreeOf.{tree_of, option_of}
use Rattle.pytree_node.specs.TreeOf.{dict_of}
use Rattle.pytree_dump_text.specs.Shows.{a_field}
use Rattle.pytree_dump_text.specs.Shows.{shown, shown_optional}
use Rattle.pytree_dump_text.specs.Shows.{showns, Row, no_field}
use Rattle.pytree_dump_text.specs.Shows.{Node}
use Rattle.pytree_dump.proofs.RowLemmas.{exprs_row}
use Rattle.pytree_dump.proofs.RowLemmas.{optionals_row}
use Rattle.pytree_node.proofs.Callers.ExprShapes.{dict_shape}
use Rattle.pytree_node.specs.declared.expressions.Dict as given_dict
use Rattle.pytree_dump.specs.Inner.Nodes.{DescribesShown}
use Rattle.pytree_dump.proofs.expressions.dict_node.Goals as goal

pub returns : goal.returns
returns c =
    let e : shown (dict_of c.args.dict.now) ≡ Node (codes "Dict")
    (a_field (codes "keys") (Row (showns (map (λ e. shown_optional (optional (option_of e))) c.deref.result.now)))
    (a_field (codes "values") (Row (showns (map (λ e. shown (tree_of e)) c.deref-2.result.now))) no_field)) =
    rw (
      dict_shape,
      optionals_row (given_dict.out-Dict c.args.dict.now).keys.items,
      exprs_row (given_dict.out-Dict c.args.dict.now).values.items,
      sym c.deref.ensures.value,
      sym c.deref-2.ensures.value,
    ) refl in
    subst (λ x. DescribesShown c.args.style c.two.result x) (sym e) c.two.ensures
