use Rattle.std.proofs.Common.{◌≡◌, refl, sym, subst, map, codes}
use Rattle.pytree_node.specs.TreeOf.{tree_of, comprehension_of}
use Rattle.pytree_node.specs.TreeOf.{dict_comp_of}
use Rattle.pytree_dump_text.specs.Shows.{a_field}
use Rattle.pytree_dump_text.specs.Shows.{shown, shown_comprehension}
use Rattle.pytree_dump_text.specs.Shows.{showns, Row, no_field}
use Rattle.pytree_dump_text.specs.Shows.{Node}
use Rattle.pytree_dump.proofs.RowLemmas.{comprehensions_row}
use Rattle.pytree_node.proofs.Callers.ExprShapes.{dict_comp_shape}
use Rattle.pytree_node.specs.declared.expressions.DictComp as given_dict_comp
use Rattle.pytree_dump.specs.Inner.Nodes.{DescribesShown}
use Rattle.pytree_dump.proofs.expressions.dict_comp_node.Goals as goal

pub returns : goal.returns
returns c =
    let e : shown (dict_comp_of c.args.comp.now) ≡ Node (codes "DictComp")
    (a_field (codes "key") (shown (tree_of (given_dict_comp.out-DictComp c.args.comp.now).key))
    (a_field (codes "value") (shown (tree_of (given_dict_comp.out-DictComp c.args.comp.now).value))
    (a_field (codes "generators") (Row (showns (map (λ c. shown_comprehension (comprehension_of c)) c.deref.result.now))) no_field))) =
    rw (
      dict_comp_shape,
      comprehensions_row (given_dict_comp.out-DictComp c.args.comp.now).generators.items,
      sym c.deref.ensures.value,
    ) refl in
    subst (λ x. DescribesShown c.args.style c.three.result x) (sym e) c.three.ensures
