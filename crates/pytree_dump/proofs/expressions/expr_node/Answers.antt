use Rattle.std.proofs.Common.{◌≡◌, refl, ap, sym, subst, map, codes, ◌∙◌}
use Rattle.pytree_node.specs.TreeOf.{tree_of, comprehension_of}
use Rattle.pytree_node.specs.TreeOf.{call_of, compare_of, dict_of, dict_comp_of, slice_of}
use Rattle.pytree_dump_text.specs.Shows.{a_field, bool_name, context_name, operator_name}
use Rattle.pytree_dump_text.specs.Shows.{shown, shown_name, shown_comprehension}
use Rattle.pytree_dump_text.specs.Shows.{word, showns, Row, no_field}
use Rattle.pytree_dump_text.specs.Shows.{Node}
use Rattle.pytree_dump.proofs.RowLemmas.{exprs_row, comprehensions_row}
use Rattle.pytree_node.proofs.Callers.ExprShapes.{generator_exp_tree, dict_comp_tree, compare_tree, call_tree, formatted_value_tree}
use Rattle.pytree_node.proofs.Callers.ExprShapes.{joined_str_tree, slice_tree, await_tree, bin_op_tree, bool_op_tree}
use Rattle.pytree_node.proofs.Callers.ExprShapes.{constant_tree, dict_tree, if_exp_tree, lambda_tree, list_comp_tree, list_tree, name_tree}
use Rattle.pytree_node.proofs.Callers.ExprShapes.{named_expr_tree, set_comp_tree, set_tree, starred_tree, subscript_tree, tuple_tree}
use Rattle.pytree_node.proofs.Callers.ExprShapes.{unary_op_tree, yield_from_tree, yield_tree, attribute_tree}
use Rattle.pytree_dump.specs.Inner.Nodes.{DescribesShown}
use Rattle.pytree_dump.proofs.expressions.expr_node.Goals as goal

pub returns-in-BoolOp : goal.returns-in-BoolOp
returns-in-BoolOp c =
    let e : shown (tree_of c.args.e.now) ≡ Node (codes "BoolOp") (a_field (codes "op") (word (bool_name c.in-BoolOp.op))
    (a_field (codes "values") (Row (showns (map (λ e. shown (tree_of e)) c.deref.result.now))) no_field)) =
    rw (c.in-BoolOp.is, bool_op_tree, exprs_row c.in-BoolOp.values.items, sym c.deref.ensures.value) refl in
    subst (λ x. DescribesShown c.args.style c.two.result x) (sym e) c.two.ensures

pub returns-in-NamedExpr : goal.returns-in-NamedExpr
returns-in-NamedExpr c =
    rw (
      c.in-NamedExpr.is,
      named_expr_tree,
      sym c.deref-in-NamedExpr.ensures,
      sym c.deref-in-NamedExpr-2.ensures,
    ) c.two-in-NamedExpr.ensures

pub returns-in-BinOp : goal.returns-in-BinOp
returns-in-BinOp c =
    let e : shown (tree_of c.args.e.now) ≡ Node (codes "BinOp") (a_field (codes "left") (shown (tree_of c.deref-in-BinOp.result.now))
    (a_field (codes "op") (word (operator_name c.in-BinOp.op))
    (a_field (codes "right") (shown (tree_of c.deref-in-BinOp-2.result.now)) no_field))) =
    ap (λ z. shown (tree_of z)) c.in-BinOp.is ∙ ap shown (bin_op_tree _ _ _)
    ∙ (λ i. Node (codes "BinOp") (a_field (codes "left") (shown (tree_of (sym c.deref-in-BinOp.ensures i)))
    (a_field (codes "op") (word (operator_name c.in-BinOp.op))
    (a_field (codes "right") (shown (tree_of (sym c.deref-in-BinOp-2.ensures i))) no_field)))) in
    subst (λ x. DescribesShown c.args.style c.three.result x) (sym e) c.three.ensures

pub returns-in-UnaryOp : goal.returns-in-UnaryOp
returns-in-UnaryOp c =
    rw (c.in-UnaryOp.is, unary_op_tree, sym c.deref-in-UnaryOp.ensures)
    c.two-in-UnaryOp.ensures

pub returns-in-Lambda : goal.returns-in-Lambda
returns-in-Lambda c =
    rw (
      c.in-Lambda.is,
      lambda_tree,
      sym c.deref-in-Lambda.ensures,
      sym c.deref-in-Lambda-2.ensures,
    ) c.two-in-Lambda.ensures

pub returns-in-IfExp : goal.returns-in-IfExp
returns-in-IfExp c =
    let e : shown (tree_of c.args.e.now) ≡ Node (codes "IfExp") (a_field (codes "test") (shown (tree_of c.deref-in-IfExp.result.now))
    (a_field (codes "body") (shown (tree_of c.deref-in-IfExp-2.result.now))
    (a_field (codes "orelse") (shown (tree_of c.deref-in-IfExp-3.result.now)) no_field))) =
    rw (c.in-IfExp.is, if_exp_tree, sym c.deref-in-IfExp.ensures, sym c.deref-in-IfExp-2.ensures, sym c.deref-in-IfExp-3.ensures) refl in
    subst (λ x. DescribesShown c.args.style c.three-in-IfExp.result x) (sym e) c.three-in-IfExp.ensures

pub returns-in-Dict : goal.returns-in-Dict
returns-in-Dict c =
    let e : shown (tree_of c.args.e.now) ≡ shown (dict_of c.deref-in-Dict.result.now) =
    rw (c.in-Dict.is, dict_tree, sym c.deref-in-Dict.ensures) refl in
    subst (λ x. DescribesShown c.args.style c.dict_node.result x) (sym e) c.dict_node.ensures

pub returns-in-Set : goal.returns-in-Set
returns-in-Set c =
    let e : shown (tree_of c.args.e.now) ≡ Node (codes "Set")
    (a_field (codes "elts") (Row (showns (map (λ e. shown (tree_of e)) c.deref-in-Set.result.now))) no_field) =
    rw (c.in-Set.is, set_tree, exprs_row c.in-Set.elts.items, sym c.deref-in-Set.ensures.value) refl in
    subst (λ x. DescribesShown c.args.style c.one.result x) (sym e) c.one.ensures

pub returns-in-ListComp : goal.returns-in-ListComp
returns-in-ListComp c =
    let e : shown (tree_of c.args.e.now) ≡ Node (codes "ListComp") (a_field (codes "elt") (shown (tree_of c.deref-in-ListComp.result.now))
    (a_field (codes "generators") (Row (showns (map (λ c. shown_comprehension (comprehension_of c)) c.deref-in-ListComp-2.result.now)))
    no_field)) =
    rw (
      c.in-ListComp.is,
      list_comp_tree,
      comprehensions_row c.in-ListComp.generators.items,
      sym c.deref-in-ListComp.ensures,
      sym c.deref-in-ListComp-2.ensures.value,
    ) refl in
    subst (λ x. DescribesShown c.args.style c.two-in-ListComp.result x) (sym e) c.two-in-ListComp.ensures

pub returns-in-SetComp : goal.returns-in-SetComp
returns-in-SetComp c =
    let e : shown (tree_of c.args.e.now) ≡ Node (codes "SetComp") (a_field (codes "elt") (shown (tree_of c.deref-in-SetComp.result.now))
    (a_field (codes "generators") (Row (showns (map (λ c. shown_comprehension (comprehension_of c)) c.deref-in-SetComp-2.result.now)))
    no_field)) =
    rw (
      c.in-SetComp.is,
      set_comp_tree,
      comprehensions_row c.in-SetComp.generators.items,
      sym c.deref-in-SetComp.ensures,
      sym c.deref-in-SetComp-2.ensures.value,
    ) refl in
    subst (λ x. DescribesShown c.args.style c.two-in-SetComp.result x) (sym e) c.two-in-SetComp.ensures

pub returns-in-DictComp : goal.returns-in-DictComp
returns-in-DictComp c =
    let e : shown (tree_of c.args.e.now) ≡ shown (dict_comp_of c.deref-in-DictComp.result.now) =
    rw (c.in-DictComp.is, dict_comp_tree, sym c.deref-in-DictComp.ensures) refl in
    subst (λ x. DescribesShown c.args.style c.dict_comp_node.result x) (sym e) c.dict_comp_node.ensures

pub returns-in-GeneratorExp : goal.returns-in-GeneratorExp
returns-in-GeneratorExp c =
    let e : shown (tree_of c.args.e.now) ≡ Node (codes "GeneratorExp")
    (a_field (codes "elt") (shown (tree_of c.deref-in-GeneratorExp.result.now))
    (a_field (codes "generators")
    (Row (showns (map (λ c. shown_comprehension (comprehension_of c)) c.deref-in-GeneratorExp-2.result.now))) no_field)) =
    rw (
      c.in-GeneratorExp.is,
      generator_exp_tree,
      comprehensions_row c.in-GeneratorExp.generators.items,
      sym c.deref-in-GeneratorExp.ensures,
      sym c.deref-in-GeneratorExp-2.ensures.value,
    ) refl in
    subst (λ x. DescribesShown c.args.style c.two-in-GeneratorExp.result x) (sym e) c.two-in-GeneratorExp.ensures

pub returns-in-Await : goal.returns-in-Await
returns-in-Await c =
    rw (c.in-Await.is, await_tree, sym c.deref-in-Await.ensures)
    c.one-in-Await.ensures

pub returns-in-Yield : goal.returns-in-Yield
returns-in-Yield c =
    rw (c.in-Yield.is, yield_tree) (rw (sym (c.boxed_part.ensures no_field)) c.one-in-Yield.ensures)

pub returns-in-YieldFrom : goal.returns-in-YieldFrom
returns-in-YieldFrom c =
    rw (c.in-YieldFrom.is, yield_from_tree, sym c.deref-in-YieldFrom.ensures)
    c.one-in-YieldFrom.ensures

pub returns-in-Compare : goal.returns-in-Compare
returns-in-Compare c =
    let e : shown (tree_of c.args.e.now) ≡ shown (compare_of c.deref-in-Compare.result.now) =
    rw (c.in-Compare.is, compare_tree, sym c.deref-in-Compare.ensures) refl in
    subst (λ x. DescribesShown c.args.style c.compare_node.result x) (sym e) c.compare_node.ensures

pub returns-in-Call : goal.returns-in-Call
returns-in-Call c =
    let e : shown (tree_of c.args.e.now) ≡ shown (call_of c.deref-in-Call.result.now) =
    rw (c.in-Call.is, call_tree, sym c.deref-in-Call.ensures) refl in
    subst (λ x. DescribesShown c.args.style c.call_node.result x) (sym e) c.call_node.ensures

pub returns-in-FormattedValue : goal.returns-in-FormattedValue
returns-in-FormattedValue c =
    rw (c.in-FormattedValue.is, formatted_value_tree)
    (rw (sym c.deref-in-FormattedValue.ensures, sym (c.boxed_part-in-FormattedValue.ensures no_field))
    c.three-in-FormattedValue.ensures)

pub returns-in-JoinedStr : goal.returns-in-JoinedStr
returns-in-JoinedStr c =
    let e : shown (tree_of c.args.e.now) ≡ Node (codes "JoinedStr")
    (a_field (codes "values") (Row (showns (map (λ e. shown (tree_of e)) c.deref-in-JoinedStr.result.now))) no_field) =
    rw (c.in-JoinedStr.is, joined_str_tree, exprs_row c.in-JoinedStr.values.items, sym c.deref-in-JoinedStr.ensures.value) refl in
    subst (λ x. DescribesShown c.args.style c.one-in-JoinedStr.result x) (sym e) c.one-in-JoinedStr.ensures

pub returns-in-Constant : goal.returns-in-Constant
returns-in-Constant c =
    rw (c.in-Constant.is, constant_tree) (rw (sym (c.kind_part.ensures no_field)) c.two-in-Constant.ensures)

pub returns-in-Attribute : goal.returns-in-Attribute
returns-in-Attribute c =
    let e : shown (tree_of c.args.e.now) ≡ Node (codes "Attribute")
    (a_field (codes "value") (shown (tree_of c.deref-in-Attribute.result.now))
    (a_field (codes "attr") (shown_name c.in-Attribute.attr) (a_field (codes "ctx") (word (context_name c.in-Attribute.ctx)) no_field))) =
    rw (c.in-Attribute.is, attribute_tree, sym c.deref-in-Attribute.ensures) refl in
    subst (λ x. DescribesShown c.args.style c.three-in-Attribute.result x) (sym e) c.three-in-Attribute.ensures

pub returns-in-Subscript : goal.returns-in-Subscript
returns-in-Subscript c =
    let e : shown (tree_of c.args.e.now) ≡ Node (codes "Subscript")
    (a_field (codes "value") (shown (tree_of c.deref-in-Subscript.result.now))
    (a_field (codes "slice") (shown (tree_of c.deref-in-Subscript-2.result.now))
    (a_field (codes "ctx") (word (context_name c.in-Subscript.ctx)) no_field))) =
    rw (c.in-Subscript.is, subscript_tree, sym c.deref-in-Subscript.ensures, sym c.deref-in-Subscript-2.ensures) refl in
    subst (λ x. DescribesShown c.args.style c.three-in-Subscript.result x) (sym e) c.three-in-Subscript.ensures

pub returns-in-Starred : goal.returns-in-Starred
returns-in-Starred c =
    rw (c.in-Starred.is, starred_tree, sym c.deref-in-Starred.ensures)
    c.two-in-Starred.ensures

pub returns-in-Name : goal.returns-in-Name
returns-in-Name c =
    rw (c.in-Name.is, name_tree) c.two-in-Name.ensures

pub returns-in-List : goal.returns-in-List
returns-in-List c =
    let e : shown (tree_of c.args.e.now) ≡ Node (codes "List")
    (a_field (codes "elts") (Row (showns (map (λ e. shown (tree_of e)) c.deref-in-List.result.now)))
    (a_field (codes "ctx") (word (context_name c.in-List.ctx)) no_field)) =
    rw (c.in-List.is, list_tree, exprs_row c.in-List.elts.items, sym c.deref-in-List.ensures.value) refl in
    subst (λ x. DescribesShown c.args.style c.two-in-List.result x) (sym e) c.two-in-List.ensures

pub returns-in-Tuple : goal.returns-in-Tuple
returns-in-Tuple c =
    let e : shown (tree_of c.args.e.now) ≡ Node (codes "Tuple")
    (a_field (codes "elts") (Row (showns (map (λ e. shown (tree_of e)) c.deref-in-Tuple.result.now)))
    (a_field (codes "ctx") (word (context_name c.in-Tuple.ctx)) no_field)) =
    rw (c.in-Tuple.is, tuple_tree, exprs_row c.in-Tuple.elts.items, sym c.deref-in-Tuple.ensures.value) refl in
    subst (λ x. DescribesShown c.args.style c.two-in-Tuple.result x) (sym e) c.two-in-Tuple.ensures

pub returns-in-Slice : goal.returns-in-Slice
returns-in-Slice c =
    let e : shown (tree_of c.args.e.now) ≡ shown (slice_of c.deref-in-Slice.result.now) =
    rw (c.in-Slice.is, slice_tree, sym c.deref-in-Slice.ensures) refl in
    subst (λ x. DescribesShown c.args.style c.slice_node.result x) (sym e) c.slice_node.ensures
