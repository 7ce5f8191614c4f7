use Rattle.std.proofs.Common.{refl, sym}
use Rattle.pytree_node.specs.TreeOf.{tree_of}
use Rattle.pytree_node.proofs.Callers.ExprShapes.{bool_op_tree, named_expr_tree, bin_op_tree, unary_op_tree, lambda_tree, if_exp_tree}
use Rattle.pytree_node.proofs.Callers.ExprShapes.{dict_tree, set_tree, list_comp_tree, set_comp_tree, dict_comp_tree, generator_exp_tree}
use Rattle.pytree_node.proofs.Callers.ExprShapes.{await_tree, yield_from_tree, compare_tree, call_tree, formatted_value_tree}
use Rattle.pytree_node.proofs.Callers.ExprShapes.{joined_str_tree, attribute_tree, subscript_tree, starred_tree, name_tree, list_tree}
use Rattle.pytree_node.proofs.Callers.ExprShapes.{tuple_tree, dict_shape, dict_comp_shape, compare_shape, call_shape}
use Rattle.pytree_dump_text.proofs.SlotLemmas.{formatted_shows}
use Rattle.pytree_dump_text.proofs.shortness.is_bare.Goals as goal

pub returns-in-BoolOp : goal.returns-in-BoolOp
returns-in-BoolOp c = rw (c.in-BoolOp.is, bool_op_tree) refl

pub returns-in-NamedExpr : goal.returns-in-NamedExpr
returns-in-NamedExpr c = rw (c.in-NamedExpr.is, named_expr_tree) refl

pub returns-in-BinOp : goal.returns-in-BinOp
returns-in-BinOp c = rw (c.in-BinOp.is, bin_op_tree) refl

pub returns-in-UnaryOp : goal.returns-in-UnaryOp
returns-in-UnaryOp c = rw (c.in-UnaryOp.is, unary_op_tree) refl

pub returns-in-Lambda : goal.returns-in-Lambda
returns-in-Lambda c = rw (c.in-Lambda.is, lambda_tree) refl

pub returns-in-IfExp : goal.returns-in-IfExp
returns-in-IfExp c = rw (c.in-IfExp.is, if_exp_tree) refl

pub returns-in-Dict : goal.returns-in-Dict
returns-in-Dict c = rw (c.in-Dict.is, dict_tree, dict_shape) refl

pub returns-in-Set : goal.returns-in-Set
returns-in-Set c = rw (c.in-Set.is, set_tree) refl

pub returns-in-ListComp : goal.returns-in-ListComp
returns-in-ListComp c = rw (c.in-ListComp.is, list_comp_tree) refl

pub returns-in-SetComp : goal.returns-in-SetComp
returns-in-SetComp c = rw (c.in-SetComp.is, set_comp_tree) refl

pub returns-in-DictComp : goal.returns-in-DictComp
returns-in-DictComp c = rw (c.in-DictComp.is, dict_comp_tree, dict_comp_shape) refl

pub returns-in-GeneratorExp : goal.returns-in-GeneratorExp
returns-in-GeneratorExp c = rw (c.in-GeneratorExp.is, generator_exp_tree) refl

pub returns-in-Await : goal.returns-in-Await
returns-in-Await c = rw (c.in-Await.is, await_tree) refl

pub returns-in-YieldFrom : goal.returns-in-YieldFrom
returns-in-YieldFrom c = rw (c.in-YieldFrom.is, yield_from_tree) refl

pub returns-in-Compare : goal.returns-in-Compare
returns-in-Compare c = rw (c.in-Compare.is, compare_tree, compare_shape) refl

pub returns-in-Call : goal.returns-in-Call
returns-in-Call c = rw (c.in-Call.is, call_tree, call_shape) refl

pub returns-in-FormattedValue : goal.returns-in-FormattedValue
returns-in-FormattedValue c = rw (c.in-FormattedValue.is, formatted_value_tree)
    (sym (formatted_shows (tree_of c.in-FormattedValue.value.value) c.in-FormattedValue.conversion _))

pub returns-in-JoinedStr : goal.returns-in-JoinedStr
returns-in-JoinedStr c = rw (c.in-JoinedStr.is, joined_str_tree) refl

pub returns-in-Attribute : goal.returns-in-Attribute
returns-in-Attribute c = rw (c.in-Attribute.is, attribute_tree) refl

pub returns-in-Subscript : goal.returns-in-Subscript
returns-in-Subscript c = rw (c.in-Subscript.is, subscript_tree) refl

pub returns-in-Starred : goal.returns-in-Starred
returns-in-Starred c = rw (c.in-Starred.is, starred_tree) refl

pub returns-in-Name : goal.returns-in-Name
returns-in-Name c = rw (c.in-Name.is, name_tree) refl

pub returns-in-List : goal.returns-in-List
returns-in-List c = rw (c.in-List.is, list_tree) refl

pub returns-in-Tuple : goal.returns-in-Tuple
returns-in-Tuple c = rw (c.in-Tuple.is, tuple_tree) refl
