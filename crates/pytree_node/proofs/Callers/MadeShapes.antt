-- The value of a node that is made of fields.
--
-- Carries: what makes calls, dict comprehensions, parameters and `try`s in the crates above. On: the shapes of their classes.
use Rattle.std.proofs.Common.{◌≡◌, map, ap, ◌∙◌}
use Rattle.pytree_node.specs.declared.expressions.Arg.{Arg}
use Rattle.pytree_node.specs.declared.expressions.Arguments as given_arguments
use Rattle.pytree_node.specs.declared.expressions.Arguments.{Arguments}
use Rattle.pytree_node.specs.declared.expressions.Call as given_call
use Rattle.pytree_node.specs.declared.expressions.Call.{Call}
use Rattle.pytree_node.specs.declared.expressions.Compare.{Compare}
use Rattle.pytree_node.specs.declared.expressions.Comprehension.{Comprehension}
use Rattle.pytree_node.specs.declared.expressions.Dict.{Dict}
use Rattle.pytree_node.specs.declared.expressions.DictComp as given_dict_comp
use Rattle.pytree_node.specs.declared.expressions.DictComp.{DictComp}
use Rattle.pytree_node.specs.declared.expressions.Expr.{Expr}
use Rattle.pytree_node.specs.declared.expressions.Expr.TheOpen as expr_layer
use Rattle.pytree_node.specs.declared.expressions.Keyword.{Keyword}
use Rattle.pytree_node.specs.declared.expressions.Slice.{Slice}
use Rattle.pytree_node.specs.declared.statements.Case.{Case}
use Rattle.pytree_node.specs.declared.statements.ClassDef.{ClassDef}
use Rattle.pytree_node.specs.declared.statements.FunctionDef.{FunctionDef}
use Rattle.pytree_node.specs.declared.statements.Handler.{Handler}
use Rattle.pytree_node.specs.declared.statements.Stmt.{Stmt}
use Rattle.pytree_node.specs.declared.statements.Stmt.TheOpen as stmt_layer
use Rattle.pytree_node.specs.declared.statements.Try as given_try
use Rattle.pytree_node.specs.declared.statements.Try.{Try}
use Rattle.pytree_node.specs.Trees as plain
use Rattle.pytree_node.specs.Trees.{args, comprehensions, exprs, keywords, optional_arg, optionals}
use Rattle.pytree_node.specs.TreeOf.{arg_of, arg_option_of, arguments_of, call_of, comprehension_of, dict_comp_of, keyword_of, option_of}
use Rattle.pytree_node.specs.TreeOf.{tree_of}
use Rattle.pytree_node.specs.TreeOf.{handler_of, stmt_of, try_of}
use Rattle.pytree_node.proofs.Callers.ExprShapes.{arguments_tree, call_shape, dict_comp_shape}
use Rattle.pytree_node.proofs.Callers.StmtShapes.{try_shape}

-- the fields of each, whose children are nodes of the program
abbrev pub CallFields : Type 0
CallFields = expr_layer.Call-F Expr Arg Arguments Call Compare Comprehension Dict DictComp Keyword Slice

abbrev pub DictCompFields : Type 0
DictCompFields = expr_layer.DictComp-F Expr Arg Arguments Call Compare Comprehension Dict DictComp Keyword Slice

abbrev pub ArgumentsFields : Type 0
ArgumentsFields = expr_layer.Arguments-F Expr Arg Arguments Call Compare Comprehension Dict DictComp Keyword Slice

abbrev pub TryFields : Type 0
TryFields = stmt_layer.Try-F Stmt Case ClassDef FunctionDef Handler Try

-- what each denotes
abbrev pub call_value : CallFields → plain.Expr
call_value o = plain.Call (tree_of o.func) (exprs (map tree_of o.args.items)) (keywords (map keyword_of o.keywords.items))

abbrev pub dict_comp_value : DictCompFields → plain.Expr
dict_comp_value o = plain.DictComp (tree_of o.key) (tree_of o.value) (comprehensions (map comprehension_of o.generators.items))

abbrev pub arguments_value : ArgumentsFields → plain.Arguments
arguments_value o = plain.arguments (args (map arg_of o.posonlyargs.items)) (args (map arg_of o.args.items))
    (optional_arg (arg_option_of o.vararg)) (args (map arg_of o.kwonlyargs.items))
    (optionals (map option_of o.kw_defaults.items)) (optional_arg (arg_option_of o.kwarg)) (exprs (map tree_of o.defaults.items))

abbrev pub try_value : TryFields → plain.TryFields
try_value o = record {
  body = map stmt_of o.body.items;
  handlers = map handler_of o.handlers.items;
  orelse = map stmt_of o.orelse.items;
  finalbody = map stmt_of o.finalbody.items;
}

pub made_call : (a : CallFields) → call_of (given_call.roll-Call a) ≡ call_value a
made_call a = call_shape (given_call.roll-Call a) ∙ ap call_value (given_call.out-roll-Call a)

pub made_dict_comp : (a : DictCompFields) → dict_comp_of (given_dict_comp.roll-DictComp a) ≡ dict_comp_value a
made_dict_comp a = dict_comp_shape (given_dict_comp.roll-DictComp a) ∙ ap dict_comp_value (given_dict_comp.out-roll-DictComp a)

pub made_arguments : (a : ArgumentsFields) → arguments_of (given_arguments.roll-Arguments a) ≡ arguments_value a
made_arguments a = arguments_tree (given_arguments.roll-Arguments a) ∙ ap arguments_value (given_arguments.out-roll-Arguments a)

pub made_try : (a : TryFields) → try_of (given_try.roll-Try a) ≡ try_value a
made_try a = try_shape (given_try.roll-Try a) ∙ ap try_value (given_try.out-roll-Try a)
