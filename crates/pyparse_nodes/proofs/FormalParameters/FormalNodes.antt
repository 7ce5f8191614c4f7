-- The value of a node of parameters.
--
-- Carries: node_of. On: TreeOf.
use Rattle.std.proofs.Common.{◌≡◌, refl, ap, ◌∙◌, List, [], ◌∷◌, map, Option, Some, None, Bool}
use Rattle.pytree_node.specs.declared.expressions.Arguments as given
use Rattle.pytree_node.specs.declared.expressions.Arguments.{Arguments}
use Rattle.pytree_node.specs.declared.expressions.Expr.{Expr}
use Rattle.pytree_node.specs.declared.expressions.Expr.TheOpen as layer
use Rattle.pytree_node.specs.declared.expressions.Arg.{Arg}
use Rattle.pytree_node.specs.declared.expressions.Comprehension.{Comprehension}
use Rattle.pytree_node.specs.declared.expressions.Keyword.{Keyword}
use Rattle.pytree_node.specs.declared.expressions.Call.{Call}
use Rattle.pytree_node.specs.declared.expressions.Compare.{Compare}
use Rattle.pytree_node.specs.declared.expressions.Dict.{Dict}
use Rattle.pytree_node.specs.declared.expressions.DictComp.{DictComp}
use Rattle.pytree_node.specs.declared.expressions.Slice.{Slice}
use Rattle.pytree_node.specs.Trees as plain
use Rattle.pytree_node.specs.Trees.{args, exprs, optional, optional_arg, optionals}
use Rattle.pytree_node.specs.TreeOf.{arg_of, arg_option_of, arguments_of, option_of, tree_of}
use Rattle.pytree_node.proofs.Callers.ExprShapes.{arguments_tree}
use Rattle.pygrammar.specs.Parameters.{no_arguments}
use Rattle.pyparse_nodes.specs.declared.parameters.Stage.{Stage}
use Rattle.pyparse_nodes.specs.Formals.{state, before, args_before, optionals_before, exprs_before, arg_or}

abbrev valued : layer.Arguments-F Expr Arg Arguments Call Compare Comprehension Dict DictComp Keyword Slice → plain.Arguments
valued o = plain.arguments (args (map arg_of o.posonlyargs.items)) (args (map arg_of o.args.items))
    (optional_arg (arg_option_of o.vararg)) (args (map arg_of o.kwonlyargs.items))
    (optionals (map option_of o.kw_defaults.items)) (optional_arg (arg_option_of o.kwarg)) (exprs (map tree_of o.defaults.items))

all_args : (xs : List plain.Arg) → args xs ≡ args_before xs plain.no_arg
all_args [] = refl
all_args (x ∷ xs) = ap (λ r. plain.an_arg x r) (all_args xs)

all_optionals : (xs : List (Option plain.Expr)) → optionals xs ≡ optionals_before (map optional xs) plain.no_optional
all_optionals [] = refl
all_optionals (x ∷ xs) = ap (λ r. plain.an_optional (optional x) r) (all_optionals xs)

all_exprs : (xs : List plain.Expr) → exprs xs ≡ exprs_before xs plain.no_exprs
all_exprs [] = refl
all_exprs (x ∷ xs) = ap (λ r. plain.an_expr x r) (all_exprs xs)

this_arg : (o : Option plain.Arg) → optional_arg o ≡ arg_or o plain.absent_arg
this_arg None = refl
this_arg (Some a) = refl

pub node_is : (a : layer.Arguments-F Expr Arg Arguments Call Compare Comprehension Dict DictComp Keyword Slice) (g : Stage) (b : Bool) →
    arguments_of (given.roll-Arguments a) ≡ before (state g b (map arg_of a.posonlyargs.items) (map arg_of a.args.items)
    (arg_option_of a.vararg)
    (map arg_of a.kwonlyargs.items) (map optional (map option_of a.kw_defaults.items)) (arg_option_of a.kwarg)
    (map tree_of a.defaults.items)) no_arguments
node_is a g b = arguments_tree (given.roll-Arguments a)
    ∙ ap valued (given.out-roll-Arguments a)
    ∙ (λ i. plain.arguments (all_args (map arg_of a.posonlyargs.items) i) (all_args (map arg_of a.args.items) i)
    (this_arg (arg_option_of a.vararg) i)
    (all_args (map arg_of a.kwonlyargs.items) i) (all_optionals (map option_of a.kw_defaults.items) i) (this_arg (arg_option_of a.kwarg) i)
    (all_exprs (map tree_of a.defaults.items) i))
