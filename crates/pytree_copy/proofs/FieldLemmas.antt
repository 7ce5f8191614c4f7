-- Fields that are equal make equal parameters, calls and comprehensions.
--
-- Carries: copy_arguments, copy_call, copy_dict_comp. On: made_arguments, made_call, made_dict_comp.
use Rattle.std.proofs.Common.{◌≡◌, map, sym, ◌∙◌}
use Rattle.pytree_node.specs.declared.expressions.Arguments as given
use Rattle.pytree_node.specs.declared.expressions.Arguments.{Arguments}
use Rattle.pytree_node.specs.declared.expressions.Call as given_call
use Rattle.pytree_node.specs.declared.expressions.Call.{Call}
use Rattle.pytree_node.specs.declared.expressions.DictComp as given_dict_comp
use Rattle.pytree_node.specs.declared.expressions.DictComp.{DictComp}
use Rattle.pytree_node.specs.Trees as plain
use Rattle.pytree_node.specs.Trees.{args, comprehensions, exprs, keywords, optional_arg, optionals}
use Rattle.pytree_node.specs.TreeOf.{arg_of, arg_option_of, arguments_of, call_of, comprehension_of, dict_comp_of, keyword_of, option_of}
use Rattle.pytree_node.specs.TreeOf.{tree_of}
use Rattle.pytree_node.proofs.Callers.ExprShapes.{arguments_tree, call_shape, dict_comp_shape}
use Rattle.pytree_node.proofs.Callers.MadeShapes.{ArgumentsFields, CallFields, DictCompFields, made_arguments, made_call, made_dict_comp}

pub same_arguments : (a : ArgumentsFields) (b : Arguments) →
    map arg_of a.posonlyargs.items ≡ map arg_of (given.out-Arguments b).posonlyargs.items →
    map arg_of a.args.items ≡ map arg_of (given.out-Arguments b).args.items →
    arg_option_of a.vararg ≡ arg_option_of (given.out-Arguments b).vararg →
    map arg_of a.kwonlyargs.items ≡ map arg_of (given.out-Arguments b).kwonlyargs.items →
    map option_of a.kw_defaults.items ≡ map option_of (given.out-Arguments b).kw_defaults.items →
    arg_option_of a.kwarg ≡ arg_option_of (given.out-Arguments b).kwarg →
    map tree_of a.defaults.items ≡ map tree_of (given.out-Arguments b).defaults.items →
    arguments_of (given.roll-Arguments a) ≡ arguments_of b
same_arguments a b p q r s t u v = made_arguments a
    ∙ (λ i. plain.arguments (args (p i)) (args (q i)) (optional_arg (r i)) (args (s i)) (optionals (t i))
    (optional_arg (u i)) (exprs (v i)))
    ∙ sym (arguments_tree b)

pub same_call : (a : CallFields) (b : Call) →
    tree_of a.func ≡ tree_of (given_call.out-Call b).func →
    map tree_of a.args.items ≡ map tree_of (given_call.out-Call b).args.items →
    map keyword_of a.keywords.items ≡ map keyword_of (given_call.out-Call b).keywords.items →
    call_of (given_call.roll-Call a) ≡ call_of b
same_call a b p q r = made_call a ∙ (λ i. plain.Call (p i) (exprs (q i)) (keywords (r i))) ∙ sym (call_shape b)

pub same_dict_comp : (a : DictCompFields) (b : DictComp) →
    tree_of a.key ≡ tree_of (given_dict_comp.out-DictComp b).key →
    tree_of a.value ≡ tree_of (given_dict_comp.out-DictComp b).value →
    map comprehension_of a.generators.items ≡ map comprehension_of (given_dict_comp.out-DictComp b).generators.items →
    dict_comp_of (given_dict_comp.roll-DictComp a) ≡ dict_comp_of b
same_dict_comp a b p q r = made_dict_comp a
    ∙ (λ i. plain.DictComp (p i) (q i) (comprehensions (r i)))
    ∙ sym (dict_comp_shape b)
