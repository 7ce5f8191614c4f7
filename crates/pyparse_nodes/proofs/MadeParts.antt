-- The value of a call and of a dict comprehension whose expressions come out of boxes.
--
-- Carries: call_of_parts, dict_comp_of_parts. On: made_call, made_dict_comp.
use Rattle.std.proofs.Common.{◌≡◌, map, ap, ◌∙◌}
use Rattle.pytree_node.specs.declared.expressions.Call as given_call
use Rattle.pytree_node.specs.declared.expressions.DictComp as given_dict_comp
use Rattle.pytree_node.specs.declared.expressions.Expr.{Expr}
use Rattle.pytree_node.specs.Trees as plain
use Rattle.pytree_node.specs.Trees.{comprehensions, exprs, keywords}
use Rattle.pytree_node.specs.TreeOf.{call_of, comprehension_of, dict_comp_of, keyword_of, tree_of}
use Rattle.pytree_node.proofs.Callers.MadeShapes.{CallFields, DictCompFields, made_call, made_dict_comp}

pub call_value_of : (a : CallFields) (func : Expr) → a.func ≡ func →
    call_of (given_call.roll-Call a)
    ≡ plain.Call (tree_of func) (exprs (map tree_of a.args.items)) (keywords (map keyword_of a.keywords.items))
call_value_of a func p = made_call a
    ∙ ap (λ f. plain.Call (tree_of f) (exprs (map tree_of a.args.items)) (keywords (map keyword_of a.keywords.items))) p

pub dict_comp_value_of : (a : DictCompFields) (key value : Expr) → a.key ≡ key → a.value ≡ value →
    dict_comp_of (given_dict_comp.roll-DictComp a)
    ≡ plain.DictComp (tree_of key) (tree_of value) (comprehensions (map comprehension_of a.generators.items))
dict_comp_value_of a key value p q = made_dict_comp a
    ∙ (λ i. plain.DictComp (tree_of (p i)) (tree_of (q i)) (comprehensions (map comprehension_of a.generators.items)))
