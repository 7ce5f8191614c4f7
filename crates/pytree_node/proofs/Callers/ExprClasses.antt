-- An expression of the program is of the class of its value.
--
-- Carries: what is proved of a match on expressions in the crates above.
use Rattle.std.proofs.Common.{◌≡◌, Global, Option, refl, sym, subst}
use Rattle.std.specs.declared.vec.Vec.{Vec}
use Rattle.std.specs.declared.boxed.Box.{Box}
use Rattle.pyfstring.specs.declared.parts.Conversion.{Conversion}
use Rattle.pytree_node.specs.declared.constants.Constant.{Constant}
use Rattle.pytree_node.specs.declared.operators.BoolOperator.{BoolOperator}
use Rattle.pytree_node.specs.declared.operators.UnaryOperator.{UnaryOperator}
use Rattle.pytree_node.specs.declared.operators.Operator.{Operator}
use Rattle.pytree_node.specs.declared.operators.Comparison.{Comparison}
use Rattle.pytree_node.specs.declared.operators.Context.{Context}
use Rattle.pytree_node.specs.declared.expressions.Expr as given
use Rattle.pytree_node.specs.declared.expressions.Expr.{Expr}
use Rattle.pytree_node.specs.declared.expressions.Expr.TheVariants as variant
use Rattle.pytree_node.specs.declared.expressions.Expr.TheOpen as layer
use Rattle.pytree_node.specs.declared.expressions.Arg.{Arg}
use Rattle.pytree_node.specs.declared.expressions.Arguments.{Arguments}
use Rattle.pytree_node.specs.declared.expressions.Call.{Call}
use Rattle.pytree_node.specs.declared.expressions.Compare.{Compare}
use Rattle.pytree_node.specs.declared.expressions.Comprehension.{Comprehension}
use Rattle.pytree_node.specs.declared.expressions.Dict.{Dict}
use Rattle.pytree_node.specs.declared.expressions.DictComp.{DictComp}
use Rattle.pytree_node.specs.declared.expressions.Keyword.{Keyword}
use Rattle.pytree_node.specs.declared.expressions.Slice.{Slice}
use Rattle.pytree_node.specs.Trees as plain
use Rattle.pytree_node.specs.Trees.{Identifier}
use Rattle.pytree_node.specs.TreeOf.{tree_of, arg_of, arguments_of, call_of, compare_of, comprehension_of, dict_of, dict_comp_of}
use Rattle.pytree_node.specs.TreeOf.{keyword_of}
use Rattle.pytree_node.specs.TreeOf.{slice_of, expr_step, arg_step, arguments_step, call_step, compare_step, comprehension_step, dict_step}
use Rattle.pytree_node.specs.TreeOf.{dict_comp_step, keyword_step, slice_step}
use Rattle.pytree_node.proofs.Callers.ExprShapes.{Layer, valued, call_shape, compare_shape, dict_shape, dict_comp_shape, slice_shape}

opened : (e : Expr) → tree_of e ≡ expr_step (valued (given.out-Expr e))
unfolding tree_of arg_of arguments_of call_of compare_of comprehension_of dict_of dict_comp_of keyword_of slice_of
opened = given.fold_out-Expr plain.Expr plain.Arg plain.Arguments plain.Expr plain.Expr plain.Comprehension plain.Expr plain.Expr
    plain.Keyword plain.Expr
    expr_step arg_step arguments_step call_step compare_step comprehension_step dict_step dict_comp_step keyword_step slice_step

-- it is of the class of this value
abbrev pub HasClass : plain.Expr → Expr → Type 0
HasClass (plain.BoolOp _ _) given = (op : BoolOperator) × (values : Vec Expr Global) × (given ≡ variant.BoolOp op values)
HasClass (plain.NamedExpr _ _) given = (target : Box Expr Global) × (value : Box Expr Global) × (given ≡ variant.NamedExpr target value)
HasClass (plain.BinOp _ _ _) given = (left : Box Expr Global) × (op : Operator) × (right : Box Expr Global) ×
    (given ≡ variant.BinOp left op right)
HasClass (plain.UnaryOp _ _) given = (op : UnaryOperator) × (operand : Box Expr Global) × (given ≡ variant.UnaryOp op operand)
HasClass (plain.Lambda _ _) given = (args : Box Arguments Global) × (body : Box Expr Global) × (given ≡ variant.Lambda args body)
HasClass (plain.IfExp _ _ _) given = (test : Box Expr Global) × (body : Box Expr Global) × (orelse : Box Expr Global) ×
    (given ≡ variant.IfExp test body orelse)
HasClass (plain.Dict _ _) given = (dict : Box Dict Global) × (given ≡ variant.Dict dict)
HasClass (plain.Set _) given = (elts : Vec Expr Global) × (given ≡ variant.Set elts)
HasClass (plain.ListComp _ _) given = (elt : Box Expr Global) × (generators : Vec Comprehension Global) ×
    (given ≡ variant.ListComp elt generators)
HasClass (plain.SetComp _ _) given = (elt : Box Expr Global) × (generators : Vec Comprehension Global) ×
    (given ≡ variant.SetComp elt generators)
HasClass (plain.DictComp _ _ _) given = (comp : Box DictComp Global) × (given ≡ variant.DictComp comp)
HasClass (plain.GeneratorExp _ _) given = (elt : Box Expr Global) × (generators : Vec Comprehension Global) ×
    (given ≡ variant.GeneratorExp elt generators)
HasClass (plain.Await _) given = (value : Box Expr Global) × (given ≡ variant.Await value)
HasClass (plain.Yield _) given = (value : Option (Box Expr Global)) × (given ≡ variant.Yield value)
HasClass (plain.YieldFrom _) given = (value : Box Expr Global) × (given ≡ variant.YieldFrom value)
HasClass (plain.Compare _ _ _) given = (compare : Box Compare Global) × (given ≡ variant.Compare compare)
HasClass (plain.Call _ _ _) given = (call : Box Call Global) × (given ≡ variant.Call call)
HasClass (plain.FormattedValue _ _ _) given = (value : Box Expr Global) × (conversion : Conversion) × (spec : Option (Box Expr Global)) ×
    (given ≡ variant.FormattedValue value conversion spec)
HasClass (plain.JoinedStr _) given = (values : Vec Expr Global) × (given ≡ variant.JoinedStr values)
HasClass (plain.Constant _) given = (value : Constant) × (given ≡ variant.Constant value)
HasClass (plain.Attribute _ _ _) given = (value : Box Expr Global) × (attr : Identifier) × (ctx : Context) ×
    (given ≡ variant.Attribute value attr ctx)
HasClass (plain.Subscript _ _ _) given = (value : Box Expr Global) × (slice : Box Expr Global) × (ctx : Context) ×
    (given ≡ variant.Subscript value slice ctx)
HasClass (plain.Starred _ _) given = (value : Box Expr Global) × (ctx : Context) × (given ≡ variant.Starred value ctx)
HasClass (plain.Name _ _) given = (id : Identifier) × (ctx : Context) × (given ≡ variant.Name id ctx)
HasClass (plain.ListOf _ _) given = (elts : Vec Expr Global) × (ctx : Context) × (given ≡ variant.List elts ctx)
HasClass (plain.Tuple _ _) given = (elts : Vec Expr Global) × (ctx : Context) × (given ≡ variant.Tuple elts ctx)
HasClass (plain.Slice _ _ _) given = (slice : Box Slice Global) × (given ≡ variant.Slice slice)

layer_has_class : (node : Layer) → HasClass (expr_step (valued node)) (given.roll-Expr node)
unfolding given.roll-Expr denote.Hole.Carrier.roll
layer_has_class (layer.BoolOp op values) = (op, values, refl)
layer_has_class (layer.NamedExpr target value) = (target, value, refl)
layer_has_class (layer.BinOp left op right) = (left, op, right, refl)
layer_has_class (layer.UnaryOp op operand) = (op, operand, refl)
layer_has_class (layer.Lambda args body) = (args, body, refl)
layer_has_class (layer.IfExp test body orelse) = (test, body, orelse, refl)
layer_has_class (layer.Dict dict) = subst (λ t. HasClass t (variant.Dict dict)) (sym (dict_shape dict.value)) (dict, refl)
layer_has_class (layer.Set elts) = (elts, refl)
layer_has_class (layer.ListComp elt generators) = (elt, generators, refl)
layer_has_class (layer.SetComp elt generators) = (elt, generators, refl)
layer_has_class (layer.DictComp comp) = subst (λ t. HasClass t (variant.DictComp comp)) (sym (dict_comp_shape comp.value)) (comp, refl)
layer_has_class (layer.GeneratorExp elt generators) = (elt, generators, refl)
layer_has_class (layer.Await value) = (value, refl)
layer_has_class (layer.Yield value) = (value, refl)
layer_has_class (layer.YieldFrom value) = (value, refl)
layer_has_class (layer.Compare compare) = subst (λ t. HasClass t (variant.Compare compare))
    (sym (compare_shape compare.value)) (compare, refl)
layer_has_class (layer.Call call) = subst (λ t. HasClass t (variant.Call call)) (sym (call_shape call.value)) (call, refl)
layer_has_class (layer.FormattedValue value conversion spec) = (value, conversion, spec, refl)
layer_has_class (layer.JoinedStr values) = (values, refl)
layer_has_class (layer.Constant value) = (value, refl)
layer_has_class (layer.Attribute value attr ctx) = (value, attr, ctx, refl)
layer_has_class (layer.Subscript value slice ctx) = (value, slice, ctx, refl)
layer_has_class (layer.Starred value ctx) = (value, ctx, refl)
layer_has_class (layer.Name id ctx) = (id, ctx, refl)
layer_has_class (layer.List elts ctx) = (elts, ctx, refl)
layer_has_class (layer.Tuple elts ctx) = (elts, ctx, refl)
layer_has_class (layer.Slice slice) = subst (λ t. HasClass t (variant.Slice slice)) (sym (slice_shape slice.value)) (slice, refl)

pub has_class : (e : Expr) → HasClass (tree_of e) e
has_class e = subst (λ given. HasClass (tree_of e) given) (given.roll-out-Expr e)
    (subst (λ t. HasClass t (given.roll-Expr (given.out-Expr e))) (sym (opened e)) (layer_has_class (given.out-Expr e)))
