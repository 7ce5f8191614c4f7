-- The value of each class of expression, of its children's values.
--
-- Carries: what is proved of `tree_of` in the crates above.
use Rattle.std.proofs.Common.{◌≡◌, map, refl, ap, ◌∙◌, Global, Option, None, Some}
use Rattle.std.specs.declared.vec.Vec.{Vec}
use Rattle.std.specs.declared.boxed.Box.{Box}
use Rattle.pyfstring.specs.declared.parts.Conversion.{Conversion}
use Rattle.pytree_node.specs.declared.constants.Constant.{Constant}
use Rattle.pytree_node.specs.declared.operators.BoolOperator.{BoolOperator}
use Rattle.pytree_node.specs.declared.operators.UnaryOperator.{UnaryOperator}
use Rattle.pytree_node.specs.declared.operators.Operator.{Operator}
use Rattle.pytree_node.specs.declared.operators.Comparison.{Comparison}
use Rattle.pytree_node.specs.declared.operators.Context.{Context}
use Rattle.pytree_node.specs.declared.expressions.Expr as given
use Rattle.pytree_node.specs.declared.expressions.Expr.{Expr}
use Rattle.pytree_node.specs.declared.expressions.Expr.TheVariants as variant
use Rattle.pytree_node.specs.declared.expressions.Expr.TheOpen as layer
use Rattle.pytree_node.specs.declared.expressions.Expr.TheShapes as shape
use Rattle.pytree_node.specs.declared.expressions.Arg as given_arg
use Rattle.pytree_node.specs.declared.expressions.Arg.{Arg}
use Rattle.pytree_node.specs.declared.expressions.Arguments as given_arguments
use Rattle.pytree_node.specs.declared.expressions.Arguments.{Arguments}
use Rattle.pytree_node.specs.declared.expressions.Call as given_call
use Rattle.pytree_node.specs.declared.expressions.Call.{Call}
use Rattle.pytree_node.specs.declared.expressions.Compare as given_compare
use Rattle.pytree_node.specs.declared.expressions.Compare.{Compare}
use Rattle.pytree_node.specs.declared.expressions.Comprehension as given_comprehension
use Rattle.pytree_node.specs.declared.expressions.Comprehension.{Comprehension}
use Rattle.pytree_node.specs.declared.expressions.Dict as given_dict
use Rattle.pytree_node.specs.declared.expressions.Dict.{Dict}
use Rattle.pytree_node.specs.declared.expressions.DictComp as given_dict_comp
use Rattle.pytree_node.specs.declared.expressions.DictComp.{DictComp}
use Rattle.pytree_node.specs.declared.expressions.Keyword as given_keyword
use Rattle.pytree_node.specs.declared.expressions.Keyword.{Keyword}
use Rattle.pytree_node.specs.declared.expressions.Slice as given_slice
use Rattle.pytree_node.specs.declared.expressions.Slice.{Slice}
use Rattle.pytree_node.specs.Trees as plain
use Rattle.pytree_node.specs.Trees.{Identifier, exprs, optional, optionals, comprehensions, keywords, args, optional_arg}
use Rattle.pytree_node.specs.TreeOf.{tree_of, arg_of, arguments_of, comprehension_of, keyword_of, option_of, boxed_of, arg_option_of}
use Rattle.pytree_node.specs.TreeOf.{call_of, compare_of, dict_of, dict_comp_of, slice_of}
use Rattle.pytree_node.specs.TreeOf.{constant_of, boxed, expr_step, arg_step, arguments_step, comprehension_step, keyword_step}
use Rattle.pytree_node.specs.TreeOf.{call_step, compare_step, dict_step, dict_comp_step, slice_step}

-- one node, whose children are nodes of the program
abbrev pub Layer : Type 0
Layer = layer.Expr-F Expr Arg Arguments Call Compare Comprehension Dict DictComp Keyword Slice

-- the node with its children's values in their places
abbrev pub valued : Layer → layer.Expr-F plain.Expr plain.Arg plain.Arguments plain.Expr plain.Expr plain.Comprehension plain.Expr
    plain.Expr plain.Keyword plain.Expr
valued = given.map-Expr Expr Arg Arguments Call Compare Comprehension Dict DictComp Keyword Slice plain.Expr plain.Arg plain.Arguments
    plain.Expr plain.Expr plain.Comprehension plain.Expr plain.Expr plain.Keyword plain.Expr
    tree_of arg_of arguments_of call_of compare_of comprehension_of dict_of dict_comp_of keyword_of slice_of

rolls : (node : Layer) → tree_of (given.roll-Expr node) ≡ expr_step (valued node)
unfolding tree_of arg_of arguments_of call_of compare_of comprehension_of dict_of dict_comp_of keyword_of slice_of
rolls = given.fold-roll-Expr plain.Expr plain.Arg plain.Arguments plain.Expr plain.Expr plain.Comprehension plain.Expr plain.Expr
    plain.Keyword plain.Expr
    expr_step arg_step arguments_step call_step compare_step comprehension_step dict_step dict_comp_step keyword_step slice_step

boxed_is : (o : Option (Box Expr Global)) → boxed ((shape.former-Expr-Yield-0).map Expr plain.Expr tree_of o) ≡ boxed_of o
boxed_is None = refl
boxed_is (Some b) = refl

option_is : (o : Option Expr) → (shape.former-Arguments-kw_defaults-at-1).map Expr plain.Expr tree_of o ≡ option_of o
option_is None = refl
option_is (Some e) = refl

arg_option_is : (o : Option Arg) → (shape.former-Arguments-vararg).map Arg plain.Arg arg_of o ≡ arg_option_of o
arg_option_is None = refl
arg_option_is (Some e) = refl

pub bool_op_tree : (op : BoolOperator) (values : Vec Expr Global) →
    tree_of (variant.BoolOp op values) ≡ plain.BoolOp op (exprs (map tree_of values.items))
unfolding given.roll-Expr denote.Hole.Carrier.roll
bool_op_tree op values = rolls (layer.BoolOp op values)

pub named_expr_tree : (target : Box Expr Global) (value : Box Expr Global) →
    tree_of (variant.NamedExpr target value) ≡ plain.NamedExpr (tree_of target.value) (tree_of value.value)
unfolding given.roll-Expr denote.Hole.Carrier.roll
named_expr_tree target value = rolls (layer.NamedExpr target value)

pub bin_op_tree : (left : Box Expr Global) (op : Operator) (right : Box Expr Global) →
    tree_of (variant.BinOp left op right) ≡ plain.BinOp (tree_of left.value) op (tree_of right.value)
unfolding given.roll-Expr denote.Hole.Carrier.roll
bin_op_tree left op right = rolls (layer.BinOp left op right)

pub unary_op_tree : (op : UnaryOperator) (operand : Box Expr Global) →
    tree_of (variant.UnaryOp op operand) ≡ plain.UnaryOp op (tree_of operand.value)
unfolding given.roll-Expr denote.Hole.Carrier.roll
unary_op_tree op operand = rolls (layer.UnaryOp op operand)

pub lambda_tree : (args : Box Arguments Global) (body : Box Expr Global) →
    tree_of (variant.Lambda args body) ≡ plain.Lambda (arguments_of args.value) (tree_of body.value)
unfolding given.roll-Expr denote.Hole.Carrier.roll
lambda_tree args body = rolls (layer.Lambda args body)

pub if_exp_tree : (test : Box Expr Global) (body : Box Expr Global) (orelse : Box Expr Global) →
    tree_of (variant.IfExp test body orelse) ≡ plain.IfExp (tree_of test.value) (tree_of body.value) (tree_of orelse.value)
unfolding given.roll-Expr denote.Hole.Carrier.roll
if_exp_tree test body orelse = rolls (layer.IfExp test body orelse)

pub dict_shape : (d : Dict) → let o : layer.Dict-F Expr Arg Arguments Call Compare Comprehension Dict DictComp Keyword Slice =
    given_dict.out-Dict d in
    dict_of d ≡ plain.Dict (optionals (map option_of o.keys.items)) (exprs (map tree_of o.values.items))
unfolding tree_of arg_of arguments_of call_of compare_of comprehension_of dict_of dict_comp_of keyword_of slice_of
dict_shape d = given_dict.fold_out-Dict plain.Expr plain.Arg plain.Arguments plain.Expr plain.Expr plain.Comprehension plain.Expr plain.Expr
    plain.Keyword plain.Expr
    expr_step arg_step arguments_step call_step compare_step comprehension_step dict_step dict_comp_step keyword_step slice_step d
    ∙ (λ i. let o : layer.Dict-F Expr Arg Arguments Call Compare Comprehension Dict DictComp Keyword Slice = given_dict.out-Dict d in
    plain.Dict (optionals (map (λ k. option_is k i) o.keys.items)) (exprs (map tree_of o.values.items)))

pub dict_tree : (d : Box Dict Global) → tree_of (variant.Dict d) ≡ dict_of d.value
unfolding given.roll-Expr denote.Hole.Carrier.roll
dict_tree d = rolls (layer.Dict d)

pub set_tree : (elts : Vec Expr Global) →
    tree_of (variant.Set elts) ≡ plain.Set (exprs (map tree_of elts.items))
unfolding given.roll-Expr denote.Hole.Carrier.roll
set_tree elts = rolls (layer.Set elts)

pub list_comp_tree : (elt : Box Expr Global) (generators : Vec Comprehension Global) →
    tree_of (variant.ListComp elt generators) ≡ plain.ListComp (tree_of elt.value) (comprehensions (map comprehension_of generators.items))
unfolding given.roll-Expr denote.Hole.Carrier.roll
list_comp_tree elt generators = rolls (layer.ListComp elt generators)

pub set_comp_tree : (elt : Box Expr Global) (generators : Vec Comprehension Global) →
    tree_of (variant.SetComp elt generators) ≡ plain.SetComp (tree_of elt.value) (comprehensions (map comprehension_of generators.items))
unfolding given.roll-Expr denote.Hole.Carrier.roll
set_comp_tree elt generators = rolls (layer.SetComp elt generators)

pub dict_comp_shape : (d : DictComp) → let o : layer.DictComp-F Expr Arg Arguments Call Compare Comprehension Dict DictComp Keyword Slice =
    given_dict_comp.out-DictComp d in
    dict_comp_of d ≡ plain.DictComp (tree_of o.key) (tree_of o.value) (comprehensions (map comprehension_of o.generators.items))
unfolding tree_of arg_of arguments_of call_of compare_of comprehension_of dict_of dict_comp_of keyword_of slice_of
dict_comp_shape d = given_dict_comp.fold_out-DictComp plain.Expr plain.Arg plain.Arguments plain.Expr plain.Expr plain.Comprehension
    plain.Expr plain.Expr plain.Keyword plain.Expr
    expr_step arg_step arguments_step call_step compare_step comprehension_step dict_step dict_comp_step keyword_step slice_step d

pub dict_comp_tree : (d : Box DictComp Global) → tree_of (variant.DictComp d) ≡ dict_comp_of d.value
unfolding given.roll-Expr denote.Hole.Carrier.roll
dict_comp_tree d = rolls (layer.DictComp d)

pub generator_exp_tree : (elt : Box Expr Global) (generators : Vec Comprehension Global) →
    tree_of (variant.GeneratorExp elt generators) ≡ plain.GeneratorExp (tree_of elt.value)
    (comprehensions (map comprehension_of generators.items))
unfolding given.roll-Expr denote.Hole.Carrier.roll
generator_exp_tree elt generators = rolls (layer.GeneratorExp elt generators)

pub await_tree : (value : Box Expr Global) →
    tree_of (variant.Await value) ≡ plain.Await (tree_of value.value)
unfolding given.roll-Expr denote.Hole.Carrier.roll
await_tree value = rolls (layer.Await value)

pub yield_tree : (value : Option (Box Expr Global)) →
    tree_of (variant.Yield value) ≡ plain.Yield (optional (boxed_of value))
unfolding given.roll-Expr denote.Hole.Carrier.roll
yield_tree value = rolls (layer.Yield value) ∙ (λ i. plain.Yield (optional (boxed_is value i)))

pub yield_from_tree : (value : Box Expr Global) →
    tree_of (variant.YieldFrom value) ≡ plain.YieldFrom (tree_of value.value)
unfolding given.roll-Expr denote.Hole.Carrier.roll
yield_from_tree value = rolls (layer.YieldFrom value)

pub compare_shape : (c : Compare) → let o : layer.Compare-F Expr Arg Arguments Call Compare Comprehension Dict DictComp Keyword Slice =
    given_compare.out-Compare c in
    compare_of c ≡ plain.Compare (tree_of o.left) o.ops.items (exprs (map tree_of o.comparators.items))
unfolding tree_of arg_of arguments_of call_of compare_of comprehension_of dict_of dict_comp_of keyword_of slice_of
compare_shape c = given_compare.fold_out-Compare plain.Expr plain.Arg plain.Arguments plain.Expr plain.Expr plain.Comprehension plain.Expr
    plain.Expr plain.Keyword plain.Expr
    expr_step arg_step arguments_step call_step compare_step comprehension_step dict_step dict_comp_step keyword_step slice_step c

pub compare_tree : (c : Box Compare Global) → tree_of (variant.Compare c) ≡ compare_of c.value
unfolding given.roll-Expr denote.Hole.Carrier.roll
compare_tree c = rolls (layer.Compare c)

pub call_shape : (c : Call) → let o : layer.Call-F Expr Arg Arguments Call Compare Comprehension Dict DictComp Keyword Slice =
    given_call.out-Call c in
    call_of c ≡ plain.Call (tree_of o.func) (exprs (map tree_of o.args.items)) (keywords (map keyword_of o.keywords.items))
unfolding tree_of arg_of arguments_of call_of compare_of comprehension_of dict_of dict_comp_of keyword_of slice_of
call_shape c = given_call.fold_out-Call plain.Expr plain.Arg plain.Arguments plain.Expr plain.Expr plain.Comprehension plain.Expr plain.Expr
    plain.Keyword plain.Expr
    expr_step arg_step arguments_step call_step compare_step comprehension_step dict_step dict_comp_step keyword_step slice_step c

pub call_tree : (c : Box Call Global) → tree_of (variant.Call c) ≡ call_of c.value
unfolding given.roll-Expr denote.Hole.Carrier.roll
call_tree c = rolls (layer.Call c)

pub formatted_value_tree : (value : Box Expr Global) (conversion : Conversion) (spec : Option (Box Expr Global)) →
    tree_of (variant.FormattedValue value conversion spec) ≡ plain.FormattedValue (tree_of value.value) conversion
    (optional (boxed_of spec))
unfolding given.roll-Expr denote.Hole.Carrier.roll
formatted_value_tree value conversion spec = rolls (layer.FormattedValue value conversion spec)
    ∙ (λ i. plain.FormattedValue (tree_of value.value) conversion (optional (boxed_is spec i)))

pub joined_str_tree : (values : Vec Expr Global) →
    tree_of (variant.JoinedStr values) ≡ plain.JoinedStr (exprs (map tree_of values.items))
unfolding given.roll-Expr denote.Hole.Carrier.roll
joined_str_tree values = rolls (layer.JoinedStr values)

pub constant_tree : (value : Constant) →
    tree_of (variant.Constant value) ≡ plain.Constant (constant_of value)
unfolding given.roll-Expr denote.Hole.Carrier.roll
constant_tree value = rolls (layer.Constant value)

pub attribute_tree : (value : Box Expr Global) (attr : Identifier) (ctx : Context) →
    tree_of (variant.Attribute value attr ctx) ≡ plain.Attribute (tree_of value.value) attr ctx
unfolding given.roll-Expr denote.Hole.Carrier.roll
attribute_tree value attr ctx = rolls (layer.Attribute value attr ctx)

pub subscript_tree : (value : Box Expr Global) (slice : Box Expr Global) (ctx : Context) →
    tree_of (variant.Subscript value slice ctx) ≡ plain.Subscript (tree_of value.value) (tree_of slice.value) ctx
unfolding given.roll-Expr denote.Hole.Carrier.roll
subscript_tree value slice ctx = rolls (layer.Subscript value slice ctx)

pub starred_tree : (value : Box Expr Global) (ctx : Context) →
    tree_of (variant.Starred value ctx) ≡ plain.Starred (tree_of value.value) ctx
unfolding given.roll-Expr denote.Hole.Carrier.roll
starred_tree value ctx = rolls (layer.Starred value ctx)

pub name_tree : (id : Identifier) (ctx : Context) →
    tree_of (variant.Name id ctx) ≡ plain.Name id ctx
unfolding given.roll-Expr denote.Hole.Carrier.roll
name_tree id ctx = rolls (layer.Name id ctx)

pub list_tree : (elts : Vec Expr Global) (ctx : Context) →
    tree_of (variant.List elts ctx) ≡ plain.ListOf (exprs (map tree_of elts.items)) ctx
unfolding given.roll-Expr denote.Hole.Carrier.roll
list_tree elts ctx = rolls (layer.List elts ctx)

pub tuple_tree : (elts : Vec Expr Global) (ctx : Context) →
    tree_of (variant.Tuple elts ctx) ≡ plain.Tuple (exprs (map tree_of elts.items)) ctx
unfolding given.roll-Expr denote.Hole.Carrier.roll
tuple_tree elts ctx = rolls (layer.Tuple elts ctx)

pub slice_shape : (s : Slice) → let o : layer.Slice-F Expr Arg Arguments Call Compare Comprehension Dict DictComp Keyword Slice =
    given_slice.out-Slice s in
    slice_of s ≡ plain.Slice (optional (boxed_of o.lower)) (optional (boxed_of o.upper)) (optional (boxed_of o.step))
unfolding tree_of arg_of arguments_of call_of compare_of comprehension_of dict_of dict_comp_of keyword_of slice_of
slice_shape s = given_slice.fold_out-Slice plain.Expr plain.Arg plain.Arguments plain.Expr plain.Expr plain.Comprehension plain.Expr
    plain.Expr plain.Keyword plain.Expr
    expr_step arg_step arguments_step call_step compare_step comprehension_step dict_step dict_comp_step keyword_step slice_step s
    ∙ (λ i. let o : layer.Slice-F Expr Arg Arguments Call Compare Comprehension Dict DictComp Keyword Slice = given_slice.out-Slice s in
    plain.Slice (optional (boxed_is o.lower i)) (optional (boxed_is o.upper i)) (optional (boxed_is o.step i)))

pub slice_tree : (s : Box Slice Global) → tree_of (variant.Slice s) ≡ slice_of s.value
unfolding given.roll-Expr denote.Hole.Carrier.roll
slice_tree s = rolls (layer.Slice s)

pub keyword_tree : (k : Keyword) → let o : layer.Keyword-F Expr Arg Arguments Call Compare Comprehension Dict DictComp Keyword Slice =
    given_keyword.out-Keyword k in
    keyword_of k ≡ record { arg = o.arg; value = tree_of o.value }
unfolding tree_of keyword_of
keyword_tree = given_keyword.fold_out-Keyword plain.Expr plain.Arg plain.Arguments plain.Expr plain.Expr plain.Comprehension plain.Expr
    plain.Expr plain.Keyword plain.Expr
    expr_step arg_step arguments_step call_step compare_step comprehension_step dict_step dict_comp_step keyword_step slice_step

pub comprehension_tree : (c : Comprehension) → let o : layer.Comprehension-F Expr Arg Arguments Call Compare Comprehension Dict
    DictComp Keyword Slice =
    given_comprehension.out-Comprehension c in
    comprehension_of c ≡ record { target = tree_of o.target; iter = tree_of o.iter; ifs = map tree_of o.ifs.items; is_async = o.is_async }
unfolding tree_of comprehension_of
comprehension_tree = given_comprehension.fold_out-Comprehension plain.Expr plain.Arg plain.Arguments plain.Expr plain.Expr
    plain.Comprehension plain.Expr plain.Expr plain.Keyword plain.Expr
    expr_step arg_step arguments_step call_step compare_step comprehension_step dict_step dict_comp_step keyword_step slice_step

pub arg_tree : (a : Arg) → let o : layer.Arg-F Expr Arg Arguments Call Compare Comprehension Dict DictComp Keyword
    Slice = given_arg.out-Arg a in
    arg_of a ≡ plain.arg o.arg (optional (boxed_of o.annotation))
unfolding tree_of arg_of
arg_tree a = given_arg.fold_out-Arg plain.Expr plain.Arg plain.Arguments plain.Expr plain.Expr plain.Comprehension plain.Expr plain.Expr
    plain.Keyword plain.Expr
    expr_step arg_step arguments_step call_step compare_step comprehension_step dict_step dict_comp_step keyword_step slice_step a
    ∙ ap (λ z. plain.arg (given_arg.out-Arg a).arg (optional z)) (boxed_is (given_arg.out-Arg a).annotation)

pub arguments_tree : (a : Arguments) → let o : layer.Arguments-F Expr Arg Arguments Call Compare Comprehension Dict DictComp Keyword Slice =
    given_arguments.out-Arguments a in
    arguments_of a ≡ plain.arguments (args (map arg_of o.posonlyargs.items)) (args (map arg_of o.args.items))
    (optional_arg (arg_option_of o.vararg)) (args (map arg_of o.kwonlyargs.items))
    (optionals (map option_of o.kw_defaults.items)) (optional_arg (arg_option_of o.kwarg)) (exprs (map tree_of o.defaults.items))
unfolding tree_of arg_of arguments_of
arguments_tree a = given_arguments.fold_out-Arguments plain.Expr plain.Arg plain.Arguments plain.Expr plain.Expr plain.Comprehension
    plain.Expr plain.Expr plain.Keyword plain.Expr
    expr_step arg_step arguments_step call_step compare_step comprehension_step dict_step dict_comp_step keyword_step slice_step a
    ∙ (λ i. let o : layer.Arguments-F Expr Arg Arguments Call Compare Comprehension Dict DictComp Keyword Slice =
    given_arguments.out-Arguments a in
    plain.arguments (args (map arg_of o.posonlyargs.items)) (args (map arg_of o.args.items))
    (optional_arg (arg_option_is o.vararg i)) (args (map arg_of o.kwonlyargs.items))
    (optionals (map (λ k. option_is k i) o.kw_defaults.items)) (optional_arg (arg_option_is o.kwarg i))
    (exprs (map tree_of o.defaults.items)))

-- the value of every expression and of its parts
pub ruleset expr_shapes = (
  bool_op_tree,
  named_expr_tree,
  bin_op_tree,
  unary_op_tree,
  lambda_tree,
  if_exp_tree,
  dict_tree,
  dict_shape,
  set_tree,
  list_comp_tree,
  set_comp_tree,
  dict_comp_tree,
  dict_comp_shape,
  generator_exp_tree,
  await_tree,
  yield_tree,
  yield_from_tree,
  compare_tree,
  compare_shape,
  call_tree,
  call_shape,
  formatted_value_tree,
  joined_str_tree,
  constant_tree,
  attribute_tree,
  subscript_tree,
  starred_tree,
  name_tree,
  list_tree,
  tuple_tree,
  slice_tree,
  slice_shape,
  keyword_tree,
  comprehension_tree,
  arg_tree,
  arguments_tree,
)
