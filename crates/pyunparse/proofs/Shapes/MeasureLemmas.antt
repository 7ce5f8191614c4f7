-- Carries: the measures of the walk. What stands in an expression, a clause, an argument or
-- parameters is no higher than these.
use Rattle.std.proofs.Common.{◌≡◌, ◌∙◌, ℕ, ◌+◌, ◌≤◌, max, List, Option, map, Global, ap, sym, arith}
use Rattle.std.specs.declared.boxed.Box.{Box}
use Rattle.std.specs.declared.vec.Vec.{Vec}
use Rattle.pyfstring.specs.declared.parts.Conversion.{Conversion}
use Rattle.pytree_node.specs.declared.expressions.Arg.{Arg}
use Rattle.pytree_node.specs.declared.expressions.Arg as given_arg
use Rattle.pytree_node.specs.declared.expressions.Arguments.{Arguments}
use Rattle.pytree_node.specs.declared.expressions.Arguments as given_arguments
use Rattle.pytree_node.specs.declared.expressions.Call.{Call}
use Rattle.pytree_node.specs.declared.expressions.Call as given_call
use Rattle.pytree_node.specs.declared.expressions.Compare.{Compare}
use Rattle.pytree_node.specs.declared.expressions.Compare as given_compare
use Rattle.pytree_node.specs.declared.expressions.Comprehension.{Comprehension}
use Rattle.pytree_node.specs.declared.expressions.Comprehension as given_comprehension
use Rattle.pytree_node.specs.declared.expressions.Dict.{Dict}
use Rattle.pytree_node.specs.declared.expressions.Dict as given_dict
use Rattle.pytree_node.specs.declared.expressions.DictComp.{DictComp}
use Rattle.pytree_node.specs.declared.expressions.DictComp as given_dict_comp
use Rattle.pytree_node.specs.declared.expressions.Expr.{Expr}
use Rattle.pytree_node.specs.declared.expressions.Expr.TheVariants as variant
use Rattle.pytree_node.specs.declared.expressions.Keyword.{Keyword}
use Rattle.pytree_node.specs.declared.expressions.Slice.{Slice}
use Rattle.pytree_node.specs.declared.expressions.Slice as given_slice
use Rattle.pytree_node.specs.declared.expressions.Keyword as given_keyword
use Rattle.pytree_node.specs.Trees as plain
use Rattle.pytree_node.specs.Trees.{args, comprehensions, exprs, keywords, optional, optional_arg, optionals}
use Rattle.pytree_node.specs.TreeOf.{arg_of, arg_option_of, arguments_of, boxed_of, call_of, compare_of, comprehension_of, dict_comp_of}
use Rattle.pytree_node.specs.TreeOf.{dict_of, keyword_of, option_of, slice_of, tree_of}
use Rattle.pytree_node.proofs.Callers.ExprShapes.{arg_tree, arguments_tree, call_shape, compare_shape, comprehension_tree, dict_shape}
use Rattle.pytree_node.proofs.Callers.ExprShapes.{dict_comp_shape, slice_shape, formatted_value_tree, generator_exp_tree, joined_str_tree}
use Rattle.pytree_node.proofs.Callers.ExprShapes.{keyword_tree}
use Rattle.pytree_height.specs.Heights.{arg_height, arg_heights, arguments_height, comprehension_heights, height, heights, keyword_heights}
use Rattle.pytree_height.specs.Heights.{optional_arg_height, optional_height, optional_heights}
use Rattle.pyunparse.specs.Inner.Clauses.{clause_height}

-- ---- Classes of expressions.

pub generator_height : (e x : Expr) (gs : List Comprehension) (elt : Box Expr Global) (generators : Vec Comprehension Global) →
    e ≡ variant.GeneratorExp elt generators → x ≡ elt.value → gs ≡ generators.items →
    height (tree_of e) ≡ max (height (tree_of x)) (comprehension_heights (comprehensions (map comprehension_of gs))) + 1
generator_height e x gs elt generators is hx hg =
    ap (λ z. height (tree_of z)) is ∙ ap height (generator_exp_tree elt generators)
    ∙ (λ i. max (height (tree_of (sym hx i))) (comprehension_heights (comprehensions (map comprehension_of (sym hg i)))) + 1)

-- a class whose fields are in a box
pub boxed_height : (e d : plain.Expr) → e ≡ d → height e ≡ height d
boxed_height e d is = ap height is

pub dict_height : (d : Dict) → height (dict_of d) ≡ max (optional_heights (optionals (map option_of (given_dict.out-Dict d).keys.items)))
    (heights (exprs (map tree_of (given_dict.out-Dict d).values.items))) + 1
dict_height d = ap height (dict_shape d)

pub dict_comp_height : (d : DictComp) → height (dict_comp_of d) ≡ max (height (tree_of (given_dict_comp.out-DictComp d).key))
    (max (height (tree_of (given_dict_comp.out-DictComp d).value))
    (comprehension_heights (comprehensions (map comprehension_of (given_dict_comp.out-DictComp d).generators.items)))) + 1
dict_comp_height d = ap height (dict_comp_shape d)

pub compare_height : (d : Compare) → height (compare_of d) ≡ max (height (tree_of (given_compare.out-Compare d).left))
    (heights (exprs (map tree_of (given_compare.out-Compare d).comparators.items))) + 1
compare_height d = ap height (compare_shape d)

pub call_height : (d : Call) → height (call_of d) ≡ max (height (tree_of (given_call.out-Call d).func))
    (max (heights (exprs (map tree_of (given_call.out-Call d).args.items)))
    (keyword_heights (keywords (map keyword_of (given_call.out-Call d).keywords.items)))) + 1
call_height d = ap height (call_shape d)

pub slice_height : (d : Slice) → height (slice_of d) ≡ max (optional_height (optional (boxed_of (given_slice.out-Slice d).lower)))
    (max (optional_height (optional (boxed_of (given_slice.out-Slice d).upper)))
    (optional_height (optional (boxed_of (given_slice.out-Slice d).step)))) + 1
slice_height d = ap height (slice_shape d)

pub formatted_height : (e x : Expr) (value : Box Expr Global) (conversion : Conversion) (spec : Option (Box Expr Global)) →
    e ≡ variant.FormattedValue value conversion spec → x ≡ value.value →
    height (tree_of e) ≡ max (height (tree_of x)) (optional_height (optional (boxed_of spec))) + 1
formatted_height e x value conversion spec is hx =
    ap (λ z. height (tree_of z)) is ∙ ap height (formatted_value_tree value conversion spec)
    ∙ (λ i. max (height (tree_of (sym hx i))) (optional_height (optional (boxed_of spec))) + 1)

pub joined_height : (e : Expr) (es : List Expr) (values : Vec Expr Global) → e ≡ variant.JoinedStr values → es ≡ values.items →
    height (tree_of e) ≡ heights (exprs (map tree_of es)) + 1
joined_height e es values is he = ap (λ z. height (tree_of z)) is ∙ ap height (joined_str_tree values)
    ∙ (λ i. heights (exprs (map tree_of (sym he i))) + 1)

-- ---- What is no expression.

pub keyword_height : (k : Keyword) → height (keyword_of k).value ≡ height (tree_of (given_keyword.out-Keyword k).value)
keyword_height k = ap (λ z. height z.value) (keyword_tree k)

pub named_arg_height : (a : Arg) → arg_height (arg_of a) ≡ optional_height (optional (boxed_of (given_arg.out-Arg a).annotation))
named_arg_height a = ap arg_height (arg_tree a)

pub parts_height : (c : Comprehension) (es : List Expr) → es ≡ (given_comprehension.out-Comprehension c).ifs.items →
    clause_height (comprehension_of c)
    ≡ max (height (tree_of (given_comprehension.out-Comprehension c).target))
    (max (height (tree_of (given_comprehension.out-Comprehension c).iter)) (heights (exprs (map tree_of es))))
parts_height c es h =
    ap clause_height (comprehension_tree c)
    ∙ (λ i. max (height (tree_of (given_comprehension.out-Comprehension c).target))
    (max (height (tree_of (given_comprehension.out-Comprehension c).iter)) (heights (exprs (map tree_of (sym h i))))))

-- ---- Parameters.

seven_places : (a b c d e f g : ℕ) → max a (max b g) ≤ max a (max b (max c (max d (max e (max f g)))))
seven_places a b c d e f g = omega arith

seven_star : (a b c d e f g : ℕ) → c ≤ max a (max b (max c (max d (max e (max f g)))))
seven_star a b c d e f g = omega arith

seven_keyword_only : (a b c d e f g : ℕ) → max d e ≤ max a (max b (max c (max d (max e (max f g)))))
seven_keyword_only a b c d e f g = omega arith

seven_gathered : (a b c d e f g : ℕ) → f ≤ max a (max b (max c (max d (max e (max f g)))))
seven_gathered a b c d e f g = omega arith

module _ (a : Arguments) where
  -- the heights of the seven parts
  abbrev P : ℕ
  P = arg_heights (args (map arg_of (given_arguments.out-Arguments a).posonlyargs.items))

  abbrev Q : ℕ
  Q = arg_heights (args (map arg_of (given_arguments.out-Arguments a).args.items))

  abbrev V : ℕ
  V = optional_arg_height (optional_arg (arg_option_of (given_arguments.out-Arguments a).vararg))

  abbrev O : ℕ
  O = arg_heights (args (map arg_of (given_arguments.out-Arguments a).kwonlyargs.items))

  abbrev E : ℕ
  E = optional_heights (optionals (map option_of (given_arguments.out-Arguments a).kw_defaults.items))

  abbrev K : ℕ
  K = optional_arg_height (optional_arg (arg_option_of (given_arguments.out-Arguments a).kwarg))

  abbrev D : ℕ
  D = heights (exprs (map tree_of (given_arguments.out-Arguments a).defaults.items))

  whole : arguments_height (arguments_of a) ≡ max P (max Q (max V (max O (max E (max K D)))))
  whole = ap arguments_height (arguments_tree a)

  pub places_lower : (ps qs : List Arg) (ds : List Expr) →
      ps ≡ (given_arguments.out-Arguments a).posonlyargs.items → qs ≡ (given_arguments.out-Arguments a).args.items
      → ds ≡ (given_arguments.out-Arguments a).defaults.items →
      max (arg_heights (args (map arg_of ps))) (max (arg_heights (args (map arg_of qs))) (heights (exprs (map tree_of ds)))) ≤
      arguments_height (arguments_of a)
  places_lower ps qs ds hp hq hd =
      let same : max (arg_heights (args (map arg_of ps))) (max (arg_heights (args (map arg_of qs))) (heights (exprs (map tree_of ds)))) ≡
      max P (max Q D) =
      (λ i. max (arg_heights (args (map arg_of (hp i))))
      (max (arg_heights (args (map arg_of (hq i)))) (heights (exprs (map tree_of (hd i)))))) in
      rw (same, whole) (seven_places P Q V O E K D)

  pub star_lower : V ≤ arguments_height (arguments_of a)
  star_lower = rw whole (seven_star P Q V O E K D)

  pub keyword_only_lower : (ks : List Arg) (es : List (Option Expr)) →
      ks ≡ (given_arguments.out-Arguments a).kwonlyargs.items → es ≡ (given_arguments.out-Arguments a).kw_defaults.items →
      max (arg_heights (args (map arg_of ks))) (optional_heights (optionals (map option_of es))) ≤ arguments_height (arguments_of a)
  keyword_only_lower ks es hk he =
      let same : max (arg_heights (args (map arg_of ks))) (optional_heights (optionals (map option_of es))) ≡ max O E =
      (λ i. max (arg_heights (args (map arg_of (hk i)))) (optional_heights (optionals (map option_of (he i))))) in
      rw (same, whole) (seven_keyword_only P Q V O E K D)

  pub gathered_lower : K ≤ arguments_height (arguments_of a)
  gathered_lower = rw whole (seven_gathered P Q V O E K D)
