-- What the parameters of a function show, field by field.
--
-- Carries: show_seven, show_arguments. On: arguments_tree, args_row, optionals_row, exprs_row.
use Rattle.std.proofs.Common.{◌≡◌, ℕ, ◌+◌, ◌<◌, List, Option, codes, map, ap, sym, ◌∙◌, arith}
use Rattle.pytree_node.specs.declared.expressions.Expr.{Expr}
use Rattle.pytree_node.specs.declared.expressions.Expr.TheOpen as layer
use Rattle.pytree_node.specs.declared.expressions.Arg.{Arg}
use Rattle.pytree_node.specs.declared.expressions.Comprehension.{Comprehension}
use Rattle.pytree_node.specs.declared.expressions.Keyword.{Keyword}
use Rattle.pytree_node.specs.declared.expressions.Call.{Call}
use Rattle.pytree_node.specs.declared.expressions.Compare.{Compare}
use Rattle.pytree_node.specs.declared.expressions.Dict.{Dict}
use Rattle.pytree_node.specs.declared.expressions.DictComp.{DictComp}
use Rattle.pytree_node.specs.declared.expressions.Slice.{Slice}
use Rattle.pytree_node.specs.declared.expressions.Arguments as given
use Rattle.pytree_node.specs.declared.expressions.Arguments.{Arguments}
use Rattle.pytree_node.specs.Trees.{optional, optional_arg, args, optionals, exprs}
use Rattle.pytree_node.specs.TreeOf.{tree_of, option_of, arg_of, arg_option_of, arguments_of}
use Rattle.pytree_node.proofs.Callers.ExprShapes.{arguments_tree}
use Rattle.pytree_dump_text.specs.Shows.{Shown, Fields, Node, Row, no_field, a_field, arg_field, shown, shown_arg, shown_args}
use Rattle.pytree_dump_text.specs.Shows.{shown_arguments, shown_exprs, shown_optional, shown_optionals, showns}
use Rattle.pytree_dump_text.specs.Layout.{shown_count}
use Rattle.pytree_dump_text.specs.Slots.{Slot, missing, field, with_slot}
use Rattle.pytree_dump.specs.Inner.Weights.{slot_weight, weight}
use Rattle.pytree_dump.proofs.RowLemmas.{args_row, optionals_row, exprs_row, slot_weighs}

-- five fields or more are shown
pub five_shown : (m n o p q : List ℕ) (x y z u w : Shown) (v k : Slot) →
    3 < shown_count (a_field m x (a_field n y (with_slot v (a_field o z (a_field p u (with_slot k (a_field q w no_field)))))))
five_shown m n o p q x y z u w missing missing = omega arith
five_shown m n o p q x y z u w missing (field l s) = omega arith
five_shown m n o p q x y z u w (field l s) missing = omega arith
five_shown m n o p q x y z u w (field l s) (field j r) = omega arith

arguments_weigh : (m n o p q : List ℕ) (x y : Shown) (v : Slot) (z u : Shown) (k : Slot) (w : Shown) →
    weight (Node (codes "arguments")
    (a_field m x (a_field n y (with_slot v (a_field o z (a_field p u (with_slot k (a_field q w no_field))))))))
    ≡ weight x + weight y + slot_weight v + weight z + weight u + slot_weight k + weight w + 1
arguments_weigh m n o p q x y v z u k w =
    let a = slot_weighs v (a_field o z (a_field p u (with_slot k (a_field q w no_field)))) in
    let b = slot_weighs k (a_field q w no_field) in
    omega (arith, a, b)

pub arguments_shown : (a : Arguments) (p q k : List Arg) (kd : List (Option Expr)) (d : List Expr) (v w : Slot) →
    p ≡ (given.out-Arguments a).posonlyargs.items → q ≡ (given.out-Arguments a).args.items →
    ((rest : Fields) → with_slot v rest ≡ arg_field (codes "vararg") (optional_arg (arg_option_of (given.out-Arguments a).vararg)) rest) →
    k ≡ (given.out-Arguments a).kwonlyargs.items → kd ≡ (given.out-Arguments a).kw_defaults.items →
    ((rest : Fields) → with_slot w rest ≡ arg_field (codes "kwarg") (optional_arg (arg_option_of (given.out-Arguments a).kwarg)) rest) →
    d ≡ (given.out-Arguments a).defaults.items →
    shown_arguments (arguments_of a) ≡ Node (codes "arguments")
    (a_field (codes "posonlyargs") (Row (showns (map (λ a. shown_arg (arg_of a)) p)))
    (a_field (codes "args") (Row (showns (map (λ a. shown_arg (arg_of a)) q)))
    (with_slot v
    (a_field (codes "kwonlyargs") (Row (showns (map (λ a. shown_arg (arg_of a)) k)))
    (a_field (codes "kw_defaults") (Row (showns (map (λ e. shown_optional (optional (option_of e))) kd)))
    (with_slot w
    (a_field (codes "defaults") (Row (showns (map (λ e. shown (tree_of e)) d))) no_field)))))))
arguments_shown a p q k kd d v w hp hq hv hk hkd hw hd =
    let o : layer.Arguments-F Expr Arg Arguments Call Compare Comprehension Dict DictComp Keyword Slice = given.out-Arguments a in
    let ep : shown_args (args (map arg_of o.posonlyargs.items)) ≡ showns (map (λ a. shown_arg (arg_of a)) p) =
    args_row o.posonlyargs.items ∙ ap (λ z. showns (map (λ a. shown_arg (arg_of a)) z)) (sym hp) in
    let eq : shown_args (args (map arg_of o.args.items)) ≡ showns (map (λ a. shown_arg (arg_of a)) q) =
    args_row o.args.items ∙ ap (λ z. showns (map (λ a. shown_arg (arg_of a)) z)) (sym hq) in
    let ek : shown_args (args (map arg_of o.kwonlyargs.items)) ≡ showns (map (λ a. shown_arg (arg_of a)) k) =
    args_row o.kwonlyargs.items ∙ ap (λ z. showns (map (λ a. shown_arg (arg_of a)) z)) (sym hk) in
    let ekd : shown_optionals (optionals (map option_of o.kw_defaults.items)) ≡ showns
    (map (λ e. shown_optional (optional (option_of e))) kd) =
    optionals_row o.kw_defaults.items ∙ ap (λ z. showns (map (λ e. shown_optional (optional (option_of e))) z)) (sym hkd) in
    let ed : shown_exprs (exprs (map tree_of o.defaults.items)) ≡ showns (map (λ e. shown (tree_of e)) d) =
    exprs_row o.defaults.items ∙ ap (λ z. showns (map (λ e. shown (tree_of e)) z)) (sym hd) in
    ap shown_arguments (arguments_tree a)
    ∙ (λ i. Node (codes "arguments") (a_field (codes "posonlyargs") (Row (ep i)) (a_field (codes "args") (Row (eq i))
    (sym (hv (a_field (codes "kwonlyargs") (Row (ek i)) (a_field (codes "kw_defaults") (Row (ekd i))
    (sym (hw (a_field (codes "defaults") (Row (ed i)) no_field)) i)))) i))))

pub arguments_weight : (a : Arguments) (p q k : List Arg) (kd : List (Option Expr)) (d : List Expr) (v w : Slot) →
    p ≡ (given.out-Arguments a).posonlyargs.items → q ≡ (given.out-Arguments a).args.items →
    ((rest : Fields) → with_slot v rest ≡ arg_field (codes "vararg") (optional_arg (arg_option_of (given.out-Arguments a).vararg)) rest) →
    k ≡ (given.out-Arguments a).kwonlyargs.items → kd ≡ (given.out-Arguments a).kw_defaults.items →
    ((rest : Fields) → with_slot w rest ≡ arg_field (codes "kwarg") (optional_arg (arg_option_of (given.out-Arguments a).kwarg)) rest) →
    d ≡ (given.out-Arguments a).defaults.items →
    weight (shown_arguments (arguments_of a)) ≡ weight (Row (showns (map (λ a. shown_arg (arg_of a)) p)))
    + weight (Row (showns (map (λ a. shown_arg (arg_of a)) q))) + slot_weight v
    + weight (Row (showns (map (λ a. shown_arg (arg_of a)) k)))
    + weight (Row (showns (map (λ e. shown_optional (optional (option_of e))) kd))) + slot_weight w
    + weight (Row (showns (map (λ e. shown (tree_of e)) d))) + 1
arguments_weight a p q k kd d v w hp hq hv hk hkd hw hd =
    ap weight (arguments_shown a p q k kd d v w hp hq hv hk hkd hw hd)
    ∙ arguments_weigh (codes "posonlyargs") (codes "args") (codes "kwonlyargs") (codes "kw_defaults") (codes "defaults")
    (Row (showns (map (λ a. shown_arg (arg_of a)) p))) (Row (showns (map (λ a. shown_arg (arg_of a)) q))) v
    (Row (showns (map (λ a. shown_arg (arg_of a)) k))) (Row (showns (map (λ e. shown_optional (optional (option_of e))) kd))) w
    (Row (showns (map (λ e. shown (tree_of e)) d)))
