-- What a list of a tree shows, member by member, and what it weighs.
--
-- Carries: the nodes of expressions and statements, and what shows them.
use Rattle.std.proofs.Common.{◌≡◌, ℕ, zero, suc, ◌+◌, ◌<◌, ◌≤◌, length, get_or, arith, List, [], ◌∷◌, map, ap, refl, Option, None, Some}
use Rattle.pytree_node.specs.declared.expressions.Expr.{Expr}
use Rattle.pytree_node.specs.declared.expressions.Comprehension.{Comprehension}
use Rattle.pytree_node.specs.declared.expressions.Keyword.{Keyword}
use Rattle.pytree_node.specs.declared.expressions.Arg.{Arg}
use Rattle.pytree_node.specs.declared.operators.Comparison.{Comparison}
use Rattle.pytree_node.specs.declared.statements.Alias.{Alias}
use Rattle.pytree_node.specs.declared.statements.Item.{Item}
use Rattle.pytree_node.specs.declared.statements.TypeParam.{TypeParam}
use Rattle.pytree_node.specs.Trees
use Rattle.pytree_node.specs.Trees.{exprs, optional, optionals, comprehensions, keywords, args}
use Rattle.pytree_node.specs.TreeOf.{tree_of, option_of, comprehension_of, keyword_of, arg_of, alias_of, item_of, type_param_of}
use Rattle.pytree_dump_text.specs.Shows.{Shown, Fields, Node, Row, Scalar, shown_optional, shown_optionals, shown_comprehension}
use Rattle.pytree_dump_text.specs.Shows.{shown_comprehensions}
use Rattle.pytree_dump_text.specs.Shows.{shown_keyword, shown_keywords, shown_arg, shown_args, shown_comparisons, word, comparison_name}
use Rattle.pytree_dump_text.specs.Shows.{shown, shown_exprs, showns, a_shown, optional_field, expr_field, shown_name, shown_names}
use Rattle.pytree_dump_text.specs.Shows.{shown_alias, shown_aliases, shown_item, shown_items, shown_type_param, shown_type_params}
use Rattle.pytree_dump_text.specs.Slots.{Slot, missing, field, with_slot}
use Rattle.pytree_dump.specs.Inner.Weights.{weight, field_weights, slot_weight}

-- what is shown weighs something
pub weighs : (x : Shown) → 1 ≤ weight x
weighs (Scalar t) = omega arith
weighs (Row xs) = omega arith
weighs (Node class fs) = omega arith

pub exprs_row : (es : List Expr) → shown_exprs (exprs (map tree_of es)) ≡ showns (map (λ e. shown (tree_of e)) es)
exprs_row [] = refl
exprs_row (e ∷ es) = ap (λ z. a_shown (shown (tree_of e)) z) (exprs_row es)

pub optionals_row : (es : List (Option Expr)) → shown_optionals (optionals (map option_of es)) ≡ showns
    (map (λ e. shown_optional (optional (option_of e))) es)
optionals_row [] = refl
optionals_row (e ∷ es) = ap (λ z. a_shown (shown_optional (optional (option_of e))) z) (optionals_row es)

pub comprehensions_row : (cs : List Comprehension) → shown_comprehensions (comprehensions (map comprehension_of cs)) ≡ showns
    (map (λ c. shown_comprehension (comprehension_of c)) cs)
comprehensions_row [] = refl
comprehensions_row (c ∷ cs) = ap (λ z. a_shown (shown_comprehension (comprehension_of c)) z) (comprehensions_row cs)

pub keywords_row : (ks : List Keyword) → shown_keywords (keywords (map keyword_of ks)) ≡ showns (map (λ k. shown_keyword (keyword_of k)) ks)
keywords_row [] = refl
keywords_row (k ∷ ks) = ap (λ z. a_shown (shown_keyword (keyword_of k)) z) (keywords_row ks)

pub args_row : (all : List Arg) → shown_args (args (map arg_of all)) ≡ showns (map (λ a. shown_arg (arg_of a)) all)
args_row [] = refl
args_row (a ∷ all) = ap (λ z. a_shown (shown_arg (arg_of a)) z) (args_row all)

pub comparisons_row : (cs : List Comparison) → shown_comparisons cs ≡ showns (map (λ c. word (comparison_name c)) cs)
comparisons_row [] = refl
comparisons_row (c ∷ cs) = ap (λ z. a_shown (word (comparison_name c)) z) (comparisons_row cs)

pub names_row : (names : List (List ℕ)) → shown_names names ≡ showns (map (λ name. shown_name name) names)
names_row [] = refl
names_row (name ∷ names) = ap (λ z. a_shown (shown_name name) z) (names_row names)

pub aliases_row : (names : List Alias) → shown_aliases (map alias_of names) ≡ showns (map (λ a. shown_alias (alias_of a)) names)
aliases_row [] = refl
aliases_row (a ∷ names) = ap (λ z. a_shown (shown_alias (alias_of a)) z) (aliases_row names)

pub items_row : (items : List Item) → shown_items (map item_of items) ≡ showns (map (λ item. shown_item (item_of item)) items)
items_row [] = refl
items_row (item ∷ items) = ap (λ z. a_shown (shown_item (item_of item)) z) (items_row items)

pub type_params_row : (all : List TypeParam) → shown_type_params (map type_param_of all) ≡ showns
    (map (λ p. shown_type_param (type_param_of p)) all)
type_params_row [] = refl
type_params_row (p ∷ all) = ap (λ z. a_shown (shown_type_param (type_param_of p)) z) (type_params_row all)

-- an expression that may be absent, within an expression and within a statement
pub boxed_field : (name : List ℕ) (e : Option Trees.Expr) (rest : Fields) → optional_field name (optional e) rest ≡ expr_field name e rest
boxed_field name None rest = refl
boxed_field name (Some e) rest = refl

-- the weight of a slot's field
pub slot_weighs : (s : Slot) (rest : Fields) → field_weights (with_slot s rest) ≡ slot_weight s + field_weights rest
slot_weighs missing rest = omega arith
slot_weighs (field name x) rest = refl

-- a member weighs less than its list
pub member_weight : {A : Type 0} (f : A → Shown) (xs : List A) (i : ℕ) (x : A) → i < length xs → x ≡ get_or xs i x →
    weight (f x) < weight (Row (showns (map f xs)))
member_weight f [] i x lt read = omega (arith, lt)
member_weight f (y ∷ ys) zero x lt read = rw read (omega arith)
member_weight f (y ∷ ys) (suc i) x lt read =
    let l : i < length ys = omega (arith, lt) in
    let e : weight (f x) < weight (Row (showns (map f ys))) = member_weight f ys i x l read in omega (arith, e)
