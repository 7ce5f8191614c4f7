-- How many nodes with a place there are in what has none of its own, and in a field that may be left out.
--
-- Carries: what pytree_counts and pyplaces cite.
use Rattle.std.proofs.Common.{◌≡◌, ℕ, ◌+◌, List, [], ◌∷◌, true, false, Option, Some, None, arith, refl}
use Rattle.pytree_node.specs.declared.operators.Operator.{Operator}
use Rattle.pytree_node.specs.declared.operators.Operator.TheVariants as operator
use Rattle.pytree_node.specs.declared.operators.UnaryOperator.{UnaryOperator}
use Rattle.pytree_node.specs.declared.operators.UnaryOperator.TheVariants as unary
use Rattle.pytree_node.specs.declared.operators.BoolOperator.{BoolOperator}
use Rattle.pytree_node.specs.declared.operators.BoolOperator.TheVariants as bool_operator
use Rattle.pytree_node.specs.declared.operators.Comparison.{Comparison}
use Rattle.pytree_node.specs.declared.operators.Comparison.TheVariants as comparison
use Rattle.pytree_node.specs.declared.operators.Context.{Context}
use Rattle.pytree_node.specs.declared.operators.Context.TheVariants as context
use Rattle.pytree_node.specs.Trees
use Rattle.pytree_node.specs.Trees.{Identifier}
use Rattle.pytree_node.specs.Values as value
use Rattle.pytree_node.specs.Values.{Value}
use Rattle.pytree_dump_text.specs.Shows.{Fields, no_field, word, shown_comparisons, shown_names, shown_optional}
use Rattle.pytree_dump_text.specs.Shows.{kind_field}
use Rattle.pytree_dump_text.specs.Shows.{name_field, optional_field, expr_field, arg_field, pattern_field, bool_name, comparison_name}
use Rattle.pytree_dump_text.specs.Shows.{context_name, operator_name, unary_name}
use Rattle.pytree_marked.specs.MarkedNodes.{marked, marked_fields, marked_rows}
use Rattle.pytree_marked.specs.MarkedOptions.{marked_option, marked_optional, marked_optional_arg, marked_optional_pattern}

-- ---- What has no place.

pub operator_none : (op : Operator) → marked (word (operator_name op)) ≡ 0
operator_none operator.Add = refl
operator_none operator.Sub = refl
operator_none operator.Mult = refl
operator_none operator.MatMult = refl
operator_none operator.Div = refl
operator_none operator.Mod = refl
operator_none operator.Pow = refl
operator_none operator.LShift = refl
operator_none operator.RShift = refl
operator_none operator.BitOr = refl
operator_none operator.BitXor = refl
operator_none operator.BitAnd = refl
operator_none operator.FloorDiv = refl

pub unary_none : (op : UnaryOperator) → marked (word (unary_name op)) ≡ 0
unary_none unary.Invert = refl
unary_none unary.Not = refl
unary_none unary.UAdd = refl
unary_none unary.USub = refl

pub bool_none : (op : BoolOperator) → marked (word (bool_name op)) ≡ 0
bool_none bool_operator.And = refl
bool_none bool_operator.Or = refl

pub comparison_none : (op : Comparison) → marked (word (comparison_name op)) ≡ 0
comparison_none comparison.Eq = refl
comparison_none comparison.NotEq = refl
comparison_none comparison.Lt = refl
comparison_none comparison.LtE = refl
comparison_none comparison.Gt = refl
comparison_none comparison.GtE = refl
comparison_none comparison.Is = refl
comparison_none comparison.IsNot = refl
comparison_none comparison.Within = refl
comparison_none comparison.NotIn = refl

pub context_none : (ctx : Context) → marked (word (context_name ctx)) ≡ 0
context_none context.Load = refl
context_none context.Store = refl
context_none context.Del = refl

pub comparisons_none : (ops : List Comparison) → marked_rows (shown_comparisons ops) ≡ 0
comparisons_none [] = refl
comparisons_none (op ∷ ops) = let a = comparison_none op in let b = comparisons_none ops in omega (arith, a, b)

pub names_none : (names : List Identifier) → marked_rows (shown_names names) ≡ 0
names_none [] = refl
names_none (name ∷ names) = let b = names_none names in omega (arith, b)

pub kind_none : (v : Value) → marked_fields (kind_field v no_field) ≡ 0
kind_none value.None = refl
kind_none value.Ellipsis = refl
kind_none (value.Bool b) = refl
kind_none (value.Int n) = refl
kind_none (value.Float x) = refl
kind_none (value.Imaginary x) = refl
kind_none (value.Str points true) = refl
kind_none (value.Str points false) = refl
kind_none (value.Bytes bytes) = refl

-- ---- Fields that may be left out.

pub name_sum : (field : List ℕ) (name : Option Identifier) (rest : Fields) → marked_fields (name_field field name rest) ≡ marked_fields rest
name_sum field None rest = refl
name_sum field (Some name) rest = omega arith

pub optional_sum : (name : List ℕ) (e : Trees.OptionalExpr) (rest : Fields)
    → marked_fields (optional_field name e rest) ≡ marked_optional e + marked_fields rest
optional_sum name Trees.absent rest = omega arith
optional_sum name (Trees.present e) rest = refl

pub option_sum : (name : List ℕ) (e : Option Trees.Expr) (rest : Fields)
    → marked_fields (expr_field name e rest) ≡ marked_option e + marked_fields rest
option_sum name None rest = omega arith
option_sum name (Some e) rest = refl

pub arg_sum : (name : List ℕ) (a : Trees.OptionalArg) (rest : Fields)
    → marked_fields (arg_field name a rest) ≡ marked_optional_arg a + marked_fields rest
arg_sum name Trees.absent_arg rest = omega arith
arg_sum name (Trees.present_arg a) rest = refl

pub pattern_sum : (name : List ℕ) (p : Trees.OptionalPattern) (rest : Fields)
    → marked_fields (pattern_field name p rest) ≡ marked_optional_pattern p + marked_fields rest
pattern_sum name Trees.absent_pattern rest = omega arith
pattern_sum name (Trees.present_pattern p) rest = refl

pub optional_marked : (e : Trees.OptionalExpr) → marked (shown_optional e) ≡ marked_optional e
optional_marked Trees.absent = refl
optional_marked (Trees.present e) = refl
