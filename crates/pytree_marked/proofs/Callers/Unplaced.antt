-- What takes no place: all, where none is left, and words, names and lists of them.
--
-- Carries: is_told_on_line, and of `pytree_dump` all that is shown.
use Rattle.std.proofs.Common.{◌≡◌, ℕ, List, [], ◌∷◌, Bool, true, false, refl, ap, ◌∙◌, map}
use Rattle.pytree_node.specs.declared.operators.Operator.{Operator}
use Rattle.pytree_node.specs.declared.operators.Operator.TheVariants as operator
use Rattle.pytree_node.specs.declared.operators.UnaryOperator.{UnaryOperator}
use Rattle.pytree_node.specs.declared.operators.UnaryOperator.TheVariants as unary
use Rattle.pytree_node.specs.declared.operators.BoolOperator.{BoolOperator}
use Rattle.pytree_node.specs.declared.operators.BoolOperator.TheVariants as bool_operator
use Rattle.pytree_node.specs.declared.operators.Comparison.{Comparison}
use Rattle.pytree_node.specs.declared.operators.Comparison.TheVariants as comparison
use Rattle.pytree_node.specs.declared.operators.Context.{Context}
use Rattle.pytree_node.specs.declared.operators.Context.TheVariants as context
use Rattle.pytree_dump_text.specs.Shows.{Shown, Showns, Fields, Scalar, Row, Node, no_shown, a_shown, no_field, a_field, left_out, showns}
use Rattle.pytree_dump_text.specs.Shows.{shown_name, word, bool_name, comparison_name, context_name, operator_name, unary_name}
use Rattle.pytree_marked.specs.MarkedNodes.{Attributes, Placed, placed, closed, fields_with, is_marked, rows_with}
use Rattle.pytree_marked.specs.MarkedNodes.{with_members, with_places}

-- ---- Where none is left.

with_nothing : (fs : Fields) → with_members fs no_field ≡ fs
with_nothing no_field = refl
with_nothing (a_field name x fs) = ap (λ z. a_field name x z) (with_nothing fs)
with_nothing (left_out fs) = ap left_out (with_nothing fs)

closed_bare : (m : Bool) (fs : Fields) → closed m (placed fs []) ≡ placed fs []
closed_bare false fs = ap (λ z. placed z []) (with_nothing fs)
closed_bare true fs = ap (λ z. placed z []) (with_nothing fs)

mutual
  pub unplaced : (x : Shown) → with_places [] x ≡ placed x []
  unplaced (Scalar t) = refl
  unplaced (Row xs) = λ i. placed (Row (unplaced_rows xs i).shown) (unplaced_rows xs i).left
  unplaced (Node name fs) =
      (λ i. let all : Placed Fields = closed (is_marked name) (unplaced_fields fs i) in placed (Node name all.shown) all.left)
      ∙ (λ i. placed (Node name (closed_bare (is_marked name) fs i).shown) (closed_bare (is_marked name) fs i).left)

  unplaced_rows : (xs : Showns) → rows_with [] xs ≡ placed xs []
  unplaced_rows no_shown = refl
  unplaced_rows (a_shown x xs) =
      (λ i. let rest : Placed Showns = rows_with (unplaced x i).left xs in placed (a_shown (unplaced x i).shown rest.shown) rest.left)
      ∙ (λ i. placed (a_shown x (unplaced_rows xs i).shown) (unplaced_rows xs i).left)

  unplaced_fields : (fs : Fields) → fields_with [] fs ≡ placed fs []
  unplaced_fields no_field = refl
  unplaced_fields (a_field name x fs) =
      (λ i. let rest : Placed Fields = fields_with (unplaced x i).left fs in
      placed (a_field name (unplaced x i).shown rest.shown) rest.left)
      ∙ (λ i. placed (a_field name x (unplaced_fields fs i).shown) (unplaced_fields fs i).left)
  unplaced_fields (left_out fs) = λ i. placed (left_out (unplaced_fields fs i).shown) (unplaced_fields fs i).left

pub as_unplaced : (ps : List Attributes) (x : Shown) → ps ≡ [] → with_places ps x ≡ placed x []
as_unplaced ps x none = ap (λ q. with_places q x) none ∙ unplaced x

pub closed_unplaced : (m : Bool) (ps : List Attributes) (fs : Fields) → ps ≡ [] → closed m (fields_with ps fs) ≡ placed fs []
closed_unplaced m ps fs none = ap (λ q. closed m (fields_with q fs)) none ∙ ap (closed m) (unplaced_fields fs) ∙ closed_bare m fs

-- ---- Words and names.

word_unplaced : (ps : List Attributes) (name : List ℕ) → is_marked name ≡ false → with_places ps (word name) ≡ placed (word name) ps
word_unplaced ps name e = λ i. let all : Placed Fields = closed (e i) (placed no_field ps) in placed (Node name all.shown) all.left

operator_plain : (op : Operator) → is_marked (operator_name op) ≡ false
operator_plain operator.Add = refl
operator_plain operator.Sub = refl
operator_plain operator.Mult = refl
operator_plain operator.MatMult = refl
operator_plain operator.Div = refl
operator_plain operator.Mod = refl
operator_plain operator.Pow = refl
operator_plain operator.LShift = refl
operator_plain operator.RShift = refl
operator_plain operator.BitOr = refl
operator_plain operator.BitXor = refl
operator_plain operator.BitAnd = refl
operator_plain operator.FloorDiv = refl

unary_plain : (op : UnaryOperator) → is_marked (unary_name op) ≡ false
unary_plain unary.Invert = refl
unary_plain unary.Not = refl
unary_plain unary.UAdd = refl
unary_plain unary.USub = refl

bool_plain : (op : BoolOperator) → is_marked (bool_name op) ≡ false
bool_plain bool_operator.And = refl
bool_plain bool_operator.Or = refl

comparison_plain : (op : Comparison) → is_marked (comparison_name op) ≡ false
comparison_plain comparison.Eq = refl
comparison_plain comparison.NotEq = refl
comparison_plain comparison.Lt = refl
comparison_plain comparison.LtE = refl
comparison_plain comparison.Gt = refl
comparison_plain comparison.GtE = refl
comparison_plain comparison.Is = refl
comparison_plain comparison.IsNot = refl
comparison_plain comparison.Within = refl
comparison_plain comparison.NotIn = refl

context_plain : (ctx : Context) → is_marked (context_name ctx) ≡ false
context_plain context.Load = refl
context_plain context.Store = refl
context_plain context.Del = refl

pub operator_unplaced : (op : Operator) (ps : List Attributes) → with_places ps (word (operator_name op)) ≡ placed
    (word (operator_name op)) ps
operator_unplaced op ps = word_unplaced ps (operator_name op) (operator_plain op)

pub unary_unplaced : (op : UnaryOperator) (ps : List Attributes) → with_places ps (word (unary_name op)) ≡ placed (word (unary_name op)) ps
unary_unplaced op ps = word_unplaced ps (unary_name op) (unary_plain op)

pub bool_unplaced : (op : BoolOperator) (ps : List Attributes) → with_places ps (word (bool_name op)) ≡ placed (word (bool_name op)) ps
bool_unplaced op ps = word_unplaced ps (bool_name op) (bool_plain op)

pub context_unplaced : (ctx : Context) (ps : List Attributes) → with_places ps (word (context_name ctx)) ≡ placed
    (word (context_name ctx)) ps
context_unplaced ctx ps = word_unplaced ps (context_name ctx) (context_plain ctx)

comparison_unplaced : (op : Comparison) (ps : List Attributes) → with_places ps (word (comparison_name op)) ≡ placed
    (word (comparison_name op)) ps
comparison_unplaced op ps = word_unplaced ps (comparison_name op) (comparison_plain op)

-- lists of them
names_rows : (ps : List Attributes) (names : List (List ℕ)) →
    rows_with ps (showns (map (λ name. shown_name name) names)) ≡ placed (showns (map (λ name. shown_name name) names)) ps
names_rows ps [] = refl
names_rows ps (name ∷ names) = λ i. placed (a_shown (shown_name name) (names_rows ps names i).shown) (names_rows ps names i).left

comparisons_rows : (ps : List Attributes) (ops : List Comparison) →
    rows_with ps (showns (map (λ c. word (comparison_name c)) ops)) ≡ placed (showns (map (λ c. word (comparison_name c)) ops)) ps
comparisons_rows ps [] = refl
comparisons_rows ps (op ∷ ops) =
    (λ i. let rest : Placed Showns = rows_with (comparison_unplaced op ps i).left (showns (map (λ c. word (comparison_name c)) ops)) in
    placed (a_shown (comparison_unplaced op ps i).shown rest.shown) rest.left)
    ∙ (λ i. placed (a_shown (word (comparison_name op)) (comparisons_rows ps ops i).shown) (comparisons_rows ps ops i).left)

pub names_unplaced : (ps : List Attributes) (names : List (List ℕ)) →
    with_places ps (Row (showns (map (λ name. shown_name name) names))) ≡ placed (Row (showns (map (λ name. shown_name name) names))) ps
names_unplaced ps names = λ i. placed (Row (names_rows ps names i).shown) (names_rows ps names i).left

pub comparisons_unplaced : (ps : List Attributes) (ops : List Comparison) →
    with_places ps (Row (showns (map (λ c. word (comparison_name c)) ops))) ≡ placed
    (Row (showns (map (λ c. word (comparison_name c)) ops))) ps
comparisons_unplaced ps ops = λ i. placed (Row (comparisons_rows ps ops i).shown) (comparisons_rows ps ops i).left
