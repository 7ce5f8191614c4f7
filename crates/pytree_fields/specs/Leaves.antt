-- What is neither a node nor a list.
use Rattle.std.specs.Prelude as prelude
use Rattle.std.specs.Prelude.{ℕ}
use Rattle.pyfstring.specs.declared.parts.Conversion as given_conversion
use Rattle.pytree_node.specs.declared.operators.Operator as given_operator
use Rattle.pytree_node.specs.declared.operators.UnaryOperator as given_unary
use Rattle.pytree_node.specs.declared.operators.BoolOperator as given_bool
use Rattle.pytree_node.specs.declared.operators.Comparison as given_comparison
use Rattle.pytree_node.specs.declared.operators.Context as given_context
use Rattle.pytree_node.specs.Trees.{Identifier}
use Rattle.pytree_node.specs.Values as values

pub data Leaf : Type 0 where
  -- an operator, a comparison or a context: a node without fields
  Operator : given_operator.Operator → Leaf
  Unary : given_unary.UnaryOperator → Leaf
  Bool : given_bool.BoolOperator → Leaf
  Comparison : given_comparison.Comparison → Leaf
  Context : given_context.Context → Leaf
  -- the conversion of a field of an f-string
  Conversion : given_conversion.Conversion → Leaf
  Name : Identifier → Leaf
  -- the value of a Constant, without its kind
  Value : values.Value → Leaf
  -- the value of a MatchSingleton
  Singleton : values.Value → Leaf
  Number : ℕ → Leaf
  -- a truth value, which is shown as a number
  Flag : prelude.Bool → Leaf
  -- the kind of a text, 'u'
  Kind : Leaf
  -- the None in a list
  None : Leaf
