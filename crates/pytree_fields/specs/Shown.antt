-- What is shown of a thing.
use Rattle.std.specs.Prelude.{ℕ, Bool, List, [], ◌∷◌, codes, decimal, if◌then◌else◌}
use Rattle.pytree_node.specs.declared.profiles.Version.{Version}
use Rattle.pytree_node.specs.Profiles.{version_has_types}
use Rattle.pytree_dump_text.specs.Shows as shows
use Rattle.pytree_dump_text.specs.Shows.{Shown, Showns, Fields, Scalar, no_shown, a_shown, no_field, a_field, word}
use Rattle.pytree_dump_text.specs.Shows.{bool_name, comparison_name, context_name, conversion_number, operator_name, unary_name, value_text}
use Rattle.pytree_dump_text.specs.Shows.{shown_flag, shown_name}
use Rattle.pytree_fields.specs.declared.classes.Class.{Class}
use Rattle.pytree_fields.specs.declared.classes.Class.TheVariants as class
use Rattle.pytree_fields.specs.Classes.{class_fields, class_name}
use Rattle.pytree_fields.specs.Leaves as leaf
use Rattle.pytree_fields.specs.Things.{Thing, Things, Leaf, Row, Node, no_thing, a_thing, left_out}

abbrev pub shown_leaf : leaf.Leaf → Shown
shown_leaf (leaf.Operator op) = word (operator_name op)
shown_leaf (leaf.Unary op) = word (unary_name op)
shown_leaf (leaf.Bool op) = word (bool_name op)
shown_leaf (leaf.Comparison c) = word (comparison_name c)
shown_leaf (leaf.Context ctx) = word (context_name ctx)
shown_leaf (leaf.Conversion conversion) = Scalar (conversion_number conversion)
shown_leaf (leaf.Name name) = shown_name name
shown_leaf (leaf.Value v) = Scalar (value_text v)
shown_leaf (leaf.Singleton v) = Scalar (value_text v)
shown_leaf (leaf.Number n) = Scalar (decimal n)
shown_leaf (leaf.Flag b) = shown_flag b
shown_leaf leaf.Kind = Scalar (codes "'u'")
shown_leaf leaf.None = Scalar (codes "None")

-- the last field of a definition, where a version has it
abbrev pub own_types : Version → List (List ℕ)
own_types v = if version_has_types v then codes "type_params" ∷ [] else []

-- the fields of a class that a version has
abbrev pub fields_in : Version → Class → List (List ℕ)
fields_in v class.FunctionDef = codes "name" ∷ codes "args" ∷ codes "body" ∷ codes "decorator_list" ∷ codes "returns" ∷ codes
    "type_comment" ∷ own_types v
fields_in v class.AsyncFunctionDef = codes "name" ∷ codes "args" ∷ codes "body" ∷ codes "decorator_list" ∷ codes "returns" ∷ codes
    "type_comment" ∷ own_types v
fields_in v class.ClassDef = codes "name" ∷ codes "bases" ∷ codes "keywords" ∷ codes "body" ∷ codes "decorator_list" ∷ own_types v
fields_in v c = class_fields c

abbrev mutual
  pub shown_of : Version → Thing → Shown
  shown_of v (Leaf x) = shown_leaf x
  shown_of v (Row xs) = shows.Row (shown_row v xs)
  shown_of v (Node c xs) = shows.Node (class_name c) (shown_fields v (fields_in v c) xs)

  pub shown_row : Version → Things → Showns
  shown_row v no_thing = no_shown
  shown_row v (a_thing x xs) = a_shown (shown_of v x) (shown_row v xs)
  shown_row v (left_out xs) = shown_row v xs

  -- those that have a name
  pub shown_fields : Version → List (List ℕ) → Things → Fields
  shown_fields v names no_thing = no_field
  shown_fields v [] (a_thing x xs) = no_field
  shown_fields v [] (left_out xs) = no_field
  shown_fields v (name ∷ names) (a_thing x xs) = a_field name (shown_of v x) (shown_fields v names xs)
  shown_fields v (name ∷ names) (left_out xs) = shows.left_out (shown_fields v names xs)
