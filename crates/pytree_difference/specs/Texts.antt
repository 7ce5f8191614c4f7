-- How a path, and what is at its end, are written.
use Rattle.std.specs.Prelude.{ℕ, Bool, true, false, List, [], ◌∷◌, ◌++◌, Option, Some, None, codes, decimal, get_or, length, nat_lt, take}
use Rattle.std.specs.Prelude.{if◌then◌else◌}
use Rattle.std.specs.Str.{chars, encode_utf8_all}
use Rattle.pysource.specs.Reprs.{repr_text}
use Rattle.pytree_dump_text.specs.Shows.{bool_name, comparison_name, context_name, conversion_number, operator_name, unary_name, value_text}
use Rattle.pytree_fields.specs.Classes.{class_fields, class_name}
use Rattle.pytree_fields.specs.Leaves as leaf
use Rattle.pytree_fields.specs.Things.{Thing, Leaf, Row, Node}
use Rattle.pytree_difference.specs.Differences.{member}

-- a step: the name of a field after a point, but for the first, or the index of an element
abbrev pub step_text : Bool → Option Thing → ℕ → List ℕ
step_text first (Some (Node class xs)) i = (if first then [] else codes ".") ++ get_or (class_fields class) i []
step_text first (Some (Row xs)) i = codes "[" ++ decimal i ++ codes "]"
step_text first _ i = []

-- the steps from a thing on
abbrev pub steps_text : Bool → Option Thing → List ℕ → List ℕ
steps_text first x [] = []
steps_text first x (i ∷ path) = step_text first x i ++ steps_text false (member x i) path

abbrev pub path_text : Option Thing → List ℕ → List ℕ
path_text x path = steps_text true x path

-- a text, of more than 40 characters its first 37 and three points
abbrev pub short_text : List ℕ → List ℕ
short_text t = if nat_lt 40 (length (chars t)) then encode_utf8_all (take 37 (chars t)) ++ codes "..." else t

abbrev pub leaf_text : leaf.Leaf → List ℕ
leaf_text (leaf.Operator op) = operator_name op
leaf_text (leaf.Unary op) = unary_name op
leaf_text (leaf.Bool op) = bool_name op
leaf_text (leaf.Comparison c) = comparison_name c
leaf_text (leaf.Context ctx) = context_name ctx
leaf_text (leaf.Conversion conversion) = conversion_number conversion
leaf_text (leaf.Name name) = short_text (repr_text name)
leaf_text (leaf.Value v) = short_text (value_text v)
leaf_text (leaf.Singleton v) = short_text (value_text v)
leaf_text (leaf.Number n) = decimal n
leaf_text (leaf.Flag b) = if b then codes "1" else codes "0"
leaf_text leaf.Kind = codes "'u'"
leaf_text leaf.None = codes "None"

-- nothing, the class of a node, or the dump text of a scalar
abbrev pub thing_text : Option Thing → List ℕ
thing_text None = codes "nothing"
thing_text (Some (Leaf x)) = leaf_text x
thing_text (Some (Row xs)) = codes "list"
thing_text (Some (Node class xs)) = class_name class
