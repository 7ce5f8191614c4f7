-- What the fields of a node show, field by field.
use Rattle.std.specs.Prelude.{ℕ, List, [], ◌++◌, ◌||◌, map, codes, decimal, Bool, true, false}
use Rattle.pytree_dump_text.specs.declared.styles.Style.{Style}
use Rattle.pytree_dump_text.specs.declared.lines.Told.{Told}
use Rattle.pytree_dump_text.specs.declared.parts.Part.{Part}
use Rattle.pytree_dump_text.specs.declared.parts.Part.TheVariants as part
use Rattle.pytree_dump_text.specs.Names.{field_name}
use Rattle.pytree_dump_text.specs.Shows.{Shown, Fields, Scalar, Row, a_field, left_out, showns, word, shown, shown_name, shown_optional}
use Rattle.pytree_dump_text.specs.Shows.{shown_arg, shown_arguments, shown_flag, bool_name, comparison_name, context_name}
use Rattle.pytree_dump_text.specs.Shows.{conversion_number, operator_name, unary_name, shown_comprehension, shown_keyword, value_text}
use Rattle.pytree_dump_text.specs.Shows.{shown_alias, shown_item, shown_type_param}
use Rattle.pytree_dump_text.specs.Layout.{deeper, fields, is_flat, is_short, is_simple, label}
use Rattle.pytree_node.specs.Values as value
use Rattle.pytree_node.specs.Values.{Value}
use Rattle.pytree_node.specs.Trees.{optional}
use Rattle.pytree_node.specs.TreeOf.{tree_of, option_of, comprehension_of, keyword_of, arg_of, arguments_of, constant_of, alias_of, item_of}
use Rattle.pytree_node.specs.TreeOf.{type_param_of}

-- a field with its name, or one that is left out
pub data Slot : Type 0 where
  missing : Slot
  field : List ℕ → Shown → Slot

-- a slot before other fields
abbrev pub with_slot : Slot → Fields → Fields
with_slot missing rest = left_out rest
with_slot (field name x) rest = a_field name x rest

abbrev pub slot_name : Slot → List ℕ
slot_name missing = []
slot_name (field name x) = name

abbrev pub slot_shown : Slot → Shown
slot_shown missing = Scalar []
slot_shown (field name x) = x

abbrev pub is_missing : Slot → Bool
is_missing missing = true
is_missing (field name x) = false

-- left out or simple
abbrev pub is_plain : Slot → Bool
is_plain missing = true
is_plain (field name x) = is_simple x

-- the text of the fields that are still to come
abbrev pub coming : Style → List ℕ → Told → Fields → List ℕ
coming s indentation told rest = fields s indentation told.one_line told.named told.first rest

-- a node, of what begins it, its class and the bracket, and of its fields
abbrev pub node_text : Style → List ℕ → List ℕ → Fields → List ℕ
node_text s indentation start fs = start ++ fields s (deeper s.indent indentation) (is_flat s.indent || is_short fs)
    s.names true fs ++ codes ")"

-- what a part of an expression shows
abbrev pub slot_of : Part → Slot
slot_of (part.Expr name e) = field (field_name name) (shown (tree_of e.now))
slot_of (part.Exprs name es) = field (field_name name) (Row (showns (map (λ e. shown (tree_of e)) es.now)))
slot_of (part.Options name es) = field (field_name name) (Row (showns (map (λ e. shown_optional (optional (option_of e))) es.now)))
slot_of (part.Comprehensions name cs) = field (field_name name) (Row (showns (map (λ c. shown_comprehension (comprehension_of c)) cs.now)))
slot_of (part.Keywords name ks) = field (field_name name) (Row (showns (map (λ k. shown_keyword (keyword_of k)) ks.now)))
slot_of (part.Args name all) = field (field_name name) (Row (showns (map (λ a. shown_arg (arg_of a)) all.now)))
slot_of (part.Arg name a) = field (field_name name) (shown_arg (arg_of a.now))
slot_of (part.Arguments name a) = field (field_name name) (shown_arguments (arguments_of a.now))
slot_of (part.Comparisons name cs) = field (field_name name) (Row (showns (map (λ c. word (comparison_name c)) cs.now)))
slot_of (part.Names name names) = field (field_name name) (Row (showns (map (λ name. shown_name name) names.now)))
slot_of (part.Aliases name names) = field (field_name name) (Row (showns (map (λ a. shown_alias (alias_of a)) names.now)))
slot_of (part.Items name items) = field (field_name name) (Row (showns (map (λ item. shown_item (item_of item)) items.now)))
slot_of (part.TypeParams name all) = field (field_name name) (Row (showns (map (λ p. shown_type_param (type_param_of p)) all.now)))
slot_of (part.Operator op) = field (codes "op") (word (operator_name op))
slot_of (part.Unary op) = field (codes "op") (word (unary_name op))
slot_of (part.Bool op) = field (codes "op") (word (bool_name op))
slot_of (part.Conversion conversion) = field (codes "conversion") (Scalar (conversion_number conversion))
slot_of (part.Context ctx) = field (codes "ctx") (word (context_name ctx))
slot_of (part.Name name n) = field (field_name name) (shown_name n.now)
slot_of (part.Value name c) = field (field_name name) (Scalar (value_text (constant_of c.now)))
slot_of (part.Number name n) = field (field_name name) (Scalar (decimal n))
slot_of (part.Flag name b) = field (field_name name) (shown_flag b)
slot_of part.Kind = field (codes "kind") (Scalar (codes "'u'"))
slot_of part.LeftOut = missing

-- what a constant shows after its value
abbrev pub kind_shown : Bool → Value → List ℕ
kind_shown named (value.Str points true) = codes ", " ++ label named (codes "kind") ++ codes "'u'"
kind_shown named _ = []
