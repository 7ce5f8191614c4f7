-- What the descriptions of nodes, of their fields and of lists show.
use Rattle.std.specs.Prelude.{◌≡◌, ◌≤◌, ℕ, Bool, true, false, List, [], ◌∷◌, ◌++◌, ◌||◌, if◌then◌else◌, map, codes, decimal, take, Option}
use Rattle.std.specs.Prelude.{Some, None}
use Rattle.pytree_node.specs.TreeOf.{tree_of, option_of, comprehension_of, keyword_of, arg_of, arguments_of, alias_of, item_of}
use Rattle.pytree_node.specs.TreeOf.{type_param_of}
use Rattle.pytree_node.specs.TreeOf.{pattern_of, constant_of}
use Rattle.pytree_node.specs.Trees.{optional}
use Rattle.pytree_dump_text.specs.declared.styles.Style.{Style}
use Rattle.pytree_dump_text.specs.Blocks.{shown_pattern_row}
use Rattle.pytree_dump_text.specs.Layout.{is_flat, is_short, text}
use Rattle.pytree_dump_text.specs.Names.{field_name}
use Rattle.pytree_dump_text.specs.Shows.{Shown, Showns, Fields, Scalar, Row, Node, no_field, no_shown, a_shown, nothing, shown, shown_alias}
use Rattle.pytree_dump_text.specs.Shows.{shown_arg, shown_arguments}
use Rattle.pytree_dump_text.specs.Shows.{shown_comprehension, shown_item, shown_keyword, shown_name, shown_optional, shown_pattern}
use Rattle.pytree_dump_text.specs.Shows.{shown_type_param}
use Rattle.pytree_dump_text.specs.Shows.{showns, word, comparison_name, value_text}
use Rattle.pytree_dump_text.specs.Slots.{Slot, field, slot_of, with_slot}
use Rattle.pytree_marked.specs.MarkedNodes.{Attributes, closed, fields_with, is_marked, placed, with_places}
use Rattle.pytree_marked.specs.Taking.{is_none_left}
use Rattle.pytree_dump.specs.declared.nodes.AnyPart.{AnyPart}
use Rattle.pytree_dump.specs.declared.nodes.AnyPart.TheVariants as any_part
use Rattle.pytree_dump.specs.declared.nodes.Node as given
use Rattle.pytree_dump.specs.declared.contents.Content.{Content}
use Rattle.pytree_dump.specs.declared.contents.Content.TheVariants as content
use Rattle.pytree_dump.specs.declared.elements.Element.{Element}
use Rattle.pytree_dump.specs.declared.elements.Element.TheVariants as element
use Rattle.pytree_dump.specs.declared.elements.Elements as given_elements
use Rattle.pytree_dump.specs.declared.elements.Elements.TheVariants as elements

-- a field
abbrev pub any_slot : AnyPart → Slot
any_slot (any_part.Part p) = slot_of p
any_slot (any_part.Pattern name p) = field (field_name name) (shown_pattern (pattern_of p.now))
any_slot (any_part.Patterns name ps) = field (field_name name) (shown_pattern_row ps.now)

-- the fields of a list, each by its slot
abbrev pub slotted : {A : Type 0} → (A → Slot) → List A → Fields
slotted g [] = no_field
slotted g (x ∷ xs) = with_slot (g x) (slotted g xs)

abbrev pub fields_of : List AnyPart → Fields
fields_of ps = slotted any_slot ps

-- the fields of a node: those of its parts that count
abbrev pub node_fields : given.Node → Fields
node_fields n = fields_of (take n.len n.parts)

-- a part of a tree
abbrev pub element_shown : Element → Shown
element_shown (element.Expr e) = shown (tree_of e.now)
element_shown (element.Comprehension c) = shown_comprehension (comprehension_of c.now)
element_shown (element.Keyword k) = shown_keyword (keyword_of k.now)
element_shown (element.Alias a) = shown_alias (alias_of a.now)
element_shown (element.Item i) = shown_item (item_of i.now)
element_shown (element.TypeParam p) = shown_type_param (type_param_of p.now)
element_shown (element.Pattern p) = shown_pattern (pattern_of p.now)

-- an element of a list, which is None where it is absent
abbrev pub option_shown : Option Element → Shown
option_shown None = nothing
option_shown (Some x) = element_shown x

-- a list
abbrev pub elements_shown : given_elements.Elements → Showns
elements_shown (elements.Options xs) = showns (map (λ e. shown_optional (optional (option_of e))) xs.now)
elements_shown (elements.Comprehensions xs) = showns (map (λ c. shown_comprehension (comprehension_of c)) xs.now)
elements_shown (elements.Keywords xs) = showns (map (λ k. shown_keyword (keyword_of k)) xs.now)
elements_shown (elements.Aliases xs) = showns (map (λ a. shown_alias (alias_of a)) xs.now)
elements_shown (elements.Items xs) = showns (map (λ i. shown_item (item_of i)) xs.now)
elements_shown (elements.TypeParams xs) = showns (map (λ p. shown_type_param (type_param_of p)) xs.now)
elements_shown (elements.Patterns xs) = showns (map (λ p. shown_pattern (pattern_of p)) xs.now)

abbrev pub is_no_shown : Showns → Bool
is_no_shown no_shown = true
is_no_shown (a_shown x xs) = false

-- what splits the first element off a list
abbrev pub Splits : given_elements.Elements → Option (Option Element × given_elements.Elements) → Type 0
Splits r None = elements_shown r ≡ no_shown
Splits r (Some x) = elements_shown r ≡ a_shown (option_shown x.0) (elements_shown x.1)

-- what a description of a node says: for how many parts it has room, how many count, and what is said of the node
pub record Sketch : Type 0 where
  pub room : ℕ
  pub len : ℕ
  pub is_marked : Bool
  pub class : List ℕ
  pub fields : Fields
  pub is_short : Bool

-- A description of a node: whether it may have a place, its class and the bracket, and its fields. Where no place is left it says whether
-- it stands on one line; else only a dump of one line has it on one.
pub record Sketched (m : Bool) (s : Style) (k : Sketch) (start : List ℕ) (fs : Fields) : Type 0 where
  pub count : k.len ≤ k.room
  pub marked : k.is_marked ≡ m
  pub class : k.class ≡ start
  pub fields : k.fields ≡ fs
  pub line : (ps : List Attributes) (line : Bool) → line ≡ (if is_none_left ps then k.is_short else is_flat s.indent) →
      line ≡ (is_flat s.indent || is_short (closed m (fields_with ps fs)).shown)

-- a description of what is shown
abbrev pub SketchedShown : Style → Sketch → Shown → Type 0
SketchedShown s k (Scalar t) = ⊥
SketchedShown s k (Row xs) = ⊥
SketchedShown s k (Node name fs) = Sketched (is_marked name) s k (name ++ codes "(") fs

-- what a node says of itself, its name apart
abbrev pub LaidSketch : Style → Sketch → Type 0
LaidSketch s k = Sketched k.is_marked s k k.class k.fields

-- the same of a node of an expression
abbrev pub sketch : given.Node → Sketch
sketch n = record {
  room = 4;
  len = n.len;
  is_marked = n.is_marked;
  class = n.class.now;
  fields = node_fields n;
  is_short = n.is_short;
}

abbrev pub Describes : Bool → Style → given.Node → List ℕ → Fields → Type 0
Describes m s n start fs = Sketched m s (sketch n) start fs

abbrev pub DescribesShown : Style → given.Node → Shown → Type 0
DescribesShown s n x = SketchedShown s (sketch n) x

abbrev pub Laid : Style → given.Node → Type 0
Laid s n = LaidSketch s (sketch n)

-- what is shown by the content of a field
abbrev pub ContentOf : Content → Shown → Type 0
ContentOf (content.Expr e) y = shown (tree_of e.now) ≡ y
ContentOf (content.Element x) y = element_shown x ≡ y
ContentOf (content.Exprs es) y = Row (showns (map (λ e. shown (tree_of e)) es.now)) ≡ y
ContentOf (content.Arg a) y = shown_arg (arg_of a.now) ≡ y
ContentOf (content.Args all) y = Row (showns (map (λ a. shown_arg (arg_of a)) all.now)) ≡ y
ContentOf (content.Arguments a) y = shown_arguments (arguments_of a.now) ≡ y
ContentOf (content.Elements r) y = Row (elements_shown r) ≡ y
ContentOf (content.Comparisons cs) y = Row (showns (map (λ c. word (comparison_name c)) cs.now)) ≡ y
ContentOf (content.Names names) y = Row (showns (map (λ name. shown_name name) names.now)) ≡ y
ContentOf (content.Word t) y = ((s : Style) (f : List ℕ) → text s f y ≡ t.now) × ((ps : List Attributes) → with_places ps y ≡ placed y ps)
ContentOf (content.Name id) y = shown_name id.now ≡ y
ContentOf (content.Constant c) y = Scalar (value_text (constant_of c.now)) ≡ y
ContentOf (content.Number n) y = Scalar (decimal n) ≡ y
