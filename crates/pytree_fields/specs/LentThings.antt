-- What the table lends of a tree, as things.
use Rattle.std.specs.Prelude.{◌≡◌, ◌≤◌, ℕ, List, [], ◌∷◌, map, take, length, Option, Some, None}
use Rattle.pytree_node.specs.declared.profiles.Version.{Version}
use Rattle.pytree_node.specs.Trees.{exprs, optionals, patterns, stmts, handlers, cases, comprehensions, args, keywords}
use Rattle.pytree_node.specs.TreeOf.{tree_of, option_of, pattern_of, stmt_of, handler_of, case_of, comprehension_of, arg_of, arguments_of}
use Rattle.pytree_node.specs.TreeOf.{keyword_of, alias_of, item_of, type_param_of, constant_of}
use Rattle.pytree_fields.specs.declared.leaves.Leaf as given_leaf
use Rattle.pytree_fields.specs.declared.leaves.Leaf.TheVariants as lent
use Rattle.pytree_fields.specs.declared.nodes.Node as given_node
use Rattle.pytree_fields.specs.declared.children.Child.{Child}
use Rattle.pytree_fields.specs.declared.children.Child.TheVariants as child
use Rattle.pytree_fields.specs.declared.held.Held.{Held}
use Rattle.pytree_fields.specs.declared.held.Held.TheVariants as held
use Rattle.pytree_fields.specs.declared.rows.Row as given_row
use Rattle.pytree_fields.specs.declared.rows.Row.TheVariants as row
use Rattle.pytree_fields.specs.Leaves as leaf
use Rattle.pytree_fields.specs.Leaves.{Leaf}
use Rattle.pytree_fields.specs.Things as thing
use Rattle.pytree_fields.specs.Classes.{field_count}
use Rattle.pytree_fields.specs.Things.{Thing, Things, no_thing, with_option, IsRowOrNothing, NotRow, without_kind, expr_thing, expr_things}
use Rattle.pytree_fields.specs.Things.{optional_things}
use Rattle.pytree_fields.specs.Things.{pattern_thing, pattern_things, stmt_thing, stmt_things, handler_thing, handler_things, case_thing}
use Rattle.pytree_fields.specs.Things.{case_things, comprehension_thing, comprehension_things, arg_thing, arg_things, arguments_thing}
use Rattle.pytree_fields.specs.Things.{keyword_thing, keyword_things, alias_thing, alias_things, item_thing, item_things, type_param_thing}
use Rattle.pytree_fields.specs.Things.{type_param_things, comparison_things, name_things}

abbrev pub leaf_of : given_leaf.Leaf → Leaf
leaf_of (lent.Operator op) = leaf.Operator op
leaf_of (lent.Unary op) = leaf.Unary op
leaf_of (lent.Bool op) = leaf.Bool op
leaf_of (lent.Comparison c) = leaf.Comparison c
leaf_of (lent.Context ctx) = leaf.Context ctx
leaf_of (lent.Conversion conversion) = leaf.Conversion conversion
leaf_of (lent.Name name) = leaf.Name name.now
leaf_of (lent.Value c) = leaf.Value (without_kind (constant_of c.now))
leaf_of (lent.Singleton c) = leaf.Singleton (constant_of c.now)
leaf_of (lent.Number n) = leaf.Number n
leaf_of (lent.Flag b) = leaf.Flag b
leaf_of lent.Kind = leaf.Kind
leaf_of lent.None = leaf.None

abbrev pub child_thing : Version → Child → Thing
child_thing v (child.Leaf x) = thing.Leaf (leaf_of x)
child_thing v (child.Expr e) = expr_thing (tree_of e.now)
child_thing v (child.Pattern p) = pattern_thing (pattern_of p.now)
child_thing v (child.Stmt s) = stmt_thing v (stmt_of s.now)
child_thing v (child.Handler h) = handler_thing v (handler_of h.now)
child_thing v (child.Case c) = case_thing v (case_of c.now)
child_thing v (child.Comprehension c) = comprehension_thing (comprehension_of c.now)
child_thing v (child.Arguments a) = arguments_thing (arguments_of a.now)
child_thing v (child.Arg a) = arg_thing (arg_of a.now)
child_thing v (child.Keyword k) = keyword_thing (keyword_of k.now)
child_thing v (child.Alias a) = alias_thing (alias_of a.now)
child_thing v (child.Item i) = item_thing (item_of i.now)
child_thing v (child.TypeParam p) = type_param_thing (type_param_of p.now)

-- the elements of a list
abbrev pub row_things : Version → given_row.Row → Things
row_things v (row.Exprs xs) = expr_things (exprs (map tree_of xs.now))
row_things v (row.Options xs) = optional_things (optionals (map option_of xs.now))
row_things v (row.Patterns xs) = pattern_things (patterns (map pattern_of xs.now))
row_things v (row.Stmts xs) = stmt_things v (stmts (map stmt_of xs.now))
row_things v (row.Handlers xs) = handler_things v (handlers (map handler_of xs.now))
row_things v (row.Cases xs) = case_things v (cases (map case_of xs.now))
row_things v (row.Comprehensions xs) = comprehension_things (comprehensions (map comprehension_of xs.now))
row_things v (row.Args xs) = arg_things (args (map arg_of xs.now))
row_things v (row.Keywords xs) = keyword_things (keywords (map keyword_of xs.now))
row_things v (row.Aliases xs) = alias_things (map alias_of xs.now)
row_things v (row.Items xs) = item_things (map item_of xs.now)
row_things v (row.TypeParams xs) = type_param_things (map type_param_of xs.now)
row_things v (row.Comparisons xs) = comparison_things xs.now
row_things v (row.Names xs) = name_things xs.now
row_things v row.TypeIgnores = no_thing

abbrev pub row_len : given_row.Row → ℕ
row_len (row.Exprs xs) = length xs.now
row_len (row.Options xs) = length xs.now
row_len (row.Patterns xs) = length xs.now
row_len (row.Stmts xs) = length xs.now
row_len (row.Handlers xs) = length xs.now
row_len (row.Cases xs) = length xs.now
row_len (row.Comprehensions xs) = length xs.now
row_len (row.Args xs) = length xs.now
row_len (row.Keywords xs) = length xs.now
row_len (row.Aliases xs) = length xs.now
row_len (row.Items xs) = length xs.now
row_len (row.TypeParams xs) = length xs.now
row_len (row.Comparisons xs) = length xs.now
row_len (row.Names xs) = length xs.now
row_len row.TypeIgnores = 0

-- what a field holds, or nothing
abbrev pub held_thing : Version → Held → Option Thing
held_thing v (held.Leaf x) = Some (thing.Leaf (leaf_of x))
held_thing v (held.Expr e) = Some (expr_thing (tree_of e.now))
held_thing v (held.Pattern p) = Some (pattern_thing (pattern_of p.now))
held_thing v (held.Arg a) = Some (arg_thing (arg_of a.now))
held_thing v (held.Arguments a) = Some (arguments_thing (arguments_of a.now))
held_thing v (held.Row xs) = Some (thing.Row (row_things v xs))
held_thing v held.LeftOut = None

-- what a field holds before others
abbrev pub with_held : Version → Held → Things → Things
with_held v p rest = with_option (held_thing v p) rest

abbrev pub held_things : Version → List Held → Things
held_things v [] = no_thing
held_things v (p ∷ ps) = with_held v p (held_things v ps)

-- a node of the table: what those of its fields hold that count
abbrev pub node_thing : Version → given_node.Node → Thing
node_thing v n = thing.Node n.class (held_things v (take n.len n.held))

-- what is said of a thing as a node, where it is no leaf
pub record Describes (v : Version) (n : given_node.Node) (x : Thing) : Type 0 where
  pub thing : node_thing v n ≡ x
  pub len : n.len ≡ field_count n.class
  pub room : n.len ≤ 7

-- an element that is no leaf
abbrev pub IsNode : Child → Type 0
IsNode (child.Leaf x) = ⊥
IsNode (child.Expr e) = Unit {0}
IsNode (child.Pattern p) = Unit {0}
IsNode (child.Stmt s) = Unit {0}
IsNode (child.Handler h) = Unit {0}
IsNode (child.Case c) = Unit {0}
IsNode (child.Comprehension c) = Unit {0}
IsNode (child.Arguments a) = Unit {0}
IsNode (child.Arg a) = Unit {0}
IsNode (child.Keyword k) = Unit {0}
IsNode (child.Alias a) = Unit {0}
IsNode (child.Item i) = Unit {0}
IsNode (child.TypeParam p) = Unit {0}

-- the leaf that one is, whatever the version
abbrev pub LeafOf : Option given_leaf.Leaf → Child → Type 0
LeafOf None x = IsNode x
LeafOf (Some l) x = (v : Version) → child_thing v x ≡ thing.Leaf (leaf_of l)

-- the list that a field holds, or its leaf or node
abbrev pub RowOf : Version → Option given_row.Row → Held → Type 0
RowOf v None p = NotRow (held_thing v p)
RowOf v (Some xs) p = Some (thing.Row (row_things v xs)) ≡ held_thing v p

abbrev pub ChildOf : Version → Option Child → Held → Type 0
ChildOf v None p = IsRowOrNothing (held_thing v p)
ChildOf v (Some x) p = Some (child_thing v x) ≡ held_thing v p
