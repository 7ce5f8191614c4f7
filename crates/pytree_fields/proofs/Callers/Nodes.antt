-- An element that is no leaf holds a node.
--
-- Carries: the walks over the table.
use Rattle.pytree_node.specs.declared.profiles.Version.{Version}
use Rattle.pytree_node.specs.Trees
use Rattle.pytree_node.specs.TreeOf.{tree_of, pattern_of, stmt_of, arg_of, arguments_of, type_param_of}
use Rattle.pytree_fields.specs.declared.children.Child.{Child}
use Rattle.pytree_fields.specs.declared.children.Child.TheVariants as child
use Rattle.pytree_fields.specs.LentThings.{IsNode, child_thing}
use Rattle.pytree_fields.specs.Things.{Thing, Leaf, Row, Node, arg_thing, arguments_thing, expr_thing, pattern_thing, stmt_thing}
use Rattle.pytree_fields.specs.Things.{type_param_thing}

-- a thing that is a node
abbrev pub HasClass : Thing → Type 0
HasClass (Leaf x) = ⊥
HasClass (Row xs) = ⊥
HasClass (Node class xs) = Unit {0}

expr_class : (e : Trees.Expr) → HasClass (expr_thing e)
expr_class (Trees.BoolOp op values) = tt
expr_class _ = tt

pattern_class : (p : Trees.Pattern) → HasClass (pattern_thing p)
pattern_class (Trees.MatchValue value) = tt
pattern_class _ = tt

stmt_class : (v : Version) (s : Trees.Stmt) → HasClass (stmt_thing v s)
stmt_class v (Trees.Return value) = tt
stmt_class v _ = tt

arg_class : (a : Trees.Arg) → HasClass (arg_thing a)
arg_class (Trees.arg name annotation) = tt

arguments_class : (a : Trees.Arguments) → HasClass (arguments_thing a)
arguments_class (Trees.arguments posonlyargs args vararg kwonlyargs kw_defaults kwarg defaults) = tt

type_param_class : (p : Trees.TypeParam) → HasClass (type_param_thing p)
type_param_class (Trees.TypeVar name bound) = tt
type_param_class _ = tt

pub node_class : (v : Version) (x : Child) → IsNode x → HasClass (child_thing v x)
node_class v (child.Leaf x) n = n
node_class v (child.Expr e) n = expr_class (tree_of e.now)
node_class v (child.Pattern p) n = pattern_class (pattern_of p.now)
node_class v (child.Stmt s) n = stmt_class v (stmt_of s.now)
node_class v (child.Handler h) n = tt
node_class v (child.Case c) n = tt
node_class v (child.Comprehension c) n = tt
node_class v (child.Arguments a) n = arguments_class (arguments_of a.now)
node_class v (child.Arg a) n = arg_class (arg_of a.now)
node_class v (child.Keyword k) n = tt
node_class v (child.Alias a) n = tt
node_class v (child.Item i) n = tt
node_class v (child.TypeParam p) n = type_param_class (type_param_of p.now)
