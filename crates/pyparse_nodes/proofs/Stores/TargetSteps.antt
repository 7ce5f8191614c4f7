-- What is stored of a starred expression.
--
-- Carries: store. On: Targets, Changes.
use Rattle.std.proofs.Common.{◌≡◌, refl, sym, ap, ◌∙◌, Global, None, Bool, true, false, not, option_map}
use Rattle.std.specs.declared.boxed.Box.{Box}
use Rattle.pytree_node.specs.declared.expressions.Expr as given
use Rattle.pytree_node.specs.declared.expressions.Expr.TheVariants as variant
use Rattle.pytree_node.specs.declared.operators.Context.{Context}
use Rattle.pytree_node.specs.declared.operators.Context.TheVariants.{Store}
use Rattle.pytree_node.specs.Trees
use Rattle.pytree_node.specs.Trees.{Expr}
use Rattle.pytree_node.specs.TreeOf.{tree_of}
use Rattle.pytree_node.proofs.Callers.ExprShapes.{starred_tree}
use Rattle.pygrammar.specs.Targets.{stored}
use Rattle.pyparse_nodes.specs.Answers.{IsChanged}
use Rattle.pyparse_nodes.specs.Inner.Targets.{is_starred}
use Rattle.pyparse_nodes.proofs.Stores.Changes.{whole_changed}

-- a `*` in front of a starred expression, and in front of another one
pub star_twice : (v : Expr) (c : Context) → is_starred v ≡ true → stored (Trees.Starred v c) ≡ None
star_twice (Trees.Starred e d) c h = refl
star_twice _ c h = absurd (cc)

pub star_once : (v : Expr) (c : Context) → is_starred v ≡ false
    → stored (Trees.Starred v c) ≡ option_map (λ f. Trees.Starred f Store) (stored v)
star_once (Trees.Starred e d) c h = absurd (cc)
star_once _ c h = refl

-- a starred expression whose operand was stored, and one that is none
pub star_changed : (e x : given.Expr) (v w : Box given.Expr Global) (c : Context) (b : Bool) → e ≡ variant.Starred v c → x ≡ v.value
    → is_starred (tree_of x) ≡ false → IsChanged b (stored (tree_of x)) (tree_of w.value)
    → IsChanged b (stored (tree_of e)) (tree_of (variant.Starred w Store))
star_changed e x v w c b i p n h =
    let old : stored (tree_of e) ≡ option_map (λ f. Trees.Starred f Store) (stored (tree_of x)) = ap (λ y. stored (tree_of y)) i
    ∙ ap (λ t. stored t) (starred_tree v c) ∙ ap (λ y. stored (Trees.Starred (tree_of y) c)) (sym p) ∙ star_once (tree_of x) c n in
    let new : tree_of (variant.Starred w Store) ≡ Trees.Starred (tree_of w.value) Store = starred_tree w Store in
    rw (old, new) (whole_changed (λ f. Trees.Starred f Store) b (stored (tree_of x)) (tree_of w.value) h)

pub star_refused : (e x : given.Expr) (v : Box given.Expr Global) (c : Context) (b : Bool) (new : Expr) → e ≡ variant.Starred v c
    → x ≡ v.value → b ≡ is_starred (tree_of x) → b ≡ true → IsChanged (not b) (stored (tree_of e)) new
star_refused e x v c b new i p n t =
    let old : stored (tree_of e) ≡ None = ap (λ y. stored (tree_of y)) i ∙ ap (λ y. stored y) (starred_tree v c)
    ∙ ap (λ y. stored (Trees.Starred (tree_of y) c)) (sym p) ∙ star_twice (tree_of x) c (sym n ∙ t) in
    rw t old
