-- What becomes of a list, where each member of it is changed, and of what holds the list.
--
-- Carries: store, store_all, delete, delete_all. On: Targets.
use Rattle.std.proofs.Common.{◌≡◌, refl, sym, ap, ◌∙◌, arith, ℕ, zero, suc, ◌<◌, List, [], ◌∷◌, ◌++◌, length, map, get_or, take, drop}
use Rattle.std.proofs.Common.{Global, Option, Some, None, Bool, true, false, option_map}
use Rattle.std.proofs.Math.Seq.{take-append_seam}
use Rattle.std.specs.declared.vec.Vec.{Vec}
use Rattle.pytree_node.specs.declared.expressions.Expr as given
use Rattle.pytree_node.specs.declared.expressions.Expr.TheVariants as variant
use Rattle.pytree_node.specs.declared.operators.Context.{Context}
use Rattle.pytree_node.specs.Trees
use Rattle.pytree_node.specs.Trees.{Expr, Exprs, no_exprs, an_expr, exprs}
use Rattle.pytree_node.specs.TreeOf.{tree_of}
use Rattle.pytree_node.proofs.Callers.ExprShapes.{list_tree, tuple_tree}
use Rattle.pygrammar.specs.Targets.{both}
use Rattle.pyparse_nodes.specs.Answers.{IsChanged}

-- what holds of a part holds of the whole
pub whole_changed : {A B : Type 0} (f : A → B) (b : Bool) (x : Option A) (new : A) → IsChanged b x new
    → IsChanged b (option_map f x) (f new)
whole_changed f true x new h = ap (λ o. option_map f o) h
whole_changed f false x new h = ap (λ o. option_map f o) h

-- a list that was written over another one of its length
pub refilled : (n : ℕ) (xs ws : List given.Expr) → length ws ≡ n → take n (ws ++ drop (length ws) xs) ≡ ws
refilled n xs ws e = ap (λ k. take k (ws ++ drop (length ws) xs)) (sym e) ∙ take-append_seam ws (drop (length ws) xs)

no_rest : (o : Option Expr) → both o None ≡ None
no_rest None = refl
no_rest (Some e) = refl

no_first : (o : Option Exprs) → both None o ≡ None
no_first None = refl
no_first (Some es) = refl

-- a change of an expression, and of each of some
module _ (change : Expr → Option Expr) (all : Exprs → Option Exprs) (all_none : all no_exprs ≡ Some no_exprs)
    (all_more : (e : Expr) (es : Exprs) → all (an_expr e es) ≡ both (change e) (all es)) where
  pub one_fails : (xs : List given.Expr) (k : ℕ) (d : given.Expr) → k < length xs → change (tree_of (get_or xs k d)) ≡ None
      → all (exprs (map tree_of xs)) ≡ None
  one_fails [] k d l h = absurd (omega (arith, l))
  one_fails (x ∷ xs) zero d l h = all_more (tree_of x) (exprs (map tree_of xs)) ∙ ap (λ o. both o (all (exprs (map tree_of xs)))) h
      ∙ no_first (all (exprs (map tree_of xs)))
  one_fails (x ∷ xs) (suc k) d l h = all_more (tree_of x) (exprs (map tree_of xs))
      ∙ ap (λ o. both (change (tree_of x)) o) (one_fails xs k d (omega (arith, l)) h) ∙ no_rest (change (tree_of x))

  pub all_changed : (xs ys : List given.Expr) → length xs ≡ length ys
      → ((k : ℕ) (d : given.Expr) → k < length xs → change (tree_of (get_or xs k d)) ≡ Some (tree_of (get_or ys k d)))
      → all (exprs (map tree_of xs)) ≡ Some (exprs (map tree_of ys))
  all_changed [] [] l h = all_none
  all_changed [] (y ∷ ys) l h = absurd (omega (arith, l))
  all_changed (x ∷ xs) [] l h = absurd (omega (arith, l))
  all_changed (x ∷ xs) (y ∷ ys) l h =
      all_more (tree_of x) (exprs (map tree_of xs))
      ∙ ap (λ o. both o (all (exprs (map tree_of xs)))) (h 0 x (omega arith))
      ∙ ap (λ o. both (Some (tree_of y)) o) (all_changed xs ys (omega (arith, l)) (λ k d m. h (suc k) d (omega (arith, m))))

-- an expression that holds a list, each member of which gets this context
module _ (change : Expr → Option Expr) (all : Exprs → Option Exprs) (new : Context) (e : given.Expr) (v w : Vec given.Expr Global)
    (c : Context) (b : Bool) (xs ys : List given.Expr) (p : xs ≡ v.items) (q : w.items ≡ ys)
    (h : IsChanged b (all (exprs (map tree_of xs))) (exprs (map tree_of ys))) where
  pub tuple_changed : ((es : Exprs) → change (Trees.Tuple es c) ≡ option_map (λ fs. Trees.Tuple fs new) (all es)) → e ≡ variant.Tuple v c
      → IsChanged b (change (tree_of e)) (tree_of (variant.Tuple w new))
  tuple_changed r i =
      let was : change (tree_of e) ≡ option_map (λ fs. Trees.Tuple fs new) (all (exprs (map tree_of xs))) = ap (λ x. change (tree_of x)) i
      ∙ ap (λ t. change t) (tuple_tree v c) ∙ r (exprs (map tree_of v.items))
      ∙ ap (λ l. option_map (λ fs. Trees.Tuple fs new) (all (exprs (map tree_of l)))) (sym p) in
      let is : tree_of (variant.Tuple w new) ≡ Trees.Tuple (exprs (map tree_of ys)) new = tuple_tree w new
      ∙ ap (λ l. Trees.Tuple (exprs (map tree_of l)) new) q in
      rw (was, is) (whole_changed (λ fs. Trees.Tuple fs new) b (all (exprs (map tree_of xs))) (exprs (map tree_of ys)) h)

  pub list_changed : ((es : Exprs) → change (Trees.ListOf es c) ≡ option_map (λ fs. Trees.ListOf fs new) (all es)) → e ≡ variant.List v c
      → IsChanged b (change (tree_of e)) (tree_of (variant.List w new))
  list_changed r i =
      let was : change (tree_of e) ≡ option_map (λ fs. Trees.ListOf fs new) (all (exprs (map tree_of xs))) = ap (λ x. change (tree_of x)) i
      ∙ ap (λ t. change t) (list_tree v c) ∙ r (exprs (map tree_of v.items))
      ∙ ap (λ l. option_map (λ fs. Trees.ListOf fs new) (all (exprs (map tree_of l)))) (sym p) in
      let is : tree_of (variant.List w new) ≡ Trees.ListOf (exprs (map tree_of ys)) new = list_tree w new
      ∙ ap (λ l. Trees.ListOf (exprs (map tree_of l)) new) q in
      rw (was, is) (whole_changed (λ fs. Trees.ListOf fs new) b (all (exprs (map tree_of xs))) (exprs (map tree_of ys)) h)
