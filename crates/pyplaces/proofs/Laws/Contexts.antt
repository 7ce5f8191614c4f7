-- As many nodes of a target have a place as of the expression that it was read as.
--
-- Carries: Count.
use Rattle.std.proofs.Common.{◌≡◌, refl, sym, ap, ◌∙◌, ℕ, ◌+◌, arith, Option, Some, None, option_map}
use Rattle.std.proofs.lemmas.Option.{same_Some}
use Rattle.pytree_node.specs.declared.operators.Context.{Context}
use Rattle.pytree_node.specs.declared.operators.Context.TheVariants.{Store, Del}
use Rattle.pytree_node.specs.Trees
use Rattle.pytree_node.specs.Trees.{Expr, Exprs, no_exprs, an_expr, Identifier}
use Rattle.pytree_dump_text.specs.Shows.{shown, shown_exprs}
use Rattle.pytree_marked.specs.MarkedNodes.{marked, marked_rows}
use Rattle.pytree_marked.proofs.Callers.Sums.{context_none}
use Rattle.pygrammar.specs.Targets.{both, stored, all_stored, deleted, all_deleted, single_stored}

-- what k says of f's results, it says of the result that is there
pub mapped : {A B : Type 0} (f : A → B) (o : Option A) (b : B) (k : B → ℕ) (n : ℕ) → ((a : A) → o ≡ Some a → k (f a) ≡ n)
    → option_map f o ≡ Some b → k b ≡ n
mapped f None b k n h q = absurd (cc)
mapped f (Some a) b k n h q = ap k (sym (same_Some (f a) b q)) ∙ h a refl

abbrev pub count : Expr → ℕ
count e = marked (shown e)

abbrev pub counts : Exprs → ℕ
counts es = marked_rows (shown_exprs es)

-- ---- A context has no place.

name_in : (x : Identifier) (c d : Context) → count (Trees.Name x d) ≡ count (Trees.Name x c)
name_in x c d = omega (arith, context_none c, context_none d)

attribute_in : (e : Expr) (x : Identifier) (c d : Context) → count (Trees.Attribute e x d) ≡ count (Trees.Attribute e x c)
attribute_in e x c d = omega (arith, context_none c, context_none d)

subscript_in : (e s : Expr) (c d : Context) → count (Trees.Subscript e s d) ≡ count (Trees.Subscript e s c)
subscript_in e s c d = omega (arith, context_none c, context_none d)

tuple_in : (es fs : Exprs) (c d : Context) → counts fs ≡ counts es → count (Trees.Tuple fs d) ≡ count (Trees.Tuple es c)
tuple_in es fs c d h = omega (arith, h, context_none c, context_none d)

list_in : (es fs : Exprs) (c d : Context) → counts fs ≡ counts es → count (Trees.ListOf fs d) ≡ count (Trees.ListOf es c)
list_in es fs c d h = omega (arith, h, context_none c, context_none d)

starred_in : (e f : Expr) (c d : Context) → count f ≡ count e → count (Trees.Starred f d) ≡ count (Trees.Starred e c)
starred_in e f c d h = omega (arith, h, context_none c, context_none d)

-- ---- Targets.

both_counts : (o : Option Expr) (p : Option Exprs) (fs : Exprs) (m n : ℕ) → ((s : Expr) → o ≡ Some s → count s ≡ m)
    → ((gs : Exprs) → p ≡ Some gs → counts gs ≡ n) → both o p ≡ Some fs → counts fs ≡ m + n
both_counts None p fs m n f g h = absurd (cc)
both_counts (Some e) None fs m n f g h = absurd (cc)
both_counts (Some e) (Some es) fs m n f g h = ap counts (sym (same_Some (an_expr e es) fs h)) ∙ omega (arith, f e refl, g es refl)

star_count : (e : Expr) (c : Context) (s : Expr) → ((f : Expr) → stored e ≡ Some f → count f ≡ count e)
    → stored (Trees.Starred e c) ≡ Some s → count s ≡ count (Trees.Starred e c)
star_count (Trees.Starred e d) c s f h = absurd (cc)
star_count e c s f h = mapped (λ g. Trees.Starred g Store) (stored e) s count (count (Trees.Starred e c))
    (λ g q. starred_in e g c Store (f g q)) h

mutual
  pub stored_count : (e s : Expr) → stored e ≡ Some s → count s ≡ count e
  stored_count (Trees.Name x c) s h = ap count (sym (same_Some (Trees.Name x Store) s h)) ∙ name_in x c Store
  stored_count (Trees.Attribute e x c) s h = ap count (sym (same_Some (Trees.Attribute e x Store) s h)) ∙ attribute_in e x c Store
  stored_count (Trees.Subscript e i c) s h = ap count (sym (same_Some (Trees.Subscript e i Store) s h)) ∙ subscript_in e i c Store
  stored_count (Trees.Tuple es c) s h = mapped (λ fs. Trees.Tuple fs Store) (all_stored es) s count (count (Trees.Tuple es c))
      (λ fs q. tuple_in es fs c Store (all_stored_count es fs q)) h
  stored_count (Trees.ListOf es c) s h = mapped (λ fs. Trees.ListOf fs Store) (all_stored es) s count (count (Trees.ListOf es c))
      (λ fs q. list_in es fs c Store (all_stored_count es fs q)) h
  stored_count (Trees.Starred e c) s h = star_count e c s (λ f q. stored_count e f q) h
  stored_count _ s h = absurd (cc)

  all_stored_count : (es fs : Exprs) → all_stored es ≡ Some fs → counts fs ≡ counts es
  all_stored_count no_exprs fs h = ap counts (sym (same_Some no_exprs fs h))
  all_stored_count (an_expr e es) fs h = both_counts (stored e) (all_stored es) fs (count e) (counts es) (λ s q. stored_count e s q)
      (λ gs q. all_stored_count es gs q) h

mutual
  pub deleted_count : (e s : Expr) → deleted e ≡ Some s → count s ≡ count e
  deleted_count (Trees.Name x c) s h = ap count (sym (same_Some (Trees.Name x Del) s h)) ∙ name_in x c Del
  deleted_count (Trees.Attribute e x c) s h = ap count (sym (same_Some (Trees.Attribute e x Del) s h)) ∙ attribute_in e x c Del
  deleted_count (Trees.Subscript e i c) s h = ap count (sym (same_Some (Trees.Subscript e i Del) s h)) ∙ subscript_in e i c Del
  deleted_count (Trees.Tuple es c) s h = mapped (λ fs. Trees.Tuple fs Del) (all_deleted es) s count (count (Trees.Tuple es c))
      (λ fs q. tuple_in es fs c Del (all_deleted_count es fs q)) h
  deleted_count (Trees.ListOf es c) s h = mapped (λ fs. Trees.ListOf fs Del) (all_deleted es) s count (count (Trees.ListOf es c))
      (λ fs q. list_in es fs c Del (all_deleted_count es fs q)) h
  deleted_count _ s h = absurd (cc)

  all_deleted_count : (es fs : Exprs) → all_deleted es ≡ Some fs → counts fs ≡ counts es
  all_deleted_count no_exprs fs h = ap counts (sym (same_Some no_exprs fs h))
  all_deleted_count (an_expr e es) fs h = both_counts (deleted e) (all_deleted es) fs (count e) (counts es) (λ s q. deleted_count e s q)
      (λ gs q. all_deleted_count es gs q) h

pub single_count : (e s : Expr) → single_stored e ≡ Some s → count s ≡ count e
single_count (Trees.Name x c) s h = ap count (sym (same_Some (Trees.Name x Store) s h)) ∙ name_in x c Store
single_count (Trees.Attribute e x c) s h = ap count (sym (same_Some (Trees.Attribute e x Store) s h)) ∙ attribute_in e x c Store
single_count (Trees.Subscript e i c) s h = ap count (sym (same_Some (Trees.Subscript e i Store) s h)) ∙ subscript_in e i c Store
single_count _ s h = absurd (cc)
