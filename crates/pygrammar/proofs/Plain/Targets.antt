-- A target is plain where its expression is.
--
-- Carries: stored_plain, deleted_plain, single_plain, for Expressions.
use Rattle.std.proofs.Common.{◌≡◌, refl, sym, ap, ◌∙◌, Bool, ◌&&◌, Option, Some, None, option_map}
use Rattle.std.proofs.lemmas.Option.{same_Some}
use Rattle.pytree_node.specs.declared.operators.Context.{Context}
use Rattle.pytree_node.specs.declared.operators.Context.TheVariants.{Store, Del}
use Rattle.pytree_node.specs.Trees
use Rattle.pytree_node.specs.Trees.{Expr, Exprs, no_exprs, an_expr}
use Rattle.pygrammar.specs.Targets.{both, stored, all_stored, deleted, all_deleted, single_stored}
use Rattle.pygrammar.specs.Extents.{is_plain, are_plain}
use Rattle.pygrammar.proofs.Plain.Terminals.{and_both}

-- ---- Options.

-- f keeps the test
pub mapped_keeps : {A B : Type 0} (f : A → B) (o : Option A) (b : B) (test : B → Bool) (c : Bool) → ((a : A) → o ≡ Some a → test (f a) ≡ c)
    → option_map f o ≡ Some b → test b ≡ c
mapped_keeps f None b test c h q = absurd cc
mapped_keeps f (Some a) b test c h q = ap test (sym (same_Some (f a) b q)) ∙ h a refl

both_plain : (o : Option Expr) (p : Option Exprs) (fs : Exprs) (a b : Bool) → ((s : Expr) → o ≡ Some s → is_plain s ≡ a)
    → ((gs : Exprs) → p ≡ Some gs → are_plain gs ≡ b)
    → both o p ≡ Some fs → are_plain fs ≡ a && b
both_plain None p fs a b f g h = absurd cc
both_plain (Some e) None fs a b f g h = absurd cc
both_plain (Some e) (Some es) fs a b f g h = ap are_plain (sym (same_Some (an_expr e es) fs h)) ∙ and_both (f e refl) (g es refl)

-- ---- Targets.

star_plain : (e : Expr) (c : Context) (s : Expr) → ((f : Expr) → stored e ≡ Some f → is_plain f ≡ is_plain e)
    → stored (Trees.Starred e c) ≡ Some s → is_plain s ≡ is_plain e
star_plain (Trees.Starred e d) c s f h = absurd cc
star_plain e c s f h = mapped_keeps (λ g. Trees.Starred g Store) (stored e) s is_plain (is_plain e) f h

mutual
  pub stored_plain : (e s : Expr) → stored e ≡ Some s → is_plain s ≡ is_plain e
  stored_plain (Trees.Name x c) s h = ap is_plain (sym (same_Some (Trees.Name x Store) s h))
  stored_plain (Trees.Attribute e x c) s h = ap is_plain (sym (same_Some (Trees.Attribute e x Store) s h))
  stored_plain (Trees.Subscript e i c) s h = ap is_plain (sym (same_Some (Trees.Subscript e i Store) s h))
  stored_plain (Trees.Tuple es c) s h = mapped_keeps (λ fs. Trees.Tuple fs Store) (all_stored es) s is_plain (are_plain es)
      (λ fs q. all_stored_plain es fs q) h
  stored_plain (Trees.ListOf es c) s h = mapped_keeps (λ fs. Trees.ListOf fs Store) (all_stored es) s is_plain (are_plain es)
      (λ fs q. all_stored_plain es fs q) h
  stored_plain (Trees.Starred e c) s h = star_plain e c s (λ f q. stored_plain e f q) h
  stored_plain _ s h = absurd cc

  all_stored_plain : (es fs : Exprs) → all_stored es ≡ Some fs → are_plain fs ≡ are_plain es
  all_stored_plain no_exprs fs h = ap are_plain (sym (same_Some no_exprs fs h))
  all_stored_plain (an_expr e es) fs h = both_plain (stored e) (all_stored es) fs (is_plain e) (are_plain es) (λ s q. stored_plain e s q)
      (λ gs q. all_stored_plain es gs q) h

mutual
  pub deleted_plain : (e s : Expr) → deleted e ≡ Some s → is_plain s ≡ is_plain e
  deleted_plain (Trees.Name x c) s h = ap is_plain (sym (same_Some (Trees.Name x Del) s h))
  deleted_plain (Trees.Attribute e x c) s h = ap is_plain (sym (same_Some (Trees.Attribute e x Del) s h))
  deleted_plain (Trees.Subscript e i c) s h = ap is_plain (sym (same_Some (Trees.Subscript e i Del) s h))
  deleted_plain (Trees.Tuple es c) s h = mapped_keeps (λ fs. Trees.Tuple fs Del) (all_deleted es) s is_plain (are_plain es)
      (λ fs q. all_deleted_plain es fs q) h
  deleted_plain (Trees.ListOf es c) s h = mapped_keeps (λ fs. Trees.ListOf fs Del) (all_deleted es) s is_plain (are_plain es)
      (λ fs q. all_deleted_plain es fs q) h
  deleted_plain _ s h = absurd cc

  all_deleted_plain : (es fs : Exprs) → all_deleted es ≡ Some fs → are_plain fs ≡ are_plain es
  all_deleted_plain no_exprs fs h = ap are_plain (sym (same_Some no_exprs fs h))
  all_deleted_plain (an_expr e es) fs h = both_plain (deleted e) (all_deleted es) fs (is_plain e) (are_plain es)
      (λ s q. deleted_plain e s q) (λ gs q. all_deleted_plain es gs q) h

pub single_plain : (e s : Expr) → single_stored e ≡ Some s → is_plain s ≡ is_plain e
single_plain (Trees.Name x c) s h = ap is_plain (sym (same_Some (Trees.Name x Store) s h))
single_plain (Trees.Attribute e x c) s h = ap is_plain (sym (same_Some (Trees.Attribute e x Store) s h))
single_plain (Trees.Subscript e i c) s h = ap is_plain (sym (same_Some (Trees.Subscript e i Store) s h))
single_plain _ s h = absurd cc
