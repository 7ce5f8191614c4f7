-- Carries: the laws of the slots. On: what fits as a value fits as the target that it is stored as.
use Rattle.std.proofs.Common.{◌≡◌, refl, subst, Some, true}
use Rattle.std.specs.Prelude.{not, ◌&&◌}
use Rattle.std.proofs.lemmas.Bool.{and_parts, and_from}
use Rattle.pytree_node.specs.declared.operators.Context.TheVariants.{Load, Store, Del}
use Rattle.pytree_node.specs.Trees
use Rattle.pytree_node.specs.Trees.{Expr, Exprs, no_exprs, an_expr}
use Rattle.pygrammar.specs.declared.levels.Level.TheVariants.{Expression, Primary, Elem, Slices}
use Rattle.pygrammar.specs.Targets.{stored, all_stored, deleted, all_deleted, single_stored}
use Rattle.pytree_fits.specs.Tests.{Tests}
use Rattle.pytree_fits.specs.Slots.{is_context, is_starred, is_single, fits_at, fits_target, each_target_fits, each_fits}
use Rattle.pytree_fits.proofs.Fields.Tests.{parts3}
use Rattle.pytree_fits.proofs.Fields.Levels.{anywhere}
use Rattle.pyunparse_text.proofs.Callers.Trees.{given, mapped_is, both_is, star_stored}

module _ (n : Tests) where
  mutual
    pub stored_fits : (t s : Expr) → stored t ≡ Some s → fits_at n Elem t ≡ true → fits_target n Store s ≡ true
    stored_fits (Trees.Name x c) s h f = given (λ z. fits_target n Store z ≡ true) h (and_parts (is_context Load c) (n.name x) f).1
    stored_fits (Trees.Attribute e x c) s h f = let w = parts3 (is_context Load c) (n.name x) (fits_at n Expression e) f in
        given (λ z. fits_target n Store z ≡ true) h (and_from (n.name x) (fits_at n Expression e) w.1 w.2)
    stored_fits (Trees.Subscript e i c) s h f = let w = parts3 (is_context Load c) (fits_at n Expression e) (fits_at n Slices i) f in
        given (λ z. fits_target n Store z ≡ true) h (and_from (fits_at n Expression e) (fits_at n Slices i) w.1 w.2)
    stored_fits (Trees.Tuple es c) s h f = let w = mapped_is (λ fs. Trees.Tuple fs Store) (all_stored es) s h in
        subst (λ z. fits_target n Store z ≡ true) w.2 (all_stored_fit es w.0 w.1 (and_parts (is_context Load c) (each_fits n Elem es) f).1)
    stored_fits (Trees.ListOf es c) s h f = let w = mapped_is (λ fs. Trees.ListOf fs Store) (all_stored es) s h in
        subst (λ z. fits_target n Store z ≡ true) w.2 (all_stored_fit es w.0 w.1 (and_parts (is_context Load c) (each_fits n Elem es) f).1)
    stored_fits (Trees.Starred e c) s h f =
        let w = star_stored e c s h in
        let u = and_parts (is_context Load c) (fits_at n Expression e) f in
        subst (λ z. fits_target n Store z ≡ true) w.2 (and_from (not (is_starred w.0)) (fits_target n Store w.0) (single_star e w.0 w.1 u.1)
        (stored_fits e w.0 w.1 (anywhere n Expression Elem e refl u.1)))
    stored_fits _ s h f = absurd (cc)

    all_stored_fit : (es fs : Exprs) → all_stored es ≡ Some fs → each_fits n Elem es ≡ true → each_target_fits n Store fs ≡ true
    all_stored_fit no_exprs fs h f = given (λ z. each_target_fits n Store z ≡ true) h refl
    all_stored_fit (an_expr e es) fs h f =
        let w = both_is (stored e) (all_stored es) fs h in
        let u = and_parts (fits_at n Elem e) (each_fits n Elem es) f in
        subst (λ z. each_target_fits n Store z ≡ true) w.4 (and_from (fits_target n Store w.0) (each_target_fits n Store w.1)
        (stored_fits e w.0 w.2 u.0) (all_stored_fit es w.1 w.3 u.1))

    single_star : (e f : Expr) → stored e ≡ Some f → fits_at n Expression e ≡ true → not (is_starred f) ≡ true
    single_star (Trees.Name x c) f h g = given (λ z. not (is_starred z) ≡ true) h refl
    single_star (Trees.Attribute e x c) f h g = given (λ z. not (is_starred z) ≡ true) h refl
    single_star (Trees.Subscript e s c) f h g = given (λ z. not (is_starred z) ≡ true) h refl
    single_star (Trees.Tuple es c) f h g = let w = mapped_is (λ fs. Trees.Tuple fs Store) (all_stored es) f h in
        subst (λ z. not (is_starred z) ≡ true) w.2 refl
    single_star (Trees.ListOf es c) f h g = let w = mapped_is (λ fs. Trees.ListOf fs Store) (all_stored es) f h in
        subst (λ z. not (is_starred z) ≡ true) w.2 refl
    single_star (Trees.Starred e c) f h g = absurd (cc)
    single_star _ f h g = absurd (cc)

  pub single_fits : (e s : Expr) → single_stored e ≡ Some s → fits_at n Primary e ≡ true → (is_single s && fits_target n Store s) ≡ true
  single_fits (Trees.Name x c) s h f = given (λ z. (is_single z && fits_target n Store z) ≡ true) h
      (and_parts (is_context Load c) (n.name x) f).1
  single_fits (Trees.Attribute e x c) s h f = let w = parts3 (is_context Load c) (n.name x) (fits_at n Expression e) f in
      given (λ z. (is_single z && fits_target n Store z) ≡ true) h (and_from (n.name x) (fits_at n Expression e) w.1 w.2)
  single_fits (Trees.Subscript e i c) s h f = let w = parts3 (is_context Load c) (fits_at n Expression e) (fits_at n Slices i) f in
      given (λ z. (is_single z && fits_target n Store z) ≡ true) h (and_from (fits_at n Expression e) (fits_at n Slices i) w.1 w.2)
  single_fits _ s h f = absurd (cc)

  mutual
    pub deleted_fits : (t s : Expr) → deleted t ≡ Some s → fits_at n Elem t ≡ true → fits_target n Del s ≡ true
    deleted_fits (Trees.Name x c) s h f = given (λ z. fits_target n Del z ≡ true) h (and_parts (is_context Load c) (n.name x) f).1
    deleted_fits (Trees.Attribute e x c) s h f = let w = parts3 (is_context Load c) (n.name x) (fits_at n Expression e) f in
        given (λ z. fits_target n Del z ≡ true) h (and_from (n.name x) (fits_at n Expression e) w.1 w.2)
    deleted_fits (Trees.Subscript e i c) s h f = let w = parts3 (is_context Load c) (fits_at n Expression e) (fits_at n Slices i) f in
        given (λ z. fits_target n Del z ≡ true) h (and_from (fits_at n Expression e) (fits_at n Slices i) w.1 w.2)
    deleted_fits (Trees.Tuple es c) s h f = let w = mapped_is (λ fs. Trees.Tuple fs Del) (all_deleted es) s h in
        subst (λ z. fits_target n Del z ≡ true) w.2 (all_deleted_fit es w.0 w.1 (and_parts (is_context Load c) (each_fits n Elem es) f).1)
    deleted_fits (Trees.ListOf es c) s h f = let w = mapped_is (λ fs. Trees.ListOf fs Del) (all_deleted es) s h in
        subst (λ z. fits_target n Del z ≡ true) w.2 (all_deleted_fit es w.0 w.1 (and_parts (is_context Load c) (each_fits n Elem es) f).1)
    deleted_fits _ s h f = absurd (cc)

    all_deleted_fit : (es fs : Exprs) → all_deleted es ≡ Some fs → each_fits n Elem es ≡ true → each_target_fits n Del fs ≡ true
    all_deleted_fit no_exprs fs h f = given (λ z. each_target_fits n Del z ≡ true) h refl
    all_deleted_fit (an_expr e es) fs h f =
        let w = both_is (deleted e) (all_deleted es) fs h in
        let u = and_parts (fits_at n Elem e) (each_fits n Elem es) f in
        subst (λ z. each_target_fits n Del z ≡ true) w.4 (and_from (fits_target n Del w.0) (each_target_fits n Del w.1)
        (deleted_fits e w.0 w.2 u.0) (all_deleted_fit es w.1 w.3 u.1))
