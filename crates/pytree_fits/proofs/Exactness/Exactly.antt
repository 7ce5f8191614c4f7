-- Carries: the laws of the slots. On: expressions, targets, parameters and arguments fit
-- exactly where they are given.
use Rattle.std.proofs.Common.{◌≡◌, refl, ap, subst, List, [], ◌∷◌, Some, Bool, true, false, option_map}
use Rattle.std.specs.Prelude.{not, ◌&&◌}
use Rattle.std.proofs.lemmas.Bool.{and_parts, and_from, not-true}
use Rattle.pylex_lexeme.specs.declared.kinds.Exact.TheVariants.{Star}
use Rattle.pytree_node.specs.declared.operators.Context.TheVariants.{Load, Store, Del}
use Rattle.pytree_node.specs.Trees
use Rattle.pytree_node.specs.Trees.{Identifier, Expr, Exprs, no_exprs, an_expr, absent, present, Keywords, Arg, arg, Args, no_arg, an_arg}
use Rattle.pytree_node.specs.Trees.{OptionalArg, absent_arg, present_arg, Arguments, arguments}
use Rattle.pytoken.specs.Terminals.{Terminal, Op}
use Rattle.pygrammar.specs.declared.levels.Level.TheVariants.{Stars, StarItem, Expression, Primary, Elem, Slices}
use Rattle.pygrammar.specs.Arguments.{positional, keywords}
use Rattle.pygrammar.specs.Targets.{deleted, all_deleted, single_stored}
use Rattle.pygrammar.specs.Grammar as G
use Rattle.pygrammar.specs.ArgumentLists.{IsArranged, AreArguments}
use Rattle.pytree_fits.specs.Tests.{Tests}
use Rattle.pytree_fits.specs.Slots.{is_context, is_starred, is_single, fits_at, fits_target, each_target_fits, each_fits, each_keyword_fits}
use Rattle.pytree_fits.specs.Slots.{fits_arguments, arg_fits, each_arg_fits, perhaps_arg_fits}
use Rattle.pytree_fits.specs.Given.{all_pass}
use Rattle.pytree_fits.proofs.Fields.Standing.{outside}
use Rattle.pytree_fits.proofs.Fields.AsSpelled.{Passed, GivenAsSpelled, all_passing}
use Rattle.pytree_fits.specs.Laws.{FitsExactly, TargetsFitExactly, ParametersFitExactly, ArgumentsFitExactly}
use Rattle.pytree_fits.proofs.Fields.Tests.{parts3, never, in_context, both_some}
use Rattle.pytree_fits.proofs.Fields.Levels.{anywhere}
use Rattle.pytree_fits.proofs.Fields.Entries.{positional_fit, keywords_fit}
use Rattle.pytree_fits.proofs.Fields.Arranging.{fit_parts, arranged_fit}
use Rattle.pytree_fits.proofs.Fitting.Fits.{slots, target_fits, single_target_fits, del_target_fits, item_target_fits}
use Rattle.pytree_fits.proofs.Fitting.Fits as Fits
use Rattle.pytree_fits.proofs.Giving.Making.{listing}
use Rattle.pytree_fits.proofs.Giving.Calls.{star_up, listed}
use Rattle.pytree_fits.proofs.Giving.Parameters.{ArgMade, bare, noted, ArgsMade, no_args, more_args, OptionalArgMade, none_made, one_made}
use Rattle.pytree_fits.proofs.Giving.Parameters.{StarArgMade, unstarred, starred, arrangement}
use Rattle.pytree_fits.proofs.Giving.Gives as Gives
use Rattle.pytree_fits.proofs.Giving.Gives.{made, a_target, each, keys, labelled}

pub fits_exactly : FitsExactly
fits_exactly n l e = (λ w. slots (outside n) w.2 w.1, λ h. let w = made (outside n) l e h in (w.0, all_passing n w.0 w.1, w.2))

module _ (n : Tests) where
  -- ---- Targets.

  pub target_given : (s : Expr) → fits_target n Store s ≡ true → GivenAsSpelled (outside n) G.Target s
  target_given s h =
      let a = a_target (outside n) s h in
      let u = a.given Stars refl in
      (u.0, u.1, G.target u.2 a.is)

  single_from : (e s : Expr) → single_stored e ≡ Some s → fits_at n Primary e ≡ true → GivenAsSpelled (outside n) G.SingleTarget s
  single_from e s h f = let u = made (outside n) Primary e f in (u.0, u.1, G.single_target u.2 h)

  pub single_given : (s : Expr) → (is_single s && fits_target n Store s) ≡ true → GivenAsSpelled (outside n) G.SingleTarget s
  single_given (Trees.Name x c) h = let w = and_parts (is_context Store c) (n.name x) h in
      in_context (λ k. GivenAsSpelled (outside n) G.SingleTarget (Trees.Name x k)) Store c w.0
      (single_from (Trees.Name x Load) (Trees.Name x Store) refl w.1)
  single_given (Trees.Attribute e x c) h = let w = parts3 (is_context Store c) (n.name x) (fits_at n Expression e) h in
      in_context (λ k. GivenAsSpelled (outside n) G.SingleTarget (Trees.Attribute e x k)) Store c w.0
      (single_from (Trees.Attribute e x Load) (Trees.Attribute e x Store) refl (and_from (n.name x) (fits_at n Expression e) w.1 w.2))
  single_given (Trees.Subscript e i c) h = let w = parts3 (is_context Store c) (fits_at n Expression e) (fits_at n Slices i) h in
      in_context (λ k. GivenAsSpelled (outside n) G.SingleTarget (Trees.Subscript e i k)) Store c w.0
      (single_from (Trees.Subscript e i Load) (Trees.Subscript e i Store) refl
      (and_from (fits_at n Expression e) (fits_at n Slices i) w.1 w.2))
  single_given _ h = absurd (cc)

  mutual
    undeleted : (s : Expr) → fits_target n Del s ≡ true → (t : Expr) × (deleted t ≡ Some s) × (fits_at n Expression t ≡ true)
    undeleted (Trees.Name x c) h = let w = and_parts (is_context Del c) (n.name x) h in
        in_context (λ k. (t : Expr) × (deleted t ≡ Some (Trees.Name x k)) × (fits_at n Expression t ≡ true)) Del c w.0
        (Trees.Name x Load, refl, w.1)
    undeleted (Trees.Attribute e x c) h = let w = parts3 (is_context Del c) (n.name x) (fits_at n Expression e) h in
        in_context (λ k. (t : Expr) × (deleted t ≡ Some (Trees.Attribute e x k)) × (fits_at n Expression t ≡ true)) Del c w.0
        (Trees.Attribute e x Load, refl, and_from (n.name x) (fits_at n Expression e) w.1 w.2)
    undeleted (Trees.Subscript e i c) h = let w = parts3 (is_context Del c) (fits_at n Expression e) (fits_at n Slices i) h in
        in_context (λ k. (t : Expr) × (deleted t ≡ Some (Trees.Subscript e i k)) × (fits_at n Expression t ≡ true)) Del c w.0
        (Trees.Subscript e i Load, refl, and_from (fits_at n Expression e) (fits_at n Slices i) w.1 w.2)
    undeleted (Trees.Tuple es c) h =
        let w = and_parts (is_context Del c) (each_target_fits n Del es) h in
        let u = all_undeleted es w.1 in
        in_context (λ k. (t : Expr) × (deleted t ≡ Some (Trees.Tuple es k)) × (fits_at n Expression t ≡ true)) Del c w.0
        (Trees.Tuple u.0 Load, ap (option_map (λ fs. Trees.Tuple fs Del)) u.1, u.2)
    undeleted (Trees.ListOf es c) h =
        let w = and_parts (is_context Del c) (each_target_fits n Del es) h in
        let u = all_undeleted es w.1 in
        in_context (λ k. (t : Expr) × (deleted t ≡ Some (Trees.ListOf es k)) × (fits_at n Expression t ≡ true)) Del c w.0
        (Trees.ListOf u.0 Load, ap (option_map (λ fs. Trees.ListOf fs Del)) u.1, u.2)
    undeleted _ h = absurd (cc)

    all_undeleted : (es : Exprs) → each_target_fits n Del es ≡ true
        → (ts : Exprs) × (all_deleted ts ≡ Some es) × (each_fits n Elem ts ≡ true)
    all_undeleted no_exprs h = (no_exprs, refl, refl)
    all_undeleted (an_expr e es) h =
        let w = and_parts (fits_target n Del e) (each_target_fits n Del es) h in
        let u = undeleted e w.0 in
        let v = all_undeleted es w.1 in (
          an_expr u.0 v.0,
          both_some (deleted u.0) (all_deleted v.0) e es u.1 v.1,
          and_from (fits_at n Elem u.0) (each_fits n Elem v.0)
              (anywhere n Expression Elem u.0 refl u.2) v.2,
        )

  pub del_target_given : (s : Expr) → fits_target n Del s ≡ true → GivenAsSpelled (outside n) G.DelTarget s
  del_target_given s h =
      let u = undeleted s h in
      let w = made (outside n) Expression u.0 u.2 in
      (w.0, w.1, G.del_target w.2 u.1)

  item_from : (s : Expr) → is_starred s ≡ false → fits_target n Store s ≡ true → GivenAsSpelled (outside n) G.ItemTarget s
  item_from s b h =
      let a = a_target (outside n) s h in
      let u = (a.bare b).0 Expression in
      (u.0, u.1, G.item_target u.2 a.is)

  pub item_target_given : (s : Expr) → fits_target n Store s ≡ true → GivenAsSpelled (outside n) G.ItemTarget s
  item_target_given (Trees.Starred e c) h =
      let w = parts3 (is_context Store c) (not (is_starred e)) (fits_target n Store e) h in
      let a = a_target (outside n) e w.2 in
      let b = a.bare (not-true (is_starred e) w.1) in
      let u = b.0 Expression in
      in_context (λ k. GivenAsSpelled (outside n) G.ItemTarget (Trees.Starred e k)) Store c w.0 (
        Op Star ∷ u.0,
        u.1,
        G.star_target u.2 (star_up a.tree e b.1 a.is),
      )
  item_target_given (Trees.Name x c) h = item_from (Trees.Name x c) refl h
  item_target_given (Trees.Attribute e x c) h = item_from (Trees.Attribute e x c) refl h
  item_target_given (Trees.Subscript e s c) h = item_from (Trees.Subscript e s c) refl h
  item_target_given (Trees.Tuple es c) h = item_from (Trees.Tuple es c) refl h
  item_target_given (Trees.ListOf es c) h = item_from (Trees.ListOf es c) refl h
  item_target_given _ h = absurd (never h)

  -- ---- Parameters.

  noted_arg : (b : Bool) (a : Arg) → arg_fits n b Expression a ≡ true → ArgMade (outside n) b a
  noted_arg b (arg x absent) h = bare (parts3 (n.name x) true true h).0
  noted_arg b (arg x (present e)) h = let w = parts3 (n.name x) b (fits_at n Expression e) h in
      noted w.0 w.1 (made (outside n) Expression e w.2)

  noted_args : (b : Bool) (xs : Args) → each_arg_fits n b xs ≡ true → ArgsMade (outside n) b xs
  noted_args b no_arg h = no_args
  noted_args b (an_arg a rest) h = let w = and_parts (arg_fits n b Expression a) (each_arg_fits n b rest) h in
      more_args (noted_arg b a w.0) (noted_args b rest w.1)

  noted_optional : (b : Bool) (a : OptionalArg) → perhaps_arg_fits n b Expression a ≡ true → OptionalArgMade (outside n) b a
  noted_optional b absent_arg h = none_made
  noted_optional b (present_arg a) h = one_made (noted_arg b a h)

  at_expression : (e : Expr) → is_starred e ≡ false → fits_at n StarItem e ≡ true → fits_at n Expression e ≡ true
  at_expression (Trees.Starred e c) q h = absurd (cc)
  at_expression (Trees.Slice a b c) q h = h
  at_expression (Trees.Tuple es c) q h = h
  at_expression _ q h = h

  star_noted : (b : Bool) (x : Identifier) (e : Expr) → n.name x ≡ true → b ≡ true → fits_at n StarItem e ≡ true
      → StarArgMade (outside n) b (present_arg (arg x (present e)))
  star_noted b x (Trees.Starred e c) p q h =
      let w = and_parts (is_context Load c) (fits_at n Expression e) h in
      in_context (λ k. StarArgMade (outside n) b (present_arg (arg x (present (Trees.Starred e k))))) Load c w.0
      (starred p q (made (outside n) Expression e w.1))
  star_noted b x (Trees.Slice a c d) p q h = absurd (never h)
  star_noted b x e p q h = unstarred (one_made (noted p q (made (outside n) Expression e (at_expression e refl h))))

  star_arg : (b : Bool) (v : OptionalArg) → perhaps_arg_fits n b StarItem v ≡ true → StarArgMade (outside n) b v
  star_arg b absent_arg h = unstarred none_made
  star_arg b (present_arg (arg x absent)) h = unstarred (one_made (bare (parts3 (n.name x) true true h).0))
  star_arg b (present_arg (arg x (present e))) h = let w = parts3 (n.name x) b (fits_at n StarItem e) h in star_noted b x e w.0 w.1 w.2

  pub parameters_given : (b : Bool) (a : Arguments) → fits_arguments n b a ≡ true → GivenAsSpelled (outside n) (IsArranged b) a
  parameters_given b (arguments ps qs v ks ds k es) h =
      let p = fit_parts n b (arguments ps qs v ks ds k es) h in
      let w = arrangement (outside n) b ps qs v ks ds k es (noted_args b ps p.before) (noted_args b qs p.middle) (star_arg b v p.star)
      (noted_args b ks p.only)
      (keys (outside n) ds p.only_defaults) (noted_optional b k p.double) (each (outside n) Expression es p.defaults) p.even p.few in
      let u = listing (outside n) w.pieces in
      (u.0, u.1, record { entries = w.list; listing = u.2; arranged_as = w.is })

  -- ---- Arguments.

  pub arguments_fit : (zs : Exprs) (ks : Keywords) {ts : List Terminal} → AreArguments ts (zs, ks) → all_pass n [] ts ≡ true
      → (each_fits n Elem zs && each_keyword_fits n ks) ≡ true
  arguments_fit zs ks a s =
      let q = Fits.listing (outside n) a.listing s in
      subst (λ z. (each_fits n Elem z && each_keyword_fits n ks) ≡ true) a.positional_are
      (subst (λ z. (each_fits n Elem (positional a.entries) && each_keyword_fits n z) ≡ true) a.keywords_are
      (and_from (each_fits n Elem (positional a.entries)) (each_keyword_fits n (keywords a.entries)) (positional_fit n a.entries q)
      (keywords_fit n a.entries q)))

  pub arguments_given : (zs : Exprs) (ks : Keywords) → (each_fits n Elem zs && each_keyword_fits n ks) ≡ true
      → (ts : List Terminal) × Passed (outside n) ts × AreArguments ts (zs, ks)
  arguments_given zs ks h =
      let w = and_parts (each_fits n Elem zs) (each_keyword_fits n ks) h in
      let l = listed (outside n) (Gives.positional (outside n) zs w.0) (labelled (outside n) ks w.1) in
      let u = listing (outside n) l.pieces in (
        u.0,
        u.1,
        record {
          entries = l.list;
          listing = u.2;
          order = l.order;
          positional_are = l.positional_are;
          keywords_are = l.keywords_are;
        },
      )

pub targets_fit_exactly : TargetsFitExactly
targets_fit_exactly n s = record {
  target = (λ w. target_fits n w.2 w.1, λ h. let w = target_given n s h in (w.0, all_passing n w.0 w.1, w.2));
  single = (λ w. single_target_fits n w.2 w.1, λ h. let w = single_given n s h in (w.0, all_passing n w.0 w.1, w.2));
  del = (λ w. del_target_fits n w.2 w.1, λ h. let w = del_target_given n s h in (w.0, all_passing n w.0 w.1, w.2));
  item = (λ w. item_target_fits n w.2 w.1, λ h. let w = item_target_given n s h in (w.0, all_passing n w.0 w.1, w.2));
}

pub parameters_fit_exactly : ParametersFitExactly
parameters_fit_exactly n b a = (
  λ w. arranged_fit n b w.2.entries a (Fits.listing (outside n) w.2.listing w.1) w.2.arranged_as,
  λ h. let w =
      parameters_given n b a h in (w.0, all_passing n w.0 w.1, w.2),
)

pub arguments_fit_exactly : ArgumentsFitExactly
arguments_fit_exactly n zs ks = (
  λ w. arguments_fit n zs ks w.2 w.1,
  λ h. let w = arguments_given n zs ks h in
      (w.0, all_passing n w.0 w.1, w.2),
)
