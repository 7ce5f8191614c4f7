-- Places in statements: targets, parameters, the bases of a class.
--
-- Carries: target_law, single_target_law, del_target_law, item_target_law and 2 more, for Shortest.
-- On: Calls, Clauses, Reach, Claims and 4 more.
use Rattle.std.proofs.Common.{◌≡◌, refl, sym, ap, subst, ◌∙◌, ◌≤◌, List, [], ◌∷◌, ◌++◌, Some, Bool, true, false}
use Rattle.std.specs.Prelude.{map}
use Rattle.pylex_lexeme.specs.declared.kinds.Exact.TheVariants.{LSqb, RSqb, Comma, Star}
use Rattle.pytree_node.specs.declared.operators.Context.TheVariants.{Load, Store, Del}
use Rattle.pygrammar.specs.declared.levels.Level.{Level}
use Rattle.pygrammar.specs.declared.levels.Level.TheVariants.{Stars, Named, Expression, Primary, Elem}
use Rattle.pytree_node.specs.Trees
use Rattle.pytree_node.specs.Trees.{Expr, Exprs, no_exprs, an_expr, Arguments}
use Rattle.pytoken.specs.Terminals.{Terminal, Op}
use Rattle.pygrammar.specs.Entries.{Argument, Parameter, Entry}
use Rattle.pygrammar.specs.Arguments.{in_order, positional, keywords}
use Rattle.pygrammar.specs.Parameters.{arranged}
use Rattle.pygrammar.specs.Targets.{stored, all_stored, deleted, all_deleted, single_stored}
use Rattle.pygrammar.specs.OpenStrings.{token_count}
use Rattle.pygrammar.specs.Grammar as G
use Rattle.pyunparse_text.specs.Written.{Maker, separated, leading, enclosed, listed, written, each, by_name, parameters}
use Rattle.pyunparse_text.specs.Terminals.{terminal}
use Rattle.pyunparse_text.specs.Statements.{item_target}
use Rattle.pyunparse_text.proofs.Fewest.Counted.{one, AtLeast, token, fewer}
use Rattle.pyunparse_text.proofs.Fewest.Sizes as Sizes
use Rattle.pyunparse_text.proofs.Fewest.Sizes.{Same, same, no_more, listed_same, append_same, same_each, same_by_name, same_parameters}
use Rattle.pyunparse_text.proofs.Fewest.Reach.{fit_as_is, deep_primary, expression_primary}
use Rattle.pyunparse_text.proofs.Fewest.Less.{allowed}
use Rattle.pyunparse_text.proofs.Fewest.Claims.{given, here}
use Rattle.pyunparse_text.proofs.Fewest.Entries.{entry_in, listing_of}
use Rattle.pyunparse_text.proofs.Fewest.Clauses.{mapped_is, both_is, star_stored, stored_same, SameClass, SameList, same_grown, tuple_same}
use Rattle.pyunparse_text.proofs.Fewest.Calls.{sorted, sorted_in_order, sorted_positional, sorted_keywords, sorted_written, sorted_short}
use Rattle.pyunparse_text.proofs.Fewest.Calls.{appended}
use Rattle.pyunparse_text.proofs.Fewest.Calls.{firsts_standing, lasts_standing}
use Rattle.pyunparse_text.proofs.Fewest.Arranged.{parameters_are}
use Rattle.pyunparse_text.proofs.Fewest.Induction.{claim, listing}

pub target_law : {ts : List Terminal} {s : Expr} → G.Target ts s
    → G.Target (written terminal Stars s) s × (token_count (written terminal Stars s) ≤ token_count ts)
target_law {ts} (G.target {e = e} {s = s} p h) =
    let c = claim p in (
      subst (λ z. G.Target z s) (stored_same terminal e s h Stars) (G.target (here c) h),
      no_more (same Stars s)
          (subst (λ z. AtLeast z ts) (stored_same one e s h Stars) c.short),
    )

single_same : {A : Type 0} (make : Maker A) (e s : Expr) → single_stored e ≡ Some s → (l : Level) → written make l e ≡ written make l s
unfolding written
single_same make (Trees.Name x c) s h l = given (λ z. written make l (Trees.Name x c) ≡ written make l z) h refl
single_same make (Trees.Attribute e x c) s h l = given (λ z. written make l (Trees.Attribute e x c) ≡ written make l z) h refl
single_same make (Trees.Subscript e i c) s h l = given (λ z. written make l (Trees.Subscript e i c) ≡ written make l z) h refl
single_same make _ s h l = absurd (cc)

pub single_target_law : {ts : List Terminal} {s : Expr} → G.SingleTarget ts s
    → G.SingleTarget (written terminal Primary s) s × (token_count (written terminal Primary s) ≤ token_count ts)
single_target_law {ts} (G.single_target {e = e} {s = s} p h) =
    let c = claim p in (
      subst (λ z. G.SingleTarget z s) (single_same terminal e s h Primary) (G.single_target (here c) h),
      no_more (same Primary s)
          (subst (λ z. AtLeast z ts) (single_same one e s h Primary) c.short),
    )

deleted_class : (e f : Expr) → deleted e ≡ Some f → SameClass e f
deleted_class (Trees.Name x c) f h = given (SameClass (Trees.Name x c)) h (record { named = refl; starred = refl })
deleted_class (Trees.Attribute e x c) f h = given (SameClass (Trees.Attribute e x c)) h (record { named = refl; starred = refl })
deleted_class (Trees.Subscript e s c) f h = given (SameClass (Trees.Subscript e s c)) h (record { named = refl; starred = refl })
deleted_class (Trees.Tuple es c) f h = let w = mapped_is (λ fs. Trees.Tuple fs Del) (all_deleted es) f h in
    subst (SameClass (Trees.Tuple es c)) w.2 (record { named = refl; starred = refl })
deleted_class (Trees.ListOf es c) f h = let w = mapped_is (λ fs. Trees.ListOf fs Del) (all_deleted es) f h in
    subst (SameClass (Trees.ListOf es c)) w.2 (record { named = refl; starred = refl })
deleted_class _ f h = absurd (cc)

module _ {A : Type 0} (make : Maker A) where
  mutual
    unfolding written each

    pub deleted_same : (t s : Expr) → deleted t ≡ Some s → (l : Level) → written make l t ≡ written make l s
    deleted_same (Trees.Name x c) s h l = given (λ z. written make l (Trees.Name x c) ≡ written make l z) h refl
    deleted_same (Trees.Attribute e x c) s h l = given (λ z. written make l (Trees.Attribute e x c) ≡ written make l z) h refl
    deleted_same (Trees.Subscript e i c) s h l = given (λ z. written make l (Trees.Subscript e i c) ≡ written make l z) h refl
    deleted_same (Trees.Tuple es c) s h l = let w = mapped_is (λ fs. Trees.Tuple fs Del) (all_deleted es) s h in
        tuple_same make l es w.0 (all_same es w.0 w.1) ∙ ap (written make l) w.2
    deleted_same (Trees.ListOf es c) s h l = let w = mapped_is (λ fs. Trees.ListOf fs Del) (all_deleted es) s h in
        ap (λ z. enclosed make (leading make LSqb) RSqb (listed make z)) ((all_same es w.0 w.1).pieces_same Elem) ∙ ap (written make l) w.2
    deleted_same _ s h l = absurd (cc)

    all_same : (es fs : Exprs) → all_deleted es ≡ Some fs → SameList make es fs
    all_same no_exprs fs h = given (SameList make no_exprs) h (record { pieces_same = λ l. refl; named = refl; lone = refl; empty = refl })
    all_same (an_expr e es) fs h = let w = both_is (deleted e) (all_deleted es) fs h in
        subst (SameList make (an_expr e es)) w.4 (same_grown make e w.0 es w.1 (λ l. deleted_same e w.0 w.2 l)
        (deleted_class e w.0 w.2) (all_same es w.1 w.3))

pub del_target_law : {ts : List Terminal} {s : Expr} → G.DelTarget ts s
    → G.DelTarget (written terminal Expression s) s × (token_count (written terminal Expression s) ≤ token_count ts)
del_target_law {ts} (G.del_target {e = e} {s = s} p h) =
    let c = claim p in (
      subst (λ z. G.DelTarget z s) (deleted_same terminal e s h Expression) (G.del_target (here c) h),
      no_more (same Expression s)
          (subst (λ z. AtLeast z ts) (deleted_same one e s h Expression) c.short),
    )

-- a `with` item's target: at Named a star's value is an Expression, and all
-- else is as at Expression
module _ {A : Type 0} (make : Maker A) where
  named_expression : (e s : Expr) → stored e ≡ Some s → allowed Expression e ≡ true → written make Expression e ≡ written make Named e
  unfolding written
  named_expression (Trees.Name x c) s h a = refl
  named_expression (Trees.Attribute e x c) s h a =
      fit_as_is make Expression Primary _ expression_primary ∙ sym (fit_as_is make Named Primary _ deep_primary.named)
  named_expression (Trees.Subscript e i c) s h a =
      fit_as_is make Expression Primary _ expression_primary ∙ sym (fit_as_is make Named Primary _ deep_primary.named)
  named_expression (Trees.Tuple es c) s h a = refl
  named_expression (Trees.ListOf es c) s h a = refl
  named_expression (Trees.Starred e c) s h a = absurd (cc)
  named_expression _ s h a = absurd (cc)

  target_is : (e s : Expr) → stored e ≡ Some s → written make Named s ≡ item_target make s
  unfolding written
  target_is (Trees.Name x c) s h = given (λ z. written make Named z ≡ item_target make z) h refl
  target_is (Trees.Attribute e x c) s h =
      given (λ z. written make Named z ≡ item_target make z) h
      (fit_as_is make Named Primary _ deep_primary.named ∙ sym (fit_as_is make Expression Primary _ expression_primary))
  target_is (Trees.Subscript e i c) s h =
      given (λ z. written make Named z ≡ item_target make z) h
      (fit_as_is make Named Primary _ deep_primary.named ∙ sym (fit_as_is make Expression Primary _ expression_primary))
  target_is (Trees.Tuple es c) s h = let w = mapped_is (λ fs. Trees.Tuple fs Store) (all_stored es) s h in
      subst (λ z. written make Named z ≡ item_target make z) w.2 refl
  target_is (Trees.ListOf es c) s h = let w = mapped_is (λ fs. Trees.ListOf fs Store) (all_stored es) s h in
      subst (λ z. written make Named z ≡ item_target make z) w.2 refl
  target_is (Trees.Starred e c) s h = let w = star_stored e c s h in subst (λ z. written make Named z ≡ item_target make z) w.2 refl
  target_is _ s h = absurd (cc)

item_same : (s : Expr) → Same (item_target one s) (item_target terminal s)
item_same (Trees.Starred e c) = Sizes.token refl (same Expression e)
item_same e = same Expression e

pub item_target_law : {ts : List Terminal} {s : Expr} → G.ItemTarget ts s
    → G.ItemTarget (item_target terminal s) s × (token_count (item_target terminal s) ≤ token_count ts)
unfolding written
item_target_law {ts} (G.item_target {e = e} {s = s} p h) =
    let c = claim p in
    let q = named_expression terminal e s h c.place ∙ (stored_same terminal e s h Named ∙ target_is terminal e s h) in
    let r = named_expression one e s h c.place ∙ (stored_same one e s h Named ∙ target_is one e s h) in
    (subst (λ z. G.ItemTarget z s) q (G.item_target (here c) h), no_more (item_same s) (subst (λ z. AtLeast z ts) r c.short))
item_target_law {ts} (G.star_target {ts = us} {e = e} {s = s} p h) =
    let c = claim p in
    let q = stored_same terminal (Trees.Starred e Load) s h Named ∙ target_is terminal (Trees.Starred e Load) s h in
    let r = stored_same one (Trees.Starred e Load) s h Named ∙ target_is one (Trees.Starred e Load) s h in (
      subst (λ z. G.ItemTarget z s) q (G.star_target (here c) h),
      no_more (item_same s) (subst (λ z. AtLeast z (Op Star ∷ us)) r (token refl c.short)),
    )

-- parameters, with or without annotations
same_entries : {A : Type 0} (make : Maker A) (b : Bool) (es : List Entry)
    → map (entry_in make (Parameter b)) es ≡ map (entry_in make (Parameter false)) es
same_entries make b [] = refl
same_entries make b (e ∷ es) = ap (λ z. entry_in make (Parameter false) e ∷ z) (same_entries make b es)

pub parameters_law : {b : Bool} {ts : List Terminal} {ps : List Entry} {a : Arguments}
    → G.Listing (Parameter b) ts ps → arranged ps ≡ Some a
    → G.Listing (Parameter b) (separated (Op Comma) (parameters terminal a)) ps ×
    (token_count (separated (Op Comma) (parameters terminal a)) ≤ token_count ts)
parameters_law {b} {ts} {ps} {a} p h =
    let c = listing p in
    let q = ap (separated (Op Comma)) (same_entries terminal b ps ∙ sym (parameters_are terminal ps a h)) in
    let r = ap (separated tt) (same_entries one b ps ∙ sym (parameters_are one ps a h)) in (
      subst (λ z. G.Listing (Parameter b) z ps) q (listing_of c.standing),
      no_more (listed_same (same_parameters a))
          (subst (λ z. AtLeast z ts) r c.short),
    )

-- the arguments of a class: those of a call, in the order in which they are written terminal, and
-- no exception for a generator
pub bases_law : {us : List Terminal} {es : List Entry} → G.Listing Argument us es →
    (fs : List Entry) × G.Listing Argument (separated (Op Comma)
    (each terminal Named (positional es) ++ by_name terminal (keywords es))) fs × (in_order false false fs ≡ true) ×
    (positional fs ≡ positional es) × (keywords fs ≡ keywords es) ×
    (token_count (separated (Op Comma) (each terminal Named (positional es) ++ by_name terminal (keywords es))) ≤ token_count us)
bases_law {us} {es} p =
    let c = listing p in
    let q = sym (sorted_written terminal es) in
    let r = sym (sorted_written one es) in (
      sorted es,
      subst (λ z. G.Listing Argument (separated (Op Comma) z)
          (sorted es)) q (listing_of (appended (firsts_standing c.standing)
          (lasts_standing c.standing))),
      sorted_in_order es es,
      sorted_positional es es,
      sorted_keywords es es,
      no_more (listed_same (append_same (same_each Named (positional es)) (same_by_name (keywords es))))
          (subst (λ z. AtLeast (separated tt z) us) r (fewer (sorted_short es) c.short)),
    )
