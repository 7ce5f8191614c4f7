-- Contexts and the order of arguments and parameters leave heights as they are.
--
-- Carries: arranged_height, called_height, deleted_height, single_height and 3 more, for Entries
-- and the bound of patterns.
use Rattle.std.proofs.Common.{◌≡◌, refl, sym, ap, ◌∙◌, ℕ, ◌+◌, arith, List, [], ◌∷◌, Option, Some, None, Bool, true, false, cond}
use Rattle.std.proofs.Common.{option_map}
use Rattle.std.specs.Prelude.{max}
use Rattle.std.proofs.lemmas.Option.{same_Some}
use Rattle.pytree_node.specs.declared.operators.Context.{Context}
use Rattle.pytree_node.specs.declared.operators.Context.TheVariants.{Store, Del}
use Rattle.pytree_node.specs.Trees
use Rattle.pytree_node.specs.Trees.{Expr, Exprs, no_exprs, an_expr, OptionalExpr, absent, present, Arg, Arguments, arguments}
use Rattle.pygrammar.specs.Targets.{both, stored, all_stored, deleted, all_deleted, single_stored}
use Rattle.pygrammar.specs.Entries.{Entry, Single, Spread, Doubled, Keyed, Plain, Slashed, Bare, Gathered, Collected}
use Rattle.pygrammar.specs.Arguments.{in_order, positional, keywords, called}
use Rattle.pygrammar.specs.Parameters.{arranged, at_star, after_star, plain_ones, before_slash, has_slash, with_kwarg, with_default}
use Rattle.pygrammar.specs.Parameters.{add_keyword_only, set_vararg, add_plain, add_before_slash, no_arguments}
use Rattle.pytree_height.specs.Heights.{height, heights, optional_height, keyword_heights, arg_height, arg_heights, optional_heights}
use Rattle.pytree_height.specs.Heights.{arguments_height, optional_arg_height}
use Rattle.pygrammar.specs.Inner.EntryHeights.{entries_height}

-- f keeps what n counts
pub mapped_keeps : {A B : Type 0} (f : A → B) (o : Option A) (b : B) (n : A → ℕ) (k : B → ℕ) (z : ℕ) → ((a : A) → o ≡ Some a → k (f a) ≡ z)
    → option_map f o ≡ Some b → k b ≡ z
mapped_keeps f None b n k z h q = absurd (cc)
mapped_keeps f (Some a) b n k z h q = ap k (sym (same_Some (f a) b q)) ∙ h a refl

star_height : (e : Expr) (c : Context) (s : Expr) → ((f : Expr) → stored e ≡ Some f → height f ≡ height e)
    → stored (Trees.Starred e c) ≡ Some s → height s ≡ height e + 1
star_height (Trees.Starred e d) c s f h = absurd (cc)
star_height e c s f h = mapped_keeps (λ g. Trees.Starred g Store) (stored e) s height height (height e + 1)
    (λ g q. ap (λ n. n + 1) (f g q)) h

both_height : (o : Option Expr) (p : Option Exprs) (fs : Exprs) (m n : ℕ) → ((s : Expr) → o ≡ Some s → height s ≡ m)
    → ((gs : Exprs) → p ≡ Some gs → heights gs ≡ n) → both o p ≡ Some fs → heights fs ≡ max m n
both_height None p fs m n f g h = absurd (cc)
both_height (Some e) None fs m n f g h = absurd (cc)
both_height (Some e) (Some es) fs m n f g h = ap heights (sym (same_Some (an_expr e es) fs h))
    ∙ (ap (λ z. max z (heights es)) (f e refl) ∙ ap (λ z. max m z) (g es refl))

mutual
  pub stored_height : (e s : Expr) → stored e ≡ Some s → height s ≡ height e
  stored_height (Trees.Name x c) s h = ap height (sym (same_Some (Trees.Name x Store) s h))
  stored_height (Trees.Attribute e x c) s h = ap height (sym (same_Some (Trees.Attribute e x Store) s h))
  stored_height (Trees.Subscript e i c) s h = ap height (sym (same_Some (Trees.Subscript e i Store) s h))
  stored_height (Trees.Tuple es c) s h = mapped_keeps (λ fs. Trees.Tuple fs Store) (all_stored es) s heights height (heights es + 1)
      (λ fs q. ap (λ n. n + 1) (all_height es fs q)) h
  stored_height (Trees.ListOf es c) s h = mapped_keeps (λ fs. Trees.ListOf fs Store) (all_stored es) s heights height (heights es + 1)
      (λ fs q. ap (λ n. n + 1) (all_height es fs q)) h
  stored_height (Trees.Starred e c) s h = star_height e c s (λ f q. stored_height e f q) h
  stored_height _ s h = absurd (cc)

  all_height : (es fs : Exprs) → all_stored es ≡ Some fs → heights fs ≡ heights es
  all_height no_exprs fs h = ap heights (sym (same_Some no_exprs fs h))
  all_height (an_expr e es) fs h = both_height (stored e) (all_stored es) fs (height e) (heights es) (λ s q. stored_height e s q)
      (λ gs q. all_height es gs q) h

mutual
  pub deleted_height : (e s : Expr) → deleted e ≡ Some s → height s ≡ height e
  deleted_height (Trees.Name x c) s h = ap height (sym (same_Some (Trees.Name x Del) s h))
  deleted_height (Trees.Attribute e x c) s h = ap height (sym (same_Some (Trees.Attribute e x Del) s h))
  deleted_height (Trees.Subscript e i c) s h = ap height (sym (same_Some (Trees.Subscript e i Del) s h))
  deleted_height (Trees.Tuple es c) s h = mapped_keeps (λ fs. Trees.Tuple fs Del) (all_deleted es) s heights height (heights es + 1)
      (λ fs q. ap (λ n. n + 1) (deleted_heights es fs q)) h
  deleted_height (Trees.ListOf es c) s h = mapped_keeps (λ fs. Trees.ListOf fs Del) (all_deleted es) s heights height (heights es + 1)
      (λ fs q. ap (λ n. n + 1) (deleted_heights es fs q)) h
  deleted_height _ s h = absurd (cc)

  deleted_heights : (es fs : Exprs) → all_deleted es ≡ Some fs → heights fs ≡ heights es
  deleted_heights no_exprs fs h = ap heights (sym (same_Some no_exprs fs h))
  deleted_heights (an_expr e es) fs h = both_height (deleted e) (all_deleted es) fs (height e) (heights es) (λ s q. deleted_height e s q)
      (λ gs q. deleted_heights es gs q) h

pub single_height : (e s : Expr) → single_stored e ≡ Some s → height s ≡ height e
single_height (Trees.Name x c) s h = ap height (sym (same_Some (Trees.Name x Store) s h))
single_height (Trees.Attribute e x c) s h = ap height (sym (same_Some (Trees.Attribute e x Store) s h))
single_height (Trees.Subscript e i c) s h = ap height (sym (same_Some (Trees.Subscript e i Store) s h))
single_height _ s h = absurd (cc)

-- arguments
pub ordered_height : (k d : Bool) (es : List Entry) → in_order k d es ≡ true → entries_height es ≡ max (heights (positional es))
    (keyword_heights (keywords es))
ordered_height k d [] h = omega arith
ordered_height false false (Single e ∷ es) h = omega (arith, ordered_height false false es h)
ordered_height false false (Spread e ∷ es) h = omega (arith, ordered_height false false es h)
ordered_height false false (Keyed x e ∷ es) h = omega (arith, ordered_height true false es h)
ordered_height false false (Doubled e ∷ es) h = omega (arith, ordered_height true true es h)
ordered_height false false (_ ∷ es) h = absurd (cc)
ordered_height false true (Single e ∷ es) h = omega (arith, ordered_height false true es h)
ordered_height false true (Spread e ∷ es) h = absurd (cc)
ordered_height false true (Keyed x e ∷ es) h = omega (arith, ordered_height true true es h)
ordered_height false true (Doubled e ∷ es) h = omega (arith, ordered_height true true es h)
ordered_height false true (_ ∷ es) h = absurd (cc)
ordered_height true false (Single e ∷ es) h = absurd (cc)
ordered_height true false (Spread e ∷ es) h = omega (arith, ordered_height true false es h)
ordered_height true false (Keyed x e ∷ es) h = omega (arith, ordered_height true false es h)
ordered_height true false (Doubled e ∷ es) h = omega (arith, ordered_height true true es h)
ordered_height true false (_ ∷ es) h = absurd (cc)
ordered_height true true (Single e ∷ es) h = absurd (cc)
ordered_height true true (Spread e ∷ es) h = absurd (cc)
ordered_height true true (Keyed x e ∷ es) h = omega (arith, ordered_height true true es h)
ordered_height true true (Doubled e ∷ es) h = omega (arith, ordered_height true true es h)
ordered_height true true (_ ∷ es) h = absurd (cc)

called_is : (b : Bool) (x e : Expr) → cond b (Some x) None ≡ Some e → (b ≡ true) × (x ≡ e)
called_is true x e h = (refl, same_Some x e h)
called_is false x e h = absurd (cc)

pub called_height : (f e : Expr) (es : List Entry) → called f es ≡ Some e → height e ≡ max (height f) (entries_height es) + 1
called_height f e es h =
    let z = called_is (in_order false false es) (Trees.Call f (positional es) (keywords es)) e h in
    ap height (sym z.1) ∙ ap (λ n. max (height f) n + 1) (sym (ordered_height false false es z.0))

-- the larger of several, in another order
pub swap : (a b c : ℕ) → max a (max b c) ≡ max b (max a c)
swap a b c = omega arith

regroup : (a b c : ℕ) → max (max a b) c ≡ max a (max b c)
regroup a b c = omega arith

-- what stands further in comes to the front
up : (x a r s : ℕ) → s ≡ max x r → max a s ≡ max x (max a r)
up x a r s h = ap (λ z. max a z) h ∙ swap a x r

beside : (x y a r s : ℕ) → s ≡ max x r → max (max y a) s ≡ max (max y x) (max a r)
beside x y a r s h = ap (λ z. max (max y a) z) h ∙ regroup y a (max x r) ∙ ap (λ z. max y z) (swap a x r) ∙ sym (regroup y x (max a r))

move_keyword : (d ds k kds ks p ps qs v : ℕ) → max ps (max qs (max v (max (max p ks) (max (max d kds) (max k ds))))) ≡ max (max p d)
    (max ps (max qs (max v (max ks (max kds (max k ds))))))
move_keyword d ds k kds ks p ps qs v =
    up (max p d) ps _ _ (up (max p d) qs _ _ (up (max p d) v _ _ (beside d p ks _ _ (regroup d kds (max k ds)))))

move_default : (d ds k kds ks v : ℕ) → max v (max ks (max kds (max k (max d ds)))) ≡ max d (max v (max ks (max kds (max k ds))))
move_default d ds k kds ks v = up d v _ _ (up d ks _ _ (up d kds _ _ (swap k d ds)))

move_plain : (d ds k kds ks p ps qs v : ℕ) → max ps (max (max p qs) (max v (max ks (max kds (max k (max d ds)))))) ≡ max (max p d)
    (max ps (max qs (max v (max ks (max kds (max k ds))))))
move_plain d ds k kds ks p ps qs v = up (max p d) ps _ _ (beside d p qs _ _ (move_default d ds k kds ks v))

move_slash : (d ds k kds ks p ps qs v : ℕ) → max (max p ps) (max qs (max v (max ks (max kds (max k (max d ds)))))) ≡ max (max p d)
    (max ps (max qs (max v (max ks (max kds (max k ds))))))
move_slash d ds k kds ks p ps qs v = beside d p ps _ _ (up d qs _ _ (move_default d ds k kds ks v))

zero_max : (p v : ℕ) → v ≡ 0 → p ≡ max p v
zero_max p v h = omega (arith, h)

move_vararg : (ps qs v ks kds k ds p : ℕ) → v ≡ 0 → max ps (max qs (max p (max ks (max kds (max k ds))))) ≡ max p
    (max ps (max qs (max v (max ks (max kds (max k ds))))))
move_vararg ps qs v ks kds k ds p h =
    up p ps _ _ (up p qs _ _ (ap (λ z. max z (max ks (max kds (max k ds)))) (zero_max p v h) ∙ regroup p v (max ks (max kds (max k ds)))))

-- parameters
vararg_height : Arguments → ℕ
vararg_height (arguments ps qs v ks kds k ds) = optional_arg_height v

pub keyword_only_height : (p : Arg) (d : OptionalExpr) (a : Arguments)
    → arguments_height (add_keyword_only p d a) ≡ max (max (arg_height p) (optional_height d)) (arguments_height a)
keyword_only_height p d (arguments ps qs v ks kds k ds) = move_keyword (optional_height d) (heights ds) (optional_arg_height k)
    (optional_heights kds) (arg_heights ks) (arg_height p) (arg_heights ps) (arg_heights qs) (optional_arg_height v)

default_height : (d : OptionalExpr) (ds : Exprs) → heights (with_default d ds) ≡ max (optional_height d) (heights ds)
default_height absent ds = omega arith
default_height (present d) ds = refl

pub plain_height : (p : Arg) (d : OptionalExpr) (a : Arguments)
    → arguments_height (add_plain p d a) ≡ max (max (arg_height p) (optional_height d)) (arguments_height a)
plain_height p d (arguments ps qs v ks kds k ds) =
    ap (λ z. max (arg_heights ps)
    (max (max (arg_height p) (arg_heights qs))
    (max (optional_arg_height v) (max (arg_heights ks) (max (optional_heights kds) (max (optional_arg_height k) z))))))
    (default_height d ds) ∙ move_plain (optional_height d) (heights ds) (optional_arg_height k) (optional_heights kds) (arg_heights ks)
    (arg_height p) (arg_heights ps) (arg_heights qs) (optional_arg_height v)

pub slash_height : (p : Arg) (d : OptionalExpr) (a : Arguments)
    → arguments_height (add_before_slash p d a) ≡ max (max (arg_height p) (optional_height d)) (arguments_height a)
slash_height p d (arguments ps qs v ks kds k ds) =
    ap (λ z. max (max (arg_height p) (arg_heights ps))
    (max (arg_heights qs)
    (max (optional_arg_height v) (max (arg_heights ks) (max (optional_heights kds) (max (optional_arg_height k) z))))))
    (default_height d ds) ∙ move_slash (optional_height d) (heights ds) (optional_arg_height k) (optional_heights kds) (arg_heights ks)
    (arg_height p) (arg_heights ps) (arg_heights qs) (optional_arg_height v)

add_vararg : (p : Arg) (d : OptionalExpr) (a : Arguments) → vararg_height (add_keyword_only p d a) ≡ vararg_height a
unfolding vararg_height
add_vararg p d (arguments ps qs v ks kds k ds) = refl

set_height : (p : Arg) (a : Arguments) → vararg_height a ≡ 0 → arguments_height (set_vararg p a) ≡ max (arg_height p) (arguments_height a)
unfolding vararg_height
set_height p (arguments ps qs v ks kds k ds) h = move_vararg (arg_heights ps) (arg_heights qs) (optional_arg_height v) (arg_heights ks)
    (optional_heights kds) (optional_arg_height k) (heights ds) (arg_height p) h

zero_vararg : vararg_height no_arguments ≡ 0
unfolding vararg_height
zero_vararg = refl

kwarg_vararg : (p : Arg) → vararg_height (with_kwarg p) ≡ 0
unfolding vararg_height
kwarg_vararg p = refl

pub kwarg_height : (p : Arg) → arguments_height (with_kwarg p) ≡ max (arg_height p) 0
kwarg_height p = omega arith

no_vararg : (es : List Entry) (a : Arguments) → after_star es ≡ Some a → vararg_height a ≡ 0
no_vararg [] a h = ap vararg_height (sym (same_Some no_arguments a h)) ∙ zero_vararg
no_vararg (Plain p d ∷ es) a h = mapped_keeps (add_keyword_only p d) (after_star es) a vararg_height vararg_height 0
    (λ b q. add_vararg p d b ∙ no_vararg es b q) h
no_vararg (Collected p ∷ []) a h = ap vararg_height (sym (same_Some (with_kwarg p) a h)) ∙ kwarg_vararg p
no_vararg (Collected p ∷ (x ∷ es)) a h = absurd (cc)
no_vararg (_ ∷ es) a h = absurd (cc)

after_height : (es : List Entry) (a : Arguments) → after_star es ≡ Some a → arguments_height a ≡ entries_height es
after_height [] a h = ap arguments_height (sym (same_Some no_arguments a h))
after_height (Plain p d ∷ es) a h = mapped_keeps (add_keyword_only p d) (after_star es) a arguments_height arguments_height
    (max (max (arg_height p) (optional_height d)) (entries_height es)) (λ b q. keyword_only_height p d b
    ∙ ap (λ n. max (max (arg_height p) (optional_height d)) n) (after_height es b q)) h
after_height (Collected p ∷ []) a h = ap arguments_height (sym (same_Some (with_kwarg p) a h)) ∙ kwarg_height p
after_height (Collected p ∷ (x ∷ es)) a h = absurd (cc)
after_height (_ ∷ es) a h = absurd (cc)

star_entries : (es : List Entry) (a : Arguments) → at_star es ≡ Some a → arguments_height a ≡ entries_height es
star_entries [] a h = ap arguments_height (sym (same_Some no_arguments a h))
star_entries (Gathered p ∷ es) a h = mapped_keeps (set_vararg p) (after_star es) a arguments_height arguments_height
    (max (arg_height p) (entries_height es)) (λ b q. set_height p b (no_vararg es b q)
    ∙ ap (λ n. max (arg_height p) n) (after_height es b q)) h
star_entries (Bare ∷ (Plain p d ∷ es)) a h = after_height (Plain p d ∷ es) a h ∙ bare (entries_height (Plain p d ∷ es))
  where
    bare : (n : ℕ) → n ≡ max 0 n
    bare n = omega arith
star_entries (Bare ∷ _) a h = absurd (cc)
star_entries (Collected p ∷ []) a h = ap arguments_height (sym (same_Some (with_kwarg p) a h)) ∙ kwarg_height p
star_entries (Collected p ∷ (x ∷ es)) a h = absurd (cc)
star_entries (_ ∷ es) a h = absurd (cc)

add_step : (p : Arg) (d : OptionalExpr) (es : List Entry) (o : Option Arguments) (a : Arguments)
    → ((b : Arguments) → o ≡ Some b → arguments_height b ≡ entries_height es) → option_map (add_plain p d) o ≡ Some a
    → arguments_height a ≡ entries_height (Plain p d ∷ es)
add_step p d es o a f h = mapped_keeps (add_plain p d) o a arguments_height arguments_height
    (max (max (arg_height p) (optional_height d)) (entries_height es)) (λ b q. plain_height p d b
    ∙ ap (λ n. max (max (arg_height p) (optional_height d)) n) (f b q)) h

plain_entries : (b : Bool) (es : List Entry) (a : Arguments) → plain_ones b es ≡ Some a → arguments_height a ≡ entries_height es
plain_entries true (Plain p absent ∷ es) a h = absurd (cc)
plain_entries false (Plain p absent ∷ es) a h = add_step p absent es (plain_ones false es) a (λ b q. plain_entries false es b q) h
plain_entries true (Plain p (present d) ∷ es) a h = add_step p (present d) es (plain_ones true es) a (λ b q. plain_entries true es b q) h
plain_entries false (Plain p (present d) ∷ es) a h = add_step p (present d) es (plain_ones true es) a (λ b q. plain_entries true es b q) h
plain_entries true es a h = star_entries es a h
plain_entries false es a h = star_entries es a h

slash_step : (p : Arg) (d : OptionalExpr) (es : List Entry) (o : Option Arguments) (a : Arguments)
    → ((b : Arguments) → o ≡ Some b → arguments_height b ≡ entries_height es) → option_map (add_before_slash p d) o ≡ Some a
    → arguments_height a ≡ entries_height (Plain p d ∷ es)
slash_step p d es o a f h = mapped_keeps (add_before_slash p d) o a arguments_height arguments_height
    (max (max (arg_height p) (optional_height d)) (entries_height es)) (λ b q. slash_height p d b
    ∙ ap (λ n. max (max (arg_height p) (optional_height d)) n) (f b q)) h

slashed_zero : (es : List Entry) → entries_height (Slashed ∷ es) ≡ entries_height es
slashed_zero es = zero_first (entries_height es)
  where
    zero_first : (n : ℕ) → max 0 n ≡ n
    zero_first n = omega arith

slash_entries : (b : Bool) (es : List Entry) (a : Arguments) → before_slash b es ≡ Some a → arguments_height a ≡ entries_height es
slash_entries true (Plain p absent ∷ es) a h = absurd (cc)
slash_entries false (Plain p absent ∷ (Slashed ∷ es)) a h = slash_step p absent (Slashed ∷ es) (plain_ones false es) a
    (λ b q. plain_entries false es b q ∙ sym (slashed_zero es)) h
slash_entries true (Plain p (present d) ∷ (Slashed ∷ es)) a h = slash_step p (present d) (Slashed ∷ es) (plain_ones true es) a
    (λ b q. plain_entries true es b q ∙ sym (slashed_zero es)) h
slash_entries false (Plain p (present d) ∷ (Slashed ∷ es)) a h = slash_step p (present d) (Slashed ∷ es) (plain_ones true es) a
    (λ b q. plain_entries true es b q ∙ sym (slashed_zero es)) h
slash_entries false (Plain p absent ∷ es) a h = slash_step p absent es (before_slash false es) a (λ b q. slash_entries false es b q) h
slash_entries true (Plain p (present d) ∷ es) a h = slash_step p (present d) es (before_slash true es) a
    (λ b q. slash_entries true es b q) h
slash_entries false (Plain p (present d) ∷ es) a h = slash_step p (present d) es (before_slash true es) a
    (λ b q. slash_entries true es b q) h
slash_entries true _ a h = absurd (cc)
slash_entries false _ a h = absurd (cc)

pub arranged_height : (es : List Entry) (a : Arguments) → arranged es ≡ Some a → arguments_height a ≡ entries_height es
arranged_height es a h = pick (has_slash es) h
  where
    pick : (b : Bool) → cond b (before_slash false es) (plain_ones false es) ≡ Some a → arguments_height a ≡ entries_height es
    pick true h = slash_entries false es a h
    pick false h = plain_entries false es a h
