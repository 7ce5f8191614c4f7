-- Carries: the laws of the slots. On: what is arranged of parameters that fit, fits.
use Rattle.std.proofs.Common.{◌≡◌, refl, subst, ◌+◌, ◌≤◌, arith, List, [], ◌∷◌, Some, Bool, true, false, cond, option_map}
use Rattle.std.specs.Prelude.{◌&&◌, eqb, leb}
use Rattle.std.proofs.lemmas.Bool.{and_parts, and_from, eq-eqb, le-leb, eqb-true, leb-true}
use Rattle.pytree_node.specs.Trees.{Exprs, OptionalExpr, absent, present, OptionalExprs, Arg, Args, OptionalArg, Arguments, arguments}
use Rattle.pygrammar.specs.declared.levels.Level.TheVariants.{StarItem, Expression}
use Rattle.pygrammar.specs.Entries.{Parameter, Entry, Plain, Slashed, Bare, Gathered, Collected}
use Rattle.pygrammar.specs.Parameters.{with_kwarg, no_arguments, with_default, add_keyword_only, set_vararg, add_plain, add_before_slash}
use Rattle.pygrammar.specs.Parameters.{after_star, at_star, plain_ones, defaulted, before_slash, has_slash, arranged}
use Rattle.pytree_fits.specs.Tests.{Tests}
use Rattle.pytree_fits.specs.Slots.{count, count_optional, count_args, fits_at, each_fits, perhaps_fits, each_perhaps_fits, fits_arguments}
use Rattle.pytree_fits.specs.Slots.{arg_fits, each_arg_fits, perhaps_arg_fits}
use Rattle.pytree_fits.proofs.Fields.Tests.{parts3, from3}
use Rattle.pytree_fits.proofs.Fields.Entries.{all_fit}
use Rattle.pyunparse_text.proofs.Callers.Trees.{given, mapped_is}

-- the nine tests of parameters
pub record Parts (n : Tests) (b : Bool) (ps qs : Args) (v : OptionalArg) (ks : Args) (ds : OptionalExprs) (k : OptionalArg)
    (es : Exprs) : Type 0 where
  pub before : each_arg_fits n b ps ≡ true
  pub middle : each_arg_fits n b qs ≡ true
  pub star : perhaps_arg_fits n b StarItem v ≡ true
  pub only : each_arg_fits n b ks ≡ true
  pub double : perhaps_arg_fits n b Expression k ≡ true
  pub even : count_optional ds ≡ count_args ks
  pub only_defaults : each_perhaps_fits n ds ≡ true
  pub few : count es ≤ count_args ps + count_args qs
  pub defaults : each_fits n Expression es ≡ true

abbrev pub PartsOf : Tests → Bool → Arguments → Type 0
PartsOf n b (arguments ps qs v ks ds k es) = Parts n b ps qs v ks ds k es

module _ (n : Tests) (b : Bool) where
  pub parts_fit : (a : Arguments) → PartsOf n b a → fits_arguments n b a ≡ true
  parts_fit (arguments ps qs v ks ds k es) p =
      let even : Bool = eqb (count_optional ds) (count_args ks) in
      let few : Bool = leb (count es) (count_args ps + count_args qs) in
      let h1 = from3 even few (each_arg_fits n b ps) (eq-eqb (count_optional ds) (count_args ks) p.even)
      (le-leb (count es) (count_args ps + count_args qs) p.few) p.before in
      let t1 : Bool = even && few && each_arg_fits n b ps in
      let h2 = from3 t1 (each_arg_fits n b qs) (perhaps_arg_fits n b StarItem v) h1 p.middle p.star in
      let t2 : Bool = t1 && each_arg_fits n b qs && perhaps_arg_fits n b StarItem v in
      let h3 = from3 t2 (each_arg_fits n b ks) (each_perhaps_fits n ds) h2 p.only p.only_defaults in
      let t3 : Bool = t2 && each_arg_fits n b ks && each_perhaps_fits n ds in
      from3 t3 (perhaps_arg_fits n b Expression k) (each_fits n Expression es) h3 p.double p.defaults

  pub fit_parts : (a : Arguments) → fits_arguments n b a ≡ true → PartsOf n b a
  fit_parts (arguments ps qs v ks ds k es) h =
      let even : Bool = eqb (count_optional ds) (count_args ks) in
      let few : Bool = leb (count es) (count_args ps + count_args qs) in
      let t1 : Bool = even && few && each_arg_fits n b ps in
      let t2 : Bool = t1 && each_arg_fits n b qs && perhaps_arg_fits n b StarItem v in
      let t3 : Bool = t2 && each_arg_fits n b ks && each_perhaps_fits n ds in
      let h4 = parts3 t3 (perhaps_arg_fits n b Expression k) (each_fits n Expression es) h in
      let h3 = parts3 t2 (each_arg_fits n b ks) (each_perhaps_fits n ds) h4.0 in
      let h2 = parts3 t1 (each_arg_fits n b qs) (perhaps_arg_fits n b StarItem v) h3.0 in
      let h1 = parts3 even few (each_arg_fits n b ps) h2.0 in
      record {
        even = eqb-true (count_optional ds) (count_args ks) h1.0;
        few = leb-true (count es) (count_args ps + count_args qs) h1.1;
        before = h1.2;
        middle = h2.1;
        star = h2.2;
        only = h3.1;
        only_defaults = h3.2;
        double = h4.1;
        defaults = h4.2;
      }

  -- the steps of the arranging
  no_parts : PartsOf n b no_arguments
  no_parts = record {
    before = refl;
    middle = refl;
    star = refl;
    only = refl;
    double = refl;
    even = refl;
    only_defaults = refl;
    few =
        omega arith;
    defaults = refl;
  }

  kwarg_parts : (a : Arg) → arg_fits n b Expression a ≡ true → PartsOf n b (with_kwarg a)
  kwarg_parts a h = record {
    before = refl;
    middle = refl;
    star = refl;
    only = refl;
    double = h;
    even = refl;
    only_defaults = refl;
    few =
        omega arith;
    defaults = refl;
  }

  keyword_only_parts : (x : Arg) (d : OptionalExpr) (a : Arguments) → arg_fits n b Expression x ≡ true → perhaps_fits n Expression d ≡ true
      → PartsOf n b a → PartsOf n b (add_keyword_only x d a)
  keyword_only_parts x d (arguments ps qs v ks ds k es) f g p = record {
    before = p.before;
    middle = p.middle;
    star = p.star;
    only =
        and_from (arg_fits n b Expression x) (each_arg_fits n b ks) f p.only;
    double = p.double;
    even = omega (arith, p.even);
    only_defaults =
        and_from (perhaps_fits n Expression d) (each_perhaps_fits n ds) g p.only_defaults;
    few = p.few;
    defaults = p.defaults;
  }

  vararg_parts : (x : Arg) (a : Arguments) → arg_fits n b StarItem x ≡ true → PartsOf n b a → PartsOf n b (set_vararg x a)
  vararg_parts x (arguments ps qs v ks ds k es) f p = record {
    before = p.before;
    middle = p.middle;
    star = f;
    only = p.only;
    double =
        p.double;
    even = p.even;
    only_defaults = p.only_defaults;
    few = p.few;
    defaults = p.defaults;
  }

  more_defaults : (d : OptionalExpr) (es : Exprs) → count (with_default d es) ≤ count es + 1
  more_defaults absent es = omega arith
  more_defaults (present d) es = omega arith

  defaults_fit : (d : OptionalExpr) (es : Exprs) → perhaps_fits n Expression d ≡ true → each_fits n Expression es ≡ true
      → each_fits n Expression (with_default d es) ≡ true
  defaults_fit absent es f g = g
  defaults_fit (present d) es f g = and_from (fits_at n Expression d) (each_fits n Expression es) f g

  plain_parts : (x : Arg) (d : OptionalExpr) (a : Arguments) → arg_fits n b Expression x ≡ true → perhaps_fits n Expression d ≡ true
      → PartsOf n b a → PartsOf n b (add_plain x d a)
  plain_parts x d (arguments ps qs v ks ds k es) f g p =
      record {
        before = p.before;
        middle = and_from (arg_fits n b Expression x) (each_arg_fits n b qs) f p.middle;
        star = p.star;
        only =
            p.only;
        double = p.double;
        even = p.even;
        only_defaults = p.only_defaults;
        few = omega (arith, p.few, more_defaults d es);
        defaults =
            defaults_fit d es g p.defaults;
      }

  slash_parts : (x : Arg) (d : OptionalExpr) (a : Arguments) → arg_fits n b Expression x ≡ true → perhaps_fits n Expression d ≡ true
      → PartsOf n b a → PartsOf n b (add_before_slash x d a)
  slash_parts x d (arguments ps qs v ks ds k es) f g p =
      record {
        before = and_from (arg_fits n b Expression x) (each_arg_fits n b ps) f p.before;
        middle = p.middle;
        star = p.star;
        only =
            p.only;
        double = p.double;
        even = p.even;
        only_defaults = p.only_defaults;
        few = omega (arith, p.few, more_defaults d es);
        defaults =
            defaults_fit d es g p.defaults;
      }

  after_star_parts : (es : List Entry) (a : Arguments) → all_fit n (Parameter b) es ≡ true → after_star es ≡ Some a → PartsOf n b a
  after_star_parts [] a f h = given (PartsOf n b) h no_parts
  after_star_parts (Plain x d ∷ es) a f h =
      let w = mapped_is (add_keyword_only x d) (after_star es) a h in
      let u = parts3 (arg_fits n b Expression x) (perhaps_fits n Expression d) (all_fit n (Parameter b) es) f in
      subst (PartsOf n b) w.2 (keyword_only_parts x d w.0 u.0 u.1 (after_star_parts es w.0 u.2 w.1))
  after_star_parts (Collected x ∷ []) a f h = given (PartsOf n b) h (kwarg_parts x (and_parts (arg_fits n b Expression x) true f).0)
  after_star_parts (Collected x ∷ (_ ∷ _)) a f h = absurd (cc)
  after_star_parts (_ ∷ es) a f h = absurd (cc)

  at_star_parts : (es : List Entry) (a : Arguments) → all_fit n (Parameter b) es ≡ true → at_star es ≡ Some a → PartsOf n b a
  at_star_parts [] a f h = given (PartsOf n b) h no_parts
  at_star_parts (Gathered x ∷ es) a f h =
      let w = mapped_is (set_vararg x) (after_star es) a h in
      let u = and_parts (arg_fits n b StarItem x) (all_fit n (Parameter b) es) f in
      subst (PartsOf n b) w.2 (vararg_parts x w.0 u.0 (after_star_parts es w.0 u.1 w.1))
  at_star_parts (Bare ∷ (Plain x d ∷ es)) a f h = after_star_parts (Plain x d ∷ es) a f h
  at_star_parts (Bare ∷ []) a f h = absurd (cc)
  at_star_parts (Bare ∷ (_ ∷ _)) a f h = absurd (cc)
  at_star_parts (Collected x ∷ []) a f h = given (PartsOf n b) h (kwarg_parts x (and_parts (arg_fits n b Expression x) true f).0)
  at_star_parts (Collected x ∷ (_ ∷ _)) a f h = absurd (cc)
  at_star_parts (_ ∷ es) a f h = absurd (cc)

  plain_ones_parts : (z : Bool) (es : List Entry) (a : Arguments) → all_fit n (Parameter b) es ≡ true
      → plain_ones z es ≡ Some a → PartsOf n b a
  plain_ones_parts true (Plain x absent ∷ es) a f h = absurd (cc)
  plain_ones_parts false (Plain x absent ∷ es) a f h =
      let w = mapped_is (add_plain x absent) (plain_ones false es) a h in
      let u = parts3 (arg_fits n b Expression x) true (all_fit n (Parameter b) es) f in
      subst (PartsOf n b) w.2 (plain_parts x absent w.0 u.0 refl (plain_ones_parts false es w.0 u.2 w.1))
  plain_ones_parts true (Plain x (present d) ∷ es) a f h =
      let w = mapped_is (add_plain x (present d)) (plain_ones true es) a h in
      let u = parts3 (arg_fits n b Expression x) (fits_at n Expression d) (all_fit n (Parameter b) es) f in
      subst (PartsOf n b) w.2 (plain_parts x (present d) w.0 u.0 u.1 (plain_ones_parts true es w.0 u.2 w.1))
  plain_ones_parts false (Plain x (present d) ∷ es) a f h =
      let w = mapped_is (add_plain x (present d)) (plain_ones true es) a h in
      let u = parts3 (arg_fits n b Expression x) (fits_at n Expression d) (all_fit n (Parameter b) es) f in
      subst (PartsOf n b) w.2 (plain_parts x (present d) w.0 u.0 u.1 (plain_ones_parts true es w.0 u.2 w.1))
  plain_ones_parts true [] a f h = at_star_parts [] a f h
  plain_ones_parts false [] a f h = at_star_parts [] a f h
  plain_ones_parts true (e ∷ es) a f h = at_star_parts (e ∷ es) a f h
  plain_ones_parts false (e ∷ es) a f h = at_star_parts (e ∷ es) a f h

  -- in front of a slash
  slashed_one : (z : Bool) (x : Arg) (d : OptionalExpr) (es : List Entry) (a : Arguments)
      → all_fit n (Parameter b) (Plain x d ∷ (Slashed ∷ es)) ≡ true
      → option_map (add_before_slash x d) (plain_ones (defaulted z d) es) ≡ Some a → PartsOf n b a
  slashed_one z x d es a f h =
      let w = mapped_is (add_before_slash x d) (plain_ones (defaulted z d) es) a h in
      let u = parts3 (arg_fits n b Expression x) (perhaps_fits n Expression d) (all_fit n (Parameter b) es) f in
      subst (PartsOf n b) w.2 (slash_parts x d w.0 u.0 u.1 (plain_ones_parts (defaulted z d) es w.0 u.2 w.1))

  slashed_more : (z : Bool) (x : Arg) (d : OptionalExpr) (es : List Entry) (a : Arguments) → all_fit n (Parameter b) (Plain x d ∷ es) ≡ true
      → option_map (add_before_slash x d) (before_slash z es) ≡ Some a → ((c : Arguments) → all_fit n (Parameter b) es ≡ true
      → before_slash z es ≡ Some c → PartsOf n b c) → PartsOf n b a
  slashed_more z x d es a f h r =
      let w = mapped_is (add_before_slash x d) (before_slash z es) a h in
      let u = parts3 (arg_fits n b Expression x) (perhaps_fits n Expression d) (all_fit n (Parameter b) es) f in
      subst (PartsOf n b) w.2 (slash_parts x d w.0 u.0 u.1 (r w.0 u.2 w.1))

  before_slash_parts : (z : Bool) (es : List Entry) (a : Arguments) → all_fit n (Parameter b) es ≡ true
      → before_slash z es ≡ Some a → PartsOf n b a
  before_slash_parts true (Plain x absent ∷ es) a f h = absurd (cc)
  before_slash_parts false (Plain x absent ∷ (Slashed ∷ es)) a f h = slashed_one false x absent es a f h
  before_slash_parts true (Plain x (present d) ∷ (Slashed ∷ es)) a f h = slashed_one true x (present d) es a f h
  before_slash_parts false (Plain x (present d) ∷ (Slashed ∷ es)) a f h = slashed_one false x (present d) es a f h
  before_slash_parts false (Plain x absent ∷ []) a f h = slashed_more false x absent [] a f h (λ c g i. before_slash_parts false [] c g i)
  before_slash_parts false (Plain x absent ∷ (e ∷ es)) a f h =
      slashed_more false x absent (e ∷ es) a f h (λ c g i. before_slash_parts false (e ∷ es) c g i)
  before_slash_parts true (Plain x (present d) ∷ []) a f h =
      slashed_more true x (present d) [] a f h (λ c g i. before_slash_parts true [] c g i)
  before_slash_parts true (Plain x (present d) ∷ (e ∷ es)) a f h =
      slashed_more true x (present d) (e ∷ es) a f h (λ c g i. before_slash_parts true (e ∷ es) c g i)
  before_slash_parts false (Plain x (present d) ∷ []) a f h =
      slashed_more true x (present d) [] a f h (λ c g i. before_slash_parts true [] c g i)
  before_slash_parts false (Plain x (present d) ∷ (e ∷ es)) a f h =
      slashed_more true x (present d) (e ∷ es) a f h (λ c g i. before_slash_parts true (e ∷ es) c g i)
  before_slash_parts true [] a f h = absurd (cc)
  before_slash_parts false [] a f h = absurd (cc)
  before_slash_parts true (_ ∷ es) a f h = absurd (cc)
  before_slash_parts false (_ ∷ es) a f h = absurd (cc)

  pub arranged_parts : (es : List Entry) (a : Arguments) → all_fit n (Parameter b) es ≡ true → arranged es ≡ Some a → PartsOf n b a
  arranged_parts es a f h = by (has_slash es) h
    where
      by : (z : Bool) → cond z (before_slash false es) (plain_ones false es) ≡ Some a → PartsOf n b a
      by true h = before_slash_parts false es a f h
      by false h = plain_ones_parts false es a f h

  pub arranged_fit : (es : List Entry) (a : Arguments) → all_fit n (Parameter b) es ≡ true → arranged es ≡ Some a
      → fits_arguments n b a ≡ true
  arranged_fit es a f h = parts_fit a (arranged_parts es a f h)
