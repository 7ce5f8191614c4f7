-- The parameters of a tree are the entries that they were arranged from.
--
-- Carries: parameters_are, for Params, Places. On: Claims, Clauses, Entries.
use Rattle.std.proofs.Common.{◌≡◌, refl, ap, subst, ◌∙◌, ℕ, suc, ◌≤◌, arith, List, [], ◌∷◌, ◌++◌, length, Some, Bool, true, false, cond}
use Rattle.std.specs.Prelude.{◌-◌, map}
use Rattle.std.specs.Prelude.{replicate}
use Rattle.pylex_lexeme.specs.declared.kinds.Exact.TheVariants.{Colon, Star, Slash, Equal, DoubleStar}
use Rattle.pygrammar.specs.declared.levels.Level.TheVariants.{Expression}
use Rattle.pytree_node.specs.Trees.{Expr, Exprs, no_exprs, OptionalExpr, absent, present, OptionalExprs, Arg, arg, Args, no_arg, an_arg}
use Rattle.pytree_node.specs.Trees.{OptionalArg}
use Rattle.pytree_node.specs.Trees.{absent_arg, Arguments, arguments}
use Rattle.pytoken.specs.Terminals.{Op, in_form}
use Rattle.pygrammar.specs.Entries.{Parameter, Entry, Plain, Slashed, Bare, Gathered, Collected}
use Rattle.pygrammar.specs.Parameters.{with_kwarg, add_keyword_only, set_vararg, add_plain, add_before_slash, after_star, at_star}
use Rattle.pygrammar.specs.Parameters.{plain_ones}
use Rattle.pygrammar.specs.Parameters.{before_slash, has_slash, arranged}
use Rattle.pyunparse_text.specs.Written.{Maker, free, leading, trailing, tight, beside, after_equal, with_defaults, with_slash, with_star}
use Rattle.pyunparse_text.specs.Written.{written}
use Rattle.pyunparse_text.specs.Written.{each, suffixed, parameters, names, gathered, defaults}
use Rattle.pyunparse_text.proofs.Fewest.Claims.{given}
use Rattle.pyunparse_text.proofs.Fewest.Clauses.{mapped_is}
use Rattle.pyunparse_text.proofs.Fewest.Entries.{entry_in}

module _ {A : Type 0} (make : Maker A) where
  abbrev entries : List Entry → List (List A)
  entries es = map (entry_in make (Parameter false)) es

  abbrev texts : Exprs → List (List A)
  texts ds = map (after_equal make) (each make Expression ds)

  abbrev following : OptionalArg → Args → OptionalExprs → OptionalArg → List (List A)
  following v ks kds k =
      with_star make (gathered make Star v) (names make ks) ++ (beside (names make ks) (defaults make kds) ++ gathered make DoubleStar k)

  -- after a star
  data AfterStar : Arguments → List Entry → Type 0 where
    after : {ks : Args} {kds : OptionalExprs} {k : OptionalArg} {es : List Entry}
        → beside (names make ks) (defaults make kds) ++ gathered make DoubleStar k ≡ entries es
        → AfterStar (arguments no_arg no_arg absent_arg ks kds k no_exprs) es

  after_grown : {x : Arguments} {es : List Entry} (a : Arg) (d : OptionalExpr) → AfterStar x es
      → AfterStar (add_keyword_only a d x) (Plain a d ∷ es)
  unfolding names defaults
  after_grown (arg n t) d (after q) =
      after (ap (λ z. (free make (in_form n) ∷ (suffixed make (trailing make Colon) t ++ suffixed make (tight make Equal) d)) ∷ z) q)

  after_last : (a : Arg) → AfterStar (with_kwarg a) (Collected a ∷ [])
  unfolding names defaults gathered
  after_last (arg n t) = after refl

  after_says : (es : List Entry) (x : Arguments) → after_star es ≡ Some x → AfterStar x es
  unfolding names defaults gathered
  after_says [] x h = given (λ z. AfterStar z []) h (after refl)
  after_says (Plain a d ∷ es) x h = let w = mapped_is (add_keyword_only a d) (after_star es) x h in
      subst (λ z. AfterStar z (Plain a d ∷ es)) w.2 (after_grown a d (after_says es w.0 w.1))
  after_says (Collected a ∷ []) x h = given (λ z. AfterStar z (Collected a ∷ [])) h (after_last a)
  after_says _ x h = absurd (cc)

  -- from the star on
  data AtStar : Arguments → List Entry → Type 0 where
    at : {v : OptionalArg} {ks : Args} {kds : OptionalExprs} {k : OptionalArg} {es : List Entry} → following v ks kds k ≡ entries es
        → AtStar (arguments no_arg no_arg v ks kds k no_exprs) es

  at_gathered : {x : Arguments} {es : List Entry} (a : Arg) → AfterStar x es → AtStar (set_vararg a x) (Gathered a ∷ es)
  unfolding names gathered
  at_gathered (arg n t) (after q) =
      at (ap (λ z. (leading make Star ∷ (free make (in_form n) ∷ suffixed make (trailing make Colon) t)) ∷ z) q)

  at_bare : {x : Arguments} {es : List Entry} (a : Arg) (d : OptionalExpr) → AfterStar x es
      → AtStar (add_keyword_only a d x) (Bare ∷ (Plain a d ∷ es))
  unfolding names defaults gathered
  at_bare (arg n t) d (after q) =
      at
      (ap (λ z. (leading make Star ∷ []) ∷
      ((free make (in_form n) ∷ (suffixed make (trailing make Colon) t ++ suffixed make (tight make Equal) d)) ∷ z)) q)

  at_last : (a : Arg) → AtStar (with_kwarg a) (Collected a ∷ [])
  unfolding names defaults gathered
  at_last (arg n t) = at refl

  at_says : (es : List Entry) (x : Arguments) → at_star es ≡ Some x → AtStar x es
  unfolding names defaults gathered
  at_says [] x h = given (λ z. AtStar z []) h (at refl)
  at_says (Gathered a ∷ es) x h = let w = mapped_is (set_vararg a) (after_star es) x h in
      subst (λ z. AtStar z (Gathered a ∷ es)) w.2 (at_gathered a (after_says es w.0 w.1))
  at_says (Bare ∷ (Plain a d ∷ es)) x h = let w = mapped_is (add_keyword_only a d) (after_star es) x h in
      subst (λ z. AtStar z (Bare ∷ (Plain a d ∷ es))) w.2 (at_bare a d (after_says es w.0 w.1))
  at_says (Collected a ∷ []) x h = given (λ z. AtStar z (Collected a ∷ [])) h (at_last a)
  at_says _ x h = absurd (cc)

  -- the plain ones: from the first default on each make has one
  abbrev Full : Bool → ℕ → ℕ → Type 0
  Full true m n = m ≡ n
  Full false m n = m ≤ n

  default_none : (n : List A) (xs ds : List (List A)) → length ds ≤ length xs → with_defaults (n ∷ xs) ds ≡ (n ++ []) ∷ with_defaults xs ds
  default_none n xs ds h =
      let e : length (n ∷ xs) - length ds ≡ suc (length xs - length ds) = omega (arith, h) in
      ap (λ k. beside (n ∷ xs) (replicate k [] ++ ds)) e

  default_some : (n d : List A) (xs ds : List (List A)) → length ds ≡ length xs
      → with_defaults (n ∷ xs) (d ∷ ds) ≡ (n ++ d) ∷ with_defaults xs ds
  default_some n d xs ds h =
      let e : length (n ∷ xs) - length (d ∷ ds) ≡ 0 = omega (arith, h) in
      let f : 0 ≡ length xs - length ds = omega (arith, h) in
      ap (λ k. beside (n ∷ xs) (replicate k [] ++ (d ∷ ds))) e ∙ ap (λ k. (n ++ d) ∷ beside xs (replicate k [] ++ ds)) f

  data Plains (b : Bool) : Arguments → List Entry → Type 0 where
    plains : {qs : Args} {v : OptionalArg} {ks : Args} {kds : OptionalExprs} {k : OptionalArg} {ds : Exprs} {es : List Entry}
        → with_defaults (names make qs) (texts ds) ++ following v ks kds k ≡ entries es → Full b (length (texts ds)) (length (names make qs))
        → Plains b (arguments no_arg qs v ks kds k ds) es

  plains_none : {x : Arguments} {es : List Entry} (a : Arg) → Plains false x es → Plains false (add_plain a absent x) (Plain a absent ∷ es)
  unfolding names suffixed
  plains_none (arg n t) (plains {qs = qs} {v = v} {ks = ks} {kds = kds} {k = k} {ds = ds} q s) =
      plains
      (ap (λ z. z ++ following v ks kds k) (default_none (free make (in_form n) ∷ suffixed make (trailing make Colon) t) (names make qs)
      (texts ds) s) ∙ ap (λ z. (free make (in_form n) ∷ (suffixed make (trailing make Colon) t ++ [])) ∷ z) q)
      (omega (arith, s))

  plains_some : {x : Arguments} {es : List Entry} (b : Bool) (a : Arg) (d : Expr) → Plains true x es
      → Plains b (add_plain a (present d) x) (Plain a (present d) ∷ es)
  unfolding names suffixed each
  plains_some b (arg n t) d (plains {qs = qs} {v = v} {ks = ks} {kds = kds} {k = k} {ds = ds} q s) =
      plains
      (ap (λ z. z ++ following v ks kds k) (default_some (free make (in_form n) ∷ suffixed make (trailing make Colon) t)
      (tight make Equal ∷ written make Expression d) (names make qs) (texts ds) s)
      ∙ ap (λ z. (free make (in_form n) ∷ (suffixed make (trailing make Colon) t ++ (tight make Equal ∷ written make Expression d))) ∷
      z) q)
      (full b s)
    where
      full : (b : Bool) → length (texts ds) ≡ length (names make qs) → Full b (suc (length (texts ds))) (suc (length (names make qs)))
      full true s = ap suc s
      full false s = omega (arith, s)

  plains_end : {x : Arguments} {es : List Entry} (b : Bool) → AtStar x es → Plains b x es
  unfolding names each
  plains_end true (at q) = plains q refl
  plains_end false (at q) = plains q (omega arith)

  plains_says : (b : Bool) (es : List Entry) (x : Arguments) → plain_ones b es ≡ Some x → Plains b x es
  plains_says true (Plain a absent ∷ es) x h = absurd (cc)
  plains_says false (Plain a absent ∷ es) x h = let w = mapped_is (add_plain a absent) (plain_ones false es) x h in
      subst (λ z. Plains false z (Plain a absent ∷ es)) w.2 (plains_none a (plains_says false es w.0 w.1))
  plains_says b (Plain a (present d) ∷ es) x h = let w = mapped_is (add_plain a (present d)) (plain_ones true es) x h in
      subst (λ z. Plains b z (Plain a (present d) ∷ es)) w.2 (plains_some b a d (plains_says true es w.0 w.1))
  plains_says b es x h = plains_end b (at_says es x h)

  -- those before the slash
  data Slashes (b : Bool) : Arguments → List Entry → Type 0 where
    slashes : {a : Arg} {ps qs : Args} {v : OptionalArg} {ks : Args} {kds : OptionalExprs} {k : OptionalArg} {ds : Exprs} {es : List Entry}
        → with_slash make (names make (an_arg a ps)) (with_defaults (names make (an_arg a ps) ++ names make qs) (texts ds)) ++
        following v ks kds k ≡ entries es
        → Full b (length (texts ds)) (length (names make (an_arg a ps) ++ names make qs))
        → Slashes b (arguments (an_arg a ps) qs v ks kds k ds) es

  slash_none : {x : Arguments} {es : List Entry} (a : Arg) → Plains false x es
      → Slashes false (add_before_slash a absent x) (Plain a absent ∷ (Slashed ∷ es))
  unfolding names suffixed
  slash_none (arg n t) (plains {qs = qs} {v = v} {ks = ks} {kds = kds} {k = k} {ds = ds} q s) =
      slashes
      (ap (λ z. with_slash make ((free make (in_form n) ∷ suffixed make (trailing make Colon) t) ∷ []) z ++ following v ks kds k)
      (default_none (free make (in_form n) ∷ suffixed make (trailing make Colon) t) (names make qs) (texts ds) s)
      ∙ ap (λ z. (free make (in_form n) ∷ (suffixed make (trailing make Colon) t ++ [])) ∷ ((free make (Op Slash) ∷ []) ∷ z)) q)
      (omega (arith, s))

  slash_some : {x : Arguments} {es : List Entry} (b : Bool) (a : Arg) (d : Expr) → Plains true x es
      → Slashes b (add_before_slash a (present d) x) (Plain a (present d) ∷ (Slashed ∷ es))
  unfolding names suffixed each
  slash_some b (arg n t) d (plains {qs = qs} {v = v} {ks = ks} {kds = kds} {k = k} {ds = ds} q s) =
      slashes
      (ap (λ z. with_slash make ((free make (in_form n) ∷ suffixed make (trailing make Colon) t) ∷ []) z ++ following v ks kds k)
      (default_some (free make (in_form n) ∷ suffixed make (trailing make Colon) t) (tight make Equal ∷ written make Expression d)
      (names make qs) (texts ds) s)
      ∙ ap (λ z. (free make (in_form n) ∷ (suffixed make (trailing make Colon) t ++ (tight make Equal ∷ written make Expression d))) ∷
      ((free make (Op Slash) ∷ []) ∷ z)) q)
      (full b s)
    where
      full : (b : Bool) → length (texts ds) ≡ length (names make qs) → Full b (suc (length (texts ds))) (suc (length (names make qs)))
      full true s = ap suc s
      full false s = omega (arith, s)

  slashes_none : {x : Arguments} {es : List Entry} (a : Arg) → Slashes false x es
      → Slashes false (add_before_slash a absent x) (Plain a absent ∷ es)
  unfolding names suffixed
  slashes_none (arg n t) (slashes {a = arg m u} {ps = ps} {qs = qs} {v = v} {ks = ks} {kds = kds} {k = k} {ds = ds} q s) =
      slashes
      (ap (λ z. with_slash make ((free make (in_form n) ∷ suffixed make (trailing make Colon) t) ∷
      ((free make (in_form m) ∷ suffixed make (trailing make Colon) u) ∷ names make ps)) z ++ following v ks kds k)
      (default_none (free make (in_form n) ∷ suffixed make (trailing make Colon) t)
      ((free make (in_form m) ∷ suffixed make (trailing make Colon) u) ∷ (names make ps ++ names make qs)) (texts ds) s)
      ∙ ap (λ z. (free make (in_form n) ∷ (suffixed make (trailing make Colon) t ++ [])) ∷ z) q)
      (omega (arith, s))

  slashes_some : {x : Arguments} {es : List Entry} (b : Bool) (a : Arg) (d : Expr) → Slashes true x es
      → Slashes b (add_before_slash a (present d) x) (Plain a (present d) ∷ es)
  unfolding names suffixed each
  slashes_some b (arg n t) d (slashes {a = arg m u} {ps = ps} {qs = qs} {v = v} {ks = ks} {kds = kds} {k = k} {ds = ds} q s) =
      slashes
      (ap (λ z. with_slash make ((free make (in_form n) ∷ suffixed make (trailing make Colon) t) ∷
      ((free make (in_form m) ∷ suffixed make (trailing make Colon) u) ∷ names make ps)) z ++ following v ks kds k)
      (default_some (free make (in_form n) ∷ suffixed make (trailing make Colon) t) (tight make Equal ∷ written make Expression d)
      ((free make (in_form m) ∷ suffixed make (trailing make Colon) u) ∷ (names make ps ++ names make qs)) (texts ds) s)
      ∙ ap (λ z. (free make (in_form n) ∷ (suffixed make (trailing make Colon) t ++ (tight make Equal ∷ written make Expression d))) ∷
      z) q)
      (full b s)
    where
      full : (b : Bool) → length (texts ds) ≡ suc (length (names make ps ++ names make qs))
          → Full b (suc (length (texts ds))) (suc (suc (length (names make ps ++ names make qs))))
      full true s = ap suc s
      full false s = omega (arith, s)

  slashes_says : (b : Bool) (es : List Entry) (x : Arguments) → before_slash b es ≡ Some x → Slashes b x es
  slashes_says true (Plain a absent ∷ es) x h = absurd (cc)
  slashes_says false (Plain a absent ∷ (Slashed ∷ es)) x h = let w = mapped_is (add_before_slash a absent) (plain_ones false es) x h in
      subst (λ z. Slashes false z (Plain a absent ∷ (Slashed ∷ es))) w.2 (slash_none a (plains_says false es w.0 w.1))
  slashes_says b (Plain a (present d) ∷ (Slashed ∷ es)) x h = let w = mapped_is (add_before_slash a (present d)) (plain_ones true es) x h in
      subst (λ z. Slashes b z (Plain a (present d) ∷ (Slashed ∷ es))) w.2 (slash_some b a d (plains_says true es w.0 w.1))
  slashes_says false (Plain a absent ∷ es) x h = let w = mapped_is (add_before_slash a absent) (before_slash false es) x h in
      subst (λ z. Slashes false z (Plain a absent ∷ es)) w.2 (slashes_none a (slashes_says false es w.0 w.1))
  slashes_says b (Plain a (present d) ∷ es) x h = let w = mapped_is (add_before_slash a (present d)) (before_slash true es) x h in
      subst (λ z. Slashes b z (Plain a (present d) ∷ es)) w.2 (slashes_some b a d (slashes_says true es w.0 w.1))
  slashes_says _ _ x h = absurd (cc)

  -- both
  slashes_written : {x : Arguments} {es : List Entry} → Slashes false x es → parameters make x ≡ entries es
  unfolding parameters
  slashes_written (slashes q s) = q

  plains_written : {x : Arguments} {es : List Entry} → Plains false x es → parameters make x ≡ entries es
  unfolding parameters names
  plains_written (plains q s) = q

  pub parameters_are : (ps : List Entry) (a : Arguments) → arranged ps ≡ Some a
      → parameters make a ≡ map (entry_in make (Parameter false)) ps
  parameters_are ps a h = by (has_slash ps) h
    where
      by : (b : Bool) → cond b (before_slash false ps) (plain_ones false ps) ≡ Some a
          → parameters make a ≡ map (entry_in make (Parameter false)) ps
      by true h = slashes_written (slashes_says false ps a h)
      by false h = plains_written (plains_says false ps a h)
