-- Carries: the law of modules. On: simple statements and headers that fit are given.
use Rattle.std.proofs.Common.{◌≡◌, refl, sym, ap, subst, inl, inr, ℕ, zero, suc, arith, List, [], ◌∷◌, ◌++◌, Option, Some, None, Bool, true}
use Rattle.std.proofs.Common.{false}
use Rattle.std.specs.Prelude.{not, ◌&&◌, ◌||◌, is_none}
use Rattle.std.specs.List.{list_all}
use Rattle.std.proofs.lemmas.Bool.{and_parts, and_from, or_cases, ltb-true}
use Rattle.pylex_lexeme.specs.declared.kinds.Exact.{Exact}
use Rattle.pylex_lexeme.specs.declared.kinds.Exact.TheVariants as Sign
use Rattle.pytoken.specs.declared.keywords.Keyword.TheVariants as Key
use Rattle.pytree_node.specs.declared.operators.Operator.{Operator}
use Rattle.pytree_node.specs.declared.operators.Operator.TheVariants as Bin
use Rattle.pytree_node.specs.declared.operators.Context.TheVariants.{Store, Del}
use Rattle.pytree_node.specs.declared.profiles.Profile.{Profile}
use Rattle.pytree_node.specs.Trees
use Rattle.pytree_node.specs.Trees.{Identifier, Expr, exprs, optional, Arguments, Keywords, Pattern, Alias}
use Rattle.pytree_node.specs.Trees.{Item, TypeParam}
use Rattle.pytoken.specs.Terminals.{Terminal, Op, Word, in_form}
use Rattle.pygrammar.specs.declared.levels.Level.{Level}
use Rattle.pygrammar.specs.declared.levels.Level.TheVariants.{Value, Stars, Named, Expression, Elem, Subject}
use Rattle.pygrammar.specs.declared.pattern_levels.PatternLevel.TheVariants.{Patterns, AsPattern}
use Rattle.pygrammar.specs.Arguments.{positional}
use Rattle.pygrammar.specs.Grammar as G
use Rattle.pygrammar.specs.Lines.{if_header, loop_header, with_header, except_header, def_header, match_header, case_header, while_head}
use Rattle.pygrammar.specs.Lines.{for_head, function_head, class_head, header_form, no_types}
use Rattle.pygrammar.specs.Forms as F
use Rattle.pygrammar.specs.Forms.{alias, item, augmented, listed, type_name, match_name, case_name, is_whole}
use Rattle.pytree_node.specs.Profiles.{has_types}
use Rattle.pytree_fits.specs.Tests.{Tests}
use Rattle.pytree_fits.specs.Slots.{is_context, is_a_name, is_single, perhaps_name, fits_at, fits_target, each_target_fits, each_fits}
use Rattle.pytree_fits.specs.Slots.{perhaps_fits, each_keyword_fits, fits_arguments}
use Rattle.pytree_fits.specs.PatternSlots.{pattern_fits_at}
use Rattle.pytree_fits.specs.Statements.{has_one, dotted, import_fits, alias_fits, is_star, is_all, imports_fit, source_fits}
use Rattle.pytree_fits.specs.Statements.{perhaps_target_fits, item_fits, type_param_fits, types_fit, raised_fits, caught_fits}
use Rattle.pytree_fits.proofs.Fields.Standing.{outside}
use Rattle.pytree_fits.proofs.Fields.AsSpelled.{Passed, GivenAsSpelled, pass_on}
use Rattle.pytree_fits.proofs.Fields.Tests.{never, in_context}
use Rattle.pytree_fits.proofs.Fields.Levels.{anywhere}
use Rattle.pytree_fits.proofs.Fields.PatternFields.{fits_anywhere}
use Rattle.pytree_fits.proofs.Giving.Places.{named_pass}
use Rattle.pytree_fits.proofs.Giving.Places as P
use Rattle.pytree_fits.proofs.Giving.Gives.{made}
use Rattle.pytree_fits.proofs.Giving.PatternGives.{pattern_given}
use Rattle.pytree_fits.proofs.Exactness.Exactly.{target_given, single_given, del_target_given, item_target_given, parameters_given}
use Rattle.pytree_fits.proofs.Exactness.Exactly.{arguments_given}
use Rattle.pytree_fits.proofs.Fields.Dots.{dotted_given}
use Rattle.pytree_fits.proofs.DottedLemmas.{star_is}

module _ (n : Tests) where
  -- ---- Lists with commas.

  commas : {A : Type 0} {X : List Terminal → A → Type 0} (f : A → Bool) → ((a : A) → f a ≡ true → GivenAsSpelled (outside n) X a)
      → (a : A) (xs : List A) → list_all f (a ∷ xs) ≡ true → GivenAsSpelled (outside n) (F.Commas A X) (a ∷ xs)
  commas f g a [] h = let u = g a (and_parts (f a) true h).0 in (u.0, u.1, F.alone u.2)
  commas f g a (b ∷ xs) h =
      let w = and_parts (f a) (list_all f (b ∷ xs)) h in
      let u = g a w.0 in
      let v = commas f g b xs w.1 in
      (u.0 ++ (Op Sign.Comma ∷ v.0), pass_on (outside n) u.0 (Op Sign.Comma ∷ v.0) u.1 v.1, F.comma u.2 v.2)

  pub some_commas : {A : Type 0} {X : List Terminal → A → Type 0} (f : A → Bool) → ((a : A) → f a ≡ true → GivenAsSpelled (outside n) X a)
      → (xs : List A) → has_one xs ≡ true → list_all f xs ≡ true → GivenAsSpelled (outside n) (F.Commas A X) xs
  some_commas f g [] h q = absurd (never h)
  some_commas f g (a ∷ xs) h q = commas f g a xs q

  -- ---- Parts.

  perhaps : (l : Level) (e : Option Expr) → perhaps_fits n l (optional e) ≡ true → GivenAsSpelled (outside n) (F.Perhaps l) e
  perhaps l None h = ([], refl, F.left_out)
  perhaps l (Some e) h = let u = made (outside n) l e h in (u.0, u.1, F.given u.2)

  after_given : (t : Terminal) (l : Level) (e : Option Expr) → Passed (outside n) (t ∷ []) → perhaps_fits n l (optional e) ≡ true
      → GivenAsSpelled (outside n) (F.Following t l) e
  after_given t l None p h = ([], refl, F.none_after)
  after_given t l (Some e) p h = let u = made (outside n) l e h in (t ∷ u.0, pass_on (outside n) (t ∷ []) u.0 p u.1, F.following u.2)

  as_given : (x : Option Identifier) → perhaps_name n.name x ≡ true → GivenAsSpelled (outside n) F.As x
  as_given None h = ([], refl, F.no_as)
  as_given (Some x) h = (Word Key.As ∷ (in_form x ∷ []), named_pass (outside n) x [] h refl, F.as_name)

  async_given : (b : Bool) → GivenAsSpelled (outside n) F.Async b
  async_given false = ([], refl, F.no_async)
  async_given true = (Word Key.Async ∷ [], refl, F.async)

  name_given : (x : Identifier) → n.name x ≡ true → GivenAsSpelled (outside n) F.Name x
  name_given x h = (in_form x ∷ [], named_pass (outside n) x [] h refl, F.name)

  type_param : (p : TypeParam) → type_param_fits n p ≡ true → GivenAsSpelled (outside n) F.TypeParamOf p
  type_param (Trees.TypeVar x bound) h =
      let w = and_parts (n.name x) (perhaps_fits n Expression (optional bound)) h in
      let u = after_given (Op Sign.Colon) Expression bound refl w.1 in
      (in_form x ∷ u.0, named_pass (outside n) x u.0 w.0 u.1, F.type_var u.2)
  type_param (Trees.TypeVarTuple x) h = (Op Sign.Star ∷ (in_form x ∷ []), named_pass (outside n) x [] h refl, F.type_var_tuple)
  type_param (Trees.ParamSpec x) h = (Op Sign.DoubleStar ∷ (in_form x ∷ []), named_pass (outside n) x [] h refl, F.param_spec)

  type_params : (profile : Profile) (ps : List TypeParam) → types_fit profile n ps ≡ true
      → GivenAsSpelled (outside n) (F.TypeParams profile) ps
  type_params profile [] h = ([], refl, F.no_type_params)
  type_params profile (p ∷ ps) h =
      let w = and_parts (has_types profile) (list_all (type_param_fits n) (p ∷ ps)) h in
      let u = commas (type_param_fits n) type_param p ps w.1 in (
        Op Sign.LSqb ∷ (u.0 ++ (Op Sign.RSqb ∷ [])),
        pass_on (outside n) u.0 (Op Sign.RSqb ∷ []) u.1 refl,
        F.type_params w.0 (F.ends_bare u.2),
      )

  -- ---- Imports.

  module_given : (a : Alias) → import_fits n.name a ≡ true → GivenAsSpelled (outside n) F.DottedAlias a
  module_given a h =
      let w = and_parts (dotted n.name a.name) (perhaps_name n.name a.asname) h in
      let u = dotted_given n a.name w.0 in
      let v = as_given a.asname w.1 in
      (u.0 ++ v.0, pass_on (outside n) u.0 v.0 u.1 v.1, F.dotted_as u.2 v.2)

  alias_given : (a : Alias) → alias_fits n.name a ≡ true → GivenAsSpelled (outside n) F.NameAlias a
  alias_given a h =
      let w = and_parts (n.name a.name) (perhaps_name n.name a.asname) h in
      let v = as_given a.asname w.1 in
      (in_form a.name ∷ v.0, named_pass (outside n) a.name v.0 w.0 v.1, F.name_as v.2)

  none_is : {A : Type 0} (o : Option A) → is_none o ≡ true → o ≡ None
  none_is None h = refl
  none_is (Some a) h = absurd (never h)

  all_are : (as_ : List Alias) → is_all as_ ≡ true → as_ ≡ alias (42 ∷ []) None ∷ []
  all_are [] h = absurd (never h)
  all_are (a ∷ []) h =
      let w = and_parts (is_star a.name) (is_none a.asname) h in
      (λ i. alias (star_is a.name w.0 i) (none_is a.asname w.1 i) ∷ [])
  all_are (a ∷ (b ∷ rest)) h = absurd (never h)

  names_given : (as_ : List Alias) → imports_fit n.name as_ ≡ true → GivenAsSpelled (outside n) F.Names as_
  names_given as_ h = elim (or_cases (is_all as_) (has_one as_ && list_all (alias_fits n.name) as_) h) [
    | inl a ↦ subst (GivenAsSpelled (outside n) F.Names) (sym (all_are as_ a)) (Op Sign.Star ∷ [], refl, F.all_names)
    | inr b ↦ some_names (and_parts (has_one as_) (list_all (alias_fits n.name) as_) b)
  ]
    where
      some_names : (has_one as_ ≡ true) × (list_all (alias_fits n.name) as_ ≡ true) → GivenAsSpelled (outside n) F.Names as_
      some_names w = let u = some_commas (alias_fits n.name) alias_given as_ w.0 w.1 in (u.0, u.1, F.names u.2)

  dots_given : (k : ℕ) → GivenAsSpelled (outside n) F.Dots k
  dots_given zero = ([], refl, F.no_dot)
  dots_given (suc k) = let u = dots_given k in subst (GivenAsSpelled (outside n) F.Dots) (omega arith) (Op Sign.Dot ∷ u.0, u.1, F.dot u.2)

  -- ---- Simple statements.

  targets_given : (e : Expr) (es : List Expr) → each_target_fits n Store (exprs (e ∷ es)) ≡ true
      → GivenAsSpelled (outside n) F.Targets (e ∷ es)
  targets_given e [] h =
      let u = target_given n e (and_parts (fits_target n Store e) true h).0 in
      (u.0 ++ (Op Sign.Equal ∷ []), pass_on (outside n) u.0 (Op Sign.Equal ∷ []) u.1 refl, F.last_target u.2)
  targets_given e (f ∷ es) h =
      let w = and_parts (fits_target n Store e) (each_target_fits n Store (exprs (f ∷ es))) h in
      let u = target_given n e w.0 in
      let v = targets_given f es w.1 in
      (u.0 ++ (Op Sign.Equal ∷ v.0), pass_on (outside n) u.0 (Op Sign.Equal ∷ v.0) u.1 v.1, F.more_targets u.2 v.2)

  deletes : (e : Expr) (es : List Expr) → each_target_fits n Del (exprs (e ∷ es)) ≡ true
      → GivenAsSpelled (outside n) (F.Commas Expr G.DelTarget) (e ∷ es)
  deletes e [] h = let u = del_target_given n e (and_parts (fits_target n Del e) true h).0 in (u.0, u.1, F.alone u.2)
  deletes e (f ∷ es) h =
      let w = and_parts (fits_target n Del e) (each_target_fits n Del (exprs (f ∷ es))) h in
      let u = del_target_given n e w.0 in
      let v = deletes f es w.1 in
      (u.0 ++ (Op Sign.Comma ∷ v.0), pass_on (outside n) u.0 (Op Sign.Comma ∷ v.0) u.1 v.1, F.comma u.2 v.2)

  -- the sign of an operator and `=`
  sign_of : (o : Operator) → (x : Exact) × (augmented x ≡ Some o)
  sign_of Bin.Add = (Sign.PlusEqual, refl)
  sign_of Bin.Sub = (Sign.MinEqual, refl)
  sign_of Bin.Mult = (Sign.StarEqual, refl)
  sign_of Bin.MatMult = (Sign.AtEqual, refl)
  sign_of Bin.Div = (Sign.SlashEqual, refl)
  sign_of Bin.Mod = (Sign.PercentEqual, refl)
  sign_of Bin.BitAnd = (Sign.AmperEqual, refl)
  sign_of Bin.BitOr = (Sign.VBarEqual, refl)
  sign_of Bin.BitXor = (Sign.CircumflexEqual, refl)
  sign_of Bin.LShift = (Sign.LeftShiftEqual, refl)
  sign_of Bin.RShift = (Sign.RightShiftEqual, refl)
  sign_of Bin.Pow = (Sign.DoubleStarEqual, refl)
  sign_of Bin.FloorDiv = (Sign.DoubleSlashEqual, refl)

  module _ (profile : Profile) where
    pub assign_given : (targets : List Expr) (e : Expr) → has_one targets ≡ true → each_target_fits n Store (exprs targets) ≡ true
        → fits_at n Value e ≡ true → GivenAsSpelled (outside n) (F.Simple profile) (Trees.Assign targets e)
    assign_given [] e h t p = absurd (never h)
    assign_given (a ∷ targets) e h t p =
        let u = targets_given a targets t in
        let v = made (outside n) Value e p in
        (u.0 ++ v.0, pass_on (outside n) u.0 v.0 u.1 v.1, F.assign u.2 v.2)

    pub delete_given : (es : List Expr) → has_one es ≡ true → each_target_fits n Del (exprs es) ≡ true
        → GivenAsSpelled (outside n) (F.Simple profile) (Trees.Delete es)
    delete_given [] h t = absurd (never h)
    delete_given (e ∷ es) h t = let u = deletes e es t in (Word Key.Del ∷ u.0, u.1, F.delete (F.ends_bare u.2))

    pub augmented_given : (t : Expr) (o : Operator) (e : Expr) → (is_single t && fits_target n Store t) ≡ true → fits_at n Value e ≡ true
        → GivenAsSpelled (outside n) (F.Simple profile) (Trees.AugAssign t o e)
    augmented_given t o e h p =
        let u = single_given n t h in
        let v = made (outside n) Value e p in
        let x = sign_of o in
        (u.0 ++ (Op x.0 ∷ v.0), pass_on (outside n) u.0 (Op x.0 ∷ v.0) u.1 v.1, F.augmented_assign x.0 u.2 x.1 v.2)

    pub annotated_given : (t a : Expr) (v : Option Expr) (simple : Bool) → (is_single t && fits_target n Store t) ≡ true
        → (not simple || is_a_name t) ≡ true →
        fits_at n Expression a ≡ true → perhaps_fits n Value (optional v) ≡ true
        → GivenAsSpelled (outside n) (F.Simple profile) (Trees.AnnAssign t a v simple)
    annotated_given t a v false h s p q =
        let u = single_given n t h in
        let w = made (outside n) Expression a p in
        let z = after_given (Op Sign.Equal) Value v refl q in (
          Op Sign.LPar ∷ (u.0 ++ (Op Sign.RPar ∷ (Op Sign.Colon ∷ (w.0 ++ z.0)))),
          pass_on (outside n) u.0 (Op Sign.RPar ∷ (Op Sign.Colon ∷ (w.0 ++ z.0))) u.1 (pass_on (outside n) w.0 z.0 w.1 z.1),
          F.annotated_group u.2 w.2 z.2,
        )
    annotated_given (Trees.Name x c) a v true h s p q =
        let k = and_parts (is_context Store c) (n.name x) h in
        let w = made (outside n) Expression a p in
        let z = after_given (Op Sign.Equal) Value v refl q in
        in_context (λ k. GivenAsSpelled (outside n) (F.Simple profile) (Trees.AnnAssign (Trees.Name x k) a v true)) Store c k.0 (
          in_form x ∷ (Op Sign.Colon ∷ (w.0 ++ z.0)),
          named_pass (outside n) x (Op Sign.Colon ∷ (w.0 ++ z.0)) k.1
              (pass_on (outside n) w.0 z.0 w.1 z.1),
          F.annotated_name w.2 z.2,
        )
    annotated_given _ a v true h s p q = absurd (never s)

    pub alias_assigned : n.name type_name ≡ true → (t : Expr) (ps : List TypeParam) (e : Expr) → has_types profile ≡ true
        → is_a_name t ≡ true → fits_target n Store t ≡ true →
        list_all (type_param_fits n) ps ≡ true → fits_at n Expression e ≡ true
        → GivenAsSpelled (outside n) (F.Simple profile) (Trees.TypeAlias t ps e)
    alias_assigned typed (Trees.Name x c) ps e h s f q p =
        let k = and_parts (is_context Store c) (n.name x) f in
        let u = type_params profile ps (and_from (no_types ps || has_types profile) (list_all (type_param_fits n) ps)
        (either (no_types ps) (has_types profile) h) q) in
        let v = made (outside n) Expression e p in
        in_context (λ k. GivenAsSpelled (outside n) (F.Simple profile) (Trees.TypeAlias (Trees.Name x k) ps e)) Store c k.0 (
          in_form type_name ∷ (in_form x ∷ (u.0 ++ (Op Sign.Equal ∷ v.0))),
          named_pass (outside n) type_name (in_form x ∷ (u.0 ++ (Op Sign.Equal ∷ v.0))) typed
              (named_pass (outside n) x (u.0 ++ (Op Sign.Equal ∷ v.0)) k.1 (pass_on (outside n) u.0 (Op Sign.Equal ∷ v.0) u.1 v.1)),
          F.type_alias h u.2 v.2,
        )
      where
        either : (a b : Bool) → b ≡ true → (a || b) ≡ true
        either true b h = refl
        either false b h = h
    alias_assigned typed _ ps e h s f q p = absurd (never s)

    pub raise_given : (e c : Option Expr) → raised_fits n e c ≡ true → GivenAsSpelled (outside n) (F.Simple profile) (Trees.Raise e c)
    raise_given None None h = (Word Key.Raise ∷ [], refl, F.raise_alone)
    raise_given (Some e) None h = let u = made (outside n) Expression e h in
        (Word Key.Raise ∷ (u.0 ++ []), pass_on (outside n) u.0 [] u.1 refl, F.raise_of u.2 F.none_after)
    raise_given None (Some c) h = absurd (never h)
    raise_given (Some e) (Some c) h =
        let w = and_parts (fits_at n Expression e) (fits_at n Expression c) h in
        let u = made (outside n) Expression e w.0 in
        let v = made (outside n) Expression c w.1 in (
          Word Key.Raise ∷ (u.0 ++ (Word Key.From ∷ v.0)),
          pass_on (outside n) u.0 (Word Key.From ∷ v.0) u.1 v.1,
          F.raise_of u.2 (F.following v.2),
        )

    pub assert_given : (e : Expr) (m : Option Expr) → fits_at n Expression e ≡ true → perhaps_fits n Expression (optional m) ≡ true
        → GivenAsSpelled (outside n) (F.Simple profile) (Trees.Assert e m)
    assert_given e m h q =
        let u = made (outside n) Expression e h in
        let v = after_given (Op Sign.Comma) Expression m refl q in
        (Word Key.Assert ∷ (u.0 ++ v.0), pass_on (outside n) u.0 v.0 u.1 v.1, F.assert_of u.2 v.2)

    pub return_given : (e : Option Expr) → perhaps_fits n Stars (optional e) ≡ true
        → GivenAsSpelled (outside n) (F.Simple profile) (Trees.Return e)
    return_given e h = let u = perhaps Stars e h in (Word Key.Return ∷ u.0, u.1, F.return_of u.2)

    pub value_given : (e : Expr) → fits_at n Value e ≡ true → GivenAsSpelled (outside n) (F.Simple profile) (Trees.ExprOf e)
    value_given e h = let u = made (outside n) Value e h in (u.0, u.1, F.value u.2)

    pub global_given : (xs : List Identifier) → has_one xs ≡ true → list_all n.name xs ≡ true
        → GivenAsSpelled (outside n) (F.Simple profile) (Trees.Global xs)
    global_given xs h q = let u = some_commas n.name name_given xs h q in (Word Key.Global ∷ u.0, u.1, F.global u.2)

    pub nonlocal_given : (xs : List Identifier) → has_one xs ≡ true → list_all n.name xs ≡ true
        → GivenAsSpelled (outside n) (F.Simple profile) (Trees.Nonlocal xs)
    nonlocal_given xs h q = let u = some_commas n.name name_given xs h q in (Word Key.Nonlocal ∷ u.0, u.1, F.nonlocal u.2)

    pub import_given : (as_ : List Alias) → has_one as_ ≡ true → list_all (import_fits n.name) as_ ≡ true
        → GivenAsSpelled (outside n) (F.Simple profile) (Trees.Import as_)
    import_given as_ h q = let u = some_commas (import_fits n.name) module_given as_ h q in (Word Key.Import ∷ u.0, u.1, F.import_names u.2)

    pub import_from_given : (m : Option Identifier) (as_ : List Alias) (k : ℕ) → source_fits n.name m k ≡ true
        → imports_fit n.name as_ ≡ true → GivenAsSpelled (outside n) (F.Simple profile) (Trees.ImportFrom m as_ k)
    import_from_given None as_ k h q =
        let u = dots_given k in
        let v = names_given as_ q in (
          Word Key.From ∷ (u.0 ++ (Word Key.Import ∷ v.0)),
          pass_on (outside n) u.0 (Word Key.Import ∷ v.0) u.1 v.1,
          F.from_dots u.2 (ltb-true 0 k h) v.2,
        )
    import_from_given (Some m) as_ k h q =
        let u = dots_given k in
        let w = dotted_given n m h in
        let v = names_given as_ q in (
          Word Key.From ∷ (u.0 ++ (w.0 ++ (Word Key.Import ∷ v.0))),
          pass_on (outside n) u.0 (w.0 ++ (Word Key.Import ∷ v.0)) u.1
              (pass_on (outside n) w.0 (Word Key.Import ∷ v.0) w.1 v.1),
          F.from_module u.2 w.2 v.2,
        )

    -- ---- Headers.

    named : (e : Expr) → fits_at n Expression e ≡ true → P.At (outside n) Named e
    named e h = P.at (outside n) Named (made (outside n) Expression e h)

    pub if_given : (e : Expr) → fits_at n Expression e ≡ true → GivenAsSpelled (outside n) (F.HeaderOf profile) (if_header e)
    if_given e h = let u = named e h in (Word Key.If ∷ u.0, u.1, F.if_line u.2)

    pub while_given : (e : Expr) → fits_at n Expression e ≡ true
        → GivenAsSpelled (outside n) (F.HeaderOf profile) (loop_header (while_head e))
    while_given e h = let u = named e h in (Word Key.While ∷ u.0, u.1, F.while_line u.2)

    pub for_given : (b : Bool) (t e : Expr) → fits_target n Store t ≡ true → fits_at n Stars e ≡ true
        → GivenAsSpelled (outside n) (F.HeaderOf profile) (loop_header (for_head b t e))
    for_given b t e h q =
        let a = async_given b in
        let u = target_given n t h in
        let v = made (outside n) Stars e q in (
          a.0 ++ (Word Key.For ∷ (u.0 ++ (Word Key.In ∷ v.0))),
          pass_on (outside n) a.0 (Word Key.For ∷ (u.0 ++ (Word Key.In ∷ v.0))) a.1
              (pass_on (outside n) u.0 (Word Key.In ∷ v.0) u.1 v.1),
          F.for_line a.2 u.2 v.2,
        )

    item_given : (i : Item) → item_fits n i ≡ true → GivenAsSpelled (outside n) F.ItemOf i
    item_given i h = let w = and_parts (fits_at n Expression i.context_expr) (perhaps_target_fits n i.optional_vars) h in
        by i.context_expr i.optional_vars w.0 w.1
      where
        by : (e : Expr) (t : Option Expr) → fits_at n Expression e ≡ true → perhaps_target_fits n t ≡ true
            → GivenAsSpelled (outside n) F.ItemOf (item e t)
        by e None h q = let u = made (outside n) Expression e h in (u.0, u.1, F.bare_item u.2)
        by e (Some t) h q =
            let u = made (outside n) Expression e h in
            let v = item_target_given n t q in
            (u.0 ++ (Word Key.As ∷ v.0), pass_on (outside n) u.0 (Word Key.As ∷ v.0) u.1 v.1, F.item_as u.2 v.2)

    pub with_given : (b : Bool) (is : List Item) → has_one is ≡ true → list_all (item_fits n) is ≡ true
        → GivenAsSpelled (outside n) (F.HeaderOf profile) (with_header b is)
    with_given b is h q =
        let a = async_given b in
        let u = some_commas (item_fits n) item_given is h q in
        let ts : List Terminal = Op Sign.LPar ∷ (u.0 ++ (Op Sign.RPar ∷ [])) in (
          a.0 ++ (Word Key.With ∷ ts),
          pass_on (outside n) a.0 (Word Key.With ∷ ts) a.1 (pass_on (outside n) u.0 (Op Sign.RPar ∷ []) u.1 refl),
          F.with_line a.2 (F.in_brackets (F.bracketed (F.ends_bare u.2))),
        )

    pub except_given : (star : Bool) (class : Option Expr) (name : Option Identifier) → caught_fits n star class name ≡ true
        → GivenAsSpelled (outside n) (F.HeaderOf profile) (except_header star class name)
    except_given true None name h = absurd (never h)
    except_given false None None h = (Word Key.Except ∷ [], refl, F.except_all)
    except_given false None (Some x) h = absurd (never h)
    except_given star (Some e) name h =
        let w = and_parts (fits_at n Expression e) (perhaps_name n.name name) h in
        let u = made (outside n) Expression e w.0 in
        let v = as_given name w.1 in
        by star (u.0 ++ v.0) (pass_on (outside n) u.0 v.0 u.1 v.1) (F.except_line u.2 v.2) (F.except_star u.2 v.2)
      where
        by : (star : Bool) (ts : List Terminal) → Passed (outside n) ts
            → F.HeaderOf profile (Word Key.Except ∷ ts) (except_header false (Some e) name) →
            F.HeaderOf profile (Word Key.Except ∷ (Op Sign.Star ∷ ts)) (except_header true (Some e) name)
            → GivenAsSpelled (outside n) (F.HeaderOf profile) (except_header star (Some e) name)
        by false ts s p q = (Word Key.Except ∷ ts, s, p)
        by true ts s p q = (Word Key.Except ∷ (Op Sign.Star ∷ ts), s, q)

    pub function_given : (b : Bool) (x : Identifier) (tps : List TypeParam) (a : Arguments) (r : Option Expr) →
        n.name x ≡ true → types_fit profile n tps ≡ true → fits_arguments n true a ≡ true → perhaps_fits n Expression (optional r) ≡ true
        → GivenAsSpelled (outside n) (F.HeaderOf profile) (def_header (function_head b x tps a r))
    function_given b x tps a r h t f q =
        let s = async_given b in
        let u = type_params profile tps t in
        let v = parameters_given n true a f in
        let w = after_given (Op Sign.RArrow) Expression r refl q in
        let us = u.0 ++ (Op Sign.LPar ∷ (v.0 ++ (Op Sign.RPar ∷ w.0))) in (
          s.0 ++ (Word Key.Def ∷ (in_form x ∷ us)),
          pass_on (outside n) s.0 (Word Key.Def ∷ (in_form x ∷ us)) s.1
              (named_pass (outside n) x us h (pass_on (outside n) u.0 (Op Sign.LPar ∷ (v.0 ++ (Op Sign.RPar ∷ w.0))) u.1
              (pass_on (outside n) v.0 (Op Sign.RPar ∷ w.0) v.1 w.1))),
          F.def_line _ s.2 u.2 v.2.listing v.2.arranged_as w.2,
        )

    listed_same : (es : List Expr) → listed (exprs es) ≡ es
    listed_same [] = refl
    listed_same (e ∷ es) = ap (λ z. e ∷ z) (listed_same es)

    pub class_given : (x : Identifier) (tps : List TypeParam) (bases : List Expr) (ks : Keywords) →
        n.name x ≡ true → types_fit profile n tps ≡ true → (each_fits n Elem (exprs bases) && each_keyword_fits n ks) ≡ true
        → GivenAsSpelled (outside n) (F.HeaderOf profile) (def_header (class_head x tps bases ks))
    class_given x tps bases ks h t f =
        let u = type_params profile tps t in
        let v = arguments_given n (exprs bases) ks f in
        let a = v.2 in
        let vs = Op Sign.LPar ∷ (v.0 ++ (Op Sign.RPar ∷ [])) in
        let b : F.Bases vs bases ks =
        subst (λ z. F.Bases vs z ks) (listed_same bases) (subst (λ z. F.Bases vs (listed z) ks) a.positional_are
        (subst (λ z. F.Bases vs (listed (positional a.entries)) z) a.keywords_are (F.bases a.listing a.order))) in (
          Word Key.Class ∷ (in_form x ∷ (u.0 ++ vs)),
          named_pass (outside n) x (u.0 ++ vs) h (pass_on (outside n) u.0 vs u.1 (pass_on (outside n) v.0 (Op Sign.RPar ∷ []) v.1 refl)),
          F.class_line u.2 b,
        )

    -- ---- `match` and `case`.

    pub match_given : (e : Expr) → n.name match_name ≡ true → is_whole profile.extent ≡ true → fits_at n Expression e ≡ true
        → GivenAsSpelled (outside n) (F.FormOf profile) (header_form (match_header e) None)
    match_given e m q h =
        let u = P.at (outside n) Subject (made (outside n) Expression e h) in (
          in_form match_name ∷ (u.0 ++ (Op Sign.Colon ∷ [])),
          named_pass (outside n) match_name (u.0 ++ (Op Sign.Colon ∷ [])) m
              (pass_on (outside n) u.0 (Op Sign.Colon ∷ []) u.1 refl),
          F.match_line match_name q u.2,
        )

    guard : (g : Option Expr) → perhaps_fits n Expression (optional g) ≡ true → perhaps_fits n Named (optional g) ≡ true
    guard None h = refl
    guard (Some e) h = anywhere n Expression Named e refl h

    pub case_given : (p : Pattern) (g : Option Expr) → n.name case_name ≡ true → pattern_fits_at n AsPattern p ≡ true
        → perhaps_fits n Expression (optional g) ≡ true → GivenAsSpelled (outside n) F.CaseOf (case_header p g)
    case_given p g m h q =
        let u = pattern_given n Patterns p (fits_anywhere n AsPattern Patterns p refl h) in
        let v = after_given (Word Key.If) Named g refl (guard g q) in (
          in_form case_name ∷ (u.0 ++ v.0),
          named_pass (outside n) case_name (u.0 ++ v.0) m (pass_on (outside n) u.0 v.0 u.1 v.1),
          F.case_line case_name u.2 v.2,
        )
