-- Carries: the laws of the slots. On: an expression that fits is given.
use Rattle.std.proofs.Common.{◌≡◌, refl, ℕ, suc, [], ◌∷◌, Bool, true, false, ◌&&◌}
use Rattle.std.specs.Prelude.{not, eqb, leb, length}
use Rattle.std.proofs.lemmas.Bool.{and_parts, eqb-true, leb-true}
use Rattle.pytree_node.specs.declared.operators.Context.TheVariants.{Load, Store}
use Rattle.pytree_node.specs.Values
use Rattle.pytree_node.specs.Trees
use Rattle.pytree_node.specs.Trees.{Expr, Exprs, no_exprs, an_expr, OptionalExpr, absent, present, OptionalExprs, no_optional, an_optional}
use Rattle.pytree_node.specs.Trees.{Keywords, no_keyword, a_keyword, Comprehensions, no_comprehension, a_comprehension, arguments}
use Rattle.pygrammar.specs.declared.levels.Level.{Level}
use Rattle.pygrammar.specs.declared.levels.Level.TheVariants.{Stars, Named, Expression, Elem, Slices}
use Rattle.pygrammar.specs.Grammar as G
use Rattle.pytree_fits.specs.Tests.{in_field}
use Rattle.pytree_fits.specs.Literals.{has_formatted_text}
use Rattle.pytree_fits.specs.Slots.{takes_star, takes_slice, member_level, is_context, is_starred, is_a_name, count, count_optional}
use Rattle.pytree_fits.specs.Slots.{has_some, perhaps_name, fits_at, fits_target, each_target_fits, each_fits, perhaps_fits}
use Rattle.pytree_fits.specs.Slots.{each_perhaps_fits, each_keyword_fits, each_clause_fits, fits_arguments, is_kind, is_last, are_apart}
use Rattle.pytree_fits.specs.Slots.{have_kind, spec_has_kind, may_be_joined, each_value_fits, spec_fits, joined_fits}
use Rattle.pytree_fits.proofs.Fields.Standing.{Standing, here, in_string}
use Rattle.pytree_fits.proofs.Fields.AsSpelled.{GivenAsSpelled}
use Rattle.pytree_fits.proofs.Fields.Tests.{parts3, parts4, never, in_context}
use Rattle.pytree_fits.proofs.Giving.Places as P
use Rattle.pytree_fits.proofs.Giving.Strings.{Formed, none_formed, text_formed, field_formed, spec_given, Joined, strings_given}
use Rattle.pytree_fits.proofs.Giving.Strings.{joined_atom}
use Rattle.pytree_fits.proofs.Giving.Places.{lifted, MayBe, left_out, there, Each, no_more, one_more, starred_at}
use Rattle.pytree_fits.proofs.Giving.Making.{name_given, constant_given, binary_given, unary_given, await_given, chain_given, compare_given}
use Rattle.pytree_fits.proofs.Giving.Making.{if_given, named_given, yield_from_given, yield_given, tuple_given, list_given, set_given}
use Rattle.pytree_fits.proofs.Giving.Making.{attribute_given, subscript_given, slice_given}
use Rattle.pytree_fits.proofs.Giving.Calls.{Positional, no_positional, a_plain, a_star, Labelled, no_label, a_label, call_given, Keys}
use Rattle.pytree_fits.proofs.Giving.Calls.{no_keys, no_key, a_key, dict_given, ATarget, TargetList, no_lone_target, one_more_target, name_target, attribute_target}
use Rattle.pytree_fits.proofs.Giving.Calls.{subscript_target, tuple_target, list_target, starred_target, Clauses, no_clause, a_clause, generator_given}
use Rattle.pytree_fits.proofs.Giving.Calls.{list_comp_given, set_comp_given, dict_comp_given}
use Rattle.pytree_fits.proofs.Fields.Arranging.{fit_parts}
use Rattle.pytree_fits.proofs.Giving.Parameters.{lambda_given}

module _ (n : Standing) where
  -- the target of `:=`
  named_as : (l : Level) (t e : Expr) → is_a_name t ≡ true → fits_target (here n) Store t ≡ true → P.At n Expression e
      → P.At n l (Trees.NamedExpr t e)
  named_as l (Trees.Name x c) e h f p = let w = and_parts (is_context Store c) (n.tests.name x) f in
      in_context (λ k. P.At n l (Trees.NamedExpr (Trees.Name x k) e)) Store c w.0 (named_given n l x e w.1 p)
  named_as l _ e h f p = absurd (never h)

mutual
  pub made : (n : Standing) → (l : Level) (e : Expr) → fits_at (here n) l e ≡ true → P.At n l e
  made n l (Trees.BoolOp o es) h = let w = and_parts (leb 2 (count es)) (each_fits (here n) Expression es) h in
      chain_given n l o es (leb-true 2 (count es) w.0) (each n Expression es w.1)
  made n l (Trees.NamedExpr t e) h = let w = parts3 (is_a_name t) (fits_target (here n) Store t) (fits_at (here n) Expression e) h in
      named_as n l t e w.0 w.1 (made n Expression e w.2)
  made n l (Trees.BinOp a o b) h = let w = and_parts (fits_at (here n) Expression a) (fits_at (here n) Expression b) h in
      binary_given n l a o b (made n Expression a w.0) (made n Expression b w.1)
  made n l (Trees.UnaryOp o e) h = unary_given n l o e (made n Expression e h)
  made n l (Trees.Lambda (arguments ps qs v ks ds k es) e) h =
      let w = and_parts (fits_arguments (here n) false (arguments ps qs v ks ds k es)) (fits_at (here n) Expression e) h in
      let p = fit_parts (here n) false (arguments ps qs v ks ds k es) w.0 in
      lambda_given n l ps qs v ks ds k es e p (keys n ds p.only_defaults) (each n Expression es p.defaults) (made n Expression e w.1)
  made n l (Trees.IfExp a b c) h =
      let w = parts3 (fits_at (here n) Expression a) (fits_at (here n) Expression b) (fits_at (here n) Expression c) h in
      if_given n l a b c (made n Expression a w.0) (made n Expression b w.1) (made n Expression c w.2)
  made n l (Trees.Dict ks es) h =
      let w = parts3 (eqb (count_optional ks) (count es)) (each_perhaps_fits (here n) ks) (each_fits (here n) Expression es) h in
      dict_given n l ks es (eqb-true (count_optional ks) (count es) w.0) (keys n ks w.1) (each n Expression es w.2)
  made n l (Trees.Set es) h = let w = and_parts (leb 1 (count es)) (each_fits (here n) Elem es) h in
      set_given n l es (leb-true 1 (count es) w.0) (each n Elem es w.1)
  made n l (Trees.ListComp e gs) h = let w = parts3 (has_some gs) (fits_at (here n) Expression e) (each_clause_fits (here n) gs) h in
      list_comp_given n l e gs w.0 (made n Expression e w.1) (clauses n gs w.2)
  made n l (Trees.SetComp e gs) h = let w = parts3 (has_some gs) (fits_at (here n) Expression e) (each_clause_fits (here n) gs) h in
      set_comp_given n l e gs w.0 (made n Expression e w.1) (clauses n gs w.2)
  made n l (Trees.DictComp k e gs) h =
      let w = parts4 (has_some gs) (fits_at (here n) Expression k) (fits_at (here n) Expression e) (each_clause_fits (here n) gs) h in
      dict_comp_given n l k e gs w.0 (made n Expression k w.1) (made n Expression e w.2) (clauses n gs w.3)
  made n l (Trees.GeneratorExp e gs) h = let w = parts3 (has_some gs) (fits_at (here n) Expression e) (each_clause_fits (here n) gs) h in
      generator_given n l e gs w.0 (made n Expression e w.1) (clauses n gs w.2)
  made n l (Trees.Await e) h = await_given n l e (made n Expression e h)
  made n l (Trees.Yield e) h = yield_given n l e (may_be n Stars e h)
  made n l (Trees.YieldFrom e) h = yield_from_given n l e (made n Expression e h)
  made n l (Trees.Compare a os es) h =
      let w = parts4 (leb 1 (length os)) (eqb (length os) (count es)) (fits_at (here n) Expression a)
      (each_fits (here n) Expression es) h in
      compare_given n l a os es (leb-true 1 (length os) w.0) (eqb-true (length os) (count es) w.1) (made n Expression a w.2)
      (each n Expression es w.3)
  made n l (Trees.Call f es ks) h =
      let w = parts3 (fits_at (here n) Expression f) (each_fits (here n) Elem es) (each_keyword_fits (here n) ks) h in
      call_given n l f es ks (made n Expression f w.0) (positional n es w.1) (labelled n ks w.2)
  made n l (Trees.Constant v) h = constant_given n l v h
  made n l (Trees.JoinedStr es) h =
      let w = parts3 (may_be_joined (here n) es) (are_apart false es) (each_value_fits (here n) 0 es) h in
      lifted n l (joined_atom n es (strings_given n es w.0 (λ u k. values n 0 u false false es w.2 w.1 k)))
  made n l (Trees.FormattedValue e c s) h = absurd (never h)
  made n l (Trees.Attribute e x c) h =
      let w = parts3 (is_context Load c) (n.tests.name x) (fits_at (here n) Expression e) h in
      in_context (λ k. P.At n l (Trees.Attribute e x k)) Load c w.0 (attribute_given n l e x w.1 (made n Expression e w.2))
  made n l (Trees.Subscript e s c) h =
      let w = parts3 (is_context Load c) (fits_at (here n) Expression e) (fits_at (here n) Slices s) h in
      in_context (λ k. P.At n l (Trees.Subscript e s k)) Load c w.0
      (subscript_given n l e s (made n Expression e w.1) (made n Slices s w.2))
  made n l (Trees.Starred e c) h =
      let w = parts3 (takes_star l) (is_context Load c) (fits_at (here n) Expression e) h in
      in_context (λ k. P.At n l (Trees.Starred e k)) Load c w.1 (starred_at n l w.0 (made n Expression e w.2))
  made n l (Trees.Name x c) h = let w = and_parts (is_context Load c) (n.tests.name x) h in
      in_context (λ k. P.At n l (Trees.Name x k)) Load c w.0 (name_given n l x w.1)
  made n l (Trees.ListOf es c) h = let w = and_parts (is_context Load c) (each_fits (here n) Elem es) h in
      in_context (λ k. P.At n l (Trees.ListOf es k)) Load c w.0 (list_given n l es (each n Elem es w.1))
  made n l (Trees.Tuple es c) h =
      let w = and_parts (is_context Load c) (each_fits (here n) (member_level l) es) h in
      in_context (λ k. P.At n l (Trees.Tuple es k)) Load c w.0 (tuple_given n l es (each n (member_level l) es w.1))
  made n l (Trees.Slice a b c) h =
      let w = parts4 (takes_slice l) (perhaps_fits (here n) Expression a) (perhaps_fits (here n) Expression b)
      (perhaps_fits (here n) Expression c) h in
      slice_given n l a b c w.0 (may_be n Expression a w.1) (may_be n Expression b w.2) (may_be n Expression c w.3)

  pub a_target : (n : Standing) → (s : Expr) → fits_target (here n) Store s ≡ true → ATarget n s
  a_target n (Trees.Name x c) h = let w = and_parts (is_context Store c) (n.tests.name x) h in
      in_context (λ k. ATarget n (Trees.Name x k)) Store c w.0 (name_target n x w.1)
  a_target n (Trees.Attribute e x c) h =
      let w = parts3 (is_context Store c) (n.tests.name x) (fits_at (here n) Expression e) h in
      in_context (λ k. ATarget n (Trees.Attribute e x k)) Store c w.0 (attribute_target n e x w.1 (made n Expression e w.2))
  a_target n (Trees.Subscript e s c) h =
      let w = parts3 (is_context Store c) (fits_at (here n) Expression e) (fits_at (here n) Slices s) h in
      in_context (λ k. ATarget n (Trees.Subscript e s k)) Store c w.0 (subscript_target n e s (made n Expression e w.1) (made n Slices s w.2))
  a_target n (Trees.Tuple es c) h = let w = and_parts (is_context Store c) (each_target_fits (here n) Store es) h in
      in_context (λ k. ATarget n (Trees.Tuple es k)) Store c w.0 (tuple_target n es (target_list n es w.1))
  a_target n (Trees.ListOf es c) h = let w = and_parts (is_context Store c) (each_target_fits (here n) Store es) h in
      in_context (λ k. ATarget n (Trees.ListOf es k)) Store c w.0 (list_target n es (target_list n es w.1))
  a_target n (Trees.Starred e c) h =
      let w = parts3 (is_context Store c) (not (is_starred e)) (fits_target (here n) Store e) h in
      in_context (λ k. ATarget n (Trees.Starred e k)) Store c w.0 (starred_target n e w.1 (a_target n e w.2))
  a_target n _ h = absurd (never h)

  target_list : (n : Standing) → (es : Exprs) → each_target_fits (here n) Store es ≡ true → TargetList n es
  target_list n no_exprs h = no_lone_target
  target_list n (an_expr e es) h = let w = and_parts (fits_target (here n) Store e) (each_target_fits (here n) Store es) h in
      one_more_target (a_target n e w.0) (target_list n es w.1)

  pub each : (n : Standing) → (l : Level) (es : Exprs) → each_fits (here n) l es ≡ true → Each n l es
  each n l no_exprs h = no_more
  each n l (an_expr e es) h = let w = and_parts (fits_at (here n) l e) (each_fits (here n) l es) h in
      one_more (made n l e w.0) (each n l es w.1)

  pub may_be : (n : Standing) → (l : Level) (e : OptionalExpr) → perhaps_fits (here n) l e ≡ true → MayBe n l e
  may_be n l absent h = left_out
  may_be n l (present e) h = there (made n l e h)

  pub keys : (n : Standing) → (ks : OptionalExprs) → each_perhaps_fits (here n) ks ≡ true → Keys n ks
  keys n no_optional h = no_keys
  keys n (an_optional absent ks) h = no_key (keys n ks h)
  keys n (an_optional (present e) ks) h = let w = and_parts (fits_at (here n) Expression e) (each_perhaps_fits (here n) ks) h in
      a_key (made n Expression e w.0) (keys n ks w.1)

  pub positional : (n : Standing) → (es : Exprs) → each_fits (here n) Elem es ≡ true → Positional n es
  positional n no_exprs h = no_positional
  positional n (an_expr (Trees.Starred e c) es) h =
      let w = parts3 (is_context Load c) (fits_at (here n) Expression e) (each_fits (here n) Elem es) h in
      in_context (λ k. Positional n (an_expr (Trees.Starred e k) es)) Load c w.0 (a_star (made n Expression e w.1) (positional n es w.2))
  positional n (an_expr e es) h = let w = and_parts (fits_at (here n) Elem e) (each_fits (here n) Elem es) h in
      a_plain (made n Named e w.0) (positional n es w.1)

  pub labelled : (n : Standing) → (ks : Keywords) → each_keyword_fits (here n) ks ≡ true → Labelled n ks
  labelled n no_keyword h = no_label
  labelled n (a_keyword x e ks) h =
      let w = parts3 (perhaps_name n.tests.name x) (fits_at (here n) Expression e) (each_keyword_fits (here n) ks) h in
      a_label x w.0 (made n Expression e w.1) (labelled n ks w.2)

  clauses : (n : Standing) → (gs : Comprehensions) → each_clause_fits (here n) gs ≡ true → Clauses n gs
  clauses n no_comprehension h = no_clause
  clauses n (a_comprehension t e cs b gs) h =
      let w = parts4 (fits_target (here n) Store t) (fits_at (here n) Expression e) (each_fits (here n) Expression cs)
      (each_clause_fits (here n) gs) h in
      a_clause (a_target n t w.0) (made n Expression e w.1) (each n Expression cs w.2) (clauses n gs w.3)

  -- the values of an f-string or of a format spec
  pub values : (n : Standing) (d : ℕ) (u s b : Bool) (es : Exprs) → each_value_fits (here n) d es ≡ true → are_apart b es ≡ true
      → have_kind u s es ≡ true → Formed (in_string n d) u s b es
  values n d u s b no_exprs h a k = none_formed (in_string n d) u s b
  values n d u s true (an_expr (Trees.Constant v) es) h a k = absurd (never a)
  values n d u s false (an_expr (Trees.Constant (Values.Str (c ∷ cs) t)) es) h a k =
      let w = and_parts (has_formatted_text (here n).fields d (c ∷ cs)) (each_value_fits (here n) d es) h in
      let r = and_parts (is_kind (u && not (s && is_last es)) t) (have_kind u s es) k in
      text_formed n d u s c cs t es w.0 r.0 (values n d u s true es w.1 a r.1)
  values n d u s b (an_expr (Trees.FormattedValue e c o) es) h a k =
      let w = and_parts (leb d 1 && fits_at (in_field (here n)) Expression e && spec_fits (here n) (suc d) o)
      (each_value_fits (here n) d es) h in
      let x = parts3 (leb d 1) (fits_at (in_field (here n)) Expression e) (spec_fits (here n) (suc d) o) w.0 in
      let r = and_parts (spec_has_kind u o) (have_kind u s es) k in
      field_formed n d u s b e c o es x.0 (made (in_string n (suc d)) Expression e x.1) (spec n (suc d) u o x.2 r.0)
      (values n d u s false es w.1 (and_parts (not (b && false)) (are_apart false es) a).1 r.1)
  values n d u s b (an_expr _ es) h a k = absurd (never h)

  spec : (n : Standing) (d : ℕ) (u : Bool) (a : OptionalExpr) → spec_fits (here n) d a ≡ true → spec_has_kind u a ≡ true
      → GivenAsSpelled (in_string n d) (G.Spec u) a
  spec n d u absent h k = ([], refl, G.no_spec)
  spec n d u (present (Trees.JoinedStr es)) h k =
      let w = and_parts (are_apart false es) (each_value_fits (here n) d es) h in
      spec_given n d u es (values n d u true false es w.1 w.0 k)
  spec n d u (present _) h k = absurd (never h)

-- the literals of a JoinedStr
pub joined_given : (n : Standing) (es : Exprs) → joined_fits (here n) es ≡ true → Joined n es
joined_given n es h =
    let w = parts3 (may_be_joined (here n) es) (are_apart false es) (each_value_fits (here n) 0 es) h in
    strings_given n es w.0 (λ u k. values n 0 u false false es w.2 w.1 k)
