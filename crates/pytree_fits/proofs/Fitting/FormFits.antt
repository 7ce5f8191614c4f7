-- Carries: the law of modules. On: what a form of a line is given of, fits.
use Rattle.std.proofs.Common.{◌≡◌, refl, sym, ap, subst, List, [], ◌∷◌, ◌++◌, Option, Some, None, Bool, true, false}
use Rattle.std.specs.Prelude.{nat_lt, ◌&&◌, ◌||◌}
use Rattle.std.specs.List.{list_all}
use Rattle.std.proofs.lemmas.Bool.{and_parts, and_from, or_right, lt-ltb}
use Rattle.pylex_lexeme.specs.declared.kinds.Exact.TheVariants as Sign
use Rattle.pytoken.specs.declared.keywords.Keyword.TheVariants as Key
use Rattle.pytree_node.specs.declared.operators.Context.TheVariants.{Store, Del}
use Rattle.pytree_node.specs.declared.profiles.Profile.{Profile}
use Rattle.pytree_node.specs.Trees.{Identifier, Expr, Exprs, no_exprs, an_expr, exprs, optional, Keywords, Stmt, stmts, Alias, Item}
use Rattle.pytree_node.specs.Trees.{TypeParam}
use Rattle.pytoken.specs.Terminals.{Terminal, Op, Word, Ident}
use Rattle.pygrammar.specs.declared.levels.Level.{Level}
use Rattle.pygrammar.specs.declared.levels.Level.TheVariants.{Value, Stars, Named, Expression, Elem}
use Rattle.pygrammar.specs.declared.pattern_levels.PatternLevel.TheVariants as PatternLevel
use Rattle.pygrammar.specs.declared.pattern_levels.PatternLevel.TheVariants.{AsPattern}
use Rattle.pygrammar.specs.Arguments.{positional, keywords}
use Rattle.pygrammar.specs.Grammar as G
use Rattle.pygrammar.specs.Lines.{Form, simple_form, decorator_form, header_form, Header, if_header, elif_header, else_header, loop_header}
use Rattle.pygrammar.specs.Lines.{with_header, try_header, except_header, finally_header, def_header, match_header, case_header, while_head}
use Rattle.pygrammar.specs.Lines.{for_head, function_head, class_head, no_types}
use Rattle.pygrammar.specs.Forms as F
use Rattle.pygrammar.specs.Forms.{listed, is_whole}
use Rattle.pytree_node.specs.Profiles.{has_types}
use Rattle.pygrammar.specs.OpenStrings.{open_following}
use Rattle.pygrammar.proofs.Callers.OpenStrings.{expression_closes, single_target_closes, del_target_closes, target_closes, listing_closes}
use Rattle.pygrammar.proofs.Callers.OpenStrings.{pattern_closes, simple_closes, header_closes, case_closes}
use Rattle.pytree_fits.specs.Tests.{Tests}
use Rattle.pytree_fits.specs.Slots.{is_single, perhaps_name, fits_at, fits_target, each_target_fits, each_fits, perhaps_fits}
use Rattle.pytree_fits.specs.Slots.{each_keyword_fits, fits_arguments}
use Rattle.pytree_fits.specs.PatternSlots.{pattern_fits_at}
use Rattle.pytree_fits.specs.Statements.{has_one, dotted, import_fits, alias_fits, imports_fit, item_fits, type_param_fits, types_fit}
use Rattle.pytree_fits.specs.Statements.{raised_fits, caught_fits, statement_fits, statements_fit}
use Rattle.pytree_fits.proofs.Fields.Standing.{outside, pass_at, left, right, following}
use Rattle.pytree_fits.proofs.Fields.Closings.{Closes}
use Rattle.pytree_fits.proofs.Fields.LineClosings.{async_closes, type_params_close, module_closes, module_alias_closes, name_alias_closes}
use Rattle.pytree_fits.proofs.Fields.LineClosings.{dots_close, item_closes, name_closes, targets_close, type_param_closes}
use Rattle.pytree_fits.proofs.Fields.Tests.{from3, from4}
use Rattle.pytree_fits.proofs.Fields.Levels.{plain, subject_plain}
use Rattle.pytree_fits.proofs.Fields.PatternFields.{fits_anywhere}
use Rattle.pytree_fits.proofs.Fields.Arranging.{arranged_fit}
use Rattle.pytree_fits.proofs.Fields.Entries.{positional_fit, keywords_fit}
use Rattle.pytree_fits.proofs.Fitting.Fits.{slots, listing, target_fits, single_target_fits, del_target_fits, item_target_fits}
use Rattle.pytree_fits.proofs.Fitting.PatternFits.{fits}
use Rattle.pytree_fits.proofs.Fields.Dots.{is_other, dotted_fits}

pub from5 : (x y z u v : Bool) → x ≡ true → y ≡ true → z ≡ true → u ≡ true → v ≡ true → (x && y && z && u && v) ≡ true
from5 true y z u v p q r s t = from4 y z u v q r s t
from5 false y z u v p q r s t = absurd (cc)

-- what a header asks for, without its blocks
abbrev pub header_fits : Profile → Tests → Header → Bool
header_fits p n (if_header test) = fits_at n Expression test
header_fits p n (elif_header test) = fits_at n Expression test
header_fits p n else_header = true
header_fits p n (loop_header (while_head test)) = fits_at n Expression test
header_fits p n (loop_header (for_head is_async target iter)) = fits_target n Store target && fits_at n Stars iter
header_fits p n (with_header is_async items) = has_one items && list_all (item_fits n) items
header_fits p n try_header = true
header_fits p n (except_header star class name) = caught_fits n star class name
header_fits p n finally_header = true
header_fits p n (def_header (function_head is_async name parameters args returns)) =
    n.name name && fits_arguments n true args && perhaps_fits n Expression (optional returns) && types_fit p n parameters
header_fits p n (def_header (class_head name parameters bases keywords)) =
    n.name name && each_fits n Elem (exprs bases) && each_keyword_fits n keywords && types_fit p n parameters
header_fits p n (match_header subject) = is_whole p.extent && fits_at n Expression subject
header_fits p n (case_header pattern guard) = is_whole p.extent && pattern_fits_at n AsPattern pattern && perhaps_fits n
    Expression (optional guard)

abbrev pub inline_fits : Profile → Tests → List Stmt → Bool
inline_fits p n ss = has_one ss && statements_fit p n (stmts ss)

abbrev pub form_fits : Profile → Tests → Form → Bool
form_fits p n (simple_form ss) = inline_fits p n ss
form_fits p n (decorator_form e) = fits_at n Expression e
form_fits p n (header_form h None) = header_fits p n h
form_fits p n (header_form h (Some ss)) = header_fits p n h && inline_fits p n ss

-- ---- Lists with commas.

module _ (n : Tests) where
  commas_fit : {A : Type 0} {X : List Terminal → A → Type 0} (f : A → Bool) → ((ts : List Terminal) (a : A) → X ts a → Closes ts)
      → ((ts : List Terminal) (a : A) → X ts a → pass_at (outside n) ts ≡ true → f a ≡ true) →
      {ts : List Terminal} {xs : List A} → F.Commas A X ts xs → pass_at (outside n) ts ≡ true → list_all f xs ≡ true
  commas_fit f h g (F.alone {ts = ts} {a = a} p) s = and_from (f a) true (g ts a p s) refl
  commas_fit f h g (F.comma {ts = ts} {us = us} {a = a} {as_ = xs} p c) s =
      and_from (f a) (list_all f xs) (g ts a p (left (outside n) ts (Op Sign.Comma ∷ us) s))
      (commas_fit f h g c (right (outside n) ts (h ts a p).is (Op Sign.Comma ∷ us) s))

  some_commas : {A : Type 0} {X : List Terminal → A → Type 0} {ts : List Terminal} {xs : List A} → F.Commas A X ts xs → has_one xs ≡ true
  some_commas (F.alone p) = refl
  some_commas (F.comma p c) = refl

  ended_fit : {A : Type 0} {X : List Terminal → A → Type 0} (f : A → Bool) → ((ts : List Terminal) (a : A) → X ts a → Closes ts)
      → ((ts : List Terminal) (a : A) → X ts a → pass_at (outside n) ts ≡ true → f a ≡ true) →
      {ts : List Terminal} {xs : List A} → F.Commas? A X ts xs → pass_at (outside n) ts ≡ true → list_all f xs ≡ true
  ended_fit f h g (F.ends_bare c) s = commas_fit f h g c s
  ended_fit f h g (F.ends_comma {ts = ts} c) s = commas_fit f h g c (left (outside n) ts (Op Sign.Comma ∷ []) s)

  some_ended : {A : Type 0} {X : List Terminal → A → Type 0} {ts : List Terminal} {xs : List A} → F.Commas? A X ts xs → has_one xs ≡ true
  some_ended (F.ends_bare c) = some_commas c
  some_ended (F.ends_comma c) = some_commas c

  -- ---- Parts.

  perhaps : {l : Level} {ts : List Terminal} {e : Option Expr} → F.Perhaps l ts e → pass_at (outside n) ts ≡ true
      → perhaps_fits n l (optional e) ≡ true
  perhaps F.left_out s = refl
  perhaps (F.given p) s = slots (outside n) p s

  after_fits : {t : Terminal} {l : Level} {ts : List Terminal} {e : Option Expr} → open_following [] t ≡ [] → F.Following t l ts e
      → pass_at (outside n) ts ≡ true → perhaps_fits n l (optional e) ≡ true
  after_fits k F.none_after s = refl
  after_fits k (F.following {t = t} {ts = ts} p) s = slots (outside n) p (following (outside n) t k ts s)

  as_fits : {ts : List Terminal} {x : Option Identifier} → F.As ts x → pass_at (outside n) ts ≡ true → perhaps_name n.name x ≡ true
  as_fits F.no_as s = refl
  as_fits (F.as_name {x = x}) s = (and_parts (n.name x.form) true s).0

  name_fits : {ts : List Terminal} {x : Identifier} → F.Name ts x → pass_at (outside n) ts ≡ true → n.name x ≡ true
  name_fits (F.name {x = x}) s = (and_parts (n.name x.form) true s).0

  type_param : {ts : List Terminal} {p : TypeParam} → F.TypeParamOf ts p → pass_at (outside n) ts ≡ true → type_param_fits n p ≡ true
  type_param (F.type_var {x = x} {ts = ts} {bound = b} q) s =
      let w = and_parts (n.name x.form) (pass_at (outside n) ts) s in
      and_from (n.name x.form) (perhaps_fits n Expression (optional b)) w.0 (after_fits refl q w.1)
  type_param (F.type_var_tuple {x = x}) s = (and_parts (n.name x.form) true s).0
  type_param (F.param_spec {x = x}) s = (and_parts (n.name x.form) true s).0

  type_params : {profile : Profile} {ts : List Terminal} {ps : List TypeParam} → F.TypeParams profile ts ps → pass_at (outside n) ts ≡ true
      → types_fit profile n ps ≡ true
  type_params F.no_type_params s = refl
  type_params {profile} (F.type_params {ts = ts} {ps = ps} h c) s =
      and_from (no_types ps || has_types profile) (list_all (type_param_fits n) ps) (or_right (no_types ps) (has_types profile) h)
      (ended_fit (type_param_fits n) type_param_closes (λ ts a. type_param) c (left (outside n) ts (Op Sign.RSqb ∷ []) s))

  -- ---- Imports, where no name that passes holds a dot.

  module _ (undotted : (x : Identifier) → n.name x ≡ true → list_all is_other x ≡ true) where
    dotted_alias : {ts : List Terminal} {a : Alias} → F.DottedAlias ts a → pass_at (outside n) ts ≡ true → import_fits n.name a ≡ true
    dotted_alias (F.dotted_as {ts = ts} {us = us} {x = x} {a = a} d q) s =
        and_from (dotted n.name x) (perhaps_name n.name a) (dotted_fits n undotted d (left (outside n) ts us s))
        (as_fits q (right (outside n) ts (module_closes d).is us s))

    name_alias : {ts : List Terminal} {a : Alias} → F.NameAlias ts a → pass_at (outside n) ts ≡ true → alias_fits n.name a ≡ true
    name_alias (F.name_as {us = us} {x = x} {a = a} q) s =
        let w = and_parts (n.name x.form) (pass_at (outside n) us) s in
        and_from (n.name x.form) (perhaps_name n.name a) w.0 (as_fits q w.1)

    names_fit : {ts : List Terminal} {as_ : List Alias} → F.Names ts as_ → pass_at (outside n) ts ≡ true → imports_fit n.name as_ ≡ true
    names_fit F.all_names s = refl
    names_fit (F.names {as_ = xs} c) s =
        or_right _ _ (and_from (has_one xs) (list_all (alias_fits n.name) xs) (some_commas c)
        (commas_fit (alias_fits n.name) name_alias_closes (λ ts a. name_alias) c s))
    names_fit (F.bracketed_names {ts = ts} {as_ = xs} c) s =
        or_right _ _ (and_from (has_one xs) (list_all (alias_fits n.name) xs) (some_ended c)
        (ended_fit (alias_fits n.name) name_alias_closes (λ ts a. name_alias) c (left (outside n) ts (Op Sign.RPar ∷ []) s)))

    -- ---- Simple statements.

    targets_fit : {ts : List Terminal} {es : List Expr} → F.Targets ts es → pass_at (outside n) ts ≡ true
        → each_target_fits n Store (exprs es) ≡ true
    targets_fit (F.last_target {ts = ts} {e = e} p) s =
        and_from (fits_target n Store e) true (target_fits n p (left (outside n) ts (Op Sign.Equal ∷ []) s)) refl
    targets_fit (F.more_targets {ts = ts} {us = us} {e = e} {es = es} p c) s =
        and_from (fits_target n Store e) (each_target_fits n Store (exprs es))
        (target_fits n p (left (outside n) ts (Op Sign.Equal ∷ us) s))
        (targets_fit c (right (outside n) ts (target_closes p) (Op Sign.Equal ∷ us) s))

    some_target : {ts : List Terminal} {es : List Expr} → F.Targets ts es → has_one es ≡ true
    some_target (F.last_target p) = refl
    some_target (F.more_targets p c) = refl

    deleted : {ts : List Terminal} {es : List Expr} → F.Commas Expr G.DelTarget ts es → pass_at (outside n) ts ≡ true
        → each_target_fits n Del (exprs es) ≡ true
    deleted (F.alone {a = e} p) s = and_from (fits_target n Del e) true (del_target_fits n p s) refl
    deleted (F.comma {ts = ts} {us = us} {a = e} {as_ = es} p c) s =
        and_from (fits_target n Del e) (each_target_fits n Del (exprs es))
        (del_target_fits n p (left (outside n) ts (Op Sign.Comma ∷ us) s))
        (deleted c (right (outside n) ts (del_target_closes p) (Op Sign.Comma ∷ us) s))

    delete_fits : {ts : List Terminal} {es : List Expr} → F.Commas? Expr G.DelTarget ts es → pass_at (outside n) ts ≡ true
        → (has_one es && each_target_fits n Del (exprs es)) ≡ true
    delete_fits (F.ends_bare {as_ = es} c) s = and_from (has_one es) (each_target_fits n Del (exprs es)) (some_commas c) (deleted c s)
    delete_fits (F.ends_comma {ts = ts} {as_ = es} c) s = and_from (has_one es) (each_target_fits n Del (exprs es)) (some_commas c)
        (deleted c (left (outside n) ts (Op Sign.Comma ∷ []) s))

    raise_fits : {t : Terminal} {ts : List Terminal} {c : Option Expr} (e : Expr) → open_following [] t ≡ [] → F.Following t Expression ts c
        → pass_at (outside n) ts ≡ true → fits_at n Expression e ≡ true → raised_fits n (Some e) c ≡ true
    raise_fits e k F.none_after s h = h
    raise_fits e k (F.following {t = t} {ts = ts} {e = c} p) s h = and_from (fits_at n Expression e) (fits_at n Expression c) h
        (slots (outside n) p (following (outside n) t k ts s))

    pub simple : {profile : Profile} {ts : List Terminal} {s : Stmt} → F.Simple profile ts s → pass_at (outside n) ts ≡ true
        → statement_fits profile n s ≡ true
    simple (F.value p) s = slots (outside n) p s
    simple (F.assign {ts = ts} {us = us} {targets = targets} {e = e} c p) s =
        from3 (has_one targets) (each_target_fits n Store (exprs targets)) (fits_at n Value e) (some_target c)
        (targets_fit c (left (outside n) ts us s)) (slots (outside n) p (right (outside n) ts (targets_close c).is us s))
    simple (F.augmented_assign {ts = ts} {us = us} x {t = t} {e = e} p h q) s =
        and_from (is_single t && fits_target n Store t) (fits_at n Value e) (single_target_fits n p (left (outside n) ts (Op x ∷ us) s))
        (slots (outside n) q (right (outside n) ts (single_target_closes p) (Op x ∷ us) s))
    simple (F.annotated_name {x = x} {ts = ts} {us = us} {a = a} {v = v} p q) s =
        let w = and_parts (n.name x.form) (pass_at (outside n) (ts ++ us)) s in
        from3 (n.name x.form) (fits_at n Expression a) (perhaps_fits n Value (optional v)) w.0
        (slots (outside n) p (left (outside n) ts us w.1)) (after_fits refl q (right (outside n) ts (expression_closes p) us w.1))
    simple (F.annotated_group {ts = ts} {us = us} {vs = vs} {t = t} {a = a} {v = v} p q r) s =
        let w = right (outside n) ts (single_target_closes p) (Op Sign.RPar ∷ (Op Sign.Colon ∷ (us ++ vs))) s in
        let u = and_parts (is_single t) (fits_target n Store t)
        (single_target_fits n p (left (outside n) ts (Op Sign.RPar ∷ (Op Sign.Colon ∷ (us ++ vs))) s)) in
        from5 (is_single t) true (fits_target n Store t) (fits_at n Expression a) (perhaps_fits n Value (optional v)) u.0 refl u.1
        (slots (outside n) q (left (outside n) us vs w)) (after_fits refl r (right (outside n) us (expression_closes q) vs w))
    simple (F.annotated_part {ts = ts} {us = us} {vs = vs} {t = t} {a = a} {v = v} p h q r) s =
        let w = right (outside n) ts (single_target_closes p) (Op Sign.Colon ∷ (us ++ vs)) s in
        let u = and_parts (is_single t) (fits_target n Store t)
        (single_target_fits n p (left (outside n) ts (Op Sign.Colon ∷ (us ++ vs)) s)) in
        from5 (is_single t) true (fits_target n Store t) (fits_at n Expression a) (perhaps_fits n Value (optional v)) u.0 refl u.1
        (slots (outside n) q (left (outside n) us vs w)) (after_fits refl r (right (outside n) us (expression_closes q) vs w))
    simple {profile} (F.type_alias {form = f} {x = x} {ts = ts} {us = us} {ps = ps} {e = e} h c p) s =
        let w = and_parts (n.name x.form) (pass_at (outside n) (ts ++ (Op Sign.Equal ∷ us)))
        (and_parts (n.name f) (pass_at (outside n) (Ident x ∷ (ts ++ (Op Sign.Equal ∷ us)))) s).1 in
        from5 (has_types profile) true (n.name x.form) (list_all (type_param_fits n) ps) (fits_at n Expression e) h refl w.0
        (and_parts (no_types ps || has_types profile) (list_all (type_param_fits n) ps)
        (type_params c (left (outside n) ts (Op Sign.Equal ∷ us) w.1))).1
        (slots (outside n) p (right (outside n) ts (type_params_close c).is (Op Sign.Equal ∷ us) w.1))
    simple (F.return_of p) s = perhaps p s
    simple F.raise_alone s = refl
    simple (F.raise_of {ts = ts} {us = us} {e = e} p q) s = raise_fits e refl q (right (outside n) ts (expression_closes p) us s)
        (slots (outside n) p (left (outside n) ts us s))
    simple (F.assert_of {ts = ts} {us = us} {e = e} {m = m} p q) s =
        and_from (fits_at n Expression e) (perhaps_fits n Expression (optional m)) (slots (outside n) p (left (outside n) ts us s))
        (after_fits refl q (right (outside n) ts (expression_closes p) us s))
    simple (F.delete c) s = delete_fits c s
    simple (F.global {xs = xs} c) s = and_from (has_one xs) (list_all n.name xs) (some_commas c)
        (commas_fit n.name name_closes (λ ts a. name_fits) c s)
    simple (F.nonlocal {xs = xs} c) s = and_from (has_one xs) (list_all n.name xs) (some_commas c)
        (commas_fit n.name name_closes (λ ts a. name_fits) c s)
    simple F.pass s = refl
    simple F.break s = refl
    simple F.continue s = refl
    simple (F.import_names {as_ = xs} c) s = and_from (has_one xs) (list_all (import_fits n.name) xs) (some_commas c)
        (commas_fit (import_fits n.name) module_alias_closes (λ ts a. dotted_alias) c s)
    simple (F.from_module {ts = ts} {us = us} {vs = vs} {m = m} {as_ = xs} d e c) s =
        let w = right (outside n) ts (dots_close d).is (us ++ (Word Key.Import ∷ vs)) s in
        and_from (dotted n.name m) (imports_fit n.name xs) (dotted_fits n undotted e (left (outside n) us (Word Key.Import ∷ vs) w))
        (names_fit c (right (outside n) us (module_closes e).is (Word Key.Import ∷ vs) w))
    simple (F.from_dots {ts = ts} {vs = vs} {n = k} {as_ = xs} d h c) s =
        and_from (nat_lt 0 k) (imports_fit n.name xs) (lt-ltb 0 k h)
        (names_fit c (right (outside n) ts (dots_close d).is (Word Key.Import ∷ vs) s))

    pub simples : {profile : Profile} {ts : List Terminal} {ss : List Stmt} → F.Simples profile ts ss → pass_at (outside n) ts ≡ true
        → inline_fits profile n ss ≡ true
    simples {profile} (F.last_simple {s = t} p) s = and_from (statement_fits profile n t) true (simple p s) refl
    simples {profile} (F.ended_simple {ts = ts} {s = t} p) s =
        and_from (statement_fits profile n t) true (simple p (left (outside n) ts (Op Sign.Semi ∷ []) s)) refl
    simples {profile} (F.more_simples {ts = ts} {us = us} {s = t} {ss = ss} p q) s =
        and_from (statement_fits profile n t) (statements_fit profile n (stmts ss)) (simple p (left (outside n) ts (Op Sign.Semi ∷ us) s))
        (and_parts (has_one ss) (statements_fit profile n (stmts ss))
        (simples q (right (outside n) ts (simple_closes p) (Op Sign.Semi ∷ us) s))).1

    -- ---- Headers.

    item_given : {ts : List Terminal} {i : Item} → F.ItemOf ts i → pass_at (outside n) ts ≡ true → item_fits n i ≡ true
    item_given (F.bare_item {e = e} p) s = and_from (fits_at n Expression e) true (slots (outside n) p s) refl
    item_given (F.item_as {ts = ts} {us = us} {e = e} {t = t} p q) s =
        and_from (fits_at n Expression e) (fits_target n Store t) (slots (outside n) p (left (outside n) ts (Word Key.As ∷ us) s))
        (item_target_fits n q (right (outside n) ts (expression_closes p) (Word Key.As ∷ us) s))

    bracketed_fit : {ts : List Terminal} {is : List Item} → F.Bracketed ts is → pass_at (outside n) ts ≡ true
        → (has_one is && list_all (item_fits n) is) ≡ true
    bracketed_fit (F.bracketed {ts = ts} {is = is} c) s = and_from (has_one is) (list_all (item_fits n) is) (some_ended c)
        (ended_fit (item_fits n) item_closes (λ ts a. item_given) c (left (outside n) ts (Op Sign.RPar ∷ []) s))

    items_fit : {ts : List Terminal} {is : List Item} → F.Items ts is → pass_at (outside n) ts ≡ true
        → (has_one is && list_all (item_fits n) is) ≡ true
    items_fit (F.in_brackets p) s = bracketed_fit p s
    items_fit (F.without {is = is} c h) s = and_from (has_one is) (list_all (item_fits n) is) (some_commas c)
        (commas_fit (item_fits n) item_closes (λ ts a. item_given) c s)

    listed_back : (es : Exprs) → exprs (listed es) ≡ es
    listed_back no_exprs = refl
    listed_back (an_expr e es) = ap (an_expr e) (listed_back es)

    bases_fit : {ts : List Terminal} {es : List Expr} {ks : Keywords} → F.Bases ts es ks → pass_at (outside n) ts ≡ true
        → (each_fits n Elem (exprs es) ≡ true) × (each_keyword_fits n ks ≡ true)
    bases_fit F.no_bases s = (refl, refl)
    bases_fit (F.bases {ts = ts} {es = es} c h) s =
        let q = listing (outside n) c (left (outside n) ts (Op Sign.RPar ∷ []) s) in
        (subst (λ z. each_fits n Elem z ≡ true) (sym (listed_back (positional es))) (positional_fit n es q), keywords_fit n es q)

    pub header : {profile : Profile} {ts : List Terminal} {h : Header} → F.HeaderOf profile ts h → pass_at (outside n) ts ≡ true
        → header_fits profile n h ≡ true
    header (F.if_line {e = e} p) s = plain n Named e refl (slots (outside n) p s)
    header (F.elif_line {e = e} p) s = plain n Named e refl (slots (outside n) p s)
    header F.else_line s = refl
    header (F.while_line {e = e} p) s = plain n Named e refl (slots (outside n) p s)
    header (F.for_line {ts = ts} {us = us} {vs = vs} {t = t} {e = e} b p q) s =
        let w = right (outside n) ts (async_closes b).is (Word Key.For ∷ (us ++ (Word Key.In ∷ vs))) s in
        and_from (fits_target n Store t) (fits_at n Stars e) (target_fits n p (left (outside n) us (Word Key.In ∷ vs) w))
        (slots (outside n) q (right (outside n) us (target_closes p) (Word Key.In ∷ vs) w))
    header (F.with_line {ts = ts} {us = us} b p) s = items_fit p (right (outside n) ts (async_closes b).is (Word Key.With ∷ us) s)
    header F.try_line s = refl
    header F.finally_line s = refl
    header F.except_all s = refl
    header (F.except_line {ts = ts} {us = us} {e = e} {x = x} p q) s = and_from (fits_at n Expression e) (perhaps_name n.name x)
        (slots (outside n) p (left (outside n) ts us s)) (as_fits q (right (outside n) ts (expression_closes p) us s))
    header (F.except_star {ts = ts} {us = us} {e = e} {x = x} p q) s = and_from (fits_at n Expression e) (perhaps_name n.name x)
        (slots (outside n) p (left (outside n) ts us s)) (as_fits q (right (outside n) ts (expression_closes p) us s))
    header {profile} (F.def_line {ts = ts} {us = us} {vs = vs} {ws = ws} x {tps = tps} {ps = ps} {a = a} {r = r} b t c h q) s =
        let w = and_parts (n.name x.form) (pass_at (outside n) (us ++ (Op Sign.LPar ∷ (vs ++ (Op Sign.RPar ∷ ws)))))
        (right (outside n) ts (async_closes b).is (Word Key.Def ∷ (Ident x ∷ (us ++ (Op Sign.LPar ∷ (vs ++ (Op Sign.RPar ∷ ws))))))
        s) in
        let u = right (outside n) us (type_params_close t).is (Op Sign.LPar ∷ (vs ++ (Op Sign.RPar ∷ ws))) w.1 in
        from4 (n.name x.form) (fits_arguments n true a) (perhaps_fits n Expression (optional r)) (types_fit profile n tps)
        w.0 (arranged_fit n true ps a (listing (outside n) c (left (outside n) vs (Op Sign.RPar ∷ ws) u)) h)
        (after_fits refl q (right (outside n) vs (listing_closes c) (Op Sign.RPar ∷ ws) u))
        (type_params t (left (outside n) us (Op Sign.LPar ∷ (vs ++ (Op Sign.RPar ∷ ws))) w.1))
    header {profile} (F.class_line {x = x} {ts = ts} {us = us} {tps = tps} {es = es} {ks = ks} t b) s =
        let w = and_parts (n.name x.form) (pass_at (outside n) (ts ++ us)) s in
        let u = bases_fit b (right (outside n) ts (type_params_close t).is us w.1) in
        from4 (n.name x.form) (each_fits n Elem (exprs es)) (each_keyword_fits n ks) (types_fit profile n tps) w.0 u.0 u.1
        (type_params t (left (outside n) ts us w.1))

    form : {profile : Profile} {ts : List Terminal} {f : Form} → F.FormOf profile ts f → pass_at (outside n) ts ≡ true
        → form_fits profile n f ≡ true
    form (F.simple_statements p) s = simples p s
    form (F.decorator_line {e = e} p) s = plain n Named e refl (slots (outside n) p s)
    form (F.header_line {ts = ts} p) s = header p (left (outside n) ts (Op Sign.Colon ∷ []) s)
    form {profile} (F.header_suite {ts = ts} {us = us} {h = h} {ss = ss} p q) s =
        and_from (header_fits profile n h) (inline_fits profile n ss) (header p (left (outside n) ts (Op Sign.Colon ∷ us) s))
        (simples q (right (outside n) ts (header_closes p) (Op Sign.Colon ∷ us) s))
    form {profile} (F.match_line {ts = ts} {e = e} f h p) s =
        and_from (is_whole profile.extent) (fits_at n Expression e) h
        (subject_plain n e (slots (outside n) p
        (left (outside n) ts (Op Sign.Colon ∷ []) (and_parts (n.name f) (pass_at (outside n) (ts ++ (Op Sign.Colon ∷ []))) s).1)))

    -- ---- Forms at their places.

    guard : (g : Option Expr) → perhaps_fits n Named (optional g) ≡ true → perhaps_fits n Expression (optional g) ≡ true
    guard None h = refl
    guard (Some e) h = plain n Named e refl h

    case : (profile : Profile) {ts : List Terminal} {h : Header} → is_whole profile.extent ≡ true → F.CaseOf ts h
        → pass_at (outside n) ts ≡ true → header_fits profile n h ≡ true
    case profile q (F.case_line {ts = ts} {us = us} {p = p} {g = g} f d b) s =
        let w = (and_parts (n.name f) (pass_at (outside n) (ts ++ us)) s).1 in
        from3 (is_whole profile.extent) (pattern_fits_at n AsPattern p) (perhaps_fits n Expression (optional g)) q
        (fits_anywhere n PatternLevel.Patterns AsPattern p refl (fits n d (left (outside n) ts us w)))
        (guard g (after_fits refl b (right (outside n) ts (pattern_closes d) us w)))

    pub placed : {profile : Profile} {inside : Bool} {ts : List Terminal} {f : Form} → F.FormAt profile inside ts f
        → pass_at (outside n) ts ≡ true → form_fits profile n f ≡ true
    placed (F.other_line q p) s = form p s
    placed {profile} (F.case_alone {ts = ts} q c) s = case profile q c (left (outside n) ts (Op Sign.Colon ∷ []) s)
    placed {profile} (F.case_suite {ts = ts} {us = us} {h = h} {ss = ss} q c p) s =
        and_from (header_fits profile n h) (inline_fits profile n ss) (case profile q c (left (outside n) ts (Op Sign.Colon ∷ us) s))
        (simples p (right (outside n) ts (case_closes c) (Op Sign.Colon ∷ us) s))
