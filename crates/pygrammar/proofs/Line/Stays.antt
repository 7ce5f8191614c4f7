-- The forms of every version are forms of Python 3.12 in the same extent; those without types are
-- forms of 3.11. The forms of the plain extent are those of the whole one that stand in no `match`
-- and are no header of one.
--
-- Carries: old_is_untyped, form_stays, form_widens, form_narrows, for Answer, Block/Types,
-- SourceLaw.
use Rattle.std.proofs.Common.{◌≡◌, ◌↔◌, refl, ap, List, Bool, true, false}
use Rattle.std.specs.Prelude.{not}
use Rattle.std.proofs.lemmas.Bool.{and_parts, and_from, not-true}
use Rattle.pytree_node.specs.declared.profiles.Extent.{Extent}
use Rattle.pytree_node.specs.declared.profiles.Profile.{Profile}
use Rattle.pytree_node.specs.declared.profiles.Extent.TheVariants.{Plain, Whole}
use Rattle.pytree_node.specs.declared.profiles.Version.{Version}
use Rattle.pytree_node.specs.declared.profiles.Version.TheVariants.{Py311, Py312}
use Rattle.pytree_node.specs.Profiles.{python, has_types}
use Rattle.pytree_node.specs.Trees.{Stmt, TypeParam}
use Rattle.pytoken.specs.Terminals.{Terminal}
use Rattle.pygrammar.specs.Lines.{Form, Header, no_types, is_alias, untyped_statements, untyped_header, untyped}
use Rattle.pygrammar.specs.Forms as F
use Rattle.pygrammar.specs.Forms.{is_whole}
use Rattle.pygrammar.specs.Blocks.{kind_of, is_match}

-- what has types in one profile has them in another
abbrev HasTypesOf : Profile → Profile → Type 0
HasTypesOf p q = has_types p ≡ true → has_types q ≡ true

type_params_lead : {p q : Profile} → HasTypesOf p q → {ts : List Terminal} {ps : List TypeParam}
    → F.TypeParams p ts ps → F.TypeParams q ts ps
type_params_lead k F.no_type_params = F.no_type_params
type_params_lead k (F.type_params h c) = F.type_params (k h) c

simple_leads : {p q : Profile} → HasTypesOf p q → {ts : List Terminal} {s : Stmt} → F.Simple p ts s → F.Simple q ts s
simple_leads k (F.value p) = F.value p
simple_leads k (F.assign c p) = F.assign c p
simple_leads k (F.augmented_assign x p q v) = F.augmented_assign x p q v
simple_leads k (F.annotated_name p q) = F.annotated_name p q
simple_leads k (F.annotated_group p q v) = F.annotated_group p q v
simple_leads k (F.annotated_part p n q v) = F.annotated_part p n q v
simple_leads k (F.type_alias h c p) = F.type_alias (k h) (type_params_lead k c) p
simple_leads k (F.return_of p) = F.return_of p
simple_leads k F.raise_alone = F.raise_alone
simple_leads k (F.raise_of p q) = F.raise_of p q
simple_leads k (F.assert_of p q) = F.assert_of p q
simple_leads k (F.delete c) = F.delete c
simple_leads k (F.global c) = F.global c
simple_leads k (F.nonlocal c) = F.nonlocal c
simple_leads k F.pass = F.pass
simple_leads k F.break = F.break
simple_leads k F.continue = F.continue
simple_leads k (F.import_names c) = F.import_names c
simple_leads k (F.from_module d p q) = F.from_module d p q
simple_leads k (F.from_dots d h q) = F.from_dots d h q

simples_lead : {p q : Profile} → HasTypesOf p q → {ts : List Terminal} {ss : List Stmt} → F.Simples p ts ss → F.Simples q ts ss
simples_lead k (F.last_simple p) = F.last_simple (simple_leads k p)
simples_lead k (F.ended_simple p) = F.ended_simple (simple_leads k p)
simples_lead k (F.more_simples p c) = F.more_simples (simple_leads k p) (simples_lead k c)

header_leads : {p q : Profile} → HasTypesOf p q → {ts : List Terminal} {h : Header} → F.HeaderOf p ts h → F.HeaderOf q ts h
header_leads k (F.if_line p) = F.if_line p
header_leads k (F.elif_line p) = F.elif_line p
header_leads k F.else_line = F.else_line
header_leads k (F.while_line p) = F.while_line p
header_leads k (F.for_line a p q) = F.for_line a p q
header_leads k (F.with_line a p) = F.with_line a p
header_leads k F.try_line = F.try_line
header_leads k F.finally_line = F.finally_line
header_leads k F.except_all = F.except_all
header_leads k (F.except_line p a) = F.except_line p a
header_leads k (F.except_star p a) = F.except_star p a
header_leads k (F.def_line x a g c q r) = F.def_line x a (type_params_lead k g) c q r
header_leads k (F.class_line g c) = F.class_line (type_params_lead k g) c

-- what has `match` statements in one profile has them in another
abbrev IsWholeOf : Profile → Profile → Type 0
IsWholeOf p q = is_whole p.extent ≡ true → is_whole q.extent ≡ true

form_leads : {p q : Profile} → HasTypesOf p q → IsWholeOf p q → {ts : List Terminal} {f : Form} → F.FormOf p ts f → F.FormOf q ts f
form_leads k w (F.simple_statements c) = F.simple_statements (simples_lead k c)
form_leads k w (F.decorator_line p) = F.decorator_line p
form_leads k w (F.header_line p) = F.header_line (header_leads k p)
form_leads k w (F.header_suite p c) = F.header_suite (header_leads k p) (simples_lead k c)
form_leads k w (F.match_line form h p) = F.match_line form (w h) p

pub form_stays : {profile : Profile} {inside : Bool} {ts : List Terminal} {f : Form} → F.FormAt profile inside ts f
    → F.FormAt (python Py312 profile.extent) inside ts f
form_stays (F.other_line n p) = F.other_line n (form_leads (λ _. refl) (λ h. h) p)
form_stays (F.case_alone w c) = F.case_alone w c
form_stays (F.case_suite w c s) = F.case_suite w c (simples_lead (λ _. refl) s)

-- ---- The extents.
-- in no `match` the whole extent has what the plain one has anywhere
pub form_widens : {version : Version} {inside : Bool} {ts : List Terminal} {f : Form} → F.FormAt (python version Plain) inside ts f
    → F.FormAt (python version Whole) false ts f
form_widens (F.other_line n p) = F.other_line refl (form_leads (λ h. h) (λ h. refl) p)
form_widens (F.case_alone w c) = absurd (cc)
form_widens (F.case_suite w c s) = absurd (cc)

narrow : {version : Version} {ts : List Terminal} {f : Form} → F.FormOf (python version Whole) ts f → is_match (kind_of f) ≡ false
    → F.FormOf (python version Plain) ts f
narrow (F.simple_statements c) n = F.simple_statements (simples_lead (λ h. h) c)
narrow (F.decorator_line p) n = F.decorator_line p
narrow (F.header_line p) n = F.header_line (header_leads (λ h. h) p)
narrow (F.header_suite p c) n = F.header_suite (header_leads (λ h. h) p) (simples_lead (λ h. h) c)
narrow (F.match_line form h p) n = absurd (cc)

-- and nothing else but the header of a `match`
pub form_narrows : {version : Version} (inside : Bool) {ts : List Terminal} {f : Form} → F.FormAt (python version Whole) false ts f
    → is_match (kind_of f) ≡ false → F.FormAt (python version Plain) inside ts f
form_narrows inside (F.other_line n p) h = F.other_line refl (narrow p h)

-- ---- In Python 3.11 no form has types.
no_type_params : {extent : Extent} {ts : List Terminal} {ps : List TypeParam}
    → F.TypeParams (python Py311 extent) ts ps → no_types ps ≡ true
no_type_params F.no_type_params = refl
no_type_params (F.type_params h c) = absurd (cc)

no_alias : {extent : Extent} {ts : List Terminal} {s : Stmt} → F.Simple (python Py311 extent) ts s → is_alias s ≡ false
no_alias (F.type_alias h c p) = absurd (cc)
no_alias _ = refl

no_aliases : {extent : Extent} {ts : List Terminal} {ss : List Stmt} → F.Simples (python Py311 extent) ts ss → untyped_statements ss ≡ true
no_aliases (F.last_simple p) = and_from _ _ (ap not (no_alias p)) refl
no_aliases (F.ended_simple p) = and_from _ _ (ap not (no_alias p)) refl
no_aliases (F.more_simples p c) = and_from _ _ (ap not (no_alias p)) (no_aliases c)

header_untyped : {extent : Extent} {ts : List Terminal} {h : Header} → F.HeaderOf (python Py311 extent) ts h → untyped_header h ≡ true
header_untyped (F.def_line x a g c q k) = no_type_params g
header_untyped (F.class_line g c) = no_type_params g
header_untyped _ = refl

form_untyped : {extent : Extent} {ts : List Terminal} {f : Form} → F.FormOf (python Py311 extent) ts f → untyped f ≡ true
form_untyped (F.simple_statements c) = no_aliases c
form_untyped (F.decorator_line p) = refl
form_untyped (F.header_line p) = header_untyped p
form_untyped (F.header_suite p c) = and_from _ _ (header_untyped p) (no_aliases c)
form_untyped (F.match_line form w p) = refl

place_untyped : {extent : Extent} {inside : Bool} {ts : List Terminal} {f : Form}
    → F.FormAt (python Py311 extent) inside ts f → untyped f ≡ true
place_untyped (F.other_line n p) = form_untyped p
place_untyped (F.case_alone w (F.case_line form p g)) = refl
place_untyped (F.case_suite w (F.case_line form p g) c) = no_aliases c

-- ---- A form without types is one of Python 3.11.
filled : {ts : List Terminal} {ps : List TypeParam} → F.Commas TypeParam F.TypeParamOf ts ps → no_types ps ≡ true → ⊥
filled (F.alone p) n = absurd (cc)
filled (F.comma p c) n = absurd (cc)

type_params_return : {extent : Extent} {ts : List Terminal} {ps : List TypeParam} → F.TypeParams (python Py312 extent) ts ps
    → no_types ps ≡ true → F.TypeParams (python Py311 extent) ts ps
type_params_return F.no_type_params n = F.no_type_params
type_params_return (F.type_params h (F.ends_bare c)) n = absurd (filled c n)
type_params_return (F.type_params h (F.ends_comma c)) n = absurd (filled c n)

simple_returns : {extent : Extent} {ts : List Terminal} {s : Stmt} → F.Simple (python Py312 extent) ts s → is_alias s ≡ false
    → F.Simple (python Py311 extent) ts s
simple_returns (F.value p) n = F.value p
simple_returns (F.assign c p) n = F.assign c p
simple_returns (F.augmented_assign x p q v) n = F.augmented_assign x p q v
simple_returns (F.annotated_name p q) n = F.annotated_name p q
simple_returns (F.annotated_group p q v) n = F.annotated_group p q v
simple_returns (F.annotated_part p k q v) n = F.annotated_part p k q v
simple_returns (F.type_alias h c p) n = absurd (cc)
simple_returns (F.return_of p) n = F.return_of p
simple_returns F.raise_alone n = F.raise_alone
simple_returns (F.raise_of p q) n = F.raise_of p q
simple_returns (F.assert_of p q) n = F.assert_of p q
simple_returns (F.delete c) n = F.delete c
simple_returns (F.global c) n = F.global c
simple_returns (F.nonlocal c) n = F.nonlocal c
simple_returns F.pass n = F.pass
simple_returns F.break n = F.break
simple_returns F.continue n = F.continue
simple_returns (F.import_names c) n = F.import_names c
simple_returns (F.from_module d p q) n = F.from_module d p q
simple_returns (F.from_dots d h q) n = F.from_dots d h q

simples_return : {extent : Extent} {ts : List Terminal} {ss : List Stmt} → F.Simples (python Py312 extent) ts ss
    → untyped_statements ss ≡ true → F.Simples (python Py311 extent) ts ss
simples_return (F.last_simple {s = s} p) n =
    F.last_simple (simple_returns p (not-true (is_alias s) (and_parts (not (is_alias s)) true n).0))
simples_return (F.ended_simple {s = s} p) n =
    F.ended_simple (simple_returns p (not-true (is_alias s) (and_parts (not (is_alias s)) true n).0))
simples_return (F.more_simples {s = s} {ss = ss} p c) n =
    F.more_simples (simple_returns p (not-true (is_alias s) (and_parts (not (is_alias s)) (untyped_statements ss) n).0))
    (simples_return c (and_parts (not (is_alias s)) (untyped_statements ss) n).1)

header_returns : {extent : Extent} {ts : List Terminal} {h : Header} → F.HeaderOf (python Py312 extent) ts h → untyped_header h ≡ true
    → F.HeaderOf (python Py311 extent) ts h
header_returns (F.if_line p) n = F.if_line p
header_returns (F.elif_line p) n = F.elif_line p
header_returns F.else_line n = F.else_line
header_returns (F.while_line p) n = F.while_line p
header_returns (F.for_line a p q) n = F.for_line a p q
header_returns (F.with_line a p) n = F.with_line a p
header_returns F.try_line n = F.try_line
header_returns F.finally_line n = F.finally_line
header_returns F.except_all n = F.except_all
header_returns (F.except_line p a) n = F.except_line p a
header_returns (F.except_star p a) n = F.except_star p a
header_returns (F.def_line x a g c q k) n = F.def_line x a (type_params_return g n) c q k
header_returns (F.class_line g c) n = F.class_line (type_params_return g n) c

form_returns : {extent : Extent} {ts : List Terminal} {f : Form} → F.FormOf (python Py312 extent) ts f → untyped f ≡ true
    → F.FormOf (python Py311 extent) ts f
form_returns (F.simple_statements c) n = F.simple_statements (simples_return c n)
form_returns (F.decorator_line p) n = F.decorator_line p
form_returns (F.header_line p) n = F.header_line (header_returns p n)
form_returns (F.header_suite {h = h} {ss = ss} p c) n =
    F.header_suite (header_returns p (and_parts (untyped_header h) (untyped_statements ss) n).0)
    (simples_return c (and_parts (untyped_header h) (untyped_statements ss) n).1)
form_returns (F.match_line form w p) n = F.match_line form w p

place_returns : {extent : Extent} {inside : Bool} {ts : List Terminal} {f : Form} → F.FormAt (python Py312 extent) inside ts f
    → untyped f ≡ true → F.FormAt (python Py311 extent) inside ts f
place_returns (F.other_line h p) n = F.other_line h (form_returns p n)
place_returns (F.case_alone w c) n = F.case_alone w c
place_returns (F.case_suite {h = h} {ss = ss} w c s) n =
    F.case_suite w c (simples_return s (and_parts (untyped_header h) (untyped_statements ss) n).1)

pub old_is_untyped : (extent : Extent) (inside : Bool) (ts : List Terminal) (f : Form)
    → F.FormAt (python Py311 extent) inside ts f ↔ (F.FormAt (python Py312 extent) inside ts f × (untyped f ≡ true))
old_is_untyped extent inside ts f = (λ p. (form_stays p, place_untyped p), λ q. place_returns q.0 q.1)
