-- Carries: the law of modules. On: lists with commas, names, imports, parameters of types: each
-- comes back from its own terminals.
use Rattle.std.proofs.Common.{◌≡◌, refl, sym, subst, ℕ, zero, suc, ◌+◌, arith, List, [], ◌∷◌, Option, None, Bool, true, false, cond}
use Rattle.std.specs.Prelude.{eqb, map}
use Rattle.std.proofs.lemmas.Bool.{eqb-true}
use Rattle.pylex_lexeme.specs.declared.kinds.Exact.TheVariants.{Star, Dot, Ellipsis}
use Rattle.pytree_node.specs.declared.profiles.Profile.{Profile}
use Rattle.pytree_node.specs.Profiles.{has_types}
use Rattle.pytree_node.specs.Trees.{Identifier, Expr, Alias, TypeParam}
use Rattle.pytoken.specs.Terminals.{Terminal, Op, in_form}
use Rattle.pygrammar.specs.declared.levels.Level.{Level}
use Rattle.pygrammar.specs.Grammar as G
use Rattle.pygrammar.specs.DottedNames.{lengthen, names_in}
use Rattle.pygrammar.specs.Forms as F
use Rattle.pyunparse_text.specs.Written.{listed, written}
use Rattle.pyunparse_text.specs.Terminals.{terminal}
use Rattle.pyunparse_text.specs.Statements as S
use Rattle.pyunparse_text.proofs.Fewest.Claims.{here}
use Rattle.pyunparse_text.proofs.Fewest.Induction.{claim}

-- an expression, from its own terminals
pub again : {l : Level} {ts : List Terminal} {e : Expr} → G.Derives l ts e → G.Derives l (written terminal l e) e
again p = here (claim p)

pub perhaps_again : {l : Level} {ts : List Terminal} {e : Option Expr} → F.Perhaps l ts e → F.Perhaps l (S.perhaps_written terminal l e) e
perhaps_again F.left_out = F.left_out
perhaps_again (F.given p) = F.given (again p)

pub after_again : {t : Terminal} {l : Level} {ts : List Terminal} {e : Option Expr} → F.Following t l ts e
    → F.Following t l (S.following terminal t l e) e
after_again F.none_after = F.none_after
after_again (F.following p) = F.following (again p)

-- ---- Lists with commas.

module _ (A : Type 0) (X : List Terminal → A → Type 0) (f : A → List Terminal) (again : (ts : List Terminal) (a : A)
    → X ts a → X (f a) a) where
  pub none_listed : {ts : List Terminal} {as_ : List A} → F.Commas A X ts as_ → as_ ≡ [] → ⊥
  none_listed (F.alone p) h = absurd (cc)
  none_listed (F.comma p c) h = absurd (cc)

  more_listed : (a : A) (as_ : List A) → X (f a) a → F.Commas A X (listed terminal (map f as_)) as_
      → F.Commas A X (listed terminal (f a ∷ map f as_)) (a ∷ as_)
  more_listed a [] p c = absurd (none_listed c refl)
  more_listed a (b ∷ bs) p c = F.comma p c

  pub commas_again : {ts : List Terminal} {as_ : List A} → F.Commas A X ts as_ → F.Commas A X (listed terminal (map f as_)) as_
  commas_again (F.alone {ts = ts} {a = a} p) = F.alone (again ts a p)
  commas_again (F.comma {ts = ts} {a = a} {as_ = as_} p c) = more_listed a as_ (again ts a p) (commas_again c)

  pub last_comma : {ts : List Terminal} {as_ : List A} → F.Commas? A X ts as_ → F.Commas A X (listed terminal (map f as_)) as_
  last_comma (F.ends_bare c) = commas_again c
  last_comma (F.ends_comma c) = commas_again c

-- ---- Names.

pub as_again : {ts : List Terminal} {x : Option Identifier} → F.As ts x → F.As (S.as_name terminal x) x
as_again F.no_as = F.no_as
as_again F.as_name = F.as_name

name_again : (ts : List Terminal) (x : Identifier) → F.Name ts x → F.Name (S.one_name terminal x) x
name_again ts x p = F.name

pub names_again : {ts : List Terminal} {xs : List Identifier} → F.Commas Identifier F.Name ts xs
    → F.Commas Identifier F.Name (listed terminal (map (S.one_name terminal) xs)) xs
names_again c = commas_again Identifier F.Name (S.one_name terminal) name_again c

-- names with points, the first of them close to those before it or not
abbrev tokens : List Identifier → List Terminal
tokens xs = S.dotted_names terminal false xs

any : (close : Bool) (xs : List Identifier) → S.dotted_names terminal close xs ≡ tokens xs
any close [] = refl
any close (x ∷ xs) = refl

no_tokens : {ts : List Terminal} {x : Identifier} → F.Dotted ts x → ts ≡ [] → ⊥
no_tokens F.one_name h = absurd (cc)
no_tokens (F.dot_name p) h = absurd (cc)

longer_one : (c : ℕ) (x y : Identifier) → F.Dotted (in_form x ∷ []) y → F.Dotted (in_form (c ∷ x) ∷ []) (c ∷ y)
longer_one c x y F.one_name = F.one_name

longer_more : (c : ℕ) (x y : Identifier) (ts : List Terminal) → F.Dotted (in_form x ∷ (Op Dot ∷ ts)) y
    → F.Dotted (in_form (c ∷ x) ∷ (Op Dot ∷ ts)) (c ∷ y)
longer_more c x y ts (F.dot_name p) = F.dot_name p

longer_first : (c : ℕ) (xs : List Identifier) (y : Identifier) → F.Dotted (tokens xs) y → F.Dotted (tokens (lengthen c xs)) (c ∷ y)
longer_first c [] y p = absurd (no_tokens p refl)
longer_first c (x ∷ []) y p = longer_one c x y p
longer_first c (x ∷ (z ∷ zs)) y p = longer_more c x y (tokens (z ∷ zs)) p

new_first : (xs : List Identifier) (y : Identifier) → F.Dotted (tokens xs) y → F.Dotted (tokens ([] ∷ xs)) (46 ∷ y)
new_first [] y p = absurd (no_tokens p refl)
new_first (x ∷ xs) y p = F.dot_name {x = record { spelling = []; form = [] }} p

dotted_plain : (x : Identifier) → F.Dotted (tokens (names_in x)) x
dotted_plain [] = F.one_name
dotted_plain (c ∷ cs) = by (eqb c 46) refl (dotted_plain cs)
  where
    by : (b : Bool) → eqb c 46 ≡ b → F.Dotted (tokens (names_in cs)) cs
        → F.Dotted (tokens (cond b ([] ∷ names_in cs) (lengthen c (names_in cs)))) (c ∷ cs)
    by true h p = subst (λ z. F.Dotted (tokens ([] ∷ names_in cs)) (z ∷ cs)) (sym (eqb-true c 46 h)) (new_first (names_in cs) cs p)
    by false h p = longer_first c (names_in cs) cs p

pub dotted_again : (close : Bool) (x : Identifier) → F.Dotted (S.dotted terminal close x) x
dotted_again close x = subst (λ z. F.Dotted z x) (sym (any close (names_in x))) (dotted_plain x)

-- ---- Imports.

three : (n : ℕ) → 3 + n ≡ suc (suc (suc n))
three n = omega arith

pub points_again : (close : Bool) (n : ℕ) → F.Dots (S.point_signs terminal close (S.points n)) n
points_again close zero = F.no_dot
points_again close (suc zero) = F.dot F.no_dot
points_again close (suc (suc zero)) = F.dot (F.dot F.no_dot)
points_again close (suc (suc (suc n))) =
    subst (λ k. F.Dots (Op Ellipsis ∷ S.point_signs terminal true (S.points n)) k) (three n) (F.dots (points_again true n))

dotted_alias_again : (ts : List Terminal) (a : Alias) → F.DottedAlias ts a → F.DottedAlias (S.dotted_alias terminal a) a
dotted_alias_again _ _ (F.dotted_as {x = x} p q) = F.dotted_as (dotted_again false x) (as_again q)

name_alias_again : (ts : List Terminal) (a : Alias) → F.NameAlias ts a → F.NameAlias (S.name_alias terminal a) a
name_alias_again _ _ (F.name_as q) = F.name_as (as_again q)

pub aliases_again : {ts : List Terminal} {as_ : List Alias} → F.Commas Alias F.DottedAlias ts as_
    → F.Commas Alias F.DottedAlias (listed terminal (map (S.dotted_alias terminal) as_)) as_
aliases_again c = commas_again Alias F.DottedAlias (S.dotted_alias terminal) dotted_alias_again c

star_is : (x : Identifier) (o : Option Identifier) → S.is_star x o ≡ true → F.Names (Op Star ∷ []) (F.alias x o ∷ [])
star_is (c ∷ []) None h = subst (λ z. F.Names (Op Star ∷ []) (F.alias (z ∷ []) None ∷ [])) (sym (eqb-true c 42 h)) F.all_names
star_is _ _ h = absurd (cc)

all_are : (as_ : List Alias) → S.are_all as_ ≡ true → F.Names (Op Star ∷ []) as_
all_are (a ∷ []) h = star_is a.name a.asname h
all_are _ h = absurd (cc)

imported_again : (as_ : List Alias) → F.Commas Alias F.NameAlias (listed terminal (map (S.name_alias terminal) as_)) as_
    → F.Names (S.imported terminal as_) as_
imported_again as_ c = by (S.are_all as_) refl
  where
    by : (b : Bool) → S.are_all as_ ≡ b → F.Names (cond b (Op Star ∷ []) (listed terminal (map (S.name_alias terminal) as_))) as_
    by true h = all_are as_ h
    by false h = F.names c

pub all_again : {ts : List Terminal} {as_ : List Alias} → F.Names ts as_ → F.Names (S.imported terminal as_) as_
all_again F.all_names = F.all_names
all_again (F.names {as_ = as_} c) = imported_again as_ (commas_again Alias F.NameAlias (S.name_alias terminal) name_alias_again c)
all_again (F.bracketed_names {as_ = as_} c) = imported_again as_ (last_comma Alias F.NameAlias (S.name_alias terminal) name_alias_again c)

-- ---- Parameters of types.

type_param_again : (ts : List Terminal) (p : TypeParam) → F.TypeParamOf ts p → F.TypeParamOf (S.type_param terminal p) p
type_param_again _ _ (F.type_var b) = F.type_var (after_again b)
type_param_again _ _ F.type_var_tuple = F.type_var_tuple
type_param_again _ _ F.param_spec = F.param_spec

some_params : {profile : Profile} (ps : List TypeParam) → has_types profile ≡ true
    → F.Commas TypeParam F.TypeParamOf (listed terminal (map (S.type_param terminal) ps)) ps
    → F.TypeParams profile (S.type_params terminal ps) ps
some_params [] h c = F.no_type_params
some_params (p ∷ ps) h c = F.type_params h (F.ends_bare c)

pub type_params_again : {profile : Profile} {ts : List Terminal} {ps : List TypeParam} → F.TypeParams profile ts ps
    → F.TypeParams profile (S.type_params terminal ps) ps
type_params_again F.no_type_params = F.no_type_params
type_params_again (F.type_params {ps = ps} h c) =
    some_params ps h (last_comma TypeParam F.TypeParamOf (S.type_param terminal) type_param_again c)
