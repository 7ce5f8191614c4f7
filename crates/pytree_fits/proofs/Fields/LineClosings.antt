-- Carries: the law of modules. On: the parts of a line close the f-strings that they open.
use Rattle.std.proofs.Common.{◌≡◌, refl, ap, ◌∙◌, ℕ, Bool, List, Option}
use Rattle.pylex_lexeme.specs.declared.kinds.Exact.TheVariants as Sign
use Rattle.pytree_node.specs.declared.profiles.Profile.{Profile}
use Rattle.pytree_node.specs.Trees.{Expr, Identifier, Alias, Item, TypeParam}
use Rattle.pytoken.specs.Terminals.{Terminal}
use Rattle.pygrammar.specs.declared.levels.Level.{Level}
use Rattle.pygrammar.specs.Grammar as G
use Rattle.pygrammar.specs.Forms as F
use Rattle.pygrammar.specs.OpenStrings.{Open, open_following, open_after_all}
use Rattle.pygrammar.proofs.Callers.OpenStrings.{expression_closes, target_closes, item_target_closes}
use Rattle.pytree_fits.proofs.Fields.Closings.{Closes, none}
use Rattle.pytree_fits.proofs.Fields.Closings.{both, sign, word, ident, ended}

expression : {l : Level} {ts : List Terminal} {e : Expr} → G.Derives l ts e → Closes ts
expression p = record { is = expression_closes p }

following_sign : {t : Terminal} {l : Level} {ts : List Terminal} {e : Option Expr} → ((o : Open) → open_following o t ≡ o)
    → F.Following t l ts e → Closes ts
following_sign h F.none_after = none
following_sign {t} h (F.following {ts = ts} p) = record { is = λ o. ap (λ x. open_after_all x ts) (h o) ∙ expression_closes p o }

as_closes : {ts : List Terminal} {x : Option Identifier} → F.As ts x → Closes ts
as_closes F.no_as = none
as_closes F.as_name = word (ident none)

pub async_closes : {ts : List Terminal} {b : Bool} → F.Async ts b → Closes ts
async_closes F.no_async = none
async_closes F.async = word none

-- lists with commas, each part of which closes what it opens
module _ (A : Type 0) (X : List Terminal → A → Type 0) (each : (ts : List Terminal) (a : A) → X ts a → Closes ts) where
  commas_close : {ts : List Terminal} {as_ : List A} → F.Commas A X ts as_ → Closes ts
  commas_close (F.alone p) = each _ _ p
  commas_close (F.comma p c) = both (each _ _ p) (sign (commas_close c))

  commas_close? : {ts : List Terminal} {as_ : List A} → F.Commas? A X ts as_ → Closes ts
  commas_close? (F.ends_bare c) = commas_close c
  commas_close? (F.ends_comma c) = ended Sign.Comma (commas_close c)

-- ---- Parameters of types.

pub type_param_closes : (ts : List Terminal) (p : TypeParam) → F.TypeParamOf ts p → Closes ts
type_param_closes ts p (F.type_var k) = ident (following_sign (λ o. refl) k)
type_param_closes ts p F.type_var_tuple = sign (ident none)
type_param_closes ts p F.param_spec = sign (ident none)

pub type_params_close : {profile : Profile} {ts : List Terminal} {ps : List TypeParam} → F.TypeParams profile ts ps → Closes ts
type_params_close F.no_type_params = none
type_params_close (F.type_params h c) = sign (ended Sign.RSqb (commas_close? TypeParam F.TypeParamOf type_param_closes c))

-- ---- Imports.

pub module_closes : {ts : List Terminal} {x : Identifier} → F.Dotted ts x → Closes ts
module_closes F.one_name = ident none
module_closes (F.dot_name p) = ident (sign (module_closes p))

pub module_alias_closes : (ts : List Terminal) (a : Alias) → F.DottedAlias ts a → Closes ts
module_alias_closes ts a (F.dotted_as p q) = both (module_closes p) (as_closes q)

pub name_alias_closes : (ts : List Terminal) (a : Alias) → F.NameAlias ts a → Closes ts
name_alias_closes ts a (F.name_as q) = ident (as_closes q)

pub dots_close : {ts : List Terminal} {n : ℕ} → F.Dots ts n → Closes ts
dots_close F.no_dot = none
dots_close (F.dot p) = sign (dots_close p)
dots_close (F.dots p) = sign (dots_close p)

-- ---- Targets, items and names.

pub targets_close : {ts : List Terminal} {es : List Expr} → F.Targets ts es → Closes ts
targets_close (F.last_target p) = ended Sign.Equal (record { is = target_closes p })
targets_close (F.more_targets p c) = both (record { is = target_closes p }) (sign (targets_close c))

pub item_closes : (ts : List Terminal) (i : Item) → F.ItemOf ts i → Closes ts
item_closes ts i (F.bare_item p) = expression p
item_closes ts i (F.item_as p q) = both (expression p) (word (record { is = item_target_closes q }))

pub name_closes : (ts : List Terminal) (x : Identifier) → F.Name ts x → Closes ts
name_closes ts x F.name = ident none
