-- The terminals of the parts of a line close the f-strings that they open.
--
-- Carries: closes_commas and its like, for Forms and callers. On: Closing, Expressions.
use Rattle.std.proofs.Common.{refl, ℕ, Bool, List, Option}
use Rattle.pylex_lexeme.specs.declared.kinds.Exact.TheVariants as Sign
use Rattle.pytree_node.specs.declared.profiles.Profile.{Profile}
use Rattle.pytree_node.specs.Trees.{Expr, Identifier, Alias, Item, Keywords, TypeParam}
use Rattle.pytoken.specs.Terminals.{Terminal}
use Rattle.pygrammar.specs.declared.levels.Level.{Level}
use Rattle.pygrammar.specs.Forms as F
use Rattle.pygrammar.proofs.Opened.Closing.{Closes, IsQuiet, none, front, sign, word, ident, both, ended}
use Rattle.pygrammar.proofs.Opened.Expressions.{closes, closes_listing, closes_target, closes_item_target}

pub closes_given : {l : Level} {ts : List Terminal} {e : Option Expr} → F.Perhaps l ts e → Closes ts
closes_given F.left_out = none
closes_given (F.given p) = closes p

pub closes_after : {t : Terminal} {l : Level} {ts : List Terminal} {e : Option Expr} → IsQuiet t → F.Following t l ts e → Closes ts
closes_after h F.none_after = none
closes_after h (F.following p) = front h (closes p)

pub closes_as : {ts : List Terminal} {x : Option Identifier} → F.As ts x → Closes ts
closes_as F.no_as = none
closes_as F.as_name = word (ident none)

pub closes_async : {ts : List Terminal} {b : Bool} → F.Async ts b → Closes ts
closes_async F.no_async = none
closes_async F.async = word none

pub closes_name : (ts : List Terminal) (x : Identifier) → F.Name ts x → Closes ts
closes_name ts x F.name = ident none

-- lists with commas, each part of which closes what it opens
module _ (A : Type 0) (X : List Terminal → A → Type 0) (each : (ts : List Terminal) (a : A) → X ts a → Closes ts) where
  pub closes_commas : {ts : List Terminal} {as_ : List A} → F.Commas A X ts as_ → Closes ts
  closes_commas (F.alone p) = each _ _ p
  closes_commas (F.comma p c) = both (each _ _ p) (sign (closes_commas c))

  pub closes_commas? : {ts : List Terminal} {as_ : List A} → F.Commas? A X ts as_ → Closes ts
  closes_commas? (F.ends_bare c) = closes_commas c
  closes_commas? (F.ends_comma c) = ended Sign.Comma (closes_commas c)

-- ---- Parameters of types.

pub closes_type_param : (ts : List Terminal) (p : TypeParam) → F.TypeParamOf ts p → Closes ts
closes_type_param ts p (F.type_var k) = ident (closes_after (λ o. refl) k)
closes_type_param ts p F.type_var_tuple = sign (ident none)
closes_type_param ts p F.param_spec = sign (ident none)

pub closes_type_params : {profile : Profile} {ts : List Terminal} {ps : List TypeParam} → F.TypeParams profile ts ps → Closes ts
closes_type_params F.no_type_params = none
closes_type_params (F.type_params h c) = sign (ended Sign.RSqb (closes_commas? TypeParam F.TypeParamOf closes_type_param c))

-- ---- Imports.

pub closes_module : {ts : List Terminal} {x : Identifier} → F.Dotted ts x → Closes ts
closes_module F.one_name = ident none
closes_module (F.dot_name p) = ident (sign (closes_module p))

pub closes_module_alias : (ts : List Terminal) (a : Alias) → F.DottedAlias ts a → Closes ts
closes_module_alias ts a (F.dotted_as p q) = both (closes_module p) (closes_as q)

pub closes_name_alias : (ts : List Terminal) (a : Alias) → F.NameAlias ts a → Closes ts
closes_name_alias ts a (F.name_as q) = ident (closes_as q)

pub closes_dots : {ts : List Terminal} {n : ℕ} → F.Dots ts n → Closes ts
closes_dots F.no_dot = none
closes_dots (F.dot p) = sign (closes_dots p)
closes_dots (F.dots p) = sign (closes_dots p)

pub closes_names : {ts : List Terminal} {as_ : List Alias} → F.Names ts as_ → Closes ts
closes_names F.all_names = sign none
closes_names (F.names c) = closes_commas Alias F.NameAlias closes_name_alias c
closes_names (F.bracketed_names c) = sign (ended Sign.RPar (closes_commas? Alias F.NameAlias closes_name_alias c))

-- ---- Targets, items and bases.

pub closes_targets : {ts : List Terminal} {es : List Expr} → F.Targets ts es → Closes ts
closes_targets (F.last_target p) = ended Sign.Equal (closes_target p)
closes_targets (F.more_targets p c) = both (closes_target p) (sign (closes_targets c))

pub closes_item : (ts : List Terminal) (i : Item) → F.ItemOf ts i → Closes ts
closes_item ts i (F.bare_item p) = closes p
closes_item ts i (F.item_as p q) = both (closes p) (word (closes_item_target q))

pub closes_items : {ts : List Terminal} {is : List Item} → F.Items ts is → Closes ts
closes_items (F.in_brackets (F.bracketed c)) = sign (ended Sign.RPar (closes_commas? Item F.ItemOf closes_item c))
closes_items (F.without c n) = closes_commas Item F.ItemOf closes_item c

pub closes_bases : {ts : List Terminal} {es : List Expr} {ks : Keywords} → F.Bases ts es ks → Closes ts
closes_bases F.no_bases = none
closes_bases (F.bases c h) = sign (ended Sign.RPar (closes_listing c))
