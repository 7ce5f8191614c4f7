-- What the parts of a line open of f-strings they close.
--
-- Carries: after_close, as_close and 10 more, for LinesDerived. On: what pygrammar proves of lists that the grammar gives.
use Rattle.std.proofs.Common.{◌≡◌, ℕ, refl, ap, ◌∙◌, List, [], ◌∷◌, ◌++◌, Option}
use Rattle.pylex_lexeme.specs.declared.kinds.Exact.TheVariants as Sign
use Rattle.pytoken.specs.declared.keywords.Keyword.TheVariants as Key
use Rattle.pytree_node.specs.declared.profiles.Profile.{Profile}
use Rattle.pytree_node.specs.Trees.{Expr, Identifier, Alias, Item, TypeParam}
use Rattle.pytoken.specs.Terminals.{Terminal, Op, Word}
use Rattle.pygrammar.specs.declared.levels.Level.{Level}
use Rattle.pygrammar.specs.OpenStrings.{Open, open_following, open_after_all}
use Rattle.pygrammar.specs.Forms as F
use Rattle.pygrammar.proofs.Callers.OpenStrings.{after_append, expression_closes, target_closes, item_target_closes}
use Rattle.pyunparse_text.proofs.PieceLaws.SaidLists.{Closing}

closing_both : (ts us : List Terminal) → Closing ts → Closing us → Closing (ts ++ us)
closing_both ts us c d o = after_append o ts us ∙ (ap (λ x. open_after_all x us) (c o) ∙ d o)

-- [t X], where t opens nothing
pub after_close : {t : Terminal} {l : Level} {ts : List Terminal} {e : Option Expr}
    → ((o : Open) → open_following o t ≡ o) → F.Following t l ts e
    → Closing ts
after_close q F.none_after o = refl
after_close q (F.following {ts = ts} p) o = ap (λ x. open_after_all x ts) (q o) ∙ expression_closes p o

pub as_close : {ts : List Terminal} {x : Option Identifier} → F.As ts x → Closing ts
as_close F.no_as o = refl
as_close F.as_name o = refl

pub name_close : (ts : List Terminal) (x : Identifier) → F.Name ts x → Closing ts
name_close _ _ F.name o = refl

module _ (A : Type 0) (X : List Terminal → A → Type 0) (each : (ts : List Terminal) (a : A) → X ts a → Closing ts) where
  pub commas_close : {ts : List Terminal} {as_ : List A} → F.Commas A X ts as_ → Closing ts
  commas_close (F.alone {ts = ts} {a = a} p) o = each ts a p o
  commas_close (F.comma {ts = ts} {us = us} {a = a} p c) o = closing_both ts (Op Sign.Comma ∷ us) (each ts a p) (commas_close c) o

  pub last_close : {ts : List Terminal} {as_ : List A} → F.Commas? A X ts as_ → Closing ts
  last_close (F.ends_bare c) o = commas_close c o
  last_close (F.ends_comma {ts = ts} c) o = closing_both ts (Op Sign.Comma ∷ []) (commas_close c) (λ o. refl) o

pub type_close : (ts : List Terminal) (p : TypeParam) → F.TypeParamOf ts p → Closing ts
type_close _ _ (F.type_var b) o = after_close (λ o. refl) b o
type_close _ _ F.type_var_tuple o = refl
type_close _ _ F.param_spec o = refl

pub types_close : {profile : Profile} {ts : List Terminal} {ps : List TypeParam} → F.TypeParams profile ts ps → Closing ts
types_close F.no_type_params o = refl
types_close (F.type_params {ts = ts} q c) o =
    closing_both ts (Op Sign.RSqb ∷ []) (last_close TypeParam F.TypeParamOf type_close c) (λ o. refl) o

pub dotted_close : {ts : List Terminal} {x : Identifier} → F.Dotted ts x → Closing ts
dotted_close F.one_name o = refl
dotted_close (F.dot_name d) o = dotted_close d o

pub dotted_alias_close : (ts : List Terminal) (a : Alias) → F.DottedAlias ts a → Closing ts
dotted_alias_close _ _ (F.dotted_as {ts = ts} {us = us} p q) o = closing_both ts us (dotted_close p) (as_close q) o

pub name_alias_close : (ts : List Terminal) (a : Alias) → F.NameAlias ts a → Closing ts
name_alias_close _ _ (F.name_as q) o = as_close q o

pub dots_close : {ts : List Terminal} {n : ℕ} → F.Dots ts n → Closing ts
dots_close F.no_dot o = refl
dots_close (F.dot d) o = dots_close d o
dots_close (F.dots d) o = dots_close d o

pub targets_close : {ts : List Terminal} {es : List Expr} → F.Targets ts es → Closing ts
targets_close (F.last_target {ts = ts} p) o = closing_both ts (Op Sign.Equal ∷ []) (target_closes p) (λ o. refl) o
targets_close (F.more_targets {ts = ts} {us = us} p c) o = closing_both ts (Op Sign.Equal ∷ us) (target_closes p) (targets_close c) o

pub item_close : (ts : List Terminal) (i : Item) → F.ItemOf ts i → Closing ts
item_close _ _ (F.bare_item p) o = expression_closes p o
item_close _ _ (F.item_as {ts = ts} {us = us} p q) o = closing_both ts (Word Key.As ∷ us) (expression_closes p) (item_target_closes q) o

pub async_close : {ts : List Terminal} {b : _} → F.Async ts b → Closing ts
async_close F.no_async o = refl
async_close F.async o = refl
