-- Parts of statements and headers.
--
-- Carries: optional.rt, types.rt, aliases.rt, deleted_all, items_at, assignment. On: Fronts, Loops.
use Rattle.std.proofs.Common.{◌≡◌, refl, sym, ap, subst, ◌∙◌, ℕ, ◌+◌, arith, List, [], ◌∷◌, ◌++◌, Option, Some, None, true, false}
use Rattle.std.proofs.Common.{append_assoc}
use Rattle.std.proofs.lemmas.List.{append-nil}
use Rattle.pylex_lexeme.specs.Characters.{asterisk}
use Rattle.pylex_lexeme.specs.declared.kinds.Exact.TheVariants as Sign
use Rattle.pytoken.specs.declared.keywords.Keyword.TheVariants as Key
use Rattle.pytree_node.specs.declared.profiles.Profile.{Profile}
use Rattle.pytree_node.specs.Profiles.{has_types}
use Rattle.pygrammar.specs.declared.levels.Level.{Level}
use Rattle.pygrammar.specs.declared.levels.Level.TheVariants.{Expression}
use Rattle.pytree_node.specs.Trees.{Expr, Alias, TypeParam, TypeVar, ParamSpec, TypeVarTuple}
use Rattle.pytoken.specs.Terminals.{Terminal, Spelled, Op, Word, Ident}
use Rattle.pygrammar.specs.Forms as F
use Rattle.pygrammar.specs.Forms.{alias}
use Rattle.pyplaces.specs.Stretches.{Stretch, stretch}
use Rattle.pyplaces.specs.FormPlaces.{commas_places, ended_places, type_param_places, name_alias_places}
use Rattle.pyplaces.specs.Placed.{Placed, PlacedTarget}
use Rattle.pyplaces.specs.PlacedForms.{Bare, PlacedOptional, PlacedAfter, PlacedOne, PlacedCommas, PlacedEnded, Commaed, no_more, more}
use Rattle.pyplaces.specs.PlacedForms.{PlacedTypeParam, PlacedTypeParams, PlacedNames, PlacedTargets}
use Rattle.pyplaces.proofs.Fronts.{Front, nothing, sign, both, front_of, from, built, ◌⊕◌, own}
use Rattle.pyplaces.proofs.Loops.{Grows, grows_turn, grows_end}

-- an expression that may stand there; one after a sign or a word
pub placed_left_out : {l : Level} {r : List Terminal} {at : ℕ} → PlacedOptional l r at None r at []
placed_left_out = built nothing F.left_out refl

pub placed_given : {l : Level} {i r : List Terminal} {at following : ℕ} {e : Expr} {ps : List Stretch} → Placed l i at e r following ps
    → PlacedOptional l i at (Some e) r following ps
placed_given p = built (front_of p) (F.given p.derived) p.places_are

pub placed_none_after : {l : Level} {t : Terminal} {r : List Terminal} {at : ℕ} → PlacedAfter t l r at None r at []
placed_none_after = built nothing F.none_after refl

pub placed_after : {l : Level} {t : Terminal} {i r s : List Terminal} {at following : ℕ} {e : Expr} {ps : List Stretch} → i ≡ t ∷ r
    → Placed l r (at + 1) e s following ps → PlacedAfter t l i at (Some e) s following ps
placed_after h p = built (sign h (front_of p)) (F.following p.derived) (from p (omega arith))

pub bare_no_async : {r : List Terminal} {at : ℕ} → Bare (λ ts. F.Async ts false) r at r at
bare_no_async = built nothing F.no_async refl

pub bare_async : {i r : List Terminal} {at : ℕ} → i ≡ Word Key.Async ∷ r → Bare (λ ts. F.Async ts true) i at r (at + 1)
bare_async h = built (sign h nothing) F.async refl

-- ---- X,.. and X,.. [,]

front_as : {i ts us r : List Terminal} {at following : ℕ} → ts ≡ us → Front i at ts r following → Front i at us r following
front_as {i} {r = r} {at = at} {following = following} h f = subst (λ z. Front i at z r following) h f

module _ {A : Type 0} {X : List Terminal → A → Type 0} {one : (ts : List Terminal) (a : A) → ℕ → X ts a → List Stretch} where
  pub placed_alone : {i r : List Terminal} {at following : ℕ} {x : A} {ps : List Stretch} → PlacedOne A X one i at x r following ps
      → PlacedCommas A X one i at (x ∷ []) r following ps
  placed_alone p = built (front_of p) (F.alone p.derived) p.places_are

  pub placed_comma : {i r s u : List Terminal} {at m following : ℕ} {x : A} {xs : List A} {ps qs : List Stretch}
      → PlacedOne A X one i at x r m ps → r ≡ Op Sign.Comma ∷ s → PlacedCommas A X one s (m + 1) xs u following qs
      → PlacedCommas A X one i at (x ∷ xs) u following (ps ++ qs)
  placed_comma p h c = built (both (front_of p) (sign h (front_of c))) (F.comma p.derived c.derived)
      (p.places_are ⊕ from c (omega (arith, p.ends)))

  -- a loop whose turns begin after a comma, and that no comma ends
  pub commas_turn : {i r s u : List Terminal} {at m n : ℕ} {x : A} {xs : List A} {ps qs : List Stretch}
      → Grows (PlacedCommas A X one) i at xs r m ps → PlacedOne A X one r m x s n qs → s ≡ Op Sign.Comma ∷ u
      → Grows (PlacedCommas A X one) i at (xs ++ (x ∷ [])) u (n + 1) (ps ++ qs)
  commas_turn {x = x} {qs = qs} g p h = grows_turn (x ∷ []) qs g (λ fs s next ws c. placed_comma p h c)

  pub commas_last : {i r s : List Terminal} {at m n : ℕ} {x : A} {xs : List A} {ps qs : List Stretch}
      → Grows (PlacedCommas A X one) i at xs r m ps → PlacedOne A X one r m x s n qs
      → PlacedCommas A X one i at (xs ++ (x ∷ [])) s n (ps ++ qs)
  commas_last {x = x} g p = g.so (x ∷ []) _ _ _ (placed_alone p)

  pub placed_bare : {i r : List Terminal} {at following : ℕ} {xs : List A} {ps : List Stretch} → PlacedCommas A X one i at xs r following ps
      → PlacedEnded A X one i at xs r following ps
  placed_bare c = built (front_of c) (F.ends_bare c.derived) c.places_are

  -- one more in front
  ended_more : {i r s u : List Terminal} {at m following : ℕ} {x : A} {xs : List A} {ps qs : List Stretch}
      → PlacedOne A X one i at x r m ps → r ≡ Op Sign.Comma ∷ s → PlacedEnded A X one s (m + 1) xs u following qs
      → PlacedEnded A X one i at (x ∷ xs) u following (ps ++ qs)
  ended_more {i} {r} {s} {u} {at} {m} {following} {x} {xs} {ps} {qs} p h c = go (front_of c) c.derived c.places_are
    where
      go : {ts : List Terminal} → Front s (m + 1) ts u following → (d : F.Commas? A X ts xs) → ended_places A X one (m + 1) d ≡ qs
          → PlacedEnded A X one i at (x ∷ xs) u following (ps ++ qs)
      go f (F.ends_bare d) q = built (both (front_of p) (sign h f)) (F.ends_bare (F.comma p.derived d))
          (p.places_are ⊕ (ap (λ n. commas_places A X one n d) (omega (arith, p.ends)) ∙ q))
      go f (F.ends_comma {ts = ts} d) q = built
          (front_as (sym (append_assoc p.front (Op Sign.Comma ∷ ts) (Op Sign.Comma ∷ []))) (both (front_of p) (sign h f)))
          (F.ends_comma (F.comma p.derived d)) (p.places_are ⊕ (ap (λ n. commas_places A X one n d) (omega (arith, p.ends)) ∙ q))

  pub commaed_last : {i r : List Terminal} {at following : ℕ} {x : A} {ps : List Stretch} → PlacedOne A X one i at x r following ps
      → Commaed A X one i at (x ∷ []) r following ps
  commaed_last p = more (built (front_of p) (F.ends_bare (F.alone p.derived)) p.places_are)

  commaed_more : {i r s u : List Terminal} {at m following : ℕ} {x : A} {xs : List A} {ps qs : List Stretch}
      → PlacedOne A X one i at x r m ps → r ≡ Op Sign.Comma ∷ s → Commaed A X one s (m + 1) xs u following qs
      → Commaed A X one i at (x ∷ xs) u following (ps ++ qs)
  commaed_more {ps = ps} p h no_more = more (built (both (front_of p) (sign h nothing)) (F.ends_comma (F.alone p.derived))
      (p.places_are ∙ sym (append-nil ps)))
  commaed_more p h (more c) = more (ended_more p h c)

  -- a loop whose turns begin after a comma, which may end it
  pub commaed_turn : {i r s u : List Terminal} {at m n : ℕ} {x : A} {xs : List A} {ps qs : List Stretch}
      → Grows (Commaed A X one) i at xs r m ps → PlacedOne A X one r m x s n qs → s ≡ Op Sign.Comma ∷ u
      → Grows (Commaed A X one) i at (xs ++ (x ∷ [])) u (n + 1) (ps ++ qs)
  commaed_turn {x = x} {qs = qs} g p h = grows_turn (x ∷ []) qs g (λ fs s next ws c. commaed_more p h c)

  pub commaed_end : {i r : List Terminal} {at m : ℕ} {xs : List A} {ps : List Stretch} → Grows (Commaed A X one) i at xs r m ps
      → Commaed A X one i at xs r m ps
  commaed_end g = grows_end g no_more

  pub commaed_with : {i r s : List Terminal} {at m n : ℕ} {x : A} {xs : List A} {ps qs : List Stretch}
      → Grows (Commaed A X one) i at xs r m ps → PlacedOne A X one r m x s n qs
      → Commaed A X one i at (xs ++ (x ∷ [])) s n (ps ++ qs)
  commaed_with {x = x} g p = g.so (x ∷ []) _ _ _ (commaed_last p)

  -- where one was read
  pub commaed_some : {i r : List Terminal} {at following : ℕ} {x : A} {xs : List A} {ps : List Stretch}
      → Commaed A X one i at (x ∷ xs) r following ps → PlacedEnded A X one i at (x ∷ xs) r following ps
  commaed_some (more c) = c

-- ---- Parameters of types.
pub placed_type_var : {x : Spelled} {i r s : List Terminal} {at following : ℕ} {ps : List Stretch} {eo : Option Expr} → i ≡ Ident x ∷ r
    → PlacedAfter (Op Sign.Colon) Expression r (at + 1) eo s following ps
    → PlacedTypeParam i at (TypeVar x.form eo) s following (ps ++ (stretch at following ∷ []))
placed_type_var h p = built (sign h (front_of p)) (F.type_var p.derived) (from p (omega arith) ⊕ own (omega (arith, p.ends)))

pub placed_type_var_tuple : {x : Spelled} {i r s : List Terminal} {at : ℕ} → i ≡ Op Sign.Star ∷ r → r ≡ Ident x ∷ s
    → PlacedTypeParam i at (TypeVarTuple x.form) s (at + 1 + 1) (stretch at (at + 1 + 1) ∷ [])
placed_type_var_tuple h k = built (sign h (sign k nothing)) F.type_var_tuple (own (omega arith))

pub placed_param_spec : {x : Spelled} {i r s : List Terminal} {at : ℕ} → i ≡ Op Sign.DoubleStar ∷ r → r ≡ Ident x ∷ s
    → PlacedTypeParam i at (ParamSpec x.form) s (at + 1 + 1) (stretch at (at + 1 + 1) ∷ [])
placed_param_spec h k = built (sign h (sign k nothing)) F.param_spec (own (omega arith))

pub placed_no_type_params : {prof : Profile} {r : List Terminal} {at : ℕ} → PlacedTypeParams prof r at [] r at []
placed_no_type_params = built nothing F.no_type_params refl

pub placed_type_params : {prof : Profile} {i r s u : List Terminal} {at m : ℕ} {ps : List Stretch} {tys : List TypeParam}
    → has_types prof ≡ true → i ≡ Op Sign.LSqb ∷ r → PlacedEnded TypeParam F.TypeParamOf (λ ts a. type_param_places) r (at + 1) tys s m ps
    → s ≡ Op Sign.RSqb ∷ u → PlacedTypeParams prof i at tys u (m + 1) ps
placed_type_params q h c k = built (sign h (both (front_of c) (sign k nothing))) (F.type_params q c.derived) (from c (omega arith))

pub placed_all_names : {i r : List Terminal} {at : ℕ} → i ≡ Op Sign.Star ∷ r
    → PlacedNames i at (alias (asterisk ∷ []) None ∷ []) r (at + 1) (stretch at (at + 1) ∷ [])
placed_all_names h = built (sign h nothing) F.all_names refl

pub placed_names : {i r : List Terminal} {at following : ℕ} {ps : List Stretch} {als : List Alias}
    → PlacedCommas Alias F.NameAlias (λ ts a. name_alias_places) i at als r following ps → PlacedNames i at als r following ps
placed_names c = built (front_of c) (F.names c.derived) c.places_are

pub placed_bracketed_names : {i r s u : List Terminal} {at m : ℕ} {ps : List Stretch} {als : List Alias} → i ≡ Op Sign.LPar ∷ r
    → PlacedEnded Alias F.NameAlias (λ ts a. name_alias_places) r (at + 1) als s m ps → s ≡ Op Sign.RPar ∷ u
    → PlacedNames i at als u (m + 1) ps
placed_bracketed_names h c k = built (sign h (both (front_of c) (sign k nothing))) (F.bracketed_names c.derived) (from c (omega arith))

pub placed_more_targets : {i r s u : List Terminal} {at m following : ℕ} {e : Expr} {es : List Expr} {ps qs : List Stretch}
    → PlacedTarget i at e r m ps → r ≡ Op Sign.Equal ∷ s → PlacedTargets s (m + 1) es u following qs
    → PlacedTargets i at (e ∷ es) u following (ps ++ qs)
placed_more_targets p h c = built (both (front_of p) (sign h (front_of c))) (F.more_targets p.derived c.derived)
    (p.places_are ⊕ from c (omega (arith, p.ends)))

-- none, or some
pub data Assigned : List Terminal → ℕ → List Expr → List Terminal → ℕ → List Stretch → Type 0 where
  no_target : {r : List Terminal} {at : ℕ} → Assigned r at [] r at []
  targets : {i r : List Terminal} {at following : ℕ} {e : Expr} {es : List Expr} {ps : List Stretch} → PlacedTargets i at (e ∷ es) r following ps
      → Assigned i at (e ∷ es) r following ps

pub assigned_more : {i r s u : List Terminal} {at m n : ℕ} {e : Expr} {es : List Expr} {ps qs : List Stretch} → PlacedTarget i at e r m ps
    → r ≡ Op Sign.Equal ∷ s → Assigned s (m + 1) es u n qs → Assigned i at (e ∷ es) u n (ps ++ qs)
assigned_more {ps = ps} p h no_target =
    targets (built (both (front_of p) (sign h nothing)) (F.last_target p.derived) (p.places_are ∙ sym (append-nil ps)))
assigned_more p h (targets c) = targets (placed_more_targets p h c)

pub assigned_turn : {i r s u : List Terminal} {at m n : ℕ} {e : Expr} {es : List Expr} {ps qs : List Stretch}
    → Grows Assigned i at es r m ps → PlacedTarget r m e s n qs → s ≡ Op Sign.Equal ∷ u
    → Grows Assigned i at (es ++ (e ∷ [])) u (n + 1) (ps ++ qs)
assigned_turn {e = e} {qs = qs} g p h = grows_turn (e ∷ []) qs g (λ fs s next ws c. assigned_more p h c)

pub assigned_end : {i r : List Terminal} {at m : ℕ} {es : List Expr} {ps : List Stretch} → Grows Assigned i at es r m ps
    → Assigned i at es r m ps
assigned_end g = grows_end g no_target
