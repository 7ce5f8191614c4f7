-- What each field of a node has of the entries of a list: of two lists it has what it has of each.
--
-- Carries: the loops over lists, whose entries come one by one.
use Rattle.std.proofs.Common.{◌≡◌, refl, sym, ap, ◌∙◌, List, [], ◌∷◌, ◌++◌, append_assoc}
use Rattle.std.proofs.lemmas.List.{append-nil}
use Rattle.pyplaces.specs.Stretches.{Stretch}
use Rattle.pyplaces.specs.EntryPlaces as E
use Rattle.pyplaces.specs.EntryPlaces.{EntryPlaces, Single, Paired, Spread, Doubled, Keyed, Plain, Bare, Gathered, Collected}
use Rattle.pyplaces.specs.PatternPlaces as P

-- some places in front
following : {xs : List Stretch} (ps ys zs : List Stretch) → xs ≡ ys ++ zs → ps ++ xs ≡ (ps ++ ys) ++ zs
following ps ys zs h = ap (λ z. ps ++ z) h ∙ sym (append_assoc ps ys zs)

-- and one more
following_one : {xs : List Stretch} (ps : List Stretch) (s : Stretch) (ys zs : List Stretch) → xs ≡ ys ++ zs
    → ps ++ (s ∷ xs) ≡ (ps ++ (s ∷ ys)) ++ zs
following_one ps s ys zs h = following ps (s ∷ ys) zs (ap (λ z. s ∷ z) h)

-- one entry more: of its places, or of none
pub with_one : {xs : List Stretch} (ys ps : List Stretch) → xs ≡ ys ++ (ps ++ []) → xs ≡ ys ++ ps
with_one ys ps h = h ∙ ap (λ z. ys ++ z) (append-nil ps)

pub with_none : {xs : List Stretch} (ys : List Stretch) → xs ≡ ys ++ [] → xs ≡ ys
with_none ys h = h ∙ append-nil ys

-- ---- Expressions.

pub singles_append : (es fs : List EntryPlaces) → E.singles (es ++ fs) ≡ E.singles es ++ E.singles fs
singles_append [] fs = refl
singles_append (Single ps ∷ es) fs = following ps _ _ (singles_append es fs)
singles_append (_ ∷ es) fs = singles_append es fs

pub keys_append : (es fs : List EntryPlaces) → E.keys (es ++ fs) ≡ E.keys es ++ E.keys fs
keys_append [] fs = refl
keys_append (Paired ks vs ∷ es) fs = following ks _ _ (keys_append es fs)
keys_append (_ ∷ es) fs = keys_append es fs

pub values_append : (es fs : List EntryPlaces) → E.values (es ++ fs) ≡ E.values es ++ E.values fs
values_append [] fs = refl
values_append (Paired ks vs ∷ es) fs = following vs _ _ (values_append es fs)
values_append (Doubled vs s ∷ es) fs = following vs _ _ (values_append es fs)
values_append (_ ∷ es) fs = values_append es fs

pub positional_append : (es fs : List EntryPlaces) → E.positional (es ++ fs) ≡ E.positional es ++ E.positional fs
positional_append [] fs = refl
positional_append (Single ps ∷ es) fs = following ps _ _ (positional_append es fs)
positional_append (Spread ps s ∷ es) fs = following_one ps s _ _ (positional_append es fs)
positional_append (_ ∷ es) fs = positional_append es fs

pub keywords_append : (es fs : List EntryPlaces) → E.keywords (es ++ fs) ≡ E.keywords es ++ E.keywords fs
keywords_append [] fs = refl
keywords_append (Keyed ps s ∷ es) fs = following_one ps s _ _ (keywords_append es fs)
keywords_append (Doubled ps s ∷ es) fs = following_one ps s _ _ (keywords_append es fs)
keywords_append (_ ∷ es) fs = keywords_append es fs

-- ---- Parameters.

pub parameters_append : (es fs : List EntryPlaces) → E.parameters (es ++ fs) ≡ E.parameters es ++ E.parameters fs
parameters_append [] fs = refl
parameters_append (Plain ps ds ∷ es) fs = following ps _ _ (parameters_append es fs)
parameters_append (Gathered ps ∷ es) fs = following ps _ _ (parameters_append es fs)
parameters_append (_ ∷ es) fs = parameters_append es fs

pub all_defaults_append : (es fs : List EntryPlaces) → E.all_defaults (es ++ fs) ≡ E.all_defaults es ++ E.all_defaults fs
all_defaults_append [] fs = refl
all_defaults_append (Plain ps ds ∷ es) fs = following ds _ _ (all_defaults_append es fs)
all_defaults_append (_ ∷ es) fs = all_defaults_append es fs

pub collected_append : (es fs : List EntryPlaces) → E.collected (es ++ fs) ≡ E.collected es ++ E.collected fs
collected_append [] fs = refl
collected_append (Collected ps ∷ es) fs = following ps _ _ (collected_append es fs)
collected_append (_ ∷ es) fs = collected_append es fs

-- no star was read
pub data Unstarred : List EntryPlaces → Type 0 where
  none : Unstarred []
  plain : {ps ds : List Stretch} {es : List EntryPlaces} → Unstarred es → Unstarred (Plain ps ds ∷ es)
  slash : {es : List EntryPlaces} → Unstarred es → Unstarred (E.Slashed ∷ es)

-- before the star, the star, and after it
pub defaults_before : {es : List EntryPlaces} (fs : List EntryPlaces) → Unstarred es
    → E.defaults (es ++ fs) ≡ E.defaults es ++ E.defaults fs
defaults_before fs none = refl
defaults_before fs (plain {ds = ds} u) = following ds _ _ (defaults_before fs u)
defaults_before fs (slash u) = defaults_before fs u

pub keyword_defaults_before : {es : List EntryPlaces} (fs : List EntryPlaces) → Unstarred es
    → E.keyword_defaults (es ++ fs) ≡ E.keyword_defaults fs
keyword_defaults_before fs none = refl
keyword_defaults_before fs (plain u) = keyword_defaults_before fs u
keyword_defaults_before fs (slash u) = keyword_defaults_before fs u

pub unstarred_plain : {es : List EntryPlaces} (ps ds : List Stretch) → Unstarred es → Unstarred (es ++ (Plain ps ds ∷ []))
unstarred_plain ps ds none = plain none
unstarred_plain ps ds (plain u) = plain (unstarred_plain ps ds u)
unstarred_plain ps ds (slash u) = slash (unstarred_plain ps ds u)

pub unstarred_slash : {es : List EntryPlaces} → Unstarred es → Unstarred (es ++ (E.Slashed ∷ []))
unstarred_slash none = slash none
unstarred_slash (plain u) = plain (unstarred_slash u)
unstarred_slash (slash u) = slash (unstarred_slash u)

-- a star was read
pub data Starred : List EntryPlaces → Type 0 where
  at_bare : {es : List EntryPlaces} → Starred (Bare ∷ es)
  at_gathered : {ps : List Stretch} {es : List EntryPlaces} → Starred (Gathered ps ∷ es)
  past : {e : EntryPlaces} {es : List EntryPlaces} → Starred es → Starred (e ∷ es)

pub starred_bare : (es : List EntryPlaces) → Starred (es ++ (Bare ∷ []))
starred_bare [] = at_bare
starred_bare (e ∷ es) = past (starred_bare es)

pub starred_gathered : (es : List EntryPlaces) (ps : List Stretch) → Starred (es ++ (Gathered ps ∷ []))
starred_gathered [] ps = at_gathered
starred_gathered (e ∷ es) ps = past (starred_gathered es ps)

pub starred_more : {es : List EntryPlaces} (fs : List EntryPlaces) → Starred es → Starred (es ++ fs)
starred_more fs at_bare = at_bare
starred_more fs at_gathered = at_gathered
starred_more fs (past u) = past (starred_more fs u)

pub defaults_after : {es : List EntryPlaces} (fs : List EntryPlaces) → Starred es → E.defaults (es ++ fs) ≡ E.defaults es
defaults_after fs at_bare = refl
defaults_after fs at_gathered = refl
defaults_after fs (past {e = Plain ps ds} u) = ap (λ z. ds ++ z) (defaults_after fs u)
defaults_after fs (past {e = Bare} u) = refl
defaults_after fs (past {e = Gathered ps} u) = refl
defaults_after fs (past {e = _} u) = defaults_after fs u

pub keyword_defaults_after : {es : List EntryPlaces} (fs : List EntryPlaces) → Starred es
    → E.keyword_defaults (es ++ fs) ≡ E.keyword_defaults es ++ E.all_defaults fs
keyword_defaults_after fs (at_bare {es = es}) = all_defaults_append es fs
keyword_defaults_after fs (at_gathered {es = es}) = all_defaults_append es fs
keyword_defaults_after fs (past {e = Bare} {es = es} u) = all_defaults_append es fs
keyword_defaults_after fs (past {e = Gathered ps} {es = es} u) = all_defaults_append es fs
keyword_defaults_after fs (past {e = _} u) = keyword_defaults_after fs u

-- ---- Patterns.
