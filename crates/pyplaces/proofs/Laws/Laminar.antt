-- Places of which one holds the other, or which are apart: where parts stand one after the other, and where one place holds the others.
--
-- Carries: Apart. On: Within.
use Rattle.std.proofs.Common.{◌≡◌, ◌⊎◌, inl, inr, refl, sym, ap, ◌∙◌, ℕ, ◌+◌, ◌<◌, ◌≤◌, arith, List, [], ◌∷◌, ◌++◌, append_assoc}
use Rattle.std.proofs.Common.{append-nil}
use Rattle.std.proofs.Common.{subst}
use Rattle.pygrammar.specs.FormattedStrings.{StringPart, Text, Field}
use Rattle.pyplaces.specs.Stretches.{Stretch, stretch}
use Rattle.pyplaces.specs.EntryPlaces as E
use Rattle.pyplaces.specs.EntryPlaces.{EntryPlaces}
use Rattle.pyplaces.specs.ExpressionPlaces.{string_places}
use Rattle.pyplaces.specs.Laws.{IsWithin, AreWithin, Contains, first, later, AreClear, holds, is_held, before, following, AreLaminar}
use Rattle.pyplaces.proofs.Laws.Within.{Within, none, more, is_within, ◌⊕◌}

-- ---- What lists contain.

pub in_both : (ps qs : List Stretch) {s : Stretch} → Contains s (ps ++ qs) → Contains s ps ⊎ Contains s qs
in_both [] qs c = inr c
in_both (p ∷ ps) qs first = inl first
in_both (p ∷ ps) qs (later c) = elim (in_both ps qs c) [ inl d ↦ inl (later d) | inr d ↦ inr d ]

pub in_front : (ps qs : List Stretch) {s : Stretch} → Contains s ps → Contains s (ps ++ qs)
in_front [] qs c = elim c [ ]
in_front (p ∷ ps) qs first = first
in_front (p ∷ ps) qs (later c) = later (in_front ps qs c)

pub in_back : (ps qs : List Stretch) {s : Stretch} → Contains s qs → Contains s (ps ++ qs)
in_back [] qs c = c
in_back (p ∷ ps) qs c = later (in_back ps qs c)

pub is_in : {lo hi : ℕ} (ps : List Stretch) {s : Stretch} → AreWithin lo hi ps → Contains s ps → IsWithin lo hi s
is_in [] h c = elim c [ ]
is_in (p ∷ ps) h first = h.0
is_in (p ∷ ps) h (later c) = is_in ps h.1 c

turned : {s t : Stretch} → AreClear s t → AreClear t s
turned (holds a b) = is_held a b
turned (is_held a b) = holds a b
turned (before a) = following a
turned (following a) = before a

self : (s : Stretch) → AreClear s s
self s = holds (omega arith) (omega arith)

-- ---- Some places within lo and hi.

pub record Laminar (lo hi : ℕ) (ps : List Stretch) : Type 0 where
  pub ordered : lo ≤ hi
  pub within : Within lo hi ps
  pub are : AreLaminar ps

are_wide : (lo hi low high : ℕ) (ps : List Stretch) → low ≤ lo → hi ≤ high → AreWithin lo hi ps → AreWithin low high ps
are_wide lo hi low high [] a b h = tt
are_wide lo hi low high (p ∷ ps) a b h = (
  record { begins = omega (arith, h.0.begins); some = h.0.some; ends = omega (arith, h.0.ends) },
  are_wide lo hi low high ps a b h.1,
)

wider : {lo hi low high : ℕ} {ps : List Stretch} → low ≤ lo → hi ≤ high → Within lo hi ps → Within low high ps
wider {lo} {hi} {low} {high} {ps} a b w = record { are = are_wide lo hi low high ps a b w.are }

pub wide : {lo hi low high : ℕ} {ps : List Stretch} → Laminar lo hi ps → low ≤ lo → hi ≤ high → Laminar low high ps
wide l a b = let o = l.ordered in record { ordered = omega arith; within = wider a b l.within; are = l.are }

pub nothing : {lo hi : ℕ} → lo ≤ hi → Laminar lo hi []
nothing h = record { ordered = h; within = none; are = λ s t c d. elim c [ ] }

-- parts one after the other
crossing : {lo mid next hi : ℕ} (ps qs : List Stretch) → Within lo mid ps → Within next hi qs → mid ≤ next → (s t : Stretch)
    → Contains s ps → Contains t qs → AreClear s t
crossing ps qs h k m s t c d =
    let a = (is_in ps h.are c).ends in
    let b = (is_in qs k.are d).begins in before (omega (arith, a, b, m))

seq_are : {lo mid next hi : ℕ} (ps qs : List Stretch) → Laminar lo mid ps → Laminar next hi qs → mid ≤ next → AreLaminar (ps ++ qs)
seq_are ps qs p q m s t c d = elim (in_both ps qs c) [
  | inl x ↦ elim (in_both ps qs d) [
    | inl y ↦ p.are s t x y
    | inr y ↦ crossing ps qs p.within q.within m s t x y
  ]
  | inr x ↦ elim (in_both ps qs d) [
    | inl y ↦ turned (crossing ps qs p.within q.within m t s y x)
    | inr y ↦ q.are s t x y
  ]
]

pub seq : {lo mid next hi : ℕ} {ps qs : List Stretch} → Laminar lo mid ps → Laminar next hi qs → mid ≤ next → Laminar lo hi (ps ++ qs)
seq {ps = ps} {qs = qs} p q m =
    let a = p.ordered in
    let b = q.ordered in
    record {
      ordered = omega arith;
      within = wider (omega arith) (omega arith) p.within ⊕ wider (omega arith) (omega arith) q.within;
      are = seq_are ps qs p q m;
    }

-- in another order, or fewer
pub among : {lo hi : ℕ} (ps qs : List Stretch) → ((s : Stretch) → Contains s qs → Contains s ps) → Laminar lo hi ps → Laminar lo hi qs
among {lo} {hi} ps qs f l = record {
  ordered = l.ordered;
  within = record { are = each qs (λ s c. is_in ps l.within.are (f s c)) };
  are = λ s t c d. l.are s t (f s c) (f t d);
}
  where
    each : (ss : List Stretch) → ((s : Stretch) → Contains s ss → IsWithin lo hi s) → AreWithin lo hi ss
    each [] g = tt
    each (s ∷ ss) g = (g s first, each ss (λ t c. g t (later c)))

pub as_list : {lo hi : ℕ} {ps qs : List Stretch} → ps ≡ qs → Laminar lo hi ps → Laminar lo hi qs
as_list {lo} {hi} h l = subst (Laminar lo hi) h l

-- ---- A node, after its parts.

own_are : {lo hi : ℕ} (ps : List Stretch) (o : Stretch) → Laminar lo hi ps → o.first ≤ lo → hi ≤ o.following → AreLaminar (ps ++ (o ∷ []))
own_are ps o l a b s t c d = elim (in_both ps (o ∷ []) c) [
  | inl x ↦ elim (in_both ps (o ∷ []) d) [
    | inl y ↦ l.are s t x y
    | inr y ↦ turned (held s t x y)
  ]
  | inr x ↦ elim (in_both ps (o ∷ []) d) [
    | inl y ↦ held t s y x
    | inr y ↦ alone s t x y
  ]
]
  where
    held : (s t : Stretch) → Contains s ps → Contains t (o ∷ []) → AreClear t s
    held s t x first = let w = is_in ps l.within.are x in holds (omega (arith, w.begins)) (omega (arith, w.ends))
    held s t x (later y) = elim y [ ]

    alone : (s t : Stretch) → Contains s (o ∷ []) → Contains t (o ∷ []) → AreClear s t
    alone s t first first = self o
    alone s t first (later y) = elim y [ ]
    alone s t (later x) y = elim x [ ]

pub root : {lo hi low high begin end : ℕ} {ps : List Stretch} → Laminar lo hi ps → begin ≤ lo → hi ≤ end → begin < end → low ≤ begin
    → end ≤ high → Laminar low high (ps ++ (stretch begin end ∷ []))
root {ps = ps} l a b c d e = record {
  ordered = omega arith;
  within = wider (omega arith) (omega arith) l.within ⊕ more (is_within d c e) none;
  are = own_are ps _ l a b;
}

-- of no part, of two, three, four
pub root0 : {low high begin end : ℕ} → begin < end → low ≤ begin → end ≤ high → Laminar low high (stretch begin end ∷ [])
root0 {begin = begin} c d e = root (nothing {lo = begin} {hi = begin} (omega arith)) (omega arith) (omega arith) c d e

pub root2 : {a b c d low high begin end : ℕ} {ps qs : List Stretch} → Laminar a b ps → Laminar c d qs → b ≤ c → begin ≤ a → d ≤ end
    → begin < end → low ≤ begin → end ≤ high → Laminar low high (ps ++ (qs ++ (stretch begin end ∷ [])))
root2 {begin = begin} {end = end} {ps = ps} {qs = qs} p q m f g h i j =
    as_list (append_assoc ps qs (stretch begin end ∷ [])) (root (seq p q m) f g h i j)

pub root3 : {a b c d e f low high begin end : ℕ} {ps qs rs : List Stretch} → Laminar a b ps → Laminar c d qs → Laminar e f rs → b ≤ c
    → d ≤ e → begin ≤ a → f ≤ end → begin < end → low ≤ begin → end ≤ high
    → Laminar low high (ps ++ (qs ++ (rs ++ (stretch begin end ∷ []))))
root3 {begin = begin} {end = end} {ps = ps} {qs = qs} {rs = rs} p q r m n f g h i j =
    as_list (append_assoc ps (qs ++ rs) (stretch begin end ∷ [])
    ∙ ap (λ z. ps ++ z) (append_assoc qs rs (stretch begin end ∷ []))) (root (seq p (seq q r n) m) f g h i j)

-- alone, or where its bounds are those of its place
pub root_own : {lo hi begin end : ℕ} {ps : List Stretch} → Laminar lo hi ps → begin ≤ lo → hi ≤ end → begin < end
    → Laminar begin end (ps ++ (stretch begin end ∷ []))
root_own l a b c = root l a b c (omega arith) (omega arith)

pub one_token : (at : ℕ) → Laminar at (at + 1) (stretch at (at + 1) ∷ [])
one_token at = root0 (omega arith) (omega arith) (omega arith)

-- two nodes, one right below the other
pub root_twice : {lo hi low high b e begin end : ℕ} {ps : List Stretch} → Laminar lo hi ps → b ≤ lo → hi ≤ e → b < e → begin ≤ b → e ≤ end
    → begin < end → low ≤ begin → end ≤ high → Laminar low high (ps ++ ((stretch b e ∷ []) ++ (stretch begin end ∷ [])))
root_twice {b = b} {e = e} {begin = begin} {end = end} {ps = ps} l f g h i j k m n =
    as_list (append_assoc ps (stretch b e ∷ []) (stretch begin end ∷ [])) (root (root_own l f g h) i j k m n)

-- two lists whose members stand in turn
pub root_mixed : {c d low high begin end : ℕ} (qs rs : List Stretch) → Laminar c d (qs ++ rs) → begin ≤ c → d ≤ end → begin < end
    → low ≤ begin → end ≤ high → Laminar low high (qs ++ (rs ++ (stretch begin end ∷ [])))
root_mixed {begin = begin} {end = end} qs rs q g h i j k = as_list (append_assoc qs rs (stretch begin end ∷ [])) (root q g h i j k)

pub root2_mixed : {a b c d low high begin end : ℕ} {ps : List Stretch} (qs rs : List Stretch) → Laminar a b ps → Laminar c d (qs ++ rs)
    → b ≤ c → begin ≤ a → d ≤ end → begin < end → low ≤ begin → end ≤ high
    → Laminar low high (ps ++ (qs ++ (rs ++ (stretch begin end ∷ []))))
root2_mixed {begin = begin} {end = end} {ps = ps} qs rs p q m f g h i j =
    as_list (ap (λ z. ps ++ z) (append_assoc qs rs (stretch begin end ∷ []))) (root2 p q m f g h i j)

-- a part that is placed before the one in front of it
pub swapped : {lo hi : ℕ} (ps qs rs : List Stretch) → Laminar lo hi (ps ++ (qs ++ rs)) → Laminar lo hi (qs ++ (ps ++ rs))
swapped ps qs rs l = among (ps ++ (qs ++ rs)) (qs ++ (ps ++ rs)) (λ s c. turn s (in_both qs (ps ++ rs) c)) l
  where
    next : (s : Stretch) → Contains s ps ⊎ Contains s rs → Contains s (ps ++ (qs ++ rs))
    next s (inl y) = in_front ps (qs ++ rs) y
    next s (inr y) = in_back ps (qs ++ rs) (in_back qs rs y)

    turn : (s : Stretch) → Contains s qs ⊎ Contains s (ps ++ rs) → Contains s (ps ++ (qs ++ rs))
    turn s (inl x) = in_back ps (qs ++ rs) (in_front qs rs x)
    turn s (inr x) = next s (in_both ps rs x)

-- the lone generator of a call
pub root_generator : {a b c d f g low high gb ge begin end : ℕ} {ps qs rs : List Stretch} → Laminar a b ps → Laminar c d qs
    → Laminar f g rs → d ≤ f → gb ≤ c → g ≤ ge → gb < ge → b ≤ gb → begin ≤ a → ge ≤ end → begin < end → low ≤ begin → end ≤ high
    → Laminar low high (ps ++ (qs ++ (rs ++ ((stretch gb ge ∷ []) ++ (stretch begin end ∷ [])))))
root_generator {gb = gb} {ge = ge} {begin = begin} {end = end} {ps = ps} {qs = qs} {rs = rs} p q r c1 c2 c3 c4 c5 c6 c7 c8 c9 c10 =
    as_list (ap (λ z. ps ++ z) (append_assoc qs (rs ++ (stretch gb ge ∷ [])) (stretch begin end ∷ [])
    ∙ ap (λ z. qs ++ z) (append_assoc rs (stretch gb ge ∷ []) (stretch begin end ∷ []))))
    (root2 p (root2 q r c1 c2 c3 c4 (omega arith) (omega arith)) c5 c6 c7 c8 c9 c10)

-- ---- Entries.

-- all places of an entry, in the order of its terminals
abbrev pub all_of : EntryPlaces → List Stretch
all_of (E.Single ps) = ps
all_of (E.Paired ks vs) = ks ++ vs
all_of (E.Spread ps s) = ps ++ (s ∷ [])
all_of (E.Doubled ps s) = ps ++ (s ∷ [])
all_of (E.Keyed ps s) = ps ++ (s ∷ [])
all_of (E.Plain ps ds) = ps ++ ds
all_of E.Slashed = []
all_of E.Bare = []
all_of (E.Gathered ps) = ps
all_of (E.Collected ps) = ps

abbrev pub flat : List EntryPlaces → List Stretch
flat [] = []
flat (p ∷ ps) = all_of p ++ flat ps

pub both_in : (ps qs rs : List Stretch) {s : Stretch} → (Contains s ps → Contains s rs)
    → (Contains s qs → Contains s rs) → Contains s (ps ++ qs)
    → Contains s rs
both_in ps qs rs f g c = elim (in_both ps qs c) [ inl x ↦ f x | inr x ↦ g x ]

pub each_in : (ps qs rs ts : List Stretch) {s : Stretch} → (Contains s ps → Contains s qs) → (Contains s rs → Contains s ts)
    → Contains s (ps ++ rs) → Contains s (qs ++ ts)
each_in ps qs rs ts f g c = elim (in_both ps rs c) [ inl x ↦ in_front qs ts (f x) | inr x ↦ in_back qs ts (g x) ]

own_last : (ps : List Stretch) (o : Stretch) (rs ts : List Stretch) {s : Stretch} → (Contains s rs → Contains s ts) → Contains s (o ∷ rs)
    → Contains s ((ps ++ (o ∷ [])) ++ ts)
own_last ps o rs ts g first = in_front (ps ++ (o ∷ [])) ts (in_back ps (o ∷ []) first)
own_last ps o rs ts g (later y) = in_back (ps ++ (o ∷ [])) ts (g y)

own_in : (ps : List Stretch) (o : Stretch) (rs ts : List Stretch) {s : Stretch} → (Contains s rs → Contains s ts)
    → Contains s (ps ++ (o ∷ rs)) → Contains s ((ps ++ (o ∷ [])) ++ ts)
own_in ps o rs ts g c = elim (in_both ps (o ∷ rs) c) [
  | inl x ↦ in_front (ps ++ (o ∷ [])) ts (in_front ps (o ∷ []) x)
  | inr x ↦ own_last ps o rs ts g x
]

singles_in : (es : List EntryPlaces) {s : Stretch} → Contains s (E.singles es) → Contains s (flat es)
singles_in [] c = elim c [ ]
singles_in (E.Single ps ∷ es) c = each_in ps ps (E.singles es) (flat es) (λ x. x) (singles_in es) c
singles_in (E.Paired ks vs ∷ es) c = in_back (ks ++ vs) (flat es) (singles_in es c)
singles_in (E.Spread ps o ∷ es) c = in_back (ps ++ (o ∷ [])) (flat es) (singles_in es c)
singles_in (E.Doubled ps o ∷ es) c = in_back (ps ++ (o ∷ [])) (flat es) (singles_in es c)
singles_in (E.Keyed ps o ∷ es) c = in_back (ps ++ (o ∷ [])) (flat es) (singles_in es c)
singles_in (E.Plain ps ds ∷ es) c = in_back (ps ++ ds) (flat es) (singles_in es c)
singles_in (E.Slashed ∷ es) c = in_back [] (flat es) (singles_in es c)
singles_in (E.Bare ∷ es) c = in_back [] (flat es) (singles_in es c)
singles_in (E.Gathered ps ∷ es) c = in_back ps (flat es) (singles_in es c)
singles_in (E.Collected ps ∷ es) c = in_back ps (flat es) (singles_in es c)

keys_in : (es : List EntryPlaces) {s : Stretch} → Contains s (E.keys es) → Contains s (flat es)
keys_in [] c = elim c [ ]
keys_in (E.Single ps ∷ es) c = in_back ps (flat es) (keys_in es c)
keys_in (E.Paired ks vs ∷ es) c = each_in ks (ks ++ vs) (E.keys es) (flat es) (in_front ks vs) (keys_in es) c
keys_in (E.Spread ps o ∷ es) c = in_back (ps ++ (o ∷ [])) (flat es) (keys_in es c)
keys_in (E.Doubled ps o ∷ es) c = in_back (ps ++ (o ∷ [])) (flat es) (keys_in es c)
keys_in (E.Keyed ps o ∷ es) c = in_back (ps ++ (o ∷ [])) (flat es) (keys_in es c)
keys_in (E.Plain ps ds ∷ es) c = in_back (ps ++ ds) (flat es) (keys_in es c)
keys_in (E.Slashed ∷ es) c = in_back [] (flat es) (keys_in es c)
keys_in (E.Bare ∷ es) c = in_back [] (flat es) (keys_in es c)
keys_in (E.Gathered ps ∷ es) c = in_back ps (flat es) (keys_in es c)
keys_in (E.Collected ps ∷ es) c = in_back ps (flat es) (keys_in es c)

values_in : (es : List EntryPlaces) {s : Stretch} → Contains s (E.values es) → Contains s (flat es)
values_in [] c = elim c [ ]
values_in (E.Single ps ∷ es) c = in_back ps (flat es) (values_in es c)
values_in (E.Paired ks vs ∷ es) c = each_in vs (ks ++ vs) (E.values es) (flat es) (in_back ks vs) (values_in es) c
values_in (E.Spread ps o ∷ es) c = in_back (ps ++ (o ∷ [])) (flat es) (values_in es c)
values_in (E.Doubled ps o ∷ es) c = each_in ps (ps ++ (o ∷ [])) (E.values es) (flat es) (in_front ps (o ∷ [])) (values_in es) c
values_in (E.Keyed ps o ∷ es) c = in_back (ps ++ (o ∷ [])) (flat es) (values_in es c)
values_in (E.Plain ps ds ∷ es) c = in_back (ps ++ ds) (flat es) (values_in es c)
values_in (E.Slashed ∷ es) c = in_back [] (flat es) (values_in es c)
values_in (E.Bare ∷ es) c = in_back [] (flat es) (values_in es c)
values_in (E.Gathered ps ∷ es) c = in_back ps (flat es) (values_in es c)
values_in (E.Collected ps ∷ es) c = in_back ps (flat es) (values_in es c)

positional_in : (es : List EntryPlaces) {s : Stretch} → Contains s (E.positional es) → Contains s (flat es)
positional_in [] c = elim c [ ]
positional_in (E.Single ps ∷ es) c = each_in ps ps (E.positional es) (flat es) (λ x. x) (positional_in es) c
positional_in (E.Paired ks vs ∷ es) c = in_back (ks ++ vs) (flat es) (positional_in es c)
positional_in (E.Spread ps o ∷ es) c = own_in ps o (E.positional es) (flat es) (positional_in es) c
positional_in (E.Doubled ps o ∷ es) c = in_back (ps ++ (o ∷ [])) (flat es) (positional_in es c)
positional_in (E.Keyed ps o ∷ es) c = in_back (ps ++ (o ∷ [])) (flat es) (positional_in es c)
positional_in (E.Plain ps ds ∷ es) c = in_back (ps ++ ds) (flat es) (positional_in es c)
positional_in (E.Slashed ∷ es) c = in_back [] (flat es) (positional_in es c)
positional_in (E.Bare ∷ es) c = in_back [] (flat es) (positional_in es c)
positional_in (E.Gathered ps ∷ es) c = in_back ps (flat es) (positional_in es c)
positional_in (E.Collected ps ∷ es) c = in_back ps (flat es) (positional_in es c)

keywords_in : (es : List EntryPlaces) {s : Stretch} → Contains s (E.keywords es) → Contains s (flat es)
keywords_in [] c = elim c [ ]
keywords_in (E.Single ps ∷ es) c = in_back ps (flat es) (keywords_in es c)
keywords_in (E.Paired ks vs ∷ es) c = in_back (ks ++ vs) (flat es) (keywords_in es c)
keywords_in (E.Spread ps o ∷ es) c = in_back (ps ++ (o ∷ [])) (flat es) (keywords_in es c)
keywords_in (E.Doubled ps o ∷ es) c = own_in ps o (E.keywords es) (flat es) (keywords_in es) c
keywords_in (E.Keyed ps o ∷ es) c = own_in ps o (E.keywords es) (flat es) (keywords_in es) c
keywords_in (E.Plain ps ds ∷ es) c = in_back (ps ++ ds) (flat es) (keywords_in es c)
keywords_in (E.Slashed ∷ es) c = in_back [] (flat es) (keywords_in es c)
keywords_in (E.Bare ∷ es) c = in_back [] (flat es) (keywords_in es c)
keywords_in (E.Gathered ps ∷ es) c = in_back ps (flat es) (keywords_in es c)
keywords_in (E.Collected ps ∷ es) c = in_back ps (flat es) (keywords_in es c)

parameters_in : (es : List EntryPlaces) {s : Stretch} → Contains s (E.parameters es) → Contains s (flat es)
parameters_in [] c = elim c [ ]
parameters_in (E.Single ps ∷ es) c = in_back ps (flat es) (parameters_in es c)
parameters_in (E.Paired ks vs ∷ es) c = in_back (ks ++ vs) (flat es) (parameters_in es c)
parameters_in (E.Spread ps o ∷ es) c = in_back (ps ++ (o ∷ [])) (flat es) (parameters_in es c)
parameters_in (E.Doubled ps o ∷ es) c = in_back (ps ++ (o ∷ [])) (flat es) (parameters_in es c)
parameters_in (E.Keyed ps o ∷ es) c = in_back (ps ++ (o ∷ [])) (flat es) (parameters_in es c)
parameters_in (E.Plain ps ds ∷ es) c = each_in ps (ps ++ ds) (E.parameters es) (flat es) (in_front ps ds) (parameters_in es) c
parameters_in (E.Slashed ∷ es) c = in_back [] (flat es) (parameters_in es c)
parameters_in (E.Bare ∷ es) c = in_back [] (flat es) (parameters_in es c)
parameters_in (E.Gathered ps ∷ es) c = each_in ps ps (E.parameters es) (flat es) (λ x. x) (parameters_in es) c
parameters_in (E.Collected ps ∷ es) c = in_back ps (flat es) (parameters_in es c)

all_defaults_in : (es : List EntryPlaces) {s : Stretch} → Contains s (E.all_defaults es) → Contains s (flat es)
all_defaults_in [] c = elim c [ ]
all_defaults_in (E.Single ps ∷ es) c = in_back ps (flat es) (all_defaults_in es c)
all_defaults_in (E.Paired ks vs ∷ es) c = in_back (ks ++ vs) (flat es) (all_defaults_in es c)
all_defaults_in (E.Spread ps o ∷ es) c = in_back (ps ++ (o ∷ [])) (flat es) (all_defaults_in es c)
all_defaults_in (E.Doubled ps o ∷ es) c = in_back (ps ++ (o ∷ [])) (flat es) (all_defaults_in es c)
all_defaults_in (E.Keyed ps o ∷ es) c = in_back (ps ++ (o ∷ [])) (flat es) (all_defaults_in es c)
all_defaults_in (E.Plain ps ds ∷ es) c = each_in ds (ps ++ ds) (E.all_defaults es) (flat es) (in_back ps ds) (all_defaults_in es) c
all_defaults_in (E.Slashed ∷ es) c = in_back [] (flat es) (all_defaults_in es c)
all_defaults_in (E.Bare ∷ es) c = in_back [] (flat es) (all_defaults_in es c)
all_defaults_in (E.Gathered ps ∷ es) c = in_back ps (flat es) (all_defaults_in es c)
all_defaults_in (E.Collected ps ∷ es) c = in_back ps (flat es) (all_defaults_in es c)

collected_in : (es : List EntryPlaces) {s : Stretch} → Contains s (E.collected es) → Contains s (flat es)
collected_in [] c = elim c [ ]
collected_in (E.Single ps ∷ es) c = in_back ps (flat es) (collected_in es c)
collected_in (E.Paired ks vs ∷ es) c = in_back (ks ++ vs) (flat es) (collected_in es c)
collected_in (E.Spread ps o ∷ es) c = in_back (ps ++ (o ∷ [])) (flat es) (collected_in es c)
collected_in (E.Doubled ps o ∷ es) c = in_back (ps ++ (o ∷ [])) (flat es) (collected_in es c)
collected_in (E.Keyed ps o ∷ es) c = in_back (ps ++ (o ∷ [])) (flat es) (collected_in es c)
collected_in (E.Plain ps ds ∷ es) c = in_back (ps ++ ds) (flat es) (collected_in es c)
collected_in (E.Slashed ∷ es) c = in_back [] (flat es) (collected_in es c)
collected_in (E.Bare ∷ es) c = in_back [] (flat es) (collected_in es c)
collected_in (E.Gathered ps ∷ es) c = in_back ps (flat es) (collected_in es c)
collected_in (E.Collected ps ∷ es) c = each_in ps ps (E.collected es) (flat es) (λ x. x) (collected_in es) c

defaults_in : (es : List EntryPlaces) {s : Stretch} → Contains s (E.defaults es) → Contains s (flat es)
defaults_in [] c = elim c [ ]
defaults_in (E.Single ps ∷ es) c = in_back ps (flat es) (defaults_in es c)
defaults_in (E.Paired ks vs ∷ es) c = in_back (ks ++ vs) (flat es) (defaults_in es c)
defaults_in (E.Spread ps o ∷ es) c = in_back (ps ++ (o ∷ [])) (flat es) (defaults_in es c)
defaults_in (E.Doubled ps o ∷ es) c = in_back (ps ++ (o ∷ [])) (flat es) (defaults_in es c)
defaults_in (E.Keyed ps o ∷ es) c = in_back (ps ++ (o ∷ [])) (flat es) (defaults_in es c)
defaults_in (E.Plain ps ds ∷ es) c = each_in ds (ps ++ ds) (E.defaults es) (flat es) (in_back ps ds) (defaults_in es) c
defaults_in (E.Slashed ∷ es) c = in_back [] (flat es) (defaults_in es c)
defaults_in (E.Bare ∷ es) c = elim c [ ]
defaults_in (E.Gathered ps ∷ es) c = elim c [ ]
defaults_in (E.Collected ps ∷ es) c = in_back ps (flat es) (defaults_in es c)

keyword_defaults_in : (es : List EntryPlaces) {s : Stretch} → Contains s (E.keyword_defaults es) → Contains s (flat es)
keyword_defaults_in [] c = elim c [ ]
keyword_defaults_in (E.Single ps ∷ es) c = in_back ps (flat es) (keyword_defaults_in es c)
keyword_defaults_in (E.Paired ks vs ∷ es) c = in_back (ks ++ vs) (flat es) (keyword_defaults_in es c)
keyword_defaults_in (E.Spread ps o ∷ es) c = in_back (ps ++ (o ∷ [])) (flat es) (keyword_defaults_in es c)
keyword_defaults_in (E.Doubled ps o ∷ es) c = in_back (ps ++ (o ∷ [])) (flat es) (keyword_defaults_in es c)
keyword_defaults_in (E.Keyed ps o ∷ es) c = in_back (ps ++ (o ∷ [])) (flat es) (keyword_defaults_in es c)
keyword_defaults_in (E.Plain ps ds ∷ es) c = in_back (ps ++ ds) (flat es) (keyword_defaults_in es c)
keyword_defaults_in (E.Slashed ∷ es) c = in_back [] (flat es) (keyword_defaults_in es c)
keyword_defaults_in (E.Bare ∷ es) c = in_back [] (flat es) (all_defaults_in es c)
keyword_defaults_in (E.Gathered ps ∷ es) c = in_back ps (flat es) (all_defaults_in es c)
keyword_defaults_in (E.Collected ps ∷ es) c = in_back ps (flat es) (keyword_defaults_in es c)

pub flat_one : {lo hi : ℕ} (p : EntryPlaces) → Laminar lo hi (all_of p) → Laminar lo hi (flat (p ∷ []))
flat_one p l = as_list (sym (append-nil (all_of p))) l

pub singles_laminar : {lo hi : ℕ} (es : List EntryPlaces) → Laminar lo hi (flat es) → Laminar lo hi (E.singles es)
singles_laminar es l = among (flat es) (E.singles es) (λ s c. singles_in es c) l

pub pairs_laminar : {lo hi : ℕ} (es : List EntryPlaces) → Laminar lo hi (flat es) → Laminar lo hi (E.keys es ++ E.values es)
pairs_laminar es l =
    among (flat es) (E.keys es ++ E.values es) (λ s c. both_in (E.keys es) (E.values es) (flat es) (keys_in es) (values_in es) c) l

pub arguments_laminar : {lo hi : ℕ} (es : List EntryPlaces) → Laminar lo hi (flat es) → Laminar lo hi (E.positional es ++ E.keywords es)
arguments_laminar es l =
    among (flat es) (E.positional es ++ E.keywords es)
    (λ s c. both_in (E.positional es) (E.keywords es) (flat es) (positional_in es) (keywords_in es) c) l

arranged_in : (es : List EntryPlaces) {s : Stretch} → Contains s (E.arranged es) → Contains s (flat es)
arranged_in es c =
    both_in (E.parameters es) (E.keyword_defaults es ++ (E.collected es ++ E.defaults es)) (flat es) (parameters_in es)
    (λ d. both_in (E.keyword_defaults es) (E.collected es ++ E.defaults es) (flat es) (keyword_defaults_in es)
    (λ e. both_in (E.collected es) (E.defaults es) (flat es) (collected_in es) (defaults_in es) e) d) c

pub arranged_laminar : {lo hi : ℕ} (es : List EntryPlaces) → Laminar lo hi (flat es) → Laminar lo hi (E.arranged es)
arranged_laminar es l = among (flat es) (E.arranged es) (λ s c. arranged_in es c) l

-- ---- F-strings: each place of a row is the row itself, or in a field.

pub record InRow (row : Stretch) (lo hi : ℕ) (ps : List Stretch) : Type 0 where
  pub ordered : lo ≤ hi
  pub begins : row.first ≤ lo
  pub ends : hi ≤ row.following
  pub each : (s : Stretch) → Contains s ps → (s ≡ row) ⊎ IsWithin lo hi s
  pub are : AreLaminar ps

pub in_row : {row : Stretch} {lo hi : ℕ} {ps : List Stretch} → Laminar lo hi ps → row.first ≤ lo → hi ≤ row.following → InRow row lo hi ps
in_row {ps = ps} l a b = record {
  ordered = l.ordered;
  begins = a;
  ends = b;
  each = λ s c. inr (is_in ps l.within.are c);
  are = l.are;
}

pub row_none : {row : Stretch} {lo hi : ℕ} → lo ≤ hi → row.first ≤ lo → hi ≤ row.following → InRow row lo hi []
row_none h a b = in_row (nothing h) a b

-- the row and one of its places
row_clear : {row : Stretch} {lo hi : ℕ} (s : Stretch) → row.first ≤ lo → hi ≤ row.following → (s ≡ row) ⊎ IsWithin lo hi s → AreClear row s
row_clear {row} s a b (inl e) = subst (λ x. AreClear row x) (sym e) (self row)
row_clear s a b (inr w) = holds (omega (arith, w.begins)) (omega (arith, w.ends))

row_cross : {row : Stretch} {lo mid next hi : ℕ} (s t : Stretch) → row.first ≤ lo → mid ≤ row.following → row.first ≤ next → hi ≤ row.following
    → mid ≤ next → (s ≡ row) ⊎ IsWithin lo mid s → (t ≡ row) ⊎ IsWithin next hi t → AreClear s t
row_cross s t a b c d m (inl e) y = subst (λ x. AreClear x t) (sym e) (row_clear t c d y)
row_cross s t a b c d m (inr w) (inl e) = turned (subst (λ x. AreClear x s) (sym e) (row_clear s a b (inr w)))
row_cross s t a b c d m (inr w) (inr v) = before (omega (arith, w.ends, v.begins))

row_wide : {row s : Stretch} {lo hi low high : ℕ} → low ≤ lo → hi ≤ high → (s ≡ row) ⊎ IsWithin lo hi s → (s ≡ row) ⊎ IsWithin low high s
row_wide a b (inl e) = inl e
row_wide a b (inr w) = inr (record { begins = omega (arith, w.begins); some = w.some; ends = omega (arith, w.ends) })

pub row_widen : {row : Stretch} {lo hi low high : ℕ} {ps : List Stretch} → InRow row lo hi ps → low ≤ lo → hi ≤ high → row.first ≤ low
    → high ≤ row.following → InRow row low high ps
row_widen r a b c d = let o = r.ordered in record {
  ordered = omega arith;
  begins = c;
  ends = d;
  each = λ s x. row_wide a b (r.each s x);
  are = r.are;
}

pub row_seq : {row : Stretch} {lo mid next hi : ℕ} {ps qs : List Stretch} → InRow row lo mid ps → InRow row next hi qs → mid ≤ next
    → InRow row lo hi (ps ++ qs)
row_seq {row} {lo} {mid} {next} {hi} {ps} {qs} p q m =
    let a = p.ordered in
    let b = q.ordered in
    record {
      ordered = omega arith;
      begins = p.begins;
      ends = q.ends;
      each = λ s c. elim (in_both ps qs c) [
        | inl x ↦ row_wide (omega arith) (omega arith) (p.each s x)
        | inr x ↦ row_wide (omega arith) (omega arith) (q.each s x)
      ];
      are = λ s t c d. elim (in_both ps qs c) [
        | inl x ↦ elim (in_both ps qs d) [
          | inl y ↦ p.are s t x y
          | inr y ↦ row_cross s t p.begins p.ends q.begins q.ends m (p.each s x) (q.each t y)
        ]
        | inr x ↦ elim (in_both ps qs d) [
          | inl y ↦ turned (row_cross t s p.begins p.ends q.begins q.ends m (p.each t y) (q.each s x))
          | inr y ↦ q.are s t x y
        ]
      ];
    }

-- with the row itself
with_row_are : {row : Stretch} {lo hi : ℕ} (ps : List Stretch) → InRow row lo hi ps → AreLaminar (row ∷ ps)
with_row_are {row} ps r s t first first = self row
with_row_are ps r s t first (later d) = row_clear t r.begins r.ends (r.each t d)
with_row_are ps r s t (later c) first = turned (row_clear s r.begins r.ends (r.each s c))
with_row_are ps r s t (later c) (later d) = r.are s t c d

with_row_each : {row : Stretch} {lo hi : ℕ} (ps : List Stretch) → InRow row lo hi ps → (s : Stretch) → Contains s (row ∷ ps)
    → (s ≡ row) ⊎ IsWithin lo hi s
with_row_each ps r s first = inl refl
with_row_each ps r s (later c) = r.each s c

-- the row, where it stands, among these or in another order
pub row_among : {row : Stretch} {lo hi : ℕ} (ps qs : List Stretch) → ((s : Stretch) → Contains s qs → Contains s (row ∷ ps))
    → InRow row lo hi ps → InRow row lo hi qs
row_among ps qs f r = record {
  ordered = r.ordered;
  begins = r.begins;
  ends = r.ends;
  each = λ s c. with_row_each ps r s (f s c);
  are = λ s t c d. with_row_are ps r s t (f s c) (f t d);
}

-- all places within fields
abbrev pub together : List (List Stretch) → List Stretch
together [] = []
together (f ∷ fs) = f ++ together fs

pub together_both : (fs gs : List (List Stretch)) → together fs ++ together gs ≡ together (fs ++ gs)
together_both [] gs = refl
together_both (f ∷ fs) gs = append_assoc f (together fs) (together gs) ∙ ap (λ z. f ++ z) (together_both fs gs)

pub row_together : {row : Stretch} {lo hi : ℕ} (fs gs : List (List Stretch)) → InRow row lo hi (together fs ++ together gs)
    → InRow row lo hi (together (fs ++ gs))
row_together {row} {lo} {hi} fs gs r = subst (InRow row lo hi) (together_both fs gs) r

moved : (row : Stretch) (ps qs : List Stretch) {s : Stretch} → Contains s (row ∷ qs) → Contains s (row ∷ (ps ++ qs))
moved row ps qs first = first
moved row ps qs (later c) = later (in_back ps qs c)

of_row : (row : Stretch) (ps qs : List Stretch) {s : Stretch} → (Contains s qs → Contains s (row ∷ ps)) → Contains s (row ∷ qs)
    → Contains s (row ∷ ps)
of_row row ps qs f first = first
of_row row ps qs f (later c) = f c

strings_in : (row : Stretch) (ss : List StringPart) (fs : List (List Stretch)) {s : Stretch} → Contains s (string_places row ss fs)
    → Contains s (row ∷ together fs)
strings_in row [] fs c = elim c [ ]
strings_in row (Text t ∷ ss) fs c = of_row row (together fs) (string_places row ss fs) (strings_in row ss fs) c
strings_in row (Field e ∷ ss) [] c = elim c [ ]
strings_in row (Field e ∷ ss) (f ∷ fs) c = elim (in_both f (row ∷ string_places row ss fs) c) [
  | inl x ↦ later (in_front f (together fs) x)
  | inr x ↦ moved row f (together fs) (of_row row (together fs) (string_places row ss fs) (strings_in row ss fs) x)
]

-- a row of strings, with the place of its JoinedStr
pub strings_laminar : {row : Stretch} {lo hi : ℕ} (ss : List StringPart) (fs : List (List Stretch)) → InRow row lo hi (together fs)
    → InRow row lo hi (string_places row ss fs ++ (row ∷ []))
strings_laminar {row} ss fs r =
    row_among (together fs) (string_places row ss fs ++ (row ∷ []))
    (λ s c. elim (in_both (string_places row ss fs) (row ∷ []) c) [
      | inl x ↦ strings_in row ss fs x
      | inr x ↦ of_row row (together fs) [] (λ y. elim y [ ]) x
    ]) r

pub row_laminar : {row : Stretch} {lo hi low high : ℕ} {ps : List Stretch} → InRow row lo hi ps → row.first < row.following → low ≤ row.first
    → row.following ≤ high → Laminar low high ps
row_laminar {row} {lo} {hi} {low} {high} {ps} r a b c = record {
  ordered = omega arith;
  within = record { are = each ps (λ s d. put s (r.each s d)) };
  are = r.are;
}
  where
    put : (s : Stretch) → (s ≡ row) ⊎ IsWithin lo hi s → IsWithin low high s
    put s (inl e) = subst (IsWithin low high) (sym e) (record { begins = b; some = a; ends = c })
    put s (inr w) = record { begins = omega (arith, w.begins, r.begins); some = w.some; ends = omega (arith, w.ends, r.ends) }

    each : (ss : List Stretch) → ((s : Stretch) → Contains s ss → IsWithin low high s) → AreWithin low high ss
    each [] g = tt
    each (s ∷ ss) g = (g s first, each ss (λ t d. g t (later d)))
