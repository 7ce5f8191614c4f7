-- Places that are set aside, and taken back where they belong.
--
-- Carries: keyed, dict_from, more_pairs, read_pair, curly. On: Asides of pyplaces.
use Rattle.std.proofs.Common.{◌≡◌, refl, sym, ap, ◌∙◌, ℕ, List, []}
use Rattle.pyplaces.specs.Stretches.{Stretch}
use Rattle.pyplaces.specs.Recording.{afters, Records, Kept}
use Rattle.pyplaces.proofs.Asides.{count_still, kept_aside}

pub records_done : {S : Type 0} {after : S → Stretch → S} {u : S} {ps : List Stretch} → Records after u ps (afters after u ps)
records_done = record { is = refl }

module _ {S : Type 0} {after beside : S → Stretch → S} where
  -- the places that were recorded since the count was taken are set aside
  pub aside_now : {u v w : S} {ps : List Stretch} {n : ℕ} (count : S → ℕ) → Records after u ps v → n ≡ count u
      → ((x : S) (xs : List Stretch) → v ≡ afters after x xs → n ≡ count x → w ≡ afters beside x xs) → Kept after beside u [] ps w
  aside_now count r e f = kept_aside count r e (record { is = f })

  -- all that is set aside is taken back
  pub kept_back : {u v w : S} {ps qs : List Stretch} {n : ℕ} (count : S → ℕ) → ((x : S) (s : Stretch) → count (after x s) ≡ count x)
      → Kept after beside u ps qs v → n ≡ count u
      → ((x : S) (xs : List Stretch) → v ≡ afters beside x xs → n ≡ count x → w ≡ afters after x xs)
      → Records after (afters after u ps) qs w
  kept_back {u} {ps = ps} {qs = qs} count still k q f =
      record { is = f (afters after u ps) qs k.is (q ∙ sym (count_still (record { is = still }) u ps)) }

-- by equal runs
pub kept_as : {S : Type 0} {after beside : S → Stretch → S} {u v : S} {ps qs rs ss : List Stretch} → ps ≡ rs → qs ≡ ss
    → Kept after beside u rs ss v → Kept after beside u ps qs v
kept_as {after = after} {beside = beside} {u = u} {ps = ps} {ss = ss} h q k =
    record { is = k.is ∙ (ap (λ z. afters beside (afters after u z) ss) (sym h) ∙ ap (λ z. afters beside (afters after u ps) z) (sym q)) }
