-- Runs of places that are set aside, and taken back after others.
--
-- Carries: the calls, parameters, Dicts and IfExps of a reader, and the headers of `def` and `class`. On: Answers.
use Rattle.std.proofs.Common.{◌≡◌, refl, sym, ap, ◌∙◌, ℕ, List, [], ◌∷◌, ◌++◌}
use Rattle.pyplaces.specs.Stretches.{Stretch}
use Rattle.pyplaces.specs.Recording.{afters, Records, Moves, Kept}
use Rattle.pyplaces.proofs.Answers.{afters_append}

-- what is set aside doesn't touch what is recorded
pub record Apart {S : Type 0} (after beside : S → Stretch → S) : Type 0 where
  pub is : (w : S) (s t : Stretch) → beside (after w s) t ≡ after (beside w t) s

-- a number that stays the same
pub record Still {S : Type 0} (after : S → Stretch → S) (count : S → ℕ) : Type 0 where
  pub is : (w : S) (s : Stretch) → count (after w s) ≡ count w

pub count_still : {S : Type 0} {after : S → Stretch → S} {count : S → ℕ} → Still after count → (w : S) (ps : List Stretch)
    → count (afters after w ps) ≡ count w
count_still h w [] = refl
count_still {after = after} h w (p ∷ ps) = count_still h (after w p) ps ∙ h.is w p

module _ {S : Type 0} {after beside : S → Stretch → S} where
  one_apart : Apart after beside → (w : S) (s : Stretch) (qs : List Stretch) → afters beside (after w s) qs ≡ after (afters beside w qs) s
  one_apart h w s [] = refl
  one_apart h w s (q ∷ qs) = ap (λ z. afters beside z qs) (h.is w s q) ∙ one_apart h (beside w q) s qs

  all_apart : Apart after beside → (w : S) (ps qs : List Stretch)
      → afters beside (afters after w ps) qs ≡ afters after (afters beside w qs) ps
  all_apart h w [] qs = refl
  all_apart h w (p ∷ ps) qs = all_apart h (after w p) ps qs ∙ ap (λ z. afters after z ps) (one_apart h w p qs)

  pub kept_none : {u : S} → Kept after beside u [] [] u
  kept_none = record { is = refl }

  -- what is recorded, and nothing aside
  pub kept_records : {u v : S} {ps : List Stretch} → Records after u ps v → Kept after beside u ps [] v
  kept_records r = record { is = r.is }

  pub records_kept : {u v : S} {ps : List Stretch} → Kept after beside u ps [] v → Records after u ps v
  records_kept k = record { is = k.is }

  -- what was recorded is set aside
  pub kept_aside : {u v w : S} {ps : List Stretch} {n : ℕ} (count : S → ℕ) → Records after u ps v → n ≡ count u
      → Moves beside after count n v w → Kept after beside u [] ps w
  kept_aside {u = u} {ps = ps} count r e m = record { is = m.is u ps r.is e }

  -- recorded, and then some set aside
  pub kept_then : {u v w : S} {ps qs : List Stretch} → Records after u ps v → Kept after beside v [] qs w → Kept after beside u ps qs w
  kept_then {qs = qs} r k = record { is = k.is ∙ ap (λ z. afters beside z qs) r.is }

  -- how many are set aside
  pub kept_count : {u v : S} {ps qs : List Stretch} (count : S → ℕ) → Apart after beside → Still after count
      → Kept after beside u ps qs v → count v ≡ count (afters beside u qs)
  kept_count {u = u} {ps = ps} {qs = qs} count h t k =
      ap count (k.is ∙ all_apart h u ps qs) ∙ count_still t (afters beside u qs) ps

  -- one after the other
  pub kept_more : {u v w : S} {ps qs rs ts : List Stretch} → Apart after beside → Kept after beside u ps qs v → Kept after beside v rs ts w
      → Kept after beside u (ps ++ rs) (qs ++ ts) w
  kept_more {u = u} {v = v} {ps = ps} {qs = qs} {rs = rs} {ts = ts} h k l = record {
    is = l.is
        ∙ ap (λ z. afters beside (afters after z rs) ts) k.is
        ∙ ap (λ z. afters beside z ts) (sym (all_apart h (afters after u ps) rs qs))
        ∙ ap (λ z. afters beside (afters beside z qs) ts) (sym (afters_append after u ps rs))
        ∙ sym (afters_append beside (afters after u (ps ++ rs)) qs ts);
  }

  -- those at the end of what is set aside are taken back; n are set aside before them
  pub kept_last : {u v w : S} {n : ℕ} (ps qs rs : List Stretch) (count : S → ℕ) → Apart after beside → Still after count
      → Kept after beside u ps (qs ++ rs) v → n ≡ count (afters beside u qs) → Moves after beside count n v w
      → Kept after beside u (ps ++ rs) qs w
  kept_last {u = u} ps qs rs count h t k e m =
      let x = afters beside (afters after u ps) qs in
      let c = ap count (all_apart h u ps qs) ∙ count_still t (afters beside u qs) ps in
      record {
        is = m.is x rs (k.is ∙ afters_append beside (afters after u ps) qs rs) (e ∙ sym c)
            ∙ sym (all_apart h (afters after u ps) rs qs)
            ∙ ap (λ z. afters beside z qs) (sym (afters_append after u ps rs));
      }

  -- all are taken back
  pub kept_back : {u v w : S} {ps qs : List Stretch} {n : ℕ} (count : S → ℕ) → Apart after beside → Still after count
      → Kept after beside u ps qs v → n ≡ count u → Moves after beside count n v w → Records after u (ps ++ qs) w
  kept_back {ps = ps} {qs = qs} count h t k e m = records_kept (kept_last ps [] qs count h t k e m)
