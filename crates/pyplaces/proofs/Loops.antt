-- What a loop has read so far, for what is still before it: an invariant of each loop that appends.
--
-- Carries: listing, more_pairs, more_arguments, parameters, links, ifs, comps, more_literals, read_parts, and the loops of patterns and
-- lines.
use Rattle.std.proofs.Common.{sym, subst, ℕ, List, [], ◌++◌, append_assoc}
use Rattle.std.proofs.lemmas.List.{append-nil}
use Rattle.pytoken.specs.Terminals.{Terminal}

-- From i on, which begins after `at` terminals, es were read up to r, with these places; L is what a run of them is. What follows goes
-- after them.
pub record Grows {A P : Type 0} (L : List Terminal → ℕ → List A → List Terminal → ℕ → List P → Type 0) (i : List Terminal) (at : ℕ)
    (es : List A) (r : List Terminal) (following : ℕ) (ps : List P) : Type 0 where
  pub so : (fs : List A) (s : List Terminal) (next : ℕ) (qs : List P) → L r following fs s next qs → L i at (es ++ fs) s next (ps ++ qs)

module _ {A P : Type 0} {L : List Terminal → ℕ → List A → List Terminal → ℕ → List P → Type 0} where
  -- nothing was read
  pub grows_start : {i : List Terminal} {at : ℕ} → Grows L i at [] i at []
  grows_start = record { so = λ fs s next qs l. l }

  -- some more were
  pub grows_turn : {i r u : List Terminal} {at m n : ℕ} {es : List A} {ps : List P} (e : List A) (p : List P) → Grows L i at es r m ps
      → ((fs : List A) (s : List Terminal) (next : ℕ) (qs : List P) → L u n fs s next qs → L r m (e ++ fs) s next (p ++ qs))
      → Grows L i at (es ++ e) u n (ps ++ p)
  grows_turn {i} {at = at} {es = es} {ps = ps} e p g h = record {
    so = λ fs s next qs l.
        subst (λ z. L i at z s next ((ps ++ p) ++ qs)) (sym (append_assoc es e fs))
        (subst (λ z. L i at (es ++ (e ++ fs)) s next z) (sym (append_assoc ps p qs)) (g.so (e ++ fs) s next (p ++ qs) (h fs s next qs l)));
  }

  -- and they have no place
  pub grows_quiet : {i r u : List Terminal} {at m n : ℕ} {es : List A} {ps : List P} (e : List A) → Grows L i at es r m ps
      → ((fs : List A) (s : List Terminal) (next : ℕ) (qs : List P) → L u n fs s next qs → L r m (e ++ fs) s next qs)
      → Grows L i at (es ++ e) u n ps
  grows_quiet {i} {at = at} {es = es} {ps = ps} e g h = record {
    so = λ fs s next qs l.
        subst (λ z. L i at z s next (ps ++ qs)) (sym (append_assoc es e fs)) (g.so (e ++ fs) s next qs (h fs s next qs l));
  }

  -- nothing more follows, but maybe what ends them
  pub grows_end : {i r s : List Terminal} {at m n : ℕ} {es : List A} {ps : List P} → Grows L i at es r m ps → L r m [] s n []
      → L i at es s n ps
  grows_end {i} {s = s} {at = at} {n = n} {es = es} {ps = ps} g l =
      subst (λ z. L i at z s n ps) (append-nil es) (subst (λ z. L i at (es ++ []) s n z) (append-nil ps) (g.so [] s n [] l))
