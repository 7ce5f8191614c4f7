-- Spans between two bytes any two of which are clear of each other: one part after another, and one span that holds the others.
--
-- Carries: Laminar and its steps, for LaminarBlocks; spans_in_line, for LaminarLines. On: Together.
use Rattle.std.proofs.Common.{◌≡◌, ◌⊎◌, inl, inr, sym, subst, ℕ, ◌≤◌, arith, List, [], ◌∷◌, ◌++◌}
use Rattle.pyparse_marks.specs.Spans.{Span}
use Rattle.pyplaces.specs.BlockPlaces.{LinePlaces}
use Rattle.pyplaces.specs.Spans.{LiesBetween, AllLieBetween}
use Rattle.pyplaces.specs.Laminar.{IsAmong, at_front, further_on, AreClearSpans, holds_it, held_by_it, ends_first, begins_after}
use Rattle.pyplaces.proofs.Order.Together.{In, nothing, ◌⊕◌, wide}

-- ---- What stands in lists.

pub in_both : (ps qs : List Span) {s : Span} → IsAmong s (ps ++ qs) → IsAmong s ps ⊎ IsAmong s qs
in_both [] qs c = inr c
in_both (p ∷ ps) qs at_front = inl at_front
in_both (p ∷ ps) qs (further_on c) = elim (in_both ps qs c) [ inl d ↦ inl (further_on d) | inr d ↦ inr d ]

pub in_front : (ps qs : List Span) {s : Span} → IsAmong s ps → IsAmong s (ps ++ qs)
in_front [] qs c = elim c [ ]
in_front (p ∷ ps) qs at_front = at_front
in_front (p ∷ ps) qs (further_on c) = further_on (in_front ps qs c)

pub in_back : (ps qs : List Span) {s : Span} → IsAmong s qs → IsAmong s (ps ++ qs)
in_back [] qs c = c
in_back (p ∷ ps) qs c = further_on (in_back ps qs c)

is_in : {lo hi : ℕ} (ps : List Span) {s : Span} → AllLieBetween lo hi ps → IsAmong s ps → LiesBetween lo hi s
is_in [] h c = elim c [ ]
is_in (p ∷ ps) h at_front = h.0
is_in (p ∷ ps) h (further_on c) = is_in ps h.1 c

-- all that stand in a line
abbrev pub spans_in_line : LinePlaces → List Span
spans_in_line z = (z.before ++ z.following) ++ z.suite

-- ---- Spans that are clear, by what is known of those of a line.

module _ (R : Span → Span → Type 0) (clear : (s t : Span) → AreClearSpans s t → R s t) where
  pub record Laminar (lo hi : ℕ) (ps : List Span) : Type 0 where
    pub ordered : lo ≤ hi
    pub lie : In lo hi ps
    pub are : (s t : Span) → IsAmong s ps → IsAmong t ps → R s t

  pub none : {lo hi : ℕ} → lo ≤ hi → Laminar lo hi []
  none h = record { ordered = h; lie = nothing; are = λ s t c d. elim c [ ] }

  pub wider : {lo hi low high : ℕ} {ps : List Span} → Laminar lo hi ps → low ≤ lo → hi ≤ high → Laminar low high ps
  wider l a b = let o = l.ordered in record { ordered = omega arith; lie = wide l.lie a b; are = l.are }

  pub as_those : {lo hi : ℕ} {ps qs : List Span} → ps ≡ qs → Laminar lo hi qs → Laminar lo hi ps
  as_those {lo} {hi} e l = subst (Laminar lo hi) (sym e) l

  -- in another order, or fewer
  pub among : {lo hi : ℕ} (ps qs : List Span) → ((s : Span) → IsAmong s qs → IsAmong s ps) → Laminar lo hi ps → Laminar lo hi qs
  among {lo} {hi} ps qs f l = record {
    ordered = l.ordered;
    lie = record { are = each qs (λ s c. let k = l.lie in is_in ps k.are (f s c)) };
    are = λ s t c d. l.are s t (f s c) (f t d);
  }
    where
      each : (ss : List Span) → ((s : Span) → IsAmong s ss → LiesBetween lo hi s) → AllLieBetween lo hi ss
      each [] g = tt
      each (s ∷ ss) g = (g s at_front, each ss (λ t c. g t (further_on c)))

  -- parts one after the other
  pub both : {lo mid next hi : ℕ} {ps qs : List Span} → Laminar lo mid ps → Laminar next hi qs → mid ≤ next → Laminar lo hi (ps ++ qs)
  both {lo} {mid} {next} {hi} {ps} {qs} p q m =
      let a = p.ordered in
      let b = q.ordered in
      record {
        ordered = omega arith;
        lie = wide p.lie (omega arith) (omega arith) ⊕ wide q.lie (omega arith) (omega arith);
        are = λ s t c d. by s t (in_both ps qs c) (in_both ps qs d);
      }
    where
      apart : (s t : Span) → IsAmong s ps → IsAmong t qs → s.stop ≤ t.start
      apart s t c d =
          let k = p.lie in
          let j = q.lie in
          let a = is_in ps k.are c in
          let b = is_in qs j.are d in omega (arith, m, a.ends, b.begins)

      by : (s t : Span) → IsAmong s ps ⊎ IsAmong s qs → IsAmong t ps ⊎ IsAmong t qs → R s t
      by s t (inl x) (inl y) = p.are s t x y
      by s t (inl x) (inr y) = clear s t (ends_first (apart s t x y))
      by s t (inr x) (inl y) = clear s t (begins_after (apart t s y x))
      by s t (inr x) (inr y) = q.are s t x y

  -- and a span that holds them
  pub held : {lo hi : ℕ} {ps : List Span} (o : Span) → Laminar lo hi ps → o.start ≤ lo → hi ≤ o.stop
      → Laminar o.start o.stop (ps ++ (o ∷ []))
  held {lo} {hi} {ps} o l a b =
      let k = l.ordered in
      record {
        ordered = omega arith;
        lie = wide l.lie a b
            ⊕ record { are = (record { begins = omega arith; forward = omega arith; ends = omega arith }, tt) };
        are = λ s t c d. by s t (in_both ps (o ∷ []) c) (in_both ps (o ∷ []) d);
      }
    where
      lies : (s : Span) → IsAmong s ps → LiesBetween lo hi s
      lies s c = let k = l.lie in is_in ps k.are c

      by : (s t : Span) → IsAmong s ps ⊎ IsAmong s (o ∷ []) → IsAmong t ps ⊎ IsAmong t (o ∷ []) → R s t
      by s t (inl x) (inl y) = l.are s t x y
      by s t (inl x) (inr at_front) = let w = lies s x in clear s t (held_by_it (omega (arith, a, w.begins)) (omega (arith, b, w.ends)))
      by s t (inl x) (inr (further_on y)) = elim y [ ]
      by s t (inr at_front) (inl y) = let w = lies t y in clear s t (holds_it (omega (arith, a, w.begins)) (omega (arith, b, w.ends)))
      by s t (inr at_front) (inr at_front) = clear s t (holds_it (omega arith) (omega arith))
      by s t (inr at_front) (inr (further_on y)) = elim y [ ]
      by s t (inr (further_on x)) y = elim x [ ]
