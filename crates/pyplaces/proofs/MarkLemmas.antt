-- Carries: mark_at. The span of a terminal, in the program and in the definition.
use Rattle.std.proofs.lemmas.Bool.{ltb-true, ltb-false}
use Rattle.std.proofs.Common.{◌≡◌, refl, sym, ℕ, zero, suc, ◌<◌, ◌≤◌, arith, List, [], ◌∷◌, length, map, slice_index_or, true, false}
use Rattle.std.proofs.Common.{nat_lt}
use Rattle.pyparse_marks.specs.declared.spans.Span as given
use Rattle.pyplaces.specs.Stretches.{span, span_after}
use Rattle.pyplaces.specs.Recording.{told}

within : (xs : List given.Span) (n : ℕ) (d : given.Span) → n < length xs → told (slice_index_or xs n d) ≡ span_after n (map told xs)
within [] n d h = absurd (omega (arith, h))
within (x ∷ xs) zero d h = refl
within (x ∷ xs) (suc n) d h = within xs n d (omega (arith, h))

past : (xs : List given.Span) (n : ℕ) → length xs ≤ n → span 0 0 ≡ span_after n (map told xs)
past [] n h = refl
past (x ∷ xs) zero h = absurd (omega (arith, h))
past (x ∷ xs) (suc n) h = past xs n (omega (arith, h))

pub mark_within : (xs : List given.Span) (n : ℕ) (d : given.Span) → true ≡ nat_lt n (length xs)
    → told (slice_index_or xs n d) ≡ span_after n (map told xs)
mark_within xs n d h = within xs n d (ltb-true n (length xs) (sym h))

pub mark_past : (xs : List given.Span) (n : ℕ) → false ≡ nat_lt n (length xs) → span 0 0 ≡ span_after n (map told xs)
mark_past xs n h = past xs n (ltb-false n (length xs) (sym h))
