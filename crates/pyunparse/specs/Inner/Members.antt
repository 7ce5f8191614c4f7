-- Members of a list, with a token between each two.
use Rattle.std.specs.Prelude.{ℕ, zero, suc, Bool, true, false, List, [], ◌∷◌, ◌++◌}
use Rattle.pyunparse_text.specs.Written.{separated}

-- members after others
abbrev pub each_after : {A : Type 0} → A → List (List A) → List A
each_after t [] = []
each_after t (ts ∷ tss) = t ∷ (ts ++ each_after t tss)

-- members, of which the first is the first of its list or is not
abbrev pub members : {A : Type 0} → Bool → A → List (List A) → List A
members true t tss = separated t tss
members false t tss = each_after t tss

-- so many lists, then others with what stands after each of them, as far as there is any
abbrev pub padded : {A : Type 0} → List (List A) → ℕ → List (List A) → List (List A)
padded [] n uss = []
padded (ts ∷ tss) (suc n) uss = ts ∷ padded tss n uss
padded (ts ∷ tss) zero [] = ts ∷ padded tss zero []
padded (ts ∷ tss) zero (us ∷ uss) = (ts ++ us) ∷ padded tss zero uss
