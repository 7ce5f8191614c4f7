-- What is open after two lists, one after another, and how many tokens they are together; within an open f-string no token begins.
--
-- Carries: after_append, tokens_append, count_append, count_most, count_plain, count_within, count_formatted, for Closing and callers.
use Rattle.std.proofs.Common.{◌≡◌, ◌⊎◌, inl, inr, refl, sym, ap, ◌∙◌, ℕ, suc, ◌+◌, ◌-◌, ◌≤◌, arith, false, List, [], ◌∷◌, ◌++◌, length}
use Rattle.pytoken.specs.Terminals.{Terminal, FormattedBegin, FormattedEnd, FieldBegin, FieldEnd}
use Rattle.pygrammar.specs.FormattedStrings.{has_formatted}
use Rattle.pygrammar.specs.OpenStrings.{Open, open_following, open_after_all, tokens_after, token_count}

-- ---- Lists joined.

pub after_append : (o : Open) (ts us : List Terminal) → open_after_all o (ts ++ us) ≡ open_after_all (open_after_all o ts) us
after_append o [] us = refl
after_append o (t ∷ ts) us = after_append (open_following o t) ts us

pub tokens_append : (o : Open) (ts us : List Terminal) → tokens_after o (ts ++ us) ≡ tokens_after o ts + tokens_after
    (open_after_all o ts) us
tokens_append o [] us = omega arith
tokens_append [] (t ∷ ts) us = omega (arith, tokens_append (open_following [] t) ts us)
tokens_append (n ∷ o) (t ∷ ts) us = tokens_append (open_following (n ∷ o) t) ts us

pub count_append : (ts us : List Terminal) → open_after_all [] ts ≡ [] → token_count (ts ++ us) ≡ token_count ts + token_count us
count_append ts us h = tokens_append [] ts us ∙ ap (λ o. token_count ts + tokens_after o us) h

pub count_most : (o : Open) (ts : List Terminal) → tokens_after o ts ≤ length ts
count_most o [] = omega arith
count_most [] (t ∷ ts) = omega (arith, count_most (open_following [] t) ts)
count_most (n ∷ o) (t ∷ ts) = omega (arith, count_most (open_following (n ∷ o) t) ts)

-- ---- Without f-strings each terminal is a token.

pub count_plain : (ts : List Terminal) → has_formatted ts ≡ false → token_count ts ≡ length ts
count_plain [] h = refl
count_plain (FormattedBegin ∷ ts) h = absurd cc
count_plain (t ∷ ts) h = ap suc (count_plain ts h)

-- ---- Within an f-string.

-- With some f-strings open within one that is open itself, no token begins; or that one ends, and what is open then is what would be
-- without it.
within_or_not : (ts : List Terminal) (q : Open) (n : ℕ) (o : Open)
    → (tokens_after (q ++ (n ∷ o)) ts ≡ 0) ⊎ (open_after_all (q ++ (n ∷ [])) ts ≡ open_after_all q ts)
within_or_not [] q n o = inl refl
within_or_not (FormattedBegin ∷ ts) [] n o = within_or_not ts (0 ∷ []) n o
within_or_not (FormattedBegin ∷ ts) (k ∷ q) n o = within_or_not ts (0 ∷ k ∷ q) n o
within_or_not (FormattedEnd ∷ ts) [] n o = inr refl
within_or_not (FormattedEnd ∷ ts) (k ∷ q) n o = within_or_not ts q n o
within_or_not (FieldBegin c ∷ ts) [] n o = within_or_not ts [] (suc n) o
within_or_not (FieldBegin c ∷ ts) (k ∷ q) n o = within_or_not ts (suc k ∷ q) n o
within_or_not (FieldEnd ∷ ts) [] n o = within_or_not ts [] (n - 1) o
within_or_not (FieldEnd ∷ ts) (k ∷ q) n o = within_or_not ts ((k - 1) ∷ q) n o
within_or_not (t ∷ ts) [] n o = within_or_not ts [] n o
within_or_not (t ∷ ts) (k ∷ q) n o = within_or_not ts (k ∷ q) n o

some_or_none : (n : ℕ) → ◌≡◌ {A = Open} (n ∷ []) [] → ⊥
some_or_none n h = absurd cc

pub count_within : (n : ℕ) (o : Open) (ts : List Terminal) → ((x : Open) → open_after_all x ts ≡ x) → tokens_after (n ∷ o) ts ≡ 0
count_within n o ts h = elim (within_or_not ts [] n o) [ inl e ↦ e | inr e ↦ absurd (some_or_none n (sym (h (n ∷ [])) ∙ e ∙ h [])) ]

-- an f-string is one token
pub count_formatted : (ts us : List Terminal) → ((x : Open) → open_after_all x ts ≡ x)
    → token_count (FormattedBegin ∷ (ts ++ (FormattedEnd ∷ us))) ≡ suc (token_count us)
count_formatted ts us h =
    let end = FormattedEnd ∷ us in
    let following : tokens_after (open_after_all (0 ∷ []) ts) end ≡ token_count us = ap (λ o. tokens_after o end) (h (0 ∷ [])) in
    omega (arith, tokens_append (0 ∷ []) ts end, count_within 0 [] ts h, following)
