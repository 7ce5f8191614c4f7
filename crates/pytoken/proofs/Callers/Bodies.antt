-- On: what all characters of a literal are, those of its body are.
--
-- Carries: what pytree_fits, pytoken, pyunparse_text cite.
use Rattle.std.proofs.Common.{◌≡◌, ℕ, zero, suc, ◌-◌, Bool, true, List, [], ◌∷◌, length, take, drop, refl, inl, inr}
use Rattle.std.specs.Prelude.{filter, if◌then◌else◌}
use Rattle.std.specs.List.{list_all}
use Rattle.std.proofs.lemmas.Bool.{cases_Bool, and_from, and_parts}
use Rattle.pylex_lexeme.specs.Strings.{begins_three}
use Rattle.pytoken.specs.StringValues.{prefix_len_of, without_last, body_of}
pub use Rattle.pytoken.proofs.values.PushLemmas.{dropped, read_again, none_left}
pub use Rattle.pytoken.proofs.values.ElementLemmas.{no_cut}

all_drop : (p : ℕ → Bool) (n : ℕ) (xs : List ℕ) → list_all p xs ≡ true → list_all p (drop n xs) ≡ true
all_drop p zero xs all = all
all_drop p (suc n) [] all = refl
all_drop p (suc n) (x ∷ xs) all = all_drop p n xs (and_parts (p x) (list_all p xs) all).1

all_take : (p : ℕ → Bool) (n : ℕ) (xs : List ℕ) → list_all p xs ≡ true → list_all p (take n xs) ≡ true
all_take p zero xs all = refl
all_take p (suc n) [] all = refl
all_take p (suc n) (x ∷ xs) all =
    let parts = and_parts (p x) (list_all p xs) all in
    and_from (p x) (list_all p (take n xs)) parts.0 (all_take p n xs parts.1)

inside_all : (p : ℕ → Bool) (t : List ℕ) (width : ℕ) → list_all p t ≡ true → list_all p (without_last width (drop width t)) ≡ true
inside_all p t width all = all_take p (length (drop width t) - width) (drop width t) (all_drop p width t all)

pub body_all : (p : ℕ → Bool) (t : List ℕ) → list_all p t ≡ true → list_all p (body_of t) ≡ true
body_all p t all =
    let opened = drop (prefix_len_of t) t in
    inside_all p opened (if begins_three opened then 3 else 1) (all_drop p (prefix_len_of t) t all)

pub filter_all : (p q : ℕ → Bool) (xs : List ℕ) → list_all p xs ≡ true → list_all p (filter q xs) ≡ true
filter_all p q [] all = refl
filter_all p q (x ∷ xs) all =
    let parts = and_parts (p x) (list_all p xs) all in
    elim (cases_Bool (q x)) [
      | inl kept ↦ rw kept (and_from (p x) (list_all p (filter q xs)) parts.0 (filter_all p q xs parts.1))
      | inr left_out ↦ rw left_out (filter_all p q xs parts.1)
    ]
