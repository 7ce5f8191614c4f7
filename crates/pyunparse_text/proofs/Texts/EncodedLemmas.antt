-- Carries: the texts of literals. Characters one after another, in UTF-8.
use Rattle.std.proofs.Common.{◌≡◌, ◌∙◌, ℕ, ◌≤◌, List, [], ◌∷◌, ◌++◌, length, take, take_all, refl, ap, sym, append_assoc}
use Rattle.std.specs.List.{flat_map}
use Rattle.std.specs.Char.{encode_utf8}
use Rattle.std.specs.Str.{encode_utf8_all}
use Rattle.std.proofs.lemmas.Str.{encodes-append}

pub encoded_each : (f : ℕ → List ℕ) (xs : List ℕ) → flat_map (λ x. encode_utf8_all (f x)) xs ≡ encode_utf8_all (flat_map f xs)
encoded_each f [] = refl
encoded_each f (x ∷ xs) = ap (λ z. encode_utf8_all (f x) ++ z) (encoded_each f xs) ∙ sym (encodes-append (f x) (flat_map f xs))

pub encoded_all : (xs : List ℕ) → flat_map encode_utf8 xs ≡ encode_utf8_all xs
encoded_all [] = refl
encoded_all (x ∷ xs) = ap (λ z. encode_utf8 x ++ z) (encoded_all xs)

-- in double quotes
pub quoted_bytes : (t : List ℕ) → encode_utf8_all (34 ∷ (t ++ (34 ∷ []))) ≡ 34 ∷ (encode_utf8_all t ++ (34 ∷ []))
unfolding encode_utf8
quoted_bytes t = ap (λ z. 34 ∷ z) (encodes-append t (34 ∷ []))

pub quoted_literal : (t : List ℕ) → encode_utf8_all (98 ∷ (34 ∷ (t ++ (34 ∷ [])))) ≡ 98 ∷ (34 ∷ (encode_utf8_all t ++ (34 ∷ [])))
unfolding encode_utf8
quoted_literal t = ap (λ z. 98 ∷ (34 ∷ z)) (encodes-append t (34 ∷ []))

-- so they are pushed
pub quoted_from : (base t a b c : List ℕ) → a ≡ base ++ encode_utf8 34 → b ≡ a ++ encode_utf8_all t → c ≡ b ++ encode_utf8 34
    → c ≡ base ++ encode_utf8_all (34 ∷ (t ++ (34 ∷ [])))
unfolding encode_utf8
quoted_from base t a b c p q r =
    r ∙ ap (λ z. z ++ (34 ∷ [])) (q ∙ ap (λ z. z ++ encode_utf8_all t) p) ∙ append_assoc (base ++ (34 ∷ [])) (encode_utf8_all t) (34 ∷ [])
    ∙ append_assoc base (34 ∷ []) (encode_utf8_all t ++ (34 ∷ [])) ∙ ap (λ z. base ++ z) (sym (quoted_bytes t))

pub literal_from : (base t a b c : List ℕ) → a ≡ base ++ (98 ∷ (34 ∷ [])) → b ≡ a ++ encode_utf8_all t → c ≡ b ++ encode_utf8 34
    → c ≡ base ++ encode_utf8_all (98 ∷ (34 ∷ (t ++ (34 ∷ []))))
unfolding encode_utf8
literal_from base t a b c p q r =
    r ∙ ap (λ z. z ++ (34 ∷ [])) (q ∙ ap (λ z. z ++ encode_utf8_all t) p)
    ∙ append_assoc (base ++ (98 ∷ (34 ∷ []))) (encode_utf8_all t) (34 ∷ [])
    ∙ append_assoc base (98 ∷ (34 ∷ [])) (encode_utf8_all t ++ (34 ∷ [])) ∙ ap (λ z. base ++ z) (sym (quoted_literal t))

-- after a loop over all of them
pub pushed_all : (f : ℕ → List ℕ) (xs : List ℕ) (i : ℕ) (base new : List ℕ) → length xs ≤ i
    → new ≡ base ++ flat_map (λ x. encode_utf8_all (f x)) (take i xs) → new ≡ base ++ encode_utf8_all (flat_map f xs)
pushed_all f xs i base new h e =
    e ∙ ap (λ z. base ++ flat_map (λ x. encode_utf8_all (f x)) z) (take_all i xs h) ∙ ap (λ z. base ++ z) (encoded_each f xs)
