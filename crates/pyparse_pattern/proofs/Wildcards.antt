-- The name `_`, by its bytes.
--
-- Carries: is_wildcard. On: PatternOperators.
use Rattle.std.proofs.Common.{◌≡◌, refl, sym, ap, ◌∙◌, inl, inr, ℕ, List, [], ◌∷◌, codes, Bool, true, false, eqb}
use Rattle.std.specs.Prelude.{◌&&◌}
use Rattle.std.specs.Str.{bytes_eq, encode_utf8_all}
use Rattle.std.proofs.lemmas.Bool.{both_ways, cases_Bool, false_from_ne_true}
use Rattle.std.proofs.lemmas.Slice.Eq.{bytes_eq-Decides}
use Rattle.std.proofs.lemmas.Str.{encodes_same}
use Rattle.pylex_lexeme.specs.Characters.{low_line}
use Rattle.pygrammar.specs.PatternOperators.{is_wildcard}

encoded : encode_utf8_all (low_line ∷ []) ≡ codes "_"
unfolding lib.Utf8.encode
encoded = refl

-- it is the one name of that character alone
is_the_one : (x : List ℕ) → is_wildcard x ≡ bytes_eq x (low_line ∷ [])
is_the_one [] = refl
is_the_one (c ∷ []) = go (eqb c low_line)
  where
    go : (b : Bool) → b ≡ (b && true)
    go true = refl
    go false = refl
is_the_one (c ∷ d ∷ r) = go (eqb c low_line)
  where
    go : (b : Bool) → false ≡ (b && false)
    go true = refl
    go false = refl

-- a text is that name by its bytes where it is by its characters
pub spelt_wildcard : (x s : List ℕ) → s ≡ encode_utf8_all x → bytes_eq s (codes "_") ≡ is_wildcard x
spelt_wildcard x s e = elim (cases_Bool (bytes_eq x (low_line ∷ []))) [
  | inl same ↦ (bytes_eq-Decides s (codes "_")).1 (e ∙ ap encode_utf8_all ((bytes_eq-Decides x (low_line ∷ [])).0 same) ∙ encoded)
      ∙ sym (is_the_one x ∙ same)
  | inr other ↦
      false_from_ne_true (bytes_eq s (codes "_")) (λ same.
      let is : encode_utf8_all x ≡ encode_utf8_all (low_line ∷ []) = sym e ∙ (bytes_eq-Decides s (codes "_")).0 same ∙ sym encoded in
      both_ways (bytes_eq x (low_line ∷ [])) other ((bytes_eq-Decides x (low_line ∷ [])).1 (encodes_same x (low_line ∷ []) is)))
      ∙ sym (is_the_one x ∙ other)
]
