-- A word that is no keyword, by its bytes and by its characters.
--
-- Carries: spells_type; what pyparse_line cites. On: UTF-8.
use Rattle.std.proofs.Common.{◌≡◌, refl, sym, ap, ◌∙◌, inl, inr, ℕ, List}
use Rattle.std.specs.Str.{bytes_eq, chars, encode_utf8_all, IsUtf8}
use Rattle.std.proofs.lemmas.Bool.{both_ways, cases_Bool, false_from_ne_true}
use Rattle.std.proofs.lemmas.Slice.Eq.{bytes_eq-Decides}
use Rattle.std.proofs.lemmas.Str.{encodes-chars, encodes_same}
use Rattle.pygrammar.specs.Forms.{type_name}

-- a text is a word by its bytes where it is by its characters, if these are encoded as themselves
module _ (word : List ℕ) (h : encode_utf8_all word ≡ word) where
  by_bytes : (x s : List ℕ) → s ≡ encode_utf8_all x → bytes_eq s word ≡ bytes_eq x word
  by_bytes x s e = elim (cases_Bool (bytes_eq x word)) [
    | inl same ↦ (bytes_eq-Decides s word).1 (e ∙ ap encode_utf8_all ((bytes_eq-Decides x word).0 same) ∙ h) ∙ sym same
    | inr other ↦
        false_from_ne_true (bytes_eq s word) (λ same.
        let is : encode_utf8_all x ≡ encode_utf8_all word = sym e ∙ (bytes_eq-Decides s word).0 same ∙ sym h in
        both_ways (bytes_eq x word) other ((bytes_eq-Decides x word).1 (encodes_same x word is))) ∙ sym other
  ]

  pub spelt : (bs : List ℕ) → IsUtf8 bs → bytes_eq bs word ≡ bytes_eq (chars bs) word
  spelt bs u = by_bytes (chars bs) bs (sym (encodes-chars bs u))

type_encoded : encode_utf8_all type_name ≡ type_name
unfolding lib.Utf8.encode
type_encoded = refl

pub spelt_type : (bs : List ℕ) → IsUtf8 bs → bytes_eq bs type_name ≡ bytes_eq (chars bs) type_name
spelt_type = spelt type_name type_encoded
