-- The numeral of a text, one character at a time.
-- Carries: numeral_text.
use Rattle.std.proofs.Common.{◌≡◌, ℕ, ◌+◌, ◌<◌, true, false, List, [], ◌∷◌, ◌++◌, length, get_or, take, refl, sym, append-nil}
use Rattle.std.proofs.lemmas.List.Elements.{filter_more}
use Rattle.pynumber.specs.FloatValues.{is_of_numeral, numeral_text}

pub kept_one : (xs kept : List ℕ) (i c : ℕ) → i < length xs → c ≡ get_or xs i 0 → is_of_numeral c ≡ true → kept ≡ numeral_text (take i xs)
    → kept ++ c ∷ [] ≡ numeral_text (take (i + 1) xs)
kept_one xs kept i c h e of k = rw (k, filter_more is_of_numeral xs i 0 h, ← e, of) refl

pub left_one : (xs kept : List ℕ) (i c : ℕ) → i < length xs → c ≡ get_or xs i 0 → is_of_numeral c ≡ false → kept ≡ numeral_text (take i xs)
    → kept ≡ numeral_text (take (i + 1) xs)
left_one xs kept i c h e of k = rw (k, filter_more is_of_numeral xs i 0 h, ← e, of) (sym (append-nil (numeral_text (take i xs))))
