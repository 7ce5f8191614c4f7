-- Texts by their characters.
--
-- Carries: bump_plain, bump_while, bump_while_wide, bump_wide, len.
use Rattle.std.proofs.Common.{◌≡◌, ℕ, ◌<◌, Bool, List, [], ◌∷◌, length, drop, refl, sym, ◌∙◌, ap, Option, Some, None, arith}
use Rattle.std.proofs.Common.{slice_get}
use Rattle.std.specs.List.{prefix_len}
use Rattle.std.specs.Str.{chars, encode_utf8_all, IsUtf8}
use Rattle.std.specs.Str.Iter.{chars_rest, chars_steps}
use Rattle.std.specs.declared.str.Chars.{Chars}
use Rattle.std.proofs.lemmas.Str.{chars-nil, encodes-chars, chars_past_char}

pub length-text : (bs : List ℕ) → IsUtf8 bs → length bs ≡ length (encode_utf8_all (chars bs))
length-text bs u = ap length (sym (encodes-chars bs u))

nil_of_length : (bs : List ℕ) → length bs ≡ 0 → bs ≡ []
nil_of_length [] e = refl
nil_of_length (b ∷ bs) e = cc

-- what is left after one step
pub bump_rest : (s t : Chars) (r : Option ℕ) → IsUtf8 (chars_rest s) → chars_steps s r t
    → chars (chars_rest t) ≡ drop 1 (chars (chars_rest s))
bump_rest s t None u h = let e : chars_rest s ≡ [] = nil_of_length (chars_rest s) h.0.0 in let f : chars (chars_rest s) ≡ [] = ap chars e
    ∙ chars-nil in rw (h.0.1, f) refl
bump_rest s t (Some c) u h = rw (chars_past_char (chars_rest s) (chars_rest t) c u h.0) refl

-- what is left after the longest front of characters that pass
abbrev pub after_run : (ℕ → Bool) → List ℕ → List ℕ
after_run p cs = drop (prefix_len p cs) cs

pub shorter : (cs : List ℕ) (c : ℕ) → slice_get cs 0 ≡ Some c → length (drop 1 cs) < length cs
shorter [] c e = cc
shorter (d ∷ cs) c e = omega arith
