-- A text character by character: the place, the line's front and the width after each.
--
-- Carries: lead_of_chars, walk_chars, width_after, widths_in.
use Rattle.std.proofs.Common.{◌≡◌, ℕ, ◌+◌, ◌<◌, false, List, [], ◌∷◌, ◌++◌, length, refl, ap, ◌∙◌, arith, eqb, length-append}
use Rattle.std.specs.Str.{chars, IsUtf8}
use Rattle.std.specs.Char.{encode_utf8}
use Rattle.std.proofs.lemmas.Str.{chars-nil, chars_past_char, IsUtf8-past_char, length-encode, len_utf8_bounds}
use Rattle.std.proofs.lemmas.Bool.Decides.{nat_tests}
use Rattle.pysource.specs.declared.places.Place.{Place}
use Rattle.pylex_listing.specs.Indentation.{column_after, width_from}
use Rattle.pylex_listing.specs.Machine.{place_past}

-- one character off the front of a text
pub record Past (bs rest : List ℕ) (c : ℕ) : Type 0 where
  pub same : chars bs ≡ c ∷ chars rest
  pub utf8 : IsUtf8 rest
  pub shorter : length rest < length bs

pub past : (bs rest : List ℕ) (c : ℕ) → IsUtf8 bs → bs ≡ encode_utf8 c ++ rest → Past bs rest c
past bs rest c u e =
    let l : length bs ≡ length (encode_utf8 c) + length rest = ap length e ∙ length-append (encode_utf8 c) rest in
    let n = length-encode c in
    let b = len_utf8_bounds c in
    record { same = chars_past_char bs rest c u e; utf8 = IsUtf8-past_char bs rest c u e; shorter = omega arith }

nil_of_length : (bs : List ℕ) → length bs ≡ 0 → bs ≡ []
nil_of_length [] e = refl
nil_of_length (b ∷ bs) e = cc

pub no_chars : (bs : List ℕ) → length bs ≡ 0 → chars bs ≡ []
no_chars bs e = ap chars (nil_of_length bs e) ∙ chars-nil

pub advance_feed : (p : Place) (c : ℕ) (cs : List ℕ) → c ≡ 10
    → place_past p (c ∷ cs) ≡ place_past (record { row = p.row + 1; column = 0 }) cs
advance_feed p c cs e = rw e refl

pub advance_other : (p : Place) (c : ℕ) (cs : List ℕ) → (c ≡ 10 → ⊥)
    → place_past p (c ∷ cs) ≡ place_past (record { row = p.row; column = p.column + 1 }) cs
advance_other p c cs e = let f : eqb c 10 ≡ false = grind (arith, nat_tests) in rw f refl

pub width_more : (n c : ℕ) (cs : List ℕ) → width_from n (c ∷ cs) ≡ width_from (column_after n c) cs
unfolding width_from
width_more n c cs = refl

pub width_none : (n : ℕ) → width_from n [] ≡ n
unfolding width_from
width_none n = refl
