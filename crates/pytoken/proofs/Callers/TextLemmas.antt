-- On: a text character by character.
--
-- Carries: what pyparse_tokens, pytoken cite.
use Rattle.std.proofs.Common.{◌≡◌, ℕ, ◌+◌, ◌<◌, Bool, true, false, List, [], ◌∷◌, ◌++◌, length, refl, sym, ap, ◌∙◌, arith, length-append}
use Rattle.std.specs.List.{list_all, list_any}
use Rattle.std.specs.Char.{encode_utf8}
use Rattle.std.specs.Str.{chars, IsUtf8}
use Rattle.std.proofs.lemmas.Str.{chars-nil, chars_past_char, IsUtf8-past_char, length-encode, len_utf8_bounds}
pub use Rattle.pytoken.proofs.Sound.{own_text, counted}

-- one character off the front of a text
pub record Past (bs rest : List ℕ) (c : ℕ) : Type 0 where
  pub same : chars bs ≡ c ∷ chars rest
  pub utf8 : IsUtf8 rest
  pub shorter : length rest < length bs

pub past : (bs rest : List ℕ) (c : ℕ) → IsUtf8 bs → bs ≡ encode_utf8 c ++ rest → Past bs rest c
past bs rest c u e =
    let l : length bs ≡ length (encode_utf8 c) + length rest = ap length e ∙ length-append (encode_utf8 c) rest in
    let n = length-encode c in
    let b = len_utf8_bounds c in
    record { same = chars_past_char bs rest c u e; utf8 = IsUtf8-past_char bs rest c u e; shorter = omega arith }

nil_of_length : (bs : List ℕ) → length bs ≡ 0 → bs ≡ []
nil_of_length [] e = refl
nil_of_length (b ∷ bs) e = cc

pub no_chars : (bs : List ℕ) → length bs ≡ 0 → chars bs ≡ []
no_chars bs e = ap chars (nil_of_length bs e) ∙ chars-nil

-- whether all characters of a text pass a test, and whether one does

pub stops : (p : ℕ → Bool) (bs rest : List ℕ) (c : ℕ) → chars bs ≡ c ∷ chars rest → p c ≡ false → list_all p (chars bs) ≡ false
stops p bs rest c e fails = ap (list_all p) e ∙ (rw fails refl)

pub goes : (p : ℕ → Bool) (bs rest : List ℕ) (c : ℕ) → chars bs ≡ c ∷ chars rest → p c ≡ true
    → list_all p (chars rest) ≡ list_all p (chars bs)
goes p bs rest c e passes = sym (ap (list_all p) e ∙ (rw passes refl))

pub met : (p : ℕ → Bool) (bs rest : List ℕ) (c : ℕ) → chars bs ≡ c ∷ chars rest → p c ≡ true → list_any p (chars bs) ≡ true
met p bs rest c e passes = ap (list_any p) e ∙ (rw passes refl)

pub passed : (p : ℕ → Bool) (bs rest : List ℕ) (c : ℕ) → chars bs ≡ c ∷ chars rest → p c ≡ false
    → list_any p (chars rest) ≡ list_any p (chars bs)
passed p bs rest c e fails = sym (ap (list_any p) e ∙ (rw fails refl))
