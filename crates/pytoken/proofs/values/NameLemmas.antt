-- Carries: form_fault, identifier_value, name_fault. On: the tests of a form,
-- and names of ASCII alone.
use Rattle.std.proofs.Common.{◌≡◌, ℕ, zero, suc, ◌<◌, ◌≤◌, Bool, true, false, List, [], ◌∷◌, length, refl, sym, ap, ◌∙◌, arith, get_or}
use Rattle.std.proofs.Common.{⊎_elim, Some, None, is_some}
use Rattle.std.specs.Prelude.{◌↔◌, IsTrue, All}
use Rattle.std.specs.Str.{chars, IsAscii}
use Rattle.std.proofs.lemmas.Bool.{cases_lt}
use Rattle.std.proofs.lemmas.Str.{chars-IsAscii}
use Rattle.std.proofs.lemmas.Slice.Eq.{bytes_eq-Decides}
use Rattle.unicode_normalization.specs.Forms.{Nfkc, nfkc, is_in_form, IsInForm}
use Rattle.unicode_normalization.proofs.FormsLemmas.{normalize-ascii}
use Rattle.pylex_lexeme.specs.Lexemes.{is_name}
use Rattle.pytoken.specs.declared.faults.TokenError.TheVariants.{NameForm}
use Rattle.pytoken.specs.Keywords.{keyword_of}
use Rattle.pytoken.specs.NameValues.{form_fault, name_fault}
use Rattle.pytoken.specs.Inner.Readings.{AreLow}

-- a test tells whether a text is its own form
pub told : (b : Bool) (t : List ℕ) → IsTrue b ↔ IsInForm Nfkc t → b ≡ is_in_form Nfkc t
told b t by =
    let decides = bytes_eq-Decides (nfkc t) t in
    same b (is_in_form Nfkc t) (λ is. decides.1 (by.0 is)) (λ own. by.1 (decides.0 own))
  where
    same : (a b : Bool) → (a ≡ true → b ≡ true) → (b ≡ true → a ≡ true) → a ≡ b
    same true true to from = refl
    same true false to from = sym (to refl)
    same false true to from = from refl
    same false false to from = refl

pub form_of_keyword : (t : List ℕ) → is_some (keyword_of t) ≡ true → form_fault t ≡ Some NameForm
unfolding form_fault
form_of_keyword t word = rw word refl

pub form_of_no_name : (t : List ℕ) → is_some (keyword_of t) ≡ false → is_name t ≡ false → form_fault t ≡ Some NameForm
unfolding form_fault
form_of_no_name t word name = rw (word, name) refl

pub form_own : (t : List ℕ) → is_some (keyword_of t) ≡ false → is_name t ≡ true → is_in_form Nfkc t ≡ true → form_fault t ≡ None
unfolding form_fault
form_own t word name own = rw (word, name, own) refl

pub form_other : (t : List ℕ) → is_some (keyword_of t) ≡ false → is_name t ≡ true → is_in_form Nfkc t ≡ false → form_fault t ≡ Some NameForm
unfolding form_fault
form_other t word name other = rw (word, name, other) refl

pub name_own : (t : List ℕ) → is_in_form Nfkc t ≡ true → name_fault t ≡ None
unfolding name_fault
name_own t own = rw own refl

low_all : (bs : List ℕ) → AreLow bs → All (λ b. b < 128) bs
low_all [] low k d within = absurd (omega (arith, within))
low_all (b ∷ bs) low zero d within = low 0 (omega arith)
low_all (b ∷ bs) low (suc k) d within = low_all bs (λ j h. low (suc j) (omega (arith, h))) k d (omega (arith, within))

low_ascii : (bs : List ℕ) → AreLow bs → IsAscii bs
low_ascii bs low i = ⊎_elim (λ (h : i < length bs). low i h) (λ (h : length bs ≤ i). past_end bs i h) (cases_lt i (length bs))
  where
    past_end : (cs : List ℕ) (k : ℕ) → length cs ≤ k → get_or cs k 0 < 128
    past_end [] k h = omega arith
    past_end (c ∷ cs) zero h = absurd (omega (arith, h))
    past_end (c ∷ cs) (suc k) h = past_end cs k (omega (arith, h))

-- bytes of ASCII are the characters of their text
pub low_chars : (bs : List ℕ) → AreLow bs → chars bs ≡ bs
low_chars bs low = chars-IsAscii bs (low_ascii bs low)

-- ASCII is its own form
pub low_form : (bs : List ℕ) → AreLow bs → nfkc (chars bs) ≡ chars bs
low_form bs low =
    let same = low_chars bs low in
    ap nfkc same ∙ normalize-ascii Nfkc bs (low_all bs low) ∙ sym same

pub name_low : (bs : List ℕ) → AreLow bs → name_fault (chars bs) ≡ None
name_low bs low = name_own (chars bs) ((bytes_eq-Decides (nfkc (chars bs)) (chars bs)).1 (low_form bs low))
