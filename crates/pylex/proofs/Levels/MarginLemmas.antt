-- Carries: widths_in. On: the blanks at the front of a text, one after another.
use Rattle.std.proofs.Common.{◌≡◌, ℕ, true, false, List, [], ◌∷◌, refl, sym, ap, ap₂, ◌∙◌}
use Rattle.std.specs.Str.{chars}
use Rattle.std.proofs.lemmas.List.Sums.{take_while-cons}
use Rattle.pylex_lexeme.specs.Chars.{is_blank_char}
use Rattle.pylex_listing.specs.Indentation.{column_after, width_from}
use Rattle.pylex_listing.specs.declared.margins.Widths.{Widths}
use Rattle.pylex_listing.specs.Margins.{column_by_one, width_by_one, blanks_of, widths_of}
use Rattle.pylex.proofs.MachineLaws.Walking.{width_more, width_none}

blank_more : (bs rest : List ℕ) (c : ℕ) → chars bs ≡ c ∷ chars rest → is_blank_char c ≡ true
    → blanks_of (chars bs) ≡ c ∷ blanks_of (chars rest)
blank_more bs rest c cut blank = ap blanks_of cut ∙ take_while-cons is_blank_char c (chars rest) ∙ (rw blank refl)

blank_stop : (bs rest : List ℕ) (c : ℕ) → chars bs ≡ c ∷ chars rest → is_blank_char c ≡ false → blanks_of (chars bs) ≡ []
blank_stop bs rest c cut other = ap blanks_of cut ∙ take_while-cons is_blank_char c (chars rest) ∙ (rw other refl)

by_one_more : (n c : ℕ) (cs : List ℕ) → width_by_one n (c ∷ cs) ≡ width_by_one (column_by_one n c) cs
unfolding width_by_one
by_one_more n c cs = refl

by_one_none : (n : ℕ) → width_by_one n [] ≡ n
unfolding width_by_one
by_one_none n = refl

-- a blank was passed
pub wider : (n m c : ℕ) (bs rest : List ℕ) → chars bs ≡ c ∷ chars rest → is_blank_char c ≡ true → m ≡ column_after n c
    → width_from m (blanks_of (chars rest)) ≡ width_from n (blanks_of (chars bs))
wider n m c bs rest cut blank on =
    ap (λ (k : ℕ). width_from k (blanks_of (chars rest))) on ∙ sym (width_more n c (blanks_of (chars rest)))
    ∙ sym (ap (width_from n) (blank_more bs rest c cut blank))

pub wider_by_one : (n m c : ℕ) (bs rest : List ℕ) → chars bs ≡ c ∷ chars rest → is_blank_char c ≡ true → m ≡ column_by_one n c
    → width_by_one m (blanks_of (chars rest)) ≡ width_by_one n (blanks_of (chars bs))
wider_by_one n m c bs rest cut blank on =
    ap (λ (k : ℕ). width_by_one k (blanks_of (chars rest))) on ∙ sym (by_one_more n c (blanks_of (chars rest)))
    ∙ sym (ap (width_by_one n) (blank_more bs rest c cut blank))

-- no blank stands here any more
pub wide : (n : ℕ) (bs rest : List ℕ) (c : ℕ) → chars bs ≡ c ∷ chars rest → is_blank_char c ≡ false
    → n ≡ width_from n (blanks_of (chars bs))
wide n bs rest c cut other = sym (ap (width_from n) (blank_stop bs rest c cut other) ∙ width_none n)

pub wide_by_one : (n : ℕ) (bs rest : List ℕ) (c : ℕ) → chars bs ≡ c ∷ chars rest → is_blank_char c ≡ false
    → n ≡ width_by_one n (blanks_of (chars bs))
wide_by_one n bs rest c cut other = sym (ap (width_by_one n) (blank_stop bs rest c cut other) ∙ by_one_none n)

pub wide_at_end : (n : ℕ) (bs : List ℕ) → chars bs ≡ [] → n ≡ width_from n (blanks_of (chars bs))
wide_at_end n bs none = sym (ap (λ (t : List ℕ). width_from n (blanks_of t)) none ∙ width_none n)

pub wide_by_one_at_end : (n : ℕ) (bs : List ℕ) → chars bs ≡ [] → n ≡ width_by_one n (blanks_of (chars bs))
wide_by_one_at_end n bs none = sym (ap (λ (t : List ℕ). width_by_one n (blanks_of t)) none ∙ by_one_none n)

abbrev pub widths_by : ℕ → ℕ → Widths
widths_by eight one = record { eight = eight; one = one }

-- two widths that are those of a text
pub both : (t : List ℕ) (eight one : ℕ) → eight ≡ width_from 0 (blanks_of t) → one ≡ width_by_one 0 (blanks_of t)
    → widths_by eight one ≡ widths_of t
both t eight one e o = ap₂ widths_by e o
