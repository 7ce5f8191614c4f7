-- Surrogates and numbers past the code points are unprintable, and the characters of ASCII from the
-- space to the tilde are printable.
--
-- Carries: printable.
use Rattle.std.proofs.Common.{◌≡◌, ℕ, ◌<◌, ◌≤◌, Bool, true, false, not, ◌||◌, [], ◌∷◌, List, inl, inr, refl, ap, arith}
use Rattle.std.proofs.lemmas.Bool.{cases_eq, eq-eqb, le-leb, ne_eqb, and_from, or_left, not-true}
use Rattle.std.proofs.Math.Bool.{and-false}
use Rattle.std.specs.Prelude.{◌==◌}
use Rattle.std.specs.Char.{OutOfScalarRange}
use Rattle.ucd_table.specs.Rows.{Range, in_ranges}
use Rattle.ucd_table.proofs.Stepped.{of_ranges, zip_stepped}
use Rattle.ucd_table.proofs.Facts.{Stepped-always, Stepped-beyond}
use Rattle.ucd_category.proofs.Computing.{ucd_category}
use Rattle.ucd_category.proofs.GeneralCategoryLemmas.{general_category_stepped}
use Rattle.ucd_category.specs.declared.GeneralCategory.{GeneralCategory}
use Rattle.ucd_category.specs.declared.GeneralCategoryGroup.TheVariants.{Other, Separator}
use Rattle.ucd_category.specs.GeneralCategory.{general_category}
use Rattle.ucd_category.specs.GeneralCategoryGroup.{in_group}
use Rattle.pysource.specs.Reprs.{is_unprintable}

-- what lies inside passes the test of its category
abbrev passes : (GeneralCategory → Bool) → Bool → GeneralCategory → Bool
passes test inside category = not inside || test category

-- the code points of UTF-16's halves, of ASCII that shows, and of the latter without the space
abbrev surrogates : List Range
surrogates = (0xD800, 0xDFFF) ∷ []

abbrev shown : List Range
shown = (0x20, 0x7E) ∷ []

abbrev marks : List Range
marks = (0x21, 0x7E) ∷ []

surrogates_other : (c : ℕ) → c ≤ 0x10_FFFF → passes (in_group Other) (in_ranges surrogates c) (general_category c) ≡ true
unfolding ucd_category
surrogates_other c le =
    Stepped-always (λ x. passes (in_group Other) (in_ranges surrogates x) (general_category x))
    (zip_stepped (passes (in_group Other)) (in_ranges surrogates) general_category (of_ranges surrogates refl) general_category_stepped)
    refl c le

shown_never_other : (c : ℕ) → c ≤ 0x10_FFFF → passes (λ g. not (in_group Other g)) (in_ranges shown c) (general_category c) ≡ true
unfolding ucd_category
shown_never_other c le =
    Stepped-always (λ x. passes (λ g. not (in_group Other g)) (in_ranges shown x) (general_category x))
    (zip_stepped (passes (λ g. not (in_group Other g))) (in_ranges shown) general_category (of_ranges shown refl) general_category_stepped)
    refl c le

marks_never_separator : (c : ℕ) → c ≤ 0x10_FFFF → passes (λ g. not (in_group Separator g)) (in_ranges marks c) (general_category c) ≡ true
unfolding ucd_category
marks_never_separator c le =
    Stepped-always (λ x. passes (λ g. not (in_group Separator g)) (in_ranges marks x) (general_category x))
    (zip_stepped (passes (λ g. not (in_group Separator g))) (in_ranges marks) general_category (of_ranges marks refl)
    general_category_stepped) refl c le

surrogate_other : (c : ℕ) → 0xD800 ≤ c → c < 0xE000 → in_group Other (general_category c) ≡ true
unfolding in_ranges
surrogate_other c low high =
    let above = le-leb 0xD800 c low in
    let below = le-leb c 0xDFFF (omega arith) in
    let whole = surrogates_other c (omega arith) in
    rw (above, below) at whole

-- a number past the code points has no category
beyond_other : (c : ℕ) → 0x10_FFFF < c → in_group Other (general_category c) ≡ true
unfolding ucd_category
beyond_other c lt = ap (in_group Other) (Stepped-beyond general_category general_category_stepped refl c lt)

-- a number that is no character's is not printed as it is
other_unprintable : (c : ℕ) → 32 < c → in_group Other (general_category c) ≡ true → is_unprintable c ≡ true
other_unprintable c lt other =
    let space = ne_eqb c 32 (λ e. absurd (omega (arith, e, lt))) in
    and_from (not (c == 32)) (in_group Other (general_category c) || in_group Separator (general_category c)) (ap not space)
    (or_left (in_group Other (general_category c)) (in_group Separator (general_category c)) other)

pub unprintable_no_character : (c : ℕ) → OutOfScalarRange c → is_unprintable c ≡ true
unprintable_no_character c out = elim out [
  | inl within ↦ other_unprintable c (omega arith) (surrogate_other c within.0 (omega arith))
  | inr beyond ↦ other_unprintable c (omega arith) (beyond_other c (omega arith))
]

shown_not_other : (c : ℕ) → 0x20 ≤ c → c ≤ 0x7E → in_group Other (general_category c) ≡ false
unfolding in_ranges
shown_not_other c low high =
    let above = le-leb 0x20 c low in
    let below = le-leb c 0x7E high in
    let whole = shown_never_other c (omega arith) in
    not-true (in_group Other (general_category c)) (rw (above, below) at whole)

mark_not_separator : (c : ℕ) → 0x21 ≤ c → c ≤ 0x7E → in_group Separator (general_category c) ≡ false
unfolding in_ranges
mark_not_separator c low high =
    let above = le-leb 0x21 c low in
    let below = le-leb c 0x7E high in
    let whole = marks_never_separator c (omega arith) in
    not-true (in_group Separator (general_category c)) (rw (above, below) at whole)

-- a character of ASCII from the space to the tilde
pub printable_ascii : (c : ℕ) → 0x20 ≤ c → c ≤ 0x7E → is_unprintable c ≡ false
printable_ascii c low high = elim (cases_eq c 32) [
  | inl space ↦ let test = eq-eqb c 32 space in rw test refl
  | inr mark ↦
      let sign = shown_not_other c low high in
      let gap = mark_not_separator c (omega arith) high in
      rw (sign, gap) (and-false (not (c == 32)))
]
