-- Worked refusals, by computation; the limit of brackets is 2 here.
--
-- Carries: no contract; its rows are computed as it is checked. On: Computing.
use Rattle.std.proofs.Common.{◌≡◌, ℕ, List, [], ◌∷◌, ◌++◌, refl, Some, None}
use Rattle.std.specs.Prelude.{codes}
use Rattle.pysource.specs.declared.places.Place.{Place}
use Rattle.pylex_listing.specs.declared.entries.ListingError.TheVariants as listings
use Rattle.pylex_listing.specs.Listing.{Source}
use Rattle.pytree_node.specs.declared.profiles.Extent.TheVariants.{Plain, Whole}
use Rattle.pytoken.specs.declared.faults.TokenError.TheVariants as errors
use Rattle.pytoken.specs.declared.refusals.Refusal.TheVariants as refusals
use Rattle.pytoken.specs.Refusals.{refusal_at}
use Rattle.pytoken.proofs.Computing.{sources, values, formatted}

abbrev source : List ℕ → Source
source t = record { encoding = []; text = t; fault = None }

abbrev at : ℕ → ℕ → Place
at r c = record { row = r; column = c }

-- a + 1j\n
complex : refusal_at Plain 2 (source (codes "a + 1j\n")) ≡ Some (refusals.Token errors.Complex (at 1 4))
unfolding sources values refusal_at
complex = refl

-- f'' + 1j\n
formatted_first : refusal_at Plain 2 (source (codes "f'' + 1j\n")) ≡ Some (refusals.Token errors.FString (at 1 0))
unfolding sources values refusal_at
formatted_first = refl

-- '\\N{DASH}'\n
named_escape : refusal_at Plain 2 (source (codes "'\\N{DASH}'\n")) ≡ Some (refusals.Token errors.NamedEscape (at 1 0))
unfolding sources values refusal_at
named_escape = refl

-- '\\x4'\n
short_escape : refusal_at Plain 2 (source (codes "'\\x4'\n")) ≡ Some (refusals.Token errors.BadEscape (at 1 0))
unfolding sources values refusal_at
short_escape = refl

-- b'\\400'\n
large_byte : refusal_at Plain 2 (source (codes "b'\\400'\n")) ≡ Some (refusals.Token errors.BadEscape (at 1 0))
unfolding sources values refusal_at
large_byte = refl

-- b'\xe9'\n
high_byte : refusal_at Plain 2 (source (codes "b'" ++ (233 ∷ codes "'\n"))) ≡ Some (refusals.Token errors.NonAsciiBytes (at 1 0))
unfolding sources values refusal_at
high_byte = refl

-- # \x00\n
nul_in_comment : refusal_at Plain 2 (source (codes "# " ++ (0 ∷ codes "\n"))) ≡ Some (refusals.Token errors.Nul (at 1 0))
unfolding sources values refusal_at
nul_in_comment = refl

-- x = 1.5\n
float : refusal_at Plain 2 (source (codes "x = 1.5\n")) ≡ Some (refusals.Token errors.Float (at 1 4))
unfolding sources values refusal_at
float = refl

-- match 1.5:\n
match_of_float : refusal_at Plain 2 (source (codes "match 1.5:\n")) ≡ Some (refusals.Token errors.Float (at 1 6))
unfolding sources values refusal_at
match_of_float = refl

-- \uff49\uff46 = 1\n
name_form : refusal_at Plain 2 (source (65353 ∷ 65350 ∷ codes " = 1\n")) ≡ Some (refusals.Token errors.NameForm (at 1 0))
unfolding sources values refusal_at
name_form = refl

-- (a, [{\n}])\n
deep_third : refusal_at Plain 2 (source (codes "(a, [{\n}])\n")) ≡ Some (refusals.TooDeep (at 1 5))
unfolding sources values refusal_at
deep_third = refl

-- ([{1.5\n}])\n
token_before_deep : refusal_at Plain 2 (source (codes "([{1.5\n}])\n")) ≡ Some (refusals.Token errors.Float (at 1 3))
unfolding sources values refusal_at
token_before_deep = refl

-- 1.5 = )
listing_first : refusal_at Plain 2 (source (codes "1.5 = )")) ≡ Some
    (refusals.Listing (record { code = listings.UnmatchedCloser; place = at 1 6 }))
unfolding sources values refusal_at
listing_first = refl

-- (a, [b])\n
no_refusal : refusal_at Plain 2 (source (codes "(a, [b])")) ≡ None
unfolding sources values refusal_at
no_refusal = refl

-- if x:\n        y\n\tz\n
tab_after_blanks : refusal_at Plain 2 (source (codes "if x:\n        y\n" ++ (9 ∷ codes "z\n"))) ≡ Some (refusals.MixedTabs (at 3 1))
unfolding sources values refusal_at
tab_after_blanks = refl

-- if x:\n\ty\n        z\n
blanks_after_tab : refusal_at Plain 2 (source (codes "if x:\n" ++ (9 ∷ codes "y\n        z\n"))) ≡ Some (refusals.MixedTabs (at 3 8))
unfolding sources values refusal_at
blanks_after_tab = refl

-- if x:\n  y\n\tz\n
tab_after_two_blanks : refusal_at Plain 2 (source (codes "if x:\n  y\n" ++ (9 ∷ codes "z\n"))) ≡ Some (refusals.MixedTabs (at 3 1))
unfolding sources values refusal_at
tab_after_two_blanks = refl

-- if x:\n \ty\n\t z\n
blank_and_tab_turned : refusal_at Plain 2 (source (codes "if x:\n " ++ (9 ∷ (codes "y\n" ++ (9 ∷ codes " z\n"))))) ≡ Some
    (refusals.MixedTabs (at 3 2))
unfolding sources values refusal_at
blank_and_tab_turned = refl

-- if a:\n\tif b:\n\t        c\n        d\n
mixed_with_a_line_before_the_last : refusal_at Plain 2
    (source (codes "if a:\n" ++ (9 ∷ (codes "if b:\n" ++ (9 ∷ codes "        c\n        d\n")))))
    ≡ Some (refusals.MixedTabs (at 4 8))
unfolding sources values refusal_at
mixed_with_a_line_before_the_last = refl

-- if x:\n        y\n\tz = 1.5\n
token_before_mixed : refusal_at Plain 2 (source (codes "if x:\n        y\n" ++ (9 ∷ codes "z = 1.5\n"))) ≡ Some
    (refusals.Token errors.Float (at 3 5))
unfolding sources values refusal_at
token_before_mixed = refl

-- if x:\n\ty\n\tz\n
tabs_alone : refusal_at Plain 2 (source (codes "if x:\n" ++ (9 ∷ (codes "y\n" ++ (9 ∷ codes "z\n"))))) ≡ None
unfolding sources values refusal_at
tabs_alone = refl

-- if x:\n    y\n\t# c\n    z\n
tab_before_a_comment : refusal_at Plain 2 (source (codes "if x:\n    y\n" ++ (9 ∷ codes "# c\n    z\n"))) ≡ None
unfolding sources values refusal_at
tab_before_a_comment = refl

-- x = (\n\t1)\n
tab_within_brackets : refusal_at Plain 2 (source (codes "x = (\n" ++ (9 ∷ codes "1)\n"))) ≡ None
unfolding sources values refusal_at
tab_within_brackets = refl

-- if x:\n\t\\\ny\n        z\n
line_of_a_join : refusal_at Plain 2 (source (codes "if x:\n" ++ (9 ∷ codes "\\\ny\n        z\n"))) ≡ Some (refusals.MixedTabs (at 4 8))
unfolding sources values refusal_at
line_of_a_join = refl

-- In the whole language

-- x = 1.5 + 2j\n
whole_numbers : refusal_at Whole 2 (source (codes "x = 1.5 + 2j\n")) ≡ None
unfolding sources values refusal_at
whole_numbers = refl

-- f'' + 1j\n
whole_formatted : refusal_at Whole 2 (source (codes "f'' + 1j\n")) ≡ None
unfolding sources formatted refusal_at
whole_formatted = refl

-- ([{1.5\n}])\n
whole_deep : refusal_at Whole 2 (source (codes "([{1.5\n}])\n")) ≡ Some (refusals.TooDeep (at 1 2))
unfolding sources values refusal_at
whole_deep = refl

-- if x:\n        y\n\tz = 1.5\n
whole_mixed : refusal_at Whole 2 (source (codes "if x:\n        y\n" ++ (9 ∷ codes "z = 1.5\n"))) ≡ Some (refusals.MixedTabs (at 3 1))
unfolding sources values refusal_at
whole_mixed = refl

-- # \x00\n
whole_nul : refusal_at Whole 2 (source (codes "# " ++ (0 ∷ codes "\n"))) ≡ Some (refusals.Token errors.Nul (at 1 0))
unfolding sources values refusal_at
whole_nul = refl
