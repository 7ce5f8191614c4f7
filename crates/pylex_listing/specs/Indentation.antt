-- The rule of indentation (reference 2.1.8): the width of a line, the levels that are open before it, and the INDENT, the DEDENTs or the
-- fault that stand before its first significant token. The lexemes before a place stand last first, and so do the widths of lines.
--
-- The open levels are a set, which knows no order of events. That they behave as the stack of the reference is a law (`LevelsAreAStack` in
-- `Laws`): after a line of width w those below w are left, and w is the last.
use Rattle.std.specs.Prelude.{ℕ, ◌+◌, ◌*◌, ◌/◌, zero, suc, nat_lt, nat_le, Bool, ◌&&◌, ◌||◌, ◌==◌, List, [], ◌∷◌, ◌++◌, sum, filter}
use Rattle.std.specs.Prelude.{count_by, replicate, if◌then◌else◌, None}
use Rattle.std.specs.List.{list_all, list_any, take_while}
use Rattle.pysource.specs.Places.{place_after}
use Rattle.pysource.specs.declared.places.Place.{Place}
use Rattle.pylex_listing.specs.declared.kind.Kind.TheVariants as kinds
use Rattle.pylex_listing.specs.declared.entries.ListingError.TheVariants as errors
use Rattle.pylex_listing.specs.declared.entries.Step.{Step}
use Rattle.pylex_lexeme.specs.Lexemes.{Lexeme}
use Rattle.pylex_listing.specs.Lines.{text_before, is_significant, line_so_far, before_line, is_at_margin}
use Rattle.pylex_listing.specs.Steps.{piece, mark, fault_at}
use Rattle.pylex_lexeme.specs.Characters.{tab, form_feed}

-- the column after a blank (reference 2.1.8)
abbrev pub column_after : ℕ → ℕ → ℕ
column_after n c = if c == tab then (n / 8 + 1) * 8 else (if c == form_feed then 0 else n + 1)

-- the width of blanks that begin at a column: tabs go to multiples of 8, a form feed sets 0
unfoldable pub width_from : ℕ → List ℕ → ℕ
width_from n [] = n
width_from n (c ∷ cs) = width_from (column_after n c) cs

-- the width of a place's line, where only blanks stand before the place
unfoldable pub width_at : List Lexeme → ℕ
width_at before = width_from 0 (text_before (line_so_far before))

-- the widths of the logical lines that have begun, the last one first: a line has begun with its first significant token
unfoldable pub widths : List Lexeme → List ℕ
widths [] = []
widths (x ∷ before) = if is_at_margin before && is_significant x then width_at before ∷ widths before else widths before

-- the numbers below n
abbrev pub below : ℕ → List ℕ
below zero = []
below (suc n) = below n ++ n ∷ []

-- 0, and the width of each line from which on no line has a smaller one; the widths stand last line first
abbrev pub is_open : List ℕ → ℕ → Bool
is_open widths v = (v == 0) || list_any (λ w. v == w) (take_while (nat_le v) widths)

-- the open levels, ascending: after lines of the widths 0, 4 and 8 these are 0, 4 and 8, and after a further one of 4 they are 0 and 4
unfoldable pub open_levels : List ℕ → List ℕ
open_levels widths = filter (is_open widths) (below (1 + sum widths))

-- a DEDENT for each open level above a width
abbrev pub dedents : ℕ → List ℕ → List ℕ → Place → List Step
dedents width levels earlier p = replicate (count_by (nat_lt width) levels) (mark kinds.Dedent earlier p p)

-- what stands before the first significant token of a logical line (reference 2.1.8)
unfoldable pub layout_by : ℕ → List ℕ → List Lexeme → List Step
layout_by width levels before =
    if list_all (λ v. nat_lt v width) levels then piece kinds.Indent None (text_before (before_line before))
    (text_before (line_so_far before)) (place_after (text_before before)) ∷ []
    else (if list_any (λ v. v == width) levels then dedents width levels (text_before before) (place_after (text_before before))
    else fault_at errors.UnindentMismatch (place_after (text_before before)) ∷ [])

unfoldable pub layout : List Lexeme → List Step
layout before = if is_at_margin before then layout_by (width_at before) (open_levels (widths before)) before else []
