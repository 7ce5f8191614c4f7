-- On: patterns of tokens are written in the fewest tokens that give them, with no more brackets open at once than they are high, and are
-- read back.
--
-- Carries: what pyunparse cites.
use Rattle.pyunparse_text.specs.Laws.{PatternsAreShortest, PatternBracketsAreWithinHeight}
use Rattle.pyunparse_text.proofs.Fewest.Sizes.{no_more}
use Rattle.pyunparse_text.proofs.Patterns.Sizes.{same_pattern}
use Rattle.pyunparse_text.proofs.Patterns.Claims.{here}
use Rattle.pyunparse_text.proofs.Patterns.Induction.{claim}
use Rattle.pyunparse_text.proofs.Patterns.Flat.{pattern_brackets}
use Rattle.pyunparse_text.proofs.Patterns.Readable.{patterns_read}
pub use Rattle.pyunparse_text.proofs.Patterns.Readable.{patterns_read as patterns_are_read}

pub patterns_are_shortest : PatternsAreShortest
patterns_are_shortest l ts p told d =
    record { gives = here (claim d) (record { all = told }); least = λ us q. no_more (same_pattern l p) (claim q).short }

pub pattern_brackets_are_within_height : PatternBracketsAreWithinHeight
pattern_brackets_are_within_height = pattern_brackets
