use Rattle.pytree_node.specs.declared.profiles.Extent.TheVariants.{Whole}
use Rattle.pytree_node.specs.TreeOf.{pattern_of}
use Rattle.pytree_fits.specs.Tests.{tests_in}
use Rattle.pytree_fits.specs.PatternSlots.{pattern_fits_at}
use Rattle.pytree_fits.proofs.Callers.Law.{patterns_fit_exactly_in_tokens}
use Rattle.pytree.proofs.FitLemmas.{told_of_tokens, tokens_of_told}
use Rattle.pytree.proofs.fits.well_formed_pattern_at.Goals as goal

pub returns-clause-given : goal.returns-clause-given
returns-clause-given c =
    told_of_tokens c.pattern_fits.result (pattern_fits_at (tests_in Whole) c.args.level (pattern_of c.args.pattern.now))
    (patterns_fit_exactly_in_tokens Whole c.args.level (pattern_of c.args.pattern.now)).0 c.pattern_fits.ensures

pub returns-clause-tokens : goal.returns-clause-tokens
returns-clause-tokens c =
    tokens_of_told c.pattern_fits.result (pattern_fits_at (tests_in Whole) c.args.level (pattern_of c.args.pattern.now))
    (patterns_fit_exactly_in_tokens Whole c.args.level (pattern_of c.args.pattern.now)).1 c.pattern_fits.ensures
