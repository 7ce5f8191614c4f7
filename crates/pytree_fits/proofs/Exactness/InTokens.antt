-- Carries: the laws by tokens. On: expressions, patterns and modules that some tokens are fit, and those that fit are some tokens, but for
-- high ones
-- with f-strings.
use Rattle.std.proofs.Common.{◌≡◌, List, true}
use Rattle.std.specs.List.{flat_map}
use Rattle.pytree_node.specs.declared.profiles.Extent.{Extent}
use Rattle.pytree_node.specs.declared.profiles.Profile.{Profile}
use Rattle.pytree_node.specs.Trees.{Expr, Pattern, Module}
use Rattle.pytoken.specs.Terminals.{terminals_of}
use Rattle.pytoken.specs.Tokens.{Token}
use Rattle.pytoken.specs.Tokens as Tokens
use Rattle.pygrammar.specs.declared.levels.Level.{Level}
use Rattle.pygrammar.specs.declared.pattern_levels.PatternLevel.{PatternLevel}
use Rattle.pygrammar.specs.Lines.{Line}
use Rattle.pytree_fits.specs.Tests.{tests_in}
use Rattle.pytree_fits.specs.Slots.{fits_at}
use Rattle.pytree_fits.specs.PatternSlots.{pattern_fits_at}
use Rattle.pytree_fits.specs.Statements.{module_fits}
use Rattle.pytree_fits.specs.Given.{AreGiven, no_line, a_line, Expressed, Patterned, HaveForms, no_form, a_form, Stated}
use Rattle.pytree_fits.specs.Laws.{ExpressionsFitExactly, PatternsFitExactlyInTokens, ModulesFitExactly}
use Rattle.pytree_fits.proofs.Fields.Standing.{outside}
use Rattle.pytree_fits.proofs.Fitting.Fits.{slots}
use Rattle.pytree_fits.proofs.Fitting.PatternFits.{fits}
use Rattle.pytree_fits.proofs.Exactness.Modules.{module_exactly}
use Rattle.pytree_fits.proofs.Exactness.Tokens.{tokens_pass}
use Rattle.pytree_fits.proofs.Exactness.FromPieces.{fits_expressed, fits_patterned, fits_stated}

-- ---- Expressions and patterns.

expressed_fits : (extent : Extent) (l : Level) (e : Expr) → Expressed extent l e → fits_at (tests_in extent) l e ≡ true
expressed_fits extent l e x = slots (outside (tests_in extent)) x.derived (tokens_pass x.tokens x.sound)

pub expressions_fit_exactly : ExpressionsFitExactly
expressions_fit_exactly extent l e = (expressed_fits extent l e, fits_expressed extent l e)

patterned_fits : (extent : Extent) (l : PatternLevel) (p : Pattern) → Patterned extent l p → pattern_fits_at (tests_in extent) l p ≡ true
patterned_fits extent l p x = fits (tests_in extent) x.derived (tokens_pass x.tokens x.sound)

pub patterns_fit_exactly_in_tokens : PatternsFitExactlyInTokens
patterns_fit_exactly_in_tokens extent l p = (patterned_fits extent l p, fits_patterned extent l p)

-- ---- Modules.

forms_given : {profile : Profile} {earlier : List Line} {xs : List Tokens.Line} {ys : List Line} → HaveForms profile earlier xs ys
    → AreGiven profile (tests_in profile.extent) earlier ys
forms_given no_form = no_line
forms_given (a_form {x = x} s f r) =
    a_line (flat_map (λ (t : Token). terminals_of t.kind t.text) x.tokens, tokens_pass x.tokens s, f) (forms_given r)

stated_fits : (profile : Profile) (m : Module) → Stated profile m → module_fits profile (tests_in profile.extent) m ≡ true
stated_fits profile m s = module_exactly profile profile.extent m (s.forms, forms_given s.formed, s.block)

pub modules_fit_exactly : ModulesFitExactly
modules_fit_exactly profile m = (stated_fits profile m, fits_stated profile m)
