-- What holds of the trees that fit: they are those that the grammar gives, to terminals and, unless they are too high for an f-string, to
-- tokens.
use Rattle.std.specs.Prelude.{◌≡◌, ◌↔◌, Bool, true, ◌&&◌}
use Rattle.pytree_node.specs.declared.operators.Context.TheVariants.{Store, Del}
use Rattle.pytree_node.specs.declared.profiles.Extent.{Extent}
use Rattle.pytree_node.specs.declared.profiles.Extent.TheVariants.{Whole}
use Rattle.pytree_node.specs.declared.profiles.Version.TheVariants.{Py312}
use Rattle.pytree_node.specs.declared.profiles.Profile.{Profile}
use Rattle.pytree_node.specs.Profiles.{python}
use Rattle.pytree_node.specs.Trees.{Expr, Exprs, Keywords, Arguments, Pattern, Module}
use Rattle.pygrammar.specs.declared.levels.Level.{Level}
use Rattle.pygrammar.specs.declared.levels.Level.TheVariants.{Elem}
use Rattle.pygrammar.specs.Grammar.{Derives, Target, SingleTarget, DelTarget, ItemTarget}
use Rattle.pygrammar.specs.declared.pattern_levels.PatternLevel.{PatternLevel}
use Rattle.pygrammar.specs.ArgumentLists.{IsArranged, AreArguments}
use Rattle.pygrammar.specs.PatternGrammar.{DerivesPattern}
use Rattle.pytree_fits.specs.Tests.{Tests, tests_in}
use Rattle.pytree_fits.specs.Slots.{is_single, fits_at, fits_target, each_fits, each_keyword_fits, fits_arguments}
use Rattle.pytree_fits.specs.PatternSlots.{pattern_fits_at}
use Rattle.pytree_fits.specs.Statements.{module_fits}
use Rattle.pytree_fits.specs.Given.{Given, Expressed, Patterned, Stated}
use Rattle.pytree_fits.specs.Low.{IsLow, IsLowPattern, IsLowModule}

-- ---- By terminals, for any test of names, in either extent.

-- an expression fits a level exactly where the grammar gives it there to some terminals that pass
abbrev pub FitsExactly : Type 0
FitsExactly = (n : Tests) (l : Level) (e : Expr) → Given n (Derives l) e ↔ (fits_at n l e ≡ true)

-- so do targets at their places
pub record TargetFits (n : Tests) (s : Expr) : Type 0 where
  pub target : Given n Target s ↔ (fits_target n Store s ≡ true)
  pub single : Given n SingleTarget s ↔ ((is_single s && fits_target n Store s) ≡ true)
  pub del : Given n DelTarget s ↔ (fits_target n Del s ≡ true)
  pub item : Given n ItemTarget s ↔ (fits_target n Store s ≡ true)

abbrev pub TargetsFitExactly : Type 0
TargetsFitExactly = (n : Tests) (s : Expr) → TargetFits n s

-- so do the parameters of a `lambda`, or with annotations those of a `def`
abbrev pub ParametersFitExactly : Type 0
ParametersFitExactly = (n : Tests) (annotated : Bool) (a : Arguments) →
    Given n (IsArranged annotated) a ↔ (fits_arguments n annotated a ≡ true)

-- so do arguments; each order of the tree is given, so there is no test of an order
abbrev pub ArgumentsFitExactly : Type 0
ArgumentsFitExactly = (n : Tests) (zs : Exprs) (ks : Keywords) →
    Given n AreArguments (zs, ks) ↔ ((each_fits n Elem zs && each_keyword_fits n ks) ≡ true)

-- so do patterns at the levels of their own grammar
abbrev pub PatternsFitExactly : Type 0
PatternsFitExactly = (n : Tests) (l : PatternLevel) (p : Pattern) → Given n (DerivesPattern l) p ↔ (pattern_fits_at n l p ≡ true)

-- ---- By tokens. A tree that some tokens are fits. One that fits is some tokens, unless it has an f-string and is higher than 500: such a
-- one may be
-- well formed by its parts, and have no tokens, since a field of an f-string opens 599 brackets at most.

-- an expression that the grammar gives at a level to some tokens without a fault in an extent fits there; and a low one that fits is so
-- given
abbrev pub ExpressionsFitExactly : Type 0
ExpressionsFitExactly = (extent : Extent) (l : Level) (e : Expr) → (Expressed extent l e → fits_at (tests_in extent) l e ≡ true)
    × (IsLow l e → fits_at (tests_in extent) l e ≡ true → Expressed extent l e)

-- so with patterns
abbrev pub PatternsFitExactlyInTokens : Type 0
PatternsFitExactlyInTokens = (extent : Extent) (l : PatternLevel) (p : Pattern)
    → (Patterned extent l p → pattern_fits_at (tests_in extent) l p ≡ true)
    × (IsLowPattern l p → pattern_fits_at (tests_in extent) l p ≡ true → Patterned extent l p)

-- so with modules, in a version of Python and its extent, and some lines of such tokens
abbrev pub ModulesFitExactly : Type 0
ModulesFitExactly = (profile : Profile) (m : Module) → (Stated profile m → module_fits profile (tests_in profile.extent) m ≡ true)
    × (IsLowModule m → module_fits profile (tests_in profile.extent) m ≡ true → Stated profile m)

-- ---- By extents and versions.

-- an expression that fits a level in an extent fits it in the whole language
abbrev pub ExpressionsStay : Type 0
ExpressionsStay = (extent : Extent) (l : Level) (e : Expr) → fits_at (tests_in extent) l e ≡ true → fits_at (tests_in Whole) l e ≡ true

-- a module that fits in a version of Python, in its extent, fits in Python 3.12, whole
abbrev pub ModulesStay : Type 0
ModulesStay = (profile : Profile) (m : Module) → module_fits profile (tests_in profile.extent) m ≡ true
    → module_fits (python Py312 Whole) (tests_in Whole) m ≡ true

-- the laws of the slots
pub record SlotsAreLawful : Type 0 where
  pub exact : FitsExactly
  pub targets : TargetsFitExactly
  pub parameters : ParametersFitExactly
  pub arguments : ArgumentsFitExactly
  pub patterns : PatternsFitExactly
  pub expressions : ExpressionsFitExactly
  pub patterns_in_tokens : PatternsFitExactlyInTokens
  pub modules : ModulesFitExactly
  pub expressions_stay : ExpressionsStay
  pub modules_stay : ModulesStay
