use Rattle.std.proofs.Common.{map, refl, sym, ap, ◌∙◌}
use Rattle.pytree_node.specs.TreeOf.{tree_of, pattern_of}
use Rattle.pytree_node.specs.Trees.{patterns}
use Rattle.pytree_fits.specs.Tests.{tests_at}
use Rattle.pytree_fits.specs.PatternSlots.{pattern_fits_at, each_pattern_fits}
use Rattle.pytree_node.proofs.Callers.PatternShapes.{match_mapping_tree}
use Rattle.pygrammar.specs.declared.pattern_levels.PatternLevel.TheVariants.{AsPattern}
use Rattle.pytree_fits.proofs.Chains.{mapping_fails}
use Rattle.pytree_fits.proofs.Loops.{goes_on, stops}
use Rattle.pytree_fits.proofs.patterns.+patterns.Goals as goal

pub patterns_fit-returns-then-not-branch : goal.patterns_fit-returns-then-not-branch
patterns_fit-returns-then-not-branch t c =
    stops (λ ps. each_pattern_fits (tests_at c.args.asked.extent c.args.asked.fields) c.args.level (patterns (map pattern_of ps)))
    (λ p. pattern_fits_at (tests_at c.args.asked.extent c.args.asked.fields) c.args.level (pattern_of p)) refl (λ _ _. refl) _
    c.loop-p-test.true c.p-item.is c.in_ok-pattern_fits.ensures c.if-not-branch.true

pub patterns_fit-loop-p-preserved : goal.patterns_fit-loop-p-preserved
patterns_fit-loop-p-preserved t c =
    goes_on (λ ps. each_pattern_fits (tests_at c.args.asked.extent c.args.asked.fields) c.args.level (patterns (map pattern_of ps)))
    (λ p. pattern_fits_at (tests_at c.args.asked.extent c.args.asked.fields) c.args.level (pattern_of p)) refl (λ _ _. refl) _
    c.loop-p-test.true c.p-item.is c.loop-p.invariant c.in_ok-pattern_fits.ensures c.if-not-branch.false

pub pattern_fits-returns-then-not-branch-2 : goal.pattern_fits-returns-then-not-branch-2
pattern_fits-returns-then-not-branch-2 t c =
    rw (c.in-MatchMapping.is, match_mapping_tree) (mapping_fails (tests_at c.args.asked.extent c.args.asked.fields) c.args.level
    (map tree_of c.in-MatchMapping.keys.items) (patterns (map pattern_of c.in-MatchMapping.patterns.items)) c.in-MatchMapping.rest
    (sym c.if-not-branch-2.true ∙ c.in_ok-patterns_fit-in-MatchMapping.ensures
    ∙ ap (λ ps. each_pattern_fits (tests_at c.args.asked.extent c.args.asked.fields) AsPattern (patterns (map pattern_of ps)))
    c.deref-in-MatchMapping-4.ensures.value))
