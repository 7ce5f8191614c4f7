use Rattle.std.proofs.Common.{◌≡◌, ◌+◌, ◌*◌, max, true, map, drop}
use Rattle.pylex_lexeme.specs.declared.kinds.Exact.TheVariants.{Comma, VBar}
use Rattle.pytree_node.specs.Trees.{optional_pattern, patterns}
use Rattle.pytree_node.specs.TreeOf.{boxed_pattern_of, pattern_of, tree_of}
use Rattle.pytree_height.specs.Heights.{optional_pattern_height, pattern_height, pattern_heights}
use Rattle.pytoken.specs.Terminals.{Op}
use Rattle.pygrammar.specs.declared.pattern_levels.PatternLevel.TheVariants.{ClosedPattern}
use Rattle.pyunparse_text.specs.Pieces.{piece}
use Rattle.pyunparse_text.specs.Written.{free, trailing}
use Rattle.pyunparse_text.specs.WrittenPatterns.{each_pattern, key_patterns, named_patterns}
use Rattle.pyunparse_text.specs.Folds.{puts}
use Rattle.pyunparse.specs.Inner.Members.{members}
use Rattle.pyunparse.proofs.patterns.+patterns.Given as goal

abbrev pub invariant-write_patterns-loop-p : goal.invariant-write_patterns-loop-p
invariant-write_patterns-loop-p g l =
    puts g.W.Writer.after l.out
    (members l.first (trailing piece Comma) (each_pattern piece l.level (patterns (map pattern_of (drop l.p-index l.inner)))))
    ≡ puts g.W.Writer.after l.initial.out
    (members true (trailing piece Comma) (each_pattern piece l.level (patterns (map pattern_of l.inner))))

abbrev pub invariant-write_alternatives-loop-p : goal.invariant-write_alternatives-loop-p
invariant-write_alternatives-loop-p g l =
    puts g.W.Writer.after l.out
    (members l.first (free piece (Op VBar)) (each_pattern piece ClosedPattern (patterns (map pattern_of (drop l.p-index l.inner)))))
    ≡ puts g.W.Writer.after l.initial.out
    (members true (free piece (Op VBar)) (each_pattern piece ClosedPattern (patterns (map pattern_of l.inner))))

abbrev pub invariant-write_key_patterns-loop-i : goal.invariant-write_key_patterns-loop-i
invariant-write_key_patterns-loop-i g l =
    puts g.W.Writer.after l.out
    (members l.first (trailing piece Comma) (key_patterns piece (map tree_of (drop l.i l.keys))
    (patterns (map pattern_of (drop l.i l.inner)))))
    ≡ puts g.W.Writer.after l.initial.out
    (members true (trailing piece Comma) (key_patterns piece (map tree_of l.keys) (patterns (map pattern_of l.inner))))

abbrev pub invariant-write_named_patterns-loop-i : goal.invariant-write_named_patterns-loop-i
invariant-write_named_patterns-loop-i g l =
    puts g.W.Writer.after l.out
    (members l.first (trailing piece Comma) (named_patterns piece (drop l.i l.names) (patterns (map pattern_of (drop l.i l.named)))))
    ≡ puts g.W.Writer.after l.initial.out
    (members l.fn.is_first (trailing piece Comma) (named_patterns piece l.names (patterns (map pattern_of l.named))))

abbrev pub decreases-write_pattern : goal.decreases-write_pattern
decreases-write_pattern g l = 4 * pattern_height (pattern_of l.p.now)

abbrev pub decreases-write_patterns : goal.decreases-write_patterns
decreases-write_patterns g l = 4 * pattern_heights (patterns (map pattern_of l.inner.now)) + 1

abbrev pub decreases-write_alternatives : goal.decreases-write_alternatives
decreases-write_alternatives g l = 4 * pattern_heights (patterns (map pattern_of l.inner.now)) + 1

abbrev pub decreases-write_sequence : goal.decreases-write_sequence
decreases-write_sequence g l = 4 * pattern_heights (patterns (map pattern_of l.inner.now)) + 2

abbrev pub decreases-write_or_pattern : goal.decreases-write_or_pattern
decreases-write_or_pattern g l = 4 * pattern_heights (patterns (map pattern_of l.inner.now)) + 2

abbrev pub decreases-write_key_pattern : goal.decreases-write_key_pattern
decreases-write_key_pattern g l = 4 * pattern_height (pattern_of l.p.now) + 1

abbrev pub decreases-write_key_patterns : goal.decreases-write_key_patterns
decreases-write_key_patterns g l = 4 * pattern_heights (patterns (map pattern_of l.inner.now)) + 2

abbrev pub decreases-write_mapping : goal.decreases-write_mapping
decreases-write_mapping g l = 4 * pattern_heights (patterns (map pattern_of l.inner.now)) + 3

abbrev pub decreases-write_named_pattern : goal.decreases-write_named_pattern
decreases-write_named_pattern g l = 4 * pattern_height (pattern_of l.p.now) + 1

abbrev pub decreases-write_named_patterns : goal.decreases-write_named_patterns
decreases-write_named_patterns g l = 4 * pattern_heights (patterns (map pattern_of l.named.now)) + 2

abbrev pub decreases-write_class_pattern : goal.decreases-write_class_pattern
decreases-write_class_pattern g l = 4 * max (pattern_heights (patterns (map pattern_of l.inner.now)))
    (pattern_heights (patterns (map pattern_of l.named.now))) + 3

abbrev pub decreases-write_as_pattern : goal.decreases-write_as_pattern
decreases-write_as_pattern g l = 4 * optional_pattern_height (optional_pattern (boxed_pattern_of l.p.now)) + 1
