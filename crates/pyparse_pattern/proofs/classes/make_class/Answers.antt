use Rattle.std.proofs.Common.{◌≡◌, ◌∙◌, ◌+◌, ◌<◌, arith, ap, length, map, refl, rules, sym}
use Rattle.pytree_height.specs.Heights.{pattern_height}
use Rattle.pytree_node.specs.declared.patterns.Pattern.TheVariants as variant
use Rattle.pytree_node.specs.TreeOf.{pattern_of, tree_of}
use Rattle.pytree_node.specs.Trees.{MatchClass}
use Rattle.pygrammar.specs.PatternEntries.{elements, named_attributes, named_patterns}
use Rattle.pyparse_pattern.specs.Inner.Entries.{alone_in, entry_of, named_in}
use Rattle.pyparse_pattern.proofs.Arranged.{class_shape, class_tall, ended, made_of}
use Rattle.pyparse_pattern.proofs.classes.make_class.Goals as goal
use Rattle.pyparse_pattern.proofs.classes.make_class.Goals.{After-drop-entry-iterator-2}

pub returns-in_err-height : goal.returns-in_err-height
returns-in_err-height c =
    let es = map entry_of c.args.entries.items.items in
    let f : c.args.room < pattern_height (MatchClass (tree_of c.args.class.expr.value) (elements es) (named_attributes es)
    (named_patterns es)) = omega (
      arith,
      c.in_err-height.ensures.low,
      c.max.ensures,
      class_tall (tree_of c.args.class.expr.value) es _ _
          c.requires c.args.class.is_height c.args.entries.is_height,
    ) in
    search (rules, f)

-- the value of the pattern
value : (c : After-drop-entry-iterator-2)
    → pattern_of (variant.MatchClass c.args.class.expr c.loop-entry.parts.patterns c.loop-entry.parts.kwd_attrs
    c.loop-entry.parts.kwd_patterns) ≡ MatchClass (tree_of c.args.class.expr.value) (elements (map entry_of c.args.entries.items.items))
    (named_attributes (map entry_of c.args.entries.items.items)) (named_patterns (map entry_of c.args.entries.items.items))
value c =
    let l : length c.loop-entry.entry-iterator.rest.items ≡ 0 = omega (
      arith,
      c.loop-entry.entry-iterator.rest.ok.0,
      c.in-None.ensures.steps.0,
    ) in
    class_shape c.args.class.expr c.loop-entry.parts.patterns c.loop-entry.parts.kwd_attrs c.loop-entry.parts.kwd_patterns
    (map entry_of c.args.entries.items.items)
    (ended (map pattern_of c.loop-entry.parts.patterns.items) _ alone_in c.loop-entry.entry-iterator.rest.items l refl
    c.loop-entry.invariant.patterns)
    (ended c.loop-entry.parts.kwd_attrs.items _ named_attributes c.loop-entry.entry-iterator.rest.items l refl c.loop-entry.invariant.names)
    (ended (map pattern_of c.loop-entry.parts.kwd_patterns.items) _ named_in c.loop-entry.entry-iterator.rest.items l refl
    c.loop-entry.invariant.named)

pub boxed-requires : goal.boxed-requires
boxed-requires c = c.in_ok-height.ensures.one ∙ ap (λ n. n + 1) c.max.ensures
    ∙ sym (class_tall (tree_of c.args.class.expr.value) (map entry_of c.args.entries.items.items) _ _ c.requires c.args.class.is_height
    c.args.entries.is_height) ∙ ap pattern_height (sym (value c))

pub returns : goal.returns
returns c = made_of c.args.room _ _ _ c.args.next c.boxed.result c.in_ok-height.ensures.low
    (value (goal.at.returns c).After-drop-entry-iterator-2) c.boxed.ensures
