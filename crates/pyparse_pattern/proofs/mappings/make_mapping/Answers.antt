use Rattle.std.proofs.Common.{◌≡◌, ◌∙◌, ◌<◌, arith, ap, length, map, refl, rules, sym}
use Rattle.pytree_height.specs.Heights.{pattern_height}
use Rattle.pytree_node.specs.declared.patterns.Pattern.TheVariants as variant
use Rattle.pytree_node.specs.TreeOf.{pattern_of, tree_of}
use Rattle.pytree_node.specs.Trees.{MatchMapping}
use Rattle.pygrammar.specs.PatternEntries.{key_patterns, pattern_keys, rest_of}
use Rattle.pyparse_pattern.specs.Inner.Entries.{entry_of, keyed_in}
use Rattle.pyparse_pattern.proofs.Arranged.{ended, ended_rest, made_of, mapping_shape, mapping_tall}
use Rattle.pyparse_pattern.proofs.mappings.make_mapping.Goals as goal
use Rattle.pyparse_pattern.proofs.mappings.make_mapping.Goals.{After-drop-entry-iterator-2}

pub returns-in_err-height : goal.returns-in_err-height
returns-in_err-height c =
    let es = map entry_of c.args.entries.items.items in
    let f : c.args.room < pattern_height (MatchMapping (pattern_keys es) (key_patterns es) (rest_of es)) =
    omega (arith, c.in_err-height.ensures.low, mapping_tall es _ c.requires c.args.entries.is_height) in
    search (rules, f)

-- the value of the pattern
value : (c : After-drop-entry-iterator-2)
    → pattern_of (variant.MatchMapping c.loop-entry.parts.keys c.loop-entry.parts.patterns c.loop-entry.parts.rest) ≡ MatchMapping
    (pattern_keys (map entry_of c.args.entries.items.items)) (key_patterns (map entry_of c.args.entries.items.items))
    (rest_of (map entry_of c.args.entries.items.items))
value c =
    let l : length c.loop-entry.entry-iterator.rest.items ≡ 0 = omega (
      arith,
      c.loop-entry.entry-iterator.rest.ok.0,
      c.in-None.ensures.steps.0,
    ) in
    mapping_shape c.loop-entry.parts.keys c.loop-entry.parts.patterns c.loop-entry.parts.rest
    (map entry_of c.args.entries.items.items) c.requires
    (ended (map tree_of c.loop-entry.parts.keys.items) _ pattern_keys c.loop-entry.entry-iterator.rest.items l refl
    c.loop-entry.invariant.keys)
    (ended (map pattern_of c.loop-entry.parts.patterns.items) _ keyed_in c.loop-entry.entry-iterator.rest.items l refl
    c.loop-entry.invariant.patterns)
    (ended_rest c.loop-entry.parts.rest _ c.loop-entry.entry-iterator.rest.items l c.loop-entry.invariant.rest)

pub boxed-requires : goal.boxed-requires
boxed-requires c = c.in_ok-height.ensures.one
    ∙ sym (mapping_tall (map entry_of c.args.entries.items.items) _ c.requires c.args.entries.is_height) ∙ ap pattern_height (sym (value c))

pub returns : goal.returns
returns c = made_of c.args.room _ _ _ c.args.next c.boxed.result c.in_ok-height.ensures.low
    (value (goal.at.returns c).After-drop-entry-iterator-2) c.boxed.ensures
