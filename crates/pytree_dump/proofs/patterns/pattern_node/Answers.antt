use Rattle.pytree_dump.proofs.PatternLemmas.{patterns_row}
use Rattle.std.proofs.Common.{subst, ◌≡◌, refl, codes, sym}
use Rattle.pytree_node.specs.TreeOf.{pattern_of, tree_of}
use Rattle.pytree_node.proofs.Callers.PatternShapes.{match_singleton_tree, match_value_tree, match_sequence_tree, match_or_tree}
use Rattle.pytree_node.proofs.Callers.PatternShapes.{match_mapping_tree, match_class_tree}
use Rattle.pytree_dump_text.specs.Shows.{a_field, name_field, no_field, shown, shown_name, shown_pattern, Node}
use Rattle.pytree_dump_text.specs.Blocks.{listed, shown_pattern_row}
use Rattle.pytree_dump.proofs.RowLemmas.{exprs_row, names_row}
use Rattle.pytree_dump.specs.Inner.Nodes.{DescribesShown}
use Rattle.pytree_node.proofs.Callers.PatternShapes.{match_as_tree, match_star_tree}
use Rattle.pytree_dump.proofs.patterns.pattern_node.Goals as goal

pub returns-in-MatchStar : goal.returns-in-MatchStar
returns-in-MatchStar c =
    rw (c.in-MatchStar.is, match_star_tree) (rw (sym (c.name_part.ensures no_field)) c.one-in-MatchStar.ensures)

pub returns-in-MatchAs : goal.returns-in-MatchAs
returns-in-MatchAs c =
    rw (c.in-MatchAs.is, match_as_tree) c.as_node.ensures

pub returns-in-MatchValue : goal.returns-in-MatchValue
returns-in-MatchValue c =
    rw (c.in-MatchValue.is, match_value_tree) c.one.ensures

pub returns-in-MatchSingleton : goal.returns-in-MatchSingleton
returns-in-MatchSingleton c =
    rw (c.in-MatchSingleton.is, match_singleton_tree)
    c.one-in-MatchSingleton.ensures

pub returns-in-MatchSequence : goal.returns-in-MatchSequence
returns-in-MatchSequence c =
    let e : shown_pattern (pattern_of c.args.p.now) ≡ Node (codes "MatchSequence")
    (a_field (codes "patterns") (shown_pattern_row c.deref.result.now) no_field) =
    rw (c.in-MatchSequence.is, match_sequence_tree, patterns_row c.in-MatchSequence.patterns.items, sym c.deref.ensures.value) refl in
    subst (λ x. DescribesShown c.args.style c.patterns_node.result x) (sym e) c.patterns_node.ensures

pub returns-in-MatchMapping : goal.returns-in-MatchMapping
returns-in-MatchMapping c =
    let e : shown_pattern (pattern_of c.args.p.now) ≡ Node (codes "MatchMapping")
    (a_field (codes "keys") (listed (λ e. shown (tree_of e)) c.deref-in-MatchMapping.result.now)
    (a_field (codes "patterns") (shown_pattern_row c.deref-in-MatchMapping-2.result.now)
    (name_field (codes "rest") c.in-MatchMapping.rest no_field))) =
    rw (
      c.in-MatchMapping.is,
      match_mapping_tree,
      exprs_row c.in-MatchMapping.keys.items,
      patterns_row c.in-MatchMapping.patterns.items,
      sym c.deref-in-MatchMapping.ensures.value,
      sym c.deref-in-MatchMapping-2.ensures.value,
    ) refl in
    subst (λ x. DescribesShown c.args.style c.mapping_node.result x) (sym e) c.mapping_node.ensures

pub returns-in-MatchClass : goal.returns-in-MatchClass
returns-in-MatchClass c =
    let e : shown_pattern (pattern_of c.args.p.now) ≡ Node (codes "MatchClass")
    (a_field (codes "cls") (shown (tree_of c.deref-in-MatchClass.result.now))
    (a_field (codes "patterns") (shown_pattern_row c.deref-in-MatchClass-2.result.now)
    (a_field (codes "kwd_attrs") (listed (λ name. shown_name name) c.deref-in-MatchClass-3.result.now)
    (a_field (codes "kwd_patterns") (shown_pattern_row c.deref-in-MatchClass-4.result.now) no_field)))) =
    rw (
      c.in-MatchClass.is,
      match_class_tree,
      patterns_row c.in-MatchClass.patterns.items,
      names_row c.in-MatchClass.kwd_attrs.items,
      patterns_row c.in-MatchClass.kwd_patterns.items,
      sym c.deref-in-MatchClass.ensures,
      sym c.deref-in-MatchClass-2.ensures.value,
      sym c.deref-in-MatchClass-3.ensures.value,
      sym c.deref-in-MatchClass-4.ensures.value,
    ) refl in
    subst (λ x. DescribesShown c.args.style c.instance_node.result x) (sym e) c.instance_node.ensures

pub returns-in-MatchOr : goal.returns-in-MatchOr
returns-in-MatchOr c =
    let e : shown_pattern (pattern_of c.args.p.now) ≡ Node (codes "MatchOr")
    (a_field (codes "patterns") (shown_pattern_row c.deref-in-MatchOr.result.now) no_field) =
    rw (c.in-MatchOr.is, match_or_tree, patterns_row c.in-MatchOr.patterns.items, sym c.deref-in-MatchOr.ensures.value) refl in
    subst (λ x. DescribesShown c.args.style c.patterns_node-in-MatchOr.result x) (sym e) c.patterns_node-in-MatchOr.ensures
