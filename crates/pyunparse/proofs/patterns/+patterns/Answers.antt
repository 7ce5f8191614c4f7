use Rattle.std.proofs.Common.{◌∙◌, ◌<◌, arith, length, map, refl, sym}
use Rattle.std.proofs.lemmas.Result.{IfOk-equal}
use Rattle.pylex_lexeme.specs.declared.kinds.Exact.TheVariants.{Comma, VBar}
use Rattle.pytoken.specs.Terminals.{Op}
use Rattle.pytree_node.specs.Trees.{patterns}
use Rattle.pytree_node.specs.TreeOf.{pattern_of, tree_of}
use Rattle.pytree_node.proofs.Callers.PatternShapes.{match_singleton_tree, match_star_tree, match_value_tree}
use Rattle.pytree_height.specs.Heights.{pattern_height, pattern_heights}
use Rattle.pygrammar.specs.declared.pattern_levels.PatternLevel.TheVariants.{ClosedPattern}
use Rattle.pyunparse_text.specs.Pieces.{piece}
use Rattle.pyunparse_text.specs.Written.{free, trailing}
use Rattle.pyunparse_text.specs.WrittenPatterns.{each_pattern, written_pattern}
use Rattle.pyunparse.specs.Inner.PatternParts.{key_pattern, named_pattern}
use Rattle.pyunparse.proofs.PatternLemmas.{as_on, bare_on, by_names, by_names_more, class_on, key_on, keyed, keyed_more, mapping_on}
use Rattle.pyunparse.proofs.PatternLemmas.{name_on, no_named, no_keys, no_names, no_values, or_on, sequence_on, star_on}
use Rattle.pyunparse.proofs.Sequences.MemberLemmas.{all_items, both_done, both_on, item_on, no_higher}
use Rattle.pyunparse.proofs.patterns.+patterns.Goals as goal

pub write_patterns-loop-p-preserved : goal.write_patterns-loop-p-preserved
unfolding written_pattern
write_patterns-loop-p-preserved g t c = item_on g.W.Writer.after _ _ c.loop-p.first (trailing piece Comma)
    (λ xs. each_pattern piece c.args.level (patterns (map pattern_of xs))) (λ x. written_pattern piece c.args.level (pattern_of x))
    (λ _ _. refl) c.args.inner.now _ _ _ _
    c.loop-p-test.true c.p-item.is c.loop-p.invariant c.in_ok-put_between.ensures c.in_ok-write_pattern.ensures

pub write_patterns-returns : goal.write_patterns-returns
unfolding written_pattern
write_patterns-returns g t c = all_items g.W.Writer.after _ c.loop-p.out c.loop-p.first (trailing piece Comma)
    (λ xs. each_pattern piece c.args.level (patterns (map pattern_of xs))) refl c.args.inner.now _ c.loop-p-test.false c.loop-p.invariant

pub write_patterns-write_pattern-requires : goal.write_patterns-write_pattern-requires
write_patterns-write_pattern-requires g t c = let h : _ = no_higher (λ xs. pattern_heights (patterns (map pattern_of xs)))
    (λ x. pattern_height (pattern_of x)) (λ _ _. refl) _ _ _ c.loop-p-test.true c.p-item.is in (λ κs l. (omega (arith, h), l))

pub write_alternatives-loop-p-preserved : goal.write_alternatives-loop-p-preserved
unfolding written_pattern
write_alternatives-loop-p-preserved g t c = item_on g.W.Writer.after _ _ c.loop-p.first (free piece (Op VBar))
    (λ xs. each_pattern piece ClosedPattern (patterns (map pattern_of xs))) (λ x. written_pattern piece ClosedPattern (pattern_of x))
    (λ _ _. refl) c.args.inner.now _ _ _ _
    c.loop-p-test.true c.p-item.is c.loop-p.invariant c.in_ok-put_bar.ensures c.in_ok-write_pattern.ensures

pub write_alternatives-returns : goal.write_alternatives-returns
unfolding written_pattern
write_alternatives-returns g t c = all_items g.W.Writer.after _ c.loop-p.out c.loop-p.first (free piece (Op VBar))
    (λ xs. each_pattern piece ClosedPattern (patterns (map pattern_of xs))) refl c.args.inner.now _ c.loop-p-test.false c.loop-p.invariant

pub write_alternatives-write_pattern-requires : goal.write_alternatives-write_pattern-requires
write_alternatives-write_pattern-requires g t c = let h : _ = no_higher (λ xs. pattern_heights (patterns (map pattern_of xs)))
    (λ x. pattern_height (pattern_of x)) (λ _ _. refl) _ _ _ c.loop-p-test.true c.p-item.is in (λ κs l. (omega (arith, h), l))

pub write_key_patterns-loop-i-preserved : goal.write_key_patterns-loop-i-preserved
write_key_patterns-loop-i-preserved g t c = both_on g.W.Writer.after _ _ c.loop-i.first (trailing piece Comma) keyed
    (λ k p. key_pattern (tree_of k) (pattern_of p)) keyed_more c.args.keys.now c.args.inner.now c.loop-i.i _ _ _ _
    (omega arith) c.index-keys-i.is (omega arith) c.index-inner-i.is c.loop-i.invariant c.in_ok-put_between.ensures
    c.in_ok-write_key_pattern.ensures

pub write_key_patterns-returns : goal.write_key_patterns-returns
write_key_patterns-returns g t c = both_done g.W.Writer.after _ c.loop-i.out c.loop-i.first (trailing piece Comma) keyed no_keys no_values
    c.args.keys.now c.args.inner.now c.loop-i.i (omega arith) c.loop-i.invariant

pub write_key_patterns-write_key_pattern-requires : goal.write_key_patterns-write_key_pattern-requires
write_key_patterns-write_key_pattern-requires g t c =
    let b : c.loop-i.i < length c.args.inner.now = omega arith in
    let h : _ = no_higher (λ xs. pattern_heights (patterns (map pattern_of xs))) (λ x. pattern_height (pattern_of x)) (λ _ _. refl) _ _ _ b
    c.index-inner-i.is in (λ κs l. (omega (arith, h), l))

pub write_named_patterns-loop-i-preserved : goal.write_named_patterns-loop-i-preserved
write_named_patterns-loop-i-preserved g t c = both_on g.W.Writer.after _ _ c.loop-i.first (trailing piece Comma) by_names
    (λ x p. named_pattern x (pattern_of p)) by_names_more c.args.names.now c.args.named.now c.loop-i.i _ _ _ _
    (omega arith) c.index-names-i.is (omega arith) c.index-named-i.is c.loop-i.invariant c.in_ok-put_between.ensures
    c.in_ok-write_named_pattern.ensures

pub write_named_patterns-returns : goal.write_named_patterns-returns
write_named_patterns-returns g t c = both_done g.W.Writer.after _ c.loop-i.out c.loop-i.first (trailing piece Comma) by_names no_names
    no_named c.args.names.now c.args.named.now c.loop-i.i (omega arith) c.loop-i.invariant

pub write_named_patterns-write_named_pattern-requires : goal.write_named_patterns-write_named_pattern-requires
write_named_patterns-write_named_pattern-requires g t c =
    let b : c.loop-i.i < length c.args.named.now = omega arith in
    let h : _ = no_higher (λ xs. pattern_heights (patterns (map pattern_of xs))) (λ x. pattern_height (pattern_of x)) (λ _ _. refl) _ _ _ b
    c.index-named-i.is in (λ κs l. (omega (arith, h), l))

pub write_key_pattern-returns : goal.write_key_pattern-returns
write_key_pattern-returns g t c =
    IfOk-equal _ _ _ _ c.write_pattern.ensures (key_on g.W.Writer.after c.args.out.now (tree_of c.args.key.now) (pattern_of c.args.p.now) _
    _ c.in_ok-write_expr.ensures c.in_ok-put_sign.ensures)

pub write_named_pattern-returns : goal.write_named_pattern-returns
write_named_pattern-returns g t c = IfOk-equal _ _ _ _ c.write_pattern.ensures (name_on g.W.Writer.after c.args.out.now c.args.name.now
    (pattern_of c.args.p.now) _ _ c.in_ok-put_name.ensures c.in_ok-put_sign.ensures)

pub write_sequence-returns-then-is_bare : goal.write_sequence-returns-then-is_bare
write_sequence-returns-then-is_bare g t c = IfOk-equal _ _ _ _ c.put_last.ensures
    (bare_on g.W.Writer.after c.args.out.now c.args.level c.args.inner.now _ _ (sym c.is_bare.ensures ∙ c.if-is_bare.true) refl
    c.in_ok-write_patterns.ensures)

pub write_sequence-returns : goal.write_sequence-returns
write_sequence-returns g t c = IfOk-equal _ _ _ _ c.put_sign-2.ensures
    (sequence_on g.W.Writer.after c.args.out.now c.args.level c.args.inner.now _ _ (sym c.is_bare.ensures ∙ c.if-is_bare.false)
    c.in_ok-put_sign.ensures c.in_ok-write_patterns-2.ensures)

pub write_mapping-returns : goal.write_mapping-returns
write_mapping-returns g t c = IfOk-equal _ _ _ _ c.put_sign-2.ensures
    (mapping_on g.W.Writer.after c.args.out.now c.args.level c.args.keys.now c.args.inner.now c.args.rest.now _ _ _ _ _
    c.is_empty.ensures c.is_empty-2.ensures c.in_ok-put_sign.ensures c.in_ok-write_key_patterns.ensures c.in_ok-put_rest.ensures)

pub write_class_pattern-returns : goal.write_class_pattern-returns
write_class_pattern-returns g t c = IfOk-equal _ _ _ _ c.put_sign-2.ensures
    (class_on g.W.Writer.after c.args.out.now c.args.level (tree_of c.args.class.now) c.args.inner.now c.args.names.now
    c.args.named.now _ _ _ _ _
    c.is_empty.ensures c.in_ok-write_expr.ensures c.in_ok-put_sign.ensures c.in_ok-write_patterns.ensures
    c.in_ok-write_named_patterns.ensures)

pub write_as_pattern-returns-in-None : goal.write_as_pattern-returns-in-None
unfolding written_pattern
write_as_pattern-returns-in-None g t c = rw c.in-None.is c.put_target.ensures

pub write_as_pattern-returns-in_ok-put_target-in-Some : goal.write_as_pattern-returns-in_ok-put_target-in-Some
write_as_pattern-returns-in_ok-put_target-in-Some g t c = rw (c.in-Some.is, sym c.deref.ensures) (IfOk-equal _ _ _ _ c.close.ensures
    (as_on g.W.Writer.after c.args.out.now c.args.level _ (pattern_of c.deref.result.now) c.args.name.now _ _ _ _
    c.pattern_reaches-bare.ensures c.in_ok-open-in-Some.ensures c.in_ok-write_pattern-in-Some.ensures c.in_ok-put_word-in-Some.ensures
    c.in_ok-put_target-in-Some.ensures))

pub write_or_pattern-returns : goal.write_or_pattern-returns
write_or_pattern-returns g t c = IfOk-equal _ _ _ _ c.close.ensures
    (or_on g.W.Writer.after c.args.out.now c.args.level _ (patterns (map pattern_of c.args.inner.now)) _ _ c.pattern_reaches-bare.ensures
    c.in_ok-open.ensures c.in_ok-write_alternatives.ensures)

pub write_pattern-returns-in-MatchValue : goal.write_pattern-returns-in-MatchValue
unfolding written_pattern
write_pattern-returns-in-MatchValue g t c = rw (c.in-MatchValue.is, match_value_tree) c.write_expr.ensures

pub write_pattern-returns-in-MatchSingleton : goal.write_pattern-returns-in-MatchSingleton
unfolding written_pattern
write_pattern-returns-in-MatchSingleton g t c = rw (c.in-MatchSingleton.is, match_singleton_tree) c.put_constant.ensures

pub write_pattern-returns-in_ok-put_sign-in-MatchStar : goal.write_pattern-returns-in_ok-put_sign-in-MatchStar
write_pattern-returns-in_ok-put_sign-in-MatchStar g t c = rw (c.in-MatchStar.is, match_star_tree) (IfOk-equal _ _ _ _ c.put_target.ensures
    (star_on g.W.Writer.after c.args.out.now c.args.level c.in-MatchStar.name _ c.in_ok-put_sign-in-MatchStar.ensures))
