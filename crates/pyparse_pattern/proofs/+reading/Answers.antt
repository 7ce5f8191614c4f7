use Rattle.std.proofs.Common.{refl, ◌+◌, ◌∙◌, ◌∷◌, [], ap, arith, rules, map, sym, Some, Ok}
use Rattle.pylex_lexeme.specs.declared.kinds.Exact.TheVariants.{LBrace, LPar, LSqb}
use Rattle.pytree_node.specs.TreeOf.{pattern_of}
use Rattle.pytoken.specs.Terminals.{Op, Ident}
use Rattle.pytoken.specs.TerminalOf.{terminal}
use Rattle.pygrammar.specs.declared.pattern_levels.PatternLevel.TheVariants as level
use Rattle.pygrammar.specs.PatternOperators.{captured, is_wildcard}
use Rattle.pyparse_nodes.specs.Views.{seen}
use Rattle.pyplaces.proofs.Asides.{Apart}
use Rattle.pyplaces.proofs.Patterns.Levels.{placed_pattern_next}
use Rattle.pyparse_reads.proofs.Callers.Looks.{front, placed_at}
use Rattle.pyparse_pattern.proofs.AlternativeSteps.{bars_end, bars_error, bars_more, bars_start}
use Rattle.pyparse_pattern.proofs.ClosedSteps.{closed_here, closed_literal, closed_word, inner_dotted, inner_found, name_value, same_found}
use Rattle.pyparse_pattern.proofs.ElementSteps.{elements_alone}
use Rattle.pyparse_pattern.proofs.EntrySteps.{entries_error, entries_more, entries_start}
use Rattle.pyparse_pattern.proofs.SequenceSteps.{open_sequence, round_sequence, square_sequence}
use Rattle.pyparse_pattern.proofs.Recorders.Entries.{argument_placed, class_records, element_placed, elements_as, elements_placed}
use Rattle.pyparse_pattern.proofs.Recorders.Entries.{entries_begun}
use Rattle.pyparse_pattern.proofs.Recorders.Entries.{entries_closed, entries_ended, entries_gone, entry_as, keyed_placed, named_placed}
use Rattle.pyparse_pattern.proofs.Recorders.Entries.{rest_placed}
use Rattle.pyparse_pattern.proofs.Recorders.Levels.{bars_begun, bars_ended, bars_gone, capture_placed, class_joined, or_placed}
use Rattle.pyparse_pattern.proofs.Recorders.Levels.{singleton_placed, value_placed}
use Rattle.pyparse_pattern.proofs.Recorders.Made.{whole_at, whole_joined, whole_on, whole_seen}
use Rattle.pyparse_pattern.proofs.Recorders.Sequences.{alone_placed, empty_placed, group_placed, open_placed, round_placed, square_placed}
use Rattle.pyparse_pattern.specs.Inner.Entries.{entry_of, item_of}
use Rattle.pyparse_pattern.proofs.+reading.Goals as goal

pub closed::name_pattern-returns-in_ok-node-2-clause-answered : goal.closed::name_pattern-returns-in_ok-node-2-clause-answered
closed::name_pattern-returns-in_ok-node-2-clause-answered g t c =
    let w = ap is_wildcard (sym c.in_ok-name.ensures) ∙ sym c.if-is_wildcard.ensures in
    name_value c.args.tokens.now c.args.depth c.args.at _ c.in_ok-e.e c.make_value.result w c.if-is_unqualified.ensures
    (inner_dotted c.args.tokens.now c.args.depth c.args.at _ _ c.in_ok-e.e c.inner.ensures.room c.in_ok-e.ensures.answered)
    c.if-is_op.ensures c.make_value.ensures

pub closed::read_closed-returns-in-Some-Ident-clause-answered : goal.closed::read_closed-returns-in-Some-Ident-clause-answered
closed::read_closed-returns-in-Some-Ident-clause-answered g t c =
    closed_here c.args.tokens.now c.args.depth c.args.at (c.args.at + 1) _ c.name_pattern.result
    (c.in-Some-Ident.ensures.is ∙ ap (λ u. Some (terminal u)) c.in-Some-Ident.field-0-is) c.name_pattern.ensures.answered

pub closed::read_closed-returns-in_ok-node-in-Some-Word-clause-answered
    : goal.closed::read_closed-returns-in_ok-node-in-Some-Word-clause-answered
closed::read_closed-returns-in_ok-node-in-Some-Word-clause-answered g t c =
    closed_word c.args.tokens.now c.args.depth c.args.at c.in-Some-Word.word _
    c.make_singleton.result c.requires.open c.in-Some-Word.ensures.within (c.in-Some-Word.ensures.is
    ∙ ap (λ u. Some (terminal u)) c.in-Some-Word.field-0-is) c.in_ok-value-in-Some-Word.ensures c.make_singleton.ensures

pub closed::read_closed-returns-in-Some-Op-LPar-clause-answered : goal.closed::read_closed-returns-in-Some-Op-LPar-clause-answered
closed::read_closed-returns-in-Some-Op-LPar-clause-answered g t c =
    closed_here c.args.tokens.now c.args.depth c.args.at (c.args.at + 1) _ c.round.result
    (c.in-Some-Op-LPar.ensures.is ∙ ap (λ u. Some (terminal u)) c.in-Some-Op-LPar.field-0-is
    ∙ ap (λ u. Some (Op u)) c.in-Some-Op-LPar.field-0-0-is) c.round.ensures.answered

pub closed::read_closed-returns-in-Some-Op-LSqb-clause-answered : goal.closed::read_closed-returns-in-Some-Op-LSqb-clause-answered
closed::read_closed-returns-in-Some-Op-LSqb-clause-answered g t c =
    closed_here c.args.tokens.now c.args.depth c.args.at (c.args.at + 1) _ c.square.result
    (c.in-Some-Op-LSqb.ensures.is ∙ ap (λ u. Some (terminal u)) c.in-Some-Op-LSqb.field-0-is
    ∙ ap (λ u. Some (Op u)) c.in-Some-Op-LSqb.field-0-0-is) c.square.ensures.answered

pub closed::read_closed-returns-in-Some-Op-LBrace-clause-answered : goal.closed::read_closed-returns-in-Some-Op-LBrace-clause-answered
closed::read_closed-returns-in-Some-Op-LBrace-clause-answered g t c =
    closed_here c.args.tokens.now c.args.depth c.args.at (c.args.at + 1) _ c.mapping.result
    (c.in-Some-Op-LBrace.ensures.is ∙ ap (λ u. Some (terminal u)) c.in-Some-Op-LBrace.field-0-is
    ∙ ap (λ u. Some (Op u)) c.in-Some-Op-LBrace.field-0-0-is) c.mapping.ensures.answered

pub closed::read_closed-returns-in_default-clause-answered : goal.closed::read_closed-returns-in_default-clause-answered
closed::read_closed-returns-in_default-clause-answered g t c =
    closed_literal c.args.depth c.args.tokens.now c.args.at c.terminal_at.result c.literal_pattern.result c.terminal_at.ensures.is
    (search rules) c.literal_pattern.ensures.answered

pub levels::alternatives-bars-init : goal.levels::alternatives-bars-init
levels::alternatives-bars-init g t c = record {
  ahead = omega (arith, c.in_ok-patterns.ensures.next);
  is = bars_start c.args.tokens.now c.args.depth (pattern_of c.args.first.pattern.value) c.args.first.next c.in_ok-patterns.patterns
      c.requires.within c.in_ok-patterns.ensures.items c.in_ok-patterns.ensures.next;
  grown = bars_begun c.args.first.next (pattern_of c.args.first.pattern.value) c.in_ok-patterns.patterns c.in_ok-patterns.ensures.items
      c.in_ok-patterns.ensures.next;
}

pub levels::alternatives-returns-in_err-one-clause-answered : goal.levels::alternatives-returns-in_err-one-clause-answered
levels::alternatives-returns-in_err-one-clause-answered g t c =
    let f = bars_error c.args.tokens.now c.args.depth (pattern_of c.args.first.pattern.value) _ c.bars.patterns c.bars.invariant.is
    c.bars-test.ensures c.in_err-one.field-0.0 (rw (← c.inner.ensures.steps, ← c.inner.ensures.room) c.in_err-one.ensures.answered) in
    search (rules, f)

pub levels::alternatives-bars-preserved : goal.levels::alternatives-bars-preserved
levels::alternatives-bars-preserved g t c = record {
  ahead = omega (arith, c.bars.invariant.ahead, c.in_ok-one.ensures.answered.ahead, c.in_ok-patterns-2.ensures.next);
  is = bars_more c.args.tokens.now c.args.depth (pattern_of c.args.first.pattern.value) _ c.bars.patterns c.bars.invariant.is
      c.bars-test.ensures _ c.in_ok-one.one c.in_ok-patterns-2.patterns (inner_found c.args.tokens.now _ c.args.depth c.inner.result _ _
      c.in_ok-one.one c.inner.ensures.steps c.inner.ensures.room c.in_ok-one.ensures.answered) c.in_ok-patterns-2.ensures.items
      c.in_ok-patterns-2.ensures.next;
  grown = bars_gone c.args.first.next (pattern_of c.args.first.pattern.value) c.bars.patterns c.in_ok-one.one c.in_ok-patterns-2.patterns
      c.bars.invariant.grown c.bars-test.ensures c.in_ok-one.ensures.placed c.in_ok-patterns-2.ensures.items
      c.in_ok-patterns-2.ensures.next;
}

pub levels::alternatives-returns-clause-answered : goal.levels::alternatives-returns-clause-answered
levels::alternatives-returns-clause-answered g t c =
    bars_end c.args.tokens.now c.args.depth (pattern_of c.args.first.pattern.value) _ c.bars.patterns
    c.bars.invariant.is c.args.first.next c.bars-test.ensures c.bars.invariant.ahead

pub levels::alternatives-returns-clause-placed : goal.levels::alternatives-returns-clause-placed
levels::alternatives-returns-clause-placed g t c = bars_ended c.args.first.next (pattern_of c.args.first.pattern.value) c.bars.patterns
    c.bars.invariant.grown c.bars-test.ensures

pub levels::read_patterns-returns-then-is_op-clause-answered : goal.levels::read_patterns-returns-then-is_op-clause-answered
levels::read_patterns-returns-then-is_op-clause-answered g t c =
    open_sequence c.args.tokens.now c.args.depth c.args.at c.in_ok-first.first c.if-is_op.ensures
    c.in_ok-patterns.patterns c.in_ok-patterns.ensures.answered c.make_sequence.result c.in_ok-first.ensures.answered
    c.make_sequence.ensures

pub listings::read_entries-more-init : goal.listings::read_entries-more-init
listings::read_entries-more-init g t c = record {
  ahead = omega (arith, c.no_entries-before.ensures.next);
  is = entries_start c.args.tokens.now c.args.depth (item_of c.args.item) c.args.at c.no_entries-before.result c.requires.within
      c.no_entries-before.ensures.items c.no_entries-before.ensures.next c.no_entries-before.ensures.height;
  grown = entries_begun c.args.at c.no_entries-before.result c.no_entries-before.ensures.items c.no_entries-before.ensures.next;
}

pub listings::read_entries-more-preserved : goal.listings::read_entries-more-preserved
listings::read_entries-more-preserved g t c =
    let apart : Apart g.R.Recorder.after g.R.Recorder.beside = record { is = g.met.R.Recorder.apart } in
    record {
      ahead = omega (
        arith,
        c.more.invariant.ahead,
        c.in_ok-one.ensures.answered.ahead,
        c.in_ok-entries.ensures.next,
        c.placed-before.ensures.next,
      );
      is = entries_more c.args.tokens.now c.args.depth (item_of c.args.item) _ c.more.before c.more.invariant.is c.more-test.ensures.is
          c.in_ok-one.one c.in_ok-entries.entries c.in_ok-one.ensures.answered c.in_ok-entries.ensures.items c.in_ok-entries.ensures.next
          c.in_ok-entries.ensures.height c.placed-before.result c.if-not-is_op.ensures c.placed-before.ensures.items
          c.placed-before.ensures.height c.placed-before.ensures.next;
      grown = entries_gone apart c.args.at c.more.before c.in_ok-one.one c.in_ok-entries.entries c.more.invariant.grown
          c.in_ok-one.ensures.placed c.in_ok-entries.ensures.items c.in_ok-entries.ensures.next c.placed-before.result
          c.if-not-is_op.ensures c.placed-before.ensures.items c.placed-before.ensures.next;
    }

pub listings::read_entries-returns-in_err-one-clause-answered : goal.listings::read_entries-returns-in_err-one-clause-answered
listings::read_entries-returns-in_err-one-clause-answered g t c =
    let f = entries_error c.args.tokens.now c.args.depth (item_of c.args.item) _ c.more.before c.more.invariant.is c.more-test.ensures.is
    c.in_err-one.field-0.0 c.in_err-one.ensures.answered in
    search (rules, f)

pub listings::read_entries-returns-then-not-is_op-clause-placed : goal.listings::read_entries-returns-then-not-is_op-clause-placed
listings::read_entries-returns-then-not-is_op-clause-placed g t c =
    let apart : Apart g.R.Recorder.after g.R.Recorder.beside = record { is = g.met.R.Recorder.apart } in
    entries_closed apart c.args.at c.more.before c.in_ok-one.one c.in_ok-entries.entries c.more.invariant.grown
    c.in_ok-one.ensures.placed c.in_ok-entries.ensures.items c.in_ok-entries.ensures.next

pub listings::read_entries-returns-clause-placed : goal.listings::read_entries-returns-clause-placed
listings::read_entries-returns-clause-placed g t c = entries_ended c.args.at c.more.before c.more.invariant.grown

pub sequences::elements-with_elements-requires : goal.sequences::elements-with_elements-requires
sequences::elements-with_elements-requires g t c =
    elements_alone c.args.depth _ (map entry_of c.in_ok-entries.entries.items.items) _ c.in_ok-entries.ensures.answered.is

pub sequences::round-returns-then-is_op-2-clause-answered : goal.sequences::round-returns-then-is_op-2-clause-answered
sequences::round-returns-then-is_op-2-clause-answered g t c =
    round_sequence c.args.tokens.now c.args.depth c.args.at c.in_ok-first.first c.if-is_op-2.ensures
    c.in_ok-patterns.patterns c.in_ok-patterns.ensures.answered c.bracketed.result c.if-is_op.ensures
    (same_found c.args.tokens.now _ c.args.depth c.same.result _ _ c.in_ok-first.first c.same.ensures.steps c.same.ensures.room
    c.in_ok-first.ensures.answered) c.bracketed.ensures.answered

pub sequences::square-returns-clause-answered : goal.sequences::square-returns-clause-answered
sequences::square-returns-clause-answered g t c =
    square_sequence c.args.tokens.now c.args.depth c.args.at _ _ c.in_ok-patterns.patterns c.bracketed.result
    c.no_patterns.ensures.items c.no_patterns.ensures.next c.in_ok-patterns.ensures.answered c.bracketed.ensures.answered

-- ---- Places: levels.

pub levels::read_pattern-returns-in-Patterns-clause-placed : goal.levels::read_pattern-returns-in-Patterns-clause-placed
levels::read_pattern-returns-in-Patterns-clause-placed g t c =
    whole_at g.R.Recorder.after _ _ c.args.tokens.now c.args.level level.Patterns (seen c.args.tokens.now c.args.at) c.args.at
    c.read_patterns.result c.in-Patterns.is c.read_patterns.ensures.placed

pub levels::read_pattern-returns-in-StarPattern-clause-placed : goal.levels::read_pattern-returns-in-StarPattern-clause-placed
levels::read_pattern-returns-in-StarPattern-clause-placed g t c =
    whole_at g.R.Recorder.after _ _ c.args.tokens.now c.args.level level.StarPattern (seen c.args.tokens.now c.args.at) c.args.at
    c.read_star.result c.in-StarPattern.is c.read_star.ensures.placed

pub levels::read_pattern-returns-in-AsPattern-clause-placed : goal.levels::read_pattern-returns-in-AsPattern-clause-placed
levels::read_pattern-returns-in-AsPattern-clause-placed g t c =
    whole_at g.R.Recorder.after _ _ c.args.tokens.now c.args.level level.AsPattern (seen c.args.tokens.now c.args.at) c.args.at
    c.read_as.result c.in-AsPattern.is c.read_as.ensures.placed

pub levels::read_pattern-returns-in-OrPattern-clause-placed : goal.levels::read_pattern-returns-in-OrPattern-clause-placed
levels::read_pattern-returns-in-OrPattern-clause-placed g t c =
    whole_at g.R.Recorder.after _ _ c.args.tokens.now c.args.level level.OrPattern (seen c.args.tokens.now c.args.at) c.args.at
    c.read_or.result c.in-OrPattern.is c.read_or.ensures.placed

pub levels::read_pattern-returns-in-ClosedPattern-clause-placed : goal.levels::read_pattern-returns-in-ClosedPattern-clause-placed
levels::read_pattern-returns-in-ClosedPattern-clause-placed g t c =
    whole_at g.R.Recorder.after _ _ c.args.tokens.now c.args.level level.ClosedPattern (seen c.args.tokens.now c.args.at) c.args.at
    c.read_closed.result c.in-ClosedPattern.is c.read_closed.ensures.placed

pub levels::read_patterns-returns-then-is_op-clause-placed : goal.levels::read_patterns-returns-then-is_op-clause-placed
levels::read_patterns-returns-then-is_op-clause-placed g t c =
    open_placed g.R.Recorder.after _ _ c.args.tokens.now c.args.at c.args.depth.room c.in_ok-first.first c.in_ok-patterns.patterns
    c.make_sequence.result c.in_ok-first.ensures.placed c.if-is_op.ensures c.in_ok-patterns.ensures.placed c.in_ok-node.ensures
    c.make_sequence.ensures

pub levels::read_patterns-returns-clause-placed : goal.levels::read_patterns-returns-clause-placed
levels::read_patterns-returns-clause-placed g t c =
    alone_placed g.R.Recorder.after _ _ c.args.tokens.now c.args.at c.in_ok-first.first c.in_ok-first.ensures.placed c.if-is_op-2.ensures

pub levels::read_star-returns-then-is_op-clause-placed : goal.levels::read_star-returns-then-is_op-clause-placed
levels::read_star-returns-then-is_op-clause-placed g t c =
    whole_seen g.R.Recorder.after _ _ c.args.tokens.now level.StarPattern (seen c.args.tokens.now c.args.at) _ c.args.at c.starred.result
    c.if-is_op.ensures.is (c.starred.ensures.placed (omega arith))

pub levels::read_star-returns-else-is_op-clause-placed : goal.levels::read_star-returns-else-is_op-clause-placed
levels::read_star-returns-else-is_op-clause-placed g t c =
    whole_on g.R.Recorder.after _ _ c.args.tokens.now level.AsPattern level.StarPattern (seen c.args.tokens.now c.args.at) c.args.at
    c.read_as.result c.read_as.ensures.placed (λ _ _ _ _ p. placed_pattern_next p)

pub levels::read_as-returns-then-is_word-clause-placed : goal.levels::read_as-returns-then-is_word-clause-placed
levels::read_as-returns-then-is_word-clause-placed g t c =
    let h = c.in_ok-inner.ensures.placed in
    whole_joined g.R.Recorder.after _ _ c.args.tokens.now level.AsPattern (seen c.args.tokens.now c.args.at) c.args.at c.named.result h.2
    (c.named.ensures.placed h.0 h.1)

pub levels::read_as-returns-else-is_word-clause-placed : goal.levels::read_as-returns-else-is_word-clause-placed
levels::read_as-returns-else-is_word-clause-placed g t c =
    let h = c.in_ok-inner.ensures.placed in
    (h.0, placed_pattern_next h.1, h.2)

pub levels::read_or-returns-in_ok-node-clause-placed : goal.levels::read_or-returns-in_ok-node-clause-placed
levels::read_or-returns-in_ok-node-clause-placed g t c =
    or_placed g.R.Recorder.after _ _ c.args.tokens.now c.args.at c.args.depth.room c.in_ok-first.first c.in_ok-patterns.patterns
    c.make_or.result c.in_ok-first.ensures.placed c.if-is_op.ensures c.in_ok-patterns.ensures.placed c.in_ok-node.ensures
    c.make_or.ensures

pub levels::read_or-returns-else-is_op-clause-placed : goal.levels::read_or-returns-else-is_op-clause-placed
levels::read_or-returns-else-is_op-clause-placed g t c =
    let h = c.in_ok-first.ensures.placed in
    (h.0, placed_pattern_next h.1, h.2)

-- ---- Places: by the first terminal.

pub closed::read_closed-returns-in-Some-Ident-clause-placed : goal.closed::read_closed-returns-in-Some-Ident-clause-placed
closed::read_closed-returns-in-Some-Ident-clause-placed g t c =
    whole_seen g.R.Recorder.after _ _ c.args.tokens.now level.ClosedPattern (seen c.args.tokens.now c.args.at) _ c.args.at
    c.name_pattern.result (front c.args.tokens.now c.args.at _
    (c.in-Some-Ident.ensures.is ∙ ap (λ u. Some (terminal u)) c.in-Some-Ident.field-0-is))
    (c.name_pattern.ensures.placed (omega arith) _ refl)

pub closed::read_closed-returns-in_ok-node-in-Some-Word-clause-placed
    : goal.closed::read_closed-returns-in_ok-node-in-Some-Word-clause-placed
closed::read_closed-returns-in_ok-node-in-Some-Word-clause-placed g t c =
    singleton_placed g.R.Recorder.after _ _ c.args.tokens.now c.args.at c.in-Some-Word.word _ c.make_singleton.result
    c.in_ok-value-in-Some-Word.ensures (front c.args.tokens.now c.args.at _
    (c.in-Some-Word.ensures.is ∙ ap (λ u. Some (terminal u)) c.in-Some-Word.field-0-is)) c.in_ok-node-in-Some-Word.ensures
    c.make_singleton.ensures

pub closed::read_closed-returns-in-Some-Op-LPar-clause-placed : goal.closed::read_closed-returns-in-Some-Op-LPar-clause-placed
closed::read_closed-returns-in-Some-Op-LPar-clause-placed g t c =
    whole_seen g.R.Recorder.after _ _ c.args.tokens.now level.ClosedPattern (seen c.args.tokens.now c.args.at) _ c.args.at c.round.result
    (front c.args.tokens.now c.args.at (Op LPar) (c.in-Some-Op-LPar.ensures.is ∙ ap (λ u. Some (terminal u)) c.in-Some-Op-LPar.field-0-is
    ∙ ap (λ u. Some (Op u)) c.in-Some-Op-LPar.field-0-0-is)) (c.round.ensures.placed (omega arith))

pub closed::read_closed-returns-in-Some-Op-LSqb-clause-placed : goal.closed::read_closed-returns-in-Some-Op-LSqb-clause-placed
closed::read_closed-returns-in-Some-Op-LSqb-clause-placed g t c =
    whole_seen g.R.Recorder.after _ _ c.args.tokens.now level.ClosedPattern (seen c.args.tokens.now c.args.at) _ c.args.at c.square.result
    (front c.args.tokens.now c.args.at (Op LSqb) (c.in-Some-Op-LSqb.ensures.is ∙ ap (λ u. Some (terminal u)) c.in-Some-Op-LSqb.field-0-is
    ∙ ap (λ u. Some (Op u)) c.in-Some-Op-LSqb.field-0-0-is)) (c.square.ensures.placed (omega arith))

pub closed::read_closed-returns-in-Some-Op-LBrace-clause-placed : goal.closed::read_closed-returns-in-Some-Op-LBrace-clause-placed
closed::read_closed-returns-in-Some-Op-LBrace-clause-placed g t c =
    whole_seen g.R.Recorder.after _ _ c.args.tokens.now level.ClosedPattern (seen c.args.tokens.now c.args.at) _ c.args.at c.mapping.result
    (front c.args.tokens.now c.args.at (Op LBrace) (c.in-Some-Op-LBrace.ensures.is
    ∙ ap (λ u. Some (terminal u)) c.in-Some-Op-LBrace.field-0-is
    ∙ ap (λ u. Some (Op u)) c.in-Some-Op-LBrace.field-0-0-is)) (c.mapping.ensures.placed (omega arith))

pub closed::read_closed-returns-in_default-clause-placed : goal.closed::read_closed-returns-in_default-clause-placed
closed::read_closed-returns-in_default-clause-placed g t c = c.literal_pattern.ensures.placed

pub closed::name_pattern-returns-then-is_op-clause-placed : goal.closed::name_pattern-returns-then-is_op-clause-placed
closed::name_pattern-returns-then-is_op-clause-placed g t c = λ q x e.
    let w = ap is_wildcard (e ∙ sym c.in_ok-name.ensures) ∙ sym c.if-is_wildcard.ensures in
    class_joined g.R.Recorder.after _ _ c.args.tokens.now x (Ident x ∷ seen c.args.tokens.now c.args.at) c.args.from c.in_ok-e.e
    c.class_pattern.result w
    (c.in_ok-e.ensures.placed q x e) (c.class_pattern.ensures.placed c.if-is_op.ensures)

pub closed::name_pattern-returns-in_ok-node-2-clause-placed : goal.closed::name_pattern-returns-in_ok-node-2-clause-placed
closed::name_pattern-returns-in_ok-node-2-clause-placed g t c = λ q x e.
    let w = ap is_wildcard (sym c.in_ok-name.ensures) ∙ sym c.if-is_wildcard.ensures in
    value_placed g.R.Recorder.after _ _ c.args.tokens.now c.args.depth x c.args.from c.args.at _ c.in_ok-e.e c.make_value.result e w
    c.if-is_unqualified.ensures
    (inner_dotted c.args.tokens.now c.args.depth c.args.at _ _ c.in_ok-e.e c.inner.ensures.room c.in_ok-e.ensures.answered)
    c.if-is_op.ensures (c.in_ok-e.ensures.placed q x e) c.in_ok-node-2.ensures c.make_value.ensures

pub closed::class_pattern-returns-clause-placed : goal.closed::class_pattern-returns-clause-placed
closed::class_pattern-returns-clause-placed g t c = λ s i ps p.
    let d = c.in_ok-entries.ensures.placed in
    c.finish_class.ensures.placed s i ps _ d.places p d.listing (class_records d)

pub closed::mapping-returns-clause-placed : goal.closed::mapping-returns-clause-placed
closed::mapping-returns-clause-placed g t c = λ q.
    let d = c.in_ok-entries.ensures.placed in
    c.finish_mapping.ensures.placed (seen c.args.tokens.now c.args.at) _ d.places (placed_at q d.listing) c.aside-kept.ensures d.kept

-- ---- Places: sequences.

pub sequences::elements-returns-clause-placed : goal.sequences::elements-returns-clause-placed
sequences::elements-returns-clause-placed g t c =
    elements_placed (map pattern_of c.args.patterns.items.items) c.with_elements.result c.in_ok-entries.ensures.placed
    c.with_elements.ensures.items c.with_elements.ensures.next

pub sequences::others-returns-clause-placed : goal.sequences::others-returns-clause-placed
sequences::others-returns-clause-placed g t c =
    elements_as g.R.Recorder.after c.args.recorder.now c.elements.new.recorder c.args.tokens.now (c.args.first.next + 1) _
    (pattern_of c.args.first.pattern.value ∷ []) _ c.elements.result
    (sym c.in_ok-patterns.ensures.next) (sym c.in_ok-patterns.ensures.items) c.elements.ensures.placed

pub sequences::round-returns-then-is_op-clause-placed : goal.sequences::round-returns-then-is_op-clause-placed
sequences::round-returns-then-is_op-clause-placed g t c = λ q.
    empty_placed g.R.Recorder.after _ _ c.args.tokens.now c.args.from c.args.at c.args.depth.room _ c.make_sequence.result q
    c.if-is_op.ensures c.no_patterns.ensures.items c.in_ok-node.ensures c.make_sequence.ensures

pub sequences::round-returns-then-is_op-2-clause-placed : goal.sequences::round-returns-then-is_op-2-clause-placed
sequences::round-returns-then-is_op-2-clause-placed g t c = λ q.
    round_placed g.R.Recorder.after _ _ c.args.tokens.now c.args.from c.args.at c.in_ok-first.first c.in_ok-patterns.patterns
    c.bracketed.result q c.in_ok-first.ensures.placed c.if-is_op-2.ensures c.in_ok-patterns.ensures.placed c.bracketed.ensures.placed

pub sequences::round-returns-clause-placed : goal.sequences::round-returns-clause-placed
sequences::round-returns-clause-placed g t c = λ q.
    group_placed g.R.Recorder.after _ _ c.args.tokens.now c.args.from c.args.at c.in_ok-first.first c.grouped.result q
    c.in_ok-first.ensures.placed c.if-is_op-3.ensures c.grouped.ensures.placed

pub sequences::square-returns-clause-placed : goal.sequences::square-returns-clause-placed
sequences::square-returns-clause-placed g t c = λ q.
    square_placed g.R.Recorder.after _ _ c.args.tokens.now c.args.from c.args.at c.in_ok-patterns.patterns c.bracketed.result q
    (elements_as g.R.Recorder.after c.args.recorder.now c.elements.new.recorder c.args.tokens.now c.args.at _ [] _
    (Ok c.in_ok-patterns.patterns) (sym c.no_patterns.ensures.next)
    (sym c.no_patterns.ensures.items) c.in_ok-patterns.ensures.placed) c.bracketed.ensures.placed

-- ---- Places: entries.

pub listings::read_entry-returns-in_ok-read-in-Element-clause-placed : goal.listings::read_entry-returns-in_ok-read-in-Element-clause-placed
listings::read_entry-returns-in_ok-read-in-Element-clause-placed g t c =
    element_placed g.R.Recorder.after g.R.Recorder.beside c.args.tokens.now (item_of c.args.item) c.args.at
    c.in_ok-read-in-Element.read c.alone.result
    (ap item_of c.in-Element.is) c.in_ok-read-in-Element.ensures.placed c.alone.ensures.entry c.alone.ensures.next

pub listings::read_entry-returns-in-KeyPattern-clause-placed : goal.listings::read_entry-returns-in-KeyPattern-clause-placed
listings::read_entry-returns-in-KeyPattern-clause-placed g t c =
    entry_as g.R.Recorder.after g.R.Recorder.beside c.args.tokens.now c.args.recorder.now c.key_entry.new.recorder (item_of c.args.item) _
    c.args.at c.key_entry.result
    (ap item_of c.in-KeyPattern.is) c.key_entry.ensures.placed

pub listings::read_entry-returns-in-ClassArgument-clause-placed : goal.listings::read_entry-returns-in-ClassArgument-clause-placed
listings::read_entry-returns-in-ClassArgument-clause-placed g t c =
    entry_as g.R.Recorder.after g.R.Recorder.beside c.args.tokens.now c.args.recorder.now c.argument_entry.new.recorder
    (item_of c.args.item) _ c.args.at c.argument_entry.result
    (ap item_of c.in-ClassArgument.is) c.argument_entry.ensures.placed

pub listings::key_entry-returns-then-is_op-clause-placed : goal.listings::key_entry-returns-then-is_op-clause-placed
listings::key_entry-returns-then-is_op-clause-placed g t c =
    rest_placed g.R.Recorder.after g.R.Recorder.beside c.args.tokens.now c.args.recorder.now c.args.at
    c.rest_entry.result c.if-is_op.ensures
    (c.rest_entry.ensures.placed c.args.at (omega arith))

pub listings::key_entry-returns-clause-placed : goal.listings::key_entry-returns-clause-placed
listings::key_entry-returns-clause-placed g t c =
    keyed_placed g.R.Recorder.after g.R.Recorder.beside c.args.tokens.now g.R.Recorder.recorded_count c.args.at c.in_ok-key.key
    c.in_ok-read.read _ c.in_ok-key.ensures.placed c.if-not-is_op.ensures c.in_ok-read.ensures.placed c.recorded-before.ensures
    (record { is = c.in_ok-set_aside.ensures }) refl refl

pub listings::argument_entry-returns-in_ok-name-in-Some-clause-placed
    : goal.listings::argument_entry-returns-in_ok-name-in-Some-clause-placed
listings::argument_entry-returns-in_ok-name-in-Some-clause-placed g t c =
    named_placed g.R.Recorder.after g.R.Recorder.beside c.args.tokens.now c.args.at _ c.in_ok-name-in-Some.name c.in_ok-read-in-Some.read _
    c.in-Some.ensures c.in_ok-name-in-Some.ensures c.in_ok-read-in-Some.ensures.placed refl refl

pub listings::argument_entry-returns-in_ok-read-in-None-clause-placed
    : goal.listings::argument_entry-returns-in_ok-read-in-None-clause-placed
listings::argument_entry-returns-in_ok-read-in-None-clause-placed g t c =
    argument_placed g.R.Recorder.after g.R.Recorder.beside c.args.tokens.now c.args.at c.in_ok-read-in-None.read c.alone.result
    c.in_ok-read-in-None.ensures.placed c.alone.ensures.entry c.alone.ensures.next

pub closed::name_pattern-returns-then-is_wildcard-clause-placed : goal.closed::name_pattern-returns-then-is_wildcard-clause-placed
closed::name_pattern-returns-then-is_wildcard-clause-placed g t c = λ q x e.
    capture_placed g.R.Recorder.after _ _ c.args.tokens.now x c.args.from c.args.at c.captured.result c.make_capture.result q
    (c.captured.ensures ∙ ap captured (c.in_ok-name.ensures ∙ sym e)) c.in_ok-node.ensures c.make_capture.ensures
