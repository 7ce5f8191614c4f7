use Rattle.std.proofs.Common.{◌<◌, sym, ◌∙◌, ap, subst, length, ℕ, List, Some, true, arith}
use Rattle.pylex_lexeme.specs.Strings.{quote_char}
use Rattle.pylex_lexeme.specs.Lengths.{triple_len}
use Rattle.pylex_lexeme.proofs.Strings.Units.{left_of, closed_found, closed_none, mark_is}
use Rattle.pylex_lexeme.proofs.Strings.Triples.{triple_here, triple_stop, triple_step, unit_shorter}
use Rattle.pylex_lexeme.proofs.Strings.PlainRuns.{run_shorter, triple_past}
use Rattle.pylex_lexeme.proofs.string.close_triple.Goals as goal

pub returns-then-has_three : goal.returns-then-has_three
returns-then-has_three c =
    closed_found (triple_len (quote_char c.args.quote) c.args.text.now) c.args.text.now c.bump_count.new.self
    (ap Some c.bump_count.ensures
    ∙ ap (λ (n : ℕ). left_of n c.bump_plain.new.self)
    (sym (triple_here (quote_char c.args.quote) c.bump_plain.new.self (mark_is c.args.quote) (sym c.if-has_three.ensures)))
    ∙ triple_past c.args.quote c.loop-quote.text c.bump_plain.new.self c.bump_plain.ensures
    ∙ c.loop-quote.invariant)

pub returns-then-not-has_next : goal.returns-then-not-has_next
returns-then-not-has_next c =
    closed_none (triple_len (quote_char c.args.quote) c.args.text.now) c.args.text.now c.bump_plain.new.self
    (ap (λ (n : ℕ). left_of n c.bump_plain.new.self)
    (sym (triple_stop (quote_char c.args.quote) c.bump_plain.new.self (sym c.if-not-has_next.ensures)))
    ∙ triple_past c.args.quote c.loop-quote.text c.bump_plain.new.self c.bump_plain.ensures
    ∙ c.loop-quote.invariant)

pub loop-quote-smaller : goal.loop-quote-smaller
loop-quote-smaller c =
    let less : length c.unit.new.text < length c.bump_plain.new.self = subst (λ (u : List ℕ). length u < length c.bump_plain.new.self)
    (sym c.unit.ensures) (unit_shorter (λ d. true) c.bump_plain.new.self (sym c.if-not-has_next.ensures)) in
    let run = run_shorter c.loop-quote.text c.bump_plain.new.self c.bump_plain.ensures in
    omega (arith, less, run)

pub loop-quote-preserved : goal.loop-quote-preserved
loop-quote-preserved c =
    ap (λ (u : List ℕ). left_of (triple_len (quote_char c.args.quote) u) u) c.unit.ensures
    ∙ triple_step (quote_char c.args.quote) c.bump_plain.new.self (mark_is c.args.quote) (sym c.if-has_three.ensures)
    (sym c.if-not-has_next.ensures)
    ∙ triple_past c.args.quote c.loop-quote.text c.bump_plain.new.self c.bump_plain.ensures
    ∙ c.loop-quote.invariant
