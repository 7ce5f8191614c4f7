use Rattle.std.proofs.Common.{◌<◌, sym, ◌∙◌, ap, subst, length, ℕ, List, true}
use Rattle.pylex_lexeme.specs.Chars.{begins, is_comment_part}
use Rattle.pylex_lexeme.specs.Strings.{units, quote_char}
use Rattle.pylex_lexeme.specs.Lexemes.{ends_by_join}
use Rattle.pylex_lexeme.proofs.Strings.Units.{mark_is}
use Rattle.pylex_lexeme.proofs.Strings.Triples.{unit_shorter}
use Rattle.pylex_lexeme.proofs.Strings.OpenStrings.{join_last, join_step}
use Rattle.pylex_lexeme.proofs.string.ends_by_join.Goals as goal

pub returns-then-not-has_next-2 : goal.returns-then-not-has_next-2
returns-then-not-has_next-2 c =
    c.has_join-joins.ensures
    ∙ join_last (quote_char c.args.quote) c.loop-quote.text (mark_is c.args.quote) (sym c.if-has_quote.ensures)
    (sym c.if-not-has_next.ensures) (ap (begins (λ d. true)) (sym c.unit.ensures) ∙ sym c.if-not-has_next-2.ensures)
    ∙ c.loop-quote.invariant

pub loop-quote-smaller : goal.loop-quote-smaller
loop-quote-smaller c = subst (λ (u : List ℕ). length u < length c.loop-quote.text) (sym c.unit.ensures)
    (unit_shorter is_comment_part c.loop-quote.text (sym c.if-not-has_next.ensures))

pub loop-quote-preserved : goal.loop-quote-preserved
loop-quote-preserved c =
    ap (λ (u : List ℕ). ends_by_join (quote_char c.args.quote) (units u)) c.unit.ensures
    ∙ join_step (quote_char c.args.quote) c.loop-quote.text (mark_is c.args.quote) (sym c.if-has_quote.ensures)
    (sym c.if-not-has_next.ensures) (ap (begins (λ d. true)) (sym c.unit.ensures) ∙ sym c.if-not-has_next-2.ensures)
    ∙ c.loop-quote.invariant
