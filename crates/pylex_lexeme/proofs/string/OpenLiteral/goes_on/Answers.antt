use Rattle.std.proofs.Common.{sym, ◌∙◌, ap, ℕ, List}
use Rattle.std.specs.Str.{chars}
use Rattle.pylex_lexeme.specs.Strings.{units, quote_char}
use Rattle.pylex_lexeme.specs.Lexemes.{ends_by_join}
use Rattle.pylex_lexeme.specs.Lengths.{triple_len}
use Rattle.pylex_lexeme.proofs.WholeLines.OpenLiterals.{unclosed, closed, triple_on, single_on, triple_still, single_still}
use Rattle.pylex_lexeme.proofs.string.OpenLiteral.goes_on.Goals as goal

pub returns-then-self : goal.returns-then-self
returns-then-self c = record {
  longer = λ u. triple_on c.args.self (chars c.args.line.now) c.if-self.true
      (ap (triple_len (quote_char c.args.self.quote)) (sym c.new-left.ensures)
      ∙ unclosed c.close_triple.result (triple_len (quote_char c.args.self.quote) c.new-left.result) c.close_triple.ensures.found u);
  still = λ cs l i n e u. closed c.close_triple.result (triple_len (quote_char c.args.self.quote) c.new-left.result)
      c.close_triple.ensures.found
      (ap (triple_len (quote_char c.args.self.quote)) c.new-left.ensures ∙ triple_still c.args.self (chars c.args.line.now)
      c.if-self.true cs l i e);
}

pub returns : goal.returns
returns c = record {
  longer = λ u. single_on c.args.self (chars c.args.line.now) c.if-self.false
      (ap (λ (cs : List ℕ). ends_by_join (quote_char c.args.self.quote) (units cs)) (sym c.new-left.ensures)
      ∙ sym c.ends_by_join.ensures ∙ u);
  still = λ cs l i n e u. c.ends_by_join.ensures
      ∙ ap (λ (cs : List ℕ). ends_by_join (quote_char c.args.self.quote) (units cs)) c.new-left.ensures
      ∙ single_still c.args.self (chars c.args.line.now) c.if-self.false cs l i n u;
}
