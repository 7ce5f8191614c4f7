use Rattle.std.proofs.Common.{sym, ◌∙◌, ap, subst, ℕ, List}
use Rattle.pylex_lexeme.specs.Strings.{quote_char}
use Rattle.pylex_lexeme.specs.Lexemes.{is_open_string}
use Rattle.pylex_lexeme.specs.OpenLiterals.{IsOpenBy}
use Rattle.pylex_lexeme.proofs.Strings.StringBest.{which_mark}
use Rattle.pylex_lexeme.proofs.Strings.OpenStrings.{open_none}
use Rattle.pylex_lexeme.proofs.WholeLines.OpenLiterals.{opened, unopened}
use Rattle.pylex_lexeme.proofs.string.open_literal.Goals as goal

pub returns-in_default-clause-none : goal.returns-in_default-clause-none
returns-in_default-clause-none c = ap is_open_string (sym c.new-left.ensures) ∙ open_none c.new-left.result c.in_default.ensures.none

pub returns-then-is_open-clause-some : goal.returns-then-is_open-clause-some
returns-then-is_open-clause-some c =
    subst (λ (cs : List ℕ). IsOpenBy (record { quote = c.quote_here-quote.result; triple = c.has_three-triple.result }) cs)
    c.new-left.ensures
    (opened _ c.in-Some.prefix_len c.new-left.result c.bump_count.new.self (which_mark c.quote_here-quote.result) c.in-Some.ensures.some
    c.bump_count.ensures c.quote_here-quote.ensures c.has_three-triple.ensures c.if-is_open.ensures)

pub returns-clause-none : goal.returns-clause-none
returns-clause-none c =
    ap is_open_string (sym c.new-left.ensures)
    ∙ unopened (quote_char c.quote_here-quote.result) c.in-Some.prefix_len c.new-left.result c.bump_count.new.self
    (which_mark c.quote_here-quote.result) c.in-Some.ensures.some c.bump_count.ensures c.quote_here-quote.ensures c.if-is_open.ensures
