use Rattle.std.proofs.Common.{◌+◌, ◌∙◌, Some, ap, arith}
use Rattle.pytree_node.specs.TreeOf.{stmt_of}
use Rattle.pytoken.specs.TerminalOf.{terminal}
use Rattle.pyparse_reads.specs.Readings.{reads}
use Rattle.pyparse_statement.proofs.Callers.Parts.{answered_as}
use Rattle.pyparse_statement.proofs.statements.StatementSteps.{by_value, first_stands, no_word}
use Rattle.pyparse_statement.proofs.statements.statements.read_statement.Goals as goal

pub word_statement-requires : goal.word_statement-requires
word_statement-requires g c = first_stands c.args.tokens.now c.args.at _ c.in-Some.ensures.within (c.in-Some.ensures.is
    ∙ ap (λ t. Some (terminal t)) c.in-Word.is)

pub returns-in_default-clause-answered : goal.returns-in_default-clause-answered
returns-in_default-clause-answered g c = answered_as c.args.tokens.now (c.args.at + 1) (c.args.at + 1) _ _ (λ r. stmt_of r.statement)
    (λ r. r.next) c.plain_statement.result
    (by_value c.args.tokens.now c.args.profile (reads c.args.depth) c.args.at _ c.in-Some.ensures.is
    (no_word c.in-Some.t c.in_default.not-Word))
    (omega arith) c.plain_statement.ensures.answered

pub returns-in-Word-clause-placed : goal.returns-in-Word-clause-placed
returns-in-Word-clause-placed g c = c.word_statement.ensures.placed

pub returns-in_default-clause-placed : goal.returns-in_default-clause-placed
returns-in_default-clause-placed g c = c.plain_statement.ensures.placed
