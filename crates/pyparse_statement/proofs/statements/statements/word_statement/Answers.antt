use Rattle.std.proofs.Common.{◌+◌, arith, refl}
use Rattle.pytree_node.specs.TreeOf.{stmt_of}
use Rattle.pyparse_reads.specs.Readings.{reads}
use Rattle.pyparse_statement.proofs.Callers.Parts.{answered_as}
use Rattle.pyparse_statement.proofs.statements.StatementSteps.{by_other_word, other_word}
use Rattle.pyparse_statement.proofs.Recorders.Words.{break_placed, continue_placed, global_placed, nonlocal_placed, pass_placed, word_at}
use Rattle.pyparse_statement.proofs.statements.statements.word_statement.Goals as goal

pub returns-in_default-clause-answered : goal.returns-in_default-clause-answered
returns-in_default-clause-answered g c = let d = c.in_default in
    answered_as c.args.tokens.now (c.args.at + 1) (c.args.at + 1) _ _ (λ r. stmt_of r.statement) (λ r. r.next) c.plain_statement.result
    (by_other_word c.args.tokens.now c.args.profile (reads c.args.depth) c.args.at c.args.word c.requires
    (other_word c.args.word d.not-Return d.not-Raise d.not-Assert d.not-Del d.not-Global d.not-Nonlocal d.not-Pass d.not-Break
    d.not-Continue d.not-Import d.not-From))
    (omega arith) c.plain_statement.ensures.answered

pub returns-in-Return-clause-placed : goal.returns-in-Return-clause-placed
returns-in-Return-clause-placed g c = c.return_value.ensures.placed c.args.profile c.args.at refl (word_at c.requires c.in-Return.is)

pub returns-in-Raise-clause-placed : goal.returns-in-Raise-clause-placed
returns-in-Raise-clause-placed g c = c.raise.ensures.placed c.args.profile c.args.at refl (word_at c.requires c.in-Raise.is)

pub returns-in-Assert-clause-placed : goal.returns-in-Assert-clause-placed
returns-in-Assert-clause-placed g c = c.assert.ensures.placed c.args.profile c.args.at refl (word_at c.requires c.in-Assert.is)

pub returns-in-Del-clause-placed : goal.returns-in-Del-clause-placed
returns-in-Del-clause-placed g c = c.delete.ensures.placed c.args.profile c.args.at refl (word_at c.requires c.in-Del.is)

pub returns-in-Import-clause-placed : goal.returns-in-Import-clause-placed
returns-in-Import-clause-placed g c = c.import.ensures.placed c.args.profile c.args.at refl (word_at c.requires c.in-Import.is)

pub returns-in-From-clause-placed : goal.returns-in-From-clause-placed
returns-in-From-clause-placed g c = c.import_from.ensures.placed c.args.profile c.args.at refl (word_at c.requires c.in-From.is)

pub returns-in-Global-clause-placed : goal.returns-in-Global-clause-placed
returns-in-Global-clause-placed g c = global_placed g.R.Recorder.after c.args.profile _ c.global.result
    (word_at c.requires c.in-Global.is) c.global.ensures

pub returns-in-Nonlocal-clause-placed : goal.returns-in-Nonlocal-clause-placed
returns-in-Nonlocal-clause-placed g c = nonlocal_placed g.R.Recorder.after c.args.profile _ c.nonlocal.result
    (word_at c.requires c.in-Nonlocal.is) c.nonlocal.ensures

pub returns-in-Pass-clause-placed : goal.returns-in-Pass-clause-placed
returns-in-Pass-clause-placed g c = pass_placed (word_at c.requires c.in-Pass.is) c.pass_at.ensures.statement c.pass_at.ensures.next

pub returns-in-Break-clause-placed : goal.returns-in-Break-clause-placed
returns-in-Break-clause-placed g c = break_placed (word_at c.requires c.in-Break.is) c.break_at.ensures.statement c.break_at.ensures.next

pub returns-in-Continue-clause-placed : goal.returns-in-Continue-clause-placed
returns-in-Continue-clause-placed g c = continue_placed (word_at c.requires c.in-Continue.is) c.continue_at.ensures.statement
    c.continue_at.ensures.next

pub returns-in_default-clause-placed : goal.returns-in_default-clause-placed
returns-in_default-clause-placed g c = c.plain_statement.ensures.placed
