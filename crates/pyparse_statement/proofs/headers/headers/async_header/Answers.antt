use Rattle.std.proofs.Common.{arith, ◌+◌}
use Rattle.pyparse_statement.proofs.Recorders.Headers.{async_front}
use Rattle.pyparse_statement.proofs.Recorders.Words.{word_at}
use Rattle.pyparse_statement.proofs.headers.headers.async_header.Goals as goal

pub returns-in-For-clause-placed : goal.returns-in-For-clause-placed
returns-in-For-clause-placed g c = c.for_rest.ensures.placed c.args.profile c.args.at (c.args.at + 1)
    (async_front c.requires.word) (omega arith)
    (word_at c.in-Some.ensures c.in-For.is)

pub returns-in-With-clause-placed : goal.returns-in-With-clause-placed
returns-in-With-clause-placed g c = c.with_rest.ensures.placed c.args.profile c.args.at (c.args.at + 1)
    (async_front c.requires.word) (omega arith)
    (word_at c.in-Some.ensures c.in-With.is)

pub returns-in-Def-clause-placed : goal.returns-in-Def-clause-placed
returns-in-Def-clause-placed g c = c.def_rest.ensures.placed c.args.at (c.args.at + 1) (async_front c.requires.word) (omega arith)
    (word_at c.in-Some.ensures c.in-Def.is)
