use Rattle.std.proofs.Common.{refl, ◌∙◌}
use Rattle.pyparse_statement.proofs.Recorders.Headers.{else_placed, finally_placed, no_async_front, try_placed}
use Rattle.pyparse_statement.proofs.Recorders.Words.{word_at}
use Rattle.pyparse_statement.proofs.headers.headers.read_header.Goals as goal

pub returns-in-If-clause-placed : goal.returns-in-If-clause-placed
returns-in-If-clause-placed g c = c.if_rest.ensures.placed c.args.profile c.args.at refl (word_at c.in-Some.ensures c.in-If.is)

pub returns-in-Elif-clause-placed : goal.returns-in-Elif-clause-placed
returns-in-Elif-clause-placed g c = c.elif_rest.ensures.placed c.args.profile c.args.at refl (word_at c.in-Some.ensures c.in-Elif.is)

pub returns-in-While-clause-placed : goal.returns-in-While-clause-placed
returns-in-While-clause-placed g c = c.while_rest.ensures.placed c.args.profile c.args.at refl
    (word_at c.in-Some.ensures c.in-While.is)

pub returns-in-Except-clause-placed : goal.returns-in-Except-clause-placed
returns-in-Except-clause-placed g c = c.except_rest.ensures.placed c.args.profile c.args.at refl
    (word_at c.in-Some.ensures c.in-Except.is)

pub returns-in-For-clause-placed : goal.returns-in-For-clause-placed
returns-in-For-clause-placed g c = c.for_rest.ensures.placed c.args.profile c.args.at c.args.at
    (no_async_front c.args.tokens.now) refl
    (word_at c.in-Some.ensures c.in-For.is)

pub returns-in-With-clause-placed : goal.returns-in-With-clause-placed
returns-in-With-clause-placed g c = c.with_rest.ensures.placed c.args.profile c.args.at c.args.at
    (no_async_front c.args.tokens.now) refl
    (word_at c.in-Some.ensures c.in-With.is)

pub returns-in-Def-clause-placed : goal.returns-in-Def-clause-placed
returns-in-Def-clause-placed g c = c.def_rest.ensures.placed c.args.at c.args.at (no_async_front c.args.tokens.now) refl
    (word_at c.in-Some.ensures c.in-Def.is)

pub returns-in-Class-clause-placed : goal.returns-in-Class-clause-placed
returns-in-Class-clause-placed g c = c.class_rest.ensures.placed c.args.at refl (word_at c.in-Some.ensures c.in-Class.is)

pub returns-in-Async-clause-placed : goal.returns-in-Async-clause-placed
returns-in-Async-clause-placed g c = c.async_header.ensures.placed

pub returns-in-Else-clause-placed : goal.returns-in-Else-clause-placed
returns-in-Else-clause-placed g c = else_placed c.else_at.ensures.next (c.else_at.ensures.before ∙ c.recorded-recorded.ensures)
    (word_at c.in-Some.ensures c.in-Else.is) c.else_at.ensures.header

pub returns-in-Try-clause-placed : goal.returns-in-Try-clause-placed
returns-in-Try-clause-placed g c = try_placed c.try_at.ensures.next (c.try_at.ensures.before ∙ c.recorded-recorded.ensures)
    (word_at c.in-Some.ensures c.in-Try.is) c.try_at.ensures.header

pub returns-in-Finally-clause-placed : goal.returns-in-Finally-clause-placed
returns-in-Finally-clause-placed g c = finally_placed c.finally_at.ensures.next (c.finally_at.ensures.before
    ∙ c.recorded-recorded.ensures) (word_at c.in-Some.ensures c.in-Finally.is) c.finally_at.ensures.header
