use Rattle.std.proofs.Common.{refl, ap}
use Rattle.std.specs.Str.{chars}
use Rattle.pyparse_tokens.specs.declared.line_gather.LineGather.{LineGather}
use Rattle.pyparse_tokens.specs.declared.pass.Pass.{Pass}
use Rattle.pyparse_tokens.proofs.TakingLemmas.{operator_begins}
use Rattle.pyparse_tokens.proofs.line_gather.LineGather.begin_operator.Goals as goal

pub returns-clause-taken : goal.returns-clause-taken
returns-clause-taken c =
    let old = c.args.self.now in
    let new : LineGather = record old { pass = c.begin.new.self; line = c.push.new.self } in
    λ _. operator_begins c.args.exact (chars c.args.text.now) c.args.start old new c.take_operator.new.self
    (c.if-not-take_operator.ensures.taken refl) c.in_ok-push.ensures
    (ap (λ (q : Pass). let g : LineGather = record old { pass = q; line = c.push.new.self } in g) c.begin.ensures)
