use Rattle.std.proofs.Common.{sym, ◌∙◌, eq-eqb}
use Rattle.pyfstring.specs.Expressions.{longstring}
use Rattle.pyfstring.proofs.Stepping.{stops_from, in_literal_ends, long_fails}
use Rattle.pyfstring.proofs.scanner.Scanner.pass_long.Goals as goal

pub returns-in_default-clause-malformed : goal.returns-in_default-clause-malformed
returns-in_default-clause-malformed c = stops_from (longstring c.args.quote) c.args.self.now c.loop-c.self c.loop-c.invariant.same
    (in_literal_ends (longstring c.args.quote) c.loop-c.self (sym c.peek.ensures ∙ c.in_default.is))

pub returns-then-c-eq92-clause-malformed : goal.returns-then-c-eq92-clause-malformed
returns-then-c-eq92-clause-malformed c = stops_from (longstring c.args.quote) c.args.self.now c.loop-c.self c.loop-c.invariant.same
    (long_fails c.args.quote c.loop-c.self c.in-Some.c (sym c.peek.ensures ∙ c.in-Some.is) (eq-eqb c.in-Some.c 92 c.if-c-eq92.true))
