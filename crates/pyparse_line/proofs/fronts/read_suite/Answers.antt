use Rattle.std.proofs.Common.{arith, map, rules, refl}
use Rattle.pytree_node.specs.TreeOf.{stmt_of}
use Rattle.pyparse_reads.specs.Readings.{reads}
use Rattle.pyparse_line.proofs.FrontSteps.{suite_failed, suite_found}
use Rattle.pyparse_line.proofs.Recorders.Fronts.{no_suite_placed, some_suite_placed}
use Rattle.pyparse_line.proofs.fronts.read_suite.Goals as goal

pub returns-in_err-read-clause-answered : goal.returns-in_err-read-clause-answered
returns-in_err-read-clause-answered g c = let f = suite_failed c.args.profile (reads c.args.depth) c.args.tokens.now c.args.at
    (omega arith) c.in_err-read.field-0.0
    c.in_err-read.ensures.answered in
    search (rules, f)

pub returns-clause-answered : goal.returns-clause-answered
returns-clause-answered g c = suite_found c.args.profile (reads c.args.depth) c.args.tokens.now c.args.at (omega arith)
    (map stmt_of c.in_ok-read.read.statements.items) c.in_ok-read.read.next c.in_ok-read.ensures.answered

pub returns-then-at-tokens-clause-placed : goal.returns-then-at-tokens-clause-placed
returns-then-at-tokens-clause-placed g c = no_suite_placed (omega arith) refl refl

pub returns-clause-placed : goal.returns-clause-placed
returns-clause-placed g c = some_suite_placed c.in_ok-read.ensures.placed refl refl
