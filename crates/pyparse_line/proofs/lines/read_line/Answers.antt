use Rattle.std.proofs.Common.{arith}
use Rattle.pygrammar.specs.FormOf.{form_of}
use Rattle.pyparse_line.proofs.Wholes.{line_high, line_more}
use Rattle.pyparse_line.proofs.Recorders.Fronts.{whole_placed}
use Rattle.pyparse_line.proofs.lines.read_line.Goals as goal

pub returns-then-read-tokens-clause-form : goal.returns-then-read-tokens-clause-form
returns-then-read-tokens-clause-form g c = line_more c.args.profile c.args.inside c.args.tokens.now _ _ (omega arith) (omega arith)
    (form_of c.in_ok-read.read.form) c.in_ok-read.read.next c.in_ok-read.ensures.answered.is
    (omega (arith, c.in_ok-read.ensures.answered.within))

pub returns-then-read-gt-MOST_HEIGHT-clause-form : goal.returns-then-read-gt-MOST_HEIGHT-clause-form
returns-then-read-gt-MOST_HEIGHT-clause-form g c = line_high c.args.profile c.args.inside c.args.tokens.now _ _ (omega arith) (omega arith)
    (form_of c.in_ok-read.read.form) c.in_ok-read.read.next c.in_ok-read.ensures.answered.is
    (omega (arith, c.in_ok-read.ensures.answered.within))
    (omega (arith, c.in_ok-read.read.is_height))

pub returns-clause-placed : goal.returns-clause-placed
returns-clause-placed g c = whole_placed c.in_ok-read.read c.in_ok-read.ensures.placed (omega arith)
