use Rattle.std.proofs.Common.{[], arith, append_assoc, codes}
use Rattle.std.specs.Prelude.{from_bits}
use Rattle.std.specs.Float.Ieee.{binary64}
use Rattle.std.specs.String.{string_bytes}
use Rattle.pynumber.specs.FloatTexts.{float_text}
use Rattle.pynumber.proofs.Lawful.{double_is}
use Rattle.pynumber.proofs.doubles.Double.push_imaginary_source.Goals as goal

pub returns-clause-text : goal.returns-clause-text
returns-clause-text c =
    rw (← c.self.view_is, c.in_ok-push.ensures.bytes, c.in_ok-push.ensures.ascii (omega arith), c.in_ok-push_number.ensures)
    (append_assoc (string_bytes c.args.out.now) (float_text (from_bits binary64 c.self.inside.bits) [] (codes "1e309")) (codes "j"))

pub returns-clause-double : goal.returns-clause-double
returns-clause-double c = double_is c.self.inside.bits c.args.self.now c.self.invariant c.self.view_is

pub returns-in_err-push_number-clause-double : goal.returns-in_err-push_number-clause-double
returns-in_err-push_number-clause-double c = double_is c.self.inside.bits c.args.self.now c.self.invariant c.self.view_is

pub returns-in_err-push-clause-double : goal.returns-in_err-push-clause-double
returns-in_err-push-clause-double c = double_is c.self.inside.bits c.args.self.now c.self.invariant c.self.view_is
