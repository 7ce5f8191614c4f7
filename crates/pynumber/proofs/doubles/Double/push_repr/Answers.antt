use Rattle.pynumber.proofs.Lawful.{double_is}
use Rattle.pynumber.proofs.doubles.Double.push_repr.Goals as goal

pub returns-clause-text : goal.returns-clause-text
returns-clause-text c = rw (← c.self.view_is) c.in_ok-push_number.ensures

pub returns-clause-double : goal.returns-clause-double
returns-clause-double c = double_is c.self.inside.bits c.args.self.now c.self.invariant c.self.view_is

pub returns-in_err-push_number-clause-double : goal.returns-in_err-push_number-clause-double
returns-in_err-push_number-clause-double c = double_is c.self.inside.bits c.args.self.now c.self.invariant c.self.view_is
