use Rattle.std.proofs.Common.{Bool, ◌&&◌, sym, ap, ◌∙◌}
use Rattle.std.proofs.lemmas.Bool.{le-leb}
use Rattle.pynumber.specs.Laws.{is_unsigned}
use Rattle.pynumber.proofs.Lawful.{double_is}
use Rattle.pynumber.proofs.doubles.Double.is_of_literal.Goals as goal

pub returns : goal.returns
returns c =
    let x = c.args.self.now in
    let d = double_is c.self.inside.bits x c.self.invariant c.self.view_is in
    le-leb c.self.inside.bits 0x7ff0_0000_0000_0000 c.self.invariant ∙ sym (ap (λ (b : Bool). b && is_unsigned x) d.held ∙ d.unsigned)
