use Rattle.std.proofs.Common.{List, ℕ, subst}
use Rattle.pyast_fault.specs.Faults.{Tells}
use Rattle.pyast_fault.proofs.TellLemmas.{plain_of_file}
use Rattle.pyast_fault.proofs.telling.tell_of_file.Goals as goal

pub returns-in_default : goal.returns-in_default
returns-in_default g c = record {
  told = subst (λ (line : List ℕ). Tells (g.F.ByteOut.sent c.args.faults.now) (g.F.ByteOut.sent c.tell_plain.new.faults) line)
      (plain_of_file c.args.name.now c.args.code c.in_default.not-Read c.in_default.not-Open) c.tell_plain.ensures.told;
  once = c.tell_plain.ensures.once;
}
