use Rattle.std.proofs.Common.{List, ℕ, subst}
use Rattle.pyast_fault.specs.Faults.{pair_line, Tells}
use Rattle.pyast_fault.proofs.telling.tell_bad_word.Goals as goal

pub returns-clause-told : goal.returns-clause-told
returns-clause-told g c =
    subst (λ (t : List ℕ). Tells (g.F.ByteOut.sent c.args.faults.now) (g.F.ByteOut.sent c.tell_pair.new.faults) (pair_line t c.args.word.now))
    c.fault_text-text.ensures c.tell_pair.ensures.told
