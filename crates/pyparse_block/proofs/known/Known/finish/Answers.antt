use Rattle.std.proofs.Common.{subst}
use Rattle.pyparse_block.specs.Known.{IsKnown}
use Rattle.pyparse_block.proofs.Callers.FinishLemmas.{faulty_refused, unread_refused}
use Rattle.pyparse_block.proofs.known.Known.finish.Goals as goal

pub returns-in-Faulty-clause-refused : goal.returns-in-Faulty-clause-refused
returns-in-Faulty-clause-refused c profile s k forms was closes =
    faulty_refused closes (subst (IsKnown profile s k forms) c.in-Faulty.is was)

pub returns-clause-refused : goal.returns-clause-refused
returns-clause-refused c profile s k forms was closes = unread_refused closes (subst (IsKnown profile s k forms) c.in-Unread.is was)
