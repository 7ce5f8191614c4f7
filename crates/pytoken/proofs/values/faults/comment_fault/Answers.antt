use Rattle.std.proofs.Common.{sym}
use Rattle.std.specs.Str.{chars}
use Rattle.pytoken.proofs.values.FaultLemmas.{with_nul, without_nul}
use Rattle.pytoken.proofs.values.PlainLemmas.{plain_no_nul}
use Rattle.pytoken.proofs.values.faults.comment_fault.Goals as goal

pub returns-then-are_plain : goal.returns-then-are_plain
returns-then-are_plain c = sym (plain_no_nul c.args.text.now (c.are_plain.ensures c.if-are_plain.true))

pub returns-then-has_nul : goal.returns-then-has_nul
returns-then-has_nul c = sym (with_nul (chars c.args.text.now) (sym c.if-has_nul.ensures))

pub returns-else-has_nul : goal.returns-else-has_nul
returns-else-has_nul c = sym (without_nul (chars c.args.text.now) (sym c.if-has_nul.ensures))
