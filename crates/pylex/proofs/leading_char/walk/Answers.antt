use Rattle.std.proofs.Common.{sym, rules}
use Rattle.pylex.proofs.Texts.Plain.{advance_plain}
use Rattle.pylex.proofs.leading_char.walk.Goals as goal

pub returns-clause-place : goal.returns-clause-place
returns-clause-place c = sym (advance_plain c.args.place c.args.text.now (search rules))
