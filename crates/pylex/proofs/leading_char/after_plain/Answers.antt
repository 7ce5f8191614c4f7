use Rattle.std.proofs.Common.{sym, arith}
use Rattle.pylex.proofs.Texts.Plain.{begun_plain}
use Rattle.pylex.proofs.leading_char.after_plain.Goals as goal

pub returns : goal.returns
returns c = sym (begun_plain c.args.lead c.args.text.now (λ e. grind (arith, c.is_nothing.ensures, c.if-is_nothing.false, e)) c.requires)
