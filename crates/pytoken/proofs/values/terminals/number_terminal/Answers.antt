use Rattle.std.proofs.Common.{sym, ap}
use Rattle.pytoken.specs.Terminals.{Number}
use Rattle.pytoken.proofs.values.ShortLemmas.{short_is, short_faultless}
use Rattle.pytoken.proofs.values.terminals.number_terminal.Goals as goal

pub returns-in-Some-clause-terminal : goal.returns-in-Some-clause-terminal
returns-in-Some-clause-terminal c = ap Number (sym (short_is c.args.text.now c.in-Some.value c.in-Some.ensures))

pub returns-in-Some-clause-sound : goal.returns-in-Some-clause-sound
returns-in-Some-clause-sound c = short_faultless c.args.extent c.args.text.now c.in-Some.value c.in-Some.ensures
