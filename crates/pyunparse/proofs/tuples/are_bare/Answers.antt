use Rattle.std.proofs.Common.{◌∙◌, sym}
use Rattle.pyunparse.proofs.Sequences.AloneLemmas.{some_bare}
use Rattle.pyunparse.proofs.tuples.are_bare.Goals as goal

pub returns-then-not-is_empty : goal.returns-then-not-is_empty
returns-then-not-is_empty c = some_bare c.args.elts.now c.args.place _ c.is_elem.ensures (sym c.if-not-is_empty.true ∙ c.is_empty.ensures)
