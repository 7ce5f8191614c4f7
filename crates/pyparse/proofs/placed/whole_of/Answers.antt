use Rattle.pyparse.proofs.PlacedLemmas.{whole_ends}
use Rattle.pyparse.proofs.placed.whole_of.Goals as goal

pub returns-in-Some-Some : goal.returns-in-Some-Some
returns-in-Some-Some c =
    whole_ends c.args.marks.now c.in-Some-Some.first.now c.in-Some-Some.last.now c.in-Some-Some.ensures.value c.in-Some-Some.ensures'.value
