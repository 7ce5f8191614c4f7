use Rattle.std.proofs.Common.{length}
use Rattle.pylex.specs.Spots.{at_spot}
use Rattle.pyparse_tokens.specs.Inner.Marking.{GoesOn}
use Rattle.pyparse_tokens.specs.Inner.Walking.{Walks}
use Rattle.pyparse_tokens.proofs.walks.walk.Given as goal

abbrev pub invariant-lexemes : goal.invariant-lexemes
invariant-lexemes l = record {
  walks : Walks l.source l.lister.shown.levels l.fn.from l.spot l.fn.gather l.gather l.left;
  marks : GoesOn l.source (at_spot l.source l.fn.from l.lister.shown.levels) l.fn.gather l.fn.marks
      (at_spot l.source l.spot l.lister.shown.levels) l.gather l.marks;
}

abbrev pub decreases-lexemes : goal.decreases-lexemes
decreases-lexemes l = length l.left
