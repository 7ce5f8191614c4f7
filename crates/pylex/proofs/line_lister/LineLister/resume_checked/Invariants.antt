use Rattle.pylex.specs.Streamed.{Begins}
use Rattle.pylex.proofs.line_lister.LineLister.resume_checked.Given as goal

abbrev pub invariant-loop-given : goal.invariant-loop-given
invariant-loop-given g l = record {
  begins : Begins (g.R.ByteIn.seen l.fn.reader) (g.R.ByteIn.seen l.reader) l.lister l._given;
}
