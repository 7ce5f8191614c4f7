use Rattle.std.proofs.Common.{◌<◌, [], ◌∙◌, sym, take, arith, append-nil, refl}
use Rattle.std.proofs.lemmas.List.{length-take-le}
use Rattle.pysource.proofs.TakenBytes.ByteLemmas.{Keeps-Consumes, Steady-failed}
use Rattle.pysource.proofs.TakenBytes.TakingLemmas.{ReadsBytes-some, ReadsBytes-end, ReadsBytes-failed, ReadsBytes-passed}
use Rattle.pysource.proofs.buffers.Intake.fill.Goals as goal
use Rattle.pysource.proofs.buffers.Intake.fill.Goals.{in-Ok-eq0, in-Ok, in-Err}

pub returns-then-left-eq0-clause-grows : goal.returns-then-left-eq0-clause-grows
returns-then-left-eq0-clause-grows g c = record {
  taken = [];
  takes = elim c.match-read.branch [
    | in-Ok-eq0 w ↦
        let e = rw w.in-Ok-eq0.field-0-test at w.in-Ok-eq0.ensures in
        rw (c.requires.reading, w.self-is) (ReadsBytes-end _ _ _ e.bytes.0 (e.bytes.1 refl (omega (arith, c.read.auto.buf)))
        (omega (arith, e.failed)) (e.same, λ _. omega (arith, e.failed)))
    | in-Ok w ↦
        let e = w.in-Ok.ensures in
        let size = length-take-le w.in-Ok.field-0 c.read.new.buf e.bound.0 in
        let some : 0 < w.in-Ok.field-0 = omega (arith, w.in-Ok.field-0-test.1) in
        rw (c.requires.reading, w.self-is)
        (ReadsBytes-passed _ _ _ (take w.in-Ok.field-0 c.read.new.buf) e.bytes.0 (omega (arith, size, some))
        (omega (arith, c.requires.within)) (omega (arith, e.failed)) (e.same, λ _. omega (arith, e.failed)))
    | in-Err w ↦
        let e = w.in-Err.ensures in
        rw (c.requires.reading, w.self-is) (ReadsBytes-failed _ _ _ (Keeps-Consumes _ _ e.bytes) e.failed
        (Steady-failed (g.R.ByteIn.seen c.args.reader.now) (g.R.ByteIn.seen c.read.new.self) e.same e.able))
  ];
  bytes = sym (append-nil c.args.self.now.buffer);
}

pub returns-in_err-read_from-clause-grows : goal.returns-in_err-read_from-clause-grows
returns-in_err-read_from-clause-grows g c =
    let e = c.in_err-read_from.ensures in
    record {
      taken = [];
      takes = rw c.requires.reading (ReadsBytes-some _ _ _ _ [] e.consumes (omega arith) (λ h. h) (omega (arith, e.told)) e.steady);
      bytes = e.bytes ∙ sym (append-nil c.args.self.now.buffer);
    }

pub returns-in-None-clause-grows : goal.returns-in-None-clause-grows
returns-in-None-clause-grows g c =
    let e = rw c.in-None.is at c.in_ok-read_from.ensures in
    record {
      taken = [];
      takes = rw c.requires.reading (ReadsBytes-failed _ _ _ e.consumes e.told e.steady);
      bytes = e.bytes ∙ sym (append-nil c.args.self.now.buffer);
    }
