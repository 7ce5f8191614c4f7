use Rattle.std.proofs.Common.{◌≡◌, ◌<◌, true, false, ◌⊎◌, inl, inr, refl, arith}
use Rattle.std.proofs.lemmas.Result.{err_from_is_err_and}
use Rattle.std.proofs.lemmas.Bool.{cases_Bool}
use Rattle.pylex.specs.Streamed.{ResumeRefusal, is_unread}
use Rattle.pylex.proofs.LineByLine.Following.{begins_next, misses_stop, took_on, misses_shown}
use Rattle.pylex.proofs.line_lister.LineLister.resume_checked.Goals as goal

pub returns-in_err-step-clause-misses : goal.returns-in_err-step-clause-misses
returns-in_err-step-clause-misses g c =
    let p = err_from_is_err_and c.from_residual-in_err-step.result c.from_residual-in_err-step.ensures.1 in
    rw (p.1, p.2) (inr (inr (refl, took_on _ _ _ _ _ _ c.loop-given.invariant.begins _ c.in_err-step.ensures.steps)))

pub loop-given-preserved : goal.loop-given-preserved
loop-given-preserved g c = record {
  begins = begins_next _ _ _ _ _ _ c.loop-given.invariant.begins c.in_ok-step.step c.in_ok-step.ensures.steps _ c.in-Entry.is;
}

pub returns-then-not-shows-clause-misses : goal.returns-then-not-shows-clause-misses
returns-then-not-shows-clause-misses g c =
    let end : c.loop-given._given ≡ c.args.cursor.now.given = omega (
      arith,
      c.loop-given-test.false,
      c.loop-given.auto._given-end,
      c.given-given-end.ensures,
    ) in
    misses_shown _ _ c.loop-given.lister c.args.cursor.now (rw end at c.loop-given.invariant.begins) (λ e. let t = c.shows.ensures.1 e in
    let n = c.if-not-shows.ensures in let f = rw (n, t) at c.if-not-shows.true in cc)

pub returns-in_default : goal.returns-in_default
returns-in_default g c = record {
  begins = tt;
  shown = tt;
  misses = by (cases_Bool (is_unread c.in_ok-step.step));
}
  where
    less : c.loop-given._given < c.args.cursor.now.given
    less = omega (arith, c.loop-given-test.true, c.given-given-end.ensures)

    by : (is_unread c.in_ok-step.step ≡ true) ⊎ (is_unread c.in_ok-step.step ≡ false) → ResumeRefusal (g.R.ByteIn.seen c.args.reader.now)
        (g.R.ByteIn.seen c.next.new.reader) c.args.cursor.now c.ended_before.result
    by (inr u) = rw (c.ended_before.ensures.other u) (misses_stop _ _ _ _ _ _ c.loop-given.invariant.begins c.in_ok-step.step
        c.in_ok-step.ensures.steps c.in_default.not-Entry c.args.cursor.now false less u)
    by (inl u) = rw (c.ended_before.ensures.read u)
        (inr (inl (
          refl,
          misses_stop _ _ _ _ _ _ c.loop-given.invariant.begins c.in_ok-step.step c.in_ok-step.ensures.steps
              c.in_default.not-Entry c.args.cursor.now true less u,
        )))

pub returns-clause-begins : goal.returns-clause-begins
returns-clause-begins g c =
    let end : c.loop-given._given ≡ c.args.cursor.now.given = omega (
      arith,
      c.loop-given-test.false,
      c.loop-given.auto._given-end,
      c.given-given-end.ensures,
    ) in
    rw end at c.loop-given.invariant.begins
