use Rattle.std.proofs.Common.{◌+◌, ◌-◌, ap, ◌∙◌, arith}
use Rattle.pylex.specs.Listers.{Listed}
use Rattle.pylex.proofs.Resumption.Returning.{begins_back, goes_back_on, arrives}
use Rattle.pylex.proofs.lister.Lister.resume.Goals as goal

pub loop-given-init : goal.loop-given-init
loop-given-init c = record {
  source = ap (λ (l : Listed). l.source) c.in_ok-lister.ensures;
  stands = λ a is agrees. begins_back c.args.cursor.now c.args.source.now c.in_ok-lister.lister a c.in_ok-lister.ensures is agrees;
}

pub loop-given-preserved : goal.loop-given-preserved
loop-given-preserved c = record {
  source = c.in_ok-next.ensures.source ∙ c.loop-given.invariant.source;
  stands = λ a is agrees.
      goes_back_on c.args.cursor.now c.args.source.now c.next.new.self a c.in_ok-next.field-0 c.loop-given._given
      (omega (arith, c.loop-given-test.true, c.skip-given-end.ensures)) is agrees
      (c.in_ok-next.ensures.steps a ((c.args.cursor.now.given - c.args.cursor.now.skip) + c.loop-given._given)
      (c.loop-given.invariant.stands a is agrees));
}

pub returns : goal.returns
returns c = arrives c.args.cursor.now c.args.source.now c.loop-given.lister c.loop-given._given c.requires
    (c.loop-given.invariant.stands c.requires.0 c.requires.1.0 c.requires.1.1)
    (omega (arith, c.loop-given-test.false, c.loop-given.auto._given-end, c.skip-given-end.ensures)) c.loop-given.invariant.source
