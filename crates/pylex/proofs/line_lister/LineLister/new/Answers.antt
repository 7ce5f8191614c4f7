use Rattle.std.proofs.Common.{inr}
use Rattle.pylex.proofs.LineByLine.Beginning.{streams_begin, streaming_begin, source_by}
use Rattle.pylex.proofs.line_lister.LineLister.new.Goals as goal

pub invariant_of-result : goal.invariant_of-result
invariant_of-result g c =
    let p = c.start.result in
    let o = c.in_ok-lines.ensures.opening in
    let e = c.new-2.ensures.lines in
    streaming_begin p c.new-2.result c.start.ensures.given c.start.ensures.point c.start.ensures.levels c.start.ensures.now
    c.start.ensures.nested c.start.ensures.tail c.new-2.ensures.text c.new-2.ensures.base c.new-2.ensures.at (rw e o.within)
    (rw e o.pending) c.new-2.ensures.spare

pub returns-clause-begins : goal.returns-clause-begins
returns-clause-begins g c =
    let p = c.start.result in
    let o = c.in_ok-lines.ensures.opening in
    let e = c.new-2.ensures.lines in
    record {
      begins = record {
        taken = o.taken;
        reads = rw e o.reads;
        ahead = inr (rw e o.ahead);
        stands = λ more broken f. (
          source_by p c.new-2.result c.start.ensures.given c.start.ensures.point c.start.ensures.levels c.start.ensures.now
              c.start.ensures.nested c.start.ensures.tail c.new-2.ensures.text c.new-2.ensures.base c.new-2.ensures.at (rw e o.within)
              (rw e o.pending) more broken,
          rw e (o.source more broken (rw e at f.0)),
          streams_begin p c.new-2.result c.start.ensures.given c.start.ensures.point c.start.ensures.levels c.start.ensures.now
              c.start.ensures.nested c.start.ensures.tail c.new-2.ensures.text c.new-2.ensures.base c.new-2.ensures.at (rw e o.within)
              (rw e o.pending) more broken f,
        );
      };
      ahead = rw e o.ahead;
      held = c.new-2.ensures.text;
    }
