use Rattle.std.proofs.Common.{refl}
use Rattle.pylex.proofs.Texts.LastLines.{line_following, line_alone, line_begun}
use Rattle.pylex.proofs.lister.last_line.Goals as goal

pub returns-in-Some-clause-line : goal.returns-in-Some-clause-line
returns-in-Some-clause-line c = line_following c.args.text.now c.range_from.result.now c.in-Some.at c.utf8.text c.range_from.utf8
    (rw c.in-Some.is at c.rfind.ensures.cases) c.range_from.ensures.value

pub returns-in-None-clause-line : goal.returns-in-None-clause-line
returns-in-None-clause-line c = line_alone c.args.text.now c.utf8.text (rw c.in-None.is at c.rfind.ensures.cases)

pub returns-then-ends_in_feed-clause-line : goal.returns-then-ends_in_feed-clause-line
returns-then-ends_in_feed-clause-line c = line_begun c.args.text.now c.utf8.text (c.if-ends_in_feed.ensures.some refl)
    (c.if-ends_in_feed.ensures.last refl)
