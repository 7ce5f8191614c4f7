use Rattle.std.proofs.Common.{◌≤◌, length, drop, ap, subst, ◌∙◌}
use Rattle.std.specs.Str.{IsUtf8}
use Rattle.pysource.specs.Limits.{source_limit}
use Rattle.pylex.specs.Spots.{at_spot}
use Rattle.pylex.proofs.CallersOfSpots.{spot_boundary}
use Rattle.pyparse_marks.specs.Spans.{added}
use Rattle.pyparse_tokens.proofs.MarkLemmas.{marks_on, marks_end, step_marked, step_starts}
use Rattle.pyparse_tokens.proofs.WalkLemmas.{few_brackets, walk_begins, walk_room, walk_steps, walk_on, walk_ends}
use Rattle.pyparse_tokens.proofs.WalkLemmas.{step_taken, step_within, step_ends}
use Rattle.pyparse_tokens.proofs.walks.walk.Goals as goal

pub range_from-left-requires : goal.range_from-left-requires
range_from-left-requires c = λ _. rw c.text-text.ensures.value (spot_boundary c.args.source.now c.args.from c.args.lister.now.shown.levels
    (subst IsUtf8 c.text-text.ensures.value c.text-text.utf8) c.requires.at.stands)

pub lexemes-init : goal.lexemes-init
lexemes-init c = record {
  walks =
      walk_begins c.args.source.now c.args.lister.now.shown.levels c.range_from-left.result.now c.args.from c.args.gather.now
      c.range_from-left.utf8 c.requires.at
      c.requires.within c.requires.begun c.requires.some (c.range_from-left.ensures.value
      ∙ ap (drop c.args.from.offset) c.text-text.ensures.value);
  marks = λ start keep. keep;
}

pub step-requires : goal.step-requires
step-requires c =
    let small : length c.args.source.now.text ≤ source_limit = rw c.text-text.ensures.value at c.text-text.ensures.within in
    walk_room c.args.source.now c.args.lister.now.shown.levels c.lexemes.left.now c.args.from c.lexemes.spot
    c.args.gather.now c.lexemes.gather
    (subst IsUtf8 c.text-text.ensures.value c.text-text.utf8) small c.lexemes.invariant.walks

pub take_lexeme-requires : goal.take_lexeme-requires
take_lexeme-requires c =
    let p = c.args.source.now in
    let levels = c.args.lister.now.shown.levels in
    let small : length p.text ≤ source_limit = rw c.text-text.ensures.value at c.text-text.ensures.within in
    let w = c.lexemes.invariant.walks in
    let moved = c.in-Some.ensures.steps in
    let x =
    walk_steps p levels c.lexemes.left.now c.args.from c.lexemes.spot c.in-Some.to c.in-Some.class c.in-Some.front.now c.in-Some.back.now
    c.args.gather.now c.lexemes.gather
    (subst IsUtf8 c.text-text.ensures.value c.text-text.utf8) small c.requires.given w moved in
    let few = few_brackets p (at_spot p c.lexemes.spot levels) c.lexemes.gather w.at in
    record { begun = w.begun; some = w.some; opened = few.0; closed = few.1; boundary = x.boundary; gives = moved.ahead.gives }

pub returns-then-not-to-clause-at : goal.returns-then-not-to-clause-at
returns-then-not-to-clause-at c =
    let p = c.args.source.now in
    let levels = c.args.lister.now.shown.levels in
    let small : length p.text ≤ source_limit = rw c.text-text.ensures.value at c.text-text.ensures.within in
    let w = c.lexemes.invariant.walks in
    let moved = c.in-Some.ensures.steps in
    let x =
    walk_steps p levels c.lexemes.left.now c.args.from c.lexemes.spot c.in-Some.to c.in-Some.class c.in-Some.front.now c.in-Some.back.now
    c.args.gather.now c.lexemes.gather
    (subst IsUtf8 c.text-text.ensures.value c.text-text.utf8) small c.requires.given w moved in
    (walk_ends p levels c.lexemes.left.now c.args.from c.lexemes.spot c.in-Some.to c.in-Some.class c.in-Some.front.now c.in-Some.back.now
    c.args.gather.now c.lexemes.gather
    c.take_lexeme.new.self w x moved (c.in_ok-take_lexeme.ensures.taken c.if-not-branch.false) c.if-not-to.true).at

pub returns-then-not-to-clause-went : goal.returns-then-not-to-clause-went
returns-then-not-to-clause-went c =
    let p = c.args.source.now in
    let levels = c.args.lister.now.shown.levels in
    let small : length p.text ≤ source_limit = rw c.text-text.ensures.value at c.text-text.ensures.within in
    let w = c.lexemes.invariant.walks in
    let moved = c.in-Some.ensures.steps in
    let x =
    walk_steps p levels c.lexemes.left.now c.args.from c.lexemes.spot c.in-Some.to c.in-Some.class c.in-Some.front.now c.in-Some.back.now
    c.args.gather.now c.lexemes.gather
    (subst IsUtf8 c.text-text.ensures.value c.text-text.utf8) small c.requires.given w moved in
    (walk_ends p levels c.lexemes.left.now c.args.from c.lexemes.spot c.in-Some.to c.in-Some.class c.in-Some.front.now c.in-Some.back.now
    c.args.gather.now c.lexemes.gather
    c.take_lexeme.new.self w x moved (c.in_ok-take_lexeme.ensures.taken c.if-not-branch.false) c.if-not-to.true).went

-- the last lexeme of the line
pub returns-then-not-to-clause-line_marks : goal.returns-then-not-to-clause-line_marks
returns-then-not-to-clause-line_marks c =
    let p = c.args.source.now in
    let levels = c.args.lister.now.shown.levels in
    let utf8 = subst IsUtf8 c.text-text.ensures.value c.text-text.utf8 in
    let small : length p.text ≤ source_limit = rw c.text-text.ensures.value at c.text-text.ensures.within in
    let w = c.lexemes.invariant.walks in
    let moved = c.in-Some.ensures.steps in
    let left = c.lexemes.left.now in
    let spot = c.lexemes.spot in
    let to = c.in-Some.to in
    let class = c.in-Some.class in
    let front = c.in-Some.front.now in
    let back = c.in-Some.back.now in
    let old = c.lexemes.gather in
    let new = c.take_lexeme.new.self in
    let x = walk_steps p levels left c.args.from spot to class front back c.args.gather.now old utf8 small c.requires.given w moved in
    let gains = step_taken p levels spot to class front back old new x (c.in_ok-take_lexeme.ensures.taken c.if-not-branch.false) in
    let last = step_ends p levels left spot to class front back old new x moved c.if-not-to.true w.begun in
    λ _ none start first reads keep.
    marks_end p first (at_spot p spot levels) (at_spot p to levels) x.goes.entry old new
    start c.lexemes.marks c.mark_lexeme.new.marks (w.reads first reads) x.read gains last none
    (c.lexemes.invariant.marks start keep) (c.in_ok-mark_lexeme.ensures ∙ ap (added c.lexemes.marks)
    (step_marked p levels left spot to class front back old utf8 x moved))

pub lexemes-preserved : goal.lexemes-preserved
lexemes-preserved c =
    let p = c.args.source.now in
    let levels = c.args.lister.now.shown.levels in
    let utf8 = subst IsUtf8 c.text-text.ensures.value c.text-text.utf8 in
    let small : length p.text ≤ source_limit = rw c.text-text.ensures.value at c.text-text.ensures.within in
    let w = c.lexemes.invariant.walks in
    let moved = c.in-Some.ensures.steps in
    let left = c.lexemes.left.now in
    let spot = c.lexemes.spot in
    let to = c.in-Some.to in
    let class = c.in-Some.class in
    let front = c.in-Some.front.now in
    let back = c.in-Some.back.now in
    let old = c.lexemes.gather in
    let new = c.take_lexeme.new.self in
    let x = walk_steps p levels left c.args.from spot to class front back c.args.gather.now old utf8 small c.requires.given w moved in
    let taken = c.in_ok-take_lexeme.ensures.taken c.if-not-branch.false in
    let gains = step_taken p levels spot to class front back old new x taken in
    let inside = step_within p levels spot to class front back old new x gains moved.ahead.gives c.if-not-to.false in
    record {
      walks =
          walk_on p levels left c.args.from spot to class front back c.args.gather.now old new w x moved taken
          c.in_ok-take_lexeme.ensures.some c.if-not-to.false;
      marks =
          λ start keep.
          marks_on p (at_spot p spot levels) (at_spot p to levels) x.goes.entry old new start
          c.lexemes.marks c.mark_lexeme.new.marks w.at x.read gains inside (step_starts p levels spot to class front back old w.at x)
          (c.lexemes.invariant.marks start keep) (c.in_ok-mark_lexeme.ensures ∙ ap (added c.lexemes.marks)
          (step_marked p levels left spot to class front back old utf8 x moved));
    }
