use Rattle.std.proofs.Common.{sym, ap, ◌∙◌}
use Rattle.std.specs.Str.{chars}
use Rattle.std.specs.Str.Iter.{chars_rest}
use Rattle.pytoken.proofs.Callers.TextLemmas.{Past, past, no_chars}
use Rattle.pytoken.specs.Inner.Readings.{is_calm}
use Rattle.pytoken.proofs.values.CalmLemmas.{calm_stops, calm_goes}
use Rattle.pytoken.proofs.values.strings.is_calm.Goals as goal

pub returns-then-is_doubtful : goal.returns-then-is_doubtful
returns-then-is_doubtful c =
    let front : Past (chars_rest c.loop-c.c-iterator) (chars_rest c.next.new.self) c.in-Some.c = past (chars_rest c.loop-c.c-iterator)
    (chars_rest c.next.new.self) c.in-Some.c c.loop-c.invariant.utf8 c.in-Some.ensures.steps.0 in
    sym (calm_stops c.args.bytes c.loop-c.following c.in-Some.c (chars (chars_rest c.loop-c.c-iterator))
    (chars (chars_rest c.next.new.self)) front.same
    (sym c.if-is_doubtful.ensures)) ∙ c.loop-c.invariant.same

pub loop-c-preserved : goal.loop-c-preserved
loop-c-preserved c =
    let front : Past (chars_rest c.loop-c.c-iterator) (chars_rest c.next.new.self) c.in-Some.c = past (chars_rest c.loop-c.c-iterator)
    (chars_rest c.next.new.self) c.in-Some.c c.loop-c.invariant.utf8 c.in-Some.ensures.steps.0 in
    record {
      same = calm_goes c.args.bytes c.loop-c.following c.in-Some.c (chars (chars_rest c.loop-c.c-iterator))
          (chars (chars_rest c.next.new.self)) front.same
          (sym c.if-is_doubtful.ensures) ∙ c.loop-c.invariant.same;
      utf8 = front.utf8;
    }

pub returns : goal.returns
returns c =
    sym (ap (is_calm c.args.bytes c.loop-c.following) (no_chars (chars_rest c.loop-c.c-iterator) c.in-None.ensures.steps.0.0))
    ∙ c.loop-c.invariant.same
