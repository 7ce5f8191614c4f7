use Rattle.std.proofs.Common.{sym, ap, ◌∙◌}
use Rattle.std.specs.List.{list_any}
use Rattle.std.specs.Str.Iter.{chars_rest}
use Rattle.std.specs.Prelude.{◌==◌, ◌||◌}
use Rattle.pylex_lexeme.specs.Characters.{line_feed}
use Rattle.pytoken.specs.StringValues.{is_quote}
use Rattle.pytoken.proofs.Callers.TextLemmas.{Past, past, no_chars, met, passed}
use Rattle.pytoken.proofs.values.bodies.has_bulk.Goals as goal

pub returns-then-is_bulk : goal.returns-then-is_bulk
returns-then-is_bulk c =
    let front : Past (chars_rest c.body.c-iterator) (chars_rest c.next.new.self) c.in-Some.c = past (chars_rest c.body.c-iterator)
    (chars_rest c.next.new.self) c.in-Some.c c.body.invariant.utf8 c.in-Some.ensures.steps.0 in
    sym (met (λ x. is_quote x || (x == line_feed)) (chars_rest c.body.c-iterator) (chars_rest c.next.new.self) c.in-Some.c front.same
    (sym c.if-is_bulk.ensures)) ∙ c.body.invariant.same

pub body-preserved : goal.body-preserved
body-preserved c =
    let front : Past (chars_rest c.body.c-iterator) (chars_rest c.next.new.self) c.in-Some.c = past (chars_rest c.body.c-iterator)
    (chars_rest c.next.new.self) c.in-Some.c c.body.invariant.utf8 c.in-Some.ensures.steps.0 in
    record {
      same = passed (λ x. is_quote x || (x == line_feed)) (chars_rest c.body.c-iterator) (chars_rest c.next.new.self) c.in-Some.c front.same
          (sym c.if-is_bulk.ensures) ∙ c.body.invariant.same;
      utf8 = front.utf8;
    }

pub returns : goal.returns
returns c =
    sym (ap (list_any (λ x. is_quote x || (x == line_feed))) (no_chars (chars_rest c.body.c-iterator) c.in-None.ensures.steps.0.0))
    ∙ c.body.invariant.same
