use Rattle.std.proofs.Common.{sym, ap, ◌∙◌}
use Rattle.std.specs.List.{list_any}
use Rattle.std.specs.Str.Iter.{chars_rest}
use Rattle.std.specs.Prelude.{◌==◌}
use Rattle.std.proofs.lemmas.Bool.{eq-eqb, ne_eqb}
use Rattle.pytoken.proofs.Callers.TextLemmas.{Past, past, no_chars, met, passed}
use Rattle.pytoken.proofs.values.faults.has_nul.Goals as goal

pub returns-then-c-eq0 : goal.returns-then-c-eq0
returns-then-c-eq0 c =
    let front : Past (chars_rest c.loop-c.c-iterator) (chars_rest c.next.new.self) c.in-Some.c = past (chars_rest c.loop-c.c-iterator)
    (chars_rest c.next.new.self) c.in-Some.c c.loop-c.invariant.utf8 c.in-Some.ensures.steps.0 in
    sym (met (λ x. x == 0) (chars_rest c.loop-c.c-iterator) (chars_rest c.next.new.self) c.in-Some.c front.same
    (eq-eqb c.in-Some.c 0 c.if-c-eq0.true)) ∙ c.loop-c.invariant.same

pub loop-c-preserved : goal.loop-c-preserved
loop-c-preserved c =
    let front : Past (chars_rest c.loop-c.c-iterator) (chars_rest c.next.new.self) c.in-Some.c = past (chars_rest c.loop-c.c-iterator)
    (chars_rest c.next.new.self) c.in-Some.c c.loop-c.invariant.utf8 c.in-Some.ensures.steps.0 in
    record {
      same = passed (λ x. x == 0) (chars_rest c.loop-c.c-iterator) (chars_rest c.next.new.self) c.in-Some.c front.same
          (ne_eqb c.in-Some.c 0 c.if-c-eq0.false) ∙ c.loop-c.invariant.same;
      utf8 = front.utf8;
    }

pub returns : goal.returns
returns c = sym (ap (list_any (λ x. x == 0)) (no_chars (chars_rest c.loop-c.c-iterator) c.in-None.ensures.steps.0.0))
    ∙ c.loop-c.invariant.same
