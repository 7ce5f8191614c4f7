use Rattle.std.proofs.Common.{sym, ◌∙◌, arith}
use Rattle.std.specs.Str.{chars}
use Rattle.std.specs.Str.Iter.{chars_rest}
use Rattle.pylex.proofs.MachineLaws.Walking.{Past, past, no_chars}
use Rattle.pylex.proofs.Levels.MarginLemmas.{wider, wider_by_one, wide, wide_by_one, wide_at_end, wide_by_one_at_end, both}
use Rattle.pylex.proofs.measures.widths_in.Goals as goal

pub returns-then-not-is_blank : goal.returns-then-not-is_blank
returns-then-not-is_blank c =
    let left = chars_rest c.loop-c.c-iterator in
    let rest = chars_rest c.next.new.self in
    let s : Past left rest c.in-Some.c = past left rest c.in-Some.c c.loop-c.invariant.utf8 c.in-Some.ensures.steps.0 in
    let other = sym c.if-not-is_blank.ensures in
    both (chars c.args.text.now) c.loop-c.eight c.loop-c.one
    (wide c.loop-c.eight left rest c.in-Some.c s.same other ∙ c.loop-c.invariant.eight)
    (wide_by_one c.loop-c.one left rest c.in-Some.c s.same other ∙ c.loop-c.invariant.one)

pub loop-c-preserved : goal.loop-c-preserved
loop-c-preserved c =
    let left = chars_rest c.loop-c.c-iterator in
    let rest = chars_rest c.next.new.self in
    let s : Past left rest c.in-Some.c = past left rest c.in-Some.c c.loop-c.invariant.utf8 c.in-Some.ensures.steps.0 in
    let blank = sym c.if-not-is_blank.ensures in
    record {
      eight = wider c.loop-c.eight c.column_after-eight.result c.in-Some.c left rest s.same blank c.column_after-eight.ensures.value
          ∙ c.loop-c.invariant.eight;
      one = wider_by_one c.loop-c.one c.column_by_one-one.result c.in-Some.c left rest s.same blank c.column_by_one-one.ensures.value
          ∙ c.loop-c.invariant.one;
      utf8 = s.utf8;
      eight_fits = omega (arith, s.shorter, c.loop-c.invariant.eight_fits, c.column_after-eight.ensures.bound);
      one_fits = omega (arith, s.shorter, c.loop-c.invariant.one_fits, c.column_by_one-one.ensures.bound);
    }

pub returns : goal.returns
returns c =
    let left = chars_rest c.loop-c.c-iterator in
    let none = no_chars left c.in-None.ensures.steps.0.0 in
    both (chars c.args.text.now) c.loop-c.eight c.loop-c.one
    (wide_at_end c.loop-c.eight left none ∙ c.loop-c.invariant.eight)
    (wide_by_one_at_end c.loop-c.one left none ∙ c.loop-c.invariant.one)
