use Rattle.std.proofs.Common.{ℕ, ap, ◌∙◌, sym, arith}
use Rattle.std.specs.Str.{chars}
use Rattle.std.specs.Str.Iter.{chars_rest}
use Rattle.pylex_listing.specs.Indentation.{width_from}
use Rattle.pylex.proofs.Texts.Plain.{spaces_width}
use Rattle.pylex.proofs.MachineLaws.Walking.{Past, past, no_chars, width_more, width_none}
use Rattle.pylex.proofs.measures.width_after.Goals as goal

pub loop-c-preserved : goal.loop-c-preserved
loop-c-preserved c =
    let rest = chars_rest c.next.new.self in
    let s : Past (chars_rest c.loop-c.c-iterator) rest c.in-Some.c = past (chars_rest c.loop-c.c-iterator) rest c.in-Some.c
    c.loop-c.invariant.utf8 c.in-Some.ensures.steps.0 in
    record {
      widens = ap (λ (n : ℕ). width_from n (chars rest)) c.column_after-width.ensures.value
          ∙ sym (width_more c.loop-c.width c.in-Some.c (chars rest)) ∙ ap (width_from c.loop-c.width) (sym s.same)
          ∙ c.loop-c.invariant.widens;
      utf8 = s.utf8;
      room = omega (arith, s.shorter, c.loop-c.invariant.room, c.column_after-width.ensures.bound);
    }

pub returns-clause-value : goal.returns-clause-value
returns-clause-value c = sym (width_none c.loop-c.width)
    ∙ ap (width_from c.loop-c.width) (sym (no_chars (chars_rest c.loop-c.c-iterator) c.in-None.ensures.steps.0.0))
    ∙ c.loop-c.invariant.widens

pub returns-then-is_spaces-clause-value : goal.returns-then-is_spaces-clause-value
returns-then-is_spaces-clause-value c = sym (spaces_width c.args.width c.args.blanks.now (c.is_spaces.ensures.0 c.if-is_spaces.true))
