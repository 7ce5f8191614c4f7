use Rattle.std.proofs.Common.{ap, ◌∙◌, sym, arith}
use Rattle.std.specs.Str.{chars}
use Rattle.std.specs.Str.Iter.{chars_rest}
use Rattle.pylex_listing.specs.declared.leading_char.LeadingChar.{LeadingChar}
use Rattle.pylex_listing.specs.Machine.{place_past, lead_after}
use Rattle.pylex.proofs.MachineLaws.Walking.{Past, past, no_chars, advance_feed, advance_other}
use Rattle.pylex.proofs.leading_char.walk_chars.Goals as goal

pub loop-c-preserved-then-c-eq10 : goal.loop-c-preserved-then-c-eq10
loop-c-preserved-then-c-eq10 c =
    let rest = chars_rest c.next.new.self in
    let s : Past (chars_rest c.loop-c.c-iterator) rest c.in-Some.c = past (chars_rest c.loop-c.c-iterator) rest c.in-Some.c
    c.loop-c.invariant.utf8 c.in-Some.ensures.steps.0 in
    record {
      advances = sym (advance_feed c.loop-c.place c.in-Some.c (chars rest) c.if-c-eq10.true) ∙ ap (place_past c.loop-c.place) (sym s.same)
          ∙ c.loop-c.invariant.advances;
      begins = ap (λ (f : LeadingChar). lead_after f (chars rest)) c.after-lead.ensures ∙ ap (lead_after c.loop-c.lead) (sym s.same)
          ∙ c.loop-c.invariant.begins;
      utf8 = s.utf8;
      row = omega (arith, s.shorter, c.loop-c.invariant.row);
      column = omega (arith, s.shorter, c.loop-c.invariant.column);
    }

pub loop-c-preserved : goal.loop-c-preserved
loop-c-preserved c =
    let rest = chars_rest c.next.new.self in
    let s : Past (chars_rest c.loop-c.c-iterator) rest c.in-Some.c = past (chars_rest c.loop-c.c-iterator) rest c.in-Some.c
    c.loop-c.invariant.utf8 c.in-Some.ensures.steps.0 in
    record {
      advances = sym (advance_other c.loop-c.place c.in-Some.c (chars rest) c.if-c-eq10.false) ∙ ap (place_past c.loop-c.place) (sym s.same)
          ∙ c.loop-c.invariant.advances;
      begins = ap (λ (f : LeadingChar). lead_after f (chars rest)) c.after-lead.ensures ∙ ap (lead_after c.loop-c.lead) (sym s.same)
          ∙ c.loop-c.invariant.begins;
      utf8 = s.utf8;
      row = omega (arith, s.shorter, c.loop-c.invariant.row);
      column = omega (arith, s.shorter, c.loop-c.invariant.column);
    }

pub returns-clause-place : goal.returns-clause-place
returns-clause-place c = ap (place_past c.loop-c.place) (sym (no_chars (chars_rest c.loop-c.c-iterator) c.in-None.ensures.steps.0.0))
    ∙ c.loop-c.invariant.advances

pub returns-clause-lead : goal.returns-clause-lead
returns-clause-lead c = ap (lead_after c.loop-c.lead) (sym (no_chars (chars_rest c.loop-c.c-iterator) c.in-None.ensures.steps.0.0))
    ∙ c.loop-c.invariant.begins
