use Rattle.std.proofs.Common.{sym, ◌∙◌}
use Rattle.pyfstring.specs.Pieces.{is_blank}
use Rattle.pyfstring.proofs.Stepping.{all_stops, all_ends}
use Rattle.pyfstring.proofs.fields.are_blanks.Goals as goal

pub returns-then-not-is_blank : goal.returns-then-not-is_blank
returns-then-not-is_blank c = sym (all_stops is_blank c.loop-c.left c.in-Some.c (sym c.peek.ensures ∙ c.in-Some.is) (sym c.is_blank.ensures
    ∙ c.if-not-is_blank.true)) ∙ c.loop-c.invariant

pub returns : goal.returns
returns c = sym (all_ends is_blank c.loop-c.left (sym c.peek.ensures ∙ c.in_default.is)) ∙ c.loop-c.invariant
