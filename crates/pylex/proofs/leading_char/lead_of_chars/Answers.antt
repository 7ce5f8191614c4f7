use Rattle.std.proofs.Common.{◌≡◌, ap, ◌∙◌, sym, rules, arith}
use Rattle.std.specs.Str.{chars}
use Rattle.std.specs.Str.Iter.{chars_rest}
use Rattle.pylex_listing.specs.declared.leading_char.LeadingChar.{LeadingChar}
use Rattle.pylex_listing.specs.declared.leading_char.LeadingChar.TheVariants.{Nothing}
use Rattle.pylex_listing.specs.Machine.{lead_after}
use Rattle.pylex.proofs.Texts.Plain.{plain_in_line, in_line_past, begun, spaces_front}
use Rattle.pylex.proofs.MachineLaws.Walking.{Past, past, no_chars}
use Rattle.pylex.proofs.leading_char.lead_of_chars.Goals as goal

pub loop-c-init : goal.loop-c-init
loop-c-init c = record { begins = search rules; utf8 = search rules; in_line = search (rules, plain_in_line) }

pub returns-then-not-is_nothing : goal.returns-then-not-is_nothing
returns-then-not-is_nothing c =
    let rest = chars_rest c.next.new.self in
    let s : Past (chars_rest c.loop-c.c-iterator) rest c.in-Some.c = past (chars_rest c.loop-c.c-iterator) rest c.in-Some.c
    c.loop-c.invariant.utf8 c.in-Some.ensures.steps.0 in
    sym (begun c.after-lead.result (chars rest) (λ e. grind (arith, c.is_nothing.ensures, c.if-not-is_nothing.true, e))
    (in_line_past (chars (chars_rest c.loop-c.c-iterator)) (chars rest) c.in-Some.c s.same c.loop-c.invariant.in_line))
    ∙ ap (λ (f : LeadingChar). lead_after f (chars rest)) c.after-lead.ensures
    ∙ ap (lead_after Nothing) (sym s.same)
    ∙ c.loop-c.invariant.begins

pub loop-c-preserved : goal.loop-c-preserved
loop-c-preserved c =
    let rest = chars_rest c.next.new.self in
    let s : Past (chars_rest c.loop-c.c-iterator) rest c.in-Some.c = past (chars_rest c.loop-c.c-iterator) rest c.in-Some.c
    c.loop-c.invariant.utf8 c.in-Some.ensures.steps.0 in
    let nothing : c.after-lead.result ≡ Nothing = grind (arith, c.is_nothing.ensures, c.if-not-is_nothing.false) in
    record {
      begins = ap (λ (f : LeadingChar). lead_after f (chars rest)) (sym nothing ∙ c.after-lead.ensures)
          ∙ ap (lead_after Nothing) (sym s.same) ∙ c.loop-c.invariant.begins;
      utf8 = s.utf8;
      in_line = in_line_past (chars (chars_rest c.loop-c.c-iterator)) (chars rest) c.in-Some.c s.same c.loop-c.invariant.in_line;
    }

pub returns : goal.returns
returns c = ap (lead_after Nothing) (sym (no_chars (chars_rest c.loop-c.c-iterator) c.in-None.ensures.steps.0.0))
    ∙ c.loop-c.invariant.begins

pub returns-then-is_spaces : goal.returns-then-is_spaces
returns-then-is_spaces c = sym (spaces_front c.args.text.now (c.is_spaces.ensures.0 c.if-is_spaces.true))
