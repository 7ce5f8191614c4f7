use Rattle.std.proofs.Common.{◌≡◌, ℕ, List, ◌++◌, length, sym, ap, ◌∙◌, arith}
use Rattle.std.specs.Char.{encode_utf8}
use Rattle.std.specs.Str.Iter.{chars_rest}
use Rattle.pyparse_tokens.proofs.TextLemmas.{Past, past}
use Rattle.pyparse_tokens.proofs.IndentLemmas.{none_passed, passes_on, stops_at, stops_at_end}
use Rattle.pyparse_tokens.proofs.indents.after_blanks.Goals as goal

pub loop-first-init : goal.loop-first-init
loop-first-init c = none_passed c.args.text.now c.utf8.text

pub loop-first-smaller : goal.loop-first-smaller
loop-first-smaller c =
    let cut : c.loop-first.text.now ≡ encode_utf8 c.in-Some.first ++ chars_rest c.next.new.self = sym c.chars-left.ensures.rest
    ∙ c.in-Some.ensures.steps.0 in
    let s : Past c.loop-first.text.now (chars_rest c.next.new.self) c.in-Some.first =
    past c.loop-first.text.now (chars_rest c.next.new.self)
    c.in-Some.first c.loop-first.invariant.utf8 cut in
    omega (arith, s.shorter, ap length c.as_str-text.ensures)

pub loop-first-preserved : goal.loop-first-preserved
loop-first-preserved c =
    let cut : c.loop-first.text.now ≡ encode_utf8 c.in-Some.first ++ c.as_str-text.result.now =
    sym c.chars-left.ensures.rest ∙ c.in-Some.ensures.steps.0 ∙ ap (λ (t : List ℕ). encode_utf8 c.in-Some.first ++ t)
    (sym c.as_str-text.ensures) in
    passes_on c.args.text.now c.loop-first.text.now c.as_str-text.result.now c.in-Some.first c.loop-first.invariant cut
    (sym c.if-not-is_blank.ensures)

pub returns-in_default : goal.returns-in_default
returns-in_default c =
    let stop = stops_at_end c.args.text.now c.loop-first.text.now c.loop-first.invariant
    (ap length (sym c.chars-left.ensures.rest) ∙ c.in_default.ensures.steps.0.0) in
    record { cut = stop.0; rest = stop.1 }

pub returns-then-not-is_blank : goal.returns-then-not-is_blank
returns-then-not-is_blank c =
    let stop = stops_at c.args.text.now c.loop-first.text.now (chars_rest c.next.new.self) c.in-Some.first c.loop-first.invariant
    (sym c.chars-left.ensures.rest ∙ c.in-Some.ensures.steps.0) (sym c.if-not-is_blank.ensures) in
    record { cut = stop.0; rest = stop.1 }
