use Rattle.std.proofs.Common.{◌≡◌, ℕ, List, ◌++◌, length, sym, ap, ◌∙◌}
use Rattle.std.specs.Char.{encode_utf8}
use Rattle.pytoken.specs.StringValues.{without_last}
use Rattle.pytoken.proofs.values.Filtered.{last_skipped, last_taken, nothing_before}
use Rattle.pytoken.proofs.values.characters.front_of_any.Goals as goal

pub returns-then-last-ne13 : goal.returns-then-last-ne13
returns-then-last-ne13 c =
    let cut : c.loop-last.text.now ≡ c.as_str-text.result.now ++ encode_utf8 c.in-Some.last = sym c.chars-left.ensures.rest
    ∙ c.in-Some.ensures.steps
    ∙ ap (λ (t : List ℕ). t ++ encode_utf8 c.in-Some.last) (sym c.as_str-text.ensures) in
    last_taken c.loop-last.text.now c.as_str-text.result.now c.in-Some.last c.loop-last.invariant.utf8
    c.as_str-text.utf8 cut c.if-last-ne13.true
    ∙ ap (without_last 1) c.loop-last.invariant.same

pub returns-in_default : goal.returns-in_default
returns-in_default c = nothing_before c.loop-last.text.now (ap length (sym c.chars-left.ensures.rest) ∙ c.in_default.ensures.steps.0)
    ∙ ap (without_last 1) c.loop-last.invariant.same

pub loop-last-preserved : goal.loop-last-preserved
loop-last-preserved c =
    let cut : c.loop-last.text.now ≡ c.as_str-text.result.now ++ encode_utf8 c.in-Some.last = sym c.chars-left.ensures.rest
    ∙ c.in-Some.ensures.steps
    ∙ ap (λ (t : List ℕ). t ++ encode_utf8 c.in-Some.last) (sym c.as_str-text.ensures) in
    record {
      same = sym (last_skipped c.loop-last.text.now c.as_str-text.result.now c.in-Some.last
          c.loop-last.invariant.utf8 c.as_str-text.utf8 cut
          c.if-last-ne13.false) ∙ c.loop-last.invariant.same;
      utf8 = c.as_str-text.utf8;
    }
