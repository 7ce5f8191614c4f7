use Rattle.std.proofs.Common.{◌≡◌, ℕ, List, ◌++◌, length, refl, sym, ap, ◌∙◌, arith}
use Rattle.std.specs.Char.{encode_utf8}
use Rattle.std.specs.Str.{chars}
use Rattle.std.specs.Str.Iter.{chars_rest}
use Rattle.pytoken.proofs.Callers.TextLemmas.{Past, past, no_chars}
use Rattle.pytoken.proofs.values.BodyLemmas.{goes_on, stops_here, stops_at_end}
use Rattle.pytoken.proofs.values.bodies.following_prefix.Goals as goal

pub prefix-init : goal.prefix-init
prefix-init c = record { same = refl; utf8 = c.utf8.text }

pub prefix-smaller : goal.prefix-smaller
prefix-smaller c =
    let cut : c.prefix.rest.now ≡ encode_utf8 c.in-Some.first ++ chars_rest c.next.new.self =
    sym c.chars-left.ensures.rest ∙ c.in-Some.ensures.steps.0 in
    let s : Past c.prefix.rest.now (chars_rest c.next.new.self) c.in-Some.first =
    past c.prefix.rest.now (chars_rest c.next.new.self) c.in-Some.first
    c.prefix.invariant.utf8 cut in
    omega (arith, s.shorter, ap length c.as_str-rest.ensures)

pub prefix-preserved : goal.prefix-preserved
prefix-preserved c =
    let cut : c.prefix.rest.now ≡ encode_utf8 c.in-Some.first ++ c.as_str-rest.result.now =
    sym c.chars-left.ensures.rest ∙ c.in-Some.ensures.steps.0 ∙ ap (λ (t : List ℕ). encode_utf8 c.in-Some.first ++ t)
    (sym c.as_str-rest.ensures) in
    let s : Past c.prefix.rest.now c.as_str-rest.result.now c.in-Some.first =
    past c.prefix.rest.now c.as_str-rest.result.now c.in-Some.first c.prefix.invariant.utf8 cut in
    record {
      same = goes_on (chars c.prefix.rest.now) (chars c.as_str-rest.result.now) c.in-Some.first s.same (sym c.if-is_quote.ensures)
          ∙ c.prefix.invariant.same;
      utf8 = s.utf8;
    }

pub returns-in_default : goal.returns-in_default
returns-in_default c =
    stops_at_end (chars c.prefix.rest.now) (no_chars c.prefix.rest.now (ap length (sym c.chars-left.ensures.rest)
    ∙ c.in_default.ensures.steps.0.0))
    ∙ c.prefix.invariant.same

pub returns-then-is_quote : goal.returns-then-is_quote
returns-then-is_quote c =
    let cut : c.prefix.rest.now ≡ encode_utf8 c.in-Some.first ++ chars_rest c.next.new.self =
    sym c.chars-left.ensures.rest ∙ c.in-Some.ensures.steps.0 in
    let s : Past c.prefix.rest.now (chars_rest c.next.new.self) c.in-Some.first =
    past c.prefix.rest.now (chars_rest c.next.new.self) c.in-Some.first
    c.prefix.invariant.utf8 cut in
    stops_here (chars c.prefix.rest.now) (chars (chars_rest c.next.new.self)) c.in-Some.first s.same (sym c.if-is_quote.ensures)
    ∙ c.prefix.invariant.same
