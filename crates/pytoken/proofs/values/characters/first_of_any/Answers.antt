use Rattle.std.proofs.Common.{ℕ, List, drop, slice_get, sym, ap, ◌∙◌}
use Rattle.std.specs.Str.{chars}
use Rattle.std.specs.Str.Iter.{chars_rest}
use Rattle.pytoken.proofs.Callers.TextLemmas.{Past, past}
use Rattle.pytoken.specs.StringValues.{with_line_feeds}
use Rattle.pytoken.proofs.values.Filtered.{kept, skipped, nothing, nothing_left}
use Rattle.pytoken.proofs.values.characters.first_of_any.Goals as goal

pub returns-then-first-ne13-clause-first : goal.returns-then-first-ne13-clause-first
returns-then-first-ne13-clause-first c =
    let step = kept (chars_rest c.loop-first.left) (chars_rest c.next.new.self) c.in-Some.first c.loop-first.invariant.utf8
    c.in-Some.ensures.steps.0
    c.if-first-ne13.true in
    ap (λ (t : List ℕ). slice_get t 0) (sym step ∙ c.loop-first.invariant.same)

pub returns-then-first-ne13-clause-rest : goal.returns-then-first-ne13-clause-rest
returns-then-first-ne13-clause-rest c =
    let step = kept (chars_rest c.loop-first.left) (chars_rest c.next.new.self) c.in-Some.first c.loop-first.invariant.utf8
    c.in-Some.ensures.steps.0
    c.if-first-ne13.true in
    ap (λ (bs : List ℕ). with_line_feeds (chars bs)) c.as_str.ensures ∙ ap (drop 1) (sym step ∙ c.loop-first.invariant.same)

pub loop-first-preserved : goal.loop-first-preserved
loop-first-preserved c =
    let s : Past (chars_rest c.loop-first.left) (chars_rest c.next.new.self) c.in-Some.first = past (chars_rest c.loop-first.left)
    (chars_rest c.next.new.self) c.in-Some.first c.loop-first.invariant.utf8 c.in-Some.ensures.steps.0 in
    record {
      same = sym (skipped (chars_rest c.loop-first.left) (chars_rest c.next.new.self) c.in-Some.first c.loop-first.invariant.utf8
          c.in-Some.ensures.steps.0 c.if-first-ne13.false) ∙ c.loop-first.invariant.same;
      utf8 = s.utf8;
    }

pub returns-clause-first : goal.returns-clause-first
returns-clause-first c =
    ap (λ (t : List ℕ). slice_get t 0) (sym (nothing_left (chars_rest c.loop-first.left) c.in_default.ensures.steps.0.0)
    ∙ c.loop-first.invariant.same)

pub returns-clause-rest : goal.returns-clause-rest
returns-clause-rest c =
    nothing ∙ ap (drop 1) (sym (nothing_left (chars_rest c.loop-first.left) c.in_default.ensures.steps.0.0) ∙ c.loop-first.invariant.same)
