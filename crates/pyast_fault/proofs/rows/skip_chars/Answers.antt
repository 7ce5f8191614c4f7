use Rattle.std.proofs.Common.{◌∙◌, List, ℕ, drop, sym, ap}
use Rattle.std.specs.Str.{chars}
use Rattle.std.specs.Str.Iter.{chars_rest}
use Rattle.std.proofs.lemmas.List.{drop-drop}
use Rattle.std.proofs.lemmas.Str.{chars-nil}
use Rattle.pytoken.proofs.Callers.TextLemmas.{Past, past, no_chars}
use Rattle.pyast_fault.proofs.RowLemmas.{drop_past}
use Rattle.pyast_fault.proofs.rows.skip_chars.Goals as goal

pub loop-preserved : goal.loop-preserved
loop-preserved c =
    let front : Past (chars_rest c.loop.left) (chars_rest c.next.new.self) c.in-Some.field-0 =
    past (chars_rest c.loop.left) (chars_rest c.next.new.self) c.in-Some.field-0 c.loop.invariant.utf8 c.in-Some.ensures.steps.0 in
    record {
      same = sym (ap (drop 1) front.same) ∙ ap (drop 1) c.loop.invariant.same ∙ drop-drop 1 c.loop.counter (chars c.args.text.now);
      utf8 = front.utf8;
    }

pub returns-in_default : goal.returns-in_default
returns-in_default c =
    chars-nil ∙ drop_past c.loop.counter c.args.count (chars c.args.text.now) c.loop-test.true (sym c.loop.invariant.same
    ∙ no_chars (chars_rest c.loop.left) c.in_default.ensures.steps.0.0)
