use Rattle.std.specs.Str.Iter.{chars_rest}
use Rattle.pytoken.proofs.Callers.TextLemmas.{Past, past}
use Rattle.pyast_fault.proofs.RowLemmas.{row_ends, row_goes}
use Rattle.pyast_fault.proofs.rows.push_row.Goals as goal

pub loop-preserved : goal.loop-preserved
loop-preserved c =
    let front : Past (chars_rest c.loop.left) (chars_rest c.next.new.self) c.in-Some.c =
    past (chars_rest c.loop.left) (chars_rest c.next.new.self) c.in-Some.c c.loop.invariant.utf8 c.in-Some.ensures.steps.0 in
    record {
      output = row_goes c.loop.counter c.args.most _ _ _ (chars_rest c.loop.left) (chars_rest c.next.new.self) c.in-Some.c c.loop-test.true
          front.same c.in_ok-push_char-in-Some.ensures c.loop.invariant.output;
      utf8 = front.utf8;
    }

pub returns-in-None : goal.returns-in-None
returns-in-None c = row_ends _ _ _ (chars_rest c.loop.left) c.in-None.ensures.steps.0.0 c.loop.invariant.output
