use Rattle.std.proofs.Common.{◌++◌, ◌+◌, ◌<◌, ◌∙◌, ap, length, get_or, drop, arith, rules}
use Rattle.std.proofs.Common.{◌≤◌}
use Rattle.std.proofs.lemmas.List.{take_all, drop_all}
use Rattle.pylex.proofs.Texts.CursorLemmas.{next_number, number_kept, get_fits, with_blanks}
use Rattle.pylex.proofs.cursor.numbers.Goals as goal

pub returns-in_err-value : goal.returns-in_err-value
returns-in_err-value c = λ ns rest six fits whole.
    let i = c.loop-read.read-index in
    let inside : i < length ns = omega (arith, six, c.loop-read-test.true) in
    let so_far = c.loop-read.invariant.reads ns rest six fits whole in
    let next = next_number i ns rest c.loop-read.rest.now inside so_far.1 in
    absurd (c.in_err-value.ensures (get_or ns i 0) (with_blanks (drop (i + 1) ns) ++ rest) (get_fits ns i fits inside) next)

pub loop-read-preserved : goal.loop-read-preserved
loop-read-preserved c = record {
  text = search rules;
  sized = search rules;
  reads = λ ns rest six fits whole.
      let i = c.loop-read.read-index in
      let inside : i < length ns = omega (arith, six, c.loop-read-test.true) in
      let so_far = c.loop-read.invariant.reads ns rest six fits whole in
      let next = next_number i ns rest c.loop-read.rest.now inside so_far.1 in
      let got = c.in_ok-value.ensures (get_or ns i 0) (with_blanks (drop (i + 1) ns) ++ rest) (get_fits ns i fits inside) next in
      (number_kept i c.in_ok-value.value c.loop-read.read-items ns (omega arith) inside so_far.0 got.0, got.1);
}

pub returns : goal.returns
returns c = λ ns rest six fits whole.
    let end = c.loop-read.invariant.reads ns rest six fits whole in
    let i = c.loop-read.read-index in
    let past : 6 ≤ i = omega arith in
    let items = take_all i c.loop-read.read-items (omega arith) in
    let all = take_all i ns (omega (arith, six, past)) in
    let none = drop_all i ns (omega (arith, six, past)) in
    (cc (items, all, end.0), end.1 ∙ ap (λ l. with_blanks l ++ rest) none)
