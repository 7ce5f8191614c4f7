use Rattle.std.proofs.Common.{arith, append_assoc}
use Rattle.std.specs.Prelude.{codes}
use Rattle.std.specs.String.{string_bytes}
use Rattle.pynumber.proofs.Lawful.{zero_text, infinity_text, number_text_is, bits_zero, bits_infinite}
use Rattle.pynumber.proofs.texts.push_number.Goals as goal

pub returns-then-bits-eq0 : goal.returns-then-bits-eq0
returns-then-bits-eq0 c =
    rw (
      bits_zero c.args.bits c.if-bits-eq0.true,
      zero_text c.args.end.now c.args.infinity.now,
      c.in_ok-push_str.ensures.bytes,
      c.in_ok-push.ensures.bytes,
      c.in_ok-push.ensures.ascii (omega arith),
    )
    (append_assoc (string_bytes c.args.out.now) (codes "0") c.args.end.now)

pub returns-then-bits-eq-INFINITY : goal.returns-then-bits-eq-INFINITY
returns-then-bits-eq-INFINITY c =
    rw (bits_infinite c.args.bits c.if-bits-eq-INFINITY.true, infinity_text c.args.end.now c.args.infinity.now)
    c.in_ok-push_str-2.ensures.bytes

pub returns : goal.returns
returns c =
    let d = c.in_ok-decimal.ensures in
    rw (number_text_is c.args.bits c.args.end.now c.args.infinity.now (omega arith) (omega arith), ← d.0, ← d.1, ← d.2)
    c.in_ok-push_decimal.ensures
