use Rattle.std.proofs.Common.{◌<◌, ◌≤◌, ◌+◌, ◌-◌, ◌++◌, length, refl, ap, ◌∙◌, arith, lt-ltb, le-ltb, le-leb, append_assoc}
use Rattle.std.proofs.lemmas.Bool.{lt-leb}
use Rattle.std.proofs.lemmas.Fmt.{decimal_nonempty}
use Rattle.std.specs.Prelude.{codes, decimal}
use Rattle.std.specs.String.{string_bytes}
use Rattle.pynumber.specs.Layouts.{zeros, number_text}
use Rattle.pynumber.proofs.layouts.push_decimal.Goals as goal

pub push_scientific-requires : goal.push_scientific-requires
push_scientific-requires c = (
  rw c.format-digits.ensures.text (decimal_nonempty c.args.decimal.digits (omega arith)),
  c.format-digits.ensures.ascii,
)

pub push_scientific-requires-then-down-high-ge4 : goal.push_scientific-requires-then-down-high-ge4
push_scientific-requires-then-down-high-ge4 c = (
  rw c.format-digits.ensures.text (decimal_nonempty c.args.decimal.digits (omega arith)),
  c.format-digits.ensures.ascii,
)

pub returns-in_ok-push_fixed : goal.returns-in_ok-push_fixed
unfolding number_text
returns-in_ok-push_fixed c =
    let d = c.args.decimal in
    let same = ap length c.format-digits.ensures.text in
    let high = length (decimal d.digits) + d.up in
    let front : d.down < high = omega (arith, same) in
    let near : high - d.down ≤ 16 = omega (arith, same) in
    rw (c.in_ok-push_fixed.ensures, c.format-digits.ensures.text, lt-ltb d.down high front, le-leb (high - d.down) 16 near) refl

pub returns-in_ok-push_scientific : goal.returns-in_ok-push_scientific
unfolding number_text
returns-in_ok-push_scientific c =
    let d = c.args.decimal in
    let same = ap length c.format-digits.ensures.text in
    let high = length (decimal d.digits) + d.up in
    let front : d.down < high = omega (arith, same) in
    let far : 16 < high - d.down = omega (arith, same) in
    rw (c.in_ok-push_scientific.ensures, c.format-digits.ensures.text, lt-ltb d.down high front, lt-leb (high - d.down) 16 far) refl

pub returns-then-down-high-ge4 : goal.returns-then-down-high-ge4
unfolding number_text
returns-then-down-high-ge4 c =
    let d = c.args.decimal in
    let same = ap length c.format-digits.ensures.text in
    let high = length (decimal d.digits) + d.up in
    let beyond : high ≤ d.down = omega (arith, same) in
    let far : 4 ≤ d.down - high = omega (arith, same) in
    rw (c.in_ok-push_scientific-2.ensures, c.format-digits.ensures.text, le-ltb d.down high beyond, le-leb 4 (d.down - high) far) refl

pub returns : goal.returns
unfolding number_text
returns c =
    let d = c.args.decimal in
    let same = ap length c.format-digits.ensures.text in
    let high = length (decimal d.digits) + d.up in
    let beyond : high ≤ d.down = omega (arith, same) in
    let near : d.down - high < 4 = omega (arith, same) in
    rw (
      c.in_ok-push_str-2.ensures.bytes,
      c.in_ok-push_zeros.ensures,
      c.in_ok-push_str.ensures.bytes,
      c.format-digits.ensures.text,
      le-ltb d.down high beyond,
      lt-leb 4 (d.down - high) near,
    )
    (append_assoc (string_bytes c.args.out.now ++ codes "0.") (zeros (d.down - high)) (decimal d.digits)
    ∙ append_assoc (string_bytes c.args.out.now) (codes "0.") (zeros (d.down - high) ++ decimal d.digits))
