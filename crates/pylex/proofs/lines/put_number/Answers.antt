use Rattle.std.proofs.Common.{◌≡◌, ◌∷◌, ◌+◌, ◌++◌, ℕ, List, length, drop, ap, sym, ◌∙◌, arith, rules}
use Rattle.std.specs.Prelude.{◌/◌, ◌%◌}
use Rattle.std.proofs.lemmas.Fmt.{length-decimal-le, decimal_digit}
use Rattle.pylex.proofs.Texts.LinesLemmas.{two_digits, drop_after}
use Rattle.pylex.proofs.lines.put_number.Goals as goal

pub write_digits-requires : goal.write_digits-requires
write_digits-requires c =
    (omega (arith, c.requires, length-decimal-le 20 c.args.number (omega arith) (omega arith) c.ranges.number.fits), search rules)

pub returns-clause-short : goal.returns-clause-short
returns-clause-short c =
    omega (arith, c.write_digits.ensures.start, length-decimal-le 20 c.args.number (omega arith) (omega arith) c.ranges.number.fits)

pub returns-then-number-lt10-clause-start : goal.returns-then-number-lt10-clause-start
returns-then-number-lt10-clause-start c = omega (
  arith,
  ap length (decimal_digit c.args.number c.if-number-lt10.true),
  c.put_sign-ones.ensures.start,
)

pub returns-then-number-lt10-clause-written : goal.returns-then-number-lt10-clause-written
returns-then-number-lt10-clause-written c =
    let whole : c.args.number % 10 ≡ c.args.number = omega (arith, c.if-number-lt10.true) in
    drop_after c.put_sign-ones.result c.put_sign-tens.result _ _ c.put_sign-tens.new.field c.put_sign-tens.ensures.start
    c.put_sign-tens.ensures.written
    ∙ c.put_sign-ones.ensures.written
    ∙ ap (λ n. (48 + n) ∷ drop c.args.end c.args.field.now) whole
    ∙ ap (λ (t : List ℕ). t ++ drop c.args.end c.args.field.now) (sym (decimal_digit c.args.number c.if-number-lt10.true))

pub returns-else-number-lt10-clause-start : goal.returns-else-number-lt10-clause-start
returns-else-number-lt10-clause-start c =
    omega (
      arith,
      ap length (two_digits c.args.number (omega (arith, c.if-number-lt10.false)) c.if-number-lt100.true),
      c.put_sign-ones.ensures.start,
      c.put_sign-tens.ensures.start,
    )

pub returns-else-number-lt10-clause-written : goal.returns-else-number-lt10-clause-written
returns-else-number-lt10-clause-written c =
    let is = two_digits c.args.number (omega (arith, c.if-number-lt10.false)) c.if-number-lt100.true in
    c.put_sign-tens.ensures.written ∙ ap (λ (t : List ℕ). (48 + c.args.number / 10) ∷ t) c.put_sign-ones.ensures.written
    ∙ ap (λ (t : List ℕ). t ++ drop c.args.end c.args.field.now) (sym is)
