use Rattle.std.proofs.Common.{arith, sym, ◌≡◌, ◌∙◌, subst, take, take-take, length, IsUtf8, ap, Some, zero-le, get_or, ◌<◌}
use Rattle.std.proofs.lemmas.Str.{IsUtf8-take, IsCharBoundary-before_ascii}
use Rattle.std.proofs.lemmas.List.{get_or-take, length-take}
use Rattle.pysource.specs.Lines.{bad_at}
use Rattle.pysource.proofs.FaultyLines.LinesLemmas.{first_given_at, first_given_none}
use Rattle.pysource.proofs.sources.first_bad.Goals as goal

pub returns-then-lone-valid-clause-value : goal.returns-then-lone-valid-clause-value
returns-then-lone-valid-clause-value c =
    let valid = c.valid_len-valid.ensures in
    let lone = c.lone_return-lone.ensures in
    let inside : c.lone_return-lone.result < length c.args.bytes.now = omega (arith, valid.within) in
    sym (first_given_at (bad_at c.args.charset c.args.bytes.now) 0 (length c.args.bytes.now)
    c.lone_return-lone.result _ zero-le (omega arith)
    (valid.before c.lone_return-lone.result c.if-lone-valid.true ∙ lone.at inside)
    (λ k low high. valid.before k (omega arith) ∙ lone.before k high))

pub returns-then-valid-bytes-clause-value : goal.returns-then-valid-bytes-clause-value
returns-then-valid-bytes-clause-value c =
    let valid = c.valid_len-valid.ensures in
    let lone = c.lone_return-lone.ensures in
    sym (first_given_at (bad_at c.args.charset c.args.bytes.now) 0 (length c.args.bytes.now)
    c.valid_len-valid.result _ zero-le (omega arith)
    (valid.at c.if-valid-bytes.true ∙ ap Some (sym c.invalid.ensures))
    (λ k low high. valid.before k high ∙ lone.before k (omega arith)))

pub returns-else-valid-bytes-clause-value : goal.returns-else-valid-bytes-clause-value
returns-else-valid-bytes-clause-value c =
    let valid = c.valid_len-valid.ensures in
    let lone = c.lone_return-lone.ensures in
    sym (first_given_none (bad_at c.args.charset c.args.bytes.now) 0 (length c.args.bytes.now)
    (λ k low high. valid.before k (omega arith) ∙ lone.before k (omega arith)))

pub returns-then-lone-valid-clause-front : goal.returns-then-lone-valid-clause-front
returns-then-lone-valid-clause-front c =
    let valid = c.valid_len-valid.ensures in
    let lone = c.lone_return-lone.result in
    let front = take c.valid_len-valid.result c.args.bytes.now in
    let inside : lone < length c.args.bytes.now = omega (arith, valid.within) in
    let size = length-take c.valid_len-valid.result c.args.bytes.now in
    let byte : get_or front lone 0 ≡ 13 = get_or-take c.valid_len-valid.result c.args.bytes.now lone 0 c.if-lone-valid.true
    ∙ c.lone_return-lone.ensures.byte inside in
    let part = IsUtf8-take front lone valid.front (IsCharBoundary-before_ascii front lone (omega (arith, size, valid.within))
    (omega (arith, byte))) in
    (inside, subst IsUtf8 (take-take lone c.valid_len-valid.result c.args.bytes.now (omega arith)) part)
