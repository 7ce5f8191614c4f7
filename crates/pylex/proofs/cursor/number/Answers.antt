use Rattle.std.proofs.Common.{Some, None, arith, decimal}
use Rattle.std.proofs.lemmas.Fmt.{parse-decimal}
use Rattle.std.proofs.lemmas.Str.Pattern.{split_after}
use Rattle.pylex.proofs.Texts.CursorLemmas.{decimal_lacks}
use Rattle.pylex.proofs.cursor.number.Goals as goal

pub returns-in_err-front : goal.returns-in_err-front
returns-in_err-front c = λ n rest fits whole.
    absurd (split_after 32 c.args.text.now (decimal n) rest None c.in_err-front.ensures.cases (omega arith) whole
    (decimal_lacks 32 n (omega arith)))

pub returns-in_err-ok : goal.returns-in_err-ok
returns-in_err-ok c = λ n rest fits whole.
    let parts = split_after 32 c.args.text.now (decimal n) rest (Some (c.in_ok-front.front, c.in_ok-front.rest)) c.in_ok-front.ensures.cases
    (omega arith) whole (decimal_lacks 32 n (omega arith)) in
    let read = parse-decimal 64 n c.in_ok-front.front.now c.parse.result fits fits parts.0 c.parse.ensures.value.0 in
    let value = rw read at c.ok.ensures.value in
    absurd (cc (value, c.in_err-ok.was))

pub returns : goal.returns
returns c = λ n rest fits whole.
    let parts = split_after 32 c.args.text.now (decimal n) rest (Some (c.in_ok-front.front, c.in_ok-front.rest)) c.in_ok-front.ensures.cases
    (omega arith) whole (decimal_lacks 32 n (omega arith)) in
    let read = parse-decimal 64 n c.in_ok-front.front.now c.parse.result fits fits parts.0 c.parse.ensures.value.0 in
    let value = rw read at c.ok.ensures.value in
    (cc (value, c.in_ok-ok.was), parts.1)
