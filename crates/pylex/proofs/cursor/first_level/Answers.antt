use Rattle.std.proofs.lemmas.Fmt.{parse-decimal}
use Rattle.pylex.proofs.Texts.CursorLemmas.{first_level_split, first_level_whole}
use Rattle.pylex.proofs.cursor.first_level.Goals as goal

pub returns-in_err-ok-in-Some-clause-reads : goal.returns-in_err-ok-in-Some-clause-reads
returns-in_err-ok-in-Some-clause-reads c = λ n ns fits whole.
    let front = first_level_split n ns c.args.text.now (c.in-Some.front, c.in-Some.back) fits whole c.in-Some.ensures.cases in
    let read = parse-decimal 64 n c.in-Some.front.now c.parse.result fits fits front.0 c.parse.ensures.value.0 in
    let value = rw read at c.ok.ensures.value in
    absurd (cc (value, c.in_err-ok-in-Some.was))

pub returns-in_ok-ok-in-Some-clause-reads : goal.returns-in_ok-ok-in-Some-clause-reads
returns-in_ok-ok-in-Some-clause-reads c = λ n ns fits whole.
    let front = first_level_split n ns c.args.text.now (c.in-Some.front, c.in-Some.back) fits whole c.in-Some.ensures.cases in
    let read = parse-decimal 64 n c.in-Some.front.now c.parse.result fits fits front.0 c.parse.ensures.value.0 in
    let value = rw read at c.ok.ensures.value in
    (cc (value, c.in_ok-ok-in-Some.was), (front.1, front.2))

pub returns-in_err-ok-in-None-clause-reads : goal.returns-in_err-ok-in-None-clause-reads
returns-in_err-ok-in-None-clause-reads c = λ n ns fits whole.
    let alone = first_level_whole n ns c.args.text.now fits whole c.in-None.ensures.cases in
    let read = parse-decimal 64 n c.args.text.now c.parse-in-None.result fits fits alone.1 c.parse-in-None.ensures.value.0 in
    let value = rw read at c.ok-in-None.ensures.value in
    absurd (cc (value, c.in_err-ok-in-None.was))

pub returns-in_ok-ok-in-None-clause-reads : goal.returns-in_ok-ok-in-None-clause-reads
returns-in_ok-ok-in-None-clause-reads c = λ n ns fits whole.
    let alone = first_level_whole n ns c.args.text.now fits whole c.in-None.ensures.cases in
    let read = parse-decimal 64 n c.args.text.now c.parse-in-None.result fits fits alone.1 c.parse-in-None.ensures.value.0 in
    let value = rw read at c.ok-in-None.ensures.value in
    (cc (value, c.in_ok-ok-in-None.was), alone.0)
