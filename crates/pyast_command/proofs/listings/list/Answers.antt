use Rattle.std.proofs.Common.{◌≡◌, ◌≢◌, refl, ◌∙◌, string_bytes, Some, arith}
use Rattle.std.proofs.lemmas.Result.{err_from_is_err_and}
use Rattle.std.specs.Io.KnownBytes.{Appends}
use Rattle.pysource.specs.Bytes.{TakesFront}
use Rattle.pyast_command.proofs.ListLemmas.{came_none, came_next, came_written, goes_here, goes_on, counts_up, next_in, memory_held}
use Rattle.pyast_command.proofs.ListLemmas.{stopped_held, ended_held, faulty_held}
use Rattle.pyast_command.proofs.RunLemmas.{TakesAllBut-cut}
use Rattle.pyast_command.proofs.listings.list.Goals as goal

pub loop-left-init : goal.loop-left-init
loop-left-init g c = record {
  came = came_none _ _ _ _ _ _ c.requires.empty;
  room = c.requires.reads;
  counted = refl;
}

pub returns-in_err-entry-clause-holds : goal.returns-in_err-entry-clause-holds
returns-in_err-entry-clause-holds g c =
    let e = err_from_is_err_and c.from_residual.result c.from_residual.ensures.1 in
    rw (e.1, e.2) (goes_on c.loop-left.invariant.came c.in_err-entry.ensures.steps
    (λ p more broken f s. memory_held s))

pub returns-in_err-push_line-in-Entry-clause-holds :
    goal.returns-in_err-push_line-in-Entry-clause-holds
returns-in_err-push_line-in-Entry-clause-holds g c =
    let e = err_from_is_err_and c.from_residual-in_err-push_line-in-Entry.result c.from_residual-in_err-push_line-in-Entry.ensures.1 in
    rw (e.1, e.2, c.in_err-push_line-in-Entry.ensures.err)
    (goes_on c.loop-left.invariant.came c.in_ok-entry.ensures.steps
    (λ p more broken f s. memory_held s))

pub returns-in_err-write_all-in-Entry-clause-holds :
    goal.returns-in_err-write_all-in-Entry-clause-holds
returns-in_err-write_all-in-Entry-clause-holds g c =
    let e = err_from_is_err_and c.from_residual-in_err-write_all-in-Entry.result c.from_residual-in_err-write_all-in-Entry.ensures.1 in
    let i = c.loop-left.invariant in
    let stopped : c.loop-left.left ≢ Some 0 = c.is_reached.ensures.open c.loop-left-test.true in
    let came = came_next i.came
    c.in_ok-entry.ensures.steps c.in-Entry.is stopped c.text.ensures c.in_ok-push_line-in-Entry.ensures.ok in
    let cut : TakesFront (g.W.ByteOut.sent c.loop-left.writer).taken (g.W.ByteOut.sent c.write_all.new.writer).taken
    (string_bytes c.push_line.new.out) =
    rw (← c.as_bytes.ensures.value) c.in_err-write_all-in-Entry.ensures.front in
    rw (e.1, e.2) (goes_here came (λ p more broken s. TakesAllBut-cut _ _ _ _ _ _ s.holds cut))

pub loop-left-smaller-then-len-ge-ENOUGH : goal.loop-left-smaller-then-len-ge-ENOUGH
loop-left-smaller-then-len-ge-ENOUGH g c = counts_up c.requires.within c.requires.stands
    c.loop-left.invariant.came c.in_ok-entry.ensures.steps c.in-Entry.is c.in_ok-entry.ensures.given

pub loop-left-preserved-then-len-ge-ENOUGH : goal.loop-left-preserved-then-len-ge-ENOUGH
loop-left-preserved-then-len-ge-ENOUGH g c =
    let i = c.loop-left.invariant in
    let stopped : c.loop-left.left ≢ Some 0 = c.is_reached.ensures.open c.loop-left-test.true in
    let came = came_next i.came
    c.in_ok-entry.ensures.steps c.in-Entry.is stopped c.text.ensures c.in_ok-push_line-in-Entry.ensures.ok in
    let wrote : Appends (g.W.ByteOut.sent c.loop-left.writer).taken (g.W.ByteOut.sent c.write_all.new.writer).taken
    (string_bytes c.push_line.new.out) =
    rw (← c.as_bytes.ensures.value) c.in_ok-write_all-in-Entry.ensures.ok in
    let told = c.in_ok-entry.ensures.steps.reads.told in
    let room = i.room in
    record {
      came = rw (c.clear.ensures.bytes, c.left_after-left.ensures) (came_written came wrote);
      room = omega arith;
      counted = c.in_ok-write_all-in-Entry.ensures.unfailed ∙ i.counted;
    }

pub loop-left-smaller : goal.loop-left-smaller
loop-left-smaller g c = counts_up c.requires.within c.requires.stands c.loop-left.invariant.came
    c.in_ok-entry.ensures.steps c.in-Entry.is c.in_ok-entry.ensures.given

pub loop-left-preserved : goal.loop-left-preserved
loop-left-preserved g c =
    let i = c.loop-left.invariant in
    let stopped : c.loop-left.left ≢ Some 0 = c.is_reached.ensures.open c.loop-left-test.true in
    let came = came_next i.came
    c.in_ok-entry.ensures.steps c.in-Entry.is stopped c.text.ensures c.in_ok-push_line-in-Entry.ensures.ok in
    let told = c.in_ok-entry.ensures.steps.reads.told in
    let room = i.room in
    record {
      came = rw c.left_after-left.ensures came;
      room = omega arith;
      counted = i.counted;
    }

pub returns-in-End-clause-holds : goal.returns-in-End-clause-holds
returns-in-End-clause-holds g c =
    let stopped : c.loop-left.left ≢ Some 0 = c.is_reached.ensures.open c.loop-left-test.true in
    let s = c.in_ok-entry.ensures.steps in
    goes_on c.loop-left.invariant.came s (λ p more broken f m. ended_held stopped
    (next_in more s c.in-End.is f m) m)

pub returns-in-Fault-clause-holds : goal.returns-in-Fault-clause-holds
returns-in-Fault-clause-holds g c =
    let stopped : c.loop-left.left ≢ Some 0 = c.is_reached.ensures.open c.loop-left-test.true in
    let s = c.in_ok-entry.ensures.steps in
    rw c.from.ensures (goes_on c.loop-left.invariant.came s (λ p more broken f m. faulty_held stopped (next_in more s c.in-Fault.is f m) m))

pub returns-in_err-push_cursor-clause-holds : goal.returns-in_err-push_cursor-clause-holds
returns-in_err-push_cursor-clause-holds g c =
    let e = err_from_is_err_and c.from_residual-in_err-push_cursor.result c.from_residual-in_err-push_cursor.ensures.1 in
    rw (e.1, e.2, c.in_err-push_cursor.ensures.err) (goes_here c.loop-left.invariant.came
    (λ p more broken s. memory_held s))

pub returns-clause-holds : goal.returns-clause-holds
returns-clause-holds g c =
    let none_left : c.loop-left.left ≡ Some 0 = c.is_reached.ensures.reached c.loop-left-test.false in
    goes_here c.loop-left.invariant.came (λ p more broken s. stopped_held none_left
    c.in_ok-push_cursor.ensures.ok s)

pub left_after-left-requires : goal.left_after-left-requires
left_after-left-requires g c = c.is_reached.ensures.open c.loop-left-test.true
