use Rattle.std.proofs.Common.{◌≡◌, inr, ◌<◌, None, true, length, drop, ap, sym, arith, string_bytes, length-append}
use Rattle.std.specs.Prelude.{Result, Ok, Err, OnErr}
use Rattle.std.specs.declared.alloc.AllocError.{AllocError}
use Rattle.std.proofs.lemmas.Str.{IsCharBoundary-from_drop}
use Rattle.pysource.proofs.Callers.Coming.{may_come}
use Rattle.pylex.specs.declared.line_lister.Found.{Found}
use Rattle.pylex.specs.declared.machine.Machine.{Machine}
use Rattle.pylex.specs.Streamed.{AwaitsLine}
use Rattle.pylex.specs.Inner.LineSteps.{lacks, streamed}
use Rattle.pylex.proofs.LineByLine.Awaiting.{awaits_found, awaits_on, may_before}
use Rattle.pylex.proofs.LineByLine.HeldLinesLemmas.{no_line, stays_other}
use Rattle.pylex.proofs.LineByLine.Searching.{ahead_found, ahead_end, ahead_then, searches_line, searches_stay, meets_end, meets_here}
use Rattle.pylex.proofs.LineByLine.Searching.{small_held}
use Rattle.pylex.proofs.line_lister.find.Goals as goal

some_given : (p q : Machine) → q ≡ record p { now = q.now } → 0 < p.given → 0 < q.given
some_given p q e h = let same : q.given ≡ p.given = ap (λ (y : Machine). y.given) e in omega (arith, same, h)

on_err : (r : Result Found AllocError) (P : Type 0) → P → OnErr r P
on_err (Ok f) P p = tt
on_err (Err e) P p = p

pub range_from-requires : goal.range_from-requires
range_from-requires g c = λ _.
    let l = c.look-found.ensures.looks in
    rw c.deref.ensures (IsCharBoundary-from_drop _ c.look-found.result.at l.at l.left)

pub read_on-requires-clause-room : goal.read_on-requires-clause-room
read_on-requires-clause-room g c = let s = small_held c.loop-chunk.machine c.loop-chunk.chunk c.loop-chunk.invariant.searches.streaming in
    omega arith

pub returns-in_err-line-clause-searches : goal.returns-in_err-line-clause-searches
returns-in_err-line-clause-searches g c =
    let o = c.in_err-line.ensures.on in
    searches_stay _ _ _ c.args.machine.now c.loop-chunk.machine c.args.chunk.now c.loop-chunk.chunk c.read_on.new.self c.look-found.result
    c.loop-chunk.invariant.searches c.look-found.ensures.looks c.in-Stop.is (Err _) o o.adds.0 o.holding

pub returns-in_err-line-clause-awaits : goal.returns-in_err-line-clause-awaits
returns-in_err-line-clause-awaits g c =
    let o = c.in_err-line.ensures.on in
    let lack : lacks (drop c.look-found.result.at (string_bytes c.loop-chunk.chunk.text)) ≡ true =
    (rw (← c.deref.ensures, ← c.range_from.ensures.value) (sym c.if-not-lacks.ensures)) in
    let given : 0 < c.loop-chunk.machine.given = some_given c.args.machine.now c.loop-chunk.machine
    c.loop-chunk.invariant.searches.machine c.requires.given in
    let awaits = awaits_on c.args.machine.now c.loop-chunk.machine c.args.chunk.now c.loop-chunk.chunk c.loop-chunk.invariant.awaits
    (awaits_found c.loop-chunk.machine c.loop-chunk.chunk c.look-found.result c.look-found.ensures.looks c.in-Stop.is lack given
    (may_before c.loop-chunk.chunk.lines c.read_on.new.self.lines o.taken o.line o.gives o.adds.0 o.adds.1)) in
    on_err c.from_residual.result (AwaitsLine (streamed c.args.machine.now c.args.chunk.now None)) awaits

pub returns-in_default-line : goal.returns-in_default-line
returns-in_default-line g c =
    let o = c.in_ok-line.ensures.on in
    let stays = stays_other _ _ _ o.line c.in_ok-line.line c.in_default-line.not-Text o.holding in
    record {
      searches = searches_stay _ _ _ c.args.machine.now c.loop-chunk.machine c.args.chunk.now c.loop-chunk.chunk c.read_on.new.self
          c.look-found.result c.loop-chunk.invariant.searches c.look-found.ensures.looks c.in-Stop.is (Ok c.in_ok-line.line) o
          (no_line c.in_ok-line.line o.line c.read_on.new.self.lines c.in_default-line.not-Text o.adds) stays;
      ahead = ahead_end c.args.chunk.now.lines c.read_on.new.self.lines c.look-found.result c.in_ok-line.line o.line c.fault_of.result
          c.in-Stop.is c.in_default-line.not-Text o.adds (rw c.row.ensures at c.fault_of.ensures);
      peeked = meets_end (g.R.ByteIn.seen c.args.reader.now) (g.R.ByteIn.seen c.loop-chunk.reader) (g.R.ByteIn.seen c.read_on.new.reader)
          c.args.machine.now c.loop-chunk.machine c.args.chunk.now c.loop-chunk.chunk c.read_on.new.self c.look-found.result
          c.loop-chunk.invariant.searches c.look-found.ensures.looks c.in-Stop.is c.in_ok-line.line o.line c.fault_of.result
          c.in_default-line.not-Text o.adds (rw c.row.ensures at c.fault_of.ensures) stays;
      awaits = tt;
    }

pub loop-chunk-preserved : goal.loop-chunk-preserved
loop-chunk-preserved g c =
    let o = rw c.in-Text.is at c.in_ok-line.ensures.on in
    let holds = rw c.in-Text.is at c.in_ok-line.ensures.holds in
    let lack : lacks (drop c.look-found.result.at (string_bytes c.loop-chunk.chunk.text)) ≡ true =
    (rw (← c.deref.ensures, ← c.range_from.ensures.value) (sym c.if-not-lacks.ensures)) in
    record {
      searches = rw c.look_from.ensures (searches_line _ _ _ c.args.machine.now c.loop-chunk.machine c.args.chunk.now c.loop-chunk.chunk
          c.read_on.new.self c.look-found.result c.loop-chunk.invariant.searches c.look-found.ensures.looks c.in-Stop.is o lack
          c.requires.given holds);
      ahead = rw c.look_from.ensures (ahead_then _ _ _ c.args.machine.now c.loop-chunk.machine c.args.chunk.now c.loop-chunk.chunk
          c.read_on.new.self c.look-found.result c.loop-chunk.invariant.searches c.look-found.ensures.looks c.in-Stop.is o lack holds
          c.loop-chunk.invariant.ahead);
      awaits = inr (awaits_on c.args.machine.now c.loop-chunk.machine c.args.chunk.now c.loop-chunk.chunk c.loop-chunk.invariant.awaits
          (awaits_found c.loop-chunk.machine c.loop-chunk.chunk c.look-found.result c.look-found.ensures.looks c.in-Stop.is lack
          (some_given c.args.machine.now c.loop-chunk.machine c.loop-chunk.invariant.searches.machine c.requires.given)
          (may_come c.loop-chunk.chunk.lines c.read_on.new.self.lines o.taken o.line o.gives o.adds.0)));
    }

pub loop-chunk-smaller : goal.loop-chunk-smaller
loop-chunk-smaller g c =
    let o = rw c.in-Text.is at c.in_ok-line.ensures.on in
    let holds = rw c.in-Text.is at c.in_ok-line.ensures.holds in
    let s = searches_line _ _ _ c.args.machine.now c.loop-chunk.machine c.args.chunk.now c.loop-chunk.chunk c.read_on.new.self
    c.look-found.result c.loop-chunk.invariant.searches c.look-found.ensures.looks c.in-Stop.is o
    (rw (← c.deref.ensures, ← c.range_from.ensures.value) (sym c.if-not-lacks.ensures)) c.requires.given holds in
    let small = small_held _ c.read_on.new.self s.streaming in
    let whole = ap length o.holding.whole in
    let one = length-append (string_bytes c.loop-chunk.chunk.text) o.line in
    let two = length-append o.holding.gone (string_bytes c.read_on.new.self.text) in
    omega (arith, small, whole, one, two, o.holding.base, o.adds.0)

pub read_on-requires-clause-boundary : goal.read_on-requires-clause-boundary
read_on-requires-clause-boundary g c = let l = c.look-found.ensures.looks in IsCharBoundary-from_drop _ c.look-found.result.at l.at l.left

pub returns-in_default-clause-ahead : goal.returns-in_default-clause-ahead
returns-in_default-clause-ahead g c = ahead_found c.args.chunk.now.lines c.loop-chunk.machine c.loop-chunk.chunk c.look-found.result
    c.look-found.ensures.looks (λ is. absurd (c.in_default.not-Stop is)) c.loop-chunk.invariant.ahead

pub returns-then-not-lacks-clause-ahead : goal.returns-then-not-lacks-clause-ahead
returns-then-not-lacks-clause-ahead g c = ahead_found c.args.chunk.now.lines c.loop-chunk.machine c.loop-chunk.chunk c.look-found.result
    c.look-found.ensures.looks (λ is. rw (← c.deref.ensures, ← c.range_from.ensures.value) (sym c.if-not-lacks.ensures))
    c.loop-chunk.invariant.ahead

pub returns-then-not-lacks-clause-peeked : goal.returns-then-not-lacks-clause-peeked
returns-then-not-lacks-clause-peeked g c = meets_here c.loop-chunk.machine c.loop-chunk.chunk c.look-found.result c.look-found.ensures.looks
    (λ is. rw (← c.deref.ensures, ← c.range_from.ensures.value) (sym c.if-not-lacks.ensures))
