use Rattle.std.proofs.Common.{◌≡◌, ◌≤◌, ◌<◌, ℕ, List, ◌∙◌, ap, length, take, drop, ◌++◌, ◌+◌, ◌-◌, arith}
use Rattle.std.proofs.lemmas.List.{length-take-le, with_items_is}
use Rattle.pysource.proofs.TakenBytes.ByteLemmas.{Keeps-Consumes, Steady-failed}
use Rattle.pysource.proofs.TakenBytes.BufferLemmas.{read_view, read_view_none, put_size}
use Rattle.pysource.proofs.buffers.Buffer.read_from.Goals as goal

pub returns-in-Ok : goal.returns-in-Ok
returns-in-Ok g c =
    let xs = c.deref_mut.result.now in
    let buf = c.read.new.buf in
    let from = c.in_ok-from.from in
    let to = c.in_ok-from.to in
    let n = c.in-Ok.count in
    let k = to + c.min.result - to in
    let post = drop k (drop to xs) in
    let ws = take to xs ++ (buf ++ post) in
    let room : length xs ≡ c.make_room.new.room.len = omega (arith, ap length c.deref_mut.ensures.value, c.make_room.new.room.ok.0) in
    let inside : to < length xs = omega (arith, ap length c.deref_mut.ensures.value, c.in_ok-from.ensures.following) in
    let bound : to + k ≤ length xs = omega (arith, inside, c.min.ensures, c.len.ensures, room) in
    let size : length buf ≡ k = (omega arith) in
    let wrote = with_items_is c.make_room.new.room ws (put_size xs buf to k bound size ∙ room) in
    let stood : take (to - from) (drop from xs) ≡ c.args.self.now = ap (λ (x : List ℕ). take (to - from) (drop from x))
    c.deref_mut.ensures.value ∙ c.in_ok-from.ensures.same ∙ c.self.view_is in
    let few : n ≤ length buf = c.in-Ok.ensures.bound.0 in
    record {
      taken = take n buf;
      consumes = c.in-Ok.ensures.bytes.0;
      bytes = ap (λ (x : List ℕ). take (to + n - from) (drop from x)) wrote
          ∙ read_view xs buf post from to n c.in_ok-from.ensures.order (omega (arith, inside)) few
          ∙ ap (λ (x : List ℕ). x ++ take n buf) stood;
      size = length-take-le n buf few;
      short = omega (arith, few, size, c.min.ensures);
      ended = λ none. c.in-Ok.ensures.bytes.1 none (omega (arith, size, c.min.ensures, c.len.ensures, room, inside));
      told = omega (arith, c.in-Ok.ensures.failed);
      steady = (c.in-Ok.ensures.same, λ _. omega (arith, c.in-Ok.ensures.failed));
    }

pub returns-in-Err : goal.returns-in-Err
returns-in-Err g c =
    let xs = c.deref_mut.result.now in
    let buf = c.read.new.buf in
    let from = c.in_ok-from.from in
    let to = c.in_ok-from.to in
    let k = to + c.min.result - to in
    let post = drop k (drop to xs) in
    let ws = take to xs ++ (buf ++ post) in
    let room : length xs ≡ c.make_room.new.room.len = omega (arith, ap length c.deref_mut.ensures.value, c.make_room.new.room.ok.0) in
    let inside : to < length xs = omega (arith, ap length c.deref_mut.ensures.value, c.in_ok-from.ensures.following) in
    let bound : to + k ≤ length xs = omega (arith, inside, c.min.ensures, c.len.ensures, room) in
    let size : length buf ≡ k = (omega arith) in
    let wrote = with_items_is c.make_room.new.room ws (put_size xs buf to k bound size ∙ room) in
    let stood : take (to - from) (drop from xs) ≡ c.args.self.now = ap (λ (x : List ℕ). take (to - from) (drop from x))
    c.deref_mut.ensures.value ∙ c.in_ok-from.ensures.same ∙ c.self.view_is in
    record {
      consumes = Keeps-Consumes _ _ c.in-Err.ensures.bytes;
      bytes = ap (λ (x : List ℕ). take (to - from) (drop from x)) wrote ∙ read_view_none xs buf post from to c.in_ok-from.ensures.order
          (omega (arith, inside)) ∙ stood;
      told = c.in-Err.ensures.failed;
      steady = Steady-failed (g.R.ByteIn.seen c.args.reader.now) (g.R.ByteIn.seen c.read.new.self)
          c.in-Err.ensures.same c.in-Err.ensures.able;
    }
