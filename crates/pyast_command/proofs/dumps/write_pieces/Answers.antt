use Rattle.std.proofs.Common.{◌≡◌, ◌++◌, ◌∙◌, refl, codes, string_bytes, arith}
use Rattle.std.specs.List.{concat}
use Rattle.std.specs.Io.KnownBytes.{Appends}
use Rattle.std.proofs.lemmas.Result.{err_from_is_err_and}
use Rattle.pysource.specs.Bytes.{TakesFront}
use Rattle.pyast_command.proofs.PieceLemmas.{all_came, front_came, none_came, nothing_came, piece_came}
use Rattle.pyast_command.proofs.RunLemmas.{TakesAllBut-cut, TakesAllBut-written, all_written}
use Rattle.pyast_command.proofs.dumps.write_pieces.Goals as goal

pub returns-in_err-held-clause-writes : goal.returns-in_err-held-clause-writes
returns-in_err-held-clause-writes g c =
    let e = err_from_is_err_and c.from_residual.result c.from_residual.ensures.1 in
    rw (e.1, e.2) (nothing_came (g.W.ByteOut.sent c.args.writer.now).taken (concat c.args.pieces ++ codes "\n"))

pub pieces-init : goal.pieces-init
pieces-init g c = record {
  came = none_came _ _ _ c.in_ok-held.ensures.bytes;
  counted = refl;
}

pub returns-in_err-push_next-clause-writes : goal.returns-in_err-push_next-clause-writes
returns-in_err-push_next-clause-writes g c =
    let e = err_from_is_err_and c.from_residual-in_err-push_next.result c.from_residual-in_err-push_next.ensures.1 in
    rw (e.1, e.2) (front_came _ _ _ _ _ c.pieces.invariant.came)

pub returns-in_err-write_all-clause-writes : goal.returns-in_err-write_all-clause-writes
returns-in_err-write_all-clause-writes g c =
    let e = err_from_is_err_and c.from_residual-in_err-write_all.result c.from_residual-in_err-write_all.ensures.1 in
    let came = piece_came _ _ _ (codes "\n") _ _ _ _ c.in_ok-push_next.ensures.text c.pieces.invariant.came in
    let cut : TakesFront (g.W.ByteOut.sent c.pieces.writer).taken (g.W.ByteOut.sent c.write_all.new.writer).taken
    (string_bytes c.push_next.new.out) =
    rw (← c.as_bytes.ensures.value) c.in_err-write_all.ensures.front in
    rw (e.1, e.2) (TakesAllBut-cut _ _ _ _ _ _ came cut)

pub pieces-preserved-then-len-ge-ENOUGH : goal.pieces-preserved-then-len-ge-ENOUGH
pieces-preserved-then-len-ge-ENOUGH g c =
    let came = piece_came _ _ _ (codes "\n") _ _ _ _ c.in_ok-push_next.ensures.text c.pieces.invariant.came in
    let wrote : Appends (g.W.ByteOut.sent c.pieces.writer).taken (g.W.ByteOut.sent c.write_all.new.writer).taken
    (string_bytes c.push_next.new.out) =
    rw (← c.as_bytes.ensures.value) c.in_ok-write_all.ensures.ok in
    record {
      came = rw c.clear.ensures.bytes (TakesAllBut-written _ _ _ _ _ _ came wrote);
      counted = c.in_ok-write_all.ensures.unfailed ∙ c.pieces.invariant.counted;
    }

pub pieces-preserved : goal.pieces-preserved
pieces-preserved g c = record {
  came = piece_came _ _ _ (codes "\n") _ _ _ _ c.in_ok-push_next.ensures.text c.pieces.invariant.came;
  counted = c.pieces.invariant.counted;
}

pub returns-in_err-push-clause-writes : goal.returns-in_err-push-clause-writes
returns-in_err-push-clause-writes g c =
    let e = err_from_is_err_and c.from_residual-in_err-push.result c.from_residual-in_err-push.ensures.1 in
    rw (e.1, e.2) (front_came _ _ _ _ _ c.pieces.invariant.came)

pub returns-in_err-write_all-2-clause-writes : goal.returns-in_err-write_all-2-clause-writes
returns-in_err-write_all-2-clause-writes g c =
    let e = err_from_is_err_and c.from_residual-in_err-write_all-2.result c.from_residual-in_err-write_all-2.ensures.1 in
    let came = piece_came _ _ _ (codes "\n") _ _ _ _ c.in_ok-push_next.ensures.text c.pieces.invariant.came in
    let ended : string_bytes c.push.new.self ≡ string_bytes c.push_next.new.out ++ codes "\n" =
    rw (c.in_ok-push.ensures.bytes, c.in_ok-push.ensures.ascii (omega arith)) refl in
    let all = all_came _ _ _ (codes "\n") _ _ _ (c.in_ok-push_next.ensures.end c.if-branch.false) ended came in
    let cut : TakesFront (g.W.ByteOut.sent c.pieces.writer).taken (g.W.ByteOut.sent c.write_all-2.new.writer).taken
    (string_bytes c.push.new.self) =
    rw (← c.as_bytes-2.ensures.value) c.in_err-write_all-2.ensures.front in
    rw (e.1, e.2) (TakesAllBut-cut _ _ _ _ _ _ all cut)

pub returns-clause-writes : goal.returns-clause-writes
returns-clause-writes g c =
    let came = piece_came _ _ _ (codes "\n") _ _ _ _ c.in_ok-push_next.ensures.text c.pieces.invariant.came in
    let ended : string_bytes c.push.new.self ≡ string_bytes c.push_next.new.out ++ codes "\n" =
    rw (c.in_ok-push.ensures.bytes, c.in_ok-push.ensures.ascii (omega arith)) refl in
    let all = all_came _ _ _ (codes "\n") _ _ _ (c.in_ok-push_next.ensures.end c.if-branch.false) ended came in
    let wrote : Appends (g.W.ByteOut.sent c.pieces.writer).taken (g.W.ByteOut.sent c.write_all-2.new.writer).taken
    (string_bytes c.push.new.self) =
    rw (← c.as_bytes-2.ensures.value) c.in_ok-write_all-2.ensures.ok in
    (refl, all_written _ _ _ _ _ all wrote)
