use Rattle.std.proofs.Common.{◌≡◌, ◌≤◌, ◌∙◌, ◌++◌, length, take, drop, ap, sym, arith}
use Rattle.std.proofs.lemmas.List.{take-append-drop, length-take-le, length-append, length-drop}
use Rattle.std.proofs.Math.Seq.{take-append_seam}
use Rattle.std.proofs.Math.ListN.{drop_of_length-le}
use Rattle.pysource_fakes.proofs.reader.FakeReaderByteIn.read.Goals as goal

pub returns-clause-bytes : goal.returns-clause-bytes
returns-clause-bytes c =
    let n = c.min-count.result in
    let bytes = c.args.self.now.bytes.now in
    let gave = c.copy_from_slice.new.self in
    let kept = drop n c.args.buf.now in
    let within : n ≤ length bytes = omega (arith, c.min-count.ensures) in
    let front : gave ≡ take n bytes = c.copy_from_slice.ensures.after ∙ c.split_at.ensures.front in
    let size : n ≡ length gave = sym (ap length front ∙ length-take-le n bytes within) in
    let given : take n (gave ++ kept) ≡ gave = ap (λ k. take k (gave ++ kept)) size ∙ take-append_seam gave kept in
    let whole = length-append gave kept in
    let following = length-drop n c.args.buf.now in (
      rw (given, front, c.split_at.ensures.back) (sym (take-append-drop n bytes)),
      λ none some.
          let all : length bytes ≤ n = omega (
            arith,
            none,
            some,
            size,
            whole,
            following,
            c.min-count.ensures,
            c.min.ensures,
            c.args.self.now.gives_some,
          ) in
          c.split_at.ensures.back ∙ drop_of_length-le bytes all,
    )
