-- The bytes of a buffer after a skip and after a read.
--
-- Carries: read_from, skip. On: LinesLemmas.
use Rattle.std.proofs.Common.{◌≡◌, ℕ, ◌+◌, ◌-◌, ◌≤◌, List, ◌++◌, length, take, drop, sym, ap, ◌∙◌, arith, length-drop, length-append}
use Rattle.std.proofs.Common.{append-nil}
use Rattle.std.proofs.lemmas.List.{take-append-le, length-take-le, drop-drop, drop-take, drop-append-le}
use Rattle.std.proofs.lemmas.Slice.{between_is}
use Rattle.pysource.proofs.FaultyLines.LinesLemmas.{take_over}

-- what a skip leaves
pub skip_view : (room : List ℕ) (from to count : ℕ) → count ≤ to - from → take (to - (from + count)) (drop (from + count) room) ≡ drop count
    (take (to - from) (drop from room))
skip_view room from to count h =
    let whole : to - from ≡ count + (to - (from + count)) = omega arith in
    sym (ap (λ (n : ℕ). drop count (take n (drop from room))) whole ∙ drop-take count (to - (from + count)) (drop from room)
    ∙ ap (take (to - (from + count))) (drop-drop count from room))

-- what a read of n bytes after the others makes of them
pub read_view : (room buf post : List ℕ) (from to n : ℕ) → from ≤ to → to ≤ length room → n ≤ length buf
    → take (to + n - from) (drop from (take to room ++ (buf ++ post))) ≡ take (to - from) (drop from room) ++ take n buf
read_view room buf post from to n low high small =
    let a = drop from (take to room) in
    let front = length-take-le to room high in
    let size : length a ≡ to - from = length-drop from (take to room) ∙ ap (λ (k : ℕ). k - from) front in
    let less : to + n - from - length a ≡ n = omega (arith, size) in
    ap (take (to + n - from)) (drop-append-le from (take to room) (buf ++ post) (omega (arith, front)))
    ∙ take_over a (buf ++ post) (to + n - from) (omega (arith, size))
    ∙ ap (λ (k : ℕ). a ++ take k (buf ++ post)) less
    ∙ ap (λ (x : List ℕ). a ++ x) (take-append-le n buf post small)
    ∙ ap (λ (x : List ℕ). x ++ take n buf) (sym (between_is room from to))

-- a read that gave none leaves them
pub read_view_none : (room buf post : List ℕ) (from to : ℕ) → from ≤ to → to ≤ length room
    → take (to - from) (drop from (take to room ++ (buf ++ post))) ≡ take (to - from) (drop from room)
read_view_none room buf post from to low high =
    let same : to - from ≡ to + 0 - from = omega arith in
    ap (λ (n : ℕ). take n (drop from (take to room ++ (buf ++ post)))) same ∙ read_view room buf post from to 0 low high (omega arith)
    ∙ append-nil (take (to - from) (drop from room))

-- a write in the middle leaves the length
pub put_size : (room buf : List ℕ) (to k : ℕ) → to + k ≤ length room → length buf ≡ k
    → length (take to room ++ (buf ++ drop k (drop to room))) ≡ length room
put_size room buf to k within size =
    let front = length-take-le to room (omega arith) in
    let back = length-drop k (drop to room) in
    let following = length-drop to room in
    let first = length-append (take to room) (buf ++ drop k (drop to room)) in
    let then = length-append buf (drop k (drop to room)) in
    omega (arith, front, back, following, first, then, size)
