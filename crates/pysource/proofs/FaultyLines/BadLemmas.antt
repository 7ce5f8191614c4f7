-- What the longest valid front says of bad bytes.
--
-- Carries: valid_len.
use Rattle.std.proofs.Common.{◌≡◌, ℕ, ◌<◌, ◌≤◌, List, length, take, get_or, Some, arith}
use Rattle.std.specs.Prelude.{IsUtf8}
use Rattle.std.specs.Str.Lossy.{utf8_valid_len}
use Rattle.std.proofs.lemmas.Bool.{eq-eqb, ne_eqb, le-leb, lt-leb}
use Rattle.std.proofs.lemmas.Str.{IsUtf8-from_ascii}
use Rattle.std.proofs.lemmas.Str.Ascii.{IsAscii-from_reads}
use Rattle.std.proofs.lemmas.List.{get_or-take, length-take}
use Rattle.pysource.specs.declared.encodings.Charset.TheVariants.{Utf8, Ascii}
use Rattle.pysource.specs.declared.faults.LineError.TheVariants.{NotUtf8, NotAscii}
use Rattle.pysource.specs.Lines.{bad_at, lone_return_at}

-- in UTF-8 a byte of the longest valid front is bad only as a lone carriage return
pub utf8_before : (bs : List ℕ) (n k : ℕ) → n ≡ utf8_valid_len bs → k < n → bad_at Utf8 bs k ≡ lone_return_at bs k
utf8_before bs n k e h = rw (ne_eqb k (utf8_valid_len bs) (λ s. absurd (omega arith)))

-- the byte after that front is bad
pub utf8_at : (bs : List ℕ) (n : ℕ) → n ≡ utf8_valid_len bs → bad_at Utf8 bs n ≡ Some NotUtf8
utf8_at bs n e = rw (eq-eqb n (utf8_valid_len bs) e)

-- an ASCII byte is bad only as a lone carriage return
pub ascii_before : (bs : List ℕ) (k : ℕ) → get_or bs k 0 < 128 → bad_at Ascii bs k ≡ lone_return_at bs k
ascii_before bs k h = rw (lt-leb 128 (get_or bs k 0) h)

-- under ASCII another byte is bad
pub ascii_at : (bs : List ℕ) (k : ℕ) → 128 ≤ get_or bs k 0 → bad_at Ascii bs k ≡ Some NotAscii
ascii_at bs k h = rw (le-leb 128 (get_or bs k 0) h)

-- a front of ASCII bytes is UTF-8
pub ascii_front : (bs : List ℕ) (n : ℕ) → n ≤ length bs → ((k : ℕ) → k < n → get_or bs k 0 < 128) → IsUtf8 (take n bs)
ascii_front bs n h low =
    let whole = length-take n bs in
    IsUtf8-from_ascii (take n bs) (IsAscii-from_reads (take n bs) n (omega (arith, whole)) (λ k l. rw (get_or-take n bs k 0 l) (low k l)))
