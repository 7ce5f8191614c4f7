-- The text that is to come is UTF-8, and no longer than the bytes that it is read from.
--
-- Carries: what pyast_command, pylex cite. On: BadLemmas, LinesLemmas.
use Rattle.std.proofs.Common.{◌≡◌, ℕ, ◌+◌, ◌≤◌, Bool, true, false, List, [], ◌∷◌, ◌++◌, length, get_or, None, Some, Option, refl, inl, inr}
use Rattle.std.proofs.Common.{arith, zero-le, length-append}
use Rattle.std.specs.Prelude.{IsUtf8, not}
use Rattle.std.specs.List.{onto_first, sum_by}
use Rattle.std.specs.Option.{option_map_or}
use Rattle.std.specs.Str.Lossy.{utf8_valid_len}
use Rattle.std.proofs.lemmas.Bool.{cases_Bool, cases_lt}
use Rattle.std.proofs.lemmas.List.Filters.{sum_by-filter_both}
use Rattle.std.proofs.lemmas.List.Sums.{sum_by-cons}
use Rattle.std.proofs.lemmas.Str.{IsUtf8-append, IsUtf8-nil, IsUtf8-from_ascii}
use Rattle.std.proofs.lemmas.Str.Ascii.{IsAscii-from_reads}
use Rattle.pysource.specs.Places.{is_lf}
use Rattle.pysource.specs.Lines.{lines_of, first_bad, good_text, bad_at}
use Rattle.pysource.specs.Streams.{Buffered, Coming, coming, comes, comes_under, lines_read, ends_line}
use Rattle.pysource.specs.declared.encodings.Charset.{Charset}
use Rattle.pysource.specs.declared.encodings.Charset.TheVariants.{Utf8, Ascii}
use Rattle.pysource.specs.declared.faults.LineError.{LineError}
use Rattle.pysource.specs.declared.faults.LineError.TheVariants.{NotUtf8, NotAscii}
use Rattle.pysource.specs.declared.faults.LineFault.{LineFault}
use Rattle.pysource.proofs.FaultyLines.BadLemmas.{utf8_at, ascii_at}
use Rattle.pysource.proofs.FaultyLines.LinesLemmas.{bad_found, valid_cases}

-- a line without a bad byte is UTF-8 in either character set
pub good_line : (charset : Charset) (line : List ℕ) → first_bad charset line ≡ None → IsUtf8 line
good_line Utf8 line good = elim (valid_cases line) [
  | inl u ↦ u
  | inr v ↦
      let none : bad_at Utf8 line (utf8_valid_len line) ≡ None = bad_found Utf8 line None good (utf8_valid_len line) zero-le
      (omega (arith, v.short)) in
      let some : bad_at Utf8 line (utf8_valid_len line) ≡ Some NotUtf8 = utf8_at line (utf8_valid_len line) refl in
      cc
]
good_line Ascii line good =
    IsUtf8-from_ascii line (IsAscii-from_reads line (length line) (omega arith) (λ k low. elim (cases_lt (get_or line k 0) 128) [
      | inl small ↦ small
      | inr large ↦
          let none : bad_at Ascii line k ≡ None = bad_found Ascii line None good k zero-le (omega arith) in
          let some : bad_at Ascii line k ≡ Some NotAscii = ascii_at line k large in
          cc
    ]))

-- a line before a text, unless the line is bad
utf8_step : (charset : Charset) (line rest : List ℕ) (r : Option (ℕ × LineError)) → first_bad charset line ≡ r → IsUtf8 rest
    → IsUtf8 (option_map_or (λ _. []) r (line ++ rest))
utf8_step charset line rest None good u = IsUtf8-append line rest (good_line charset line good) u
utf8_step charset line rest (Some bad) is u = IsUtf8-nil

len_step : (line rest : List ℕ) (r : Option (ℕ × LineError)) → length (option_map_or (λ _. []) r (line ++ rest)) ≤ length line + length rest
len_step line rest None = let whole = length-append line rest in omega (arith, whole)
len_step line rest (Some bad) = zero-le

-- good lines are UTF-8
pub good_utf8 : (charset : Charset) (lines : List (List ℕ)) → IsUtf8 (good_text charset lines)
unfolding good_text
good_utf8 charset [] = IsUtf8-nil
good_utf8 charset (line ∷ lines) = utf8_step charset line (good_text charset lines) (first_bad charset line) refl (good_utf8 charset lines)

-- and take no more than all the lines
good_within : (charset : Charset) (lines : List (List ℕ)) → length (good_text charset lines) ≤ sum_by length lines
unfolding good_text
good_within charset [] = zero-le
good_within charset (line ∷ lines) =
    let here = len_step line (good_text charset lines) (first_bad charset line) in
    let more = good_within charset lines in
    let whole = sum_by-cons length line lines in
    omega (arith, here, more, whole)

-- the lines of bytes take as much as the bytes
onto_first_sum : (b : ℕ) (lines : List (List ℕ)) → sum_by length (onto_first b lines) ≡ 1 + sum_by length lines
onto_first_sum b [] = refl
onto_first_sum b (line ∷ lines) =
    let longer = sum_by-cons length (b ∷ line) lines in
    let whole = sum_by-cons length line lines in
    omega (arith, longer, whole)

lines_sum : (bytes : List ℕ) → sum_by length (lines_of bytes) ≡ length bytes
unfolding lines_of
lines_sum [] = refl
lines_sum (b ∷ bs) =
    let more = lines_sum bs in
    elim (cases_Bool (is_lf b)) [
      | inl e ↦ let whole = sum_by-cons length (b ∷ []) (lines_of bs) in rw e (omega (arith, whole, more))
      | inr e ↦ let whole = onto_first_sum b (lines_of bs) in rw e (omega (arith, whole, more))
    ]

-- the lines that were read take no more
read_sum : (broken : Bool) (bytes : List ℕ) → sum_by length (lines_read broken bytes) ≤ length bytes
read_sum false bytes = let whole = lines_sum bytes in omega (arith, whole)
read_sum true bytes =
    let both = sum_by-filter_both ends_line (λ line. not (ends_line line)) (λ line. refl) length (lines_of bytes) in
    let whole = lines_sum bytes in
    omega (arith, both, whole)

pub read_len : (charset : Charset) (broken : Bool) (bytes : List ℕ) → length (good_text charset (lines_read broken bytes)) ≤ length bytes
read_len charset broken bytes = let good = good_within charset (lines_read broken bytes) in let whole = read_sum broken bytes in
    omega (arith, good, whole)

-- the same of what bytes are in a character set
pub coming_utf8 : (charset : Charset) (row : ℕ) (broken : Bool) (bytes : List ℕ) → IsUtf8 (coming charset row broken bytes).text
unfolding coming
coming_utf8 charset row broken bytes = good_utf8 charset (lines_read broken bytes)

pub coming_len : (charset : Charset) (row : ℕ) (broken : Bool) (bytes : List ℕ)
    → length (coming charset row broken bytes).text ≤ length bytes
unfolding coming
coming_len charset row broken bytes = read_len charset broken bytes

-- a fault that came before leaves no text
under_utf8 : (fault : Option LineFault) (c : Coming) → IsUtf8 c.text → IsUtf8 (comes_under fault c).text
under_utf8 None c u = u
under_utf8 (Some fault) c u = IsUtf8-nil

under_len : (fault : Option LineFault) (c : Coming) (n : ℕ) → length c.text ≤ n → length (comes_under fault c).text ≤ n
under_len None c n h = h
under_len (Some fault) c n h = zero-le

-- the same of what is still to come
pub comes_utf8 : (b : Buffered) (more : List ℕ) (broken : Bool) → IsUtf8 (comes b more broken).text
unfolding comes
comes_utf8 b more broken =
    under_utf8 b.fault (coming b.encoding.charset b.row broken (b.pending ++ more))
    (coming_utf8 b.encoding.charset b.row broken (b.pending ++ more))

pub comes_len : (b : Buffered) (more : List ℕ) (broken : Bool) → length (comes b more broken).text ≤ length b.pending + length more
unfolding comes
comes_len b more broken =
    let short = coming_len b.encoding.charset b.row broken (b.pending ++ more) in
    let whole = length-append b.pending more in
    under_len b.fault (coming b.encoding.charset b.row broken (b.pending ++ more)) (length b.pending + length more)
    (omega (arith, short, whole))
