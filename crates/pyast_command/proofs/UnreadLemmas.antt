-- Where no read failed, none is told.
--
-- Carries: listing_is_read, quiet, for ModuleLemmas, StartLemmas.
use Rattle.std.proofs.Common.{◌≡◌, ◌≢◌, ℕ, zero, suc, ◌+◌, Bool, true, false, not, ◌&&◌, ◌||◌, ◌==◌, cond, List, [], ◌∷◌, ◌++◌, drop, take}
use Rattle.std.proofs.Common.{length, replicate, refl, Option, Some, None, Result, Ok, Err, subst}
use Rattle.std.specs.List.{count_by, list_all, list_any}
use Rattle.std.specs.Option.{option_map, option_or, option_map_or}
use Rattle.std.specs.Prelude.{nat_lt, nat_le, slice_index}
use Rattle.std.specs.Str.{chars}
use Rattle.std.specs.Str.Lossy.{utf8_valid_len}
use Rattle.pysource.specs.Cookies.{encoding_of, without_mark}
use Rattle.pysource.specs.Lines.{lines_of, bad_at, first_given, first_bad, good_text, line_fault}
use Rattle.pysource.specs.Names.{Named}
use Rattle.pysource.specs.Parts.{Parts}
use Rattle.pysource.specs.Places.{is_lf, place_after}
use Rattle.pysource.specs.Sources.{nth_line, parts_under, source_of, source_under}
use Rattle.pysource.specs.Streams.{coming, lines_read, stream_under, stream_of}
use Rattle.pysource.specs.declared.encodings.Charset.{Charset}
use Rattle.pysource.specs.declared.encodings.Charset.TheVariants.{Utf8, Ascii}
use Rattle.pysource.specs.declared.encodings.SourceFault.{SourceFault}
use Rattle.pysource.specs.declared.encodings.SourceFault.TheVariants as refused
use Rattle.pysource.specs.declared.faults.LineError.{LineError}
use Rattle.pysource.specs.declared.faults.LineError.TheVariants as line_errors
use Rattle.pysource.specs.declared.faults.LineFault.{LineFault}
use Rattle.pysource.specs.declared.places.Place.{Place}
use Rattle.pylex_listing.specs.declared.entries.Entry.{Entry}
use Rattle.pylex_listing.specs.declared.entries.ListingError.{ListingError}
use Rattle.pylex_listing.specs.declared.entries.ListingError.TheVariants as errors
use Rattle.pylex_listing.specs.declared.entries.ListingFault.{ListingFault}
use Rattle.pylex_listing.specs.declared.entries.Step.{Step}
use Rattle.pylex_listing.specs.declared.entries.Step.TheVariants as steps
use Rattle.pylex_listing.specs.declared.kind.Kind.TheVariants as kinds
use Rattle.pylex.specs.Class.{Class}
use Rattle.pylex.specs.Class.TheVariants.{Name, Number, String, Operator, Comment, Blanks, LineEnd, Join}
use Rattle.pylex.specs.Cursors.{CursorParts}
use Rattle.pylex.specs.Lexemes.{Lexeme, cut, left_by_cut, is_open_string}
use Rattle.pylex_listing.specs.Indentation.{open_levels, width_at, widths, dedents, layout, layout_by}
use Rattle.pylex_listing.specs.Lines.{text_before, depth, is_significant, is_at_margin, is_logical}
use Rattle.pylex.specs.Chars.{bytes_in}
use Rattle.pylex_listing.specs.Listing.{Source, in_characters, of_line, listing, rest, entry_of, steps_of, stop_fault, begins_comment}
use Rattle.pylex_listing.specs.Listing.{last_line, line_end_of_last, end_place, ends_in_join, tail, stop, steps_from, up_to_end}
use Rattle.pylex.specs.Operators.{is_closer}
use Rattle.pylex_listing.specs.Steps.{entries_of, fault_of, fault_at}
use Rattle.pylex.specs.Strings.{opens_string}
use Rattle.pylex.specs.Streamed.{is_unread_code}
use Rattle.pyast_fault.specs.Faults.{listing_code, told_at, of_listing}
use Rattle.pyast_command.specs.Listings.{stops_after, start_in, ends_unread, missed, told_of, fault_from, tokens_fault}
use Rattle.pyast_fault.specs.declared.fault.Fault.{Fault}
use Rattle.pyast_fault.specs.declared.fault.Fault.TheVariants.{Plain}
use Rattle.pyast_fault.specs.declared.fault.RunFaultCode.TheVariants.{Read, CursorOfAnotherSource}

-- no fault among the steps is a line that could not be read whole
abbrev AllRead : List Step → Type 0
AllRead [] = Unit {0}
AllRead (steps.Entry e ∷ ss) = AllRead ss
AllRead (steps.End ∷ ss) = AllRead ss
AllRead (steps.Fault f ∷ ss) = (is_unread_code f.code ≡ false) × AllRead ss

-- nor is this one
abbrev IsRead : Option ListingFault → Type 0
IsRead None = Unit {0}
IsRead (Some f) = is_unread_code f.code ≡ false

AllRead-append : (a b : List Step) → AllRead a → AllRead b → AllRead (a ++ b)
AllRead-append [] b h k = k
AllRead-append (steps.Entry e ∷ a) b h k = AllRead-append a b h k
AllRead-append (steps.End ∷ a) b h k = AllRead-append a b h k
AllRead-append (steps.Fault f ∷ a) b h k = (h.0, AllRead-append a b h.1 k)

AllRead-drop : (ss : List Step) (k : ℕ) → AllRead ss → AllRead (drop k ss)
AllRead-drop ss zero h = h
AllRead-drop [] (suc k) h = h
AllRead-drop (steps.Entry e ∷ ss) (suc k) h = AllRead-drop ss k h
AllRead-drop (steps.End ∷ ss) (suc k) h = AllRead-drop ss k h
AllRead-drop (steps.Fault f ∷ ss) (suc k) h = AllRead-drop ss k h.1

AllRead-up_to_end : (ss : List Step) → AllRead ss → AllRead (up_to_end ss)
AllRead-up_to_end [] h = h
AllRead-up_to_end (steps.Entry e ∷ ss) h = AllRead-up_to_end ss h
AllRead-up_to_end (steps.End ∷ ss) h = tt
AllRead-up_to_end (steps.Fault f ∷ ss) h = (h.0, tt)

either : (b : Bool) (ss ts : List Step) → AllRead ss → AllRead ts → AllRead (cond b ss ts)
either true ss ts h k = h
either false ss ts h k = k

marks_read : (n : ℕ) (e : Entry) → AllRead (replicate n (steps.Entry e))
marks_read zero e = tt
marks_read (suc n) e = marks_read n e

dedents_read : (width : ℕ) (levels earlier : List ℕ) (p : Place) → AllRead (dedents width levels earlier p)
dedents_read width levels earlier p = marks_read (count_by (nat_lt width) levels) (record {
  kind = kinds.Dedent;
  exact = None;
  start = p;
  «end» = p;
  «from» = bytes_in earlier;
  to = bytes_in earlier;
})

layout_read : (before : List Lexeme) → AllRead (layout before)
unfolding layout layout_by
layout_read before = either (is_at_margin before) _ [] (by_width (width_at before) (open_levels (widths before))) tt
  where
    by_width : (width : ℕ) (levels : List ℕ) → AllRead (layout_by width levels before)
    by_width width levels = either (list_all (λ v. nat_lt v width) levels) _ _ tt
        (either (list_any (λ v. v == width) levels) _ _ (dedents_read width levels (text_before before) (place_after (text_before before)))
        (refl, tt))

entry_read : (before : List Lexeme) (x : Lexeme) → AllRead (entry_of before x)
unfolding entry_of
entry_read before x = by_class x.«class» x.text
  where
    by_class : (k : Class) (t : List ℕ) → AllRead (entry_of before (record { «class» = k; text = t }))
    by_class Name t = tt
    by_class Number t = tt
    by_class String t = tt
    by_class (Operator o) t = either (is_closer o && (depth before == 0)) _ _ (refl, tt) tt
    by_class Comment t = tt
    by_class Blanks t = tt
    by_class LineEnd t = tt
    by_class Join t = tt

steps_read : (before : List Lexeme) (x : Lexeme) → AllRead (steps_of before x)
unfolding steps_of
steps_read before x = AllRead-append (cond (is_significant x) (layout before) []) (entry_of before x)
    (either (is_significant x) (layout before) [] (layout_read before) tt) (entry_read before x)

tail_read : (before : List Lexeme) (end : Place) → AllRead (tail before end)
unfolding tail line_end_of_last
tail_read before end =
    either (not (depth before == 0) || ends_in_join before) _ _ (refl, tt)
    (AllRead-append (line_end_of_last before end ++ dedents 0 (open_levels (widths before)) (text_before before) (end_place before end)) _
    (AllRead-append (line_end_of_last before end) _
    (either (is_logical before) _ _ (either (begins_comment (last_line (text_before before))) [] _ tt tt)
    (either (is_at_margin before) [] _ tt tt))
    (dedents_read 0 (open_levels (widths before)) (text_before before) (end_place before end)))
    tt)

stopped_read : (fault : Option ListingFault) (p : Place) (left : List ℕ) → IsRead fault → AllRead (stop_fault fault p left ∷ [])
unfolding stop_fault
stopped_read fault p left h = one (not (opens_string left)) _ _ refl (one (not (is_open_string left)) _ _ refl (by_fault fault h))
  where
    one : (b : Bool) (g : ListingFault) (s : Step) → is_unread_code g.code ≡ false → AllRead (s ∷ [])
        → AllRead (cond b (steps.Fault g) s ∷ [])
    one true g s u h = (u, tt)
    one false g s u h = h

    by_fault : (o : Option ListingFault) → IsRead o
        → AllRead (elim o [ Some g ↦ steps.Fault g | None ↦ fault_at errors.EofInString p ] ∷ [])
    by_fault (Some g) u = (u, tt)
    by_fault None u = (refl, tt)

stop_read : (fault : Option ListingFault) (before : List Lexeme) (left : List ℕ) → IsRead fault → AllRead (stop fault before left)
unfolding stop
stop_read fault before left h =
    either (not (length left == 0)) _ _ (AllRead-append (layout before) _ (layout_read before)
    (stopped_read fault (place_after (text_before before)) left h)) (by_fault fault h)
  where
    by_fault : (o : Option ListingFault) → IsRead o
        → AllRead (elim o [ Some f ↦ steps.Fault f ∷ [] | None ↦ tail before (place_after (text_before before)) ])
    by_fault (Some f) u = (u, tt)
    by_fault None u = tail_read before (place_after (text_before before))

run_read : (fault : Option ListingFault) (left : List ℕ) (before xs : List Lexeme) → IsRead fault
    → AllRead (steps_from fault left before xs)
run_read fault left before [] h = stop_read fault before left h
run_read fault left before (x ∷ xs) h = AllRead-append (steps_of before x) _ (steps_read before x) (run_read fault left (x ∷ before) xs h)

listing_read : (s : Source) → IsRead s.fault → AllRead (listing s)
unfolding listing
listing_read s h = AllRead-up_to_end (steps_from s.fault (left_by_cut s.text) [] (cut s.text))
    (run_read s.fault (left_by_cut s.text) [] (cut s.text) h)

fault_read : (ss : List Step) → AllRead ss → IsRead (fault_of ss)
fault_read [] h = tt
fault_read (steps.Entry e ∷ ss) h = fault_read ss h
fault_read (steps.End ∷ ss) h = tt
fault_read (steps.Fault f ∷ ss) h = h.0

-- a line's own fault is another
abbrev IsOwn : Option LineError → Type 0
IsOwn None = Unit {0}
IsOwn (Some e) = is_unread_code (errors.Line e) ≡ false

own_if : (b : Bool) (o p : Option LineError) → IsOwn o → IsOwn p → IsOwn (cond b o p)
own_if true o p h k = h
own_if false o p h k = k

bad_own : (charset : Charset) (line : List ℕ) (i : ℕ) → IsOwn (bad_at charset line i)
bad_own Utf8 line i =
    own_if (i == utf8_valid_len line) _ _ refl (own_if (slice_index line i == 13 && not (is_lf (slice_index line (i + 1)))) _ _ refl tt)
bad_own Ascii line i =
    own_if (nat_le 128 (slice_index line i)) _ _ refl
    (own_if (slice_index line i == 13 && not (is_lf (slice_index line (i + 1)))) _ _ refl tt)

abbrev IsOwnAt : Option (ℕ × LineError) → Type 0
IsOwnAt None = Unit {0}
IsOwnAt (Some bad) = is_unread_code (errors.Line bad.1) ≡ false

first_own : (f : ℕ → Option LineError) (i n : ℕ) → ((i : ℕ) → IsOwn (f i)) → IsOwnAt (first_given f i n)
first_own f i zero h = tt
first_own f i (suc n) h = by_first (f i) (h i) (first_own f (i + 1) n h)
  where
    by_first : (o : Option LineError) → IsOwn o → IsOwnAt (first_given f (i + 1) n)
        → IsOwnAt (option_map_or (λ x. Some (i, x)) o (first_given f (i + 1) n))
    by_first None u k = k
    by_first (Some e) u k = u

line_read : (charset : Charset) (row : ℕ) (lines : List (List ℕ)) → IsRead (option_map of_line (line_fault charset row lines))
unfolding line_fault
line_read charset row [] = tt
line_read charset row (line ∷ lines) =
    by_first (first_bad charset line) (first_own (bad_at charset line) 0 (length line) (bad_own charset line))
    (line_read charset (row + 1) lines)
  where
    by_first : (o : Option (ℕ × LineError)) → IsOwnAt o → IsRead (option_map of_line (line_fault charset (row + 1) lines))
        → IsRead (option_map of_line
        (option_map_or (λ bad. Some (record { code = bad.1; place = record { row = row; column = length (chars (take bad.0 line)) } }))
        o (line_fault charset (row + 1) lines)))
    by_first None u rest = rest
    by_first (Some bad) u rest = u

-- bytes after which no read failed are a source without such a line
by_named : (r : Result Named SourceFault) (bytes : List ℕ) (p : Parts) → source_under r bytes ≡ Ok p → IsRead (option_map of_line p.fault)
by_named (Err fault) bytes p is = cc
by_named (Ok named) bytes p is = let e : parts_under named bytes ≡ p = cc in subst (λ (q : Parts). IsRead (option_map of_line q.fault)) e
    (line_read named.charset 1 (lines_of (without_mark bytes)))

pub listing_is_read : (bytes : List ℕ) (p : Parts) (f : ListingFault) → source_of bytes ≡ Ok p
    → fault_of (listing (in_characters p)) ≡ Some f → is_unread_code f.code ≡ false
listing_is_read bytes p f is told =
    subst IsRead told (fault_read (listing (in_characters p))
    (listing_read (in_characters p) (by_named (encoding_of (nth_line bytes 0) (nth_line bytes 1)) bytes p is)))

-- the fault of a source that was read whole
abbrev Quiet : Option Fault → Type 0
Quiet told = told ≢ Some (Plain Read)

code_read : (e : ListingError) (place : Place) → is_unread_code e ≡ false → Quiet (Some (told_at (listing_code e) place))
code_read (errors.Line line_errors.NotUtf8) place h = λ g. cc
code_read (errors.Line line_errors.NotAscii) place h = λ g. cc
code_read (errors.Line line_errors.LoneReturn) place h = λ g. cc
code_read (errors.Line line_errors.FailedRead) place h = cc
code_read errors.BadCharacter place h = λ g. cc
code_read errors.UnterminatedString place h = λ g. cc
code_read errors.EofInString place h = λ g. cc
code_read errors.EofInStatement place h = λ g. cc
code_read errors.UnindentMismatch place h = λ g. cc
code_read errors.UnmatchedCloser place h = λ g. cc

quiet_told : (ss : List Step) → AllRead ss → Quiet (told_of ss)
quiet_told ss h = by_fault (fault_of ss) (fault_read ss h)
  where
    by_fault : (o : Option ListingFault) → IsRead o → Quiet (option_map of_listing o)
    by_fault None u = λ e. cc
    by_fault (Some f) u = code_read f.code f.place u

quiet_from : (p : Parts) (count : Option ℕ) (k : ℕ) → IsRead (option_map of_line p.fault) → Quiet (fault_from p count k)
quiet_from p None k h =
    quiet_told (rest (in_characters p) k) (AllRead-drop (listing (in_characters p)) k (listing_read (in_characters p) h))
quiet_from p (Some n) k h = by_stop (stops_after n (entries_of (rest (in_characters p) k)))
  where
    by_stop : (b : Bool) → Quiet (cond b None (told_of (rest (in_characters p) k)))
    by_stop true = λ e. cc
    by_stop false = quiet_told (rest (in_characters p) k) (AllRead-drop (listing (in_characters p)) k (listing_read (in_characters p) h))

quiet_ends : (ss : List Step) → AllRead ss → ends_unread ss ≡ false
quiet_ends ss h = by_fault (fault_of ss) (fault_read ss h)
  where
    by_fault : (o : Option ListingFault) → IsRead o → elim o [ Some f ↦ is_unread_code f.code | None ↦ false ] ≡ false
    by_fault None u = refl
    by_fault (Some f) u = u

quiet_missed : (resume : Option CursorParts) (s : Source) → IsRead s.fault → missed resume s ≡ CursorOfAnotherSource
quiet_missed None s h = refl
quiet_missed (Some c) s h = rw (quiet_ends (listing s) (listing_read s h), missed) refl

quiet_source : (count : Option ℕ) (resume : Option CursorParts) (p : Parts) → IsRead (option_map of_line p.fault)
    → Quiet (tokens_fault count resume (Ok p))
quiet_source count resume p h = by_start (start_in resume (in_characters p))
  where
    by_start : (o : Option ℕ) → Quiet (elim o [ Some k ↦ fault_from p count k | None ↦ Some (Plain (missed resume (in_characters p))) ])
    by_start (Some k) = quiet_from p count k h
    by_start None = rw (quiet_missed resume (in_characters p) h) (λ e. cc)

quiet_under : (count : Option ℕ) (resume : Option CursorParts) (r : Result Named SourceFault) (bytes : List ℕ)
    → Quiet (tokens_fault count resume (stream_under r false bytes))
unfolding coming stream_under
quiet_under count resume (Err (refused.UnsupportedEncoding place)) bytes = λ e. cc
quiet_under count resume (Err (refused.BomConflict place)) bytes = λ e. cc
quiet_under count resume (Err refused.Memory) bytes = λ e. cc
quiet_under count resume (Ok named) bytes =
    quiet_source count resume (record {
      encoding = named;
      text = good_text named.charset lines;
      fault =
          option_or (line_fault named.charset 1 lines) None;
    }) (by_line (line_fault named.charset 1 lines) (line_read named.charset 1 lines))
  where
    lines : List (List ℕ)
    lines = lines_read false (without_mark bytes)

    by_line : (o : Option LineFault) → IsRead (option_map of_line o) → IsRead (option_map of_line (option_or o None))
    by_line None u = tt
    by_line (Some f) u = u

-- no failed read is told of bytes after which none failed
pub quiet : (count : Option ℕ) (resume : Option CursorParts) (bytes : List ℕ) → Quiet (tokens_fault count resume (stream_of false bytes))
unfolding stream_of
quiet count resume bytes = quiet_under count resume (encoding_of (nth_line bytes 0) (nth_line bytes 1)) bytes
