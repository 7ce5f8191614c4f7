-- Where a line may still come.
--
-- Carries: LineReader::next_line. On: StreamLemmas, ComingLemmas.
use Rattle.std.proofs.Common.{◌≡◌, ℕ, zero, suc, ◌+◌, ◌<◌, Bool, true, false, cond, not, ◌&&◌, ◌==◌, List, [], ◌∷◌, ◌++◌, length, take}
use Rattle.std.proofs.Common.{Option, None, Some, sym, ap, subst, refl, inl, inr, ◌∙◌, arith, append-nil}
use Rattle.std.specs.Prelude.{◌⊎◌, nat_le, slice_index}
use Rattle.std.specs.Option.{option_map_or}
use Rattle.std.specs.Str.Lossy.{utf8_valid_len}
use Rattle.std.proofs.lemmas.List.{length-take-le}
use Rattle.pysource.specs.Names.{Named}
use Rattle.pysource.specs.Lines.{bad_at, first_given, first_bad}
use Rattle.pysource.specs.Places.{is_lf}
use Rattle.pysource.specs.Taking.{Grows, LineThere, LineLeft, NoLfFrom}
use Rattle.pysource.specs.Streams.{Buffered, Coming, Follows, FollowsAt, Gives, ComesOnly, MayCome, comes, coming, unread, fault_at}
use Rattle.pysource.specs.declared.buffers.Intake.{Intake}
use Rattle.pysource.specs.declared.encodings.Charset.{Charset}
use Rattle.pysource.specs.declared.encodings.Charset.TheVariants.{Utf8, Ascii}
use Rattle.pysource.specs.declared.faults.LineError.{LineError}
use Rattle.pysource.specs.declared.faults.LineError.TheVariants.{FailedRead}
use Rattle.pysource.specs.declared.faults.LineFault.{LineFault}
use Rattle.pysource.specs.declared.line_reader.Reach.{Reach}
use Rattle.pysource.specs.declared.line_reader.Reach.TheVariants.{Reading, End, Broken, Passed}
use Rattle.pysource.proofs.FaultyLines.CutLemmas.{NoLf}
use Rattle.pysource.proofs.LineReading.ComingLemmas.{no_lf_all, coming_last, coming_last_bad, coming_none, coming_cut}
use Rattle.pysource.proofs.LineReading.StreamLemmas.{held, skipped, comes_is, gives_line, gives_last}
use Rattle.pysource.proofs.TakenBytes.TakingLemmas.{ReadsBytes-none}
use Rattle.pysource.specs.Bytes.{Seen}

-- something may follow
record Future (b : Buffered) : Type 0 where
  more : List ℕ
  broken : Bool
  follows : Follows b more broken

some_future : (b : Buffered) → Future b
some_future b = by b.reach refl
  where
    at : (r : Reach) (broken : Bool) → b.reach ≡ r → FollowsAt r [] broken → Future b
    at r broken e f = record { more = []; broken = broken; follows = subst (λ q. FollowsAt q [] broken) (sym e) f }

    by : (r : Reach) → b.reach ≡ r → Future b
    by Reading e = at Reading false e tt
    by End e = at End false e (refl, refl)
    by Broken e = at Broken true e (refl, refl)
    by Passed e = at Passed true e (refl, refl)

-- Where a line is given one came.
pub may_come : (b c : Buffered) (taken line : List ℕ) → Gives b taken line c → 0 < length line → MayCome b
may_come b c taken line gives some fault only =
    let f = some_future c in
    let g = gives f.more f.broken f.follows in
    let none : line ++ (comes c f.more f.broken).text ≡ [] = ap (λ (x : Coming). x.text) (sym g.1 ∙ only (taken ++ f.more) f.broken g.0) in
    no_text line (comes c f.more f.broken).text some none
  where
    no_text : (line rest : List ℕ) → 0 < length line → line ++ rest ≡ [] → ⊥
    no_text [] rest h e = omega arith
    no_text (u ∷ line) rest h e = cc

-- What ends nothing but a line ends no reader of lines.
pub only_given : (b c : Buffered) (taken : List ℕ) (fault : Option LineFault) → Gives b taken [] c → ComesOnly b fault → ComesOnly c fault
only_given b c taken fault gives only more broken f = let g = gives more broken f in sym g.1 ∙ only (taken ++ more) broken g.0

-- no bad byte is a line that could not be read
abbrev IsOwn : Option LineError → Type 0
IsOwn None = Unit {0}
IsOwn (Some e) = e ≡ FailedRead → ⊥

own_if : (b : Bool) (o p : Option LineError) → IsOwn o → IsOwn p → IsOwn (cond b o p)
own_if true o p h k = h
own_if false o p h k = k

bad_own : (charset : Charset) (line : List ℕ) (i : ℕ) → IsOwn (bad_at charset line i)
bad_own Utf8 line i =
    own_if (i == utf8_valid_len line) _ _ (λ e. cc)
    (own_if (slice_index line i == 13 && not (is_lf (slice_index line (i + 1)))) _ _ (λ e. cc) tt)
bad_own Ascii line i = own_if (nat_le 128 (slice_index line i)) _ _ (λ e. cc)
    (own_if (slice_index line i == 13 && not (is_lf (slice_index line (i + 1)))) _ _ (λ e. cc) tt)

abbrev IsOwnAt : Option (ℕ × LineError) → Type 0
IsOwnAt None = Unit {0}
IsOwnAt (Some bad) = bad.1 ≡ FailedRead → ⊥

first_own : (f : ℕ → Option LineError) (i n : ℕ) → ((i : ℕ) → IsOwn (f i)) → IsOwnAt (first_given f i n)
first_own f i zero h = tt
first_own f i (suc n) h = by_first (f i) (h i) (first_own f (i + 1) n h)
  where
    by_first : (o : Option LineError) → IsOwn o → IsOwnAt (first_given f (i + 1) n)
        → IsOwnAt (option_map_or (λ x. Some (i, x)) o (first_given f (i + 1) n))
    by_first None u k = k
    by_first (Some e) u k = u

-- a source that ends here is none of which a read failed here
not_unread : (c : Charset) (row : ℕ) (t : List ℕ) → NoLf t → coming c row false t ≡ record { text = []; fault = Some (unread row) } → ⊥
not_unread c row [] clean h =
    let e : None ≡ Some (unread row) = ap (λ (x : Coming). x.fault) (sym (coming_none c row) ∙ h) in
    cc
not_unread c row (b ∷ bs) clean h = by (first_bad c (b ∷ bs)) refl
  where
    by : (o : Option (ℕ × LineError)) → first_bad c (b ∷ bs) ≡ o → ⊥
    by None good =
        let e : (b ∷ bs) ++ (coming c (row + 1) false []).text ≡ [] =
        ap (λ (x : Coming). x.text) (sym (coming_last c row (b ∷ bs) clean (omega arith) good) ∙ h) in
        cc
    by (Some bad) is =
        let e : Some (fault_at row (b ∷ bs) bad) ≡ Some (unread row) =
        ap (λ (x : Coming). x.fault) (sym (coming_last_bad c row (b ∷ bs) bad clean (omega arith) is) ∙ h) in
        let same : fault_at row (b ∷ bs) bad ≡ unread row = cc in
        let own : IsOwnAt (Some bad) = subst IsOwnAt is (first_own (bad_at c (b ∷ bs)) 0 (length (b ∷ bs)) (bad_own c (b ∷ bs))) in
        own (ap (λ (f : LineFault). f.code) same)

-- Where reading isn't over, and no line is there, one may come.
pub reading_may_come : (e : Named) (row : ℕ) (mid : Intake) → mid.reach ≡ Reading → NoLfFrom 0 (length mid.buffer) mid.buffer
    → MayCome (held e row None mid)
reading_may_come e row mid is none fault only =
    let clean = no_lf_all mid.buffer none in
    let follows : (broken : Bool) → FollowsAt mid.reach [] broken = λ broken. subst (λ q. FollowsAt q [] broken) (sym is) tt in
    let at : (broken : Bool) → coming e.charset row broken mid.buffer ≡ record { text = []; fault = fault } =
    λ broken. ap (coming e.charset row broken) (sym (append-nil mid.buffer)) ∙ sym (comes_is e row mid [] broken)
    ∙ only [] broken (follows broken) in
    not_unread e.charset row mid.buffer clean (at false ∙ sym (at true) ∙ coming_cut e.charset row mid.buffer clean)

abbrev not_read : Seen
not_read = record { to_come = None; failures = 0; may_fail = false }

-- nothing was taken
abbrev grown_none : (i : Intake) → Grows not_read not_read i i
grown_none i = record { taken = []; takes = ReadsBytes-none _ _ _; bytes = sym (append-nil i.buffer) }

-- Where a good line is there it may come.
pub line_may_come : (e : Named) (row end : ℕ) (old mid : Intake) → LineThere 0 end old mid ⊎ LineLeft 0 end mid → 0 < end
    → first_bad e.charset (take end mid.buffer) ≡ None → MayCome (held e row None mid)
line_may_come e row end old mid (inl there) some good =
    let size = length-take-le end mid.buffer there.line.within in
    may_come (held e row None mid) (held e (row + 1) None (skipped end mid)) [] (take end mid.buffer)
    (gives_line e row end mid mid (grown_none mid) there.line good) (omega (arith, size))
line_may_come e row end old mid (inr last) some good =
    let size = length-take-le end mid.buffer (omega (arith, last.all)) in
    may_come (held e row None mid) (held e (row + 1) None (skipped end mid)) [] (take end mid.buffer)
    (gives_last e row end mid mid (grown_none mid) last some good) (omega (arith, size))
