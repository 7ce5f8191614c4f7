-- What a line reader gives against what was still to come.
--
-- Carries: decode. On: ComingLemmas, CutLemmas.
use Rattle.std.proofs.Common.{◌≡◌, ◌≢◌, ℕ, ◌+◌, ◌-◌, ◌<◌, Bool, true, false, List, [], ◌∷◌, ◌++◌, length, take, drop, None, Some, Ok, Err}
use Rattle.std.proofs.Common.{Option, Result, sym, ap, subst, refl, inl, inr, ◌∙◌, arith, append-nil, append_assoc}
use Rattle.std.specs.Prelude.{◌⊎◌, IsUtf8}
use Rattle.std.proofs.lemmas.List.{take-append-drop, take_all, length-drop}
use Rattle.std.specs.Option.{option_or}
use Rattle.pysource.specs.Bytes.{Seen}
use Rattle.pysource.specs.Names.{Named}
use Rattle.pysource.specs.Parts.{Parts}
use Rattle.pysource.specs.Cookies.{encoding_of, without_mark}
use Rattle.pysource.specs.Lines.{lines_of, first_bad, good_text, line_fault}
use Rattle.pysource.specs.Sources.{nth_line, source_of, source_under}
use Rattle.pysource.specs.Taking.{ReadsBytes, Grows, LineAt, LineLeft, LineUnread}
use Rattle.pysource.specs.Streams.{Buffered, FollowsAt, comes, coming, onto, Gives, ComesOnly, unread, fault_at, IsLine, ends_line}
use Rattle.pysource.specs.Streams.{stream_of, stream_under, as_stream}
use Rattle.pysource.specs.declared.buffers.Intake.{Intake}
use Rattle.pysource.specs.declared.encodings.SourceFault.{SourceFault}
use Rattle.pysource.specs.declared.line_reader.StreamFault.{StreamFault}
use Rattle.pysource.specs.declared.line_reader.Reach.{Reach}
use Rattle.pysource.specs.declared.line_reader.Reach.TheVariants.{Reading, End, Broken, Passed}
use Rattle.pysource.specs.declared.faults.LineError.{LineError}
use Rattle.pysource.specs.declared.faults.LineFault.{LineFault}
use Rattle.pysource.proofs.FaultyLines.CutLemmas.{NoLf, lines_alone}
use Rattle.pysource.proofs.LineReading.ComingLemmas.{no_lf_all, line_front, line_clean, one_line, ends_at_lf, coming_line, coming_bad}
use Rattle.pysource.proofs.LineReading.ComingLemmas.{coming_last, coming_last_bad, coming_none, coming_cut}
use Rattle.pysource.proofs.LineReading.HeadLemmas.{at_end}

-- a line reader by its parts
abbrev pub held : Named → ℕ → Option LineFault → Intake → Buffered
held e row fault i = record { encoding = e; row = row; pending = i.buffer; reach = i.reach; count = i.count; fault = fault }

-- an intake of which the first bytes were used
abbrev pub skipped : ℕ → Intake → Intake
skipped n i = record { buffer = drop n i.buffer; reach = i.reach; count = i.count }

-- a front of nothing is nothing
none_left : (xs ys : List ℕ) → xs ++ ys ≡ [] → xs ≡ []
none_left [] ys e = refl
none_left (x ∷ xs) ys e = cc

-- What may follow in the end may follow what was taken before.
followed : {x y : Seen} {k l : ℕ} {r s : Reach} {t : List ℕ} (b' : Bool) (more : List ℕ) → r ≢ Reading → ReadsBytes x y r s k l t
    → (s ≡ r) × (t ++ more ≡ more)
followed {t = t} b' more not p = let over = p.over not in (over.0, ap (λ (w : List ℕ). w ++ more) (none_left t p.lost over.1))

pub follows_back : {x y : Seen} {k l : ℕ} (r : Reach) {s : Reach} {t : List ℕ} (more : List ℕ) (broken : Bool) → ReadsBytes x y r s k l t
    → FollowsAt s more broken → FollowsAt r (t ++ more) broken
follows_back Reading more broken p f = tt
follows_back End more broken p f =
    let o = followed broken more (λ e. let e' : End ≡ Reading = e in cc) p in
    let g = subst (λ (q : Reach). FollowsAt q more broken) o.0 f in
    (o.1 ∙ g.0, g.1)
follows_back Broken more broken p f =
    let o = followed broken more (λ e. let e' : Broken ≡ Reading = e in cc) p in
    let g = subst (λ (q : Reach). FollowsAt q more broken) o.0 f in
    (o.1 ∙ g.0, g.1)
follows_back Passed more broken p f =
    let o = followed broken more (λ e. let e' : Passed ≡ Reading = e in cc) p in
    let g = subst (λ (q : Reach). FollowsAt q more broken) o.0 f in
    (o.1 ∙ g.0, g.1)

-- what comes of a reader whose lines have no fault yet
pub comes_is : (e : Named) (row : ℕ) (i : Intake) (more : List ℕ) (broken : Bool) → comes (held e row None i) more broken ≡ coming e.charset
    row broken (i.buffer ++ more)
unfolding comes
comes_is e row i more broken = refl

comes_fault : (e : Named) (row : ℕ) (f : LineFault) (i : Intake) (more : List ℕ) (broken : Bool)
    → comes (held e row (Some f) i) more broken ≡ record { text = []; fault = Some f }
unfolding comes
comes_fault e row f i more broken = refl

-- the same by the bytes that were there before
comes_grown : {x y : Seen} (e : Named) (row : ℕ) (old mid : Intake) (p : Grows x y old mid) (more : List ℕ) (broken : Bool)
    → comes (held e row None old) (p.taken ++ more) broken ≡ coming e.charset row broken (mid.buffer ++ more)
comes_grown e row old mid p more broken =
    comes_is e row old (p.taken ++ more) broken
    ∙ ap (coming e.charset row broken) (sym (append_assoc old.buffer p.taken more) ∙ ap (λ (w : List ℕ). w ++ more) (sym p.bytes))

-- bytes cut after a line
cut_at : (n : ℕ) (bytes more : List ℕ) → bytes ++ more ≡ take n bytes ++ (drop n bytes ++ more)
cut_at n bytes more = ap (λ (w : List ℕ). w ++ more) (sym (take-append-drop n bytes)) ∙ append_assoc (take n bytes) (drop n bytes) more

-- no line was given
pub gives_nothing : {x y : Seen} (e : Named) (row : ℕ) (old mid : Intake) (p : Grows x y old mid)
    → Gives (held e row None old) p.taken [] (held e row None mid)
gives_nothing e row old mid p more broken f =
    (follows_back old.reach more broken p.takes f, comes_grown e row old mid p more broken ∙ sym (comes_is e row mid more broken))

-- a fault is told again
pub gives_fault : (e : Named) (row : ℕ) (fault : LineFault) (i : Intake)
    → Gives (held e row (Some fault) i) [] [] (held e row (Some fault) i)
gives_fault e row fault i more broken f = (f, refl)

-- a line with its line feed
pub gives_line : {x y : Seen} (e : Named) (row end : ℕ) (old mid : Intake) (p : Grows x y old mid) → LineAt 0 end mid.buffer
    → first_bad e.charset (take end mid.buffer) ≡ None
    → Gives (held e row None old) p.taken (take end mid.buffer) (held e (row + 1) None (skipped end mid))
gives_line e row end old mid p at good more broken f =
    let front = line_front end mid.buffer at in
    let line = take end mid.buffer in
    let rest = drop end mid.buffer ++ more in
    let first : coming e.charset row broken (line ++ rest) ≡ onto line (coming e.charset (row + 1) broken rest) =
    subst (λ (l : List ℕ). coming e.charset row broken (l ++ rest) ≡ onto l (coming e.charset (row + 1) broken rest)) (sym front)
    (coming_line e.charset row broken (take (end - 1) mid.buffer) rest (line_clean end mid.buffer at)
    (ap (first_bad e.charset) (sym front) ∙ good)) in (
      follows_back old.reach more broken p.takes f,
      comes_grown e row old mid p more broken ∙ ap (coming e.charset row broken) (cut_at end mid.buffer more) ∙ first
          ∙ ap (onto line) (sym (comes_is e (row + 1) (skipped end mid) more broken)),
    )

-- what is told of it
pub is_line : (end : ℕ) (bytes : List ℕ) → LineAt 0 end bytes → IsUtf8 (take end bytes)
    → IsLine (take end bytes) × (ends_line (take end bytes) ≡ true)
is_line end bytes at utf8 =
    let front = line_front end bytes at in (
      record {
        one = subst (λ (l : List ℕ). lines_of l ≡ l ∷ []) (sym front) (one_line (take (end - 1) bytes) (line_clean end bytes at));
        utf8 = utf8;
      },
      ap ends_line front ∙ ends_at_lf (take (end - 1) bytes),
    )

-- a faulty line with its line feed
pub gives_bad : {x y : Seen} (e : Named) (row end : ℕ) (old mid : Intake) (p : Grows x y old mid) (bad : ℕ × LineError)
    → LineAt 0 end mid.buffer → first_bad e.charset (take end mid.buffer) ≡ Some bad
    → Gives (held e row None old) p.taken [] (held e row (Some (fault_at row (take end mid.buffer) bad)) mid)
gives_bad e row end old mid p bad at is more broken f =
    let front = line_front end mid.buffer at in
    let line = take end mid.buffer in
    let rest = drop end mid.buffer ++ more in
    let first : coming e.charset row broken (line ++ rest) ≡ record { text = []; fault = Some (fault_at row line bad) } =
    subst (λ (l : List ℕ). coming e.charset row broken (l ++ rest) ≡ record { text = []; fault = Some (fault_at row l bad) }) (sym front)
    (coming_bad e.charset row broken (take (end - 1) mid.buffer) rest bad (line_clean end mid.buffer at)
    (ap (first_bad e.charset) (sym front) ∙ is)) in (
      follows_back old.reach more broken p.takes f,
      comes_grown e row old mid p more broken ∙ ap (coming e.charset row broken) (cut_at end mid.buffer more) ∙ first
          ∙ sym (comes_fault e row (fault_at row line bad) mid more broken),
    )

-- what is to come then
left_comes : (e : Named) (row end : ℕ) (mid : Intake) → LineLeft 0 end mid → (more : List ℕ) (broken : Bool)
    → FollowsAt mid.reach more broken → coming e.charset row broken (mid.buffer ++ more) ≡ coming e.charset row false (take end mid.buffer)
left_comes e row end mid left more broken f =
    let none = at_end mid.reach more broken left.reach f in
    ap (λ (w : List ℕ). coming e.charset row broken (mid.buffer ++ w)) none.0
    ∙ ap (λ (b : Bool). coming e.charset row b (mid.buffer ++ [])) none.1
    ∙ ap (coming e.charset row false) (append-nil mid.buffer ∙ sym (take_all end mid.buffer (omega (arith, left.all))))

left_clean : (end : ℕ) (mid : Intake) → LineLeft 0 end mid → NoLf (take end mid.buffer)
left_clean end mid left = subst NoLf (sym (take_all end mid.buffer (omega (arith, left.all)))) (no_lf_all mid.buffer left.none)

left_size : (end : ℕ) (mid : Intake) → LineLeft 0 end mid → length (take end mid.buffer) ≡ end
left_size end mid left = ap length (take_all end mid.buffer (omega (arith, left.all))) ∙ sym left.all

-- a list of no length
pub no_more : (xs : List ℕ) → length xs ≡ 0 → xs ≡ []
no_more [] h = refl
no_more (x ∷ xs) h = absurd (omega (arith, h))

-- nothing is left after it
left_none : (end : ℕ) (mid : Intake) → LineLeft 0 end mid → drop end mid.buffer ≡ []
left_none end mid left = no_more (drop end mid.buffer) (let size = length-drop end mid.buffer in omega (arith, left.all, size))

-- a last line without line feed
pub gives_last : {x y : Seen} (e : Named) (row end : ℕ) (old mid : Intake) (p : Grows x y old mid) → LineLeft 0 end mid → 0 < end
    → first_bad e.charset (take end mid.buffer) ≡ None
    → Gives (held e row None old) p.taken (take end mid.buffer) (held e (row + 1) None (skipped end mid))
gives_last e row end old mid p left some good more broken f =
    let line = take end mid.buffer in
    let size = left_size end mid left in
    let none = at_end mid.reach more broken left.reach f in
    let empty : drop end mid.buffer ++ more ≡ [] = ap (λ (w : List ℕ). w ++ more) (left_none end mid left) ∙ none.0 in
    let following : coming e.charset (row + 1) false [] ≡ comes (held e (row + 1) None (skipped end mid)) more broken =
    sym (comes_is e (row + 1) (skipped end mid) more broken ∙ ap (coming e.charset (row + 1) broken) empty
    ∙ ap (λ (b : Bool). coming e.charset (row + 1) b []) none.1) in (
      follows_back old.reach more broken p.takes f,
      comes_grown e row old mid p more broken ∙ left_comes e row end mid left more broken f
          ∙ coming_last e.charset row line (left_clean end mid left) (omega (arith, size)) good ∙ ap (onto line) following,
    )

-- a faulty one
pub gives_last_bad : {x y : Seen} (e : Named) (row end : ℕ) (old mid : Intake) (p : Grows x y old mid) (bad : ℕ × LineError)
    → LineLeft 0 end mid → 0 < end → first_bad e.charset (take end mid.buffer) ≡ Some bad
    → Gives (held e row None old) p.taken [] (held e row (Some (fault_at row (take end mid.buffer) bad)) mid)
gives_last_bad e row end old mid p bad left some is more broken f =
    let line = take end mid.buffer in
    let size = left_size end mid left in (
      follows_back old.reach more broken p.takes f,
      comes_grown e row old mid p more broken ∙ left_comes e row end mid left more broken f
          ∙ coming_last_bad e.charset row line bad (left_clean end mid left) (omega (arith, size)) is
          ∙ sym (comes_fault e row (fault_at row line bad) mid more broken),
    )

-- what is told of a last line
pub is_last : (end : ℕ) (mid : Intake) → LineLeft 0 end mid → 0 < end → IsUtf8 (take end mid.buffer) → IsLine (take end mid.buffer)
is_last end mid left some utf8 = let size = left_size end mid left in record {
  one = lines_alone (take end mid.buffer) (left_clean end mid left) (omega (arith, size));
  utf8 = utf8;
}

-- Nothing comes after it.
pub only_after : (e : Named) (row end : ℕ) (mid : Intake) → LineLeft 0 end mid → ComesOnly (held e row None (skipped end mid)) None
only_after e row end mid left more broken f =
    let none = at_end mid.reach more broken left.reach f in
    let empty : drop end mid.buffer ++ more ≡ [] = ap (λ (w : List ℕ). w ++ more) (left_none end mid left) ∙ none.0 in
    comes_is e row (skipped end mid) more broken ∙ ap (coming e.charset row broken) empty
    ∙ ap (λ (b : Bool). coming e.charset row b []) none.1 ∙ coming_none e.charset row

-- nor at the end
pub only_end : (e : Named) (row : ℕ) (mid : Intake) → LineLeft 0 0 mid → ComesOnly (held e row None mid) None
only_end e row mid left more broken f =
    comes_is e row mid more broken ∙ left_comes e row 0 mid left more broken f ∙ coming_none e.charset row

-- only the fault comes
pub only_fault : (e : Named) (row : ℕ) (fault : LineFault) (i : Intake) → ComesOnly (held e row (Some fault) i) (Some fault)
only_fault e row fault i more broken f = comes_fault e row fault i more broken

pub cut_off : (r : Reach) (more : List ℕ) (broken : Bool) → (r ≡ Broken) ⊎ (r ≡ Passed) → FollowsAt r more broken
    → (more ≡ []) × (broken ≡ true)
cut_off r more broken (inl e) f = subst (λ (q : Reach). FollowsAt q more broken) e f
cut_off r more broken (inr e) f = subst (λ (q : Reach). FollowsAt q more broken) e f

-- or that the line could not be read whole
pub only_unread : (e : Named) (row : ℕ) (mid : Intake) → LineUnread 0 mid → ComesOnly (held e row None mid) (Some (unread row))
only_unread e row mid cut more broken f =
    let none = cut_off mid.reach more broken cut.reach f in
    comes_is e row mid more broken ∙ ap (λ (w : List ℕ). coming e.charset row broken (mid.buffer ++ w)) none.0
    ∙ ap (λ (b : Bool). coming e.charset row b (mid.buffer ++ [])) none.1 ∙ ap (coming e.charset row true) (append-nil mid.buffer)
    ∙ coming_cut e.charset row mid.buffer (no_lf_all mid.buffer cut.none)

-- Where no read fails, the source that a reader gives is the source that its bytes are.
or_none : {X : Type 0} (o : Option X) → option_or o None ≡ o
or_none None = refl
or_none (Some x) = refl

under_whole : (r : Result Named SourceFault) (bytes : List ℕ) → stream_under r false bytes ≡ as_stream (source_under r bytes)
unfolding stream_under coming
under_whole (Ok named) bytes =
    let lines = lines_of (without_mark bytes) in
    ap (λ (f : Option LineFault). let x : Result Parts StreamFault =
    Ok (record { encoding = named; text = good_text named.charset lines; fault = f }) in x)
    (or_none (line_fault named.charset 1 lines))
under_whole (Err fault) bytes = refl

pub stream_is_source : (bytes : List ℕ) → stream_of false bytes ≡ as_stream (source_of bytes)
unfolding stream_of
stream_is_source bytes = under_whole (encoding_of (nth_line bytes 0) (nth_line bytes 1)) bytes
