-- What a call for the next line did, by how it ended.
--
-- Carries: LineReader::next_line. On: StreamLemmas, HeadLemmas, CutLemmas, ComingLemmas and 1 more.
use Rattle.std.proofs.Common.{◌≡◌, ◌≢◌, ℕ, ◌+◌, ◌-◌, ◌<◌, ◌≤◌, List, ◌∷◌, get_or, [], ◌++◌, length, take, None, Some, Ok, Result, sym, ap}
use Rattle.std.proofs.Common.{refl, inl, inr, ◌∙◌, arith, append-nil, length-append}
use Rattle.std.specs.Prelude.{◌⊎◌, IsUtf8}
use Rattle.std.specs.declared.alloc.AllocError.{AllocError}
use Rattle.std.proofs.lemmas.List.{length-take-le, length-drop, get_or_append_left}
use Rattle.pysource.specs.Bytes.{Seen}
use Rattle.pysource.specs.Names.{Named}
use Rattle.pysource.specs.Lines.{first_bad}
use Rattle.std.proofs.lemmas.Bool.{cases_lt}
use Rattle.pysource.specs.Sources.{nth_line}
use Rattle.pysource.specs.Taking.{Grows, LineAt, LineThere, LineLeft, LineUnread, NoLfFrom}
use Rattle.pysource.specs.Streams.{NextLine, Tells, IsText, fault_at, past_first}
use Rattle.pysource.specs.declared.buffers.Intake.{Intake}
use Rattle.pysource.specs.declared.line_reader.LineRead.{LineRead}
use Rattle.pysource.specs.declared.line_reader.LineRead.TheVariants as lines
use Rattle.pysource.specs.declared.faults.LineError.{LineError}
use Rattle.pysource.specs.declared.faults.LineFault.{LineFault}
use Rattle.pysource.proofs.FaultyLines.CutLemmas.{first_of_alone}
use Rattle.pysource.proofs.LineReading.ComingLemmas.{no_lf_all}
use Rattle.pysource.proofs.LineReading.HeadLemmas.{nth_first, nth_here}
use Rattle.pysource.proofs.TakenBytes.TakingLemmas.{ReadsBytes-none}
use Rattle.pysource.proofs.LineReading.StreamLemmas.{held, skipped, gives_nothing, gives_fault, gives_line, gives_last, gives_bad}
use Rattle.pysource.proofs.LineReading.StreamLemmas.{gives_last_bad, is_line, is_last, only_after, only_end, only_fault, only_unread}

-- bytes without line feed are their own first line
pub none_past : (bytes : List ℕ) → NoLfFrom 0 (length bytes) bytes → past_first bytes ≡ 0
none_past bytes none = let e = ap length (first_of_alone bytes (no_lf_all bytes none)).0 in omega (arith, e)

-- how much stands after a first line
line_past : (end : ℕ) (bytes : List ℕ) → LineAt 0 end bytes → past_first bytes ≡ length bytes - end
line_past end bytes at =
    let e = ap length (nth_here 0 bytes _ (nth_first end bytes [] at)) in
    let size = length-take-le end bytes at.within in
    omega (arith, e, size)

-- what stands at the front of bytes without line feed has none
clean_front : (old new taken : List ℕ) (n : ℕ) → new ≡ old ++ taken → length old ≤ n → NoLfFrom 0 n new → NoLfFrom 0 (length old) old
clean_front old new taken n e more none k low high is =
    none k low (omega arith) (ap (λ (w : List ℕ). get_or w k 0) e ∙ get_or_append_left old taken 0 k high ∙ is)

-- the first line of some bytes is no longer than that of more
first_clean : (old new taken : List ℕ) → new ≡ old ++ taken → NoLfFrom 0 (length new) new → length (nth_line old 0) ≤ length new
first_clean old new taken e none =
    let size = ap length e in
    let both = length-append old taken in
    let more : length old ≤ length new = omega (arith, size, both) in
    let first = ap length (first_of_alone old (no_lf_all old (clean_front old new taken (length new) e more none))).0 in
    omega (arith, first, more)

first_there : (end : ℕ) (old new taken : List ℕ) → new ≡ old ++ taken → LineAt 0 end new → length (nth_line old 0) ≤ end
first_there end old new taken e at = elim (cases_lt (length old) end) [
  | inl short ↦
      let first = ap length (first_of_alone old (no_lf_all old (clean_front old new taken (end - 1) e (omega arith) at.before))).0 in
      omega (arith, first)
  | inr long ↦
      let here : LineAt 0 end old = record {
        some = at.some;
        within = long;
        before = λ k low high is. at.before k low high (ap (λ (w : List ℕ). get_or w k 0) e
            ∙ get_or_append_left old taken 0 k (omega arith) ∙ is);
        at = sym (ap (λ (w : List ℕ). get_or w (end - 1) 0) e ∙ get_or_append_left old taken 0 (end - 1) (omega (arith, at.some))) ∙ at.at;
      } in
      let first = ap length (nth_here 0 old _ (nth_first end old [] here)) in
      let size = length-take-le end old long in
      omega (arith, first, size)
]

-- what is taken past a line that is kept
pub past_found : (end : ℕ) (old mid : Intake) (taken : List ℕ) → mid.buffer ≡ old.buffer ++ taken
    → LineThere 0 end old mid ⊎ LineLeft 0 end mid → (mid.buffer ≡ old.buffer) ⊎ (past_first mid.buffer ≤ 8_192)
past_found end old mid taken e (inr last) = inr (omega (arith, none_past mid.buffer last.none))
past_found end old mid [] e (inl there) = inl (e ∙ append-nil old.buffer)
past_found end old mid (x ∷ taken) e (inl there) =
    let size = ap length e in
    let both = length-append old.buffer (x ∷ taken) in
    let past = line_past end mid.buffer there.line in
    inr (omega (arith, size, both, past, there.ahead))

-- no line was given
pub moves_nothing : {x y : Seen} (e : Named) (row : ℕ) (old mid : Intake) (chunk chunk' : List ℕ) (result : Result LineRead AllocError)
    → Grows x y old mid → chunk' ≡ chunk → Tells result [] (held e row None mid) → (IsText result → ⊥)
    → (mid.buffer ≡ old.buffer) ⊎ (past_first mid.buffer ≤ 8_192)
    → NextLine x y (held e row None old) (held e row None mid) chunk chunk' result
moves_nothing e row old mid chunk chunk' result p same tells not kept = record {
  taken = p.taken;
  line = [];
  reads = p.takes;
  gives = gives_nothing e row old mid p;
  chunk = same ∙ sym (append-nil chunk);
  tells = tells;
  sizes = omega (arith, ap length p.bytes, length-append old.buffer p.taken);
  ahead = λ is. absurd (not is);
  first = λ is. absurd (not is);
  kept = λ _. kept;
  same = refl;
}

-- a fault is told again
pub moves_told : (x : Seen) (e : Named) (row : ℕ) (fault : LineFault) (i : Intake) (chunk : List ℕ)
    → NextLine x x (held e row (Some fault) i) (held e row (Some fault) i) chunk chunk (Ok (lines.Fault fault))
moves_told x e row fault i chunk = record {
  taken = [];
  line = [];
  reads = ReadsBytes-none x i.count i.reach;
  gives = gives_fault e row fault i;
  chunk = sym (append-nil chunk);
  tells = (refl, refl, only_fault e row fault i);
  sizes = omega arith;
  ahead = λ is. cc;
  first = λ is. cc;
  kept = λ _. inl refl;
  same = refl;
}

-- a line was given
pub moves_text : {x y : Seen} (e : Named) (row end : ℕ) (old mid : Intake) (chunk chunk' : List ℕ) → Grows x y old mid
    → LineThere 0 end old mid ⊎ LineLeft 0 end mid → end ≢ 0
    → first_bad e.charset (take end mid.buffer) ≡ None → IsUtf8 (take end mid.buffer) → chunk' ≡ chunk ++ take end mid.buffer
    → NextLine x y (held e row None old) (held e (row + 1) None (skipped end mid)) chunk chunk' (Ok lines.Text)
moves_text e row end old mid chunk chunk' p (inl there) some good utf8 is =
    let size = length-take-le end mid.buffer there.line.within in
    let left = length-drop end mid.buffer in
    let grown = length-append old.buffer p.taken in
    let told = is_line end mid.buffer there.line utf8 in
    record {
      taken = p.taken;
      line = take end mid.buffer;
      reads = p.takes;
      gives = gives_line e row end old mid p there.line good;
      chunk = is;
      tells = (told.0, inl told.1);
      sizes = omega (arith, ap length p.bytes, grown, size, left, there.line.within);
      ahead = λ _. omega (arith, there.ahead, size, left);
      first = λ _. omega (arith, size, first_there end old.buffer mid.buffer p.taken p.bytes there.line);
      kept = λ not. absurd (not refl);
      same = refl;
    }
moves_text e row end old mid chunk chunk' p (inr last) some good utf8 is =
    let size = length-take-le end mid.buffer (omega (arith, last.all)) in
    let left = length-drop end mid.buffer in
    let grown = length-append old.buffer p.taken in
    let more : 0 < end = omega (arith, some) in
    record {
      taken = p.taken;
      line = take end mid.buffer;
      reads = p.takes;
      gives = gives_last e row end old mid p last more good;
      chunk = is;
      tells = (is_last end mid last more utf8, inr (only_after e (row + 1) end mid last));
      sizes = omega (arith, ap length p.bytes, grown, size, left, last.all);
      ahead = λ _. omega (arith, last.all, left);
      first = λ _. omega (arith, size, last.all, first_clean old.buffer mid.buffer p.taken p.bytes last.none);
      kept = λ not. absurd (not refl);
      same = refl;
    }

-- a faulty line
pub moves_bad : {x y : Seen} (e : Named) (row end : ℕ) (old mid : Intake) (chunk chunk' : List ℕ) (bad : ℕ × LineError) → Grows x y old mid
    → LineThere 0 end old mid ⊎ LineLeft 0 end mid → end ≢ 0
    → first_bad e.charset (take end mid.buffer) ≡ Some bad → chunk' ≡ chunk
    → NextLine x y (held e row None old) (held e row (Some (fault_at row (take end mid.buffer) bad)) mid) chunk chunk'
    (Ok (lines.Fault (fault_at row (take end mid.buffer) bad)))
moves_bad e row end old mid chunk chunk' bad p found some is same = record {
  taken = p.taken;
  line = [];
  reads = p.takes;
  gives = elim found [
    | inl there ↦ gives_bad e row end old mid p bad there.line is
    | inr last ↦ gives_last_bad e row end old mid p bad last (omega (arith, some)) is
  ];
  chunk = same ∙ sym (append-nil chunk);
  tells = (refl, refl, only_fault e row (fault_at row (take end mid.buffer) bad) mid);
  sizes = omega (arith, ap length p.bytes, length-append old.buffer p.taken);
  ahead = λ is. cc;
  first = λ is. cc;
  kept = λ _. past_found end old mid p.taken p.bytes found;
  same = refl;
}

-- the end
pub tells_end : (e : Named) (row : ℕ) (old mid : Intake) → LineThere 0 0 old mid ⊎ LineLeft 0 0 mid
    → Tells (Ok lines.End) [] (held e row None mid)
tells_end e row old mid (inl there) = absurd (omega (arith, there.line.some))
tells_end e row old mid (inr last) = (refl, only_end e row mid last, none_of mid.buffer (omega (arith, last.all)))
  where
    none_of : (bytes : List ℕ) → length bytes ≡ 0 → bytes ≡ []
    none_of [] h = refl
    none_of (x ∷ bytes) h = absurd (omega arith)

-- a line that could not be read whole
pub tells_unread : (e : Named) (row : ℕ) (mid : Intake) → LineUnread 0 mid → Tells (Ok lines.Read) [] (held e row None mid)
tells_unread e row mid cut = (refl, cut.reach, only_unread e row mid cut)
