-- A step of a lister that reads line by line.
--
-- Carries: step_is, stands_then, streams_entry, streams_other, for Steppings. On: Streaming, Lined,
-- Lying, Ranges and 2 more.
use Rattle.std.proofs.Common.{◌≡◌, ◌⊎◌, inl, inr, ⊎_elim, ℕ, ◌+◌, ◌<◌, Bool, List, [], ◌++◌, length, take, drop, refl, ap, sym, ◌∙◌}
use Rattle.std.proofs.Common.{subst, length-append, length-drop, arith, Some, None, string_bytes, zero, suc}
use Rattle.std.specs.Prelude.{slice_get}
use Rattle.std.specs.Str.{chars, IsUtf8}
use Rattle.std.proofs.lemmas.Str.{chars-append, chars-nil, IsUtf8-append}
use Rattle.pysource.specs.Parts.{Parts}
use Rattle.pysource.specs.Streams.{comes}
use Rattle.pylex.specs.declared.held_lines.HeldLines.{HeldLines}
use Rattle.pylex_listing.specs.declared.entries.Entry.{Entry}
use Rattle.pylex_listing.specs.declared.entries.Step.{Step}
use Rattle.pylex_listing.specs.declared.entries.Step.TheVariants as steps
use Rattle.pylex.specs.declared.machine.Machine.{Machine}
use Rattle.pylex.specs.declared.peeked.Peeked.TheVariants as peeked
use Rattle.pylex.specs.declared.line_lister.Found.{Found}
use Rattle.pylex_lexeme.specs.Chunks.{EndsLine}
use Rattle.pylex_lexeme.specs.Chars.{bytes_in}
use Rattle.pylex_listing.specs.Listing.{in_characters, listing, rest as rest_of_listing}
use Rattle.pylex.specs.Listers.{StandsIn, NextStep}
use Rattle.pylex.specs.Inner.MachineSteps.{shown_from, Holds, Advance, Ranges, left_by}
use Rattle.pylex.specs.LineState.{Peek}
use Rattle.pylex_listing.specs.Steps.{entries_in, first_step, IsIndent}
use Rattle.pylex.specs.Streamed.{Continues, StreamsIn, IsHeld}
use Rattle.pylex.specs.Inner.LineSteps.{IsStreaming, streamed, PeekedIn}
use Rattle.pylex.proofs.LineByLine.Lined.{lined_chars}
use Rattle.pylex.proofs.Listing.Lying.{entries_lie, step_lies}
use Rattle.pylex.proofs.Listers.Moving.{awaits_indent}
use Rattle.pylex.proofs.Listers.Ranges.{in_offset}
use Rattle.pylex.proofs.LineByLine.Reading.{lined_left, utf8_front}
use Rattle.pylex.proofs.LineByLine.Streaming.{Lined, utf8_after, finds_whole, end_whole, stands_whole}
use Rattle.pylex_lexeme.proofs.Callers.Fronts.{length-text}
use Rattle.pylex.proofs.Listing.Unencoded.{not_encoding}

-- nothing is left after a step without entry but what was left
left_same : (s : Step) (from to : List ℕ) → ((e : Entry) → s ≡ steps.Entry e → ⊥) → left_by s from to ≡ from
left_same (steps.Entry e) from to h = absurd (h e refl)
left_same steps.End from to h = refl
left_same (steps.Fault f) from to h = refl

-- Where an INDENT is met it comes next in each source.
pub indent_is : (q : Machine) (d : HeldLines) (f : Found) → IsStreaming q d None → PeekedIn q d f → f.peeked ≡ peeked.Indent → 0 < q.given
    → (s : Parts) (k : ℕ) (more : List ℕ) (broken : Bool) → Continues d.lines more broken → StreamsIn (streamed q d None) s k more broken
    → IsIndent (first_step (rest_of_listing (in_characters s) k))
indent_is q d f h m is some s k more broken g x =
    let coming = (comes d.lines more broken).text in
    let left = drop d.at (string_bytes d.text) in
    let following = drop f.at (string_bytes d.text) in
    let found = finds_whole (take q.nested q.levels.items) q.now left f.peeked f.now following coming s.fault f.fault h.left m.looks.left
    (lined_left (string_bytes d.text) d.at coming h.left x.ends) (m.stops s k more broken g x) m.looks.finds in
    let i = rw is at found in
    awaits_indent (record { source = s; shown = shown_from q }) q.now (left ++ coming) q.levels.items q.nested q.tail x.keeps refl some
    (no_tail q.tail m.looks.tail) f.now (chars (following ++ coming)) i.0 i.1 (in_characters s) k x.stands
  where
    no_tail : (n : ℕ) → (0 < n
        → (f.peeked ≡ peeked.Stop) × (f.now ≡ q.now) × (drop f.at (string_bytes d.text) ≡ drop d.at (string_bytes d.text))) → n ≡ 0
    no_tail zero t = refl
    no_tail (suc n) t = absurd (let z : peeked.Indent ≡ peeked.Stop = sym is ∙ (t (omega arith)).0 in cc)

module _ (q r : Machine) (d : HeldLines) (f : Found) (step : Step) (h : IsStreaming q d None) (m : PeekedIn q d f)
    (w : Advance q f.peeked f.now (drop f.at (string_bytes d.text)) f.fault step r) (s : Parts) (k : ℕ) (more : List ℕ) (broken : Bool)
    (g : Continues d.lines more broken) (x : StreamsIn (streamed q d None) s k more broken) where
  abbrev held : List ℕ
  held = string_bytes d.text

  abbrev coming : List ℕ
  coming = (comes d.lines more broken).text

  abbrev left : List ℕ
  left = drop d.at held

  abbrev rest : List ℕ
  rest = drop f.at held

  lined : Lined left coming
  lined = lined_left held d.at coming h.left x.ends

  found : Peek (take q.nested q.levels.items) q.now (chars (left ++ coming)) f.peeked f.now (chars (rest ++ coming))
  found = finds_whole (take q.nested q.levels.items) q.now left f.peeked f.now rest coming s.fault f.fault h.left m.looks.left lined
      (m.stops s k more broken g x) m.looks.finds

  gone : NextStep (record { source = s; shown = shown_from q }) step (record { source = s; shown = shown_from r }) × Holds s r
      (left_by step (left ++ coming) (rest ++ coming))
  gone = w.goes s (left ++ coming) (rest ++ coming) x.keeps found
      (stands_whole q.now f.now left rest coming x.keeps.stands h.left m.looks.left m.looks.room)
      (λ is levels. end_whole levels (take q.nested q.levels.items) q.now left f.peeked f.now rest coming s.fault f.fault h.left
      m.looks.left lined (m.stops s k more broken g x) m.looks.finds is)

  pub step_is : slice_get (listing (in_characters s)) k ≡ Some step
  step_is = (gone.0 (in_characters s) k x.stands).0

  pub stands_then : StandsIn (record { source = s; shown = shown_from r }) (in_characters s) (k + entries_in step)
  stands_then = (gone.0 (in_characters s) k x.stands).1

  pub keeps_then : Holds s r (left_by step (left ++ coming) (rest ++ coming))
  keeps_then = gone.1

  utf8_coming : IsUtf8 coming
  utf8_coming = utf8_after left coming x.keeps.stands.utf8 h.left

  utf8_held : IsUtf8 (held ++ coming)
  utf8_held = IsUtf8-append held coming h.text utf8_coming

  utf8_begin : IsUtf8 x.before
  utf8_begin = utf8_front x.before (held ++ coming) (subst IsUtf8 x.whole x.keeps.utf8) utf8_held

  size_text : bytes_in (chars s.text) ≡ length x.before + (length held + length coming)
  size_text = sym (length-text s.text x.keeps.utf8) ∙ ap length x.whole ∙ length-append x.before (held ++ coming)
      ∙ ap (λ n. length x.before + n) (length-append held coming)

  size_left : bytes_in (chars (left ++ coming)) ≡ length left + length coming
  size_left = sym (length-text (left ++ coming) x.keeps.stands.utf8) ∙ length-append left coming

  size_rest : bytes_in (chars (rest ++ coming)) ≡ length rest + length coming
  size_rest = sym (length-text (rest ++ coming) (IsUtf8-append rest coming m.looks.left utf8_coming)) ∙ length-append rest coming

  size_held : bytes_in (chars (held ++ coming)) ≡ length held + length coming
  size_held = sym (length-text (held ++ coming) utf8_held) ∙ length-append held coming

  size_begin : bytes_in (chars x.before) ≡ length x.before
  size_begin = sym (length-text x.before utf8_begin)

  begin_lines : (chars x.before ≡ []) ⊎ EndsLine (chars x.before)
  begin_lines = ⊎_elim (λ none. inl (ap chars none ∙ chars-nil)) (λ l. inr (lined_chars x.before utf8_begin l)) x.begins

  in_range : Ranges (bytes_in (chars x.before)) r.now.now.offset step
  in_range =
      let less = length-drop f.at held in
      let less_left = length-drop d.at held in
      let placed = in_offset (chars s.text) _ (chars (left ++ coming)) x.keeps.placed in
      w.ranges s (left ++ coming) (rest ++ coming) (chars x.before) (chars (held ++ coming)) x.keeps found (ap chars x.whole
      ∙ chars-append x.before (held ++ coming) utf8_begin) begin_lines
      (omega (arith, size_rest, size_held, less)) (omega (arith, placed, size_text, size_left, size_begin, less_left)) x.measuring

  module _ (e : Entry) (is : step ≡ steps.Entry e) where
    keeps_entry : Holds s r (rest ++ coming)
    keeps_entry = subst (Holds s r) (ap (λ t. left_by t (left ++ coming) (rest ++ coming)) is) keeps_then

    held_entry : IsHeld d.base held e
    held_entry =
        let range = subst (Ranges (bytes_in (chars x.before)) r.now.now.offset) is in_range in
        let placed = in_offset (chars s.text) _ (chars (rest ++ coming)) keeps_entry.placed in
        let less = length-drop f.at held in
        record {
          begins = omega (arith, range.0, size_begin, x.base);
          ends = omega (arith, range.1, placed, size_text, size_rest, x.base);
        }

    -- After an entry.
    pub streams_entry : 0 < k → StreamsIn (streamed r (record d { at = f.at }) (Some e)) s (k + entries_in step) more broken
    streams_entry some = record {
      before = x.before;
      whole = x.whole;
      base = x.base;
      begins = x.begins;
      closed = x.closed;
      joined = x.joined;
      ends = x.ends;
      encoding = x.encoding;
      fault = x.fault;
      stands = stands_then;
      keeps = keeps_entry;
      measuring = w.measuring (chars left) (chars rest) m.looks.finds x.measuring;
      last = inr (
        not_encoding (in_characters s) k e some (step_is ∙ ap Some is),
        held_entry,
        step_lies s.text (listing (in_characters s)) k (steps.Entry e) (entries_lie s x.keeps.utf8) (step_is ∙ ap Some is),
      );
    }

  -- Where no entry comes.
  pub streams_other : ((e : Entry) → step ≡ steps.Entry e → ⊥) → StreamsIn (streamed r d None) s (k + entries_in step) more broken
  streams_other no_entry = record {
    before = x.before;
    whole = x.whole;
    base = x.base;
    begins = x.begins;
    closed = x.closed;
    joined = x.joined;
    ends = x.ends;
    encoding = x.encoding;
    fault = x.fault;
    stands = stands_then;
    keeps = subst (Holds s r) (left_same step (left ++ coming) (rest ++ coming) no_entry) keeps_then;
    measuring = w.measuring (chars left) (chars rest) m.looks.finds x.measuring;
    last = tt;
  }
