-- A lister that begins over a reader, and the text of what it gave last.
--
-- Carries: LineLister::new, LineLister::text. On: Moving, LexedOn, Searching, Ranges.
use Rattle.std.proofs.Common.{◌≡◌, ◌≢◌, inl, ⊎_elim, ℕ, ◌+◌, ◌-◌, ◌≤◌, Bool, true, false, List, [], ◌∷◌, ◌++◌, length, take, drop, refl, ap}
use Rattle.std.proofs.Common.{sym, ◌∙◌, subst, length-append, length-drop, arith, Option, Some, None, string_bytes}
use Rattle.std.specs.Prelude.{slice_range, slice_index}
use Rattle.std.specs.Str.{IsCharBoundary}
use Rattle.std.proofs.Math.Seq.{drop-append-add}
use Rattle.std.proofs.lemmas.List.{take-append-le, drop-append-le, get_or-append-add, get_or_append_left}
use Rattle.std.proofs.lemmas.Str.{IsUtf8-nil, chars-nil}
use Rattle.pysource.specs.Parts.{Parts}
use Rattle.pysource.specs.Limits.{source_limit}
use Rattle.pysource.specs.Streams.{comes, ends_line}
use Rattle.pysource.proofs.Callers.Faults.{comes_utf8, comes_len}
use Rattle.pylex.specs.declared.held_lines.HeldLines.{HeldLines}
use Rattle.pylex_listing.specs.declared.entries.Entry.{Entry}
use Rattle.pylex_listing.specs.declared.kind.Kind.{Kind}
use Rattle.pylex_listing.specs.declared.kind.Kind.TheVariants as kinds
use Rattle.pylex.specs.declared.machine.Machine.{Machine}
use Rattle.pylex_listing.specs.Laws.{LiesIn}
use Rattle.pylex.specs.Held.{IsJoined, at_left}
use Rattle.pylex_lexeme.specs.Lexemes.{left_by_cut}
use Rattle.pylex.proofs.LineByLine.LexedOn.{left_all}
use Rattle.pylex_listing.specs.ListingLines.{text_of}
use Rattle.pylex.proofs.LineByLine.Searching.{witness}
use Rattle.pylex.specs.Listers.{shown_by, shown_at}
use Rattle.pylex_listing.specs.Machine.{first_state}
use Rattle.pylex.specs.LineState.{with_levels}
use Rattle.pylex.specs.Streamed.{Continues, StreamsIn, IsHeld, HoldsLast}
use Rattle.pylex.specs.Inner.LineSteps.{IsStreaming, streamed}
use Rattle.pylex.proofs.Listers.Moving.{keeps_first, shown_first}
use Rattle.pylex.proofs.Listers.Ranges.{measuring_start}

-- no line ends in no text
joined_none : (text before : List ℕ) → text ≡ [] → IsJoined before text
joined_none text before none front back e feed some = absurd (no_front front back (sym none ∙ e) feed)
  where
    no_front : (front back : List ℕ) → [] ≡ front ++ back → ends_line front ≡ true → ⊥
    no_front [] back e feed = let f : false ≡ true = feed in cc
    no_front (c ∷ front) back e feed = cc

module _ (p : Machine) (c : HeldLines) (given : p.given ≡ 0) (point : (k : ℕ) (ls : List ℕ)
    → shown_by k p.point ls 0 ≡ shown_at k (with_levels p.now (0 ∷ ls))) (levels : p.levels.items ≡ [])
    (now : with_levels p.now (0 ∷ []) ≡ first_state) (nested : p.nested ≡ 0) (tail : p.tail ≡ 0) (text : string_bytes c.text ≡ [])
    (base : c.base ≡ 0) (at : c.at ≡ 0) (within : c.lines.count ≤ source_limit) (pending : length c.lines.pending ≤ c.lines.count) where
  -- the source that comes
  abbrev pub source_by : List ℕ → Bool → Parts
  source_by more broken = record {
    encoding = c.lines.encoding;
    text = (comes c.lines more broken).text;
    fault =
        (comes c.lines more broken).fault;
  }

  no_left : drop c.at (string_bytes c.text) ≡ []
  no_left = rw (text, at) refl

  pub streams_begin : (more : List ℕ) (broken : Bool) → Continues c.lines more broken
      → StreamsIn (streamed p c None) (source_by more broken) 0 more broken
  streams_begin more broken g =
      let s = source_by more broken in
      let utf8 = comes_utf8 c.lines more broken in
      let small : length s.text ≤ source_limit = omega (arith, comes_len c.lines more broken, g.1) in
      record {
        before = [];
        whole = ap (λ t. t ++ s.text) (sym text);
        base = sym base;
        begins = inl refl;
        closed = ap left_by_cut chars-nil ∙ left_all [] at_left;
        joined = joined_none (string_bytes c.text) [] text;
        ends = inl text;
        encoding = refl;
        fault = refl;
        stands = rw (given, nested, tail) (shown_first s p.now p.point p.levels.items levels now point);
        keeps = rw (given, nested, tail, no_left) (keeps_first s p.now p.point p.levels.items utf8 small levels now point);
        measuring = measuring_start p.now now;
        last = tt;
      }

  pub streaming_begin : string_bytes c.spare ≡ [] → IsStreaming p c None
  streaming_begin spare = record {
    chunk = record { spare = spare; at = omega arith };
    text = rw text IsUtf8-nil;
    within = within;
    left = rw no_left IsUtf8-nil;
    lexed = rw (text, at) at_left;
    joined = joined_none (string_bytes c.text) [] text;
    fresh = λ _. text;
    stands = λ more broken g. (
      source_by more broken,
      subst (λ n. StreamsIn (streamed p c None) (source_by more broken) n more broken)
          (sym given) (streams_begin more broken g),
    );
  }

-- A part of a text that stands in another.
boundary_in : (before held coming : List ℕ) (i : ℕ) → IsCharBoundary (before ++ (held ++ coming)) i → length before ≤ i
    → i ≤ length before + length held → IsCharBoundary held (i - length before)
boundary_in before held coming i h low high =
    let j = i - length before in
    let e : i ≡ length before + j = omega arith in (
      omega arith,
      λ less first.
          let same : slice_index (before ++ (held ++ coming)) i ≡ slice_index held j = ap (slice_index (before ++ (held ++ coming))) e
          ∙ get_or-append-add before (held ++ coming) j 0 ∙ get_or_append_left held coming 0 j less in
          let n = length-append before (held ++ coming) in
          let m = length-append held coming in
          subst (λ b. 192 ≤ b) same (h.1 (omega arith) (subst (λ b. 128 ≤ b) (sym same) first)),
    )

slice_in : (before held coming : List ℕ) (i j : ℕ) → length before ≤ i → i ≤ j → j ≤ length before + length held
    → slice_range held (i - length before) (j - length before) ≡ slice_range (before ++ (held ++ coming)) i j
slice_in before held coming i j low order high =
    let k = i - length before in
    let e : i ≡ length before + k = omega arith in
    let n : j - length before - k ≡ j - i = omega arith in
    let fits : j - i ≤ length (drop k held) = omega (arith, length-drop k held) in
    sym (
    ap (λ m. take (j - i) (drop m (before ++ (held ++ coming)))) e
    ∙ ap (take (j - i)) (drop-append-add before (held ++ coming) k ∙ drop-append-le k held coming (omega arith))
    ∙ take-append-le (j - i) (drop k held) coming fits
    ∙ ap (λ m. take m (drop k held)) (sym n)
    )

-- The text of the entry that was given last is held.
pub record HeldHere (c : HeldLines) (e : Entry) : Type 0 where
  pub low : c.base ≤ e.«from»
  pub order : e.«from» ≤ e.to
  pub high : e.to ≤ c.base + length (string_bytes c.text)
  pub first : IsCharBoundary (string_bytes c.text) (e.«from» - c.base)
  pub last : IsCharBoundary (string_bytes c.text) (e.to - c.base)

plain_text : (p : Parts) (e : Entry) → e.kind ≢ kinds.Encoding → text_of p e ≡ slice_range p.text e.«from» e.to
plain_text p e h = by e.kind refl
  where
    by : (k : Kind) → e.kind ≡ k → text_of p e ≡ slice_range p.text e.«from» e.to
    by kinds.Encoding is = absurd (h is)
    by kinds.Name is = rw is refl
    by kinds.Number is = rw is refl
    by kinds.String is = rw is refl
    by kinds.Op is = rw is refl
    by kinds.Comment is = rw is refl
    by kinds.Nl is = rw is refl
    by kinds.Newline is = rw is refl
    by kinds.Indent is = rw is refl
    by kinds.Dedent is = rw is refl
    by kinds.EndMarker is = rw is refl

module _ (p : Machine) (c : HeldLines) (last : Option Entry) (e : Entry) (is : last ≡ Some e) (kind : e.kind ≢ kinds.Encoding) where
  here_in : (s : Parts) (k : ℕ) (more : List ℕ) (broken : Bool) → StreamsIn (streamed p c last) s k more broken
      → IsHeld c.base (string_bytes c.text) e × LiesIn s.text e
  here_in s k more broken x = ⊎_elim (λ h. absurd (kind h.0)) (λ h. (h.1, h.2))
      (subst (HoldsLast c.base (string_bytes c.text) s.text) is x.last)

  pub held_here : IsStreaming p c last → HeldHere c e
  held_here h =
      let w = witness p c last h in
      let x = w.streams in
      let l = here_in w.source p.given w.more w.broken x in
      let coming = (comes c.lines w.more w.broken).text in
      let low = l.0.begins in
      let high = l.0.ends in
      let order = l.1.order in
      let base = x.base in
      record {
        low = low;
        order = order;
        high = high;
        first = subst (λ b. IsCharBoundary (string_bytes c.text) (e.«from» - b)) base (boundary_in x.before (string_bytes c.text) coming
            e.«from» (subst (λ t. IsCharBoundary t e.«from») x.whole l.1.first) (omega arith) (omega arith));
        last = subst (λ b. IsCharBoundary (string_bytes c.text) (e.to - b)) base (boundary_in x.before (string_bytes c.text) coming e.to
            (subst (λ t. IsCharBoundary t e.to) x.whole l.1.last) (omega arith) (omega arith));
      }

  pub text_here : (s : Parts) (k : ℕ) (more : List ℕ) (broken : Bool) → StreamsIn (streamed p c last) s k more broken
      → slice_range (string_bytes c.text) (e.«from» - c.base) (e.to - c.base) ≡ text_of s e
  text_here s k more broken x =
      let l = here_in s k more broken x in
      let coming = (comes c.lines more broken).text in
      let low = l.0.begins in
      let high = l.0.ends in
      let order = l.1.order in
      let base = x.base in
      subst (λ b. slice_range (string_bytes c.text) (e.«from» - b) (e.to - b) ≡ text_of s e) base
      (slice_in x.before (string_bytes c.text) coming e.«from» e.to (omega arith) order (omega arith)
      ∙ ap (λ t. slice_range t e.«from» e.to) (sym x.whole)
      ∙ sym (plain_text s e kind))
