-- A lister that looks for what it meets next.
--
-- Carries: LineLister::cursor, LineLister::next, line_lister::find, look, line_lister::pass,
-- pass_on. On: Reading, LexedOn, Lined, AheadOn.
use Rattle.std.proofs.Common.{◌≡◌, ◌⊎◌, inl, inr, ⊎_elim, ℕ, ◌+◌, ◌-◌, ◌≤◌, ◌<◌, Bool, true, false, List, [], ◌++◌, length, take, drop}
use Rattle.std.proofs.Common.{refl, ap, sym, ◌∙◌, subst, append-nil, append_assoc, length-append, arith, Option, None, string_bytes}
use Rattle.std.specs.Prelude.{Result, Ok, ◌==◌, ◌||◌, ◌&&◌}
use lib.Utf8.{encodes}
use Rattle.std.specs.declared.alloc.AllocError.{AllocError}
use Rattle.std.specs.Str.{chars, IsUtf8, IsCharBoundary}
use Rattle.std.proofs.lemmas.Bool.{ne_eqb}
use Rattle.std.proofs.lemmas.List.{take-append-drop, length-drop}
use Rattle.std.proofs.lemmas.Str.{encodes-chars, chars-append, IsUtf8-append, IsCharBoundary-from_drop}
use Rattle.std.proofs.Math.Seq.{drop-append_seam}
use Rattle.pysource.specs.Bytes.{Seen}
use Rattle.pysource.specs.Parts.{Parts}
use Rattle.pysource.specs.Limits.{source_limit}
use Rattle.pysource.specs.declared.faults.LineFault.{LineFault}
use Rattle.pysource.specs.declared.line_reader.LineRead.{LineRead}
use Rattle.pysource.specs.declared.line_reader.LineRead.TheVariants as lines
use Rattle.pysource.specs.declared.line_reader.Reach.{Reach}
use Rattle.pysource.specs.declared.line_reader.Reach.TheVariants as reach
use Rattle.pysource.specs.Streams.{Buffered, Coming, FollowsAt, ComesOnly, comes, ends_line}
use Rattle.pysource.proofs.Callers.Taken.{ReadsBytes-none, ReadsBytes-on}
use Rattle.pylex.specs.declared.held_lines.HeldLines.{HeldLines}
use Rattle.pylex_listing.specs.declared.entries.Entry.{Entry}
use Rattle.pylex.specs.declared.peeked.Peeked.TheVariants as peeked
use Rattle.pylex.specs.declared.machine.Machine.{Machine}
use Rattle.pylex.specs.declared.line_lister.Found.{Found}
use Rattle.pylex.specs.Inner.Chunked.{Grows, HoldsOn, Stays, Adds, ReadsOn}
use Rattle.pylex.specs.LineState.{Stands, StopAhead, IsAscending, Following}
use Rattle.pylex.specs.Streamed.{Continues, StreamsIn}
use Rattle.pylex.specs.Inner.LineSteps.{IsStreaming, IsWaiting, streamed, Looks, LooksAhead, PeekedIn, Searches, Lacks, lacks}
use Rattle.pylex.specs.Held.{Ahead, AheadBut, IsAtStop}
use Rattle.pylex_lexeme.specs.Cuts.{begins_significant}
use Rattle.pylex_lexeme.specs.Lexemes.{is_open_string}
use Rattle.pylex.proofs.LineByLine.AheadOn.{ahead_but}
use Rattle.pylex.proofs.LineByLine.Awaiting.{awaits_no_stop}
use Rattle.pylex.proofs.LineByLine.LexedOn.{lexed_both, lexed_comes, stuck_finds}
use Rattle.pylex_lexeme.proofs.Callers.WholeLines.{significant_kept}
use Rattle.pylex.proofs.LineByLine.Lined.{lined_or_last, stands_front, stop_back}
use Rattle.pylex.proofs.LineByLine.Reading.{lined_left, no_text, only_line, reads_line, reads_none}

-- something may follow
pub record Future (b : Buffered) : Type 0 where
  pub more : List ℕ
  pub broken : Bool
  pub follows : Continues b more broken

pub some_future : (b : Buffered) → b.count ≤ source_limit → Future b
some_future b within = by b.reach refl
  where
    at : (r : Reach) (broken : Bool) → b.reach ≡ r → FollowsAt r [] broken → Future b
    at r broken e f = record { more = []; broken = broken; follows = (subst (λ q. FollowsAt q [] broken) (sym e) f, omega arith) }

    by : (r : Reach) → b.reach ≡ r → Future b
    by reach.Reading e = at reach.Reading false e tt
    by reach.End e = at reach.End false e (refl, refl)
    by reach.Broken e = at reach.Broken true e (refl, refl)
    by reach.Passed e = at reach.Passed true e (refl, refl)

-- A lister that stands whatever follows stands in some source.
pub record Witness (p : Machine) (c : HeldLines) (last : Option Entry) : Type 0 where
  pub more : List ℕ
  pub broken : Bool
  pub follows : Continues c.lines more broken
  pub source : Parts
  pub streams : StreamsIn (streamed p c last) source p.given more broken

pub witness : (p : Machine) (c : HeldLines) (last : Option Entry) → IsStreaming p c last → Witness p c last
witness p c last h =
    let f = some_future c.lines h.within in
    let s = h.stands f.more f.broken f.follows in
    record { more = f.more; broken = f.broken; follows = f.follows; source = s.0; streams = s.1 }

module _ (p : Machine) (c : HeldLines) (h : IsStreaming p c None) where
  abbrev held : List ℕ
  held = string_bytes c.text

  abbrev left : List ℕ
  left = drop c.at held

  pub boundary_held : IsCharBoundary held c.at
  boundary_held = IsCharBoundary-from_drop held c.at h.chunk.at h.left

  pub stands_held : Stands p.now left
  stands_held = let w = witness p c None h in stands_front p.now left (comes c.lines w.more w.broken).text w.streams.keeps.stands h.left

  pub ascending_held : IsAscending 0 p.levels.items
  ascending_held = (witness p c None h).streams.keeps.ascending

  pub within_held : p.nested ≤ length p.levels.items
  within_held = (witness p c None h).streams.keeps.within

  pub stop_held : 0 < p.tail → StopAhead p.now (chars left)
  stop_held more =
      let w = witness p c None h in
      let ahead = (comes c.lines w.more w.broken).text in
      let s = w.streams.keeps.stop more in
      ⊎_elim
      (λ l. stop_back p.now (chars left) (chars ahead) l (subst (StopAhead p.now) (chars-append left ahead h.left) s))
      (λ none. subst (λ t. StopAhead p.now (chars t)) (ap (λ t. left ++ t) none ∙ append-nil left) s)
      (lined_left held c.at ahead h.left w.streams.ends)

  -- the text that is held is within the limit of a source
  pub small_held : c.base + length held ≤ source_limit
  small_held =
      let w = witness p c None h in
      let x = w.streams in
      let whole = ap length x.whole in
      let one = length-append x.before (held ++ (comes c.lines w.more w.broken).text) in
      let two = length-append held (comes c.lines w.more w.broken).text in
      omega (arith, x.base, x.keeps.small, whole, one, two)

pub drop_after : (text : List ℕ) (at : ℕ) (rest : List ℕ) → Following (drop at text) rest → drop (length text - length rest) text ≡ rest
drop_after text at rest b =
    let front = take at text ++ b.0 in
    let whole : text ≡ front ++ rest = sym (take-append-drop at text) ∙ ap (λ t. take at text ++ t) b.1
    ∙ sym (append_assoc (take at text) b.0 rest) in
    let size : length text - length rest ≡ length front = omega (arith, ap length whole, length-append front rest) in
    ap (λ n. drop n text) size ∙ ap (drop (length front)) whole ∙ drop-append_seam front rest

-- a reader that isn't read
abbrev pub not_read : Seen
not_read = record { to_come = None; failures = 0; may_fail = false }

-- Before the first look.
pub searches_none : (seen : Seen) (p : Machine) (c : HeldLines) → IsStreaming p c None → Searches seen seen p p c c
searches_none seen p c h = record {
  taken = [];
  reads = ReadsBytes-none seen c.lines.count c.lines.reach;
  follows = λ more broken f. f;
  stands = λ s k more broken f x. x;
  machine = refl;
  streaming = h;
}

module _ (seen_0 seen_1 seen_2 : Seen) (p q : Machine) (c d e : HeldLines) (f : Found) (so : Searches seen_0 seen_1 p q c d)
    (looks : Looks q d f) (is : f.peeked ≡ peeked.Stop) where
  -- what may follow a reading may follow with what it took
  back : {r : Result LineRead AllocError} (o : ReadsOn seen_1 seen_2 d e f.at r) (more : List ℕ) (broken : Bool)
      → Continues e.lines more broken → Continues d.lines (o.taken ++ more) broken
  back o more broken g = ((o.gives more broken g.0).0, omega (arith, g.1, o.reads.count, length-append o.taken more))

  text_new : {line : List ℕ} → Grows d e f.at line → IsUtf8 line → IsUtf8 (string_bytes e.text)
  text_new {line} grows u = ⊎_elim
      (λ none. subst IsUtf8 (grows.whole ∙ ap (λ g. g ++ string_bytes e.text) none)
      (IsUtf8-append (string_bytes d.text) line so.streaming.text u))
      (λ all. subst IsUtf8 (sym (only_line (string_bytes d.text) grows.gone (string_bytes e.text) line grows.whole all)) u)
      grows.looked

  -- the lister stands before a literal that is open, or before nothing
  pub at_stop : ReadsOn seen_1 seen_2 d e f.at (Ok lines.Text) → lacks (drop f.at (string_bytes d.text)) ≡ true
      → IsAtStop (string_bytes d.text) f.at
  at_stop r lack =
      let g = rw is at looks.finds in
      record {
        within = looks.at;
        utf8 = so.streaming.text;
        left = looks.left;
        joined = so.streaming.joined;
        lexed = lexed_both (chars (drop d.at (string_bytes d.text))) (chars (drop f.at (string_bytes d.text)))
            (chars (string_bytes d.text)) so.streaming.lexed
            (lexed_comes (take q.nested q.levels.items) q.now (chars (drop d.at (string_bytes d.text))) f.now
            (chars (drop f.at (string_bytes d.text))) g.0);
        ends = ends_here;
        none = g.1.none;
        opened = by_lack (drop f.at (string_bytes d.text)) lack;
      }
    where
      by_lack : (rest : List ℕ) → lacks rest ≡ true → 0 < length rest → is_open_string (chars rest) ≡ true
      by_lack rest h some = ap (λ b. b || is_open_string (chars rest)) (sym (ne_eqb (length rest) 0 (λ z. omega (arith, z, some)))) ∙ h

      ends_here : (string_bytes d.text ≡ []) ⊎ (ends_line (string_bytes d.text) ≡ true)
      ends_here =
          let z = some_future e.lines r.within in
          let g = back r z.more z.broken z.follows in
          let x = (so.streaming.stands (r.taken ++ z.more) z.broken g).1 in
          let text = ap (λ (y : Coming). y.text) (r.gives z.more z.broken z.follows.0).1 in
          ⊎_elim (λ n. inl n) (⊎_elim (λ l. inr l)
          (λ n. absurd (no_text r.line (comes e.lines z.more z.broken).text r.adds.0 (sym text ∙ n)))) x.ends

  -- A line was read.
  pub searches_line : ReadsOn seen_1 seen_2 d e f.at (Ok lines.Text) → lacks (drop f.at (string_bytes d.text)) ≡ true → 0 < p.given
      → HoldsOn d e f.at (Ok lines.Text) → Searches seen_0 seen_2 p (record q { now = f.now }) c e
  searches_line r lack some holds_on =
      let stop = at_stop r lack in
      let holds = holds_on stop in
      let in_line : (s : Parts) (k : ℕ) (more : List ℕ) (broken : Bool) → Continues e.lines more broken
      → StreamsIn (streamed q d None) s k (r.taken ++ more) broken → StreamsIn (streamed (record q { now = f.now }) e None) s k more
      broken = λ s k more broken g x.
      reads_line q f.now d e f.at r.taken r.line s k more broken x (r.gives more broken g.0).1 r.holding r.adds.0
      (⊎_elim (λ l. inl l) (λ only. inr (ap (λ (z : Coming). z.text) (only more broken g.0))) r.adds.2)
      holds.joined so.streaming.text stop.lexed so.streaming.left looks.left (rw is at looks.finds).0 looks.room (λ h. let t =
      looks.tail h in (t.1, t.2)) r.same in
      record {
        taken = so.taken ++ r.taken;
        reads = ReadsBytes-on seen_0 seen_1 seen_2 c.lines.count d.lines.count e.lines.count c.lines.reach d.lines.reach e.lines.reach
            so.taken r.taken so.reads r.reads;
        follows = λ more broken g. subst (λ t. Continues c.lines t broken) (sym (append_assoc so.taken r.taken more))
            (so.follows (r.taken ++ more) broken (back r more broken g));
        stands = λ s k more broken g x. in_line s k more broken g (so.stands s k (r.taken ++ more) broken (back r more broken g)
            (subst (λ t. StreamsIn (streamed p c None) s k t broken) (append_assoc so.taken r.taken more) x));
        machine = ap (λ (z : Machine). record z { now = f.now }) so.machine;
        streaming = record {
          chunk = r.chunk;
          within = r.within;
          text = text_new r.holding r.adds.1;
          left = subst IsUtf8 (sym r.holding.left) (IsUtf8-append (drop f.at (string_bytes d.text)) r.line looks.left r.adds.1);
          lexed = holds.lexed;
          joined = holds.joined;
          fresh = λ z. let given : q.given ≡ p.given = ap (λ (y : Machine). y.given) so.machine in absurd (omega (arith, given, z, some));
          stands = λ more broken g. let s = so.streaming.stands (r.taken ++ more) broken (back r more broken g) in
              (s.0, in_line s.0 q.given more broken g s.1);
        };
      }

  -- How far was read ahead after a line, and where the literal is open still.
  pub ahead_then : ReadsOn seen_1 seen_2 d e f.at (Ok lines.Text) → lacks (drop f.at (string_bytes d.text)) ≡ true
      → HoldsOn d e f.at (Ok lines.Text) → Ahead c.lines d.lines ⊎ (AheadBut c.lines d.lines × IsWaiting q d)
      → Ahead c.lines e.lines ⊎ (AheadBut c.lines e.lines × IsWaiting (record q { now = f.now }) e)
  ahead_then r lack holds_on a =
      let stop = at_stop r lack in
      let s = rw is at looks.finds in
      let before = ⊎_elim (λ h. ahead_but c.lines d.lines h) (λ h. h.0) a in
      ⊎_elim (λ h. inl h) (λ h. inr (h.1, record { stop = record { none = h.2.0; settled = still stop h.0 s.1.settled }; unended = h.2.1 }))
      ((holds_on stop).ahead c.lines before)
    where
      none_left : (t : List ℕ) (n : ℕ) → t ≡ [] → 0 < length (drop n t) → ⊥
      none_left t n h some = let k = length-drop n t in let z = ap length h in omega (arith, k, z, some)

      nothing : (t : List ℕ) → chars t ≡ [] → 0 < length t → IsUtf8 t → ⊥
      nothing t h some u = let z = ap length (sym (encodes-chars t u) ∙ ap encodes h) in omega (arith, z, some)

      still : IsAtStop (string_bytes d.text) f.at → 0 < length (drop f.at (string_bytes d.text))
          → (f.now.margin && begins_significant (chars (drop f.at (string_bytes d.text)))) ≡ false
          → (f.now.margin && begins_significant (chars (drop e.at (string_bytes e.text)))) ≡ false
      still stop some h =
          let left = drop f.at (string_bytes d.text) in
          let whole : chars (drop e.at (string_bytes e.text)) ≡ chars left ++ chars r.line = ap chars r.holding.left
          ∙ chars-append left r.line looks.left in
          let text = ⊎_elim (λ n. absurd (none_left (string_bytes d.text) f.at n some)) (λ l. l) stop.ends in
          let lined = ⊎_elim (λ l. l) (λ n. absurd (nothing left n some looks.left))
          (lined_or_last (string_bytes d.text) (take f.at (string_bytes d.text)) left
          (sym (take-append-drop f.at (string_bytes d.text))) looks.left text) in
          ap (λ t. f.now.margin && begins_significant t) whole
          ∙ ap (λ t. f.now.margin && t) (significant_kept (chars left) (chars r.line) lined) ∙ h

  -- No line was read.
  pub searches_stay : (r : Result LineRead AllocError) → (o : ReadsOn seen_1 seen_2 d e f.at r) → o.line ≡ [] → Stays d e
      → Searches seen_0 seen_2 p q c e
  searches_stay r o none stays =
      let in_none : (s : Parts) (k : ℕ) (more : List ℕ) (broken : Bool) → Continues e.lines more broken
      → StreamsIn (streamed q d None) s k (o.taken ++ more) broken
      → StreamsIn (streamed q e None) s k more broken = λ s k more broken g x.
      reads_none q f.now d e f.at o.taken o.line s k more broken x (o.gives more broken g.0).1 none stays o.same in
      record {
        taken = so.taken ++ o.taken;
        reads = ReadsBytes-on seen_0 seen_1 seen_2 c.lines.count d.lines.count e.lines.count c.lines.reach d.lines.reach e.lines.reach
            so.taken o.taken so.reads o.reads;
        follows = λ more broken g. subst (λ t. Continues c.lines t broken) (sym (append_assoc so.taken o.taken more))
            (so.follows (o.taken ++ more) broken (back o more broken g));
        stands = λ s k more broken g x. in_none s k more broken g (so.stands s k (o.taken ++ more) broken (back o more broken g)
            (subst (λ t. StreamsIn (streamed p c None) s k t broken) (append_assoc so.taken o.taken more) x));
        machine = so.machine;
        streaming = record {
          chunk = o.chunk;
          within = o.within;
          text = rw stays.text so.streaming.text;
          left = rw (stays.text, stays.at) so.streaming.left;
          lexed = rw (stays.text, stays.at) so.streaming.lexed;
          joined = rw stays.text so.streaming.joined;
          fresh = λ z. stays.text ∙ so.streaming.fresh z;
          stands = λ more broken g. let s = so.streaming.stands (o.taken ++ more) broken (back o more broken g) in
              (s.0, in_none s.0 q.given more broken g s.1);
        };
      }

  -- what is met there then
  looks_on : (o : Option LineFault) → Stays d e → Looks q e (record f { fault = o })
  looks_on o stays = record {
    at = rw stays.text looks.at;
    left = rw stays.text looks.left;
    finds = rw (stays.text, stays.at) looks.finds;
    stands = rw stays.text looks.stands;
    room = rw (stays.text, stays.at) looks.room;
    tail = rw (stays.text, stays.at) looks.tail;
  }

  ends_so : (r : LineRead) (line : List ℕ) (o : Option LineFault) → (r ≡ lines.Text → ⊥) → Adds (Ok r) line e.lines
      → Lacks r e.lines.row o → ComesOnly e.lines o
  ends_so lines.Text line o h a l = absurd (h refl)
  ends_so lines.End line o h a l = subst (ComesOnly e.lines) (sym l) a.1
  ends_so (lines.Fault g) line o h a l = subst (ComesOnly e.lines) (sym l) a.1
  ends_so lines.Read line o h a l = subst (ComesOnly e.lines) (sym l) a.1

  pub meets_end : (r : LineRead) (line : List ℕ) (o : Option LineFault) → (r ≡ lines.Text → ⊥) → Adds (Ok r) line e.lines
      → Lacks r e.lines.row o → Stays d e → PeekedIn q e (record f { fault = o })
  meets_end r line o h a l stays =
      let only = ends_so r line o h a l in
      record {
        looks = looks_on o stays;
        stops = λ s k more broken g x i. let z = only more broken g.0 in
            inr (ap (λ (y : Coming). y.text) z, x.fault ∙ ap (λ (y : Coming). y.fault) z);
        ended = λ _ a. a.line o only;
      }

-- what is met where nothing is lacking
pub meets_here : (q : Machine) (d : HeldLines) (f : Found) → Looks q d f
    → (f.peeked ≡ peeked.Stop → lacks (drop f.at (string_bytes d.text)) ≡ false) → PeekedIn q d f
meets_here q d f looks whole = record {
  looks = looks;
  stops = λ s k more broken g x i. inl (whole i);
  ended = λ i a. let g = rw i at looks.finds in awaits_no_stop (streamed q d None) f.now (drop f.at (string_bytes d.text)) a g.0
      g.1 looks.left (whole i);
}

-- A lister that waits for more of a literal meets the end of the lines it holds.
pub waiting_meets : (q : Machine) (d : HeldLines) (f : Found) → Looks q d f → IsWaiting q d
    → (f.peeked ≡ peeked.Stop) × (lacks (drop f.at (string_bytes d.text)) ≡ true)
waiting_meets q d f looks w =
    let s = stuck_finds (take q.nested q.levels.items) q.now (chars (drop d.at (string_bytes d.text))) f.peeked f.now
    (chars (drop f.at (string_bytes d.text))) w.stop looks.finds in (
      s.0,
      open_lacks (length (drop f.at (string_bytes d.text)) == 0) (is_open_string (chars (drop f.at (string_bytes d.text))))
          (ap is_open_string s.1 ∙ w.unended),
    )
  where
    open_lacks : (a b : Bool) → b ≡ true → (a || b) ≡ true
    open_lacks true b h = refl
    open_lacks false b h = h

-- How far was read ahead where something is met.
pub ahead_found : (a : Buffered) (q : Machine) (d : HeldLines) (f : Found) → Looks q d f
    → (f.peeked ≡ peeked.Stop → lacks (drop f.at (string_bytes d.text)) ≡ false) → Ahead a d.lines ⊎ (AheadBut a d.lines × IsWaiting q d)
    → LooksAhead f a d.lines
ahead_found a q d f looks whole (inl h) = inr h
ahead_found a q d f looks whole (inr h) = let w = waiting_meets q d f looks h.1 in absurd (let z : true ≡ false = sym w.1 ∙ whole w.0 in cc)

pub ahead_end : (a b : Buffered) (f : Found) (r : LineRead) (line : List ℕ) (o : Option LineFault) → f.peeked ≡ peeked.Stop
    → (r ≡ lines.Text → ⊥) → Adds (Ok r) line b → Lacks r b.row o → LooksAhead (record f { fault = o }) a b
ahead_end a b f lines.Text line o is h adds l = absurd (h refl)
ahead_end a b f lines.End line o is h adds l = inr (inr (omega (arith, ap length adds.2)))
ahead_end a b f (lines.Fault g) line o is h adds l = inl (is, g, l)
ahead_end a b f lines.Read line o is h adds l = inl (is, _, l)
