-- The steps of a lister that reads line by line, each in all the sources in which it stands.
--
-- Carries: LineLister::cursor, LineLister::next, next_after, LineLister::shows, line_lister::pass,
-- pass_on. On: Stepping, LexedOn, Moving, AheadOn and 2 more.
use Rattle.std.proofs.Common.{◌≡◌, ◌⊎◌, inl, inr, ⊎_elim, ℕ, ◌+◌, ◌<◌, ◌-◌, Bool, List, [], ◌++◌, length, take, drop, refl, ap, sym, ◌∙◌}
use Rattle.std.proofs.Common.{subst, arith, Option, Some, None, string_bytes}
use Rattle.std.specs.Prelude.{slice_get, Result, Ok, Err}
use Rattle.std.specs.declared.alloc.AllocError.{AllocError}
use Rattle.std.specs.Str.{chars}
use Rattle.pysource.specs.Bytes.{Seen}
use Rattle.pysource.specs.Parts.{Parts}
use Rattle.pysource.specs.Streams.{Buffered, comes}
use Rattle.pysource.specs.declared.faults.LineFault.{LineFault}
use Rattle.pylex_listing.specs.declared.entries.ListingFault.{ListingFault}
use Rattle.pylex.specs.declared.peeked.Peeked.{Peeked}
use Rattle.pylex.specs.declared.peeked.Peeked.TheVariants as peeked
use Rattle.pysource.proofs.Callers.Taken.{ReadsBytes-none}
use Rattle.pylex.specs.declared.held_lines.HeldLines.{HeldLines}
use Rattle.pylex_listing.specs.declared.entries.Entry.{Entry}
use Rattle.pylex_listing.specs.declared.entries.Step.{Step}
use Rattle.pylex_listing.specs.declared.entries.Step.TheVariants as steps
use Rattle.pylex_listing.specs.declared.kind.Kind.TheVariants as kinds
use Rattle.pylex.specs.declared.machine.Machine.{Machine}
use Rattle.pylex.specs.declared.line_lister.Found.{Found}
use Rattle.pylex_listing.specs.Listing.{in_characters, listing, origin}
use Rattle.pylex.specs.Listers.{Listed, shown_by}
use Rattle.pylex_listing.specs.Machine.{mark_at}
use Rattle.pylex.specs.Inner.MachineSteps.{shown_from, FaultsFirst, HasPlace, IsSame, Advance, StaysAfter}
use Rattle.pylex_listing.specs.Steps.{entries_in, IsNoEntry}
use Rattle.pylex.specs.Streamed.{AwaitsLine, Continues, Streamed, StreamsIn, IsLast, IsAhead, Next}
use Rattle.pylex.specs.Inner.LineSteps.{IsStreaming, LooksAhead, Searches, streamed, PeekedIn}
use Rattle.pylex.specs.Held.{Ahead}
use Rattle.pylex.proofs.LineByLine.AheadOn.{ahead_none}
use Rattle.pylex.proofs.LineByLine.Awaiting.{awaits_last, awaits_no_fault}
use Rattle.pylex.proofs.LineByLine.LexedOn.{lexed_both, lexed_finds}
use Rattle.pylex.proofs.Listers.Moving.{leads_moves, goes_first}
use Rattle.pylex.proofs.Listers.Placing.{has_place}
use Rattle.pylex.proofs.LineByLine.Searching.{witness}
use Rattle.pylex.proofs.LineByLine.Stepping.{indent_is, step_is, stands_then, streams_entry, streams_other}

-- The entry given last plays no part in what follows.
pub none_last : (p : Machine) (c : HeldLines) (last : Option Entry) (s : Parts) (k : ℕ) (more : List ℕ) (broken : Bool)
    → StreamsIn (streamed p c last) s k more broken → StreamsIn (streamed p c None) s k more broken
none_last p c last s k more broken x = record {
  before = x.before;
  whole = x.whole;
  base = x.base;
  begins = x.begins;
  closed = x.closed;
  joined = x.joined;
  ends = x.ends;
  encoding = x.encoding;
  fault = x.fault;
  stands = x.stands;
  keeps = x.keeps;
  measuring = x.measuring;
  last = tt;
}

pub drop_last : (p : Machine) (c : HeldLines) (last : Option Entry) → IsStreaming p c last → IsStreaming p c None
drop_last p c last h = record {
  chunk = h.chunk;
  text = h.text;
  within = h.within;
  left = h.left;
  lexed = h.lexed;
  joined = h.joined;
  fresh = h.fresh;
  stands = λ more broken g. let s = h.stands more broken g in (s.0, none_last p c last s.0 p.given more broken s.1);
}

-- nor in a step
pub steps_last : (seen_old seen_new : Seen) (p : Machine) (c : HeldLines) (last : Option Entry) (v : Streamed) (r : Result Step AllocError)
    → Next seen_old seen_new (streamed p c None) v r → Next seen_old seen_new (streamed p c last) v r
steps_last seen_old seen_new p c last v (Ok step) h = record {
  taken = h.taken;
  reads = h.reads;
  follows = h.follows;
  steps = λ s k more broken g x. h.steps s k more broken g (none_last p c last s k (h.taken ++ more) broken x);
  last = h.last;
  ahead = h.ahead;
  same = tt;
  refused = tt;
  ended = h.ended;
}
steps_last seen_old seen_new p c last v (Err e) h = record {
  taken = h.taken;
  reads = h.reads;
  follows = h.follows;
  steps = tt;
  last = tt;
  ahead = tt;
  same = λ s k more broken g x. h.same s k more broken g (none_last p c last s k (h.taken ++ more) broken x);
  refused = ⊎_elim (λ a. inl (awaits_last p c last a))
      (λ i. inr (λ s k more broken g x. i s k more broken g (none_last p c last s k (h.taken ++ more) broken x))) h.refused;
  ended = tt;
}

pub place_held : (p : Machine) (c : HeldLines) (last : Option Entry) → IsStreaming p c last → HasPlace p
place_held p c last h = let w = witness p c last h in has_place w.source p _ w.streams.keeps

-- The first step.
module _ (p : Machine) (c : HeldLines) (last : Option Entry) (e : Entry) (z : p.given ≡ 0)
    (is : mark_at kinds.Encoding 0 origin origin ≡ steps.Entry e) where
  kind_is : (d : Entry) → d.kind ≡ kinds.Encoding → steps.Entry d ≡ steps.Entry e → e.kind ≡ kinds.Encoding
  kind_is d k h = let same : d ≡ e = cc in subst (λ (y : Entry). y.kind ≡ kinds.Encoding) same k

  abbrev begun : Machine
  begun = record p { given = 1 }

  first_in : (s : Parts) (k : ℕ) (more : List ℕ) (broken : Bool) → string_bytes c.text ≡ [] → StreamsIn (streamed p c last) s k more broken
      → (slice_get (listing (in_characters s)) k ≡ Some (steps.Entry e)) × StreamsIn (streamed begun c (Some e)) s (k + 1) more broken
  first_in s k more broken none x =
      let l : Listed = record { source = s; shown = shown_from p } in
      let left = drop c.at (string_bytes c.text) ++ (comes c.lines more broken).text in
      let g = goes_first l p.now left p.levels.items p.nested p.tail e x.keeps z is in
      let moved = leads_moves l _ _ g.leads (in_characters s) k x.stands in (
        moved.0,
        record {
          before = x.before;
          whole = x.whole;
          base = x.base;
          begins = x.begins;
          closed = x.closed;
          joined = x.joined;
          ends = x.ends;
          encoding = x.encoding;
          fault = x.fault;
          stands = moved.1;
          keeps = g.keeps;
          measuring = x.measuring;
          last = inl (kind_is _ refl is, none);
        },
      )

  pub streaming_first : IsStreaming p c last → IsStreaming begun c (Some e)
  streaming_first h = record {
    chunk = h.chunk;
    text = h.text;
    within = h.within;
    left = h.left;
    lexed = h.lexed;
    joined = h.joined;
    fresh = λ z. absurd (omega arith);
    stands = λ more broken g.
        let s = h.stands more broken g in
        let one : p.given + 1 ≡ 1 = omega arith in (
          s.0,
          subst (λ n. StreamsIn (streamed begun c (Some e)) s.0 n more broken) one
              (first_in s.0 p.given more broken (h.fresh z) s.1).1,
        );
  }

  pub steps_first : IsStreaming p c last → (seen : Seen)
      → Next seen seen (streamed p c last) (streamed begun c (Some e)) (Ok (steps.Entry e))
  steps_first h seen = record {
    taken = [];
    reads = ReadsBytes-none seen c.lines.count c.lines.reach;
    follows = λ more broken g. g;
    steps = λ s k more broken g x. first_in s k more broken (h.fresh z) x;
    last = refl;
    ahead = ahead_none c.lines;
    same = tt;
    refused = tt;
    ended = λ h. absurd h;
  }

-- an entry comes of no fault
no_fault : (m : Peeked) (o : Option LineFault) (e : Entry) → FaultsFirst m o (steps.Entry e) → (g : ListingFault) → m ≡ peeked.Fault g → ⊥
no_fault (peeked.Entry d) o e h g k = cc
no_fault (peeked.Fault f) o e h g k = h
no_fault peeked.Indent o e h g k = cc
no_fault peeked.Dedent o e h g k = cc
no_fault peeked.Stop o e h g k = cc

-- where it was looked for, no more was read ahead than one read gives
pub entry_ahead : (f : Found) (step : Step) (e : Entry) (a b : Buffered) → step ≡ steps.Entry e → FaultsFirst f.peeked f.fault step
    → LooksAhead f a b → Ahead a b
entry_ahead f step e a b is first (inr l) = l
entry_ahead f step e a b is first (inl (stop, fault, some)) = absurd (rw (is, stop, some) at first)

-- A step after a search.
module _ (seen_old seen_new : Seen) (p q : Machine) (c d : HeldLines) (last : Option Entry) (so : Searches seen_old seen_new p q c d) where
  stood : (s : Parts) (k : ℕ) (more : List ℕ) (broken : Bool) → Continues d.lines more broken
      → StreamsIn (streamed p c last) s k (so.taken ++ more) broken → StreamsIn (streamed q d None) s k more broken
  stood s k more broken g x = so.stands s k more broken g (none_last p c last s k (so.taken ++ more) broken x)

  -- memory was refused where a line was read
  pub steps_unread : (e : AllocError) → AwaitsLine (streamed p c last)
      → Next seen_old seen_new (streamed p c last) (streamed q d None) (Err e)
  steps_unread e a = record {
    taken = so.taken;
    reads = so.reads;
    follows = so.follows;
    steps = tt;
    last = tt;
    ahead = tt;
    same = stood;
    refused = inl a;
    ended = tt;
  }

  some_given : 0 < p.given → 0 < q.given
  some_given h = let same : q.given ≡ p.given = ap (λ (y : Machine). y.given) so.machine in omega (arith, same, h)

  module _ (r : Machine) (same : IsSame q r) where
    same_view : streamed r d None ≡ streamed q d None
    same_view =
        ap (λ (y : Machine). streamed y d None) same.0
        ∙ ap (λ ls. record {
          lines = d.lines;
          shown = shown_by q.given q.point ls ((length ls - q.nested) + q.tail);
          base = d.base;
          held =
              string_bytes d.text;
          left = drop d.at (string_bytes d.text);
          now = q.now;
          levels = ls;
          nested = q.nested;
          tail =
              q.tail;
          last = None;
        }) same.1

    -- or where an INDENT came
    pub steps_unopened : (e : AllocError) (f : Found) → PeekedIn q d f → f.peeked ≡ peeked.Indent → 0 < p.given
        → Next seen_old seen_new (streamed p c last) (streamed r d None) (Err e)
    steps_unopened e f m is some = record {
      taken = so.taken;
      reads = so.reads;
      follows = so.follows;
      steps = tt;
      last = tt;
      ahead = tt;
      same = λ s k more broken g x. subst (λ v. StreamsIn v s k more broken) (sym same_view) (stood s k more broken g x);
      refused = inr (λ s k more broken g x. indent_is q d f so.streaming m is (some_given some) s k more broken g
          (stood s k more broken g x));
      ended = tt;
    }

    pub streaming_unopened : IsStreaming r d None
    streaming_unopened =
        let given : r.given ≡ q.given = ap (λ (y : Machine). y.given) same.0 in
        record {
          chunk = so.streaming.chunk;
          text = so.streaming.text;
          within = so.streaming.within;
          left = so.streaming.left;
          lexed = so.streaming.lexed;
          joined = so.streaming.joined;
          fresh = λ z. so.streaming.fresh (sym given ∙ z);
          stands = λ more broken g.
              let s = so.streaming.stands more broken g in (
                s.0,
                subst (λ n. StreamsIn (streamed r d None) s.0 n more broken) (sym given)
                    (subst (λ v. StreamsIn v s.0 q.given more broken) (sym same_view) s.1),
              );
        }

  module _ (r : Machine) (f : Found) (step : Step) (m : PeekedIn q d f)
      (w : Advance q f.peeked f.now (drop f.at (string_bytes d.text)) f.fault step r) where
    count_then : (s : Parts) (more : List ℕ) (broken : Bool) (g : Continues d.lines more broken)
        (x : StreamsIn (streamed q d None) s q.given more broken) → q.given + entries_in step ≡ r.given
    count_then s more broken g x = sym (stands_then q r d f step so.streaming m w s q.given more broken g x).count

    module _ (e : Entry) (is : step ≡ steps.Entry e) where
      given_more : r.given ≡ 0 → ⊥
      given_more z =
          let x = witness q d None so.streaming in
          let n = count_then x.source x.more x.broken x.follows x.streams in
          let one : entries_in step ≡ 1 = ap entries_in is in
          omega (arith, n, one, z)

      pub steps_entry : 0 < p.given → Ahead c.lines d.lines
          → Next seen_old seen_new (streamed p c last) (streamed r (record d { at = f.at }) (Some e)) (Ok step)
      steps_entry some a = record {
        taken = so.taken;
        reads = so.reads;
        follows = so.follows;
        steps = λ s k more broken g x. let y = stood s k more broken g x in (
          step_is q r d f step so.streaming m w s k more broken g y,
          streams_entry q r d f step so.streaming m w s k more broken g y e is (let n = y.stands.count in
              omega (arith, n, some_given some)),
        );
        last = subst (IsLast (streamed r (record d { at = f.at }) (Some e))) (sym is) refl;
        ahead = subst (IsAhead c.lines d.lines) (sym is) a;
        same = tt;
        refused = tt;
        ended = λ h. absurd (subst IsNoEntry is h);
      }

      pub streaming_entry : 0 < p.given → FaultsFirst f.peeked f.fault step → IsStreaming r (record d { at = f.at }) (Some e)
      streaming_entry some first = record {
        chunk = record { spare = so.streaming.chunk.spare; at = m.looks.at };
        text = so.streaming.text;
        within = so.streaming.within;
        left = m.looks.left;
        lexed = lexed_both (chars (drop d.at (string_bytes d.text))) (chars (drop f.at (string_bytes d.text)))
            (chars (string_bytes d.text)) so.streaming.lexed
            (lexed_finds (take q.nested q.levels.items) q.now (chars (drop d.at (string_bytes d.text))) f.peeked f.now
            (chars (drop f.at (string_bytes d.text))) (no_fault f.peeked f.fault e (subst (FaultsFirst f.peeked f.fault) is first))
            m.looks.finds);
        joined = so.streaming.joined;
        fresh = λ z. absurd (given_more z);
        stands = λ more broken g.
            let s = so.streaming.stands more broken g in (
              s.0,
              subst (λ n. StreamsIn (streamed r (record d { at = f.at }) (Some e)) s.0 n more broken) (count_then s.0 more broken g s.1)
                  (streams_entry q r d f step so.streaming m w s.0 q.given more broken g s.1 e is (some_given some)),
            );
      }

    module _ (no_entry : (e : Entry) → step ≡ steps.Entry e → ⊥) where
      last_other : (t : Step) → ((e : Entry) → t ≡ steps.Entry e → ⊥) → IsLast (streamed r d None) t
      last_other (steps.Entry e) h = absurd (h e refl)
      last_other steps.End h = tt
      last_other (steps.Fault g) h = tt

      ahead_other : (t : Step) → ((e : Entry) → t ≡ steps.Entry e → ⊥) → IsAhead c.lines d.lines t
      ahead_other (steps.Entry e) h = absurd (h e refl)
      ahead_other steps.End h = tt
      ahead_other (steps.Fault g) h = tt

      given_none : r.given ≡ 0 → q.given ≡ 0
      given_none z =
          let x = witness q d None so.streaming in
          let n = count_then x.source x.more x.broken x.follows x.streams in
          omega (arith, n, z)

      -- no line has to be read then
      ended_other : (t : Step) → ((e : Entry) → t ≡ steps.Entry e → ⊥) → StaysAfter q f.peeked r t → AwaitsLine (streamed r d None) → ⊥
      ended_other t h stays a = by t h stays
        where
          met : (r ≡ q) × ((f.peeked ≡ peeked.Stop) ⊎ ((g : ListingFault) × (f.peeked ≡ peeked.Fault g))) → ⊥
          met w =
              let b : AwaitsLine (streamed q d None) = subst (λ x. AwaitsLine (streamed x d None)) w.0 a in
              ⊎_elim (λ i. m.ended i b) (λ i. awaits_no_fault (streamed q d None) i.0 b (rw i.1 at m.looks.finds)) w.1

          by : (t : Step) → ((e : Entry) → t ≡ steps.Entry e → ⊥) → StaysAfter q f.peeked r t → ⊥
          by (steps.Entry e) h w = h e refl
          by steps.End h w = met w
          by (steps.Fault g) h w = met w

      pub steps_other : StaysAfter q f.peeked r step → Next seen_old seen_new (streamed p c last) (streamed r d None) (Ok step)
      steps_other stays = record {
        taken = so.taken;
        reads = so.reads;
        follows = so.follows;
        steps = λ s k more broken g x. let y = stood s k more broken g x in (
          step_is q r d f step so.streaming m w s k more broken g y,
          streams_other q r d f step so.streaming m w s k more broken g y no_entry,
        );
        last = last_other step no_entry;
        ahead = ahead_other step no_entry;
        same = tt;
        refused = tt;
        ended = λ _. ended_other step no_entry stays;
      }

      pub streaming_other : IsStreaming r d None
      streaming_other = record {
        chunk = so.streaming.chunk;
        text = so.streaming.text;
        within = so.streaming.within;
        left = so.streaming.left;
        lexed = so.streaming.lexed;
        joined = so.streaming.joined;
        fresh = λ z. so.streaming.fresh (given_none z);
        stands = λ more broken g.
            let s = so.streaming.stands more broken g in (
              s.0,
              subst (λ n. StreamsIn (streamed r d None) s.0 n more broken) (count_then s.0 more broken g s.1)
                  (streams_other q r d f step so.streaming m w s.0 q.given more broken g s.1 no_entry),
            );
      }
