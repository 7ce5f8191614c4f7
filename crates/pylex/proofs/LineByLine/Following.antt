-- A lister over lines that goes on after a cursor.
--
-- Carries: LineLister::resume_checked. On: Ends, Moving, Callers.
use Rattle.std.proofs.Common.{◌≡◌, ◌⊎◌, inl, inr, ⊎_elim, ℕ, zero, suc, ◌+◌, ◌≤◌, ◌<◌, Bool, true, false, List, [], ◌∷◌, ◌++◌, length}
use Rattle.std.proofs.Common.{length-append, map, refl, ap, sym, ◌∙◌, subst, append-nil, append_assoc, arith, Some, None}
use Rattle.std.specs.Prelude.{slice_get, Ok, Err}
use Rattle.std.specs.declared.alloc.AllocError.{AllocError}
use Rattle.pysource.specs.Bytes.{Seen}
use Rattle.pysource.specs.Parts.{Parts}
use Rattle.pysource.specs.Streams.{head_len, stream_of}
use Rattle.pysource.specs.Taking.{ReadsBytes}
use Rattle.pysource.proofs.Callers.Taken.{ReadsBytes-on}
use Rattle.pysource.specs.declared.faults.LineError.TheVariants.{FailedRead}
use Rattle.pysource.specs.declared.line_reader.Reach.TheVariants.{Reading}
use Rattle.pylex_listing.specs.declared.entries.Entry.{Entry}
use Rattle.pylex_listing.specs.declared.entries.ListingError.{ListingError}
use Rattle.pylex_listing.specs.declared.entries.ListingError.TheVariants as errors
use Rattle.pylex_listing.specs.declared.entries.ListingFault.{ListingFault}
use Rattle.pylex_listing.specs.declared.entries.Step.{Step}
use Rattle.pylex_listing.specs.declared.entries.Step.TheVariants as steps
use Rattle.pylex.specs.Cursors.{CursorParts, cursor as cursor_of}
use Rattle.pylex_listing.specs.Listing.{in_characters, listing}
use Rattle.pylex.specs.Standing.{IsCursorOf}
use Rattle.pylex_listing.specs.Steps.{entries_of, entries_in, fault_of}
use Rattle.pylex.specs.Streamed.{Continues, IsAhead, Streamed, StreamsIn, Begins, Next, Misses, EndsUnread, Took, is_unread, is_unread_code}
use Rattle.pylex.specs.Held.{Ahead}
use Rattle.pylex.proofs.Listing.Ends.{is_whole}
use Rattle.pylex.proofs.Listers.Moving.{entry_due}
use Rattle.pylex.proofs.Callers.{is_following}

module _ (seen_0 seen_1 seen_2 : Seen) (v w : Streamed) (k : ℕ) (b : Begins seen_0 seen_1 v k) where
  module _ (step : Step) (t : Next seen_1 seen_2 v w (Ok step)) where
    all : List ℕ
    all = b.taken ++ t.taken

    reads_all : ReadsBytes seen_0 seen_2 Reading w.lines.reach 0 w.lines.count (b.taken ++ t.taken)
    reads_all = ReadsBytes-on seen_0 seen_1 seen_2 0 v.lines.count w.lines.count Reading v.lines.reach w.lines.reach
        b.taken t.taken b.reads t.reads

    stands_all : (more : List ℕ) (broken : Bool) → Continues w.lines more broken
        → (p : Parts) × (stream_of broken ((b.taken ++ t.taken) ++ more) ≡ Ok p) × (slice_get (listing (in_characters p)) k ≡ Some step) ×
        StreamsIn w p (k + entries_in step) more broken
    stands_all more broken g =
        let s = b.stands (t.taken ++ more) broken (t.follows more broken g) in
        let m = t.steps s.0 k more broken g s.2 in
        (s.0, ap (stream_of broken) (append_assoc b.taken t.taken more) ∙ s.1, m.0, m.1)

    -- where nothing was taken it stands as it stood
    ahead_all : Ahead v.lines w.lines → (length w.lines.pending ≤ 8_192) ⊎ (w.lines.count ≤ 8_192 + head_len (b.taken ++ t.taken))
    ahead_all (inr few) = inl few
    ahead_all (inl s) = ⊎_elim (λ few. inl (omega (arith, s.1, few)))
        (λ h. inr (subst (λ l. w.lines.count ≤ 8_192 + head_len l) same (omega (arith, s.0, h)))) b.ahead
      where
        nothing : (l : List ℕ) → length l ≡ 0 → l ≡ []
        nothing [] e = refl
        nothing (u ∷ l) e = absurd (omega arith)

        same : b.taken ≡ b.taken ++ t.taken
        same = sym (ap (λ l. b.taken ++ l) (nothing t.taken (let n = t.reads.count in omega (arith, n, s.0))) ∙ append-nil b.taken)

    -- One entry more.
    pub begins_next : (e : Entry) → step ≡ steps.Entry e → Begins seen_0 seen_2 w (k + 1)
    begins_next e is = record {
      taken = b.taken ++ t.taken;
      reads = reads_all;
      ahead = ahead_all (subst (IsAhead v.lines w.lines) is t.ahead);
      stands = λ more broken g. let s = stands_all more broken g in
          (s.0, s.1, subst (λ n. StreamsIn w s.0 (k + n) more broken) (ap entries_in is) s.3);
    }

    module _ (no_entry : (e : Entry) → step ≡ steps.Entry e → ⊥) where
      -- The listing ends before a cursor after more entries.
      never_there : (p : Parts) (c : CursorParts) → k < c.given → slice_get (listing (in_characters p)) k ≡ Some step
          → IsCursorOf c (in_characters p) → ⊥
      never_there p c less at is = let within = (is_following is).within in let due =
          entry_due (in_characters p) k step (omega arith) at in no_entry due.0 due.1

      fault_at : (es : List Entry) (last : Step) (n : ℕ) → slice_get (map steps.Entry es ++ last ∷ []) n ≡ Some step
          → (last ≡ step) × (length es ≡ n)
      fault_at [] last zero h = (let f : last ≡ step = cc in f, refl)
      fault_at [] last (suc n) h = absurd cc
      fault_at (e ∷ es) last zero h = absurd (no_entry e (let f : step ≡ steps.Entry e = cc in f))
      fault_at (e ∷ es) last (suc n) h = let r = fault_at es last n h in (r.0, ap suc r.1)

      entries_whole : (es : List Entry) → entries_of (map steps.Entry es ++ step ∷ []) ≡ es
      entries_whole [] = none step no_entry
        where
          none : (s : Step) → ((e : Entry) → s ≡ steps.Entry e → ⊥) → entries_of (s ∷ []) ≡ []
          none (steps.Entry e) h = absurd (h e refl)
          none steps.End h = refl
          none (steps.Fault f) h = refl
      entries_whole (e ∷ es) = ap (λ l. e ∷ l) (entries_whole es)

      fault_whole : (es : List Entry) → fault_of (map steps.Entry es ++ step ∷ []) ≡ fault_of (step ∷ [])
      fault_whole [] = refl
      fault_whole (e ∷ es) = fault_whole es

      module _ (p : Parts) (at : slice_get (listing (in_characters p)) k ≡ Some step) where
        last_is : (fault_of (listing (in_characters p)) ≡ fault_of (step ∷ [])) × (length (entries_of (listing (in_characters p))) ≡ k)
        last_is =
            let a = in_characters p in
            let w = is_whole a in
            let es = entries_of (listing a) in
            let r = fault_at es w.last k (ap (λ ss. slice_get ss k) (sym w.whole) ∙ at) in
            (ap fault_of w.whole ∙ ap (λ s. fault_of (map steps.Entry es ++ s ∷ [])) r.0 ∙ fault_whole es, r.1)

        unread_there : (c : CursorParts) → k < c.given → is_unread step ≡ true → EndsUnread p c.given
        unread_there c less u = by step refl u
          where
            coded : (e : ListingError) → is_unread_code e ≡ true → e ≡ errors.Line FailedRead
            coded (errors.Line FailedRead) h = refl
            coded _ h = absurd cc

            by : (s : Step) → step ≡ s → is_unread step ≡ true → EndsUnread p c.given
            by (steps.Entry e) is h = absurd (no_entry e is)
            by steps.End is h = absurd (let f : false ≡ true = sym (ap is_unread is) ∙ h in cc)
            by (steps.Fault f) is h =
                record {
                  fault = (f, last_is.0 ∙ ap (λ s. fault_of (s ∷ [])) is, coded f.code (sym (ap is_unread is) ∙ h));
                  before =
                      omega (arith, last_is.1, less);
                }

        not_unread : (c : CursorParts) → is_unread step ≡ false → EndsUnread p c.given → ⊥
        not_unread c u ends = by step refl u
          where
            by : (s : Step) → step ≡ s → is_unread step ≡ false → ⊥
            by (steps.Entry e) is h = no_entry e is
            by steps.End is h = let f : None ≡ Some ends.fault.0 = sym (last_is.0 ∙ ap (λ s. fault_of (s ∷ [])) is) ∙ ends.fault.1 in cc
            by (steps.Fault g) is h =
                let f : Some g ≡ Some ends.fault.0 = sym (last_is.0 ∙ ap (λ s. fault_of (s ∷ [])) is) ∙ ends.fault.1 in
                let same : g ≡ ends.fault.0 = cc in
                let code : g.code ≡ errors.Line FailedRead = ap (λ (x : ListingFault). x.code) same ∙ ends.fault.2 in
                let t : is_unread (steps.Fault g) ≡ true = ap is_unread_code code in
                let z : true ≡ false = sym t ∙ sym (ap is_unread is) ∙ h in cc

      pub misses_stop : (c : CursorParts) (u : Bool) → k < c.given → is_unread step ≡ u → Misses seen_0 seen_2 c u
      misses_stop c u less is = record {
        taken = b.taken ++ t.taken;
        lines = w.lines;
        reads = reads_all;
        misses = λ more broken g.
            let s = stands_all more broken g in
            (s.0, s.1, never_there s.0 c less s.2, λ e. unread_there s.0 s.2 c less (is ∙ e), λ e. not_unread s.0 s.2 c (is ∙ e));
      }

  -- Memory was refused.
  pub took_on : (e : AllocError) → Next seen_1 seen_2 v w (Err e) → Took seen_0 seen_2
  took_on e t = record {
    taken = b.taken ++ t.taken;
    at = w.lines.reach;
    reads = subst (λ n. ReadsBytes seen_0 seen_2 Reading w.lines.reach 0 n (b.taken ++ t.taken)) counted
        (ReadsBytes-on seen_0 seen_1 seen_2 0 v.lines.count w.lines.count Reading v.lines.reach w.lines.reach b.taken
        t.taken b.reads t.reads);
  }
    where
      counted : w.lines.count ≡ length (b.taken ++ t.taken)
      counted = let n = t.reads.count in let m = b.reads.count in let l = length-append b.taken t.taken in omega arith

-- The lister shows another cursor.
pub misses_shown : (seen_0 seen_1 : Seen) (v : Streamed) (c : CursorParts) → Begins seen_0 seen_1 v c.given → (c ≡ v.shown → ⊥)
    → Misses seen_0 seen_1 c false
misses_shown seen_0 seen_1 v c b other = record {
  taken = b.taken;
  lines = v.lines;
  reads = b.reads;
  misses = λ more broken g.
      let s = b.stands more broken g in
      let count = s.2.stands.count in
      let shown = is_following s.2.stands.cursor in
      let within = shown.within in (
        s.0,
        s.1,
        λ own. other ((is_following own).is ∙ ap (cursor_of (in_characters s.0)) (sym count) ∙ sym shown.is),
        λ e. absurd (let f : false ≡ true = e in cc),
        λ e ends. let before = ends.before in absurd (omega arith),
      );
}
