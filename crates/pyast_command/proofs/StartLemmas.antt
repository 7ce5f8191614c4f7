-- How a run begins, or is refused.
--
-- Carries: begin, write_listing. On: CursorLemmas, TakenLemmas, UnreadLemmas.
use Rattle.std.proofs.Common.{◌≡◌, ℕ, Bool, true, false, ◌&&◌, List, [], ◌++◌, length, refl, sym, ap, subst, inl, inr, ◌∙◌, Option, Some}
use Rattle.std.proofs.Common.{None, Ok, append_assoc, arith}
use Rattle.std.specs.Prelude.{nat_lt}
use Rattle.std.proofs.lemmas.Bool.Decides.{nat_tests}
use Rattle.std.proofs.lemmas.Bool.{and_parts}
use Rattle.pysource.specs.Parts.{Parts}
use Rattle.pysource.specs.Bytes.{Seen, TakesFront}
use Rattle.pysource.specs.Streams.{stream_of, Refuses}
use Rattle.pysource.specs.Taking.{ReadsBytes}
use Rattle.pysource.specs.Limits.{source_limit}
use Rattle.pysource.specs.declared.faults.LineError.TheVariants as line_errors
use Rattle.pysource.specs.declared.line_reader.Reach.{Reach}
use Rattle.pysource.specs.declared.line_reader.Reach.TheVariants as reach
use Rattle.pysource.specs.declared.line_reader.StreamFault.{StreamFault}
use Rattle.pysource.specs.declared.line_reader.StreamFault.TheVariants as stream_faults
use Rattle.pysource.proofs.Callers.Taken.{Appends-refl, ReadsBytes-on}
use Rattle.pylex_listing.specs.declared.entries.ListingError.{ListingError}
use Rattle.pylex_listing.specs.declared.entries.ListingError.TheVariants as errors
use Rattle.pylex_listing.specs.declared.entries.ListingFault.{ListingFault}
use Rattle.pylex.specs.declared.line_lister.ResumeFault.{ResumeFault}
use Rattle.pylex.specs.declared.line_lister.ResumeFault.TheVariants as resumes
use Rattle.pylex.specs.Cursors.{CursorParts}
use Rattle.pylex_listing.specs.Listing.{in_characters, listing}
use Rattle.pylex.specs.Standing.{IsCursorOf}
use Rattle.pylex_listing.specs.Steps.{entries_of, fault_of}
use Rattle.pylex.specs.Streamed.{Streamed, StreamsIn, Begins, Misses, ResumeRefusal, EndsUnread, is_unread_code}
use Rattle.pyast_fault.specs.Faults.{of_resume, of_stream}
use Rattle.pyast_command.specs.Listings.{start_in, ends_unread, missed, tokens_output, tokens_fault}
use Rattle.pyast_command.specs.Runs.{WritesFor, Performs}
use Rattle.pyast_command.specs.Inner.Taken.{TookAll, Starts, Lists}
use Rattle.pyast_fault.specs.declared.fault.Fault.{Fault}
use Rattle.pyast_fault.specs.declared.fault.Fault.TheVariants.{Plain}
use Rattle.pyast_fault.specs.declared.fault.RunFaultCode.TheVariants.{Read, Memory, CursorOfAnotherSource}
use Rattle.pyast_command.proofs.CursorLemmas.{starts_after, starts_nowhere}
use Rattle.pyast_command.proofs.TakenLemmas.{performs}
use Rattle.pyast_command.proofs.UnreadLemmas.{quiet}

-- a lister that has begun
pub starts : (seen_old seen_new : Seen) (resume : Option CursorParts) (v : Streamed) (k : ℕ)
    → Begins seen_old seen_new v k → v.shown.given ≡ k
    → ((p : Parts) (more : List ℕ) (broken : Bool) → StreamsIn v p k more broken → start_in resume (in_characters p) ≡ Some k)
    → Starts seen_old seen_new resume v
starts seen_old seen_new resume v k b given start = record {
  all = b.taken;
  took = b.reads;
  stands = λ more broken f.
      let s = b.stands more broken f in
      (s.0, s.1, start s.0 more broken s.2 ∙ ap (λ n. Some n) (sym given), subst (λ n. StreamsIn v s.0 n more broken) (sym given) s.2);
}

-- after a cursor
pub starts_at : (seen_old seen_new : Seen) (c : CursorParts) (v : Streamed) → Begins seen_old seen_new v c.given → v.shown ≡ c
    → Starts seen_old seen_new (Some c) v
starts_at seen_old seen_new c v b shown = starts seen_old seen_new (Some c) v c.given b (ap (λ d. d.given) shown)
    (λ p more broken s. starts_after c (in_characters p) (subst (λ d. IsCursorOf d (in_characters p)) shown s.stands.cursor))

-- the output and the fault of what a reader gives
abbrev pub output_by : Bool → Option ℕ → Option CursorParts → Bool → List ℕ → List ℕ
output_by exact count resume broken input = tokens_output exact count resume (stream_of broken input)

abbrev pub fault_by : Option ℕ → Option CursorParts → Bool → List ℕ → Option Fault
fault_by count resume broken input = tokens_fault count resume (stream_of broken input)

-- where there is no memory, a front of what is to be written is there
front_of : (output : List ℕ) (x : Option (List ℕ)) → TakesFront x x output
front_of output x = ([], output, refl, Appends-refl x)

unread : (exact : Bool) (count : Option ℕ) (resume : Option CursorParts) (seen_old seen_new : Seen) (x : Option (List ℕ)) (r : Reach)
    (n : ℕ) (taken : List ℕ)
    → ReadsBytes seen_old seen_new reach.Reading r 0 n taken → Performs (output_by exact count resume) (fault_by count resume) seen_old
    seen_new x x source_limit (Some (Plain Memory))
unread exact count resume seen_old seen_new x r n taken t =
    performs _ _ x x n taken _ (quiet count resume) seen_old seen_new r t
    (λ more broken f w. front_of (output_by exact count resume broken (taken ++ more)) x)

-- what gives no source
pub refused : (exact : Bool) (count : Option ℕ) (resume : Option CursorParts) (seen_old seen_new : Seen) (fault : StreamFault)
    (x : Option (List ℕ)) → Refuses seen_old seen_new fault
    → Performs (output_by exact count resume) (fault_by count resume) seen_old seen_new x x source_limit (Some (of_stream fault))
refused exact count resume seen_old seen_new stream_faults.Memory x r =
    unread exact count resume seen_old seen_new x r.reach _ r.taken r.reads
refused exact count resume seen_old seen_new stream_faults.Read x r =
    performs _ _ x x _ r.taken _ (quiet count resume) seen_old seen_new r.reach r.reads
    (λ more broken f w. rw (r.explains.1 more broken f) (refl, Appends-refl x))
refused exact count resume seen_old seen_new (stream_faults.UnsupportedEncoding place) x r =
    performs _ _ x x _ r.taken _ (quiet count resume) seen_old seen_new r.reach r.reads
    (λ more broken f w. rw (r.explains.1 more broken f) (refl, Appends-refl x))
refused exact count resume seen_old seen_new (stream_faults.BomConflict place) x r =
    performs _ _ x x _ r.taken _ (quiet count resume) seen_old seen_new r.reach r.reads
    (λ more broken f w. rw (r.explains.1 more broken f) (refl, Appends-refl x))

is_unread_is : (e : ListingError) → is_unread_code e ≡ true → e ≡ errors.Line line_errors.FailedRead
is_unread_is (errors.Line line_errors.FailedRead) h = refl
is_unread_is (errors.Line line_errors.NotUtf8) h = cc
is_unread_is (errors.Line line_errors.NotAscii) h = cc
is_unread_is (errors.Line line_errors.LoneReturn) h = cc
is_unread_is errors.BadCharacter h = cc
is_unread_is errors.UnterminatedString h = cc
is_unread_is errors.EofInString h = cc
is_unread_is errors.EofInStatement h = cc
is_unread_is errors.UnindentMismatch h = cc
is_unread_is errors.UnmatchedCloser h = cc

unread_of : (o : Option ListingFault) → elim o [ Some f ↦ is_unread_code f.code | None ↦ false ] ≡ true
    → (f : ListingFault) × (o ≡ Some f) × (f.code ≡ errors.Line line_errors.FailedRead)
unread_of None h = cc
unread_of (Some f) h = (f, refl, is_unread_is f.code h)

-- the source ends unread before a cursor's count of entries
missed_unread : (c : CursorParts) (p : Parts) → EndsUnread p c.given → missed (Some c) (in_characters p) ≡ Read
missed_unread c p u =
    let f = u.fault in
    let ends : ends_unread (listing (in_characters p)) ≡ true = rw (f.1, ends_unread, f.2) refl in
    let w = u.before in
    let before : nat_lt (length (entries_of (listing (in_characters p)))) c.given ≡ true = grind (arith, nat_tests) in
    rw (ends, before, missed) refl

missed_another : (c : CursorParts) (p : Parts) → (EndsUnread p c.given → ⊥) → missed (Some c) (in_characters p) ≡ CursorOfAnotherSource
missed_another c p n = by_test (ends_unread (listing (in_characters p)) && nat_lt (length (entries_of (listing (in_characters p)))) c.given)
    refl
  where
    by_test : (b : Bool) → (ends_unread (listing (in_characters p)) && nat_lt (length (entries_of (listing (in_characters p)))) c.given) ≡ b
        → missed (Some c) (in_characters p) ≡ CursorOfAnotherSource
    by_test true e =
        let t = and_parts (ends_unread (listing (in_characters p))) _ e in
        let h = t.1 in
        absurd (n (record { fault = unread_of (fault_of (listing (in_characters p))) t.0; before = grind (arith, nat_tests) }))
    by_test false e = rw e refl

-- a source without the cursor, or that could not be read so far
misses_by : (exact : Bool) (count : Option ℕ) (seen_old seen_new : Seen) (c : CursorParts) (x : Option (List ℕ))
    → Misses seen_old seen_new c true
    → Performs (output_by exact count (Some c)) (fault_by count (Some c)) seen_old seen_new x x source_limit (Some (Plain Read))
misses_by exact count seen_old seen_new c x m =
    performs _ _ x x _ m.taken _ (quiet count (Some c)) seen_old seen_new m.lines.reach m.reads
    (λ more broken f w. let s = m.misses more broken (f, w) in rw (
      s.1,
      starts_nowhere c (in_characters s.0) s.2,
      tokens_output,
      tokens_fault,
    ) (ap (λ code. Some (Plain code)) (missed_unread c s.0 (s.3 refl)), Appends-refl x))

misses_stream : (exact : Bool) (count : Option ℕ) (seen_old seen_new : Seen) (c : CursorParts) (fault : StreamFault) (x : Option (List ℕ))
    → ResumeRefusal seen_old seen_new c (resumes.Stream fault) → Performs (output_by exact count (Some c)) (fault_by count (Some c))
    seen_old seen_new x x source_limit (Some (of_stream fault))
misses_stream exact count seen_old seen_new c fault x m = elim m [
  | inl r ↦ refused exact count (Some c) seen_old seen_new fault x r
  | inr (inl r) ↦ rw r.0 (misses_by exact count seen_old seen_new c x r.1)
  | inr (inr r) ↦ rw r.0 (unread exact count (Some c) seen_old seen_new x r.1.at _ r.1.taken r.1.reads)
]

misses : (exact : Bool) (count : Option ℕ) (seen_old seen_new : Seen) (c : CursorParts) (x : Option (List ℕ))
    → Misses seen_old seen_new c false
    → Performs (output_by exact count (Some c)) (fault_by count (Some c)) seen_old seen_new x x source_limit
    (Some (Plain CursorOfAnotherSource))
misses exact count seen_old seen_new c x m =
    performs _ _ x x _ m.taken _ (quiet count (Some c)) seen_old seen_new m.lines.reach m.reads
    (λ more broken f w. let s = m.misses more broken (f, w) in rw (
      s.1,
      starts_nowhere c (in_characters s.0) s.2,
      tokens_output,
      tokens_fault,
    ) (ap (λ code. Some (Plain code)) (missed_another c s.0 (s.4 refl)), Appends-refl x))

-- what gives no source with such a cursor
pub unresumed : (exact : Bool) (count : Option ℕ) (seen_old seen_new : Seen) (c : CursorParts) (fault : ResumeFault) (x : Option (List ℕ))
    → ResumeRefusal seen_old seen_new c fault → Performs (output_by exact count (Some c)) (fault_by count (Some c)) seen_old seen_new x x
    source_limit (Some (of_resume fault))
unresumed exact count seen_old seen_new c (resumes.Stream fault) x m = misses_stream exact count seen_old seen_new c fault x m
unresumed exact count seen_old seen_new c resumes.AnotherSource x m = misses exact count seen_old seen_new c x m

-- where there is no memory after the start, nothing is written
pub begun : (exact : Bool) (count : Option ℕ) (resume : Option CursorParts) (seen_old seen_new : Seen) (x : Option (List ℕ)) (v : Streamed)
    → Starts seen_old seen_new resume v
    → Performs (output_by exact count resume) (fault_by count resume) seen_old seen_new x x source_limit (Some (Plain Memory))
begun exact count resume seen_old seen_new x v s = unread exact count resume seen_old seen_new x v.lines.reach _ s.all s.took

-- what was taken at the start, and after it
all_taken : (seen_old seen_mid seen_new : Seen) (resume : Option CursorParts) (exact : Bool) (count : Option ℕ) (v : Streamed)
    (done : List ℕ → Option Fault → Type 0)
    → (s : Starts seen_old seen_mid resume v) → (g : Lists seen_mid seen_new v exact count done)
    → TookAll seen_old seen_new g.new (s.all ++ g.taken)
all_taken seen_old seen_mid seen_new resume exact count v done s g = ReadsBytes-on seen_old seen_mid seen_new 0 _ _ reach.Reading
    v.lines.reach g.new.reach s.all g.taken s.took g.reads

-- what was done after the start
pub listed : {exact : Bool} {count : Option ℕ} {resume : Option CursorParts} {seen_old seen_mid seen_new : Seen} {x y : Option (List ℕ)}
    {v : Streamed} {done : List ℕ → Option Fault → Type 0} {ended : Option Fault}
    → Starts seen_old seen_mid resume v → Lists seen_mid seen_new v exact count done
    → ((output : List ℕ) (told : Option Fault) → done output told → WritesFor output told x y ended)
    → Performs (output_by exact count resume) (fault_by count resume) seen_old seen_new x y source_limit ended
listed {exact = exact} {count = count} {resume = resume} {seen_old = seen_old} {seen_mid = seen_mid} {seen_new = seen_new} {x = x} {y = y}
    {v = v} {done = done} {ended = ended} s g does =
    performs _ _ x y _ (s.all ++ g.taken) ended (quiet count resume) seen_old seen_new g.new.reach
    (all_taken seen_old seen_mid seen_new resume exact count v done s g)
    (λ more broken f w.
    let p = s.stands (g.taken ++ more) broken (g.follows more broken (f, w)) in
    let is : stream_of broken ((s.all ++ g.taken) ++ more) ≡ Ok p.0 = ap (stream_of broken) (append_assoc s.all g.taken more) ∙ p.1 in
    rw (is, p.2, tokens_output, tokens_fault) (does _ _ (g.holds p.0 more broken (f, w) p.3)))
