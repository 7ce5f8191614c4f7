-- How far the listing of a lister has come that reads line by line.
--
-- Carries: list. On: OutputLemmas, RunLemmas, TakenLemmas.
use Rattle.std.proofs.Common.{◌≡◌, ◌≢◌, ℕ, ◌+◌, ◌-◌, ◌<◌, ◌≤◌, Bool, List, [], ◌++◌, slice_get, refl, sym, ap, subst, ◌∙◌, Option, Some}
use Rattle.std.proofs.Common.{None, Result, Ok, append_assoc, option_map, arith}
use Rattle.std.specs.declared.alloc.AllocError.{AllocError}
use Rattle.std.specs.Io.KnownBytes.{Appends}
use Rattle.pysource.specs.Bytes.{Seen}
use Rattle.pysource.specs.Parts.{Parts}
use Rattle.pysource.specs.Streams.{Reads}
use Rattle.pysource.specs.Limits.{source_limit}
use Rattle.pysource.proofs.Callers.Taken.{Appends-refl, ReadsBytes-none, ReadsBytes-on}
use Rattle.pylex_listing.specs.declared.entries.Entry.{Entry}
use Rattle.pylex_listing.specs.declared.entries.ListingFault.{ListingFault}
use Rattle.pylex_listing.specs.declared.entries.Step.{Step}
use Rattle.pylex_listing.specs.declared.entries.Step.TheVariants as steps
use Rattle.pylex_listing.specs.Listing.{in_characters, listing}
use Rattle.pylex_listing.specs.ListingLines.{listing_line, text_of}
use Rattle.pylex_listing.specs.Steps.{most_entries}
use Rattle.pylex.specs.Streamed.{Streamed, StreamsIn, Next, Continues}
use Rattle.pylex.proofs.Callers.{end_last, fault_last}
use Rattle.pyast_fault.specs.Faults.{of_listing}
use Rattle.pyast_command.specs.Listings.{cursor_line, left_after, output_from, fault_from}
use Rattle.pyast_command.specs.Runs.{TakesAllBut, HoldsFor}
use Rattle.pyast_command.specs.Inner.Taken.{Lists}
use Rattle.pyast_fault.specs.declared.fault.Fault.{Fault}
use Rattle.pyast_fault.specs.declared.fault.Fault.TheVariants.{Plain}
use Rattle.pyast_fault.specs.declared.fault.RunFaultCode.TheVariants.{Memory}
use Rattle.pyast_command.proofs.RunLemmas.{HoldsFor-fault, TakesAllBut-written}
use Rattle.pyast_command.proofs.OutputLemmas.{held_next, told_next, output_ended, fault_ended, cursor_held, told_none}
use Rattle.pyast_command.proofs.TakenLemmas.{is_broken, continues_none}

-- In a source in which a lister stands: what was written and is held, and what is left, are what is
-- to be written after its first k entries, and so for the fault.
pub record Stood (v : Streamed) (p : Parts) (k : ℕ) (more : List ℕ) (broken exact : Bool) (count left : Option ℕ) (x y : Option (List ℕ))
    (held : List ℕ) : Type 0 where
  pub stands : StreamsIn v p v.shown.given more broken
  pub holds : TakesAllBut x y (output_from exact p count k) held (output_from exact p left v.shown.given)
  pub told : fault_from p count k ≡ fault_from p left v.shown.given

-- from a lister to another, past bytes that were taken
pub record Came (seen_old seen_new : Seen) (old new : Streamed) (exact : Bool) (count left : Option ℕ) (x y : Option (List ℕ))
    (held : List ℕ) : Type 0 where
  pub taken : List ℕ
  pub reads : Reads seen_old seen_new old.lines new.lines taken
  pub follows : (more : List ℕ) (broken : Bool) → Continues new.lines more broken → Continues old.lines (taken ++ more) broken
  pub stood : (p : Parts) (more : List ℕ) (broken : Bool) → Continues new.lines more broken
      → StreamsIn old p old.shown.given (taken ++ more) broken
      → Stood new p old.shown.given more broken exact count left x y held

-- nothing is done yet
pub came_none : (seen : Seen) (v : Streamed) (exact : Bool) (count : Option ℕ) (x : Option (List ℕ)) (held : List ℕ) → held ≡ []
    → Came seen seen v v exact count count x x held
came_none seen v exact count x held none = record {
  taken = [];
  reads = ReadsBytes-none seen v.lines.count v.lines.reach;
  follows = λ more broken f. f;
  stood = λ p more broken f s. record { stands = s; holds = rw none ([], refl, Appends-refl x); told = refl };
}

-- what was held is written
pub came_written : {seen_old seen_new : Seen} {old new : Streamed} {exact : Bool} {count left : Option ℕ}
    {x y z : Option (List ℕ)} {held : List ℕ}
    → Came seen_old seen_new old new exact count left x y held → Appends y z held → Came seen_old seen_new old new exact count left x z []
came_written {x = x} {y = y} {z = z} {held = held} c w = record {
  taken = c.taken;
  reads = c.reads;
  follows = c.follows;
  stood = λ p more broken f s. let m = c.stood p more broken f s in
      record { stands = m.stands; holds = TakesAllBut-written x y z _ held _ m.holds w; told = m.told };
}

-- what was done so far was done with each source
pub goes_here : {seen_old seen_new : Seen} {old new : Streamed} {exact : Bool} {count left : Option ℕ} {x y : Option (List ℕ)}
    {held : List ℕ} {done : List ℕ → Option Fault → Type 0}
    → Came seen_old seen_new old new exact count left x y held
    → ((p : Parts) (more : List ℕ) (broken : Bool) → Stood new p old.shown.given more broken exact count left x y held
    → done (output_from exact p count old.shown.given) (fault_from p count old.shown.given))
    → Lists seen_old seen_new old exact count done
goes_here {new = new} c does = record {
  new = new.lines;
  taken = c.taken;
  reads = c.reads;
  follows = c.follows;
  holds = λ p more broken f s. does p more broken (c.stood p more broken f s);
}

-- and so with what a step on takes
pub goes_on : {seen_old seen_mid seen_new : Seen} {old mid new : Streamed} {result : Result Step AllocError} {exact : Bool}
    {count left : Option ℕ} {x y : Option (List ℕ)} {held : List ℕ}
    {done : List ℕ → Option Fault → Type 0} → Came seen_old seen_mid old mid exact count left x y held
    → (s : Next seen_mid seen_new mid new result)
    → ((p : Parts) (more : List ℕ) (broken : Bool) → Continues new.lines more broken → Stood mid p old.shown.given (s.taken ++ more) broken
    exact count left x y held → done (output_from exact p count old.shown.given) (fault_from p count old.shown.given))
    → Lists seen_old seen_new old exact count done
goes_on {seen_old = seen_old} {seen_mid = seen_mid} {seen_new = seen_new} {old = old} {mid = mid} {new = new} c s does = record {
  new = new.lines;
  taken = c.taken ++ s.taken;
  reads = ReadsBytes-on seen_old seen_mid seen_new _ _ _ old.lines.reach mid.lines.reach new.lines.reach c.taken s.taken c.reads s.reads;
  follows = λ more broken f. rw append_assoc (c.follows (s.taken ++ more) broken (s.follows more broken f));
  holds = λ p more broken f t. does p more broken f (c.stood p (s.taken ++ more) broken (s.follows more broken f) (rw append_assoc at t));
}

-- an entry's line is held, and the lister stands after it
pub came_next : {seen_old seen_mid seen_new : Seen} {old mid new : Streamed} {step : Step} {e : Entry} {exact : Bool}
    {count left : Option ℕ} {x y : Option (List ℕ)} {before text held : List ℕ}
    → Came seen_old seen_mid old mid exact count left x y before → Next seen_mid seen_new mid new (Ok step)
    → step ≡ steps.Entry e → left ≢ Some 0
    → ((p : Parts) (k : ℕ) (more : List ℕ) (broken : Bool) → StreamsIn new p k more broken → text ≡ text_of p e)
    → held ≡ before ++ listing_line exact e text
    → Came seen_old seen_new old new exact count (left_after left e.kind) x y held
came_next {seen_old = seen_old} {seen_mid = seen_mid} {seen_new = seen_new} {old = old} {mid = mid} {new = new} {e = e} {exact = exact}
    {count = count} {left = left} {x = x} {y = y} {before = before} {held = held} c s is n shown held_is = record {
      taken = c.taken ++ s.taken;
      reads = ReadsBytes-on seen_old seen_mid seen_new _ _ _ old.lines.reach mid.lines.reach new.lines.reach c.taken
          s.taken c.reads s.reads;
      follows = λ more broken f. rw append_assoc (c.follows (s.taken ++ more) broken (s.follows more broken f));
      stood = λ p more broken f t.
          let m = c.stood p (s.taken ++ more) broken (s.follows more broken f) (rw append_assoc at t) in
          let next = moved p mid.shown.given more broken f m.stands in
          let given : new.shown.given ≡ mid.shown.given + 1 = next.1.stands.count in
          let line : held ≡ before ++ listing_line exact e (text_of p e) = held_is
          ∙ ap (λ u. before ++ listing_line exact e u) (shown p (mid.shown.given + 1) more broken next.1) in
          record {
            stands = subst (λ n. StreamsIn new p n more broken) (sym given) next.1;
            holds = rw given (held_next exact p mid.shown.given left e x y _ before held next.0 n line m.holds);
            told = m.told ∙ rw given (told_next p mid.shown.given left e next.0 n);
          };
    }
  where
    moved : (p : Parts) (k : ℕ) (more : List ℕ) (broken : Bool) → Continues new.lines more broken
        → StreamsIn mid p k (s.taken ++ more) broken
        → (slice_get (listing (in_characters p)) k ≡ Some (steps.Entry e)) × StreamsIn new p (k + 1) more broken
    moved p k more broken f t = rw is at s.steps p k more broken f t

-- a further entry is one more of those that a listing can have
pub counts_up : {seen_old seen_mid seen_new : Seen} {old mid new : Streamed} {step : Step} {e : Entry} {exact : Bool}
    {count left : Option ℕ} {x y : Option (List ℕ)} {held : List ℕ}
    → old.lines.count ≤ source_limit → ((more : List ℕ) (broken : Bool) → Continues old.lines more broken
    → (p : Parts) × StreamsIn old p old.shown.given more broken)
    → Came seen_old seen_mid old mid exact count left x y held → Next seen_mid seen_new mid new (Ok step) → step ≡ steps.Entry e
    → new.shown.given ≤ most_entries
    → most_entries - new.shown.given < most_entries - mid.shown.given
counts_up {mid = mid} {new = new} {count = count} limited somewhere c s is bound =
    let broken = is_broken new.lines.reach in
    let after = continues_none new.lines (s.reads.within (c.reads.within limited)) in
    let before = s.follows [] broken after in
    let source = somewhere (c.taken ++ (s.taken ++ [])) broken (c.follows (s.taken ++ []) broken before) in
    let m = c.stood source.0 (s.taken ++ []) broken before source.1 in
    let next : StreamsIn new source.0 (mid.shown.given + 1) [] broken =
    (rw is at s.steps source.0 mid.shown.given [] broken after m.stands).1 in
    let given : new.shown.given ≡ mid.shown.given + 1 = next.stands.count in
    omega arith

-- which step comes next
pub next_in : {seen_mid seen_new : Seen} {mid new : Streamed} {step met : Step} {p : Parts} {k : ℕ} {broken exact : Bool}
    {count left : Option ℕ} {x y : Option (List ℕ)} {held : List ℕ} (more : List ℕ)
    (s : Next seen_mid seen_new mid new (Ok step)) → step ≡ met → Continues new.lines more broken
    → Stood mid p k (s.taken ++ more) broken exact count left x y held
    → slice_get (listing (in_characters p)) mid.shown.given ≡ Some met
next_in {mid = mid} {p = p} {broken = broken} more s is f m =
    (rw is at s.steps p mid.shown.given more broken f m.stands).0

-- where there is no memory, what is held is kept
pub memory_held : {v : Streamed} {p : Parts} {k : ℕ} {more : List ℕ} {broken exact : Bool} {count left : Option ℕ}
    {x y : Option (List ℕ)} {held : List ℕ}
    → Stood v p k more broken exact count left x y held → HoldsFor (output_from exact p count k) (fault_from p count k) x y
    held (Some (Plain Memory))
memory_held {v = v} {p = p} {exact = exact} {left = left} s = (output_from exact p left v.shown.given, s.holds)

-- where the count is reached, the cursor's line is held after the others
pub stopped_held : {v : Streamed} {p : Parts} {k : ℕ} {more : List ℕ} {broken exact : Bool} {count left : Option ℕ}
    {x y : Option (List ℕ)} {before held : List ℕ}
    → left ≡ Some 0 → held ≡ before ++ cursor_line v.shown → Stood v p k more broken exact count left x y before
    → HoldsFor (output_from exact p count k) (fault_from p count k) x y held None
stopped_held {v = v} {p = p} {exact = exact} {left = left} {x = x} {y = y} {before = before} {held = held} none is s = (
  s.told ∙ told_none p left v.shown.given none,
  cursor_held exact p v.shown left x y _ before held none
      s.stands.stands.cursor is s.holds,
)

-- where the listing ends, all is held
pub ended_held : {v : Streamed} {p : Parts} {k : ℕ} {more : List ℕ} {broken exact : Bool} {count left : Option ℕ}
    {x y : Option (List ℕ)} {held : List ℕ}
    → left ≢ Some 0 → slice_get (listing (in_characters p)) v.shown.given ≡ Some steps.End
    → Stood v p k more broken exact count left x y held
    → HoldsFor (output_from exact p count k) (fault_from p count k) x y held None
ended_held {v = v} {p = p} {exact = exact} {left = left} n next s =
    let none = end_last (in_characters p) v.shown.given next in (
      s.told ∙ fault_ended p left v.shown.given n none.0 ∙ ap (λ f. option_map of_listing f) none.1,
      rw (output_ended exact p left v.shown.given n none.0) at s.holds,
    )

-- where it ends by a fault, all before that is held
pub faulty_held : {v : Streamed} {p : Parts} {k : ℕ} {more : List ℕ} {broken exact : Bool} {count left : Option ℕ} {x y : Option (List ℕ)}
    {held : List ℕ} {f : ListingFault}
    → left ≢ Some 0 → slice_get (listing (in_characters p)) v.shown.given ≡ Some (steps.Fault f)
    → Stood v p k more broken exact count left x y held
    → HoldsFor (output_from exact p count k) (fault_from p count k) x y held (Some (of_listing f))
faulty_held {v = v} {p = p} {exact = exact} {left = left} {x = x} {y = y} {held = held} {f = f} n next s =
    let none = fault_last (in_characters p) v.shown.given f next in
    HoldsFor-fault _ _ x y held f (s.told ∙ fault_ended p left v.shown.given n none.0 ∙ ap (λ f. option_map of_listing f) none.1)
    (rw (output_ended exact p left v.shown.given n none.0) at s.holds)
