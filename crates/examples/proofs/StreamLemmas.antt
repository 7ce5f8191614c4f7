-- Carries: first_comment. On: a lister over a reader gives one entry more at each step.
use Rattle.std.proofs.Common.{◌≡◌, ℕ, ◌+◌, Bool, true, false, List, [], ◌∷◌, ◌++◌, Option, Some, None, Ok, slice_get}
use Rattle.std.proofs.Common.{string_bytes, option_map, refl, sym, ap, subst, ◌∙◌, append_assoc, arith}
use Rattle.std.specs.Prelude.{find, String}
use Rattle.std.specs.declared.alloc.Global.{Global}
use Rattle.pysource.specs.Bytes.{Seen}
use Rattle.pysource.specs.Parts.{Parts}
use Rattle.pysource.specs.Streams.{FollowsAt, stream_of}
use Rattle.pysource.specs.Taking.{ReadsBytes}
use Rattle.pysource.specs.declared.line_reader.Reach.{Reach}
use Rattle.pysource.specs.declared.line_reader.Reach.TheVariants as reach
use Rattle.pysource.proofs.Callers.Taken.{ReadsBytes-on}
use Rattle.pylex_listing.specs.declared.entries.Entry.{Entry}
use Rattle.pylex_listing.specs.declared.entries.Step.{Step}
use Rattle.pylex_listing.specs.declared.entries.Step.TheVariants as steps
use Rattle.pylex_listing.specs.declared.kind.Kind.{Kind}
use Rattle.pylex_listing.specs.declared.kind.Kind.TheVariants as kinds
use Rattle.pylex_listing.specs.Listing.{in_characters, listing, rest}
use Rattle.pylex_listing.specs.ListingLines.{text_of}
use Rattle.pylex_listing.specs.Steps.{entries_of, entries_in}
use Rattle.pylex.specs.Streamed.{Streamed, StreamsIn, Continues, BeginsAnew, Next}
use Rattle.pylex.proofs.Callers.{next_is, end_last, fault_last}
use Rattle.examples.specs.Streams.{is_comment, first_comment_of, Finds}

-- no byte comes any more, since a read failed or the limit was passed
abbrev is_broken : Reach → Bool
is_broken reach.Broken = true
is_broken reach.Passed = true
is_broken r = false

follows_none : (r : Reach) → FollowsAt r [] (is_broken r)
follows_none reach.Reading = tt
follows_none reach.End = (refl, refl)
follows_none reach.Broken = (refl, refl)
follows_none reach.Passed = (refl, refl)

-- the first comment after some entries
abbrev pub first_after : Parts → ℕ → Option (List ℕ)
first_after p k = option_map (text_of p) (find is_comment (entries_of (rest (in_characters p) k)))

-- a comment is told by its type
pub comment_is : (e : Entry) → e.kind ≡ kinds.Comment → is_comment e ≡ true
comment_is e h = ap (λ (k : Kind). elim k [ kinds.Comment ↦ true | _ ↦ false ]) h

pub other_is : (e : Entry) → (e.kind ≡ kinds.Comment → ⊥) → is_comment e ≡ false
other_is e h = by e.kind h
  where
    by : (k : Kind) → (k ≡ kinds.Comment → ⊥) → elim k [ kinds.Comment ↦ true | _ ↦ false ] ≡ false
    by kinds.Comment h = absurd (h refl)
    by _ h = refl

-- a lister stands in a source, whatever follows of what was taken, and no comment was given
pub record Searches (seen_old seen_new : Seen) (v : Streamed) : Type 0 where
  pub taken : List ℕ
  pub reads : ReadsBytes seen_old seen_new reach.Reading v.lines.reach 0 v.lines.count taken
  pub stands : (more : List ℕ) (broken : Bool) → Continues v.lines more broken → (p : Parts) × (stream_of broken (taken ++ more) ≡ Ok p) ×
      StreamsIn v p v.shown.given more broken × (first_comment_of p ≡ first_after p v.shown.given)

given_is : (v : Streamed) (p : Parts) (k : ℕ) (more : List ℕ) (broken : Bool) → StreamsIn v p k more broken
    → StreamsIn v p v.shown.given more broken
given_is v p k more broken s = subst (λ (n : ℕ). StreamsIn v p n more broken) (sym s.stands.count) s

-- it does where it begins
pub begun : {seen_old seen_new : Seen} {v : Streamed} → BeginsAnew seen_old seen_new v → Searches seen_old seen_new v
begun {v = v} b = record {
  taken = b.begins.taken;
  reads = b.begins.reads;
  stands = λ more broken f. let s = b.begins.stands more broken f in
      (s.0, s.1, given_is v s.0 0 more broken s.2, ap (λ (n : ℕ). first_after s.0 n) (sym s.2.stands.count));
}

-- A step was taken.
module _ {seen_old seen_mid seen_new : Seen} {old new : Streamed} {step : Step} (s : Next seen_mid seen_new old new (Ok step))
    (o : Searches seen_old seen_mid old) where
  abbrev taken : List ℕ
  taken = o.taken ++ s.taken

  reads : ReadsBytes seen_old seen_new reach.Reading new.lines.reach 0 new.lines.count taken
  reads = ReadsBytes-on seen_old seen_mid seen_new 0 _ _ reach.Reading old.lines.reach new.lines.reach o.taken s.taken o.reads s.reads

  -- the step is the next one in the source, and the lister stands after it
  stepped : (more : List ℕ) (broken : Bool) → Continues new.lines more broken
      → (p : Parts) × (stream_of broken (taken ++ more) ≡ Ok p) × (first_comment_of p ≡ first_after p old.shown.given) ×
      (slice_get (listing (in_characters p)) old.shown.given ≡ Some step) × StreamsIn new p
      (old.shown.given + entries_in step) more broken
  stepped more broken f =
      let t = o.stands (s.taken ++ more) broken (s.follows more broken f) in
      let m = s.steps t.0 old.shown.given more broken f t.2 in
      (t.0, ap (λ (bytes : List ℕ). stream_of broken bytes) (append_assoc o.taken s.taken more) ∙ t.1, t.3, m.0, m.1)

  -- by one entry
  pub one_more : (e : Entry) → step ≡ steps.Entry e → new.shown.given ≡ old.shown.given + 1
  one_more e is =
      let t = stepped [] (is_broken new.lines.reach) (
        follows_none new.lines.reach,
        let w =
            reads.within (omega arith) in omega (arith, w),
      ) in
      let n : entries_in step ≡ 1 = ap (λ (x : Step). entries_in x) is in
      let c = t.4.stands.count in
      omega (arith, n, c)

  first_of : (p : Parts) (e : Entry) → slice_get (listing (in_characters p)) old.shown.given ≡ Some step → step ≡ steps.Entry e
      → entries_of (rest (in_characters p) old.shown.given) ≡ e ∷ entries_of (rest (in_characters p) (old.shown.given + 1))
  first_of p e at is = ap (λ (ss : List Step). entries_of ss) (next_is (in_characters p) old.shown.given (steps.Entry e) (at
      ∙ ap (λ (x : Step). Some x) is))

  -- past an entry that is no comment
  pub goes_on : (e : Entry) → step ≡ steps.Entry e → is_comment e ≡ false → Searches seen_old seen_new new
  goes_on e is other = record {
    taken = taken;
    reads = reads;
    stands = λ more broken f.
        let t = stepped more broken f in
        let first : first_after t.0 old.shown.given ≡ first_after t.0 (old.shown.given + 1) = rw (first_of t.0 e t.3 is, other) refl in (
          t.0,
          t.1,
          given_is new t.0 (old.shown.given + entries_in step) more broken t.4,
          t.2 ∙ first
              ∙ ap (λ (n : ℕ). first_after t.0 n) (sym (one_more e is)),
        );
  }

  -- to a comment
  pub finds : (e : Entry) (text : String Global) → step ≡ steps.Entry e → is_comment e ≡ true
      → ((p : Parts) (k : ℕ) (more : List ℕ) (broken : Bool) → StreamsIn new p k more broken → string_bytes text ≡ text_of p e)
      → Finds seen_old (Some text)
  finds e text is comment shown = record {
    seen_new = seen_new;
    taken = taken;
    lines = new.lines;
    reads = reads;
    is = λ more broken f.
        let t = stepped more broken f in
        let first : first_after t.0 old.shown.given ≡ Some (text_of t.0 e) = rw (first_of t.0 e t.3 is, comment) refl in
        (t.0, t.1, t.2 ∙ first ∙ ap (λ (bytes : List ℕ). Some bytes) (sym (shown t.0 (old.shown.given + entries_in step) more broken t.4)));
  }

  none_after : (p : Parts) (met : Step) → slice_get (listing (in_characters p)) old.shown.given ≡ Some met
      → ((e : Entry) → met ≡ steps.Entry e → ⊥) → first_after p old.shown.given ≡ None
  none_after p (steps.Entry e) at ends = absurd (ends e refl)
  none_after p steps.End at ends = ap (λ (es : List Entry). option_map (text_of p) (find is_comment es))
      (end_last (in_characters p) old.shown.given at).0
  none_after p (steps.Fault f) at ends = ap (λ (es : List Entry). option_map (text_of p) (find is_comment es))
      (fault_last (in_characters p) old.shown.given f at).0

  -- to the end or the fault
  pub finds_none : ((e : Entry) → step ≡ steps.Entry e → ⊥) → Finds seen_old None
  finds_none ends = record {
    seen_new = seen_new;
    taken = taken;
    lines = new.lines;
    reads = reads;
    is = λ more broken f. let t = stepped more broken f in (t.0, t.1, t.2 ∙ none_after t.0 step t.3 ends);
  }
