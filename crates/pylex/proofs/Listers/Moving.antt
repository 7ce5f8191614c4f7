-- A lister moves by one step.
--
-- Carries: Lister::new, Lister::next, next_met, Lister::resume_checked, advance, Machine::peek,
-- step_on. On: Cursoring, Looking, Finding, Layouts and 8 more.
use Rattle.std.proofs.Common.{◌≡◌, ℕ, zero, suc, ◌+◌, ◌-◌, ◌*◌, ◌<◌, ◌≤◌, Bool, true, false, ◌||◌, ◌==◌, List, [], ◌∷◌, ◌++◌, length, take}
use Rattle.std.proofs.Common.{drop, map, get_or, refl, ap, ◌∙◌, sym, subst, arith, Some, None, length-drop}
use Rattle.std.specs.Prelude.{slice_get}
use Rattle.std.specs.Str.{chars, IsUtf8}
use Rattle.std.proofs.Math.Seq.{take-suc, take-length}
use Rattle.std.proofs.lemmas.Bool.Decides.{nat_tests}
use Rattle.std.proofs.lemmas.List.{length-take-le, take-append-drop}
use Rattle.pysource.specs.Limits.{source_limit}
use Rattle.pysource.specs.Parts.{Parts}
use Rattle.pylex_listing.specs.declared.entries.Entry.{Entry}
use Rattle.pylex_listing.specs.declared.entries.ListingFault.{ListingFault}
use Rattle.pylex_listing.specs.declared.entries.Step.{Step}
use Rattle.pylex_listing.specs.declared.entries.Step.TheVariants as steps
use Rattle.pylex_listing.specs.declared.kind.Kind.{Kind}
use Rattle.pylex_listing.specs.declared.kind.Kind.TheVariants as kinds
use Rattle.pysource.specs.declared.places.Place.{Place}
use Rattle.pylex.specs.declared.line_state.LineState.{LineState}
use Rattle.pylex_listing.specs.declared.leading_char.LeadingChar.TheVariants.{Nothing}
use Rattle.pylex_lexeme.specs.Lexemes.{cut, left_by_cut}
use Rattle.pylex.specs.Cursors.{CursorParts, has_no_text, given_last_first, with_text, lexemes_to, cursor_at, cursor}
use Rattle.pylex_listing.specs.Listing.{Source, in_characters, listing, rest, origin, last_line}
use Rattle.pylex_listing.specs.Steps.{entries_of, first_step, entries_in, IsIndent, mark}
use Rattle.pylex_listing.specs.Machine.{State, first_state, remaining, mark_at, step_of, pushed, after, lead_after}
use Rattle.pylex.specs.LineState.{with_levels, measured, begun_anew, Stands, HasRoom, IsAscending, Comes, EntryAhead, FaultAhead}
use Rattle.pylex.specs.LineState.{IndentAhead, DedentAhead, StopAhead, Walks, stays, dedent, is_level}
use Rattle.pylex.specs.Standing.{standing_by, resumed}
use Rattle.pylex.specs.declared.cursor.CursorPoint.{CursorPoint}
use Rattle.pylex.specs.Listers.{Listed, StandsIn, NextStep, AwaitsIndent, Keeps, IsIn, Passes, shown_at, shown_by}
use Rattle.pylex_listing.proofs.Callers.{state_of}
use Rattle.pylex.proofs.Resumption.Ahead.{history_is, placed_first}
use Rattle.pylex.proofs.Resumption.Resuming.{begun_state}
use Rattle.pylex.proofs.Listing.Ends.{is_whole}
use Rattle.pylex.proofs.Levels.Layouts.{level-push, pushed_above, ascending-push, ascending-front}
use Rattle.pylex.proofs.Listers.Finding.{walks_steps, walks_on, same_ahead, fault_step, dedent_step}
use Rattle.pylex.proofs.Listers.Looking.{in_after, walks_in, line_in, left_in, resumed_anew, settled_ready, above_ready, walks_pass}
use Rattle.pylex.proofs.Resumption.Cursoring.{rest_in, ahead_is, after_empty, lexeme_first, after_lexeme, indent_first, after_indent}
use Rattle.pylex.proofs.Resumption.Cursoring.{after_first, encoding_first, stands_first}
use Rattle.pylex.proofs.Listing.Counts.{given_within}
use Rattle.pylex.proofs.Resumption.Skips.{skip_within}
use Rattle.pylex.proofs.Resumption.CursorBounds.{shown_fits}
use Rattle.pylex.proofs.Callers.{is_following}

-- The first of some steps is the one at its place.
pub first_at : (ss : List Step) (k : ℕ) → k < length ss → slice_get ss k ≡ Some (first_step (drop k ss))
first_at [] k h = absurd (omega arith)
first_at (s ∷ ss) zero h = refl
first_at (s ∷ ss) (suc k) h = first_at ss k (omega arith)

length_whole : (es : List Entry) (last : Step) → length (map steps.Entry es ++ last ∷ []) ≡ suc (length es)
length_whole [] last = refl
length_whole (e ∷ es) last = ap suc (length_whole es last)

pub listing_length : (a : Source) → length (listing a) ≡ suc (length (entries_of (listing a)))
listing_length a = let w = is_whole a in ap length w.whole ∙ length_whole (entries_of (listing a)) w.last

-- In each source in which a lister stands, a step comes first, and another lister stands after it.
abbrev pub Leads : Listed → Step → Listed → Type 0
Leads old step new = (a : Source) → StandsIn old a old.shown.given → (first_step (rest a old.shown.given) ≡ step) × StandsIn new a
    (old.shown.given + entries_in step)

pub leads_moves : (old : Listed) (step : Step) (new : Listed) → Leads old step new → NextStep old step new
leads_moves old step new f a k h =
    let c = h.count in
    let g = f a (record { cursor = h.cursor; count = refl; agrees = h.agrees }) in
    let w = (is_following h.cursor).within in
    let l = listing_length a in
    let first : first_step (rest a k) ≡ step = ap (λ n. first_step (rest a n)) (sym c) ∙ g.0 in (
      first_at (listing a) k (omega arith) ∙ ap Some first,
      subst (λ (n : ℕ). StandsIn new a (n + entries_in step)) c g.1,
    )

pub moves_from : (old same : Listed) (step : Step) (new : Listed) → old ≡ same → Leads old step new → NextStep same step new
moves_from old same step new e f = subst (λ (l : Listed). NextStep l step new) e (leads_moves old step new f)

-- the source in which a lister stands
pub leads_stood : (old : Listed) (step : Step) (new : Listed) → Leads old step new → new.shown.given ≡ old.shown.given + entries_in step
    → (a : Source) × StandsIn old a old.shown.given → (a : Source) × StandsIn new a new.shown.given
leads_stood old step new f e s = (s.0, subst (λ (n : ℕ). StandsIn new s.0 n) (sym e) (f s.0 s.1).1)

-- The entry of the encoding.
pub leads_encoding : (l : Listed) (e : Entry) → l.shown.given ≡ 0 → mark kinds.Encoding [] origin origin ≡ steps.Entry e
    → Leads l (steps.Entry e) (record l { shown = record l.shown { given = 1 } })
leads_encoding l e z is a h =
    let first : first_step (rest a l.shown.given) ≡ steps.Entry e = ap (λ n. first_step (rest a n)) z ∙ encoding_first a ∙ is in
    let one : 1 ≡ l.shown.given + 1 = omega arith in (
      first,
      subst (λ (n : ℕ). StandsIn (record l { shown = record l.shown { given = 1 } }) a n) one
          (after_first l a (subst (λ (n : ℕ). StandsIn l a n) z h)),
    )

drop_none : (n : ℕ) → drop {A = Step} n [] ≡ []
drop_none zero = refl
drop_none (suc n) = refl

drop_on : (m n : ℕ) (xs : List Step) → drop (m + n) xs ≡ drop n (drop m xs)
drop_on zero n xs = let z : 0 + n ≡ n = omega arith in rw z refl
drop_on (suc m) n [] = let z : suc m + n ≡ suc (m + n) = omega arith in rw z (sym (drop_none n))
drop_on (suc m) n (x ∷ xs) = let z : suc m + n ≡ suc (m + n) = omega arith in rw z (drop_on m n xs)

drop_length : (ss : List Step) (k : ℕ) → k ≤ length ss → length (drop k ss) + k ≡ length ss
drop_length ss k h = omega (arith, length-drop k ss)

-- the last of the open levels
last_level : (levels : List ℕ) (nested : ℕ) → nested ≤ length levels → 0 < length (take nested levels)
    → (v : ℕ) × (take nested levels ≡ take (nested - 1) levels ++ v ∷ [])
last_level levels zero h some = absurd (omega arith)
last_level levels (suc n) h some =
    let z : suc n - 1 ≡ n = omega arith in
    (get_or levels n 0, take-suc levels n 0 (omega arith) ∙ ap (λ k. take k levels ++ get_or levels n 0 ∷ []) (sym z))

-- a width below the last level is that of another
still_level : (ls : List ℕ) (w v : ℕ) → w < v → is_level w (ls ++ v ∷ []) ≡ true → is_level w ls ≡ true
still_level ls w v less h =
    let not_v : (v == w) ≡ false = grind (arith, nat_tests) in
    sym (or_false (is_level w ls)) ∙ ap (λ b. is_level w ls || b) (sym not_v) ∙ sym (level-push w v ls) ∙ h
  where
    or_false : (b : Bool) → (b || false) ≡ b
    or_false true = refl
    or_false false = refl

equal_ends : (e : Entry) → e.«from» ≡ e.to → has_no_text e ≡ true
equal_ends e h = grind (arith, nat_tests)

no_text : (k : Kind) (o : ℕ) (p : Place) (e : Entry) → mark_at k o p p ≡ steps.Entry e → has_no_text e ≡ true
no_text k o p e h = equal_ends e (by_entry _ e refl h)
  where
    by_entry : (d e : Entry) → d.«from» ≡ d.to → steps.Entry d ≡ steps.Entry e → e.«from» ≡ e.to
    by_entry d e q h = let x : d ≡ e = cc in subst (λ (y : Entry). y.«from» ≡ y.to) x q

module _ (l : Listed) (p : LineState) (left levels : List ℕ) (nested tail : ℕ) (keeps : Keeps l p left levels nested tail)
    (skips : l.shown.skip ≡ (length levels - nested) + tail) (some : 0 < l.shown.given) where
  abbrev source : Source
  source = in_characters l.source

  abbrev now : State
  now = with_levels p (0 ∷ take nested levels)

  abbrev there : State
  there = resumed l.shown (standing_by source l.shown).line

  -- what is left of the listing, by how far the lister has looked
  pub rest_left : (a : Source) → StandsIn l a l.shown.given → rest a l.shown.given ≡ drop tail (remaining source.fault now (chars left))
  rest_left a h =
      let left_there = (standing_by source l.shown).left in
      sym (rest_in l a l.shown.given h)
      ∙ ahead_is source l.shown some
      ∙ ap (λ n. drop n (remaining source.fault there left_there)) skips
      ∙ drop_on (length levels - nested) tail (remaining source.fault there left_there)
      ∙ ap (drop tail) (walks_steps source.fault now (chars left) (length levels - nested) there left_there keeps.came)

  -- the walk to what is met
  come_to : (q : LineState) (ds : List ℕ) → Comes (take nested levels) p (chars left) q ds
      → Walks (with_levels q (0 ∷ take nested levels)) ds (length levels - nested) there (standing_by source l.shown).left
  come_to q ds c =
      let z : (length levels - nested) + 0 ≡ length levels - nested = omega arith in
      subst (λ (n : ℕ). Walks (with_levels q (0 ∷ take nested levels)) ds n there (standing_by source l.shown).left) z
      (walks_on now (with_levels q (0 ∷ take nested levels)) (chars left) ds (length levels - nested) 0 there
      (standing_by source l.shown).left keeps.came c.walks)

  -- and in its text
  is_there : (q : LineState) (ds : List ℕ) → Comes (take nested levels) p (chars left) q ds
      → IsIn source.text (with_levels q (0 ∷ take nested levels)) ds
  is_there q ds c = walks_in source.text (with_levels q (0 ∷ take nested levels)) ds 0 now (chars left) c.walks keeps.placed

  module _ (none : tail ≡ 0) where
    skip_now : l.shown.skip ≡ length levels - nested
    skip_now = omega arith

    -- A fault.
    pub leads_fault : (f : ListingFault) → FaultAhead (take nested levels) p (chars left) f → Leads l (steps.Fault f) l
    leads_fault f h a s =
        let zero_more : l.shown.given ≡ l.shown.given + 0 = omega arith in (
          ap first_step (rest_left a s ∙ ap (λ n. drop n (remaining source.fault now (chars left))) none
              ∙ fault_step (take nested levels) p (chars left) f h source.fault),
          subst (λ (n : ℕ). StandsIn l a n) zero_more s,
        )

    -- The entry of a lexeme.
    pub leads_entry : (e : Entry) (q : LineState) (ds : List ℕ) (shown : CursorParts) → EntryAhead (take nested levels) p (chars left) e q
        ds → shown ≡ shown_at (l.shown.given + 1) (with_levels q (0 ∷ take nested levels))
        → Leads l (steps.Entry e) (record l { shown = shown })
    leads_entry e q ds shown h is a s =
        let t : State = with_levels h.there (0 ∷ take nested levels) in
        let w = subst (λ (n : ℕ). Walks t h.before n there (standing_by source l.shown).left) (sym skip_now)
        (come_to h.there h.before h.comes) in
        let p = walks_pass t h.before (settled_ready t h.before h.settled) l.shown.skip there (standing_by source l.shown).left w in
        let same : shown_at (l.shown.given + 1) (after t h.lexeme) ≡ shown = ap (shown_at (l.shown.given + 1)) (sym h.goes) ∙ sym is in (
          lexeme_first l a l.shown.given t h.before h.lexeme e s some p h.settled h.stands h.own,
          subst (λ (c : CursorParts). StandsIn (record l { shown = c }) a (l.shown.given + 1)) same
              (after_lexeme l a l.shown.given t h.before h.lexeme e s some p h.settled h.stands h.own),
        )

    pub entry_in : (e : Entry) (q : LineState) (ds : List ℕ) → EntryAhead (take nested levels) p (chars left) e q ds
        → IsIn source.text (with_levels q (0 ∷ take nested levels)) ds
    entry_in e q ds h =
        let t : State = with_levels h.there (0 ∷ take nested levels) in
        let i = in_after source.text t h.before h.lexeme h.stands (is_there h.there h.before h.comes) in
        subst (λ (s : State). IsIn source.text s ds) (sym h.goes)
        (subst (λ (es : List ℕ). IsIn source.text (after t h.lexeme) es) (sym h.following) i)

    -- An INDENT.
    indent_passes : (q : LineState) (ds : List ℕ) → Comes (take nested levels) p (chars left) q ds → IndentAhead (take nested levels) q ds
        → Passes (with_levels q (0 ∷ take nested levels)) ds l.shown.skip there (standing_by source l.shown).left
    indent_passes q ds c h =
        let t : State = with_levels q (0 ∷ take nested levels) in
        walks_pass t ds (above_ready t ds h.above) l.shown.skip there (standing_by source l.shown).left
        (subst (λ (n : ℕ). Walks t ds n there (standing_by source l.shown).left) (sym skip_now) (come_to q ds c))

    pub leads_indent : (e : Entry) (q r : LineState) (ds ls : List ℕ) (shown : CursorParts) → Comes (take nested levels) p (chars left) q ds
        → IndentAhead (take nested levels) q ds → step_of kinds.Indent None q.line q.now ≡ steps.Entry e
        → ((ns : List ℕ) → with_levels r (pushed q.width ns) ≡ measured (with_levels q ns)) → ls ≡ take nested levels ++ q.width ∷ []
        → shown ≡ shown_at (l.shown.given + 1) (with_levels r (0 ∷ ls)) → Leads l (steps.Entry e) (record l { shown = shown })
    leads_indent e q r ds ls shown c h step measures levels_are is a s =
        let t : State = with_levels q (0 ∷ take nested levels) in
        let p = indent_passes q ds c h in
        let state : measured t ≡ with_levels r (0 ∷ ls) = sym (measures (0 ∷ take nested levels))
        ∙ ap (with_levels r) (pushed_above q.width (0 ∷ take nested levels) h.above ∙ ap (λ ns. 0 ∷ ns) (sym levels_are)) in
        let same : shown_at (l.shown.given + 1) (measured t) ≡ shown = ap (shown_at (l.shown.given + 1)) state ∙ sym is in (
          indent_first l a l.shown.given t ds s some p h.margin h.significant h.above ∙ step,
          subst (λ (c : CursorParts). StandsIn (record l { shown = c }) a (l.shown.given + 1)) same
              (after_indent l a l.shown.given t ds s some p h.margin h.significant h.above),
        )

    pub indent_in : (q r : LineState) (ds ls : List ℕ) → Comes (take nested levels) p (chars left) q ds
        → IndentAhead (take nested levels) q ds → ((ns : List ℕ) → with_levels r (pushed q.width ns) ≡ measured (with_levels q ns))
        → ls ≡ take nested levels ++ q.width ∷ [] → IsIn source.text (with_levels r (0 ∷ ls)) ds
    indent_in q r ds ls c h measures levels_are =
        let t : State = with_levels q (0 ∷ take nested levels) in
        let state : measured t ≡ with_levels r (0 ∷ ls) = sym (measures (0 ∷ take nested levels))
        ∙ ap (with_levels r) (pushed_above q.width (0 ∷ take nested levels) h.above ∙ ap (λ ns. 0 ∷ ns) (sym levels_are)) in
        let i = is_there q ds c in
        subst (λ (s : State). IsIn source.text s ds) state (record {
          before = i.before;
          whole = i.whole;
          offset = i.offset;
          column =
              i.column;
          lead = i.lead;
        })

    pub awaits_indent : (q : LineState) (ds : List ℕ) → Comes (take nested levels) p (chars left) q ds
        → IndentAhead (take nested levels) q ds → AwaitsIndent l
    awaits_indent q ds c h a k s =
        let n = s.count in
        let first = indent_first l a l.shown.given (with_levels q (0 ∷ take nested levels)) ds
        (record { cursor = s.cursor; count = refl; agrees = s.agrees }) some (indent_passes q ds c h) h.margin h.significant h.above in
        subst IsIndent (sym (ap (λ j. first_step (rest a j)) (sym n) ∙ first)) tt

    -- A DEDENT.
    pub leads_dedent : (e : Entry) (q : LineState) (ds : List ℕ) (skip : ℕ) → Comes (take nested levels) p (chars left) q ds
        → DedentAhead (take nested levels) q ds → mark_at kinds.Dedent q.now.offset q.now.place q.now.place ≡ steps.Entry e
        → skip ≡ l.shown.skip + 1 → Leads l (steps.Entry e) (record l { shown = record l.shown { given = l.shown.given + 1; skip = skip } })
    leads_dedent e q ds skip c h step more a s =
        let t : State = with_levels q (0 ∷ take nested levels) in
        let g = last_level levels nested keeps.within h.some in
        let d = dedent_step source.fault t ds (0 ∷ take (nested - 1) levels) g.0 h.margin h.significant (ap (λ ns. 0 ∷ ns) g.1)
        (h.last (take (nested - 1) levels) g.0 g.1) (still_level (0 ∷ take (nested - 1) levels) q.width g.0
        (h.last (take (nested - 1) levels) g.0 g.1) (ap (λ ns. is_level q.width (0 ∷ ns)) (sym g.1) ∙ h.level)) in
        let first : first_step (rest a l.shown.given) ≡ steps.Entry e =
        ap first_step (rest_left a s ∙ ap (λ n. drop n (remaining source.fault now (chars left))) none
        ∙ same_ahead (take nested levels) p (chars left) q ds c source.fault ∙ d) ∙ step in (
          first,
          subst (λ (n : ℕ). StandsIn (record l { shown = record l.shown { given = l.shown.given + 1; skip = n } }) a (l.shown.given + 1))
              (sym more)
              (after_empty l a l.shown.given e s some first (no_text kinds.Dedent q.now.offset q.now.place e step)),
        )

    pub dedent_walk : (q : LineState) (ds : List ℕ) → Comes (take nested levels) p (chars left) q ds → DedentAhead (take nested levels) q ds
        → Walks (with_levels q (0 ∷ take (nested - 1) levels)) ds (length levels - (nested - 1)) there (standing_by source l.shown).left
    dedent_walk q ds c h =
        let t : State = with_levels q (0 ∷ take nested levels) in
        let u : State = with_levels q (0 ∷ take (nested - 1) levels) in
        let g = last_level levels nested keeps.within h.some in
        let less : q.width < g.0 = h.last (take (nested - 1) levels) g.0 g.1 in
        let some_nested : 0 < nested = omega (arith, h.some, length-take-le nested levels keeps.within) in
        let w = keeps.within in
        let count : (length levels - nested) + 1 ≡ length levels - (nested - 1) = omega arith in
        let one : Walks u ds 1 t ds = dedent 0 t ds (0 ∷ take (nested - 1) levels) g.0 h.margin h.significant (ap (λ ns. 0 ∷ ns) g.1) less
        (still_level (0 ∷ take (nested - 1) levels) q.width g.0 less (ap (λ ns. is_level q.width (0 ∷ ns)) (sym g.1) ∙ h.level))
        stays in
        subst (λ (n : ℕ). Walks u ds n there (standing_by source l.shown).left) count
        (walks_on t u ds ds (length levels - nested) 1 there (standing_by source l.shown).left (come_to q ds c) one)

  -- The steps of the end.
  pub end_rest : (q : LineState) (ds : List ℕ) (step : Step) → Comes (take nested levels) p (chars left) q ds
      → (tail < length (remaining source.fault (with_levels q (0 ∷ take nested levels)) ds)
      → step ≡ first_step (drop tail (remaining source.fault (with_levels q (0 ∷ take nested levels)) ds))) → (a : Source)
      → StandsIn l a l.shown.given → first_step (rest a l.shown.given) ≡ step
  end_rest q ds step c is a s =
      let ss = remaining source.fault (with_levels q (0 ∷ take nested levels)) ds in
      let same : rest a l.shown.given ≡ drop tail ss = rest_left a s
      ∙ ap (drop tail) (same_ahead (take nested levels) p (chars left) q ds c source.fault) in
      let within = (is_following s.cursor).within in
      let left_over : length (rest a l.shown.given) + l.shown.given ≡ length (listing a) =
      drop_length (listing a) l.shown.given (omega (arith, within, listing_length a)) in
      let there_too : length (drop tail ss) ≡ length ss - tail = length-drop tail ss in
      let counted = ap length same in
      let whole = listing_length a in
      ap first_step same ∙ sym (is (omega arith))

  pub leads_end : (q : LineState) (ds : List ℕ) (e : Entry) (skip : ℕ) → Comes (take nested levels) p (chars left) q ds
      → (tail < length (remaining source.fault (with_levels q (0 ∷ take nested levels)) ds)
      → steps.Entry e ≡ first_step (drop tail (remaining source.fault (with_levels q (0 ∷ take nested levels)) ds))) → e.«from» ≡ e.to
      → skip ≡ l.shown.skip + 1 → Leads l (steps.Entry e) (record l { shown = record l.shown { given = l.shown.given + 1; skip = skip } })
  leads_end q ds e skip c is empty more a s =
      let first = end_rest q ds (steps.Entry e) c is a s in (
        first,
        subst (λ (n : ℕ). StandsIn (record l { shown = record l.shown { given = l.shown.given + 1; skip = n } }) a (l.shown.given + 1))
            (sym more)
            (after_empty l a l.shown.given e s some first (equal_ends e empty)),
      )

  pub leads_stop : (q : LineState) (ds : List ℕ) (step : Step) → Comes (take nested levels) p (chars left) q ds
      → (tail < length (remaining source.fault (with_levels q (0 ∷ take nested levels)) ds)
      → step ≡ first_step (drop tail (remaining source.fault (with_levels q (0 ∷ take nested levels)) ds)))
      → entries_in step ≡ 0 → Leads l step l
  leads_stop q ds step c is z a s =
      let zero_more : l.shown.given ≡ l.shown.given + entries_in step = omega arith in
      (end_rest q ds step c is a s, subst (λ (n : ℕ). StandsIn l a n) zero_more s)

  pub stop_walk : (q : LineState) (ds : List ℕ) → Comes (take nested levels) p (chars left) q ds
      → Walks (with_levels q (0 ∷ take nested levels)) ds (length levels - nested) there (standing_by source l.shown).left
  stop_walk q ds c = come_to q ds c

  pub stop_in : (q : LineState) (ds : List ℕ) → Comes (take nested levels) p (chars left) q ds
      → IsIn source.text (with_levels q (0 ∷ take nested levels)) ds
  stop_in q ds c = is_there q ds c

-- Directly after an entry with text.
pub keeps_after : (l : Listed) (q r : LineState) (left ls : List ℕ) (nested tail : ℕ) → IsUtf8 l.source.text
    → length l.source.text ≤ source_limit → (a : Source) × StandsIn l a l.shown.given
    → l.shown ≡ shown_at l.shown.given (with_levels q (0 ∷ ls)) → Stands r left → IsAscending 0 ls → nested ≡ length ls → tail ≡ 0
    → IsIn (chars l.source.text) (with_levels q (0 ∷ ls)) (chars left) → ((ns : List ℕ) → with_levels r ns ≡ begun_anew (with_levels q ns))
    → Keeps l r left ls nested tail
keeps_after l q r left ls nested tail utf8 small stood is stands ascending n z i anew =
    let a : Source = in_characters l.source in
    let s : State = with_levels q (0 ∷ ls) in
    let o : l.shown.offset ≡ s.now.offset = ap (λ (c : CursorParts). c.offset) is in
    let all : take nested ls ≡ ls = ap (λ j. take j ls) n ∙ take-length ls in
    let none : length ls - nested ≡ 0 = omega arith in
    let state : resumed l.shown (standing_by a l.shown).line ≡ with_levels r (0 ∷ take nested ls) =
    ap (λ c. resumed c (standing_by a l.shown).line) is
    ∙ ap (resumed (shown_at l.shown.given s)) (line_in a l.shown s (chars left) o i)
    ∙ resumed_anew l.shown.given s (last_line i.before) i.column i.lead
    ∙ sym (anew (0 ∷ ls))
    ∙ ap (λ ns. with_levels r (0 ∷ ns)) (sym all) in
    let now : begun_anew s ≡ with_levels r (0 ∷ take nested ls) = sym (anew (0 ∷ ls)) ∙ ap (λ ns. with_levels r (0 ∷ ns)) (sym all) in
    record {
      utf8 = utf8;
      small = small;
      stood = stood;
      stands = stands;
      ascending = ascending;
      within = omega arith;
      placed = subst (λ (u : State). IsIn a.text u (chars left)) now (record {
        before = i.before;
        whole = i.whole;
        offset = i.offset;
        column = i.column;
        lead = i.lead;
      });
      came = subst (λ (u : State). Walks (with_levels r (0 ∷ take nested ls)) (chars left) (length ls - nested) u
          (standing_by a l.shown).left) (sym state)
          (subst (λ (es : List ℕ). Walks (with_levels r (0 ∷ take nested ls)) (chars left) (length ls - nested)
          (with_levels r (0 ∷ take nested ls)) es) (sym (left_in a l.shown s (chars left) o i))
          (subst (λ (k : ℕ). Walks (with_levels r (0 ∷ take nested ls)) (chars left) k (with_levels r (0 ∷ take nested ls))
          (chars left)) (sym none) stays));
      stop = λ h. absurd (omega arith);
    }

-- The counts of a cursor say nothing of its place.
same_start : (c : CursorParts) (k n : ℕ) (line : List ℕ) → resumed c line ≡ resumed (record c { given = k; skip = n }) line
unfolding resumed
same_start c k n line = refl

same_line : (a : Source) (c : CursorParts) (k n : ℕ) → (standing_by a c).line ≡ (standing_by a (record c { given = k; skip = n })).line
unfolding standing_by
same_line a c k n = refl

same_left : (a : Source) (c : CursorParts) (k n : ℕ) → (standing_by a c).left ≡ (standing_by a (record c { given = k; skip = n })).left
unfolding standing_by
same_left a c k n = refl

came_same : (a : Source) (c : CursorParts) (k n : ℕ) (t : State) (ds : List ℕ) (m : ℕ)
    → Walks t ds m (resumed c (standing_by a c).line) (standing_by a c).left
    → Walks t ds m (resumed (record c { given = k; skip = n }) (standing_by a (record c { given = k; skip = n })).line)
    (standing_by a (record c { given = k; skip = n })).left
came_same a c k n t ds m w =
    let d : CursorParts = record c { given = k; skip = n } in
    subst (λ (s : State). Walks t ds m s (standing_by a d).left) (ap (resumed c) (same_line a c k n)
    ∙ same_start c k n (standing_by a d).line)
    (subst (λ (es : List ℕ). Walks t ds m (resumed c (standing_by a c).line) es) (same_left a c k n) w)

-- A lister goes on by a step: it stands after it, and keeps what it has to.
pub record Advances (old : Listed) (step : Step) (new : Listed) (r : LineState) (left ls : List ℕ) (nested tail : ℕ) : Type 0 where
  pub leads : Leads old step new
  pub keeps : Keeps new r left ls nested tail

-- The state after an entry with text has the room that is left.
anew_stands : (q r : LineState) (ds : List ℕ) → ((n : ℕ) → HasRoom q n → HasRoom r n) → Stands q ds → Stands r ds
anew_stands q r ds room h = record { utf8 = h.utf8; room = room (length ds) h.room }

pub ascending-take : (m n : ℕ) (ls : List ℕ) → IsAscending m ls → IsAscending m (take n ls)
ascending-take m n ls h = ascending-front m (take n ls) (drop n ls) (subst (IsAscending m) (sym (take-append-drop n ls)) h)

pub goes_first : (l : Listed) (p : LineState) (left levels : List ℕ) (nested tail : ℕ) (e : Entry) → Keeps l p left levels nested tail
    → l.shown.given ≡ 0 → mark_at kinds.Encoding 0 origin origin ≡ steps.Entry e
    → Advances l (steps.Entry e) (record l { shown = record l.shown { given = 1 } }) p left levels nested tail
goes_first l p left levels nested tail e keeps z is =
    let new : Listed = record l { shown = record l.shown { given = 1 } } in
    let leads : Leads l (steps.Entry e) new = leads_encoding l e z is in
    record {
      leads = leads;
      keeps = record {
        utf8 = keeps.utf8;
        small = keeps.small;
        stood = leads_stood l (steps.Entry e) new leads (omega arith) keeps.stood;
        stands = keeps.stands;
        ascending = keeps.ascending;
        within = keeps.within;
        placed = keeps.placed;
        came = came_same (in_characters l.source) l.shown 1 l.shown.skip (with_levels p (0 ∷ take nested levels)) (chars left)
            (length levels - nested) keeps.came;
        stop = keeps.stop;
      };
    }

module _ (l : Listed) (p : LineState) (left levels : List ℕ) (nested tail : ℕ) (keeps : Keeps l p left levels nested tail)
    (skips : l.shown.skip ≡ (length levels - nested) + tail) (some : 0 < l.shown.given) where
  pub goes_entry : (none : tail ≡ 0) (e : Entry) (q r : LineState) (ds ls : List ℕ) (point : CursorPoint)
      → EntryAhead (take nested levels) p (chars left) e q (chars ds) → Stands q ds
      → ((ns : List ℕ) → with_levels r ns ≡ begun_anew (with_levels q ns)) → ((n : ℕ) → HasRoom q n → HasRoom r n)
      → ((k : ℕ) (ms : List ℕ) → shown_by k point ms 0 ≡ shown_at k (with_levels q (0 ∷ ms))) → ls ≡ take nested levels
      → Advances l (steps.Entry e)
      (record { source = l.source; shown = shown_by (l.shown.given + 1) point ls ((length ls - nested) + tail) }) r ds ls nested tail
  goes_entry none e q r ds ls point h stands anew room at is =
      let counted : length ls ≡ nested = ap length is ∙ length-take-le nested levels keeps.within in
      let no_skip : (length ls - nested) + tail ≡ 0 = omega arith in
      let new : Listed = record { source = l.source; shown = shown_by (l.shown.given + 1) point ls ((length ls - nested) + tail) } in
      let shown : new.shown ≡ shown_at (l.shown.given + 1) (with_levels q (0 ∷ ls)) = ap (shown_by (l.shown.given + 1) point ls) no_skip
      ∙ at (l.shown.given + 1) ls in
      let leads : Leads l (steps.Entry e) new = leads_entry l p left levels nested tail keeps skips some none e q (chars ds) new.shown h
      (shown ∙ ap (λ ns. shown_at (l.shown.given + 1) (with_levels q (0 ∷ ns))) is) in
      let ascending : IsAscending 0 ls = subst (IsAscending 0) (sym is) (ascending-take 0 nested levels keeps.ascending) in
      record {
        leads = leads;
        keeps = keeps_after new q r ds ls nested tail keeps.utf8 keeps.small (leads_stood l (steps.Entry e) new leads refl keeps.stood)
            shown (anew_stands q r ds room stands) ascending (sym counted) none
            (subst (λ (ns : List ℕ). IsIn (chars l.source.text) (with_levels q (0 ∷ ns)) (chars ds)) (sym is)
            (entry_in l p left levels nested tail keeps skips some none e q (chars ds) h)) anew;
      }

  pub goes_indent : (none : tail ≡ 0) (e : Entry) (q m r : LineState) (ds ls : List ℕ) (count : ℕ) (point : CursorPoint)
      → Comes (take nested levels) p (chars left) q (chars ds) → IndentAhead (take nested levels) q (chars ds)
      → step_of kinds.Indent None q.line q.now ≡ steps.Entry e → Stands q ds
      → ((ns : List ℕ) → with_levels m (pushed q.width ns) ≡ measured (with_levels q ns)) → ((n : ℕ) → HasRoom q n → HasRoom m n)
      → ((ns : List ℕ) → with_levels r ns ≡ begun_anew (with_levels m ns)) → ((n : ℕ) → HasRoom m n → HasRoom r n)
      → ((k : ℕ) (ms : List ℕ) → shown_by k point ms 0 ≡ shown_at k (with_levels m (0 ∷ ms))) → ls ≡ take nested levels ++ q.width ∷ []
      → count ≡ length ls → Advances l (steps.Entry e)
      (record { source = l.source; shown = shown_by (l.shown.given + 1) point ls ((length ls - count) + tail) }) r ds ls count tail
  goes_indent none e q m r ds ls count point c h step stands measures room anew room_anew at is counted =
      let no_skip : (length ls - count) + tail ≡ 0 = omega arith in
      let new : Listed = record { source = l.source; shown = shown_by (l.shown.given + 1) point ls ((length ls - count) + tail) } in
      let shown : new.shown ≡ shown_at (l.shown.given + 1) (with_levels m (0 ∷ ls)) = ap (shown_by (l.shown.given + 1) point ls) no_skip
      ∙ at (l.shown.given + 1) ls in
      let leads : Leads l (steps.Entry e) new = leads_indent l p left levels nested tail keeps skips some none e q m (chars ds) ls new.shown
      c h step measures is shown in
      let ascending : IsAscending 0 ls =
      subst (IsAscending 0) (sym is)
      (ascending-push 0 q.width (take nested levels) (ascending-take 0 nested levels keeps.ascending) h.above) in
      record {
        leads = leads;
        keeps = keeps_after new m r ds ls count tail keeps.utf8 keeps.small (leads_stood l (steps.Entry e) new leads refl keeps.stood)
            shown (anew_stands m r ds room_anew (anew_stands q m ds room stands)) ascending counted none
            (indent_in l p left levels nested tail keeps skips some none q m (chars ds) ls c h measures is) anew;
      }

  pub goes_dedent : (none : tail ≡ 0) (e : Entry) (q : LineState) (ds : List ℕ) (skip : ℕ)
      → Comes (take nested levels) p (chars left) q (chars ds) → DedentAhead (take nested levels) q (chars ds)
      → mark_at kinds.Dedent q.now.offset q.now.place q.now.place ≡ steps.Entry e → Stands q ds
      → skip ≡ (length levels - (nested - 1)) + tail
      → Advances l (steps.Entry e) (record l { shown = record l.shown { given = l.shown.given + 1; skip = skip } }) q ds
      levels (nested - 1) tail
  goes_dedent none e q ds skip c h step stands is =
      let within = keeps.within in
      let some_nested : 0 < nested = omega (arith, h.some, length-take-le nested levels keeps.within) in
      let more : skip ≡ l.shown.skip + 1 = omega arith in
      let new : Listed = record l { shown = record l.shown { given = l.shown.given + 1; skip = skip } } in
      let leads : Leads l (steps.Entry e) new = leads_dedent l p left levels nested tail keeps skips some none e q
      (chars ds) skip c h step more in
      let w = dedent_walk l p left levels nested tail keeps skips some none q (chars ds) c h in
      let i = stop_in l p left levels nested tail keeps skips some q (chars ds) c in
      record {
        leads = leads;
        keeps = record {
          utf8 = keeps.utf8;
          small = keeps.small;
          stood = leads_stood l (steps.Entry e) new leads refl keeps.stood;
          stands = stands;
          ascending = keeps.ascending;
          within = omega arith;
          placed = record { before = i.before; whole = i.whole; offset = i.offset; column = i.column; lead = i.lead };
          came = came_same (in_characters l.source) l.shown (l.shown.given + 1) skip (with_levels q (0 ∷ take (nested - 1) levels))
              (chars ds) (length levels - (nested - 1)) w;
          stop = λ n. absurd (omega arith);
        };
      }

  pub goes_end : (e : Entry) (q : LineState) (ds : List ℕ) (skip : ℕ) → Comes (take nested levels) p (chars left) q (chars ds)
      → StopAhead q (chars ds)
      → (tail < length (remaining (in_characters l.source).fault (with_levels q (0 ∷ take nested levels)) (chars ds))
      → steps.Entry e ≡ first_step
      (drop tail (remaining (in_characters l.source).fault (with_levels q (0 ∷ take nested levels)) (chars ds)))) → e.«from» ≡ e.to
      → Stands q ds → skip ≡ (length levels - nested) + (tail + 1)
      → Advances l (steps.Entry e) (record l { shown = record l.shown { given = l.shown.given + 1; skip = skip } }) q ds
      levels nested (tail + 1)
  goes_end e q ds skip c h is empty stands skip_is =
      let more : skip ≡ l.shown.skip + 1 = omega arith in
      let new : Listed = record l { shown = record l.shown { given = l.shown.given + 1; skip = skip } } in
      let leads : Leads l (steps.Entry e) new = leads_end l p left levels nested tail keeps skips some q (chars ds)
      e skip c is empty more in
      record {
        leads = leads;
        keeps = record {
          utf8 = keeps.utf8;
          small = keeps.small;
          stood = leads_stood l (steps.Entry e) new leads refl keeps.stood;
          stands = stands;
          ascending = keeps.ascending;
          within = keeps.within;
          placed = stop_in l p left levels nested tail keeps skips some q (chars ds) c;
          came = came_same (in_characters l.source) l.shown (l.shown.given + 1) skip (with_levels q (0 ∷ take nested levels)) (chars ds)
              (length levels - nested) (stop_walk l p left levels nested tail keeps skips some q (chars ds) c);
          stop = λ _. h;
        };
      }

-- The counts of a lister fit.
pub given_fits : (l : Listed) (p : LineState) (left levels : List ℕ) (nested tail : ℕ) → Keeps l p left levels nested tail
    → l.shown.given ≤ 3 * source_limit + 4
given_fits l p left levels nested tail keeps =
    let g = given_within l keeps.stood.0 l.shown.given keeps.utf8 keeps.stood.1 in
    let s = keeps.small in
    omega arith

pub skip_fits : (l : Listed) (p : LineState) (left levels : List ℕ) (nested tail : ℕ) → Keeps l p left levels nested tail
    → l.shown.skip ≤ length l.shown.levels + 1
skip_fits l p left levels nested tail keeps = skip_within l keeps.stood.0 l.shown.given keeps.stood.1

-- A lister that begins.
pub cursor_opens : (a : Source) → cursor a 0 ≡ cursor_at 0 0 false (lexemes_to 0 [] (cut a.text))
unfolding cursor given_last_first with_text
cursor_opens a = refl

begins_as : cursor_at 0 0 false [] ≡ shown_at 0 (state_of [])
unfolding cursor_at state_of
begins_as = refl

cursor_start : (a : Source) → cursor a 0 ≡ shown_at 0 first_state
cursor_start a = cursor_opens a ∙ ap (cursor_at 0 0 false) (history_is a [] (cut a.text) a.text (left_by_cut a.text) (placed_first a))
    ∙ begins_as ∙ ap (shown_at 0) begun_state

no_line : last_line [] ≡ []
unfolding last_line
no_line = refl

pub shown_first : (source : Parts) (p : LineState) (point : CursorPoint) (ls : List ℕ) → ls ≡ [] → with_levels p (0 ∷ []) ≡ first_state
    → ((k : ℕ) (ms : List ℕ) → shown_by k point ms 0 ≡ shown_at k (with_levels p (0 ∷ ms)))
    → StandsIn (record { source = source; shown = shown_by 0 point ls ((length ls - 0) + 0) }) (in_characters source) 0
shown_first source p point ls e first at =
    let shown : shown_by 0 point ls ((length ls - 0) + 0) ≡ cursor (in_characters source) 0 =
    ap (λ ms. shown_by 0 point ms ((length ms - 0) + 0)) e ∙ at 0 [] ∙ ap (shown_at 0) first
    ∙ sym (cursor_start (in_characters source)) in
    subst (λ (c : CursorParts). StandsIn (record { source = source; shown = c }) (in_characters source) 0) (sym shown) (stands_first source)

pub keeps_first : (source : Parts) (p : LineState) (point : CursorPoint) (ls : List ℕ) → IsUtf8 source.text → length source.text ≤ source_limit
    → ls ≡ [] → with_levels p (0 ∷ []) ≡ first_state → ((k : ℕ) (ms : List ℕ) → shown_by k point ms 0 ≡ shown_at k (with_levels p (0 ∷ ms)))
    → Keeps (record { source = source; shown = shown_by 0 point ls ((length ls - 0) + 0) }) p source.text ls 0 0
keeps_first source p point ls utf8 small e first at =
    let none : length ls ≡ 0 = ap length e in
    let no_skip : (length ls - 0) + 0 ≡ 0 = omega arith in
    let row : p.now.place.row ≡ 1 = ap (λ (s : State). s.now.place.row) first in
    let column : p.now.place.column ≡ 0 = ap (λ (s : State). s.now.place.column) first in
    let offset : p.now.offset ≡ 0 = ap (λ (s : State). s.now.offset) first in
    let depth : p.depth ≡ 0 = ap (λ (s : State). s.depth) first in
    let width : p.width ≡ 0 = ap (λ (s : State). s.width) first in
    keeps_after (record { source = source; shown = shown_by 0 point ls ((length ls - 0) + 0) }) p p source.text ls 0 0 utf8 small
    (in_characters source, shown_first source p point ls e first at)
    (ap (shown_by 0 point ls) no_skip ∙ at 0 ls)
    (record {
      utf8 = utf8;
      room = record {
        row = omega arith;
        column = omega arith;
        offset = omega arith;
        depth = omega arith;
        width = omega arith;
      };
    })
    (subst (IsAscending 0) (sym e) tt) (sym none) refl
    (record {
      before = [];
      whole = refl;
      offset = offset;
      column = column ∙ ap length (sym no_line);
      lead = ap (λ (s : State). s.lead) first
          ∙ ap (lead_after Nothing) (sym no_line);
    })
    (λ ns. ap (λ (s : State). record s { levels = ns }) first ∙ ap (λ (s : State). begun_anew (record s { levels = ns })) (sym first))

pub row_from_one : (l : Listed) (p : LineState) (left levels : List ℕ) (nested tail : ℕ)
    → Keeps l p left levels nested tail → 1 ≤ l.shown.row
row_from_one l p left levels nested tail keeps = (shown_fits l keeps.stood.0 l.shown.given keeps.utf8 keeps.stood.1).row

-- Before the end an entry comes.
entry_among : (es : List Entry) (last s : Step) (k : ℕ) → k < length es → slice_get (map steps.Entry es ++ last ∷ []) k ≡ Some s
    → (e : Entry) × (s ≡ steps.Entry e)
entry_among [] last s k h g = absurd (omega arith)
entry_among (e ∷ es) last s zero h g = (e, same_first s e g)
  where
    same_first : (s : Step) (e : Entry) → Some (steps.Entry e) ≡ Some s → s ≡ steps.Entry e
    same_first s e g = cc
entry_among (e ∷ es) last s (suc k) h g = entry_among es last s k (omega arith) g

pub entry_due : (a : Source) (k : ℕ) (s : Step) → k < length (entries_of (listing a)) → slice_get (listing a) k ≡ Some s
    → (e : Entry) × (s ≡ steps.Entry e)
entry_due a k s h g =
    let w = is_whole a in
    entry_among (entries_of (listing a)) w.last s k h (ap (λ ss. slice_get ss k) (sym w.whole) ∙ g)
