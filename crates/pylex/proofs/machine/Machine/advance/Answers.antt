use Rattle.std.proofs.Common.{[], ◌≡◌, inl, inr, ℕ, zero, suc, ◌+◌, ◌-◌, ◌<◌, List, ◌∷◌, length, take, drop, refl, ap, sym, ◌∙◌, subst}
use Rattle.std.proofs.Common.{arith}
use Rattle.std.specs.Prelude.{Result, Ok, Err, OnErr}
use Rattle.std.specs.declared.alloc.AllocError.{AllocError}
use Rattle.std.specs.Str.{chars}
use Rattle.std.proofs.lemmas.List.{length-take-le}
use Rattle.pylex_listing.specs.declared.entries.Entry.{Entry}
use Rattle.pylex_listing.specs.declared.entries.ListingFault.{ListingFault}
use Rattle.pylex_listing.specs.declared.entries.Step.{Step}
use Rattle.pylex_listing.specs.declared.entries.Step.TheVariants as steps
use Rattle.pylex.specs.declared.peeked.Peeked.{Peeked}
use Rattle.pylex.specs.declared.peeked.Peeked.TheVariants as peeked
use Rattle.pylex.specs.Listers.{Listed}
use Rattle.pylex.specs.declared.machine.Machine.{Machine}
use Rattle.pylex.specs.Inner.MachineSteps.{shown_from, left_by, Holds, Ranges, StaysAfter}
use Rattle.pylex_listing.specs.Steps.{entries_in, first_step}
use Rattle.pylex.proofs.Listers.Moving.{ascending-take, leads_moves, leads_fault, leads_stop, goes_entry, goes_indent, goes_dedent}
use Rattle.pylex.proofs.Listers.Moving.{goes_end, stop_in}
use Rattle.pylex_lexeme.specs.Chars.{bytes_in}
use Rattle.pylex_listing.specs.Machine.{State}
use Rattle.pylex_listing.specs.declared.kind.Kind.TheVariants as kinds
use Rattle.pylex.proofs.Listers.Ranges.{entry_range, measuring_comes, measuring_anew, indent_range, mark_range, column_within}
use Rattle.pylex.proofs.machine.Machine.advance.Goals as goal

-- what is met after a stop
not_stopped : (n : ℕ) (m : Peeked) → (0 < n → m ≡ peeked.Stop) → (m ≡ peeked.Stop → ⊥) → n ≡ 0
not_stopped zero m h never = refl
not_stopped (suc n) m h never = absurd (never (h (omega arith)))

not_entry : (m : Peeked) (e : Entry) → m ≡ peeked.Entry e → m ≡ peeked.Stop → ⊥
not_entry m e h k = cc

not_fault : (m : Peeked) (f : ListingFault) → m ≡ peeked.Fault f → m ≡ peeked.Stop → ⊥
not_fault m f h k = cc

not_indent : (m : Peeked) → m ≡ peeked.Indent → m ≡ peeked.Stop → ⊥
not_indent m h k = cc

not_dedent : (m : Peeked) → m ≡ peeked.Dedent → m ≡ peeked.Stop → ⊥
not_dedent m h k = cc

on_err : (r : Result Step AllocError) (P : Type 0) → P → OnErr r P
on_err (Ok s) P p = tt
on_err (Err e) P p = p

no_entries : (s : Step) → ((e : Entry) → s ≡ steps.Entry e → ⊥) → entries_in s ≡ 0
no_entries (steps.Entry e) h = absurd (h e refl)
no_entries steps.End h = refl
no_entries (steps.Fault f) h = refl

-- the step of the end, where another text and fault make the same
same_step : (n : ℕ) (r s : List Step) (step : Step) → r ≡ s → (n < length s → step ≡ first_step (drop n s)) → n < length r
    → step ≡ first_step (drop n r)
same_step n r s step e h less = h (subst (λ (x : List Step). n < length x) e less) ∙ ap (λ x. first_step (drop n x)) (sym e)

pub returns-in_err-open_level-in-Indent-clause-same : goal.returns-in_err-open_level-in-Indent-clause-same
returns-in_err-open_level-in-Indent-clause-same c = on_err c.from_residual.result _ (refl, c.in_err-open_level-in-Indent.ensures.same)

pub returns-in-Entry-clause-went : goal.returns-in-Entry-clause-went
returns-in-Entry-clause-went c = record {
  goes = λ source from to keeps found stands alike.
      let p = c.args.self.now in
      let ls = p.levels.items in
      let l : Listed = record { source = source; shown = shown_from p } in
      let none : p.tail ≡ 0 = not_stopped p.tail c.args.peeked c.requires.tail (not_entry c.args.peeked c.in-Entry.entry c.in-Entry.is) in
      let ahead = rw c.in-Entry.is at found in
      let g = goes_entry l p.now from ls p.nested p.tail keeps refl c.requires.some none c.in-Entry.entry c.args.now
      c.begun_anew-self.result to c.truncate.new.self.items c.at-self.result ahead stands c.begun_anew-self.ensures.begun
      c.begun_anew-self.ensures.room c.at-self.ensures c.truncate.ensures.items in
      (leads_moves l _ _ g.leads, g.keeps);
  measuring = λ cs ds found m. measuring_anew c.args.now c.begun_anew-self.result c.begun_anew-self.ensures.begun;
  ranges = λ source from to before rest keeps found e b w low m.
      let p = c.args.self.now in
      let r = entry_range (take p.nested p.levels.items) p.now (chars from) c.in-Entry.entry c.args.now (chars to)
      (rw c.in-Entry.is at found) in
      let same = ap (λ (t : State). t.now.offset) (c.begun_anew-self.ensures.begun []) in
      (omega (arith, low, r.0), r.1 ∙ sym same);
}

pub returns-in-Fault-clause-stays : goal.returns-in-Fault-clause-stays
returns-in-Fault-clause-stays c = (refl, inr (c.in-Fault.fault, c.in-Fault.is))

pub returns-in-Fault-clause-went : goal.returns-in-Fault-clause-went
returns-in-Fault-clause-went c = record {
  goes = λ source from to keeps found stands alike.
      let p = c.args.self.now in
      let l : Listed = record { source = source; shown = shown_from p } in
      let none : p.tail ≡ 0 = not_stopped p.tail c.args.peeked c.requires.tail (not_fault c.args.peeked c.in-Fault.fault c.in-Fault.is) in
      let ahead = rw c.in-Fault.is at found in (
        leads_moves l _ _ (leads_fault l p.now from p.levels.items p.nested p.tail keeps refl c.requires.some none c.in-Fault.fault ahead),
        keeps,
      );
  measuring = λ cs ds found m. m;
  ranges = λ source from to before rest keeps found e b w low m. tt;
}

pub returns-in_ok-open_level-in-Indent-clause-went : goal.returns-in_ok-open_level-in-Indent-clause-went
returns-in_ok-open_level-in-Indent-clause-went c = record {
  goes = λ source from to keeps found stands alike.
      let p = c.args.self.now in
      let l : Listed = record { source = source; shown = shown_from p } in
      let none : p.tail ≡ 0 = not_stopped p.tail c.args.peeked c.requires.tail (not_indent c.args.peeked c.in-Indent.is) in
      let ahead = rw c.in-Indent.is at found in
      let g = goes_indent l p.now from p.levels.items p.nested p.tail keeps refl c.requires.some none c.entry_of.result c.args.now
      c.measured-measured.result c.begun_anew-self-in-Indent.result to c.open_level.new.levels.items c.len-self.result
      c.at-self-in-Indent.result ahead.0 ahead.1 c.entry_of.ensures stands c.measured-measured.ensures.measured
      c.measured-measured.ensures.room c.begun_anew-self-in-Indent.ensures.begun c.begun_anew-self-in-Indent.ensures.room
      c.at-self-in-Indent.ensures c.in_ok-open_level-in-Indent.ensures.ok (c.len-self.ensures ∙ c.open_level.new.levels.ok.0) in
      (leads_moves l _ _ g.leads, g.keeps);
  measuring = λ cs ds found m. measuring_anew c.measured-measured.result c.begun_anew-self-in-Indent.result
      c.begun_anew-self-in-Indent.ensures.begun;
  ranges = λ source from to before rest keeps found e b w low m.
      let p = c.args.self.now in
      let ahead = rw c.in-Indent.is at found in
      let i = stop_in (record { source = source; shown = shown_from p }) p.now from p.levels.items p.nested p.tail keeps refl
      c.requires.some c.args.now (chars to) ahead.0 in
      let r = indent_range (chars source.text) before rest c.args.now (0 ∷ take p.nested p.levels.items) (chars to) c.entry_of.result e b i
      w ahead.1.margin (measuring_comes (take p.nested p.levels.items) p.now (chars from) c.args.now (chars to) ahead.0
      m) c.entry_of.ensures in
      let same = ap (λ (t : State). t.now.offset) (c.begun_anew-self-in-Indent.ensures.begun [])
      ∙ ap (λ (t : State). t.now.offset) (c.measured-measured.ensures.measured []) in
      (r.0, r.1 ∙ sym same);
}

pub returns-in-Dedent-clause-went : goal.returns-in-Dedent-clause-went
returns-in-Dedent-clause-went c = record {
  goes = λ source from to keeps found stands alike.
      let p = c.args.self.now in
      let ls = p.levels.items in
      let l : Listed = record { source = source; shown = shown_from p } in
      let none : p.tail ≡ 0 = not_stopped p.tail c.args.peeked c.requires.tail (not_dedent c.args.peeked c.in-Dedent.is) in
      let ahead = rw c.in-Dedent.is at found in
      let g = goes_dedent l p.now from ls p.nested p.tail keeps refl c.requires.some none c.mark.result c.args.now to
      ((length ls - (p.nested - 1)) + p.tail) ahead.0 ahead.1 c.mark.ensures stands refl in
      (leads_moves l _ _ g.leads, g.keeps);
  measuring = λ cs ds found m. measuring_comes (take c.args.self.now.nested c.args.self.now.levels.items) c.args.self.now.now cs c.args.now
      ds (rw c.in-Dedent.is at found).0 m;
  ranges = λ source from to before rest keeps found e b w low m.
      let p = c.args.self.now in
      let i = stop_in (record { source = source; shown = shown_from p }) p.now from p.levels.items p.nested p.tail keeps refl
      c.requires.some c.args.now (chars to) (rw c.in-Dedent.is at found).0 in
      let r = mark_range kinds.Dedent c.args.now.now.offset _ _ c.mark.result c.mark.ensures in
      let n = column_within (chars source.text) before rest _ (chars to) e b i w in
      (omega (arith, r.0, n), r.1);
}

pub returns-in-Entry-step-clause-went : goal.returns-in-Entry-step-clause-went
returns-in-Entry-step-clause-went c = rw c.in-Entry-step.is (record {
  goes = λ source from to keeps found stands alike.
      let p = c.args.self.now in
      let ls = p.levels.items in
      let l : Listed = record { source = source; shown = shown_from p } in
      let ahead = rw c.in-Stop.is at found in
      let count : length (take p.nested ls) ≡ p.nested = length-take-le p.nested ls c.requires.place.within in
      let ascending = ascending-take 0 p.nested ls c.requires.place.ascending in
      let is = same_step p.tail _ _ _ (alike c.in-Stop.is (0 ∷ take p.nested ls))
      (c.in-Entry-step.ensures.step (take p.nested ls) ascending count) in
      let g = goes_end l p.now from ls p.nested p.tail keeps refl c.requires.some c.in-Entry-step.field-0 c.args.now to
      ((length ls - p.nested) + (p.tail + 1)) ahead.0 ahead.1 is c.in-Entry-step.ensures.empty stands refl in
      (leads_moves l _ _ g.leads, g.keeps);
  measuring = λ cs ds found m. measuring_comes (take c.args.self.now.nested c.args.self.now.levels.items) c.args.self.now.now cs c.args.now
      ds (rw c.in-Stop.is at found).0 m;
  ranges = λ source from to before rest keeps found e b w low m.
      let p = c.args.self.now in
      let i = stop_in (record { source = source; shown = shown_from p }) p.now from p.levels.items p.nested p.tail keeps refl
      c.requires.some c.args.now (chars to) (rw c.in-Stop.is at found).0 in
      let r = c.in-Entry-step.ensures.at in
      let n = column_within (chars source.text) before rest _ (chars to) e b i w in
      (omega (arith, r.0, n), r.1);
})

-- nothing is left after a step without entry but what was left
left_same : (s : Step) (from to : List ℕ) → ((e : Entry) → s ≡ steps.Entry e → ⊥) → left_by s from to ≡ from
left_same (steps.Entry e) from to h = absurd (h e refl)
left_same steps.End from to h = refl
left_same (steps.Fault f) from to h = refl

-- a step without entry has no text
no_range : (low high : ℕ) (s : Step) → ((e : Entry) → s ≡ steps.Entry e → ⊥) → Ranges low high s
no_range low high (steps.Entry e) h = absurd (h e refl)
no_range low high steps.End h = tt
no_range low high (steps.Fault f) h = tt

-- nor does it change anything
stays_stop : (p : Machine) (m : Peeked) (s : Step) → ((e : Entry) → s ≡ steps.Entry e → ⊥) → m ≡ peeked.Stop → StaysAfter p m p s
stays_stop p m (steps.Entry e) h is = absurd (h e refl)
stays_stop p m steps.End h is = (refl, inl is)
stays_stop p m (steps.Fault f) h is = (refl, inl is)

pub returns-in_default : goal.returns-in_default
returns-in_default c = record {
  went = record {
    goes = λ source from to keeps found stands alike.
        let p = c.args.self.now in
        let ls = p.levels.items in
        let l : Listed = record { source = source; shown = shown_from p } in
        let ahead = rw c.in-Stop.is at found in
        let count : length (take p.nested ls) ≡ p.nested = length-take-le p.nested ls c.requires.place.within in
        let ascending = ascending-take 0 p.nested ls c.requires.place.ascending in
        let is = same_step p.tail _ _ _ (alike c.in-Stop.is (0 ∷ take p.nested ls))
        (c.end_step-step.ensures.step (take p.nested ls) ascending count) in (
          leads_moves l _ _ (leads_stop l p.now from ls p.nested p.tail keeps refl c.requires.some c.args.now (chars to)
              c.end_step-step.result ahead.0 is (no_entries c.end_step-step.result c.in_default.not-Entry)),
          subst (Holds source p) (sym (left_same c.end_step-step.result from to c.in_default.not-Entry)) keeps,
        );
    measuring = λ cs ds found m. m;
    ranges = λ source from to before rest keeps found e b w low m. no_range (bytes_in before) c.args.self.now.now.now.offset
        c.end_step-step.result c.in_default.not-Entry;
  };
  fault = rw c.in-Stop.is c.end_step-step.ensures.fault;
  stays = stays_stop c.args.self.now c.args.peeked c.end_step-step.result c.in_default.not-Entry c.in-Stop.is;
  same = tt;
  indent = tt;
}
