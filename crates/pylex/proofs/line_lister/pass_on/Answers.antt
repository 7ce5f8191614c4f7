use Rattle.std.proofs.Common.{◌≡◌, ℕ, ◌-◌, List, length, drop, take, None, refl, ap, ◌∙◌, arith, string_bytes}
use Rattle.pylex.specs.declared.held_lines.HeldLines.{HeldLines}
use Rattle.pylex_listing.specs.declared.entries.Entry.{Entry}
use Rattle.pylex_listing.specs.declared.entries.Step.TheVariants as steps
use Rattle.pylex.specs.declared.peeked.Peeked.TheVariants as peeked
use Rattle.pylex.specs.declared.machine.Machine.{Machine}
use Rattle.pylex.specs.declared.line_state.LineState.{LineState}
use Rattle.pylex.specs.declared.line_lister.Found.{Found}
use Rattle.pylex.specs.Inner.MachineSteps.{StepsOn}
use Rattle.pylex.specs.Inner.LineSteps.{Looks}
use Rattle.pylex.proofs.LineByLine.Searching.{not_read, searches_none, boundary_held, stands_held, drop_after, meets_here}
use Rattle.pylex.proofs.LineByLine.Steppings.{entry_ahead, place_held, steps_entry, streaming_entry}
use Rattle.pylex.proofs.line_lister.pass_on.Goals as goal

no_stop : (e : Entry) → peeked.Entry e ≡ peeked.Stop → ⊥
no_stop e k = cc

-- what was found, by the entry, the bytes that the lines have and those that are left
abbrev found_by : Entry → LineState → ℕ → ℕ → Found
found_by e q size rest = record { peeked = peeked.Entry e; now = q; at = size - rest; fault = None }

looks_so : (p r : Machine) (d : HeldLines) (e : Entry) (left : List ℕ) (size : ℕ) → size ≡ length (string_bytes d.text)
    → (s : StepsOn p (drop d.at (string_bytes d.text)) e r left) → Looks p d (found_by e s.now size (length left))
looks_so p r d e left size whole s =
    let text = string_bytes d.text in
    let at : drop (size - length left) text ≡ left = ap (λ n. drop (n - length left) text) whole
    ∙ drop_after text d.at left s.reaches.following in
    record {
      at = omega (arith, whole);
      left = rw at s.reaches.stands.utf8;
      finds = rw at (s.reaches.entry (take p.nested p.levels.items));
      stands = rw at s.reaches.stands;
      room = rw at s.reaches.room;
      tail = λ h. absurd (omega (arith, h, s.tail));
    }

pub rest-requires : goal.rest-requires
rest-requires c = boundary_held c.args.machine.now c.args.chunk.now c.requires.streaming

pub step_on-requires-clause-place : goal.step_on-requires-clause-place
step_on-requires-clause-place c = place_held c.args.machine.now c.args.chunk.now None c.requires.streaming

pub step_on-requires-clause-stands : goal.step_on-requires-clause-stands
step_on-requires-clause-stands c = rw c.rest.ensures (stands_held c.args.machine.now c.args.chunk.now c.requires.streaming)

pub returns-clause-some : goal.returns-clause-some
returns-clause-some c =
    let p = c.args.machine.now in
    let d = c.args.chunk.now in
    let e = c.in_ok-entry.entry in
    let r = c.step_on.new.self in
    let left = c.in_ok-entry.left.now in
    let s = rw c.rest.ensures at c.in_ok-entry.ensures.some in
    let size = c.len.result in
    let whole : size ≡ length (string_bytes d.text) = omega (arith, c.len.ensures) in
    let found = found_by e s.now size (length left) in
    let looks = looks_so p r d e left size whole s in
    let at : drop (size - length left) (string_bytes d.text) ≡ left = ap (λ n. drop (n - length left) (string_bytes d.text)) whole
    ∙ drop_after (string_bytes d.text) d.at left s.reaches.following in
    let peeked = meets_here p d found looks (λ i. absurd (no_stop e i)) in
    let went = rw (← at) at (s.went None) in
    record {
      found = found;
      streaming = streaming_entry not_read not_read p p d d None (searches_none not_read _ _ c.requires.streaming) r found (steps.Entry e)
          peeked went e refl c.requires.given tt;
      passes = λ seen_old seen_new q b last so some ahead. steps_entry _ _ q p b d last so r found (steps.Entry e) peeked went e refl some
          (entry_ahead found (steps.Entry e) e b.lines d.lines refl tt ahead);
    }
