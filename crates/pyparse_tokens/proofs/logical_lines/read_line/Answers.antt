use Rattle.std.proofs.Common.{rules, ◌≡◌, ℕ, true, length, take, sym, ap, subst, ◌∙◌, arith, Option, Some, None}
use Rattle.std.specs.Prelude.{IfErr, not, is_some}
use Rattle.std.proofs.lemmas.Result.{IfOk-weaker}
use Rattle.pylex_listing.specs.declared.entries.Step.TheVariants as steps
use Rattle.pylex_listing.specs.Listing.{in_characters, listing}
use Rattle.pylex_listing.specs.Steps.{entries_of}
use Rattle.pytoken.specs.declared.refusals.Refusal.{Refusal}
use Rattle.pyparse_marks.specs.Spans.{emptied}
use Rattle.pyparse_tokens.specs.Answers.{Tells}
use Rattle.pyparse_tokens.specs.declared.line_gather.LineGather.{LineGather}
use Rattle.pyparse_tokens.specs.Inner.Passing.{kept_refusal}
use Rattle.pyparse_tokens.specs.LineReadings.{lines_within, EndsAt}
use Rattle.pyparse_tokens.proofs.ListingLemmas.{moved, at_stop}
use Rattle.pyparse_tokens.proofs.EndLemmas.{ends_at}
use Rattle.pyparse_tokens.proofs.PassLemmas.{all_refusals, refused_listing}
use Rattle.pyparse_tokens.proofs.LineGatherLemmas.{entry_read, all_lines}
use Rattle.pyparse_tokens.proofs.WalkLemmas.{reads_begin, reads_on, reads_end, reads_cleared, few_brackets, few_levels}
use Rattle.pyparse_tokens.specs.Inner.Marking.{KeepsMarks}
use Rattle.pyparse_tokens.proofs.MarkLemmas.{entry_starts, marks_on, marks_end, begins, unsaid}
use Rattle.pyparse_tokens.proofs.logical_lines.read_line.Goals as goal

pub entries-init : goal.entries-init
entries-init c =
    record {
      extent = ap (λ (g : LineGather). g.pass.extent) c.clear.ensures.rest;
      reads = reads_begin c.args.source.now c.args.lister.now c.args.gather.now c.clear.new.self c.requires
          c.clear.ensures.rest c.clear.ensures.empty;
      marks = subst (KeepsMarks c.args.source.now c.args.lister.now c.clear.new.self (emptied c.args.marks.now))
          (sym c.clear-2.ensures)
          (begins c.args.source.now c.args.lister.now c.clear.new.self (emptied c.args.marks.now)
          c.requires.closed);
    }

pub walk_line-requires : goal.walk_line-requires
walk_line-requires c = c.entries.invariant.reads.at

pub returns-then-branch-clause-line : goal.returns-then-branch-clause-line
returns-then-branch-clause-line c = λ _. c.in_ok-walk_line.ensures.ended c.if-branch.true c.args.lister.now c.entries.invariant.reads

pub returns-then-branch-clause-marks : goal.returns-then-branch-clause-marks
returns-then-branch-clause-marks c =
    λ _.
    c.in_ok-walk_line.ensures.line_marks c.if-branch.true (emptied c.args.marks.now) c.args.lister.now c.entries.invariant.reads
    c.entries.invariant.marks

pub mark_entry-requires : goal.mark_entry-requires
mark_entry-requires c =
    let reads = c.in_ok-walk_line.ensures.within c.if-branch.false c.args.lister.now c.entries.invariant.reads in
    let read =
    entry_read c.args.source.now c.walk_line.new.lister c.next.new.self c.walk_line.new.gather c.in_ok-entry.field-0
    c.in-Entry.entry reads.at
    c.in_ok-entry.ensures.steps c.in-Entry.is
    in
    read.lies

pub take-requires : goal.take-requires
take-requires c =
    let reads = c.in_ok-walk_line.ensures.within c.if-branch.false c.args.lister.now c.entries.invariant.reads in
    let read =
    entry_read c.args.source.now c.walk_line.new.lister c.next.new.self c.walk_line.new.gather c.in_ok-entry.field-0
    c.in-Entry.entry reads.at
    c.in_ok-entry.ensures.steps c.in-Entry.is
    in
    let few = few_brackets c.args.source.now c.walk_line.new.lister c.walk_line.new.gather reads.at in
    let low = few_levels c.args.source.now c.walk_line.new.lister c.walk_line.new.gather reads.at in
    record { lies = read.lies; exact = read.exact; opened = few.0; closed = few.1; indents = low.0; dedents = low.1 }

pub returns-then-is_none-clause-line : goal.returns-then-is_none-clause-line
returns-then-is_none-clause-line c =
    let reads = c.in_ok-walk_line.ensures.within c.if-branch.false c.args.lister.now c.entries.invariant.reads in
    let read =
    entry_read c.args.source.now c.walk_line.new.lister c.next.new.self c.walk_line.new.gather c.in_ok-entry.field-0
    c.in-Entry.entry reads.at
    c.in_ok-entry.ensures.steps c.in-Entry.is
    in
    let none : kept_refusal c.take.new.self.pass ≡ None = search rules in
    λ _.
    (reads_end c.args.source.now c.args.lister.now c.walk_line.new.lister c.next.new.self c.in-Entry.entry c.walk_line.new.gather
    c.take.new.self reads read
    c.next.ensures.given (c.in_ok-entry.ensures.source ∙ reads.at.source) c.in_ok-take-in-Entry.ensures.gathers
    (sym c.in_ok-take-in-Entry.ensures.ends ∙ c.if-branch-2.true)).line none

pub returns-then-is_none-clause-marks : goal.returns-then-is_none-clause-marks
returns-then-is_none-clause-marks c =
    let reads = c.in_ok-walk_line.ensures.within c.if-branch.false c.args.lister.now c.entries.invariant.reads in
    let read =
    entry_read c.args.source.now c.walk_line.new.lister c.next.new.self c.walk_line.new.gather c.in_ok-entry.field-0
    c.in-Entry.entry reads.at
    c.in_ok-entry.ensures.steps c.in-Entry.is
    in
    let none : kept_refusal c.take.new.self.pass ≡ None = search rules in
    let start = emptied c.args.marks.now in
    λ _.
    marks_end c.args.source.now c.args.lister.now c.walk_line.new.lister c.next.new.self
    c.in-Entry.entry c.walk_line.new.gather c.take.new.self start c.walk_line.new.marks c.mark_entry.new.marks reads read
    c.in_ok-take-in-Entry.ensures.gathers (sym c.in_ok-take-in-Entry.ensures.ends ∙ c.if-branch-2.true) none
    (c.in_ok-walk_line.ensures.marks c.if-branch.false start c.entries.invariant.marks) c.in_ok-mark_entry-in-Entry.ensures

pub entries-smaller-then-branch-2 : goal.entries-smaller-then-branch-2
entries-smaller-then-branch-2 c =
    let reads = c.in_ok-walk_line.ensures.within c.if-branch.false c.args.lister.now c.entries.invariant.reads in
    let read =
    entry_read c.args.source.now c.walk_line.new.lister c.next.new.self c.walk_line.new.gather c.in_ok-entry.field-0
    c.in-Entry.entry reads.at
    c.in_ok-entry.ensures.steps c.in-Entry.is
    in
    omega (arith, read.count, read.within, c.in_ok-walk_line.ensures.given)

pub entries-smaller : goal.entries-smaller
entries-smaller c =
    let reads = c.in_ok-walk_line.ensures.within c.if-branch.false c.args.lister.now c.entries.invariant.reads in
    let read =
    entry_read c.args.source.now c.walk_line.new.lister c.next.new.self c.walk_line.new.gather c.in_ok-entry.field-0
    c.in-Entry.entry reads.at
    c.in_ok-entry.ensures.steps c.in-Entry.is
    in
    omega (arith, read.count, read.within, c.in_ok-walk_line.ensures.given)

is_none_not : (r : Option Refusal) → is_some r ≡ true → r ≡ None → ⊥
is_none_not None some none = cc
is_none_not (Some r) some none = cc

pub entries-preserved-then-branch-2 : goal.entries-preserved-then-branch-2
entries-preserved-then-branch-2 c =
    let reads = c.in_ok-walk_line.ensures.within c.if-branch.false c.args.lister.now c.entries.invariant.reads in
    let read =
    entry_read c.args.source.now c.walk_line.new.lister c.next.new.self c.walk_line.new.gather c.in_ok-entry.field-0
    c.in-Entry.entry reads.at
    c.in_ok-entry.ensures.steps c.in-Entry.is
    in
    let ended =
    reads_end c.args.source.now c.args.lister.now c.walk_line.new.lister c.next.new.self c.in-Entry.entry c.walk_line.new.gather
    c.take.new.self reads read
    c.next.ensures.given (c.in_ok-entry.ensures.source ∙ reads.at.source) c.in_ok-take-in-Entry.ensures.gathers
    (sym c.in_ok-take-in-Entry.ensures.ends ∙ c.if-branch-2.true)
    in
    record {
      extent =
          ap (λ (g : LineGather). g.pass.extent) c.clear-then-branch-2.ensures.rest ∙ c.take.ensures.extent ∙ c.walk_line.ensures.extent
          ∙ c.entries.invariant.extent;
      reads =
          reads_cleared c.args.source.now c.args.lister.now c.next.new.self c.take.new.self c.clear-then-branch-2.new.self ended.at
          (λ none. is_none_not (kept_refusal c.take.new.self.pass) (ap is_some (sym c.refusal.ensures) ∙ c.is_none.ensures
          ∙ ap not c.if-is_none.false) none)
          c.clear-then-branch-2.ensures.rest;
      marks =
          unsaid c.args.source.now c.next.new.self c.clear-then-branch-2.new.self (emptied c.args.marks.now)
          c.mark_entry.new.marks
          (λ none. is_none_not (kept_refusal c.take.new.self.pass) (ap is_some (sym c.refusal.ensures) ∙ c.is_none.ensures
          ∙ ap not c.if-is_none.false) (sym (ap (λ (h : LineGather). kept_refusal h.pass) c.clear-then-branch-2.ensures.rest) ∙ none));
    }

pub entries-preserved : goal.entries-preserved
entries-preserved c =
    let reads = c.in_ok-walk_line.ensures.within c.if-branch.false c.args.lister.now c.entries.invariant.reads in
    let read =
    entry_read c.args.source.now c.walk_line.new.lister c.next.new.self c.walk_line.new.gather c.in_ok-entry.field-0
    c.in-Entry.entry reads.at
    c.in_ok-entry.ensures.steps c.in-Entry.is
    in
    let start = emptied c.args.marks.now in
    record {
      extent = c.take.ensures.extent ∙ c.walk_line.ensures.extent ∙ c.entries.invariant.extent;
      reads =
          reads_on c.args.source.now c.args.lister.now c.walk_line.new.lister c.next.new.self c.in-Entry.entry c.walk_line.new.gather
          c.take.new.self reads read
          c.next.ensures.given (c.in_ok-entry.ensures.source ∙ reads.at.source) c.in_ok-take-in-Entry.ensures.gathers
          (sym c.in_ok-take-in-Entry.ensures.ends ∙ c.if-branch-2.false);
      marks =
          marks_on c.args.source.now c.walk_line.new.lister c.next.new.self c.in-Entry.entry
          c.walk_line.new.gather c.take.new.self start c.walk_line.new.marks c.mark_entry.new.marks reads.at read
          c.in_ok-take-in-Entry.ensures.gathers (sym c.in_ok-take-in-Entry.ensures.ends ∙ c.if-branch-2.false)
          (entry_starts c.args.source.now c.walk_line.new.lister c.next.new.self c.walk_line.new.gather
          c.in_ok-entry.field-0 c.in-Entry.entry
          reads.at c.in_ok-entry.ensures.steps c.in-Entry.is)
          (c.in_ok-walk_line.ensures.marks c.if-branch.false start c.entries.invariant.marks) c.in_ok-mark_entry-in-Entry.ensures;
    }

pub returns-in-End-clause-same : goal.returns-in-End-clause-same
returns-in-End-clause-same c =
    let s = in_characters c.args.source.now in
    let m = moved c.walk_line.new.lister c.next.new.self c.in_ok-entry.field-0 steps.End s c.walk_line.new.lister.shown.given
    c.in_ok-entry.ensures.steps
    c.in-End.is (c.in_ok-walk_line.ensures.within c.if-branch.false c.args.lister.now c.entries.invariant.reads).at.stands in
    IfOk-weaker c.end.result _ _
    (λ more ends _.
    ap (λ (n : ℕ). length (lines_within s n)) (omega (arith, m.1.count))
    ∙ ap length ((c.in_ok-walk_line.ensures.within c.if-branch.false c.args.lister.now c.entries.invariant.reads).same ends.1))
    c.end.ensures.end

pub returns-in-End-clause-all : goal.returns-in-End-clause-all
returns-in-End-clause-all c =
    let s = in_characters c.args.source.now in
    let at = (c.in_ok-walk_line.ensures.within c.if-branch.false c.args.lister.now c.entries.invariant.reads).at in
    let m = moved c.walk_line.new.lister c.next.new.self c.in_ok-entry.field-0 steps.End s c.walk_line.new.lister.shown.given
    c.in_ok-entry.ensures.steps
    c.in-End.is at.stands in
    let last = at_stop (listing s) c.walk_line.new.lister.shown.given steps.End at.whole at.within tt m.0 in
    IfOk-weaker c.end.result _ _
    (λ more ends _.
    ap (λ (n : ℕ). length (lines_within s n)) (omega (arith, m.1.count))
    ∙ ap length (all_lines s c.walk_line.new.lister.shown.given last.0)) c.end.ensures.end

pub returns-in-End-clause-sound : goal.returns-in-End-clause-sound
returns-in-End-clause-sound c =
    let s = in_characters c.args.source.now in
    let at = (c.in_ok-walk_line.ensures.within c.if-branch.false c.args.lister.now c.entries.invariant.reads).at in
    let k = c.walk_line.new.lister.shown.given in
    let m = moved c.walk_line.new.lister c.next.new.self c.in_ok-entry.field-0 steps.End s k c.in_ok-entry.ensures.steps
    c.in-End.is at.stands in
    let last = at_stop (listing s) k steps.End at.whole at.within tt m.0 in
    let all = all_refusals c.args.gather.now.pass.extent s (take k (entries_of (listing s))) c.walk_line.new.gather.pass
    (c.walk_line.ensures.extent ∙ c.entries.invariant.extent) at.counts.pass last.0 last.1 in
    IfOk-weaker c.end.result _ _ (λ more ends _. sym all ∙ ends.1) c.end.ensures.end

pub returns-in-End-clause-marker : goal.returns-in-End-clause-marker
returns-in-End-clause-marker c =
    let s = in_characters c.args.source.now in
    let at = (c.in_ok-walk_line.ensures.within c.if-branch.false c.args.lister.now c.entries.invariant.reads).at in
    let k = c.walk_line.new.lister.shown.given in
    let m = moved c.walk_line.new.lister c.next.new.self c.in_ok-entry.field-0 steps.End s k c.in_ok-entry.ensures.steps
    c.in-End.is at.stands in
    let last = at_stop (listing s) k steps.End at.whole at.within tt m.0 in
    let end = ends_at s at.whole last.1 in
    let start : c.walk_line.new.gather.marker ≡ end.1.start = at.counts.marker end.0 end.1 (last.0 ∙ end.2) end.3 in
    let ends : EndsAt s c.walk_line.new.gather.marker = subst (EndsAt s) (sym start) end.4 in
    IfOk-weaker c.end.result _ _ (λ more is _. ends) c.end.ensures.end

pub returns-in-End-clause-refused : goal.returns-in-End-clause-refused
returns-in-End-clause-refused c =
    let s = in_characters c.args.source.now in
    let at = (c.in_ok-walk_line.ensures.within c.if-branch.false c.args.lister.now c.entries.invariant.reads).at in
    let k = c.walk_line.new.lister.shown.given in
    let m = moved c.walk_line.new.lister c.next.new.self c.in_ok-entry.field-0 steps.End s k c.in_ok-entry.ensures.steps
    c.in-End.is at.stands in
    let last = at_stop (listing s) k steps.End at.whole at.within tt m.0 in
    let all = all_refusals c.args.gather.now.pass.extent s (take k (entries_of (listing s))) c.walk_line.new.gather.pass
    (c.walk_line.ensures.extent ∙ c.entries.invariant.extent) at.counts.pass last.0 last.1 in
    subst (λ (r : Option Refusal). IfErr c.end.result (Tells r)) all c.end.ensures.refused

pub returns-in-Fault-clause-refused : goal.returns-in-Fault-clause-refused
returns-in-Fault-clause-refused c =
    let s = in_characters c.args.source.now in
    let at = (c.in_ok-walk_line.ensures.within c.if-branch.false c.args.lister.now c.entries.invariant.reads).at in
    let k = c.walk_line.new.lister.shown.given in
    let fault = c.in-Fault.fault in
    let m = moved c.walk_line.new.lister c.next.new.self c.in_ok-entry.field-0 (steps.Fault fault) s k c.in_ok-entry.ensures.steps
    c.in-Fault.is at.stands in
    let last = at_stop (listing s) k (steps.Fault fault) at.whole at.within tt m.0 in
    refused_listing c.args.gather.now.pass.extent s fault last.1
