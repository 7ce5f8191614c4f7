use Rattle.std.proofs.Common.{◌≡◌, ℕ, List, take, map, sym, ap, subst, ◌∙◌, arith, Option, None, length-take}
use Rattle.std.specs.Prelude.{IfOk, IfErr, OnOk}
use Rattle.std.specs.Str.{chars}
use Rattle.pylex_listing.specs.declared.entries.Entry.{Entry}
use Rattle.pylex_listing.specs.declared.entries.Step.TheVariants as steps
use Rattle.pylex_listing.specs.Listing.{in_characters, listing}
use Rattle.pylex.specs.Listers.{StandsIn}
use Rattle.pylex_listing.specs.Steps.{entries_of}
use Rattle.pylex.proofs.Callers.{entry_lies}
use Rattle.pytoken.specs.declared.refusals.Refusal.{Refusal}
use Rattle.pytoken.specs.Tokens.{Token}
use Rattle.pytoken.proofs.Callers.Said.{values_are_lawful, tokens_are_sound, extents_differ_in_numbers}
use Rattle.pyparse_tokens.specs.Answers.{token_of, Tells}
use Rattle.pyparse_tokens.specs.Inner.Gathering.{Gathered}
use Rattle.pyparse_tokens.proofs.ListingLemmas.{moved, at_entry, at_stop, starts_at}
use Rattle.pyparse_tokens.proofs.PassLemmas.{few, all_refusals, refused_listing}
use Rattle.pyparse_tokens.proofs.GatherLemmas.{gathers, all_tokens}
use Rattle.pyparse_tokens.proofs.tokens.tokens_of.Goals as goal

pub new-requires : goal.new-requires
new-requires c = starts_at (in_characters c.args.source.now) c.args.source.now.text c.new-lister.ensures.lies

pub loop-gather-init : goal.loop-gather-init
loop-gather-init c =
    let s = in_characters c.args.source.now in
    let stands = c.new-lister.ensures.stands in
    let none = ap (λ (n : ℕ). take n (entries_of (listing s))) stands.count in
    record {
      stands = subst (λ (n : ℕ). StandsIn c.new-lister.result s n) (sym stands.count) stands;
      within = omega (arith, stands.count);
      few = omega (arith, stands.count);
      whole = c.new-lister.ensures.lawful.whole;
      typed = tokens_are_sound s c.new-lister.ensures.lawful;
      lies = c.new-lister.ensures.lies;
      extent = c.in_ok-gather.ensures.extent;
      gathered = subst (λ (es : List Entry). Gathered (chars c.args.source.now.text) es c.in_ok-gather.gather) (sym none)
          c.in_ok-gather.ensures.gathered;
    }

pub take-requires-clause-lies : goal.take-requires-clause-lies
take-requires-clause-lies c =
    let s = in_characters c.args.source.now in
    let k = c.loop-gather.lister.shown.given in
    let entry = c.in-Entry.entry in
    let m = moved c.loop-gather.lister c.next.new.self c.in_ok-entry.field-0 (steps.Entry entry) s k
    c.in_ok-entry.ensures.steps c.in-Entry.is
    c.loop-gather.invariant.stands in
    entry_lies c.args.source.now.text (listing s) k entry c.loop-gather.invariant.lies m.0

pub take-requires-clause-opened : goal.take-requires-clause-opened
take-requires-clause-opened c =
    let es = entries_of (listing (in_characters c.args.source.now)) in
    let k = c.loop-gather.lister.shown.given in
    let counts = few (chars c.args.source.now.text) (take k es) c.loop-gather.gather.pass c.loop-gather.invariant.gathered.pass in
    omega (arith, counts.0, length-take k es, c.loop-gather.invariant.few)

pub take-requires-clause-closed : goal.take-requires-clause-closed
take-requires-clause-closed c =
    let es = entries_of (listing (in_characters c.args.source.now)) in
    let k = c.loop-gather.lister.shown.given in
    let counts = few (chars c.args.source.now.text) (take k es) c.loop-gather.gather.pass c.loop-gather.invariant.gathered.pass in
    omega (arith, counts.1, length-take k es, c.loop-gather.invariant.few)

pub loop-gather-smaller : goal.loop-gather-smaller
loop-gather-smaller c =
    let s = in_characters c.args.source.now in
    let k = c.loop-gather.lister.shown.given in
    let entry = c.in-Entry.entry in
    let m = moved c.loop-gather.lister c.next.new.self c.in_ok-entry.field-0 (steps.Entry entry) s k
    c.in_ok-entry.ensures.steps c.in-Entry.is
    c.loop-gather.invariant.stands in
    let next = at_entry (listing s) k entry c.loop-gather.invariant.whole m.0 in
    omega (arith, m.1.count, next.0)

pub loop-gather-preserved : goal.loop-gather-preserved
loop-gather-preserved c =
    let s = in_characters c.args.source.now in
    let k = c.loop-gather.lister.shown.given in
    let es = entries_of (listing s) in
    let text = chars c.args.source.now.text in
    let entry = c.in-Entry.entry in
    let m = moved c.loop-gather.lister c.next.new.self c.in_ok-entry.field-0 (steps.Entry entry) s k
    c.in_ok-entry.ensures.steps c.in-Entry.is
    c.loop-gather.invariant.stands in
    let next = at_entry (listing s) k entry c.loop-gather.invariant.whole m.0 in
    let grown = ap (λ (n : ℕ). take n es) m.1.count ∙ next.1 in
    record {
      stands = subst (λ (n : ℕ). StandsIn c.next.new.self s n) (sym m.1.count) m.1;
      within = omega (arith, m.1.count, next.0);
      few = c.next.ensures.given;
      whole = c.loop-gather.invariant.whole;
      typed = c.loop-gather.invariant.typed;
      lies = c.loop-gather.invariant.lies;
      extent = c.in_ok-take-in-Entry.ensures.pass.extent ∙ c.loop-gather.invariant.extent;
      gathered =
          subst (λ (read : List Entry). Gathered text read c.take.new.self) (sym grown)
          (gathers text (take k es) entry c.loop-gather.gather c.take.new.self c.loop-gather.invariant.gathered
          c.in_ok-take-in-Entry.ensures);
    }

pub returns-in-End-clause-tokens : goal.returns-in-End-clause-tokens
returns-in-End-clause-tokens c =
    let s = in_characters c.args.source.now in
    let k = c.loop-gather.lister.shown.given in
    let m = moved c.loop-gather.lister c.next.new.self c.in_ok-entry.field-0 steps.End s k c.in_ok-entry.ensures.steps c.in-End.is
    c.loop-gather.invariant.stands in
    let last = at_stop (listing s) k steps.End c.loop-gather.invariant.whole c.loop-gather.invariant.within tt m.0 in
    let all = all_tokens s (take k (entries_of (listing s))) c.loop-gather.gather c.loop-gather.invariant.gathered last.0 in
    subst (λ (ts : List Token). IfOk c.finish.result (λ v. map token_of v.items ≡ ts)) all c.finish.ensures.tokens

pub returns-in-End-clause-sound : goal.returns-in-End-clause-sound
returns-in-End-clause-sound c =
    let s = in_characters c.args.source.now in
    let k = c.loop-gather.lister.shown.given in
    let m = moved c.loop-gather.lister c.next.new.self c.in_ok-entry.field-0 steps.End s k c.in_ok-entry.ensures.steps c.in-End.is
    c.loop-gather.invariant.stands in
    let last = at_stop (listing s) k steps.End c.loop-gather.invariant.whole c.loop-gather.invariant.within tt m.0 in
    let all = all_refusals c.args.extent s (take k (entries_of (listing s))) c.loop-gather.gather.pass c.loop-gather.invariant.extent
    c.loop-gather.invariant.gathered.pass last.0 last.1 in
    subst (λ (r : Option Refusal). OnOk c.finish.result (r ≡ None)) all c.finish.ensures.sound

pub returns-in-End-clause-refused : goal.returns-in-End-clause-refused
returns-in-End-clause-refused c =
    let s = in_characters c.args.source.now in
    let k = c.loop-gather.lister.shown.given in
    let m = moved c.loop-gather.lister c.next.new.self c.in_ok-entry.field-0 steps.End s k c.in_ok-entry.ensures.steps c.in-End.is
    c.loop-gather.invariant.stands in
    let last = at_stop (listing s) k steps.End c.loop-gather.invariant.whole c.loop-gather.invariant.within tt m.0 in
    let all = all_refusals c.args.extent s (take k (entries_of (listing s))) c.loop-gather.gather.pass c.loop-gather.invariant.extent
    c.loop-gather.invariant.gathered.pass last.0 last.1 in
    subst (λ (r : Option Refusal). IfErr c.finish.result (Tells r)) all c.finish.ensures.refused

pub returns-in-Fault-clause-refused : goal.returns-in-Fault-clause-refused
returns-in-Fault-clause-refused c =
    let s = in_characters c.args.source.now in
    let k = c.loop-gather.lister.shown.given in
    let fault = c.in-Fault.fault in
    let m = moved c.loop-gather.lister c.next.new.self c.in_ok-entry.field-0 (steps.Fault fault) s k
    c.in_ok-entry.ensures.steps c.in-Fault.is
    c.loop-gather.invariant.stands in
    let last = at_stop (listing s) k (steps.Fault fault) c.loop-gather.invariant.whole c.loop-gather.invariant.within tt m.0 in
    refused_listing c.args.extent s fault last.1

pub returns-in_err-entry-clause-lawful : goal.returns-in_err-entry-clause-lawful
returns-in_err-entry-clause-lawful c = values_are_lawful

pub returns-in_err-take-in-Entry-clause-lawful : goal.returns-in_err-take-in-Entry-clause-lawful
returns-in_err-take-in-Entry-clause-lawful c = values_are_lawful

pub returns-in-End-clause-lawful : goal.returns-in-End-clause-lawful
returns-in-End-clause-lawful c = values_are_lawful

pub returns-in-Fault-clause-lawful : goal.returns-in-Fault-clause-lawful
returns-in-Fault-clause-lawful c = values_are_lawful

pub returns-in_err-gather-clause-lawful : goal.returns-in_err-gather-clause-lawful
returns-in_err-gather-clause-lawful c = values_are_lawful

pub returns-in_err-entry-clause-typed : goal.returns-in_err-entry-clause-typed
returns-in_err-entry-clause-typed c = c.loop-gather.invariant.typed

pub returns-in_err-take-in-Entry-clause-typed : goal.returns-in_err-take-in-Entry-clause-typed
returns-in_err-take-in-Entry-clause-typed c = c.loop-gather.invariant.typed

pub returns-in-End-clause-typed : goal.returns-in-End-clause-typed
returns-in-End-clause-typed c = c.loop-gather.invariant.typed

pub returns-in-Fault-clause-typed : goal.returns-in-Fault-clause-typed
returns-in-Fault-clause-typed c = c.loop-gather.invariant.typed

pub returns-in_err-gather-clause-typed : goal.returns-in_err-gather-clause-typed
returns-in_err-gather-clause-typed c = tokens_are_sound (in_characters c.args.source.now) c.new-lister.ensures.lawful

pub returns-in_err-entry-clause-extents : goal.returns-in_err-entry-clause-extents
returns-in_err-entry-clause-extents c = extents_differ_in_numbers (in_characters c.args.source.now)

pub returns-in_err-take-in-Entry-clause-extents : goal.returns-in_err-take-in-Entry-clause-extents
returns-in_err-take-in-Entry-clause-extents c = extents_differ_in_numbers (in_characters c.args.source.now)

pub returns-in-End-clause-extents : goal.returns-in-End-clause-extents
returns-in-End-clause-extents c = extents_differ_in_numbers (in_characters c.args.source.now)

pub returns-in-Fault-clause-extents : goal.returns-in-Fault-clause-extents
returns-in-Fault-clause-extents c = extents_differ_in_numbers (in_characters c.args.source.now)

pub returns-in_err-gather-clause-extents : goal.returns-in_err-gather-clause-extents
returns-in_err-gather-clause-extents c = extents_differ_in_numbers (in_characters c.args.source.now)
