use Rattle.std.proofs.Common.{◌≡◌, ℕ, sym, subst, ◌∙◌, arith}
use Rattle.pylex_listing.specs.declared.entries.Step.TheVariants as steps
use Rattle.pylex_listing.specs.Listing.{in_characters}
use Rattle.pylex.specs.Listers.{StandsIn}
use Rattle.examples.proofs.ListingLemmas.{moved, following_name, after_other, names_left, no_entry, none_left}
use Rattle.examples.proofs.listings.count_names.Goals as goal

pub loop-lister-smaller-then-is_name : goal.loop-lister-smaller-then-is_name
loop-lister-smaller-then-is_name c =
    let m = moved c.loop-lister.lister c.next.new.self c.in_ok-entry.field-0 (steps.Entry c.in-Entry.entry) _ _ c.in_ok-entry.ensures.steps
    c.in-Entry.is c.loop-lister.invariant.stands in
    omega (arith, m.1.count, c.next.ensures.given)

pub loop-lister-preserved-then-is_name : goal.loop-lister-preserved-then-is_name
loop-lister-preserved-then-is_name c =
    let i = c.loop-lister.invariant in
    let s = in_characters c.args.source.now in
    let k = c.loop-lister.lister.shown.given in
    let m = moved c.loop-lister.lister c.next.new.self c.in_ok-entry.field-0 (steps.Entry c.in-Entry.entry) s k c.in_ok-entry.ensures.steps
    c.in-Entry.is i.stands in
    let left = following_name s k c.in-Entry.entry m.0 (sym c.is_name.ensures ∙ c.if-is_name.true) in
    record {
      stands = subst (λ (n : ℕ). StandsIn c.next.new.self s n) (sym m.1.count) m.1;
      few = omega (arith, m.1.count, i.few);
      within = c.next.ensures.given;
      counted = rw m.1.count (omega (arith, left, i.counted));
    }

pub loop-lister-smaller : goal.loop-lister-smaller
loop-lister-smaller c =
    let m = moved c.loop-lister.lister c.next.new.self c.in_ok-entry.field-0 (steps.Entry c.in-Entry.entry) _ _ c.in_ok-entry.ensures.steps
    c.in-Entry.is c.loop-lister.invariant.stands in
    omega (arith, m.1.count, c.next.ensures.given)

pub loop-lister-preserved : goal.loop-lister-preserved
loop-lister-preserved c =
    let i = c.loop-lister.invariant in
    let s = in_characters c.args.source.now in
    let k = c.loop-lister.lister.shown.given in
    let m = moved c.loop-lister.lister c.next.new.self c.in_ok-entry.field-0 (steps.Entry c.in-Entry.entry) s k c.in_ok-entry.ensures.steps
    c.in-Entry.is i.stands in
    let left = after_other s k c.in-Entry.entry m.0 (sym c.is_name.ensures ∙ c.if-is_name.false) in
    record {
      stands = subst (λ (n : ℕ). StandsIn c.next.new.self s n) (sym m.1.count) m.1;
      few = omega (arith, m.1.count, i.few);
      within = c.next.ensures.given;
      counted = rw m.1.count (omega (arith, left, i.counted));
    }

pub returns : goal.returns
returns c =
    let i = c.loop-lister.invariant in
    let s = in_characters c.args.source.now in
    let k = c.loop-lister.lister.shown.given in
    let m = c.in_ok-entry.ensures.steps s k i.stands in
    let none = none_left s k c.in_ok-entry.field-0 m.0 (no_entry c.in_ok-entry.field-0 c.in_default.not-Entry) in
    let all : c.loop-lister.count ≡ names_left s 0 = omega (arith, none, i.counted) in
    all
