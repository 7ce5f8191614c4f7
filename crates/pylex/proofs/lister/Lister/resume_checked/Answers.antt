use Rattle.std.proofs.Common.{◌≡◌, ◌+◌, ℕ, subst, ap, sym, ◌∙◌, arith, rules}
use Rattle.pylex.specs.Cursors.{cursor}
use Rattle.pylex_listing.specs.Listing.{in_characters}
use Rattle.pylex_listing.specs.Steps.{entries_in}
use Rattle.pylex.specs.Listers.{StandsIn}
use Rattle.pylex.proofs.Listers.Moving.{entry_due}
use Rattle.pylex.proofs.lister.Lister.resume_checked.Goals as goal
use Rattle.pylex.proofs.Callers.{is_following}

pub returns-in_default : goal.returns-in_default
returns-in_default c =
    let a = in_characters c.args.source.now in
    let moved = c.in_ok-step.ensures.steps a c.loop-given._given c.loop-given.invariant.stands in
    record {
      lister = tt;
      own = tt;
      leads = tt;
      another = λ _ is. let w = (is_following is).within in let due =
          entry_due a c.loop-given._given c.in_ok-step.step (omega arith) moved.0 in
          c.in_default.not-Entry due.0 due.1;
      fault = λ e. absurd cc;
    }

pub loop-given-preserved : goal.loop-given-preserved
loop-given-preserved c =
    let a = in_characters c.args.source.now in
    let one : entries_in c.in_ok-step.step ≡ 1 = ap entries_in c.in-Entry.is in
    let moved = c.in_ok-step.ensures.steps a c.loop-given._given c.loop-given.invariant.stands in
    record {
      stands = subst (λ (n : ℕ). StandsIn c.next.new.self a (c.loop-given._given + n)) one moved.1;
      source = search rules;
    }

pub returns-then-not-shows-clause-another : goal.returns-then-not-shows-clause-another
returns-then-not-shows-clause-another c = λ _ own.
    let a = in_characters c.args.source.now in
    let stands = c.loop-given.invariant.stands in
    let end : c.loop-given._given ≡ c.args.cursor.now.given = omega (
      arith,
      c.loop-given-test.false,
      c.loop-given.auto._given-end,
      c.given-given-end.ensures,
    ) in
    let same : c.args.cursor.now ≡ c.loop-given.lister.shown = (is_following own).is ∙ ap (cursor a) (sym end ∙ sym stands.count)
    ∙ sym (is_following stands.cursor).is in
    let t = c.shows.ensures.1 same in
    let n = c.if-not-shows.ensures in
    let f = rw (n, t) at c.if-not-shows.true in
    cc
