use Rattle.std.proofs.Common.{[], ℕ, ◌+◌, ◌<◌, ◌∙◌, Bool, ap, subst, sym, arith, length}
use Rattle.std.specs.Prelude.{if◌then◌else◌}
use Rattle.std.proofs.lemmas.Option.{slice_get_within}
use Rattle.pysource.specs.Parts.{Parts}
use Rattle.pylex_listing.specs.Listing.{in_characters}
use Rattle.pytree_node.specs.declared.profiles.Extent.{Extent}
use Rattle.pytoken.specs.Tokens.{lines}
use Rattle.std.proofs.lemmas.Result.{err_from_is_err_and}
use Rattle.pytoken.specs.Refusals.{refusal}
use Rattle.pyparse_tokens.specs.Answers.{Tells}
use Rattle.pyparse_tokens.specs.LineReadings.{LineReading}
use Rattle.pyparse.specs.Inner.Progressing.{IsProgress}
use Rattle.pyparse_block.proofs.Callers.FinishLemmas.{told_on, closes_at}
use Rattle.pyparse.proofs.modules.parse.Goals as goal

pub loop-progress-init : goal.loop-progress-init
loop-progress-init c =
    let s = in_characters c.args.source.now in
    record {
      source = ap (λ (r : LineReading). r.source) c.in_ok-lines.ensures.before;
      extent = ap (λ (r : LineReading). r.extent) c.in_ok-lines.ensures.before;
      known =
          subst (λ (k : ℕ). IsProgress c.args.profile s k c.new-progress.result)
          (sym (ap (λ (r : LineReading). r.given) c.in_ok-lines.ensures.before))
          (record {
            forms = [];
            known = (c.new-progress.ensures c.args.profile s).known;
            last_lines = (c.new-progress.ensures c.args.profile s).last_lines;
          });
    }

pub returns-in_err-next-clause-refused : goal.returns-in_err-next-clause-refused
returns-in_err-next-clause-refused c =
    let s = in_characters c.args.source.now in
    told_on c.args.profile s c.from_residual-in_err-next.result c.in_err-next.field-0.0
    (subst (λ (p : Parts). Tells (refusal c.args.profile.extent (in_characters p)) c.in_err-next.field-0.0) c.loop-progress.invariant.source
    (subst (λ (x : Extent). Tells (refusal x (in_characters c.loop-progress.lines.source)) c.in_err-next.field-0.0)
    c.loop-progress.invariant.extent c.in_err-next.ensures.refused))
    (err_from_is_err_and c.from_residual-in_err-next.result c.from_residual-in_err-next.ensures.1)

pub loop-progress-smaller : goal.loop-progress-smaller
loop-progress-smaller c =
    let held = c.in_ok-next.ensures.line c.if-branch.true in
    let given = c.in_ok-next.ensures.given
    ∙ ap (λ (b : Bool). if b then c.loop-progress.lines.given + 1 else c.loop-progress.lines.given) c.if-branch.true in
    let within : c.loop-progress.lines.given < length (lines (in_characters c.args.source.now)) =
    subst (λ (p : Parts). c.loop-progress.lines.given < length (lines (in_characters p))) c.loop-progress.invariant.source
    (slice_get_within (lines (in_characters c.loop-progress.lines.source)) c.loop-progress.lines.given held.line held.stands)
    in
    omega (arith, given, within)

pub returns-clause-accepted : goal.returns-clause-accepted
returns-clause-accepted c =
    let s = in_characters c.args.source.now in
    c.finish.ensures.accepted c.args.profile s c.loop-progress.lines.given c.loop-progress.invariant.known
    (closes_at c.args.profile s c.loop-progress.lines.extent c.loop-progress.lines.given c.loop-progress.lines.source
    c.next.new.self.marker c.end.result
    c.loop-progress.invariant.extent (ap in_characters c.loop-progress.invariant.source) (c.in_ok-next.ensures.all c.if-branch.false)
    (c.in_ok-next.ensures.sound c.if-branch.false) (c.in_ok-next.ensures.end c.if-branch.false) c.end.ensures)

pub returns-clause-refused : goal.returns-clause-refused
returns-clause-refused c =
    let s = in_characters c.args.source.now in
    c.finish.ensures.refused c.args.profile s c.loop-progress.lines.given c.loop-progress.invariant.known
    (closes_at c.args.profile s c.loop-progress.lines.extent c.loop-progress.lines.given c.loop-progress.lines.source
    c.next.new.self.marker c.end.result
    c.loop-progress.invariant.extent (ap in_characters c.loop-progress.invariant.source) (c.in_ok-next.ensures.all c.if-branch.false)
    (c.in_ok-next.ensures.sound c.if-branch.false) (c.in_ok-next.ensures.end c.if-branch.false) c.end.ensures)
