use Rattle.std.proofs.Common.{◌≡◌, ℕ, ◌+◌, ◌<◌, ◌∙◌, Bool, Some, [], ap, subst, sym, arith, length, map}
use Rattle.std.specs.Prelude.{if◌then◌else◌, slice_get}
use Rattle.std.proofs.lemmas.Option.{slice_get_within}
use Rattle.pysource.specs.Parts.{Parts}
use Rattle.pylex_listing.specs.Listing.{in_characters}
use Rattle.pytree_node.specs.declared.profiles.Extent.{Extent}
use Rattle.pytoken.specs.Tokens.{Line, lines}
use Rattle.std.proofs.lemmas.Result.{err_from_is_err_and}
use Rattle.pytoken.specs.Refusals.{refusal}
use Rattle.pyparse_tokens.specs.Answers.{Tells}
use Rattle.pyparse_marks.specs.LineSpans.{line_spans}
use Rattle.pyparse_marks.specs.Spans.{told}
use Rattle.pyparse_marks.proofs.Callers.Kept.{kept_anew}
use Rattle.pyparse_tokens.specs.LineReadings.{LineReading, HoldsLine}
use Rattle.pyparse.specs.Inner.PlacedLines.{IsPlaced}
use Rattle.pyparse_block.proofs.Callers.FinishLemmas.{told_on, closes_at}
use Rattle.pyparse.proofs.placed.parse_placed.Goals as goal

pub loop-progress-init : goal.loop-progress-init
loop-progress-init c =
    let s = in_characters c.args.source.now in
    record {
      source = ap (λ (r : LineReading). r.source) c.in_ok-lines.ensures.before;
      kept = record { spans = []; is = c.new-marks.ensures.empty };
      extent = ap (λ (r : LineReading). r.extent) c.in_ok-lines.ensures.before;
      placed =
          subst (λ (k : ℕ). IsPlaced c.args.profile s k c.new-progress.result)
          (sym (ap (λ (r : LineReading). r.given) c.in_ok-lines.ensures.before))
          (c.new-progress.ensures c.args.profile s);
    }

pub returns-in_err-next_marked-clause-refused : goal.returns-in_err-next_marked-clause-refused
returns-in_err-next_marked-clause-refused c =
    let s = in_characters c.args.source.now in
    told_on c.args.profile s c.from_residual-in_err-next_marked.result c.in_err-next_marked.field-0.0
    (subst (λ (p : Parts). Tells (refusal c.args.profile.extent (in_characters p)) c.in_err-next_marked.field-0.0)
    c.loop-progress.invariant.source
    (subst (λ (x : Extent). Tells (refusal x (in_characters c.loop-progress.lines.source)) c.in_err-next_marked.field-0.0)
    c.loop-progress.invariant.extent c.in_err-next_marked.ensures.refused))
    (err_from_is_err_and c.from_residual-in_err-next_marked.result c.from_residual-in_err-next_marked.ensures.1)

pub loop-progress-smaller : goal.loop-progress-smaller
loop-progress-smaller c =
    let held = c.in_ok-next_marked.ensures.line c.if-branch.true in
    let given = c.in_ok-next_marked.ensures.given
    ∙ ap (λ (b : Bool). if b then c.loop-progress.lines.given + 1 else c.loop-progress.lines.given) c.if-branch.true in
    let within : c.loop-progress.lines.given < length (lines (in_characters c.args.source.now)) =
    subst (λ (p : Parts). c.loop-progress.lines.given < length (lines (in_characters p))) c.loop-progress.invariant.source
    (slice_get_within (lines (in_characters c.loop-progress.lines.source)) c.loop-progress.lines.given held.line held.stands)
    in
    omega (arith, given, within)

pub returns-clause-placed : goal.returns-clause-placed
returns-clause-placed c =
    let s = in_characters c.args.source.now in
    c.finish.ensures.placed c.args.profile c.loop-progress.lines.given c.loop-progress.invariant.placed
    (closes_at c.args.profile s c.loop-progress.lines.extent c.loop-progress.lines.given c.loop-progress.lines.source
    c.next_marked.new.self.marker c.end.result
    c.loop-progress.invariant.extent (ap in_characters c.loop-progress.invariant.source) (c.in_ok-next_marked.ensures.all c.if-branch.false)
    (c.in_ok-next_marked.ensures.sound c.if-branch.false) (c.in_ok-next_marked.ensures.end c.if-branch.false) c.end.ensures)

pub returns-clause-refused : goal.returns-clause-refused
returns-clause-refused c =
    let s = in_characters c.args.source.now in
    c.finish.ensures.refused c.args.profile c.loop-progress.lines.given c.loop-progress.invariant.placed
    (closes_at c.args.profile s c.loop-progress.lines.extent c.loop-progress.lines.given c.loop-progress.lines.source
    c.next_marked.new.self.marker c.end.result
    c.loop-progress.invariant.extent (ap in_characters c.loop-progress.invariant.source) (c.in_ok-next_marked.ensures.all c.if-branch.false)
    (c.in_ok-next_marked.ensures.sound c.if-branch.false) (c.in_ok-next_marked.ensures.end c.if-branch.false) c.end.ensures)

pub loop-progress-preserved : goal.loop-progress-preserved
loop-progress-preserved c =
    let profile = c.args.profile in
    let old = c.loop-progress.lines in
    let new = c.next_marked.new.self in
    let more = c.if-branch.true in
    let text = (in_characters old.source).text in
    let kept = c.loop-progress.invariant.kept in
    let same : old.source ≡ new.source = sym c.next_marked.ensures.source in
    let source : new.source ≡ c.args.source.now = c.next_marked.ensures.source ∙ c.loop-progress.invariant.source in
    let given : new.given ≡ old.given + 1 =
    c.in_ok-next_marked.ensures.given ∙ ap (λ (b : Bool). if b then old.given + 1 else old.given) more in
    let held = c.in_ok-next_marked.ensures.line more in
    let spans : (x : Line) → slice_get (lines (in_characters old.source)) old.given ≡ Some x
    → c.next_marked.new.marks ≡ Some (line_spans text x) =
    λ x stands. c.in_ok-next_marked.ensures.marks more x stands ∙ kept_anew c.loop-progress.marks kept.spans (line_spans text x) kept.is in
    let placed : IsPlaced profile (in_characters new.source) (old.given + 1) c.take.new.self =
    c.in_ok-take.ensures old.given (subst (λ (p : Parts). HoldsLine (in_characters p) old.given new) same held)
    (subst (λ (p : Parts). (x : Line) → slice_get (lines (in_characters p)) old.given ≡ Some x
    → map told c.as_slice.result.now ≡ line_spans (in_characters p).text x) same
    (λ x stands. c.as_slice.ensures.kept (line_spans text x) (spans x stands)))
    (subst (λ (p : Parts). IsPlaced profile (in_characters p) old.given c.loop-progress.progress) (sym source)
    c.loop-progress.invariant.placed)
    in
    record {
      source = source;
      kept = record { spans = line_spans text held.line; is = spans held.line held.stands };
      extent = c.next_marked.ensures.extent ∙ c.loop-progress.invariant.extent;
      placed =
          subst (λ (k : ℕ). IsPlaced profile (in_characters c.args.source.now) k c.take.new.self) (sym given)
          (subst (λ (p : Parts). IsPlaced profile (in_characters p) (old.given + 1) c.take.new.self) source placed);
    }
