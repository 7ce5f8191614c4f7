use Rattle.std.proofs.Common.{◌∙◌, ◌≡◌, ◌+◌, ◌++◌, ◌∷◌, [], ℕ, List, true, false, map, sym, ap, subst}
use Rattle.std.proofs.lemmas.Bool.{false≢true}
use Rattle.pysource.specs.declared.places.Place.{Place}
use Rattle.pylex_listing.specs.Listing.{in_characters}
use Rattle.pytoken.specs.Inner.Following.{following}
use Rattle.pygrammar.specs.FormOf.{form_of}
use Rattle.pygrammar.specs.Lines.{line}
use Rattle.pyparse_marks.specs.LineSpans.{line_spans}
use Rattle.pyparse_marks.specs.Spans.{Span, told}
use Rattle.pyplaces.specs.BlockPlaces.{LinePlaces, line_of}
use Rattle.pyplaces.specs.FormPlaces.{places_at}
use Rattle.pyplaces.specs.StateOf.{Follows}
use Rattle.pyparse.specs.declared.progress.Progress.{Progress}
use Rattle.pyparse.specs.Inner.PlacedLines.{PlacedLines}
use Rattle.pyparse_block.specs.Known.{Comes, first_lines}
use Rattle.pyparse.specs.Inner.Reading.{Holds}
use Rattle.pyparse_block.proofs.Callers.ProgressLemmas.{unread_stays}
use Rattle.pyparse.proofs.PlacedLemmas.{runs_cut, line_given, placed_next}
use Rattle.pyparse.proofs.placed.PlacedProgress.take.Goals as goal

pub returns-then-is_unread : goal.returns-then-is_unread
returns-then-is_unread c k held spans was =
    let unread = sym c.is_unread.ensures ∙ c.if-is_unread.true in
    record {
      forms = was.forms;
      known =
          unread_stays c.args.profile (in_characters c.args.lines.now.source) k was.forms c.args.self.now.progress.known c.args.lines.now
          unread held was.known;
      last_lines = was.last_lines;
      zs = was.zs;
      placed = λ read. absurd (false≢true (sym read ∙ unread));
    }

pub returns-in-None : goal.returns-in-None
returns-in-None c k held spans was =
    let holds = (c.in_ok-read.ensures k was.forms held (record { known = was.known; last_lines = was.last_lines })).none c.in-None.is in
    record {
      forms = was.forms;
      known = holds.1.known;
      last_lines = holds.1.last_lines;
      zs = was.zs;
      placed = λ read. absurd (false≢true (sym read ∙ holds.0));
    }

pub returns : goal.returns
returns c k held spans was =
    let profile = c.args.profile in
    let s = in_characters c.args.lines.now.source in
    let form = form_of c.in-Some.read.form in
    let holds : Holds profile s k was.forms c.args.self.now.progress = record { known = was.known; last_lines = was.last_lines } in
    let found = (c.in_ok-read.ensures k was.forms held holds).found c.in-Some.read c.in-Some.is in
    let comes = subst (λ (n : ℕ). Comes profile s k (following [] was.forms) (line n form) c.args.lines.now.start) (sym c.level-level.ensures)
    found.1.comes in
    let kept = c.in_ok-keep.ensures profile s k was.forms
    (subst (λ (p : Progress). Holds profile s k was.forms p) (sym found.0) holds)
    (subst (λ (p : Place). Comes profile s k (following [] was.forms) (line c.level-level.result form) p) (sym c.start.ensures) comes) in
    let f = places_at found.1.comes.form.is in
    let ms = map told c.args.marks.now in
    let runs = runs_cut ms f c.in-Some.read c.new-recorder.result c.read.new.recorder (map told c.spans-spans.result.now)
    c.new-recorder.ensures found.1.runs c.spans-spans.ensures in
    let lent : LinePlaces = record {
      whole = told c.whole_of.result;
      before = map told c.run_of.result.now;
      following = map told c.run_of-2.result.now;
      suite = map told c.run_of-3.result.now;
    } in
    let given = line_given ms f c.in-Some.read c.spans-spans.result.now c.run_of.result.now c.run_of-2.result.now c.run_of-3.result.now
    lent runs c.run_of.ensures c.run_of-2.ensures c.run_of-3.ensures
    (ap (λ (w : Span). record {
      whole = w;
      before = map told c.run_of.result.now;
      following = map told c.run_of-2.result.now;
      suite = map told c.run_of-3.result.now;
    }) c.whole_of.ensures) in
    let here = line_of (line_spans s.text found.1.comes.line) f in
    let given_here : lent ≡ here =
    given ∙ ap (λ (ss : List Span). line_of ss f) (spans found.1.comes.line found.1.comes.stands) in
    record {
      forms = was.forms ++ line c.level-level.result form ∷ [];
      known = kept.known;
      last_lines = kept.last_lines;
      zs = was.zs ++ here ∷ [];
      placed = λ read.
          let before = was.placed (sym c.is_unread.ensures ∙ c.if-is_unread.false) in (
            subst (λ (n : ℕ). PlacedLines profile [] (line_spans s.text) (first_lines s (k + 1))
                (was.forms ++ line n form ∷ []) (was.zs ++ here ∷ []))
                (sym c.level-level.ensures) (placed_next found.1.comes before.0),
            subst (λ (z : LinePlaces). Follows (was.forms ++ line c.level-level.result form ∷ []) (was.zs ++ z ∷ []) c.step.new.self)
                given_here
                (c.in_ok-step.ensures.follows was.forms was.zs before.1),
          );
    }
