use Rattle.std.proofs.Common.{◌∙◌, ◌++◌, ◌∷◌, [], ℕ, sym, subst}
use Rattle.pysource.specs.declared.places.Place.{Place}
use Rattle.pylex_listing.specs.Listing.{in_characters}
use Rattle.pytoken.specs.Inner.Following.{following}
use Rattle.pygrammar.specs.FormOf.{form_of}
use Rattle.pygrammar.specs.Lines.{line}
use Rattle.pyparse.specs.declared.progress.Progress.{Progress}
use Rattle.pyparse.specs.Inner.Reading.{Holds}
use Rattle.pyparse_block.specs.Known.{Comes}
use Rattle.pyparse_block.proofs.Callers.ProgressLemmas.{unread_stays}
use Rattle.pyparse.proofs.progress.Progress.take.Goals as goal

pub returns-then-is_unread : goal.returns-then-is_unread
returns-then-is_unread c k held was = record {
  forms = was.forms;
  known =
      unread_stays c.args.profile (in_characters c.args.lines.now.source) k was.forms c.args.self.now.known c.args.lines.now
      (sym c.is_unread.ensures ∙ c.if-is_unread.true) held was.known;
  last_lines = was.last_lines;
}

pub returns-in-None : goal.returns-in-None
returns-in-None c k held was =
    let holds = (c.in_ok-read.ensures k was.forms held (record { known = was.known; last_lines = was.last_lines })).none c.in-None.is in
    record { forms = was.forms; known = holds.1.known; last_lines = holds.1.last_lines }

pub returns : goal.returns
returns c k held was =
    let profile = c.args.profile in
    let s = in_characters c.args.lines.now.source in
    let form = form_of c.in-Some.read.form in
    let holds : Holds profile s k was.forms c.args.self.now = record { known = was.known; last_lines = was.last_lines } in
    let found = (c.in_ok-read.ensures k was.forms held holds).found c.in-Some.read c.in-Some.is in
    let comes = subst (λ (n : ℕ). Comes profile s k (following [] was.forms) (line n form) c.args.lines.now.start) (sym c.level-level.ensures)
    found.1.comes in
    let kept = c.in_ok-keep.ensures profile s k was.forms
    (subst (λ (p : Progress). Holds profile s k was.forms p) (sym found.0) holds)
    (subst (λ (p : Place). Comes profile s k (following [] was.forms) (line c.level-level.result form) p) (sym c.start.ensures) comes) in
    record { forms = was.forms ++ line c.level-level.result form ∷ []; known = kept.known; last_lines = kept.last_lines }
