use Rattle.std.proofs.Common.{◌≡◌, ◌∙◌, [], List, map, refl, ap, subst, ℕ}
use Rattle.pylex_listing.specs.Listing.{in_characters}
use Rattle.pytoken.specs.Inner.Following.{following}
use Rattle.pytoken.specs.Terminals.{Terminal}
use Rattle.pytoken.specs.TerminalOf.{terminal}
use Rattle.pygrammar.specs.Blocks.{stands_in_match}
use Rattle.pyparse_line.specs.Lines.{Refused}
use Rattle.pyparse_line.specs.declared.lines.FormRead.{FormRead}
use Rattle.pyparse.specs.Inner.Reading.{IsFound}
use Rattle.pyparse.proofs.PlacedLemmas.{found_held}
use Rattle.pyparse.proofs.progress.Progress.read.Goals as goal

pub returns-in-Ok : goal.returns-in-Ok
returns-in-Ok g c k forms held was =
    let found = found_held forms c.inside-inside.result (map terminal c.terminals.result.now) c.level.result
    c.in-Ok.read c.args.recorder.now
    c.read_line.new.recorder held (c.inside-inside.ensures (following [] forms) was.last_lines) c.terminals.ensures c.level.ensures
    c.in-Ok.ensures.form.1 c.in-Ok.ensures.placed in
    record {
      found = λ read is.
          let same : c.in-Ok.read ≡ read = cc in (
            refl,
            subst (λ (x : FormRead). IsFound g.R.Recorder.after g.R.Recorder.recorded_count c.args.profile
                (in_characters c.args.lines.now.source)
                k forms c.args.lines.now.level c.args.lines.now.start x c.args.recorder.now c.read_line.new.recorder) same found,
          );
      none = λ is. absurd (cc);
    }

pub returns-in_ok-refuse-in-Err : goal.returns-in_ok-refuse-in-Err
returns-in_ok-refuse-in-Err g c k forms held was = record {
  found = λ read is. absurd (cc);
  none = λ is. c.in_ok-refuse-in-Err.ensures c.inside-inside.result k forms held was
      (c.inside-inside.ensures (following [] forms) was.last_lines ∙ ap (λ (l : ℕ). stands_in_match l (following [] forms)) c.level.ensures)
      (subst (λ (ts : List Terminal). Refused c.in-Err.stop c.args.profile c.inside-inside.result ts) c.terminals.ensures
      c.in-Err.ensures.form);
}
