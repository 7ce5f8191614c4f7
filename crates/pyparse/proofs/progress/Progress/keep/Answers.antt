use Rattle.std.proofs.Common.{[], List, subst, sym}
use Rattle.pytoken.specs.Inner.Following.{following}
use Rattle.pygrammar.specs.Lines.{Line, line}
use Rattle.pygrammar.specs.FormOf.{form_of}
use Rattle.pyparse_block.specs.LastLines.{HoldsLastLines}
use Rattle.pyparse_block.proofs.Callers.ProgressLemmas.{following_more}
use Rattle.pyparse.proofs.progress.Progress.keep.Goals as goal

pub returns : goal.returns
returns c profile s k forms was comes =
    let next : Line = line c.args.level (form_of c.args.form) in
    record {
      known = c.in_ok-place.ensures profile s k forms was.known comes;
      last_lines =
          subst (λ (xs : List Line). HoldsLastLines xs c.step.new.self) (sym (following_more [] forms next))
          (c.in_ok-step.ensures (following [] forms) (form_of c.args.form) c.is_match-opens_match.ensures was.last_lines);
    }
