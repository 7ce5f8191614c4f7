use Rattle.std.proofs.Common.{◌==◌, refl, sym, arith, ◌∙◌}
use Rattle.pylex.proofs.MachineLaws.Advancing.{is_after, place_offset}
use Rattle.pylex.proofs.MachineLaws.Told.{or_none, line_end_given}
use Rattle.pylex.proofs.line_state.LineState.pass_line_end.Goals as goal

pub returns-clause-passed : goal.returns-clause-passed
returns-clause-passed c =
    let p = c.args.self.now in
    let m = c.requires.following in
    is_after p _ _ (rw m refl) (record {
      now = place_offset _ _ _ _ (sym (c.requires.told.0 p.now.place)) c.requires.counted;
      line = c.line_after-self.ensures;
      depth = omega arith;
      margin = c.ends_line-self.ensures ∙ or_none (p.depth == 0);
      width = refl;
      logical = c.logical_after-self.ensures;
      joined = refl;
      lead = sym (c.requires.told.1 p.lead);
    })

pub returns-clause-entry : goal.returns-clause-entry
returns-clause-entry c levels = line_end_given c.args.self.now c.args.text.now levels _ c.entry_of.result
    (c.line_end_kind-kind.ensures levels) c.requires.told.2 c.requires.counted c.entry_of.ensures
