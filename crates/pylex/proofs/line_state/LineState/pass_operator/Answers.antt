use Rattle.std.proofs.Common.{refl, sym, ◌∙◌}
use Rattle.std.specs.Str.{chars}
use Rattle.pylex.proofs.MachineLaws.Advancing.{is_after, place_offset}
use Rattle.pylex.proofs.MachineLaws.Told.{operator_given}
use Rattle.pylex.proofs.line_state.LineState.pass_operator.Goals as goal

pub returns-clause-passed : goal.returns-clause-passed
returns-clause-passed c =
    let p = c.args.self.now in
    let m = c.requires.following in
    is_after p _ _ (rw m refl) (record {
      now = place_offset _ _ _ _ (sym (c.requires.told.0 p.now.place)) c.requires.counted;
      line = refl;
      depth = c.depth_after-self.ensures;
      margin = m;
      width = refl;
      logical = refl;
      joined = refl;
      lead = c.begun-self.ensures ∙ sym (c.requires.told.1 p.lead);
    })

pub returns-clause-entry : goal.returns-clause-entry
returns-clause-entry c levels = operator_given c.args.self.now c.args.operator (chars c.args.text.now) levels _ c.entry_of.result
    (sym c.is_unmatched.ensures ∙ c.if-is_unmatched.false) (place_offset _ _ _ _ (sym (c.requires.told.0 c.args.self.now.now.place))
    c.requires.counted) c.entry_of.ensures
