use Rattle.std.proofs.Common.{refl, sym, arith}
use Rattle.pylex.proofs.MachineLaws.Advancing.{is_after, place_offset}
use Rattle.pylex.proofs.Texts.Plain.{advance_plain, spaces_lead, spaces_plain, spaces_width}
use Rattle.pylex.proofs.line_state.LineState.pass_spaces.Goals as goal

pub returns-clause-passed : goal.returns-clause-passed
returns-clause-passed c =
    let p = c.args.self.now in
    let bs = c.args.spaces.now in
    let m = c.requires.margin in
    is_after p _ _ (rw m refl) (record {
      now = place_offset _ _ _ _ (sym (advance_plain p.now.place bs (spaces_plain bs c.requires.spaces))) c.requires.counted;
      line = refl;
      depth = omega arith;
      margin = refl;
      width = rw m (sym (spaces_width p.width bs c.requires.spaces));
      logical = refl;
      joined = refl;
      lead = sym (spaces_lead p.lead bs c.requires.spaces);
    })
