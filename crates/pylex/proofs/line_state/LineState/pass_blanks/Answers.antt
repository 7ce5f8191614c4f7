use Rattle.std.proofs.Common.{refl, sym, arith}
use Rattle.pylex.proofs.MachineLaws.Advancing.{is_after, place_offset}
use Rattle.pylex.proofs.line_state.LineState.pass_blanks.Goals as goal

pub returns : goal.returns
returns c =
    let p = c.args.self.now in
    let m = c.requires.following in
    is_after p _ _ (rw m refl) (record {
      now = place_offset _ _ _ _ (sym (c.requires.told.0 p.now.place)) c.requires.counted;
      line = refl;
      depth = omega arith;
      margin = refl;
      width = rw m refl;
      logical = refl;
      joined = refl;
      lead = sym (c.requires.told.1 p.lead);
    })
