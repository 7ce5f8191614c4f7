use Rattle.std.proofs.Common.{refl, sym, arith}
use Rattle.std.specs.Str.{chars}
use Rattle.pylex.proofs.MachineLaws.Advancing.{is_after, place_offset}
use Rattle.pylex.proofs.MachineLaws.Told.{text_after, text_given}
use Rattle.pylex.proofs.line_state.LineState.pass_text.Goals as goal

pub returns-clause-passed : goal.returns-clause-passed
returns-clause-passed c =
    let p = c.args.self.now in
    let m = c.requires.following in
    let t = text_after c.args.class c.requires.class in
    is_after p _ _ (rw m refl) (record {
      now = place_offset _ _ _ _ c.walk-lead.ensures.place c.requires.counted;
      line = rw t.end refl;
      depth = rw (t.opener, t.closer) (omega arith);
      margin = rw (t.end, t.blanks) m;
      width = rw t.blanks refl;
      logical = c.logical_after-self.ensures;
      joined = sym t.joined;
      lead = c.walk-lead.ensures.lead;
    })

pub returns-clause-entry : goal.returns-clause-entry
returns-clause-entry c levels = text_given c.args.self.now c.args.class (chars c.args.text.now) levels _ _ c.entry_of.result
    c.requires.class c.text_kind.ensures (place_offset _ _ _ _ c.walk-lead.ensures.place c.requires.counted) c.entry_of.ensures
