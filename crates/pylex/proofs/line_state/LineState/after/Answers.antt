use Rattle.std.proofs.Common.{◌≤◌, arith, length, refl}
use Rattle.std.specs.Str.{chars}
use Rattle.std.proofs.lemmas.Str.{length-le-encodes}
use Rattle.pylex_lexeme.specs.Lexemes.{Lexeme}
use Rattle.pylex.proofs.MachineLaws.Advancing.{is_after, more_room, place_offset}
use Rattle.pylex.proofs.line_state.LineState.after.Goals as goal

pub returns-clause-after : goal.returns-clause-after
returns-clause-after c =
    let x : Lexeme = record { «class» = c.args.class; text = chars c.args.text.now } in
    is_after c.args.self x _ c.requires.settled (record {
      now = place_offset _ _ _ _ c.walk_lexeme-lead.ensures.place c.requires.counted;
      line = c.line_after.ensures;
      depth = c.depth_after.ensures;
      margin = c.margin_after.ensures;
      width = c.width_past.ensures.value;
      logical = c.logical_after.ensures;
      joined = c.is_join.ensures;
      lead = c.walk_lexeme-lead.ensures.lead;
    })

pub returns-clause-now : goal.returns-clause-now
returns-clause-now c = place_offset _ _ _ _ c.walk_lexeme-lead.ensures.place c.requires.counted

pub returns-clause-room : goal.returns-clause-room
returns-clause-room c n room =
    let x : Lexeme = record { «class» = c.args.class; text = chars c.args.text.now } in
    let chars_le = length-le-encodes (chars c.args.text.now) in
    let counted = c.requires.counted in
    let fits : length (chars c.args.text.now) ≤ length c.args.text.now = omega arith in
    more_room c.args.self x _ (length c.args.text.now) n (record {
      now = place_offset _ _ _ _ c.walk_lexeme-lead.ensures.place c.requires.counted;
      line = c.line_after.ensures;
      depth = c.depth_after.ensures;
      margin = c.margin_after.ensures;
      width = c.width_past.ensures.value;
      logical = c.logical_after.ensures;
      joined = c.is_join.ensures;
      lead = c.walk_lexeme-lead.ensures.lead;
    }) refl fits c.width_past.ensures.bound c.requires.some room
