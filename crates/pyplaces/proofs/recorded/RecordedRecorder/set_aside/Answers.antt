use Rattle.std.proofs.Common.{map, ◌∙◌}
use Rattle.std.proofs.lemmas.Result.{on_ok_weaker}
use Rattle.pyplaces.specs.Recording.{told}
use Rattle.pyplaces.proofs.Moves.{set_aside_by}
use Rattle.pyplaces.proofs.recorded.RecordedRecorder.set_aside.Goals as goal

pub returns : goal.returns
returns c =
    let s = c.self.inside in
    on_ok_weaker c.move_spans.result
    (λ m w ps h l. set_aside_by (map told s.marks.now) s.spans.items c.move_spans.new.spans.items s.aside.items
    c.move_spans.new.others.items c.args.from w ps (c.self.view_is ∙ h) l m)
    c.move_spans.ensures
