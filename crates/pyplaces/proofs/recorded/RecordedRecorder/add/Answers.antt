use Rattle.std.proofs.Common.{map, ◌∙◌}
use Rattle.std.proofs.lemmas.Result.{on_ok_weaker}
use Rattle.pyplaces.specs.Recording.{told}
use Rattle.pyplaces.proofs.Moves.{add_by}
use Rattle.pyplaces.proofs.recorded.RecordedRecorder.add.Goals as goal

pub returns : goal.returns
returns c =
    let s = c.self.inside in
    let o = c.other.inside in
    on_ok_weaker c.move_spans.result
    (λ m ps h. add_by c.args.self.now (map told s.marks.now) s.spans.items c.move_spans.new.others.items (map told s.aside.items)
    (map told o.marks.now) o.spans.items c.move_spans.new.spans.items (map told o.aside.items) ps c.self.view_is (c.other.view_is ∙ h) m)
    c.move_spans.ensures
