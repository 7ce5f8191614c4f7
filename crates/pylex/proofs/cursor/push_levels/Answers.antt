use Rattle.std.proofs.Common.{◌≡◌, ◌++◌, ◌∙◌, ap, get_or, rules, decimal}
use Rattle.std.specs.String.{string_bytes}
use Rattle.pylex.proofs.Texts.CursorLemmas.{written_more, written_first}
use Rattle.pylex.proofs.cursor.push_levels.Goals as goal
use Rattle.pylex.proofs.cursor.push_levels.Goals.{then-index-gt0+in_ok-push, else-index-gt0}

pub loop-index-preserved : goal.loop-index-preserved
loop-index-preserved c =
    let i = c.loop-index.index in
    let xs = c.args.levels.now in
    let pushed : string_bytes c.push_str.new.self ≡ string_bytes c.if-index-gt0.text ++ decimal (get_or xs i 0) = search rules in
    elim c.if-index-gt0.branch [
      | then-index-gt0+in_ok-push w ↦ written_more (string_bytes c.args.text.now) (string_bytes c.loop-index.text)
          (string_bytes c.if-index-gt0.text) (string_bytes c.push_str.new.self) xs i c.loop-index-test.true w.if-index-gt0.true
          c.loop-index.invariant (search rules) pushed
      | else-index-gt0 w ↦ written_first (string_bytes c.args.text.now) (string_bytes c.if-index-gt0.text)
          (string_bytes c.push_str.new.self) xs i c.loop-index-test.true w.if-index-gt0.false (ap string_bytes w.text-is
          ∙ c.loop-index.invariant) pushed
    ]
