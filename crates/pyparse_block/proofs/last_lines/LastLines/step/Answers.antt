use Rattle.pyparse_block.proofs.LastLineLemmas.{holds_next}
use Rattle.pyparse_block.proofs.last_lines.LastLines.step.Goals as goal

pub returns : goal.returns
returns c earlier form is was = holds_next c.args.level c.args.opens_match form earlier c.args.self.now _ c.drop_from.new.lasts.items is
    c.drop_from.ensures c.in_ok-push.ensures.items was
