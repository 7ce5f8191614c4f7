use Rattle.pyparse.proofs.progress.Progress.new.Goals as goal

pub returns : goal.returns
returns c profile s = record { known = c.new.ensures profile s; last_lines = c.new-2.ensures }
