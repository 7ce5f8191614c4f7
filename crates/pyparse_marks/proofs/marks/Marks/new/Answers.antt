use Rattle.pyparse_marks.proofs.FittingTokens.{each_has_span}
use Rattle.pyparse_marks.proofs.marks.Marks.new.Goals as goal

pub returns-clause-law : goal.returns-clause-law
returns-clause-law c = each_has_span
