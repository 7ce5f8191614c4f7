use Rattle.std.proofs.Common.{◌∙◌, None, ap}
use Rattle.pygrammar.specs.Forms.{alias}
use Rattle.pyparse_statement.proofs.statements.ImportSteps.{star_characters}
use Rattle.pyparse_statement.proofs.statements.imports.star.Goals as goal

pub returns : goal.returns
returns c = ap (λ x. alias x None) (c.in_ok-name.ensures.value ∙ star_characters)
