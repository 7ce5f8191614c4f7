use Rattle.std.proofs.Common.{◌∙◌}
use Rattle.pyplaces.proofs.Answers.{records_node, records_more}
use Rattle.pyparse_expr.proofs.strings.record_joined.Goals as goal

pub returns : goal.returns
returns g c = λ whole a. records_more (c.in_ok-record_text.ensures whole a) (records_node (c.in_ok-node.ensures ∙ a.is _))
