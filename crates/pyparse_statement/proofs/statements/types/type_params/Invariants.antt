use Rattle.std.proofs.Common.{◌≤◌, ◌-◌, length, map}
use Rattle.pytree_node.specs.TreeOf.{type_param_of}
use Rattle.pygrammar.specs.LineReader.{commas_of, read_type_param, starts_type_param}
use Rattle.pyparse_reads.specs.Readings.{reads}
use Rattle.pyparse_nodes.specs.Views.{seen}
use Rattle.pyparse_statement.proofs.Commas.{Listed}
use Rattle.pyparse_statement.proofs.Recorders.Types.{ParamsGrown}
use Rattle.pyparse_statement.proofs.statements.types.type_params.Given as goal

abbrev pub invariant-more : goal.invariant-more
invariant-more g l = record {
  ahead : l.at ≤ l.params.next;
  is : Listed l.tokens (read_type_param (reads l.depth)) starts_type_param (commas_of (read_type_param (reads l.depth)) starts_type_param
      (seen l.tokens l.at)) (map type_param_of l.params.params.items) l.params.next;
  grown : ParamsGrown g.R.Recorder.after l.tokens l.at l.initial.recorder l.recorder l.params;
}

abbrev pub decreases-more : goal.decreases-more
decreases-more g l = length l.tokens - l.params.next
