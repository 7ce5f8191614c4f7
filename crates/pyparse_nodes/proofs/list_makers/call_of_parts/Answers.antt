use Rattle.pyparse_nodes.proofs.MadeParts.{call_value_of}
use Rattle.pyparse_nodes.proofs.list_makers.call_of_parts.Goals as goal

pub returns : goal.returns
returns c = call_value_of _ c.args.func.value c.into_inner.ensures
