use Rattle.pyparse_nodes.proofs.MadeParts.{dict_comp_value_of}
use Rattle.pyparse_nodes.proofs.list_makers.dict_comp_of_parts.Goals as goal

pub returns : goal.returns
returns c = dict_comp_value_of _ c.args.key.value c.args.value.value c.into_inner.ensures c.into_inner-2.ensures
