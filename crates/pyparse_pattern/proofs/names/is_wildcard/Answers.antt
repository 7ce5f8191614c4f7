use Rattle.std.proofs.Common.{◌∙◌}
use Rattle.pyparse_pattern.proofs.Wildcards.{spelt_wildcard}
use Rattle.pyparse_pattern.proofs.names.is_wildcard.Goals as goal

pub returns : goal.returns
returns c = c.eq.ensures ∙ spelt_wildcard c.args.name.now c.as_str.result.now c.as_str.ensures.bytes
