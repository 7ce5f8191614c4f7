use Rattle.std.proofs.Common.{◌∙◌, ap}
use Rattle.pyparse_pattern.specs.Inner.Entries.{entry_of}
use Rattle.pyparse_pattern.proofs.Arranged.{rest_last}
use Rattle.pyparse_pattern.proofs.mappings.is_mapping.Goals as goal

pub returns-in-Rest : goal.returns-in-Rest
returns-in-Rest c = rest_last c.args.items.now c.loop-at.at c.index-items-at.result _ c.loop-at-test.true c.index-items-at.is
    (ap entry_of c.in-Rest.is) ∙ c.loop-at.invariant
