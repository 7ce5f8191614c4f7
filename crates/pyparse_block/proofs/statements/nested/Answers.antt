use Rattle.pyparse_block.proofs.StatementLemmas.{choice_popped}
use Rattle.pyparse_block.proofs.statements.nested.Goals as goal

pub loop-arm-preserved : goal.loop-arm-preserved
loop-arm-preserved c = choice_popped _ _ c.in-Some.arm _ _ _ _ _ c.in-Some.ensures.items c.in_ok-push.ensures.items
    c.new-outer.ensures.items c.if_statement.ensures c.loop-arm.invariant
