use Rattle.std.proofs.Common.{arith}
use Rattle.pyparse_block.proofs.LevelLemmas.{settle_done, settle_more}
use Rattle.pyparse_block.proofs.stack.Stack.settle.Goals as goal

pub loop-alloc-preserved : goal.loop-alloc-preserved
loop-alloc-preserved c = settle_more c.args.level c.loop-alloc.self c.end_level.new.self _ (omega arith)
    c.in_ok-end_level.ensures.ended c.loop-alloc.invariant

pub returns-clause-settled : goal.returns-clause-settled
returns-clause-settled c = settle_done c.args.level c.loop-alloc.self _ (omega arith) c.loop-alloc.invariant
