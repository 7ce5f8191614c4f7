use Rattle.std.proofs.Common.{rules}
use Rattle.pyparse_statement.proofs.Recorders.Headers.{added_placed, unbracketed_placed}
use Rattle.pyparse_statement.proofs.headers.items.read_items.Goals as goal

pub returns-in-Ok-clause-placed : goal.returns-in-Ok-clause-placed
returns-in-Ok-clause-placed g c = added_placed _ c.in-Ok.ensures.placed c.in_ok-inside.ensures c.in_ok-add-in-Ok.ensures

pub returns-in-Err-NoForm-clause-placed : goal.returns-in-Err-NoForm-clause-placed
returns-in-Err-NoForm-clause-placed g c = unbracketed_placed g.R.Recorder.after c.args.tokens.now c.args.at _ _ c.args.depth
    c.in-Err-NoForm.field-0 c.items_at.result
    c.in-Err-NoForm.ensures.answered (search rules)
    c.items_at.ensures.placed
