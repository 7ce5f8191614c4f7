use Rattle.pyparse_statement.proofs.Recorders.Headers.{bare_item_placed, item_as_placed}
use Rattle.pyparse_statement.proofs.headers.items.read_item.Goals as goal

pub returns-then-not-is_word-clause-placed : goal.returns-then-not-is_word-clause-placed
returns-then-not-is_word-clause-placed g c = let h = c.in_ok-e.ensures.placed in
    bare_item_placed c.in_ok-e.e h.1 h.2 c.bare_item.ensures.item c.bare_item.ensures.next

pub returns-clause-placed : goal.returns-clause-placed
returns-clause-placed g c = let h = c.in_ok-e.ensures.placed in
    item_as_placed c.in_ok-e.e c.in_ok-target.target h.1 h.2 c.if-not-is_word.ensures c.in_ok-target.ensures.placed c.item_as.ensures.item
    c.item_as.ensures.next
