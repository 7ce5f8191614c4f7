use Rattle.pytree_dump_text.proofs.Callers.Results.{where_pushed}
use Rattle.pytree_dump_text.proofs.LeafLemmas.{constant_text}
use Rattle.pytree_dump_text.proofs.leaves.show_constant.Goals as goal

pub returns : goal.returns
returns c indentation = where_pushed _ _ _ c.push_str-2.result (constant_text c.args.style indentation _ _ _ _ _ _ _
    c.constant_start.ensures c.constant_end.ensures c.in_ok-push_str.ensures.bytes c.in_ok-push_value.ensures) c.push_str-2.ensures.bytes
