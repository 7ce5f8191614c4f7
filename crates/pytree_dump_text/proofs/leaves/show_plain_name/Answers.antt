use Rattle.pytree_dump_text.proofs.LeafLemmas.{plain_name}
use Rattle.pytree_dump_text.proofs.leaves.show_plain_name.Goals as goal
use Rattle.std.proofs.lemmas.Result.{on_ok_weaker}

pub returns : goal.returns
returns c = on_ok_weaker c.push_context_end.result (plain_name c.args.text.now c.args.ctx _ _ _ _ c.requires c.in_ok-push_str.ensures.bytes
    c.in_ok-push_str-2.ensures.bytes) c.push_context_end.ensures
