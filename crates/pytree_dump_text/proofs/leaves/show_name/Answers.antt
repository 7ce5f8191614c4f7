use Rattle.std.proofs.Common.{◌∙◌, ◌++◌, ap}
use Rattle.std.specs.String.{string_bytes}
use Rattle.pysource.specs.Reprs.{repr_text}
use Rattle.pytree_dump_text.proofs.Callers.Results.{where_pushed}
use Rattle.pytree_dump_text.proofs.LeafLemmas.{name_text}
use Rattle.pytree_dump_text.proofs.leaves.show_name.Goals as goal

pub returns : goal.returns
returns c indentation =
    where_pushed _ _ _ c.push_str-2.result
    (name_text c.args.style indentation c.args.id.now c.args.ctx _ _ _ _ _ _ c.name_start.ensures c.context_end.ensures
    c.in_ok-push_str.ensures.bytes
    (c.in_ok-push_repr.ensures.ok ∙ ap (λ z. string_bytes c.push_str.new.self ++ repr_text z) c.as_str-text.ensures.characters))
    c.push_str-2.ensures.bytes
