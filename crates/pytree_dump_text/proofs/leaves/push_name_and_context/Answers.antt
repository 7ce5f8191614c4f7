use Rattle.std.proofs.Common.{◌∙◌, ◌++◌, ap, sym, codes}
use Rattle.std.specs.Str.{chars}
use Rattle.std.specs.String.{string_bytes}
use Rattle.std.proofs.lemmas.Result.{on_ok_weaker}
use Rattle.pytree_dump_text.specs.Shows.{context_name}
use Rattle.pytree_dump_text.proofs.LeafLemmas.{plain_attribute, told_attribute}
use Rattle.pytree_dump_text.proofs.Callers.Results.{where_pushed}
use Rattle.pytree_dump_text.proofs.leaves.push_name_and_context.Goals as goal

pub returns-then-is_plain_text : goal.returns-then-is_plain_text
returns-then-is_plain_text c =
    on_ok_weaker c.push_context_end.result
    (plain_attribute c.args.text.now c.args.ctx _ _ _ _ (sym c.if-is_plain_text.ensures) c.in_ok-push_str.ensures.bytes
    c.in_ok-push_str-2.ensures.bytes)
    c.push_context_end.ensures

pub returns : goal.returns
returns c =
    where_pushed _ _ _ c.push_str-3.result
    (λ pushed. told_attribute (chars c.args.text.now) _ _ _ _ (codes ", attr=") (codes ", ctx=" ++ context_name c.args.ctx ++ codes "())")
    c.in_ok-push_str-3.ensures.bytes c.in_ok-push_repr.ensures.ok (pushed
    ∙ ap (λ z. string_bytes c.push_repr.new.out ++ z) c.context_end.ensures))
    c.push_str-3.ensures.bytes
