use Rattle.std.proofs.Common.{◌∙◌, ◌++◌, ap, refl, codes}
use Rattle.std.specs.String.{string_bytes}
use Rattle.pysource.specs.Reprs.{repr_text}
use Rattle.pytree_dump_text.specs.Shows.{Fields, a_field, context_name, no_field, shown_name, word}
use Rattle.pytree_marked.proofs.Callers.Shortness.{flat_line}
use Rattle.pytree_marked.proofs.Callers.Unplaced.{context_unplaced}
use Rattle.pytree_dump.proofs.JoinedLemmas.{on_both, word_text}
use Rattle.pytree_dump.proofs.PlaceLemmas.{bare_appended, field_appended, node_ended, then_field}
use Rattle.pytree_dump.proofs.leaves.show_placed_name.Goals as goal

pub returns-clause-text : goal.returns-clause-text
returns-clause-text g c =
    let F : Fields → Fields = λ rest. a_field (codes "id") (shown_name c.args.id.now)
    (a_field (codes "ctx") (word (context_name c.args.ctx)) rest) in
    on_both c.end_node.result
    (λ ended taken. node_ended c.args.style (string_bytes c.args.indentation.now) (codes "Name(") F _
    c.in_ok-outer.ensures.indentation (flat_line _ _ _ (F no_field) c.requires c.is_flat.ensures) c.in_ok-outer.ensures.text
    (then_field
    (field_appended c.args.style _ _ _ _ _ _ _ _ (codes "id") (shown_name c.args.id.now) c.as_str.ensures.value c.in_ok-push_lead.ensures
    (c.in_ok-push_repr.ensures.ok ∙ ap (λ z. string_bytes c.push_lead.new.out ++ repr_text z) c.as_str-2.ensures.characters, refl)) refl
    (field_appended c.args.style _ _ _ _ _ _ _ _ (codes "ctx") (word (context_name c.args.ctx)) c.as_str-3.ensures.value
    c.in_ok-push_lead-2.ensures
    (bare_appended c.args.style (string_bytes c.open.new.indentation) _ _ (word (context_name c.args.ctx))
    (g.P.PlaceSource.left c.args.places.now) (context_unplaced c.args.ctx (g.P.PlaceSource.left c.args.places.now))
    (c.in_ok-push_str.ensures.bytes ∙ ap (λ z. string_bytes c.push_lead-2.new.out ++ z)
    (c.context_word.ensures ∙ word_text (context_name c.args.ctx) c.args.style (string_bytes c.open.new.indentation))))))
    refl ended taken)
    c.end_node.ensures.text c.end_node.ensures.left
