use Rattle.std.proofs.Common.{refl, codes}
use Rattle.std.specs.String.{string_bytes}
use Rattle.pytree_node.specs.TreeOf.{constant_of}
use Rattle.pytree_dump_text.specs.Shows.{Fields, Scalar, a_field, kind_field, no_field, value_text}
use Rattle.pytree_marked.proofs.Callers.Shortness.{flat_line}
use Rattle.pytree_dump.proofs.JoinedLemmas.{on_both}
use Rattle.pytree_dump.proofs.PlaceLemmas.{field_appended, node_ended, then_field}
use Rattle.pytree_dump.proofs.leaves.show_placed_constant.Goals as goal

pub returns-clause-text : goal.returns-clause-text
returns-clause-text g c =
    let F : Fields → Fields = λ rest. a_field (codes "value") (Scalar (value_text (constant_of c.args.value.now)))
    (kind_field (constant_of c.args.value.now) rest) in
    on_both c.end_node.result
    (λ ended taken. node_ended c.args.style (string_bytes c.args.indentation.now) (codes "Constant(") F _
    c.in_ok-outer.ensures.indentation (flat_line _ _ _ (F no_field) c.requires c.is_flat.ensures) c.in_ok-outer.ensures.text
    (then_field
    (field_appended c.args.style _ _ _ _ _ _ _ _ (codes "value") (Scalar (value_text (constant_of c.args.value.now))) c.as_str.ensures.value
    c.in_ok-push_lead.ensures (c.in_ok-push_value.ensures, refl)) c.as_str-2.ensures.value
    (c.in_ok-told.ensures c.args.style (g.P.PlaceSource.left c.args.places.now)))
    refl ended taken)
    c.end_node.ensures.text c.end_node.ensures.left
