use Rattle.std.proofs.Common.{◌≡◌, ◌∙◌, ◌++◌, [], ap, codes, true}
use Rattle.std.specs.String.{string_bytes}
use Rattle.pytree_node.specs.TreeOf.{tree_of}
use Rattle.pytree_dump_text.specs.Shows.{a_field, no_field, shown}
use Rattle.pytree_dump_text.proofs.Callers.Results.{where_pushed}
use Rattle.pytree_dump.proofs.JoinedLemmas.{joined_node, joined_style, left_of_none, none_left, text_of_none, value_text}
use Rattle.pytree_dump.proofs.joined.show_joined_value.Goals as goal

pub returns-clause-text : goal.returns-clause-text
returns-clause-text g c = λ class begins.
    let s = c.args.style in
    let f = string_bytes c.args.indentation.now in
    let ps = g.P.PlaceSource.left c.args.places.now in
    let none : ps ≡ [] = none_left _ _ c.requires in
    let x = shown (tree_of c.args.e.now) in
    where_pushed _ _ _ c.push_str-2.result
    (λ pushed. joined_node true s f _ _ ps _ class (a_field (codes "value") x no_field) none
    (left_of_none _ _ x none c.in_ok-show_expr.ensures.text.1)
    (value_text s f class (codes "value") x _ _ _ _ (joined_style _ _ c.requires)
    (c.in_ok-push_str.ensures.bytes ∙ ap (λ z. string_bytes c.args.out.now ++ z) begins)
    (text_of_none s f _ _ ps x none c.in_ok-show_expr.ensures.text.0) pushed))
    c.push_str-2.ensures.bytes
