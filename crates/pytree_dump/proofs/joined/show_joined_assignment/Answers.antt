use Rattle.std.proofs.Common.{◌≡◌, ◌∙◌, ◌++◌, [], ap, codes, map, true}
use Rattle.std.specs.String.{string_bytes}
use Rattle.pytree_node.specs.TreeOf.{tree_of}
use Rattle.pytree_dump_text.specs.Layout.{text}
use Rattle.pytree_dump_text.specs.Shows.{Row, a_field, left_out, no_field, shown, showns}
use Rattle.pytree_dump_text.proofs.Callers.Results.{where_pushed}
use Rattle.pytree_dump.proofs.JoinedLemmas.{assigned_text, joined_node, joined_style, left_of_none, none_left, text_of_none}
use Rattle.pytree_dump.proofs.joined.show_joined_assignment.Goals as goal

pub returns-clause-text : goal.returns-clause-text
returns-clause-text g c =
    let s = c.args.style in
    let f = string_bytes c.args.indentation.now in
    let ps = g.P.PlaceSource.left c.args.places.now in
    let none : ps ≡ [] = none_left _ _ c.requires in
    let x = Row (showns (map (λ e. shown (tree_of e)) c.args.targets.now)) in
    let y = shown (tree_of c.args.value.now) in
    let none1 = left_of_none _ _ x none c.in_ok-show_exprs.ensures.text.1 in
    where_pushed _ _ _ c.push_str-3.result
    (λ pushed. joined_node true s f _ _ ps _ (codes "Assign(")
    (a_field (codes "targets") x (a_field (codes "value") y (left_out no_field))) none
    (left_of_none _ _ y none1 c.in_ok-show_expr.ensures.text.1)
    (assigned_text s f x y _ _ _ _ _ _ (joined_style _ _ c.requires) c.in_ok-push_str.ensures.bytes
    (text_of_none s f _ _ ps x none c.in_ok-show_exprs.ensures.text.0) c.in_ok-push_str-2.ensures.bytes
    (text_of_none s (string_bytes c.show_exprs.new.indentation) _ _ (g.P.PlaceSource.left c.show_exprs.new.places) y none1
    c.in_ok-show_expr.ensures.text.0 ∙ ap (λ z. string_bytes c.push_str-2.new.self ++ text s z y) c.in_ok-show_exprs.ensures.indentation)
    pushed))
    c.push_str-3.ensures.bytes
