use Rattle.std.proofs.Common.{◌∙◌, codes}
use Rattle.pytree_dump_text.specs.Shows.{Fields, Row, a_field, no_shown, shown_module}
use Rattle.pytree_dump_text.specs.Blocks.{shown_block}
use Rattle.pytree_node.specs.TreeOf.{module_of}
use Rattle.pytree_marked.proofs.Callers.Counting.{taken}
use Rattle.pytree_dump.proofs.PlaceLemmas.{module_line, module_text, module_left, plain_ended, then_field}
use Rattle.pytree_dump.proofs.modules.dump_placed.Goals as goal

pub returns-clause-text : goal.returns-clause-text
returns-clause-text g c =
    let s = c.args.style in
    let body = c.deref-body.result.now in
    let F : Fields → Fields = λ rest. a_field (codes "body") (shown_block s.profile body)
    (a_field (codes "type_ignores") (Row no_shown) rest) in
    module_text s _ _ _ _ _ body c.args.tree.now.body.items c.deref-body.ensures.value c.new-out.ensures.bytes
    c.in_ok-indentation.ensures.ok
    (plain_ended s _ (codes "Module(") F _ c.in_ok-outer.ensures.indentation
    (module_line _ _ _ s.profile body c.is_short_module.ensures) c.in_ok-outer.ensures.text
    (then_field c.in_ok-told.ensures.text c.in_ok-told.ensures.indentation c.in_ok-show_any_field.ensures.text) c.in_ok-close.ensures.text)

pub returns-clause-left : goal.returns-clause-left
returns-clause-left g c =
    let s = c.args.style in
    let body = c.deref-body.result.now in
    let F : Fields → Fields = λ rest. a_field (codes "body") (shown_block s.profile body)
    (a_field (codes "type_ignores") (Row no_shown) rest) in
    module_left s _ _ _ _ _ body c.args.tree.now.body.items c.deref-body.ensures.value
    (plain_ended s _ (codes "Module(") F _ c.in_ok-outer.ensures.indentation
    (module_line _ _ _ s.profile body c.is_short_module.ensures) c.in_ok-outer.ensures.text
    (then_field c.in_ok-told.ensures.text c.in_ok-told.ensures.indentation c.in_ok-show_any_field.ensures.text) c.in_ok-close.ensures.text)
    ∙ taken (shown_module s.profile (module_of c.args.tree.now)) _
