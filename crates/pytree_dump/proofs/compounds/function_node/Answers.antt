use Rattle.std.proofs.Common.{◌≡◌, ◌∙◌, arith, refl, ap, sym, true, codes, map, if◌then◌else◌}
use Rattle.pytree_node.specs.declared.statements.FunctionDef as given_function_def
use Rattle.pytree_node.specs.Profiles.{has_types}
use Rattle.pytree_node.specs.TreeOf.{arguments_of, boxed_of, function_def_of, tree_of, type_param_of}
use Rattle.pytree_node.proofs.Callers.StmtShapes.{function_def_shape}
use Rattle.pytree_dump_text.specs.Blocks.{listed, shown_block}
use Rattle.pytree_dump_text.specs.Layout.{shown_count}
use Rattle.pytree_dump_text.specs.Shows.{Fields, Row, a_field, expr_field, left_out, no_field, shown, shown_arguments, shown_name}
use Rattle.pytree_dump_text.specs.Shows.{shown_type_param, type_params_field}
use Rattle.pytree_marked.proofs.Callers.Shortness.{four_or_more}
use Rattle.pytree_dump.specs.Inner.Branches.{branch_slot}
use Rattle.pytree_dump.specs.Inner.Definitions.{function_def_fields}
use Rattle.pytree_dump.proofs.BlockLemmas.{stmts_row}
use Rattle.pytree_dump.proofs.NodeLemmas.{long_node, seven_counted}
use Rattle.pytree_dump.proofs.RowLemmas.{boxed_field, exprs_row, type_params_row}
use Rattle.pytree_dump.proofs.compounds.function_node.Goals as goal

pub returns : goal.returns
returns c =
    let p = c.args.style.profile in
    let def = function_def_of c.args.def.now in
    let o = given_function_def.out-FunctionDef c.args.def.now in
    let fs : Fields = function_def_fields p def in
    let last : Fields = left_out (if has_types p then
    a_field (codes "type_params") (listed (λ q. shown_type_param (type_param_of q)) c.deref-4.result.now) no_field else no_field) in
    let led : Fields → Fields = λ rest. a_field (codes "name") (shown_name o.name)
    (a_field (codes "args") (shown_arguments (arguments_of c.deref.result.now)) (a_field (codes "body") (shown_block p c.deref-2.result.now)
    (a_field (codes "decorator_list") (listed (λ e. shown (tree_of e)) c.deref-3.result.now) rest))) in
    let e : fs ≡ led (expr_field (codes "returns") (boxed_of o.returns) last) =
    ap (function_def_fields p) (function_def_shape c.args.def.now)
    ∙ (λ i. a_field (codes "name") (shown_name o.name) (a_field (codes "args") (shown_arguments (arguments_of (sym c.deref.ensures i)))
    (a_field (codes "body") (Row (stmts_row p o.body.items i)) (a_field (codes "decorator_list") (Row (exprs_row o.decorator_list.items i))
    (expr_field (codes "returns") (boxed_of o.returns) (left_out (if has_types p then
    a_field (codes "type_params") (Row (type_params_row o.type_params.items i)) no_field else no_field)))))))
    ∙ (λ i. a_field (codes "name") (shown_name o.name) (a_field (codes "args") (shown_arguments (arguments_of c.deref.result.now))
    (a_field (codes "body") (shown_block p (sym c.deref-2.ensures.value i))
    (a_field (codes "decorator_list") (listed (λ e. shown (tree_of e)) (sym c.deref-3.ensures.value i))
    (expr_field (codes "returns") (boxed_of o.returns) (left_out (if has_types p then
    a_field (codes "type_params") (listed (λ q. shown_type_param (type_param_of q)) (sym c.deref-4.ensures.value i)) no_field
    else no_field))))))) in
    long_node true c.args.style _ c.args.class.now fs (omega arith) refl refl
    (seven_counted (branch_slot p) _ _ _ _ _ _ _ (has_types p) _ c.with_types.ensures.len
    ∙ ap led (c.boxed_part.ensures last ∙ boxed_field (codes "returns") (boxed_of o.returns) last) ∙ sym e) c.is_flat.ensures
    (four_or_more fs (shown_count (expr_field (codes "returns") def.returns (left_out (type_params_field p def.type_params)))) refl)
