use Rattle.std.proofs.Common.{◌≡◌, ◌∙◌, ◌+◌, arith, refl, ap, sym, true, codes, map, if◌then◌else◌}
use Rattle.pytree_node.specs.declared.statements.ClassDef as given_class_def
use Rattle.pytree_node.specs.Profiles.{has_types}
use Rattle.pytree_node.specs.TreeOf.{class_def_of, keyword_of, tree_of, type_param_of}
use Rattle.pytree_node.proofs.Callers.StmtShapes.{class_def_shape}
use Rattle.pytree_dump_text.specs.Blocks.{listed, shown_block}
use Rattle.pytree_dump_text.specs.Layout.{shown_count}
use Rattle.pytree_dump_text.specs.Shows.{Fields, Node, Row, a_field, no_field, shown, shown_keyword, shown_name, shown_stmt}
use Rattle.pytree_dump_text.specs.Shows.{shown_type_param}
use Rattle.pytree_marked.proofs.Callers.Shortness.{four_or_more}
use Rattle.pytree_dump.specs.Inner.Branches.{branch_slot}
use Rattle.pytree_dump.proofs.BlockLemmas.{stmts_row}
use Rattle.pytree_dump.proofs.NodeLemmas.{long_node, six_counted}
use Rattle.pytree_dump.proofs.RowLemmas.{exprs_row, keywords_row, type_params_row}
use Rattle.pytree_dump.proofs.compounds.class_node.Goals as goal

pub returns : goal.returns
returns c =
    let p = c.args.style.profile in
    let o = given_class_def.out-ClassDef c.args.class.now in
    let last : Fields = if has_types p then
    a_field (codes "type_params") (listed (λ q. shown_type_param (type_param_of q)) c.deref-5.result.now) no_field else no_field in
    let fs : Fields = a_field (codes "name") (shown_name o.name)
    (a_field (codes "bases") (listed (λ e. shown (tree_of e)) c.deref.result.now)
    (a_field (codes "keywords") (listed (λ k. shown_keyword (keyword_of k)) c.deref-2.result.now)
    (a_field (codes "body") (shown_block p c.deref-3.result.now)
    (a_field (codes "decorator_list") (listed (λ e. shown (tree_of e)) c.deref-4.result.now) last)))) in
    let e : shown_stmt p (class_def_of c.args.class.now) ≡ Node (codes "ClassDef") fs =
    ap (shown_stmt p) (class_def_shape c.args.class.now)
    ∙ (λ i. Node (codes "ClassDef") (a_field (codes "name") (shown_name o.name)
    (a_field (codes "bases") (Row (exprs_row o.bases.items i)) (a_field (codes "keywords") (Row (keywords_row o.keywords.items i))
    (a_field (codes "body") (Row (stmts_row p o.body.items i)) (a_field (codes "decorator_list") (Row (exprs_row o.decorator_list.items i))
    (if has_types p then a_field (codes "type_params") (Row (type_params_row o.type_params.items i)) no_field else no_field)))))))
    ∙ (λ i. Node (codes "ClassDef") (a_field (codes "name") (shown_name o.name)
    (a_field (codes "bases") (listed (λ e. shown (tree_of e)) (sym c.deref.ensures.value i))
    (a_field (codes "keywords") (listed (λ k. shown_keyword (keyword_of k)) (sym c.deref-2.ensures.value i))
    (a_field (codes "body") (shown_block p (sym c.deref-3.ensures.value i))
    (a_field (codes "decorator_list") (listed (λ e. shown (tree_of e)) (sym c.deref-4.ensures.value i))
    (if has_types p then a_field (codes "type_params") (listed (λ q. shown_type_param (type_param_of q)) (sym c.deref-5.ensures.value i))
    no_field else no_field))))))) in
    rw e (long_node true c.args.style _ (codes "ClassDef(") fs (omega arith) refl refl
    (six_counted (branch_slot p) _ _ _ _ _ _ _ (has_types p) _ c.with_types.ensures.len) c.is_flat.ensures
    (four_or_more fs (shown_count last + 1) refl))
