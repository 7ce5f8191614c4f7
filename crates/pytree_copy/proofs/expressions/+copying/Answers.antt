use Rattle.std.proofs.Common.{◌≡◌, map, ap, subst, ◌∙◌, IfOk}
use Rattle.pytree_node.specs.declared.expressions.DictComp as given_dict_comp
use Rattle.pytree_node.specs.TreeOf.{arg_of, call_of, comprehension_of, dict_comp_of, keyword_of, option_of, tree_of}
use Rattle.pytree_copy.proofs.FieldLemmas.{same_arguments, same_call, same_dict_comp}
use Rattle.pytree_copy.proofs.expressions.+copying.Goals as goal

pub copy_arguments-returns : goal.copy_arguments-returns
copy_arguments-returns t c = same_arguments (record {
  posonlyargs = c.in_ok-copy_args.field-0;
  args = c.in_ok-copy_args-2.field-0;
  vararg = c.in_ok-copy_optional_arg.field-0;
  kwonlyargs = c.in_ok-copy_args-3.field-0;
  kw_defaults = c.in_ok-copy_optional_exprs.field-0;
  kwarg = c.in_ok-copy_optional_arg-2.field-0;
  defaults = c.in_ok-copy_exprs.field-0;
}) c.args.a.now
    (c.in_ok-copy_args.ensures ∙ ap (map arg_of) c.deref.ensures.value)
    (c.in_ok-copy_args-2.ensures ∙ ap (map arg_of) c.deref-2.ensures.value)
    c.in_ok-copy_optional_arg.ensures
    (c.in_ok-copy_args-3.ensures ∙ ap (map arg_of) c.deref-3.ensures.value)
    (c.in_ok-copy_optional_exprs.ensures ∙ ap (map option_of) c.deref-4.ensures.value)
    c.in_ok-copy_optional_arg-2.ensures
    (c.in_ok-copy_exprs.ensures ∙ ap (map tree_of) c.deref-5.ensures.value)

pub copy_call-returns : goal.copy_call-returns
copy_call-returns t c = ap call_of c.in_ok-new.ensures.ok
    ∙ same_call (record { func = c.in_ok-copy_expr.field-0; args = c.in_ok-copy_exprs.field-0; keywords = c.in_ok-copy_keywords.field-0 })
    c.args.call.now
    c.in_ok-copy_expr.ensures
    (c.in_ok-copy_exprs.ensures ∙ ap (map tree_of) c.deref.ensures.value)
    (c.in_ok-copy_keywords.ensures ∙ ap (map keyword_of) c.deref-2.ensures.value)

pub copy_dict_comp-returns : goal.copy_dict_comp-returns
copy_dict_comp-returns t c =
    let o = given_dict_comp.out-DictComp c.args.comp.now in
    ap dict_comp_of c.in_ok-new.ensures.ok
    ∙ same_dict_comp (record { key = c.in_ok-key.key; value = c.in_ok-key.value; generators = c.in_ok-generators.generators })
    c.args.comp.now
    (ap tree_of c.in_ok-key.ensures.first ∙ c.in_ok-copy_expr.ensures)
    (subst (λ r. IfOk r (λ made. tree_of made ≡ tree_of o.value)) c.in_ok-key.ensures.second c.copy_expr-2.ensures)
    (c.in_ok-generators.ensures ∙ ap (map comprehension_of) c.deref.ensures.value)
