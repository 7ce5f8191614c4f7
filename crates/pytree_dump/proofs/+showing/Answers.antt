use Rattle.std.proofs.Common.{◌≡◌, ◌≤◌, take, drop, ◌+◌, ◌++◌, ◌||◌, OnOk, [], arith, refl, ap, sym, subst, map, codes, ◌∙◌, true, false}
use Rattle.pytree_dump_text.specs.Shows.{a_shown, left_out}
use Rattle.pytree_node.proofs.Callers.ExprShapes.{arg_tree}
use Rattle.pytree_node.specs.declared.expressions.Arg as given_arg
use Rattle.pytree_dump_text.specs.Slots.{slot_shown}
use Rattle.pytree_dump.specs.Inner.Weights.{weights, slot_weight}
use Rattle.pytree_marked.specs.Appends.{AppendsNode, coming_with}
use Rattle.pytree_marked.specs.MarkedNodes.{closed, fields_with}
use Rattle.pytree_dump.specs.Inner.Nodes.{ContentOf, any_slot, element_shown, elements_shown, fields_of, node_fields, option_shown, sketch}
use Rattle.pytree_dump.proofs.ArgumentsLemmas.{arguments_weight}
use Rattle.pytree_dump.proofs.PlaceLemmas.{absent_appended}
use Rattle.pytree_dump.proofs.NodeLemmas.{bare_ended, field_left, field_passed, laid_shown, list_ended, marked_ended, next_appended}
use Rattle.pytree_dump.proofs.NodeLemmas.{next_left}
use Rattle.pytree_dump.proofs.NodeLemmas.{node_weight, none_appended, part_weight, shown_on_ok}
use Rattle.std.specs.String.{string_bytes}
use Rattle.pytree_node.specs.Trees.{exprs, keywords, optional}
use Rattle.pytree_node.specs.TreeOf.{tree_of, option_of, keyword_of, arg_of, arguments_of}
use Rattle.pytree_node.specs.TreeOf.{call_of}
use Rattle.pytree_dump_text.specs.Layout.{text, before, is_flat, is_short}
use Rattle.pytree_dump_text.specs.Shows.{Fields, Shown, a_field, context_name}
use Rattle.pytree_dump_text.specs.Shows.{shown, shown_name, shown_optional, shown_keyword, shown_arg, shown_arguments}
use Rattle.pytree_dump_text.specs.Shows.{word, showns, Row, no_field}
use Rattle.pytree_dump_text.specs.Shows.{shown_exprs, shown_keywords, Node}
use Rattle.pytree_dump_text.specs.Slots.{slot_of, with_slot}
use Rattle.pytree_dump.specs.Inner.Weights.{weight, field_weights}
use Rattle.pytree_dump.proofs.JoinedLemmas.{attribute_text, empty_appended, empty_row, joined_node, last_text, three_text}
use Rattle.pytree_dump.proofs.JoinedLemmas.{joined_style, left_of_none, none_is, none_left, on_always, on_both, text_of_none}
use Rattle.std.proofs.lemmas.Result.{on_ok_weaker}
use Rattle.pytree_dump_text.proofs.Callers.Results.{where_pushed}
use Rattle.pytree_dump.proofs.ArgumentsLemmas.{five_shown, arguments_shown}
use Rattle.pytree_dump.proofs.RowLemmas.{slot_weighs, member_weight, exprs_row, keywords_row}
use Rattle.pytree_dump.proofs.RowLemmas.{weighs}
use Rattle.pytree_dump.proofs.TextLemmas.{left}
use Rattle.pytree_dump.proofs.PlaceLemmas.{member_appended, member_left, node_ended, plain_appended, plain_ended, row_ended}
use Rattle.pytree_dump.proofs.PlaceLemmas.{slot_absent, slot_appended, then_field, shown_on}
use Rattle.pytree_dump.proofs.PlaceLemmas.{shown_as}
use Rattle.pytree_marked.specs.Appends.{Appends}
use Rattle.pytree_marked.specs.Taking.{is_none_left}
use Rattle.pytree_marked.proofs.Callers.Shortness.{long_line, marked_line}
use Rattle.pytree_marked.proofs.Callers.Unplaced.{comparisons_unplaced, names_unplaced}
use Rattle.pytree_node.proofs.Callers.ExprShapes.{call_tree}
use Rattle.pytree_node.proofs.Callers.ExprShapes.{constant_tree, name_tree}
use Rattle.pytree_node.proofs.Callers.ExprShapes.{attribute_tree}
use Rattle.pytree_node.proofs.Callers.ExprShapes.{call_shape}
use Rattle.pytree_node.specs.declared.expressions.Call as given_call
use Rattle.pytree_dump.proofs.+showing.Goals as goal

pub joined::show_joined_attribute-returns-clause-text : goal.joined::show_joined_attribute-returns-clause-text
joined::show_joined_attribute-returns-clause-text g t c = let none : g.P.PlaceSource.left c.args.places.now ≡ [] =
    none_left _ _ c.requires in
    let value : Shown = shown (tree_of c.args.value.now) in
    let fs : Fields = a_field (codes "value") value (a_field (codes "attr") (shown_name c.args.attr.now)
    (a_field (codes "ctx") (word (context_name c.args.ctx)) no_field)) in
    on_ok_weaker c.push_name_and_context.result
    (λ pushed. joined_node true c.args.style (string_bytes c.args.indentation.now) _ _ (g.P.PlaceSource.left c.args.places.now) _
    (codes "Attribute(") fs none (left_of_none _ _ value none c.in_ok-show_expr.ensures.text.1)
    (attribute_text c.args.style (string_bytes c.args.indentation.now) c.args.attr.now _ value c.args.ctx _ _ _ _
    (joined_style _ _ c.requires) c.as_str.ensures.characters
    c.in_ok-push_str.ensures.bytes (text_of_none c.args.style (string_bytes c.args.indentation.now) _ _
    (g.P.PlaceSource.left c.args.places.now)
    value none c.in_ok-show_expr.ensures.text.0) pushed))
    c.push_name_and_context.ensures

pub joined::show_joined_attribute-show_expr-requires : goal.joined::show_joined_attribute-show_expr-requires
joined::show_joined_attribute-show_expr-requires g t c = (λ κs l. (omega arith, l))

pub joined::show_joined_keywords-returns-then-is_empty-clause-text : goal.joined::show_joined_keywords-returns-then-is_empty-clause-text
joined::show_joined_keywords-returns-then-is_empty-clause-text g t c = where_pushed _ _ _ c.push_str.result
    (λ pushed. pushed ∙ ap (λ z. string_bytes c.args.out.now ++ (codes ", keywords=" ++ z ++ codes ")"))
    (sym (empty_row (λ k. shown_keyword (keyword_of k)) c.args.keywords.now c.args.style (string_bytes c.args.indentation.now)
    (sym c.if-is_empty.ensures))))
    c.push_str.ensures.bytes

pub joined::show_joined_keywords-returns-clause-text : goal.joined::show_joined_keywords-returns-clause-text
joined::show_joined_keywords-returns-clause-text g t c = let none : g.P.PlaceSource.left c.args.places.now ≡ [] = none_is _ c.requires in
    let row : Shown = Row (showns (map (λ k. shown_keyword (keyword_of k)) c.args.keywords.now)) in
    where_pushed _ _ _ c.push_str-3.result
    (last_text _ _ _ _ (codes ", keywords=") _ c.in_ok-push_str.ensures.bytes
    (text_of_none c.args.style (string_bytes c.args.indentation.now) _ _
    (g.P.PlaceSource.left c.args.places.now) row none c.in_ok-show_elements.ensures.text.0))
    c.push_str-3.ensures.bytes

pub joined::show_joined_keywords-show_elements-requires : goal.joined::show_joined_keywords-show_elements-requires
joined::show_joined_keywords-show_elements-requires g t c = (λ κs l. (omega arith, l))

pub joined::show_joined_keywords-returns-clause-left : goal.joined::show_joined_keywords-returns-clause-left
joined::show_joined_keywords-returns-clause-left g t c =
    on_always c.push_str-3.result (left_of_none _ _ (Row (showns (map (λ k. shown_keyword (keyword_of k)) c.args.keywords.now)))
    (none_is _ c.requires) c.in_ok-show_elements.ensures.text.1)

pub joined::show_joined_keywords-returns-then-is_empty-clause-left : goal.joined::show_joined_keywords-returns-then-is_empty-clause-left
joined::show_joined_keywords-returns-then-is_empty-clause-left g t c = on_always c.push_str.result (none_is _ c.requires)

pub joined::show_joined_call-returns-clause-text : goal.joined::show_joined_call-returns-clause-text
joined::show_joined_call-returns-clause-text g t c = let none : g.P.PlaceSource.left c.args.places.now ≡ [] = none_left _ _ c.requires in
    let func : Shown = shown (tree_of (given_call.out-Call c.args.call.now).func) in
    let args : Shown = Row (showns (map (λ e. shown (tree_of e)) c.deref.result.now)) in
    let words : Shown = Row (showns (map (λ k. shown_keyword (keyword_of k)) c.deref-2.result.now)) in
    let fs : Fields = a_field (codes "func") func (a_field (codes "args") args (a_field (codes "keywords") words no_field)) in
    let none1 = left_of_none _ _ func none c.in_ok-show_expr.ensures.text.1 in
    let e : shown (call_of c.args.call.now) ≡ Node (codes "Call") fs =
    rw (
      call_shape,
      exprs_row (given_call.out-Call c.args.call.now).args.items,
      keywords_row (given_call.out-Call c.args.call.now).keywords.items,
      sym c.deref.ensures.value,
      sym c.deref-2.ensures.value,
    ) refl in
    shown_on c.args.style (string_bytes c.args.indentation.now) (string_bytes c.args.out.now) _
    (g.P.PlaceSource.left c.args.places.now) _ c.show_joined_keywords.result _ _ (sym e)
    (on_both c.show_joined_keywords.result
    (λ ended last. joined_node true c.args.style (string_bytes c.args.indentation.now) _ _ (g.P.PlaceSource.left c.args.places.now) _
    (codes "Call(") fs none last
    (three_text c.args.style (string_bytes c.args.indentation.now) (codes "Call(") (codes "func") (codes "args") (codes "keywords")
    func args words _ _ _ _ _ _ (joined_style _ _ c.requires)
    c.in_ok-push_str.ensures.bytes (text_of_none c.args.style (string_bytes c.args.indentation.now) _ _
    (g.P.PlaceSource.left c.args.places.now)
    func none c.in_ok-show_expr.ensures.text.0) c.in_ok-push_str-2.ensures.bytes
    (text_of_none c.args.style (string_bytes c.show_expr.new.indentation) _ _ (g.P.PlaceSource.left c.show_expr.new.places) args none1
    c.in_ok-show_exprs.ensures.text.0 ∙ ap (λ z. string_bytes c.push_str-2.new.self ++ text c.args.style z args)
    c.in_ok-show_expr.ensures.indentation)
    (ended ∙ ap (λ z. string_bytes c.show_exprs.new.out ++ (codes ", keywords=" ++ text c.args.style z words ++ codes ")"))
    (c.in_ok-show_exprs.ensures.indentation ∙ c.in_ok-show_expr.ensures.indentation))))
    c.show_joined_keywords.ensures.text c.show_joined_keywords.ensures.left)

pub joined::show_joined_call-show_expr-requires : goal.joined::show_joined_call-show_expr-requires
joined::show_joined_call-show_expr-requires g t c = let e : weight (shown (call_of c.args.call.now)) ≡ weight
    (shown (tree_of (given_call.out-Call c.args.call.now).func)) +
    (weight (Row (shown_exprs (exprs (map tree_of (given_call.out-Call c.args.call.now).args.items)))) +
    (weight (Row (shown_keywords (keywords (map keyword_of (given_call.out-Call c.args.call.now).keywords.items)))) + 0)) + 1 =
    rw call_shape refl in (λ κs l. (omega (arith, e), l))

pub joined::show_joined_call-show_exprs-requires : goal.joined::show_joined_call-show_exprs-requires
joined::show_joined_call-show_exprs-requires g t c = let e : weight (shown (call_of c.args.call.now)) ≡ weight
    (shown (tree_of (given_call.out-Call c.args.call.now).func)) +
    (weight (Row (showns (map (λ e. shown (tree_of e)) c.deref.result.now))) +
    (weight (Row (shown_keywords (keywords (map keyword_of (given_call.out-Call c.args.call.now).keywords.items)))) + 0)) + 1 =
    rw (call_shape, exprs_row (given_call.out-Call c.args.call.now).args.items, sym c.deref.ensures.value) refl in
    (λ κs l. (omega (arith, e), l))

pub joined::show_joined_call-show_joined_keywords-requires : goal.joined::show_joined_call-show_joined_keywords-requires
joined::show_joined_call-show_joined_keywords-requires g t c = let none1 =
    left_of_none _ _ (shown (tree_of (given_call.out-Call c.args.call.now).func)) (none_left _ _ c.requires)
    c.in_ok-show_expr.ensures.text.1 in
    let none2 = left_of_none _ _ (Row (showns (map (λ e. shown (tree_of e)) c.deref.result.now))) none1 c.in_ok-show_exprs.ensures.text.1 in
    let e : weight (shown (call_of c.args.call.now)) ≡ weight (shown (tree_of (given_call.out-Call c.args.call.now).func)) +
    (weight (Row (showns (map (λ e. shown (tree_of e)) c.deref.result.now))) +
    (weight (Row (showns (map (λ k. shown_keyword (keyword_of k)) c.deref-2.result.now))) + 0)) + 1 =
    rw (
      call_shape,
      exprs_row (given_call.out-Call c.args.call.now).args.items,
      keywords_row (given_call.out-Call c.args.call.now).keywords.items,
      sym c.deref.ensures.value,
      sym c.deref-2.ensures.value,
    ) refl in
    (λ κs l. (omega (arith, e), (l, ap is_none_left none2)))

pub parameters::show_args-show_arg-requires : goal.parameters::show_args-show_arg-requires
parameters::show_args-show_arg-requires g t c = let h : _ =
    member_weight (λ a. shown_arg (arg_of a)) _ _ _ c.loop-a-test.true c.a-item.is in
    (λ κs l. (omega (arith, h), l))

pub parameters::show_args-loop-a-preserved : goal.parameters::show_args-loop-a-preserved
parameters::show_args-loop-a-preserved g t c = record {
  text =
      let e1 : string_bytes c.push_before.new.out ≡ string_bytes c.loop-a.out ++ before (is_flat c.args.style.indent)
      (string_bytes c.loop-a.indentation) c.loop-a.first =
      c.in_ok-push_before.ensures
      ∙ (λ i. string_bytes c.loop-a.out ++ before (c.is_flat.ensures i) (c.as_str.ensures.value i) c.loop-a.first) in
      member_appended (λ a. shown_arg (arg_of a)) _ c.args.style _ _ _ c.loop-a-test.true c.a-item.is
      c.loop-a.invariant.indentation c.loop-a.invariant.text
      e1 c.in_ok-show_arg.ensures.text;
  left = member_left (λ a. shown_arg (arg_of a)) _ _ c.loop-a-test.true c.a-item.is c.loop-a.invariant.left
      c.in_ok-show_arg.ensures.text.1;
  indentation = c.in_ok-show_arg.ensures.indentation ∙ c.loop-a.invariant.indentation;
}

pub parameters::show_args-returns-clause-text : goal.parameters::show_args-returns-clause-text
parameters::show_args-returns-clause-text g t c = row_ended (λ a. shown_arg (arg_of a)) c.args.all.now c.args.style _ _
    _ _ _ c.loop-a-test.false
    c.in_ok-outer.ensures.indentation c.in_ok-outer.ensures.text
    c.loop-a.invariant.text c.loop-a.invariant.left c.in_ok-close.ensures.text

pub parameters::show_args-returns-then-is_empty-clause-text : goal.parameters::show_args-returns-then-is_empty-clause-text
parameters::show_args-returns-then-is_empty-clause-text g t c = empty_appended (λ a. shown_arg (arg_of a)) c.args.all.now c.args.style
    (string_bytes c.args.indentation.now) _ _ (g.P.PlaceSource.left c.args.places.now) c.push_str.result (sym c.if-is_empty.ensures)
    c.push_str.ensures.bytes

pub showing::show_exprs-show_expr-requires : goal.showing::show_exprs-show_expr-requires
showing::show_exprs-show_expr-requires g t c = let h : _ = member_weight (λ e. shown (tree_of e)) _ _ _ c.loop-e-test.true c.e-item.is in
    (λ κs l. (omega (arith, h), l))

pub showing::show_exprs-loop-e-preserved : goal.showing::show_exprs-loop-e-preserved
showing::show_exprs-loop-e-preserved g t c = record {
  text =
      let e1 : string_bytes c.push_before.new.out ≡ string_bytes c.loop-e.out ++ before (is_flat c.args.style.indent)
      (string_bytes c.loop-e.indentation) c.loop-e.first =
      c.in_ok-push_before.ensures
      ∙ (λ i. string_bytes c.loop-e.out ++ before (c.is_flat.ensures i) (c.as_str.ensures.value i) c.loop-e.first) in
      member_appended (λ e. shown (tree_of e)) _ c.args.style _ _ _ c.loop-e-test.true c.e-item.is
      c.loop-e.invariant.indentation c.loop-e.invariant.text
      e1 c.in_ok-show_expr.ensures.text;
  left = member_left (λ e. shown (tree_of e)) _ _ c.loop-e-test.true c.e-item.is c.loop-e.invariant.left
      c.in_ok-show_expr.ensures.text.1;
  indentation = c.in_ok-show_expr.ensures.indentation ∙ c.loop-e.invariant.indentation;
}

pub showing::show_exprs-returns-clause-text : goal.showing::show_exprs-returns-clause-text
showing::show_exprs-returns-clause-text g t c = row_ended (λ e. shown (tree_of e)) c.args.es.now c.args.style _ _ _ _ _ c.loop-e-test.false
    c.in_ok-outer.ensures.indentation
    c.in_ok-outer.ensures.text
    c.loop-e.invariant.text c.loop-e.invariant.left c.in_ok-close.ensures.text

pub showing::show_exprs-returns-then-is_empty-clause-text : goal.showing::show_exprs-returns-then-is_empty-clause-text
showing::show_exprs-returns-then-is_empty-clause-text g t c = empty_appended (λ e. shown (tree_of e)) c.args.es.now c.args.style
    (string_bytes c.args.indentation.now) _ _ (g.P.PlaceSource.left c.args.places.now) c.push_str.result (sym c.if-is_empty.ensures)
    c.push_str.ensures.bytes

pub parameters::show_arg-show_any_field-requires : goal.parameters::show_arg-show_any_field-requires
parameters::show_arg-show_any_field-requires g t c =
    let e : shown_arg (arg_of c.args.a.now) ≡ Node (codes "arg") (a_field (codes "arg") (shown_name (given_arg.out-Arg c.args.a.now).arg)
    (with_slot (slot_of c.boxed_part-annotation.result) (left_out no_field))) =
    rw (arg_tree, sym (c.boxed_part-annotation.ensures (left_out no_field))) refl in
    let w = ap weight e in
    let h = slot_weighs (slot_of c.boxed_part-annotation.result) (left_out no_field) in (λ κs l. (omega (arith, w, h), l))

pub parameters::show_arg-show_any_field-requires-2 : goal.parameters::show_arg-show_any_field-requires-2
parameters::show_arg-show_any_field-requires-2 g t c =
    let e : shown_arg (arg_of c.args.a.now) ≡ Node (codes "arg") (a_field (codes "arg") (shown_name (given_arg.out-Arg c.args.a.now).arg)
    (with_slot (slot_of c.boxed_part-annotation.result) (left_out no_field))) =
    rw (arg_tree, sym (c.boxed_part-annotation.ensures (left_out no_field))) refl in
    let w = ap weight e in
    let h = slot_weighs (slot_of c.boxed_part-annotation.result) (left_out no_field) in (λ κs l. (omega (arith, w, h), l))

pub parameters::show_arg-returns-clause-text : goal.parameters::show_arg-returns-clause-text
parameters::show_arg-returns-clause-text g t c =
    let e : shown_arg (arg_of c.args.a.now) ≡ Node (codes "arg") (a_field (codes "arg") (shown_name (given_arg.out-Arg c.args.a.now).arg)
    (with_slot (slot_of c.boxed_part-annotation.result) (left_out no_field))) =
    rw (arg_tree, sym (c.boxed_part-annotation.ensures (left_out no_field))) refl in
    let F : Fields → Fields = λ rest. a_field (codes "arg") (shown_name (given_arg.out-Arg c.args.a.now).arg)
    (with_slot (slot_of c.boxed_part-annotation.result) (left_out rest)) in
    shown_as c.args.style (string_bytes c.args.indentation.now) (string_bytes c.args.out.now) (string_bytes c.end_node.new.out)
    (g.P.PlaceSource.left c.args.places.now) (g.P.PlaceSource.left c.end_node.new.places) (Node (codes "arg") (F no_field))
    (shown_arg (arg_of c.args.a.now)) (sym e)
    (node_ended c.args.style (string_bytes c.args.indentation.now) (codes "arg(") F (string_bytes c.args.out.now) {ps =
    (g.P.PlaceSource.left c.args.places.now)} c.in_ok-outer.ensures.indentation
    (marked_line _ _ _ _ (F no_field) c.is_told_on_line.ensures c.is_short_three.ensures) c.in_ok-outer.ensures.text
    (then_field c.in_ok-told.ensures.text c.in_ok-told.ensures.indentation
    (then_field c.in_ok-told-2.ensures.text c.in_ok-told-2.ensures.indentation
    (absent_appended c.args.style _ _ _ _ _ c.after_left_out-told.ensures)))
    (c.in_ok-told-2.ensures.indentation ∙ c.in_ok-told.ensures.indentation) c.in_ok-end_node.ensures.text c.in_ok-end_node.ensures.left)

pub parameters::show_arguments-returns-clause-text : goal.parameters::show_arguments-returns-clause-text
parameters::show_arguments-returns-clause-text g t c =
    let e = arguments_shown c.args.a.now _ _ _ _ _ (slot_of c.arg_part.result) (slot_of c.arg_part-2.result)
    c.deref.ensures.value c.deref-2.ensures.value c.arg_part.ensures c.deref-3.ensures.value c.deref-4.ensures.value c.arg_part-2.ensures
    c.deref-5.ensures.value in
    let F : Fields → Fields = λ rest. a_field (codes "posonlyargs") (Row (showns (map (λ a. shown_arg (arg_of a)) c.deref.result.now)))
    (a_field (codes "args") (Row (showns (map (λ a. shown_arg (arg_of a)) c.deref-2.result.now)))
    (with_slot (slot_of c.arg_part.result)
    (a_field (codes "kwonlyargs") (Row (showns (map (λ a. shown_arg (arg_of a)) c.deref-3.result.now)))
    (a_field (codes "kw_defaults") (Row (showns (map (λ e. shown_optional (optional (option_of e))) c.deref-4.result.now)))
    (with_slot (slot_of c.arg_part-2.result)
    (a_field (codes "defaults") (Row (showns (map (λ e. shown (tree_of e)) c.deref-5.result.now))) rest)))))) in
    shown_as c.args.style (string_bytes c.args.indentation.now) (string_bytes c.args.out.now) (string_bytes c.close.new.out)
    (g.P.PlaceSource.left c.args.places.now) (g.P.PlaceSource.left c.show_any_field-7.new.places) (Node (codes "arguments") (F no_field))
    (shown_arguments (arguments_of c.args.a.now)) (sym e)
    (plain_ended c.args.style (string_bytes c.args.indentation.now) (codes "arguments(") F (string_bytes c.args.out.now) {ps =
    (g.P.PlaceSource.left c.args.places.now)}
    c.in_ok-outer.ensures.indentation (c.is_flat.ensures ∙ long_line false _ (g.P.PlaceSource.left c.args.places.now) (F no_field)
    (five_shown (codes "posonlyargs") (codes "args") (codes "kwonlyargs") (codes "kw_defaults") (codes "defaults")
    (Row (showns (map (λ a. shown_arg (arg_of a)) c.deref.result.now)))
    (Row (showns (map (λ a. shown_arg (arg_of a)) c.deref-2.result.now)))
    (Row (showns (map (λ a. shown_arg (arg_of a)) c.deref-3.result.now)))
    (Row (showns (map (λ e. shown_optional (optional (option_of e))) c.deref-4.result.now)))
    (Row (showns (map (λ e. shown (tree_of e)) c.deref-5.result.now)))
    (slot_of c.arg_part.result) (slot_of c.arg_part-2.result))) c.in_ok-outer.ensures.text
    (then_field c.in_ok-told.ensures.text c.in_ok-told.ensures.indentation
    (then_field c.in_ok-told-2.ensures.text c.in_ok-told-2.ensures.indentation
    (then_field c.in_ok-told-3.ensures.text c.in_ok-told-3.ensures.indentation
    (then_field c.in_ok-told-4.ensures.text c.in_ok-told-4.ensures.indentation
    (then_field c.in_ok-told-5.ensures.text c.in_ok-told-5.ensures.indentation
    (then_field c.in_ok-told-6.ensures.text c.in_ok-told-6.ensures.indentation c.in_ok-show_any_field.ensures.text))))))
    c.in_ok-close.ensures.text)

pub parameters::show_arguments-returns-clause-indentation : goal.parameters::show_arguments-returns-clause-indentation
parameters::show_arguments-returns-clause-indentation g t c =
    left c.args.style.indent _ _ _ _ c.in_ok-outer.ensures.len
    (c.in_ok-show_any_field.ensures.indentation ∙ c.in_ok-told-6.ensures.indentation ∙ c.in_ok-told-5.ensures.indentation
    ∙ c.in_ok-told-4.ensures.indentation ∙ c.in_ok-told-3.ensures.indentation ∙ c.in_ok-told-2.ensures.indentation
    ∙ c.in_ok-told.ensures.indentation ∙ c.in_ok-outer.ensures.indentation) c.close.ensures.indentation

pub parameters::show_arguments-show_any_field-requires : goal.parameters::show_arguments-show_any_field-requires
parameters::show_arguments-show_any_field-requires g t c =
    let w = arguments_weight c.args.a.now _ _ _ _ _ (slot_of c.arg_part.result) (slot_of c.arg_part-2.result)
    c.deref.ensures.value c.deref-2.ensures.value c.arg_part.ensures c.deref-3.ensures.value c.deref-4.ensures.value c.arg_part-2.ensures
    c.deref-5.ensures.value in (λ κs l. (omega (arith, w), l))

pub parameters::show_arguments-show_any_field-requires-2 : goal.parameters::show_arguments-show_any_field-requires-2
parameters::show_arguments-show_any_field-requires-2 g t c =
    let w = arguments_weight c.args.a.now _ _ _ _ _ (slot_of c.arg_part.result) (slot_of c.arg_part-2.result)
    c.deref.ensures.value c.deref-2.ensures.value c.arg_part.ensures c.deref-3.ensures.value c.deref-4.ensures.value c.arg_part-2.ensures
    c.deref-5.ensures.value in (λ κs l. (omega (arith, w), l))

pub parameters::show_arguments-show_any_field-requires-3 : goal.parameters::show_arguments-show_any_field-requires-3
parameters::show_arguments-show_any_field-requires-3 g t c =
    let w = arguments_weight c.args.a.now _ _ _ _ _ (slot_of c.arg_part.result) (slot_of c.arg_part-2.result)
    c.deref.ensures.value c.deref-2.ensures.value c.arg_part.ensures c.deref-3.ensures.value c.deref-4.ensures.value c.arg_part-2.ensures
    c.deref-5.ensures.value in (λ κs l. (omega (arith, w), l))

pub parameters::show_arguments-show_any_field-requires-4 : goal.parameters::show_arguments-show_any_field-requires-4
parameters::show_arguments-show_any_field-requires-4 g t c =
    let w = arguments_weight c.args.a.now _ _ _ _ _ (slot_of c.arg_part.result) (slot_of c.arg_part-2.result)
    c.deref.ensures.value c.deref-2.ensures.value c.arg_part.ensures c.deref-3.ensures.value c.deref-4.ensures.value c.arg_part-2.ensures
    c.deref-5.ensures.value in (λ κs l. (omega (arith, w), l))

pub parameters::show_arguments-show_any_field-requires-5 : goal.parameters::show_arguments-show_any_field-requires-5
parameters::show_arguments-show_any_field-requires-5 g t c =
    let w = arguments_weight c.args.a.now _ _ _ _ _ (slot_of c.arg_part.result) (slot_of c.arg_part-2.result)
    c.deref.ensures.value c.deref-2.ensures.value c.arg_part.ensures c.deref-3.ensures.value c.deref-4.ensures.value c.arg_part-2.ensures
    c.deref-5.ensures.value in (λ κs l. (omega (arith, w), l))

pub parameters::show_arguments-show_any_field-requires-6 : goal.parameters::show_arguments-show_any_field-requires-6
parameters::show_arguments-show_any_field-requires-6 g t c =
    let w = arguments_weight c.args.a.now _ _ _ _ _ (slot_of c.arg_part.result) (slot_of c.arg_part-2.result)
    c.deref.ensures.value c.deref-2.ensures.value c.arg_part.ensures c.deref-3.ensures.value c.deref-4.ensures.value c.arg_part-2.ensures
    c.deref-5.ensures.value in (λ κs l. (omega (arith, w), l))

pub parameters::show_arguments-show_any_field-requires-7 : goal.parameters::show_arguments-show_any_field-requires-7
parameters::show_arguments-show_any_field-requires-7 g t c =
    let w = arguments_weight c.args.a.now _ _ _ _ _ (slot_of c.arg_part.result) (slot_of c.arg_part-2.result)
    c.deref.ensures.value c.deref-2.ensures.value c.arg_part.ensures c.deref-3.ensures.value c.deref-4.ensures.value c.arg_part-2.ensures
    c.deref-5.ensures.value in (λ κs l. (omega (arith, w), l))

pub showing::show_any_field-returns-clause-text : goal.showing::show_any_field-returns-clause-text
showing::show_any_field-returns-clause-text g t c =
    slot_appended c.args.style _ _ _ _ _ _ _ c.args.told (any_slot c.args.part) _ (sym c.if-is_absent.ensures) c.field.ensures
    c.as_str.ensures.value c.in_ok-push_lead.ensures c.in_ok-show_content.ensures.text

pub showing::show_any_field-returns-then-is_absent-clause-text : goal.showing::show_any_field-returns-then-is_absent-clause-text
showing::show_any_field-returns-then-is_absent-clause-text g t c = slot_absent c.args.style _ _ _ c.args.told _ (any_slot c.args.part)
    (sym c.if-is_absent.ensures) c.after_left_out.ensures

pub showing::show_content-returns-in-Comparisons-clause-text : goal.showing::show_content-returns-in-Comparisons-clause-text
showing::show_content-returns-in-Comparisons-clause-text g t c =
    let e = subst (λ z. ContentOf z (slot_shown (any_slot c.args.part))) c.in-Comparisons.is c.content.ensures in
    subst (λ x. OnOk c.show_comparisons.result (Appends c.args.style (string_bytes c.args.indentation.now) (string_bytes c.args.out.now)
    (string_bytes c.show_comparisons.new.out) (g.P.PlaceSource.left c.args.places.now) (g.P.PlaceSource.left c.args.places.now) x)) e
    (plain_appended c.args.style (string_bytes c.args.indentation.now) _ _ _ (g.P.PlaceSource.left c.args.places.now) _
    (comparisons_unplaced (g.P.PlaceSource.left c.args.places.now) _) c.show_comparisons.ensures.text)

pub showing::show_content-returns-in-Names-clause-text : goal.showing::show_content-returns-in-Names-clause-text
showing::show_content-returns-in-Names-clause-text g t c =
    let e = subst (λ z. ContentOf z (slot_shown (any_slot c.args.part))) c.in-Names.is c.content.ensures in
    subst (λ x. OnOk c.show_names.result (Appends c.args.style (string_bytes c.args.indentation.now) (string_bytes c.args.out.now)
    (string_bytes c.show_names.new.out) (g.P.PlaceSource.left c.args.places.now) (g.P.PlaceSource.left c.args.places.now) x)) e
    (plain_appended c.args.style (string_bytes c.args.indentation.now) _ _ _ (g.P.PlaceSource.left c.args.places.now) _
    (names_unplaced (g.P.PlaceSource.left c.args.places.now) _) c.show_names.ensures.text)

pub showing::show_element-returns-in_default : goal.showing::show_element-returns-in_default
showing::show_element-returns-in_default g t c =
    record {
      text = shown_on_ok c.args.style (string_bytes c.args.indentation.now) (string_bytes c.args.out.now) (string_bytes c.show_node.new.out)
          (g.P.PlaceSource.left c.args.places.now) (g.P.PlaceSource.left c.show_node.new.places) (sketch c.node.result)
          (element_shown c.args.element)
          c.show_node.result c.node.ensures c.show_node.ensures.text;
      indentation = c.show_node.ensures.indentation;
    }

pub showing::show_element-show_node-requires : goal.showing::show_element-show_node-requires
showing::show_element-show_node-requires g t c =
    let w = node_weight c.args.style (sketch c.node.result) (element_shown c.args.element) c.node.ensures in
    (λ κs l. (omega (arith, w), (l, laid_shown c.args.style (sketch c.node.result) (element_shown c.args.element) c.node.ensures)))

pub showing::show_expr-show_node-requires : goal.showing::show_expr-show_node-requires
showing::show_expr-show_node-requires g t c =
    let k = sketch c.expr_node.result in
    let x = shown (tree_of c.args.e.now) in
    let w = node_weight c.args.style k x c.expr_node.ensures in
    (λ κs l. (omega (arith, w), (l, laid_shown c.args.style k x c.expr_node.ensures)))

pub showing::show_elements-loop-element-smaller : goal.showing::show_elements-loop-element-smaller
showing::show_elements-loop-element-smaller g t c =
    let e : weights (elements_shown c.loop-element.rest) ≡ weight (option_shown c.in-Some.element) + weights
    (elements_shown c.in-Some.others) =
    ap weights c.in-Some.ensures in
    let h = weighs (option_shown c.in-Some.element) in omega (arith, e, h)

pub showing::show_elements-show_element-requires : goal.showing::show_elements-show_element-requires
showing::show_elements-show_element-requires g t c =
    let e : weights (elements_shown c.loop-element.rest) ≡ weight (option_shown c.in-Some.element) + weights
    (elements_shown c.in-Some.others) =
    ap weights c.in-Some.ensures in
    let k = ap (λ o. weight (option_shown o)) c.in-Some-element.is in
    let w = c.loop-element.invariant.weight in (λ κs l. (omega (arith, e, k, w), l))

pub showing::show_elements-returns-clause-indentation : goal.showing::show_elements-returns-clause-indentation
showing::show_elements-returns-clause-indentation g t c =
    on_always c.close.result (left c.args.style.indent _ _ _ _ c.in_ok-outer.ensures.len
    (c.loop-element.invariant.indentation ∙ c.in_ok-outer.ensures.indentation) c.close.ensures.indentation)

pub showing::show_node-show_any_field-requires : goal.showing::show_node-show_any_field-requires
showing::show_node-show_any_field-requires g t c =
    let h : slot_weight (any_slot c.part-item.result) ≤ field_weights (node_fields c.args.node.now) =
    part_weight any_slot (take c.args.node.now.len c.args.node.now.parts) c.loop-part.part-index c.part-item.result
    c.loop-part-test.true c.part-item.is in
    (λ κs l. (omega (arith, h), l))

pub showing::show_node-returns-then-node-clause-text : goal.showing::show_node-returns-then-node-clause-text
showing::show_node-returns-then-node-clause-text g t c =
    let n = c.args.node.now in
    let s = c.args.style in
    let f = string_bytes c.args.indentation.now in
    let ps = (g.P.PlaceSource.left c.args.places.now) in
    let m : n.is_marked ≡ true = c.if-node.true in
    on_both c.end_node.result
    (λ text left. subst (λ b. AppendsNode b s f (string_bytes c.args.out.now) (string_bytes c.end_node.new.out) ps
    (g.P.PlaceSource.left c.end_node.new.places) n.class.now (node_fields n)) (sym m)
    (marked_ended any_slot s f n.class.now (take n.len n.parts) (take n.len n.parts) (string_bytes c.args.out.now)
    (string_bytes c.loop-part.out) ps
    (g.P.PlaceSource.left c.loop-part.places) c.loop-part.told c.loop-part-test.false refl c.in_ok-outer.ensures.indentation
    (subst (λ b. c.is_told_on_line.result ≡ (is_flat s.indent || is_short (closed b (fields_with ps (node_fields n))).shown)) m
    (c.requires.line ps c.is_told_on_line.result c.is_told_on_line.ensures)) c.in_ok-outer.ensures.text
    (subst (λ b. string_bytes c.loop-part.out ++ coming_with b s (string_bytes c.open.new.indentation)
    (g.P.PlaceSource.left c.loop-part.places) c.loop-part.told (fields_of (drop c.loop-part.part-index (take n.len n.parts)))
    ≡ string_bytes c.open.new.out ++ coming_with b s (string_bytes c.open.new.indentation) ps
    (record { one_line = c.is_told_on_line.result; named = s.names; first = true }) (node_fields n)) m c.loop-part.invariant.text)
    c.loop-part.invariant.left c.loop-part.invariant.indentation text left))
    c.end_node.ensures.text c.end_node.ensures.left

pub showing::show_node-returns-else-node-clause-text : goal.showing::show_node-returns-else-node-clause-text
showing::show_node-returns-else-node-clause-text g t c =
    let n = c.args.node.now in
    let s = c.args.style in
    let f = string_bytes c.args.indentation.now in
    let ps = (g.P.PlaceSource.left c.args.places.now) in
    let m : n.is_marked ≡ false = c.if-node.false in
    on_ok_weaker c.close.result
    (λ text. subst (λ b. AppendsNode b s f (string_bytes c.args.out.now) (string_bytes c.close.new.out) ps
    (g.P.PlaceSource.left c.loop-part.places) n.class.now (node_fields n)) (sym m)
    (bare_ended any_slot s f n.class.now (take n.len n.parts) (take n.len n.parts) (string_bytes c.args.out.now)
    (string_bytes c.loop-part.out) ps
    c.loop-part.told c.loop-part-test.false refl c.in_ok-outer.ensures.indentation
    (subst (λ b. c.is_told_on_line.result ≡ (is_flat s.indent || is_short (closed b (fields_with ps (node_fields n))).shown)) m
    (c.requires.line ps c.is_told_on_line.result c.is_told_on_line.ensures)) c.in_ok-outer.ensures.text
    (subst (λ b. string_bytes c.loop-part.out ++ coming_with b s (string_bytes c.open.new.indentation)
    (g.P.PlaceSource.left c.loop-part.places) c.loop-part.told (fields_of (drop c.loop-part.part-index (take n.len n.parts)))
    ≡ string_bytes c.open.new.out ++ coming_with b s (string_bytes c.open.new.indentation) ps
    (record { one_line = c.is_told_on_line.result; named = s.names; first = true }) (node_fields n)) m c.loop-part.invariant.text)
    c.loop-part.invariant.left text))
    c.close.ensures.text

pub showing::show_node-returns-then-node-clause-indentation : goal.showing::show_node-returns-then-node-clause-indentation
showing::show_node-returns-then-node-clause-indentation g t c =
    on_ok_weaker c.end_node.result
    (λ e. left c.args.style.indent _ _ _ _ c.in_ok-outer.ensures.len (c.loop-part.invariant.indentation
    ∙ c.in_ok-outer.ensures.indentation) e)
    c.end_node.ensures.indentation

pub showing::show_node-returns-else-node-clause-indentation : goal.showing::show_node-returns-else-node-clause-indentation
showing::show_node-returns-else-node-clause-indentation g t c =
    on_always c.close.result (left c.args.style.indent _ _ _ _ c.in_ok-outer.ensures.len
    (c.loop-part.invariant.indentation ∙ c.in_ok-outer.ensures.indentation) c.close.ensures.indentation)

pub showing::show_node-loop-part-preserved : goal.showing::show_node-loop-part-preserved
showing::show_node-loop-part-preserved g t c =
    let xs = take c.args.node.now.len c.args.node.now.parts in
    record {
      text = field_passed any_slot c.args.node.now.is_marked xs c.args.style (string_bytes c.open.new.indentation)
          c.loop-part-test.true c.part-item.is
          c.loop-part.invariant.indentation c.loop-part.invariant.text c.in_ok-told.ensures.text;
      left = field_left any_slot xs c.loop-part-test.true c.part-item.is c.loop-part.invariant.left c.in_ok-told.ensures.text;
      indentation = c.in_ok-told.ensures.indentation ∙ c.loop-part.invariant.indentation;
    }

pub showing::show_elements-returns-clause-text : goal.showing::show_elements-returns-clause-text
showing::show_elements-returns-clause-text g t c =
    on_ok_weaker c.close.result
    (λ e. list_ended (elements_shown c.args.elements) c.args.style (string_bytes c.args.indentation.now) (string_bytes c.args.out.now)
    (string_bytes c.loop-element.out)
    c.loop-element.first (g.P.PlaceSource.left c.args.places.now) c.in_default.ensures c.in_ok-outer.ensures.indentation
    c.in_ok-outer.ensures.text
    c.loop-element.invariant.text c.loop-element.invariant.left e)
    c.close.ensures.text

pub showing::show_elements-returns-then-is_empty-clause-text : goal.showing::show_elements-returns-then-is_empty-clause-text
showing::show_elements-returns-then-is_empty-clause-text g t c =
    none_appended (elements_shown c.args.elements) c.args.style (string_bytes c.args.indentation.now) (string_bytes c.args.out.now) _
    (g.P.PlaceSource.left c.args.places.now) c.push_str.result (sym c.if-is_empty.ensures) c.push_str.ensures.bytes

pub showing::show_elements-loop-element-preserved : goal.showing::show_elements-loop-element-preserved
showing::show_elements-loop-element-preserved g t c =
    let split : elements_shown c.loop-element.rest ≡ a_shown (element_shown c.in-Some-element.element) (elements_shown c.in-Some.others) =
    c.in-Some.ensures ∙ ap (λ o. a_shown (option_shown o) (elements_shown c.in-Some.others)) c.in-Some-element.is in
    let e1 : string_bytes c.push_before.new.out ≡ string_bytes c.loop-element.out ++ before (is_flat c.args.style.indent)
    (string_bytes c.loop-element.indentation) c.loop-element.first =
    c.in_ok-push_before.ensures
    ∙ (λ i. string_bytes c.loop-element.out ++ before (c.is_flat.ensures i) (c.as_str.ensures.value i) c.loop-element.first) in
    let w = c.loop-element.invariant.weight in
    let s = ap weights split in
    record {
      text = next_appended (element_shown c.in-Some-element.element) (elements_shown c.in-Some.others) c.args.style _
          c.loop-element.first _ split
          c.loop-element.invariant.indentation c.loop-element.invariant.text e1 c.in_ok-show_element-in-Some-element.ensures.text;
      left = next_left (element_shown c.in-Some-element.element) (elements_shown c.in-Some.others) _ split c.loop-element.invariant.left
          c.in_ok-show_element-in-Some-element.ensures.text.1;
      indentation = c.in_ok-show_element-in-Some-element.ensures.indentation ∙ c.loop-element.invariant.indentation;
      weight = omega (arith, w, s);
    }

pub showing::show_expr-returns-in-Name-clause-text : goal.showing::show_expr-returns-in-Name-clause-text
showing::show_expr-returns-in-Name-clause-text g t c = rw (c.in-Name.is, name_tree) c.show_any_name.ensures.text

pub showing::show_expr-returns-in-Constant-clause-text : goal.showing::show_expr-returns-in-Constant-clause-text
showing::show_expr-returns-in-Constant-clause-text g t c = rw (c.in-Constant.is, constant_tree) c.show_any_constant.ensures.text

pub showing::show_expr-show_joined_attribute-requires : goal.showing::show_expr-show_joined_attribute-requires
showing::show_expr-show_joined_attribute-requires g t c =
    let e : weight (shown (tree_of c.args.e.now)) ≡ weight (shown (tree_of c.deref.result.now)) + 2 + 1 =
    rw (c.in-Attribute.is, attribute_tree, sym c.deref.ensures) refl in
    (λ κs l. (omega (arith, e), (l, sym c.if-is_joined.ensures)))

pub showing::show_expr-show_joined_call-requires : goal.showing::show_expr-show_joined_call-requires
showing::show_expr-show_joined_call-requires g t c =
    let e : weight (shown (tree_of c.args.e.now)) ≡ weight (shown (call_of c.deref-in-Call.result.now)) =
    rw (c.in-Call.is, call_tree, sym c.deref-in-Call.ensures) refl in
    let h = weighs (shown (call_of c.deref-in-Call.result.now)) in (λ κs l. (omega (arith, e, h), (l, sym c.if-is_joined-2.ensures)))

pub showing::show_expr-returns-in-Attribute-clause-text : goal.showing::show_expr-returns-in-Attribute-clause-text
showing::show_expr-returns-in-Attribute-clause-text g t c =
    let e : shown (tree_of c.args.e.now) ≡ Node (codes "Attribute")
    (a_field (codes "value") (shown (tree_of c.deref.result.now))
    (a_field (codes "attr") (shown_name c.in-Attribute.attr) (a_field (codes "ctx") (word (context_name c.in-Attribute.ctx)) no_field))) =
    rw (c.in-Attribute.is, attribute_tree, sym c.deref.ensures) refl in
    shown_on c.args.style (string_bytes c.args.indentation.now) (string_bytes c.args.out.now) (string_bytes c.show_joined_attribute.new.out)
    (g.P.PlaceSource.left c.args.places.now) (g.P.PlaceSource.left c.show_joined_attribute.new.places)
    c.show_joined_attribute.result _ _ (sym e)
    c.show_joined_attribute.ensures.text

pub showing::show_expr-returns-in-Call-clause-text : goal.showing::show_expr-returns-in-Call-clause-text
showing::show_expr-returns-in-Call-clause-text g t c =
    let e : shown (tree_of c.args.e.now) ≡ shown (call_of c.deref-in-Call.result.now) =
    rw (c.in-Call.is, call_tree, sym c.deref-in-Call.ensures) refl in
    shown_on c.args.style (string_bytes c.args.indentation.now) (string_bytes c.args.out.now) (string_bytes c.show_joined_call.new.out)
    (g.P.PlaceSource.left c.args.places.now) (g.P.PlaceSource.left c.show_joined_call.new.places) c.show_joined_call.result _ _ (sym e)
    c.show_joined_call.ensures.text
