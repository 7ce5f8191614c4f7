use Rattle.std.proofs.Common.{◌≡◌, ◌≤◌, ◌+◌, ◌-◌, ◌*◌, ◌++◌, true, map, drop}
use Rattle.std.specs.String.{string_bytes}
use Rattle.pytree_node.specs.TreeOf.{arg_of, arguments_of, call_of, keyword_of, tree_of}
use Rattle.pytree_dump_text.specs.Layout.{members}
use Rattle.pytree_dump_text.specs.Shows.{Row, shown, shown_arg, shown_arguments, shown_keyword, showns}
use Rattle.pytree_dump_text.specs.Slots.{slot_shown}
use Rattle.pytree_marked.specs.Appends.{coming_with}
use Rattle.pytree_marked.specs.MarkedNodes.{fields_with, rows_with}
use Rattle.pytree_dump.specs.Inner.Nodes.{any_slot, element_shown, elements_shown, fields_of, node_fields}
use Rattle.pytree_dump.specs.Inner.Weights.{weight, weights, field_weights, slot_weight}
use Rattle.pytree_dump.proofs.+showing.Given as goal

abbrev pub decreases-showing::show_expr : goal.decreases-showing::show_expr
decreases-showing::show_expr g l = 6 * weight (shown (tree_of l.e.now))

abbrev pub decreases-showing::show_element : goal.decreases-showing::show_element
decreases-showing::show_element g l = 6 * weight (element_shown l.element) + 1

abbrev pub decreases-showing::show_node : goal.decreases-showing::show_node
decreases-showing::show_node g l = 6 * field_weights (node_fields l.node.now) + 4

abbrev pub invariant-showing::show_node-loop-part : goal.invariant-showing::show_node-loop-part
invariant-showing::show_node-loop-part g l = record {
  text : string_bytes l.out ++ coming_with l.node.is_marked l.style (string_bytes l.initial.indentation)
      (g.P.PlaceSource.left l.places) l.told (fields_of (drop l.part-index l.part-items))
      ≡ string_bytes l.initial.out ++ coming_with l.node.is_marked l.style (string_bytes l.initial.indentation)
      (g.P.PlaceSource.left l.initial.places) l.initial.told (fields_of l.part-items);
  left : (fields_with (g.P.PlaceSource.left l.places) (fields_of (drop l.part-index l.part-items))).left
      ≡ (fields_with (g.P.PlaceSource.left l.initial.places) (fields_of l.part-items)).left;
  indentation : string_bytes l.indentation ≡ string_bytes l.initial.indentation;
}

abbrev pub decreases-showing::show_any_field : goal.decreases-showing::show_any_field
decreases-showing::show_any_field g l = 6 * slot_weight (any_slot l.part) + 3

abbrev pub decreases-showing::show_content : goal.decreases-showing::show_content
decreases-showing::show_content g l = 6 * weight (slot_shown (any_slot l.part)) + 2

abbrev pub decreases-showing::show_exprs : goal.decreases-showing::show_exprs
decreases-showing::show_exprs g l = 6 * weight (Row (showns (map (λ e. shown (tree_of e)) l.es.now)))

abbrev pub invariant-showing::show_exprs-loop-e : goal.invariant-showing::show_exprs-loop-e
invariant-showing::show_exprs-loop-e g l = record {
  text : string_bytes l.out ++ members l.style (string_bytes l.initial.indentation) l.first
      (rows_with (g.P.PlaceSource.left l.places) (showns (map (λ e. shown (tree_of e)) (drop l.e-index l.es)))).shown
      ≡ string_bytes l.initial.out ++ members l.style (string_bytes l.initial.indentation) true
      (rows_with (g.P.PlaceSource.left l.initial.places) (showns (map (λ e. shown (tree_of e)) l.es))).shown;
  left : (rows_with (g.P.PlaceSource.left l.places) (showns (map (λ e. shown (tree_of e)) (drop l.e-index l.es)))).left ≡
      (rows_with (g.P.PlaceSource.left l.initial.places) (showns (map (λ e. shown (tree_of e)) l.es))).left;
  indentation : string_bytes l.indentation ≡ string_bytes l.initial.indentation;
}

abbrev pub decreases-showing::show_elements : goal.decreases-showing::show_elements
decreases-showing::show_elements g l = 6 * weight (Row (elements_shown l.elements))

abbrev pub invariant-showing::show_elements-loop-element : goal.invariant-showing::show_elements-loop-element
invariant-showing::show_elements-loop-element g l = record {
  text : string_bytes l.out ++ members l.style (string_bytes l.initial.indentation) l.first
      (rows_with (g.P.PlaceSource.left l.places) (elements_shown l.rest)).shown
      ≡ string_bytes l.initial.out ++ members l.style (string_bytes l.initial.indentation) true
      (rows_with (g.P.PlaceSource.left l.initial.places) (elements_shown l.fn.elements)).shown;
  left : (rows_with (g.P.PlaceSource.left l.places) (elements_shown l.rest)).left
      ≡ (rows_with (g.P.PlaceSource.left l.initial.places) (elements_shown l.fn.elements)).left;
  indentation : string_bytes l.indentation ≡ string_bytes l.initial.indentation;
  weight : weights (elements_shown l.rest) ≤ weights (elements_shown l.fn.elements);
}

abbrev pub decreases-showing::show_elements-loop-element : goal.decreases-showing::show_elements-loop-element
decreases-showing::show_elements-loop-element g l = weights (elements_shown l.rest)

abbrev pub decreases-joined::show_joined_attribute : goal.decreases-joined::show_joined_attribute
decreases-joined::show_joined_attribute g l = 6 * weight (shown (tree_of l.value.now)) + 3

abbrev pub decreases-joined::show_joined_keywords : goal.decreases-joined::show_joined_keywords
decreases-joined::show_joined_keywords g l = 6 * weight (Row (showns (map (λ k. shown_keyword (keyword_of k)) l.keywords.now))) + 1

abbrev pub decreases-joined::show_joined_call : goal.decreases-joined::show_joined_call
decreases-joined::show_joined_call g l = 6 * weight (shown (call_of l.call.now)) - 2

abbrev pub decreases-parameters::show_arg : goal.decreases-parameters::show_arg
decreases-parameters::show_arg g l = 6 * weight (shown_arg (arg_of l.a.now))

abbrev pub decreases-parameters::show_args : goal.decreases-parameters::show_args
decreases-parameters::show_args g l = 6 * weight (Row (showns (map (λ a. shown_arg (arg_of a)) l.all.now)))

abbrev pub invariant-parameters::show_args-loop-a : goal.invariant-parameters::show_args-loop-a
invariant-parameters::show_args-loop-a g l = record {
  text : string_bytes l.out ++ members l.style (string_bytes l.initial.indentation) l.first
      (rows_with (g.P.PlaceSource.left l.places) (showns (map (λ a. shown_arg (arg_of a)) (drop l.a-index l.all)))).shown
      ≡ string_bytes l.initial.out ++ members l.style (string_bytes l.initial.indentation) true
      (rows_with (g.P.PlaceSource.left l.initial.places) (showns (map (λ a. shown_arg (arg_of a)) l.all))).shown;
  left : (rows_with (g.P.PlaceSource.left l.places) (showns (map (λ a. shown_arg (arg_of a)) (drop l.a-index l.all)))).left ≡
      (rows_with (g.P.PlaceSource.left l.initial.places) (showns (map (λ a. shown_arg (arg_of a)) l.all))).left;
  indentation : string_bytes l.indentation ≡ string_bytes l.initial.indentation;
}

abbrev pub decreases-parameters::show_arguments : goal.decreases-parameters::show_arguments
decreases-parameters::show_arguments g l = 6 * weight (shown_arguments (arguments_of l.a.now))
