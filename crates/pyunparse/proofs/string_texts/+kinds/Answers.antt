use Rattle.std.proofs.Common.{arith, map, refl, sym}
use Rattle.std.proofs.Math.Bool.{or-false}
use Rattle.pytree_node.specs.Trees.{exprs}
use Rattle.pytree_node.specs.TreeOf.{tree_of}
use Rattle.pytree_node.proofs.Callers.ExprShapes.{constant_tree, formatted_value_tree, joined_str_tree}
use Rattle.pytree_height.specs.Heights.{height, heights}
use Rattle.pyunparse.proofs.Sequences.MemberLemmas.{no_higher}
use Rattle.pyunparse.proofs.Shapes.MeasureLemmas.{formatted_height, joined_height}
use Rattle.pyunparse.proofs.Shapes.ValueLemmas.{not_unicode, not_unicode_spec}
use Rattle.pyunparse.proofs.string_texts.+kinds.Goals as goal

pub is_unicode-is_unicode_value-requires : goal.is_unicode-is_unicode_value-requires
is_unicode-is_unicode_value-requires t c =
    let h : _ = no_higher (λ xs. heights (exprs (map tree_of xs))) (λ x. height (tree_of x)) (λ _ _. refl) _ _ _ c.loop-value-test.true
    c.value-item.is in (omega (arith, h), tt)

pub is_unicode_string-is_unicode-requires : goal.is_unicode_string-is_unicode-requires
is_unicode_string-is_unicode-requires t c = let h : _ =
    joined_height _ _ _ c.in-JoinedStr.is c.deref.ensures.value in (omega (arith, h), tt)

pub is_unicode_value-is_unicode_spec-requires : goal.is_unicode_value-is_unicode_spec-requires
is_unicode_value-is_unicode_spec-requires t c = let h : _ = formatted_height _ _ _ _ _ c.in-FormattedValue.is refl in (omega (arith, h), tt)

pub is_unicode_string-returns-in-JoinedStr : goal.is_unicode_string-returns-in-JoinedStr
is_unicode_string-returns-in-JoinedStr t c = rw (c.in-JoinedStr.is, joined_str_tree, sym c.deref.ensures.value) c.is_unicode.ensures

pub is_unicode_string-returns-in_default : goal.is_unicode_string-returns-in_default
is_unicode_string-returns-in_default t c = sym (not_unicode_spec c.args.e.now c.in_default.not-JoinedStr)

pub is_unicode_value-returns-in-Constant : goal.is_unicode_value-returns-in-Constant
is_unicode_value-returns-in-Constant t c = rw (c.in-Constant.is, constant_tree) c.is_unicode_text.ensures

pub is_unicode_value-returns-in-FormattedValue : goal.is_unicode_value-returns-in-FormattedValue
is_unicode_value-returns-in-FormattedValue t c = rw (c.in-FormattedValue.is, formatted_value_tree, or-false) c.is_unicode_spec.ensures

pub is_unicode_value-returns-in_default : goal.is_unicode_value-returns-in_default
is_unicode_value-returns-in_default t c = sym (not_unicode c.args.value.now c.in_default.not-FormattedValue c.in_default.not-Constant)
