use Rattle.std.proofs.Common.{◌≡◌, ◌+◌, sym, ap, subst, ◌∙◌, map, length, true}
use Rattle.std.specs.Prelude.{◌&&◌, ◌==◌}
use Rattle.pytree_node.specs.TreeOf.{tree_of}
use Rattle.pytree_node.specs.Trees.{exprs, present}
use Rattle.pytree_fits.specs.Slots.{have_kind, spec_has_kind}
use Rattle.pytree_fits.proofs.StringShapes.{any_kind, any_spec, joined_kind}
use Rattle.pytree_fits.proofs.StringLoops.{kinds_stop, kinds_go_on}
use Rattle.pytree_fits.proofs.strings.+kinds.Goals as goal
use Rattle.pytree_fits.proofs.strings.+kinds.Goals.{have_kind-then-in_spec, have_kind-else-in_spec}

pub has_kind-returns-in_default : goal.has_kind-returns-in_default
has_kind-returns-in_default t c =
    sym (any_kind c.args.value.now c.in_default.not-Constant c.in_default.not-FormattedValue c.args.unicode c.args.ends_spec)

pub have_kind-returns-then-not-has_kind : goal.have_kind-returns-then-not-has_kind
have_kind-returns-then-not-has_kind t c =
    kinds_stop tree_of c.args.unicode c.args.in_spec c.args.values.now c.loop-i-test.true c.index-values-i.is
    (elim c.if-in_spec.branch [
      | have_kind-then-in_spec w ↦ w.ends_spec-is ∙ sym (ap (λ z. z && (c.loop-i.i + 1 == length c.args.values.now)) w.if-in_spec.true)
      | have_kind-else-in_spec w ↦ w.ends_spec-is ∙ w.if-in_spec.false
          ∙ sym (ap (λ z. z && (c.loop-i.i + 1 == length c.args.values.now)) w.if-in_spec.false)
    ]) c.has_kind.ensures c.if-not-has_kind.true c.loop-i.invariant

pub have_kind-loop-i-preserved : goal.have_kind-loop-i-preserved
have_kind-loop-i-preserved t c =
    kinds_go_on tree_of c.args.unicode c.args.in_spec c.args.values.now c.loop-i-test.true c.index-values-i.is
    (elim c.if-in_spec.branch [
      | have_kind-then-in_spec w ↦ w.ends_spec-is ∙ sym (ap (λ z. z && (c.loop-i.i + 1 == length c.args.values.now)) w.if-in_spec.true)
      | have_kind-else-in_spec w ↦ w.ends_spec-is ∙ w.if-in_spec.false
          ∙ sym (ap (λ z. z && (c.loop-i.i + 1 == length c.args.values.now)) w.if-in_spec.false)
    ]) c.has_kind.ensures c.if-not-has_kind.false c.loop-i.invariant

pub spec_has_kind-returns-in-JoinedStr : goal.spec_has_kind-returns-in-JoinedStr
spec_has_kind-returns-in-JoinedStr t c = rw c.in-Some.is
    (subst (λ e. c.have_kind.result ≡ spec_has_kind c.args.unicode (present (tree_of e))) c.deref.ensures
    (c.have_kind.ensures ∙ ap (λ es. have_kind c.args.unicode true (exprs (map tree_of es))) c.deref-in-JoinedStr.ensures.value
    ∙ joined_kind c.deref.result.now c.in-JoinedStr.values c.in-JoinedStr.is c.args.unicode))

pub spec_has_kind-returns-in_default : goal.spec_has_kind-returns-in_default
spec_has_kind-returns-in_default t c = rw c.in-Some.is
    (subst (λ e. true ≡ spec_has_kind c.args.unicode (present (tree_of e))) c.deref.ensures
    (sym (any_spec c.deref.result.now c.in_default.not-JoinedStr c.args.unicode)))
