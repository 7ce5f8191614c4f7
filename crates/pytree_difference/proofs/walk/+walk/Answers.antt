use denote.Enum.Bare.{same_true, sameb, true_same}
use Rattle.std.proofs.Common.{◌≡◌, ◌<◌, ◌≤◌, ◌∙◌, Bool, Some, false, not, true, ap, arith, refl, rules, sym, length, min, take}
use Rattle.pytree_fields.specs.declared.classes.Class.{Class}
use Rattle.pytree_fields.specs.contracts.classes.Class.{the_type}
use Rattle.pytree_fields.specs.Classes.{field_count}
use Rattle.pytree_fields.specs.LentThings.{child_thing, leaf_of, held_thing, held_things, row_len, row_things}
use Rattle.pytree_fields.specs.Things.{Node, Row}
use Rattle.pytree_fields.proofs.Callers.Members.{thing_of_held, held_count, row_count, row_ends}
use Rattle.pytree_fields.proofs.Callers.Nodes.{node_class}
use Rattle.pytree_difference.specs.Weights.{option_weight, weights}
use Rattle.pytree_difference.proofs.WalkLemmas.{at_things, leaf_node, member_differs, member_equal, member_weight, node_leaf, none_some}
use Rattle.pytree_difference.proofs.WalkLemmas.{nothing, other_lengths, other_row, row_other, same_children, same_fields, some_none}
use Rattle.pytree_difference.proofs.WalkLemmas.{two_classes, two_leaves}
use Rattle.pytree_difference.proofs.walk.+walk.Goals as goal

not_false : (b : Bool) → false ≡ not b → b ≡ true
not_false true e = refl
not_false false e = e

not_true : (b : Bool) → true ≡ not b → b ≡ true → ⊥
not_true true e f = cc
not_true false e f = cc

one_class : (x y : Class) → false ≡ not (sameb the_type x y) → x ≡ y
one_class x y e = same_true the_type (search rules) x y (not_false (sameb the_type x y) e)

other_class : (x y : Class) → true ≡ not (sameb the_type x y) → x ≡ y → ⊥
other_class x y e f = not_true (sameb the_type x y) e (true_same the_type x y f)

pub same_field-returns-in-None-row : goal.same_field-returns-in-None-row
same_field-returns-in-None-row g t c =
    let v = c.args.version in let old = g.T.Trail.steps c.args.trail.now in
    at_things old old false (c.in-Some.ensures v) refl
    (row_other (row_things v c.in-Some.x) (held_thing v c.args.b) old (c.in-None-row.ensures v))

pub same_field-returns-in-Some-row-2 : goal.same_field-returns-in-Some-row-2
same_field-returns-in-Some-row-2 g t c =
    let v = c.args.version in let old = g.T.Trail.steps c.args.trail.now in
    at_things old old false refl (c.in-Some-row-2.ensures v)
    (other_row (held_thing v c.args.a) (row_things v c.in-Some-row-2.field-0) old (c.in-None.ensures v))

pub same_held-returns-in-None-child : goal.same_held-returns-in-None-child
same_held-returns-in-None-child g t c =
    let v = c.args.version in let old = g.T.Trail.steps c.args.trail.now in
    at_things old old false (c.in-Some.ensures v) (sym (nothing (held_thing v c.args.b) (c.in-None-child.ensures v) c.requires.b))
    (some_none (child_thing v c.in-Some.x) old)

pub same_held-returns-in-Some-child-2 : goal.same_held-returns-in-Some-child-2
same_held-returns-in-Some-child-2 g t c =
    let v = c.args.version in let old = g.T.Trail.steps c.args.trail.now in
    at_things old old false (sym (nothing (held_thing v c.args.a) (c.in-None.ensures v) c.requires.a)) (c.in-Some-child-2.ensures v)
    (none_some (child_thing v c.in-Some-child-2.field-0) old)

pub same_child-returns-in-Some-leaf : goal.same_child-returns-in-Some-leaf
same_child-returns-in-Some-leaf g t c =
    let v = c.args.version in let old = g.T.Trail.steps c.args.trail.now in
    at_things old old c.same_leaf.result (ap Some (sym (c.in-Some.ensures v))) (ap Some (sym (c.in-Some-leaf.ensures v)))
    (two_leaves (leaf_of c.in-Some.x) (leaf_of c.in-Some-leaf.y) c.same_leaf.result old c.same_leaf.ensures)

pub same_child-returns-in-None-leaf : goal.same_child-returns-in-None-leaf
same_child-returns-in-None-leaf g t c =
    let v = c.args.version in let old = g.T.Trail.steps c.args.trail.now in
    at_things old old false (ap Some (sym (c.in-Some.ensures v))) refl
    (leaf_node (leaf_of c.in-Some.x) (child_thing v c.args.b) old (node_class v c.args.b c.in-None-leaf.ensures))

pub same_child-returns-in-Some-leaf-2 : goal.same_child-returns-in-Some-leaf-2
same_child-returns-in-Some-leaf-2 g t c =
    let v = c.args.version in let old = g.T.Trail.steps c.args.trail.now in
    at_things old old false refl (ap Some (sym (c.in-Some-leaf-2.ensures v)))
    (node_leaf (child_thing v c.args.a) (leaf_of c.in-Some-leaf-2.field-0) old (node_class v c.args.a c.in-None.ensures))

pub same_node-returns-then-ne : goal.same_node-returns-then-ne
same_node-returns-then-ne g t c =
    let v = c.args.version in let a = c.args.a.now in let b = c.args.b.now in
    two_classes a.class b.class (held_things v (take a.len a.held)) (held_things v (take b.len b.held)) (g.T.Trail.steps c.args.trail.now)
    (other_class a.class b.class c.if-ne.ensures)

pub same_node-same_field-requires : goal.same_node-same_field-requires
same_node-same_field-requires g t c =
    let v = c.args.version in let a = c.args.a.now in let x = c.index-held-i.result in
    let here : c.loop-i.i < length a.held = omega arith in
    let h : option_weight (held_thing v x) ≤ weights (held_things v (take a.len a.held)) =
    member_weight (held_things v (take a.len a.held)) c.loop-i.i (held_thing v x)
    (thing_of_held v a.held a.len c.loop-i.i x (omega arith) here c.index-held-i.is) in (λ κs l. (omega (arith, h), l))

pub same_node-returns-then-not-same_field : goal.same_node-returns-then-not-same_field
same_node-returns-then-not-same_field g t c =
    let v = c.args.version in let a = c.args.a.now in let b = c.args.b.now in let i = c.loop-i.i in
    let x = c.index-held-i.result in let y = c.index-other_held-i.result in
    let alike : a.class ≡ b.class = one_class a.class b.class c.if-ne.ensures in
    let same_len : field_count a.class ≡ field_count b.class = ap field_count alike in
    let in_a : i < length a.held = omega arith in
    let in_b : i < length b.held = omega arith in
    member_differs (Some (Node a.class (held_things v (take a.len a.held)))) (Some (Node b.class (held_things v (take b.len b.held)))) i
    (held_thing v x) (held_thing v y) (g.T.Trail.steps c.args.trail.now) (g.T.Trail.steps c.loop-i.trail)
    (g.T.Trail.steps c.same_field.new.trail) (g.T.Trail.steps c.push.new.self) c.same_field.result alike c.loop-i.invariant.before
    (thing_of_held v a.held a.len i x (omega arith) in_a c.index-held-i.is)
    (thing_of_held v b.held b.len i y (omega (arith, same_len)) in_b c.index-other_held-i.is)
    c.same_field.ensures c.if-not-same_field.true c.loop-i.invariant.trail c.push.ensures

pub same_node-loop-i-preserved : goal.same_node-loop-i-preserved
same_node-loop-i-preserved g t c =
    let v = c.args.version in let a = c.args.a.now in let b = c.args.b.now in let i = c.loop-i.i in
    let x = c.index-held-i.result in let y = c.index-other_held-i.result in
    let alike : a.class ≡ b.class = one_class a.class b.class c.if-ne.ensures in
    let same_len : field_count a.class ≡ field_count b.class = ap field_count alike in
    let in_a : i < length a.held = omega arith in
    let in_b : i < length b.held = omega arith in
    let more = member_equal (Some (Node a.class (held_things v (take a.len a.held))))
    (Some (Node b.class (held_things v (take b.len b.held)))) i (held_thing v x) (held_thing v y)
    (g.T.Trail.steps c.args.trail.now) (g.T.Trail.steps c.loop-i.trail) (g.T.Trail.steps c.same_field.new.trail) c.same_field.result
    c.loop-i.invariant.before
    (thing_of_held v a.held a.len i x (omega arith) in_a c.index-held-i.is)
    (thing_of_held v b.held b.len i y (omega (arith, same_len)) in_b c.index-other_held-i.is)
    c.same_field.ensures c.if-not-same_field.false c.loop-i.invariant.trail in
    record { before = more.0; trail = more.1 }

pub same_node-returns : goal.same_node-returns
same_node-returns g t c =
    let v = c.args.version in let a = c.args.a.now in let b = c.args.b.now in
    let alike : a.class ≡ b.class = one_class a.class b.class c.if-ne.ensures in
    let same_len : field_count a.class ≡ field_count b.class = ap field_count alike in
    let len : b.len ≡ a.len = omega (arith, same_len) in
    same_fields a.class b.class (held_things v (take a.len a.held)) (held_things v (take b.len b.held)) a.len
    (g.T.Trail.steps c.args.trail.now) (g.T.Trail.steps c.loop-i.trail) alike
    (held_count v a.held a.len (omega arith)) (held_count v b.held b.len (omega arith) ∙ len)
    (λ j l. c.loop-i.invariant.before j (omega (arith, l))) c.loop-i.invariant.trail

pub same_rows-same_child-requires : goal.same_rows-same_child-requires
same_rows-same_child-requires g t c =
    let v = c.args.version in
    let h : option_weight (Some (child_thing v c.get.result)) ≤ weights (row_things v c.args.a) =
    member_weight (row_things v c.args.a) c.loop-i.i (Some (child_thing v c.get.result)) (sym (c.get.ensures v)) in
    (λ κs l. (omega (arith, h), l))

pub same_rows-returns-then-not-same_child : goal.same_rows-returns-then-not-same_child
same_rows-returns-then-not-same_child g t c =
    let v = c.args.version in
    member_differs (Some (Row (row_things v c.args.a))) (Some (Row (row_things v c.args.b))) c.loop-i.i
    (Some (child_thing v c.get.result)) (Some (child_thing v c.get-in-loop-i.result))
    (g.T.Trail.steps c.args.trail.now) (g.T.Trail.steps c.loop-i.trail) (g.T.Trail.steps c.same_child.new.trail)
    (g.T.Trail.steps c.push.new.self) c.same_child.result tt c.loop-i.invariant.before
    (sym (c.get.ensures v)) (sym (c.get-in-loop-i.ensures v)) c.same_child.ensures c.if-not-same_child.true
    c.loop-i.invariant.trail c.push.ensures

pub same_rows-returns-then-len : goal.same_rows-returns-then-len
same_rows-returns-then-len g t c =
    let v = c.args.version in
    let len : row_len c.args.b ≡ row_len c.args.a = omega arith in
    same_children (row_things v c.args.a) (row_things v c.args.b) (row_len c.args.a)
    (g.T.Trail.steps c.args.trail.now) (g.T.Trail.steps c.loop-i.trail)
    (row_count v c.args.a) (row_count v c.args.b ∙ len)
    (λ j l. c.loop-i.invariant.before j (omega (arith, l))) c.loop-i.invariant.trail

pub same_rows-returns : goal.same_rows-returns
same_rows-returns g t c =
    let v = c.args.version in let a = c.args.a in let b = c.args.b in
    let shorter : c.min-len.result ≡ min (row_len a) (row_len b) = omega arith in
    other_lengths (row_things v a) (row_things v b) c.min-len.result (row_len a) (row_len b) (g.T.Trail.steps c.args.trail.now)
    (g.T.Trail.steps c.loop-i.trail) (g.T.Trail.steps c.push-2.new.self) shorter
    (λ e. (let no : ⊥ = omega (arith, e) in no))
    (row_count v a) (row_count v b) (row_ends v a c.min-len.result) (row_ends v b c.min-len.result)
    (λ j l. c.loop-i.invariant.before j (omega (arith, l))) c.loop-i.invariant.trail c.push-2.ensures
