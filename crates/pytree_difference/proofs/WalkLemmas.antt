-- What a walk finds, step by step.
--
-- Carries: same_field, same_held, same_child, same_node, same_rows.
use Rattle.std.proofs.Common.{◌≡◌, ◌≤◌, ◌<◌, ◌+◌, ℕ, zero, suc, arith, Bool, true, false, List, [], ◌∷◌, Option, Some, None, refl, sym, ap, subst}
use Rattle.std.proofs.Common.{◌∙◌, ◌↔◌, IsTrue, min}
use borrow.Author.Count.{below_more}
use Rattle.pytree_fields.specs.declared.classes.Class.{Class}
use Rattle.pytree_fields.specs.Leaves as leaf
use Rattle.pytree_fields.specs.Things.{Thing, Things, Leaf, Row, Node, no_thing, a_thing, left_out, thing_at}
use Rattle.pytree_fields.specs.Things.{count, IsRowOrNothing, NotRow}
use Rattle.pytree_fields.proofs.Callers.Nodes.{HasClass}
use Rattle.pytree_difference.specs.Differences.{AreAlike, FirstDifference, member}
use Rattle.pytree_difference.specs.Trails.{Led, Pushed, Walked}
use Rattle.pytree_difference.specs.Weights.{option_weight, weights}

-- a thing weighs no more than all of them
pub thing_weight : (xs : Things) (i : ℕ) → option_weight (thing_at xs i) ≤ weights xs
thing_weight no_thing i = omega arith
thing_weight (a_thing x xs) zero = omega arith
thing_weight (a_thing x xs) (suc i) = let h : option_weight (thing_at xs i) ≤ weights xs = thing_weight xs i in omega (arith, h)
thing_weight (left_out xs) zero = omega arith
thing_weight (left_out xs) (suc i) = thing_weight xs i

pub member_weight : (xs : Things) (i : ℕ) (x : Option Thing) → thing_at xs i ≡ x → option_weight x ≤ weights xs
member_weight xs i x e = subst (λ z. option_weight z ≤ weights xs) e (thing_weight xs i)

-- lists that are equal index by index are equal
pub equal_things : (n : ℕ) (xs ys : Things) → count xs ≡ n → count ys ≡ n → ((j : ℕ) → j < n → thing_at xs j ≡ thing_at ys j) → xs ≡ ys
equal_things n no_thing no_thing ex ey h = refl
equal_things n no_thing (a_thing y ys) ex ey h = absurd (omega (arith, ex, ey))
equal_things n no_thing (left_out ys) ex ey h = absurd (omega (arith, ex, ey))
equal_things n (a_thing x xs) no_thing ex ey h = absurd (omega (arith, ex, ey))
equal_things n (left_out xs) no_thing ex ey h = absurd (omega (arith, ex, ey))
equal_things zero (a_thing x xs) (a_thing y ys) ex ey h = absurd (omega (arith, ex))
equal_things zero (a_thing x xs) (left_out ys) ex ey h = absurd (omega (arith, ex))
equal_things zero (left_out xs) (a_thing y ys) ex ey h = absurd (omega (arith, ex))
equal_things zero (left_out xs) (left_out ys) ex ey h = absurd (omega (arith, ex))
equal_things (suc n) (a_thing x xs) (a_thing y ys) ex ey h =
    let e : Some x ≡ Some y = h 0 (omega arith) in
    let f : xs ≡ ys = equal_things n xs ys (omega (arith, ex)) (omega (arith, ey)) (λ j l. h (suc j) (omega (arith, l))) in cc
equal_things (suc n) (a_thing x xs) (left_out ys) ex ey h = let e : Some x ≡ None = h 0 (omega arith) in absurd (cc)
equal_things (suc n) (left_out xs) (a_thing y ys) ex ey h = let e : None ≡ Some y = h 0 (omega arith) in absurd (cc)
equal_things (suc n) (left_out xs) (left_out ys) ex ey h =
    ap left_out (equal_things n xs ys (omega (arith, ex)) (omega (arith, ey)) (λ j l. h (suc j) (omega (arith, l))))

-- two things that aren't compared member by member, and differ
pub ended : {a b : Option Thing} (old : Option (List ℕ)) → (AreAlike a b → ⊥) → (a ≡ b → ⊥) → Walked a b old old false
ended None u d = ([], (u, d), tt)
ended (Some p) u d = ([], (u, d), refl)

-- a step more
pub led : (path : List ℕ) (i : ℕ) (old mid new : Option (List ℕ)) → Led path old mid → Pushed mid i new → Led (i ∷ path) old new
led path i old mid None l p = tt
led path i old None (Some new) l p = absurd p
led path i None (Some mid) (Some new) l p = absurd l
led path i (Some old) (Some mid) (Some new) l p = p ∙ ap (λ z. i ∷ z) l

-- two things that are compared member by member: a member differs, and those before it are equal
pub stepped : {a b : Option Thing} (i : ℕ) (old mid new : Option (List ℕ)) → AreAlike a b →
    ((j : ℕ) → j < i → member a j ≡ member b j) → Walked (member a i) (member b i) old mid false → Pushed mid i new →
    Walked a b old new false
stepped i old mid new alike before (path, found, l) p = (i ∷ path, (alike, before, found), led path i old mid new l p)

-- where there is a first difference, things differ
pub differs : (path : List ℕ) (a b : Option Thing) → FirstDifference a b path → a ≡ b → ⊥
differs [] a b (u, d) e = d e
differs (i ∷ path) a b (alike, before, found) e = differs path (member a i) (member b i) found (ap (λ z. member z i) e)

-- the same of things that are equal to these
pub at_things : {x a y b : Option Thing} (old new : Option (List ℕ)) (r : Bool) → x ≡ a → y ≡ b → Walked x y old new r → Walked a b old
    new r
at_things {x} {a} {y} {b} old new r ea eb w = subst (λ z. Walked z b old new r) ea (subst (λ z. Walked x z old new r) eb w)

-- a member that differs, after equal ones
pub member_differs : (a b : Option Thing) (i : ℕ) (x y : Option Thing) (first old mid new : Option (List ℕ)) (r : Bool) → AreAlike a b →
    ((j : ℕ) → j < i → member a j ≡ member b j) → member a i ≡ x → member b i ≡ y → Walked x y old mid r → r ≡ false → old ≡ first →
    Pushed mid i new → Walked a b first new false
member_differs a b i x y first old mid new r alike before ex ey w fails kept p =
    let told : Walked x y old mid false = subst (λ z. Walked x y old mid z) fails w in
    let from_first : Walked x y first mid false = subst (λ z. Walked x y z mid false) kept told in
    stepped i first mid new alike before (at_things first mid false (sym ex) (sym ey) from_first) p

-- a member that is equal, after equal ones
pub member_equal : (a b : Option Thing) (i : ℕ) (x y : Option Thing) (first old new : Option (List ℕ)) (r : Bool) →
    ((j : ℕ) → j < i → member a j ≡ member b j) → member a i ≡ x → member b i ≡ y → Walked x y old new r → r ≡ true → old ≡ first →
    ((j : ℕ) → j < i + 1 → member a j ≡ member b j) × (new ≡ first)
member_equal a b i x y first old new r before ex ey w holds kept =
    let told : Walked x y old new true = subst (λ z. Walked x y old new z) holds w in
    (below_more (λ j. member a j ≡ member b j) i before (ex ∙ told.0 ∙ sym ey), told.1 ∙ kept)

-- a list and what is none
pub row_other : (xs : Things) (y : Option Thing) (old : Option (List ℕ)) → NotRow y → Walked (Some (Row xs)) y old old false
row_other xs None old n = ended old (λ h. h) (λ e. cc)
row_other xs (Some (Leaf y)) old n = ended old (λ h. h) (λ e. cc)
row_other xs (Some (Row ys)) old n = absurd n
row_other xs (Some (Node c ys)) old n = ended old (λ h. h) (λ e. cc)

pub other_row : (x : Option Thing) (ys : Things) (old : Option (List ℕ)) → NotRow x → Walked x (Some (Row ys)) old old false
other_row None ys old n = ended old (λ h. h) (λ e. cc)
other_row (Some (Leaf x)) ys old n = ended old (λ h. h) (λ e. cc)
other_row (Some (Row xs)) ys old n = absurd n
other_row (Some (Node c xs)) ys old n = ended old (λ h. h) (λ e. cc)

-- what is neither a list, nor a leaf or a node, is nothing
pub nothing : (y : Option Thing) → IsRowOrNothing y → NotRow y → y ≡ None
nothing None p n = refl
nothing (Some (Leaf y)) p n = absurd p
nothing (Some (Row ys)) p n = absurd n
nothing (Some (Node c ys)) p n = absurd p

-- a thing and nothing
pub some_none : (x : Thing) (old : Option (List ℕ)) → Walked (Some x) None old old false
some_none (Leaf x) old = ended old (λ h. h) (λ e. cc)
some_none (Row xs) old = ended old (λ h. h) (λ e. cc)
some_none (Node c xs) old = ended old (λ h. h) (λ e. cc)

pub none_some : (y : Thing) (old : Option (List ℕ)) → Walked None (Some y) old old false
none_some y old = ended old (λ h. h) (λ e. cc)

-- a leaf and a node
pub leaf_node : (x : leaf.Leaf) (y : Thing) (old : Option (List ℕ)) → HasClass y → Walked (Some (Leaf x)) (Some y) old old false
leaf_node x (Leaf y) old n = absurd n
leaf_node x (Row ys) old n = absurd n
leaf_node x (Node c ys) old n = ended old (λ h. h) (λ e. cc)

pub node_leaf : (x : Thing) (y : leaf.Leaf) (old : Option (List ℕ)) → HasClass x → Walked (Some x) (Some (Leaf y)) old old false
node_leaf (Leaf x) y old n = absurd n
node_leaf (Row xs) y old n = absurd n
node_leaf (Node c xs) y old n = ended old (λ h. h) (λ e. cc)

-- two leaves
pub two_leaves : (x y : leaf.Leaf) (r : Bool) (old : Option (List ℕ)) → IsTrue r ↔ (x ≡ y) → Walked (Some (Leaf x)) (Some (Leaf y)) old
    old r
two_leaves x y true old h = let e : x ≡ y = h.0 refl in (ap (λ z. Some (Leaf z)) e, refl)
two_leaves x y false old h = ended old (λ a. a) (λ e. (let f : x ≡ y = cc in let g : IsTrue false = h.1 f in cc))

-- nodes of two classes
pub two_classes : (c d : Class) (xs ys : Things) (old : Option (List ℕ)) → (c ≡ d → ⊥) → Walked (Some (Node c xs)) (Some (Node d ys)) old
    old false
two_classes c d xs ys old n = ended old n (λ e. (let f : c ≡ d = cc in n f))

-- nodes of one class whose fields hold the same
pub same_fields : (c d : Class) (xs ys : Things) (n : ℕ) (old new : Option (List ℕ)) → c ≡ d → count xs ≡ n → count ys ≡ n →
    ((j : ℕ) → j < n → thing_at xs j ≡ thing_at ys j) → new ≡ old → Walked (Some (Node c xs)) (Some (Node d ys)) old new true
same_fields c d xs ys n old new alike ex ey h kept = let e : xs ≡ ys = equal_things n xs ys ex ey h in (cc, kept)

-- lists of the same elements
pub same_children : (xs ys : Things) (n : ℕ) (old new : Option (List ℕ)) → count xs ≡ n → count ys ≡ n →
    ((j : ℕ) → j < n → thing_at xs j ≡ thing_at ys j) → new ≡ old → Walked (Some (Row xs)) (Some (Row ys)) old new true
same_children xs ys n old new ex ey h kept = (ap (λ z. Some (Row z)) (equal_things n xs ys ex ey h), kept)

-- past the end of a list there is nothing
pub past_end : (xs : Things) (i : ℕ) → count xs ≤ i → thing_at xs i ≡ None
past_end no_thing i le = refl
past_end (a_thing x xs) zero le = absurd (omega (arith, le))
past_end (a_thing x xs) (suc i) le = past_end xs i (omega (arith, le))
past_end (left_out xs) zero le = absurd (omega (arith, le))
past_end (left_out xs) (suc i) le = past_end xs i (omega (arith, le))

-- where the shorter of two lists ends, the longer has an element
one_ended : (x y : Option Thing) (i m n : ℕ) (old : Option (List ℕ)) → i ≡ min m n → (m ≡ n → ⊥) → (m ≤ i → x ≡ None) →
    (x ≡ None → m ≤ i) → (n ≤ i → y ≡ None) → (y ≡ None → n ≤ i) → Walked x y old old false
one_ended None None i m n old e other px nx py ny =
    let a : m ≤ i = nx refl in let b : n ≤ i = ny refl in absurd (other (omega (arith, e, a, b)))
one_ended None (Some y) i m n old e other px nx py ny = none_some y old
one_ended (Some x) None i m n old e other px nx py ny = some_none x old
one_ended (Some x) (Some y) i m n old e other px nx py ny =
    let a : m ≤ i → ⊥ = λ l. (let f : Some x ≡ None = px l in cc) in
    let b : n ≤ i → ⊥ = λ l. (let f : Some y ≡ None = py l in cc) in
    absurd (omega (arith, e, a, b))

-- lists of other lengths that are equal as far as the shorter goes
pub other_lengths : (xs ys : Things) (i m n : ℕ) (old mid new : Option (List ℕ)) → i ≡ min m n → (m ≡ n → ⊥) → count xs ≡ m →
    count ys ≡ n → (thing_at xs i ≡ None → m ≤ i) → (thing_at ys i ≡ None → n ≤ i) →
    ((j : ℕ) → j < i → thing_at xs j ≡ thing_at ys j) → mid ≡ old → Pushed mid i new → Walked (Some (Row xs)) (Some (Row ys)) old new false
other_lengths xs ys i m n old mid new e other cx cy nx ny before kept p =
    let w : Walked (thing_at xs i) (thing_at ys i) old old false = one_ended (thing_at xs i) (thing_at ys i) i m n old e other
    (λ l. past_end xs i (omega (arith, l, cx))) nx (λ l. past_end ys i (omega (arith, l, cy))) ny in
    let q : Pushed old i new = subst (λ z. Pushed z i new) kept p in
    stepped i old old new tt before w q
