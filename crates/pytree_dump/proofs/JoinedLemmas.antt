-- The text of nodes on one line, with the names of fields.
--
-- Carries: all of `joined`, and the lists that are empty.
use Rattle.std.proofs.Common.{◌≡◌, ◌∙◌, ap, sym, refl, ◌++◌, ◌∷◌, ◌||◌, ◌&&◌, ℕ, List, [], Bool, true, false, codes, Option, Some, None}
use Rattle.std.proofs.Common.{Result, Ok, Err, OnOk, is_ok, if◌then◌else◌, map, length, nat_eq, arith}
use Rattle.std.proofs.lemmas.Bool.{both_ways, eqb-true}
use Rattle.std.proofs.lemmas.List.{append-nil, append_assoc}
use Rattle.pytree_node.specs.declared.operators.Context.{Context}
use Rattle.pysource.specs.Reprs.{repr_text}
use Rattle.pytree_dump_text.specs.declared.styles.Style.{Style}
use Rattle.pytree_dump_text.specs.Shows.{Shown, Fields, Row, a_field, context_name, left_out, no_field, shown_name, showns, word}
use Rattle.pytree_dump_text.specs.Layout.{deeper, fields, is_flat, is_short, text}
use Rattle.pytree_dump_text.specs.Slots.{node_text}
use Rattle.pytree_marked.specs.Appends.{Appends, AppendsNode}
use Rattle.pytree_marked.specs.MarkedNodes.{Attributes, with_places}
use Rattle.pytree_marked.specs.Taking.{is_none_left}
use Rattle.pytree_marked.proofs.Callers.Unplaced.{as_unplaced, closed_unplaced}

first_of : (a b : Bool) → (a && b) ≡ true → a ≡ true
first_of true b e = refl
first_of false b e = e

second_of : (a b : Bool) → (a && b) ≡ true → b ≡ true
second_of true b e = e
second_of false b e = absurd (both_ways false refl e)

flat_front : (i : Option ℕ) (f : List ℕ) → is_flat i ≡ true → deeper i f ≡ f
flat_front None f e = refl
flat_front (Some n) f e = absurd (both_ways false refl e)

-- a node whose dump is one line with the names of fields
one_line : (s : Style) (f start : List ℕ) (fs : Fields) → (is_flat s.indent && s.names) ≡ true →
    node_text s f start fs ≡ start ++ fields s f true true true fs ++ codes ")"
one_line s f start fs e =
    let flat = first_of (is_flat s.indent) s.names e in
    λ i. start ++ fields s (flat_front s.indent f flat i) (flat i || is_short fs)
    (second_of (is_flat s.indent) s.names e i) true fs ++ codes ")"

-- an attribute's value, its name and its context
attribute_parts : (o p l v c m r d n w a b : List ℕ) →
    o ++ (p ++ (l ++ v ++ (c ++ m ++ r ++ (d ++ n ++ (w ++ a ++ [] ++ b) ++ []))) ++ b)
    ≡ ((o ++ (p ++ l)) ++ v) ++ ((c ++ m) ++ r ++ ((d ++ n) ++ w ++ (a ++ b ++ b)))
attribute_parts o p l v c m r d n w a b = simp (append_assoc, append-nil) refl

pub attribute_text : (s : Style) (f x y : List ℕ) (v : Shown) (c : Context) (o0 o1 o2 o3 : List ℕ)
    → (is_flat s.indent && s.names) ≡ true → y ≡ x →
    o1 ≡ o0 ++ codes "Attribute(value=" → o2 ≡ o1 ++ text s f v →
    o3 ≡ o2 ++ (codes ", attr=" ++ repr_text y ++ (codes ", ctx=" ++ context_name c ++ codes "())")) →
    o3 ≡ o0 ++ node_text s f (codes "Attribute(")
    (a_field (codes "value") v (a_field (codes "attr") (shown_name x) (a_field (codes "ctx") (word (context_name c)) no_field)))
attribute_text s f x y v c o0 o1 o2 o3 is same e1 e2 e3 =
    e3 ∙ (λ i. (e2 ∙ (λ j. e1 j ++ text s f v)) i ++
    (codes ", attr=" ++ repr_text (same i) ++ (codes ", ctx=" ++ context_name c ++ codes "())")))
    ∙ sym (attribute_parts o0 (codes "Attribute(") (codes "value=") (text s f v) (codes ", ") (codes "attr=") (repr_text x) (codes ", ")
    (codes "ctx=") (context_name c) (codes "(") (codes ")"))
    ∙ ap (λ z. o0 ++ z) (sym
    (one_line s f (codes "Attribute(")
    (a_field (codes "value") v (a_field (codes "attr") (shown_name x) (a_field (codes "ctx") (word (context_name c)) no_field))) is))

-- one field, of what begins it and of its value
value_parts : (o p l v b : List ℕ) → o ++ (p ++ (l ++ v ++ []) ++ b) ≡ ((o ++ (p ++ l)) ++ v) ++ b
value_parts o p l v b = simp (append_assoc, append-nil) refl

pub value_text : (s : Style) (f start k : List ℕ) (x : Shown) (o0 o1 o2 o3 : List ℕ) → (is_flat s.indent && s.names) ≡ true →
    o1 ≡ o0 ++ (start ++ (k ++ codes "=")) → o2 ≡ o1 ++ text s f x → o3 ≡ o2 ++ codes ")" →
    o3 ≡ o0 ++ node_text s f start (a_field k x no_field)
value_text s f start k x o0 o1 o2 o3 is e1 e2 e3 =
    e3 ∙ (λ i. (e2 ∙ (λ j. e1 j ++ text s f x)) i ++ codes ")")
    ∙ sym (value_parts o0 start (k ++ codes "=") (text s f x) (codes ")"))
    ∙ ap (λ w. o0 ++ w) (sym (one_line s f start (a_field k x no_field) is))

-- the fields of an assignment
two_parts : (o p l v c x b : List ℕ) → o ++ (p ++ (l ++ v ++ (c ++ x ++ [])) ++ b) ≡ (((o ++ (p ++ l)) ++ v) ++ c) ++ x ++ b
two_parts o p l v c x b = simp (append_assoc, append-nil) refl

pub assigned_text : (s : Style) (f : List ℕ) (x y : Shown) (o0 o1 o2 o3 o4 o5 : List ℕ) → (is_flat s.indent && s.names) ≡ true →
    o1 ≡ o0 ++ codes "Assign(targets=" → o2 ≡ o1 ++ text s f x → o3 ≡ o2 ++ codes ", value=" → o4 ≡ o3 ++ text s f y →
    o5 ≡ o4 ++ codes ")" →
    o5 ≡ o0 ++ node_text s f (codes "Assign(") (a_field (codes "targets") x (a_field (codes "value") y (left_out no_field)))
assigned_text s f x y o0 o1 o2 o3 o4 o5 is e1 e2 e3 e4 e5 =
    e5 ∙ (λ i. (e4 ∙ (λ j. (e3 ∙ (λ h. (e2 ∙ (λ g. e1 g ++ text s f x)) h ++ codes ", value=")) j ++ text s f y)) i ++ codes ")")
    ∙ sym (two_parts o0 (codes "Assign(") (codes "targets=") (text s f x) (codes ", value=") (text s f y) (codes ")"))
    ∙ ap (λ w. o0 ++ w) (sym (one_line s f (codes "Assign(")
    (a_field (codes "targets") x (a_field (codes "value") y (left_out no_field))) is))

-- the fields of a node that has three
three_parts : (o p l v c m x d n y b : List ℕ) →
    o ++ (p ++ (l ++ v ++ (c ++ m ++ x ++ (d ++ n ++ y ++ []))) ++ b)
    ≡ ((((o ++ (p ++ l)) ++ v) ++ (c ++ m)) ++ x) ++ ((d ++ n) ++ y ++ b)
three_parts o p l v c m x d n y b = simp (append_assoc, append-nil) refl

pub three_text : (s : Style) (f start k m n : List ℕ) (x y z : Shown) (o0 o1 o2 o3 o4 o5 : List ℕ) → (is_flat s.indent && s.names) ≡ true →
    o1 ≡ o0 ++ (start ++ (k ++ codes "=")) → o2 ≡ o1 ++ text s f x → o3 ≡ o2 ++ (codes ", " ++ (m ++ codes "=")) → o4 ≡ o3 ++ text s f y →
    o5 ≡ o4 ++ ((codes ", " ++ (n ++ codes "=")) ++ text s f z ++ codes ")") →
    o5 ≡ o0 ++ node_text s f start (a_field k x (a_field m y (a_field n z no_field)))
three_text s f start k m n x y z o0 o1 o2 o3 o4 o5 is e1 e2 e3 e4 e5 =
    let l : List ℕ = k ++ codes "=" in
    let c : List ℕ = m ++ codes "=" in
    let d : List ℕ = n ++ codes "=" in
    e5 ∙ (λ i. (e4 ∙ (λ j. (e3 ∙ (λ h. (e2 ∙ (λ g. e1 g ++ text s f x)) h ++ (codes ", " ++ c))) j ++ text s f y)) i ++
    ((codes ", " ++ d) ++ text s f z ++ codes ")"))
    ∙ sym (three_parts o0 start l (text s f x) (codes ", ") c (text s f y) (codes ", ") d (text s f z) (codes ")"))
    ∙ ap (λ w. o0 ++ w) (sym (one_line s f start (a_field k x (a_field m y (a_field n z no_field))) is))

-- what a word shows
pub word_text : (name : List ℕ) (s : Style) (f : List ℕ) → name ++ codes "()" ≡ text s f (word name)
word_text name s f = simp (append_assoc, append-nil) refl

-- the last field of a node, and what ends it
pub last_text : (o0 o1 o2 o3 label x : List ℕ) → o1 ≡ o0 ++ label → o2 ≡ o1 ++ x → o3 ≡ o2 ++ codes ")" →
    o3 ≡ o0 ++ (label ++ x ++ codes ")")
last_text o0 o1 o2 o3 label x e1 e2 e3 = e3 ∙ (λ i. (e2 ∙ (λ j. e1 j ++ x)) i ++ codes ")")
    ∙ last_parts o0 label x (codes ")")
  where
    last_parts : (o p x b : List ℕ) → ((o ++ p) ++ x) ++ b ≡ o ++ (p ++ x ++ b)
    last_parts o p x b = simp append_assoc refl

-- an empty list
pub empty_appended : {A T E : Type 0} (g : A → Shown) (xs : List A) (s : Style) (f o o1 : List ℕ) (ps : List Attributes) (r : Result T E)
    → nat_eq (length xs) 0 ≡ true →
    o1 ≡ (if is_ok r then o ++ codes "[]" else o) → OnOk r (Appends s f o o1 ps ps (Row (showns (map g xs))))
empty_appended g [] s f o o1 ps (Ok y) e h = (h, refl)
empty_appended g [] s f o o1 ps (Err y) e h = tt
empty_appended g (x ∷ xs) s f o o1 ps r e h =
    let none : length (x ∷ xs) ≡ 0 = eqb-true (length (x ∷ xs)) 0 e in
    absurd (omega (arith, none))

pub empty_row : {A : Type 0} (g : A → Shown) (xs : List A) (s : Style) (f : List ℕ) → nat_eq (length xs) 0 ≡ true →
    text s f (Row (showns (map g xs))) ≡ codes "[]"
empty_row g [] s f e = refl
empty_row g (x ∷ xs) s f e =
    let none : length (x ∷ xs) ≡ 0 = eqb-true (length (x ∷ xs)) 0 e in
    absurd (omega (arith, none))

-- ---- Where no place is left.

pub none_is : (ps : List Attributes) → is_none_left ps ≡ true → ps ≡ []
none_is [] e = refl
none_is (p ∷ ps) e = absurd (both_ways false refl e)

pub none_left : (ps : List Attributes) (b : Bool) → (is_none_left ps && b) ≡ true → ps ≡ []
none_left ps b e = none_is ps (first_of (is_none_left ps) b e)

pub joined_style : (ps : List Attributes) (b : Bool) → (is_none_left ps && b) ≡ true → b ≡ true
joined_style ps b e = second_of (is_none_left ps) b e

pub text_of_none : (s : Style) (f o o1 : List ℕ) (ps : List Attributes) (x : Shown) → ps ≡ []
    → o1 ≡ o ++ text s f (with_places ps x).shown → o1 ≡ o ++ text s f x
text_of_none s f o o1 ps x none e = e ∙ (λ i. o ++ text s f (as_unplaced ps x none i).shown)

pub left_of_none : (ps ps1 : List Attributes) (x : Shown) → ps ≡ [] → ps1 ≡ (with_places ps x).left → ps1 ≡ []
left_of_none ps ps1 x none taken = taken ∙ ap (λ z. z.left) (as_unplaced ps x none)

pub joined_node : (m : Bool) (s : Style) (f o o1 : List ℕ) (ps ps1 : List Attributes) (start : List ℕ) (fs : Fields) → ps ≡ [] → ps1 ≡ [] →
    o1 ≡ o ++ node_text s f start fs → AppendsNode m s f o o1 ps ps1 start fs
joined_node m s f o o1 ps ps1 start fs none last e = (
  e ∙ (λ i. o ++ node_text s f start (sym (closed_unplaced m ps fs none) i).shown),
  last
      ∙ sym (ap (λ z. z.left) (closed_unplaced m ps fs none)),
)

-- what is shown as without places
pub unplaced_appended : (s : Style) (f o o1 : List ℕ) (ps : List Attributes) (x : Shown) → ps ≡ [] → o1 ≡ o ++ text s f x
    → Appends s f o o1 ps ps x
unplaced_appended s f o o1 ps x none e =
    (e ∙ (λ i. o ++ text s f (sym (as_unplaced ps x none) i).shown), none ∙ sym (ap (λ z. z.left) (as_unplaced ps x none)))

-- ---- Results.

pub on_always : {T E Q : Type 0} (r : Result T E) → Q → OnOk r Q
on_always (Ok x) h = h
on_always (Err e) h = tt

pub on_both : {T E A B C : Type 0} (r : Result T E) → (A → B → C) → OnOk r A → OnOk r B → OnOk r C
on_both (Ok x) f a b = f a b
on_both (Err e) f a b = tt
