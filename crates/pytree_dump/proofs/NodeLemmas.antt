-- The descriptions of nodes, and what is appended of them.
--
-- Carries: all nodes.
use Rattle.std.proofs.Common.{◌≡◌, ℕ, zero, suc, ◌+◌, ◌<◌, ◌≤◌, ◌++◌, List, [], ◌∷◌, Bool, true, false, ◌||◌, codes, refl, ap, sym, ◌∙◌}
use Rattle.std.proofs.Common.{length, drop, take}
use Rattle.std.proofs.Common.{get_or, Result, Ok, Err, OnOk, is_ok, if◌then◌else◌, map, nat_eq, subst, arith}
use Rattle.std.proofs.lemmas.Bool.{both_ways}
use Rattle.std.proofs.lemmas.List.{append-nil, append_assoc, drop_all}
use Rattle.pytree_dump_text.specs.declared.lines.Told.{Told}
use Rattle.pytree_dump_text.specs.declared.styles.Style.{Style}
use Rattle.pytree_dump_text.specs.Shows.{Shown, Showns, Fields, Scalar, Row, Node, a_shown, no_field, no_shown, showns}
use Rattle.pytree_dump_text.specs.Layout.{before, deeper, fields, is_flat, is_short, members, shown_count, text}
use Rattle.pytree_dump_text.specs.Slots.{Slot, with_slot}
use Rattle.pytree_marked.specs.Appends.{Appends, AppendsField, AppendsNode, coming_with}
use Rattle.pytree_marked.specs.MarkedNodes.{Attributes, Placed, following, closed, fields_with, is_marked, rows_with, with_places}
use Rattle.pytree_marked.specs.Taking.{is_none_left}
use Rattle.pytree_marked.proofs.Callers.Shortness.{long_line, marked_line}
use Rattle.pytree_dump.specs.Inner.Nodes.{LaidSketch, Sketch, Sketched, SketchedShown, is_no_shown, slotted}
use Rattle.pytree_dump.specs.Inner.Weights.{weight, weights, field_weights, slot_weight}
use Rattle.pytree_dump.proofs.RowLemmas.{slot_weighs}
use Rattle.pytree_dump.proofs.TextLemmas.{dropped, node_shown}

-- ---- Descriptions.

-- of a node that may have a place
pub marked_node : (s : Style) (k : Sketch) (start : List ℕ) (fs : Fields) → k.len ≤ k.room → k.is_marked ≡ true → k.class ≡ start →
    k.fields ≡ fs → k.is_short ≡ (is_flat s.indent || is_short fs) → Sketched true s k start fs
marked_node s k start fs count marked class all short = record {
  count = count;
  marked = marked;
  class = class;
  fields = all;
  line = λ ps line e. marked_line (is_flat s.indent) k.is_short line ps fs e short;
}

-- a node without fields stands on one line
pub short_anyway : (flat : Bool) → true ≡ (flat || true)
short_anyway true = refl
short_anyway false = refl

either_flat : (ps : List Attributes) (flat short line : Bool) → line ≡ (if is_none_left ps then short else flat)
    → short ≡ flat → line ≡ flat
either_flat [] flat short line e is = e ∙ is
either_flat (p ∷ ps) flat short line e is = e

-- of a node of more than three fields
pub long_node : (m : Bool) (s : Style) (k : Sketch) (start : List ℕ) (fs : Fields) → k.len ≤ k.room → k.is_marked ≡ m → k.class ≡ start →
    k.fields ≡ fs → k.is_short ≡ is_flat s.indent → 3 < shown_count fs → Sketched m s k start fs
long_node m s k start fs count marked class all short many = record {
  count = count;
  marked = marked;
  class = class;
  fields = all;
  line = λ ps line e. either_flat ps (is_flat s.indent) k.is_short line e short ∙ long_line m (is_flat s.indent) ps fs many;
}

laid : (m : Bool) (s : Style) (k : Sketch) (start : List ℕ) (fs : Fields) → Sketched m s k start fs → LaidSketch s k
laid m s k start fs d = record {
  count = d.count;
  marked = refl;
  class = refl;
  fields = refl;
  line = λ ps line e. d.line ps line e
      ∙ (λ i. is_flat s.indent || is_short (closed (sym d.marked i) (fields_with ps (sym d.fields i))).shown);
}

pub laid_shown : (s : Style) (k : Sketch) (x : Shown) → SketchedShown s k x → LaidSketch s k
laid_shown s k (Node name fs) d = laid (is_marked name) s k (name ++ codes "(") fs d
laid_shown s k (Scalar t) d = absurd d
laid_shown s k (Row xs) d = absurd d

pub node_weight : (s : Style) (k : Sketch) (x : Shown) → SketchedShown s k x → weight x ≡ field_weights k.fields + 1
node_weight s k (Node name fs) d = ap (λ z. field_weights z + 1) (sym d.fields)
node_weight s k (Scalar t) d = absurd d
node_weight s k (Row xs) d = absurd d

-- the fields of a definition, of which the last counts or not
pub seven_counted : {A : Type 0} (g : A → Slot) (a1 a2 a3 a4 a5 a6 a7 : A) (all : Bool) (n : ℕ) → n ≡ (if all then 7 else 6) →
    slotted g (take n (a1 ∷ a2 ∷ a3 ∷ a4 ∷ a5 ∷ a6 ∷ a7 ∷ [])) ≡ with_slot (g a1) (with_slot (g a2) (with_slot (g a3) (with_slot (g a4)
    (with_slot (g a5) (with_slot (g a6) (if all then with_slot (g a7) no_field else no_field))))))
seven_counted g a1 a2 a3 a4 a5 a6 a7 true n e =
    ap (λ m. slotted g (take m (a1 ∷ a2 ∷ a3 ∷ a4 ∷ a5 ∷ a6 ∷ a7 ∷ []))) e
seven_counted g a1 a2 a3 a4 a5 a6 a7 false n e =
    ap (λ m. slotted g (take m (a1 ∷ a2 ∷ a3 ∷ a4 ∷ a5 ∷ a6 ∷ a7 ∷ []))) e

pub six_counted : {A : Type 0} (g : A → Slot) (a1 a2 a3 a4 a5 a6 a7 : A) (all : Bool) (n : ℕ) → n ≡ (if all then 6 else 5) →
    slotted g (take n (a1 ∷ a2 ∷ a3 ∷ a4 ∷ a5 ∷ a6 ∷ a7 ∷ [])) ≡ with_slot (g a1) (with_slot (g a2) (with_slot (g a3) (with_slot (g a4)
    (with_slot (g a5) (if all then with_slot (g a6) no_field else no_field)))))
six_counted g a1 a2 a3 a4 a5 a6 a7 true n e =
    ap (λ m. slotted g (take m (a1 ∷ a2 ∷ a3 ∷ a4 ∷ a5 ∷ a6 ∷ a7 ∷ []))) e
six_counted g a1 a2 a3 a4 a5 a6 a7 false n e =
    ap (λ m. slotted g (take m (a1 ∷ a2 ∷ a3 ∷ a4 ∷ a5 ∷ a6 ∷ a7 ∷ []))) e

-- ---- What is appended of a node that is described.

described : (m : Bool) (s : Style) (f o o1 : List ℕ) (ps ps1 : List Attributes) (k : Sketch) (start : List ℕ) (fs : Fields) →
    Sketched m s k start fs → AppendsNode k.is_marked s f o o1 ps ps1 k.class k.fields → AppendsNode m s f o o1 ps ps1 start fs
described m s f o o1 ps ps1 k start fs d h =
    subst (λ b. AppendsNode b s f o o1 ps ps1 start fs) d.marked
    (subst (λ z. AppendsNode k.is_marked s f o o1 ps ps1 z fs) d.class
    (subst (λ z. AppendsNode k.is_marked s f o o1 ps ps1 k.class z) d.fields h))

described_on : {T E : Type 0} (m : Bool) (s : Style) (f o o1 : List ℕ) (ps ps1 : List Attributes) (k : Sketch) (start : List ℕ)
    (fs : Fields) (r : Result T E) → Sketched m s k start fs
    → OnOk r (AppendsNode k.is_marked s f o o1 ps ps1 k.class k.fields) →
    OnOk r (AppendsNode m s f o o1 ps ps1 start fs)
described_on m s f o o1 ps ps1 k start fs (Ok x) d h = described m s f o o1 ps ps1 k start fs d h
described_on m s f o o1 ps ps1 k start fs (Err x) d h = tt

pub shown_on_ok : {T E : Type 0} (s : Style) (f o o1 : List ℕ) (ps ps1 : List Attributes) (k : Sketch) (x : Shown) (r : Result T E) →
    SketchedShown s k x → OnOk r (AppendsNode k.is_marked s f o o1 ps ps1 k.class k.fields) → OnOk r (Appends s f o o1 ps ps1 x)
shown_on_ok s f o o1 ps ps1 k (Node name fs) r d h = described_on (is_marked name) s f o o1 ps ps1 k (name ++ codes "(") fs r d h
shown_on_ok s f o o1 ps ps1 k (Scalar t) r d h = absurd d
shown_on_ok s f o o1 ps ps1 k (Row xs) r d h = absurd d

-- ---- The fields of a node, one after the other.

-- one field more
pub field_passed : {A : Type 0} (g : A → Slot) (m : Bool) (xs : List A) {i : ℕ} {x : A} (s : Style) (f : List ℕ) {f1 o o1 base : List ℕ}
    {ps ps1 : List Attributes} {t next : Told} → i < length xs → x ≡ get_or xs i x → f1 ≡ f →
    o ++ coming_with m s f ps t (slotted g (drop i xs)) ≡ base
    → AppendsField s f1 o o1 ps ps1 t next (λ rest. with_slot (g x) rest) →
    o1 ++ coming_with m s f ps1 next (slotted g (drop (i + 1) xs)) ≡ base
field_passed g m xs {i} {x} s f {f1} {o} {o1} {base} {ps} {ps1} {t} {next} lt read same so_far told =
    (λ k. o1 ++ coming_with m s (sym same k) ps1 next (slotted g (drop (i + 1) xs)))
    ∙ told.text m (slotted g (drop (i + 1) xs))
    ∙ (λ k. o ++ coming_with m s (same k) ps t (slotted g (sym (dropped xs i x lt read) k))) ∙ so_far

pub field_left : {A : Type 0} (g : A → Slot) (xs : List A) {i : ℕ} {x : A} {s : Style} {f o o1 : List ℕ}
    {ps ps1 last : List Attributes} {t next : Told} → i < length xs → x ≡ get_or xs i x →
    (fields_with ps (slotted g (drop i xs))).left ≡ last →
    AppendsField s f o o1 ps ps1 t next (λ rest. with_slot (g x) rest) → (fields_with ps1 (slotted g (drop (i + 1) xs))).left ≡ last
field_left g xs {i} {x} {s} {f} {o} {o1} {ps} {ps1} lt read so_far told =
    told.left (slotted g (drop (i + 1) xs)) ∙ (λ k. (fields_with ps (slotted g (sym (dropped xs i x lt read) k))).left) ∙ so_far

-- a part weighs no more than its node's fields
pub part_weight : {A : Type 0} (g : A → Slot) (xs : List A) (i : ℕ) (x : A) → i < length xs → x ≡ get_or xs i x →
    slot_weight (g x) ≤ field_weights (slotted g xs)
part_weight g [] i x lt read = absurd (omega (arith, lt))
part_weight g (y ∷ ys) zero x lt read =
    let e = slot_weighs (g y) (slotted g ys) in
    let k : slot_weight (g x) ≡ slot_weight (g y) = ap (λ z. slot_weight (g z)) read in
    omega (arith, e, k)
part_weight g (y ∷ ys) (suc i) x lt read =
    let e = slot_weighs (g y) (slotted g ys) in
    let l : i < length ys = omega (arith, lt) in
    let h = part_weight g ys i x l read in
    omega (arith, e, h)

-- all fields, and what ends a marked node
pub marked_ended : {A : Type 0} (g : A → Slot) (s : Style) (f : List ℕ) {f1 f2 : List ℕ} (start : List ℕ) (xs ys : List A)
    (o0 : List ℕ) {o1 : List ℕ} (o2 : List ℕ) {o3 : List ℕ}
    (ps ps1 : List Attributes) {ps2 : List Attributes} {line : Bool} (t2 : Told) {i : ℕ} → length xs ≤ i → xs ≡ ys →
    f1 ≡ deeper s.indent f → line ≡ (is_flat s.indent || is_short (closed true (fields_with ps (slotted g ys))).shown) → o1 ≡ o0 ++ start →
    o2 ++ coming_with true s f1 ps1 t2 (slotted g (drop i xs))
    ≡ o1 ++ coming_with true s f1 ps (record { one_line = line; named = s.names; first = true }) (slotted g xs) →
    (fields_with ps1 (slotted g (drop i xs))).left ≡ (fields_with ps (slotted g xs)).left → f2 ≡ f1 →
    o3 ≡ o2 ++ (coming_with true s f2 ps1 t2 no_field ++ codes ")") → ps2 ≡ following true ps1
    → AppendsNode true s f o0 o3 ps ps2 start (slotted g ys)
marked_ended g s f {f1} {f2} start xs ys o0 {o1} o2 {o3} ps ps1 {ps2} {line} t2 {i} past listed deep is begun so_far left same e taken =
    let none : drop i xs ≡ [] = drop_all i xs past in
    let all : Fields = (closed true (fields_with ps (slotted g ys))).shown in
    let told : o2 ++ coming_with true s f1 ps1 t2 no_field ≡ o1 ++ fields s f1 line s.names true all =
    (λ k. o2 ++ coming_with true s f1 ps1 t2 (slotted g (sym none k))) ∙ so_far
    ∙ (λ k. o1 ++ fields s f1 line s.names true (closed true (fields_with ps (slotted g (listed k)))).shown) in
    let whole : o3 ≡ o1 ++ fields s f1 line s.names true all ++ codes ")" =
    e ∙ (λ k. o2 ++ (coming_with true s (same k) ps1 t2 no_field ++ codes ")"))
    ∙ sym (append_assoc o2 (coming_with true s f1 ps1 t2 no_field) (codes ")"))
    ∙ ap (λ z. z ++ codes ")") told in (
      node_shown s f f1 start all o0 o1 (o1 ++ fields s f1 line s.names true all) o3 line deep is begun refl whole,
      taken ∙ ap (following true)
          ((λ k. (fields_with ps1 (slotted g (sym none k))).left) ∙ left ∙ (λ k. (fields_with ps (slotted g (listed k))).left)),
    )

-- all fields, and what ends a node that isn't marked
pub bare_ended : {A : Type 0} (g : A → Slot) (s : Style) (f : List ℕ) {f1 : List ℕ} (start : List ℕ) (xs ys : List A)
    (o0 : List ℕ) {o1 : List ℕ} (o2 : List ℕ) {o3 : List ℕ}
    (ps : List Attributes) {ps1 : List Attributes} {line : Bool} (t2 : Told) {i : ℕ} → length xs ≤ i → xs ≡ ys →
    f1 ≡ deeper s.indent f → line ≡ (is_flat s.indent || is_short (closed false (fields_with ps (slotted g ys))).shown) → o1 ≡ o0 ++ start →
    o2 ++ coming_with false s f1 ps1 t2 (slotted g (drop i xs))
    ≡ o1 ++ coming_with false s f1 ps (record { one_line = line; named = s.names; first = true }) (slotted g xs) →
    (fields_with ps1 (slotted g (drop i xs))).left ≡ (fields_with ps (slotted g xs)).left →
    o3 ≡ o2 ++ codes ")" → AppendsNode false s f o0 o3 ps ps1 start (slotted g ys)
bare_ended g s f {f1} start xs ys o0 {o1} o2 {o3} ps {ps1} {line} t2 {i} past listed deep is begun so_far left e =
    let none : drop i xs ≡ [] = drop_all i xs past in
    let all : Fields = (closed false (fields_with ps (slotted g ys))).shown in
    let told : o2 ≡ o1 ++ fields s f1 line s.names true all =
    sym (append-nil o2) ∙ (λ k. o2 ++ coming_with false s f1 ps1 t2 (slotted g (sym none k))) ∙ so_far
    ∙ (λ k. o1 ++ fields s f1 line s.names true (closed false (fields_with ps (slotted g (listed k)))).shown) in (
      node_shown s f f1 start all o0 o1 (o1 ++ fields s f1 line s.names true all) o3 line deep is begun refl
          (e ∙ ap (λ z. z ++ codes ")") told),
      (λ k. (fields_with ps1 (slotted g (sym none k))).left) ∙ left ∙ (λ k. (fields_with ps (slotted g (listed k))).left),
    )

-- ---- Lists.

-- whether a list is empty
pub empty_list : {A : Type 0} (g : A → Shown) (xs : List A) → nat_eq (length xs) 0 ≡ is_no_shown (showns (map g xs))
empty_list g [] = refl
empty_list g (x ∷ xs) = grind arith

-- an empty list at once
pub none_appended : {T E : Type 0} (xs : Showns) (s : Style) (f o o1 : List ℕ) (ps : List Attributes) (r : Result T E)
    → is_no_shown xs ≡ true
    → o1 ≡ (if is_ok r then o ++ codes "[]" else o) → OnOk r (Appends s f o o1 ps ps (Row xs))
none_appended no_shown s f o o1 ps (Ok y) e h = (h, refl)
none_appended no_shown s f o o1 ps (Err y) e h = tt
none_appended (a_shown x xs) s f o o1 ps r e h = absurd (both_ways false refl e)

-- one member more
pub next_appended : (x : Shown) (xs : Showns) {all : Showns} (s : Style) {f f1 base : List ℕ} (o : List ℕ) {o1 o2 : List ℕ}
    (first : Bool) (ps : List Attributes) {ps1 : List Attributes} → all ≡ a_shown x xs → f1 ≡ f →
    o ++ members s f first (rows_with ps all).shown ≡ base → o1 ≡ o ++ before (is_flat s.indent) f1 first → Appends s f1 o1 o2 ps ps1 x →
    o2 ++ members s f false (rows_with ps1 xs).shown ≡ base
next_appended x xs {all} s {f} {f1} {base} o {o1} {o2} first ps {ps1} split same so_far e1 e2 =
    let one : Placed Shown = with_places ps x in
    let rest : List ℕ = members s f false (rows_with one.left xs).shown in
    let grown : o2 ≡ o ++ before (is_flat s.indent) f first ++ text s f one.shown =
    e2.0 ∙ (λ k. (e1 ∙ (λ j. o ++ before (is_flat s.indent) (same j) first)) k ++ text s (same k) one.shown) in
    (λ k. o2 ++ members s f false (rows_with (e2.1 k) xs).shown)
    ∙ ap (λ z. z ++ rest) grown ∙ simp append_assoc refl
    ∙ ap (λ z. o ++ members s f first (rows_with ps z).shown) (sym split) ∙ so_far

pub next_left : (x : Shown) (xs : Showns) {all : Showns} (ps : List Attributes) {ps1 last : List Attributes} → all ≡ a_shown x xs →
    (rows_with ps all).left ≡ last → ps1 ≡ (with_places ps x).left → (rows_with ps1 xs).left ≡ last
next_left x xs {all} ps {ps1} {last} split so_far taken =
    ap (λ q. (rows_with q xs).left) taken ∙ ap (λ z. (rows_with ps z).left) (sym split) ∙ so_far

-- the whole list, of what begins it, its members and what ends it
pub list_ended : (xs : Showns) {rest : Showns} (s : Style) (f : List ℕ) {f1 : List ℕ} (o : List ℕ) {o1 : List ℕ}
    (o2 : List ℕ) {o3 : List ℕ} (first : Bool) (ps : List Attributes) {ps1 : List Attributes} →
    rest ≡ no_shown → f1 ≡ deeper s.indent f → o1 ≡ o ++ codes "[" →
    o2 ++ members s f1 first (rows_with ps1 rest).shown ≡ o1 ++ members s f1 true (rows_with ps xs).shown →
    (rows_with ps1 rest).left ≡ (rows_with ps xs).left → o3 ≡ o2 ++ codes "]" → Appends s f o o3 ps ps1 (Row xs)
list_ended xs {rest} s f {f1} o {o1} o2 {o3} first ps {ps1} none deep e1 all left e3 =
    let rows : Showns = (rows_with ps xs).shown in
    let at_end : o2 ≡ o1 ++ members s f1 true rows =
    sym (append-nil o2) ∙ (λ k. o2 ++ members s f1 first (rows_with ps1 (sym none k)).shown) ∙ all in (
      e3 ∙ ap (λ z. z ++ codes "]") (at_end ∙ (λ k. e1 k ++ members s (deep k) true rows)) ∙ simp append_assoc refl,
      (λ k. (rows_with ps1 (sym none k)).left) ∙ left,
    )

-- ---- Lists by their places.

-- an element of a list that is shown one by one
mapped_one : {A : Type 0} (g : A → Shown) (xs : List A) (i : ℕ) (x : A) → i < length xs → x ≡ get_or xs i x →
    drop i (map g xs) ≡ g x ∷ drop (suc i) (map g xs)
mapped_one g [] i x lt read = absurd (omega (arith, lt))
mapped_one g (y ∷ ys) zero x lt read = ap (λ z. g z ∷ map g ys) (sym read)
mapped_one g (y ∷ ys) (suc i) x lt read = mapped_one g ys i x (omega (arith, lt)) read

pub mapped_at : {A : Type 0} (g : A → Shown) (xs : List A) (i : ℕ) (x : A) → i < length xs → x ≡ get_or xs i x →
    drop i (map g xs) ≡ g x ∷ drop (i + 1) (map g xs)
mapped_at g xs i x lt read =
    let next : suc i ≡ i + 1 = omega arith in mapped_one g xs i x lt read ∙ ap (λ n. g x ∷ drop n (map g xs)) next

pub element_weight : (xs : List Shown) (i : ℕ) (x : Shown) (rest : List Shown) → drop i xs ≡ x ∷ rest → weight x ≤ weights (showns xs)
element_weight [] zero x rest e = cc
element_weight [] (suc i) x rest e = cc
element_weight (y ∷ ys) zero x rest e =
    let k : weight y + weights (showns ys) ≡ weight x + weights (showns rest) = ap (λ z. weights (showns z)) e in omega (arith, k)
element_weight (y ∷ ys) (suc i) x rest e = let h = element_weight ys i x rest e in omega (arith, h)
