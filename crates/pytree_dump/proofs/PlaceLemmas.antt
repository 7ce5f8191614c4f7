-- The text of fields, nodes and lists under places, as it is appended.
--
-- Carries: all that is shown.
use Rattle.std.proofs.Common.{◌≡◌, ℕ, ◌+◌, ◌<◌, ◌≤◌, ◌++◌, List, [], ◌∷◌, Bool, true, false, ◌||◌, codes, refl, ap, sym, ◌∙◌, length, drop}
use Rattle.std.proofs.Common.{map, get_or, Result, Ok, Err, IfOk, OnOk, subst}
use Rattle.std.proofs.lemmas.Bool.{both_ways}
use Rattle.std.proofs.lemmas.List.{append-nil, append_assoc, drop_all}
use Rattle.pytree_node.specs.declared.profiles.Profile.{Profile}
use Rattle.pytree_node.specs.declared.statements.Stmt as given_stmt
use Rattle.pytree_node.specs.TreeOf.{stmt_of}
use Rattle.pytree_dump_text.specs.Blocks.{shown_block}
use Rattle.pytree_dump_text.specs.declared.styles.Style.{Style}
use Rattle.pytree_dump_text.specs.declared.lines.Told.{Told}
use Rattle.pytree_dump_text.specs.Shows.{Shown, Showns, Fields, Row, Node, a_field, left_out, no_field, no_shown, showns}
use Rattle.pytree_dump_text.specs.Shows.{shown_module}
use Rattle.pytree_dump_text.specs.Layout.{before, deeper, dump_text, fields, is_flat, is_short, label, members, text}
use Rattle.pytree_dump_text.specs.Slots.{Slot, missing, field, coming, is_missing, slot_name, slot_shown, with_slot}
use Rattle.pytree_marked.specs.MarkedNodes.{Attributes, Placed, placed, following, closed, fields_with, rows_with, with_places}
use Rattle.pytree_marked.specs.Appends.{Appends, AppendsField, AppendsNode, coming_with}
use Rattle.pytree_dump.proofs.BlockLemmas.{stmts_row}
use Rattle.pytree_dump.proofs.TextLemmas.{dropped, node_shown}

parts3 : (o a b c : List ℕ) → o ++ a ++ b ++ c ≡ o ++ (a ++ b ++ c)
parts3 o a b c = simp append_assoc refl

parts4 : (o a b c d : List ℕ) → o ++ a ++ b ++ c ++ d ≡ o ++ (a ++ b ++ c ++ d)
parts4 o a b c d = simp append_assoc refl

-- ---- Scalars and words.

-- what takes no place
pub bare_appended : (s : Style) (f o o1 : List ℕ) (x : Shown) (ps : List Attributes) → with_places ps x ≡ placed x ps →
    o1 ≡ o ++ text s f x → Appends s f o o1 ps ps x
bare_appended s f o o1 x ps plain h = (h ∙ (λ i. o ++ text s f (sym plain i).shown), sym (ap (λ z. z.left) plain))

pub plain_appended : {T E : Type 0} (s : Style) (f o o1 : List ℕ) (x : Shown) (ps : List Attributes) (r : Result T E)
    → with_places ps x ≡ placed x ps →
    OnOk r (o1 ≡ o ++ text s f x) → OnOk r (Appends s f o o1 ps ps x)
plain_appended s f o o1 x ps (Ok y) plain h = bare_appended s f o o1 x ps plain h
plain_appended s f o o1 x ps (Err y) plain h = tt

-- ---- Fields.

-- a field, of what stands before its value, and of the value
pub field_appended : (s : Style) (f f1 o o1 o2 : List ℕ) (ps ps1 : List Attributes) (t : Told) (name : List ℕ) (x : Shown) → f1 ≡ f →
    o1 ≡ o ++ before t.one_line f1 t.first ++ label t.named name → Appends s f o1 o2 ps ps1 x →
    AppendsField s f o o2 ps ps1 t (record { one_line = t.one_line; named = t.named; first = false }) (λ rest. a_field name x rest)
field_appended s f f1 o o1 o2 ps ps1 t name x same e1 e2 =
    let next : Told = record { one_line = t.one_line; named = t.named; first = false } in
    let one : Placed Shown = with_places ps x in
    let grown : o2 ≡ o ++ before t.one_line f t.first ++ label t.named name ++ text s f one.shown =
    e2.0 ∙ (λ i. (e1 ∙ (λ j. o ++ before t.one_line (same j) t.first ++ label t.named name)) i ++ text s f one.shown) in
    record {
      text = λ m rest.
          (λ i. o2 ++ coming_with m s f (e2.1 i) next rest) ∙ ap (λ z. z ++ coming_with m s f one.left next rest) grown
          ∙ parts4 o (before t.one_line f t.first) (label t.named name) (text s f one.shown) (coming_with m s f one.left next rest);
      left = λ rest. ap (λ q. (fields_with q rest).left) e2.1;
    }

-- a field that is left out
pub absent_appended : (s : Style) (f o : List ℕ) (ps : List Attributes) (t next : Told) →
    ((s : Style) (f : List ℕ) (rest : Fields) → coming s f next rest ≡ coming s f t (left_out rest)) →
    AppendsField s f o o ps ps t next (λ rest. left_out rest)
absent_appended s f o ps t next h = record {
  text = λ m rest. ap (λ z. o ++ z) (h s f (closed m (fields_with ps rest)).shown);
  left = λ rest. refl;
}

pub slot_appended : (s : Style) (f f1 o o1 o2 : List ℕ) (ps ps1 : List Attributes) (t : Told) (a : Slot) (name : List ℕ)
    → is_missing a ≡ false → name ≡ slot_name a → f1 ≡ f →
    o1 ≡ o ++ before t.one_line f1 t.first ++ label t.named name → Appends s f o1 o2 ps ps1 (slot_shown a) →
    AppendsField s f o o2 ps ps1 t (record { one_line = t.one_line; named = t.named; first = false }) (λ rest. with_slot a rest)
slot_appended s f f1 o o1 o2 ps ps1 t missing name there named same e1 e2 = absurd (both_ways true there refl)
slot_appended s f f1 o o1 o2 ps ps1 t (field n x) name there named same e1 e2 =
    field_appended s f f1 o o1 o2 ps ps1 t n x same (e1 ∙ (λ i. o ++ before t.one_line f1 t.first ++ label t.named (named i))) e2

pub slot_absent : (s : Style) (f o : List ℕ) (ps : List Attributes) (t next : Told) (a : Slot) → is_missing a ≡ true →
    ((s : Style) (f : List ℕ) (rest : Fields) → coming s f next rest ≡ coming s f t (left_out rest)) →
    AppendsField s f o o ps ps t next (λ rest. with_slot a rest)
slot_absent s f o ps t next missing gone h = absent_appended s f o ps t next h
slot_absent s f o ps t next (field n x) gone h = absurd (both_ways false refl gone)

-- a field, and others after it
pub then_field : {s : Style} {f g o o1 o2 : List ℕ} {ps ps1 ps2 : List Attributes} {t t1 t2 : Told} {F G : Fields → Fields} →
    AppendsField s f o o1 ps ps1 t t1 F → g ≡ f → AppendsField s g o1 o2 ps1 ps2 t1 t2 G
    → AppendsField s f o o2 ps ps2 t t2 (λ rest. F (G rest))
then_field {s} {f} {g} {o} {o1} {o2} {ps} {ps1} {ps2} {t} {t1} {t2} {F} {G} a same b = record {
  text = λ m rest. (λ i. o2 ++ coming_with m s (sym same i) ps2 t2 rest) ∙ b.text m rest
      ∙ (λ i. o1 ++ coming_with m s (same i) ps1 t1 (G rest)) ∙ a.text m (G rest);
  left = λ rest. b.left rest ∙ a.left (G rest);
}

-- ---- Nodes.

-- a marked node, of what begins it, its fields, and what ends it
pub node_ended : (s : Style) (f : List ℕ) {f1 f2 : List ℕ} (start : List ℕ) (F : Fields → Fields) (o0 : List ℕ) {o1 o2 o3 : List ℕ}
    {ps ps1 ps2 : List Attributes} {line : Bool} {t2 : Told} →
    f1 ≡ deeper s.indent f → line ≡ (is_flat s.indent || is_short (closed true (fields_with ps (F no_field))).shown) → o1 ≡ o0 ++ start →
    AppendsField s f1 o1 o2 ps ps1 (record { one_line = line; named = s.names; first = true }) t2 F → f2 ≡ f1 →
    o3 ≡ o2 ++ (coming_with true s f2 ps1 t2 no_field ++ codes ")") → ps2 ≡ following true ps1
    → AppendsNode true s f o0 o3 ps ps2 start (F no_field)
node_ended s f {f1} {f2} start F o0 {o1} {o2} {o3} {ps} {ps1} {ps2} {line} {t2} deep is begun told same e taken =
    let all : Fields = (closed true (fields_with ps (F no_field))).shown in
    let whole : o3 ≡ o1 ++ fields s f1 line s.names true all ++ codes ")" =
    e ∙ (λ i. o2 ++ (coming_with true s (same i) ps1 t2 no_field ++ codes ")"))
    ∙ sym (append_assoc o2 (coming_with true s f1 ps1 t2 no_field) (codes ")"))
    ∙ ap (λ z. z ++ codes ")") (told.text true no_field) in (
      node_shown s f f1 start all o0 o1 (o1 ++ fields s f1 line s.names true all) o3 line deep is begun refl whole,
      taken
          ∙ ap (following true) (told.left no_field),
    )

-- a node that isn't marked
pub plain_ended : (s : Style) (f : List ℕ) {f1 : List ℕ} (start : List ℕ) (F : Fields → Fields) (o0 : List ℕ) {o1 o2 o3 : List ℕ}
    {ps ps1 : List Attributes} {line : Bool} {t2 : Told} →
    f1 ≡ deeper s.indent f → line ≡ (is_flat s.indent || is_short (closed false (fields_with ps (F no_field))).shown) → o1 ≡ o0 ++ start →
    AppendsField s f1 o1 o2 ps ps1 (record { one_line = line; named = s.names; first = true }) t2 F →
    o3 ≡ o2 ++ codes ")" → AppendsNode false s f o0 o3 ps ps1 start (F no_field)
plain_ended s f {f1} start F o0 {o1} {o2} {o3} {ps} {ps1} {line} {t2} deep is begun told e =
    let all : Fields = (closed false (fields_with ps (F no_field))).shown in
    let whole : o3 ≡ o1 ++ fields s f1 line s.names true all ++ codes ")" =
    e ∙ ap (λ z. z ++ codes ")") (sym (append-nil o2) ∙ told.text false no_field) in
    (node_shown s f f1 start all o0 o1 (o1 ++ fields s f1 line s.names true all) o3 line deep is begun refl whole, told.left no_field)

-- ---- Lists.

-- one member more of a list
pub member_appended : {A : Type 0} (g : A → Shown) (xs : List A) {i : ℕ} {x : A} (s : Style) {f f1 base : List ℕ}
    (o : List ℕ) {o1 o2 : List ℕ}
    (first : Bool) (ps : List Attributes) {ps1 : List Attributes} →
    i < length xs → x ≡ get_or xs i x → f1 ≡ f → o ++ members s f first (rows_with ps (showns (map g (drop i xs)))).shown ≡ base →
    o1 ≡ o ++ before (is_flat s.indent) f1 first → Appends s f1 o1 o2 ps ps1 (g x) →
    o2 ++ members s f false (rows_with ps1 (showns (map g (drop (i + 1) xs)))).shown ≡ base
member_appended g xs {i} {x} s {f} {f1} {base} o {o1} {o2} first ps {ps1} lt read same so_far e1 e2 =
    let one : Placed Shown = with_places ps (g x) in
    let rest : List ℕ = members s f false (rows_with one.left (showns (map g (drop (i + 1) xs)))).shown in
    let grown : o2 ≡ o ++ before (is_flat s.indent) f first ++ text s f one.shown =
    e2.0 ∙ (λ k. (e1 ∙ (λ j. o ++ before (is_flat s.indent) (same j) first)) k ++ text s (same k) one.shown) in
    (λ k. o2 ++ members s f false (rows_with (e2.1 k) (showns (map g (drop (i + 1) xs)))).shown)
    ∙ ap (λ z. z ++ rest) grown ∙ parts3 o (before (is_flat s.indent) f first) (text s f one.shown) rest
    ∙ ap (λ z. o ++ members s f first (rows_with ps (showns (map g z))).shown) (sym (dropped xs i x lt read)) ∙ so_far

pub member_left : {A : Type 0} (g : A → Shown) (xs : List A) {i : ℕ} {x : A} (ps : List Attributes) {ps1 last : List Attributes} →
    i < length xs → x ≡ get_or xs i x → (rows_with ps (showns (map g (drop i xs)))).left ≡ last → ps1 ≡ (with_places ps (g x)).left →
    (rows_with ps1 (showns (map g (drop (i + 1) xs)))).left ≡ last
member_left g xs {i} {x} ps {ps1} {last} lt read so_far taken =
    ap (λ q. (rows_with q (showns (map g (drop (i + 1) xs)))).left) taken
    ∙ ap (λ z. (rows_with ps (showns (map g z))).left) (sym (dropped xs i x lt read)) ∙ so_far

-- a list, of what begins it, its members and what ends it
pub row_ended : {A : Type 0} (g : A → Shown) (xs : List A) {i : ℕ} (s : Style) (f : List ℕ) {f1 : List ℕ} (o : List ℕ) {o1 : List ℕ}
    (o2 : List ℕ) {o3 : List ℕ} (first : Bool) (ps : List Attributes) {ps1 : List Attributes} →
    length xs ≤ i → f1 ≡ deeper s.indent f → o1 ≡ o ++ codes "[" →
    o2 ++ members s f1 first (rows_with ps1 (showns (map g (drop i xs)))).shown ≡ o1 ++ members s f1 true
    (rows_with ps (showns (map g xs))).shown →
    (rows_with ps1 (showns (map g (drop i xs)))).left ≡ (rows_with ps (showns (map g xs))).left → o3 ≡ o2 ++ codes "]" →
    Appends s f o o3 ps ps1 (Row (showns (map g xs)))
row_ended g xs {i} s f {f1} o {o1} o2 {o3} first ps {ps1} past deep e1 all left e3 =
    let none : drop i xs ≡ [] = drop_all i xs past in
    let rows : Showns = (rows_with ps (showns (map g xs))).shown in
    let at_end : o2 ≡ o1 ++ members s f1 true rows =
    sym (append-nil o2) ∙ (λ k. o2 ++ members s f1 first (rows_with ps1 (showns (map g (sym none k)))).shown) ∙ all in (
      e3 ∙ ap (λ z. z ++ codes "]") (at_end ∙ (λ k. e1 k ++ members s (deep k) true rows))
          ∙ parts3 o (codes "[") (members s (deeper s.indent f) true rows) (codes "]"),
      (λ k. (rows_with ps1 (showns (map g (sym none k)))).left) ∙ left,
    )

-- what is shown in another form
pub shown_as : (s : Style) (f o o1 : List ℕ) (ps ps1 : List Attributes) (x y : Shown) → x ≡ y → Appends s f o o1 ps ps1 x
    → Appends s f o o1 ps ps1 y
shown_as s f o o1 ps ps1 x y same e = (
  e.0 ∙ (λ i. o ++ text s f (with_places ps (same i)).shown),
  e.1
      ∙ (λ i. (with_places ps (same i)).left),
)

pub shown_on : {T E : Type 0} (s : Style) (f o o1 : List ℕ) (ps ps1 : List Attributes) (r : Result T E) (x y : Shown) → x ≡ y
    → OnOk r (Appends s f o o1 ps ps1 x) → OnOk r (Appends s f o o1 ps ps1 y)
shown_on s f o o1 ps ps1 (Ok z) x y same e = shown_as s f o o1 ps ps1 x y same e
shown_on s f o o1 ps ps1 (Err z) x y same e = tt

-- ---- Modules.

pub module_line : (flat line : Bool) (ps : List Attributes) (p : Profile) (body : List given_stmt.Stmt) →
    line ≡ (flat || is_short (a_field (codes "body") (shown_block p body) (a_field (codes "type_ignores") (Row no_shown) no_field))) →
    line ≡ (flat || is_short
    (closed false (fields_with ps
    (a_field (codes "body") (shown_block p body) (a_field (codes "type_ignores") (Row no_shown) no_field)))).shown)
module_line flat line ps p [] e = e
module_line flat line ps p (x ∷ xs) e = e

module_shown : (s : Style) (body items : List given_stmt.Stmt) → body ≡ items →
    Node (codes "Module") (a_field (codes "body") (shown_block s.profile body) (a_field (codes "type_ignores") (Row no_shown) no_field))
    ≡ shown_module s.profile (record { body = map stmt_of items })
module_shown s body items same =
    (λ i. Node (codes "Module") (a_field (codes "body") (shown_block s.profile (same i))
    (a_field (codes "type_ignores") (Row no_shown) no_field)))
    ∙ (λ i. Node (codes "Module") (a_field (codes "body") (Row (sym (stmts_row s.profile items) i))
    (a_field (codes "type_ignores") (Row no_shown) no_field)))

pub module_text : (s : Style) (f o o1 : List ℕ) (ps ps1 : List Attributes) (body items : List given_stmt.Stmt) → body ≡ items
    → o ≡ [] → f ≡ codes "\n" →
    Appends s f o o1 ps ps1
    (Node (codes "Module") (a_field (codes "body") (shown_block s.profile body)
    (a_field (codes "type_ignores") (Row no_shown) no_field))) →
    o1 ≡ dump_text s (with_places ps (shown_module s.profile (record { body = map stmt_of items }))).shown
module_text s f o o1 ps ps1 body items same none line e =
    (shown_as s f o o1 ps ps1 _ _ (module_shown s body items same) e).0
    ∙ (λ i. none i ++ text s (line i) (with_places ps (shown_module s.profile (record { body = map stmt_of items }))).shown)

pub module_left : (s : Style) (f o o1 : List ℕ) (ps ps1 : List Attributes) (body items : List given_stmt.Stmt) → body ≡ items →
    Appends s f o o1 ps ps1
    (Node (codes "Module") (a_field (codes "body") (shown_block s.profile body)
    (a_field (codes "type_ignores") (Row no_shown) no_field))) →
    ps1 ≡ (with_places ps (shown_module s.profile (record { body = map stmt_of items }))).left
module_left s f o o1 ps ps1 body items same e = (shown_as s f o o1 ps ps1 _ _ (module_shown s body items same) e).1
