-- The walk takes as many places as there are marked nodes, where that many are left.
--
-- Carries: of `pytree_dump` the dump of a module with places.
use Rattle.std.proofs.Common.{◌≡◌, ℕ, ◌+◌, List, [], ◌∷◌, Bool, true, false, cond, drop, refl, ap, ◌∙◌, arith}
use Rattle.std.proofs.lemmas.List.{drop-drop}
use Rattle.pytree_dump_text.specs.Shows.{Shown, Showns, Fields, Scalar, Row, Node, no_shown, a_shown, no_field, a_field, left_out}
use Rattle.pytree_marked.specs.MarkedNodes.{Attributes, following, fields_with, is_marked, marked, marked_fields, marked_rows, rows_with}
use Rattle.pytree_marked.specs.MarkedNodes.{with_places}

following_one : (ps : List Attributes) → following true ps ≡ drop 1 ps
following_one [] = refl
following_one (p ∷ ps) = refl

node_taken : (m : Bool) (n : ℕ) (ps qs : List Attributes) → qs ≡ drop n ps → following m qs ≡ drop (cond m (1 + n) n) ps
node_taken false n ps qs e = e
node_taken true n ps qs e =
    let k : n + 1 ≡ 1 + n = omega arith in
    ap (following true) e ∙ following_one (drop n ps) ∙ drop-drop 1 n ps ∙ ap (λ m. drop m ps) k

mutual
  pub taken : (x : Shown) (ps : List Attributes) → (with_places ps x).left ≡ drop (marked x) ps
  taken (Scalar t) ps = refl
  taken (Row xs) ps = taken_rows xs ps
  taken (Node name fs) ps = node_taken (is_marked name) (marked_fields fs) ps (fields_with ps fs).left (taken_fields fs ps)

  taken_rows : (xs : Showns) (ps : List Attributes) → (rows_with ps xs).left ≡ drop (marked_rows xs) ps
  taken_rows no_shown ps = refl
  taken_rows (a_shown x xs) ps = taken_rows xs (with_places ps x).left ∙ ap (drop (marked_rows xs)) (taken x ps)
      ∙ drop-drop (marked_rows xs) (marked x) ps

  taken_fields : (fs : Fields) (ps : List Attributes) → (fields_with ps fs).left ≡ drop (marked_fields fs) ps
  taken_fields no_field ps = refl
  taken_fields (a_field name x fs) ps = taken_fields fs (with_places ps x).left ∙ ap (drop (marked_fields fs)) (taken x ps)
      ∙ drop-drop (marked_fields fs) (marked x) ps
  taken_fields (left_out fs) ps = taken_fields fs ps
