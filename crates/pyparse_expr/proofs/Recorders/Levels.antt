-- The places of the levels above the operators, and of yield forms.
--
-- Carries: read_value, read_subject, yield_step, read_stars, read_star_item, read_elem, read_named, read_expression, if_else_step.
-- On: Made, Looks; Levels, Readings and Listings of pyplaces.
use Rattle.std.proofs.Common.{◌≡◌, refl, sym, ap, subst, ◌∙◌, ℕ, ◌+◌, List, [], ◌∷◌, ◌++◌, None, Result, Ok, Err, append_assoc}
use Rattle.std.specs.Prelude.{IfOk}
use Rattle.pylex_lexeme.specs.declared.kinds.Exact.TheVariants.{Comma, Star, ColonEqual}
use Rattle.pytoken.specs.declared.keywords.Keyword.TheVariants as Key
use Rattle.pytree_node.specs.declared.operators.Context.TheVariants.{Load, Store}
use Rattle.pytree_node.specs.Trees
use Rattle.pytree_node.specs.Trees.{Expr}
use Rattle.pytree_node.specs.TreeOf.{tree_of}
use Rattle.pytoken.specs.Terminals.{Terminal, Op, Word}
use Rattle.pytoken.specs.declared.values.terminals.Terminal as given
use Rattle.pygrammar.specs.declared.levels.Level.TheVariants as level
use Rattle.pygrammar.specs.Entries.{Of}
use Rattle.pygrammar.specs.Looks.{is_op}
use Rattle.pyparse_nodes.specs.declared.found.Read.{Read}
use Rattle.pyparse_nodes.specs.declared.stop.Stop.{Stop}
use Rattle.pyparse_nodes.specs.Answers.{Made, Makes}
use Rattle.pyparse_nodes.specs.Views.{IsNamed, Stands, seen, first_is}
use Rattle.pyparse_expr.specs.Inner.PlacedLists.{TuplePlaced}
use Rattle.pyplaces.specs.Stretches.{Stretch, stretch}
use Rattle.pyplaces.specs.Placed.{Placed, PlacedYields}
use Rattle.pyplaces.specs.Recording.{Records, afters}
use Rattle.pyplaces.proofs.Answers.{placed_as, records_node, records_made, records_more}
use Rattle.pyplaces.proofs.Expressions.Levels.{placed_next, placed_yields, placed_star_tuple, placed_subject_tuple, placed_star_item}
use Rattle.pyplaces.proofs.Expressions.Levels.{placed_star_elem, placed_named, placed_if_else}
use Rattle.pyplaces.proofs.Expressions.Readings.{elem_named}
use Rattle.pyparse_expr.proofs.Recorders.Made.{Whole, whole_made}
use Rattle.pyparse_reads.proofs.Callers.Looks.{no_op}

-- ---- Yield forms: after the word, with the place of the whole.
abbrev pub Yielded : {S : Type 0} → (S → Stretch → S) → List given.Terminal → (begin at : ℕ) → S → S → Read → Type 0
Yielded after ts begin at u v r = (ps : List Stretch) × PlacedYields (seen ts at) at (tree_of r.expr.value) (seen ts r.next) r.next ps ×
    Records after u (ps ++ (stretch begin r.next ∷ [])) v

yields_as : {i : List Terminal} {at n k : ℕ} {e f : Expr} {ps : List Stretch} (rest : ℕ → List Terminal) → f ≡ e → k ≡ n
    → PlacedYields i at e (rest n) n ps → PlacedYields i at f (rest k) k ps
yields_as {i} {at} {n} {e = e} {f = f} {ps = ps} rest h q p =
    subst (λ z. PlacedYields i at f (rest z) z ps) (sym q) (subst (λ z. PlacedYields i at z (rest n) n ps) (sym h) p)

module _ {S : Type 0} (after : S → Stretch → S) (u v : S) (ts : List given.Terminal) where
  pub yields_made : {w : S} {ps : List Stretch} (begin at room : ℕ) (e : Expr) (n : ℕ) (z : Result Read Stop) → Makes room e n z
      → PlacedYields (seen ts at) at e (seen ts n) n ps → Records after u ps w → v ≡ after w (stretch begin n)
      → IfOk z (Yielded after ts begin at u v)
  yields_made {ps = ps} begin at room e n (Ok r) m p k h =
      (ps, yields_as (seen ts) m.tree m.next_is p, records_more k (records_made h (sym m.next_is)))
  yields_made begin at room e n (Err s) m p k h = tt

  pub value_yielded : (at : ℕ) (z : Result Read Stop) → Stands (Word Key.Yield) ts at → IfOk z (Yielded after ts at (at + 1) u v)
      → IfOk z (Whole after ts level.Value (seen ts at) at u v)
  value_yielded at (Ok r) s h = (h.0 ++ (stretch at r.next ∷ []), placed_yields s.is h.1, h.2)
  value_yielded at (Err e) s h = tt

  -- ---- A Tuple without brackets.
  pub stars_tupled : {w : S} {ps : List Stretch} (at : ℕ) (first : Read) (z : Result Read Stop)
      → Placed level.StarItem (seen ts at) at (tree_of first.expr.value) (seen ts first.next) first.next ps → Records after u ps w
      → Stands (Op Comma) ts first.next → IfOk z (λ r. TuplePlaced after ts (Of level.StarItem) first at r w v)
      → IfOk z (Whole after ts level.Stars (seen ts at) at u v)
  stars_tupled {ps = ps} at first (Ok r) p k s h =
      (_, placed_as (seen ts) h.tree refl (placed_star_tuple p s.is h.listing), records_more k h.records)
  stars_tupled at first (Err e) p k s h = tt

  pub subject_tupled : {w : S} {ps : List Stretch} (at : ℕ) (first : Read) (z : Result Read Stop)
      → Placed level.Elem (seen ts at) at (tree_of first.expr.value) (seen ts first.next) first.next ps → Records after u ps w
      → Stands (Op Comma) ts first.next → IfOk z (λ r. TuplePlaced after ts (Of level.Elem) first at r w v)
      → IfOk z (Whole after ts level.Subject (seen ts at) at u v)
  subject_tupled {ps = ps} at first (Ok r) p k s h =
      (_, placed_as (seen ts) h.tree refl (placed_subject_tuple p s.is h.listing), records_more k h.records)
  subject_tupled at first (Err e) p k s h = tt

  -- ---- A Starred.
  pub item_starred : {w : S} {ps : List Stretch} (at room : ℕ) (e : Read) (z : Result Read Stop) → Stands (Op Star) ts at
      → Placed level.BitOr (seen ts (at + 1)) (at + 1) (tree_of e.expr.value) (seen ts e.next) e.next ps → Records after u ps w
      → v ≡ after w (stretch at e.next) → Makes room (Trees.Starred (tree_of e.expr.value) Load) e.next z
      → IfOk z (Whole after ts level.StarItem (seen ts at) at u v)
  item_starred at room e z s p k h m =
      whole_made after u v ts level.StarItem (seen ts at) at room (Trees.Starred (tree_of e.expr.value) Load) e.next z m
      (placed_star_item s.is p)
      (records_more k (records_node h))

  pub elem_starred : {w : S} {ps : List Stretch} (at room : ℕ) (e : Read) (z : Result Read Stop) → Stands (Op Star) ts at
      → Placed level.BitOr (seen ts (at + 1)) (at + 1) (tree_of e.expr.value) (seen ts e.next) e.next ps → Records after u ps w
      → v ≡ after w (stretch at e.next) → Makes room (Trees.Starred (tree_of e.expr.value) Load) e.next z
      → IfOk z (Whole after ts level.Elem (seen ts at) at u v)
  elem_starred at room e z s p k h m =
      whole_made after u v ts level.Elem (seen ts at) at room (Trees.Starred (tree_of e.expr.value) Load) e.next z m
      (placed_star_elem s.is p)
      (records_more k (records_node h))

  -- ---- `:=`, whose Name comes first.
  pub named_placed : {w y : S} {ps : List Stretch} (at room n : ℕ) (x : List ℕ) (target value : Read) (z : Result Read Stop)
      → IsNamed ColonEqual x ts at → w ≡ after u (stretch at (at + 1))
      → Placed level.Expression (seen ts (at + 2)) (at + 2) (tree_of value.expr.value) (seen ts value.next) value.next ps
      → Records after w ps y → v ≡ after y (stretch at value.next) → Made 1 (Trees.Name x Store) n target
      → Makes room (Trees.NamedExpr (tree_of target.expr.value) (tree_of value.expr.value)) value.next z
      → IfOk z (Whole after ts level.Named (seen ts at) at u v)
  named_placed {ps = ps} at room n x target value z s g p k h t m =
      let name : Trees.Name s.name.form Store ≡ tree_of target.expr.value = ap (λ f. Trees.Name f Store) s.form ∙ sym t.tree in
      whole_made after u v ts level.Named (seen ts at) at room (Trees.NamedExpr (tree_of target.expr.value) (tree_of value.expr.value))
      value.next z m
      (subst (λ a. Placed level.Named (seen ts at) at (Trees.NamedExpr a (tree_of value.expr.value)) (seen ts value.next) value.next
      (stretch at (at + 1) ∷ (ps ++ (stretch at value.next ∷ [])))) name (placed_named s.is p))
      (records_more (records_node g) (records_more k (records_node h)))

-- an element without a star that stands alone
pub subject_one : {i r : List Terminal} {at following : ℕ} {e : Expr} {ps : List Stretch} → Placed level.Elem i at e r following ps
    → None ≡ first_is (is_op Star) i → Placed level.Subject i at e r following ps
subject_one p n = placed_next (elem_named p (no_op Star n))

-- ---- A conditional: the body's places are set aside, and come after the test's.

module _ {S : Type 0} (after beside : S → Stretch → S) where
  still : (count : S → ℕ) → ((w : S) (s : Stretch) → count (after w s) ≡ count w) → (w : S) (ps : List Stretch)
      → count (afters after w ps) ≡ count w
  still count f w [] = refl
  still count f w (s ∷ ps) = still count f (after w s) ps ∙ f w s

  -- what is recorded and what is set aside, in either order
  beside_one : ((w : S) (s t : Stretch) → beside (after w s) t ≡ after (beside w t) s) → (w : S) (ps : List Stretch) (s : Stretch)
      → afters beside (after w s) ps ≡ after (afters beside w ps) s
  beside_one apart w [] s = refl
  beside_one apart w (t ∷ ps) s = ap (λ y. afters beside y ps) (apart w s t) ∙ beside_one apart (beside w t) ps s

  beside_all : ((w : S) (s t : Stretch) → beside (after w s) t ≡ after (beside w t) s) → (w : S) (ps qs : List Stretch)
      → afters beside (afters after w qs) ps ≡ afters after (afters beside w ps) qs
  beside_all apart w ps [] = refl
  beside_all apart w ps (s ∷ qs) = beside_all apart (after w s) ps qs ∙ ap (λ y. afters after y qs) (beside_one apart w ps s)

  -- set aside, some more recorded, and taken back
  pub moved_after : {w a b c d : S} {ps qs : List Stretch} {before kept : ℕ} (recorded_count aside_count : S → ℕ)
      → ((w : S) (s t : Stretch) → beside (after w s) t ≡ after (beside w t) s)
      → ((w : S) (s : Stretch) → aside_count (after w s) ≡ aside_count w) → Records after w ps a → before ≡ recorded_count w
      → kept ≡ aside_count a
      → ((x : S) (xs : List Stretch) → a ≡ afters after x xs → before ≡ recorded_count x → b ≡ afters beside x xs)
      → Records after b qs c
      → ((x : S) (xs : List Stretch) → c ≡ afters beside x xs → kept ≡ aside_count x → d ≡ afters after x xs)
      → Records after w (qs ++ ps) d
  moved_after {w} {a} {b} {c} {d} {ps} {qs} {kept = kept} recorded_count aside_count apart f h n k aside g back =
      let set : b ≡ afters beside w ps = aside w ps h.is n in
      let read : c ≡ afters beside (afters after w qs) ps = g.is ∙ ap (λ y. afters after y qs) set ∙ sym (beside_all apart w ps qs) in
      let same : kept ≡ aside_count (afters after w qs) =
      k ∙ ap aside_count h.is ∙ still aside_count f w ps ∙ sym (still aside_count f w qs) in
      let front : Records after w qs (afters after w qs) = record { is = refl } in
      let following : Records after (afters after w qs) ps d = record { is = back (afters after w qs) ps read same } in
      records_more front following

module _ {S : Type 0} (after : S → Stretch → S) (w v : S) (ts : List given.Terminal) where
  pub if_else_placed : {x y : S} {ps qs ws : List Stretch} (at room : ℕ) (test body orelse : Read) (z : Result Read Stop)
      → Placed level.Or (seen ts at) at (tree_of body.expr.value) (seen ts body.next) body.next ps → Stands (Word Key.If) ts body.next
      → Placed level.Or (seen ts (body.next + 1)) (body.next + 1) (tree_of test.expr.value) (seen ts test.next) test.next qs
      → Records after w (qs ++ ps) x → Stands (Word Key.Else) ts test.next
      → Placed level.Expression (seen ts (test.next + 1)) (test.next + 1) (tree_of orelse.expr.value) (seen ts orelse.next) orelse.next ws
      → Records after x ws y → v ≡ after y (stretch at orelse.next)
      → Makes room (Trees.IfExp (tree_of test.expr.value) (tree_of body.expr.value) (tree_of orelse.expr.value)) orelse.next z
      → IfOk z (Whole after ts level.Expression (seen ts at) at w v)
  if_else_placed {ps = ps} {qs = qs} {ws = ws} at room test body orelse z p s q k t o j h m =
      whole_made after w v ts level.Expression (seen ts at) at room
      (Trees.IfExp (tree_of test.expr.value) (tree_of body.expr.value) (tree_of orelse.expr.value)) orelse.next z m
      (placed_if_else p s.is q t.is o) (regrouped (records_more k (records_more j (records_node h))))
    where
      regrouped : Records after w ((qs ++ ps) ++ (ws ++ (stretch at orelse.next ∷ []))) v
          → Records after w (qs ++ (ps ++ (ws ++ (stretch at orelse.next ∷ [])))) v
      regrouped r = subst (λ l. Records after w l v) (append_assoc qs ps (ws ++ (stretch at orelse.next ∷ []))) r
