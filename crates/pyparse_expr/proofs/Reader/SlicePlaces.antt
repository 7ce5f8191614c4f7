-- The places of what a subscript holds.
--
-- Carries: read_slices, read_part, read_slice, slice_rest, perhaps. On: Slices, Levels and Readings of pyplaces, ListPlaces.
use Rattle.std.proofs.Common.{◌≡◌, refl, sym, ap, ◌∙◌, subst, ℕ, ◌+◌, List, [], ◌∷◌, ◌++◌, map, Some, None, Result, Ok, Err}
use Rattle.std.specs.Prelude.{IfOk}
use Rattle.pylex_lexeme.specs.declared.kinds.Exact.TheVariants.{Colon, ColonEqual, Comma, Star}
use Rattle.pytree_node.specs.declared.operators.Context.TheVariants.{Load}
use Rattle.pytree_node.specs.Trees
use Rattle.pytree_node.specs.Trees.{Expr, OptionalExpr, absent, exprs, optional}
use Rattle.pytree_node.specs.TreeOf.{tree_of, boxed_of}
use Rattle.pytoken.specs.Terminals.{Terminal, Op}
use Rattle.pytoken.specs.declared.values.terminals.Terminal as given
use Rattle.pygrammar.specs.declared.levels.Level.TheVariants.{Expression, Named, Slices, Slice, Part}
use Rattle.pygrammar.specs.Entries.{Item, Of}
use Rattle.pygrammar.specs.Looks.{is_op}
use Rattle.pyparse_nodes.specs.declared.found.Items.{Items}
use Rattle.pyparse_nodes.specs.declared.found.Optional.{Optional}
use Rattle.pyparse_nodes.specs.declared.found.Read.{Read}
use Rattle.pyparse_nodes.specs.declared.stop.Stop.{Stop}
use Rattle.pyparse_nodes.specs.Answers.{Makes}
use Rattle.pyparse_nodes.specs.Views.{Stands, IsNotNamed, seen, first_is}
use Rattle.pyplaces.specs.Stretches.{Stretch, stretch}
use Rattle.pyplaces.specs.EntryPlaces as E
use Rattle.pyplaces.specs.Placed.{PlacedPerhaps}
use Rattle.pyplaces.specs.Recording.{Records}
use Rattle.pyplaces.specs.Rests.{PlacedPart, starred, unstarred}
use Rattle.pyplaces.proofs.Answers.{placed_as, read_from, records_made, records_node, records_more}
use Rattle.pyplaces.proofs.Expressions.Levels.{placed_parts, placed_something}
use Rattle.pyplaces.proofs.Expressions.Readings.{named_expression, part_alone, part_starred, placed_part}
use Rattle.pyplaces.proofs.Expressions.Slices.{placed_slice, placed_slice_step}
use Rattle.pyparse_expr.specs.Inner.PlacedLists.{TuplePlaced}
use Rattle.pyparse_expr.proofs.Lists.ListPlaces.{ItemPlaced, item_placed}
use Rattle.pyparse_expr.proofs.Recorders.Misses.{lacks_sign, not_named}
use Rattle.pyparse_expr.proofs.Recorders.Reads.{ReadPlaced, LeftPlaced, after_left, made_left}

-- a part, read at a place, with what stands first
abbrev pub PartPlaced : {S : Type 0} (after : S → Stretch → S) (ts : List given.Terminal) (at : ℕ) (old new : S) → Read → Type 0
PartPlaced after ts at old new r =
    (ps : List Stretch) × PlacedPart (seen ts at) at (tree_of r.expr.value) (seen ts r.next) r.next ps × Records after old ps new

-- an expression that may be absent
abbrev pub OptionalPlaced : {S : Type 0} (after : S → Stretch → S) (ts : List given.Terminal) (at : ℕ) (old new : S) → Optional → Type 0
OptionalPlaced after ts at old new r =
    (ps : List Stretch) × PlacedPerhaps Expression (seen ts at) at (optional (boxed_of r.expr)) (seen ts r.next) r.next ps
    × Records after old ps new

part_as : {i : List Terminal} {at n k : ℕ} {e f : Expr} {ps : List Stretch} (rest : ℕ → List Terminal) → f ≡ e → k ≡ n
    → PlacedPart i at e (rest n) n ps → PlacedPart i at f (rest k) k ps
part_as {i} {at = at} {n = n} {e = e} {f = f} {ps = ps} rest h q p =
    subst (λ z. PlacedPart i at f (rest z) z ps) (sym q) (subst (λ z. PlacedPart i at z (rest n) n ps) (sym h) p)

module _ {S : Type 0} (after : S → Stretch → S) (ts : List given.Terminal) (at : ℕ) where
  -- ---- One part.
  pub part_star_placed : {u v w : S} (e : Read) (room : ℕ) (z : Result Read Stop) → ReadPlaced after ts Expression (at + 1) u v e
      → Stands (Op Star) ts at → w ≡ after v (stretch at e.next) → Makes room (Trees.Starred (tree_of e.expr.value) Load) e.next z
      → IfOk z (λ r. PartPlaced after ts at u w r)
  part_star_placed e room (Ok r) p s h m = (
    p.0 ++ (stretch at e.next ∷ []),
    part_as (seen ts) m.tree m.next_is (starred s.is p.1),
    records_more p.2 (records_node h),
  )
  part_star_placed e room (Err x) p s h m = tt

  pub part_plain_placed : (u v : S) (z : Result Read Stop) → None ≡ first_is (is_op Star) (seen ts at)
      → IfOk z (λ r. ReadPlaced after ts Slice at u v r) → IfOk z (λ r. PartPlaced after ts at u v r)
  part_plain_placed u v (Ok r) n p = (p.0, unstarred (lacks_sign (seen ts at) Star n) p.1, p.2)
  part_plain_placed u v (Err e) n p = tt

  -- as an item of a list
  pub part_item_placed : {j : Item} (u v : S) (z : Result Read Stop) → j ≡ Of Part → IfOk z (λ r. PartPlaced after ts at u v r)
      → IfOk z (λ r. ItemPlaced after ts j at u v r)
  part_item_placed u v (Ok r) h p = item_placed after ts at u v Part (Ok r) h (p.0, placed_part p.1, p.2)
  part_item_placed u v (Err e) h p = tt

  -- ---- All of them.
  pub slices_tuple_placed : {u v : S} (first : Read) (w : S) (z : Result Read Stop) → PartPlaced after ts at u v first
      → Stands (Op Comma) ts first.next → IfOk z (λ r. TuplePlaced after ts (Of Part) first at r v w)
      → IfOk z (λ r. ReadPlaced after ts Slices at u w r)
  slices_tuple_placed first w (Ok r) p s t = (
    p.0 ++ (E.singles t.places ++ (stretch at r.next ∷ [])),
    placed_as (seen ts) t.tree refl (placed_parts (placed_part p.1) s.is t.listing),
    records_more p.2 t.records,
  )
  slices_tuple_placed first w (Err e) p s t = tt

  pub slices_star_placed : {u v w : S} (first : Read) (items : Items) (room : ℕ) (z : Result Read Stop) → PartPlaced after ts at u v first
      → Stands (Op Star) ts at → map tree_of items.exprs.items ≡ tree_of first.expr.value ∷ [] → items.next ≡ first.next
      → w ≡ after v (stretch at items.next) → Makes room (Trees.Tuple (exprs (map tree_of items.exprs.items)) Load) items.next z
      → IfOk z (λ r. ReadPlaced after ts Slices at u w r)
  slices_star_placed first items room (Ok r) p s i k h m = (
    p.0 ++ (stretch at first.next ∷ []),
    placed_as (seen ts) (m.tree ∙ ap (λ z. Trees.Tuple (exprs z) Load) i) (m.next_is ∙ k) (part_starred p.1 s.is),
    records_more p.2 (records_made h k),
  )
  slices_star_placed first items room (Err x) p s i k h m = tt

  pub slices_alone_placed : {u v : S} (first : Read) → PartPlaced after ts at u v first → None ≡ first_is (is_op Star) (seen ts at)
      → ReadPlaced after ts Slices at u v first
  slices_alone_placed first p n = (p.0, part_alone p.1 (lacks_sign (seen ts at) Star n), p.2)

  -- ---- A slice.
  pub slice_from_placed : {u v : S} (lower : Read) (w : S) (z : Result Read Stop) → (p : ReadPlaced after ts Named at u v lower)
      → IsNotNamed ColonEqual ts at → Stands (Op Colon) ts lower.next
      → ((n : ℕ) (ps : List Stretch) → Stands (Op Colon) ts n → lower.next + 1 ≡ n + 1
      → PlacedPerhaps Expression (seen ts at) at (optional (Some (tree_of lower.expr.value))) (seen ts n) n ps
      → IfOk z (λ r. LeftPlaced after ts Slice (seen ts at) at ps v w r))
      → IfOk z (λ r. ReadPlaced after ts Slice at u w r)
  slice_from_placed lower w z p m s f = after_left ts Slice (seen ts at) at w z p.2
      (f lower.next p.0 s refl (placed_something (named_expression p.1 (not_named (seen ts at) m.is))))

module _ {S : Type 0} {after : S → Stretch → S} {ts : List given.Terminal} {from at n : ℕ} {lower : OptionalExpr} {ps : List Stretch}
    {u v : S} (upper : Optional) (colon : Stands (Op Colon) ts n) (q : at ≡ n + 1)
    (l : PlacedPerhaps Expression (seen ts from) from lower (seen ts n) n ps) (d : OptionalPlaced after ts at u v upper) where
  pub slice_placed : {w : S} (room : ℕ) (z : Result Read Stop) → w ≡ after v (stretch from upper.next)
      → Makes room (Trees.Slice lower (optional (boxed_of upper.expr)) absent) upper.next z
      → IfOk z (λ r. LeftPlaced after ts Slice (seen ts from) from ps u w r)
  slice_placed room z h m = made_left ts ps room upper.next z m refl (placed_slice l colon.is (read_from (seen ts) (sym q) d.1))
      (records_more d.2 (records_node h))

  pub slice_step_placed : {w x : S} (step : Optional) (room : ℕ) (z : Result Read Stop) → Stands (Op Colon) ts upper.next
      → OptionalPlaced after ts (upper.next + 1) v w step → x ≡ after w (stretch from step.next)
      → Makes room (Trees.Slice lower (optional (boxed_of upper.expr)) (optional (boxed_of step.expr))) step.next z
      → IfOk z (λ r. LeftPlaced after ts Slice (seen ts from) from ps u x r)
  slice_step_placed step room z s e h m = made_left ts ps room step.next z m refl
      (placed_slice_step l colon.is (read_from (seen ts) (sym q) d.1) s.is e.1) (records_more d.2 (records_more e.2 (records_node h)))
