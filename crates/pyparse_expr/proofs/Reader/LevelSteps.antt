-- The levels above the operators, by what stands at a place.
--
-- Carries: the levels. On: Reading.
pub use Rattle.pyparse_reads.proofs.Callers.Looks.{name_miss}
use Rattle.std.proofs.Common.{◌≡◌, refl, ap, subst, ◌∙◌, arith, ℕ, ◌+◌, ◌-◌, ◌≤◌, List, [], ◌∷◌, length, Option, Some, None, Result, Ok}
use Rattle.pylex_lexeme.specs.declared.kinds.Exact.{Exact}
use Rattle.pylex_lexeme.specs.declared.kinds.Exact.TheVariants.{Star, Comma, Colon, ColonEqual}
use Rattle.pytoken.specs.declared.keywords.Keyword.TheVariants as Key
use Rattle.pytree_node.specs.declared.operators.Context.TheVariants.{Load, Store}
use Rattle.pytree_node.specs.Trees
use Rattle.pytree_node.specs.Trees.{Expr, an_expr, no_exprs, absent, present}
use Rattle.pytree_node.specs.TreeOf.{tree_of}
use Rattle.pytoken.specs.Terminals.{Terminal, Op, Word}
use Rattle.pytoken.specs.declared.values.terminals.Terminal as given
use Rattle.pygrammar.specs.declared.levels.Level.{Level}
use Rattle.pygrammar.specs.declared.levels.Level.TheVariants as level
use Rattle.pygrammar.specs.Entries.{Of, singles}
use Rattle.pygrammar.specs.Looks.{is_op, is_word, name_in}
use Rattle.pygrammar.specs.Reader.{Answer, Found, NoForm, and_then, on_first, on_some, on_name_with, tupled, listing_of, yield_step}
use Rattle.pygrammar.specs.Reader.{if_else_step, lambda_step, slice_rest, unnamed, unstarred}
use Rattle.pygrammar.specs.Capped.{cap}
use Rattle.pyparse_reads.specs.declared.depth.Depth.{Depth}
use Rattle.pyparse_nodes.specs.declared.found.Read.{Read}
use Rattle.pyparse_nodes.specs.declared.stop.Stop.{Stop}
use Rattle.pyparse_nodes.specs.Answers.{Answered, FoundAt, Made, Makes}
use Rattle.pyparse_reads.specs.Readings.{IsOpen, reads}
use Rattle.pyparse_expr.specs.Inner.Readings.{inner_reads, level_at}
use Rattle.pyparse_nodes.specs.Views.{Stands, IsNamed, IsNotNamed, seen, first_is}
use Rattle.pyparse_expr.proofs.Reader.Reading.{by_level, again, earlier, node, first_miss}

-- what was read is the answer
pub ended : (ts : List given.Terminal) (room least : ℕ) (r : Read) → least ≤ r.next → r.next ≤ length ts → r.height ≤ room
    → Answered ts room least (cap room (Found (tree_of r.expr.value) (seen ts r.next))) (Ok r)
ended ts room least r le w h = again ts room least (Found (tree_of r.expr.value) (seen ts r.next)) (Ok r)
    (record { ahead = le; within = w; low = h; is = refl })

-- what was read further in
pub inner_found : (ts : List given.Terminal) (least : ℕ) (d i : Depth) (l : Level) (x : List Terminal) (r : Read) → i.steps ≡ d.steps - 1
    → i.room ≡ d.room - 1 → FoundAt ts i.room least (reads i l x) r → FoundAt ts (d.room - 1) least (inner_reads d l x) r
inner_found ts least d i l x r p q f = record {
  ahead = f.ahead;
  within = f.within;
  low = omega (arith, q, f.low);
  is = rw (← p, ← q) f.is;
}

module _ (ts : List given.Terminal) (d : Depth) (at : ℕ) (o : IsOpen d) where
  pub elem_star : (e : Read) (z : Result Read Stop) → Stands (Op Star) ts at
      → FoundAt ts (d.room - 1) (at + 1 + 1) (inner_reads d level.BitOr (seen ts (at + 1))) e
      → Makes d.room (Trees.Starred (tree_of e.expr.value) Load) e.next z → Answered ts d.room (at + 1) (reads d level.Elem (seen ts at)) z
  elem_star e z s f m = by_level ts (at + 1) d level.Elem (seen ts at) z o
      (rw (s.is, f.is) (node ts d.room (at + 1) (Trees.Starred (tree_of e.expr.value) Load) e.next z (omega (arith, f.ahead)) f.within m))

  pub item_star : (e : Read) (z : Result Read Stop) → Stands (Op Star) ts at
      → FoundAt ts (d.room - 1) (at + 1 + 1) (inner_reads d level.BitOr (seen ts (at + 1))) e
      → Makes d.room (Trees.Starred (tree_of e.expr.value) Load) e.next z
      → Answered ts d.room (at + 1) (reads d level.StarItem (seen ts at)) z
  item_star e z s f m = by_level ts (at + 1) d level.StarItem (seen ts at) z o
      (rw (s.is, f.is) (node ts d.room (at + 1) (Trees.Starred (tree_of e.expr.value) Load) e.next z (omega (arith, f.ahead)) f.within m))

  pub elem_plain : (z : Result Read Stop) → None ≡ first_is (is_op Star) (seen ts at)
      → Answered ts d.room (at + 1) (reads d level.Named (seen ts at)) z → Answered ts d.room (at + 1) (reads d level.Elem (seen ts at)) z
  elem_plain z n h =
      let q : level_at d level.Elem (seen ts at) ≡ cap d.room (reads d level.Named (seen ts at)) =
      ap (λ y. cap d.room y) (first_miss (is_op Star) (seen ts at) _ _ n) in
      by_level ts (at + 1) d level.Elem (seen ts at) z o (rw q (again ts d.room (at + 1) (reads d level.Named (seen ts at)) z h))

  pub item_plain : (z : Result Read Stop) → None ≡ first_is (is_op Star) (seen ts at)
      → Answered ts d.room (at + 1) (reads d level.Expression (seen ts at)) z
      → Answered ts d.room (at + 1) (reads d level.StarItem (seen ts at)) z
  item_plain z n h =
      let q : level_at d level.StarItem (seen ts at) ≡ cap d.room (reads d level.Expression (seen ts at)) =
      ap (λ y. cap d.room y) (first_miss (is_op Star) (seen ts at) _ _ n) in
      by_level ts (at + 1) d level.StarItem (seen ts at) z o (rw q (again ts d.room (at + 1) (reads d level.Expression (seen ts at)) z h))

  pub part_star : (e : Read) (z : Result Read Stop) → Stands (Op Star) ts at
      → FoundAt ts (d.room - 1) (at + 1 + 1) (inner_reads d level.Expression (seen ts (at + 1))) e
      → Makes d.room (Trees.Starred (tree_of e.expr.value) Load) e.next z → Answered ts d.room (at + 1) (reads d level.Part (seen ts at)) z
  part_star e z s f m = by_level ts (at + 1) d level.Part (seen ts at) z o
      (rw (s.is, f.is) (node ts d.room (at + 1) (Trees.Starred (tree_of e.expr.value) Load) e.next z (omega (arith, f.ahead)) f.within m))

  pub part_plain : (z : Result Read Stop) → None ≡ first_is (is_op Star) (seen ts at)
      → Answered ts d.room (at + 1) (reads d level.Slice (seen ts at)) z → Answered ts d.room (at + 1) (reads d level.Part (seen ts at)) z
  part_plain z n h =
      let q : level_at d level.Part (seen ts at) ≡ cap d.room (reads d level.Slice (seen ts at)) =
      ap (λ y. cap d.room y) (first_miss (is_op Star) (seen ts at) _ _ n) in
      by_level ts (at + 1) d level.Part (seen ts at) z o (rw q (again ts d.room (at + 1) (reads d level.Slice (seen ts at)) z h))

  pub expression_lambda : (z : Result Read Stop) → Stands (Word Key.Lambda) ts at
      → Answered ts d.room (at + 1 + 1) (cap d.room (lambda_step (inner_reads d) (seen ts (at + 1)))) z
      → Answered ts d.room (at + 1) (reads d level.Expression (seen ts at)) z
  expression_lambda z s h = by_level ts (at + 1) d level.Expression (seen ts at) z o
      (rw s.is (earlier ts d.room d.room (at + 1) (at + 1 + 1) (cap d.room (lambda_step (inner_reads d) (seen ts (at + 1)))) z
      (omega arith) (omega arith) h))

  expression_is : (b : Read) → None ≡ first_is (is_word Key.Lambda) (seen ts at)
      → FoundAt ts d.room (at + 1) (reads d level.Or (seen ts at)) b → level_at d level.Expression (seen ts at) ≡ cap d.room
      (if_else_step (inner_reads d) (tree_of b.expr.value) (seen ts b.next))
  expression_is b n f = ap (λ z. cap d.room z) (first_miss (is_word Key.Lambda) (seen ts at) (λ _ r. lambda_step (inner_reads d) r)
      (and_then (reads d level.Or (seen ts at)) (λ e r. if_else_step (inner_reads d) e r)) n
      ∙ ap (λ z. and_then z (λ e r. if_else_step (inner_reads d) e r)) f.is)

  pub expression_if : (b : Read) (z : Result Read Stop) → None ≡ first_is (is_word Key.Lambda) (seen ts at)
      → FoundAt ts d.room (at + 1) (reads d level.Or (seen ts at)) b → Stands (Word Key.If) ts b.next
      → Answered ts d.room (b.next + 1)
      (cap d.room (and_then (inner_reads d level.Or (seen ts (b.next + 1)))
      (λ a r2. on_first (is_word Key.Else) r2 (λ _ r3. and_then (inner_reads d level.Expression r3)
      (λ c r4. Found (Trees.IfExp a (tree_of b.expr.value) c) r4)) NoForm))) z
      → Answered ts d.room (at + 1) (reads d level.Expression (seen ts at)) z
  expression_if b z n f s h = by_level ts (at + 1) d level.Expression (seen ts at) z o
      (rw (expression_is b n f, s.is) (earlier ts d.room d.room (at + 1) (b.next + 1) _ z (omega arith) (omega (arith, f.ahead)) h))

  pub expression_alone : (b : Read) → None ≡ first_is (is_word Key.Lambda) (seen ts at)
      → FoundAt ts d.room (at + 1) (reads d level.Or (seen ts at)) b → None ≡ first_is (is_word Key.If) (seen ts b.next)
      → FoundAt ts d.room (at + 1) (reads d level.Expression (seen ts at)) b
  expression_alone b n f m =
      let e = expression_is b n f
      ∙ ap (λ z. cap d.room z) (first_miss (is_word Key.If) (seen ts b.next) _ (Found (tree_of b.expr.value) (seen ts b.next)) m) in
      by_level ts (at + 1) d level.Expression (seen ts at) (Ok b) o (rw e (ended ts d.room (at + 1) b f.ahead f.within f.low))

  pub named_hit : (x : List ℕ) (v t : Read) (n : ℕ) (z : Result Read Stop) → IsNamed ColonEqual x ts at
      → FoundAt ts (d.room - 1) (at + 2 + 1) (inner_reads d level.Expression (seen ts (at + 2))) v → Made 1 (Trees.Name x Store) n t
      → Makes d.room (Trees.NamedExpr (tree_of t.expr.value) (tree_of v.expr.value)) v.next z
      → Answered ts d.room (at + 1) (reads d level.Named (seen ts at)) z
  named_hit x v t n z s f g m =
      let w = subst (λ (y : Expr). Makes d.room (Trees.NamedExpr y (tree_of v.expr.value)) v.next z) g.tree m in
      by_level ts (at + 1) d level.Named (seen ts at) z o
      (rw (s.is, s.form, f.is) (node ts d.room (at + 1) (Trees.NamedExpr (Trees.Name x Store) (tree_of v.expr.value)) v.next z
      (omega (arith, f.ahead)) f.within w))

  pub named_plain : (z : Result Read Stop) → IsNotNamed ColonEqual ts at
      → Answered ts d.room (at + 1) (reads d level.Expression (seen ts at)) z
      → Answered ts d.room (at + 1) (reads d level.Named (seen ts at)) z
  named_plain z s h =
      let e : level_at d level.Named (seen ts at) ≡ cap d.room (reads d level.Expression (seen ts at)) =
      ap (λ y. cap d.room y) (name_miss ColonEqual ts at _ (reads d level.Expression (seen ts at)) s) in
      by_level ts (at + 1) d level.Named (seen ts at) z o (rw e (again ts d.room (at + 1) _ z h))

  pub stars_tuple : (b : Read) (z : Result Read Stop) → FoundAt ts d.room (at + 1) (reads d level.StarItem (seen ts at)) b
      → Stands (Op Comma) ts b.next
      → Answered ts d.room b.next
      (cap d.room (and_then (listing_of (inner_reads d) (Of level.StarItem) [] (seen ts (b.next + 1)))
      (λ es r. Found (Trees.Tuple (an_expr (tree_of b.expr.value) (singles es)) Load) r))) z
      → Answered ts d.room (at + 1) (reads d level.Stars (seen ts at)) z
  stars_tuple b z f s h = by_level ts (at + 1) d level.Stars (seen ts at) z o
      (rw (f.is, s.is) (earlier ts d.room d.room (at + 1) b.next _ z (omega arith) f.ahead h))

  pub stars_alone : (b : Read) → FoundAt ts d.room (at + 1) (reads d level.StarItem (seen ts at)) b
      → None ≡ first_is (is_op Comma) (seen ts b.next) → FoundAt ts d.room (at + 1) (reads d level.Stars (seen ts at)) b
  stars_alone b f n =
      let e : level_at d level.Stars (seen ts at) ≡ cap d.room (Found (tree_of b.expr.value) (seen ts b.next)) =
      ap (λ z. cap d.room (and_then z (λ a r. tupled (inner_reads d) (Of level.StarItem) a r (Found a r)))) f.is
      ∙ ap (λ z. cap d.room z) (first_miss (is_op Comma) (seen ts b.next) _ (Found (tree_of b.expr.value) (seen ts b.next)) n) in
      by_level ts (at + 1) d level.Stars (seen ts at) (Ok b) o (rw e (ended ts d.room (at + 1) b f.ahead f.within f.low))

  pub slice_open : (z : Result Read Stop) → Stands (Op Colon) ts at
      → Answered ts d.room (at + 1) (cap d.room (slice_rest (inner_reads d) absent (seen ts (at + 1)))) z
      → Answered ts d.room (at + 1) (reads d level.Slice (seen ts at)) z
  slice_open z s h = by_level ts (at + 1) d level.Slice (seen ts at) z o (rw s.is h)

  abbrev slice_with : Expr → List Terminal → Answer Expr
  slice_with e r = on_first (is_op Colon) r (λ _ r1. unnamed (seen ts at) (slice_rest (inner_reads d) (present e) r1)) (Found e r)

  slice_is : (b : Read) → None ≡ first_is (is_op Colon) (seen ts at) → FoundAt ts d.room (at + 1) (reads d level.Named (seen ts at)) b
      → level_at d level.Slice (seen ts at) ≡ cap d.room (slice_with (tree_of b.expr.value) (seen ts b.next))
  slice_is b n f = ap (λ z. cap d.room z) (first_miss (is_op Colon) (seen ts at) (λ _ r. slice_rest (inner_reads d) absent r)
      (and_then (reads d level.Named (seen ts at)) slice_with) n ∙ ap (λ z. and_then z slice_with) f.is)

  pub slice_from : (b : Read) (z : Result Read Stop) → None ≡ first_is (is_op Colon) (seen ts at)
      → FoundAt ts d.room (at + 1) (reads d level.Named (seen ts at)) b → Stands (Op Colon) ts b.next → IsNotNamed ColonEqual ts at
      → Answered ts d.room (b.next + 1) (cap d.room (slice_rest (inner_reads d) (present (tree_of b.expr.value)) (seen ts (b.next + 1)))) z
      → Answered ts d.room (at + 1) (reads d level.Slice (seen ts at)) z
  slice_from b z n f s m h =
      let k : slice_with (tree_of b.expr.value) (seen ts b.next) ≡ slice_rest (inner_reads d) (present (tree_of b.expr.value))
      (seen ts (b.next + 1)) =
      rw s.is (name_miss ColonEqual ts at (λ _ _. NoForm) (slice_rest (inner_reads d) (present (tree_of b.expr.value))
      (seen ts (b.next + 1))) m) in
      let e = slice_is b n f ∙ ap (λ z. cap d.room z) k in
      by_level ts (at + 1) d level.Slice (seen ts at) z o
      (rw e (earlier ts d.room d.room (at + 1) (b.next + 1) _ z (omega arith) (omega (arith, f.ahead)) h))

  pub slice_alone : (b : Read) → None ≡ first_is (is_op Colon) (seen ts at) → FoundAt ts d.room (at + 1) (reads d level.Named (seen ts at))
      b → None ≡ first_is (is_op Colon) (seen ts b.next) → FoundAt ts d.room (at + 1) (reads d level.Slice (seen ts at)) b
  slice_alone b n f m =
      let e = slice_is b n f
      ∙ ap (λ z. cap d.room z) (first_miss (is_op Colon) (seen ts b.next) _ (Found (tree_of b.expr.value) (seen ts b.next)) m) in
      by_level ts (at + 1) d level.Slice (seen ts at) (Ok b) o (rw e (ended ts d.room (at + 1) b f.ahead f.within f.low))

  abbrev slices_with : Expr → List Terminal → Answer Expr
  slices_with e r = tupled (inner_reads d) (Of level.Part) e r
      (on_first (is_op Star) (seen ts at) (λ _ _. Found (Trees.Tuple (an_expr e no_exprs) Load) r) (Found e r))

  slices_is : (b : Read) → FoundAt ts d.room (at + 1) (reads d level.Part (seen ts at)) b
      → level_at d level.Slices (seen ts at) ≡ cap d.room (slices_with (tree_of b.expr.value) (seen ts b.next))
  slices_is b f = ap (λ z. cap d.room (and_then z slices_with)) f.is

  pub slices_tuple : (b : Read) (z : Result Read Stop) → FoundAt ts d.room (at + 1) (reads d level.Part (seen ts at)) b
      → Stands (Op Comma) ts b.next
      → Answered ts d.room b.next
      (cap d.room (and_then (listing_of (inner_reads d) (Of level.Part) [] (seen ts (b.next + 1)))
      (λ es r. Found (Trees.Tuple (an_expr (tree_of b.expr.value) (singles es)) Load) r))) z
      → Answered ts d.room (at + 1) (reads d level.Slices (seen ts at)) z
  slices_tuple b z f s h = by_level ts (at + 1) d level.Slices (seen ts at) z o
      (rw (slices_is b f, s.is) (earlier ts d.room d.room (at + 1) b.next _ z (omega arith) f.ahead h))

  pub slices_star : (b : Read) (es : List Expr) (n : ℕ) (z : Result Read Stop)
      → FoundAt ts d.room (at + 1) (reads d level.Part (seen ts at)) b → None ≡ first_is (is_op Comma) (seen ts b.next)
      → Stands (Op Star) ts at → es ≡ tree_of b.expr.value ∷ [] → n ≡ b.next → Makes d.room (Trees.Tuple (Trees.exprs es) Load) n z
      → Answered ts d.room (at + 1) (reads d level.Slices (seen ts at)) z
  slices_star b es following z f n s q p m =
      let e = slices_is b f ∙ ap (λ z. cap d.room z) (first_miss (is_op Comma) (seen ts b.next) _ _ n) in
      let w = subst (λ (k : ℕ). Makes d.room (Trees.Tuple (an_expr (tree_of b.expr.value) no_exprs) Load) k z) p
      (subst (λ (ys : List Expr). Makes d.room (Trees.Tuple (Trees.exprs ys) Load) following z) q m) in
      by_level ts (at + 1) d level.Slices (seen ts at) z o
      (rw (e, s.is) (node ts d.room (at + 1) (Trees.Tuple (an_expr (tree_of b.expr.value) no_exprs) Load) b.next z f.ahead f.within w))

  pub slices_alone : (b : Read) → FoundAt ts d.room (at + 1) (reads d level.Part (seen ts at)) b
      → None ≡ first_is (is_op Comma) (seen ts b.next) → None ≡ first_is (is_op Star) (seen ts at)
      → FoundAt ts d.room (at + 1) (reads d level.Slices (seen ts at)) b
  slices_alone b f n m =
      let e = slices_is b f ∙ ap (λ z. cap d.room z) (first_miss (is_op Comma) (seen ts b.next) _ _ n
      ∙ first_miss (is_op Star) (seen ts at) _ (Found (tree_of b.expr.value) (seen ts b.next)) m) in
      by_level ts (at + 1) d level.Slices (seen ts at) (Ok b) o (rw e (ended ts d.room (at + 1) b f.ahead f.within f.low))

  abbrev subject_with : Expr → List Terminal → Answer Expr
  subject_with e r = tupled (inner_reads d) (Of level.Elem) e r (unstarred (seen ts at) (Found e r))

  subject_is : (b : Read) → FoundAt ts d.room (at + 1) (reads d level.Elem (seen ts at)) b
      → level_at d level.Subject (seen ts at) ≡ cap d.room (subject_with (tree_of b.expr.value) (seen ts b.next))
  subject_is b f = ap (λ z. cap d.room (and_then z subject_with)) f.is

  pub subject_tuple : (b : Read) (z : Result Read Stop) → FoundAt ts d.room (at + 1) (reads d level.Elem (seen ts at)) b
      → Stands (Op Comma) ts b.next
      → Answered ts d.room b.next
      (cap d.room (and_then (listing_of (inner_reads d) (Of level.Elem) [] (seen ts (b.next + 1)))
      (λ es r. Found (Trees.Tuple (an_expr (tree_of b.expr.value) (singles es)) Load) r))) z
      → Answered ts d.room (at + 1) (reads d level.Subject (seen ts at)) z
  subject_tuple b z f s h = by_level ts (at + 1) d level.Subject (seen ts at) z o
      (rw (subject_is b f, s.is) (earlier ts d.room d.room (at + 1) b.next _ z (omega arith) f.ahead h))

  pub subject_alone : (b : Read) → FoundAt ts d.room (at + 1) (reads d level.Elem (seen ts at)) b
      → None ≡ first_is (is_op Comma) (seen ts b.next) → None ≡ first_is (is_op Star) (seen ts at)
      → FoundAt ts d.room (at + 1) (reads d level.Subject (seen ts at)) b
  subject_alone b f n m =
      let e = subject_is b f ∙ ap (λ z. cap d.room z) (first_miss (is_op Comma) (seen ts b.next) _ _ n
      ∙ first_miss (is_op Star) (seen ts at) _ (Found (tree_of b.expr.value) (seen ts b.next)) m) in
      by_level ts (at + 1) d level.Subject (seen ts at) (Ok b) o (rw e (ended ts d.room (at + 1) b f.ahead f.within f.low))

  pub value_yield : (z : Result Read Stop) → Stands (Word Key.Yield) ts at
      → Answered ts d.room (at + 1) (yield_step (inner_reads d) (seen ts (at + 1))) z
      → Answered ts d.room (at + 1) (reads d level.Value (seen ts at)) z
  value_yield z s h = by_level ts (at + 1) d level.Value (seen ts at) z o
      (rw s.is (again ts d.room (at + 1) (yield_step (inner_reads d) (seen ts (at + 1))) z h))

  pub value_plain : (z : Result Read Stop) → None ≡ first_is (is_word Key.Yield) (seen ts at)
      → Answered ts d.room (at + 1) (reads d level.Stars (seen ts at)) z → Answered ts d.room (at + 1) (reads d level.Value (seen ts at)) z
  value_plain z n h =
      let q : level_at d level.Value (seen ts at) ≡ cap d.room (reads d level.Stars (seen ts at)) =
      ap (λ y. cap d.room y) (first_miss (is_word Key.Yield) (seen ts at) _ _ n) in
      by_level ts (at + 1) d level.Value (seen ts at) z o (rw q (again ts d.room (at + 1) (reads d level.Stars (seen ts at)) z h))
