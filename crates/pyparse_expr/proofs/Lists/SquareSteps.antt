-- What stands in square brackets.
--
-- Carries: square. On: ListSteps.
use Rattle.std.proofs.Common.{◌≡◌, refl, sym, ap, subst, ◌∙◌, arith, ℕ, ◌+◌, ◌-◌, ◌≤◌, ◌<◌, List, [], ◌∷◌, map, None, true, false, cond}
use Rattle.std.proofs.Common.{Result}
use Rattle.pylex_lexeme.specs.declared.kinds.Exact.TheVariants.{RSqb, Star}
use Rattle.pytree_node.specs.declared.operators.Context.TheVariants.{Load}
use Rattle.pytree_node.specs.Trees
use Rattle.pytree_node.specs.Trees.{Expr, exprs, no_exprs, comprehensions}
use Rattle.pytree_node.specs.TreeOf.{tree_of}
use Rattle.pytoken.specs.Terminals.{Terminal, Op}
use Rattle.pytoken.specs.declared.values.terminals.Terminal as given
use Rattle.pygrammar.specs.declared.levels.Level.TheVariants as level
use Rattle.pygrammar.specs.Entries.{Of, Single, singles}
use Rattle.pygrammar.specs.Looks.{is_op}
use Rattle.pygrammar.specs.Precedence.{starts, starts_comp}
use Rattle.pygrammar.specs.Reader.{Answer, Found, NoForm, and_then, closed, unstarred, comps_closed, others_of, square, Reads}
use Rattle.pygrammar.specs.Capped.{cap}
use Rattle.pyparse_reads.specs.declared.depth.Depth.{Depth}
use Rattle.pyparse_nodes.specs.declared.found.Read.{Read}
use Rattle.pyparse_nodes.specs.declared.found.Items.{Items}
use Rattle.pyparse_expr.specs.declared.listings.Item.TheVariants as item
use Rattle.pyparse_nodes.specs.declared.stop.Stop.{Stop}
use Rattle.pyparse_nodes.specs.Answers.{Failed, Answered, FoundAt, Makes}
use Rattle.pyparse_expr.specs.Inner.Found.{ListedAt}
use Rattle.pyparse_expr.specs.Inner.Lists.{more_at}
use Rattle.pyparse_expr.specs.Inner.Readings.{inner_reads}
use Rattle.pyparse_nodes.specs.Views.{Stands, seen, first_is, lead_of}
use Rattle.pyparse_expr.proofs.Reader.Reading.{first_miss, failed_then, failed_cap, earlier, node}
use Rattle.pyparse_expr.proofs.Lists.ListSteps.{not_starts, do_starts, singles_all}

-- after the first element
abbrev square_with : Reads → List Terminal → Expr → List Terminal → Answer Expr
square_with self r e r1 = cond (starts_comp r1) (unstarred r (comps_closed self RSqb r1 (λ gs. Trees.ListComp e (comprehensions gs))))
    (and_then (others_of self (Of level.Elem) (Single e) r1) (λ es r2. closed RSqb r2 (Trees.ListOf (singles es) Load)))

none_first : (self : Reads) (r : List Terminal) → starts (Of level.Elem) r ≡ false
    → square self r ≡ closed RSqb r (Trees.ListOf no_exprs Load)
none_first self r h =
    ap (λ b. cond b (and_then (self level.Elem r) (λ e r1. square_with self r e r1)) (closed RSqb r (Trees.ListOf no_exprs Load))) h

one_first : (self : Reads) (r : List Terminal) → starts (Of level.Elem) r ≡ true
    → square self r ≡ and_then (self level.Elem r) (λ e r1. square_with self r e r1)
one_first self r h =
    ap (λ b. cond b (and_then (self level.Elem r) (λ e r1. square_with self r e r1)) (closed RSqb r (Trees.ListOf no_exprs Load))) h

module _ (ts : List given.Terminal) (d : Depth) (at : ℕ) where
  pub square_empty : (es : List Expr) (z : Result Read Stop) → es ≡ [] → lead_of (seen ts at) < 7 → Stands (Op RSqb) ts at
      → Makes d.room (Trees.ListOf (exprs es) Load) (at + 1) z
      → Answered ts d.room (at + 1) (cap d.room (square (inner_reads d) (seen ts at))) z
  square_empty es z q n s h =
      let m = subst (λ (l : List Expr). Makes d.room (Trees.ListOf (exprs l) Load) (at + 1) z) q h in
      let e = none_first (inner_reads d) (seen ts at) (not_starts item.Elem (seen ts at) n) in
      let c : closed RSqb (seen ts at) (Trees.ListOf no_exprs Load) ≡ Found (Trees.ListOf no_exprs Load) (seen ts (at + 1)) =
      rw s.is refl in
      rw (e ∙ c) (node ts d.room (at + 1) (Trees.ListOf no_exprs Load) (at + 1) z (omega arith) (omega (arith, s.within)) m)

  pub square_none : lead_of (seen ts at) < 7 → None ≡ first_is (is_op RSqb) (seen ts at)
      → cap d.room (square (inner_reads d) (seen ts at)) ≡ NoForm
  square_none n m = ap (λ y. cap d.room y) (none_first (inner_reads d) (seen ts at) (not_starts item.Elem (seen ts at) n)
      ∙ first_miss (is_op RSqb) (seen ts at) _ NoForm m)

  pub square_error : (s : Stop) → 7 ≤ lead_of (seen ts at) → Failed s (inner_reads d level.Elem (seen ts at))
      → Failed s (cap d.room (square (inner_reads d) (seen ts at)))
  square_error s n f = failed_cap s d.room _ (rw (one_first (inner_reads d) (seen ts at) (do_starts item.Elem (seen ts at) n))
      (failed_then s _ (λ e r1. square_with (inner_reads d) (seen ts at) e r1) f))

  square_is : (room least : ℕ) (e : Read) → 7 ≤ lead_of (seen ts at) → FoundAt ts room least (inner_reads d level.Elem (seen ts at)) e
      → square (inner_reads d) (seen ts at) ≡ square_with (inner_reads d) (seen ts at) (tree_of e.expr.value) (seen ts e.next)
  square_is room least e n f = one_first (inner_reads d) (seen ts at) (do_starts item.Elem (seen ts at) n)
      ∙ ap (λ z. and_then z (λ e r1. square_with (inner_reads d) (seen ts at) e r1)) f.is

  abbrev listed : Expr → List Terminal → Answer Expr
  listed e r1 = and_then (others_of (inner_reads d) (Of level.Elem) (Single e) r1)
      (λ es r2. closed RSqb r2 (Trees.ListOf (singles es) Load))

  abbrev comped : Expr → List Terminal → Answer Expr
  comped e r1 = unstarred (seen ts at) (comps_closed (inner_reads d) RSqb r1 (λ gs. Trees.ListComp e (comprehensions gs)))

  with_comp : (room least : ℕ) (e : Read) → 7 ≤ lead_of (seen ts at) → FoundAt ts room least (inner_reads d level.Elem (seen ts at)) e
      → true ≡ starts_comp (seen ts e.next) → square (inner_reads d) (seen ts at) ≡ comped (tree_of e.expr.value) (seen ts e.next)
  with_comp room least e n f c = square_is room least e n f
      ∙ ap (λ b. cond b (comped (tree_of e.expr.value) (seen ts e.next)) (listed (tree_of e.expr.value) (seen ts e.next))) (sym c)

  with_list : (room least : ℕ) (e : Read) → 7 ≤ lead_of (seen ts at) → FoundAt ts room least (inner_reads d level.Elem (seen ts at)) e
      → false ≡ starts_comp (seen ts e.next) → square (inner_reads d) (seen ts at) ≡ listed (tree_of e.expr.value) (seen ts e.next)
  with_list room least e n f c = square_is room least e n f
      ∙ ap (λ b. cond b (comped (tree_of e.expr.value) (seen ts e.next)) (listed (tree_of e.expr.value) (seen ts e.next))) (sym c)

  pub square_star : (e : Read) → 7 ≤ lead_of (seen ts at) → FoundAt ts (d.room - 1) (at + 1) (inner_reads d level.Elem (seen ts at)) e
      → true ≡ starts_comp (seen ts e.next) → Stands (Op Star) ts at → cap d.room (square (inner_reads d) (seen ts at)) ≡ NoForm
  square_star e n f c s =
      let k : comped (tree_of e.expr.value) (seen ts e.next) ≡ NoForm = rw s.is refl in
      ap (λ y. cap d.room y) (with_comp (d.room - 1) (at + 1) e n f c ∙ k)

  pub square_comp : (e : Read) (z : Result Read Stop) → 7 ≤ lead_of (seen ts at)
      → FoundAt ts (d.room - 1) (at + 1) (inner_reads d level.Elem (seen ts at)) e → true ≡ starts_comp (seen ts e.next)
      → None ≡ first_is (is_op Star) (seen ts at)
      → Answered ts d.room e.next
      (cap d.room (comps_closed (inner_reads d) RSqb (seen ts e.next) (λ gs. Trees.ListComp (tree_of e.expr.value) (comprehensions gs)))) z
      → Answered ts d.room (at + 1) (cap d.room (square (inner_reads d) (seen ts at))) z
  square_comp e z n f c m h =
      let k = with_comp (d.room - 1) (at + 1) e n f c ∙ first_miss (is_op Star) (seen ts at) (λ _ _. NoForm)
      (comps_closed (inner_reads d) RSqb (seen ts e.next) (λ gs. Trees.ListComp (tree_of e.expr.value) (comprehensions gs))) m in
      rw k (earlier ts d.room d.room (at + 1) e.next _ z (omega arith) f.ahead h)

  pub square_failed : (e : Read) (s : Stop) → 7 ≤ lead_of (seen ts at)
      → FoundAt ts (d.room - 1) (at + 1) (inner_reads d level.Elem (seen ts at)) e → false ≡ starts_comp (seen ts e.next)
      → Failed s (more_at d item.Elem (Single (tree_of e.expr.value) ∷ []) (seen ts e.next))
      → Failed s (cap d.room (square (inner_reads d) (seen ts at)))
  square_failed e s n f c h =
      failed_cap s d.room _
      (rw (with_list (d.room - 1) (at + 1) e n f c) (failed_then s _ (λ es r2. closed RSqb r2 (Trees.ListOf (singles es) Load)) h))

  list_is : (e : Read) (r : Items) → 7 ≤ lead_of (seen ts at) → FoundAt ts (d.room - 1) (at + 1) (inner_reads d level.Elem (seen ts at)) e
      → false ≡ starts_comp (seen ts e.next)
      → ListedAt ts d.room e.next (more_at d item.Elem (Single (tree_of e.expr.value) ∷ []) (seen ts e.next)) r
      → square (inner_reads d) (seen ts at) ≡ closed RSqb (seen ts r.next) (Trees.ListOf (exprs (map tree_of r.exprs.items)) Load)
  list_is e r n f c l = with_list (d.room - 1) (at + 1) e n f c
      ∙ ap (λ z. and_then z (λ es r2. closed RSqb r2 (Trees.ListOf (singles es) Load))) l.is
      ∙ ap (λ es. closed RSqb (seen ts r.next) (Trees.ListOf es Load)) (singles_all (map tree_of r.exprs.items))

  pub square_open : (e : Read) (r : Items) → 7 ≤ lead_of (seen ts at)
      → FoundAt ts (d.room - 1) (at + 1) (inner_reads d level.Elem (seen ts at)) e → false ≡ starts_comp (seen ts e.next)
      → ListedAt ts d.room e.next (more_at d item.Elem (Single (tree_of e.expr.value) ∷ []) (seen ts e.next)) r
      → None ≡ first_is (is_op RSqb) (seen ts r.next) → cap d.room (square (inner_reads d) (seen ts at)) ≡ NoForm
  square_open e r n f c l m = ap (λ y. cap d.room y) (list_is e r n f c l ∙ first_miss (is_op RSqb) (seen ts r.next) _ NoForm m)

  pub square_made : (e : Read) (r : Items) (z : Result Read Stop) → 7 ≤ lead_of (seen ts at)
      → FoundAt ts (d.room - 1) (at + 1) (inner_reads d level.Elem (seen ts at)) e → false ≡ starts_comp (seen ts e.next)
      → ListedAt ts d.room e.next (more_at d item.Elem (Single (tree_of e.expr.value) ∷ []) (seen ts e.next)) r → Stands (Op RSqb) ts r.next
      → Makes d.room (Trees.ListOf (exprs (map tree_of r.exprs.items)) Load) (r.next + 1) z
      → Answered ts d.room (at + 1) (cap d.room (square (inner_reads d) (seen ts at))) z
  square_made e r z n f c l s m =
      let k : closed RSqb (seen ts r.next) (Trees.ListOf (exprs (map tree_of r.exprs.items)) Load) ≡ Found
      (Trees.ListOf (exprs (map tree_of r.exprs.items)) Load) (seen ts (r.next + 1)) = rw s.is refl in
      rw (list_is e r n f c l ∙ k) (node ts d.room (at + 1) (Trees.ListOf (exprs (map tree_of r.exprs.items)) Load) (r.next + 1) z
      (omega (arith, f.ahead, l.ahead)) (omega (arith, s.within)) m)
