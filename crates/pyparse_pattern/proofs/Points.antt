-- Names with points between them.
--
-- Carries: dotted, dotted_key. On: PatternReader.
use Rattle.std.proofs.Common.{◌≡◌, refl, sym, ap, ◌∙◌, arith, ℕ, zero, suc, ◌+◌, ◌≤◌, ◌<◌, List, [], ◌∷◌, length, Option, Some, None, Bool}
use Rattle.std.proofs.Common.{true, false, cond, leb}
use Rattle.pylex_lexeme.specs.declared.kinds.Exact.TheVariants.{Dot}
use Rattle.pytree_node.specs.declared.operators.Context.TheVariants.{Load}
use Rattle.pytree_node.specs.Trees
use Rattle.pytree_node.specs.Trees.{Expr, Identifier}
use Rattle.pytree_node.specs.TreeOf.{tree_of}
use Rattle.pytree_height.specs.Heights.{height}
use Rattle.pytoken.specs.Terminals.{Terminal, Op}
use Rattle.pytoken.specs.declared.values.terminals.Terminal as given
use Rattle.pygrammar.specs.Looks.{is_op, name_in}
use Rattle.pygrammar.specs.PatternReader.{cap_value, dotted_from, dotted_loop}
use Rattle.pygrammar.specs.Reader.{Answer, Found, NoForm, TooDeep, and_then, on_first, on_some}
use Rattle.pyparse_nodes.specs.declared.found.Read.{Read}
use Rattle.pyparse_nodes.specs.declared.stop.Stop.{Stop}
use Rattle.pyparse_nodes.specs.declared.stop.Stop.TheVariants as stop
use Rattle.pyparse_nodes.specs.Answers.{Failed, FoundAt, Made, Unmade}
use Rattle.pyparse_nodes.specs.Views.{Stands, first_is, seen}
use Rattle.pyparse_reads.proofs.Callers.Looks.{first_hit, first_miss, seen_length, seen_next}
use Rattle.pyparse_pattern.proofs.Caps.{capped_high, capped_low}

-- after a point
abbrev named_from : (room m : ℕ) → Expr → List Terminal → Answer Expr
named_from room m e i =
    on_first name_in i (λ x r. and_then (cap_value room (Found (Trees.Attribute e x Load) r)) (λ f r1. dotted_loop room m f r1)) NoForm

module _ (ts : List given.Terminal) (room : ℕ) where
  -- how far the loop has come
  pub record Points (x : Answer Expr) (e : Read) : Type 0 where
    pub within : e.next ≤ length ts
    pub low : e.height ≤ room + 1
    pub most : ℕ
    pub enough : length (seen ts e.next) ≤ most
    pub is : x ≡ dotted_loop room most (tree_of e.expr.value) (seen ts e.next)

  pub points_start : (x : Identifier) (at : ℕ) (e : Read) → at ≤ length ts → Made 1 (Trees.Name x Load) at e
      → Points (dotted_from room x (seen ts at)) e
  points_start x at e w m = record {
    within = omega (arith, w, m.next_is);
    low = omega (arith, m.low);
    most = length (seen ts at);
    enough = ap_length;
    is = ap (λ t. dotted_loop room (length (seen ts at)) t (seen ts at)) (sym m.tree)
        ∙ ap (λ k. dotted_loop room (length (seen ts at)) (tree_of e.expr.value) (seen ts k)) (sym m.next_is);
  }
    where
      ap_length : length (seen ts e.next) ≤ length (seen ts at)
      ap_length = omega (arith, seen_length ts e.next, seen_length ts at, m.next_is)

  pub points_end : (x : Answer Expr) (e : Read) (least : ℕ) → Points x e → None ≡ first_is (is_op Dot) (seen ts e.next) → least ≤ e.next
      → FoundAt ts (room + 1) least x e
  points_end x e least c n le = record {
    ahead = le;
    within = c.within;
    low = c.low;
    is = c.is ∙ go c.most;
  }
    where
      go : (m : ℕ) → dotted_loop room m (tree_of e.expr.value) (seen ts e.next) ≡ Found (tree_of e.expr.value) (seen ts e.next)
      go zero = refl
      go (suc m) = first_miss (is_op Dot) (seen ts e.next) _ _ n

  turn : (m n : ℕ) (e : Expr) → Stands (Op Dot) ts n → dotted_loop room (suc m) e (seen ts n) ≡ named_from room m e (seen ts (n + 1))
  turn m n e s = rw s.is refl

  pub points_stop : (x : Answer Expr) (e : Read) → Points x e → Stands (Op Dot) ts e.next
      → None ≡ first_is name_in (seen ts (e.next + 1)) → x ≡ NoForm
  points_stop x e c s n = go c.most c.enough c.is
    where
      go : (m : ℕ) → length (seen ts e.next) ≤ m → x ≡ dotted_loop room m (tree_of e.expr.value) (seen ts e.next) → x ≡ NoForm
      go zero le q = absurd (omega (arith, le, s.within, seen_length ts e.next))
      go (suc m) le q = q ∙ turn m e.next (tree_of e.expr.value) s ∙ first_miss name_in (seen ts (e.next + 1)) _ NoForm n

  -- the attribute, if it is not too high
  attributed : (m n : ℕ) (e : Expr) (x : Identifier) → Some x ≡ first_is name_in (seen ts n)
      → named_from room m e (seen ts n) ≡ and_then (cap_value room (Found (Trees.Attribute e x Load) (seen ts (n + 1))))
      (λ f r3. dotted_loop room m f r3)
  attributed m n e x h = first_hit name_in (seen ts n) x _ NoForm h
      ∙ ap (λ r. and_then (cap_value room (Found (Trees.Attribute e x Load) r)) (λ f r3. dotted_loop room m f r3)) (seen_next ts n)

  next_point : (x : Answer Expr) (e : Read) (m : ℕ) (y : Identifier) → Stands (Op Dot) ts e.next
      → Some y ≡ first_is name_in (seen ts (e.next + 1)) → x ≡ dotted_loop room (suc m) (tree_of e.expr.value) (seen ts e.next)
      → x ≡ and_then (cap_value room (Found (Trees.Attribute (tree_of e.expr.value) y Load) (seen ts (e.next + 1 + 1))))
      (λ f r3. dotted_loop room m f r3)
  next_point x e m y s n q = q ∙ turn m e.next (tree_of e.expr.value) s ∙ attributed m (e.next + 1) (tree_of e.expr.value) y n

  pub points_high : (x : Answer Expr) (e : Read) (y : Identifier) (t : Stop) → Points x e → Stands (Op Dot) ts e.next
      → Some y ≡ first_is name_in (seen ts (e.next + 1)) → Unmade room t (Trees.Attribute (tree_of e.expr.value) y Load) → Failed t x
  points_high x e y stop.NoForm c s n u = absurd u
  points_high x e y stop.TooDeep c s n u = go c.most c.enough c.is
    where
      go : (m : ℕ) → length (seen ts e.next) ≤ m → x ≡ dotted_loop room m (tree_of e.expr.value) (seen ts e.next) → x ≡ TooDeep
      go zero le q = absurd (omega (arith, le, s.within, seen_length ts e.next))
      go (suc m) le q = next_point x e m y s n q ∙ ap (λ z. and_then z (λ f r3. dotted_loop room m f r3))
          (capped_high room (Trees.Attribute (tree_of e.expr.value) y Load) (seen ts (e.next + 1 + 1)) u)
  points_high x e y stop.Memory c s n u = tt

  pub points_more : (x : Answer Expr) (e r : Read) (y : Identifier) → Points x e → Stands (Op Dot) ts e.next
      → Some y ≡ first_is name_in (seen ts (e.next + 1)) → e.next + 1 < length ts
      → Made room (Trees.Attribute (tree_of e.expr.value) y Load) (e.next + 1 + 1) r → Points x r
  points_more x e r y c s n w h = go c.most c.enough c.is
    where
      go : (m : ℕ) → length (seen ts e.next) ≤ m → x ≡ dotted_loop room m (tree_of e.expr.value) (seen ts e.next) → Points x r
      go zero le q = absurd (omega (arith, le, s.within, seen_length ts e.next))
      go (suc m) le q = record {
        within = omega (arith, h.next_is, w);
        low = omega (arith, h.low);
        most = m;
        enough = omega (arith, le, h.next_is, w, seen_length ts e.next, seen_length ts r.next);
        is = next_point x e m y s n q ∙ ap (λ z. and_then z (λ f r3. dotted_loop room m f r3))
            (capped_low room (Trees.Attribute (tree_of e.expr.value) y Load) (seen ts (e.next + 1 + 1))
            (omega (arith, h.low, r.is_height, ap height h.tree))) ∙ ap (λ t. dotted_loop room m t (seen ts (e.next + 1 + 1))) (sym h.tree)
            ∙ ap (λ k. dotted_loop room m (tree_of r.expr.value) (seen ts k)) (sym h.next_is);
      }

-- ---- With a point after the first name it is an attribute.

module _ {B : Type 0} (room : ℕ) (k h : Expr → List Terminal → Answer B) where
  abbrev Same : Answer Expr → Type 0
  Same x = and_then x k ≡ and_then x h

  -- one more attribute, if its loop goes the same way
  one_more : (m : ℕ) (f : Expr) → ((x : Identifier) (i : List Terminal) → Same (dotted_loop room m (Trees.Attribute f x Load) i))
      → (i : List Terminal) → Same (named_from room m f i)
  one_more m f go [] = refl
  one_more m f go (u ∷ i) = by_name (name_in u)
    where
      by_height : (b : Bool) (x : Identifier)
          → Same (and_then (cond b (Found (Trees.Attribute f x Load) i) TooDeep) (λ g r. dotted_loop room m g r))
      by_height true x = go x i
      by_height false x = refl

      by_name : (o : Option Identifier)
          → Same (on_some o (λ x. and_then (cap_value room (Found (Trees.Attribute f x Load) i)) (λ g r. dotted_loop room m g r)) NoForm)
      by_name None = refl
      by_name (Some x) = by_height (leb (height (Trees.Attribute f x Load)) room) x

  module _ (same : (e : Expr) (y : Identifier) (r : List Terminal) → k (Trees.Attribute e y Load) r ≡ h (Trees.Attribute e y Load) r) where
    attribute_loop : (m : ℕ) (e : Expr) (y : Identifier) (r : List Terminal) → Same (dotted_loop room m (Trees.Attribute e y Load) r)
    attribute_loop zero e y r = same e y r
    attribute_loop (suc m) e y [] = same e y []
    attribute_loop (suc m) e y (t ∷ r) =
        by_dot (one_more m (Trees.Attribute e y Load) (λ x i. attribute_loop m (Trees.Attribute e y Load) x i) r) (is_op Dot t)
      where
        by_dot : Same (named_from room m (Trees.Attribute e y Load) r) → (o : Option ℕ)
            → Same (on_some o (λ _. named_from room m (Trees.Attribute e y Load) r) (Found (Trees.Attribute e y Load) (t ∷ r)))
        by_dot q None = same e y (t ∷ r)
        by_dot q (Some n) = q

    pub after_point : (ts : List given.Terminal) (at : ℕ) (x : Identifier) → Stands (Op Dot) ts at → Same (dotted_from room x (seen ts at))
    after_point ts at x s =
        rw s.is (one_more (length (seen ts (at + 1))) (Trees.Name x Load) (λ y i. attribute_loop (length (seen ts (at + 1)))
        (Trees.Name x Load) y i) (seen ts (at + 1)))
