-- Numbers at a place.
--
-- Carries: value_at, signed_at, with_imaginary. On: Values, PatternReader.
use Rattle.std.proofs.Common.{◌≡◌, refl, sym, ap, ◌∙◌, arith, ℕ, ◌+◌, ◌≤◌, ◌<◌, List, [], ◌∷◌, length, Some, None, Bool, true, false, cond}
use Rattle.std.proofs.Common.{Result, Ok, Err}
use Rattle.pytree_node.specs.declared.operators.Operator.{Operator}
use Rattle.pytree_node.specs.Trees
use Rattle.pytree_node.specs.Trees.{Expr}
use Rattle.pytree_node.specs.TreeOf.{tree_of}
use Rattle.pytree_node.specs.Values.{Value}
use Rattle.pytree_height.specs.Heights.{height}
use Rattle.pytoken.specs.Terminals.{Terminal, Op, Number}
use Rattle.pytoken.specs.declared.values.terminals.Terminal as given
use Rattle.pygrammar.specs.declared.levels.Level.TheVariants.{Sum}
use Rattle.pygrammar.specs.Operators.{left_operator}
use Rattle.pygrammar.specs.PatternOperators.{is_imaginary}
use Rattle.pygrammar.specs.PatternReader.{imaginary_in, number_in}
use Rattle.pygrammar.specs.Reader.{Answer, Found, NoForm, TooDeep, on_first, on_some}
use Rattle.pyparse_nodes.specs.declared.found.Read.{Read}
use Rattle.pyparse_nodes.specs.declared.stop.Stop.{Stop}
use Rattle.pyparse_nodes.specs.declared.stop.Stop.TheVariants as stop
use Rattle.pyparse_nodes.specs.Answers.{Answered, Failed, Makes}
use Rattle.pyparse_nodes.specs.Views.{Stands, first_is, first_of, seen}
use Rattle.pyparse_reads.proofs.Callers.Looks.{first_hit, front, low_node, seen_next}
use Rattle.pyparse_pattern.specs.declared.numbers.Number as found
use Rattle.pyparse_pattern.specs.Inner.Values.{NoNumberAt, NumberAt, summed}

-- a terminal of the program stands
pub stands_here : (ts : List given.Terminal) (at : ℕ) (t : Terminal) → at < length ts → first_of (seen ts at) ≡ Some t → Stands t ts at
stands_here ts at t w h = record { within = w; is = front ts at t h }

not_deep : (i : List Terminal) → on_first number_in i (λ v r. Found v r) NoForm ≡ TooDeep → ⊥
not_deep [] h = absurd (cc)
not_deep (Number v ∷ i) h = absurd (cc)
not_deep (Op s ∷ i) h = absurd (cc)
not_deep (t ∷ i) h = absurd (cc)

-- where no number stands, no imaginary one does
no_imaginary : {A : Type 0} (i : List Terminal) (k : Value → List Terminal → Answer A) → on_first number_in i (λ v r. Found v r) NoForm ≡
    NoForm → on_first imaginary_in i k NoForm ≡ NoForm
no_imaginary [] k h = refl
no_imaginary (Number v ∷ i) k h = absurd (cc)
no_imaginary (Op s ∷ i) k h = refl
no_imaginary (t ∷ i) k h = refl

imaginaryless : {A : Type 0} (ts : List given.Terminal) (at : ℕ) (s : Stop) (k : Value → List Terminal → Answer A) → NoNumberAt ts at s
    → Failed s (on_first imaginary_in (seen ts at) k NoForm)
imaginaryless ts at stop.NoForm k h = no_imaginary (seen ts at) k h
imaginaryless ts at stop.TooDeep k h = absurd (not_deep (seen ts at) h)
imaginaryless ts at stop.Memory k h = tt

-- the imaginary number after a sign

module _ (ts : List given.Terminal) (e : Expr) (at : ℕ) (o : Operator) (sign : Some o ≡ first_is (left_operator Sum) (seen ts at)) where
  abbrev right : List Terminal → Answer Expr
  right r = on_first imaginary_in r (λ w r2. Found (Trees.BinOp e o (Trees.Constant w)) r2) NoForm

  sum_is : summed false e (seen ts at) ≡ right (seen ts (at + 1))
  sum_is = first_hit (left_operator Sum) (seen ts at) o _ (Found e (seen ts at)) sign ∙ ap right (seen_next ts at)

  pub sum_failed : (s : Stop) → NoNumberAt ts (at + 1) s → Failed s (summed false e (seen ts at))
  sum_failed s h = rw sum_is (imaginaryless ts (at + 1) s (λ w r2. Found (Trees.BinOp e o (Trees.Constant w)) r2) h)

  by_value : (n : found.Number) (b : Bool) → n.imaginary ≡ b → (h : NumberAt ts (at + 1) n)
      → right (seen ts (at + 1)) ≡ cond b (Found (Trees.BinOp e o (tree_of n.read.expr.value)) (seen ts n.read.next)) NoForm
  by_value n b q h = rw h.stands.is (go (is_imaginary h.value) b (sym h.imaginary ∙ q))
    where
      there : Found (Trees.BinOp e o (Trees.Constant h.value)) (seen ts (at + 1 + 1)) ≡ Found
          (Trees.BinOp e o (tree_of n.read.expr.value)) (seen ts n.read.next)
      there = ap (λ t. Found (Trees.BinOp e o t) (seen ts (at + 1 + 1))) (sym h.tree)
          ∙ ap (λ k. Found (Trees.BinOp e o (tree_of n.read.expr.value)) (seen ts k)) (sym h.next)

      go : (c d : Bool) → c ≡ d
          → on_some (cond c (Some h.value) None) (λ w. Found (Trees.BinOp e o (Trees.Constant w)) (seen ts (at + 1 + 1))) NoForm ≡ cond d
          (Found (Trees.BinOp e o (tree_of n.read.expr.value)) (seen ts n.read.next)) NoForm
      go true true p = there
      go true false p = absurd (cc)
      go false true p = absurd (cc)
      go false false p = refl

  pub sum_real : (n : found.Number) → n.imaginary ≡ false → NumberAt ts (at + 1) n → summed false e (seen ts at) ≡ NoForm
  sum_real n q h = sum_is ∙ by_value n false q h

  pub sum_made : (n : found.Number) (z : Result Read Stop) → n.imaginary ≡ true → NumberAt ts (at + 1) n → height e ≤ 2
      → Makes 3 (Trees.BinOp e o (tree_of n.read.expr.value)) n.read.next z → Answered ts 3 at (summed false e (seen ts at)) z
  sum_made n z q h l m = rw (sum_is ∙ by_value n true q h) (low_node ts 3 at (Trees.BinOp e o (tree_of n.read.expr.value)) n.read.next z
      (omega (arith, h.next)) (omega (arith, h.next, h.stands.within)) (omega (arith, l, ap height h.tree)) m)
