-- Assignments, annotations, and expressions alone.
--
-- Carries: augmented, annotated_value, end_value, assignment, value_statement. On: LineReader.
use Rattle.std.proofs.Common.{◌≡◌, refl, sym, ap, ◌∙◌, arith, ℕ, zero, suc, ◌+◌, ◌≤◌, ◌<◌, List, [], ◌∷◌, ◌++◌, length, Some, None, false}
use Rattle.std.proofs.Common.{true}
use Rattle.pylex_lexeme.specs.declared.kinds.Exact.TheVariants.{Colon, Equal}
use Rattle.pytree_node.specs.declared.operators.Context.TheVariants.{Store}
use Rattle.pytree_node.specs.declared.operators.Operator.{Operator}
use Rattle.pytree_node.specs.Trees
use Rattle.pytree_node.specs.Trees.{Assign, AugAssign, Expr, ExprOf, Identifier, Stmt}
use Rattle.pytoken.specs.Terminals.{Op, Terminal}
use Rattle.pytoken.specs.declared.values.terminals.Terminal as given
use Rattle.pygrammar.specs.declared.levels.Level.TheVariants.{Value}
use Rattle.pygrammar.specs.LineReader.{annotation, augmented_sign, end_value, value_loop, value_statement}
use Rattle.pygrammar.specs.Looks.{is_op}
use Rattle.pygrammar.specs.Reader.{Answer, Found, NoForm, Reads, and_then, on_first, on_some}
use Rattle.pygrammar.specs.Targets.{single_stored, stored}
use Rattle.pyparse_nodes.specs.declared.stop.Stop.{Stop}
use Rattle.pyparse_nodes.specs.Answers.{Failed, PartAt}
use Rattle.pyparse_nodes.specs.Views.{IsNamed, IsNotNamed, Stands, first_is, seen}
use Rattle.pyparse_reads.proofs.Callers.Looks.{failed_then, first_hit, first_miss, name_miss, seen_length, seen_next}

-- after a value that no `=` follows
module _ (ts : List given.Terminal) (self : Reads) (e : Expr) (n : ℕ) where
  pub assigned : (acc : List Expr) → 0 < length acc → end_value self acc e (seen ts n) ≡ Found (Assign acc e) (seen ts n)
  assigned [] h = absurd (omega (arith, h))
  assigned (t ∷ acc) h = refl

  abbrev increased : Operator → List Terminal → Answer Stmt
  increased o r = on_some (single_stored e) (λ t. and_then (self Value r) (λ v r2. Found (AugAssign t o v) r2)) NoForm

  abbrev noted : List Terminal → Answer Stmt
  noted r = on_some (single_stored e) (λ t. annotation self t false r) NoForm

  module _ (o : Operator) (h : Some o ≡ first_is augmented_sign (seen ts n)) where
    increased_is : end_value self [] e (seen ts n) ≡ increased o (seen ts (n + 1))
    increased_is = first_hit augmented_sign (seen ts n) o (λ o r. increased o r) _ h ∙ ap (λ r. increased o r) (seen_next ts n)

    pub augmented_target : single_stored e ≡ None → end_value self [] e (seen ts n) ≡ NoForm
    augmented_target q = increased_is
        ∙ ap (λ s. on_some s (λ t. and_then (self Value (seen ts (n + 1))) (λ v r2. Found (AugAssign t o v) r2)) NoForm) q

    module _ (t : Expr) (q : single_stored e ≡ Some t) where
      right_is : end_value self [] e (seen ts n) ≡ and_then (self Value (seen ts (n + 1))) (λ v r2. Found (AugAssign t o v) r2)
      right_is = increased_is
          ∙ ap (λ s. on_some s (λ t. and_then (self Value (seen ts (n + 1))) (λ v r2. Found (AugAssign t o v) r2)) NoForm) q

      pub augmented_failed : (s : Stop) → Failed s (self Value (seen ts (n + 1))) → Failed s (end_value self [] e (seen ts n))
      augmented_failed s f = rw right_is (failed_then s (self Value (seen ts (n + 1))) (λ v r2. Found (AugAssign t o v) r2) f)

      pub augmented_found : (v : Expr) (k : ℕ) (s : Stmt) (m : ℕ) → self Value (seen ts (n + 1)) ≡ Found v (seen ts k) → n ≤ k
          → k ≤ length ts → s ≡ AugAssign t o v → m ≡ k → PartAt ts n (end_value self [] e (seen ts n)) s m
      augmented_found v k s m f le w p i = record {
        ahead = omega (arith, le, i);
        within = omega (arith, w, i);
        is = right_is ∙ ap (λ y. and_then y (λ v r2. Found (AugAssign t o v) r2)) f ∙ ap (λ y. Found y (seen ts k)) (sym p)
            ∙ ap (λ j. Found s (seen ts j)) (sym i);
      }

  module _ (h : Stands (Op Colon) ts n) where
    noted_is : end_value self [] e (seen ts n) ≡ noted (seen ts (n + 1))
    noted_is = rw h.is refl

    pub annotated_target : single_stored e ≡ None → end_value self [] e (seen ts n) ≡ NoForm
    annotated_target q = noted_is ∙ ap (λ s. on_some s (λ t. annotation self t false (seen ts (n + 1))) NoForm) q

    pub annotated_is : (t : Expr) → single_stored e ≡ Some t → end_value self [] e (seen ts n) ≡ annotation self t false (seen ts (n + 1))
    annotated_is t q = noted_is ∙ ap (λ s. on_some s (λ t. annotation self t false (seen ts (n + 1))) NoForm) q

  pub alone : None ≡ first_is augmented_sign (seen ts n) → None ≡ first_is (is_op Colon) (seen ts n)
      → end_value self [] e (seen ts n) ≡ Found (ExprOf e) (seen ts n)
  alone a c = first_miss augmented_sign (seen ts n) (λ o r. increased o r) _ a ∙ first_miss (is_op Colon) (seen ts n) (λ _ r. noted r)
      (Found (ExprOf e) (seen ts n)) c

-- a name and a colon, or anything else
module _ (ts : List given.Terminal) (self : Reads) (at : ℕ) where
  pub name_noted : (x : Identifier) → IsNamed Colon x ts at → value_statement self (seen ts at) ≡ annotation self
      (Trees.Name x Store) true (seen ts (at + 2))
  name_noted x h = rw (h.is, h.form) refl

  pub not_noted : IsNotNamed Colon ts at → value_statement self (seen ts at) ≡ value_loop self (suc (length (seen ts at))) [] (seen ts at)
  not_noted h = name_miss Colon ts at (λ x r. annotation self (Trees.Name x Store) true r)
      (value_loop self (suc (length (seen ts at))) [] (seen ts at)) h

-- how far the targets were read
pub record Assigns (ts : List given.Terminal) (self : Reads) (x : Answer Stmt) (acc : List Expr) (n : ℕ) : Type 0 where
  pub within : n ≤ length ts
  pub most : ℕ
  pub enough : length (seen ts n) < most
  pub is : x ≡ value_loop self most acc (seen ts n)

pub targets_start : (ts : List given.Terminal) (self : Reads) (at : ℕ) (acc : List Expr) (n : ℕ) → at ≤ length ts → acc ≡ [] → n ≡ at
    → Assigns ts self (value_loop self (suc (length (seen ts at))) [] (seen ts at)) acc n
targets_start ts self at acc n w a e = record {
  within = omega (arith, w, e);
  most = suc (length (seen ts at));
  enough = omega (arith, ap (λ k. length (seen ts k)) e);
  is = ap (λ l. value_loop self (suc (length (seen ts at))) l (seen ts at)) (sym a)
      ∙ ap (λ k. value_loop self (suc (length (seen ts at))) acc (seen ts k)) (sym e);
}

module _ (ts : List given.Terminal) (self : Reads) (x : Answer Stmt) (acc : List Expr) (n : ℕ) (c : Assigns ts self x acc n) where
  -- after a value
  abbrev following : ℕ → Expr → List Terminal → Answer Stmt
  following m e r = on_first (is_op Equal) r (λ _ r1. on_some (stored e) (λ t. value_loop self m (acc ++ (t ∷ [])) r1) NoForm)
      (end_value self acc e r)

  pub targets_failed : (s : Stop) → Failed s (self Value (seen ts n)) → Failed s x
  targets_failed s f = go c.most c.enough c.is
    where
      go : (m : ℕ) → length (seen ts n) < m → x ≡ value_loop self m acc (seen ts n) → Failed s x
      go zero l q = absurd (omega (arith, l))
      go (suc m) l q = rw q (failed_then s (self Value (seen ts n)) (following m) f)

  module _ (e : Expr) (k : ℕ) (f : self Value (seen ts n) ≡ Found e (seen ts k)) where
    first : (m : ℕ) → x ≡ value_loop self (suc m) acc (seen ts n) → x ≡ following m e (seen ts k)
    first m q = q ∙ ap (λ y. and_then y (following m)) f

    pub targets_last : None ≡ first_is (is_op Equal) (seen ts k) → x ≡ end_value self acc e (seen ts k)
    targets_last h = go c.most c.enough c.is
      where
        go : (m : ℕ) → length (seen ts n) < m → x ≡ value_loop self m acc (seen ts n) → x ≡ end_value self acc e (seen ts k)
        go zero l q = absurd (omega (arith, l))
        go (suc m) l q = first m q ∙ first_miss (is_op Equal) (seen ts k) _ (end_value self acc e (seen ts k)) h

    module _ (s : Stands (Op Equal) ts k) where
      stored_then : (m : ℕ)
          → following m e (seen ts k) ≡ on_some (stored e) (λ t. value_loop self m (acc ++ (t ∷ [])) (seen ts (k + 1))) NoForm
      stored_then m = rw s.is refl

      pub targets_wrong : stored e ≡ None → x ≡ NoForm
      targets_wrong h = go c.most c.enough c.is
        where
          go : (m : ℕ) → length (seen ts n) < m → x ≡ value_loop self m acc (seen ts n) → x ≡ NoForm
          go zero l q = absurd (omega (arith, l))
          go (suc m) l q = first m q ∙ stored_then m
              ∙ ap (λ o. on_some o (λ t. value_loop self m (acc ++ (t ∷ [])) (seen ts (k + 1))) NoForm) h

      pub targets_more : (t : Expr) (new : List Expr) (next : ℕ) → stored e ≡ Some t → new ≡ acc ++ (t ∷ []) → next ≡ k + 1 → n ≤ k
          → Assigns ts self x new next
      targets_more t new next h p i le = go c.most c.enough c.is
        where
          go : (m : ℕ) → length (seen ts n) < m → x ≡ value_loop self m acc (seen ts n) → Assigns ts self x new next
          go zero l q = absurd (omega (arith, l))
          go (suc m) l q = record {
            within = omega (arith, i, s.within);
            most = m;
            enough = omega (arith, l, i, le, s.within, seen_length ts n, seen_length ts next);
            is = first m q
                ∙ stored_then m
                ∙ ap (λ o. on_some o (λ t. value_loop self m (acc ++ (t ∷ [])) (seen ts (k + 1))) NoForm) h
                ∙ ap (λ l. value_loop self m l (seen ts (k + 1))) (sym p)
                ∙ ap (λ j. value_loop self m new (seen ts j)) (sym i);
          }
