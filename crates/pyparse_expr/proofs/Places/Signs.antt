-- The comparison at a place.
--
-- Carries: compared_at. On: Reading.
use Rattle.std.proofs.Common.{◌≡◌, refl, sym, ap, subst, ◌∙◌, arith, ℕ, ◌+◌, ◌<◌, List, [], ◌∷◌, length, Option, Some, None}
use Rattle.std.specs.Prelude.{MatchOption}
use Rattle.pytoken.specs.declared.keywords.Keyword.TheVariants as Key
use Rattle.pylex_lexeme.specs.declared.kinds.Exact.TheVariants.{EqEqual, NotEqual, Less, LessEqual, Greater, GreaterEqual}
use Rattle.pytree_node.specs.declared.operators.BoolOperator.{BoolOperator}
use Rattle.pytree_node.specs.declared.operators.BoolOperator.TheVariants as Join
use Rattle.pytree_node.specs.declared.operators.Comparison.TheVariants as Is
use Rattle.pytree_node.specs.Trees.{Expr}
use Rattle.pytoken.specs.Terminals.{Terminal, Op, Word}
use Rattle.pytoken.specs.declared.values.terminals.Terminal as given
use Rattle.pygrammar.specs.Looks.{is_word}
use Rattle.pygrammar.specs.Operators.{chain_word, comparison}
use Rattle.pygrammar.specs.Precedence.{Joins, Compares, following}
use Rattle.pygrammar.specs.Reader.{Answer, NoForm, TooDeep, Reads, on_first, on_some, on_comparison}
use Rattle.pyparse_expr.specs.declared.chains.Compared.{Compared}
use Rattle.pyparse_nodes.specs.declared.stop.Stop.TheVariants as stop
use Rattle.pyparse_expr.specs.Inner.Chains.{ComparedAt, MisComparedAt, NotComparedAt}
use Rattle.pyparse_nodes.specs.Views.{Stands, seen, first_is, first_of}
use Rattle.pyparse_expr.proofs.Reader.Reading.{first_hit, first_miss, seen_next}
use Rattle.pyparse_nodes.proofs.Callers.Places.{front}

pub one_sign : (ts : List given.Terminal) (at : ℕ) (c : Compared) → Some c.op ≡ first_is comparison (seen ts at) → at < length ts
    → c.next ≡ at + 1 → ComparedAt ts at c
one_sign ts at c h w n = record {
  ahead = omega (arith, n);
  within = omega (arith, n, w);
  is = λ self hit other. first_hit comparison (seen ts at) c.op hit _ h
      ∙ ap (λ r. hit c.op r) (seen_next ts at ∙ ap (λ k. seen ts k) (sym n));
}

pub not_in : (ts : List given.Terminal) (at : ℕ) (c : Compared) → Stands (Word Key.Not) ts at → Stands (Word Key.In) ts (at + 1)
    → c.op ≡ Is.NotIn → c.next ≡ at + 2 → ComparedAt ts at c
not_in ts at c s i o n = record {
  ahead = omega (arith, n);
  within = omega (arith, n, i.within);
  is = λ self hit other. ap (λ r. on_comparison self r hit other) (s.is ∙ ap (λ r. Word Key.Not ∷ r) i.is)
      ∙ ap (λ k. hit Is.NotIn (seen ts k)) (omega (arith, n)) ∙ ap (λ p. hit p (seen ts c.next)) (sym o);
}

pub not_alone : (ts : List given.Terminal) (at : ℕ) → Stands (Word Key.Not) ts at → None ≡ first_is (is_word Key.In) (seen ts (at + 1))
    → MisComparedAt ts at stop.NoForm
not_alone ts at s n = record {
  within = s.within;
  is = λ self hit other. ap (λ r. on_comparison self r hit other) s.is
      ∙ first_miss (is_word Key.In) (seen ts (at + 1)) (λ _ r. hit Is.NotIn r) NoForm n;
}

pub is_not : (ts : List given.Terminal) (at : ℕ) (c : Compared) → Stands (Word Key.Is) ts at → Stands (Word Key.Not) ts (at + 1)
    → c.op ≡ Is.IsNot → c.next ≡ at + 2 → ComparedAt ts at c
is_not ts at c s i o n = record {
  ahead = omega (arith, n);
  within = omega (arith, n, i.within);
  is = λ self hit other. ap (λ r. on_comparison self r hit other) (s.is ∙ ap (λ r. Word Key.Is ∷ r) i.is)
      ∙ ap (λ k. hit Is.IsNot (seen ts k)) (omega (arith, n)) ∙ ap (λ p. hit p (seen ts c.next)) (sym o);
}

pub is_alone : (ts : List given.Terminal) (at : ℕ) (c : Compared) → Stands (Word Key.Is) ts at
    → None ≡ first_is (is_word Key.Not) (seen ts (at + 1)) → c.op ≡ Is.Is → c.next ≡ at + 1 → ComparedAt ts at c
is_alone ts at c s m o n = record {
  ahead = omega (arith, n);
  within = omega (arith, n, s.within);
  is = λ self hit other. ap (λ r. on_comparison self r hit other) s.is ∙ first_miss (is_word Key.Not) (seen ts (at + 1))
      (λ _ r. hit Is.IsNot r) (hit Is.Is (seen ts (at + 1))) m ∙ ap (λ k. hit Is.Is (seen ts k)) (sym n)
      ∙ ap (λ p. hit p (seen ts c.next)) (sym o);
}

pub no_sign : (ts : List given.Terminal) (at : ℕ) → None ≡ first_is comparison (seen ts at) → None ≡ first_is (is_word Key.Not) (seen ts at)
    → None ≡ first_is (is_word Key.Is) (seen ts at) → NotComparedAt ts at
no_sign ts at a b c = record {
  is = λ self hit other. first_miss comparison (seen ts at) hit _ a
      ∙ first_miss (is_word Key.Not) (seen ts at) (λ _ r1. on_first (is_word Key.In) r1 (λ _ r2. hit Is.NotIn r2) NoForm) _ b
      ∙ first_miss (is_word Key.Is) (seen ts at) (λ _ r1. on_first (is_word Key.Not) r1 (λ _ r2. hit Is.IsNot r2) (hit Is.Is r1)) other c;
}

-- where the grammar sees a comparison, one stands, or the half of one
same : (f : Terminal → Option ℕ) (r : List Terminal) (x : Answer Expr) → on_first f r (λ _ _. x) x ≡ x
same f [] x = refl
same f (t ∷ r) x = go (f t)
  where
    go : (o : Option ℕ) → on_some o (λ _. x) x ≡ x
    go None = refl
    go (Some a) = refl

seen_sign : (self : Reads) (t : Terminal) (r : List Terminal) → Some Compares ≡ following t
    → ◌≡◌ {A = Answer Expr} (on_comparison self (t ∷ r) (λ _ _. NoForm) TooDeep) NoForm
seen_sign self (Op EqEqual) r h = refl
seen_sign self (Op NotEqual) r h = refl
seen_sign self (Op Less) r h = refl
seen_sign self (Op LessEqual) r h = refl
seen_sign self (Op Greater) r h = refl
seen_sign self (Op GreaterEqual) r h = refl
seen_sign self (Op _) r h = absurd (cc)
seen_sign self (Word Key.In) r h = refl
seen_sign self (Word Key.Not) r h = same (is_word Key.In) r NoForm
seen_sign self (Word Key.Is) r h = same (is_word Key.Not) r NoForm
seen_sign self (Word _) r h = absurd (cc)
seen_sign self _ r h = absurd (cc)

pub compares : (ts : List given.Terminal) (n : ℕ) → Some Compares ≡ first_is following (seen ts n) → NotComparedAt ts n → ⊥
compares ts n h c = go (seen ts n) h (c.is (λ _ _. NoForm) (λ _ _. NoForm) TooDeep)
  where
    differ : ◌≡◌ {A = Answer Expr} NoForm TooDeep → ⊥
    differ q = absurd (cc)

    go : (r : List Terminal) → Some Compares ≡ first_is following r
        → ◌≡◌ {A = Answer Expr} (on_comparison (λ _ _. NoForm) r (λ _ _. NoForm) TooDeep) TooDeep → ⊥
    go [] h q = absurd (cc)
    go (t ∷ r) h q = differ (sym (seen_sign (λ _ _. NoForm) t r h) ∙ q)

pub hit_sign : (ts : List given.Terminal) (at : ℕ) (o : Option Compared) (c : Compared) → o ≡ Some c
    → MatchOption o (NotComparedAt ts at) (λ x. ComparedAt ts at x) → ComparedAt ts at c
hit_sign ts at o c q m = subst (λ p. MatchOption p (NotComparedAt ts at) (λ x. ComparedAt ts at x)) q m

pub miss_sign : (ts : List given.Terminal) (at : ℕ) (o : Option Compared) → o ≡ None
    → MatchOption o (NotComparedAt ts at) (λ x. ComparedAt ts at x) → NotComparedAt ts at
miss_sign ts at o q m = subst (λ p. MatchOption p (NotComparedAt ts at) (λ x. ComparedAt ts at x)) q m

-- an `and` or `or` is its word
joins_word : (t : Terminal) (o : BoolOperator) → Some (Joins o) ≡ following t → t ≡ Word (chain_word o)
joins_word (Word Key.Or) Join.Or h = refl
joins_word (Word Key.And) Join.And h = refl
joins_word (Word _) o h = absurd (cc)
joins_word (Op EqEqual) o h = absurd (cc)
joins_word (Op _) o h = absurd (cc)
joins_word _ o h = absurd (cc)

pub joins_stands : (ts : List given.Terminal) (n k : ℕ) (o : BoolOperator) → n < length ts → Some (Joins o) ≡ first_is following (seen ts n)
    → k ≡ n → Stands (Word (chain_word o)) ts k
joins_stands ts n k o w h q = record {
  within = omega (arith, w, q);
  is = front ts k (Word (chain_word o)) (ap (λ m. first_of (seen ts m)) q ∙ go (seen ts n) h);
}
  where
    go : (r : List Terminal) → Some (Joins o) ≡ first_is following r → first_of r ≡ Some (Word (chain_word o))
    go [] h = absurd (cc)
    go (t ∷ r) h = ap (λ z. Some z) (joins_word t o h)
