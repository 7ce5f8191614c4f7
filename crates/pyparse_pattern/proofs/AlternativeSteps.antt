-- The loop over patterns with `|` between them.
--
-- Carries: alternatives. On: PatternReader.
use Rattle.std.proofs.Common.{◌≡◌, refl, sym, ap, ◌∙◌, arith, ℕ, zero, suc, ◌+◌, ◌-◌, ◌≤◌, List, [], ◌∷◌, ◌++◌, length, map, None}
use Rattle.pylex_lexeme.specs.declared.kinds.Exact.TheVariants.{VBar}
use Rattle.pytree_node.specs.Trees.{Pattern}
use Rattle.pytree_node.specs.TreeOf.{pattern_of}
use Rattle.pytoken.specs.Terminals.{Terminal, Op}
use Rattle.pytoken.specs.declared.values.terminals.Terminal as given
use Rattle.pygrammar.specs.declared.pattern_levels.PatternLevel.TheVariants.{ClosedPattern}
use Rattle.pygrammar.specs.Looks.{is_op}
use Rattle.pygrammar.specs.PatternReader as reader
use Rattle.pygrammar.specs.Reader.{Answer, Found, and_then}
use Rattle.pyparse_nodes.specs.declared.stop.Stop.{Stop}
use Rattle.pyparse_nodes.specs.Answers.{Failed}
use Rattle.pyparse_nodes.specs.Views.{Stands, first_is, seen}
use Rattle.pyparse_reads.specs.declared.depth.Depth.{Depth}
use Rattle.pyparse_reads.proofs.Callers.Looks.{failed_then, first_miss, seen_length}
use Rattle.pyparse_pattern.specs.declared.found.Patterns.{Patterns}
use Rattle.pyparse_pattern.specs.declared.found.ReadPattern.{ReadPattern}
use Rattle.pyparse_pattern.specs.Answers.{PatternAt}
use Rattle.pyparse_pattern.specs.Inner.Found.{AlternativesAt}
use Rattle.pyparse_pattern.specs.Inner.Readings.{alternatives_of, field_reads, inner_reads}

module _ (ts : List given.Terminal) (d : Depth) (p : Pattern) where
  abbrev loop : ℕ → List Pattern → List Terminal → Answer (List Pattern)
  loop m acc r = reader.alternatives_loop (d.room - 1) (field_reads d) (inner_reads d) m acc r

  -- how far the loop has come
  pub record Alternatives (x : Answer (List Pattern)) (s : Patterns) : Type 0 where
    pub within : s.next ≤ length ts
    pub most : ℕ
    pub enough : length (seen ts s.next) ≤ most
    pub others : List Pattern
    pub is : x ≡ loop most others (seen ts s.next)
    pub gives : map pattern_of s.items.items ≡ p ∷ others

  pub bars_start : (at : ℕ) (s : Patterns) → at ≤ length ts → map pattern_of s.items.items ≡ p ∷ [] → s.next ≡ at
      → Alternatives (alternatives_of d (seen ts at)) s
  bars_start at s w g n = record {
    within = omega arith;
    most = length (seen ts s.next);
    enough = omega arith;
    others = [];
    is = ap (λ k. alternatives_of d (seen ts k)) (sym n);
    gives = g;
  }

  module _ (x : Answer (List Pattern)) (s : Patterns) (c : Alternatives x s) where
    pub bars_end : (least : ℕ) → None ≡ first_is (is_op VBar) (seen ts s.next) → least ≤ s.next → AlternativesAt ts least p x s
    bars_end least n le = record { ahead = le; within = c.within; others = c.others; is = c.is ∙ go c.most; gives = c.gives }
      where
        go : (m : ℕ) → loop m c.others (seen ts s.next) ≡ Found c.others (seen ts s.next)
        go zero = refl
        go (suc m) = first_miss (is_op VBar) (seen ts s.next) _ _ n

    module _ (bar : Stands (Op VBar) ts s.next) where
      turn : (m : ℕ) → loop (suc m) c.others (seen ts s.next) ≡ and_then (inner_reads d ClosedPattern (seen ts (s.next + 1)))
          (λ q r. loop m (c.others ++ (q ∷ [])) r)
      turn m = rw bar.is refl

      pub bars_error : (e : Stop) → Failed e (inner_reads d ClosedPattern (seen ts (s.next + 1))) → Failed e x
      bars_error e f = go c.most c.enough c.is
        where
          go : (m : ℕ) → length (seen ts s.next) ≤ m → x ≡ loop m c.others (seen ts s.next) → Failed e x
          go zero le q = absurd (omega (arith, le, bar.within, seen_length ts s.next))
          go (suc m) le q = rw (q ∙ turn m) (failed_then e _ (λ y r. loop m (c.others ++ (y ∷ [])) r) f)

      pub bars_more : (room : ℕ) (q : ReadPattern) (r : Patterns)
          → PatternAt ts room (s.next + 1 + 1) (inner_reads d ClosedPattern (seen ts (s.next + 1))) q
          → map pattern_of r.items.items ≡ map pattern_of s.items.items ++ (pattern_of q.pattern.value ∷ [])
          → r.next ≡ q.next → Alternatives x r
      bars_more room q r f g k = go c.most c.enough c.is
        where
          go : (m : ℕ) → length (seen ts s.next) ≤ m → x ≡ loop m c.others (seen ts s.next) → Alternatives x r
          go zero le y = absurd (omega (arith, le, bar.within, seen_length ts s.next))
          go (suc m) le y = record {
            within = omega (arith, k, f.within);
            most = m;
            enough = omega (arith, le, k, f.ahead, f.within, seen_length ts s.next, seen_length ts r.next);
            others = c.others ++ (pattern_of q.pattern.value ∷ []);
            is = y ∙ turn m ∙ ap (λ z. and_then z (λ b i. loop m (c.others ++ (b ∷ [])) i)) f.is
                ∙ ap (λ n. loop m (c.others ++ (pattern_of q.pattern.value ∷ [])) (seen ts n)) (sym k);
            gives = g ∙ ap (λ l. l ++ (pattern_of q.pattern.value ∷ [])) c.gives;
          }
