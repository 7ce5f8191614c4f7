-- What the answer for a whole list says of the grammar.
--
-- Carries: read_whole. On: the laws of pygrammar, Reading.
use Rattle.std.proofs.Common.{◌≡◌, ap, subst, ◌∙◌, arith, ℕ, suc, ◌+◌, ◌≤◌, ◌<◌, List, [], ◌∷◌, length, map}
use Rattle.std.proofs.lemmas.List.{length-map}
use Rattle.pytree_node.specs.Trees.{Expr}
use Rattle.pytoken.specs.Terminals.{Terminal}
use Rattle.pytoken.specs.declared.values.terminals.Terminal as given
use Rattle.pytoken.specs.TerminalOf.{terminal}
use Rattle.pytree_height.specs.Heights.{height}
use Rattle.pygrammar.specs.declared.levels.Level.{Level}
use Rattle.pygrammar.specs.Meets.{Shapeless, High, Meets}
use Rattle.pygrammar.specs.Reader.{Answer, Found, NoForm, TooDeep}
use Rattle.pygrammar.specs.Capped.{cap, capped, limit}
use Rattle.pygrammar.proofs.Callers.Law.{limit_meets}
use Rattle.pyparse_nodes.specs.declared.stop.Stop.{Stop}
use Rattle.pyparse_nodes.specs.declared.stop.Stop.TheVariants as stop
use Rattle.pyparse_nodes.specs.Answers.{Failed}
use Rattle.pyparse_nodes.specs.Views.{seen}
use Rattle.pyparse_expr.specs.Expressions.{IsExpression, Refused}
use Rattle.pyparse_expr.proofs.Reader.Reading.{cap_low, cap_high, seen_length}

-- the reader up to a height, at the depth that the program begins with
limit_is : (ts : List given.Terminal) (l : Level) (s r : ℕ) → s ≡ length ts + 1 → r ≡ 501
    → limit 500 l (map terminal ts) ≡ cap 500 (capped s r l (seen ts 0))
limit_is ts l s r p q =
    rw (p, q) (ap (λ n. cap 500 (capped n 501 l (map terminal ts))) (go (length (map terminal ts)) (length-map ts terminal)))
  where
    go : (n : ℕ) → n ≡ length ts → suc n ≡ length ts + 1
    go n e = omega (arith, e)

whole : (ts : List given.Terminal) (l : Level) (s r : ℕ) (x : Answer Expr) → s ≡ length ts + 1 → r ≡ 501 → capped s r l (seen ts 0) ≡ x
    → Meets 500 l (map terminal ts) (cap 500 x)
whole ts l s r x p q h = subst (λ y. Meets 500 l (map terminal ts) y) (limit_is ts l s r p q ∙ ap (λ y. cap 500 y) h)
    (limit_meets 500 l (map terminal ts))

pub whole_failed : (ts : List given.Terminal) (l : Level) (s r : ℕ) (e : Stop) → s ≡ length ts + 1 → r ≡ 501
    → Failed e (capped s r l (seen ts 0)) → Refused e l (map terminal ts)
whole_failed ts l s r stop.NoForm p q h = whole ts l s r NoForm p q h
whole_failed ts l s r stop.TooDeep p q h = whole ts l s r TooDeep p q h
whole_failed ts l s r stop.Memory p q h = tt

pub whole_high : (ts : List given.Terminal) (l : Level) (s r : ℕ) (e : Expr) (i : List Terminal) → s ≡ length ts + 1 → r ≡ 501
    → capped s r l (seen ts 0) ≡ Found e i → 500 < height e → High 500 l (map terminal ts)
whole_high ts l s r e i p q h w = subst (λ y. Meets 500 l (map terminal ts) y) (cap_high 500 e i w) (whole ts l s r (Found e i) p q h)

more : (i : List Terminal) (e : Expr) (l : Level) (ts : List Terminal) → 0 < length i → Meets 500 l ts (Found e i) → Shapeless l ts
more [] e l ts w m = absurd (omega (arith, w))
more (t ∷ i) e l ts w m = m

none : (i : List Terminal) (e : Expr) (l : Level) (ts : List Terminal) → length i ≡ 0 → Meets 500 l ts (Found e i) → IsExpression l ts e
none [] e l ts w m = record { derives = m.0; low = m.1 }
none (t ∷ i) e l ts w m = absurd (omega (arith, w))

low : (ts : List given.Terminal) (l : Level) (s r : ℕ) (e : Expr) (n : ℕ) → s ≡ length ts + 1 → r ≡ 501
    → capped s r l (seen ts 0) ≡ Found e (seen ts n) → height e ≤ 500 → Meets 500 l (map terminal ts) (Found e (seen ts n))
low ts l s r e n p q h w = subst (λ y. Meets 500 l (map terminal ts) y) (cap_low 500 e (seen ts n) w)
    (whole ts l s r (Found e (seen ts n)) p q h)

pub whole_more : (ts : List given.Terminal) (l : Level) (s r : ℕ) (e : Expr) (n : ℕ) → s ≡ length ts + 1 → r ≡ 501
    → capped s r l (seen ts 0) ≡ Found e (seen ts n) → height e ≤ 500 → n < length ts → Shapeless l (map terminal ts)
whole_more ts l s r e n p q h w k = more (seen ts n) e l (map terminal ts) (omega (arith, seen_length ts n, k)) (low ts l s r e n p q h w)

pub whole_found : (ts : List given.Terminal) (l : Level) (s r : ℕ) (e : Expr) (n : ℕ) → s ≡ length ts + 1 → r ≡ 501
    → capped s r l (seen ts 0) ≡ Found e (seen ts n) → height e ≤ 500 → n ≡ length ts → IsExpression l (map terminal ts) e
whole_found ts l s r e n p q h w k = none (seen ts n) e l (map terminal ts) (omega (arith, seen_length ts n, k)) (low ts l s r e n p q h w)
