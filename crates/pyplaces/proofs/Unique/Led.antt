-- With which terminals the expressions of a level begin.
--
-- Carries: led, NotStar, not_star, for Levels, Expressions. On: LookLemmas.
use Rattle.std.proofs.Common.{◌≡◌, ◌≤◌, arith, List, ◌∷◌, ◌++◌, Some, Bool, true}
use Rattle.pylex_lexeme.specs.declared.kinds.Exact.TheVariants.{Colon}
use Rattle.pytree_node.specs.declared.operators.Operator.{Operator}
use Rattle.pytree_node.specs.declared.operators.UnaryOperator.{UnaryOperator}
use Rattle.pytree_node.specs.declared.operators.BoolOperator.{BoolOperator}
use Rattle.pytree_node.specs.declared.operators.BoolOperator.TheVariants as Join
use Rattle.pygrammar.specs.declared.levels.Level.{Level}
use Rattle.pygrammar.specs.declared.levels.Level.TheVariants.{Expression, Slice}
use Rattle.pytree_node.specs.Trees.{Expr, OptionalExpr}
use Rattle.pytoken.specs.Terminals.{Terminal, Op}
use Rattle.pygrammar.specs.Operators.{below, left_operator, prefix_operator, chain_level}
use Rattle.pygrammar.specs.FormattedStrings.{StringPart, has_formatted}
use Rattle.pygrammar.specs.Grammar as G
use Rattle.pygrammar.specs.Precedence.{first}
use Rattle.pygrammar.proofs.Callers.Terminals.{first_below, first_pos, prefix_led, constant_led}
use Rattle.pyplaces.specs.Inner.Looks.{lead_of}
use Rattle.pyplaces.proofs.Unique.LookLemmas.{lead_front}

literals_led : {u : Bool} {ts : List Terminal} {ps : List StringPart} → G.Literals u ts ps → has_formatted ts ≡ true → 24 ≤ lead_of ts
literals_led G.no_literal h = absurd (cc)
literals_led (G.text_literal l) h = omega arith
literals_led (G.formatted_literal p l) h = omega arith

mutual
  pub led : {l : Level} {ts : List Terminal} {e : Expr} → G.Derives l ts e → first l ≤ lead_of ts
  led (G.next {l = l} p) = omega (arith, led p, first_below l)
  led (G.star_tuple {ts = ts} p c) = lead_front ts _ 7 (omega arith) (led p)
  led (G.if_else {ts = ts} p q r) = lead_front ts _ 9 (omega arith) (omega (arith, led p))
  led (G.chain {o = o} {ts = ts} p c) = lead_front ts _ (first (chain_level o)) (first_pos (chain_level o))
      (omega (arith, led p, first_below (chain_level o)))
  led (G.unary {l = l} {t = t} {o = o} h p) = prefix_led l t o h
  led (G.compare {ts = ts} p c) = lead_front ts _ 13 (omega arith) (omega (arith, led p))
  led (G.binary {l = l} {ts = ts} t h p q) = lead_front ts _ (first l) (first_pos l) (led p)
  led (G.power {ts = ts} p q) = lead_front ts _ 21 (omega arith) (omega (arith, led p))
  led (G.attribute {ts = ts} x p) = lead_front ts _ 23 (omega arith) (led p)
  led (G.call {ts = ts} p c h) = lead_front ts _ 23 (omega arith) (led p)
  led (G.call_generator {ts = ts} p q c) = lead_front ts _ 23 (omega arith) (led p)
  led (G.subscript {ts = ts} p q) = lead_front ts _ 23 (omega arith) (led p)
  led (G.constant {t = t} {v = v} h) = constant_led t v h
  led (G.joined_string l b h) = literals_led l h
  led (G.parts {ts = ts} p c) = lead_front ts _ 5 (omega arith) (led p)
  led (G.subject_tuple {ts = ts} p c) = lead_front ts _ 7 (omega arith) (led p)
  led (G.slice a b) = perhaps_led a _
  led (G.slice_step a b c) = perhaps_led a _
  led _ = omega arith

  -- an Expression, or none and then `:`
  perhaps_led : {ts : List Terminal} {e : OptionalExpr} → G.Perhaps Expression ts e → (us : List Terminal)
      → 5 ≤ lead_of (ts ++ (Op Colon ∷ us))
  perhaps_led G.nothing us = omega arith
  perhaps_led (G.something {ts = ts} p) us = lead_front ts _ 5 (omega arith) (omega (arith, led p))

-- no Slice begins with a star
abbrev pub NotStar : Level → List Terminal → Type 0
NotStar Slice ts = lead_of ts ≡ 7 → ⊥
NotStar l ts = Unit {0}

next_not_star : (l : Level) (ts : List Terminal) → first (below l) ≤ lead_of ts → NotStar l ts
next_not_star Slice ts h = λ q. omega (arith, h, q)
next_not_star _ ts h = tt

unary_not_star : (l : Level) (t : Terminal) (o : UnaryOperator) (ts : List Terminal) → prefix_operator l t ≡ Some o → NotStar l (t ∷ ts)
unary_not_star Slice t o ts h = absurd (cc)
unary_not_star _ t o ts h = tt

binary_not_star : (l : Level) (t : Terminal) (o : Operator) (ts : List Terminal) → left_operator l t ≡ Some o → NotStar l ts
binary_not_star Slice t o ts h = absurd (cc)
binary_not_star _ t o ts h = tt

chain_not_star : (o : BoolOperator) (ts : List Terminal) → NotStar (chain_level o) ts
chain_not_star Join.And ts = tt
chain_not_star Join.Or ts = tt

colon_not_star : {ts : List Terminal} {e : OptionalExpr} → G.Perhaps Expression ts e → (us : List Terminal)
    → lead_of (ts ++ (Op Colon ∷ us)) ≡ 7 → ⊥
colon_not_star G.nothing us q = omega (arith, q)
colon_not_star (G.something {ts = ts} p) us q = omega (arith, q, lead_front ts (Op Colon ∷ us) 9 (omega arith) (led p))

pub not_star : {l : Level} {ts : List Terminal} {e : Expr} → G.Derives l ts e → NotStar l ts
not_star (G.next {l = l} p) = next_not_star l _ (led p)
not_star (G.unary {l = l} {t = t} {o = o} h p) = unary_not_star l t o _ h
not_star (G.binary {l = l} {o = o} t h p q) = binary_not_star l t o _ h
not_star (G.chain {o = o} p c) = chain_not_star o _
not_star (G.slice a b) = colon_not_star a _
not_star (G.slice_step a b c) = colon_not_star a _
not_star _ = tt
