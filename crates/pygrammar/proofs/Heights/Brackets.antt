-- An expression that begins with a round bracket has two terminals at least.
--
-- Carries: wide, for Bound. On: LevelLemmas.
use Rattle.std.proofs.Common.{◌≡◌, ◌≤◌, ◌<◌, arith, List, [], ◌∷◌, ◌++◌, Some, Bool, true, false}
use Rattle.pylex_lexeme.specs.declared.kinds.Exact.TheVariants.{LPar, RPar, Plus, Minus, Tilde, Colon, Comma}
use Rattle.pytree_node.specs.declared.operators.UnaryOperator.{UnaryOperator}
use Rattle.pygrammar.specs.Lengths.{weight}
use Rattle.pygrammar.proofs.Depths.Weights.{weight_append}
use Rattle.pygrammar.specs.declared.levels.Level.{Level}
use Rattle.pygrammar.specs.declared.levels.Level.TheVariants.{Expression, Not, Factor}
use Rattle.pytree_node.specs.Trees.{Expr, OptionalExpr}
use Rattle.pytree_node.specs.Values
use Rattle.pytoken.specs.Terminals.{Terminal, Op, Word}
use Rattle.pygrammar.specs.Operators.{below, prefix_operator, chain_level}
use Rattle.pygrammar.specs.Constants.{constant_word}
use Rattle.pygrammar.specs.FormattedStrings.{StringPart}
use Rattle.pygrammar.specs.Grammar as G
use Rattle.pygrammar.proofs.Completeness.LookLemmas.{lead_of}
use Rattle.pygrammar.proofs.Completeness.LevelLemmas.{led, first_pos}

abbrev is_opening : Terminal → Bool
is_opening (Op LPar) = true
is_opening _ = false

abbrev pub opens : List Terminal → Bool
opens [] = false
opens (t ∷ ts) = is_opening t

front : (ts us : List Terminal) → 0 < lead_of ts → opens (ts ++ us) ≡ true → opens ts ≡ true
front [] us p h = absurd (omega (arith, p))
front (t ∷ ts) us p h = h

wider : (ts us : List Terminal) → 2 ≤ weight ts → 2 ≤ weight (ts ++ us)
wider ts us h = omega (arith, h, weight_append ts us)

prefix_shut : (l : Level) (t : Terminal) (o : UnaryOperator) → prefix_operator l t ≡ Some o → is_opening t ≡ true → ⊥
prefix_shut Not (Word w) o h k = absurd (cc)
prefix_shut Factor (Op Plus) o h k = absurd (cc)
prefix_shut Factor (Op Minus) o h k = absurd (cc)
prefix_shut Factor (Op Tilde) o h k = absurd (cc)
prefix_shut Factor (Op _) o h k = absurd (cc)
prefix_shut _ t o h k = absurd (cc)

constant_shut : (t : Terminal) (v : Values.Value) → constant_word t ≡ Some v → is_opening t ≡ true → ⊥
constant_shut (Op LPar) v h k = absurd (cc)
constant_shut _ v h k = absurd (cc)

literals_shut : {u : Bool} {ts : List Terminal} {ps : List StringPart} → G.Literals u ts ps → opens ts ≡ true → ⊥
literals_shut G.no_literal h = absurd (cc)
literals_shut (G.text_literal l) h = absurd (cc)
literals_shut (G.formatted_literal p l) h = absurd (cc)

mutual
  pub wide : {l : Level} {ts : List Terminal} {e : Expr} → G.Derives l ts e → opens ts ≡ true → 2 ≤ weight ts
  wide (G.next p) h = wide p h
  wide (G.star_tuple {ts = ts} p c) h = wider ts _ (wide p (front ts _ (omega (arith, led p)) h))
  wide (G.if_else {ts = ts} p q r) h = wider ts _ (wide p (front ts _ (omega (arith, led p)) h))
  wide (G.chain {o = o} {ts = ts} p c) h = wider ts _ (wide p (front ts _ (omega (arith, led p, first_pos (below (chain_level o)))) h))
  wide (G.unary {l = l} {t = t} {o = o} q p) h = absurd (prefix_shut l t o q h)
  wide (G.compare {ts = ts} p c) h = wider ts _ (wide p (front ts _ (omega (arith, led p)) h))
  wide (G.binary {l = l} {ts = ts} t q p r) h = wider ts _ (wide p (front ts _ (omega (arith, led p, first_pos l)) h))
  wide (G.power {ts = ts} p q) h = wider ts _ (wide p (front ts _ (omega (arith, led p)) h))
  wide (G.attribute {ts = ts} x p) h = wider ts _ (wide p (front ts _ (omega (arith, led p)) h))
  wide (G.call {ts = ts} p c q) h = wider ts _ (wide p (front ts _ (omega (arith, led p)) h))
  wide (G.call_generator {ts = ts} p q c) h = wider ts _ (wide p (front ts _ (omega (arith, led p)) h))
  wide (G.subscript {ts = ts} p q) h = wider ts _ (wide p (front ts _ (omega (arith, led p)) h))
  wide (G.constant {t = t} {v = v} q) h = absurd (constant_shut t v q h)
  wide (G.joined_string l b q) h = absurd (literals_shut l h)
  wide (G.group {ts = ts} p) h = omega (arith, weight_append ts (Op RPar ∷ []))
  wide (G.yield_group {ts = ts} p) h = omega (arith, weight_append ts (Op RPar ∷ []))
  wide G.empty_tuple h = omega arith
  wide (G.tuple {ts = ts} {us = us} p c) h = omega (arith, weight_append ts (Op Comma ∷ (us ++ (Op RPar ∷ []))))
  wide (G.generator_group {ts = ts} {us = us} p c) h = omega (
    arith,
    weight_append ts (us ++ (Op RPar ∷ [])),
    weight_append us (Op RPar ∷ []),
  )
  wide (G.subject_tuple {ts = ts} p c) h = wider ts _ (wide p (front ts _ (omega (arith, led p)) h))
  wide (G.parts {ts = ts} p c) h = wider ts _ (wide p (front ts _ (omega (arith, led p)) h))
  wide (G.slice {ts = ts} p q) h = wide_perhaps p _ h
  wide (G.slice_step {ts = ts} p q r) h = wide_perhaps p _ h
  wide _ h = absurd (cc)

  wide_perhaps : {ts : List Terminal} {a : OptionalExpr} → G.Perhaps Expression ts a → (us : List Terminal)
      → opens (ts ++ (Op Colon ∷ us)) ≡ true → 2 ≤ weight (ts ++ (Op Colon ∷ us))
  wide_perhaps G.nothing us h = absurd (cc)
  wide_perhaps (G.something {ts = ts} p) us h = omega (
    arith,
    wide p (front ts _ (omega (arith, led p)) h),
    weight_append ts (Op Colon ∷ us),
  )
