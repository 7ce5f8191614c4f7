-- Operations, and the loop over operators.
--
-- Carries: climb, climb_first, prefixed, signed, operation, binary, chain, compare. On: Levels, Lower, Turns.
use Rattle.std.proofs.Common.{◌≡◌, refl, ap, ◌∙◌, ℕ, ◌+◌, ◌≤◌, arith, List, [], ◌∷◌, ◌++◌, Some}
use Rattle.pylex_lexeme.specs.declared.kinds.Exact.TheVariants.{DoubleStar}
use Rattle.pytoken.specs.declared.keywords.Keyword.TheVariants as Key
use Rattle.pytree_node.specs.declared.operators.Operator.{Operator}
use Rattle.pytree_node.specs.declared.operators.Operator.TheVariants as Bin
use Rattle.pytree_node.specs.declared.operators.UnaryOperator.{UnaryOperator}
use Rattle.pytree_node.specs.declared.operators.BoolOperator.{BoolOperator}
use Rattle.pytree_node.specs.declared.operators.BoolOperator.TheVariants as Join
use Rattle.pytree_node.specs.declared.operators.Comparison.{Comparison}
use Rattle.pygrammar.specs.declared.levels.Level.{Level}
use Rattle.pygrammar.specs.declared.levels.Level.TheVariants.{And, Not, Compare, BitOr, Factor, Power, Await, Primary}
use Rattle.pytree_node.specs.Trees
use Rattle.pytree_node.specs.Trees.{Expr, exprs}
use Rattle.pytoken.specs.Terminals.{Terminal, Op, Word}
use Rattle.pygrammar.specs.Operators.{below, chain_level, chain_word, left_operator, prefix_operator, rank}
use Rattle.pygrammar.specs.Precedence as precedence
use Rattle.pygrammar.specs.Grammar as G
use Rattle.pygrammar.proofs.Callers.Steps.{raise_is, awaits_is}
use Rattle.pyplaces.specs.Stretches.{Stretch, stretch}
use Rattle.pyplaces.specs.Placed.{Placed, PlacedChain, PlacedCompares}
use Rattle.pyplaces.specs.Standing.{turn_of, Ended, follower, Standing}
use Rattle.pyplaces.proofs.Fronts.{sign, both, front_of, from, built, ◌⊕◌, own}
use Rattle.pyplaces.proofs.Expressions.Levels.{placed_next}
use Rattle.pyplaces.proofs.Expressions.Lower.{placed_lower}
use Rattle.pyplaces.proofs.Expressions.Turns.{turns, turn_is, left_facts, chain_facts, signed_facts, follower_rank}
use Rattle.pyplaces.proofs.Expressions.Turns.{joint_or, joint_and, joint_compare, joint_power}

-- ---- The nodes.
pub placed_unary : {l : Level} {t : Terminal} {y : UnaryOperator} {i r s : List Terminal} {at following : ℕ} {e : Expr} {ps : List Stretch}
    → prefix_operator l t ≡ Some y → i ≡ t ∷ r → Placed l r (at + 1) e s following ps
    → Placed l i at (Trees.UnaryOp y e) s following (ps ++ (stretch at following ∷ []))
placed_unary q h p = built (sign h (front_of p)) (G.unary q p.derived) (from p (omega arith) ⊕ own (omega (arith, p.ends)))

pub placed_await : {i r s : List Terminal} {at following : ℕ} {e : Expr} {ps : List Stretch} → i ≡ Word Key.Await ∷ r
    → Placed Primary r (at + 1) e s following ps → Placed Await i at (Trees.Await e) s following (ps ++ (stretch at following ∷ []))
placed_await h p = built (sign h (front_of p)) (G.await p.derived) (from p (omega arith) ⊕ own (omega (arith, p.ends)))

pub placed_binary : {l : Level} {t : Terminal} {o : Operator} {i r s u : List Terminal} {at m following : ℕ}
    {a b : Expr} {ps qs : List Stretch}
    → left_operator l t ≡ Some o → Placed l i at a r m ps → r ≡ t ∷ s → Placed (below l) s (m + 1) b u following qs
    → Placed l i at (Trees.BinOp a o b) u following (ps ++ (qs ++ (stretch at following ∷ [])))
placed_binary {t = t} y p h q = built (both (front_of p) (sign h (front_of q))) (G.binary t y p.derived q.derived)
    (p.places_are ⊕ from q (omega (arith, p.ends)) ⊕ own (omega (arith, p.ends, q.ends)))

pub placed_power : {i r s u : List Terminal} {at m following : ℕ} {a b : Expr} {ps qs : List Stretch} → Placed Await i at a r m ps
    → r ≡ Op DoubleStar ∷ s → Placed Factor s (m + 1) b u following qs
    → Placed Power i at (Trees.BinOp a Bin.Pow b) u following (ps ++ (qs ++ (stretch at following ∷ [])))
placed_power p h q = built (both (front_of p) (sign h (front_of q))) (G.power p.derived q.derived)
    (p.places_are ⊕ from q (omega (arith, p.ends)) ⊕ own (omega (arith, p.ends, q.ends)))

pub placed_chain : {j : BoolOperator} {i r s u : List Terminal} {at m following : ℕ} {e : Expr} {es : List Expr} {ps qs : List Stretch}
    → Placed (below (chain_level j)) i at e r m ps → r ≡ Word (chain_word j) ∷ s → PlacedChain j s (m + 1) es u following qs
    → Placed (chain_level j) i at (Trees.BoolOp j (exprs (e ∷ es))) u following (ps ++ (qs ++ (stretch at following ∷ [])))
placed_chain p h q = built (both (front_of p) (sign h (front_of q))) (G.chain p.derived q.derived)
    (p.places_are ⊕ from q (omega (arith, p.ends)) ⊕ own (omega (arith, p.ends, q.ends)))

pub placed_compare : {i r s : List Terminal} {at m following : ℕ} {e : Expr} {os : List Comparison} {es : List Expr} {ps qs : List Stretch}
    → Placed BitOr i at e r m ps → PlacedCompares r m os es s following qs
    → Placed Compare i at (Trees.Compare e os (exprs es)) s following (ps ++ (qs ++ (stretch at following ∷ [])))
placed_compare p q = built (both (front_of p) (front_of q)) (G.compare p.derived q.derived)
    (p.places_are ⊕ from q p.ends ⊕ own (omega (arith, p.ends, q.ends)))

-- ---- What climbing carries: the front, and one operator more.

standing : {k : ℕ} {i r : List Terminal} {at following : ℕ} {e : Expr} {ps : List Stretch} (l : Level) → Placed l i at e r following ps
    → k ≤ rank l → rank l ≤ 22 → turn_of r ≤ follower l → Standing k i at e r following ps
standing l p a b c = record { level = l; placed = p; least = a; most = b; follows = c }

pub standing_primary : {i r : List Terminal} {at following k : ℕ} {e : Expr} {ps : List Stretch} → Placed Primary i at e r following ps → k ≤ 22
    → Standing k i at e r following ps
standing_primary {r = r} p h = standing Await (placed_next p) h (omega arith) (omega (arith, turns r))

pub standing_awaits : {t : Terminal} {i r s : List Terminal} {at following k : ℕ} {e : Expr} {ps : List Stretch}
    → precedence.before t ≡ Some precedence.Awaits → i ≡ t ∷ r → Placed Primary r (at + 1) e s following ps → k ≤ 22
    → Standing k i at (Trees.Await e) s following (ps ++ (stretch at following ∷ []))
standing_awaits {t = t} {r = r} {s = s} q h p a = standing Await (placed_await (h ∙ ap (λ z. z ∷ r) (awaits_is t q)) p) a (omega arith)
    (omega (arith, turns s))

pub standing_signed : {l : Level} {t : Terminal} {y : UnaryOperator} {i r s : List Terminal} {at following k : ℕ}
    {e : Expr} {ps : List Stretch}
    → precedence.before t ≡ Some (precedence.Signed l y) → i ≡ t ∷ r → Placed l r (at + 1) e s following ps → Ended (rank l) s → k ≤ rank l
    → Standing k i at (Trees.UnaryOp y e) s following (ps ++ (stretch at following ∷ []))
standing_signed {l} {t = t} {y = y} q h p f a = let z = signed_facts t l y q in
    standing l (placed_unary z.operator h p) a z.most (omega (arith, f, z.follows))

pub standing_binary : {l : Level} {t : Terminal} {o : Operator} {i r s u : List Terminal} {k at m following : ℕ}
    {a b : Expr} {ps qs : List Stretch}
    → Standing k i at a r m ps → r ≡ t ∷ s → precedence.following t ≡ Some (precedence.Left l o) → k ≤ rank l
    → Placed (below l) s (m + 1) b u following qs → Ended (rank (below l)) u
    → Standing k i at (Trees.BinOp a o b) u following (ps ++ (qs ++ (stretch at following ∷ [])))
standing_binary {l} {t} {o} p h y c q f = let z = left_facts t l o y in
    standing l (placed_binary z.operator
    (placed_lower l p.level (omega (arith, z.least)) (omega (arith, z.most))
    (omega (arith, p.follows, turn_is h y, follower_rank p.level p.most)) p.placed) h q)
    c (omega (arith, z.most)) (omega (arith, f, z.next, z.follows))

pub standing_power : {t : Terminal} {i r s u : List Terminal} {k at m following : ℕ} {a b : Expr} {ps qs : List Stretch}
    → Standing k i at a r m ps → r ≡ t ∷ s → precedence.following t ≡ Some precedence.Raise → k ≤ 21 → Placed Factor s (m + 1) b u following qs
    → Ended (rank Factor) u → Standing k i at (Trees.BinOp a Bin.Pow b) u following (ps ++ (qs ++ (stretch at following ∷ [])))
standing_power {t = t} {s = s} p h y c q f = standing Power (placed_power (placed_lower Await p.level (omega arith) (omega arith)
    (joint_power p.level p.most (omega (arith, p.follows, turn_is h y))) p.placed) (h ∙ ap (λ z. z ∷ s) (raise_is t y)) q)
    c (omega arith) (omega (arith, f))

chain_lower : {k : ℕ} {i r s : List Terminal} {at following : ℕ} {e : Expr} {ps : List Stretch} (j : BoolOperator)
    → Standing k i at e r following ps
    → r ≡ Word (chain_word j) ∷ s → Placed (below (chain_level j)) i at e r following ps
chain_lower Join.And p h = placed_lower Not p.level (omega arith) (omega arith)
    (joint_and p.level p.most (omega (arith, p.follows, turn_is {o = precedence.Joins Join.And} h refl))) p.placed
chain_lower Join.Or p h = placed_lower And p.level (omega arith) (omega arith)
    (joint_or p.level p.most (omega (arith, p.follows, turn_is {o = precedence.Joins Join.Or} h refl))) p.placed

pub standing_chain : {j : BoolOperator} {i r s u : List Terminal} {k at m following : ℕ} {e : Expr} {es : List Expr} {ps qs : List Stretch}
    → Standing k i at e r m ps → r ≡ Word (chain_word j) ∷ s → k ≤ rank (chain_level j) → PlacedChain j s (m + 1) es u following qs
    → Ended (rank (chain_level j)) u → Standing k i at (Trees.BoolOp j (exprs (e ∷ es))) u following (ps ++ (qs ++ (stretch at following ∷ [])))
standing_chain {j} p h c q f = let z = chain_facts j in
    standing (chain_level j) (placed_chain (chain_lower j p h) h q) c (omega (arith, z.most)) (omega (arith, f, z.follows))

pub standing_compare : {t : Terminal} {i r s u : List Terminal} {k at m following : ℕ} {e : Expr} {os : List Comparison}
    {es : List Expr} {ps qs : List Stretch}
    → Standing k i at e r m ps → r ≡ t ∷ s → precedence.following t ≡ Some precedence.Compares → k ≤ 13 → PlacedCompares r m os es u following qs
    → Ended 13 u → Standing k i at (Trees.Compare e os (exprs es)) u following (ps ++ (qs ++ (stretch at following ∷ [])))
standing_compare p h y c q f = standing Compare (placed_compare (placed_lower BitOr p.level (omega arith) (omega arith)
    (joint_compare p.level p.most (omega (arith, p.follows, turn_is h y))) p.placed) q)
    c (omega arith) (omega (arith, f))

-- no further operator is of the level
pub standing_end : {l : Level} {i r : List Terminal} {at following : ℕ} {e : Expr} {ps : List Stretch} → 10 ≤ rank l → rank l ≤ 22
    → Standing (rank l) i at e r following ps → Placed l i at e r following ps
standing_end {l} a b p = placed_lower l p.level a b p.least p.placed
