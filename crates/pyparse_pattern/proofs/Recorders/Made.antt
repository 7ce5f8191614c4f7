-- What was made after a node that was recorded, or handed on from a reader further in: the places of the whole.
--
-- Carries: each reader of patterns. On: the steps of an answer, in pyplaces.
use Rattle.std.proofs.Common.{◌≡◌, sym, subst, ℕ, List, ◌++◌, Result, Ok, Err}
use Rattle.std.specs.Prelude.{IfOk, MatchResult}
use Rattle.pytree_node.specs.Trees.{Pattern}
use Rattle.pytree_node.specs.TreeOf.{pattern_of}
use Rattle.pytoken.specs.Terminals.{Terminal}
use Rattle.pytoken.specs.declared.values.terminals.Terminal as given
use Rattle.pygrammar.specs.declared.pattern_levels.PatternLevel.{PatternLevel}
use Rattle.pyparse_nodes.specs.declared.stop.Stop.{Stop}
use Rattle.pyparse_nodes.specs.declared.stop.Stop.TheVariants as stop
use Rattle.pyparse_nodes.specs.Views.{seen}
use Rattle.pyparse_pattern.specs.declared.found.ReadPattern.{ReadPattern}
use Rattle.pyparse_pattern.specs.Inner.Made.{MadePattern, MakesPattern}
use Rattle.pyplaces.specs.Stretches.{Stretch}
use Rattle.pyplaces.specs.Placed.{ReadAs}
use Rattle.pyplaces.specs.PlacedPatterns.{PlacedPattern}
use Rattle.pyplaces.specs.Recording.{Records}
use Rattle.pyplaces.proofs.Answers.{records_more}

-- What is read of one thing up to a place is read of another that is the same; K says of a thing, what is after it and the place of that.
pub said_as : {A : Type 0} (K : A → List Terminal → ℕ → Type 0) {e f : A} {n k : ℕ} (rest : ℕ → List Terminal) → f ≡ e → k ≡ n
    → K e (rest n) n → K f (rest k) k
said_as K {e} {f} {n = n} rest h q p = subst (λ z. K f (rest z) z) (sym q) (subst (λ z. K z (rest n) n) (sym h) p)

-- the same list in other words
pub placed_in : {P : Type 0} {X : List Terminal → Type 0} {f : (ts : List Terminal) → ℕ → X ts → P} {i j r : List Terminal}
    {at following : ℕ} {ps : P} → j ≡ i → ReadAs X f i at r following ps → ReadAs X f j at r following ps
placed_in {X = X} {f = f} {r = r} {at = at} {following = following} {ps = ps} h p = subst (λ z. ReadAs X f z at r following ps) (sym h) p

-- a pattern of a level at the front of a list that begins at a place, and its places
abbrev pub Whole : {S : Type 0} → (S → Stretch → S) → List given.Terminal → PatternLevel → List Terminal → ℕ → S → S → ReadPattern → Type 0
Whole after ts l i at u v r =
    (ps : List Stretch) × PlacedPattern l i at (pattern_of r.pattern.value) (seen ts r.next) r.next ps × Records after u ps v

-- the same after places that are recorded already
abbrev pub WholeAfter : {S : Type 0} → (S → Stretch → S) → List given.Terminal → PatternLevel → List Terminal → ℕ → List Stretch → S → S
    → ReadPattern → Type 0
WholeAfter after ts l i at ps u v r =
    (qs : List Stretch) × PlacedPattern l i at (pattern_of r.pattern.value) (seen ts r.next) r.next (ps ++ qs) × Records after u qs v

module _ {S : Type 0} (after : S → Stretch → S) (u v : S) (ts : List given.Terminal) where
  -- what was read is this pattern
  pub whole_is : {qs : List Stretch} (l : PatternLevel) (i : List Terminal) (at : ℕ) (p : Pattern) (n : ℕ) (r : ReadPattern)
      → pattern_of r.pattern.value ≡ p → r.next ≡ n → PlacedPattern l i at p (seen ts n) n qs → Records after u qs v
      → Whole after ts l i at u v r
  whole_is {qs = qs} l i at p n r e q d k = (qs, said_as (λ x s m. PlacedPattern l i at x s m qs) (seen ts) e q d, k)

  -- made by a maker
  pub whole_made : {qs : List Stretch} (l : PatternLevel) (i : List Terminal) (at room : ℕ) (p : Pattern) (n : ℕ)
      (z : Result ReadPattern Stop)
      → MakesPattern room p n z → PlacedPattern l i at p (seen ts n) n qs → Records after u qs v → IfOk z (Whole after ts l i at u v)
  whole_made l i at room p n (Ok r) m d k = whole_is l i at p n r m.pattern m.next_is d k
  whole_made l i at room p n (Err s) m d k = tt

  pub whole_after : {qs : List Stretch} (ps : List Stretch) (l : PatternLevel) (i : List Terminal) (at room : ℕ) (p : Pattern)
      (n : ℕ) (z : Result ReadPattern Stop)
      → MakesPattern room p n z → PlacedPattern l i at p (seen ts n) n (ps ++ qs) → Records after u qs v
      → IfOk z (WholeAfter after ts l i at ps u v)
  whole_after {qs = qs} ps l i at room p n (Ok r) m d k =
      (qs, said_as (λ x s o. PlacedPattern l i at x s o (ps ++ qs)) (seen ts) m.pattern m.next_is d, k)
  whole_after ps l i at room p n (Err s) m d k = tt

  -- of height 1
  pub leaf_made : {qs : List Stretch} (l : PatternLevel) (i : List Terminal) (at : ℕ) (p : Pattern) (n : ℕ) (z : Result ReadPattern Stop)
      → MatchResult z (λ r. MadePattern 1 p n r) (λ s. s ≡ stop.Memory)
      → PlacedPattern l i at p (seen ts n) n qs → Records after u qs v → IfOk z (Whole after ts l i at u v)
  leaf_made l i at p n (Ok r) m d k = whole_is l i at p n r m.pattern m.next_is d k
  leaf_made l i at p n (Err s) m d k = tt

  -- read by a reader further in, which says the same of another level, or of the same list in other words
  pub whole_on : (l m : PatternLevel) (i : List Terminal) (at : ℕ) (z : Result ReadPattern Stop) → IfOk z (Whole after ts l i at u v)
      → ((p : Pattern) (r : List Terminal) (n : ℕ) (ps : List Stretch) → PlacedPattern l i at p r n ps → PlacedPattern m i at p r n ps)
      → IfOk z (Whole after ts m i at u v)
  whole_on l m i at (Ok r) h f = (h.0, f _ _ _ _ h.1, h.2)
  whole_on l m i at (Err s) h f = tt

  pub whole_seen : (l : PatternLevel) (i j : List Terminal) (at : ℕ) (z : Result ReadPattern Stop) → i ≡ j
      → IfOk z (Whole after ts l j at u v) → IfOk z (Whole after ts l i at u v)
  whole_seen l i j at z q h = subst (λ k. IfOk z (Whole after ts l k at u v)) (sym q) h

  pub whole_at : (l m : PatternLevel) (i : List Terminal) (at : ℕ) (z : Result ReadPattern Stop) → l ≡ m
      → IfOk z (Whole after ts m i at u v) → IfOk z (Whole after ts l i at u v)
  whole_at l m i at z q h = subst (λ k. IfOk z (Whole after ts k i at u v)) (sym q) h

  -- with what was read in front
  pub whole_joined : {w : S} {ps : List Stretch} (l : PatternLevel) (i : List Terminal) (at : ℕ) (z : Result ReadPattern Stop)
      → Records after u ps w → IfOk z (WholeAfter after ts l i at ps w v) → IfOk z (Whole after ts l i at u v)
  whole_joined {ps = ps} l i at (Ok r) k h = (ps ++ h.0, h.1, records_more k h.2)
  whole_joined l i at (Err s) k h = tt
