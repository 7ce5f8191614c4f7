-- Chains of `and` and `or`, and of comparisons.
--
-- Carries: links, chain, compared_at, compare. On: Fronts, Loops.
use Rattle.std.proofs.Common.{◌≡◌, refl, sym, subst, ◌∙◌, ℕ, ◌+◌, arith, List, [], ◌∷◌, ◌++◌, Some, append_assoc}
use Rattle.std.proofs.lemmas.List.{append-nil}
use Rattle.pytoken.specs.declared.keywords.Keyword.TheVariants as Key
use Rattle.pytree_node.specs.declared.operators.BoolOperator.{BoolOperator}
use Rattle.pytree_node.specs.declared.operators.Comparison.{Comparison}
use Rattle.pytree_node.specs.declared.operators.Comparison.TheVariants as Is
use Rattle.pygrammar.specs.declared.levels.Level.TheVariants.{BitOr}
use Rattle.pytree_node.specs.Trees.{Expr}
use Rattle.pytoken.specs.Terminals.{Terminal, Word}
use Rattle.pygrammar.specs.Operators.{below, chain_level, chain_word, comparison}
use Rattle.pygrammar.specs.Grammar as G
use Rattle.pyplaces.specs.Stretches.{Stretch}
use Rattle.pyplaces.specs.Placed.{Placed, PlacedChain, PlacedSign}
use Rattle.pyplaces.specs.Rests.{Lacks, Links, no_word, words, Sides, no_sign, signs}
use Rattle.pyplaces.proofs.Fronts.{nothing, sign, both, front_of, from, built, ◌⊕◌, tails}
use Rattle.pyplaces.proofs.Loops.{Grows, grows_turn, grows_end}

pub placed_link : {o : BoolOperator} {i r s u : List Terminal} {at m following : ℕ} {e : Expr} {es : List Expr} {ps qs : List Stretch}
    → Placed (below (chain_level o)) i at e r m ps → r ≡ Word (chain_word o) ∷ s → PlacedChain o s (m + 1) es u following qs
    → PlacedChain o i at (e ∷ es) u following (ps ++ qs)
placed_link p h c = built (both (front_of p) (sign h (front_of c))) (G.link p.derived c.derived)
    (p.places_are ⊕ from c (omega (arith, p.ends)))

pub links_more : {o : BoolOperator} {r s u v : List Terminal} {m n k : ℕ} {e : Expr} {es : List Expr} {ps qs : List Stretch}
    → r ≡ Word (chain_word o) ∷ s → Placed (below (chain_level o)) s (m + 1) e u n ps → Links o u n es v k qs
    → Links o r m (e ∷ es) v k (ps ++ qs)
links_more {ps = ps} h p (no_word f) = words h (built (front_of p) (G.last_link p.derived) (p.places_are ∙ sym (append-nil ps)))
links_more h p (words k c) = words h (placed_link p k c)

pub links_turn : {o : BoolOperator} {i r s u : List Terminal} {at m n : ℕ} {e : Expr} {es : List Expr} {ps qs : List Stretch}
    → Grows (Links o) i at es r m ps → r ≡ Word (chain_word o) ∷ s → Placed (below (chain_level o)) s (m + 1) e u n qs
    → Grows (Links o) i at (es ++ (e ∷ [])) u n (ps ++ qs)
links_turn {e = e} {qs = qs} g h p = grows_turn (e ∷ []) qs g (λ fs s next ws c. links_more h p c)

pub links_end : {o : BoolOperator} {i r : List Terminal} {at m : ℕ} {es : List Expr} {ps : List Stretch} → Grows (Links o) i at es r m ps
    → Lacks (Word (chain_word o)) r → Links o i at es r m ps
links_end g f = grows_end g (no_word f)

-- where the word stands first
pub links_some : {o : BoolOperator} {r s u : List Terminal} {m n : ℕ} {es : List Expr} {ps : List Stretch} → Links o r m es s n ps
    → r ≡ Word (chain_word o) ∷ u → PlacedChain o u (m + 1) es s n ps
links_some (no_word f) h = absurd (f _ h)
links_some {o} {s = s} {m = m} {n = n} {es = es} {ps = ps} (words k c) h =
    subst (λ z. PlacedChain o z (m + 1) es s n ps) (tails _ _ _ _ (sym k ∙ h)) c

-- ---- Comparisons.
pub sign_one : {t : Terminal} {i r : List Terminal} {at : ℕ} {o : Comparison} → comparison t ≡ Some o → i ≡ t ∷ r
    → PlacedSign i at o r (at + 1)
sign_one q h = built (sign h nothing) (G.one_sign q) refl

pub sign_not_in : {i r s : List Terminal} {at : ℕ} → i ≡ Word Key.Not ∷ r → r ≡ Word Key.In ∷ s → PlacedSign i at Is.NotIn s (at + 1 + 1)
sign_not_in h k = built (sign h (sign k nothing)) G.not_in refl

pub sign_is : {i r : List Terminal} {at : ℕ} → i ≡ Word Key.Is ∷ r → PlacedSign i at Is.Is r (at + 1)
sign_is h = built (sign h nothing) G.is refl

pub sign_is_not : {i r s : List Terminal} {at : ℕ} → i ≡ Word Key.Is ∷ r → r ≡ Word Key.Not ∷ s → PlacedSign i at Is.IsNot s (at + 1 + 1)
sign_is_not h k = built (sign h (sign k nothing)) G.is_not refl

pub sides_more : {i r s u : List Terminal} {at m n k : ℕ} {e : Expr} {o : Comparison} {os : List Comparison}
    {es : List Expr} {ps qs : List Stretch}
    → PlacedSign i at o r m → Placed BitOr r m e s n ps → Sides s n os es u k qs → Sides i at (o ∷ os) (e ∷ es) u k (ps ++ qs)
sides_more {ps = ps} d p no_sign = signs (built (both (front_of d) (front_of p)) (G.last_compare d.derived p.derived)
    (from p d.ends ∙ sym (append-nil ps)))
sides_more d p (signs c) = signs (built (both (front_of d) (both (front_of p) (front_of c)))
    (G.compares d.derived p.derived c.derived) (from p d.ends ⊕ from c (omega (arith, d.ends, p.ends))))

-- some were read, for what follows
pub record SidesGrow (i : List Terminal) (at : ℕ) (os : List Comparison) (es : List Expr) (r : List Terminal)
    (following : ℕ) (ps : List Stretch)
    : Type 0 where
  pub so : (ns : List Comparison) (fs : List Expr) (s : List Terminal) (next : ℕ) (qs : List Stretch) → Sides r following ns fs s next qs
      → Sides i at (os ++ ns) (es ++ fs) s next (ps ++ qs)

pub sides_start : {i : List Terminal} {at : ℕ} → SidesGrow i at [] [] i at []
sides_start = record { so = λ ns fs s next qs c. c }

pub sides_turn : {i r s u : List Terminal} {at m n k : ℕ} {e : Expr} {o : Comparison} {os : List Comparison}
    {es : List Expr} {ps qs : List Stretch}
    → SidesGrow i at os es r m ps → PlacedSign r m o s n → Placed BitOr s n e u k qs
    → SidesGrow i at (os ++ (o ∷ [])) (es ++ (e ∷ [])) u k (ps ++ qs)
sides_turn {e = e} {o = o} {os = os} {es = es} {ps = ps} {qs = qs} g d p = record {
  so = λ ns fs s next ws c. rw (append_assoc os (o ∷ []) ns, append_assoc es (e ∷ []) fs, append_assoc ps qs ws)
      (g.so (o ∷ ns) (e ∷ fs) s next (qs ++ ws) (sides_more d p c));
}

pub sides_end : {i r : List Terminal} {at m : ℕ} {os : List Comparison} {es : List Expr} {ps : List Stretch} → SidesGrow i at os es r m ps
    → Sides i at os es r m ps
sides_end {os = os} {es = es} {ps = ps} g = let c = g.so [] [] _ _ [] no_sign in rw (append-nil os, append-nil es, append-nil ps) at c
