-- What the terminals of a node's parts say of the node's own: one after the other they are a front of the list.
--
-- Carries: the lemmas on alternatives.
use Rattle.std.proofs.Common.{◌≡◌, refl, sym, ap, ◌∙◌, ℕ, ◌+◌, arith, List, [], ◌∷◌, ◌++◌, length, append_assoc, length-append}
use Rattle.pytoken.specs.Terminals.{Terminal}
use Rattle.pyplaces.specs.Stretches.{Stretch, stretch}
use Rattle.pyplaces.specs.EntryPlaces.{EntryPlaces}
use Rattle.pyplaces.specs.Placed.{ReadAs}

infixr 50 ◌⊕◌
-- of i, which begins after `at` terminals of the line, ts are the front up to r
pub record Front (i : List Terminal) (at : ℕ) (ts r : List Terminal) (following : ℕ) : Type 0 where
  pub is : i ≡ ts ++ r
  pub ends : at + length ts ≡ following

pub nothing : {r : List Terminal} {at : ℕ} → Front r at [] r at
nothing {r} {at} = record { is = refl; ends = omega arith }

-- a terminal, and a front after it
pub sign : {i ts r s : List Terminal} {at following : ℕ} {t : Terminal} → i ≡ t ∷ r → Front r (at + 1) ts s following
    → Front i at (t ∷ ts) s following
sign {ts = ts} {t = t} h f = record { is = h ∙ ap (λ z. t ∷ z) f.is; ends = omega (arith, f.ends) }

-- two terminals
pub signs : {i ts r s : List Terminal} {at following : ℕ} {t u : Terminal} → i ≡ t ∷ (u ∷ r) → Front r (at + 2) ts s following
    → Front i at (t ∷ (u ∷ ts)) s following
signs {ts = ts} {t = t} {u = u} h f = record { is = h ∙ ap (λ z. t ∷ (u ∷ z)) f.is; ends = omega (arith, f.ends) }

pub both : {i ts r us s : List Terminal} {at middle following : ℕ} → Front i at ts r middle → Front r middle us s following
    → Front i at (ts ++ us) s following
both {ts = ts} {us = us} {s = s} f g = record {
  is = f.is ∙ (ap (λ z. ts ++ z) g.is ∙ sym (append_assoc ts us s));
  ends = omega (arith, length-append ts us, f.ends, g.ends);
}

-- places one after the other
pub ◌⊕◌ : {A : Type 0} {a b c d : List A} → a ≡ b → c ≡ d → a ++ c ≡ b ++ d
◌⊕◌ {b = b} {c = c} p q = ap (λ z. z ++ c) p ∙ ap (λ z. b ++ z) q

-- a node's own
pub own : {at end following : ℕ} → end ≡ following → stretch at end ∷ [] ≡ stretch at following ∷ []
own {at} h = ap (λ z. stretch at z ∷ []) h

-- the same, where it doesn't begin with the alternative's first terminal
pub reaches : {first at end following : ℕ} → first ≡ at → end ≡ following → stretch first end ∷ [] ≡ stretch at following ∷ []
reaches {at = at} {end = end} h k = ap (λ z. stretch z end ∷ []) h ∙ ap (λ z. stretch at z ∷ []) k

-- those of an entry
pub entry : {A : Type 0} {ps qs vs ws : List Stretch} (f : List Stretch → List Stretch → A) → ps ≡ qs → vs ≡ ws → f ps vs ≡ f qs ws
entry {qs = qs} {vs = vs} f h k = ap (λ z. f z vs) h ∙ ap (λ z. f qs z) k

pub entry_at : {ps qs : List Stretch} {at end following : ℕ} (f : List Stretch → Stretch → EntryPlaces) → ps ≡ qs → end ≡ following
    → f ps (stretch at end) ≡ f qs (stretch at following)
entry_at {qs = qs} {at = at} {end = end} f h k = ap (λ z. f z (stretch at end)) h ∙ ap (λ z. f qs (stretch at z)) k

-- ---- Lists.

pub cons : {A : Type 0} {a b : A} {as_ bs : List A} → a ≡ b → as_ ≡ bs → a ∷ as_ ≡ b ∷ bs
cons {b = b} {as_ = as_} h k = ap (λ z. z ∷ as_) h ∙ ap (λ z. b ∷ z) k

pub tails : (t u : Terminal) (r s : List Terminal) → t ∷ r ≡ u ∷ s → r ≡ s
tails t u r s h = cc

-- ---- What is read, by its front.

module _ {P : Type 0} {X : List Terminal → Type 0} {f : (ts : List Terminal) → ℕ → X ts → P} where
  pub front_of : {i r : List Terminal} {at following : ℕ} {ps : P} (p : ReadAs X f i at r following ps) → Front i at p.front r following
  front_of p = record { is = p.is; ends = p.ends }

  -- its places, where the number before it is another term
  pub from : {i r : List Terminal} {n at following : ℕ} {ps : P} (p : ReadAs X f i at r following ps) → n ≡ at → f p.front n p.derived ≡ ps
  from p h = ap (λ z. f p.front z p.derived) h ∙ p.places_are

  pub built : {i ts r : List Terminal} {at following : ℕ} {ps : P} → Front i at ts r following → (d : X ts) → f ts at d ≡ ps
      → ReadAs X f i at r following ps
  built {ts = ts} f d h = record { front = ts; is = f.is; ends = f.ends; derived = d; places_are = h }
