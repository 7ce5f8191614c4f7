-- How deep the reader goes: more depth keeps an answer.
--
-- Carries: Keeps, keeps_read, light_read and what Depth, Headers, KeepsCapped and the Keeps of patterns need. On: Related.
use Rattle.std.proofs.Common.{◌≡◌, ◌⊎◌, inl, inr, refl, ap, ◌∙◌, sym, subst, ℕ, zero, suc, ◌<◌, arith, List, [], ◌∷◌, Option, Some}
use Rattle.std.proofs.Common.{None, Bool, true, false, cond}
use Rattle.pygrammar.specs.declared.levels.Level.{Level}
use Rattle.pytree_node.specs.Values
use Rattle.pytoken.specs.Terminals.{Terminal}
use Rattle.pygrammar.specs.Lengths.{weight}
use Rattle.pygrammar.specs.FormattedStrings.{StringPart}
use Rattle.pygrammar.specs.Entries.{Item, Entry}
use Rattle.pygrammar.specs.Reader.{Answer, Found, NoForm, TooDeep, and_then, on_some, on_first, Reads, listing_of}
use Rattle.pygrammar.specs.Reader.{read_target, joined_step, literals, levels_from, descend, read}
use Rattle.pygrammar.proofs.Related.Rules.{Relation, Kept, To}
use Rattle.pygrammar.proofs.Related.Expressions.{r_listing_of, r_target}
use Rattle.pygrammar.proofs.Related.Strings.{r_joined, r_literals}
use Rattle.pygrammar.proofs.Related.Levels.{r_descend}

-- an answer that stays, at more depth
abbrev pub Keeps : {A : Type 0} → Answer A → Answer A → Type 0
Keeps x y = (x ≡ TooDeep) ⊎ (x ≡ y)

-- what is left after what is found counts less than n
abbrev pub Light : {A : Type 0} → ℕ → Answer A → Type 0
Light n (Found a r) = weight r < n
Light n NoForm = Unit {0}
Light n TooDeep = Unit {0}

abbrev pub KeepsOf : Relation
KeepsOf A s t n x y = (x ≡ TooDeep) ⊎ ((x ≡ y) × Light n x)

keeps_on : {A B : Type 0} (s : A → ℕ) (u : B → ℕ) (m n : ℕ) (x y : Answer A) (k j : A → List Terminal → Answer B) → KeepsOf A s 0 m x y
    → ((a : A) (r : List Terminal) → weight r < m → KeepsOf B u 0 n (k a r) (j a r)) → KeepsOf B u 0 n (and_then x k) (and_then y j)
keeps_on s u m n x y k j (inl e) h = inl (ap (λ z. and_then z k) e)
keeps_on s u m n (Found a r) y k j (inr (e, w)) h =
    elim (h a r w) [ inl p ↦ inl p | inr p ↦ inr (p.0 ∙ ap (λ z. and_then z j) e, p.1) ]
keeps_on s u m n NoForm y k j (inr (e, w)) h = inr (ap (λ z. and_then z j) e, tt)
keeps_on s u m n TooDeep y k j (inr (e, w)) h = inl refl

pub keeps_kept : Kept KeepsOf
keeps_kept = record {
  finds = λ A s t n a r f w. inr (refl, w);
  refuses = λ A s t n. inr (refl, tt);
  goes = λ A B s u t m n x y k j g h. keeps_on s u m n x y k j g (λ a r w. h 0 a r (omega arith) w);
  joins = λ A B s u t m n x y k j g h. keeps_on s u m n x y k j g (λ a r w. h 0 a r (omega arith) w);
}

-- more depth keeps an answer
pub keeps_to : (d b : ℕ) → To KeepsOf b (read d) (read (suc d))
keeps_to zero b l i w = inl refl
keeps_to (suc d) b l i w =
    r_descend keeps_kept (read d) (read (suc d)) (weight i) (keeps_to d (weight i)) (keeps_to d (weight i))
    (levels_from l) l i (omega arith)

pub only_keeps : {A : Type 0} (n : ℕ) (x y : Answer A) → (x ≡ TooDeep) ⊎ ((x ≡ y) × Light n x) → Keeps x y
only_keeps n x y (inl p) = inl p
only_keeps n x y (inr p) = inr p.0

pub only_light : {A : Type 0} (n : ℕ) (x y : Answer A) → (x ≡ TooDeep) ⊎ ((x ≡ y) × Light n x) → Light n x
only_light n x y (inl p) = subst (λ z. Light n z) (sym p) tt
only_light n x y (inr p) = p.1

pub keeps_read : (d : ℕ) (l : Level) (i : List Terminal) → Keeps (read d l i) (read (suc d) l i)
keeps_read d l i = only_keeps (weight i) (read d l i) (read (suc d) l i) (keeps_to d (suc (weight i)) l i (omega arith))

abbrev pub Lighter : Reads → Type 0
Lighter self = (l : Level) (i : List Terminal) → Light (weight i) (self l i)

pub light_read : (d : ℕ) → Lighter (read d)
light_read d l i = only_light (weight i) (read d l i) (read (suc d) l i) (keeps_to d (suc (weight i)) l i (omega arith))

pub light_descend : (self : Reads) → Lighter self → (k : ℕ) → Lighter (descend self k)
light_descend self calm k l i = only_light (weight i) (descend self k l i) (descend self k l i)
    (r_descend keeps_kept self self (weight i) (λ m j w. inr (refl, calm m j)) (λ m j w. inr (refl, calm m j)) k l i (omega arith))

-- ---- Of any two readers.
abbrev pub AllKeep : Reads → Reads → Type 0
AllKeep self other = (l : Level) (i : List Terminal) → Keeps (self l i) (other l i)

pub all_kept : (self other : Reads) → AllKeep self other → Lighter self → (b : ℕ) → To KeepsOf b self other
all_kept self other all calm b l i w = elim (all l i) [ inl p ↦ inl p | inr p ↦ inr (p, calm l i) ]

module _ (self other : Reads) (all : AllKeep self other) (calm : Lighter self) where
  pub k_listing_of : (i : Item) (acc : List Entry) (r : List Terminal) → Keeps (listing_of self i acc r) (listing_of other i acc r)
  k_listing_of i acc r =
      only_keeps (suc (weight r)) _ _ (r_listing_of keeps_kept self other (suc (weight r)) (all_kept self other all calm (suc (weight r))) 0
      (suc (weight r)) i acc r (omega arith) (omega arith) (omega arith))

  pub k_target : (r : List Terminal) → Keeps (read_target self r) (read_target other r)
  k_target r = only_keeps (weight r) _ _
      (r_target keeps_kept self other (suc (weight r)) (all_kept self other all calm (suc (weight r))) (weight r) r
      (omega arith) (omega arith))

  pub k_joined : (u : Bool) (acc : List StringPart) (r : List Terminal) → Keeps (joined_step self u acc r) (joined_step other u acc r)
  k_joined u acc r = only_keeps (suc (weight r)) _ _
      (r_joined keeps_kept self other (suc (weight r)) (all_kept self other all calm (suc (weight r))) (suc (weight r)) u acc r
      (omega arith) (omega arith))

  pub k_literals : (v : Values.Value) (r : List Terminal) → Keeps (literals self v r) (literals other v r)
  k_literals v r = only_keeps (suc (weight r)) _ _ (r_literals keeps_kept self other (suc (weight r))
      (all_kept self other all calm (suc (weight r))) (suc (weight r)) v r
      (omega arith) (omega arith))

-- ---- Tools.
pub keeps_then : {A B : Type 0} (x y : Answer A) (k j : A → List Terminal → Answer B) → Keeps x y
    → ((a : A) (r : List Terminal) → Keeps (k a r) (j a r)) → Keeps (and_then x k) (and_then y j)
keeps_then x y k j (inl e) h = inl (ap (λ z. and_then z k) e)
keeps_then (Found a r) y k j (inr e) h = elim (h a r) [ inl p ↦ inl p | inr p ↦ inr (p ∙ ap (λ z. and_then z j) e) ]
keeps_then NoForm y k j (inr e) h = inr (ap (λ z. and_then z j) e)
keeps_then TooDeep y k j (inr e) h = inl refl

pub keeps_first : {A B : Type 0} (f : Terminal → Option A) (r : List Terminal) (k j : A → List Terminal → Answer B) (x y : Answer B)
    → ((a : A) (s : List Terminal) → Keeps (k a s) (j a s)) → Keeps x y → Keeps (on_first f r k x) (on_first f r j y)
keeps_first f [] k j x y h m = m
keeps_first {A} {B} f (t ∷ r) k j x y h m = go (f t)
  where
    go : (o : Option A) → Keeps {A = B} (on_some o (λ a. k a r) x) (on_some o (λ a. j a r) y)
    go (Some a) = h a r
    go None = m

pub keeps_cond : {B : Type 0} (b : Bool) (x x' y y' : Answer B) → Keeps x x' → Keeps y y' → Keeps (cond b x y) (cond b x' y')
keeps_cond true x x' y y' h k = h
keeps_cond false x x' y y' h k = k
