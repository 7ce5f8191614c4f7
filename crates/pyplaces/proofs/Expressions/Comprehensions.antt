-- Comprehensions.
--
-- Carries: for_in, ifs, comps. On: Fronts, Loops.
use Rattle.std.proofs.Common.{◌≡◌, refl, sym, ◌∙◌, ℕ, ◌+◌, arith, List, [], ◌∷◌, ◌++◌, Some, Bool, true, false}
use Rattle.std.proofs.lemmas.List.{append-nil}
use Rattle.pytoken.specs.declared.keywords.Keyword.TheVariants as Key
use Rattle.pygrammar.specs.declared.levels.Level.TheVariants.{Stars, Or}
use Rattle.pytree_node.specs.Trees.{Expr, Comprehension}
use Rattle.pytoken.specs.Terminals.{Terminal, Word}
use Rattle.pygrammar.specs.Targets.{stored}
use Rattle.pygrammar.specs.Grammar as G
use Rattle.pyplaces.specs.Stretches.{Stretch}
use Rattle.pyplaces.specs.Placed.{Placed, PlacedComps, PlacedComp, PlacedForIn, PlacedIfs}
use Rattle.pyplaces.proofs.Fronts.{nothing, sign, signs, both, front_of, from, built, ◌⊕◌}
use Rattle.pyplaces.specs.Rests.{Clauses, no_clause, clauses}
use Rattle.pyplaces.proofs.Loops.{Grows, grows_turn, grows_end}
use Rattle.pygrammar.specs.Precedence.{starts_comp}

-- ---- A clause.
pub placed_for_in : {bb : Bool} {i r s u v : List Terminal} {at m n following : ℕ} {e f a : Expr} {es : List Expr} {ps qs ws : List Stretch}
    → Placed Stars i at e r m ps → stored e ≡ Some f → r ≡ Word Key.In ∷ s → Placed Or s (m + 1) a u n qs → PlacedIfs u n es v following ws
    → PlacedForIn bb i at (record { target = f; iter = a; ifs = es; is_async = bb }) v following (ps ++ (qs ++ ws))
placed_for_in p y h q c = built (both (front_of p) (sign h (both (front_of q) (front_of c)))) (G.target_in p.derived y q.derived c.derived)
    (p.places_are ⊕ from q (omega (arith, p.ends)) ⊕ from c (omega (arith, p.ends, q.ends)))

pub placed_for : {i r s : List Terminal} {at following : ℕ} {g : Comprehension} {ps : List Stretch} → i ≡ Word Key.For ∷ r
    → PlacedForIn false r (at + 1) g s following ps → PlacedComp i at g s following ps
placed_for h p = built (sign h (front_of p)) (G.for_in p.derived) (from p (omega arith))

pub placed_async_for : {i r s : List Terminal} {at following : ℕ} {g : Comprehension} {ps : List Stretch}
    → i ≡ Word Key.Async ∷ (Word Key.For ∷ r) → PlacedForIn true r (at + 2) g s following ps → PlacedComp i at g s following ps
placed_async_for h p = built (signs h (front_of p)) (G.async_for_in p.derived) (from p (omega arith))

-- ---- Its conditions.
pub placed_no_if : {r : List Terminal} {at : ℕ} → PlacedIfs r at [] r at []
placed_no_if = built nothing G.no_if refl

pub placed_if : {i r s u : List Terminal} {at m following : ℕ} {e : Expr} {es : List Expr} {ps qs : List Stretch} → i ≡ Word Key.If ∷ r
    → Placed Or r (at + 1) e s m ps → PlacedIfs s m es u following qs → PlacedIfs i at (e ∷ es) u following (ps ++ qs)
placed_if h p c = built (sign h (both (front_of p) (front_of c))) (G.if_one p.derived c.derived)
    (from p (omega arith) ⊕ from c (omega (arith, p.ends)))

pub ifs_turn : {i r s u : List Terminal} {at m n : ℕ} {e : Expr} {es : List Expr} {ps qs : List Stretch} → Grows PlacedIfs i at es r m ps
    → r ≡ Word Key.If ∷ s → Placed Or s (m + 1) e u n qs → Grows PlacedIfs i at (es ++ (e ∷ [])) u n (ps ++ qs)
ifs_turn {e = e} {qs = qs} g h p = grows_turn (e ∷ []) qs g (λ fs s next ws c. placed_if h p c)

pub ifs_end : {i r : List Terminal} {at m : ℕ} {es : List Expr} {ps : List Stretch} → Grows PlacedIfs i at es r m ps
    → PlacedIfs i at es r m ps
ifs_end g = grows_end g placed_no_if

-- ---- The clauses of a comprehension.
pub clauses_more : {i r s : List Terminal} {at m n : ℕ} {g : Comprehension} {gs : List Comprehension} {ps qs : List Stretch}
    → PlacedComp i at g r m ps → Clauses r m gs s n qs → Clauses i at (g ∷ gs) s n (ps ++ qs)
clauses_more {ps = ps} p (no_clause f) = clauses (built (front_of p) (G.one_comp p.derived) (p.places_are ∙ sym (append-nil ps)))
clauses_more p (clauses c) = clauses (built (both (front_of p) (front_of c)) (G.comps p.derived c.derived)
    (p.places_are ⊕ from c p.ends))

pub clauses_turn : {i r s : List Terminal} {at m n : ℕ} {g : Comprehension} {gs : List Comprehension} {ps qs : List Stretch}
    → Grows Clauses i at gs r m ps → PlacedComp r m g s n qs → Grows Clauses i at (gs ++ (g ∷ [])) s n (ps ++ qs)
clauses_turn {g = g} {qs = qs} d p = grows_turn (g ∷ []) qs d (λ fs s next ws c. clauses_more p c)

pub clauses_end : {i r : List Terminal} {at m : ℕ} {gs : List Comprehension} {ps : List Stretch} → Grows Clauses i at gs r m ps
    → starts_comp r ≡ false → Clauses i at gs r m ps
clauses_end d f = grows_end d (no_clause f)

-- where one stood first
pub clauses_some : {i r : List Terminal} {at m : ℕ} {gs : List Comprehension} {ps : List Stretch} → Clauses i at gs r m ps
    → starts_comp i ≡ true → PlacedComps i at gs r m ps
clauses_some (no_clause f) h = absurd (differ (sym h ∙ f))
  where
    differ : ◌≡◌ {A = Bool} true false → ⊥
    differ q = cc
clauses_some (clauses c) h = c
