-- More room and more steps keep an answer of the capped reader, if it isn't that it went too deep.
--
-- Carries: keeps_capped, light_capped, for the Keeps of patterns. On: Keeps, Related/Capped.
use Rattle.std.proofs.Common.{◌≡◌, inl, inr, refl, sym, ap, ◌∙◌, ℕ, zero, suc, ◌≤◌, arith, Bool, true, false, cond, leb}
use Rattle.std.proofs.lemmas.Bool.{leb-true, le-leb}
use Rattle.pytree_node.specs.Trees.{Expr}
use Rattle.pytree_height.specs.Heights.{height}
use Rattle.pygrammar.specs.Lengths.{weight}
use Rattle.pygrammar.specs.Reader.{Answer, Found, NoForm, TooDeep, levels_from}
use Rattle.pygrammar.specs.Capped.{cap, capped}
use Rattle.pygrammar.proofs.Related.Rules.{To}
use Rattle.pygrammar.proofs.Related.Capped.{r_capped_descend}
use Rattle.pygrammar.proofs.Depths.Keeps.{AllKeep, KeepsOf, Lighter, keeps_kept, only_keeps, only_light}

-- what is checked, with room e in place of d
keeps_cap : (d e : ℕ) → d ≤ e → (t n : ℕ) (x y : Answer Expr) → KeepsOf Expr height t n x y → KeepsOf Expr height t n (cap d x) (cap e y)
keeps_cap d e w t n x y (inl q) = inl (ap (cap d) q)
keeps_cap d e w t n NoForm y (inr q) = inr (ap (cap e) q.0, tt)
keeps_cap d e w t n TooDeep y (inr q) = inl refl
keeps_cap d e w t n (Found a r) y (inr q) = go (leb (height a) d) refl
  where
    go : (b : Bool) → leb (height a) d ≡ b → KeepsOf Expr height t n (cond b (Found a r) TooDeep) (cap e y)
    go true h = inr (
      sym (ap (λ c. cond c (Found a r) TooDeep) (le-leb (height a) e (omega (arith, w, leb-true (height a) d h)))) ∙ ap (cap e) q.0,
      q.1,
    )
    go false h = inl refl

-- the law
keeps_to : (g h d e b : ℕ) → g ≤ h → d ≤ e → To KeepsOf b (capped g d) (capped h e)
keeps_to zero h d e b x y l i w = inl refl
keeps_to (suc g) h zero e b x y l i w = inl refl
keeps_to (suc g) zero (suc d) e b x y l i w = absurd (omega (arith, x))
keeps_to (suc g) (suc h) (suc d) zero b x y l i w = absurd (omega (arith, y))
keeps_to (suc g) (suc h) (suc d) (suc e) b x y l i w =
    r_capped_descend keeps_kept (suc d) (suc e) (keeps_cap (suc d) (suc e) y) (capped g d) (capped h e) (weight i)
    (keeps_to g h d e (weight i) (omega (arith, x)) (omega (arith, y))) (capped g (suc d)) (capped h (suc e))
    (keeps_to g h (suc d) (suc e) (weight i) (omega (arith, x)) y) (levels_from l) l i (omega arith)

pub keeps_capped : (g h d e : ℕ) → g ≤ h → d ≤ e → AllKeep (capped g d) (capped h e)
keeps_capped g h d e x y l i = only_keeps (weight i) (capped g d l i) (capped h e l i)
    (keeps_to g h d e (suc (weight i)) x y l i (omega arith))

pub light_capped : (g d : ℕ) → Lighter (capped g d)
light_capped g d l i =
    only_light (weight i) (capped g d l i) (capped g d l i)
    (keeps_to g g d d (suc (weight i)) (omega arith) (omega arith) l i (omega arith))
