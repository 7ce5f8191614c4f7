-- An expression of a level of operators stands for one of a level further out, with the same places.
--
-- Carries: climb, operation, binary, chain, compare, target_item. On: Levels.
use Rattle.std.proofs.Common.{ℕ, ◌≤◌, arith, List}
use Rattle.pytree_node.specs.Trees.{Expr}
use Rattle.pytoken.specs.Terminals.{Terminal}
use Rattle.pygrammar.specs.declared.levels.Level.{Level}
use Rattle.pygrammar.specs.declared.levels.Level.TheVariants.{Or, And, Not, Compare, BitOr, BitXor, BitAnd, Shift, Sum, Term, Factor, Power}
use Rattle.pygrammar.specs.declared.levels.Level.TheVariants.{Await, Primary, Atom}
use Rattle.pygrammar.specs.Operators.{rank}
use Rattle.pyplaces.specs.Stretches.{Stretch}
use Rattle.pyplaces.specs.Placed.{Placed}
use Rattle.pyplaces.proofs.Expressions.Levels.{placed_next}

module _ {i r : List Terminal} {at following : ℕ} {e : Expr} {ps : List Stretch} where
  to_Await : (c : Level) → 22 ≤ rank c → Placed c i at e r following ps → Placed Await i at e r following ps
  to_Await Await h p = p
  to_Await Primary h p = placed_next p
  to_Await Atom h p = placed_next (placed_next {l = Primary} p)
  to_Await _ h p = absurd (omega (arith, h))

  to_Power : (c : Level) → 21 ≤ rank c → Placed c i at e r following ps → Placed Power i at e r following ps
  to_Power Power h p = p
  to_Power c h p = placed_next (to_Await c (omega (arith, h)) p)

  to_Factor : (c : Level) → 20 ≤ rank c → Placed c i at e r following ps → Placed Factor i at e r following ps
  to_Factor Factor h p = p
  to_Factor c h p = placed_next (to_Power c (omega (arith, h)) p)

  to_Term : (c : Level) → 19 ≤ rank c → Placed c i at e r following ps → Placed Term i at e r following ps
  to_Term Term h p = p
  to_Term c h p = placed_next (to_Factor c (omega (arith, h)) p)

  to_Sum : (c : Level) → 18 ≤ rank c → Placed c i at e r following ps → Placed Sum i at e r following ps
  to_Sum Sum h p = p
  to_Sum c h p = placed_next (to_Term c (omega (arith, h)) p)

  to_Shift : (c : Level) → 17 ≤ rank c → Placed c i at e r following ps → Placed Shift i at e r following ps
  to_Shift Shift h p = p
  to_Shift c h p = placed_next (to_Sum c (omega (arith, h)) p)

  to_BitAnd : (c : Level) → 16 ≤ rank c → Placed c i at e r following ps → Placed BitAnd i at e r following ps
  to_BitAnd BitAnd h p = p
  to_BitAnd c h p = placed_next (to_Shift c (omega (arith, h)) p)

  to_BitXor : (c : Level) → 15 ≤ rank c → Placed c i at e r following ps → Placed BitXor i at e r following ps
  to_BitXor BitXor h p = p
  to_BitXor c h p = placed_next (to_BitAnd c (omega (arith, h)) p)

  to_BitOr : (c : Level) → 14 ≤ rank c → Placed c i at e r following ps → Placed BitOr i at e r following ps
  to_BitOr BitOr h p = p
  to_BitOr c h p = placed_next (to_BitXor c (omega (arith, h)) p)

  to_Compare : (c : Level) → 13 ≤ rank c → Placed c i at e r following ps → Placed Compare i at e r following ps
  to_Compare Compare h p = p
  to_Compare c h p = placed_next (to_BitOr c (omega (arith, h)) p)

  to_Not : (c : Level) → 12 ≤ rank c → Placed c i at e r following ps → Placed Not i at e r following ps
  to_Not Not h p = p
  to_Not c h p = placed_next (to_Compare c (omega (arith, h)) p)

  to_And : (c : Level) → 11 ≤ rank c → Placed c i at e r following ps → Placed And i at e r following ps
  to_And And h p = p
  to_And c h p = placed_next (to_Not c (omega (arith, h)) p)

  to_Or : (c : Level) → 10 ≤ rank c → Placed c i at e r following ps → Placed Or i at e r following ps
  to_Or Or h p = p
  to_Or c h p = placed_next (to_And c (omega (arith, h)) p)

  pub placed_lower : (l c : Level) → 10 ≤ rank l → rank l ≤ 22 → rank l ≤ rank c → Placed c i at e r following ps
      → Placed l i at e r following ps
  placed_lower Or c a b h p = to_Or c h p
  placed_lower And c a b h p = to_And c h p
  placed_lower Not c a b h p = to_Not c h p
  placed_lower Compare c a b h p = to_Compare c h p
  placed_lower BitOr c a b h p = to_BitOr c h p
  placed_lower BitXor c a b h p = to_BitXor c h p
  placed_lower BitAnd c a b h p = to_BitAnd c h p
  placed_lower Shift c a b h p = to_Shift c h p
  placed_lower Sum c a b h p = to_Sum c h p
  placed_lower Term c a b h p = to_Term c h p
  placed_lower Factor c a b h p = to_Factor c h p
  placed_lower Power c a b h p = to_Power c h p
  placed_lower Await c a b h p = to_Await c h p
  placed_lower _ c a b h p = absurd (omega (arith, a, b))
