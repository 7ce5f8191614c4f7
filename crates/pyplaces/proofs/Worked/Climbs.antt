-- A worked answer of climbing: a + b * c, from its names, as the reader comes by them.
--
-- Carries: no contract; it is computed as it is checked.
use Rattle.std.proofs.Common.{refl, arith, List, [], ◌∷◌}
use Rattle.pylex_lexeme.specs.declared.kinds.Exact.TheVariants.{Plus, Star}
use Rattle.pytree_node.specs.declared.operators.Context.TheVariants.{Load}
use Rattle.pytree_node.specs.declared.operators.Operator.TheVariants as Bin
use Rattle.pytree_node.specs.Trees
use Rattle.pytoken.specs.Terminals.{Terminal, Op, Ident}
use Rattle.pygrammar.specs.declared.levels.Level.TheVariants.{Or, Term}
use Rattle.pyplaces.specs.Stretches.{stretch}
use Rattle.pyplaces.specs.Placed.{Placed}
use Rattle.pyplaces.proofs.Expressions.Levels.{placed_next}
use Rattle.pyplaces.proofs.Expressions.Atoms.{placed_name}
use Rattle.pyplaces.proofs.Expressions.Climbing.{standing_primary, standing_binary, standing_end}

abbrev A : Terminal
A = Ident (record { spelling = 97 ∷ []; form = 97 ∷ [] })

abbrev five : List Terminal
five = A ∷ (Op Plus ∷ (A ∷ (Op Star ∷ (A ∷ []))))

abbrev a : Trees.Expr
a = Trees.Name (97 ∷ []) Load

-- b * c, by a loop of the operators of a Term
right : Placed Term (A ∷ (Op Star ∷ (A ∷ []))) 2 (Trees.BinOp a Bin.Mult a) [] 5
    (stretch 2 3 ∷ (stretch 4 5 ∷ (stretch 2 5 ∷ [])))
right = standing_end (omega arith) (omega arith)
    (standing_binary (standing_primary (placed_next (placed_name refl)) (omega arith)) refl refl
    (omega arith) (placed_next (placed_next (placed_next (placed_next (placed_next (placed_name refl)))))) (omega arith))

-- a + that, by a loop of all operators
whole : Placed Or five 0 (Trees.BinOp a Bin.Add (Trees.BinOp a Bin.Mult a)) [] 5
    (stretch 0 1 ∷ (stretch 2 3 ∷ (stretch 4 5 ∷ (stretch 2 5 ∷ (stretch 0 5 ∷ [])))))
whole = standing_end (omega arith) (omega arith)
    (standing_binary (standing_primary (placed_next (placed_name refl)) (omega arith)) refl refl
    (omega arith) right (omega arith))
