-- Carries: PlaceStack. On: what is kept of some lines, and what all of them leave.
use Rattle.std.proofs.Common.{◌≡◌, refl, sym, ap, ◌∙◌, arith, false, List, [], ◌∷◌, ◌++◌, length, length-append}
use Rattle.pytree_node.specs.Trees.{Stmt}
use Rattle.pygrammar.specs.Lines.{Line}
use Rattle.pygrammar.specs.Blocks.{Block}
use Rattle.pyplaces.specs.BlockPlaces.{LinePlaces, block_places}
use Rattle.pyplaces.specs.declared.place_stack.PlaceStack.{PlaceStack}
use Rattle.pyplaces.specs.StateOf.{state_of, Follows}
use Rattle.pyplaces.specs.Steps.{State, start, settle, step, run, finish}
use Rattle.pyplaces.proofs.BlockLaw.{block_reads}

-- ---- Lines.

run-more : (xs : List Line) (zs : List LinePlaces) (x : Line) (z : LinePlaces) (s : State) → length zs ≡ length xs
    → run (xs ++ x ∷ []) (zs ++ z ∷ []) s ≡ step (run xs zs s) x z
run-more [] [] x z s f = refl
run-more [] (w ∷ zs) x z s f = absurd (omega (arith, f))
run-more (y ∷ xs) [] x z s f = absurd (omega (arith, f))
run-more (y ∷ xs) (w ∷ zs) x z s f = run-more xs zs x z (step s y w) (omega (arith, f))

-- a line more
pub follows_on : (xs : List Line) (zs : List LinePlaces) (old new : PlaceStack) (x : Line) (z : LinePlaces) → Follows xs zs old
    → state_of new ≡ step (state_of old) x z →
    Follows (xs ++ x ∷ []) (zs ++ z ∷ []) new
follows_on xs zs old new x z k h = record {
  one_each = omega (arith, k.one_each, length-append zs (z ∷ []), length-append xs (x ∷ []));
  read = run-more xs zs x z start k.one_each ∙ (ap (λ s. step s x z) k.read ∙ sym h);
}

-- all lines, whatever the derivation of their statements
pub all_placed : (xs : List Line) (zs : List LinePlaces) (ss : List Stmt) (b : Block 0 xs ss) (p : PlaceStack) → Follows xs zs p
    → finish (state_of p) ≡ block_places zs b
all_placed xs zs ss b p k =
    ap (λ s. (settle 0 false s).spans) (sym k.read) ∙ ap (λ (t : State). t.spans) (block_reads b zs start [] [] 0 k.one_each refl)
