-- Carries: nested, choice_statement. On: an `if` with its `elif`s.
use Rattle.std.proofs.Common.{◌≡◌, List, [], ◌∷◌, ◌++◌, map, sym, ap, ◌∙◌}
use Rattle.std.proofs.lemmas.List.{map-append}
use Rattle.pytree_node.specs.Trees as plain
use Rattle.pytree_node.specs.declared.statements.Stmt.{Stmt}
use Rattle.pytree_node.specs.TreeOf.{stmt_of}
use Rattle.pygrammar.specs.Reading.{Arm, choice}
use Rattle.pygrammar.proofs.Callers.Blocks.{choice-append}
use Rattle.pyparse_block.specs.declared.groups.Arm as given_arm
use Rattle.pyparse_block.specs.Values.{arm_of}

-- the last arm goes into the `else` of the one before
pub choice_popped : (all rest : List given_arm.Arm) (a : given_arm.Arm) (s : Stmt) (outer start : List Stmt)
    (inner whole : List plain.Stmt) →
    all ≡ rest ++ a ∷ [] → outer ≡ start ++ s ∷ [] → start ≡ [] → stmt_of s ∷ [] ≡ choice (arm_of a ∷ []) inner
    → choice (map arm_of all) inner ≡ whole →
    choice (map arm_of rest) (map stmt_of outer) ≡ whole
choice_popped all rest a s outer start inner whole e f n i h =
    ap (λ z. choice (map arm_of rest) (map stmt_of z)) (f ∙ ap (λ z. z ++ s ∷ []) n)
    ∙ ap (choice (map arm_of rest)) i
    ∙ sym (choice-append (map arm_of rest) (arm_of a) inner)
    ∙ ap (λ z. choice z inner) (sym (map-append arm_of rest (a ∷ [])))
    ∙ ap (λ z. choice (map arm_of z) inner) (sym e)
    ∙ h

-- and the first one has the others in its `else`
pub choice_first : (a : Arm) (arms : List Arm) (inner orelse : List plain.Stmt) (whole : List plain.Stmt) →
    whole ≡ choice (a ∷ []) inner → inner ≡ choice arms orelse → whole ≡ choice (a ∷ arms) orelse
choice_first a arms inner orelse whole e h = e ∙ ap (choice (a ∷ [])) h
