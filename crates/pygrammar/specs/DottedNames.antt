-- The names that stand between the dots of a text, as in `import a.b`.
use Rattle.std.specs.Prelude.{ℕ, ◌==◌, if◌then◌else◌, List, [], ◌∷◌}
use Rattle.pylex_lexeme.specs.Characters.{full_stop}
use Rattle.pytree_node.specs.Trees.{Identifier}

-- one character more at the front of the first of some names
abbrev pub lengthen : ℕ → List Identifier → List Identifier
lengthen c [] = (c ∷ []) ∷ []
lengthen c (x ∷ xs) = (c ∷ x) ∷ xs

-- the names between the dots of a text
abbrev pub names_in : Identifier → List Identifier
names_in [] = [] ∷ []
names_in (c ∷ cs) = if c == full_stop then [] ∷ names_in cs else lengthen c (names_in cs)
