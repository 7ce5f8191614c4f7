-- The first difference of two trees, in the order of a dump.
--
-- Two things at a path are compared, from the modules at the empty path. Two nodes of one class, and two lists, are compared member by
-- member, from the first on. Anything else differs where it is not the same: a node and a node of another class, a node and a leaf, nothing and
-- a thing, two leaves of other values.
use Rattle.std.specs.Prelude.{◌≡◌, ◌<◌, ℕ, List, [], ◌∷◌, Option, Some, None}
use Rattle.pytree_fields.specs.Things.{Thing, Things, Leaf, Row, Node, no_thing, thing_at}

-- what a thing holds: the elements of a list, or what the fields of a node hold
abbrev pub members : Option Thing → Things
members None = no_thing
members (Some (Leaf x)) = no_thing
members (Some (Row xs)) = xs
members (Some (Node class xs)) = xs

-- one of them, or nothing
abbrev pub member : Option Thing → ℕ → Option Thing
member x i = thing_at (members x) i

-- What is at a path: a path is a list of steps, and a step says which member is meant, of those of its list or of the fields of its class.
abbrev pub at_path : Option Thing → List ℕ → Option Thing
at_path x [] = x
at_path x (i ∷ path) = at_path (member x i) path

-- two lists, or two nodes of one class
abbrev pub AreAlike : Option Thing → Option Thing → Type 0
AreAlike (Some (Row xs)) (Some (Row ys)) = Unit {0}
AreAlike (Some (Node c xs)) (Some (Node d ys)) = c ≡ d
AreAlike _ _ = ⊥

-- The first difference of two things is at this path: the things themselves differ and aren't compared member by member, or they are, and the
-- first difference is in their first members that differ.
abbrev pub FirstDifference : Option Thing → Option Thing → List ℕ → Type 0
FirstDifference a b [] = (AreAlike a b → ⊥) × (a ≡ b → ⊥)
FirstDifference a b (i ∷ path) = AreAlike a b × ((j : ℕ) → j < i → member a j ≡ member b j) × FirstDifference (member a i) (member b i) path
