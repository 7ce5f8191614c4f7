-- The values of a JoinedStr as they are read, one part after the other.
use Rattle.std.specs.Prelude.{◌≡◌, ℕ, List, [], ◌∷◌, ◌++◌, Bool, map}
use Rattle.pytree_node.specs.Trees
use Rattle.pytree_node.specs.Trees.{Expr}
use Rattle.pytree_node.specs.TreeOf.{tree_of}
use Rattle.pytree_node.specs.Values
use Rattle.pygrammar.specs.FormattedStrings.{StringPart, Text, Field}
use Rattle.pyparse_nodes.specs.declared.found.Read.{Read}
use Rattle.pyparse_nodes.specs.declared.found.JoinedValues.{JoinedValues}

-- the values up to the last field, and the text after it
pub data State : Type 0 where
  state : List Expr → List ℕ → State

-- a text as a value, if it isn't empty
abbrev pub constants : Bool → List ℕ → List Expr
constants u [] = []
constants u (c ∷ t) = Trees.Constant (Values.Str (c ∷ t) u) ∷ []

-- all values, the last text with this kind
abbrev pub ended : Bool → State → List Expr
ended u (state vs t) = vs ++ constants u t

-- one more part, the texts in front of fields with this kind
abbrev pub step : Bool → State → StringPart → State
step u (state vs t) (Text s) = state vs (t ++ s)
step u (state vs t) (Field e) = state ((vs ++ constants u t) ++ (e ∷ [])) []

abbrev pub steps : Bool → State → List StringPart → State
steps u s [] = s
steps u s (p ∷ ps) = steps u (step u s p) ps

-- some parts alone
abbrev pub gathered : Bool → List StringPart → State
gathered u ps = steps u (state [] []) ps

abbrev pub state_of : JoinedValues → State
state_of j = state (map tree_of j.values.items) j.text

-- these values are such ones, and what stands after them
pub record Gathers (s : State) (next : ℕ) (j : JoinedValues) : Type 0 where
  pub is : state_of j ≡ s
  pub next_is : j.next ≡ next

-- an expression of any height, and the place after it
pub record IsNode (e : Expr) (next : ℕ) (r : Read) : Type 0 where
  pub tree : tree_of r.expr.value ≡ e
  pub next_is : r.next ≡ next
