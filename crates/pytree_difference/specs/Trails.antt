-- What a trail records of the way to a difference, and what a walk over two trees finds.
use Rattle.std.specs.Prelude.{◌≡◌, ℕ, Bool, true, false, List, ◌∷◌, ◌++◌, Option, Some, None, reverse, if◌then◌else◌}
use Rattle.std.specs.declared.alloc.Global.{Global}
use Rattle.std.specs.declared.vec.Vec.{Vec}
use Rattle.pytree_difference.specs.declared.trails.Steps.{Steps}
use Rattle.pytree_fields.specs.Things.{Thing}
use Rattle.pytree_difference.specs.Differences.{FirstDifference}

-- the steps of a trail, the outermost first, if memory was never refused
abbrev pub steps_of : Steps → Option (List ℕ)
steps_of trail = if trail.is_refused then None else Some (reverse trail.steps.items)

-- a step was put before those that a trail has, if it is still known what it has
abbrev pub Pushed : Option (List ℕ) → ℕ → Option (List ℕ) → Type 0
Pushed old step None = Unit {0}
Pushed None step (Some new) = ⊥
Pushed (Some old) step (Some new) = new ≡ step ∷ old

-- a path was put before them
abbrev pub Led : List ℕ → Option (List ℕ) → Option (List ℕ) → Type 0
Led path old None = Unit {0}
Led path None (Some new) = ⊥
Led path (Some old) (Some new) = new ≡ path ++ old

-- Both things are equal, and the trail is as it was; or the way to their first difference is put before it.
abbrev pub Walked : Option Thing → Option Thing → Option (List ℕ) → Option (List ℕ) → Bool → Type 0
Walked a b old new true = (a ≡ b) × (new ≡ old)
Walked a b old new false = (path : List ℕ) × FirstDifference a b path × Led path old new

-- what is found: nothing where both are equal, or the path to their first difference
abbrev pub Finds : Thing → Thing → Option (Vec ℕ Global) → Type 0
Finds a b None = a ≡ b
Finds a b (Some path) = FirstDifference (Some a) (Some b) path.items
