-- What a tree is tested by.
use Rattle.std.specs.Prelude.{ℕ, suc, Bool, [], ◌∷◌}
use Rattle.pytree_node.specs.declared.profiles.Extent.{Extent}
use Rattle.pytree_node.specs.Trees.{Identifier}
use Rattle.pygrammar.specs.OpenStrings.{Open}
use Rattle.pytree_fits.specs.Names.{is_name}

-- a test of its names, the extent of the language that its constants are of, and in how many fields of f-strings it stands
pub record Tests : Type 0 where
  pub name : Identifier → Bool
  pub extent : Extent
  pub fields : ℕ

-- those of a tree in so many fields, where each name is a name
abbrev pub tests_at : Extent → ℕ → Tests
tests_at extent k = record { name = is_name; extent = extent; fields = k }

-- those of a well-formed tree in an extent
abbrev pub tests_in : Extent → Tests
tests_in extent = tests_at extent 0

-- those of what stands in a field more
abbrev pub in_field : Tests → Tests
in_field n = record { name = n.name; extent = n.extent; fields = suc n.fields }

-- those of what stands in fields of these f-strings, one in a field of the next
abbrev pub depth_in : Open → ℕ → ℕ
depth_in [] k = k
depth_in (f ∷ o) k = suc (depth_in o k)

abbrev pub within : Open → Tests → Tests
within o n = record { name = n.name; extent = n.extent; fields = depth_in o n.fields }
