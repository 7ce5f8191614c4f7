-- What `dump` writes of a source, and the fault that it reports.
use Rattle.std.specs.Prelude.{◌≡◌, ℕ, Bool, true, false, List, ◌++◌, Option, codes}
use Rattle.pytree_node.specs.Trees.{Module}
use Rattle.pytree_dump_text.specs.Layout.{dump_text}
use Rattle.pytree_dump_text.specs.Shows.{shown_module}
use Rattle.pytree_dump_text.specs.declared.styles.Style.{Style}
use Rattle.pytree_marked.specs.MarkedNodes.{with_places}
use Rattle.pyplaces.specs.PlacesOf.{PlacesOf, shown_from}
use Rattle.pyast_fault.specs.declared.fault.Fault.{Fault}
use Rattle.pyast_command.specs.Modules.{HasPlaces, Writes}

-- the dump text of a module, and a line feed
abbrev pub dump_output : Style → Module → List ℕ
dump_output style m = dump_text style (shown_module style.profile m) ++ codes "\n"

-- the same with the places of its nodes
abbrev pub placed_output : Style → Module → PlacesOf → List ℕ
placed_output style m p = dump_text style (with_places (shown_from 0 p) (shown_module style.profile m)).shown ++ codes "\n"

-- what is written of the module that bytes are: with its places where they are asked for
abbrev pub IsDumpText : Style → Bool → List ℕ → Module → List ℕ → Type 0
IsDumpText style true bytes m output = (p : PlacesOf) × HasPlaces style.profile bytes m p × (output ≡ placed_output style m p)
IsDumpText style false bytes m output = output ≡ dump_output style m

-- What `dump` writes of bytes, and the fault that it reports of them: where they are a source that the grammar accepts, its dump, with the
-- places of its nodes or without them.
abbrev pub Dumps : Style → Bool → List ℕ → List ℕ → Option Fault → Type 0
Dumps style attributes = Writes style.profile (IsDumpText style attributes)
