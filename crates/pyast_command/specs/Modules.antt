-- What bytes are as a source in a version of Python, and what is written of that by a command that reads them whole.
use Rattle.std.specs.Prelude.{◌≡◌, ℕ, List, [], Option, Some, None, Ok, Err}
use Rattle.pysource.specs.Parts.{Parts}
use Rattle.pysource.specs.Sources.{source_of}
use Rattle.pysource.specs.declared.encodings.SourceFault.{SourceFault}
use Rattle.pylex_listing.specs.Listing.{in_characters}
use Rattle.pytree_node.specs.declared.profiles.Profile.{Profile}
use Rattle.pytree_node.specs.Trees.{Module}
use Rattle.pygrammar.specs.Refusals.{Reason, Accepted, Refused}
use Rattle.pyplaces.specs.PlacesOf.{PlacesOf}
use Rattle.pyparse.specs.Placed.{PlacedAs}
use Rattle.pyast_fault.specs.Faults.{of_source, of_reason}
use Rattle.pyast_fault.specs.declared.fault.Fault.{Fault}

-- bytes are a source that is accepted as this module
pub record IsModule (profile : Profile) (bytes : List ℕ) (m : Module) : Type 0 where
  pub parts : Parts
  pub source : source_of bytes ≡ Ok parts
  pub accepted : Accepted profile (in_characters parts) m

-- they are no source, or one that is refused, and for that this is told
pub data IsRefused (profile : Profile) (bytes : List ℕ) : Fault → Type 0 where
  no_source : {fault : SourceFault} → source_of bytes ≡ Err fault → IsRefused profile bytes (of_source fault)
  refused : {p : Parts} {r : Reason} → source_of bytes ≡ Ok p → Refused profile (in_characters p) r → IsRefused profile bytes (of_reason r)

-- where the nodes stand of the module that bytes are as a source
pub record HasPlaces (profile : Profile) (bytes : List ℕ) (m : Module) (p : PlacesOf) : Type 0 where
  pub parts : Parts
  pub source : source_of bytes ≡ Ok parts
  pub placed : PlacedAs profile (in_characters parts) parts.text m p

-- What is written of bytes, and the fault that is reported of them: of a module its output, by a relation; and nothing where they are
-- refused.
pub data Writes (profile : Profile) (IsOutput : List ℕ → Module → List ℕ → Type 0) (bytes : List ℕ) : List ℕ → Option Fault → Type 0 where
  of_module : {m : Module} {output : List ℕ} → IsModule profile bytes m → IsOutput bytes m output
      → Writes profile IsOutput bytes output None
  of_none : {fault : Fault} → IsRefused profile bytes fault → Writes profile IsOutput bytes [] (Some fault)
