-- What is written of the tree of a source, and of one that is made by hand.
use Rattle.std.specs.Prelude.{◌≡◌, ℕ, List, [], ◌∷◌, Option, Some, None, Ok, String, string_bytes}
use Rattle.std.specs.Str.{encode_utf8_all}
use Rattle.std.specs.declared.alloc.Global.{Global}
use Rattle.pysource.specs.Parts.{Parts}
use Rattle.pysource.specs.Sources.{source_of}
use Rattle.pylex_listing.specs.Listing.{Source, in_characters}
use Rattle.pytree_node.specs.declared.operators.Context.TheVariants.{Store}
use Rattle.pytree_node.specs.declared.profiles.Profile.{Profile}
use Rattle.pytree_node.specs.Profiles.{plain_311}
use Rattle.pytree_node.specs.Trees.{Module}
use Rattle.pytree_node.specs.Trees as trees
use Rattle.pytree_node.specs.Values as values
use Rattle.pytree_dump_text.specs.declared.styles.Style.{Style}
use Rattle.pytree_dump_text.specs.Layout.{dump_text}
use Rattle.pytree_dump_text.specs.Shows.{shown_module}
use Rattle.pygrammar.specs.Refusals.{Accepted}
use Rattle.pytree_fits.specs.Given.{Stated}
use Rattle.pyunparse_text.specs.Modules.{module_text}
use Rattle.pyunparse.specs.RoundTrips.{RoundTrips, GivesBack}

-- bytes are a source that is accepted as a module
pub record IsTreeOf (profile : Profile) (bytes : List ℕ) (m : Module) : Type 0 where
  pub parts : Parts
  pub source_is : source_of bytes ≡ Ok parts
  pub accepted : Accepted profile (in_characters parts) m

-- a text is the dump of the module that a source is accepted as
pub record IsDumped (style : Style) (s : Source) (text : List ℕ) : Type 0 where
  pub tree : Module
  pub accepted : Accepted style.profile s tree
  pub text_is : text ≡ dump_text style (shown_module style.profile tree)

-- it is the module's source text
pub record IsWritten (profile : Profile) (s : Source) (text : List ℕ) : Type 0 where
  pub tree : Module
  pub accepted : Accepted profile s tree
  pub text_is : text ≡ encode_utf8_all (module_text tree)
  pub back : RoundTrips text tree

-- the module of one statement, `name = value`
abbrev pub assignment : List ℕ → ℕ → Module
assignment name value = record { body = trees.Assign (trees.Name name Store ∷ []) (trees.Constant (values.Int value)) ∷ [] }

-- there is no text where the grammar doesn't give the module, and else one that gives it back
abbrev pub Tells : Module → Option (String Global) → Type 0
Tells m None = Stated plain_311 m → ⊥
Tells m (Some text) = GivesBack plain_311 (string_bytes text) m
