-- What `unparse` writes of a source, and the fault that it tells.
use Rattle.std.specs.Prelude.{◌≡◌, ℕ, List, Option}
use Rattle.std.specs.Str.{encode_utf8_all}
use Rattle.pytree_node.specs.declared.profiles.Profile.{Profile}
use Rattle.pytree_node.specs.Trees.{Module}
use Rattle.pyunparse_text.specs.Modules.{module_text}
use Rattle.pyunparse.specs.RoundTrips.{GivesBack}
use Rattle.pyast_fault.specs.declared.fault.Fault.{Fault}
use Rattle.pyast_command.specs.Modules.{Writes}

-- the text of a module in UTF-8, and nothing else; as a source it is accepted as that module again, and as no other
pub record IsTextOf (profile : Profile) (m : Module) (output : List ℕ) : Type 0 where
  pub text : output ≡ encode_utf8_all (module_text m)
  pub back : GivesBack profile output m

-- What `unparse` writes of bytes, and the fault that it tells of them: where they are a source that the grammar accepts, the text of its
-- module.
abbrev pub Unparses : Profile → List ℕ → List ℕ → Option Fault → Type 0
Unparses profile = Writes profile (λ bytes. IsTextOf profile)
