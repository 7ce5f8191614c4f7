-- A source that is read whole, and the module that it is.
use Rattle.std.specs.Prelude.{◌≡◌, ℕ, Bool, true, List, Option, Some, None}
use Rattle.pysource.specs.Bytes.{Seen}
use Rattle.pysource.specs.Limits.{source_limit}
use Rattle.pytree_node.specs.declared.profiles.Profile.{Profile}
use Rattle.pytree_node.specs.Trees.{Module}
use Rattle.pyast_fault.specs.declared.fault.Fault.{Fault}
use Rattle.pyast_fault.specs.declared.fault.Fault.TheVariants.{InSource, Plain}
use Rattle.pyast_fault.specs.declared.fault.RunFaultCode.TheVariants.{Read, Memory}
use Rattle.pyplaces.specs.PlacesOf.{PlacesOf}
use Rattle.pyast_command.specs.Modules.{HasPlaces, IsModule, IsRefused}
use Rattle.pyast_words.specs.declared.command.Command.{Command}
use Rattle.pyast_command.specs.Runs.{shown_in, ReadsAll, ReadsNotAll, RefusesRead}

-- the bytes are at fault; or memory was wanting
abbrev pub Refuses : Profile → List ℕ → Fault → Type 0
Refuses profile bytes (InSource code place) = IsRefused profile bytes (InSource code place)
Refuses profile bytes (Plain code) = elim code [ Memory ↦ Unit {0} | _ ↦ ⊥ ]

-- a reader's bytes are a module
pub record ReadsModule (profile : Profile) (seen_old seen_new : Seen) (m : Module) : Type 0 where
  pub input : List ℕ
  pub all : ReadsAll seen_old seen_new source_limit input
  pub is : IsModule profile input m

-- and its nodes have these places
pub record ReadsPlaced (profile : Profile) (seen_old seen_new : Seen) (m : Module) (p : PlacesOf) : Type 0 where
  pub input : List ℕ
  pub all : ReadsAll seen_old seen_new source_limit input
  pub is : IsModule profile input m
  pub places : HasPlaces profile input m p

abbrev pub module_read : {profile : Profile} {seen_old seen_new : Seen} {m : Module} {p : PlacesOf}
    → ReadsPlaced profile seen_old seen_new m p → ReadsModule profile seen_old seen_new m
module_read r = record { input = r.input; all = r.all; is = r.is }

-- why they give none: the source is at fault, a read failed, or memory was wanting
abbrev pub ReadsNone : Profile → Seen → Seen → Fault → Type 0
ReadsNone profile seen_old seen_new (InSource code place) =
    (input : List ℕ) × RefusesRead profile seen_old seen_new source_limit input (InSource code place)
ReadsNone profile seen_old seen_new (Plain code) = elim code [
  | Read ↦ ReadsNotAll seen_old seen_new source_limit
  | Memory ↦ seen_new.failures ≡ seen_old.failures
  | _ ↦ ⊥
]

-- of a source at fault the bytes that were read are kept
abbrev pub Keeps : Profile → Seen → Seen → List ℕ → Fault → Type 0
Keeps profile seen_old seen_new kept (InSource code place) = RefusesRead profile seen_old seen_new source_limit kept (InSource code place)
Keeps profile seen_old seen_new kept (Plain code) = Unit {0}

-- the same where they are to be shown, of what ended a run
abbrev pub KeepsFor : Profile → Bool → Seen → Seen → List ℕ → Option Fault → Type 0
KeepsFor profile show seen_old seen_new kept None = Unit {0}
KeepsFor profile show seen_old seen_new kept (Some fault) = show ≡ true → Keeps profile seen_old seen_new kept fault

abbrev pub KeepsShown : Option Profile → Seen → Seen → List ℕ → Fault → Type 0
KeepsShown None seen_old seen_new kept fault = Unit {0}
KeepsShown (Some profile) seen_old seen_new kept fault = Keeps profile seen_old seen_new kept fault

-- the same of a command
abbrev pub KeepsIn : Command → Seen → Seen → List ℕ → Option Fault → Type 0
KeepsIn command seen_old seen_new kept None = Unit {0}
KeepsIn command seen_old seen_new kept (Some fault) = KeepsShown (shown_in command) seen_old seen_new kept fault
