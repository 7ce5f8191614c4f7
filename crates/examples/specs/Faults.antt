-- The fault of bytes that have no tree, and what is told of it.
use Rattle.std.specs.Prelude.{◌≡◌, ◌⊎◌, ℕ, List, ◌++◌, Ok, Err, codes, decimal}
use Rattle.pysource.specs.Parts.{Parts}
use Rattle.pysource.specs.Sources.{source_of}
use Rattle.pysource.specs.declared.encodings.SourceFault.{SourceFault}
use Rattle.pylex_listing.specs.Listing.{in_characters}
use Rattle.pytree_node.specs.declared.profiles.Profile.{Profile}
use Rattle.pyparse_tokens.specs.declared.faults.ParseFault.{ParseFault}
use Rattle.pyparse.specs.Modules.{Refuses}
use Rattle.pyast_fault.specs.declared.fault.Fault.{Fault}
use Rattle.pyast_fault.specs.declared.fault.Fault.TheVariants.{InSource, Plain}
use Rattle.pyast_fault.specs.declared.fault.FaultCode.TheVariants as codes_of
use Rattle.pyast_fault.specs.declared.fault.RunFaultCode.TheVariants as run
use Rattle.pyast_fault.specs.Faults.{of_source, of_parse, text_of}

-- there was no memory; or the bytes are no source, or one that is refused, and for that this is told
abbrev pub IsFaultOf : Profile → List ℕ → Fault → Type 0
IsFaultOf profile bytes fault =
    (fault ≡ Plain run.Memory)
    ⊎ ((f : SourceFault) × (source_of bytes ≡ Err f) × (fault ≡ of_source f))
    ⊎ ((parts : Parts) × (f : ParseFault) × (source_of bytes ≡ Ok parts) × Refuses profile (in_characters parts) f × (fault ≡ of_parse f))

-- `ROW:COLUMN: TEXT`
abbrev pub placed : ℕ → ℕ → List ℕ → List ℕ
placed row column text = decimal row ++ (codes ":" ++ (decimal column ++ (codes ": " ++ text)))

-- the place, if there is one, and what is wrong
abbrev pub words : Fault → List ℕ
words (InSource code place) = placed place.row place.column (text_of (codes_of.Source code))
words (Plain code) = text_of (codes_of.Run code)
