-- What a cut that failed is told as.
use Rattle.pyfstring.specs.declared.parts.CutError.{CutError}
use Rattle.pyfstring.specs.declared.parts.CutError.TheVariants as cut
use Rattle.pytoken.specs.declared.faults.TokenError.TheVariants as errors
use Rattle.pytoken.specs.declared.values.terminals.TerminalFault.{TerminalFault}
use Rattle.pytoken.specs.declared.values.terminals.TerminalFault.TheVariants.{Token, Memory}

abbrev pub fault_by_cut : CutError → TerminalFault
fault_by_cut cut.Malformed = Token errors.FString
fault_by_cut cut.Memory = Memory
