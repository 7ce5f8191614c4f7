-- What is told of a fault, of a source alone or of one of several files.
use Rattle.std.specs.Prelude.{ℕ, Bool, true, false, List, ◌++◌, Option}
use Rattle.pyast_fault.specs.Faults.{fault_line, file_line, rows_of}
use Rattle.pyast_fault.specs.declared.fault.Fault.{Fault}

-- the lines that are told of a fault
abbrev pub told_lines : Bool → List ℕ → Option (List ℕ) → Fault → List ℕ
told_lines true name shown fault = file_line name fault ++ rows_of shown fault
told_lines false name shown fault = fault_line name fault ++ rows_of shown fault
