-- What `check` does with one of its files.
use Rattle.std.specs.Prelude.{◌≡◌, ℕ, List, Option, Some, None, if◌then◌else◌}
use Rattle.pysource.specs.Bytes.{Seen, Sent}
use Rattle.pyast_fault.specs.Faults.{status_of, file_line, Tells}
use Rattle.pyast_fault.specs.declared.fault.Fault.{Fault}
use Rattle.pyast_words.specs.declared.command.Check.{Check}
use Rattle.pyast_command.specs.Runs.{IsTold, Judges}

-- A file of this name was checked, and that ended by this fault or by none: what its source is, what was told, and the status.
pub record IsChecked (asked : Check) (name : List ℕ) (seen_old seen_new : Seen) (told_old told_new : Sent) (limit answer : ℕ)
    (ended : Option Fault) : Type 0 where
  pub status : answer ≡ status_of ended
  pub judged : Judges asked.profile seen_old seen_new limit ended
  pub told : (lines : List ℕ) × IsTold (if asked.show then Some asked.profile else None) (file_line name) seen_old seen_new limit ended lines
      × Tells told_old told_new lines
