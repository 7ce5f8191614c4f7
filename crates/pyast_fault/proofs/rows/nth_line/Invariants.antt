use Rattle.std.proofs.Common.{◌≡◌, ◌+◌, ℕ}
use Rattle.pysource.specs.Sources.{nth_line}
use Rattle.pyast_fault.proofs.rows.nth_line.Given as goal

abbrev pub invariant-loop : goal.invariant-loop
invariant-loop l = (n : ℕ) → nth_line l.rest n ≡ nth_line l.bytes (l.counter + n)
