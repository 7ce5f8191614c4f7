-- A lister that stands in a source has a machine with small counts.
--
-- Carries: LineLister::cursor, Lister::cursor, Lister::next, next_met, Lister::shows. On: Moving.
use Rattle.std.proofs.Common.{ℕ, List, arith}
use Rattle.pysource.specs.Parts.{Parts}
use Rattle.pylex.specs.declared.machine.Machine.{Machine}
use Rattle.pylex.specs.Listers.{Listed}
use Rattle.pylex.specs.Inner.MachineSteps.{shown_from, Holds, HasPlace}
use Rattle.pylex.proofs.Listers.Moving.{given_fits, skip_fits, row_from_one}
use Rattle.std.proofs.Common.{◌≤◌}

pub has_place : (source : Parts) (p : Machine) (left : List ℕ) → Holds source p left → HasPlace p
has_place source p left keeps =
    let l : Listed = record { source = source; shown = shown_from p } in
    let skip = skip_fits l p.now left p.levels.items p.nested p.tail keeps in
    record {
      given = given_fits l p.now left p.levels.items p.nested p.tail keeps;
      skip = omega arith;
      within = keeps.within;
      ascending = keeps.ascending;
    }

pub has_row : (source : Parts) (p : Machine) (left : List ℕ) → Holds source p left → 1 ≤ p.point.row
has_row source p left keeps = row_from_one (record { source = source; shown = shown_from p }) p.now left
    p.levels.items p.nested p.tail keeps
