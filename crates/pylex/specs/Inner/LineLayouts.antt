-- The layout of a line whose first significant token stands where a lister has looked to.
use Rattle.std.specs.Prelude.{◌≡◌, ℕ, List, take, None}
use Rattle.std.specs.Str.{chars}
use Rattle.pylex_listing.specs.declared.entries.Step.{Step}
use Rattle.pylex.specs.declared.machine.Machine.{Machine}
use Rattle.pylex.specs.declared.peeked.Peeked.{Peeked}
use Rattle.pylex.specs.declared.peeked.Peeked.TheVariants as peeked
use Rattle.pylex.specs.LineState.{Stands, IndentAhead, Peek}
use Rattle.pylex.specs.Inner.MachineSteps.{Advance}

-- from a machine to another by the INDENT or a DEDENT that comes next in a text
pub record LaysOut (old : Machine) (text : List ℕ) (step : Step) (new : Machine) : Type 0 where
  pub met : Peeked
  pub layout : met ≡ peeked.Stop → ⊥
  pub finds : Peek (take old.nested old.levels.items) old.now (chars text) met old.now (chars text)
  pub stands : Stands old.now text
  pub went : Advance old met old.now text None step new

-- an INDENT comes next, where none of the end was given
pub record AwaitsLevel (p : Machine) (text : List ℕ) : Type 0 where
  pub tail : p.tail ≡ 0
  pub ahead : IndentAhead (take p.nested p.levels.items) p.now (chars text)
