-- What an error says.
use Rattle.std.specs.Prelude.{◌≡◌, List, []}
use Rattle.pygrammar.specs.Lines.{Line}
use Rattle.pygrammar.specs.Blocks.{Fault, ExpectedIndent, UnexpectedIndent, MisplacedClause, FirstFault}
use Rattle.pygrammar.specs.Reading.{Answer, Faulty}
use Rattle.pyparse_block.specs.declared.outline.faults.BlockFault.{BlockFault}
use Rattle.pyparse_block.specs.declared.outline.faults.BlockFault.TheVariants as fault
use Rattle.pyparse_block.specs.declared.outline.faults.BlockStop.{BlockStop}
use Rattle.pyparse_block.specs.declared.outline.faults.BlockStop.TheVariants as stop

abbrev pub fault_of : BlockFault → Fault
fault_of fault.ExpectedIndent = ExpectedIndent
fault_of fault.UnexpectedIndent = UnexpectedIndent
fault_of fault.MisplacedClause = MisplacedClause

-- an error is the fault of the reading, or memory was wanting, as it may be at any point
abbrev pub Tells : {A : Type 0} → Answer A → BlockStop → Type 0
Tells answer (stop.Faulty f) = answer ≡ Faulty (fault_of f)
Tells answer stop.Memory = Unit {0}

-- of these lines the first faulty one begins the rest, and has that fault; where nothing is left, it is the end
abbrev pub Blames : (lines rest : List Line) → BlockStop → Type 0
Blames lines rest (stop.Faulty f) = FirstFault [] lines rest (fault_of f)
Blames lines rest stop.Memory = Unit {0}

-- an error that is a fault, where no memory is needed
abbrev pub IsFaulty : BlockStop → Type 0
IsFaulty (stop.Faulty f) = Unit {0}
IsFaulty stop.Memory = ⊥
