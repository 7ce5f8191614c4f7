-- What it means that no form of a logical line was read.
use Rattle.std.specs.Prelude.{List, Bool}
use Rattle.pytree_node.specs.declared.profiles.Profile.{Profile}
use Rattle.pytoken.specs.Terminals.{Terminal}
use Rattle.pygrammar.specs.Meets.{Formless, HighLine}
use Rattle.pyparse_nodes.specs.declared.stop.Stop.{Stop}
use Rattle.pyparse_nodes.specs.declared.stop.Stop.TheVariants as stop

-- At its place, in a `match` or elsewhere, the list is no form of a line; or none of a height of at most 500; or there was no memory.
abbrev pub Refused : Stop → Profile → Bool → List Terminal → Type 0
Refused stop.NoForm profile inside ts = Formless profile inside ts
Refused stop.TooDeep profile inside ts = HighLine profile inside 500 ts
Refused stop.Memory profile inside ts = Unit {0}
