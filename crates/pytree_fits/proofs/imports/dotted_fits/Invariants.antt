use Rattle.std.proofs.Common.{◌≡◌, length}
use Rattle.std.specs.Str.{chars, IsUtf8}
use Rattle.pytree_fits.specs.Names.{is_name}
use Rattle.pytree_fits.specs.Statements.{dotted}
use Rattle.pytree_fits.proofs.imports.dotted_fits.Given as goal

-- what is left is text, and a dotted name where the whole is
abbrev pub invariant-loop-part : goal.invariant-loop-part
invariant-loop-part l = IsUtf8 l.rest × (dotted is_name (chars l.fn.name) ≡ dotted is_name (chars l.rest))

abbrev pub decreases-loop-part : goal.decreases-loop-part
decreases-loop-part l = length l.rest
