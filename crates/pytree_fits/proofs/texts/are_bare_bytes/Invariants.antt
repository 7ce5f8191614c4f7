use Rattle.std.proofs.Common.{◌≡◌, take, true}
use Rattle.std.specs.List.{list_all}
use Rattle.pytree_fits.specs.Literals.{is_bare_byte}
use Rattle.pytree_fits.proofs.texts.are_bare_bytes.Given as goal

abbrev pub invariant-loop-byte : goal.invariant-loop-byte
invariant-loop-byte l = list_all is_bare_byte (take l.byte-index l.bytes) ≡ true
