use Rattle.std.proofs.Common.{map}
use Rattle.pytree_node.specs.TreeOf.{stmt_of}
use Rattle.pygrammar.proofs.Callers.Blocks.{formed_proper}
use Rattle.pyparse_block.proofs.Callers.FinishLemmas.{sound_accepted, sound_refused}
use Rattle.pyparse_block.proofs.known.finish_sound.Goals as goal

pub returns-in-Ok-clause-accepted : goal.returns-in-Ok-clause-accepted
returns-in-Ok-clause-accepted c profile s k forms outline was closes = sound_accepted closes (map stmt_of c.in-Ok.body.items) was
    (c.in-Ok.ensures.block forms (formed_proper was.formed) was.read)

pub returns-in_ok-block_error-in-Err-clause-refused : goal.returns-in_ok-block_error-in-Err-clause-refused
returns-in_ok-block_error-in-Err-clause-refused c profile s k forms outline was closes =
    sound_refused closes c.in_ok-block_error-in-Err.field-0 c.in-Err.stop was c.in_ok-block_error-in-Err.ensures c.in-Err.ensures.blamed

pub returns-in-Ok-clause-block : goal.returns-in-Ok-clause-block
returns-in-Ok-clause-block c profile s k forms outline was = c.in-Ok.ensures.block forms (formed_proper was.formed) was.read
