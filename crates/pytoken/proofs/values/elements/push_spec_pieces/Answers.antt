use Rattle.std.proofs.Common.{false, refl}
use Rattle.pyfstring.specs.Parts.{part_of, text_of}
use Rattle.pytoken.specs.FormattedStrings.{part_elements, inner_elements}
use Rattle.pytoken.specs.Inner.Pushing.{element_of}
use Rattle.pytoken.proofs.values.PushLemmas.{read_again, leaves_one, leaves_none}
use Rattle.pytoken.proofs.values.elements.push_spec_pieces.Goals as goal

pub pieces-init : goal.pieces-init
pieces-init c = refl

pub pieces-preserved : goal.pieces-preserved
pieces-preserved c =
    leaves_one element_of (part_elements c.args.is_raw false (inner_elements c.args.is_raw)) (part_of text_of) _ c.pieces.out.items _
    c.args.pieces.now c.pieces.piece-index _ c.pieces-test.true (read_again c.args.pieces.now c.pieces.piece-index _ c.pieces-test.true)
    c.pieces.invariant c.in_ok-push_spec_piece.ensures

pub returns : goal.returns
returns c =
    leaves_none element_of (part_elements c.args.is_raw false (inner_elements c.args.is_raw)) (part_of text_of) _ c.pieces.out.items
    c.args.pieces.now c.pieces.piece-index c.pieces-test.false c.pieces.invariant
