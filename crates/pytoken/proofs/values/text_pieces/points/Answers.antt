use Rattle.pytoken.proofs.values.LiteralLemmas.{text_points}
use Rattle.pytoken.proofs.values.text_pieces.points.Goals as goal

pub text_in-requires : goal.text_in-requires
text_in-requires c = text_points c.args.text.now c.new.result c.utf8.text c.new.ensures
