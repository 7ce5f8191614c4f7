use Rattle.std.proofs.Common.{refl, sym}
use Rattle.pylex.proofs.Texts.Plain.{plain_above_hash}
use Rattle.pylex.proofs.leading_char.lead_of_plain.Goals as goal

pub returns-then-begins_above_hash : goal.returns-then-begins_above_hash
returns-then-begins_above_hash c = sym (plain_above_hash c.args.text.now c.requires (c.if-begins_above_hash.ensures.some refl)
    (c.if-begins_above_hash.ensures.first refl))
