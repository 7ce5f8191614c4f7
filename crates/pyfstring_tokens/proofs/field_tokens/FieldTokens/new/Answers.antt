use Rattle.std.proofs.Common.{refl}
use Rattle.std.specs.Str.{chars}
use Rattle.std.proofs.lemmas.Str.{scalars-chars}
use Rattle.pyfstring_tokens.proofs.Places.{begins}
use Rattle.pyfstring_tokens.proofs.OwnTokens.{own_tokens}
use Rattle.pyfstring_tokens.proofs.field_tokens.FieldTokens.new.Goals as goal

pub returns : goal.returns
returns c = let i = begins (chars c.args.text.now) (scalars-chars c.args.text.now c.utf8.text) in
    record { begins = record { stands = i.stands; first = i.first }; law = own_tokens (chars c.args.text.now) i; left = refl }
