use Rattle.std.proofs.Common.{[], ◌∷◌, refl, subst}
use Rattle.std.specs.Str.{chars}
use Rattle.pysource.specs.declared.places.Place.{Place}
use Rattle.pytoken.specs.Terminals
use Rattle.pyparse_tokens.specs.declared.line_gather.LineGather.{LineGather}
use Rattle.pyparse_tokens.specs.Inner.OpenLines.{Pushes}
use Rattle.pyparse_tokens.proofs.TakingLemmas.{operator_takes}
use Rattle.pyparse_tokens.proofs.line_gather.LineGather.take_operator.Goals as goal

pub returns-clause-taken : goal.returns-clause-taken
returns-clause-taken c =
    let old = c.args.self.now in
    let own = chars c.args.text.now in
    let new : LineGather = record old { pass = c.take_operator.new.self; line = c.push.new.self } in
    let pushes : Pushes old.line.start own (Terminals.Op c.args.exact ∷ []) old.line new.line =
    subst (λ (p : Place). Pushes p own (Terminals.Op c.args.exact ∷ []) old.line new.line) c.start-start.ensures c.in_ok-push.ensures in
    λ _. operator_takes c.args.exact own old new c.requires.begun c.requires.some (c.if-not-take_operator.ensures.taken refl) pushes refl
