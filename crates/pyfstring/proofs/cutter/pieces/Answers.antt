use Rattle.std.proofs.Common.{sym, ap, ◌∙◌}
use Rattle.std.specs.Str.{chars}
use Rattle.pyfstring.specs.Parts.{body_parts}
use Rattle.pyfstring.specs.Cutting.{body_pieces_at}
use Rattle.pyfstring.proofs.Cutting.{cut_of_sound}
use Rattle.pyfstring.proofs.Lawful.{malformed, cuts_are_lawful, tells_on}
use Rattle.pyfstring.proofs.PieceSteps.{ended, not_ended, no_pieces}
use Rattle.pyfstring.proofs.cutter.pieces.Goals as goal

pub returns-in_err-pieces-clause-malformed : goal.returns-in_err-pieces-clause-malformed
returns-in_err-pieces-clause-malformed c =
    let body = chars c.args.body.now in
    tells_on c.args.manner body c.from_residual.result c.in_err-pieces.field-0.0 c.from_residual.ensures.1
    (λ e. malformed c.args.manner body (no_pieces c.args.manner body (ap (body_pieces_at c.args.manner) (sym c.new-left.ensures) ∙ e)))
    c.in_err-pieces.ensures.malformed

pub returns-in_err-pieces-clause-lawful : goal.returns-in_err-pieces-clause-lawful
returns-in_err-pieces-clause-lawful c = cuts_are_lawful

pub returns-then-not-is_at_end-clause-malformed : goal.returns-then-not-is_at_end-clause-malformed
returns-then-not-is_at_end-clause-malformed c =
    let body = chars c.args.body.now in
    malformed c.args.manner body (not_ended c.args.manner body (body_parts c.in_ok-pieces.pieces) c.body_pieces.new.self
    (ap (body_pieces_at c.args.manner) (sym c.new-left.ensures) ∙ c.in_ok-pieces.ensures.ok) (sym c.is_at_end.ensures
    ∙ c.if-not-is_at_end.true))

pub returns-then-not-is_at_end-clause-lawful : goal.returns-then-not-is_at_end-clause-lawful
returns-then-not-is_at_end-clause-lawful c = cuts_are_lawful

pub returns-clause-cut : goal.returns-clause-cut
returns-clause-cut c =
    let body = chars c.args.body.now in
    cut_of_sound c.args.manner body (body_parts c.in_ok-pieces.pieces) (ended c.args.manner body (body_parts c.in_ok-pieces.pieces)
    c.body_pieces.new.self (ap (body_pieces_at c.args.manner) (sym c.new-left.ensures) ∙ c.in_ok-pieces.ensures.ok)
    (sym c.is_at_end.ensures ∙ c.if-not-is_at_end.false))

pub returns-clause-lawful : goal.returns-clause-lawful
returns-clause-lawful c = cuts_are_lawful
