use Rattle.std.proofs.Common.{◌∙◌, ◌++◌, ◌∷◌, [], Some, ap, sym}
use Rattle.std.specs.String.{string_bytes}
use Rattle.pylex_listing.specs.declared.kind.Kind.TheVariants as kinds
use Rattle.pyunparse_text.specs.Told.{Listed, listed}
use Rattle.pyunparse_text.proofs.Texts.StringLemmas.{ended_in_field, ended_outside, not_closed}
use Rattle.pyunparse_text.proofs.piece_writer.PieceWriterWriter.end_string.Goals as goal

pub returns-then-in_field : goal.returns-then-in_field
returns-then-in_field c s es h e =
    let string = sym (ap (λ z. z.string) c.self.view_is) ∙ sym c.take.ensures.value ∙ c.in-Some.is in
    ap (λ (z : Listed). record { tokens = z.tokens; string = Some c.end_string.new.self }) c.self.view_is
    ∙ ended_in_field c.args.in_field s c.args.self.now c.in-Some.string c.end_string.new.self es h e string
    c.in_ok-end_string-in-Some.ensures c.if-in_field.true

pub returns-in-None : goal.returns-in-None
returns-in-None c s es h e =
    absurd (not_closed c.args.in_field s c.args.self.now es e (sym (ap (λ z. z.string) c.self.view_is)
    ∙ sym c.take.ensures.value ∙ c.in-None.is))

pub returns-in_ok-push-in-Some : goal.returns-in_ok-push-in-Some
returns-in_ok-push-in-Some c s es h e =
    let string = sym (ap (λ z. z.string) c.self.view_is) ∙ sym c.take.ensures.value ∙ c.in-Some.is in
    c.in_ok-push-in-Some.ensures
    ∙ ap (λ (z : Listed). listed (z.tokens ++ record { kind = kinds.String; text = string_bytes c.into_text.result } ∷ [])) c.self.view_is
    ∙ ap (λ t. listed (c.args.self.now.tokens ++ record { kind = kinds.String; text = t } ∷ [])) c.into_text.ensures
    ∙ ended_outside c.args.in_field s c.args.self.now c.in-Some.string c.end_string.new.self es h e string
    c.in_ok-end_string-in-Some.ensures c.if-in_field.false
