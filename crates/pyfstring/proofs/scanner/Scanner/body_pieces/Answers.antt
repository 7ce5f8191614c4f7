use Rattle.std.proofs.Common.{ℕ, List, [], ◌∷◌, ◌++◌, Some, true, sym, ap, ◌∙◌}
use Rattle.std.specs.Prelude.{map}
use Rattle.std.specs.Str.{chars}
use Rattle.std.proofs.lemmas.List.{map-append}
use Rattle.pyfstring.specs.declared.parts.Piece.TheVariants.{Text, Field as FieldPiece}
use Rattle.pyfstring.specs.Parts.{BodyPart, field, part_of, field_of, spec_parts}
use Rattle.pyfstring.specs.Pieces.{IsField, IsSpec}
use Rattle.pyfstring.specs.Cutting.{body_field_at, body_pieces_at}
use Rattle.pyfstring.proofs.Faults.{passed_on}
use Rattle.pyfstring.proofs.FieldSteps.{eaten_some, eaten_none}
use Rattle.pyfstring.proofs.Cutting.{body_field_reads, loop_ends, loop_fails, loop_goes, loop_shorter}
use Rattle.pyfstring.proofs.scanner.Scanner.body_pieces.Goals as goal

pub returns-then-not-eat-clause-ok : goal.returns-then-not-eat-clause-ok
unfolding body_pieces_at
returns-then-not-eat-clause-ok c =
    let m = c.args.manner in
    let found = sym c.eat.ensures.found ∙ c.if-not-eat.true in
    let parts = ap (map (part_of spec_parts)) c.in_ok-push.ensures.items ∙ map-append (part_of spec_parts) c.loop-pieces.pieces.items
    (Text c.text.result ∷ []) in
    loop_ends m.is_raw true (body_field_at m) (IsField (IsSpec m) m.is_nested) (body_field_reads m) c.args.self.now c.loop-pieces.self
    c.text.new.self (chars c.text.result.now) (map (part_of spec_parts) c.loop-pieces.pieces.items)
    (map (part_of spec_parts) c.push.new.self.items)
    c.loop-pieces.invariant c.text.ensures.rest c.text.ensures.text found parts
    ∙ ap (λ (r : List ℕ). Some (map (part_of spec_parts) c.push.new.self.items, r))
    (sym (c.eat.ensures.rest ∙ eaten_none 123 c.text.new.self found))

pub returns-in_err-field-clause-malformed : goal.returns-in_err-field-clause-malformed
unfolding body_pieces_at
returns-in_err-field-clause-malformed c =
    let m = c.args.manner in
    let found = sym c.eat.ensures.found ∙ c.if-not-eat.false in
    let here = c.eat.ensures.rest ∙ eaten_some 123 c.text.new.self found in
    let r = c.from_residual-in_err-field in
    passed_on r.result c.in_err-field.field-0.0 r.ensures.1
    (λ e. loop_fails m.is_raw true (body_field_at m) (IsField (IsSpec m) m.is_nested) (body_field_reads m) c.args.self.now
    c.loop-pieces.self c.text.new.self (map (part_of spec_parts) c.loop-pieces.pieces.items)
    c.loop-pieces.invariant c.text.ensures.rest found (ap (body_field_at m) (sym here) ∙ e)) c.in_err-field.ensures.malformed

pub loop-pieces-smaller : goal.loop-pieces-smaller
loop-pieces-smaller c =
    let m = c.args.manner in
    let found = sym c.eat.ensures.found ∙ c.if-not-eat.false in
    let here = c.eat.ensures.rest ∙ eaten_some 123 c.text.new.self found in
    loop_shorter m.is_raw true (body_field_at m) (IsField (IsSpec m) m.is_nested) (body_field_reads m) c.loop-pieces.self c.text.new.self
    c.field.new.self (field_of spec_parts c.in_ok-field.field-0) c.text.ensures.rest found (ap (body_field_at m) (sym here)
    ∙ c.in_ok-field.ensures.ok)

pub loop-pieces-preserved : goal.loop-pieces-preserved
unfolding body_pieces_at
loop-pieces-preserved c =
    let m = c.args.manner in
    let found = sym c.eat.ensures.found ∙ c.if-not-eat.false in
    let here = c.eat.ensures.rest ∙ eaten_some 123 c.text.new.self found in
    let first = ap (map (part_of spec_parts)) c.in_ok-push.ensures.items ∙ map-append (part_of spec_parts) c.loop-pieces.pieces.items
    (Text c.text.result ∷ []) in
    let parts =
    ap (map (part_of spec_parts)) c.in_ok-push-2.ensures.items
    ∙ map-append (part_of spec_parts) c.push.new.self.items (FieldPiece c.in_ok-field.field-0 ∷ [])
    ∙ ap (λ (ps : List BodyPart). ps ++ field (field_of spec_parts c.in_ok-field.field-0) ∷ []) first in
    loop_goes m.is_raw true (body_field_at m) (IsField (IsSpec m) m.is_nested) (body_field_reads m) c.args.self.now c.loop-pieces.self
    c.text.new.self (chars c.text.result.now) c.field.new.self (field_of spec_parts c.in_ok-field.field-0)
    (map (part_of spec_parts) c.loop-pieces.pieces.items) (map (part_of spec_parts) c.push-in-loop-pieces.new.self.items)
    c.loop-pieces.invariant c.text.ensures.rest c.text.ensures.text found (ap (body_field_at m) (sym here) ∙ c.in_ok-field.ensures.ok) parts
