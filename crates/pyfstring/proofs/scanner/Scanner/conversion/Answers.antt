use Rattle.std.proofs.Common.{ℕ, List, Some, drop, slice_get, sym, ap, ◌∙◌}
use Rattle.pyfstring.specs.declared.parts.Conversion.TheVariants.{None as Unconverted}
use Rattle.pyfstring.proofs.FieldSteps.{eaten_some, eaten_none, conversion_absent, conversion_ends, conversion_fails, conversion_given}
use Rattle.pyfstring.proofs.scanner.Scanner.conversion.Goals as goal

pub returns-then-not-eat-clause-ok : goal.returns-then-not-eat-clause-ok
returns-then-not-eat-clause-ok c =
    let found = sym c.eat.ensures.found ∙ c.if-not-eat.true in
    conversion_absent c.args.self.now found
    ∙ ap (λ (r : List ℕ). Some (Unconverted, r)) (sym (c.eat.ensures.rest ∙ eaten_none 33 c.args.self.now found))

pub returns-in_default-clause-malformed : goal.returns-in_default-clause-malformed
returns-in_default-clause-malformed c =
    let found = sym c.eat.ensures.found ∙ c.if-not-eat.false in
    let left = c.eat.ensures.rest ∙ eaten_some 33 c.args.self.now found in
    conversion_ends c.args.self.now found (ap (λ (r : List ℕ). slice_get r 0) (sym left) ∙ sym c.peek.ensures ∙ c.in_default.is)

pub returns-in_default-conversion_by-clause-malformed : goal.returns-in_default-conversion_by-clause-malformed
returns-in_default-conversion_by-clause-malformed c =
    let found = sym c.eat.ensures.found ∙ c.if-not-eat.false in
    let left = c.eat.ensures.rest ∙ eaten_some 33 c.args.self.now found in
    conversion_fails c.args.self.now c.in-Some.letter found (ap (λ (r : List ℕ). slice_get r 0) (sym left) ∙ sym c.peek.ensures
    ∙ c.in-Some.is) (sym c.conversion_by.ensures ∙ c.in_default-conversion_by.is)

pub returns-clause-ok : goal.returns-clause-ok
returns-clause-ok c =
    let found = sym c.eat.ensures.found ∙ c.if-not-eat.false in
    let left = c.eat.ensures.rest ∙ eaten_some 33 c.args.self.now found in
    conversion_given c.args.self.now c.in-Some.letter c.in-Some-conversion_by.conversion found
    (ap (λ (r : List ℕ). slice_get r 0) (sym left) ∙ sym c.peek.ensures ∙ c.in-Some.is) (sym c.conversion_by.ensures
    ∙ c.in-Some-conversion_by.is)
    ∙ ap (λ (r : List ℕ). Some (c.in-Some-conversion_by.conversion, r)) (sym (c.advance.ensures ∙ ap (drop 1) left))
