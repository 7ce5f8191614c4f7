use Rattle.std.proofs.Common.{◌≡◌, ℕ, List, Some, None, false, drop, refl, sym, ap, ◌∙◌}
use Rattle.pyfstring.specs.Texts.{after_text}
use Rattle.pyfstring.specs.Cutting.{before, text_at}
use Rattle.pyfstring.proofs.FieldSteps.{eaten_some, eaten_none}
use Rattle.pyfstring.proofs.PieceSteps.{spec_absent, spec_given}
use Rattle.pyfstring.proofs.scanner.Scanner.inner_spec.Goals as goal

pub returns-then-not-eat : goal.returns-then-not-eat
returns-then-not-eat c =
    let found = sym c.eat.ensures.found ∙ c.if-not-eat.true in
    spec_absent (text_at c.args.manner.is_raw false) c.args.self.now found
    ∙ ap (λ (r : List ℕ). Some (None, r)) (sym (c.eat.ensures.rest ∙ eaten_none 58 c.args.self.now found))

pub returns : goal.returns
unfolding text_at
returns c =
    let found = sym c.eat.ensures.found ∙ c.if-not-eat.false in
    let here = c.eat.ensures.rest ∙ eaten_some 58 c.args.self.now found in
    let left : c.text.new.self ≡ after_text c.args.manner.is_raw false (drop 1 c.args.self.now) = c.text.ensures.rest
    ∙ ap (after_text c.args.manner.is_raw false) here in
    let cs = drop 1 c.args.self.now in
    let r = after_text c.args.manner.is_raw false cs in
    let t = c.text.ensures.text ∙ ap (λ (x : List ℕ). before x c.text.new.self) here ∙ ap (before cs) left in
    spec_given (text_at c.args.manner.is_raw false) c.args.self.now (before cs r) r found refl
    ∙ ap (λ (x : List ℕ). Some (Some (before cs r), x)) (sym left)
    ∙ ap (λ (x : List ℕ). Some (Some x, c.text.new.self)) (sym t)
