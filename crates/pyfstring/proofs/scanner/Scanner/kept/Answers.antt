use Rattle.std.proofs.Common.{◌≡◌, ℕ, List, Some, None, drop, sym, ap, ◌∙◌, subst}
use Rattle.pyfstring.specs.Pieces.{after_blanks}
use Rattle.pyfstring.specs.Cutting.{EndsWith, before}
use Rattle.pyfstring.proofs.Fronts.{ends_through, ends_drop}
use Rattle.pyfstring.proofs.FieldSteps.{eaten_some, eaten_none, kept_absent, kept_fails, kept_given}
use Rattle.pyfstring.proofs.scanner.Scanner.kept.Goals as goal

pub returns-then-not-eat-clause-ok : goal.returns-then-not-eat-clause-ok
returns-then-not-eat-clause-ok c =
    let found = sym c.eat.ensures.found ∙ c.if-not-eat.true in
    kept_absent c.args.is_nested c.args.start.now c.args.self.now found
    ∙ ap (λ (r : List ℕ). Some (None, r)) (sym (c.eat.ensures.rest ∙ eaten_none 61 c.args.self.now found))

pub returns-then-is_nested-clause-malformed : goal.returns-then-is_nested-clause-malformed
returns-then-is_nested-clause-malformed c =
    let found = sym c.eat.ensures.found ∙ c.if-not-eat.false in
    kept_fails c.args.is_nested c.args.start.now c.args.self.now found c.if-is_nested.true

pub until-requires : goal.until-requires
until-requires c =
    let found = sym c.eat.ensures.found ∙ c.if-not-eat.false in
    let left : c.pass_blanks.new.self ≡ after_blanks (drop 1 c.args.self.now) = c.pass_blanks.ensures
    ∙ ap after_blanks (c.eat.ensures.rest ∙ eaten_some 61 c.args.self.now found) in
    let P : List ℕ → Type 0 = λ r. EndsWith c.args.start.now r in
    subst P (sym left) (ends_through c.args.start.now c.args.self.now _ c.requires (ends_through c.args.self.now (drop 1 c.args.self.now) _
    (ends_drop 1 c.args.self.now) (ends_drop _ (drop 1 c.args.self.now))))

pub returns-clause-ok : goal.returns-clause-ok
returns-clause-ok c =
    let found = sym c.eat.ensures.found ∙ c.if-not-eat.false in
    let left : c.pass_blanks.new.self ≡ after_blanks (drop 1 c.args.self.now) = c.pass_blanks.ensures
    ∙ ap after_blanks (c.eat.ensures.rest ∙ eaten_some 61 c.args.self.now found) in
    kept_given c.args.is_nested c.args.start.now c.args.self.now found c.if-is_nested.false
    ∙ ap (λ (r : List ℕ). Some (Some (before c.args.start.now r), r)) (sym left)
    ∙ ap (λ (t : List ℕ). Some (Some t, c.pass_blanks.new.self)) (sym c.until.ensures)
