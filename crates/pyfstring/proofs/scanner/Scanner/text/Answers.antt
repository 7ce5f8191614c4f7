use Rattle.std.proofs.Common.{ℕ, List, sym, ap, ◌∙◌, subst}
use Rattle.pyfstring.specs.Texts.{after_text}
use Rattle.pyfstring.specs.Cutting.{EndsWith}
use Rattle.pyfstring.proofs.Scanning.{text_more, text_none, text_shorter, text_ends}
use Rattle.pyfstring.proofs.scanner.Scanner.text.Goals as goal

pub loop-smaller : goal.loop-smaller
loop-smaller c = rw c.pass_unit.ensures.rest (text_shorter c.args.is_raw c.args.has_pairs c.loop.self
    (sym c.pass_unit.ensures.found ∙ c.loop-test.true))

pub loop-preserved : goal.loop-preserved
loop-preserved c =
    c.loop.invariant
    ∙ text_more c.args.is_raw c.args.has_pairs c.loop.self (sym c.pass_unit.ensures.found ∙ c.loop-test.true)
    ∙ ap (after_text c.args.is_raw c.args.has_pairs) (sym c.pass_unit.ensures.rest)

pub until-requires : goal.until-requires
until-requires c =
    let left = c.loop.invariant ∙ text_none c.args.is_raw c.args.has_pairs c.loop.self (sym c.pass_unit.ensures.found ∙ c.loop-test.false)
    ∙ sym c.pass_unit.ensures.rest in
    let P : List ℕ → List ℕ → Type 0 = λ cs r. EndsWith cs r in
    subst (λ (cs : List ℕ). P cs c.pass_unit.new.self) (sym c.again-start.ensures) (subst (λ (r : List ℕ). P c.args.self.now r) left
    (text_ends c.args.is_raw c.args.has_pairs c.args.self.now))

pub returns-clause-rest : goal.returns-clause-rest
returns-clause-rest c = sym (c.loop.invariant ∙ text_none c.args.is_raw c.args.has_pairs c.loop.self (sym c.pass_unit.ensures.found
    ∙ c.loop-test.false) ∙ sym c.pass_unit.ensures.rest)
