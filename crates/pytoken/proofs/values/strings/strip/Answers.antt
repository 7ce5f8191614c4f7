use Rattle.std.proofs.Common.{◌≡◌, ℕ, arith, sym, ap, ◌∙◌, drop, drop-drop}
use Rattle.pytoken.specs.StringValues.{without_last}
use Rattle.pytoken.proofs.values.LiteralLemmas.{without_none, without_one_more}
use Rattle.pytoken.proofs.values.strings.strip.Goals as goal

pub loop-front-preserved : goal.loop-front-preserved
loop-front-preserved c = c.bump.ensures.rest ∙ ap (drop 1) c.loop-front.invariant ∙ drop-drop 1 c.loop-front._front c.args.text.now

pub loop-back-init : goal.loop-back-init
loop-back-init c = sym (without_none c.loop-front.text)

pub loop-back-preserved : goal.loop-back-preserved
loop-back-preserved c = c.bump_back.ensures ∙ ap (without_last 1) c.loop-back.invariant
    ∙ without_one_more c.loop-back._back c.loop-front.text

pub returns : goal.returns
returns c =
    let back : c.loop-back._back ≡ c.args.count = omega arith in
    let front : c.loop-front._front ≡ c.args.count = omega arith in
    c.loop-back.invariant ∙ ap (λ (n : ℕ). without_last n c.loop-front.text) back
    ∙ ap (without_last c.args.count) (c.loop-front.invariant ∙ ap (λ (n : ℕ). drop n c.args.text.now) front)
