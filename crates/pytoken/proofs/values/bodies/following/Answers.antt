use Rattle.std.proofs.Common.{◌≡◌, ℕ, refl, arith, ap, ◌∙◌, drop, drop-drop}
use Rattle.std.specs.Str.{chars}
use Rattle.pytoken.proofs.values.bodies.following.Goals as goal

pub front-init : goal.front-init
front-init c = record { same = refl; utf8 = c.utf8.text }

pub front-preserved : goal.front-preserved
front-preserved c = record {
  same = c.following_first-rest.ensures ∙ ap (drop 1) c.front.invariant.same ∙ drop-drop 1 c.front._front (chars c.args.text.now);
  utf8 = c.following_first-rest.utf8;
}

pub returns : goal.returns
returns c =
    let front : c.front._front ≡ c.args.count = omega arith in
    c.front.invariant.same ∙ ap (λ (n : ℕ). drop n (chars c.args.text.now)) front
