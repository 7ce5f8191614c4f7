use Rattle.std.proofs.Common.{◌≡◌, ℕ, arith, sym, ap, ◌∙◌}
use Rattle.std.specs.Str.{chars}
use Rattle.pytoken.specs.StringValues.{without_last}
use Rattle.pytoken.proofs.values.LiteralLemmas.{without_none, without_one_more}
use Rattle.pytoken.proofs.values.bodies.without_last.Goals as goal

pub back-init : goal.back-init
back-init c = record { same = sym (without_none (chars c.args.text.now)); utf8 = c.utf8.text }

pub back-preserved : goal.back-preserved
back-preserved c = record {
  same = c.before_last-rest.ensures ∙ ap (without_last 1) c.back.invariant.same ∙ without_one_more c.back._back (chars c.args.text.now);
  utf8 = c.before_last-rest.utf8;
}

pub returns : goal.returns
returns c =
    let back : c.back._back ≡ c.args.count = omega arith in
    c.back.invariant.same ∙ ap (λ (n : ℕ). without_last n (chars c.args.text.now)) back
