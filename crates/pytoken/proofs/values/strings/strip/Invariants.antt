use Rattle.std.proofs.Common.{◌≡◌, drop}
use Rattle.pytoken.specs.StringValues.{without_last}
use Rattle.pytoken.proofs.values.strings.strip.Given as goal

abbrev pub invariant-loop-front : goal.invariant-loop-front
invariant-loop-front l = l.text ≡ drop l._front l.initial.text

abbrev pub invariant-loop-back : goal.invariant-loop-back
invariant-loop-back l = l.text ≡ without_last l._back l.initial.text
