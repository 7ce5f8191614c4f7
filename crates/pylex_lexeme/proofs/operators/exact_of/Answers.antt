use Rattle.std.proofs.Common.{◌∙◌, sym, ap}
use Rattle.std.specs.Str.{chars}
use Rattle.pylex_lexeme.specs.Operators.{exact_of}
use Rattle.pylex_lexeme.proofs.Lexemes.OperatorLengths.{none_of, long_of, exact_three, exact_none}
use Rattle.pylex_lexeme.proofs.operators.exact_of.Goals as goal

pub returns-in_err-first : goal.returns-in_err-first
returns-in_err-first c =
    rw c.from_residual.ensures
    (sym (ap exact_of (none_of (chars c.args.text.now) c.new-left.result c.new-left.ensures (sym c.in_err-first.was ∙ c.bump.ensures.first))
    ∙ exact_none))

pub returns-then-is_some : goal.returns-then-is_some
returns-then-is_some c = sym (long_of (chars c.args.text.now) c.new-left.result c.bump.new.self c.bump-2.new.self c.bump-3.new.self
    c.in_ok-first.first c.in-Some.second c.in-Some-bump.third c.new-left.ensures c.in_ok-first.ensures.first c.bump.ensures.rest
    c.in-Some.ensures.first c.in-Some.ensures.rest c.in-Some-bump.ensures.first c.in-Some-bump.ensures.rest c.first.result
    c.first.ensures c.if-is_some.ensures)

pub returns : goal.returns
returns c = c.exact_of_three.ensures
    ∙ ap exact_of (sym (exact_three (chars c.args.text.now) c.new-left.result c.bump.new.self c.bump-2.new.self c.bump-3.new.self
    c.in_ok-first.first c.in-Some.second c.in-Some-bump.third c.new-left.ensures c.in_ok-first.ensures.first c.bump.ensures.rest
    c.in-Some.ensures.first c.in-Some.ensures.rest c.in-Some-bump.ensures.first c.in-Some-bump.ensures.rest c.first.result
    c.first.ensures c.if-is_some.ensures))
