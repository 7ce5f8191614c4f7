use Rattle.std.proofs.Common.{◌≡◌, ◌∙◌, ◌∷◌, [], sym, ap, drop}
use Rattle.std.specs.Prelude.{option_map}
use Rattle.pylex_lexeme.proofs.Lexemes.OperatorLengths.{none_of, one_of, two_of, three_of, none_at, one_at, two_at, three_at, pair_at_three}
use Rattle.pylex_lexeme.proofs.Lexemes.Seconds.{begun_by, alone_at}
use Rattle.pylex_lexeme.proofs.operators.longest_operator.Goals as goal

pub returns-in_err-first : goal.returns-in_err-first
returns-in_err-first c =
    rw c.from_residual.ensures
    (none_at c.args.text.now (none_of c.args.text.now c.again-ahead.result c.again-ahead.ensures (sym c.in_err-first.was
    ∙ c.bump.ensures.first)))

pub returns-in_err-exact_of_one : goal.returns-in_err-exact_of_one
returns-in_err-exact_of_one c =
    let e : c.args.text.now ≡ c.in_ok-first.first ∷ [] = one_of c.args.text.now c.again-ahead.result c.bump.new.self c.in_ok-first.first
    c.again-ahead.ensures c.in_ok-first.ensures.first c.bump.ensures.rest c.in_default.ensures.first in
    c.from_residual-in_err-exact_of_one.ensures ∙ ap (option_map (λ e. (e, 1))) (sym c.in_err-exact_of_one.was)
    ∙ one_at c.args.text.now c.in_ok-first.first c.exact_of_one.result e c.exact_of_one.ensures

pub returns-in_default : goal.returns-in_default
returns-in_default c =
    let e : c.args.text.now ≡ c.in_ok-first.first ∷ [] = one_of c.args.text.now c.again-ahead.result c.bump.new.self c.in_ok-first.first
    c.again-ahead.ensures c.in_ok-first.ensures.first c.bump.ensures.rest c.in_default.ensures.first in
    ap (option_map (λ e. (e, 1))) (sym c.in_ok-exact_of_one.was) ∙ one_at c.args.text.now c.in_ok-first.first c.exact_of_one.result
    e c.exact_of_one.ensures

pub returns-in_err-exact_of_one-2 : goal.returns-in_err-exact_of_one-2
returns-in_err-exact_of_one-2 c =
    let e : c.args.text.now ≡ c.in_ok-first.first ∷ c.in-Some.second ∷ drop 1 c.bump.new.self =
    begun_by c.args.text.now c.again-ahead.result c.bump.new.self c.in_ok-first.first c.in-Some.second c.again-ahead.ensures
    c.in_ok-first.ensures.first c.bump.ensures.rest c.in-Some.ensures.first in
    c.from_residual-in_err-exact_of_one-2.ensures
    ∙ ap (option_map (λ e. (e, 1))) (sym c.in_err-exact_of_one-2.was ∙ c.exact_of_one-then-not-may_be_second.ensures)
    ∙ alone_at c.args.text.now (drop 1 c.bump.new.self) c.in_ok-first.first c.in-Some.second e (sym c.if-not-may_be_second.ensures)

pub returns-then-not-may_be_second : goal.returns-then-not-may_be_second
returns-then-not-may_be_second c =
    let e : c.args.text.now ≡ c.in_ok-first.first ∷ c.in-Some.second ∷ drop 1 c.bump.new.self =
    begun_by c.args.text.now c.again-ahead.result c.bump.new.self c.in_ok-first.first c.in-Some.second c.again-ahead.ensures
    c.in_ok-first.ensures.first c.bump.ensures.rest c.in-Some.ensures.first in
    ap (option_map (λ e. (e, 1))) (sym c.in_ok-exact_of_one-2.was ∙ c.exact_of_one-then-not-may_be_second.ensures)
    ∙ alone_at c.args.text.now (drop 1 c.bump.new.self) c.in_ok-first.first c.in-Some.second e (sym c.if-not-may_be_second.ensures)

pub returns-in_default-bump : goal.returns-in_default-bump
returns-in_default-bump c =
    c.longest_of_two.ensures
    ∙ two_at c.args.text.now c.in_ok-first.first c.in-Some.second
    (two_of c.args.text.now c.again-ahead.result c.bump.new.self c.bump-2.new.self c.in_ok-first.first c.in-Some.second
    c.again-ahead.ensures c.in_ok-first.ensures.first c.bump.ensures.rest c.in-Some.ensures.first c.in-Some.ensures.rest
    c.in_default-bump.ensures.first)

pub returns-in-Some-exact_of_three : goal.returns-in-Some-exact_of_three
returns-in-Some-exact_of_three c =
    three_at c.args.text.now (drop 1 c.bump-2.new.self) c.in_ok-first.first c.in-Some.second c.in-Some-bump.third
    c.in-Some-exact_of_three.exact
    (three_of c.args.text.now c.again-ahead.result c.bump.new.self c.bump-2.new.self c.in_ok-first.first c.in-Some.second
    c.in-Some-bump.third c.again-ahead.ensures c.in_ok-first.ensures.first c.bump.ensures.rest c.in-Some.ensures.first
    c.in-Some.ensures.rest c.in-Some-bump.ensures.first)
    c.in-Some-exact_of_three.ensures

pub returns : goal.returns
returns c =
    c.longest_of_two-2.ensures
    ∙ pair_at_three c.args.text.now (drop 1 c.bump-2.new.self) c.in_ok-first.first c.in-Some.second c.in-Some-bump.third
    (three_of c.args.text.now c.again-ahead.result c.bump.new.self c.bump-2.new.self c.in_ok-first.first c.in-Some.second
    c.in-Some-bump.third c.again-ahead.ensures c.in_ok-first.ensures.first c.bump.ensures.rest c.in-Some.ensures.first
    c.in-Some.ensures.rest c.in-Some-bump.ensures.first)
    c.in_default-exact_of_three.ensures
