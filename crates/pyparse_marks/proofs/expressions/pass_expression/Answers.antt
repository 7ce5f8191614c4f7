use Rattle.std.proofs.Common.{◌≡◌, List, sym, ap, ◌∙◌}
use Rattle.std.specs.Str.{chars}
use Rattle.pylex_lexeme.specs.Lexemes.{Lexeme, cut}
use Rattle.pyparse_marks.specs.TokenSpans.{past_each, past_lexeme, over, past_expression}
use Rattle.pyparse_marks.proofs.Cutting.{cut_some, cut_none, shorter}
use Rattle.pyparse_marks.proofs.PassLemmas.{then_goes}
use Rattle.pyparse_marks.proofs.expressions.pass_expression.Goals as goal

pub lexemes-init : goal.lexemes-init
lexemes-init g c = record {
  utf8 = c.utf8.text;
  same = ap (past_each (past_lexeme g.T.Tokens.past) (cut (chars c.args.text.now))) c.in_ok-pass.ensures;
}

pub lexemes-smaller : goal.lexemes-smaller
lexemes-smaller g c = shorter c.lexemes.rest.now c.in-Some.front.now c.in-Some.back.now c.in-Some.class c.in-Some.ensures.some

pub lexemes-preserved : goal.lexemes-preserved
lexemes-preserved g c =
    let step = past_lexeme g.T.Tokens.past in
    let cuts = c.in-Some.ensures.some in
    record {
      utf8 = cuts.back_utf8;
      same =
          ap (past_each step (cut (chars c.in-Some.back.now))) c.in_ok-pass_lexeme.ensures
          ∙ sym (ap (λ (xs : List Lexeme). past_each step xs c.lexemes.walker) (cut_some c.lexemes.rest.now c.in-Some.front.now
          c.in-Some.back.now c.in-Some.class cuts))
          ∙ c.lexemes.invariant.same;
    }

pub returns : goal.returns
unfolding past_expression
returns g c =
    let step = past_lexeme g.T.Tokens.past in
    let last : c.lexemes.walker ≡ past_each step (cut (chars c.args.text.now)) (over 1 c.args.walker.now) =
    sym (ap (λ (xs : List Lexeme). past_each step xs c.lexemes.walker) (cut_none (chars c.lexemes.rest.now) c.in_default.ensures.none))
    ∙ c.lexemes.invariant.same in
    then_goes c.pass-2.result (over 1) _ c.lexemes.walker _ c.pass-2.ensures last
