use Rattle.std.proofs.Common.{rules, sym, ◌∙◌, ◌||◌, ◌==◌}
use Rattle.pylex_lexeme.proofs.Strings.Prefixes.{opens_zero}
use Rattle.pylex_lexeme.proofs.Lexemes.Union.{nothing_at, begins_by, other_by, opens_none, number_takes}
use Rattle.pylex_lexeme.proofs.lexeme.any_lexeme.Goals as goal

pub returns-in_err-c : goal.returns-in_err-c
returns-in_err-c c = rw c.from_residual.ensures (nothing_at c.args.text.now (sym c.first.ensures ∙ c.in_err-c.was))

pub literal-requires : goal.literal-requires
literal-requires c = opens_zero c.args.text.now (begins_by (λ d. (d == 39) || (d == 34)) c.args.text.now c.in_ok-c.c (sym c.in_ok-c.ensures)
    (sym c.if-has-2.ensures))

pub name-requires-clause-no_string : goal.name-requires-clause-no_string
name-requires-clause-no_string c = opens_none c.args.text.now c.in_ok-c.c (sym c.in_ok-c.ensures) (sym c.if-has-3.ensures)
    (sym c.if-has-2.ensures)

pub operator-requires : goal.operator-requires
operator-requires c = record {
  string = opens_none c.args.text.now c.in_ok-c.c (sym c.in_ok-c.ensures) (sym c.if-has-3.ensures) (sym c.if-has-2.ensures);
  number = sym c.if-has_number.ensures;
  first = other_by c.args.text.now c.in_ok-c.c (sym c.in_ok-c.ensures) (sym c.if-is_name_start.ensures) (sym c.if-has.ensures)
      (search rules) (search rules) (search rules) (search rules);
}

pub returns-in_default-5 : goal.returns-in_default-5
returns-in_default-5 c = rw c.number.ensures.rest (number_takes c.args.text.now (sym c.if-has_number.ensures))
