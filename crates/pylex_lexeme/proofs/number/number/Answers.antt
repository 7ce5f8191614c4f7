use Rattle.std.proofs.Common.{sym, ◌∙◌, ap, drop, ℕ}
use Rattle.pylex_lexeme.proofs.Numbers.NumberBest.{longest_number, longest_more}
use Rattle.pylex_lexeme.proofs.number.number.Goals as goal

pub returns-clause-some : goal.returns-clause-some
returns-clause-some c = longest_more c.args.text.now c.requires

pub returns-clause-rest : goal.returns-clause-rest
returns-clause-rest c = c.read_number.ensures ∙ ap (λ (n : ℕ). drop n c.args.text.now) (sym (longest_number c.args.text.now c.requires))
