use Rattle.std.proofs.Common.{◌∙◌, ap, not, rules, ⊎_elim}
use Rattle.std.specs.Str.{chars}
use Rattle.pylex_lexeme.proofs.Lexemes.Union.{significant_none, significant_hash, significant_feed, significant_other, significant_return}
use Rattle.pylex_lexeme.proofs.lexeme.begins_significant.Goals as goal

pub returns-in_default : goal.returns-in_default
returns-in_default c = significant_none (chars c.args.text.now) c.new-scanner.result c.new-scanner.ensures c.in_default.ensures

pub returns-in-35 : goal.returns-in-35
returns-in-35 c = ⊎_elim
    (significant_feed (chars c.args.text.now) c.new-scanner.result c.in-Some.first c.new-scanner.ensures c.in-Some.ensures)
    (significant_hash (chars c.args.text.now) c.new-scanner.result c.in-Some.first c.new-scanner.ensures c.in-Some.ensures)
    c.in-35.is

pub returns-in-13 : goal.returns-in-13
returns-in-13 c = ap not c.has_next.ensures ∙ significant_return (chars c.args.text.now) c.new-scanner.result c.in-Some.first
    c.new-scanner.ensures c.in-Some.ensures c.in-13.is

pub returns-in_default-first : goal.returns-in_default-first
returns-in_default-first c = ap not c.has.ensures ∙ significant_other (chars c.args.text.now) c.new-scanner.result c.in-Some.first
    c.new-scanner.ensures c.in-Some.ensures (search rules) (search rules) (search rules)
