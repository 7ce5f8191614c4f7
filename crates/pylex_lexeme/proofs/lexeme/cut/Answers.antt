use Rattle.std.proofs.Common.{ap, ◌∙◌, Some, None, subst, ℕ, List, take, drop, length, ◌-◌}
use Rattle.std.specs.Str.{chars}
use Rattle.pylex_lexeme.specs.Lexemes.{lexeme_len}
use Rattle.pylex_lexeme.specs.Cuts.{TakesLexeme}
use Rattle.pylex_lexeme.proofs.Lexemes.Cutting.{boundary, cuts_is, none_is}
use Rattle.pylex_lexeme.proofs.lexeme.cut.Goals as goal

pub returns-in_err-class-clause-none : goal.returns-in_err-class-clause-none
returns-in_err-class-clause-none c =
    let t : TakesLexeme (chars c.args.text.now) None c.lexeme.new.text = subst (λ (cs : List ℕ). TakesLexeme cs None c.lexeme.new.text)
    c.new-scanner.ensures c.in_err-class.ensures in
    rw c.from_residual.ensures (none_is (chars c.args.text.now) c.lexeme.new.text t)

pub overflow_sub-text : goal.overflow_sub-text
overflow_sub-text c =
    let t : TakesLexeme (chars c.args.text.now) (Some c.in_ok-class.class) c.lexeme.new.text =
    subst (λ (cs : List ℕ). TakesLexeme cs (Some c.in_ok-class.class) c.lexeme.new.text) c.new-scanner.ensures c.in_ok-class.ensures in
    rw c.len.ensures (boundary (lexeme_len (chars c.args.text.now)) c.args.text.now c.lexeme.new.text c.utf8.text t.rest).0

pub split_at-requires : goal.split_at-requires
split_at-requires c =
    let t : TakesLexeme (chars c.args.text.now) (Some c.in_ok-class.class) c.lexeme.new.text =
    subst (λ (cs : List ℕ). TakesLexeme cs (Some c.in_ok-class.class) c.lexeme.new.text) c.new-scanner.ensures c.in_ok-class.ensures in
    rw c.len.ensures (boundary (lexeme_len (chars c.args.text.now)) c.args.text.now c.lexeme.new.text c.utf8.text t.rest).1

pub returns-clause-some : goal.returns-clause-some
returns-clause-some c =
    let t : TakesLexeme (chars c.args.text.now) (Some c.in_ok-class.class) c.lexeme.new.text =
    subst (λ (cs : List ℕ). TakesLexeme cs (Some c.in_ok-class.class) c.lexeme.new.text) c.new-scanner.ensures c.in_ok-class.ensures in
    cuts_is c.in_ok-class.class c.args.text.now c.lexeme.new.text c.split_at.result.0.now c.split_at.result.1.now c.utf8.text t
    (c.split_at.ensures.front ∙ ap (λ (n : ℕ). take (length c.args.text.now - n) c.args.text.now) c.len.ensures)
    (c.split_at.ensures.back ∙ ap (λ (n : ℕ). drop (length c.args.text.now - n) c.args.text.now) c.len.ensures)
