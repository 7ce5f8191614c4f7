use Rattle.std.proofs.Common.{ap, false, sym, true}
use Rattle.std.proofs.lemmas.Result.{IfOk-equal}
use Rattle.std.proofs.lemmas.Str.{encodes-chars}
use Rattle.pylex_listing.specs.declared.kind.Kind.TheVariants as kinds
use Rattle.pyunparse_text.specs.Folds.{anywhere}
use Rattle.pyunparse_text.proofs.tokens.put_text.Goals as goal

pub returns-then-before : goal.returns-then-before
returns-then-before g c = rw c.if-before.true (IfOk-equal _ _ _ _ c.put.ensures
    (ap (λ t. g.W.Writer.after c.args.out.now (anywhere (record { kind = kinds.Name; text = t; before = true; following = false })))
    (sym (encodes-chars c.args.name.now c.utf8.name))))

pub returns : goal.returns
returns g c = rw c.if-before.false (IfOk-equal _ _ _ _ c.put-2.ensures
    (ap (λ t. g.W.Writer.after c.args.out.now (anywhere (record { kind = kinds.Name; text = t; before = false; following = false })))
    (sym (encodes-chars c.args.name.now c.utf8.name))))
