use Rattle.std.proofs.Common.{subst}
use Rattle.pygrammar.specs.Lines.{line}
use Rattle.pygrammar.specs.FormOf.{form_of}
use Rattle.pyparse_block.specs.Known.{Meets}
use Rattle.pyparse_block.proofs.known.Known.place.Goals as goal

pub returns-then-grows : goal.returns-then-grows
returns-then-grows c profile s k forms was comes =
    c.grow.ensures profile s k forms
    (subst (Meets profile s k forms (line c.args.level (form_of c.args.form)) c.meet.new.self) c.if-grows.true
    (c.in_ok-grows.ensures.known profile s k forms was comes)) comes

pub returns : goal.returns
returns c profile s k forms was comes =
    subst (Meets profile s k forms (line c.args.level (form_of c.args.form)) c.meet.new.self) c.if-grows.false
    (c.in_ok-grows.ensures.known profile s k forms was comes)
