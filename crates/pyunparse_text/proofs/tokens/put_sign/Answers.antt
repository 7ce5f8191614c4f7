use Rattle.std.proofs.Common.{ap}
use Rattle.std.proofs.lemmas.Result.{IfOk-equal}
use Rattle.pyunparse_text.proofs.Texts.TokenLemmas.{sign_put}
use Rattle.pyunparse_text.proofs.tokens.put_sign.Goals as goal

pub returns : goal.returns
returns g c = IfOk-equal _ _ _ _ c.put.ensures
    (ap (λ p. g.W.Writer.after c.args.out.now p) (sign_put c.args.role c.args.sign _ c.text.ensures))
