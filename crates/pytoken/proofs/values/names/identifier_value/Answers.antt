use Rattle.std.proofs.Common.{sym, subst}
use Rattle.std.specs.Prelude.{IfOk, ◌≡◌}
use Rattle.pytoken.proofs.values.NameLemmas.{low_form}
use Rattle.pytoken.proofs.values.names.identifier_value.Goals as goal

pub returns-then-is_ascii : goal.returns-then-is_ascii
returns-then-is_ascii c =
    subst (λ t. IfOk c.new.result (λ name. name ≡ t)) (sym (low_form c.args.text.now (c.is_ascii.ensures c.if-is_ascii.true)))
    c.new.ensures.value
