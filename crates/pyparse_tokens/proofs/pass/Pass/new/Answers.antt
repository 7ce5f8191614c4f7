use Rattle.std.proofs.Common.{List, [], refl, sym, subst, append-nil}
use Rattle.std.specs.Str.{chars}
use Rattle.pytoken.specs.Indentation.{Margin, margin_at}
use Rattle.pyparse_tokens.specs.Inner.Indenting.{Measured}
use Rattle.pyparse_tokens.proofs.IndentLemmas.{none_measured, measures}
use Rattle.pyparse_tokens.proofs.pass.Pass.new.Goals as goal

pub returns-clause-passed : goal.returns-clause-passed
returns-clause-passed c =
    let first = margin_at (chars c.args.source.now.text) 0 in
    let none = none_measured c.new-indents.result c.new-indents.ensures.standing c.new-indents.ensures.mixed in
    record {
      begun = refl;
      opened = refl;
      closed = refl;
      faulty = refl;
      deep = refl;
      indents = subst (λ (ms : List Margin). Measured ms c.take.new.self) (sym (append-nil first))
          (measures [] first c.new-indents.result c.take.new.self none c.in_ok-take.ensures);
    }
