use Rattle.std.proofs.Common.{ℕ, List, [], ◌∷◌, sym, subst}
use Rattle.std.specs.Str.{chars}
use Rattle.pytoken.specs.Terminals
use Rattle.pyparse_tokens.specs.Inner.OpenLines.{Pushes}
use Rattle.pyparse_tokens.proofs.OperatorLemmas.{operator_faultless, operator_adds}
use Rattle.pyparse_tokens.proofs.line_gather.LineGather.push.Goals as goal

pub returns-in-Some-clause-fault : goal.returns-in-Some-clause-fault
returns-in-Some-clause-fault c =
    sym (operator_faultless c.args.self.now.pass.extent (chars c.args.source.now.text) c.args.entry.now c.in-Some.exact
    c.requires.exact c.in-Some.is)

pub returns-in-Some-clause-line : goal.returns-in-Some-clause-line
returns-in-Some-clause-line c =
    let old = c.args.self.now.line in
    let new = c.push.new.self in
    let own = Terminals.Op c.in-Some.exact ∷ [] in
    λ _.
    operator_adds (chars c.args.source.now.text) c.args.entry.now c.in-Some.exact old new c.requires.exact c.in-Some.is
    (subst (λ (text : List ℕ). Pushes c.args.entry.now.start text own old new) c.text_of-text.ensures c.in_ok-push.ensures)
