use Rattle.std.proofs.Common.{rules, ◌≡◌, sym, ◌∙◌, None}
use Rattle.std.specs.Str.{chars}
use Rattle.pytoken.specs.Terminals.{terminals_of}
use Rattle.pyparse_tokens.proofs.TakingLemmas.{some_pushed}
use Rattle.pyparse_tokens.proofs.TerminalLemmas.{some_terminals}
use Rattle.pyparse_tokens.proofs.line_gather.LineGather.begin_token.Goals as goal

pub returns-clause-some : goal.returns-clause-some
returns-clause-some c =
    let own = chars c.args.text.now in
    let none : c.in_ok-fault.fault ≡ None = search rules in
    λ _. some_pushed c.args.start own (terminals_of c.args.kind own) c.args.self.now.line c.push_token.new.self
    (c.in_ok-fault.ensures.pushes none)
    (some_terminals c.extent.result c.args.kind own (sym c.in_ok-fault.ensures.fault ∙ none))
