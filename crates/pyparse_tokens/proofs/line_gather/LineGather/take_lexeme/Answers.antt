use Rattle.std.specs.Str.{chars}
use Rattle.pyparse_tokens.proofs.TakingLemmas.{end_takes}
use Rattle.pyparse_tokens.proofs.line_gather.LineGather.take_lexeme.Goals as goal

pub returns-in_ok-take_line_end-in_default-clause-taken : goal.returns-in_ok-take_line_end-in_default-clause-taken
returns-in_ok-take_line_end-in_default-clause-taken c =
    let other = c.in_default in
    λ _.
    end_takes (chars c.args.source.now.text) (chars c.args.text.now) c.args.class c.args.to c.args.self.now c.take_line_end.new.self
    other.not-Name other.not-Number other.not-String other.not-Operator other.not-Comment c.requires.gives
    c.in_ok-take_line_end-in_default.ensures.taken
