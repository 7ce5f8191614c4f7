use Rattle.std.proofs.Common.{sym, ap, ◌∙◌}
use Rattle.std.specs.Str.{chars}
use Rattle.pylex_listing.specs.Margins.{widths_of}
use Rattle.pyparse_tokens.proofs.IndentLemmas.{takes_none}
use Rattle.pyparse_tokens.proofs.indents.Indents.take_any.Goals as goal

pub returns-then-not-is_logical_at : goal.returns-then-not-is_logical_at
returns-then-not-is_logical_at c =
    takes_none (chars c.args.source.now.text) c.args.offset c.args.self.now (sym c.if-not-is_logical_at.ensures.logical)

pub take_line-requires-clause-widths : goal.take_line-requires-clause-widths
take_line-requires-clause-widths c = c.widths.ensures ∙ ap widths_of c.is_logical_at.ensures.line
