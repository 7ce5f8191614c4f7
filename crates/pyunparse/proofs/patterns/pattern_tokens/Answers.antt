use Rattle.std.proofs.Common.{◌∙◌, [], ap}
use Rattle.pytree_node.specs.TreeOf.{pattern_of}
use Rattle.pyunparse_text.specs.Pieces.{piece}
use Rattle.pyunparse_text.specs.WrittenPatterns.{written_pattern}
use Rattle.pyunparse_text.proofs.Callers.Patterns.{patterns_are_read, patterns_are_shortest}
use Rattle.pyunparse_text.specs.Folds.{puts}
use Rattle.pyunparse_text.specs.Told.{listed_after}
use Rattle.pyunparse_text.proofs.Callers.Writing.{tokens_put}
use Rattle.pyunparse.proofs.patterns.pattern_tokens.Goals as goal

pub returns-clause-tokens : goal.returns-clause-tokens
returns-clause-tokens c =
    let ps = written_pattern piece c.args.level (pattern_of c.args.pattern.now) in
    c.into_pieces.ensures ∙ ap (λ z. z.tokens) (c.in_ok-write_pattern.ensures
    ∙ ap (λ z. puts listed_after z ps) c.new-out.ensures ∙ tokens_put [] ps)

pub returns-clause-fewest : goal.returns-clause-fewest
returns-clause-fewest c ts told = patterns_are_shortest c.args.level ts (pattern_of c.args.pattern.now) told

pub returns-clause-read : goal.returns-clause-read
returns-clause-read c extent ts = patterns_are_read extent c.args.level ts (pattern_of c.args.pattern.now)

pub returns-in_err-write_pattern-clause-fewest : goal.returns-in_err-write_pattern-clause-fewest
returns-in_err-write_pattern-clause-fewest c ts told = patterns_are_shortest c.args.level ts (pattern_of c.args.pattern.now) told

pub returns-in_err-write_pattern-clause-read : goal.returns-in_err-write_pattern-clause-read
returns-in_err-write_pattern-clause-read c extent ts = patterns_are_read extent c.args.level ts (pattern_of c.args.pattern.now)
