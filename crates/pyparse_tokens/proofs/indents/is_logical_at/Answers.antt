use Rattle.std.proofs.Common.{ℕ, List, length, drop, sym, ap, ◌∙◌}
use Rattle.std.specs.Str.{chars}
use Rattle.pylex_lexeme.specs.Cuts.{begins_significant}
use Rattle.pylex_listing.specs.Margins.{blanks_of}
use Rattle.pyparse_tokens.proofs.IndentLemmas.{line_of}
use Rattle.pyparse_tokens.proofs.indents.is_logical_at.Goals as goal

pub returns-clause-logical : goal.returns-clause-logical
returns-clause-logical c =
    let line = ap chars c.range_from.ensures.value ∙ line_of c.text.result.now c.args.source.now.text c.args.offset c.text.utf8
    c.text.ensures.value in
    c.begins_significant.ensures ∙ ap begins_significant (c.after_blanks.ensures.rest
    ∙ ap (λ (t : List ℕ). drop (length (blanks_of t)) t) line)

pub returns-clause-line : goal.returns-clause-line
returns-clause-line c =
    ap (λ (bs : List ℕ). chars (drop c.args.offset bs)) (sym c.text.ensures.value)
    ∙ line_of c.text.result.now c.args.source.now.text c.args.offset c.text.utf8 c.text.ensures.value
