use Rattle.std.proofs.Common.{ℕ, List, drop, length, sym, ap, ◌∙◌}
use Rattle.std.specs.Str.{chars}
use Rattle.pylex_lexeme.specs.Cuts.{begins_significant}
use Rattle.pylex_listing.specs.Margins.{blanks_of, widths_of}
use Rattle.pytoken.specs.Indentation.{margin_at}
use Rattle.pyparse_tokens.specs.Inner.Indenting.{begins_blank}
use Rattle.pyparse_tokens.proofs.IndentLemmas.{takes_none, takes_after, spaced, line_of}
use Rattle.pyparse_tokens.proofs.indents.Indents.take.Goals as goal

pub returns-then-is_some : goal.returns-then-is_some
returns-then-is_some c = takes_after (margin_at (chars c.args.source.now.text) c.args.offset) c.args.self.now (sym c.if-is_some.ensures)

pub range_from-following-requires : goal.range_from-following-requires
range_from-following-requires c =
    λ some. (spaced c.range_from-line.result.now c.space_count-count.result c.range_from-line.utf8 c.space_count-count.ensures).boundary

pub returns-then-not-begins_significant : goal.returns-then-not-begins_significant
returns-then-not-begins_significant c =
    let line = c.range_from-line.result.now in
    let s = spaced line c.space_count-count.result c.range_from-line.utf8 c.space_count-count.ensures in
    let other = ap (λ (t : List ℕ). begins_blank (chars t)) (sym c.range_from-following.ensures.value) ∙ sym c.if-begins_blank.ensures in
    let same = ap chars c.range_from-line.ensures.value ∙ line_of c.text.result.now c.args.source.now.text c.args.offset c.text.utf8
    c.text.ensures.value in
    takes_none (chars c.args.source.now.text) c.args.offset c.args.self.now
    (sym (ap (λ (t : List ℕ). begins_significant (drop (length (blanks_of t)) t)) same)
    ∙ ap begins_significant (s.rest other) ∙ ap (λ (t : List ℕ). begins_significant (chars t)) (sym c.range_from-following.ensures.value)
    ∙ sym c.if-not-begins_significant.ensures)

pub take_line-requires-clause-logical : goal.take_line-requires-clause-logical
take_line-requires-clause-logical c =
    let line = c.range_from-line.result.now in
    let s = spaced line c.space_count-count.result c.range_from-line.utf8 c.space_count-count.ensures in
    let other = ap (λ (t : List ℕ). begins_blank (chars t)) (sym c.range_from-following.ensures.value) ∙ sym c.if-begins_blank.ensures in
    let same = ap chars c.range_from-line.ensures.value ∙ line_of c.text.result.now c.args.source.now.text c.args.offset c.text.utf8
    c.text.ensures.value in
    sym (ap (λ (t : List ℕ). begins_significant (drop (length (blanks_of t)) t)) same)
    ∙ ap begins_significant (s.rest other) ∙ ap (λ (t : List ℕ). begins_significant (chars t)) (sym c.range_from-following.ensures.value)
    ∙ sym c.if-not-begins_significant.ensures

pub take_line-requires-clause-widths : goal.take_line-requires-clause-widths
take_line-requires-clause-widths c =
    let line = c.range_from-line.result.now in
    let s = spaced line c.space_count-count.result c.range_from-line.utf8 c.space_count-count.ensures in
    let other = ap (λ (t : List ℕ). begins_blank (chars t)) (sym c.range_from-following.ensures.value) ∙ sym c.if-begins_blank.ensures in
    let same = ap chars c.range_from-line.ensures.value ∙ line_of c.text.result.now c.args.source.now.text c.args.offset c.text.utf8
    c.text.ensures.value in
    s.widths other ∙ ap widths_of same
