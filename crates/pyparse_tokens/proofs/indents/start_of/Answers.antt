use Rattle.std.proofs.Common.{ℕ, List, ◌+◌, length, ap, ap₂, ◌∙◌, arith}
use Rattle.std.specs.Str.{chars}
use Rattle.pysource.specs.Places.{place_at}
use Rattle.pylex_listing.specs.Margins.{blanks_of}
use Rattle.pyparse_tokens.proofs.IndentLemmas.{seam, line_of, whole_of}
use Rattle.pyparse_tokens.proofs.indents.start_of.Goals as goal

pub place_of-requires : goal.place_of-requires
place_of-requires c =
    let line = c.range_from.result.now in
    (seam c.text-text.result.now line (blanks_of (chars line)) c.after_blanks.result.now c.args.offset
    (omega (arith, c.range_from.ensures.len))
    c.range_from.ensures.value c.after_blanks.ensures.cut c.after_blanks.utf8).boundary

pub returns : goal.returns
returns c =
    let text = c.text-text.result.now in
    let line = c.range_from.result.now in
    let cut = seam text line (blanks_of (chars line)) c.after_blanks.result.now c.args.offset (omega (arith, c.range_from.ensures.len))
    c.range_from.ensures.value c.after_blanks.ensures.cut c.after_blanks.utf8 in
    let same = ap chars c.range_from.ensures.value ∙ line_of text c.args.source.now.text c.args.offset c.text-text.utf8
    c.text-text.ensures.value in
    c.place_of.ensures ∙ ap (place_at text) cut.at
    ∙ ap₂ place_at (whole_of text c.args.source.now.text c.text-text.utf8 c.text-text.ensures.value)
    (ap (λ (t : List ℕ). c.args.offset + length (blanks_of t)) same)
