-- The laws.
use Rattle.std.proofs.Common.{[], inl, inr}
use Rattle.pylex_lexeme.specs.Chars.{bytes_in}
use Rattle.pytoken.specs.Tokens.{lines}
use Rattle.pyparse_marks.specs.LineSpans.{line_spans}
use Rattle.pyplaces.proofs.Laws.Law.{places_are_lawful}
use Rattle.pyplaces.specs.Order.{LinesAreInOrder, StatementsAreInOrder, BlocksAreLaidOut, PlacesAreClear, SourcePlacesAreLawful}
use Rattle.pyplaces.specs.Laminar.{AreClearIn}
use Rattle.pyplaces.proofs.Order.TokenLines.{lines_in}
use Rattle.pyplaces.proofs.Laws.Blocks.{count_formed}
use Rattle.pyplaces.proofs.Order.Lines.{in_order, lines_lie}
use Rattle.pyplaces.proofs.Order.Blocks.{block_in, laid_out}
use Rattle.pyplaces.proofs.Order.LaminarBlocks.{laminar_block}
use Rattle.pyplaces.proofs.Order.LaminarLines.{lines_laminar}

lines_are_in_order : LinesAreInOrder
lines_are_in_order profile s m a good =
    in_order (lines_lie s.text 0 (bytes_in s.text) a.formed (lines_in profile.extent s good a.clear))

statements_are_in_order : StatementsAreInOrder
statements_are_in_order profile s m a good =
    places_are_lawful.ordered (line_spans s.text) profile [] a.forms (lines s) a.formed 0 0 (bytes_in s.text) m.body a.block
    (lines_are_in_order profile s m a good)

blocks_are_laid_out : BlocksAreLaidOut
blocks_are_laid_out profile s m a good =
    let lie = lines_lie s.text 0 (bytes_in s.text) a.formed (lines_in profile.extent s good a.clear) in
    let r = block_in a.block (record { lie = lie; counted = count_formed (line_spans s.text) a.formed }) in
    (laid_out r, r.inside)

places_are_clear : PlacesAreClear
places_are_clear profile s m a good p q c d =
    let tokens = lines_in profile.extent s good a.clear in
    let lie = lines_lie s.text 0 (bytes_in s.text) a.formed tokens in
    let R = AreClearIn (line_spans s.text) a.formed in
    let each = lines_laminar R (λ s t h. inl h) s.text 0 (bytes_in s.text) a.formed tokens (λ s t h. inr h) in
    let all = laminar_block R (λ s t h. inl h) a.block (record { lie = lie; counted = count_formed (line_spans s.text) a.formed }) each in
    all.are p q c d

pub source_places_are_lawful : SourcePlacesAreLawful
source_places_are_lawful = record {
  lines = lines_are_in_order;
  statements = statements_are_in_order;
  blocks = blocks_are_laid_out;
  clear = places_are_clear;
}
