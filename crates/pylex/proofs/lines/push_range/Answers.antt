use Rattle.std.proofs.Common.{◌≡◌, ◌++◌, ◌-◌, ◌+◌, length, sym, subst, ap, ◌∙◌, arith}
use Rattle.std.specs.Str.{IsAscii}
use Rattle.std.specs.String.{string_bytes}
use Rattle.std.proofs.lemmas.Result.{on_ok_weaker}
use Rattle.pylex_listing.specs.ListingLines.{shown_range}
use Rattle.pylex.proofs.Texts.LinesLemmas.{short_range, wide_range, filled_range_ascii}
use Rattle.pylex.proofs.lines.push_range.Goals as goal

pub push_ascii-requires : goal.push_ascii-requires
push_ascii-requires c =
    let e = c.args.entry.now in
    let start = c.put_range-start.result in
    let size : 84 - start ≡ length (shown_range e) = omega (arith, c.put_range-start.ensures.start) in
    subst IsAscii (sym (wide_range e _ (84 - start) c.put_range-start.ensures.written size (omega arith))) (filled_range_ascii e)

pub returns-then-start-gt-RANGE_WIDTH-clause-ok : goal.returns-then-start-gt-RANGE_WIDTH-clause-ok
returns-then-start-gt-RANGE_WIDTH-clause-ok c =
    let e = c.args.entry.now in
    let start = c.put_range-start.result in
    let size : 84 - start ≡ length (shown_range e) = omega (arith, c.put_range-start.ensures.start) in
    on_ok_weaker c.push_ascii.result
    (λ pushed. pushed ∙ ap (λ bs. string_bytes c.args.out.now ++ bs)
    (wide_range e _ (84 - start) c.put_range-start.ensures.written size (omega arith)))
    c.push_ascii.ensures.ok

pub push_ascii-requires-2 : goal.push_ascii-requires-2
push_ascii-requires-2 c =
    let e = c.args.entry.now in
    let start = c.put_range-start.result in
    let width : start + 20 - start ≡ 20 = omega arith in
    subst IsAscii (sym (short_range e _ (start + 20 - start) c.put_range-start.ensures.written width
    (omega (arith, c.put_range-start.ensures.start)))) (filled_range_ascii e)

pub returns-clause-ok : goal.returns-clause-ok
returns-clause-ok c =
    let e = c.args.entry.now in
    let start = c.put_range-start.result in
    let width : start + 20 - start ≡ 20 = omega arith in
    on_ok_weaker c.push_ascii-2.result
    (λ pushed. pushed ∙ ap (λ bs. string_bytes c.args.out.now ++ bs) (short_range e _ (start + 20 - start) c.put_range-start.ensures.written
    width (omega (arith, c.put_range-start.ensures.start))))
    c.push_ascii-2.ensures.ok
