use Rattle.std.proofs.Common.{arith, ap, ◌∙◌}
use Rattle.pytoken.specs.TerminalOf.{terminal}
use Rattle.pyplaces.specs.RowEnds.{depth_following}
use Rattle.pyplaces.proofs.RowWalks.{walk_past, walk_stops, walk_goes, walk_few}
use Rattle.pyplaces.proofs.row_ends.row_end.Goals as goal

pub row-preserved : goal.row-preserved
row-preserved c =
    let t = c.index-tokens-next.result in
    let h = c.in-Some.ensures ∙ ap (λ z. depth_following c.row.depth (terminal z)) c.index-tokens-next.is in
    record {
      ahead = omega (arith, c.row.invariant.ahead);
      few = omega (arith, c.row.invariant.few, walk_few c.row.depth c.in-Some.following (terminal t) c.in-Some.ensures);
      is = omega (arith, c.row.invariant.is, walk_goes c.args.tokens.now c.row.next c.row.depth c.in-Some.following t (omega arith) h);
    }

pub returns-in-None : goal.returns-in-None
returns-in-None c =
    let h = c.in-None.ensures ∙ ap (λ z. depth_following c.row.depth (terminal z)) c.index-tokens-next.is in
    omega (
      arith,
      c.row.invariant.is,
      walk_stops c.args.tokens.now c.row.next c.row.depth c.index-tokens-next.result (omega arith) h,
    )

pub returns : goal.returns
returns c = omega (arith, c.row.invariant.is, walk_past c.args.tokens.now c.row.next c.row.depth (omega arith))
