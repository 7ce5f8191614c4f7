use Rattle.std.proofs.Common.{subst}
use Rattle.std.specs.Str.{IsUtf8}
use Rattle.pylex_listing.specs.Listing.{in_characters}
use Rattle.pylex_listing.proofs.Callers.{push, is_cut, longest_wins}
use Rattle.pylex.proofs.Listing.Blocks.{closes_blocks}
use Rattle.pylex.proofs.Listing.Covering.{is_covered}
use Rattle.pylex.proofs.Listing.Ends.{is_whole}
use Rattle.pylex.proofs.Listing.Exactness.{have_exact}
use Rattle.pylex.proofs.Listing.Lying.{entries_lie}
use Rattle.pylex.proofs.Listers.Moving.{keeps_first, shown_first}
use Rattle.pylex.proofs.Listing.Order.{is_ordered}
use Rattle.pylex.proofs.lister.Lister.new.Goals as goal

pub invariant_of-result : goal.invariant_of-result
invariant_of-result c =
    let p = c.start.result in
    rw (c.text.ensures.value, c.start.ensures.given, c.start.ensures.nested, c.start.ensures.tail)
    (keeps_first c.args.source.now p.now p.point p.levels.items (rw c.text.ensures.value at c.text.utf8)
    (rw c.text.ensures.value at c.text.ensures.within) c.start.ensures.levels c.start.ensures.now c.start.ensures.point)

pub returns-clause-stands : goal.returns-clause-stands
returns-clause-stands c =
    let p = c.start.result in
    rw (c.start.ensures.given, c.start.ensures.nested, c.start.ensures.tail) (shown_first c.args.source.now p.now p.point p.levels.items
    c.start.ensures.levels c.start.ensures.now c.start.ensures.point)

pub returns-clause-lawful : goal.returns-clause-lawful
returns-clause-lawful c =
    let s = in_characters c.args.source.now in
    record {
      longest = longest_wins;
      cut = is_cut s.text;
      ordered = is_ordered s;
      covered = is_covered s;
      whole = is_whole s;
      blocks = closes_blocks s;
      levels = push;
    }

pub returns-clause-lies : goal.returns-clause-lies
returns-clause-lies c = entries_lie c.args.source.now (subst IsUtf8 c.text.ensures.value c.text.utf8)

pub returns-clause-exact : goal.returns-clause-exact
returns-clause-exact c = have_exact c.args.source.now (subst IsUtf8 c.text.ensures.value c.text.utf8)
