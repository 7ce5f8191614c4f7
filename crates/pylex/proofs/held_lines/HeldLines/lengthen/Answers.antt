use Rattle.std.proofs.Common.{◌≡◌, length, refl, subst, string_bytes, arith}
use Rattle.std.specs.Str.{IsCharBoundary}
use Rattle.pylex.proofs.LineByLine.Adding.{boundary_longer, reads_more}
use Rattle.pylex.specs.Held.{LinesAfter}
use Rattle.pylex.proofs.LineByLine.JoinedOn.{following_first, holds_joined, holds_none}
use Rattle.pylex.proofs.held_lines.HeldLines.lengthen.Goals as goal

pub add_lines-requires-clause-from : goal.add_lines-requires-clause-from
add_lines-requires-clause-from g c =
    let size : length (string_bytes c.args.self.now.text) ≡ c.len-from.result = omega (arith, c.len-from.ensures) in
    subst (IsCharBoundary (string_bytes c.add_line.new.self.text)) size (boundary_longer _ _ c.in_ok-line.ensures.longer)

pub returns-in-Some-clause-on : goal.returns-in-Some-clause-on
returns-in-Some-clause-on g c =
    let r = rw c.in-Text.is at c.in_ok-line.ensures.on in
    rw c.in-Text.is (reads_more _ _ _ c.args.self.now c.add_line.new.self _ c.args.at r c.add_lines.ensures.adds refl refl refl)

pub returns-in-Some-clause-holds : goal.returns-in-Some-clause-holds
returns-in-Some-clause-holds g c =
    let r = rw c.in-Text.is at c.in_ok-line.ensures.line in
    let old = c.args.self.now in
    let size : length (string_bytes old.text) ≡ c.len-from.result = omega (arith, c.len-from.ensures) in
    rw c.in-Text.is (λ s.
    let open_by = rw (c.range_from.ensures.value, c.deref.ensures) at c.in-Some.ensures.some in
    holds_joined old c.add_line.new.self c.args.at r s c.requires.at c.in-Some.literal _ _ c.add_lines.ensures.adds.added
    c.add_lines.ensures.adds.text
    (λ start a. c.add_lines.ensures.joins c.args.at start
    (subst (λ n. LinesAfter c.in-Some.literal c.args.at n start c.add_line.new.self.lines (string_bytes c.add_line.new.self.text)) size
    (following_first old c.add_line.new.self c.args.at r s c.requires.at c.in-Some.literal start a open_by))))

pub returns-in_default-literal-clause-holds : goal.returns-in_default-literal-clause-holds
returns-in_default-literal-clause-holds g c =
    let none = rw (c.range_from.ensures.value, c.deref.ensures) at c.in_default-literal.ensures.none in
    rw c.in-Text.is (holds_none c.args.self.now c.add_line.new.self c.args.at c.requires.at none)
