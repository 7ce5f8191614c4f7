use Rattle.std.proofs.Common.{◌≡◌, length, refl, ap, subst, string_bytes, arith}
use Rattle.std.specs.Prelude.{Ok, Err}
use Rattle.std.specs.Str.{IsCharBoundary}
use Rattle.std.proofs.lemmas.Str.{IsCharBoundary-at_seam}
use Rattle.pysource.specs.declared.line_reader.LineRead.TheVariants as met
use Rattle.pysource.specs.Taking.{fails}
use Rattle.pysource.proofs.Callers.Taken.{was_reading}
use Rattle.pylex.proofs.LineByLine.Adding.{adds_none, adds_line, adds_no_line}
use Rattle.pylex.proofs.LineByLine.HeldLinesLemmas.{adds_of, no_line, line_some}
use Rattle.pylex.specs.Held.{LinesAfter}
use Rattle.pylex.proofs.LineByLine.JoinedOn.{after_line, joins_no_line, joins_ended}
use Rattle.pylex.proofs.held_lines.add_lines.Goals as goal

pub loop-literal-init : goal.loop-literal-init
loop-literal-init g c = record {
  adds = adds_none _ c.args.lines.now _ c.requires.within;
  reading = c.requires.reading;
  joins =
      λ at start l. l;
  from = c.requires.from;
}

pub returns-in_default-line-clause-adds : goal.returns-in_default-line-clause-adds
returns-in_default-line-clause-adds g c =
    let m = c.in-Ok.ensures.reads in
    adds_no_line _ _ _ c.args.lines.now c.loop-literal.lines c.next_line.new.self _ _ _ c.loop-literal.invariant.adds (Ok c.in-Ok.line) m
    (no_line c.in-Ok.line m.line c.next_line.new.self c.in_default-line.not-Text (adds_of (Ok c.in-Ok.line) m.line c.next_line.new.self
    m.tells)) c.in-Ok.ensures.within

pub loop-literal-smaller : goal.loop-literal-smaller
loop-literal-smaller g c =
    let m = rw c.in-Text.is at c.in-Ok.ensures.reads in
    let some = line_some m.line m.tells.0.one in
    let count = m.reads.count in
    let sizes = m.sizes in
    let within = c.in-Ok.ensures.within in
    omega arith

pub loop-literal-preserved : goal.loop-literal-preserved
loop-literal-preserved g c =
    let m = rw c.in-Text.is at c.in-Ok.ensures.reads in
    let size : length (string_bytes c.loop-literal.text) ≡ c.len-end.result = omega (arith, c.len-end.ensures) in
    record {
      adds = adds_line _ _ _ c.args.lines.now c.loop-literal.lines c.next_line.new.self _ _ _ c.loop-literal.invariant.adds
          m c.in-Ok.ensures.within;
      reading = λ is.
          let old = was_reading (rw is at m.reads) in
          let told = m.reads.told in
          let before = c.loop-literal.invariant.reading old in
          let a = ap fails old in
          let b = ap fails is in
          omega arith;
      joins = λ at start l. subst (λ n. LinesAfter c.args.literal at n start c.next_line.new.self (string_bytes c.next_line.new.chunk))
          size
          (after_line _ _ c.args.literal at c.loop-literal.from start c.loop-literal.lines c.next_line.new.self _ _
          (c.loop-literal.invariant.joins at start l) (rw (← c.deref.ensures, ← c.range_from.ensures.value)
          (c.loop-literal-test.ensures.longer refl)) m c.in-Ok.ensures.within);
      from = subst (IsCharBoundary (string_bytes c.next_line.new.chunk)) size (IsCharBoundary-at_seam _ (string_bytes c.loop-literal.text)
          m.line m.chunk m.tells.0.utf8);
    }

pub returns-in_default-clause-adds : goal.returns-in_default-clause-adds
returns-in_default-clause-adds g c =
    let m = c.in_default.ensures.reads in
    adds_no_line _ _ _ c.args.lines.now c.loop-literal.lines c.next_line.new.self _ _ _ c.loop-literal.invariant.adds
    (Err c.in_default.field-0) m m.tells.0 c.in_default.ensures.within

pub returns-clause-joins : goal.returns-clause-joins
returns-clause-joins g c = λ at start l. joins_ended c.args.literal at c.loop-literal.from start c.loop-literal.lines _
    (c.loop-literal.invariant.joins at start l)

pub returns-in_default-clause-joins : goal.returns-in_default-clause-joins
returns-in_default-clause-joins g c = λ at start l.
    let m = c.in_default.ensures.reads in
    joins_no_line _ _ c.args.literal at c.loop-literal.from start c.loop-literal.lines c.next_line.new.self _ _
    (c.loop-literal.invariant.joins at start l) (rw (← c.deref.ensures, ← c.range_from.ensures.value)
    (c.loop-literal-test.ensures.longer refl)) (Err c.in_default.field-0) m m.tells.0 (λ is. cc)

pub returns-in_default-line-clause-joins : goal.returns-in_default-line-clause-joins
returns-in_default-line-clause-joins g c = λ at start l.
    let m = c.in-Ok.ensures.reads in
    joins_no_line _ _ c.args.literal at c.loop-literal.from start c.loop-literal.lines c.next_line.new.self _ _
    (c.loop-literal.invariant.joins at start l) (rw (← c.deref.ensures, ← c.range_from.ensures.value)
    (c.loop-literal-test.ensures.longer refl)) (Ok c.in-Ok.line) m
    (no_line c.in-Ok.line m.line c.next_line.new.self c.in_default-line.not-Text (adds_of (Ok c.in-Ok.line) m.line c.next_line.new.self
    m.tells)) (λ is. c.in_default-line.not-Text (let e : c.in-Ok.line ≡ met.Text = cc in e))
