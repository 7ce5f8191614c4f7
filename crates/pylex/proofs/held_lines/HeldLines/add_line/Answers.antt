use Rattle.std.proofs.Common.{◌≡◌, [], length, inl, refl, sym, ap, arith, string_bytes, length-append}
use Rattle.std.specs.Prelude.{Ok, Err}
use Rattle.pysource.specs.declared.line_reader.LineRead.TheVariants as met
use Rattle.std.proofs.lemmas.Str.{IsUtf8-nil}
use Rattle.std.proofs.lemmas.Result.{err_from_is_err_and}
use Rattle.pylex.proofs.LineByLine.HeldLinesLemmas.{adds_of, no_line, holding_other, same_text, left_longer, reads_on}
use Rattle.pylex.proofs.LineByLine.JoinedOn.{line_more, adds_other}
use Rattle.pylex.proofs.held_lines.HeldLines.add_line.Goals as goal

pub returns-in_err-line-clause-on : goal.returns-in_err-line-clause-on
returns-in_err-line-clause-on g c =
    let p = err_from_is_err_and c.from_residual.result c.from_residual.ensures.1 in
    let m = c.in_err-line.ensures.reads in
    let old = c.args.self.now in
    let text : string_bytes c.next_line.new.chunk ≡ string_bytes old.text = same_text _ _ _ m.chunk m.tells.0 in
    rw (p.1, p.2) (reads_on _ _ _ _ _ _ c.args.at (Err _) m c.in_err-line.ensures.within
    (record { spare = c.requires.chunk.spare; at = rw text c.requires.chunk.at })
    (record { text = text; base = refl; at = refl }))

pub returns-in-Text-clause-on : goal.returns-in-Text-clause-on
returns-in-Text-clause-on g c =
    let m = rw c.in-Text.is at c.in_ok-line.ensures.reads in
    let old = c.args.self.now in
    let longer = ap length m.chunk in
    let h = c.requires.at in
    let k = length-append (string_bytes old.text) m.line in
    rw c.in-Text.is (reads_on _ _ _ _ _ _ c.args.at (Ok met.Text) m c.in_ok-line.ensures.within
    (record { spare = c.requires.chunk.spare; at = omega arith })
    (record {
      gone = [];
      whole = sym m.chunk;
      base = omega arith;
      looked = inl refl;
      following = λ h. absurd (omega arith);
      left =
          left_longer c.args.at _ _ m.line c.requires.at m.chunk;
    }))

pub returns-in-Text-clause-longer : goal.returns-in-Text-clause-longer
returns-in-Text-clause-longer g c = let m = rw c.in-Text.is at c.in_ok-line.ensures.reads in (m.line, m.tells.0.utf8, m.chunk)

pub returns-in_default-clause-longer : goal.returns-in_default-clause-longer
returns-in_default-clause-longer g c =
    let m = c.in_ok-line.ensures.reads in
    let none = no_line c.in_ok-line.line m.line c.next_line.new.self c.in_default.not-Text
    (adds_of (Ok c.in_ok-line.line) m.line c.next_line.new.self m.tells) in
    (m.line, rw none IsUtf8-nil, m.chunk)

pub returns-in_default-clause-on : goal.returns-in_default-clause-on
returns-in_default-clause-on g c =
    let m = c.in_ok-line.ensures.reads in
    let old = c.args.self.now in
    let adds = adds_of (Ok c.in_ok-line.line) m.line c.next_line.new.self m.tells in
    let text : string_bytes c.next_line.new.chunk ≡ string_bytes old.text =
    same_text _ _ _ m.chunk (no_line c.in_ok-line.line m.line c.next_line.new.self c.in_default.not-Text adds) in
    reads_on _ _ _ _ _ _ c.args.at (Ok c.in_ok-line.line) m c.in_ok-line.ensures.within
    (record { spare = c.requires.chunk.spare; at = rw text c.requires.chunk.at })
    (holding_other _ _ c.args.at m.line c.in_ok-line.line c.in_default.not-Text (record { text = text; base = refl; at = refl }))

pub returns-in-Text-clause-line : goal.returns-in-Text-clause-line
returns-in-Text-clause-line g c = let m = rw c.in-Text.is at c.in_ok-line.ensures.reads in
    rw c.in-Text.is (line_more _ _ c.args.self.now _ c.args.at m refl)

pub returns-in_default-clause-line : goal.returns-in_default-clause-line
returns-in_default-clause-line g c = adds_other _ _ c.args.at c.in_ok-line.line c.in_default.not-Text
