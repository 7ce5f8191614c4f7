use Rattle.std.proofs.Common.{◌≡◌, ◌∙◌, [], ◌++◌, inr, refl, sym, ap, arith, string_bytes}
use Rattle.std.specs.Prelude.{Ok, Err}
use Rattle.pysource.specs.declared.line_reader.LineRead.TheVariants as met
use Rattle.std.proofs.lemmas.Result.{err_from_is_err_and}
use Rattle.pylex.proofs.LineByLine.HeldLinesLemmas.{adds_of, no_line, holding_other, same_text, reads_on, drop_all}
use Rattle.pylex.proofs.LineByLine.JoinedOn.{holds_line, holds_other}
use Rattle.pylex.proofs.held_lines.HeldLines.replace.Goals as goal

pub returns-in_err-line-clause-on : goal.returns-in_err-line-clause-on
returns-in_err-line-clause-on g c =
    let p = err_from_is_err_and c.from_residual.result c.from_residual.ensures.1 in
    let m = c.in_err-line.ensures.reads in
    let spare : string_bytes c.next_line.new.chunk ≡ [] = same_text _ _ _ m.chunk m.tells.0 ∙ c.requires.chunk.spare in
    rw (p.1, p.2) (reads_on _ _ _ _ _ _ _ (Err _) m c.in_err-line.ensures.within
    (record { spare = spare; at = c.requires.chunk.at })
    (record { text = refl; base = refl; at = refl }))

pub returns-in-Text-clause-on : goal.returns-in-Text-clause-on
returns-in-Text-clause-on g c =
    let m = rw c.in-Text.is at c.in_ok-line.ensures.reads in
    let old = c.args.self.now in
    let line : string_bytes c.next_line.new.chunk ≡ m.line = m.chunk ∙ ap (λ t. t ++ m.line) c.requires.chunk.spare in
    let text : string_bytes c.swap.new.x ≡ m.line = ap string_bytes c.swap.ensures.x_after ∙ line in
    rw c.in-Text.is (reads_on _ _ _ _ _ _ _ (Ok met.Text) m c.in_ok-line.ensures.within
    (record { spare = c.clear.ensures.bytes; at = omega arith })
    (record {
      gone = string_bytes old.text;
      whole = ap (λ t. string_bytes old.text ++ t) (sym text);
      base = omega (arith, c.len.ensures);
      looked = inr refl;
      following = λ _. drop_all (string_bytes old.text);
      left = text
          ∙ ap (λ t. t ++ m.line) (sym (drop_all (string_bytes old.text)));
    }))

pub returns-in_default-clause-on : goal.returns-in_default-clause-on
returns-in_default-clause-on g c =
    let m = c.in_ok-line.ensures.reads in
    let adds = adds_of (Ok c.in_ok-line.line) m.line c.next_line.new.self m.tells in
    let spare : string_bytes c.next_line.new.chunk ≡ [] =
    same_text _ _ _ m.chunk (no_line c.in_ok-line.line m.line c.next_line.new.self c.in_default.not-Text adds)
    ∙ c.requires.chunk.spare in
    reads_on _ _ _ _ _ _ _ (Ok c.in_ok-line.line) m c.in_ok-line.ensures.within
    (record { spare = spare; at = c.requires.chunk.at })
    (holding_other _ _ _ m.line c.in_ok-line.line c.in_default.not-Text (record { text = refl; base = refl; at = refl }))

pub returns-in-Text-clause-holds : goal.returns-in-Text-clause-holds
returns-in-Text-clause-holds g c =
    let m = rw c.in-Text.is at c.in_ok-line.ensures.reads in
    let line : string_bytes c.next_line.new.chunk ≡ m.line = m.chunk ∙ ap (λ t. t ++ m.line) c.requires.chunk.spare in
    let text : string_bytes c.swap.new.x ≡ m.line = ap string_bytes c.swap.ensures.x_after ∙ line in
    rw c.in-Text.is (λ s. holds_line m text)

pub returns-in_default-clause-holds : goal.returns-in_default-clause-holds
returns-in_default-clause-holds g c =
    holds_other c.args.self.now (record c.args.self.now { lines = c.next_line.new.self; spare = c.next_line.new.chunk }) _
    c.in_ok-line.line c.in_default.not-Text
