use Rattle.std.proofs.Common.{◌≡◌, ◌+◌, ◌-◌, ◌∙◌, ℕ, List, drop, length, sym, ap, arith}
use Rattle.std.proofs.lemmas.List.{length-drop, take_all}
use Rattle.pysource.specs.Sources.{nth_line}
use Rattle.pyast_fault.proofs.RowLemmas.{last_line, lines_after, no_line}
use Rattle.pyast_fault.proofs.rows.after_line.Goals as goal

pub returns-in-Some : goal.returns-in-Some
returns-in-Some c = λ n.
    let rest : List ℕ = drop (c.in-Some.at + 1) c.args.bytes.now in
    let size = length-drop (c.in-Some.at + 1) c.args.bytes.now in
    ap (λ (x : List ℕ). nth_line x n) (take_all (length c.args.bytes.now - (c.in-Some.at + 1)) rest (omega (arith, size)))
    ∙ sym ((lines_after c.args.bytes.now _ c.in-Some.at c.memchr.ensures c.in-Some.is).1 n)

pub returns-in-None : goal.returns-in-None
returns-in-None c = λ n. no_line n ∙ sym ((last_line c.args.bytes.now _ c.memchr.ensures c.in-None.is).1 n)
