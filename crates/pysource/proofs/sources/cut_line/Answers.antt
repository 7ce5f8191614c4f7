use Rattle.std.proofs.Common.{sym, ◌∙◌, ap, ℕ, List}
use Rattle.pysource.specs.Sources.{nth_line}
use Rattle.pysource.proofs.FaultyLines.CutLemmas.{first_unless_found, first_if_found, nothing_left}
use Rattle.pysource.proofs.sources.cut_line.Goals as goal

pub returns-in-None-clause-first : goal.returns-in-None-clause-first
returns-in-None-clause-first c = sym (first_unless_found c.args.bytes.now _ c.memchr.ensures c.in-None.is).0

pub returns-in-None-clause-second : goal.returns-in-None-clause-second
returns-in-None-clause-second c = nothing_left c.args.bytes.now
    ∙ sym (first_unless_found c.args.bytes.now _ c.memchr.ensures c.in-None.is).1

pub returns-in-Some-clause-first : goal.returns-in-Some-clause-first
returns-in-Some-clause-first c = c.split_at.ensures.front
    ∙ sym (first_if_found c.args.bytes.now _ c.in-Some.at c.memchr.ensures c.in-Some.is).0

pub returns-in-Some-clause-second : goal.returns-in-Some-clause-second
returns-in-Some-clause-second c =
    ap (λ (x : List ℕ). nth_line x 0) c.split_at.ensures.back
    ∙ sym (first_if_found c.args.bytes.now _ c.in-Some.at c.memchr.ensures c.in-Some.is).1
