use Rattle.std.proofs.Common.{ℕ, drop, sym, ap, ◌∙◌}
use Rattle.std.specs.Prelude.{◌==◌, not}
use Rattle.pyfstring.proofs.Scanning.{unit_escape, unit_pair, unit_plain, unit_none, escape_some}
use Rattle.pyfstring.proofs.scanner.Scanner.pass_unit.Goals as goal

pub returns-then-has_escape-clause-found : goal.returns-then-has_escape-clause-found
returns-then-has_escape-clause-found c =
    let cs = c.args.self.now in
    let n = unit_escape c.args.is_raw c.args.has_pairs cs (sym c.has_escape.ensures ∙ c.if-has_escape.true) in
    sym (ap (λ (k : ℕ). not (k == 0)) n ∙ escape_some cs)

pub returns-then-has_escape-clause-rest : goal.returns-then-has_escape-clause-rest
returns-then-has_escape-clause-rest c =
    let cs = c.args.self.now in
    let n = unit_escape c.args.is_raw c.args.has_pairs cs (sym c.has_escape.ensures ∙ c.if-has_escape.true) in
    c.pass_escape.ensures ∙ sym (ap (λ (k : ℕ). drop k cs) n)

pub returns-then-has_pair-clause-found : goal.returns-then-has_pair-clause-found
returns-then-has_pair-clause-found c =
    let cs = c.args.self.now in
    let n = unit_pair c.args.is_raw c.args.has_pairs cs (sym c.has_escape.ensures ∙ c.if-has_escape.false) (sym c.has_pair.ensures
    ∙ c.if-has_pair.true) in
    sym (ap (λ (k : ℕ). not (k == 0)) n)

pub returns-then-has_pair-clause-rest : goal.returns-then-has_pair-clause-rest
returns-then-has_pair-clause-rest c =
    let cs = c.args.self.now in
    let n = unit_pair c.args.is_raw c.args.has_pairs cs (sym c.has_escape.ensures ∙ c.if-has_escape.false) (sym c.has_pair.ensures
    ∙ c.if-has_pair.true) in
    c.advance_by.ensures ∙ sym (ap (λ (k : ℕ). drop k cs) n)

pub returns-then-has_plain-clause-found : goal.returns-then-has_plain-clause-found
returns-then-has_plain-clause-found c =
    let cs = c.args.self.now in
    let n = unit_plain c.args.is_raw c.args.has_pairs cs (sym c.has_escape.ensures ∙ c.if-has_escape.false) (sym c.has_pair.ensures
    ∙ c.if-has_pair.false) (sym c.has_plain.ensures ∙ c.if-has_plain.true) in
    sym (ap (λ (k : ℕ). not (k == 0)) n)

pub returns-then-has_plain-clause-rest : goal.returns-then-has_plain-clause-rest
returns-then-has_plain-clause-rest c =
    let cs = c.args.self.now in
    let n = unit_plain c.args.is_raw c.args.has_pairs cs (sym c.has_escape.ensures ∙ c.if-has_escape.false) (sym c.has_pair.ensures
    ∙ c.if-has_pair.false) (sym c.has_plain.ensures ∙ c.if-has_plain.true) in
    c.advance.ensures ∙ sym (ap (λ (k : ℕ). drop k cs) n)

pub returns-clause-found : goal.returns-clause-found
returns-clause-found c =
    let cs = c.args.self.now in
    let n = unit_none c.args.is_raw c.args.has_pairs cs (sym c.has_escape.ensures ∙ c.if-has_escape.false) (sym c.has_pair.ensures
    ∙ c.if-has_pair.false) (sym c.has_plain.ensures ∙ c.if-has_plain.false) in
    sym (ap (λ (k : ℕ). not (k == 0)) n)

pub returns-clause-rest : goal.returns-clause-rest
returns-clause-rest c =
    let cs = c.args.self.now in
    let n = unit_none c.args.is_raw c.args.has_pairs cs (sym c.has_escape.ensures ∙ c.if-has_escape.false) (sym c.has_pair.ensures
    ∙ c.if-has_pair.false) (sym c.has_plain.ensures ∙ c.if-has_plain.false) in
    sym (ap (λ (k : ℕ). drop k cs) n)
