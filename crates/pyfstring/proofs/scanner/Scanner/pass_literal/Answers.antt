use Rattle.std.proofs.Common.{ℕ, List, sym, ◌∙◌, ap}
use Rattle.std.proofs.lemmas.Result.{on_ok_weaker, on_err_weaker}
use Rattle.pyfstring.specs.Expressions.{scan, shortstring, longstring}
use Rattle.pyfstring.proofs.Stepping.{literal_long, literal_short}
use Rattle.pyfstring.proofs.scanner.Scanner.pass_literal.Goals as goal

pub returns-then-has_three-clause-ok : goal.returns-then-has_three-clause-ok
returns-then-has_three-clause-ok c =
    let cs = c.args.self.now in
    let start = literal_long cs c.in-Some.quote (sym c.peek.ensures ∙ c.in-Some.is) c.requires (sym c.has_three.ensures
    ∙ c.if-has_three.true) in
    on_ok_weaker c.pass_long.result (λ g. record {
      same = λ bs. start bs ∙ ap (λ (x : List ℕ). scan (longstring c.in-Some.quote) bs 0 x)
          (sym c.advance_by.ensures) ∙ g.same bs;
    }) c.pass_long.ensures.ok

pub returns-then-has_three-clause-malformed : goal.returns-then-has_three-clause-malformed
returns-then-has_three-clause-malformed c =
    let cs = c.args.self.now in
    let start = literal_long cs c.in-Some.quote (sym c.peek.ensures ∙ c.in-Some.is) c.requires (sym c.has_three.ensures
    ∙ c.if-has_three.true) in
    on_err_weaker c.pass_long.result (λ g. record {
      none = λ bs. start bs ∙ ap (λ (x : List ℕ). scan (longstring c.in-Some.quote) bs 0 x)
          (sym c.advance_by.ensures) ∙ g.none bs;
    }) c.pass_long.ensures.malformed

pub returns-clause-ok : goal.returns-clause-ok
returns-clause-ok c =
    let cs = c.args.self.now in
    let start = literal_short cs c.in-Some.quote (sym c.peek.ensures ∙ c.in-Some.is) c.requires (sym c.has_three.ensures
    ∙ c.if-has_three.false) in
    on_ok_weaker c.pass_short.result (λ g. record {
      same = λ bs. start bs ∙ ap (λ (x : List ℕ). scan (shortstring c.in-Some.quote) bs 0 x)
          (sym c.advance.ensures) ∙ g.same bs;
    }) c.pass_short.ensures.ok

pub returns-clause-malformed : goal.returns-clause-malformed
returns-clause-malformed c =
    let cs = c.args.self.now in
    let start = literal_short cs c.in-Some.quote (sym c.peek.ensures ∙ c.in-Some.is) c.requires (sym c.has_three.ensures
    ∙ c.if-has_three.false) in
    on_err_weaker c.pass_short.result (λ g. record {
      none = λ bs. start bs ∙ ap (λ (x : List ℕ). scan (shortstring c.in-Some.quote) bs 0 x)
          (sym c.advance.ensures) ∙ g.none bs;
    }) c.pass_short.ensures.malformed
