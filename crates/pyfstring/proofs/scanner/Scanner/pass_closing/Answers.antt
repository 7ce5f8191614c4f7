use Rattle.std.proofs.Common.{◌≡◌, drop, sym, ap, ◌∙◌, false, eq-eqb}
use Rattle.std.specs.List.{prefix_len}
use Rattle.std.proofs.lemmas.List.{drop-drop}
use Rattle.std.proofs.lemmas.Bool.{not_from_true}
use Rattle.pyfstring.specs.Texts.{is_no_closing}
use Rattle.pyfstring.proofs.Stepping.{run_stops, run_ends, none_left}
use Rattle.pyfstring.proofs.scanner.Scanner.pass_closing.Goals as goal

pub returns-then-c-eq125 : goal.returns-then-c-eq125
returns-then-c-eq125 c =
    let here = c.loop-c.self in
    let closing : is_no_closing c.in-Some.c ≡ false = not_from_true _ (eq-eqb c.in-Some.c 125 c.if-c-eq125.true) in
    let stopped = run_stops is_no_closing here c.in-Some.c (sym c.peek.ensures ∙ c.in-Some.is) closing in
    c.advance.ensures ∙ ap (drop 1) (sym stopped ∙ c.loop-c.invariant)
    ∙ drop-drop 1 (prefix_len is_no_closing c.args.self.now) c.args.self.now

pub returns : goal.returns
returns c =
    let here = c.loop-c.self in
    let none = sym c.peek.ensures ∙ c.in_default.is in
    let stopped = run_ends is_no_closing here none in
    sym (none_left here none) ∙ ap (drop 1) (sym stopped ∙ c.loop-c.invariant)
    ∙ drop-drop 1 (prefix_len is_no_closing c.args.self.now) c.args.self.now
