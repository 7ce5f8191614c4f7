use Rattle.std.proofs.Common.{◌≡◌, List, ℕ, sym, ◌∙◌, ap, ◌++◌, ◌-◌, length, arith}
use Rattle.std.specs.Str.{chars}
use Rattle.pyfstring.specs.Cutting.{EndsWith, before}
use Rattle.pyfstring.proofs.ScannerLemmas.{is_before}
use Rattle.pyfstring.proofs.scanner.Scanner.until.Goals as goal

pub overflow_sub-self-inside : goal.overflow_sub-self-inside
overflow_sub-self-inside c =
    let ends : EndsWith (chars c.self.inside.rest.now) (chars c.end.inside.rest.now) =
    (c.requires.0, c.self.view_is ∙ c.requires.1 ∙ ap (λ (x : List ℕ). c.requires.0 ++ x) (sym c.end.view_is)) in
    (is_before c.self.inside.rest.now c.end.inside.rest.now c.self.invariant c.end.invariant ends).shorter

pub range-requires-clause-end_boundary : goal.range-requires-clause-end_boundary
range-requires-clause-end_boundary c =
    let ends : EndsWith (chars c.self.inside.rest.now) (chars c.end.inside.rest.now) =
    (c.requires.0, c.self.view_is ∙ c.requires.1 ∙ ap (λ (x : List ℕ). c.requires.0 ++ x) (sym c.end.view_is)) in
    (is_before c.self.inside.rest.now c.end.inside.rest.now c.self.invariant c.end.invariant ends).boundary

pub returns : goal.returns
returns c =
    let ends : EndsWith (chars c.self.inside.rest.now) (chars c.end.inside.rest.now) =
    (c.requires.0, c.self.view_is ∙ c.requires.1 ∙ ap (λ (x : List ℕ). c.requires.0 ++ x) (sym c.end.view_is)) in
    let same = is_before c.self.inside.rest.now c.end.inside.rest.now c.self.invariant c.end.invariant ends in
    let front : chars c.range.result.now ≡ before (chars c.self.inside.rest.now) (chars c.end.inside.rest.now) =
    let z : length c.self.inside.rest.now - length c.end.inside.rest.now - 0 ≡ length c.self.inside.rest.now - length
    c.end.inside.rest.now = omega arith in rw (c.range.ensures.value, z) same.front in
    front ∙ ap (λ (x : List ℕ). before x (chars c.end.inside.rest.now)) c.self.view_is ∙ ap (before c.args.self.now) c.end.view_is
