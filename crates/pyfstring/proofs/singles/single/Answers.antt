use Rattle.std.proofs.Common.{◌≡◌, ◌++◌, ℕ, List, true, sym, ap, ◌∙◌, subst, append-nil, append_assoc}
use Rattle.std.specs.Str.{chars}
use Rattle.std.specs.String.{string_bytes}
use Rattle.std.proofs.lemmas.Str.{chars-nil, chars-append, IsUtf8-string_bytes}
use Rattle.pyfstring.specs.Singles.{single}
use Rattle.pyfstring.specs.Cutting.{EndsWith, before}
use Rattle.pyfstring.specs.Inner.Passing.{after_brace}
use Rattle.pyfstring.proofs.Scanning.{text_shorter}
use Rattle.pyfstring.proofs.SingleSteps.{IsUnit, unit_single, no_unit}
use Rattle.pyfstring.proofs.singles.single.Goals as goal

pub until-requires : goal.until-requires
until-requires c =
    let cs = c.loop-left.left in
    let u : IsUnit c.args.is_raw cs = unit_single c.args.is_raw cs (sym c.pass_unit.ensures.found ∙ c.if-not-pass_unit.false) in
    let unit = c.pass_brace.ensures ∙ ap after_brace c.again-unit.ensures in
    let P : List ℕ → List ℕ → Type 0 = λ x y. EndsWith x y in
    subst (λ (x : List ℕ). P x c.pass_unit.new.self) (sym unit)
    (subst (λ (y : List ℕ). P (after_brace cs) y) (sym c.pass_unit.ensures.rest) u.ends)

pub loop-left-init : goal.loop-left-init
loop-left-init c =
    ap (single c.args.is_raw) (sym c.new-left.ensures)
    ∙ ap (λ (x : List ℕ). x ++ single c.args.is_raw c.new-left.result) (sym (ap chars c.in_ok-out.ensures.bytes ∙ chars-nil))

pub loop-left-smaller : goal.loop-left-smaller
loop-left-smaller c = rw c.pass_unit.ensures.rest (text_shorter c.args.is_raw true c.loop-left.left (sym c.pass_unit.ensures.found
    ∙ c.if-not-pass_unit.false))

pub loop-left-preserved : goal.loop-left-preserved
loop-left-preserved c =
    let raw = c.args.is_raw in
    let cs = c.loop-left.left in
    let out = string_bytes c.loop-left.out in
    let u : IsUnit raw cs = unit_single raw cs (sym c.pass_unit.ensures.found ∙ c.if-not-pass_unit.false) in
    let unit = c.pass_brace.ensures ∙ ap after_brace c.again-unit.ensures in
    let rest = c.pass_unit.new.self in
    let text : chars c.until.result.now ≡ before (after_brace cs) rest = c.until.ensures ∙ ap (λ (x : List ℕ). before x rest) unit in
    let same : single raw cs ≡ before (after_brace cs) rest ++ single raw rest =
    subst (λ (y : List ℕ). single raw cs ≡ before (after_brace cs) y ++ single raw y) (sym c.pass_unit.ensures.rest) u.same in
    c.loop-left.invariant
    ∙ ap (λ (x : List ℕ). chars out ++ x) same
    ∙ sym (append_assoc (chars out) (before (after_brace cs) rest) (single raw rest))
    ∙ ap (λ (x : List ℕ). (chars out ++ x) ++ single raw rest) (sym text)
    ∙ ap (λ (x : List ℕ). x ++ single raw rest) (sym (chars-append out c.until.result.now (IsUtf8-string_bytes c.loop-left.out)))
    ∙ ap (λ (x : List ℕ). chars x ++ single raw rest) (sym c.in_ok-push_str.ensures.bytes)

pub returns-then-not-pass_unit : goal.returns-then-not-pass_unit
returns-then-not-pass_unit c =
    let raw = c.args.is_raw in
    let none = no_unit raw c.loop-left.left (sym c.pass_unit.ensures.found ∙ c.if-not-pass_unit.true) in
    sym (c.loop-left.invariant ∙ ap (λ (x : List ℕ). chars (string_bytes c.loop-left.out) ++ x) none
    ∙ append-nil (chars (string_bytes c.loop-left.out)))
