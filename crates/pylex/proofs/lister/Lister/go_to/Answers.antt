use Rattle.std.proofs.Common.{◌≡◌, ◌+◌, ◌-◌, [], ◌∷◌, length, take, drop, refl, ap, sym, subst, ◌∙◌, arith}
use Rattle.std.specs.Str.{chars}
use Rattle.pylex.specs.Cursors.{CursorParts}
use Rattle.pylex.specs.Listers.{Listed, LeadsInto}
use Rattle.pylex.specs.declared.spots.Spot.{Spot}
use Rattle.pylex.specs.Inner.MachineSteps.{shown_from}
use Rattle.pylex.specs.Spots.{spot_cursor, at_spot}
use Rattle.pylex.proofs.Resumption.Returning.{point_boundary, keeps_led}
use Rattle.pylex.proofs.lister.Lister.go_to.Goals as goal

led : (spot : Spot) (l m : Listed) → l ≡ m → LeadsInto (spot_cursor spot m.shown.levels) m.source
    → LeadsInto (spot_cursor spot l.shown.levels) l.source
led spot l m e h = subst (λ (x : Listed). LeadsInto (spot_cursor spot x.shown.levels) x.source) (sym e) h

pub split_at-requires : goal.split_at-requires
split_at-requires c =
    let l : Listed = record { source = c.self.inside.source.now; shown = shown_from c.self.inside.machine } in
    point_boundary (spot_cursor c.args.spot l.shown.levels) l.source c.text.result.now c.args.spot.offset
    (led c.args.spot l c.args.self.now c.self.view_is c.requires) c.text.ensures.value c.text.utf8 refl

pub stand-requires : goal.stand-requires
stand-requires c = omega (arith, c.last_line.ensures.within, c.split_at.ensures.front_len, c.text.ensures.within)

pub invariant_of-self : goal.invariant_of-self
invariant_of-self c =
    let l : Listed = record { source = c.self.inside.source.now; shown = shown_from c.self.inside.machine } in
    let ls = c.self.inside.machine.levels.items in
    let point = c.stand.new.self.point in
    let offset : point.offset ≡ c.args.spot.offset = ap (λ (d : CursorParts). d.offset) (c.stand.ensures.point 0 0 []) in
    let given : c.args.spot.given - 0 ≡ c.args.spot.given = omega arith in
    let keeps =
    keeps_led (spot_cursor c.args.spot l.shown.levels) l.source point c.args.spot.given 0 (length ls) ls
    c.stand.new.self.now c.text.result.now
    c.split_at.result.0.now c.split_at.result.1.now (chars c.last_line.result.now)
    (led c.args.spot l c.args.self.now c.self.view_is c.requires) (λ k n ms. c.stand.ensures.point k n ms) refl refl refl refl
    c.text.ensures.value c.text.utf8 c.text.ensures.within
    (c.split_at.ensures.front ∙ ap (λ n. take n c.text.result.now) (sym offset))
    (c.split_at.ensures.back ∙ ap (λ n. drop n c.text.result.now) (sym offset))
    c.last_line.ensures.line c.stand.ensures.now
    in
    rw (c.stand.ensures.given, c.stand.ensures.levels, c.stand.ensures.nested, c.stand.ensures.tail) (rw given at keeps)

pub returns : goal.returns
returns c =
    let ls = c.self.inside.machine.levels.items in
    let none : (length ls - length ls) + 0 ≡ 0 = omega arith in
    rw (c.stand.ensures.given, c.stand.ensures.levels, c.stand.ensures.nested, c.stand.ensures.tail)
    (ap (λ (d : CursorParts). record { source = c.self.inside.source.now; shown = d })
    (c.stand.ensures.point c.args.spot.given ((length ls - length ls) + 0) ls
    ∙ ap (λ n. record (spot_cursor c.args.spot (0 ∷ ls)) { skip = n }) none)
    ∙ ap (λ (x : Listed). at_spot x.source c.args.spot x.shown.levels) c.self.view_is)
