use Rattle.std.proofs.Common.{◌≡◌, [], take, refl, ap, sym, ◌∙◌, arith}
use Rattle.std.specs.Str.{chars}
use Rattle.pylex.specs.Listers.{Listed}
use Rattle.pylex_listing.specs.Machine.{State}
use Rattle.pylex.specs.Inner.MachineSteps.{shown_from}
use Rattle.pylex.proofs.Listers.Moving.{leads_moves, goes_entry}
use Rattle.pylex.proofs.Listers.Ranges.{entry_range, measuring_anew}
use Rattle.pylex.proofs.machine.Machine.step_on.Goals as goal

pub returns-clause-some : goal.returns-clause-some
returns-clause-some c =
    let p = c.args.self.now in
    let ls = p.levels.items in
    let r = c.in_ok-entry.ensures in
    let q = c.entry_on.new.now in
    let anew = c.begin_anew.ensures in
    let none : p.tail ≡ 0 = omega arith in
    let new = c.truncate.new.self.items in
    record {
      now = q;
      reaches = r;
      tail = none;
      went = λ fault. record {
        goes = λ source from to keeps found stands alike.
            let l : Listed = record { source = source; shown = shown_from p } in
            let g = goes_entry l p.now from ls p.nested p.tail keeps refl c.requires.some none c.in_ok-entry.entry q c.begin_anew.new.self
            to new c.stand.new.self found stands anew.begun anew.room c.stand.ensures c.truncate.ensures.items in
            (leads_moves l _ _ g.leads, g.keeps);
        measuring = λ cs ds found m. measuring_anew q c.begin_anew.new.self anew.begun;
        ranges = λ source from to before rest keeps found e b w low m.
            let x = entry_range (take p.nested ls) p.now (chars from) c.in_ok-entry.entry q (chars to) found in
            let same = ap (λ (t : State). t.now.offset) (anew.begun []) in
            (omega (arith, low, x.0), x.1 ∙ sym same);
      };
    }
