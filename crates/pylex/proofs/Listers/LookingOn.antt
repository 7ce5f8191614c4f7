-- A machine that looks on stands where it stood, and one that gives a line's layout after it.
--
-- Carries: Lister::next. On: Finding, Moving.
use Rattle.std.proofs.Common.{◌≡◌, ℕ, ◌+◌, ◌-◌, ◌<◌, List, length, take, refl, ap, ◌∙◌, sym, subst}
use Rattle.std.specs.Str.{chars}
use Rattle.pysource.specs.Parts.{Parts}
use Rattle.pylex.specs.declared.line_state.LineState.{LineState}
use Rattle.pylex_listing.specs.declared.entries.Step.{Step}
use Rattle.pylex_listing.specs.declared.entries.Step.TheVariants as steps
use Rattle.pylex.specs.declared.machine.Machine.{Machine}
use Rattle.pylex.specs.LineState.{StopAhead}
use Rattle.pylex.specs.Listers.{Listed, Keeps, NextStep, AwaitsIndent, shown_by}
use Rattle.pylex.specs.Inner.MachineSteps.{shown_from, left_by, Holds, IsSame, LooksOn}
use Rattle.pylex.specs.Inner.LineLayouts.{LaysOut, AwaitsLevel}
use Rattle.pylex.proofs.Listers.Finding.{stays_there}
use Rattle.pylex.proofs.Listers.Moving.{stop_in, stop_walk, awaits_indent}

pub keeps_look : (source : Parts) (p q : Machine) (from to : List ℕ) → Holds source p from → 0 < p.given → LooksOn p from q to
    → Holds source q to
keeps_look source p q from to keeps some x =
    let l : Listed = record { source = source; shown = shown_from p } in
    let ls = p.levels.items in
    subst (λ (m : Machine). Holds source m to) (sym x.rest) (record {
      utf8 = keeps.utf8;
      small = keeps.small;
      stood = keeps.stood;
      stands = x.stands;
      ascending = keeps.ascending;
      within = keeps.within;
      placed = stop_in l p.now from ls p.nested p.tail keeps refl some q.now (chars to) x.comes;
      came = stop_walk l p.now from ls p.nested p.tail keeps refl some q.now (chars to) x.comes;
      stop = λ more.
          let same = x.stays more in
          subst (λ (t : List ℕ). StopAhead q.now (chars t)) (sym same.1)
          (subst (λ (n : LineState). StopAhead n (chars from)) (sym same.0) (keeps.stop more));
    })

-- a lister of a machine
abbrev pub listed : Parts → Machine → Listed
listed source p = record { source = source; shown = shown_from p }

-- a step without text leaves what was left
left_same : (step : Step) (left : List ℕ) → left_by step left left ≡ left
left_same (steps.Entry e) left = refl
left_same steps.End left = refl
left_same (steps.Fault f) left = refl

pub laid_out : (source : Parts) (p r : Machine) (left : List ℕ) (step : Step) → Holds source p left → LaysOut p left step r
    → NextStep (listed source p) step (listed source r) × Holds source r left
laid_out source p r left step keeps x =
    let g = x.went.goes source left left keeps x.finds x.stands (λ stop. absurd (x.layout stop)) in
    (g.0, subst (Holds source r) (left_same step left) g.1)

-- where memory runs out an INDENT was due, and nothing was changed
pub level_awaited : (source : Parts) (p : Machine) (left : List ℕ) → Holds source p left → 0 < p.given → AwaitsLevel p left
    → AwaitsIndent (listed source p)
level_awaited source p left keeps some x =
    let ls = p.levels.items in
    awaits_indent (listed source p) p.now left ls p.nested p.tail keeps refl some x.tail p.now (chars left)
    (stays_there (take p.nested ls) p.now (chars left)) x.ahead

pub same_held : (source : Parts) (p q : Machine) (left : List ℕ) → IsSame p q → Holds source p left → Holds source q left
same_held source p q left same keeps =
    subst (λ (m : Machine). Holds source m left) (sym same.0)
    (subst (λ (ls : List ℕ). Keeps (record { source = source; shown = shown_by p.given p.point ls ((length ls - p.nested) + p.tail) })
    p.now left ls p.nested p.tail) (sym same.1) keeps)

pub same_listed : (source : Parts) (p q : Machine) → IsSame p q → listed source q ≡ listed source p
same_listed source p q same = ap (listed source) same.0
    ∙ ap (λ (ls : List ℕ). let l : Listed =
    record { source = source; shown = shown_by p.given p.point ls ((length ls - p.nested) + p.tail) } in l) same.1
