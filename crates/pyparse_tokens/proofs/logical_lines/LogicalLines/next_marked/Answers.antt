use Rattle.std.proofs.Common.{◌≡◌, ◌+◌, ℕ, true, false, length, sym, ap, subst, ◌∙◌, refl, Bool, Some, None}
use Rattle.std.specs.Prelude.{Result, Ok, Err, IfOk, IfErr, if◌then◌else◌}
use Rattle.pylex_listing.specs.Listing.{Source, in_characters}
use Rattle.pytree_node.specs.declared.profiles.Extent.{Extent}
use Rattle.pytoken.specs.Tokens.{lines}
use Rattle.pytoken.specs.Refusals.{refusal}
use Rattle.pyparse_tokens.specs.declared.faults.ParseFault.{ParseFault}
use Rattle.pyparse_tokens.specs.Answers.{Tells}
use Rattle.pyparse_tokens.specs.LineReadings.{LineReading, outcome_of, HoldsLine, EndsAt}
use Rattle.pysource.specs.declared.places.Place.{Place}
use Rattle.pyparse_tokens.specs.Inner.LineReading.{reading, Ends, IsReading}
use Rattle.pyparse_tokens.specs.declared.logical_lines.LogicalLines.TheInside.{Inside}
use Rattle.pyparse_tokens.proofs.logical_lines.LogicalLines.next_marked.Goals as goal

no_line : (extent : Extent) (s : Source) (r : LineReading) (k : ℕ) (p : Place) (answer : Result Bool ParseFault) → Ends extent s k p answer
    → IfOk answer (λ more. more ≡ true → HoldsLine s k r)
no_line extent s r k p (Ok more) ends = λ is. absurd (cc)
no_line extent s r k p (Err fault) ends = tt

none_given : (extent : Extent) (s : Source) (k : ℕ) (p : Place) (answer : Result Bool ParseFault) → Ends extent s k p answer
    → IfOk answer (λ more. k ≡ (if more then k + 1 else k))
none_given extent s k p (Ok more) ends = rw ends.0 refl
none_given extent s k p (Err fault) ends = tt

all_given : (extent : Extent) (s : Source) (k : ℕ) (p : Place) (answer : Result Bool ParseFault) → Ends extent s k p answer
    → IfOk answer (λ more. more ≡ false → k ≡ length (lines s))
all_given extent s k p (Ok more) ends = λ _. ends.1
all_given extent s k p (Err fault) ends = tt

not_refused : (extent : Extent) (s : Source) (k : ℕ) (p : Place) (answer : Result Bool ParseFault) → Ends extent s k p answer
    → IfOk answer (λ more. more ≡ false → refusal extent s ≡ None)
not_refused extent s k p (Ok more) ends = λ _. ends.2
not_refused extent s k p (Err fault) ends = tt

marked : (extent : Extent) (s : Source) (k : ℕ) (p : Place) (answer : Result Bool ParseFault) → Ends extent s k p answer
    → IfOk answer (λ more. more ≡ false → EndsAt s p)
marked extent s k p (Ok more) ends = λ _. ends.3
marked extent s k p (Err fault) ends = tt

told : (extent : Extent) (s : Source) (k : ℕ) (p : Place) (answer : Result Bool ParseFault) → Ends extent s k p answer
    → IfErr answer (Tells (refusal extent s))
told extent s k p (Ok more) ends = tt
told extent s k p (Err fault) ends = ends

stays : (extent : Extent) (s : Source) (k : ℕ) (p : Place) (answer : Result Bool ParseFault) → Ends extent s k p answer
    → Some answer ≡ outcome_of answer
stays extent s k p (Ok more) ends = rw ends.0 refl
stays extent s k p (Err fault) ends = refl

ended : (l : Inside) (r : LineReading) (answer : Result Bool ParseFault) → reading l ≡ r → IsReading l → l.outcome ≡ Some answer
    → Ends r.extent (in_characters r.source) r.given r.marker answer
ended l r answer view reads is =
    subst (λ (q : LineReading). Ends q.extent (in_characters q.source) q.given q.marker answer) view (reads.ended answer is)

pub returns-in-Some-clause-line : goal.returns-in-Some-clause-line
returns-in-Some-clause-line c = no_line c.args.self.now.extent (in_characters c.args.self.now.source)
    c.args.self.now c.args.self.now.given
    c.args.self.now.marker c.in-Some.outcome (ended c.self.inside c.args.self.now c.in-Some.outcome c.self.view_is
    c.self.invariant c.in-Some.is)

pub returns-in-Some-clause-given : goal.returns-in-Some-clause-given
returns-in-Some-clause-given c = none_given c.args.self.now.extent (in_characters c.args.self.now.source) c.args.self.now.given
    c.args.self.now.marker c.in-Some.outcome (ended c.self.inside c.args.self.now c.in-Some.outcome c.self.view_is
    c.self.invariant c.in-Some.is)

pub returns-in-Some-clause-all : goal.returns-in-Some-clause-all
returns-in-Some-clause-all c = all_given c.args.self.now.extent (in_characters c.args.self.now.source) c.args.self.now.given
    c.args.self.now.marker c.in-Some.outcome (ended c.self.inside c.args.self.now c.in-Some.outcome c.self.view_is
    c.self.invariant c.in-Some.is)

pub returns-in-Some-clause-sound : goal.returns-in-Some-clause-sound
returns-in-Some-clause-sound c = not_refused c.args.self.now.extent (in_characters c.args.self.now.source) c.args.self.now.given
    c.args.self.now.marker c.in-Some.outcome (ended c.self.inside c.args.self.now c.in-Some.outcome c.self.view_is
    c.self.invariant c.in-Some.is)

pub returns-in-Some-clause-end : goal.returns-in-Some-clause-end
returns-in-Some-clause-end c = marked c.args.self.now.extent (in_characters c.args.self.now.source) c.args.self.now.given
    c.args.self.now.marker c.in-Some.outcome (ended c.self.inside c.args.self.now c.in-Some.outcome c.self.view_is
    c.self.invariant c.in-Some.is)

pub returns-in-Some-clause-refused : goal.returns-in-Some-clause-refused
returns-in-Some-clause-refused c = told c.args.self.now.extent (in_characters c.args.self.now.source) c.args.self.now.given
    c.args.self.now.marker c.in-Some.outcome (ended c.self.inside c.args.self.now c.in-Some.outcome c.self.view_is
    c.self.invariant c.in-Some.is)

pub returns-in-Some-clause-outcome : goal.returns-in-Some-clause-outcome
returns-in-Some-clause-outcome c =
    sym (ap (λ (r : LineReading). r.outcome) c.self.view_is) ∙ c.in-Some.is
    ∙ stays c.args.self.now.extent (in_characters c.args.self.now.source) c.args.self.now.given c.args.self.now.marker
    c.in-Some.outcome (ended c.self.inside c.args.self.now c.in-Some.outcome c.self.view_is c.self.invariant c.in-Some.is)

not_marked : (extent : Extent) (s : Source) (k : ℕ) (p : Place) (answer : Result Bool ParseFault) (P : Type 0) → Ends extent s k p answer
    → IfOk answer (λ more. more ≡ true → P)
not_marked extent s k p (Ok more) P ends = λ is. absurd (cc)
not_marked extent s k p (Err fault) P ends = tt

pub returns-in-Some-clause-marks : goal.returns-in-Some-clause-marks
returns-in-Some-clause-marks c = not_marked c.args.self.now.extent (in_characters c.args.self.now.source) c.args.self.now.given
    c.args.self.now.marker c.in-Some.outcome _ (ended c.self.inside c.args.self.now c.in-Some.outcome c.self.view_is
    c.self.invariant c.in-Some.is)
