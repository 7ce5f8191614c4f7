use Rattle.std.proofs.Common.{◌≡◌, ℕ, ◌+◌, sym, ◌∙◌, subst, arith, Option, Some, None}
use Rattle.std.specs.Prelude.{IfSome, IfNone}
use Rattle.std.specs.Str.{chars}
use Rattle.std.proofs.lemmas.Result.{err_from_is_err_and}
use Rattle.pyfstring_tokens.specs.Standing.{StandsAt}
use Rattle.pyfstring_tokens.proofs.Passing.{refused, unclosed, ended, unopened, taken}
use Rattle.pyfstring_tokens.proofs.field_tokens.FieldTokens.next.Goals as goal

if_some : {X : Type 0} (o : Option X) (x : X) (P : X → Type 0) → o ≡ Some x → IfSome o P → P x
if_some {X} o x P e h = subst (λ (p : Option X). IfSome p P) e h

if_none : {X : Type 0} (o : Option X) (P : Type 0) → o ≡ None → IfNone o P → P
if_none {X} o P e h = subst (λ (p : Option X). IfNone p P) e h

pub returns-in_err-class-clause-refuses : goal.returns-in_err-class-clause-refuses
returns-in_err-class-clause-refuses c =
    let e = err_from_is_err_and c.from_residual.result c.from_residual.ensures.1 in
    rw (e.1, e.2) (λ text n i. refused text n c.args.self.now.depth c.args.self.now.rest.now c.in_err-class.field-0.0
    c.in_err-class.ensures.stops i)

pub returns-then-self-gt0-clause-refuses : goal.returns-then-self-gt0-clause-refuses
returns-then-self-gt0-clause-refuses c = λ text n i. unclosed text n c.args.self.now.depth c.args.self.now.rest.now c.if-self-gt0.true
    (if_none c.in_ok-class.field-0 _ c.in_default.is c.in_ok-class.ensures.ends) i

pub returns-in_default-clause-ends : goal.returns-in_default-clause-ends
returns-in_default-clause-ends c = λ text n i. ended text n c.args.self.now.depth c.args.self.now.rest.now (omega arith)
    (if_none c.in_ok-class.field-0 _ c.in_default.is c.in_ok-class.ensures.ends) i

pub returns-then-is_unmatched-clause-refuses : goal.returns-then-is_unmatched-clause-refuses
returns-then-is_unmatched-clause-refuses c = λ text n i.
    unopened text n c.args.self.now.depth c.args.self.now.rest.now c.in-Some.class c.in-Some.front.now c.in-Some.back.now
    (if_some c.in_ok-class.field-0 _ _ c.in-Some.is c.in_ok-class.ensures.ahead) (sym c.is_unmatched.ensures ∙ c.if-is_unmatched.true) i

pub returns-clause-gives : goal.returns-clause-gives
returns-clause-gives c = λ text n i.
    let t = taken text n c.args.self.now.depth c.args.self.now.rest.now c.in-Some.class c.in-Some.front.now c.in-Some.back.now
    (if_some c.in_ok-class.field-0 _ _ c.in-Some.is c.in_ok-class.ensures.ahead) (sym c.is_unmatched.ensures
    ∙ c.if-is_unmatched.false) i in
    (t.0, subst (λ (d : ℕ). StandsAt text (n + 1) (chars c.in-Some.back.now) d) (sym c.depth_after-self.ensures) t.1)
