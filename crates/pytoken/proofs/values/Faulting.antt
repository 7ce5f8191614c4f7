-- Carries: push_nested_expression, push_expression, push_nested_elements, push_elements, push_nested, push_formatted, push_token,
-- push_terminals.
-- On: what is told of a malformed f-string, and is passed on.
use Rattle.std.proofs.Common.{◌≡◌, Bool, true, Result, Ok, Err, refl, subst, sym, Option, Some, is_some}
use Rattle.std.specs.Prelude.{IfErr, IsErrAnd, OnOk}
use Rattle.pytoken.specs.declared.faults.TokenError.{TokenError}
use Rattle.pytoken.specs.declared.faults.TokenError.TheVariants as errors
use Rattle.pytoken.specs.declared.values.terminals.TerminalFault.{TerminalFault}
use Rattle.pytoken.specs.declared.values.terminals.TerminalFault.TheVariants.{Token, Memory}
use Rattle.pytoken.specs.TerminalOf.{Tells}
use Rattle.pytoken.specs.Inner.Pushing.{TellsMalformed, fault_around}

tells_more : {a b : Bool} (e : TerminalFault) → (a ≡ true → b ≡ true) → TellsMalformed a e → TellsMalformed b e
tells_more (Token e) f told = (told.0, f told.1)
tells_more Memory f told = tt

pub passed_on : {X : Type 0} {a b : Bool} (r : Result X TerminalFault) (e : TerminalFault) → IsErrAnd r (λ d. d ≡ e) →
    (a ≡ true → b ≡ true) → TellsMalformed a e → IfErr r (λ d. TellsMalformed b d)
passed_on (Ok x) e h f told = absurd h
passed_on {a = a} (Err d) e h f told = tells_more d f (let P : TerminalFault → Type 0 = λ x. TellsMalformed a x in subst P (sym h) told)

-- the fault of a token in a field makes the f-string around it malformed
pub around : (fault : Option TokenError) (e : TerminalFault) → Tells fault e → TellsMalformed (is_some fault) (fault_around e)
around fault (Token e) is = (refl, rw is refl)
around fault Memory is = tt

-- what tells that an f-string is malformed tells its fault
as_fault : (b : Bool) (fault : Option TokenError) (e : TerminalFault) → (b ≡ true → fault ≡ Some errors.FString)
    → TellsMalformed b e → Tells fault e
as_fault b fault (Token e) f told = let is = told.0 in rw is (f told.1)
as_fault b fault Memory f told = tt

-- at an early return

pub told_on : {X : Type 0} (fault : Option TokenError) (r : Result X TerminalFault) (e : TerminalFault) → IsErrAnd r (λ d. d ≡ e) →
    Tells fault e → IfErr r (λ d. Tells fault d)
told_on fault (Ok x) e h told = absurd h
told_on fault (Err d) e h told = subst (Tells fault) (sym h) told

pub told_around : {X : Type 0} (fault : Option TokenError) (b : Bool) (r : Result X TerminalFault) (e : TerminalFault) →
    IsErrAnd r (λ d. d ≡ e) → (b ≡ true → fault ≡ Some errors.FString) → TellsMalformed b e → IfErr r (λ d. Tells fault d)
told_around fault b r e h f told = told_on fault r e h (as_fault b fault e f told)

-- what holds anyway holds where a push succeeds
pub on_ok : {X E P : Type 0} (r : Result X E) → P → OnOk r P
on_ok (Ok x) p = p
on_ok (Err e) p = tt
