-- What an error says where it is passed on.
use Rattle.std.proofs.Common.{◌≡◌, Result, Ok, Err, subst, sym}
use Rattle.std.specs.Prelude.{IfErr, IsErrAnd}
use Rattle.pyfstring.specs.declared.parts.CutError.{CutError}
use Rattle.pyfstring.specs.declared.parts.CutError.TheVariants.{Malformed, Memory}
use Rattle.pyfstring.specs.Inner.Passing.{IfMalformed}

pub says : {P : Type 0} (e : CutError) → P → IfMalformed e P
says Malformed p = p
says Memory p = tt

pub told : {X : Type 0} {P : Type 0} (r : Result X CutError) → P → IfErr r (λ e. IfMalformed e P)
told (Ok x) p = tt
told (Err e) p = says e p

pub says_more : {P Q : Type 0} (e : CutError) → (P → Q) → IfMalformed e P → IfMalformed e Q
says_more Malformed f p = f p
says_more Memory f p = tt

pub passed_on : {X P Q : Type 0} (r : Result X CutError) (e : CutError) → IsErrAnd r (λ d. d ≡ e) → (P → Q) → IfMalformed e P
    → IfErr r (λ d. IfMalformed d Q)
passed_on (Ok x) e h f p = absurd h
passed_on {P = P} (Err d) e h f p = says_more d f (let I : CutError → Type 0 = λ x. IfMalformed x P in subst I (sym h) p)
