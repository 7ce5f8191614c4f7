-- Carries: well_formed, well_formed_at, well_formed_pattern_at. On: what the slots tell, the grammar tells.
use Rattle.std.proofs.Common.{◌≡◌, sym, ◌∙◌, Bool, true}
use Rattle.std.specs.Prelude.{Result, Ok, Err, IfOk, IsTrue}

-- what some tokens give is told
pub told_of_tokens : {E P : Type 0} (r : Result Bool E) (fits : Bool) → (P → fits ≡ true) → IfOk r (λ told. told ≡ fits)
    → IfOk r (λ told. P → IsTrue told)
told_of_tokens (Ok told) fits law h = λ p. h ∙ law p
told_of_tokens (Err e) fits law h = h

-- and what is told has tokens, if it is low
pub tokens_of_told : {E P Q : Type 0} (r : Result Bool E) (fits : Bool) → (Q → fits ≡ true → P) → IfOk r (λ told. told ≡ fits)
    → IfOk r (λ told. Q → IsTrue told → P)
tokens_of_told (Ok told) fits law h = λ q t. law q (sym h ∙ t)
tokens_of_told (Err e) fits law h = h
