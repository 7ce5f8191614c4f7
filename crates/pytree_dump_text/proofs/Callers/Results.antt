-- What holds where the last call of a function did well.
--
-- Carries: show_plain_name, show_name, show_constant, push_name_and_context, and of `pytree_dump` the lists and calls.
use Rattle.std.proofs.Common.{◌≡◌, ℕ, List, if◌then◌else◌, Result, Ok, Err, OnOk, is_ok}

-- what holds where the last text was appended
pub where_pushed : {T E Q : Type 0} (old more new : List ℕ) (r : Result T E) → (new ≡ more → Q)
    → new ≡ (if is_ok r then more else old) → OnOk r Q
where_pushed old more new (Ok x) f h = f h
where_pushed old more new (Err e) f h = tt
