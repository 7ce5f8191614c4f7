-- Carries: pass_expression, pass_spec_pieces, pass_pieces. On: what is passed one after another.
use Rattle.std.proofs.Common.{◌≡◌, ℕ, ◌+◌, ◌<◌, ◌≤◌, List, length, drop, map, get_or, sym, ap, ◌∙◌}
use Rattle.std.proofs.Common.{Result, Ok, Err}
use Rattle.std.specs.Prelude.{OnOk}
use Rattle.pytoken.proofs.Callers.Bodies.{dropped, none_left}
use Rattle.pyparse_marks.specs.TokenSpans.{Walk, past_each}

-- Past the items so far, what is still to come leads to the end.
abbrev pub Leads : {A B : Type 0} → (A → Walk → Walk) → (B → A) → Walk → Walk → List B → ℕ → Type 0
Leads step view start now xs i = past_each step (map view (drop i xs)) now ≡ past_each step (map view xs) start

pub leads_one : {A B : Type 0} (step : A → Walk → Walk) (view : B → A) (start now next : Walk) (xs : List B) (i : ℕ) (x : B)
    → i < length xs → x ≡ get_or xs i x → Leads step view start now xs i → next ≡ step (view x) now
    → Leads step view start next xs (i + 1)
leads_one step view start now next xs i x lt read so_far goes =
    ap (past_each step (map view (drop (i + 1) xs))) goes
    ∙ sym (ap (λ ys. past_each step (map view ys) now) (dropped xs i x lt read))
    ∙ so_far

pub leads_none : {A B : Type 0} (step : A → Walk → Walk) (view : B → A) (start now : Walk) (xs : List B) (i : ℕ) → length xs ≤ i
    → Leads step view start now xs i → now ≡ past_each step (map view xs) start
leads_none step view start now xs i end so_far =
    sym (ap (λ ys. past_each step (map view ys) now) (none_left xs i end)) ∙ so_far

-- the last step of several, which may fail
pub then_goes : {X E : Type 0} (r : Result X E) (step : Walk → Walk) (new old other : Walk) → OnOk r (new ≡ step old) → old ≡ other
    → OnOk r (new ≡ step other)
then_goes (Ok x) step new old other goes same = goes ∙ ap step same
then_goes (Err e) step new old other goes same = tt
