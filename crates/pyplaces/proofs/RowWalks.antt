-- The walk to a row's end, terminal by terminal.
--
-- Carries: closed, inside, row_end. On: RowEnds.
use Rattle.std.proofs.Common.{◌≡◌, refl, sym, ap, ◌∙◌, ℕ, zero, suc, ◌+◌, ◌-◌, ◌≤◌, ◌<◌, arith, List, [], ◌∷◌, length, map, drop}
use Rattle.std.proofs.Common.{Some, None, get_or}
use Rattle.pytoken.specs.Terminals as tokens
use Rattle.pytoken.specs.TerminalOf.{terminal}
use Rattle.pytoken.specs.declared.values.terminals.Terminal.{Terminal}
use Rattle.pygrammar.specs.Reader.{on_some}
use Rattle.pyplaces.specs.RowEnds.{closed, inside, depth_following, row_length}

pub closed_none : (d : ℕ) → d ≡ 0 → None ≡ closed d
closed_none zero h = refl
closed_none (suc d) h = absurd (omega (arith, h))

pub closed_some : (d : ℕ) → 0 < d → Some (d - 1) ≡ closed d
closed_some zero h = absurd (omega (arith, h))
closed_some (suc d) h = let e : suc d - 1 ≡ d = omega arith in ap (λ z. Some z) e

pub inside_none : (d : ℕ) → d ≡ 0 → None ≡ inside d
inside_none zero h = refl
inside_none (suc d) h = absurd (omega (arith, h))

pub inside_some : (d : ℕ) → 0 < d → Some d ≡ inside d
inside_some zero h = absurd (omega (arith, h))
inside_some (suc d) h = refl

-- within one more at most
some_is : (a b : ℕ) → Some a ≡ Some b → a ≡ b
some_is a b h = cc

closed_few : (d e : ℕ) → Some e ≡ closed d → e ≤ d + 1
closed_few zero e h = absurd (cc)
closed_few (suc d) e h = omega (arith, some_is e d h)

inside_few : (d e : ℕ) → Some e ≡ inside d → e ≤ d + 1
inside_few zero e h = absurd (cc)
inside_few (suc d) e h = omega (arith, some_is e (suc d) h)

pub walk_few : (d e : ℕ) (t : tokens.Terminal) → Some e ≡ depth_following d t → e ≤ d + 1
walk_few d e tokens.FormattedBegin h = omega (arith, some_is e (suc d) h)
walk_few d e (tokens.Literal v) h = omega (arith, some_is e d h)
walk_few d e tokens.FormattedEnd h = closed_few d e h
walk_few d e _ h = inside_few d e h

-- past all terminals
pub walk_past : (ts : List Terminal) (n d : ℕ) → length ts ≤ n → row_length d (drop n (map terminal ts)) ≡ 0
walk_past [] zero d h = refl
walk_past [] (suc n) d h = refl
walk_past (t ∷ ts) zero d h = absurd (omega (arith, h))
walk_past (t ∷ ts) (suc n) d h = walk_past ts n d (omega (arith, h))

-- at one
walk_here : (ts : List Terminal) (n d : ℕ) (z : Terminal) → n < length ts
    → row_length d (drop n (map terminal ts)) ≡ on_some (depth_following d (terminal (get_or ts n z)))
    (λ e. suc (row_length e (drop (n + 1) (map terminal ts)))) 0
walk_here [] n d z h = absurd (omega (arith, h))
walk_here (t ∷ ts) zero d z h = refl
walk_here (t ∷ ts) (suc n) d z h =
    let e : suc (n + 1) ≡ suc n + 1 = omega arith in
    walk_here ts n d z (omega (arith, h))
    ∙ ap (λ k. on_some (depth_following d (terminal (get_or ts n z))) (λ e. suc (row_length e (drop k (terminal t ∷ map terminal ts)))) 0) e

pub walk_stops : (ts : List Terminal) (n d : ℕ) (z : Terminal) → n < length ts → None ≡ depth_following d (terminal (get_or ts n z))
    → row_length d (drop n (map terminal ts)) ≡ 0
walk_stops ts n d z h q = walk_here ts n d z h
    ∙ ap (λ o. on_some o (λ e. suc (row_length e (drop (n + 1) (map terminal ts)))) 0) (sym q)

pub walk_goes : (ts : List Terminal) (n d e : ℕ) (z : Terminal) → n < length ts → Some e ≡ depth_following d (terminal (get_or ts n z))
    → row_length d (drop n (map terminal ts)) ≡ suc (row_length e (drop (n + 1) (map terminal ts)))
walk_goes ts n d e z h q = walk_here ts n d z h
    ∙ ap (λ o. on_some o (λ e. suc (row_length e (drop (n + 1) (map terminal ts)))) 0) (sym q)
