-- The terminal at a place.
--
-- Carries: terminal_at. On: Views.
use Rattle.std.proofs.Common.{◌≡◌, ℕ, zero, suc, ◌≤◌, ◌<◌, List, [], ◌∷◌, length, get_or, refl, arith, Some, None}
use Rattle.pytoken.specs.declared.values.terminals.Terminal as given
use Rattle.pyparse_nodes.specs.Views.{seen, first_of}
use Rattle.pytoken.specs.TerminalOf.{terminal}

pub here : (ts : List given.Terminal) (at : ℕ) (d : given.Terminal) → at < length ts
    → first_of (seen ts at) ≡ Some (terminal (get_or ts at d))
here [] at d h = absurd (omega (arith, h))
here (t ∷ ts) zero d h = refl
here (t ∷ ts) (suc at) d h = here ts at d (omega (arith, h))

pub past : (ts : List given.Terminal) (at : ℕ) → length ts ≤ at → first_of (seen ts at) ≡ None
past [] zero h = refl
past [] (suc at) h = refl
past (t ∷ ts) zero h = absurd (omega (arith, h))
past (t ∷ ts) (suc at) h = past ts at (omega (arith, h))
