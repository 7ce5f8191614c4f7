-- Atoms of one terminal at a place.
--
-- Carries: stands_alone. On: Callers.Places, Alone.
use Rattle.std.proofs.Common.{◌≡◌, refl, sym, ap, ◌∙◌, ℕ, ◌+◌, List, [], ◌∷◌, Some, None, Bool, true, false, ◌&&◌}
use Rattle.pytoken.specs.Terminals.{Terminal}
use Rattle.pytoken.specs.declared.values.terminals.Terminal as given
use Rattle.pyparse_nodes.specs.Alone.{alone, atom_with, ends}
use Rattle.pyparse_nodes.specs.Views.{seen, first_of}
use Rattle.pyparse_nodes.proofs.Callers.Places.{front}

pub alone_here : (ts : List given.Terminal) (at : ℕ) (t : Terminal) → first_of (seen ts at) ≡ Some t
    → alone (seen ts at) ≡ atom_with t && ends (seen ts (at + 1))
alone_here ts at t h = ap alone (front ts at t h)

pub alone_with : (ts : List given.Terminal) (at : ℕ) (t : Terminal) (b : Bool) → first_of (seen ts at) ≡ Some t → true ≡ atom_with t
    → b ≡ ends (seen ts (at + 1)) → b ≡ alone (seen ts at)
alone_with ts at t b h a e = e ∙ ap (λ x. x && ends (seen ts (at + 1))) a ∙ sym (alone_here ts at t h)

pub alone_past : (ts : List given.Terminal) (at : ℕ) → first_of (seen ts at) ≡ None → alone (seen ts at) ≡ false
alone_past ts at h = go (seen ts at) h
  where
    go : (r : List Terminal) → first_of r ≡ None → alone r ≡ false
    go [] h = refl
    go (t ∷ r) h = absurd (cc)
