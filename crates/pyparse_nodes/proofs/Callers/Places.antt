-- The first terminal of a place.
--
-- Carries: what pyparse_expr cites. On: Views.
use Rattle.std.proofs.Common.{◌≡◌, ap, ◌∙◌, ℕ, ◌+◌, List, [], ◌∷◌, map, drop, drop-drop, Some}
use Rattle.pytoken.specs.Terminals.{Terminal}
use Rattle.pytoken.specs.declared.values.terminals.Terminal as given
use Rattle.pytoken.specs.TerminalOf.{terminal}
use Rattle.pyparse_nodes.specs.Views.{seen, first_of}

uncons : (xs : List Terminal) (t : Terminal) → first_of xs ≡ Some t → xs ≡ t ∷ drop 1 xs
uncons [] t h = absurd (cc)
uncons (x ∷ xs) t h = cc

pub front : (ts : List given.Terminal) (at : ℕ) (t : Terminal) → first_of (seen ts at) ≡ Some t → seen ts at ≡ t ∷ seen ts (at + 1)
front ts at t h = uncons (seen ts at) t h ∙ ap (λ r. t ∷ r) (drop-drop 1 at (map terminal ts))
