-- A boundary of an f-string at a place.
--
-- Carries: is_boundary. On: Views, Boundaries.
use Rattle.std.proofs.Common.{◌≡◌, refl, sym, ap, ◌∙◌, ℕ, ◌<◌, List, length, Option, Some, None, Bool, true, false, is_some, MatchBool}
use Rattle.pytoken.specs.Terminals as tokens
use Rattle.pytoken.specs.Terminals.{Terminal}
use Rattle.pytoken.specs.declared.values.terminals.Terminal as given
use Rattle.pygrammar.specs.Reader.{on_some}
use Rattle.pyparse_nodes.specs.declared.boundaries.Boundary.{Boundary}
use Rattle.pyparse_nodes.specs.declared.boundaries.Boundary.TheVariants as boundary
use Rattle.pyparse_nodes.specs.Boundaries.{boundary_terminal, boundary_of}
use Rattle.pyparse_nodes.specs.Views.{Stands, seen, first_of, first_is}
use Rattle.pyparse_nodes.proofs.Callers.Places.{front}

hit : (m : Boundary) (t : Terminal) → true ≡ is_some (boundary_of m t) → t ≡ boundary_terminal m
hit boundary.FormattedBegin tokens.FormattedBegin h = refl
hit boundary.FormattedEnd tokens.FormattedEnd h = refl
hit boundary.SpecBegin tokens.SpecBegin h = refl
hit boundary.FieldEnd tokens.FieldEnd h = refl
hit boundary.FormattedBegin _ h = absurd (cc)
hit boundary.FormattedEnd _ h = absurd (cc)
hit boundary.SpecBegin _ h = absurd (cc)
hit boundary.FieldEnd _ h = absurd (cc)

miss : (o : Option ℕ) → false ≡ is_some o → None ≡ o
miss None h = refl
miss (Some n) h = absurd (cc)

pub boundary_stands : (ts : List given.Terminal) (at : ℕ) (m : Boundary) (t : Terminal) (b : Bool) → at < length ts → first_of (seen ts at) ≡ Some t
    → b ≡ is_some (boundary_of m t) → MatchBool b (Stands (boundary_terminal m) ts at) (None ≡ first_is (boundary_of m) (seen ts at))
boundary_stands ts at m t true w h q = record { within = w; is = front ts at (boundary_terminal m) (h ∙ ap (λ z. Some z) (hit m t q)) }
boundary_stands ts at m t false w h q = miss (boundary_of m t) q ∙ sym (ap (λ o. on_some o (boundary_of m) None) h)
