-- What holds of cuts.
use Rattle.std.specs.Prelude.{◌≡◌, ◌⊎◌, ℕ, List}
use Rattle.pyfstring.specs.declared.parts.CutError.{CutError}
use Rattle.pyfstring.specs.declared.parts.CutError.TheVariants.{Malformed, Memory}
use Rattle.pyfstring.specs.declared.parts.Manner.{Manner}
use Rattle.pyfstring.specs.Parts.{BodyPart}
use Rattle.pyfstring.specs.Pieces.{IsCut}
use Rattle.pyfstring.specs.Returns.{IsLined, without_returns, plain_parts}

-- a body has no cut
abbrev pub IsMalformed : Manner → List ℕ → Type 0
IsMalformed m body = (parts : List BodyPart) → IsCut m body parts → ⊥

-- an error says that a body is malformed, or that memory was wanting, as it may be at any point
abbrev pub Tells : Manner → List ℕ → CutError → Type 0
Tells m body Malformed = IsMalformed m body
Tells m body Memory = Unit {0}

-- A body has one cut at most, and is cut or malformed, never both. CRs that stand before LFs count for nothing: without them a body has the
-- same
-- cut, without them.
pub record CutsAreLawful : Type 0 where
  pub unique : (m : Manner) (body : List ℕ) (parts others : List BodyPart) → IsCut m body parts → IsCut m body others → parts ≡ others
  pub decided : (m : Manner) (body : List ℕ) → ((parts : List BodyPart) × IsCut m body parts) ⊎ IsMalformed m body
  pub plain : (m : Manner) (body : List ℕ) (parts : List BodyPart) → IsLined body → IsCut m body parts
      → IsCut m (without_returns body) (plain_parts parts)
  pub malformed : (m : Manner) (body : List ℕ) → IsLined body → IsMalformed m body → IsMalformed m (without_returns body)
