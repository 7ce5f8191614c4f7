-- What the calls of a scanner do.
use Rattle.std.specs.Prelude.{◌≡◌, ℕ, Bool, true, false, List, [], ◌∷◌, drop, None, if◌then◌else◌}
use Rattle.pyfstring.specs.declared.expressions.Bracket.{Bracket}
use Rattle.pyfstring.specs.declared.parts.CutError.{CutError}
use Rattle.pyfstring.specs.declared.parts.CutError.TheVariants.{Malformed, Memory}
use Rattle.pyfstring.specs.Texts.{begins, begins_with, is_brace}
use Rattle.pyfstring.specs.Expressions.{Inside, expression, scan}

-- what is left once this character is taken, if it is the first
abbrev pub eaten : ℕ → List ℕ → List ℕ
eaten c cs = if begins_with c cs then drop 1 cs else cs

-- what is left after a brace, if one is first
abbrev pub after_brace : List ℕ → List ℕ
after_brace cs = if begins is_brace cs then drop 1 cs else cs

-- nothing is left
abbrev pub is_nothing : List ℕ → Bool
is_nothing [] = true
is_nothing (c ∷ cs) = false

-- holds where the error isn't about memory
abbrev pub IfMalformed : CutError → Type 0 → Type 0
IfMalformed Malformed P = P
IfMalformed Memory P = Unit {0}

-- a scan that begins inside a literal, or before it, goes on in the expression after the literal, whatever brackets are open
pub record GoesOn (i : Inside) (old new : List ℕ) : Type 0 where
  pub same : (bs : List Bracket) → scan i bs 0 old ≡ scan expression bs 0 new

-- it fails
pub record Stops (i : Inside) (old : List ℕ) : Type 0 where
  pub none : (bs : List Bracket) → scan i bs 0 old ≡ None
