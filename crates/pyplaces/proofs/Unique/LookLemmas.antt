-- What is known of the first terminals of parts.
--
-- Carries: lead_front, fronted, front_grip, trailers_end, strings_end, starts_of, starts_low, not_named, for all below.
use Rattle.std.proofs.Common.{◌≡◌, refl, ℕ, ◌≤◌, ◌<◌, arith, List, [], ◌∷◌, ◌++◌, Bool, true, false}
use Rattle.std.proofs.lemmas.Bool.{le-leb, leb-true}
use Rattle.std.specs.Prelude.{leb}
use Rattle.pylex_lexeme.specs.declared.kinds.Exact.TheVariants.{LPar, LSqb, Dot, DoubleStar}
use Rattle.pytoken.specs.declared.keywords.Keyword.TheVariants as Key
use Rattle.pytoken.specs.Terminals.{Terminal, Op, Word, Ident, Literal, FormattedBegin}
use Rattle.pygrammar.specs.declared.levels.Level.{Level}
use Rattle.pygrammar.specs.Entries.{Of}
use Rattle.pygrammar.specs.Precedence.{lead, first, starts}
use Rattle.pyplaces.specs.Stretches.{Stretch}
use Rattle.pyplaces.specs.Inner.Looks.{grip, grip_of, lead_of, is_named}
use Rattle.pyplaces.specs.Inner.ExpressionSteps.{Goes}
use Rattle.pyplaces.specs.Inner.AtomSteps.{trailers_step, strings_step}
use Rattle.pyplaces.specs.Inner.Questions.{Reading, Row, row_of}

pub lead_front : (ts us : List Terminal) (n : ℕ) → 0 < n → n ≤ lead_of ts → n ≤ lead_of (ts ++ us)
lead_front [] us n p h = absurd (omega (arith, p, h))
lead_front (t ∷ ts) us n p h = h

pub fronted : (ts us : List Terminal) (n : ℕ) → n < lead_of ts → lead_of (ts ++ us) ≡ n → ⊥
fronted [] us n h q = omega (arith, h)
fronted (t ∷ ts) us n h q = omega (arith, h, q)

-- what begins an expression is no `from` and no `**`
begins_none : (t : Terminal) → 0 < lead t → (grip t ≡ 4 → ⊥) × (grip t ≡ 21 → ⊥)
begins_none (Op DoubleStar) h = absurd (omega (arith, h))
begins_none (Op _) h = (λ q. omega (arith, q), λ q. omega (arith, q))
begins_none (Word Key.From) h = absurd (omega (arith, h))
begins_none (Word _) h = (λ q. omega (arith, q), λ q. omega (arith, q))
begins_none _ h = (λ q. omega (arith, q), λ q. omega (arith, q))

pub front_grip : (ts us : List Terminal) → 0 < lead_of ts → (grip_of (ts ++ us) ≡ 4 → ⊥) × (grip_of (ts ++ us) ≡ 21 → ⊥)
front_grip [] us h = absurd (omega (arith, h))
front_grip (t ∷ ts) us h = begins_none t h

pub trailers_end : (ps : List Stretch) (n at : ℕ) (r : List Terminal) (k : Goes) → grip_of r ≤ 22 → trailers_step ps n at r k ≡ k ps n r
trailers_end ps n at [] k h = refl
trailers_end ps n at (Op Dot ∷ r) k h = absurd (omega (arith, h))
trailers_end ps n at (Op LPar ∷ r) k h = absurd (omega (arith, h))
trailers_end ps n at (Op LSqb ∷ r) k h = absurd (omega (arith, h))
trailers_end ps n at (Op _ ∷ r) k h = refl
trailers_end ps n at (_ ∷ r) k h = refl

pub strings_end : (at : ℕ) (r : List Terminal) (k : Row → ℕ → List Terminal → Reading) → grip_of r ≤ 24
    → strings_step at r k ≡ k (row_of false [] (λ row. [])) 0 r
strings_end at [] k h = refl
strings_end at (Literal v ∷ r) k h = absurd (omega (arith, h))
strings_end at (FormattedBegin ∷ r) k h = absurd (omega (arith, h))
strings_end at (_ ∷ r) k h = refl

pub starts_of : (l : Level) (ts us : List Terminal) → 0 < first l → first l ≤ lead_of ts → starts (Of l) (ts ++ us) ≡ true
starts_of l [] us p h = absurd (omega (arith, h, p))
starts_of l (t ∷ ts) us p h = le-leb (first l) (lead t) h

pub starts_low : (l : Level) (r : List Terminal) → lead_of r < first l → starts (Of l) r ≡ false
starts_low l [] h = refl
starts_low l (t ∷ r) h = low (leb (first l) (lead t)) refl
  where
    low : (b : Bool) → leb (first l) (lead t) ≡ b → leb (first l) (lead t) ≡ false
    low false q = q
    low true q = absurd (omega (arith, h, leb-true (first l) (lead t) q))

pub not_named : (r : List Terminal) → lead_of r < 24 → is_named r ≡ false
not_named [] h = refl
not_named (Ident x ∷ r) h = absurd (omega (arith, h))
not_named (_ ∷ r) h = refl
