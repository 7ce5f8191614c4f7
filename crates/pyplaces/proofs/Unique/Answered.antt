-- That a question is answered in front of what may follow.
--
-- Carries: Answers, counted, shaped, ATargetAt, Good, no_lone_target and what stops each question, for all below. On: Leading, Levels.
use Rattle.std.proofs.Common.{◌≡◌, ap, ℕ, ◌≤◌, List, ◌∷◌, ◌++◌, length, Option, Some, None, true, false}
use Rattle.pylex_lexeme.specs.declared.kinds.Exact.{Exact}
use Rattle.pylex_lexeme.specs.declared.kinds.Exact.TheVariants.{Comma}
use Rattle.pytree_node.specs.Trees.{Expr}
use Rattle.pytoken.specs.Terminals.{Terminal, Op, FormattedEnd, FieldEnd}
use Rattle.pygrammar.specs.declared.levels.Level.{Level}
use Rattle.pygrammar.specs.declared.levels.Level.TheVariants.{Value, Stars, StarItem, Named, Primary, Atom, Elem, Slices, Part, Slice}
use Rattle.pygrammar.specs.declared.levels.Level.TheVariants.{Subject}
use Rattle.pygrammar.specs.Entries.{Item, Of, Pair, Argument, Parameter}
use Rattle.pygrammar.specs.Precedence.{starts, starts_comp}
use Rattle.pygrammar.specs.Targets.{stored}
use Rattle.pyplaces.specs.Stretches.{Stretch}
use Rattle.pyplaces.specs.Inner.Looks.{grip, grip_of, lead_of}
use Rattle.pyplaces.specs.Inner.Questions.{Question, An, ATarget, LoneTarget, Answer, Reading, Ask}
use Rattle.pyplaces.specs.Inner.Steps.{here}
use Rattle.pyplaces.proofs.Unique.Leading.{Comes, from, to}
use Rattle.pyplaces.proofs.Unique.Levels.{Stops, Reads}

abbrev pub Answers : (q : Question) → List Terminal → (ℕ → Answer q) → (List Terminal → Type 0) → Type 0
Answers q ts f stops = (at : ℕ) (rest : List Terminal) (k : Answer q → ℕ → List Terminal → Reading) → stops rest
    → Comes (Ask q at (ts ++ rest) k) (k (f at) (length ts) rest)

pub counted : {A : Type 0} (k : A → ℕ → List Terminal → Reading) {a : A} {n m : ℕ} (rest : List Terminal) → n ≡ m
    → Comes (k a n rest) (k a m rest)
counted k {a} rest e = to here (ap (λ z. k a z rest) e)

pub shaped : (q : Question) (at : ℕ) {i j : List Terminal} (k : Answer q → ℕ → List Terminal → Reading) {c : Reading} → i ≡ j
    → Comes (Ask q at j k) c → Comes (Ask q at i k) c
shaped q at k e p = from (ap (λ z. Ask q at z k) e) p

-- ---- What may follow the answer of a question.

abbrev pub PerhapsStops : Level → List Terminal → Type 0
PerhapsStops l r = Stops l r × (starts (Of l) r ≡ false)

abbrev pub SuffixStops : Option Exact → List Terminal → Type 0
SuffixStops None r = Unit {0}
SuffixStops (Some x) r = (grip_of r ≡ grip (Op x) → ⊥) × (grip_of r ≤ 8)

abbrev pub PieceStops : Item → List Terminal → Type 0
PieceStops (Of l) r = Stops l r
PieceStops Pair r = grip_of r ≤ 7
PieceStops Argument r = (grip_of r ≤ 7) × (grip_of r ≡ 1 → ⊥)
PieceStops (Parameter false) r = (grip_of r ≡ 1 → ⊥) × (grip_of r ≤ 8) × (lead_of r ≤ 5)
PieceStops (Parameter true) r = (grip_of r ≡ 1 → ⊥) × (grip_of r ≤ 8) × (lead_of r ≤ 5) × (grip_of r ≡ 5 → ⊥)

abbrev pub ListEnds : Item → List Terminal → Type 0
ListEnds i r = (starts i r ≡ false) × (grip_of r ≡ 3 → ⊥) × PieceStops i r

-- a comma may follow an item
abbrev pub Separable : Item → Type 0
Separable i = (r : List Terminal) → PieceStops i (Op Comma ∷ r)

abbrev pub EndsParts : List Terminal → Type 0
EndsParts (FormattedEnd ∷ r) = Unit {0}
EndsParts (FieldEnd ∷ r) = Unit {0}
EndsParts _ = ⊥

abbrev pub EndsField : List Terminal → Type 0
EndsField (FieldEnd ∷ r) = Unit {0}
EndsField _ = ⊥

abbrev pub ClauseStops : List Terminal → Type 0
ClauseStops r = (grip_of r ≤ 8) × (starts_comp r ≡ false)

-- ---- Targets.

abbrev pub TargetStops : List Terminal → Type 0
TargetStops r = (grip_of r ≤ 22) × (grip_of r ≡ 3 → ⊥) × (lead_of r ≤ 6)

-- in front of `in` an expression of target shape is read as a Primary
abbrev pub ATargetAt : Level → List Terminal → (ℕ → List Stretch) → Type 0
ATargetAt Stars ts f = Answers ATarget ts f TargetStops
ATargetAt StarItem ts f = Answers LoneTarget ts f (λ r. grip_of r ≤ 22)
ATargetAt Value ts f = Unit {0}
ATargetAt Slices ts f = Unit {0}
ATargetAt Part ts f = Unit {0}
ATargetAt Slice ts f = Unit {0}
ATargetAt Subject ts f = Unit {0}
ATargetAt Elem ts f = Unit {0}
ATargetAt Named ts f = Unit {0}
ATargetAt Atom ts f = Unit {0}
ATargetAt l ts f = Answers (An Primary) ts f (λ r. grip_of r ≤ 22)

-- what is shown of a derivation
abbrev pub Good : Level → List Terminal → Expr → (ℕ → List Stretch) → Type 0
Good l ts e f = Reads l ts f × ((s : Expr) → stored e ≡ Some s → ATargetAt l ts f)

-- what is no target has nothing to show there
pub no_lone_target : (l : Level) (ts : List Terminal) (e : Expr) (f : ℕ → List Stretch) → stored e ≡ None → (s : Expr) → stored e ≡ Some s
    → ATargetAt l ts f
no_lone_target l ts e f h s q = absurd (cc (h, q))
