-- The reading of blocks without the trees.
use Rattle.std.specs.Prelude.{ℕ, Bool, true, false, nat_lt, cond, List, [], ◌∷◌, length, Option, Some, None}
use Rattle.pygrammar.specs.Blocks.{ExpectedIndent, UnexpectedIndent, MisplacedClause, same_bool}
use Rattle.pygrammar.specs.Reading.{Answer, Fine, Faulty, then}
use Rattle.pyparse_block.specs.declared.outline.shapes.Clause.{Clause}
use Rattle.pyparse_block.specs.declared.outline.shapes.Clause.TheVariants as clause
use Rattle.pyparse_block.specs.declared.outline.shapes.Shape.{Shape}
use Rattle.pyparse_block.specs.declared.outline.shapes.Shape.TheVariants as shape
use Rattle.pyparse_block.specs.declared.outline.groups.GroupKind.{GroupKind}
use Rattle.pyparse_block.specs.declared.outline.groups.GroupKind.TheVariants.{Idle, Marked, Choice, Loop, Trial, Caught, Settled, Matching}
use Rattle.pyparse_block.specs.Outlines.{Levels, levels}

-- ---- One level.

-- whether what is open may end before another statement
abbrev pub is_whole : GroupKind → Bool
is_whole Marked = false
is_whole Trial = false
is_whole Matching = false
is_whole _ = true

-- what is open after another statement that begins here, if it may
abbrev pub ended : GroupKind → GroupKind → Option GroupKind
ended g next = cond (is_whole g) (Some next) None

-- what the block of a line begins with
abbrev pub first : Shape → GroupKind
first (shape.Opening clause.Match) = Matching
first _ = Idle

-- what the level below has open where a level ends, if it may: what was awaited there, and after the cases of a `match` nothing
abbrev pub above : GroupKind → GroupKind → Option GroupKind
above Matching awaited = Some Idle
above g awaited = ended g awaited

-- what is open after a clause and its block, if the clause may stand here
abbrev pub goes_on : Clause → GroupKind → Option GroupKind
goes_on clause.If g = ended g Choice
goes_on clause.Elif Choice = Some Choice
goes_on clause.Elif _ = None
goes_on clause.Else Choice = Some Idle
goes_on clause.Else Loop = Some Idle
goes_on clause.Else (Caught _) = Some Settled
goes_on clause.Else _ = None
goes_on clause.Loop g = ended g Loop
goes_on clause.With g = ended g Idle
goes_on clause.Try g = ended g Trial
goes_on (clause.Except star) Trial = Some (Caught star)
goes_on (clause.Except star) (Caught other) = cond (same_bool star other) (Some (Caught other)) None
goes_on (clause.Except _) _ = None
goes_on clause.Finally Trial = Some Idle
goes_on clause.Finally (Caught _) = Some Idle
goes_on clause.Finally Settled = Some Idle
goes_on clause.Finally _ = None
goes_on clause.Def Marked = Some Idle
goes_on clause.Def g = ended g Idle
goes_on clause.Match g = ended g Idle
goes_on clause.Case Matching = Some Matching
goes_on clause.Case _ = None

-- and after a line
abbrev pub next : Shape → GroupKind → Option GroupKind
next shape.Simple g = ended g Idle
next shape.Decorator Marked = Some Marked
next shape.Decorator g = ended g Marked
next (shape.Opening c) g = goes_on c g
next (shape.Inline c) g = goes_on c g

abbrev pub opens : Shape → Bool
opens (shape.Opening _) = true
opens _ = false

-- ---- All levels.

-- the levels above l come to their end
abbrev pub settle_in : ℕ → GroupKind → Bool → List GroupKind → Answer Levels
settle_in l g fresh [] = Fine (levels g fresh [])
settle_in l g fresh (w ∷ below) =
    cond (nat_lt l (length (w ∷ below)))
    (cond fresh (Faulty ExpectedIndent) (elim (above g w) [ None ↦ Faulty MisplacedClause | Some h ↦ settle_in l h false below ]))
    (Fine (levels g fresh (w ∷ below)))

abbrev pub settle : ℕ → Levels → Answer Levels
settle l s = settle_in l s.group s.fresh s.below

-- a line of the deepest level
abbrev pub place : Shape → Levels → Answer Levels
place x s = elim (next x s.group) [
  | None ↦ Faulty MisplacedClause
  | Some g ↦ Fine (cond (opens x) (levels (first x) true (g ∷ s.below)) (levels g false s.below))
]

abbrev pub placed : ℕ → Shape → Levels → Answer Levels
placed l x s = cond (nat_lt (length s.below) l) (Faulty UnexpectedIndent) (place x s)

abbrev pub step : ℕ → Shape → Levels → Answer Levels
step l x s = then (settle l s) (placed l x)

-- whether the last line waits for a block
abbrev pub awaits_block : Levels → Bool
awaits_block s = elim s.below [ [] ↦ false | _ ∷ _ ↦ s.fresh ]

-- whether what the levels have open may end
abbrev pub may_end : GroupKind → List GroupKind → Bool
may_end g [] = is_whole g
may_end g (w ∷ below) = elim (above g w) [ None ↦ false | Some h ↦ may_end h below ]

-- all levels come to their end
abbrev pub finish : Levels → Answer (Unit {0})
finish s = then (settle 0 s) (λ t. cond (is_whole t.group) (Fine tt) (Faulty MisplacedClause))
