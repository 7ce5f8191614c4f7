-- What the answer of a reader up to a height means: of expressions, and of a logical line.
use Rattle.std.specs.Prelude.{ℕ, ◌+◌, Bool, List, [], ◌∷◌, length, ◌≤◌, ◌<◌}
use Rattle.pygrammar.specs.Lengths.{slack, weight}
use Rattle.pygrammar.specs.declared.levels.Level.{Level}
use Rattle.pytree_node.specs.declared.profiles.Profile.{Profile}
use Rattle.pytree_node.specs.Trees.{Expr}
use Rattle.pytoken.specs.Terminals.{Terminal}
use Rattle.pytree_height.specs.Heights.{height}
use Rattle.pygrammar.specs.Grammar.{Derives}
use Rattle.pygrammar.specs.Lines.{Form}
use Rattle.pygrammar.specs.Forms.{FormAt}
use Rattle.pygrammar.specs.FormHeights.{form_height}
use Rattle.pygrammar.specs.Reader.{Answer, Found, NoForm, TooDeep}

-- at this level the list is no expression
abbrev pub Shapeless : Level → List Terminal → Type 0
Shapeless l ts = (e : Expr) → Derives l ts e → ⊥

-- It is none of a height of at most d; and where it is none at all, it has more than d terminals, which count more than d (at Slices d at
-- least).
abbrev pub High : ℕ → Level → List Terminal → Type 0
High d l ts = ((e : Expr) → Derives l ts e → d < height e) × (Shapeless l ts → (d < length ts) × (d < slack l + weight ts))

-- The whole list is the expression found, or it is none, or it is none of a height of at most d. The one free choice: for a list that
-- counts more than d and is no expression, TooDeep may stand for NoForm.
abbrev pub Meets : ℕ → Level → List Terminal → Answer Expr → Type 0
Meets d l ts (Found e []) = Derives l ts e × (height e ≤ d)
Meets d l ts (Found e (t ∷ r)) = Shapeless l ts
Meets d l ts NoForm = Shapeless l ts
Meets d l ts TooDeep = High d l ts

-- at its place, in a `match` or elsewhere, the list is no form of a line
abbrev pub Formless : Profile → Bool → List Terminal → Type 0
Formless profile inside ts = (f : Form) → FormAt profile inside ts f → ⊥

-- It is none of a height of at most d; and where it is none at all, it counts more than d.
abbrev pub HighLine : Profile → Bool → ℕ → List Terminal → Type 0
HighLine profile inside d ts = ((f : Form) → FormAt profile inside ts f → d < form_height f) × (Formless profile inside ts → d < weight ts)

-- The whole list is the form found, or it is none, or it is none of a height of at most d. No terminal is left over. The one free choice
-- is that of expressions.
abbrev pub LineMeets : Profile → Bool → ℕ → List Terminal → Answer Form → Type 0
LineMeets profile inside d ts (Found f []) = FormAt profile inside ts f × (form_height f ≤ d)
LineMeets profile inside d ts (Found f (t ∷ r)) = ⊥
LineMeets profile inside d ts NoForm = Formless profile inside ts
LineMeets profile inside d ts TooDeep = HighLine profile inside d ts
