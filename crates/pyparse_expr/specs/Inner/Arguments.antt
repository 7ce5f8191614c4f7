-- The arguments of a call, as the program reads them.
use Rattle.std.specs.Prelude.{◌≡◌, ℕ, ◌+◌, ◌≤◌, ◌||◌, List, [], ◌∷◌, ◌++◌, Bool, true, false, cond, Option, Some, None, length, map}
use Rattle.std.specs.Str.{chars}
use Rattle.unicode_normalization.specs.Forms.{nfkc}
use Rattle.pylex_lexeme.specs.declared.kinds.Exact.TheVariants.{Comma, RPar, Star, DoubleStar, Equal}
use Rattle.pytree_node.specs.declared.operators.Context.TheVariants.{Load}
use Rattle.pytree_node.specs.Trees
use Rattle.pytree_node.specs.Trees.{Expr, Keyword, exprs, keywords}
use Rattle.pytree_node.specs.TreeOf.{tree_of, keyword_of}
use Rattle.pytoken.specs.Terminals as tokens
use Rattle.pytoken.specs.declared.values.terminals.Terminal.{Terminal}
use Rattle.pygrammar.specs.declared.levels.Level.{Level}
use Rattle.pygrammar.specs.declared.levels.Level.TheVariants as level
use Rattle.pygrammar.specs.Entries.{Entry, Argument, Single, Spread, Doubled, Keyed}
use Rattle.pygrammar.specs.Looks.{is_op}
use Rattle.pygrammar.specs.Reader.{Answer, Found, NoForm, Reads, and_then, on_first, made, listing_of, read_argument}
use Rattle.pyparse_nodes.specs.declared.actual.Actual.{Actual}
use Rattle.pyparse_nodes.specs.declared.actual.ArgumentForm.{ArgumentForm}
use Rattle.pyparse_nodes.specs.declared.actual.ArgumentForm.TheVariants as kind
use Rattle.pyparse_reads.specs.declared.depth.Depth.{Depth}
use Rattle.pyparse_expr.specs.Inner.Readings.{inner_reads}
use Rattle.pyparse_nodes.specs.Views.{Stands, IsNamed, seen}

-- Whether a `NAME =` or a `**` stood, whether a `**` did, and whether one stood where it may not; then the parts of the node.
pub data State : Type 0 where
  state : Bool → Bool → Bool → List Expr → List Keyword → State

abbrev pub start : State
start = state false false false [] []

-- one more argument
abbrev pub step : State → Entry → State
step (state k d w xs ks) (Single e) = state k d (w || k) (xs ++ (e ∷ [])) ks
step (state k d w xs ks) (Spread e) = state k d (w || d) (xs ++ (Trees.Starred e Load ∷ [])) ks
step (state k d w xs ks) (Keyed x e) = state true d w xs (ks ++ (record { arg = Some x; value = e } ∷ []))
step (state k d w xs ks) (Doubled e) = state true true w xs (ks ++ (record { arg = None; value = e } ∷ []))
step (state k d w xs ks) _ = state k d true xs ks

abbrev pub steps : State → List Entry → State
steps s [] = s
steps s (e ∷ es) = steps (step s e) es

-- whether one stands where it may not, and the parts
abbrev pub wrong_in : State → Bool
wrong_in (state k d w xs ks) = w

abbrev pub args_in : State → List Expr
args_in (state k d w xs ks) = xs

abbrev pub keywords_in : State → List Keyword
keywords_in (state k d w xs ks) = ks

-- the call, where the order is right
abbrev pub outcome : Expr → State → Option Expr
outcome f (state k d w xs ks) = cond w None (Some (Trees.Call f (exprs xs) (keywords ks)))

abbrev pub state_of : Actual → State
state_of a = state a.keyed a.doubled a.wrong (map tree_of a.args.items) (map keyword_of a.keywords.items)

-- the expression of an argument: its level, its place, and what it is with it
abbrev pub level_of : ArgumentForm → Level
level_of kind.Single = level.Named
level_of _ = level.Expression

abbrev pub place_of : ArgumentForm → ℕ → ℕ
place_of kind.Single at = at
place_of kind.Spread at = at + 1
place_of kind.Doubled at = at + 1
place_of (kind.Keyed x) at = at + 2

abbrev pub entry_of : ArgumentForm → Expr → Entry
entry_of kind.Single e = Single e
entry_of kind.Spread e = Spread e
entry_of kind.Doubled e = Doubled e
entry_of (kind.Keyed x) e = Keyed (nfkc (chars x.now)) e

-- what stands in front of its expression
abbrev pub Begins : ArgumentForm → List Terminal → ℕ → Type 0
Begins kind.Single ts at = Unit {0}
Begins kind.Spread ts at = Stands (tokens.Op Star) ts at
Begins kind.Doubled ts at = Stands (tokens.Op DoubleStar) ts at
Begins (kind.Keyed x) ts at = IsNamed Equal (nfkc (chars x.now)) ts at

-- an argument of this kind stands at a place, if any does
pub record IsKindAt (k : ArgumentForm) (ts : List Terminal) (at : ℕ) : Type 0 where
  pub within : place_of k at ≤ length ts
  pub begins : Begins k ts at
  pub is : (self : Reads) → read_argument self (seen ts at) ≡ and_then (self (level_of k) (seen ts (place_of k at)))
      (λ e r. Found (entry_of k e) r)

-- one more argument was read
pub record AddedAt (ts : List Terminal) (room least : ℕ) (s : State) (x : Answer Entry) (r : Actual) : Type 0 where
  pub ahead : least ≤ r.next
  pub within : r.next ≤ length ts
  pub low : r.height ≤ room
  pub entry : Entry
  pub is : x ≡ Found entry (seen ts r.next)
  pub gives : state_of r ≡ step s entry

-- and some more
abbrev pub arguments_of : Depth → List Entry → List tokens.Terminal → Answer (List Entry)
arguments_of d acc r = listing_of (inner_reads d) Argument acc r

pub record ActualAt (ts : List Terminal) (room least : ℕ) (s : State) (x : Answer (List Entry)) (r : Actual) : Type 0 where
  pub ahead : least ≤ r.next
  pub within : r.next ≤ length ts
  pub low : r.height ≤ room
  pub entries : List Entry
  pub is : x ≡ Found entries (seen ts r.next)
  pub gives : state_of r ≡ steps s entries

-- the bracket after the arguments
abbrev pub finished : Expr → State → List tokens.Terminal → Answer Expr
finished f s r = on_first (is_op RPar) r (λ _ r1. made (outcome f s) r1) NoForm

-- what stands after the first argument
abbrev pub called_from : Depth → Expr → State → List tokens.Terminal → Answer Expr
called_from d f s r = and_then (on_first (is_op Comma) r (λ _ r1. arguments_of d [] r1) (Found [] r)) (λ es r1. finished f (steps s es) r1)
