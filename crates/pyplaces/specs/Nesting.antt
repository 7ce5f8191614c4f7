-- A statement's own span holds the spans of all that is in it, but those of its decorators, which stand before it.
use Rattle.std.specs.Prelude.{◌≡◌, ℕ, ◌≤◌, List, [], ◌∷◌, ◌++◌, length, take, drop}
use Rattle.pytree_node.specs.declared.profiles.Profile.{Profile}
use Rattle.pytree_node.specs.Trees.{Stmt, FunctionDef, AsyncFunctionDef, ClassDef, exprs}
use Rattle.pytree_dump_text.specs.Shows.{shown_stmt, shown_exprs}
use Rattle.pytree_marked.specs.MarkedNodes.{marked, marked_rows}
use Rattle.pyparse_marks.specs.Spans.{Span}
use Rattle.pyplaces.specs.Spans.{AllLieBetween}

-- how many nodes in the decorators of a statement have a place
abbrev pub in_decorators : Stmt → ℕ
in_decorators (FunctionDef name args body decorators returns params) = marked_rows (shown_exprs (exprs decorators))
in_decorators (AsyncFunctionDef name args body decorators returns params) = marked_rows (shown_exprs (exprs decorators))
in_decorators (ClassDef name bases keywords body decorators params) = marked_rows (shown_exprs (exprs decorators))
in_decorators _ = 0

-- the spans of a statement: of its parts, of its decorators, of its parts after these, and its own
pub record HoldsItsParts (s : Stmt) (ps : List Span) : Type 0 where
  pub inside : List Span
  pub beside : List Span
  pub further : List Span
  pub own : Span
  pub are : ps ≡ inside ++ (beside ++ (further ++ (own ∷ [])))
  pub decorators : length beside ≡ in_decorators s
  pub forward : own.start ≤ own.stop
  pub holds : AllLieBetween own.start own.stop (inside ++ further)
  pub apart : AllLieBetween 0 own.start beside

-- so it is with each of some statements, whose spans stand one after another
abbrev pub AllHoldTheirParts : Profile → List Stmt → List Span → Type 0
AllHoldTheirParts profile [] ps = ps ≡ []
AllHoldTheirParts profile (s ∷ ss) ps =
    let n = marked (shown_stmt profile s) in HoldsItsParts s (take n ps) × AllHoldTheirParts profile ss (drop n ps)
