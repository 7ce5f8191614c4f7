-- The pieces of a dump that are still to come, with the places that are left.
use Rattle.std.specs.Prelude.{ℕ, Bool, true, false, List, [], ◌∷◌, ◌++◌}
use Rattle.pytree_node.specs.declared.statements.Stmt.{Stmt}
use Rattle.pytree_node.specs.TreeOf.{stmt_of}
use Rattle.pytree_dump.specs.declared.pieces.PieceState.{PieceState}
use Rattle.pytree_dump.specs.declared.pieces.PieceState.TheVariants as stage
use Rattle.pytree_dump_text.specs.declared.styles.Style.{Style}
use Rattle.pytree_dump_text.specs.Layout.{before, is_flat, text}
use Rattle.pytree_dump_text.specs.Shows.{shown_stmt}
use Rattle.pytree_marked.specs.MarkedNodes.{Attributes, with_places}

-- a piece for each statement, and what ends the text
abbrev pub statement_pieces : Style → List ℕ → Bool → List ℕ → List Stmt → List Attributes → List (List ℕ)
statement_pieces s indentation first end [] ps = end ∷ []
statement_pieces s indentation first end (x ∷ xs) ps =
    let one = with_places ps (shown_stmt s.profile (stmt_of x)) in
    (before (is_flat s.indent) indentation first ++ text s indentation one.shown) ∷ statement_pieces s indentation false end xs one.left

abbrev pub staged_pieces : Style → List ℕ → List ℕ → List ℕ → List Stmt → PieceState → List Attributes → List (List ℕ)
staged_pieces s indentation begin end body stage.Begin ps = begin ∷ statement_pieces s indentation true end body ps
staged_pieces s indentation begin end body (stage.Statements first) ps = statement_pieces s indentation first end body ps
staged_pieces s indentation begin end body stage.Done ps = []
