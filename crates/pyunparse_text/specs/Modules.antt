-- The lines that a module is written in, each with its level (reference 2.1.8, 7 and 8): a statement a line, blocks one level deeper, never
-- in
-- the line of their header.
use Rattle.std.specs.Prelude.{ℕ, suc, Bool, true, false, List, [], ◌∷◌, ◌++◌, map}
use Rattle.pylex_lexeme.specs.declared.kinds.Exact.TheVariants.{Colon, At}
use Rattle.pytree_node.specs.Trees
use Rattle.pytree_node.specs.Trees.{Expr, Stmt, Stmts, no_stmt, a_stmt, Cases, no_case, a_case, Handlers, no_handler, a_handler, stmts}
use Rattle.pytree_node.specs.Trees.{Module}
use Rattle.pytoken.specs.Terminals.{Terminal}
use Rattle.pygrammar.specs.declared.levels.Level.TheVariants.{Named}
use Rattle.pygrammar.specs.Lines.{Header, if_header, elif_header, else_header, loop_header, with_header, try_header, except_header}
use Rattle.pygrammar.specs.Lines.{finally_header}
use Rattle.pygrammar.specs.Lines.{def_header, match_header, case_header, while_head, for_head, function_head, class_head}
use Rattle.pyunparse_text.specs.Spacing.{Line, lines_text}
use Rattle.pyunparse_text.specs.Written.{Maker, leading, trailing, written}
use Rattle.pyunparse_text.specs.Terminals.{terminal}
use Rattle.pyunparse_text.specs.Pieces.{Sited, outside, piece}
use Rattle.pyunparse_text.specs.Statements.{simple_tokens, header_tokens}

-- a logical line: how many levels are open at it, and its tokens
pub record WrittenLine (A : Type 0) : Type 0 where
  pub level : ℕ
  pub tokens : List A

abbrev pub written_line : {A : Type 0} → ℕ → List A → WrittenLine A
written_line l ts = record { level = l; tokens = ts }

module _ {A : Type 0} (make : Maker A) where
  abbrev pub header : ℕ → Header → WrittenLine A
  header l h = written_line l (header_tokens make h ++ (trailing make Colon ∷ []))

  -- each on a line of its own
  abbrev pub decorators : ℕ → List Expr → List (WrittenLine A)
  decorators l [] = []
  decorators l (e ∷ es) = written_line l (leading make At ∷ written make Named e) ∷ decorators l es

  unfoldable mutual
    pub lines_of : ℕ → Stmts → List (WrittenLine A)
    lines_of l no_stmt = []
    lines_of l (a_stmt s ss) = statement_lines l s ++ lines_of l ss

    pub statement_lines : ℕ → Stmt → List (WrittenLine A)
    statement_lines l (Trees.If test body orelse) = header l (if_header test) ∷ (lines_of (suc l) body ++ alternative l orelse)
    statement_lines l (Trees.While test body orelse) =
        header l (loop_header (while_head test)) ∷ (lines_of (suc l) body ++ clause l else_header orelse)
    statement_lines l (Trees.For t e body orelse) =
        header l (loop_header (for_head false t e)) ∷ (lines_of (suc l) body ++ clause l else_header orelse)
    statement_lines l (Trees.AsyncFor t e body orelse) =
        header l (loop_header (for_head true t e)) ∷ (lines_of (suc l) body ++ clause l else_header orelse)
    statement_lines l (Trees.With items body) = header l (with_header false items) ∷ lines_of (suc l) body
    statement_lines l (Trees.AsyncWith items body) = header l (with_header true items) ∷ lines_of (suc l) body
    statement_lines l (Trees.Try body hs orelse final) =
        header l try_header ∷
        (lines_of (suc l) body ++ (handler_lines l false hs ++ (clause l else_header orelse ++ clause l finally_header final)))
    statement_lines l (Trees.TryStar body hs orelse final) =
        header l try_header ∷
        (lines_of (suc l) body ++ (handler_lines l true hs ++ (clause l else_header orelse ++ clause l finally_header final)))
    statement_lines l (Trees.FunctionDef x a body ds r ps) =
        decorators l ds ++ (header l (def_header (function_head false x ps a r)) ∷ lines_of (suc l) body)
    statement_lines l (Trees.AsyncFunctionDef x a body ds r ps) =
        decorators l ds ++ (header l (def_header (function_head true x ps a r)) ∷ lines_of (suc l) body)
    statement_lines l (Trees.ClassDef x es ks body ds ps) =
        decorators l ds ++ (header l (def_header (class_head x ps es ks)) ∷ lines_of (suc l) body)
    statement_lines l (Trees.Match subject cases) = header l (match_header subject) ∷ case_lines (suc l) cases
    statement_lines l s = written_line l (simple_tokens make s) ∷ []

    -- the `else` of an If; an `elif` where it is exactly one If
    pub alternative : ℕ → Stmts → List (WrittenLine A)
    alternative l no_stmt = []
    alternative l (a_stmt (Trees.If test body orelse) no_stmt) =
        header l (elif_header test) ∷ (lines_of (suc l) body ++ alternative l orelse)
    alternative l (a_stmt s ss) = header l else_header ∷ (statement_lines (suc l) s ++ lines_of (suc l) ss)

    -- a clause with its block; nothing where the block is empty
    pub clause : ℕ → Header → Stmts → List (WrittenLine A)
    clause l h no_stmt = []
    clause l h (a_stmt s ss) = header l h ∷ (statement_lines (suc l) s ++ lines_of (suc l) ss)

    pub case_lines : ℕ → Cases → List (WrittenLine A)
    case_lines l no_case = []
    case_lines l (a_case pattern guard body cs) = header l (case_header pattern guard) ∷ (lines_of (suc l) body ++ case_lines l cs)

    pub handler_lines : ℕ → Bool → Handlers → List (WrittenLine A)
    handler_lines l star no_handler = []
    handler_lines l star (a_handler e x body hs) = header l (except_header star e x) ∷ (lines_of (suc l) body ++ handler_lines l star hs)

  -- the lines of a module
  abbrev pub module_lines : Module → List (WrittenLine A)
  module_lines m = lines_of 0 (stmts m.body)

-- as the grammar reads them, and as they are written
abbrev pub terminal_lines : Module → List (WrittenLine Terminal)
terminal_lines m = module_lines terminal m

abbrev pub line_of : WrittenLine Sited → Line
line_of w = record { level = w.level; pieces = outside w.tokens }

abbrev pub piece_lines : Module → List Line
piece_lines m = map line_of (module_lines piece m)

-- the text of a module
abbrev pub module_text : Module → List ℕ
module_text m = lines_text (piece_lines m)
