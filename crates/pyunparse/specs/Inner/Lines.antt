-- Lines of a module, and what stands in them.
use Rattle.std.specs.Prelude.{◌≡◌, ℕ, suc, Bool, true, false, List, [], ◌∷◌, ◌++◌, map}
use Rattle.std.specs.Str.{encode_utf8_all}
use Rattle.pylex_lexeme.specs.declared.kinds.Exact.TheVariants.{Colon}
use Rattle.pygrammar.specs.Lines.{DefHead, Header, case_header, class_head, def_header, elif_header, else_header, except_header}
use Rattle.pygrammar.specs.Lines.{finally_header}
use Rattle.pygrammar.specs.Lines.{for_head, loop_header, try_header, with_header}
use Rattle.pytree_node.specs.Trees
use Rattle.pytree_node.specs.Trees.{Case, Expr, Handler, Handlers, Item, Stmt, Stmts, stmts}
use Rattle.pyunparse_text.specs.Spacing.{lines_text}
use Rattle.pyunparse_text.specs.Writing.{Writing}
use Rattle.pyunparse_text.specs.Written.{trailing}
use Rattle.pyunparse_text.specs.Pieces.{Sited, piece}
use Rattle.pyunparse_text.specs.Statements.{header_tokens}
use Rattle.pyunparse_text.specs.Modules.{WrittenLine, alternative, clause, handler_lines, header, line_of, lines_of}

-- a header with its colon
abbrev pub with_colon : Header → List Sited
with_colon h = header_tokens piece h ++ (trailing piece Colon ∷ [])

-- the text of lines
abbrev pub in_utf8 : List (WrittenLine Sited) → List ℕ
in_utf8 ls = encode_utf8_all (lines_text (map line_of ls))

-- lines are written after a text
pub record Wrote (v w : Writing) (ls : List (WrittenLine Sited)) : Type 0 where
  pub text : w.text ≡ v.text ++ in_utf8 ls
  pub level : w.level ≡ v.level

-- a header's line is ended, and its block written
pub record Blocked (v w : Writing) (ls : List (WrittenLine Sited)) : Type 0 where
  pub text : w.text ≡ v.text ++ 10 ∷ in_utf8 ls
  pub level : w.level ≡ v.level

-- those of a `for`, a `with`, a `def` or `class` after its decorators, a `try`, one of its handlers, and a case of a `match`
abbrev pub for_lines : ℕ → Bool → Expr → Expr → Stmts → Stmts → List (WrittenLine Sited)
for_lines l b t e body orelse =
    header piece l (loop_header (for_head b t e)) ∷ (lines_of piece (suc l) body ++ clause piece l else_header orelse)

abbrev pub with_lines : ℕ → Bool → List Item → Stmts → List (WrittenLine Sited)
with_lines l b items body = header piece l (with_header b items) ∷ lines_of piece (suc l) body

abbrev pub def_lines : ℕ → DefHead → Stmts → List (WrittenLine Sited)
def_lines l h body = header piece l (def_header h) ∷ lines_of piece (suc l) body

abbrev pub class_def_lines : ℕ → Stmt → List (WrittenLine Sited)
class_def_lines l (Trees.ClassDef name bases words body decorators parameters) = def_lines l (class_head name parameters bases words) body
class_def_lines l _ = []

abbrev pub try_lines : ℕ → Bool → Stmts → Handlers → Stmts → Stmts → List (WrittenLine Sited)
try_lines l b body hs orelse final =
    header piece l try_header ∷
    (lines_of piece (suc l) body ++
    (handler_lines piece l b hs ++ (clause piece l else_header orelse ++ clause piece l finally_header final)))

abbrev pub one_handler : ℕ → Bool → Handler → List (WrittenLine Sited)
one_handler l b h = header piece l (except_header b h.class h.name) ∷ lines_of piece (suc l) (stmts h.body)

abbrev pub one_case : ℕ → Case → List (WrittenLine Sited)
one_case l c = header piece l (case_header c.pattern c.guard) ∷ lines_of piece (suc l) (stmts c.body)

-- an `if`, and the lines of one as an `elif`
abbrev pub is_if : Stmt → Bool
is_if (Trees.If test body orelse) = true
is_if _ = false

abbrev pub elif_lines : ℕ → Stmt → List (WrittenLine Sited)
elif_lines l (Trees.If test body orelse) = header piece l (elif_header test) ∷ (lines_of piece (suc l) body ++ alternative piece l orelse)
elif_lines l _ = []
