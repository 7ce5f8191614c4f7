-- Carries: the laws of modules. On: which lines a statement is written in, by what makes it.
use Rattle.std.proofs.Common.{◌≡◌, refl, ℕ, suc, List, [], ◌∷◌, ◌++◌, Bool, true, false}
use Rattle.pytree_node.specs.Trees
use Rattle.pytree_node.specs.Trees.{Expr, Stmt, Stmts, no_stmt, a_stmt, stmts, cases, Handler, handlers, Item, If}
use Rattle.pygrammar.specs.Lines.{Header, else_header, loop_header, with_header, try_header, finally_header, def_header, LoopHead}
use Rattle.pygrammar.specs.Lines.{while_head}
use Rattle.pygrammar.specs.Lines.{for_head, DefHead, function_head, class_head, loop, with_of, definition, try_of}
use Rattle.pyunparse_text.specs.Written.{Maker}
use Rattle.pyunparse_text.specs.Statements.{simple_tokens}
use Rattle.pyunparse_text.specs.Modules.{written_line, header, decorators, lines_of, statement_lines, alternative, clause, handler_lines}
use Rattle.pyunparse_text.proofs.Modules.Wells.{is_simple, Well, well_simple, well_if, well_loop, well_with, well_finally, well_except}
use Rattle.pyunparse_text.proofs.Modules.Wells.{well_definition, well_match, Wells, none, one}

abbrev pub is_if : Stmt → Bool
is_if (If test body orelse) = true
is_if _ = false

-- an If alone is written as `elif`
abbrev pub lone_if : Stmt → Stmts → Bool
lone_if s no_stmt = is_if s
lone_if s (a_stmt t ss) = false

simple_no_if : (s : Stmt) → is_simple s ≡ true → is_if s ≡ false
simple_no_if (If test body orelse) h = absurd (cc)
simple_no_if _ h = refl

loop_no_if : (head : LoopHead) (body orelse : List Stmt) → is_if (loop head body orelse) ≡ false
loop_no_if (while_head test) body orelse = refl
loop_no_if (for_head false t e) body orelse = refl
loop_no_if (for_head true t e) body orelse = refl

with_no_if : (b : Bool) (is : List Item) (body : List Stmt) → is_if (with_of b is body) ≡ false
with_no_if false is body = refl
with_no_if true is body = refl

try_no_if : (b : Bool) (body : List Stmt) (hs : List Handler) (orelse final : List Stmt) → is_if (try_of b body hs orelse final) ≡ false
try_no_if false body hs orelse final = refl
try_no_if true body hs orelse final = refl

definition_no_if : (es : List Expr) (head : DefHead) (body : List Stmt) → is_if (definition es head body) ≡ false
definition_no_if es (function_head false x ps a r) body = refl
definition_no_if es (function_head true x ps a r) body = refl
definition_no_if es (class_head x ps bs ks) body = refl

no_lone : (s : Stmt) (ss : List Stmt) → is_if s ≡ false → lone_if s (stmts ss) ≡ false
no_lone s [] h = h
no_lone s (t ∷ ss) h = refl

module _ {S : Stmt → Type 0} {H : Header → Type 0} {D : Expr → Type 0} where
  abbrev pub NotLone : {s : Stmt} {ss : List Stmt} → Well S H D s → Wells S H D ss → Type 0
  NotLone (well_if p q b c) none = ⊥
  NotLone _ _ = Unit {0}

  pub not_lone : {s : Stmt} {ss : List Stmt} (p : Well S H D s) (c : Wells S H D ss) → NotLone p c → lone_if s (stmts ss) ≡ false
  not_lone (well_if p q b d) none h = absurd h
  not_lone (well_if p q b d) (one r c) h = refl
  not_lone {ss = ss} (well_simple {s = s} p q) c h = no_lone s ss (simple_no_if s p)
  not_lone {ss = ss} (well_loop head {body = body} {orelse = orelse} p b d) c h =
      no_lone (loop head body orelse) ss (loop_no_if head body orelse)
  not_lone {ss = ss} (well_with b is {body = body} p d) c h = no_lone (with_of b is body) ss (with_no_if b is body)
  not_lone {ss = ss} (well_finally {body = body} {final = final} b d) c h =
      no_lone (try_of false body [] [] final) ss (try_no_if false body [] [] final)
  not_lone {ss = ss} (well_except star {body = body} {orelse = orelse} {final = final} {h = x} {hs = hs} b d e f) c h =
      no_lone (try_of star body (x ∷ hs) orelse final) ss (try_no_if star body (x ∷ hs) orelse final)
  not_lone {ss = ss} (well_definition head {es = es} {body = body} d p b) c h =
      no_lone (definition es head body) ss (definition_no_if es head body)
  not_lone {ss = ss} (well_match {subject = subject} {c = c} {cs = cs} p d) e h = no_lone (Trees.Match subject (cases (c ∷ cs))) ss refl

module _ {A : Type 0} (make : Maker A) where
  pub simple_lines : (l : ℕ) (s : Stmt) → is_simple s ≡ true → statement_lines make l s ≡ written_line l (simple_tokens make s) ∷ []
  unfolding statement_lines
  simple_lines l (Trees.FunctionDef x a b ds r ps) h = absurd (cc)
  simple_lines l (Trees.AsyncFunctionDef x a b ds r ps) h = absurd (cc)
  simple_lines l (Trees.ClassDef x es ks b ds ps) h = absurd (cc)
  simple_lines l (Trees.For t e b o) h = absurd (cc)
  simple_lines l (Trees.AsyncFor t e b o) h = absurd (cc)
  simple_lines l (Trees.While e b o) h = absurd (cc)
  simple_lines l (Trees.If e b o) h = absurd (cc)
  simple_lines l (Trees.With is b) h = absurd (cc)
  simple_lines l (Trees.AsyncWith is b) h = absurd (cc)
  simple_lines l (Trees.Try b hs o f) h = absurd (cc)
  simple_lines l (Trees.TryStar b hs o f) h = absurd (cc)
  simple_lines l (Trees.Match e cs) h = absurd (cc)
  simple_lines l _ h = refl

  pub loop_lines : (l : ℕ) (head : LoopHead) (body orelse : List Stmt)
      → statement_lines make l (loop head body orelse) ≡ header make l (loop_header head) ∷
      (lines_of make (suc l) (stmts body) ++ clause make l else_header (stmts orelse))
  unfolding statement_lines
  loop_lines l (while_head test) body orelse = refl
  loop_lines l (for_head false t e) body orelse = refl
  loop_lines l (for_head true t e) body orelse = refl

  pub with_lines : (l : ℕ) (b : Bool) (is : List Item) (body : List Stmt)
      → statement_lines make l (with_of b is body) ≡ header make l (with_header b is) ∷ lines_of make (suc l) (stmts body)
  unfolding statement_lines
  with_lines l false is body = refl
  with_lines l true is body = refl

  pub try_lines : (l : ℕ) (b : Bool) (body : List Stmt) (hs : List Handler) (orelse final : List Stmt)
      → statement_lines make l (try_of b body hs orelse final) ≡ header make l try_header ∷
      (lines_of make (suc l) (stmts body) ++
      (handler_lines make l b (handlers hs) ++ (clause make l else_header (stmts orelse) ++ clause make l
      finally_header (stmts final))))
  unfolding statement_lines
  try_lines l false body hs orelse final = refl
  try_lines l true body hs orelse final = refl

  pub definition_lines : (l : ℕ) (es : List Expr) (head : DefHead) (body : List Stmt)
      → statement_lines make l (definition es head body) ≡ decorators make l es ++
      (header make l (def_header head) ∷ lines_of make (suc l) (stmts body))
  unfolding statement_lines
  definition_lines l es (function_head false x ps a r) body = refl
  definition_lines l es (function_head true x ps a r) body = refl
  definition_lines l es (class_head x ps bs ks) body = refl

  pub else_lines : (l : ℕ) (s : Stmt) (ss : Stmts) → lone_if s ss ≡ false
      → alternative make l (a_stmt s ss) ≡ header make l else_header ∷ lines_of make (suc l) (a_stmt s ss)
  unfolding alternative lines_of
  else_lines l (If test body orelse) no_stmt h = absurd (cc)
  else_lines l _ _ h = refl
