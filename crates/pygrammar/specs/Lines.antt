-- Logical lines, each by itself: what its own tokens say, without the lines around it.
use Rattle.std.specs.Prelude.{ℕ, Bool, true, false, not, ◌&&◌, List, [], ◌∷◌, Option, Some, None}
use Rattle.pytree_node.specs.Trees.{Expr, Arguments, Keywords, Identifier, Pattern, Stmt, Item, Handler, TypeParam, FunctionDef}
use Rattle.pytree_node.specs.Trees.{AsyncFunctionDef, ClassDef, TypeAlias, While, For, AsyncFor, With, AsyncWith, Try, TryStar, stmts}
use Rattle.pytree_node.specs.Trees.{handlers}

-- the heads of `while` and `for`, which differ in nothing else
pub data LoopHead : Type 0 where
  while_head : Expr → LoopHead
  for_head : Bool → Expr → Expr → LoopHead  -- whether async, target, iter

-- the heads of `def` and `class`
pub data DefHead : Type 0 where
  function_head : Bool → Identifier → List TypeParam → Arguments → Option Expr → DefHead  -- whether async, name, type_params, args, returns
  class_head : Identifier → List TypeParam → List Expr → Keywords → DefHead  -- name, type_params, bases, keywords

-- a header, up to its colon
pub data Header : Type 0 where
  if_header : Expr → Header
  elif_header : Expr → Header
  else_header : Header
  loop_header : LoopHead → Header
  with_header : Bool → List Item → Header  -- whether async
  try_header : Header
  except_header : Bool → Option Expr → Option Identifier → Header  -- whether it has a star, type, name
  finally_header : Header
  def_header : DefHead → Header
  match_header : Expr → Header  -- subject
  case_header : Pattern → Option Expr → Header  -- pattern, guard

-- the form of a logical line
pub data Form : Type 0 where
  simple_form : List Stmt → Form  -- simple statements, with `;` between
  decorator_form : Expr → Form
  header_form : Header → Option (List Stmt) → Form  -- with its inline suite, if it has one

-- a logical line: the number of levels above 0 that are open at it, and its form
pub record Line : Type 0 where
  pub level : ℕ
  pub form : Form

abbrev pub line : ℕ → Form → Line
line l f = record { level = l; form = f }

-- whether a line is a header whose block is the lines that follow it
abbrev pub opens : Form → Bool
opens (header_form _ None) = true
opens _ = false

-- The header of a `match` has no inline suite. No line of terminals has such a form.
abbrev pub is_proper : Form → Bool
is_proper (header_form (match_header _) (Some _)) = false
is_proper _ = true

abbrev pub are_proper : List Line → Bool
are_proper [] = true
are_proper (x ∷ xs) = is_proper x.form && are_proper xs

-- the statement of a head and its blocks
abbrev pub loop : LoopHead → List Stmt → List Stmt → Stmt
loop (while_head test) body orelse = While test (stmts body) (stmts orelse)
loop (for_head false target iter) body orelse = For target iter (stmts body) (stmts orelse)
loop (for_head true target iter) body orelse = AsyncFor target iter (stmts body) (stmts orelse)

abbrev pub with_of : Bool → List Item → List Stmt → Stmt
with_of false items body = With items (stmts body)
with_of true items body = AsyncWith items (stmts body)

abbrev pub definition : List Expr → DefHead → List Stmt → Stmt
definition decorators (function_head false name parameters args returns) body =
    FunctionDef name args (stmts body) decorators returns parameters
definition decorators (function_head true name parameters args returns) body =
    AsyncFunctionDef name args (stmts body) decorators returns parameters
definition decorators (class_head name parameters bases keywords) body = ClassDef name bases keywords (stmts body) decorators parameters

-- the Try, or TryStar, of its four parts
abbrev pub try_of : Bool → List Stmt → List Handler → List Stmt → List Stmt → Stmt
try_of false body hs orelse final = Try (stmts body) (handlers hs) (stmts orelse) (stmts final)
try_of true body hs orelse final = TryStar (stmts body) (handlers hs) (stmts orelse) (stmts final)

-- ---- Forms without types: no parameters of types, and no statement `type`.

abbrev pub no_types : List TypeParam → Bool
no_types [] = true
no_types (_ ∷ _) = false

abbrev pub is_alias : Stmt → Bool
is_alias (TypeAlias _ _ _) = true
is_alias _ = false

abbrev pub untyped_statements : List Stmt → Bool
untyped_statements [] = true
untyped_statements (s ∷ ss) = not (is_alias s) && untyped_statements ss

abbrev pub untyped_header : Header → Bool
untyped_header (def_header (function_head _ _ parameters _ _)) = no_types parameters
untyped_header (def_header (class_head _ parameters _ _)) = no_types parameters
untyped_header _ = true

abbrev pub untyped : Form → Bool
untyped (simple_form ss) = untyped_statements ss
untyped (decorator_form _) = true
untyped (header_form h None) = untyped_header h
untyped (header_form h (Some suite)) = untyped_header h && untyped_statements suite
