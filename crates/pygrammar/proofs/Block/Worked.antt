-- Worked rows: faults of blocks and trees, computed by the reading.
--
-- Carries: v, says, head, short, refused, for WorkedDepths, WorkedMatches. On: Law, Sound.
use Rattle.std.proofs.Common.{◌≡◌, ℕ, List, [], ◌∷◌, Some, None, true, false, refl, subst}
use Rattle.pytree_node.specs.Trees.{Expr, no_keyword, Stmt, If, ClassDef, Try, ExprOf, stmts, handlers}
use Rattle.pytree_node.specs.Trees as Trees
use Rattle.pytree_node.specs.declared.operators.Context.TheVariants.{Load}
use Rattle.pygrammar.specs.Lines.{Line, line, simple_form, decorator_form, header_form, Header, if_header, elif_header, else_header}
use Rattle.pygrammar.specs.Lines.{loop_header, try_header, except_header, finally_header, def_header, for_head, class_head}
use Rattle.pygrammar.specs.Blocks.{Block, handler, Fault, ExpectedIndent, UnexpectedIndent, MisplacedClause, FirstFault}
use Rattle.pygrammar.specs.Reading.{Answer, Faulty, start, stops, read}
use Rattle.pygrammar.proofs.Block.Sound.{read_gives}
use Rattle.pygrammar.proofs.Block.Law.{read_finds, Finds}

-- a name; the statement of it; a line of it
pub v : ℕ → Expr
v n = Trees.Name (n ∷ []) Load

abbrev pub s : ℕ → List Stmt
s n = ExprOf (v n) ∷ []

abbrev pub says : ℕ → ℕ → Line
says l n = line l (simple_form (s n))

abbrev pub head : ℕ → Header → Line
head l h = line l (header_form h None)

abbrev pub short : ℕ → Header → ℕ → Line
short l h n = line l (header_form h (Some (s n)))

pub refused : (xs rest : List Line) (f : Fault) → read xs ≡ Faulty f → stops xs start ≡ rest → FirstFault [] xs rest f
refused xs rest f e i =
    let P : Answer (List Stmt) → Type 0 = λ a. Finds [] xs (stops xs start) a in
    let Q : List Line → Type 0 = λ r. FirstFault [] xs r f in subst Q i (subst P e (read_finds xs))

-- `if x:` and `y` at its own level
not_indented : FirstFault [] (head 0 (if_header (v 1)) ∷ says 0 2 ∷ []) (says 0 2 ∷ []) ExpectedIndent
not_indented = refused _ _ _ refl refl

-- `if x:` alone: at ENDMARKER
no_block : FirstFault [] (head 0 (if_header (v 1)) ∷ []) [] ExpectedIndent
no_block = refused (head 0 (if_header (v 1)) ∷ []) [] ExpectedIndent refl refl

-- `x` and `y` deeper
indented_after_x : FirstFault [] (says 0 1 ∷ says 1 2 ∷ []) (says 1 2 ∷ []) UnexpectedIndent
indented_after_x = refused (says 0 1 ∷ says 1 2 ∷ []) (says 1 2 ∷ []) UnexpectedIndent refl refl

-- `if x: pass` and `y` deeper
indented_after_suite : FirstFault [] (short 0 (if_header (v 1)) 3 ∷ says 1 2 ∷ []) (says 1 2 ∷ []) UnexpectedIndent
indented_after_suite = refused (short 0 (if_header (v 1)) 3 ∷ says 1 2 ∷ []) (says 1 2 ∷ []) UnexpectedIndent refl refl

-- `else:` first
else_first : FirstFault [] (head 0 else_header ∷ says 1 2 ∷ []) (head 0 else_header ∷ says 1 2 ∷ []) MisplacedClause
else_first = refused (head 0 else_header ∷ says 1 2 ∷ []) (head 0 else_header ∷ says 1 2 ∷ []) MisplacedClause refl refl

-- a `try` without `except` and `finally`
try_alone : FirstFault [] (head 0 try_header ∷ says 1 1 ∷ says 0 2 ∷ []) (says 0 2 ∷ []) MisplacedClause
try_alone = refused (head 0 try_header ∷ says 1 1 ∷ says 0 2 ∷ []) (says 0 2 ∷ []) MisplacedClause refl refl

-- a decorator before `x`, and one before ENDMARKER
decorated_x : FirstFault [] (line 0 (decorator_form (v 1)) ∷ says 0 2 ∷ []) (says 0 2 ∷ []) MisplacedClause
decorated_x = refused (line 0 (decorator_form (v 1)) ∷ says 0 2 ∷ []) (says 0 2 ∷ []) MisplacedClause refl refl

decorated_end : FirstFault [] (line 0 (decorator_form (v 1)) ∷ []) [] MisplacedClause
decorated_end = refused (line 0 (decorator_form (v 1)) ∷ []) [] MisplacedClause refl refl

-- two `else` of a `for`
else_twice : FirstFault [] (short 0 (loop_header (for_head false (v 1) (v 2))) 3 ∷ short 0 else_header 4 ∷ short 0 else_header 5 ∷ [])
    (short 0 else_header 5 ∷ []) MisplacedClause
else_twice = refused (short 0 (loop_header (for_head false (v 1) (v 2))) 3 ∷ short 0 else_header 4 ∷ short 0 else_header 5 ∷ [])
    (short 0 else_header 5 ∷ []) MisplacedClause refl refl

-- `except` and `except *` in one group
two_kinds : FirstFault [] (short 0 try_header 1 ∷ short 0 (except_header false None None) 2 ∷ short 0 (except_header true (Some (v 3)) None)
    4 ∷ []) (short 0 (except_header true (Some (v 3)) None) 4 ∷ []) MisplacedClause
two_kinds = refused (short 0 try_header 1 ∷ short 0 (except_header false None None) 2 ∷ short 0 (except_header true (Some (v 3)) None) 4 ∷
    []) (short 0 (except_header true (Some (v 3)) None) 4 ∷ []) MisplacedClause refl refl

-- a `finally` after the `else` of a `for`
finally_of_for : FirstFault [] (short 0 (loop_header (for_head false (v 1) (v 2))) 3 ∷ short 0 else_header 4 ∷ short 0 finally_header 5 ∷
    []) (short 0 finally_header 5 ∷ []) MisplacedClause
finally_of_for = refused (short 0 (loop_header (for_head false (v 1) (v 2))) 3 ∷ short 0 else_header 4 ∷ short 0 finally_header 5 ∷ [])
    (short 0 finally_header 5 ∷ []) MisplacedClause refl refl

-- an `elif` is an If inside the one before
elif_nested : Block 0 (short 0 (if_header (v 1)) 2 ∷ head 0 (elif_header (v 3)) ∷ says 1 4 ∷ short 0 else_header 5 ∷ [])
    (If (v 1) (stmts (s 2)) (stmts (If (v 3) (stmts (s 4)) (stmts (s 5)) ∷ [])) ∷ [])
elif_nested = read_gives _ _ refl refl

-- a whole `try` group, and a statement after it
try_group : Block 0 (short 0 try_header 1 ∷ short 0 (except_header false (Some (v 2)) None) 3 ∷ short 0 else_header 4 ∷ short 0
    finally_header 5 ∷ says 0 6 ∷ [])
    (Try (stmts (s 1)) (handlers (handler (Some (v 2)) None (s 3) ∷ [])) (stmts (s 4)) (stmts (s 5)) ∷ s 6)
try_group = read_gives _ _ refl refl

-- decorators
decorated_class : Block 0 (line 0 (decorator_form (v 1)) ∷ line 0 (decorator_form (v 2)) ∷ short 0
    (def_header (class_head (3 ∷ []) [] [] no_keyword)) 4 ∷ [])
    (ClassDef (3 ∷ []) [] no_keyword (stmts (s 4)) (v 1 ∷ v 2 ∷ []) [] ∷ [])
decorated_class = read_gives _ _ refl refl
