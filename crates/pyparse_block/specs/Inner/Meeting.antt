-- What ends, and what a header goes on with.
use Rattle.std.specs.Prelude.{Bool, true, false, List, ◌++◌, Some, None}
use Rattle.pytree_node.specs.Trees.{Expr, Stmt}
use Rattle.pygrammar.specs.Lines.{Header, if_header, elif_header, else_header, loop_header, with_header, try_header, except_header}
use Rattle.pygrammar.specs.Lines.{finally_header, def_header, match_header, case_header}
use Rattle.pygrammar.specs.Blocks.{MisplacedClause, same_bool}
use Rattle.pygrammar.specs.Reading.{Answer, Fine, Faulty, Group, Marked, Choice, Loop, Trial, Caught, Settled, Matching, PartialBlock, part}
use Rattle.pygrammar.specs.Reading.{closes}
use Rattle.pygrammar.specs.Reading.{meets, decorated}

-- the statements of a level whose group ends
abbrev pub closed : List Stmt → Group → Answer (List Stmt)
closed done g = elim (closes g) [ None ↦ Faulty MisplacedClause | Some ss ↦ Fine (done ++ ss) ]

-- whether it has the cases of a `match`
abbrev pub is_matching : Group → Bool
is_matching (Matching _) = true
is_matching _ = false

-- whether a header is a clause of a group
abbrev pub continues : Header → Group → Bool
continues (elif_header _) (Choice _) = true
continues else_header (Choice _) = true
continues else_header (Loop _ _) = true
continues else_header (Caught _ _ _) = true
continues (except_header _ _ _) (Trial _) = true
continues (except_header other _ _) (Caught star _ _) = same_bool other star
continues finally_header (Trial _) = true
continues finally_header (Caught _ _ _) = true
continues finally_header (Settled _ _ _ _) = true
continues (def_header _) (Marked _) = true
continues (case_header _ _) (Matching _) = true
continues _ _ = false

-- whether it begins a statement
abbrev pub begins : Header → Bool
begins (if_header _) = true
begins (loop_header _) = true
begins (with_header _ _) = true
begins try_header = true
begins (def_header _) = true
begins (match_header _) = true
begins _ = false

-- what a header finds of a level: its statements, and the group that it goes on with
abbrev pub met : List Stmt → Group → Header → Answer PartialBlock
met done g h = elim (meets g h) [ None ↦ Faulty MisplacedClause | Some p ↦ Fine (part (done ++ p.done) p.group) ]

-- what a decorator makes of a level
abbrev pub marked : List Stmt → Group → Expr → Answer PartialBlock
marked done g e = elim (decorated g e) [ None ↦ Faulty MisplacedClause | Some p ↦ Fine (part (done ++ p.done) p.group) ]
