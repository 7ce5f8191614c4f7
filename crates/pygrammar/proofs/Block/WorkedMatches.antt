-- Worked rows: places, faults, trees and depths of `match` statements, computed.
--
-- Carries: no contract; its rows are computed as it is checked. On: Worked, WorkedDepths, Sound.
use Rattle.std.proofs.Common.{◌≡◌, ℕ, zero, suc, ◌+◌, List, [], ◌∷◌, ◌++◌, Some, None, true, false, refl}
use Rattle.pytree_node.specs.Trees.{Pattern, MatchAs, MatchValue, absent_pattern, no_keyword, If, Match, cases, stmts}
use Rattle.pygrammar.specs.Lines.{Line, line, decorator_form, Header, if_header, else_header, try_header, finally_header, def_header}
use Rattle.pygrammar.specs.Lines.{match_header, case_header, class_head, are_proper}
use Rattle.pygrammar.specs.Blocks.{Block, case_of, ExpectedIndent, UnexpectedIndent, MisplacedClause, FirstFault, stands_in_match}
use Rattle.pygrammar.specs.Reading.{Fine, read}
use Rattle.pygrammar.specs.Depths.{first_deep}
use Rattle.pygrammar.proofs.Block.Sound.{read_gives}
use Rattle.pygrammar.proofs.Block.Worked.{v, s, says, head, short, refused}
use Rattle.pygrammar.proofs.Block.WorkedDepths.{Agrees}

-- `_`, and the value `n`
abbrev any : Pattern
any = MatchAs absent_pattern None

abbrev value : ℕ → Pattern
value n = MatchValue (v n)

-- `match x:`, `case _:`
abbrev matches : Header
matches = match_header (v 1)

abbrev other : Header
other = case_header any None

-- ---- Places. The lines before come nearest first.

-- directly in the `match`; also after a case and its block
in_match : stands_in_match 1 (head 0 matches ∷ []) ≡ true
in_match = refl

after_case : stands_in_match 1 (says 2 3 ∷ head 1 other ∷ head 0 matches ∷ []) ≡ true
after_case = refl

-- in the block of a case, beside the `match`, in the block of an `if` there
in_case : stands_in_match 2 (head 1 other ∷ head 0 matches ∷ []) ≡ false
in_case = refl

beside_match : stands_in_match 0 (short 1 other 2 ∷ head 0 matches ∷ []) ≡ false
beside_match = refl

in_if : stands_in_match 2 (head 1 (if_header (v 2)) ∷ head 0 matches ∷ []) ≡ false
in_if = refl

-- ---- Faults.

-- `match x:` and `y`, in the `match` and beside it; alone
statement_inside : FirstFault [] (head 0 matches ∷ says 1 2 ∷ []) (says 1 2 ∷ []) MisplacedClause
statement_inside = refused _ _ _ refl refl

statement_beside : FirstFault [] (head 0 matches ∷ says 0 2 ∷ []) (says 0 2 ∷ []) ExpectedIndent
statement_beside = refused _ _ _ refl refl

match_alone : FirstFault [] (head 0 matches ∷ []) [] ExpectedIndent
match_alone = refused (head 0 matches ∷ []) [] ExpectedIndent refl refl

-- directly in a `match` another `match`, a decorator, and after a case an `else` or any other line
match_inside : FirstFault [] (head 0 matches ∷ head 1 matches ∷ short 2 other 3 ∷ [])
    (head 1 matches ∷ short 2 other 3 ∷ []) MisplacedClause
match_inside = refused (head 0 matches ∷ head 1 matches ∷ short 2 other 3 ∷ []) (head 1 matches ∷ short 2 other 3 ∷ [])
    MisplacedClause refl refl

decorator_inside : FirstFault [] (head 0 matches ∷ line 1 (decorator_form (v 2)) ∷ short 1 other 3 ∷ [])
    (line 1 (decorator_form (v 2)) ∷ short 1 other 3 ∷ []) MisplacedClause
decorator_inside = refused (head 0 matches ∷ line 1 (decorator_form (v 2)) ∷ short 1 other 3 ∷ [])
    (line 1 (decorator_form (v 2)) ∷ short 1 other 3 ∷ []) MisplacedClause refl refl

else_inside : FirstFault [] (head 0 matches ∷ short 1 other 2 ∷ short 1 else_header 3 ∷ []) (short 1 else_header 3 ∷ []) MisplacedClause
else_inside = refused (head 0 matches ∷ short 1 other 2 ∷ short 1 else_header 3 ∷ []) (short 1 else_header 3 ∷ []) MisplacedClause refl refl

statement_after_case : FirstFault [] (head 0 matches ∷ short 1 other 2 ∷ says 1 3 ∷ []) (says 1 3 ∷ []) MisplacedClause
statement_after_case = refused (head 0 matches ∷ short 1 other 2 ∷ says 1 3 ∷ []) (says 1 3 ∷ []) MisplacedClause refl refl

-- an `else` after a `match`, and a decorator in front of one
else_after : FirstFault [] (head 0 matches ∷ short 1 other 2 ∷ short 0 else_header 3 ∷ []) (short 0 else_header 3 ∷ []) MisplacedClause
else_after = refused (head 0 matches ∷ short 1 other 2 ∷ short 0 else_header 3 ∷ []) (short 0 else_header 3 ∷ []) MisplacedClause refl refl

decorated_match : FirstFault [] (line 0 (decorator_form (v 2)) ∷ head 0 matches ∷ short 1 other 3 ∷ [])
    (head 0 matches ∷ short 1 other 3 ∷ []) MisplacedClause
decorated_match = refused (line 0 (decorator_form (v 2)) ∷ head 0 matches ∷ short 1 other 3 ∷ []) (head 0 matches ∷ short 1 other 3 ∷ [])
    MisplacedClause refl refl

-- a case that ends a `try`
case_after_try : FirstFault [] (head 0 matches ∷ head 1 other ∷ short 2 try_header 2 ∷ short 1 other 3 ∷ [])
    (short 1 other 3 ∷ []) MisplacedClause
case_after_try = refused (head 0 matches ∷ head 1 other ∷ short 2 try_header 2 ∷ short 1 other 3 ∷ []) (short 1 other 3 ∷ [])
    MisplacedClause refl refl

-- a case in no `match`: first of all, beside its `match`, in the block of a case
case_first : FirstFault [] (short 0 other 2 ∷ []) (short 0 other 2 ∷ []) MisplacedClause
case_first = refused (short 0 other 2 ∷ []) (short 0 other 2 ∷ []) MisplacedClause refl refl

case_beside : FirstFault [] (head 0 matches ∷ short 1 other 2 ∷ short 0 other 3 ∷ []) (short 0 other 3 ∷ []) MisplacedClause
case_beside = refused (head 0 matches ∷ short 1 other 2 ∷ short 0 other 3 ∷ []) (short 0 other 3 ∷ []) MisplacedClause refl refl

case_in_case : FirstFault [] (head 0 matches ∷ head 1 other ∷ short 2 other 3 ∷ []) (short 2 other 3 ∷ []) MisplacedClause
case_in_case = refused (head 0 matches ∷ head 1 other ∷ short 2 other 3 ∷ []) (short 2 other 3 ∷ []) MisplacedClause refl refl

-- nothing deeper after a case, and something deeper after one with its suite
case_alone : FirstFault [] (head 0 matches ∷ head 1 other ∷ short 1 other 2 ∷ []) (short 1 other 2 ∷ []) ExpectedIndent
case_alone = refused (head 0 matches ∷ head 1 other ∷ short 1 other 2 ∷ []) (short 1 other 2 ∷ []) ExpectedIndent refl refl

deeper_after_case : FirstFault [] (head 0 matches ∷ short 1 other 2 ∷ says 2 3 ∷ []) (says 2 3 ∷ []) UnexpectedIndent
deeper_after_case = refused (head 0 matches ∷ short 1 other 2 ∷ says 2 3 ∷ []) (says 2 3 ∷ []) UnexpectedIndent refl refl

-- ---- Trees.

-- two cases, the first with a guard, and a statement after them
two_cases : Block 0 (head 0 matches ∷ head 1 (case_header (value 2) (Some (v 3))) ∷ says 2 4 ∷ says 2 5 ∷ short 1 other 6 ∷ says 0 7 ∷ [])
    (Match (v 1) (cases (case_of (value 2) (Some (v 3)) (s 4 ++ s 5) ∷ case_of any None (s 6) ∷ [])) ∷ s 7)
two_cases = read_gives _ _ refl refl

-- a `match` in a case, and one in the suite of an `if`
match_in_case : Block 0 (head 0 (if_header (v 1)) ∷ head 1 matches ∷ head 2 other ∷ head 3 matches ∷ short 4 (case_header (value 2) None) 3
    ∷ short 2 other 4 ∷ short 0 else_header 5 ∷ [])
    (If (v 1)
    (stmts (Match (v 1) (cases (case_of any None (Match (v 1) (cases (case_of (value 2) None (s 3) ∷ [])) ∷ []) ∷ case_of any
    None (s 4) ∷ [])) ∷ []))
    (stmts (s 5)) ∷ [])
match_in_case = read_gives _ _ refl refl

-- the header of a `match` with a suite would be lost: no terminals give one
improper : (are_proper (short 0 matches 2 ∷ []) ≡ false) × (read (short 0 matches 2 ∷ []) ≡ Fine [])
improper = (refl, refl)

-- ---- Depths: a case is no statement.

flat_cases : Agrees (head 0 matches ∷ short 1 (case_header (value 2) None) 2 ∷ head 1 other ∷ says 2 3 ∷ []) 2
flat_cases = (refl, refl)

deep_cases : Agrees (head 0 matches ∷ head 1 other ∷ head 2 (if_header (v 1)) ∷ short 3 (if_header (v 1)) 2 ∷ short 1
    other 3 ∷ says 0 4 ∷ []) 4
deep_cases = (refl, refl)

nested : Agrees (head 0 matches ∷ head 1 other ∷ head 2 matches ∷ head 3 other ∷ head 4 (def_header (class_head (3 ∷ []) [] [] no_keyword))
    ∷ says 5 3 ∷ short 1 other 3 ∷ []) 4
nested = (refl, refl)

tries : Agrees (head 0 try_header ∷ head 1 matches ∷ short 2 other 3 ∷ short 0 finally_header 5 ∷ []) 3
tries = (refl, refl)

-- 499 `match`s round a statement are the most, also where the last case has it in its line
matchings : ℕ → ℕ → List Line → List Line
matchings zero l rest = rest
matchings (suc n) l rest = head l matches ∷ head (l + 1) other ∷ matchings n (l + 2) rest

most : first_deep [] (matchings 499 0 (says 998 2 ∷ [])) ≡ None
unfolding matchings
most = refl

one_more : first_deep [] (matchings 500 0 (says 1000 2 ∷ [])) ≡ Some 1000
unfolding matchings
one_more = refl

one_more_in_line : first_deep [] (matchings 499 0 (head 998 matches ∷ short 999 other 2 ∷ [])) ≡ Some 999
unfolding matchings
one_more_in_line = refl
