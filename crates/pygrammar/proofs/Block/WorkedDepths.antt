-- Worked rows: how deep lines reach and how high their tree is, both computed.
--
-- Carries: Agrees, for WorkedMatches; no contract. On: Worked, Heights.
use Rattle.std.proofs.Common.{◌≡◌, ℕ, zero, suc, ◌+◌, List, [], ◌∷◌, Some, None, false, replicate, refl}
use Rattle.pytree_node.specs.Trees.{no_keyword}
use Rattle.pygrammar.specs.Lines.{Line, line, decorator_form, if_header, elif_header, else_header, loop_header, with_header, try_header}
use Rattle.pygrammar.specs.Lines.{except_header, finally_header, def_header, while_head, for_head, class_head}
use Rattle.pygrammar.specs.Reading.{Fine, Faulty, read}
use Rattle.pygrammar.specs.Depths.{first_deep}
use Rattle.pygrammar.proofs.Block.Heights.{high, deepest}
use Rattle.pygrammar.proofs.Block.Worked.{v, says, head, short}

-- the lines reach this deep, and their tree is this high
abbrev pub Agrees : List Line → ℕ → Type 0
Agrees xs n = (deepest [] xs ≡ n) × (elim (read xs) [ Fine ss ↦ high ss | Faulty f ↦ 0 ] ≡ n)

-- an `elif` is an If inside the one before, and the `else` is the last one's
elifs : Agrees (short 0 (if_header (v 1)) 2 ∷ short 0 (elif_header (v 3)) 4 ∷ head 0 (elif_header (v 5)) ∷ says 1 6 ∷
    short 0 else_header 7 ∷ []) 4
elifs = (refl, refl)

-- without the `else`, and with a deep block in the first
first_deeper : Agrees (head 0 (if_header (v 1)) ∷ head 1 (if_header (v 1)) ∷ head 2 (if_header (v 1)) ∷ says 3 2 ∷ short 0
    (elif_header (v 3)) 4 ∷ []) 4
first_deeper = (refl, refl)

-- an `if` with `elif`s inside the block of an `elif`
nested : Agrees (short 0 (if_header (v 1)) 2 ∷ head 0 (elif_header (v 3)) ∷ short 1 (if_header (v 1)) 2 ∷ short 1 (elif_header (v 3)) 4 ∷
    short 0 else_header 7 ∷ says 0 8 ∷ []) 5
nested = (refl, refl)

-- `while` and `for` with an `else`
loops : Agrees (head 0 (loop_header (while_head (v 1))) ∷ says 1 2 ∷ head 0 else_header ∷ short 1 (loop_header (for_head false (v 1) (v 2)))
    3 ∷ short 1 else_header 4 ∷ []) 3
loops = (refl, refl)

-- a `try` with all its clauses; a handler's block is inside the `try`
tries : Agrees (short 0 try_header 1 ∷ short 0 (except_header false (Some (v 2)) None) 3 ∷ head 0 (except_header false None None) ∷ short 1
    (with_header false []) 2 ∷ short 0 else_header 4 ∷ short 0 finally_header 5 ∷ []) 3
tries = (refl, refl)

try_alone : Agrees (short 0 try_header 1 ∷ head 0 finally_header ∷ short 1 (if_header (v 1)) 2 ∷ []) 3
try_alone = (refl, refl)

-- an `else` after an `if` with `elif`s is not that of a `try` after it
tries_after : Agrees (short 0 (if_header (v 1)) 2 ∷ short 0 (elif_header (v 3)) 4 ∷ short 0 try_header 1 ∷ short 0
    (except_header false None None) 3 ∷ short 0 else_header 4 ∷ []) 3
tries_after = (refl, refl)

-- decorators begin their definition
decorated : Agrees (line 0 (decorator_form (v 1)) ∷ line 0 (decorator_form (v 2)) ∷ head 0
    (def_header (class_head (3 ∷ []) [] [] no_keyword)) ∷ line 1 (decorator_form (v 1)) ∷ short 1
    (def_header (class_head (3 ∷ []) [] [] no_keyword)) 4 ∷ []) 3
decorated = (refl, refl)

empty : Agrees [] 0
empty = (refl, refl)

-- The limit: 499 `if`s round a statement are the most, also where the last has it in its
-- line, and so are 498 `elif`s.

ifs : ℕ → ℕ → List Line → List Line
ifs zero l rest = rest
ifs (suc n) l rest = head l (if_header (v 1)) ∷ ifs n (l + 1) rest

most : first_deep [] (ifs 499 0 (says 499 2 ∷ [])) ≡ None
unfolding ifs
most = refl

one_more : first_deep [] (ifs 500 0 (says 500 2 ∷ [])) ≡ Some 500
unfolding ifs
one_more = refl

one_more_in_line : first_deep [] (ifs 499 0 (short 499 (if_header (v 1)) 2 ∷ [])) ≡ Some 499
unfolding ifs
one_more_in_line = refl

most_arms : first_deep [] (short 0 (if_header (v 1)) 2 ∷ replicate 498 (short 0 (elif_header (v 1)) 2)) ≡ None
most_arms = refl

one_more_arm : first_deep [] (short 0 (if_header (v 1)) 2 ∷ replicate 499 (short 0 (elif_header (v 1)) 2)) ≡ Some 499
one_more_arm = refl
