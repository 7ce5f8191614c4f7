-- Blocks read line by line: what is kept of the lines so far, and what the next line makes of it.
use Rattle.std.specs.Prelude.{ℕ, Bool, true, false, nat_lt, cond, List, [], ◌∷◌, ◌++◌, length, Option, Some, None}
use Rattle.pytree_node.specs.Trees.{Expr, Stmt, Case, Handler, If, Match, cases, stmts}
use Rattle.pygrammar.specs.Lines.{Line, Form, simple_form, decorator_form, header_form, Header, if_header, elif_header, else_header}
use Rattle.pygrammar.specs.Lines.{loop_header, with_header, try_header, except_header, finally_header, def_header, match_header}
use Rattle.pygrammar.specs.Lines.{case_header, LoopHead, loop, with_of, definition, try_of}
use Rattle.pygrammar.specs.Blocks.{case_of, handler, Fault, ExpectedIndent, UnexpectedIndent, MisplacedClause, same_bool}

pub data Answer (A : Type 0) : Type 0 where
  Fine : A → Answer A
  Faulty : Fault → Answer A

abbrev pub then : {A B : Type 0} → Answer A → (A → Answer B) → Answer B
then (Fine a) f = f a
then (Faulty e) f = Faulty e

-- an `if` or `elif` with its block
pub record Arm : Type 0 where
  pub test : Expr
  pub body : List Stmt

abbrev pub arm : Expr → List Stmt → Arm
arm test body = record { test = test; body = body }

-- the statement that a level has open, whose last clause and its block are whole
pub data Group : Type 0 where
  Idle : Group  -- none that could go on
  Marked : List Expr → Group  -- decorators
  Choice : List Arm → Group  -- an `if` and its `elif`s
  Loop : LoopHead → List Stmt → Group
  Trial : List Stmt → Group  -- a `try` alone
  Caught : Bool → List Stmt → List Handler → Group  -- a `try` and its `except`s
  Settled : Bool → List Stmt → List Handler → List Stmt → Group  -- these and an `else`
  Matching : List Case → Group  -- in the block of a `match`: its cases

-- an `if` of these arms
abbrev pub choice : List Arm → List Stmt → List Stmt
choice [] orelse = orelse
choice (a ∷ arms) orelse = If a.test (stmts a.body) (stmts (choice arms orelse)) ∷ []

-- the statements of a group that ends here
abbrev pub closes : Group → Option (List Stmt)
closes Idle = Some []
closes (Marked _) = None
closes (Choice arms) = Some (choice arms [])
closes (Loop head body) = Some (loop head body [] ∷ [])
closes (Trial _) = None
closes (Caught star body hs) = Some (try_of star body hs [] [] ∷ [])
closes (Settled star body hs orelse) = Some (try_of star body hs orelse [] ∷ [])
closes (Matching _) = None

-- statements that are whole, and a group that may go on
pub record PartialBlock : Type 0 where
  pub done : List Stmt
  pub group : Group

abbrev pub part : List Stmt → Group → PartialBlock
part done group = record { done = done; group = group }

-- the statements that a line that begins another one leaves
abbrev pub ended : Group → Option PartialBlock
ended g = elim (closes g) [ None ↦ None | Some ss ↦ Some (part ss Idle) ]

-- what a header finds: the statements that end before it, and the group that it goes on with
abbrev pub meets : Group → Header → Option PartialBlock
meets g (if_header _) = ended g
meets (Choice arms) (elif_header _) = Some (part [] (Choice arms))
meets _ (elif_header _) = None
meets (Choice arms) else_header = Some (part [] (Choice arms))
meets (Loop head body) else_header = Some (part [] (Loop head body))
meets (Caught star body hs) else_header = Some (part [] (Caught star body hs))
meets _ else_header = None
meets g (loop_header _) = ended g
meets g (with_header _ _) = ended g
meets g try_header = ended g
meets (Trial body) (except_header _ _ _) = Some (part [] (Trial body))
meets (Caught star body hs) (except_header other _ _) = cond (same_bool other star) (Some (part [] (Caught star body hs))) None
meets _ (except_header _ _ _) = None
meets (Trial body) finally_header = Some (part [] (Trial body))
meets (Caught star body hs) finally_header = Some (part [] (Caught star body hs))
meets (Settled star body hs orelse) finally_header = Some (part [] (Settled star body hs orelse))
meets _ finally_header = None
meets (Marked es) (def_header _) = Some (part [] (Marked es))
meets g (def_header _) = ended g
meets g (match_header _) = ended g
meets (Matching cs) (case_header _ _) = Some (part [] (Matching cs))
meets _ (case_header _ _) = None

-- what a header and its block make of the group that it goes on with
abbrev pub grows : Group → Header → List Stmt → PartialBlock
grows _ (if_header test) body = part [] (Choice (arm test body ∷ []))
grows (Choice arms) (elif_header test) body = part [] (Choice (arms ++ arm test body ∷ []))
grows (Choice arms) else_header body = part (choice arms body) Idle
grows (Loop head first) else_header body = part (loop head first body ∷ []) Idle
grows (Caught star first hs) else_header body = part [] (Settled star first hs body)
grows _ (loop_header head) body = part [] (Loop head body)
grows _ (with_header is_async items) body = part (with_of is_async items body ∷ []) Idle
grows _ try_header body = part [] (Trial body)
grows (Trial first) (except_header star matched name) body = part [] (Caught star first (handler matched name body ∷ []))
grows (Caught star first hs) (except_header _ matched name) body = part [] (Caught star first (hs ++ handler matched name body ∷ []))
grows (Trial first) finally_header body = part (try_of false first [] [] body ∷ []) Idle
grows (Caught star first hs) finally_header body = part (try_of star first hs [] body ∷ []) Idle
grows (Settled star first hs orelse) finally_header body = part (try_of star first hs orelse body ∷ []) Idle
grows (Marked es) (def_header head) body = part (definition es head body ∷ []) Idle
grows _ (def_header head) body = part (definition [] head body ∷ []) Idle
grows (Matching cs) (case_header pattern guard) body = part [] (Matching (cs ++ case_of pattern guard body ∷ []))
grows _ _ _ = part [] Idle

-- a level that waits for the block of its last line, a header
pub record Waiting : Type 0 where
  pub done : List Stmt
  pub group : Group
  pub header : Header

abbrev pub waiting : List Stmt → Group → Header → Waiting
waiting done group header = record { done = done; group = group; header = header }

-- what is kept: of the deepest open level its statements, its group and whether it has had no line yet;
-- and the levels below, the deepest first
pub record State : Type 0 where
  pub done : List Stmt
  pub group : Group
  pub fresh : Bool
  pub below : List Waiting

abbrev pub state : List Stmt → Group → Bool → List Waiting → State
state done group fresh below = record { done = done; group = group; fresh = fresh; below = below }

abbrev pub start : State
start = state [] Idle false []

-- the statements of a level, and after them a header with its block
abbrev pub joined : List Stmt → Group → Header → List Stmt → PartialBlock
joined done g h body = part (done ++ (grows g h body).done) (grows g h body).group

-- what the block of a header begins with
abbrev pub first_group : Header → Group
first_group (match_header _) = Matching []
first_group _ = Idle

-- the statement of a `match` and its cases
abbrev pub matched : Header → List Case → List Stmt
matched (match_header subject) cs = Match subject (cases cs) ∷ []
matched _ cs = []

-- what a level and its block make, where the block may end here
abbrev pub above : Waiting → List Stmt → Group → Option PartialBlock
above w done (Matching cs) = Some (part (w.done ++ matched w.header cs) Idle)
above w done g = elim (closes g) [ None ↦ None | Some ss ↦ Some (joined w.done w.group w.header (done ++ ss)) ]

-- the levels above l end
abbrev pub settle_in : ℕ → List Stmt → Group → Bool → List Waiting → Answer State
settle_in l done g fresh [] = Fine (state done g fresh [])
settle_in l done g fresh (w ∷ below) =
    cond (nat_lt l (length (w ∷ below)))
    (cond fresh (Faulty ExpectedIndent)
    (elim (above w done g) [
      | None ↦ Faulty MisplacedClause
      | Some p ↦ settle_in l p.done p.group false below
    ]))
    (Fine (state done g fresh (w ∷ below)))

abbrev pub settle : ℕ → State → Answer State
settle l s = settle_in l s.done s.group s.fresh s.below

-- a line of the deepest open level
abbrev pub place_header : State → Header → Option (List Stmt) → PartialBlock → State
place_header s h None p = state [] (first_group h) true (waiting (s.done ++ p.done) p.group h ∷ s.below)
place_header s h (Some suite) p =
    state (joined (s.done ++ p.done) p.group h suite).done (joined (s.done ++ p.done) p.group h suite).group false s.below

abbrev pub decorated : Group → Expr → Option PartialBlock
decorated (Marked es) e = Some (part [] (Marked (es ++ e ∷ [])))
decorated g e = elim (closes g) [ None ↦ None | Some ss ↦ Some (part ss (Marked (e ∷ []))) ]

abbrev pub or_misplaced : {A : Type 0} → Option A → (A → State) → Answer State
or_misplaced None f = Faulty MisplacedClause
or_misplaced (Some a) f = Fine (f a)

abbrev pub place : State → Form → Answer State
place s (simple_form ss) = or_misplaced (closes s.group) (λ more. state ((s.done ++ more) ++ ss) Idle false s.below)
place s (decorator_form e) = or_misplaced (decorated s.group e) (λ p. state (s.done ++ p.done) p.group false s.below)
place s (header_form h suite) = or_misplaced (meets s.group h) (place_header s h suite)

abbrev pub placed : ℕ → Form → State → Answer State
placed l f s = cond (nat_lt (length s.below) l) (Faulty UnexpectedIndent) (place s f)

abbrev pub step : State → Line → Answer State
step s x = then (settle x.level s) (placed x.level x.form)

abbrev pub run : List Line → State → Answer State
run [] s = Fine s
run (x ∷ xs) s = then (step s x) (run xs)

-- the lines from the one at which the reading stops
abbrev pub stops : List Line → State → List Line
stops [] s = []
stops (x ∷ xs) s = elim (step s x) [ Fine t ↦ stops xs t | Faulty e ↦ x ∷ xs ]

-- all levels end
abbrev pub finish : State → Answer (List Stmt)
finish s = then (settle 0 s) (λ t. elim (closes t.group) [ None ↦ Faulty MisplacedClause | Some ss ↦ Fine (t.done ++ ss) ])

abbrev pub read : List Line → Answer (List Stmt)
read xs = then (run xs start) finish
