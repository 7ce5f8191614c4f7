-- The blocks of a list of logical lines (reference 8 and 10): which statements the lines are, and which line is faulty
-- where they are none.
use Rattle.std.specs.Prelude.{◌≡◌, ℕ, suc, ◌<◌, ◌≤◌, Bool, true, false, ◌==◌, nat_lt, cond, List, [], ◌∷◌, ◌++◌, Option, Some, None}
pub use Rattle.pytoken.specs.Indentation.{same_bool}
use Rattle.pytree_node.specs.Trees.{Expr, Identifier, Pattern, Stmt, Case, Handler, Item, If, Match, cases, stmts}
use Rattle.pygrammar.specs.Lines.{Line, line, Form, simple_form, decorator_form, header_form, Header, if_header, elif_header, else_header}
use Rattle.pygrammar.specs.Lines.{loop_header, with_header, try_header, except_header, finally_header, def_header, match_header}
use Rattle.pygrammar.specs.Lines.{case_header, LoopHead, DefHead, opens, loop, with_of, definition, try_of}

-- ---- The tree.

abbrev pub handler : Option Expr → Option Identifier → List Stmt → Handler
handler class name body = record { class = class; name = name; body = body }

abbrev pub case_of : Pattern → Option Expr → List Stmt → Case
case_of pattern guard body = record { pattern = pattern; guard = guard; body = body }

mutual
  -- the lines of a level from one statement on, and their statements
  pub data Block : ℕ → List Line → List Stmt → Type 0 where
    nothing : {l : ℕ} → Block l [] []
    and_then : {l : ℕ} {xs ys : List Line} {ss more : List Stmt} →
        Statement l xs ss → Block l ys more → Block l (xs ++ ys) (ss ++ more)

  -- the lines of one statement, its clauses and their blocks among them; a line of simple statements is several
  pub data Statement : ℕ → List Line → List Stmt → Type 0 where
    simple_line : {l : ℕ} {ss : List Stmt} →
        Statement l (line l (simple_form ss) ∷ []) ss
    if_statement : {l : ℕ} {test : Expr} {suite : Option (List Stmt)} {xs ys : List Line} {body orelse : List Stmt} →
        Body l suite xs body → Alternative l ys orelse →
        Statement l (line l (header_form (if_header test) suite) ∷ (xs ++ ys)) (If test (stmts body) (stmts orelse) ∷ [])
    loop_statement : {l : ℕ} {head : LoopHead} {suite : Option (List Stmt)} {xs ys : List Line} {body orelse : List Stmt} →
        Body l suite xs body → Otherwise l ys orelse →
        Statement l (line l (header_form (loop_header head) suite) ∷ (xs ++ ys)) (loop head body orelse ∷ [])
    with_statement : {l : ℕ} {is_async : Bool} {items : List Item} {suite : Option (List Stmt)} {xs : List Line} {body : List Stmt} →
        Body l suite xs body →
        Statement l (line l (header_form (with_header is_async items) suite) ∷ xs) (with_of is_async items body ∷ [])
    try_finally : {l : ℕ} {suite last : Option (List Stmt)} {xs ys : List Line} {body final : List Stmt} →
        Body l suite xs body → Body l last ys final →
        Statement l (line l (header_form try_header suite) ∷ (xs ++ (line l (header_form finally_header last) ∷ ys)))
        (try_of false body [] [] final ∷ [])
    try_except : {l : ℕ} {star : Bool} {suite : Option (List Stmt)} {xs ys zs ws : List Line} {body orelse final : List Stmt}
        {h : Handler} {hs : List Handler} →
        Body l suite xs body → Excepts l star ys (h ∷ hs) → Otherwise l zs orelse → Ending l ws final →
        Statement l (line l (header_form try_header suite) ∷ (xs ++ (ys ++ (zs ++ ws)))) (try_of star body (h ∷ hs) orelse final ∷ [])
    definition_of : {l : ℕ} (head : DefHead) {suite : Option (List Stmt)} {ds xs : List Line} {es : List Expr} {body : List Stmt} →
        Decorators l ds es → Body l suite xs body →
        Statement l (ds ++ (line l (header_form (def_header head) suite) ∷ xs)) (definition es head body ∷ [])
    match_statement : {l : ℕ} {subject : Expr} {x : Line} {xs : List Line} {cs : List Case} →
        Cases (suc l) (x ∷ xs) cs →
        Statement l (line l (header_form (match_header subject) None) ∷ (x ∷ xs)) (Match subject (cases cs) ∷ [])

  -- the block of a header: its inline suite, or the lines one level deeper that follow it, of which there is one at least
  pub data Body : ℕ → Option (List Stmt) → List Line → List Stmt → Type 0 where
    inline : {l : ℕ} {ss : List Stmt} → Body l (Some ss) [] ss
    indented : {l : ℕ} {x : Line} {xs : List Line} {ss : List Stmt} → Block (suc l) (x ∷ xs) ss → Body l None (x ∷ xs) ss

  -- what follows an `if` or `elif`: an `elif` is an If inside the one before
  pub data Alternative : ℕ → List Line → List Stmt → Type 0 where
    an_else : {l : ℕ} {xs : List Line} {orelse : List Stmt} → Otherwise l xs orelse → Alternative l xs orelse
    an_elif : {l : ℕ} {test : Expr} {suite : Option (List Stmt)} {xs ys : List Line} {body orelse : List Stmt} →
        Body l suite xs body → Alternative l ys orelse →
        Alternative l (line l (header_form (elif_header test) suite) ∷ (xs ++ ys)) (If test (stmts body) (stmts orelse) ∷ [])

  -- perhaps an `else`
  pub data Otherwise : ℕ → List Line → List Stmt → Type 0 where
    no_else : {l : ℕ} → Otherwise l [] []
    else_clause : {l : ℕ} {suite : Option (List Stmt)} {xs : List Line} {body : List Stmt} →
        Body l suite xs body → Otherwise l (line l (header_form else_header suite) ∷ xs) body

  -- `except` clauses of one kind
  pub data Excepts : ℕ → Bool → List Line → List Handler → Type 0 where
    no_except : {l : ℕ} {star : Bool} → Excepts l star [] []
    except_clause : {l : ℕ} {star : Bool} {matched : Option Expr} {name : Option Identifier} {suite : Option (List Stmt)}
        {xs ys : List Line} {body : List Stmt} {hs : List Handler} →
        Body l suite xs body → Excepts l star ys hs →
        Excepts l star (line l (header_form (except_header star matched name) suite) ∷ (xs ++ ys)) (handler matched name body ∷ hs)

  -- the lines of a `match`, one level deeper: cases alone
  pub data Cases : ℕ → List Line → List Case → Type 0 where
    no_case : {l : ℕ} → Cases l [] []
    case_clause : {l : ℕ} {pattern : Pattern} {guard : Option Expr} {suite : Option (List Stmt)} {xs ys : List Line}
        {body : List Stmt} {cs : List Case} →
        Body l suite xs body → Cases l ys cs →
        Cases l (line l (header_form (case_header pattern guard) suite) ∷ (xs ++ ys)) (case_of pattern guard body ∷ cs)

  -- perhaps a `finally`
  pub data Ending : ℕ → List Line → List Stmt → Type 0 where
    no_finally : {l : ℕ} → Ending l [] []
    finally_clause : {l : ℕ} {suite : Option (List Stmt)} {xs : List Line} {body : List Stmt} →
        Body l suite xs body → Ending l (line l (header_form finally_header suite) ∷ xs) body

  -- decorators, each a line of its own
  pub data Decorators : ℕ → List Line → List Expr → Type 0 where
    no_decorator : {l : ℕ} → Decorators l [] []
    decorator : {l : ℕ} {e : Expr} {xs : List Line} {es : List Expr} →
        Decorators l xs es → Decorators l (line l (decorator_form e) ∷ xs) (e ∷ es)

-- ---- The faults. The lines before a line are given nearest first.

pub data Fault : Type 0 where
  ExpectedIndent : Fault
  UnexpectedIndent : Fault
  MisplacedClause : Fault

-- what the rules ask of a line
pub data Kind : Type 0 where
  SimpleLine : Kind
  DecoratorLine : Kind
  IfLine : Kind
  ElifLine : Kind
  ElseLine : Kind
  LoopLine : Kind
  WithLine : Kind
  TryLine : Kind
  ExceptLine : Bool → Kind  -- whether it has a star
  FinallyLine : Kind
  DefLine : Kind
  MatchLine : Kind
  CaseLine : Kind
  EndLine : Kind  -- ENDMARKER, at level 0 after the last line

abbrev pub header_kind : Header → Kind
header_kind (if_header _) = IfLine
header_kind (elif_header _) = ElifLine
header_kind else_header = ElseLine
header_kind (loop_header _) = LoopLine
header_kind (with_header _ _) = WithLine
header_kind try_header = TryLine
header_kind (except_header star _ _) = ExceptLine star
header_kind finally_header = FinallyLine
header_kind (def_header _) = DefLine
header_kind (match_header _) = MatchLine
header_kind (case_header _ _) = CaseLine

abbrev pub kind_of : Form → Kind
kind_of (simple_form _) = SimpleLine
kind_of (decorator_form _) = DecoratorLine
kind_of (header_form h _) = header_kind h

-- the nearest earlier line of at most this level, if it is of this level, and the lines before it
abbrev pub previous : ℕ → List Line → List Line
previous l [] = []
previous l (x ∷ earlier) = cond (nat_lt l x.level) (previous l earlier) (cond (x.level == l) (x ∷ earlier) [])

-- whether there is a first line, and it is of such a kind
abbrev pub begins_with : (Kind → Bool) → List Line → Bool
begins_with p [] = false
begins_with p (x ∷ _) = p (kind_of x.form)

abbrev pub is_if_or_elif : Kind → Bool
is_if_or_elif IfLine = true
is_if_or_elif ElifLine = true
is_if_or_elif _ = false

abbrev pub is_except : Kind → Bool
is_except (ExceptLine _) = true
is_except _ = false

abbrev pub takes_else : Kind → Bool
takes_else IfLine = true
takes_else ElifLine = true
takes_else LoopLine = true
takes_else (ExceptLine _) = true
takes_else _ = false

abbrev pub takes_except : Bool → Kind → Bool
takes_except _ TryLine = true
takes_except star (ExceptLine other) = same_bool star other
takes_except _ _ = false

-- a `finally` follows a `try`, an `except`, or an `else` that follows an `except`
abbrev pub takes_finally : List Line → Bool
takes_finally [] = false
takes_finally (x ∷ more) = elim (kind_of x.form) [
  | TryLine ↦ true
  | ExceptLine _ ↦ true
  | ElseLine ↦ begins_with is_except (previous x.level more)
  | _ ↦ false
]

-- whether a line of this kind may follow its previous line; only clauses ask something of it
abbrev pub may_follow : Kind → List Line → Bool
may_follow ElifLine before = begins_with is_if_or_elif before
may_follow ElseLine before = begins_with takes_else before
may_follow (ExceptLine star) before = begins_with (takes_except star) before
may_follow FinallyLine before = takes_finally before
may_follow _ _ = true

abbrev pub is_try_clause : Kind → Bool
is_try_clause (ExceptLine _) = true
is_try_clause FinallyLine = true
is_try_clause _ = false

abbrev pub is_decorated : Kind → Bool
is_decorated DecoratorLine = true
is_decorated DefLine = true
is_decorated _ = false

abbrev pub is_match : Kind → Bool
is_match MatchLine = true
is_match _ = false

abbrev pub is_case : Kind → Bool
is_case CaseLine = true
is_case _ = false

-- a line of this level stands in a `match`: the nearest earlier line of a lower level is the header of one
abbrev pub stands_in_match : ℕ → List Line → Bool
stands_in_match l [] = false
stands_in_match l (x ∷ earlier) = cond (nat_lt x.level l) (is_match (kind_of x.form)) (stands_in_match l earlier)

-- the level of the line before, and whether its block follows; the first line is taken to follow one of level 0 without a block
abbrev pub level_before : List Line → ℕ
level_before [] = 0
level_before (x ∷ _) = x.level

abbrev pub opens_before : List Line → Bool
opens_before [] = false
opens_before (x ∷ _) = opens x.form

pub data Misplaced (earlier : List Line) (l : ℕ) (k : Kind) : Type 0 where
  -- a clause whose previous line takes none such
  not_taken : may_follow k (previous l earlier) ≡ false → Misplaced earlier l k
  -- the first line after a `try` that isn't deeper than it, where it is no `except` or `finally` of its level
  ends_try : {x : Line} {more : List Line} (m : ℕ) → previous m earlier ≡ x ∷ more → kind_of x.form ≡ TryLine →
      l ≤ m → (l ≡ m → is_try_clause k ≡ false) → Misplaced earlier l k
  -- the line after a decorator, where it is no decorator, `def` or `class` of its level
  ends_decorators : {x : Line} {more : List Line} → earlier ≡ x ∷ more → kind_of x.form ≡ DecoratorLine →
      (l ≡ x.level → is_decorated k ≡ false) → Misplaced earlier l k
  -- in a `match` a line that is no case, or elsewhere a case
  not_by_place : same_bool (stands_in_match l earlier) (is_case k) ≡ false → Misplaced earlier l k

-- a line of level l and kind k has this fault
pub data HasFault (earlier : List Line) (l : ℕ) (k : Kind) : Fault → Type 0 where
  not_deeper : opens_before earlier ≡ true → l ≤ level_before earlier → HasFault earlier l k ExpectedIndent
  far_deeper : suc (level_before earlier) < l → HasFault earlier l k UnexpectedIndent
  opens_none : l ≡ suc (level_before earlier) → opens_before earlier ≡ false → HasFault earlier l k UnexpectedIndent
  misplaced : Misplaced earlier l k → HasFault earlier l k MisplacedClause

-- the order in which the faults of one line are looked for
abbrev pub comes_before : Fault → Fault → Bool
comes_before ExpectedIndent UnexpectedIndent = true
comes_before ExpectedIndent MisplacedClause = true
comes_before UnexpectedIndent MisplacedClause = true
comes_before _ _ = false

-- the line has no fault
pub record IsClear (earlier : List Line) (l : ℕ) (k : Kind) : Type 0 where
  pub none : (f : Fault) → HasFault earlier l k f → ⊥

-- the line has this fault, and none that comes before it in the order
pub record IsFault (earlier : List Line) (l : ℕ) (k : Kind) (f : Fault) : Type 0 where
  pub has : HasFault earlier l k f
  pub first : (e : Fault) → comes_before e f ≡ true → HasFault earlier l k e → ⊥

-- none of these lines is faulty, nor ENDMARKER after them
pub data IsFaultless : List Line → List Line → Type 0 where
  clear_end : {earlier : List Line} → IsClear earlier 0 EndLine → IsFaultless earlier []
  clear_line : {earlier : List Line} {x : Line} {xs : List Line} → IsClear earlier x.level (kind_of x.form) → IsFaultless (x ∷ earlier) xs
      → IsFaultless earlier (x ∷ xs)

-- the first faulty line with the lines after it (where there is none, ENDMARKER is faulty), and its fault
pub data FirstFault : List Line → List Line → List Line → Fault → Type 0 where
  fault_at_end : {earlier : List Line} {f : Fault} → IsFault earlier 0 EndLine f → FirstFault earlier [] [] f
  fault_at : {earlier : List Line} {x : Line} {xs : List Line} {f : Fault} → IsFault earlier x.level (kind_of x.form) f
      → FirstFault earlier (x ∷ xs) (x ∷ xs) f
  fault_after : {earlier : List Line} {x : Line} {xs rest : List Line} {f : Fault} → IsClear earlier x.level (kind_of x.form)
      → FirstFault (x ∷ earlier) xs rest f → FirstFault earlier (x ∷ xs) rest f
