-- The reading of blocks goes through the lines of each statement of the
-- relation, and gives its tree.
--
-- Carries: choice-append, for Blocks. On: Steps.
use Rattle.std.proofs.Common.{◌≡◌, ℕ, suc, List, [], ◌∷◌, ◌++◌, length, Option, Some, None, Bool, true, false, cond, refl, sym, ap, ◌∙◌}
use Rattle.std.proofs.Common.{subst, arith, append_assoc, append-nil}
use Rattle.pytree_node.specs.Trees.{Expr, Stmt, Case, Handler, If, Match, cases, stmts}
use Rattle.pygrammar.specs.Lines.{Line, line, Form, simple_form, decorator_form, header_form, Header, if_header, elif_header, else_header}
use Rattle.pygrammar.specs.Lines.{loop_header, with_header, try_header, except_header, finally_header, def_header, match_header}
use Rattle.pygrammar.specs.Lines.{case_header, DefHead, loop, definition, try_of}
use Rattle.pygrammar.specs.Blocks.{handler, case_of, same_bool, MisplacedClause, Block, Statement, Body, Alternative, Otherwise, Excepts}
use Rattle.pygrammar.specs.Blocks.{Cases, Ending, Decorators, nothing, and_then, simple_line, if_statement, loop_statement, with_statement}
use Rattle.pygrammar.specs.Blocks.{try_finally, try_except, definition_of, match_statement, inline, indented, an_else, an_elif, no_else}
use Rattle.pygrammar.specs.Blocks.{else_clause, no_except, except_clause, no_case, case_clause, no_finally, finally_clause, no_decorator}
use Rattle.pygrammar.specs.Blocks.{decorator}
use Rattle.pygrammar.specs.Reading.{Answer, Fine, Faulty, then, Arm, arm, Group, Idle, Marked, Choice, Loop, Trial, Caught, Settled}
use Rattle.pygrammar.specs.Reading.{Matching, choice, closes, PartialBlock, part, ended, meets, grows, decorated, or_misplaced}
use Rattle.pygrammar.specs.Reading.{place_header}
use Rattle.pygrammar.specs.Reading.{Waiting, waiting, State, state, start, joined, first_group, above, settle, place, run, finish, read}
use Rattle.pygrammar.proofs.Block.Steps.{then_then, run-append, closes_above, settle_here, settle_block, step_here}

-- whether a level still has had no line
abbrev pub still : List Line → Bool → Bool
still [] f = f
still (_ ∷ _) f = false

still-append : (xs ys : List Line) (f : Bool) → still (xs ++ ys) f ≡ still ys (still xs f)
still-append [] ys f = refl
still-append (x ∷ xs) [] f = refl
still-append (x ∷ xs) (y ∷ ys) f = refl

-- from a level with these statements and this group the lines lead to those
pub record Leads (l : ℕ) (xs : List Line) (d : List Stmt) (g : Group) (d' : List Stmt) (g' : Group) : Type 0 where
  pub go : (s : State) (f : Bool) (below : List Waiting) → length below ≡ l → settle l s ≡ Fine (state d g f below) →
      then (run xs s) (settle l) ≡ Fine (state d' g' (still xs f) below)

leads_none : (l : ℕ) (d : List Stmt) (g : Group) → Leads l [] d g d g
leads_none l d g = record { go = λ s f below n h. h }

go_on : (l : ℕ) (ys : List Line) (d1 d2 : List Stmt) (g1 g2 : Group) → Leads l ys d1 g1 d2 g2
    → (f : Bool) (below : List Waiting) → length below ≡ l →
    (a : Answer State) → then a (settle l) ≡ Fine (state d1 g1 f below)
    → then a (λ t. then (run ys t) (settle l)) ≡ Fine (state d2 g2 (still ys f) below)
go_on l ys d1 d2 g1 g2 q f below n (Fine t) h = q.go t f below n h
go_on l ys d1 d2 g1 g2 q f below n (Faulty e) h = cc

leads-append : {l : ℕ} {xs ys : List Line} {d d1 d2 : List Stmt} {g g1 g2 : Group} → Leads l xs d g d1 g1 → Leads l ys d1 g1 d2 g2
    → Leads l (xs ++ ys) d g d2 g2
leads-append {l} {xs} {ys} {d} {d1} {d2} {g} {g1} {g2} p q = record {
  go = λ s f below n h.
      ap (λ a. then a (settle l)) (run-append xs ys s)
      ∙ then_then (run xs s) (run ys) (settle l)
      ∙ go_on l ys d1 d2 g1 g2 q (still xs f) below n (run xs s) (p.go s f below n h)
      ∙ ap (λ b. Fine (state d2 g2 b below)) (sym (still-append xs ys f));
}

leads_to : {l : ℕ} {xs : List Line} {d d1 d2 : List Stmt} {g g1 g2 : Group} → d1 ≡ d2 → g1 ≡ g2
    → Leads l xs d g d1 g1 → Leads l xs d g d2 g2
leads_to {l} {xs} {d} {d1} {d2} {g} {g1} {g2} e k p = subst (λ z. Leads l xs d g d2 z) k (subst (λ z. Leads l xs d g z g1) e p)

-- one line that opens no block
one_line : (l : ℕ) (f : Form) (d d' : List Stmt) (g g' : Group)
    → ((b : Bool) (below : List Waiting) → place (state d g b below) f ≡ Fine (state d' g' false below)) →
    Leads l (line l f ∷ []) d g d' g'
one_line l f d d' g g' e = record {
  go = λ s b below n h.
      ap (λ a. then (then a (run [])) (settle l)) (step_here s l f (state d g b below) n h ∙ e b below)
      ∙ settle_here l d' g' false below (omega (arith, n));
}

-- the statements come to this whole when the group ends
pub record Closing (l : ℕ) (xs : List Line) (d : List Stmt) (g : Group) (whole : List Stmt) : Type 0 where
  pub done : List Stmt
  pub group : Group
  pub last : List Stmt
  pub closed : closes group ≡ Some last
  pub is : done ++ last ≡ whole
  pub leads : Leads l xs d g done group

closing-append : {l : ℕ} {xs ys : List Line} {d d1 : List Stmt} {g g1 : Group} {whole : List Stmt} → Leads l xs d g d1 g1
    → Closing l ys d1 g1 whole → Closing l (xs ++ ys) d g whole
closing-append p c = record { done = c.done; group = c.group; last = c.last; closed = c.closed; is = c.is; leads = leads-append p c.leads }

closing_to : {l : ℕ} {xs : List Line} {d : List Stmt} {g : Group} {v w : List Stmt} → v ≡ w → Closing l xs d g v → Closing l xs d g w
closing_to e c = record { done = c.done; group = c.group; last = c.last; closed = c.closed; is = c.is ∙ e; leads = c.leads }

-- lines after which no group is open
closing_whole : {l : ℕ} {xs : List Line} {d d' : List Stmt} {g : Group} → Leads l xs d g d' Idle → Closing l xs d g d'
closing_whole {l} {xs} {d} {d'} p = record { done = d'; group = Idle; last = []; closed = refl; is = append-nil d'; leads = p }

-- what has to be shown of a block's and a statement's lines
abbrev pub Gives : ℕ → List Line → List Stmt → Type 0
Gives l xs ss = (d : List Stmt) (g : Group) (more : List Stmt) → closes g ≡ Some more → Closing l xs d g ((d ++ more) ++ ss)

-- a header with its block, but that of a `match`
abbrev pub GivesBody : ℕ → Option (List Stmt) → List Line → List Stmt → Type 0
GivesBody l suite xs body = (d : List Stmt) (g : Group) (h : Header) (p : PartialBlock) → first_group h ≡ Idle → meets g h ≡ Some p →
    Leads l (line l (header_form h suite) ∷ xs) d g (joined (d ++ p.done) p.group h body).done (joined (d ++ p.done) p.group h body).group

body_inline : (l : ℕ) (ss : List Stmt) → GivesBody l (Some ss) [] ss
body_inline l ss d g h p i e =
    one_line l (header_form h (Some ss)) d (joined (d ++ p.done) p.group h ss).done g (joined (d ++ p.done) p.group h ss).group
    (λ b below. ap (λ o. or_misplaced o (place_header (state d g b below) h (Some ss))) e)

after_block : (l : ℕ) (d1 : List Stmt) (g1 : Group) (w : Waiting) (below : List Waiting) (p : PartialBlock)
    → above w d1 g1 ≡ Some p → length below ≡ l →
    (a : Answer State) → then a (settle (suc l)) ≡ Fine (state d1 g1 false (w ∷ below))
    → then a (settle l) ≡ Fine (state p.done p.group false below)
after_block l d1 g1 w below p c n (Fine t) h = settle_block l t d1 g1 w below p n h c
after_block l d1 g1 w below p c n (Faulty f) h = cc

-- a header whose block is the lines that follow
with_lines : (l : ℕ) (x : Line) (xs : List Line) (d d1 : List Stmt) (g g1 : Group) (h : Header) (p q : PartialBlock) → meets g h ≡ Some p →
    Leads (suc l) (x ∷ xs) [] (first_group h) d1 g1 → above (waiting (d ++ p.done) p.group h) d1 g1 ≡ Some q →
    Leads l (line l (header_form h None) ∷ (x ∷ xs)) d g q.done q.group
with_lines l x xs d d1 g g1 h p q e c u = record {
  go = λ s f below n k.
      let w : Waiting = waiting (d ++ p.done) p.group h in
      ap (λ a. then (then a (run (x ∷ xs))) (settle l)) (step_here s l (header_form h None) (state d g f below) n k
      ∙ ap (λ o. or_misplaced o (place_header (state d g f below) h None)) e)
      ∙ after_block l d1 g1 w below q u n (run (x ∷ xs) (state [] (first_group h) true (w ∷ below)))
      (c.go (state [] (first_group h) true (w ∷ below)) true (w ∷ below) (ap suc n)
      (settle_here (suc l) [] (first_group h) true (w ∷ below) (omega (arith, n))));
}

body_indented : (l : ℕ) (x : Line) (xs : List Line) (ss : List Stmt) → Gives (suc l) (x ∷ xs) ss → GivesBody l None (x ∷ xs) ss
body_indented l x xs ss ih d g h p i e =
    let c : Closing (suc l) (x ∷ xs) [] Idle ss = ih [] Idle [] refl in
    let w : Waiting = waiting (d ++ p.done) p.group h in
    let P : Group → Type 0 = λ z. Leads (suc l) (x ∷ xs) [] z c.done c.group in
    with_lines l x xs d c.done g c.group h p (joined w.done w.group w.header ss) e (subst P (sym i) c.leads)
    (closes_above w c.done c.group c.last c.closed ∙ ap (λ z. Some (joined w.done w.group w.header z)) c.is)

-- groups that a new statement ends
ends_def : (g : Group) (head : DefHead) (more : List Stmt) → closes g ≡ Some more → meets g (def_header head) ≡ Some (part more Idle)
ends_def Idle head more e = ap (λ o. elim o [ None ↦ None | Some ss ↦ Some (part ss Idle) ]) e
ends_def (Marked es) head more e = cc
ends_def (Choice arms) head more e = ap (λ o. elim o [ None ↦ None | Some ss ↦ Some (part ss Idle) ]) e
ends_def (Loop h b) head more e = ap (λ o. elim o [ None ↦ None | Some ss ↦ Some (part ss Idle) ]) e
ends_def (Trial b) head more e = cc
ends_def (Caught s b hs) head more e = ap (λ o. elim o [ None ↦ None | Some ss ↦ Some (part ss Idle) ]) e
ends_def (Settled s b hs o) head more e = ap (λ o. elim o [ None ↦ None | Some ss ↦ Some (part ss Idle) ]) e
ends_def (Matching cs) head more e = cc

ends_marked : (g : Group) (x : Expr) (more : List Stmt) → closes g ≡ Some more → decorated g x ≡ Some (part more (Marked (x ∷ [])))
ends_marked Idle x more e = ap (λ o. elim o [ None ↦ None | Some ss ↦ Some (part ss (Marked (x ∷ []))) ]) e
ends_marked (Marked es) x more e = cc
ends_marked (Choice arms) x more e = ap (λ o. elim o [ None ↦ None | Some ss ↦ Some (part ss (Marked (x ∷ []))) ]) e
ends_marked (Loop h b) x more e = ap (λ o. elim o [ None ↦ None | Some ss ↦ Some (part ss (Marked (x ∷ []))) ]) e
ends_marked (Trial b) x more e = cc
ends_marked (Caught s b hs) x more e = ap (λ o. elim o [ None ↦ None | Some ss ↦ Some (part ss (Marked (x ∷ []))) ]) e
ends_marked (Settled s b hs o) x more e = ap (λ o. elim o [ None ↦ None | Some ss ↦ Some (part ss (Marked (x ∷ []))) ]) e
ends_marked (Matching cs) x more e = cc

ends : (g : Group) (more : List Stmt) → closes g ≡ Some more → ended g ≡ Some (part more Idle)
ends g more e = ap (λ o. elim o [ None ↦ None | Some ss ↦ Some (part ss Idle) ]) e

pub choice-append : (arms : List Arm) (a : Arm) (orelse : List Stmt) → choice (arms ++ a ∷ []) orelse ≡ choice arms (choice (a ∷ []) orelse)
choice-append [] a orelse = refl
choice-append (b ∷ arms) a orelse = ap (λ z. If b.test (stmts b.body) (stmts z) ∷ []) (choice-append arms a orelse)

same_self : (b : Bool) → same_bool b b ≡ true
same_self true = refl
same_self false = refl

-- a last clause that may be left out, and makes the group whole
last_clause : {l : ℕ} {suite : Option (List Stmt)} {xs : List Line} {body : List Stmt} (h : Header) (whole : List Stmt → List Stmt)
    (d : List Stmt) (g : Group) →
    first_group h ≡ Idle → GivesBody l suite xs body → meets g h ≡ Some (part [] g) → grows g h body ≡ part (whole body) Idle →
    Closing l (line l (header_form h suite) ∷ xs) d g (d ++ whole body)
last_clause {l} {suite} {xs} {body} h whole d g i b m e =
    closing_whole (leads_to (ap (λ p. (d ++ []) ++ p.done) e ∙ ap (λ z. z ++ whole body) (append-nil d)) (ap (λ p. p.group) e)
    (b d g h (part [] g) i m))

no_clause : (l : ℕ) (whole : List Stmt → List Stmt) (d : List Stmt) (g : Group) → closes g ≡ Some (whole [])
    → Closing l [] d g (d ++ whole [])
no_clause l whole d g e = record { done = d; group = g; last = whole []; closed = e; is = refl; leads = leads_none l d g }

-- what has to be shown of the clauses
abbrev pub GivesLast : ℕ → Header → List Line → List Stmt → Type 0
GivesLast l h xs body = (whole : List Stmt → List Stmt) (d : List Stmt) (g : Group) → closes g ≡ Some (whole [])
    → meets g h ≡ Some (part [] g) →
    ((b : List Stmt) → grows g h b ≡ part (whole b) Idle) → Closing l xs d g (d ++ whole body)

abbrev pub GivesAlternative : ℕ → List Line → List Stmt → Type 0
GivesAlternative l xs orelse = (d : List Stmt) (arms : List Arm) → Closing l xs d (Choice arms) (d ++ choice arms orelse)

abbrev pub GivesExcepts : ℕ → Bool → List Line → List Handler → Type 0
GivesExcepts l star xs hs = (d body : List Stmt) (first : List Handler)
    → Leads l xs d (Caught star body first) d (Caught star body (first ++ hs))

abbrev pub GivesCases : ℕ → List Line → List Case → Type 0
GivesCases l xs cs = (d : List Stmt) (first : List Case) → Leads l xs d (Matching first) d (Matching (first ++ cs))

-- after the `except`s and perhaps an `else`
pub record Last (l : ℕ) (xs : List Line) (star : Bool) (body : List Stmt) (hs : List Handler) (orelse : List Stmt)
    (d : List Stmt) : Type 0 where
  pub group : Group
  pub leads : Leads l xs d (Caught star body hs) d group
  pub closed : closes group ≡ Some (try_of star body hs orelse [] ∷ [])
  pub meeting : meets group finally_header ≡ Some (part [] group)
  pub growing : (b : List Stmt) → grows group finally_header b ≡ part (try_of star body hs orelse b ∷ []) Idle

abbrev pub GivesElse : ℕ → List Line → List Stmt → Type 0
GivesElse l xs orelse = GivesLast l else_header xs orelse × ((star : Bool) (body : List Stmt) (hs : List Handler) (d : List Stmt)
    → Last l xs star body hs orelse d)

no_else_gives : (l : ℕ) → GivesElse l [] []
no_else_gives l = (
  λ whole d g c m e. no_clause l whole d g c,
  λ star body hs d. record {
    group = Caught star body hs;
    leads = leads_none l d (Caught star body hs);
    closed = refl;
    meeting =
        refl;
    growing = λ b. refl;
  },
)

else_gives : (l : ℕ) (suite : Option (List Stmt)) (xs : List Line) (orelse : List Stmt) → GivesBody l suite xs orelse
    → GivesElse l (line l (header_form else_header suite) ∷ xs) orelse
else_gives l suite xs orelse b = (
  λ whole d g c m e. last_clause else_header whole d g refl b m (e orelse),
  λ star body hs d. record {
    group = Settled star body hs orelse;
    leads = leads_to (append-nil (d ++ []) ∙ append-nil d) refl
        (b d (Caught star body hs) else_header (part [] (Caught star body hs)) refl refl);
    closed = refl;
    meeting = refl;
    growing = λ b. refl;
  },
)

-- decorators after decorators
marked_goes : {l : ℕ} {ds : List Line} {es : List Expr} → Decorators l ds es → (d : List Stmt) (first : List Expr)
    → Leads l ds d (Marked first) d (Marked (first ++ es))
marked_goes {l} no_decorator d first = leads_to refl (ap Marked (sym (append-nil first))) (leads_none l d (Marked first))
marked_goes {l} (decorator {e = e} {xs = xs} {es = es} p) d first =
    leads_to refl (ap Marked (append_assoc first (e ∷ []) es))
    (leads-append (one_line l (decorator_form e) d d (Marked first) (Marked (first ++ e ∷ []))
    (λ b below. ap (λ z. Fine (state z (Marked (first ++ e ∷ [])) false below)) (append-nil d)))
    (marked_goes p d (first ++ e ∷ [])))

definition_gives : {l : ℕ} (head : DefHead) {suite : Option (List Stmt)} {ds xs : List Line} {es : List Expr} {body : List Stmt} →
    Decorators l ds es → GivesBody l suite xs body → Gives l (ds ++ (line l (header_form (def_header head) suite) ∷ xs))
    (definition es head body ∷ [])
definition_gives head {body = body} no_decorator b d g more c =
    closing_whole (b d g (def_header head) (part more Idle) refl (ends_def g head more c))
definition_gives {l} head {body = body} (decorator {e = e} {xs = ds} {es = es} p) b d g more c =
    closing_whole (leads-append
    (leads-append (one_line l (decorator_form e) d (d ++ more) g (Marked (e ∷ []))
    (λ f below. ap (λ o. or_misplaced o (λ p. state (d ++ p.done) p.group false below)) (ends_marked g e more c)))
    (marked_goes p (d ++ more) (e ∷ [])))
    (leads_to (ap (λ z. z ++ (definition (e ∷ es) head body ∷ [])) (append-nil (d ++ more))) refl
    (b (d ++ more) (Marked (e ∷ es)) (def_header head) (part [] (Marked (e ∷ es))) refl refl)))

-- a `match` and its cases
match_gives : (l : ℕ) (subject : Expr) (x : Line) (xs : List Line) (cs : List Case) → GivesCases (suc l) (x ∷ xs) cs →
    Gives l (line l (header_form (match_header subject) None) ∷ (x ∷ xs)) (Match subject (cases cs) ∷ [])
match_gives l subject x xs cs ih d g more c =
    closing_whole (with_lines l x xs d [] g (Matching cs) (match_header subject) (part more Idle)
    (part ((d ++ more) ++ (Match subject (cases cs) ∷ [])) Idle) (ends g more c) (ih [] []) refl)

pub no_gap : (d x : List Stmt) → (d ++ []) ++ x ≡ d ++ x
no_gap d x = ap (λ z. z ++ x) (append-nil d)

finishes : (a : Answer State) (d : List Stmt) (g : Group) (f : Bool) (last ss : List Stmt) → then a (settle 0) ≡ Fine (state d g f [])
    → closes g ≡ Some last → d ++ last ≡ ss → then a finish ≡ Fine ss
finishes (Faulty e) d g f last ss h c i = cc
finishes (Fine t) d g f last ss h c i =
    ap (λ z. then z (λ t. elim (closes t.group) [ None ↦ Faulty MisplacedClause | Some ss ↦ Fine (t.done ++ ss) ])) h
    ∙ ap (λ o. elim o [ None ↦ Faulty MisplacedClause | Some ss ↦ Fine (d ++ ss) ]) c
    ∙ ap Fine i

same_fine : (a b : List Stmt) → Fine a ≡ Fine b → a ≡ b
same_fine a b e = cc

mutual
  pub block_gives : {l : ℕ} {xs : List Line} {ss : List Stmt} → Block l xs ss → Gives l xs ss
  block_gives {l} nothing d g more c = record {
    done = d;
    group = g;
    last = more;
    closed = c;
    is = sym (append-nil (d ++ more));
    leads = leads_none l d g;
  }
  block_gives {l} (and_then {ss = ss} {more = rest} p q) d g more c =
      let a = statement_gives p d g more c in
      closing_to (ap (λ z. z ++ rest) a.is ∙ append_assoc (d ++ more) ss rest)
      (closing-append a.leads (block_gives q a.done a.group a.last a.closed))

  pub statement_gives : {l : ℕ} {xs : List Line} {ss : List Stmt} → Statement l xs ss → Gives l xs ss
  statement_gives {l} (simple_line {ss = ss}) d g more c =
      closing_whole (one_line l (simple_form ss) d ((d ++ more) ++ ss) g Idle
      (λ f below. ap (λ o. or_misplaced o (λ more. state ((d ++ more) ++ ss) Idle false below)) c))
  statement_gives {l} (if_statement {test = test} {body = body} {orelse = orelse} p q) d g more c =
      closing_to (no_gap (d ++ more) (choice (arm test body ∷ []) orelse))
      (closing-append (body_gives p d g (if_header test) (part more Idle) refl (ends g more c))
      (alternative_gives q ((d ++ more) ++ []) (arm test body ∷ [])))
  statement_gives {l} (loop_statement {head = head} {body = body} {orelse = orelse} p q) d g more c =
      closing_to (no_gap (d ++ more) (loop head body orelse ∷ []))
      (closing-append (body_gives p d g (loop_header head) (part more Idle) refl (ends g more c))
      ((else_clause_gives q).0 (λ o. loop head body o ∷ []) ((d ++ more) ++ []) (Loop head body) refl refl (λ b. refl)))
  statement_gives {l} (with_statement {is_async = a} {items = items} p) d g more c =
      closing_whole (body_gives p d g (with_header a items) (part more Idle) refl (ends g more c))
  statement_gives {l} (try_finally {body = body} {final = final} p q) d g more c =
      closing_to (no_gap (d ++ more) (try_of false body [] [] final ∷ []))
      (closing-append (body_gives p d g try_header (part more Idle) refl (ends g more c))
      (last_clause finally_header (λ f. try_of false body [] [] f ∷ []) ((d ++ more) ++ []) (Trial body) refl (body_gives q) refl refl))
  statement_gives {l} (try_except {star = star} {body = body} {orelse = orelse} {final = final} p
      (except_clause {matched = m} {name = n} {body = first} {hs = hs} r q) o e) d g more c =
      let z : List Stmt = (d ++ more) ++ [] in
      let k = (else_clause_gives o).1 star body (handler m n first ∷ hs) z in
      closing_to (no_gap (d ++ more) (try_of star body (handler m n first ∷ hs) orelse final ∷ []))
      (closing-append (body_gives p d g try_header (part more Idle) refl (ends g more c))
      (closing-append (leads-append
      (leads_to (append-nil (z ++ []) ∙ append-nil z) refl (body_gives r z (Trial body) (except_header star m n)
      (part [] (Trial body)) refl refl))
      (excepts_gives q z body (handler m n first ∷ [])))
      (closing-append k.leads
      (ending_gives e (λ f. try_of star body (handler m n first ∷ hs) orelse f ∷ []) z k.group k.closed k.meeting k.growing))))
  statement_gives {l} (definition_of head p q) d g more c = definition_gives head p (body_gives q) d g more c
  statement_gives {l} (match_statement {subject = subject} {x = x} {xs = xs} {cs = cs} p) d g more c =
      match_gives l subject x xs cs (cases_gives p) d g more c

  pub body_gives : {l : ℕ} {suite : Option (List Stmt)} {xs : List Line} {ss : List Stmt} → Body l suite xs ss → GivesBody l suite xs ss
  body_gives {l} (inline {ss = ss}) = body_inline l ss
  body_gives {l} (indented {x = x} {xs = xs} {ss = ss} p) = body_indented l x xs ss (block_gives p)

  pub alternative_gives : {l : ℕ} {xs : List Line} {ss : List Stmt} → Alternative l xs ss → GivesAlternative l xs ss
  alternative_gives (an_else p) d arms = (else_clause_gives p).0 (choice arms) d (Choice arms) refl refl (λ b. refl)
  alternative_gives {l} (an_elif {test = test} {body = body} {orelse = orelse} p q) d arms =
      closing_to (ap (λ z. d ++ z) (choice-append arms (arm test body) orelse))
      (closing-append
      (leads_to (append-nil (d ++ []) ∙ append-nil d) refl
      (body_gives p d (Choice arms) (elif_header test) (part [] (Choice arms)) refl refl))
      (alternative_gives q d (arms ++ arm test body ∷ [])))

  pub else_clause_gives : {l : ℕ} {xs : List Line} {ss : List Stmt} → Otherwise l xs ss → GivesElse l xs ss
  else_clause_gives {l} no_else = no_else_gives l
  else_clause_gives {l} (else_clause {suite = suite} {xs = xs} {body = body} p) = else_gives l suite xs body (body_gives p)

  pub excepts_gives : {l : ℕ} {star : Bool} {xs : List Line} {hs : List Handler} → Excepts l star xs hs → GivesExcepts l star xs hs
  excepts_gives {l} {star} no_except d body first = leads_to refl (ap (Caught star body) (sym (append-nil first)))
      (leads_none l d (Caught star body first))
  excepts_gives {l} {star} (except_clause {matched = m} {name = n} {body = b} {hs = hs} p q) d body first =
      leads_to refl (ap (Caught star body) (append_assoc first (handler m n b ∷ []) hs))
      (leads-append
      (leads_to (append-nil (d ++ []) ∙ append-nil d) refl
      (body_gives p d (Caught star body first) (except_header star m n) (part [] (Caught star body first)) refl
      (ap (λ b. cond b (Some (part [] (Caught star body first))) None) (same_self star))))
      (excepts_gives q d body (first ++ handler m n b ∷ [])))

  pub cases_gives : {l : ℕ} {xs : List Line} {cs : List Case} → Cases l xs cs → GivesCases l xs cs
  cases_gives {l} no_case d first = leads_to refl (ap Matching (sym (append-nil first))) (leads_none l d (Matching first))
  cases_gives {l} (case_clause {pattern = pattern} {guard = guard} {body = b} {cs = cs} p q) d first =
      leads_to refl (ap Matching (append_assoc first (case_of pattern guard b ∷ []) cs))
      (leads-append
      (leads_to (append-nil (d ++ []) ∙ append-nil d) refl (body_gives p d (Matching first) (case_header pattern guard)
      (part [] (Matching first)) refl refl))
      (cases_gives q d (first ++ case_of pattern guard b ∷ [])))

  pub ending_gives : {l : ℕ} {xs : List Line} {ss : List Stmt} → Ending l xs ss → GivesLast l finally_header xs ss
  ending_gives {l} no_finally whole d g c m e = no_clause l whole d g c
  ending_gives {l} (finally_clause {body = body} p) whole d g c m e = last_clause finally_header whole d g refl (body_gives p) m (e body)

-- the whole text
pub read_block : {xs : List Line} {ss : List Stmt} → Block 0 xs ss → read xs ≡ Fine ss
read_block {xs} {ss} p =
    let c = block_gives p [] Idle [] refl in
    let h : then (run xs start) (settle 0) ≡ Fine (state c.done c.group (still xs false) []) = c.leads.go start false [] refl refl in
    finishes (run xs start) c.done c.group (still xs false) c.last ss h c.closed c.is

pub one_tree : {xs : List Line} {a b : List Stmt} → Block 0 xs a → Block 0 xs b → a ≡ b
one_tree {xs} {a} {b} p q = same_fine a b (sym (read_block p) ∙ read_block q)
