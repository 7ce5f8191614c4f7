-- The spans that lines leave are the places of each derivation of their statements.
--
-- Carries: PlaceStack. On: Adding, Settling.
use Rattle.std.proofs.Common.{◌≡◌, refl, sym, ap, ◌∙◌, ℕ, suc, arith, Bool, true, false, List, [], ◌∷◌, ◌++◌, length, take, drop}
use Rattle.std.proofs.Common.{append_assoc, append-nil, length-append, Option, None, Some}
use Rattle.pytree_node.specs.Trees.{Expr, Identifier, Stmt, Case, Handler, Item}
use Rattle.pygrammar.specs.Lines.{Line, line, DefHead, Header, if_header, elif_header, else_header, loop_header, with_header, try_header}
use Rattle.pygrammar.specs.Lines.{except_header, finally_header, def_header, match_header, case_header, decorator_form, header_form}
use Rattle.pygrammar.specs.Lines.{simple_form}
use Rattle.pygrammar.specs.Blocks.{header_kind, is_except, Block, Statement, Body, Alternative, Otherwise, Excepts, Cases, Ending}
use Rattle.pygrammar.specs.Blocks.{Decorators, nothing, and_then, simple_line, if_statement, loop_statement, with_statement, try_finally}
use Rattle.pygrammar.specs.Blocks.{try_except, definition_of, match_statement, inline, indented, an_else, an_elif, no_else, else_clause}
use Rattle.pygrammar.specs.Blocks.{no_except, except_clause, no_case, case_clause, no_finally, finally_clause, no_decorator, decorator}
use Rattle.pyplaces.specs.Stretches.{Span}
use Rattle.pyplaces.specs.BlockPlaces.{LinePlaces, own, decorator_places, block_places, statement_places, definition_places, final_places}
use Rattle.pyplaces.specs.BlockPlaces.{body_places, alternative_places, otherwise_places, handlers_places, cases_places, ending_places}
use Rattle.pyplaces.proofs.Laws.Blocks.{definition_is}
use Rattle.pyplaces.specs.Steps.{OpenNode, node, State, state, is_clause, begins_node, is_definition, settle_in, settle, place, step}
use Rattle.pyplaces.specs.Steps.{run}
use Rattle.pyplaces.proofs.Settling.{ended, stays, steady, resumed, below_within, inner_within, handler_ends, lasts_at_clause}
use Rattle.pyplaces.proofs.Adding.{stops, ending_stops, front_fits, back_fits, over, Reads, reads_none, reads_both, Leads, leads}
use Rattle.pyplaces.proofs.Adding.{leads_then, GoesOn, goes_on_by, Bodies, before_in, clause_reads, node_reads, closed}
use Rattle.pyplaces.proofs.Adding.{choice_goes_on}

-- ---- Clauses.

clause_leads : (l : ℕ) (h : Header) (suite : Option (List Stmt)) (xs : List Line) (ps : LinePlaces → List LinePlaces → List Span) →
    begins_node (header_kind h) ≡ false → is_clause (header_kind h) ≡ true → Bodies l suite xs ps →
    Leads l true (line l (header_form h suite)) xs (λ z zs. before_in h z ++ ps z zs)
clause_leads l h suite xs ps n c p z zs s sp os e f k =
    clause_reads l h suite xs ps n c p z zs s sp os e f k ∙ ap (λ t. state t [] os (stops z.whole.stop zs))
    (append_assoc sp (before_in h z) (ps z zs))

handler_leads : (l : ℕ) (star : Bool) (matched : Option Expr) (name : Option Identifier) (suite : Option (List Stmt)) (xs : List Line)
    (ps : LinePlaces → List LinePlaces → List Span) →
    Bodies l suite xs ps → Leads l true (line l (header_form (except_header star matched name) suite)) xs
    (λ z zs. z.before ++ (ps z zs ++ own z zs))
handler_leads l star matched name suite xs ps p z zs s sp os e f k =
    let h = except_header star matched name in
    let all = (sp ++ z.before) ++ ps z zs in
    let opened = node l true z.whole.start [] in
    let stop = stops z.whole.stop zs in
    resumed (suc l) false l true (below_within l true) (run xs zs (step s (line l (header_form h suite)) z)) all [] (opened ∷ os) stop
    (node_reads l true h suite xs ps refl refl p z zs s sp [] os e f k)
    ∙ (ended l true all [] opened os stop (handler_ends l z.whole.start [])
    ∙ (ap (λ x. settle_in l true (all ++ (x ∷ [])) [] os stop) (sym (ending_stops z.whole.start z zs))
    ∙ (stays l true (all ++ own z zs) [] os stop (steady l true s sp [] os e k)
    ∙ ap (λ x. state x [] os stop) (append_assoc (sp ++ z.before) (ps z zs) (own z zs) ∙ append_assoc sp z.before (ps z zs ++ own z zs)))))

-- ---- Statements.

-- of a header, its body, and clauses
statement_leads : (l : ℕ) (h : Header) (suite : Option (List Stmt)) (xs ys : List Line) (ps : LinePlaces → List LinePlaces → List Span)
    (qs : List LinePlaces → List Span) →
    begins_node (header_kind h) ≡ true → is_clause (header_kind h) ≡ false → is_except (header_kind h) ≡ false
    → is_definition (header_kind h) ≡ false →
    Bodies l suite xs ps → GoesOn l ys qs →
    Leads l false (line l (header_form h suite)) (xs ++ ys)
    (λ z zs. before_in h z ++ (ps z (take (length xs) zs) ++ (qs (drop (length xs) zs) ++ own z zs)))
statement_leads l h suite xs ys ps qs n i x d p q z zs s sp os e f k =
    choice_goes_on l false h suite xs ys ps qs n i x d p q z zs s sp os e f k
    ∙ stays l false (sp ++ (before_in h z ++ (ps z (take (length xs) zs) ++ (qs (drop (length xs) zs) ++ own z zs)))) [] os
    (stops z.whole.stop zs) (steady l false s sp [] os e k)

-- an `elif` that others may follow
elifs_go_on : (l : ℕ) (h : Header) (suite : Option (List Stmt)) (xs ys : List Line) (ps : LinePlaces → List LinePlaces → List Span)
    (qs all : List LinePlaces → List Span) →
    begins_node (header_kind h) ≡ true → is_clause (header_kind h) ≡ true → is_except (header_kind h) ≡ false
    → is_definition (header_kind h) ≡ false →
    Bodies l suite xs ps → GoesOn l ys qs →
    ((z : LinePlaces) (zs : List LinePlaces)
    → before_in h z ++ (ps z (take (length xs) zs) ++ (qs (drop (length xs) zs) ++ own z zs)) ≡ all (z ∷ zs)) →
    GoesOn l (line l (header_form h suite) ∷ (xs ++ ys)) all
elifs_go_on l h suite xs ys ps qs all n i x d p q r [] s sp os e f k = absurd (omega (arith, f))
elifs_go_on l h suite xs ys ps qs all n i x d p q r (z ∷ zs) s sp os e f k =
    choice_goes_on l true h suite xs ys ps qs n i x d p q z zs s sp os e (omega (arith, f)) k
    ∙ ap (λ t. settle_in l false (sp ++ t) [] os (stops z.whole.stop zs)) (r z zs)

simple_leads : (l : ℕ) (ss : List Stmt) → Leads l false (line l (simple_form ss)) [] (λ z zs. z.suite)
simple_leads l ss z [] s sp os e f k =
    ap (λ t. settle l false (place t l (simple_form ss) z)) k ∙ stays l false (sp ++ z.suite) [] os z.whole.stop
    (steady l false s sp [] os e k)
simple_leads l ss z (w ∷ zs) s sp os e f k = absurd (omega (arith, f))

with_leads : (l : ℕ) (is_async : Bool) (items : List Item) (suite : Option (List Stmt)) (xs : List Line) (ps : LinePlaces
    → List LinePlaces → List Span) →
    Bodies l suite xs ps → Leads l false (line l (header_form (with_header is_async items) suite)) xs
    (λ z zs. z.before ++ (ps z zs ++ own z zs))
with_leads l is_async items suite xs ps p z zs s sp os e f k =
    let h = with_header is_async items in
    let all = (sp ++ z.before) ++ ps z zs in
    let stop = stops z.whole.stop zs in
    resumed (suc l) false l false (below_within l false) (run xs zs (step s (line l (header_form h suite)) z)) all []
    (node l false z.whole.start [] ∷ os) stop
    (node_reads l false h suite xs ps refl refl p z zs s sp [] os e f k)
    ∙ (closed l z zs all [] os
    ∙ (stays l false (all ++ own z zs) [] os stop (steady l false s sp [] os e k)
    ∙ ap (λ x. state x [] os stop) (append_assoc (sp ++ z.before) (ps z zs) (own z zs) ∙ append_assoc sp z.before (ps z zs ++ own z zs))))

match_leads : (l : ℕ) (subject : Expr) (xs : List Line) (ps : List LinePlaces → List Span) → Reads (suc l) true xs ps →
    Leads l false (line l (header_form (match_header subject) None)) xs (λ z zs. z.before ++ (ps zs ++ own z zs))
match_leads l subject xs ps p z zs s sp os e f k =
    let x = line l (header_form (match_header subject) None) in
    let opened = node l false z.whole.start [] in
    let stop = stops z.whole.stop zs in
    let placed : settle (suc l) true (step s x z) ≡ state (sp ++ z.before) [] (opened ∷ os) z.whole.stop =
    ap (λ t. settle (suc l) true (place t l (header_form (match_header subject) None) z)) k
    ∙ (stays (suc l) true ((sp ++ z.before) ++ []) [] (opened ∷ os) z.whole.stop (lasts_at_clause l z.whole.start [])
    ∙ ap (λ t. state t [] (opened ∷ os) z.whole.stop) (append-nil (sp ++ z.before))) in
    let all = (sp ++ z.before) ++ ps zs in
    resumed (suc l) true l false (inner_within l) (run xs zs (step s x z)) all [] (opened ∷ os) stop
    (p zs (step s x z) (sp ++ z.before) (opened ∷ os) z.whole.stop f placed)
    ∙ (closed l z zs all [] os
    ∙ (stays l false (all ++ own z zs) [] os stop (steady l false s sp [] os e k)
    ∙ ap (λ t. state t [] os stop) (append_assoc (sp ++ z.before) (ps zs) (own z zs) ∙ append_assoc sp z.before (ps zs ++ own z zs))))

-- ---- Definitions.

decorators_read : {l : ℕ} {xs : List Line} {es : List Expr} → Decorators l xs es → (zs : List LinePlaces) (s : State) (sp ds : List Span)
    (os : List OpenNode) (e : ℕ) →
    length zs ≡ length xs → settle l false s ≡ state sp ds os e
    → settle l false (run xs zs s) ≡ state sp (ds ++ decorator_places zs) os (stops e zs)
decorators_read no_decorator [] s sp ds os e f k = k ∙ ap (λ t. state sp t os e) (sym (append-nil ds))
decorators_read no_decorator (z ∷ zs) s sp ds os e f k = absurd (omega (arith, f))
decorators_read (decorator d) [] s sp ds os e f k = absurd (omega (arith, f))
decorators_read {l} (decorator {e = value} d) (z ∷ zs) s sp ds os e f k =
    decorators_read d zs (step s (line l (decorator_form value)) z) sp (ds ++ z.before) os z.whole.stop (omega (arith, f))
    (ap (λ t. settle l false (place t l (decorator_form value) z)) k ∙ stays l false sp (ds ++ z.before) os z.whole.stop
    (steady l false s sp ds os e k))
    ∙ ap (λ t. state sp t os (stops z.whole.stop zs)) (append_assoc ds z.before (decorator_places zs))

definition_reads : {l : ℕ} {suite : Option (List Stmt)} {xs : List Line} {ss : List Stmt} (head : DefHead) (b : Body l suite xs ss) →
    Bodies l suite xs (λ z zs. body_places z zs b) → (ds zs : List LinePlaces) (s : State) (sp : List Span) (os : List OpenNode) (e : ℕ) →
    length zs ≡ suc (length xs) → settle l false s ≡ state sp (decorator_places ds) os e →
    settle l false (run (line l (header_form (def_header head) suite) ∷ xs) zs s) ≡ state
    (sp ++ definition_places ds zs b) [] os (stops e zs)
definition_reads head b p ds [] s sp os e f k = absurd (omega (arith, f))
definition_reads {l} {suite} {xs} head b p ds (z ∷ zs) s sp os e f k =
    let h = def_header head in
    let body = body_places z zs b in
    let all = (sp ++ z.before) ++ body in
    let bs = decorator_places ds ++ z.following in
    let stop = stops z.whole.stop zs in
    resumed (suc l) false l false (below_within l false) (run xs zs (step s (line l (header_form h suite)) z)) all []
    (node l false z.whole.start bs ∷ os) stop
    (node_reads l false h suite xs (λ z zs. body_places z zs b) refl refl p z zs s sp (decorator_places ds) os e (omega (arith, f)) k)
    ∙ (closed l z zs all bs os
    ∙ (stays l false (all ++ (bs ++ own z zs)) [] os stop (steady l false s sp (decorator_places ds) os e k)
    ∙ ap (λ t. state t [] os stop)
    (append_assoc (sp ++ z.before) body (bs ++ own z zs)
    ∙ (append_assoc sp z.before (body ++ (bs ++ own z zs))
    ∙ ap (λ t. sp ++ t) (ap (λ t. z.before ++ (body ++ t)) (append_assoc (decorator_places ds) z.following (own z zs))
    ∙ sym (definition_is ds z zs b))))))

decorated_reads : {l : ℕ} {suite : Option (List Stmt)} {xs ds : List Line} {es : List Expr} {ss : List Stmt} (head : DefHead)
    (d : Decorators l ds es) (b : Body l suite xs ss) →
    Bodies l suite xs (λ z zs. body_places z zs b) →
    Reads l false (ds ++ (line l (header_form (def_header head) suite) ∷ xs)) (λ zs. statement_places zs (definition_of head d b))
decorated_reads {l} {suite} {xs} {ds} head d b p [] s sp os e f k =
    let x = line l (header_form (def_header head) suite) in absurd (omega (arith, f, length-append ds (x ∷ xs)))
decorated_reads {l} {suite} {xs} {ds} head d b p (z ∷ zs) s sp os e f k =
    let x = line l (header_form (def_header head) suite) in
    let front = take (length ds) (z ∷ zs) in
    let back = drop (length ds) (z ∷ zs) in
    over l false ds (x ∷ xs) (z ∷ zs) s e (λ t. state (sp ++ definition_places front back b) [] os t)
    (definition_reads head b p front back (run ds front s) sp os (stops e front) (back_fits ds (x ∷ xs) (z ∷ zs) f)
    (decorators_read d front s sp [] os e (front_fits ds (x ∷ xs) (z ∷ zs) f) k))

-- ---- Bodies.

inline_reads : (l : ℕ) (ss : List Stmt) → Bodies l (Some ss) [] (λ z zs. z.suite)
inline_reads l ss z [] sp os e f k = stays (suc l) false (sp ++ z.suite) [] os e k
inline_reads l ss z (w ∷ zs) sp os e f k = absurd (omega (arith, f))

indented_reads : (l : ℕ) (xs : List Line) (ps : List LinePlaces → List Span) → Reads (suc l) false xs ps → Bodies l None xs (λ z. ps)
indented_reads l xs ps p z zs sp os e f k =
    p zs (state (sp ++ []) [] os e) sp os e f (stays (suc l) false (sp ++ []) [] os e k ∙ ap (λ t. state t [] os e) (append-nil sp))

final_is : {l : ℕ} {suite : Option (List Stmt)} {xs : List Line} {ss : List Stmt} (b : Body l suite xs ss) (z : LinePlaces)
    (zs : List LinePlaces) → body_places z zs b ≡ final_places (z ∷ zs) b
final_is inline z zs = refl
final_is (indented b) z zs = refl

-- the end of a statement with three kinds of clauses
three : (a b c d : List Span) → (a ++ (b ++ c)) ++ d ≡ a ++ (b ++ (c ++ d))
three a b c d = append_assoc a (b ++ c) d ∙ ap (λ t. a ++ t) (append_assoc b c d)

-- ---- All of them.

mutual
  pub block_reads : {l : ℕ} {xs : List Line} {ss : List Stmt} (b : Block l xs ss) → Reads l false xs (λ zs. block_places zs b)
  block_reads {l} nothing = reads_none l false
  block_reads {l} (and_then {xs = xs} {ys = ys} p q) =
      reads_both l false xs ys (λ zs. statement_places zs p) (λ zs. block_places zs q) (statement_reads p) (block_reads q)

  statement_reads : {l : ℕ} {xs : List Line} {ss : List Stmt} (p : Statement l xs ss) → Reads l false xs (λ zs. statement_places zs p)
  statement_reads {l} (simple_line {ss = ss}) =
      leads l false (line l (simple_form ss)) [] (λ z zs. z.suite) (λ zs. statement_places zs (simple_line {l = l} {ss = ss}))
      (simple_leads l ss) (λ z zs. refl)
  statement_reads {l} (if_statement {test = test} {suite = suite} {xs = xs} {ys = ys} b a) =
      leads l false (line l (header_form (if_header test) suite)) (xs ++ ys)
      (λ z zs. z.before ++ (body_places z (take (length xs) zs) b ++ (alternative_places (drop (length xs) zs) a ++ own z zs)))
      (λ zs. statement_places zs (if_statement {test = test} b a))
      (statement_leads l (if_header test) suite xs ys (λ z zs. body_places z zs b) (λ zs. alternative_places zs a) refl refl refl refl
      (body_reads b) (alternative_goes_on a))
      (λ z zs. refl)
  statement_reads {l} (loop_statement {head = head} {suite = suite} {xs = xs} {ys = ys} b o) =
      leads l false (line l (header_form (loop_header head) suite)) (xs ++ ys)
      (λ z zs. z.before ++ (body_places z (take (length xs) zs) b ++ (otherwise_places (drop (length xs) zs) o ++ own z zs)))
      (λ zs. statement_places zs (loop_statement {head = head} b o))
      (statement_leads l (loop_header head) suite xs ys (λ z zs. body_places z zs b) (λ zs. otherwise_places zs o) refl refl
      refl refl (body_reads b)
      (goes_on_by l ys (λ zs. otherwise_places zs o) (otherwise_reads o)))
      (λ z zs. refl)
  statement_reads {l} (with_statement {is_async = is_async} {items = items} {suite = suite} {xs = xs} b) =
      leads l false (line l (header_form (with_header is_async items) suite)) xs (λ z zs. z.before ++ (body_places z zs b ++ own z zs))
      (λ zs. statement_places zs (with_statement {is_async = is_async} {items = items} b))
      (with_leads l is_async items suite xs (λ z zs. body_places z zs b) (body_reads b))
      (λ z zs. refl)
  statement_reads {l} (try_finally {suite = suite} {last = last} {xs = xs} {ys = ys} b f) =
      let final = line l (header_form finally_header last) in
      leads l false (line l (header_form try_header suite)) (xs ++ (final ∷ ys))
      (λ z zs. body_places z (take (length xs) zs) b ++ (final_places (drop (length xs) zs) f ++ own z zs))
      (λ zs. statement_places zs (try_finally b f))
      (statement_leads l try_header suite xs (final ∷ ys) (λ z zs. body_places z zs b) (λ zs. final_places zs f) refl refl
      refl refl (body_reads b)
      (goes_on_by l (final ∷ ys) (λ zs. final_places zs f)
      (leads l true final ys (λ z zs. body_places z zs f) (λ zs. final_places zs f)
      (clause_leads l finally_header last ys (λ z zs. body_places z zs f) refl refl (body_reads f)) (final_is f))))
      (λ z zs. refl)
  statement_reads {l} (try_except {star = star} {suite = suite} {xs = xs} {ys = ys} {zs = more} {ws = ws} b h o f) =
      let hs : List LinePlaces → List Span = λ zs. handlers_places (take (length ys) zs) h in
      let os : List LinePlaces → List Span = λ zs. otherwise_places (take (length more) (drop (length ys) zs)) o in
      let fs : List LinePlaces → List Span = λ zs. ending_places (drop (length more) (drop (length ys) zs)) f in
      leads l false (line l (header_form try_header suite)) (xs ++ (ys ++ (more ++ ws)))
      (λ z zs. body_places z (take (length xs) zs) b ++
      ((hs (drop (length xs) zs) ++ (os (drop (length xs) zs) ++ fs (drop (length xs) zs))) ++ own z zs))
      (λ zs. statement_places zs (try_except b h o f))
      (statement_leads l try_header suite xs (ys ++ (more ++ ws)) (λ z zs. body_places z zs b) (λ zs. hs zs ++ (os zs ++ fs zs)) refl refl
      refl refl (body_reads b)
      (goes_on_by l (ys ++ (more ++ ws)) (λ zs. hs zs ++ (os zs ++ fs zs))
      (reads_both l true ys (more ++ ws) (λ zs. handlers_places zs h) (λ zs. otherwise_places (take (length more) zs) o ++ ending_places
      (drop (length more) zs) f) (handlers_read h)
      (reads_both l true more ws (λ zs. otherwise_places zs o) (λ zs. ending_places zs f) (otherwise_reads o) (ending_reads f)))))
      (λ z zs. ap (λ t. body_places z (take (length xs) zs) b ++ t) (three (hs (drop (length xs) zs)) (os (drop (length xs) zs))
      (fs (drop (length xs) zs)) (own z zs)))
  statement_reads (definition_of head d b) = decorated_reads head d b (body_reads b)
  statement_reads {l} (match_statement {subject = subject} {x = x} {xs = xs} c) =
      leads l false (line l (header_form (match_header subject) None)) (x ∷ xs) (λ z zs. z.before ++ (cases_places zs c ++ own z zs))
      (λ zs. statement_places zs (match_statement {subject = subject} c))
      (match_leads l subject (x ∷ xs) (λ zs. cases_places zs c) (cases_read c))
      (λ z zs. refl)

  body_reads : {l : ℕ} {suite : Option (List Stmt)} {xs : List Line} {ss : List Stmt} (b : Body l suite xs ss)
      → Bodies l suite xs (λ z zs. body_places z zs b)
  body_reads {l} (inline {ss = ss}) = inline_reads l ss
  body_reads {l} (indented {x = x} {xs = xs} b) = indented_reads l (x ∷ xs) (λ zs. block_places zs b) (block_reads b)

  alternative_goes_on : {l : ℕ} {xs : List Line} {ss : List Stmt} (a : Alternative l xs ss) → GoesOn l xs (λ zs. alternative_places zs a)
  alternative_goes_on {l} (an_else {xs = xs} o) = goes_on_by l xs (λ zs. otherwise_places zs o) (otherwise_reads o)
  alternative_goes_on {l} (an_elif {test = test} {suite = suite} {xs = xs} {ys = ys} b a) =
      elifs_go_on l (elif_header test) suite xs ys (λ z zs. body_places z zs b) (λ zs. alternative_places zs a)
      (λ zs. alternative_places zs (an_elif {test = test} b a))
      refl refl refl refl (body_reads b) (alternative_goes_on a) (λ z zs. refl)

  otherwise_reads : {l : ℕ} {xs : List Line} {ss : List Stmt} (o : Otherwise l xs ss) → Reads l true xs (λ zs. otherwise_places zs o)
  otherwise_reads {l} no_else = reads_none l true
  otherwise_reads {l} (else_clause {suite = suite} {xs = xs} b) =
      leads l true (line l (header_form else_header suite)) xs (λ z zs. body_places z zs b) (λ zs. otherwise_places zs (else_clause b))
      (clause_leads l else_header suite xs (λ z zs. body_places z zs b) refl refl (body_reads b)) (λ z zs. refl)

  handlers_read : {l : ℕ} {star : Bool} {xs : List Line} {hs : List Handler} (h : Excepts l star xs hs)
      → Reads l true xs (λ zs. handlers_places zs h)
  handlers_read {l} no_except = reads_none l true
  handlers_read {l} {star} (except_clause {matched = matched} {name = name} {suite = suite} {xs = xs} {ys = ys} b h) =
      leads l true (line l (header_form (except_header star matched name) suite)) (xs ++ ys)
      (λ z zs. (z.before ++ (body_places z (take (length xs) zs) b ++ own z (take (length xs) zs))) ++ handlers_places
      (drop (length xs) zs) h)
      (λ zs. handlers_places zs (except_clause {matched = matched} {name = name} b h))
      (leads_then l true (line l (header_form (except_header star matched name) suite)) xs ys
      (λ z zs. z.before ++ (body_places z zs b ++ own z zs)) (λ zs. handlers_places zs h)
      (handler_leads l star matched name suite xs (λ z zs. body_places z zs b) (body_reads b)) (handlers_read h))
      (λ z zs. three z.before (body_places z (take (length xs) zs) b) (own z (take (length xs) zs))
      (handlers_places (drop (length xs) zs) h))

  cases_read : {l : ℕ} {xs : List Line} {cs : List Case} (c : Cases l xs cs) → Reads l true xs (λ zs. cases_places zs c)
  cases_read {l} no_case = reads_none l true
  cases_read {l} (case_clause {pattern = pattern} {guard = guard} {suite = suite} {xs = xs} {ys = ys} b c) =
      leads l true (line l (header_form (case_header pattern guard) suite)) (xs ++ ys)
      (λ z zs. (z.before ++ body_places z (take (length xs) zs) b) ++ cases_places (drop (length xs) zs) c)
      (λ zs. cases_places zs (case_clause {pattern = pattern} {guard = guard} b c))
      (leads_then l true (line l (header_form (case_header pattern guard) suite)) xs ys (λ z zs. z.before ++ body_places z zs b)
      (λ zs. cases_places zs c)
      (clause_leads l (case_header pattern guard) suite xs (λ z zs. body_places z zs b) refl refl (body_reads b)) (cases_read c))
      (λ z zs. append_assoc z.before (body_places z (take (length xs) zs) b) (cases_places (drop (length xs) zs) c))

  ending_reads : {l : ℕ} {xs : List Line} {ss : List Stmt} (f : Ending l xs ss) → Reads l true xs (λ zs. ending_places zs f)
  ending_reads {l} no_finally = reads_none l true
  ending_reads {l} (finally_clause {suite = suite} {xs = xs} b) =
      leads l true (line l (header_form finally_header suite)) xs (λ z zs. body_places z zs b) (λ zs. ending_places zs (finally_clause b))
      (clause_leads l finally_header suite xs (λ z zs. body_places z zs b) refl refl (body_reads b)) (λ z zs. refl)
