-- Carries: the law of modules. On: the tree of lines that fit, fits.
use Rattle.std.proofs.Common.{◌≡◌, refl, ℕ, List, [], ◌∷◌, ◌++◌, Option, Some, None, Bool, true, false}
use Rattle.std.specs.Prelude.{◌&&◌}
use Rattle.std.specs.List.{list_all}
use Rattle.std.proofs.lemmas.Bool.{and_parts, and_from}
use Rattle.pytree_node.specs.declared.operators.Context.TheVariants.{Store}
use Rattle.pytree_node.specs.declared.profiles.Profile.{Profile}
use Rattle.pytree_node.specs.Trees.{Identifier, Expr, exprs, optional, Stmt, stmts, Match, Case, cases, Handler, handlers, Item}
use Rattle.pygrammar.specs.declared.levels.Level.TheVariants.{Stars, Expression, Elem}
use Rattle.pygrammar.specs.declared.pattern_levels.PatternLevel.TheVariants.{AsPattern}
use Rattle.pygrammar.specs.Lines.{Line, line, header_form, Header, if_header, elif_header, else_header, loop_header, with_header}
use Rattle.pygrammar.specs.Lines.{try_header, except_header, finally_header, def_header, match_header, case_header, LoopHead, while_head}
use Rattle.pygrammar.specs.Lines.{for_head, DefHead, function_head, class_head, loop, with_of, definition, try_of}
use Rattle.pygrammar.specs.Forms.{is_whole}
use Rattle.pygrammar.specs.Blocks.{Block, Statement, Body, Alternative, Otherwise, Excepts, Cases, Ending, Decorators, nothing, and_then}
use Rattle.pygrammar.specs.Blocks.{simple_line, if_statement, loop_statement, with_statement, try_finally, try_except, definition_of}
use Rattle.pygrammar.specs.Blocks.{match_statement, inline, indented, an_else, an_elif, no_else, else_clause, no_except, except_clause}
use Rattle.pygrammar.specs.Blocks.{no_case, case_clause, no_finally, finally_clause, no_decorator, decorator}
use Rattle.pytree_fits.specs.Tests.{Tests}
use Rattle.pytree_fits.specs.Slots.{fits_at, fits_target, each_fits, perhaps_fits, each_keyword_fits, fits_arguments}
use Rattle.pytree_fits.specs.PatternSlots.{pattern_fits_at}
use Rattle.pytree_fits.specs.Statements.{has_one, has_stmt, has_case, item_fits, types_fit, caught_fits, clauses_fit, statement_fits}
use Rattle.pytree_fits.specs.Statements.{statements_fit, suite_fits, cases_fit, handlers_fit}
use Rattle.pytree_fits.specs.Given.{AreGiven, no_line, a_line}
use Rattle.pytree_fits.proofs.Fields.Tests.{parts3, parts4, from3, from4}
use Rattle.pytree_fits.proofs.Fields.Dots.{is_other}
use Rattle.pytree_fits.proofs.Fitting.FormFits.{from5, header_fits, inline_fits, form_fits, placed}

pub from6 : (x y z u v w : Bool) → x ≡ true → y ≡ true → z ≡ true → u ≡ true → v ≡ true → w ≡ true → (x && y && z && u && v && w) ≡ true
from6 true y z u v w p q r s t o = from5 y z u v w q r s t o
from6 false y z u v w p q r s t o = absurd (cc)

pub some_before : {A : Type 0} (xs ys : List A) → has_one xs ≡ true → has_one (xs ++ ys) ≡ true
some_before [] ys h = absurd (cc)
some_before (x ∷ xs) ys h = refl

module _ (p : Profile) (n : Tests) where
  abbrev pub lines_fit : List Line → Bool
  lines_fit xs = list_all (λ x. form_fits p n x.form) xs

  lines_left : (xs ys : List Line) → lines_fit (xs ++ ys) ≡ true → lines_fit xs ≡ true
  lines_left [] ys h = refl
  lines_left (x ∷ xs) ys h = let w = and_parts (form_fits p n x.form) (lines_fit (xs ++ ys)) h in
      and_from (form_fits p n x.form) (lines_fit xs) w.0 (lines_left xs ys w.1)

  lines_right : (xs ys : List Line) → lines_fit (xs ++ ys) ≡ true → lines_fit ys ≡ true
  lines_right [] ys h = h
  lines_right (x ∷ xs) ys h = lines_right xs ys (and_parts (form_fits p n x.form) (lines_fit (xs ++ ys)) h).1

  statements_on : (a b : List Stmt) → statements_fit p n (stmts a) ≡ true → statements_fit p n (stmts b) ≡ true
      → statements_fit p n (stmts (a ++ b)) ≡ true
  statements_on [] b h g = g
  statements_on (s ∷ a) b h g =
      let w = and_parts (statement_fits p n s) (statements_fit p n (stmts a)) h in
      and_from (statement_fits p n s) (statements_fit p n (stmts (a ++ b))) w.0 (statements_on a b w.1 g)

  -- one statement
  one_fits : (s : Stmt) → statement_fits p n s ≡ true → statements_fit p n (stmts (s ∷ [])) ≡ true
  one_fits s h = and_from (statement_fits p n s) true h refl

  abbrev SuiteFits : Option (List Stmt) → Type 0
  SuiteFits None = Unit {0}
  SuiteFits (Some ss) = inline_fits p n ss ≡ true

  header_parts : (h : Header) (suite : Option (List Stmt)) → form_fits p n (header_form h suite) ≡ true
      → (header_fits p n h ≡ true) × SuiteFits suite
  header_parts h None f = (f, tt)
  header_parts h (Some ss) f = and_parts (header_fits p n h) (inline_fits p n ss) f

  -- a header, and the lines after it
  record First (h : Header) (suite : Option (List Stmt)) (xs : List Line) : Type 0 where
    head : header_fits p n h ≡ true
    inner : SuiteFits suite
    rest : lines_fit xs ≡ true

  first : (l : ℕ) (h : Header) (suite : Option (List Stmt)) (xs : List Line)
      → lines_fit (line l (header_form h suite) ∷ xs) ≡ true → First h suite xs
  first l h suite xs f =
      let w = and_parts (form_fits p n (header_form h suite)) (lines_fit xs) f in
      let u = header_parts h suite w.0 in
      record { head = u.0; inner = u.1; rest = w.1 }

  -- the block of a header
  record Filled (body : List Stmt) : Type 0 where
    suite : suite_fits p n (stmts body) ≡ true
    each : statements_fit p n (stmts body) ≡ true

  filled_of : (body : List Stmt) → has_one body ≡ true → statements_fit p n (stmts body) ≡ true → Filled body
  filled_of [] h f = absurd (cc)
  filled_of (s ∷ ss) h f = record { suite = f; each = f }

  some_of : (body : List Stmt) → suite_fits p n (stmts body) ≡ true → has_stmt (stmts body) ≡ true
  some_of [] h = absurd (cc)
  some_of (s ∷ ss) h = refl

  -- ---- The classes with blocks.

  loop_fits : (head : LoopHead) (body orelse : List Stmt) → header_fits p n (loop_header head) ≡ true → Filled body
      → statements_fit p n (stmts orelse) ≡ true → statements_fit p n (stmts (loop head body orelse ∷ [])) ≡ true
  loop_fits (while_head test) body orelse h f g =
      one_fits (loop (while_head test) body orelse) (from3 (fits_at n Expression test) (suite_fits p n (stmts body))
      (statements_fit p n (stmts orelse)) h f.suite g)
  loop_fits (for_head false target iter) body orelse h f g =
      let w = and_parts (fits_target n Store target) (fits_at n Stars iter) h in
      one_fits (loop (for_head false target iter) body orelse)
      (from4 (fits_target n Store target) (fits_at n Stars iter) (suite_fits p n (stmts body))
      (statements_fit p n (stmts orelse)) w.0 w.1 f.suite g)
  loop_fits (for_head true target iter) body orelse h f g =
      let w = and_parts (fits_target n Store target) (fits_at n Stars iter) h in
      one_fits (loop (for_head true target iter) body orelse)
      (from4 (fits_target n Store target) (fits_at n Stars iter) (suite_fits p n (stmts body))
      (statements_fit p n (stmts orelse)) w.0 w.1 f.suite g)

  with_fits : (is_async : Bool) (items : List Item) (body : List Stmt) → header_fits p n (with_header is_async items) ≡ true → Filled body
      → statements_fit p n (stmts (with_of is_async items body ∷ [])) ≡ true
  with_fits false items body h f =
      let w = and_parts (has_one items) (list_all (item_fits n) items) h in
      one_fits (with_of false items body) (from3 (has_one items) (list_all (item_fits n) items)
      (suite_fits p n (stmts body)) w.0 w.1 f.suite)
  with_fits true items body h f =
      let w = and_parts (has_one items) (list_all (item_fits n) items) h in
      one_fits (with_of true items body) (from3 (has_one items) (list_all (item_fits n) items)
      (suite_fits p n (stmts body)) w.0 w.1 f.suite)

  try_fits : (star : Bool) (body : List Stmt) (hs : List Handler) (orelse final : List Stmt)
      → clauses_fit star (handlers hs) (stmts orelse) (stmts final) ≡ true →
      Filled body → handlers_fit p n star (handlers hs) ≡ true → statements_fit p n (stmts orelse) ≡ true
      → statements_fit p n (stmts final) ≡ true → statements_fit p n (stmts (try_of star body hs orelse final ∷ [])) ≡ true
  try_fits false body hs orelse final c f h g k =
      one_fits (try_of false body hs orelse final)
      (from5 (clauses_fit false (handlers hs) (stmts orelse) (stmts final)) (suite_fits p n (stmts body))
      (handlers_fit p n false (handlers hs)) (statements_fit p n (stmts orelse)) (statements_fit p n (stmts final)) c f.suite h g k)
  try_fits true body hs orelse final c f h g k =
      one_fits (try_of true body hs orelse final)
      (from5 (clauses_fit true (handlers hs) (stmts orelse) (stmts final)) (suite_fits p n (stmts body))
      (handlers_fit p n true (handlers hs)) (statements_fit p n (stmts orelse)) (statements_fit p n (stmts final)) c f.suite h g k)

  definition_fits : (es : List Expr) (head : DefHead) (body : List Stmt) → each_fits n Expression (exprs es) ≡ true
      → header_fits p n (def_header head) ≡ true → Filled body → statements_fit p n (stmts (definition es head body ∷ [])) ≡ true
  definition_fits es (function_head false name parameters args returns) body d h f =
      let w = parts4 (n.name name) (fits_arguments n true args) (perhaps_fits n Expression (optional returns))
      (types_fit p n parameters) h in
      one_fits (definition es (function_head false name parameters args returns) body)
      (from6 (n.name name) (fits_arguments n true args) (each_fits n Expression (exprs es)) (perhaps_fits n Expression (optional returns))
      (types_fit p n parameters) (suite_fits p n (stmts body)) w.0 w.1 d w.2 w.3 f.suite)
  definition_fits es (function_head true name parameters args returns) body d h f =
      let w = parts4 (n.name name) (fits_arguments n true args) (perhaps_fits n Expression (optional returns))
      (types_fit p n parameters) h in
      one_fits (definition es (function_head true name parameters args returns) body)
      (from6 (n.name name) (fits_arguments n true args) (each_fits n Expression (exprs es)) (perhaps_fits n Expression (optional returns))
      (types_fit p n parameters) (suite_fits p n (stmts body)) w.0 w.1 d w.2 w.3 f.suite)
  definition_fits es (class_head name parameters bases keywords) body d h f =
      let w = parts4 (n.name name) (each_fits n Elem (exprs bases)) (each_keyword_fits n keywords) (types_fit p n parameters) h in
      one_fits (definition es (class_head name parameters bases keywords) body)
      (from6 (n.name name) (each_fits n Elem (exprs bases)) (each_keyword_fits n keywords) (each_fits n Expression (exprs es))
      (types_fit p n parameters) (suite_fits p n (stmts body)) w.0 w.1 w.2 d w.3 f.suite)

  decorators_fit : {l : ℕ} {xs : List Line} {es : List Expr} → Decorators l xs es → lines_fit xs ≡ true
      → each_fits n Expression (exprs es) ≡ true
  decorators_fit no_decorator h = refl
  decorators_fit (decorator {e = e} {xs = xs} {es = es} d) h =
      let w = and_parts (fits_at n Expression e) (lines_fit xs) h in
      and_from (fits_at n Expression e) (each_fits n Expression (exprs es)) w.0 (decorators_fit d w.1)

  -- ---- Lines are statements.

  statement_some : {l : ℕ} {xs : List Line} {ss : List Stmt} → Statement l xs ss → lines_fit xs ≡ true → has_one ss ≡ true
  statement_some (simple_line {ss = ss}) h =
      (and_parts (has_one ss) (statements_fit p n (stmts ss)) (and_parts (inline_fits p n ss) true h).0).0
  statement_some (if_statement b a) h = refl
  statement_some (loop_statement b a) h = refl
  statement_some (with_statement b) h = refl
  statement_some (try_finally b c) h = refl
  statement_some (try_except b e c d) h = refl
  statement_some (definition_of head d b) h = refl
  statement_some (match_statement c) h = refl

  block_some : {l : ℕ} {xs : List Line} {ss : List Stmt} → Block l xs ss → has_one xs ≡ true → lines_fit xs ≡ true → has_one ss ≡ true
  block_some nothing g h = absurd (cc)
  block_some (and_then {xs = xs} {ys = ys} {ss = ss} {more = more} a b) g h = some_before ss more (statement_some a (lines_left xs ys h))

  some_case : {l : ℕ} {xs : List Line} {cs : List Case} → Cases l xs cs → has_one xs ≡ true → has_case (cases cs) ≡ true
  some_case no_case h = absurd (cc)
  some_case (case_clause b c) h = refl

  mutual
    pub block_fits : {l : ℕ} {xs : List Line} {ss : List Stmt} → Block l xs ss → lines_fit xs ≡ true → statements_fit p n (stmts ss) ≡ true
    block_fits nothing h = refl
    block_fits (and_then {xs = xs} {ys = ys} {ss = ss} {more = more} a b) h = statements_on ss more (statement a (lines_left xs ys h))
        (block_fits b (lines_right xs ys h))

    statement : {l : ℕ} {xs : List Line} {ss : List Stmt} → Statement l xs ss → lines_fit xs ≡ true → statements_fit p n (stmts ss) ≡ true
    statement (simple_line {ss = ss}) h =
        (and_parts (has_one ss) (statements_fit p n (stmts ss)) (and_parts (inline_fits p n ss) true h).0).1
    statement {l} (if_statement {test = test} {suite = suite} {xs = xs} {ys = ys} {body = body} {orelse = orelse} b a) h =
        let w = first l (if_header test) suite (xs ++ ys) h in
        let f = filled b w.inner (lines_left xs ys w.rest) in
        and_from (fits_at n Expression test && suite_fits p n (stmts body) && statements_fit p n (stmts orelse)) true
        (from3 (fits_at n Expression test) (suite_fits p n (stmts body)) (statements_fit p n (stmts orelse)) w.head f.suite
        (alternative a (lines_right xs ys w.rest))) refl
    statement {l} (loop_statement {head = head} {suite = suite} {xs = xs} {ys = ys} {body = body} {orelse = orelse} b a) h =
        let w = first l (loop_header head) suite (xs ++ ys) h in
        loop_fits head body orelse w.head (filled b w.inner (lines_left xs ys w.rest)) (otherwise a (lines_right xs ys w.rest))
    statement {l} (with_statement {is_async = is_async} {items = items} {suite = suite} {xs = xs} {body = body} b) h =
        let w = first l (with_header is_async items) suite xs h in
        with_fits is_async items body w.head (filled b w.inner w.rest)
    statement {l} (try_finally {suite = suite} {last = last} {xs = xs} {ys = ys} {body = body} {final = final} b c) h =
        let w = first l try_header suite (xs ++ (line l (header_form finally_header last) ∷ ys)) h in
        let u = first l finally_header last ys (lines_right xs (line l (header_form finally_header last) ∷ ys) w.rest) in
        let g = filled c u.inner u.rest in
        try_fits false body [] [] final (some_of final g.suite)
        (filled b w.inner (lines_left xs (line l (header_form finally_header last) ∷ ys) w.rest)) refl refl g.each
    statement {l} (try_except {star = star} {suite = suite} {xs = xs} {ys = ys} {zs = zs} {ws = ws} {body = body} {orelse = orelse} {final =
        final} {h = k} {hs = ks} b e c d) h =
        let w = first l try_header suite (xs ++ (ys ++ (zs ++ ws))) h in
        let u = lines_right xs (ys ++ (zs ++ ws)) w.rest in
        let v = lines_right ys (zs ++ ws) u in
        try_fits star body (k ∷ ks) orelse final refl (filled b w.inner (lines_left xs (ys ++ (zs ++ ws)) w.rest))
        (excepts e (lines_left ys (zs ++ ws) u))
        (otherwise c (lines_left zs ws v)) (ending d (lines_right zs ws v))
    statement {l} (definition_of head {suite = suite} {ds = ds} {xs = xs} {es = es} {body = body} d b) h =
        let u = first l (def_header head) suite xs (lines_right ds (line l (header_form (def_header head) suite) ∷ xs) h) in
        definition_fits es head body (decorators_fit d (lines_left ds (line l (header_form (def_header head) suite) ∷ xs) h)) u.head
        (filled b u.inner u.rest)
    statement {l} (match_statement {subject = subject} {x = x} {xs = xs} {cs = cs} c) h =
        let w = first l (match_header subject) None (x ∷ xs) h in
        let u = and_parts (is_whole p.extent) (fits_at n Expression subject) w.head in
        one_fits (Match subject (cases cs))
        (from4 (is_whole p.extent) (has_case (cases cs)) (fits_at n Expression subject) (cases_fit p n (cases cs)) u.0 (some_case c refl)
        u.1 (each_case c w.rest))

    filled : {l : ℕ} {suite : Option (List Stmt)} {xs : List Line} {body : List Stmt} → Body l suite xs body → SuiteFits suite
        → lines_fit xs ≡ true → Filled body
    filled (inline {ss = ss}) s h = let w = and_parts (has_one ss) (statements_fit p n (stmts ss)) s in filled_of ss w.0 w.1
    filled (indented {ss = ss} b) s h = filled_of ss (block_some b refl h) (block_fits b h)

    alternative : {l : ℕ} {xs : List Line} {ss : List Stmt} → Alternative l xs ss → lines_fit xs ≡ true
        → statements_fit p n (stmts ss) ≡ true
    alternative (an_else a) h = otherwise a h
    alternative {l} (an_elif {test = test} {suite = suite} {xs = xs} {ys = ys} {body = body} {orelse = orelse} b a) h =
        let w = first l (elif_header test) suite (xs ++ ys) h in
        let f = filled b w.inner (lines_left xs ys w.rest) in
        and_from (fits_at n Expression test && suite_fits p n (stmts body) && statements_fit p n (stmts orelse)) true
        (from3 (fits_at n Expression test) (suite_fits p n (stmts body)) (statements_fit p n (stmts orelse)) w.head f.suite
        (alternative a (lines_right xs ys w.rest))) refl

    otherwise : {l : ℕ} {xs : List Line} {ss : List Stmt} → Otherwise l xs ss → lines_fit xs ≡ true → statements_fit p n (stmts ss) ≡ true
    otherwise no_else h = refl
    otherwise {l} (else_clause {suite = suite} {xs = xs} b) h = let w = first l else_header suite xs h in (filled b w.inner w.rest).each

    excepts : {l : ℕ} {star : Bool} {xs : List Line} {hs : List Handler} → Excepts l star xs hs → lines_fit xs ≡ true
        → handlers_fit p n star (handlers hs) ≡ true
    excepts no_except h = refl
    excepts {l} {star} (except_clause {matched = matched} {name = name} {suite = suite} {xs = xs} {ys = ys} {body = body} {hs = hs} b e) h =
        let w = first l (except_header star matched name) suite (xs ++ ys) h in
        let f = filled b w.inner (lines_left xs ys w.rest) in
        from3 (caught_fits n star matched name) (suite_fits p n (stmts body)) (handlers_fit p n star (handlers hs)) w.head f.suite
        (excepts e (lines_right xs ys w.rest))

    each_case : {l : ℕ} {xs : List Line} {cs : List Case} → Cases l xs cs → lines_fit xs ≡ true → cases_fit p n (cases cs) ≡ true
    each_case no_case h = refl
    each_case {l} (case_clause {pattern = pattern} {guard = guard} {suite = suite} {xs = xs} {ys = ys} {body = body} {cs = cs} b c) h =
        let w = first l (case_header pattern guard) suite (xs ++ ys) h in
        let u = parts3 (is_whole p.extent) (pattern_fits_at n AsPattern pattern) (perhaps_fits n Expression (optional guard)) w.head in
        let f = filled b w.inner (lines_left xs ys w.rest) in
        from4 (pattern_fits_at n AsPattern pattern) (perhaps_fits n Expression (optional guard)) (suite_fits p n (stmts body))
        (cases_fit p n (cases cs)) u.1 u.2 f.suite (each_case c (lines_right xs ys w.rest))

    ending : {l : ℕ} {xs : List Line} {ss : List Stmt} → Ending l xs ss → lines_fit xs ≡ true → statements_fit p n (stmts ss) ≡ true
    ending no_finally h = refl
    ending {l} (finally_clause {suite = suite} {xs = xs} b) h = let w = first l finally_header suite xs h in (filled b w.inner w.rest).each

  -- lines whose forms at their places are given
  pub given_fit : ((x : Identifier) → n.name x ≡ true → list_all is_other x ≡ true) → {earlier xs : List Line}
      → AreGiven p n earlier xs → lines_fit xs ≡ true
  given_fit f no_line = refl
  given_fit f (a_line {x = x} {xs = xs} g r) = and_from (form_fits p n x.form) (lines_fit xs) (placed n f g.2 g.1) (given_fit f r)
