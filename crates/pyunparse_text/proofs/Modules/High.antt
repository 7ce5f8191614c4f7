-- Carries: the law of source text. On: a module has no higher expressions than its forms.
use Rattle.std.proofs.Common.{ℕ, ◌≤◌, arith, List, [], ◌∷◌, ◌++◌, Option, Bool, true, false}
use Rattle.pytree_node.specs.Trees.{Expr, Stmt, Case, Handler, Item, stmts, cases, handlers}
use Rattle.pytree_height.specs.Heights.{list_height, item_heights, highest_in_all, highest_in_cases, highest_in_handlers}
use Rattle.pygrammar.specs.Lines.{Line, header_form, Header, if_header, elif_header, else_header, loop_header, with_header, try_header}
use Rattle.pygrammar.specs.Lines.{except_header}
use Rattle.pygrammar.specs.Lines.{finally_header, def_header, case_header, LoopHead, while_head, for_head, DefHead, function_head}
use Rattle.pygrammar.specs.Lines.{class_head, loop}
use Rattle.pygrammar.specs.Lines.{with_of, definition, try_of}
use Rattle.pygrammar.specs.FormHeights.{header_height, form_height}
use Rattle.pygrammar.specs.Blocks as B
use Rattle.pyunparse_text.specs.Laws.{AreWithin, ModulesAreLow}

-- the highest expression of some statements
abbrev highest : List Stmt → ℕ
highest ss = highest_in_all (stmts ss)

parted : (n : ℕ) (xs ys : List Line) → AreWithin n (xs ++ ys) → AreWithin n xs × AreWithin n ys
parted n [] ys h = (tt, h)
parted n (x ∷ xs) ys h = let w = parted n xs ys h.1 in ((h.0, w.0), w.1)

joined : (n : ℕ) (ss more : List Stmt) → highest ss ≤ n → highest more ≤ n → highest (ss ++ more) ≤ n
joined n [] more h k = k
joined n (s ∷ ss) more h k = let w = joined n ss more (omega (arith, h)) k in omega (arith, h, w)

-- ---- A statement from its header and blocks.

loop_high : (n : ℕ) (head : LoopHead) (body orelse : List Stmt) → header_height (loop_header head) ≤ n
    → highest body ≤ n → highest orelse ≤ n
    → highest (loop head body orelse ∷ []) ≤ n
loop_high n (while_head test) body orelse h k l = omega (arith, h, k, l)
loop_high n (for_head false t e) body orelse h k l = omega (arith, h, k, l)
loop_high n (for_head true t e) body orelse h k l = omega (arith, h, k, l)

with_high : (n : ℕ) (b : Bool) (is : List Item) (body : List Stmt) → item_heights is ≤ n → highest body ≤ n
    → highest (with_of b is body ∷ []) ≤ n
with_high n false is body h k = omega (arith, h, k)
with_high n true is body h k = omega (arith, h, k)

try_high : (n : ℕ) (b : Bool) (body : List Stmt) (hs : List Handler) (orelse final : List Stmt) → highest body ≤ n
    → highest_in_handlers (handlers hs) ≤ n → highest orelse ≤ n → highest final ≤ n → highest (try_of b body hs orelse final ∷ []) ≤ n
try_high n false body hs orelse final h k l m = omega (arith, h, k, l, m)
try_high n true body hs orelse final h k l m = omega (arith, h, k, l, m)

definition_high : (n : ℕ) (es : List Expr) (head : DefHead) (body : List Stmt) → list_height es ≤ n → header_height (def_header head) ≤ n
    → highest body ≤ n → highest (definition es head body ∷ []) ≤ n
definition_high n es (function_head false x ps a r) body h k l = omega (arith, h, k, l)
definition_high n es (function_head true x ps a r) body h k l = omega (arith, h, k, l)
definition_high n es (class_head x ps bs ks) body h k l = omega (arith, h, k, l)

decorators_high : (n : ℕ) {l : ℕ} {xs : List Line} {es : List Expr} → B.Decorators l xs es → AreWithin n xs → list_height es ≤ n
decorators_high n B.no_decorator h = omega arith
decorators_high n (B.decorator d) h = let w = decorators_high n d h.1 in omega (arith, h.0, w)

-- ---- Blocks.

mutual
  block_high : (n : ℕ) {l : ℕ} {xs : List Line} {ss : List Stmt} → B.Block l xs ss → AreWithin n xs → highest ss ≤ n
  block_high n B.nothing h = omega arith
  block_high n (B.and_then {xs = xs} {ys = ys} {ss = ss} {more = more} p q) h = let w = parted n xs ys h in
      joined n ss more (statement_high n p w.0) (block_high n q w.1)

  statement_high : (n : ℕ) {l : ℕ} {xs : List Line} {ss : List Stmt} → B.Statement l xs ss → AreWithin n xs → highest ss ≤ n
  statement_high n B.simple_line h = h.0
  statement_high n (B.if_statement {test = test} {xs = xs} {ys = ys} p q) h =
      let w = parted n xs ys h.1 in let u = body_high n (if_header test) p h.0 w.0 in let v = alternative_high n q w.1 in
      omega (arith, u.0, u.1, v)
  statement_high n (B.loop_statement {head = head} {xs = xs} {ys = ys} {body = body} {orelse = orelse} p q) h =
      let w = parted n xs ys h.1 in let u = body_high n (loop_header head) p h.0 w.0 in
      loop_high n head body orelse u.0 u.1 (otherwise_high n q w.1)
  statement_high n (B.with_statement {is_async = b} {items = is} {body = body} p) h = let u = body_high n (with_header b is) p h.0 h.1 in
      with_high n b is body u.0 u.1
  statement_high n (B.try_finally {xs = xs} {ys = ys} {body = body} {final = final} p q) h =
      let w = parted n xs _ h.1 in let u = body_high n try_header p h.0 w.0 in let v = body_high n finally_header q w.1.0 w.1.1 in
      try_high n false body [] [] final u.1 (omega arith) (omega arith) v.1
  statement_high n (B.try_except {star = star} {xs = xs} {ys = ys} {zs = zs} {ws = ws} {body = body} {orelse = orelse} {final = final} {h =
      x} {hs = hs} p c q r) h =
      let w = parted n xs (ys ++ (zs ++ ws)) h.1 in let v = parted n ys (zs ++ ws) w.1 in let z = parted n zs ws v.1 in
      let u = body_high n try_header p h.0 w.0 in
      try_high n star body (x ∷ hs) orelse final u.1 (excepts_high n c v.0) (otherwise_high n q z.0) (ending_high n r z.1)
  statement_high n (B.definition_of head {ds = ds} {es = es} {body = body} d p) h =
      let w = parted n ds _ h in let u = body_high n (def_header head) p w.1.0 w.1.1 in
      definition_high n es head body (decorators_high n d w.0) u.0 u.1
  statement_high n (B.match_statement c) h = let u = cases_high n c h.1 in omega (arith, h.0, u)

  -- a header's form and the lines of its block
  body_high : (n : ℕ) {l : ℕ} {suite : Option (List Stmt)} {xs : List Line} {ss : List Stmt} (head : Header) → B.Body l suite xs ss
      → form_height (header_form head suite) ≤ n → AreWithin n xs → (header_height head ≤ n) × (highest ss ≤ n)
  body_high n head B.inline h k = (omega (arith, h), omega (arith, h))
  body_high n head (B.indented p) h k = (h, block_high n p k)

  alternative_high : (n : ℕ) {l : ℕ} {xs : List Line} {ss : List Stmt} → B.Alternative l xs ss → AreWithin n xs → highest ss ≤ n
  alternative_high n (B.an_else p) h = otherwise_high n p h
  alternative_high n (B.an_elif {test = test} {xs = xs} {ys = ys} p q) h =
      let w = parted n xs ys h.1 in let u = body_high n (elif_header test) p h.0 w.0 in let v = alternative_high n q w.1 in
      omega (arith, u.0, u.1, v)

  otherwise_high : (n : ℕ) {l : ℕ} {xs : List Line} {ss : List Stmt} → B.Otherwise l xs ss → AreWithin n xs → highest ss ≤ n
  otherwise_high n B.no_else h = omega arith
  otherwise_high n (B.else_clause p) h = (body_high n else_header p h.0 h.1).1

  ending_high : (n : ℕ) {l : ℕ} {xs : List Line} {ss : List Stmt} → B.Ending l xs ss → AreWithin n xs → highest ss ≤ n
  ending_high n B.no_finally h = omega arith
  ending_high n (B.finally_clause p) h = (body_high n finally_header p h.0 h.1).1

  excepts_high : (n : ℕ) {l : ℕ} {star : Bool} {xs : List Line} {hs : List Handler} → B.Excepts l star xs hs → AreWithin n xs
      → highest_in_handlers (handlers hs) ≤ n
  excepts_high n B.no_except h = omega arith
  excepts_high n (B.except_clause {star = star} {matched = e} {name = x} {xs = xs} {ys = ys} p q) h =
      let w = parted n xs ys h.1 in let u = body_high n (except_header star e x) p h.0 w.0 in let v = excepts_high n q w.1 in
      omega (arith, u.0, u.1, v)

  cases_high : (n : ℕ) {l : ℕ} {xs : List Line} {cs : List Case} → B.Cases l xs cs → AreWithin n xs → highest_in_cases (cases cs) ≤ n
  cases_high n B.no_case h = omega arith
  cases_high n (B.case_clause {pattern = p} {guard = g} {xs = xs} {ys = ys} b q) h =
      let w = parted n xs ys h.1 in let u = body_high n (case_header p g) b h.0 w.0 in let v = cases_high n q w.1 in
      omega (arith, u.0, u.1, v)

pub modules_low : ModulesAreLow
modules_low n xs m p h = block_high n p h
