-- Carries: the law of accepted modules. On: forms have no higher expressions than the
-- statements that they give.
use Rattle.std.proofs.Common.{ℕ, ◌≤◌, arith, List, [], ◌∷◌, ◌++◌, Option, Bool, true, false}
use Rattle.pytree_node.specs.Trees.{Expr, Stmt, Case, Handler, Item, stmts, cases, handlers}
use Rattle.pytree_height.specs.Heights.{list_height, item_heights, highest_in_all, highest_in_cases, highest_in_handlers}
use Rattle.pygrammar.specs.Lines.{Line, header_form, Header, if_header, elif_header, else_header, loop_header, with_header, try_header}
use Rattle.pygrammar.specs.Lines.{except_header}
use Rattle.pygrammar.specs.Lines.{finally_header, def_header, case_header, LoopHead, while_head, for_head, DefHead, function_head}
use Rattle.pygrammar.specs.Lines.{class_head, loop}
use Rattle.pygrammar.specs.Lines.{with_of, definition, try_of}
use Rattle.pygrammar.specs.FormHeights.{header_height, form_height}
use Rattle.pygrammar.specs.Blocks as B
use Rattle.pyunparse_text.specs.Laws.{AreWithin, FormsAreLow}

-- the highest expression of some statements
abbrev highest : List Stmt → ℕ
highest ss = highest_in_all (stmts ss)

within_both : (n : ℕ) (xs ys : List Line) → AreWithin n xs → AreWithin n ys → AreWithin n (xs ++ ys)
within_both n [] ys a b = b
within_both n (x ∷ xs) ys a b = (a.0, within_both n xs ys a.1 b)

-- statements one after another
apart : (n : ℕ) (ss more : List Stmt) → highest (ss ++ more) ≤ n → (highest ss ≤ n) × (highest more ≤ n)
apart n [] more h = (omega arith, h)
apart n (s ∷ ss) more h = let w = apart n ss more (omega (arith, h)) in (omega (arith, h, w.0), w.1)

-- ---- A statement's header and blocks.

loop_parts : (n : ℕ) (head : LoopHead) (body orelse : List Stmt) → highest (loop head body orelse ∷ []) ≤ n
    → (header_height (loop_header head) ≤ n) × (highest body ≤ n) × (highest orelse ≤ n)
loop_parts n (while_head test) body orelse h = (omega (arith, h), omega (arith, h), omega (arith, h))
loop_parts n (for_head false t e) body orelse h = (omega (arith, h), omega (arith, h), omega (arith, h))
loop_parts n (for_head true t e) body orelse h = (omega (arith, h), omega (arith, h), omega (arith, h))

with_parts : (n : ℕ) (b : Bool) (is : List Item) (body : List Stmt) → highest (with_of b is body ∷ []) ≤ n
    → (item_heights is ≤ n) × (highest body ≤ n)
with_parts n false is body h = (omega (arith, h), omega (arith, h))
with_parts n true is body h = (omega (arith, h), omega (arith, h))

try_parts : (n : ℕ) (b : Bool) (body : List Stmt) (hs : List Handler) (orelse final : List Stmt)
    → highest (try_of b body hs orelse final ∷ []) ≤ n
    → (highest body ≤ n) × (highest_in_handlers (handlers hs) ≤ n) × (highest orelse ≤ n) × (highest final ≤ n)
try_parts n false body hs orelse final h = (omega (arith, h), omega (arith, h), omega (arith, h), omega (arith, h))
try_parts n true body hs orelse final h = (omega (arith, h), omega (arith, h), omega (arith, h), omega (arith, h))

definition_parts : (n : ℕ) (es : List Expr) (head : DefHead) (body : List Stmt) → highest (definition es head body ∷ []) ≤ n
    → (list_height es ≤ n) × (header_height (def_header head) ≤ n) × (highest body ≤ n)
definition_parts n es (function_head false x ps a r) body h = (omega (arith, h), omega (arith, h), omega (arith, h))
definition_parts n es (function_head true x ps a r) body h = (omega (arith, h), omega (arith, h), omega (arith, h))
definition_parts n es (class_head x ps bs ks) body h = (omega (arith, h), omega (arith, h), omega (arith, h))

decorators_low : (n : ℕ) {l : ℕ} {xs : List Line} {es : List Expr} → B.Decorators l xs es → list_height es ≤ n → AreWithin n xs
decorators_low n B.no_decorator h = tt
decorators_low n (B.decorator d) h = (omega (arith, h), decorators_low n d (omega (arith, h)))

-- ---- Blocks.

mutual
  block_low : (n : ℕ) {l : ℕ} {xs : List Line} {ss : List Stmt} → B.Block l xs ss → highest ss ≤ n → AreWithin n xs
  block_low n B.nothing h = tt
  block_low n (B.and_then {xs = xs} {ss = ss} {more = more} p q) h = let w = apart n ss more h in
      within_both n xs _ (statement_low n p w.0) (block_low n q w.1)

  statement_low : (n : ℕ) {l : ℕ} {xs : List Line} {ss : List Stmt} → B.Statement l xs ss → highest ss ≤ n → AreWithin n xs
  statement_low n B.simple_line h = (h, tt)
  statement_low n (B.if_statement {test = test} {xs = xs} p q) h = let u =
      body_low n (if_header test) p (omega (arith, h)) (omega (arith, h)) in
      (u.0, within_both n xs _ u.1 (alternative_low n q (omega (arith, h))))
  statement_low n (B.loop_statement {head = head} {xs = xs} {body = body} {orelse = orelse} p q) h = let w =
      loop_parts n head body orelse h in let u = body_low n (loop_header head) p w.0 w.1 in
      (u.0, within_both n xs _ u.1 (otherwise_low n q w.2))
  statement_low n (B.with_statement {is_async = b} {items = is} {body = body} p) h = let w = with_parts n b is body h in
      body_low n (with_header b is) p w.0 w.1
  statement_low n (B.try_finally {xs = xs} {body = body} {final = final} p q) h = let w = try_parts n false body [] [] final h in let u =
      body_low n try_header p (omega arith) w.0 in (u.0, within_both n xs _ u.1 (body_low n finally_header q (omega arith) w.3))
  statement_low n (B.try_except {star = star} {xs = xs} {ys = ys} {zs = zs} {body = body} {orelse = orelse} {final = final} {h =
      x} {hs = hs} p c q r) h =
      let w = try_parts n star body (x ∷ hs) orelse final h in
      let u = body_low n try_header p (omega arith) w.0 in (
        u.0,
        within_both n xs _ u.1
            (within_both n ys _ (excepts_low n c w.1) (within_both n zs _ (otherwise_low n q w.2) (ending_low n r w.3))),
      )
  statement_low n (B.definition_of head {ds = ds} {es = es} {body = body} d p) h = let w = definition_parts n es head body h in
      within_both n ds _ (decorators_low n d w.0) (body_low n (def_header head) p w.1 w.2)
  statement_low n (B.match_statement c) h = (omega (arith, h), cases_low n c (omega (arith, h)))

  -- a header's form and the lines of its block
  body_low : (n : ℕ) {l : ℕ} {suite : Option (List Stmt)} {xs : List Line} {ss : List Stmt} (head : Header) → B.Body l suite xs ss
      → header_height head ≤ n → highest ss ≤ n → (form_height (header_form head suite) ≤ n) × AreWithin n xs
  body_low n head B.inline h k = (omega (arith, h, k), tt)
  body_low n head (B.indented p) h k = (h, block_low n p k)

  alternative_low : (n : ℕ) {l : ℕ} {xs : List Line} {ss : List Stmt} → B.Alternative l xs ss → highest ss ≤ n → AreWithin n xs
  alternative_low n (B.an_else p) h = otherwise_low n p h
  alternative_low n (B.an_elif {test = test} {xs = xs} p q) h = let u = body_low n (elif_header test) p (omega (arith, h))
      (omega (arith, h)) in (u.0, within_both n xs _ u.1 (alternative_low n q (omega (arith, h))))

  otherwise_low : (n : ℕ) {l : ℕ} {xs : List Line} {ss : List Stmt} → B.Otherwise l xs ss → highest ss ≤ n → AreWithin n xs
  otherwise_low n B.no_else h = tt
  otherwise_low n (B.else_clause p) h = body_low n else_header p (omega arith) h

  ending_low : (n : ℕ) {l : ℕ} {xs : List Line} {ss : List Stmt} → B.Ending l xs ss → highest ss ≤ n → AreWithin n xs
  ending_low n B.no_finally h = tt
  ending_low n (B.finally_clause p) h = body_low n finally_header p (omega arith) h

  excepts_low : (n : ℕ) {l : ℕ} {star : Bool} {xs : List Line} {hs : List Handler} → B.Excepts l star xs hs
      → highest_in_handlers (handlers hs) ≤ n
      → AreWithin n xs
  excepts_low n B.no_except h = tt
  excepts_low n (B.except_clause {star = star} {matched = e} {name = x} {xs = xs} p q) h = let u =
      body_low n (except_header star e x) p (omega (arith, h)) (omega (arith, h)) in
      (u.0, within_both n xs _ u.1 (excepts_low n q (omega (arith, h))))

  cases_low : (n : ℕ) {l : ℕ} {xs : List Line} {cs : List Case} → B.Cases l xs cs → highest_in_cases (cases cs) ≤ n → AreWithin n xs
  cases_low n B.no_case h = tt
  cases_low n (B.case_clause {pattern = p} {guard = g} {xs = xs} b q) h = let u =
      body_low n (case_header p g) b (omega (arith, h)) (omega (arith, h)) in
      (u.0, within_both n xs _ u.1 (cases_low n q (omega (arith, h))))

pub forms_low : FormsAreLow
forms_low xs m p = block_low (highest m.body) p (omega arith)
