-- What stands round a line of a level: the lines of deeper blocks before it change nothing of it.
--
-- Carries: statement_from, around_after, around_past, around_inside and 6
-- more, for Heights. On: Steps.
use Rattle.std.proofs.Common.{◌≡◌, ℕ, suc, ◌+◌, ◌<◌, ◌≤◌, List, [], ◌∷◌, ◌++◌, Option, Bool, true, false, cond, refl, ap, ◌∙◌, le_refl}
use Rattle.std.proofs.Common.{eq-eqb, arith}
use Rattle.std.specs.Prelude.{nat_lt, ◌==◌}
use Rattle.pytree_node.specs.Trees.{Expr, Stmt, Case, Handler}
use Rattle.pytoken.specs.Inner.Following.{following}
use Rattle.pygrammar.specs.Lines.{Line, line, header_form, Header}
use Rattle.pygrammar.specs.Blocks.{Block, Statement, Body, Alternative, Otherwise, Excepts, Cases, Ending, Decorators, nothing, and_then}
use Rattle.pygrammar.specs.Blocks.{simple_line, if_statement, loop_statement, with_statement, try_finally, try_except, definition_of}
use Rattle.pygrammar.specs.Blocks.{match_statement, inline, indented, an_else, an_elif, no_else, else_clause, no_except, except_clause}
use Rattle.pygrammar.specs.Blocks.{no_case, case_clause, no_finally, finally_clause, no_decorator, decorator, Kind, ElifLine, ElseLine}
use Rattle.pygrammar.specs.Blocks.{kind_of, header_kind}
use Rattle.pygrammar.specs.Refusals.{elifs, own, around}
use Rattle.pygrammar.proofs.Block.Steps.{not_less, is_less}

-- ---- Levels.

-- all these lines are of at least this level
abbrev pub AreFrom : ℕ → List Line → Type 0
AreFrom l [] = Unit {0}
AreFrom l (x ∷ xs) = (l ≤ x.level) × AreFrom l xs

pub from-append : (l : ℕ) (xs ys : List Line) → AreFrom l xs → AreFrom l ys → AreFrom l (xs ++ ys)
from-append l [] ys p q = q
from-append l (x ∷ xs) ys p q = (p.0, from-append l xs ys p.1 q)

pub from_lower : (l : ℕ) (xs : List Line) → AreFrom (suc l) xs → AreFrom l xs
from_lower l [] p = tt
from_lower l (x ∷ xs) p = (omega (arith, p.0), from_lower l xs p.1)

-- a header's line and its block, and clauses after them
headed : (l : ℕ) (xs ys : List Line) → AreFrom (suc l) xs → AreFrom l ys → AreFrom l (xs ++ ys)
headed l xs ys p q = from-append l xs ys (from_lower l xs p) q

mutual
  pub block_from : {l : ℕ} {xs : List Line} {ss : List Stmt} → Block l xs ss → AreFrom l xs
  block_from nothing = tt
  block_from {l} (and_then {xs = xs} {ys = ys} p q) = from-append l xs ys (statement_from p) (block_from q)

  pub statement_from : {l : ℕ} {xs : List Line} {ss : List Stmt} → Statement l xs ss → AreFrom l xs
  statement_from {l} simple_line = (le_refl l, tt)
  statement_from {l} (if_statement {xs = xs} {ys = ys} p q) = (le_refl l, headed l xs ys (body_from p) (alternative_from q))
  statement_from {l} (loop_statement {xs = xs} {ys = ys} p q) = (le_refl l, headed l xs ys (body_from p) (otherwise_from q))
  statement_from {l} (with_statement {xs = xs} p) = (le_refl l, from_lower l xs (body_from p))
  statement_from {l} (try_finally {xs = xs} {ys = ys} p q) =
      (le_refl l, headed l xs _ (body_from p) (le_refl l, from_lower l ys (body_from q)))
  statement_from {l} (try_except {xs = xs} {ys = ys} {zs = zs} {ws = ws} p q o e) = (
    le_refl l,
    headed l xs (ys ++ (zs ++ ws)) (body_from p)
        (from-append l ys (zs ++ ws) (excepts_from q) (from-append l zs ws (otherwise_from o) (ending_from e))),
  )
  statement_from {l} (definition_of head {ds = ds} {xs = xs} d p) = from-append l ds _ (decorators_from d) (
    le_refl l,
    from_lower l xs (body_from p),
  )
  statement_from {l} (match_statement {x = x} {xs = xs} p) = (le_refl l, from_lower l (x ∷ xs) (cases_from p))

  pub body_from : {l : ℕ} {suite : Option (List Stmt)} {xs : List Line} {ss : List Stmt} → Body l suite xs ss → AreFrom (suc l) xs
  body_from inline = tt
  body_from (indented p) = block_from p

  pub alternative_from : {l : ℕ} {xs : List Line} {ss : List Stmt} → Alternative l xs ss → AreFrom l xs
  alternative_from (an_else p) = otherwise_from p
  alternative_from {l} (an_elif {xs = xs} {ys = ys} p q) = (le_refl l, headed l xs ys (body_from p) (alternative_from q))

  pub otherwise_from : {l : ℕ} {xs : List Line} {ss : List Stmt} → Otherwise l xs ss → AreFrom l xs
  otherwise_from no_else = tt
  otherwise_from {l} (else_clause {xs = xs} p) = (le_refl l, from_lower l xs (body_from p))

  pub excepts_from : {l : ℕ} {star : Bool} {xs : List Line} {hs : List Handler} → Excepts l star xs hs → AreFrom l xs
  excepts_from no_except = tt
  excepts_from {l} (except_clause {xs = xs} {ys = ys} p q) = (le_refl l, headed l xs ys (body_from p) (excepts_from q))

  pub cases_from : {l : ℕ} {xs : List Line} {cs : List Case} → Cases l xs cs → AreFrom l xs
  cases_from no_case = tt
  cases_from {l} (case_clause {xs = xs} {ys = ys} p q) = (le_refl l, headed l xs ys (body_from p) (cases_from q))

  pub ending_from : {l : ℕ} {xs : List Line} {ss : List Stmt} → Ending l xs ss → AreFrom l xs
  ending_from no_finally = tt
  ending_from {l} (finally_clause {xs = xs} p) = (le_refl l, from_lower l xs (body_from p))

  pub decorators_from : {l : ℕ} {xs : List Line} {es : List Expr} → Decorators l xs es → AreFrom l xs
  decorators_from no_decorator = tt
  decorators_from {l} (decorator p) = (le_refl l, decorators_from p)

-- ---- One line more.

-- a line that is no deeper than its header
pub around_past : (l : ℕ) (x : Line) (earlier : List Line) → l ≤ x.level → around l (x ∷ earlier) ≡ around l earlier
around_past l x earlier h =
    ap (λ b. cond b (around x.level earlier + (elifs (kind_of x.form) x.level earlier + own (kind_of x.form))) (around l earlier))
    (not_less x.level l h)

pub around_inside : (l : ℕ) (x : Line) (earlier : List Line) → x.level < l → around l (x ∷ earlier) ≡ around x.level earlier +
    (elifs (kind_of x.form) x.level earlier + own (kind_of x.form))
around_inside l x earlier h =
    ap (λ b. cond b (around x.level earlier + (elifs (kind_of x.form) x.level earlier + own (kind_of x.form))) (around l earlier))
    (is_less x.level l h)

-- how the `elif`s are counted, by the last line that is no deeper
abbrev by_last : ℕ → ℕ → ℕ → ℕ → ℕ
by_last l m deeper here = cond (nat_lt l m) deeper (cond (m == l) here 0)

past : (l m deeper here : ℕ) → l < m → by_last l m deeper here ≡ deeper
past l m deeper here h = ap (λ b. cond b deeper (cond (m == l) here 0)) (is_less l m h)

at : (l deeper here : ℕ) → by_last l l deeper here ≡ here
at l deeper here = ap (λ b. cond b deeper (cond (l == l) here 0)) (not_less l l (le_refl l)) ∙ ap (λ b. cond b here 0) (eq-eqb l l refl)

pub elif_past : (l : ℕ) (x : Line) (earlier : List Line) → l < x.level → elifs ElifLine l (x ∷ earlier) ≡ elifs ElifLine l earlier
elif_past l x earlier h = past l x.level (elifs ElifLine l earlier) (1 + elifs (kind_of x.form) l earlier) h

pub else_past : (l : ℕ) (x : Line) (earlier : List Line) → l < x.level → elifs ElseLine l (x ∷ earlier) ≡ elifs ElseLine l earlier
else_past l x earlier h = past l x.level (elifs ElseLine l earlier) (elifs (kind_of x.form) l earlier) h

pub elif_here : (x : Line) (earlier : List Line) → elifs ElifLine x.level (x ∷ earlier) ≡ 1 + elifs (kind_of x.form) x.level earlier
elif_here x earlier = at x.level (elifs ElifLine x.level earlier) (1 + elifs (kind_of x.form) x.level earlier)

pub else_here : (x : Line) (earlier : List Line) → elifs ElseLine x.level (x ∷ earlier) ≡ elifs (kind_of x.form) x.level earlier
else_here x earlier = at x.level (elifs ElseLine x.level earlier) (elifs (kind_of x.form) x.level earlier)

-- whether a line of this kind can belong to an `if` that has `elif`s
abbrev pub is_chained : Kind → Bool
is_chained ElifLine = true
is_chained ElseLine = true
is_chained _ = false

pub not_chained : (k : Kind) (l : ℕ) (earlier : List Line) → is_chained k ≡ false → elifs k l earlier ≡ 0
not_chained ElifLine l earlier h = cc
not_chained ElseLine l earlier h = cc
not_chained _ l [] h = refl
not_chained _ l (x ∷ earlier) h = refl

-- ---- Lines more.

pub around_after : (l : ℕ) (earlier xs : List Line) → AreFrom l xs → around l (following earlier xs) ≡ around l earlier
around_after l earlier [] p = refl
around_after l earlier (x ∷ xs) p = around_after l (x ∷ earlier) xs p.1 ∙ around_past l x earlier p.0

pub elif_after : (l : ℕ) (earlier xs : List Line) → AreFrom (suc l) xs → elifs ElifLine l (following earlier xs) ≡ elifs ElifLine l earlier
elif_after l earlier [] p = refl
elif_after l earlier (x ∷ xs) p = elif_after l (x ∷ earlier) xs p.1 ∙ elif_past l x earlier p.0

pub else_after : (l : ℕ) (earlier xs : List Line) → AreFrom (suc l) xs → elifs ElseLine l (following earlier xs) ≡ elifs ElseLine l earlier
else_after l earlier [] p = refl
else_after l earlier (x ∷ xs) p = else_after l (x ∷ earlier) xs p.1 ∙ else_past l x earlier p.0

-- what stands round a line after a header and its block
pub record After (l : ℕ) (h : Header) (earlier now : List Line) : Type 0 where
  pub round : around l now ≡ around l earlier
  pub elif_count : elifs ElifLine l now ≡ 1 + elifs (header_kind h) l earlier
  pub else_count : elifs ElseLine l now ≡ elifs (header_kind h) l earlier

pub after_body : {l : ℕ} {suite : Option (List Stmt)} {xs : List Line} {ss : List Stmt} (h : Header) (earlier : List Line)
    → Body l suite xs ss →
    After l h earlier (following (line l (header_form h suite) ∷ earlier) xs)
after_body {l} {suite} {xs} h earlier p =
    let x : Line = line l (header_form h suite) in
    let deeper = body_from p in
    record {
      round = around_after l (x ∷ earlier) xs (from_lower l xs deeper) ∙ around_past l x earlier (le_refl l);
      elif_count = elif_after l (x ∷ earlier) xs deeper ∙ elif_here x earlier;
      else_count = else_after l (x ∷ earlier) xs deeper ∙ else_here x earlier;
    }
