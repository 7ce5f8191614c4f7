-- The lines of a statement reach as deep as the statement is high.
--
-- Carries: high, AreFlat, deepest, IsFlat and 2 more, for Deep,
-- WorkedDepths. On: Around.
use Rattle.std.proofs.Common.{◌≡◌, ℕ, suc, ◌+◌, ◌≤◌, max, List, [], ◌∷◌, ◌++◌, Option, Some, None, Bool, true, false, cond, refl, sym, ap}
use Rattle.std.proofs.Common.{◌∙◌, subst, arith}
use Rattle.pytree_node.specs.Trees.{Expr, Pattern, Stmt, Case, Handler, stmts, cases, handlers}
use Rattle.pytree_height.specs.Heights.{stmt_height, stmt_heights, case_heights, handler_heights}
use Rattle.pytoken.specs.Inner.Following.{following}
use Rattle.pygrammar.specs.Lines.{Line, line, Form, simple_form, decorator_form, header_form, Header, if_header, elif_header, else_header}
use Rattle.pygrammar.specs.Lines.{loop_header, with_header, try_header, except_header, finally_header, def_header, match_header}
use Rattle.pygrammar.specs.Lines.{case_header, LoopHead, while_head, for_head, DefHead, function_head, class_head, loop, with_of}
use Rattle.pygrammar.specs.Lines.{definition, try_of}
use Rattle.pygrammar.specs.Blocks.{Block, Statement, Body, Alternative, Otherwise, Excepts, Cases, Ending, Decorators, nothing, and_then}
use Rattle.pygrammar.specs.Blocks.{simple_line, if_statement, loop_statement, with_statement, try_finally, try_except, definition_of}
use Rattle.pygrammar.specs.Blocks.{match_statement, inline, indented, an_else, an_elif, no_else, else_clause, no_except, except_clause}
use Rattle.pygrammar.specs.Blocks.{no_case, case_clause, no_finally, finally_clause, no_decorator, decorator, Kind, ElifLine, ElseLine}
use Rattle.pygrammar.specs.Blocks.{TryLine, ExceptLine, CaseLine, header_kind}
use Rattle.pygrammar.specs.Refusals.{elifs, own, around, is_clause, beginning}
use Rattle.pygrammar.proofs.Block.Around.{statement_from, around_after, around_past, around_inside, is_chained, not_chained, after_body}
use Rattle.pygrammar.proofs.Block.Around.{excepts_from, otherwise_from, decorators_from}

-- ---- Flat lines: simple statements alone, and at least one of them.

abbrev pub high : List Stmt → ℕ
high ss = stmt_heights (stmts ss)

abbrev pub IsFlat : Form → Type 0
IsFlat (simple_form ss) = high ss ≡ 1
IsFlat (decorator_form e) = Unit {0}
IsFlat (header_form h None) = Unit {0}
IsFlat (header_form h (Some ss)) = high ss ≡ 1

abbrev pub AreFlat : List Line → Type 0
AreFlat [] = Unit {0}
AreFlat (x ∷ xs) = IsFlat x.form × AreFlat xs

flat_parts : (xs ys : List Line) → AreFlat (xs ++ ys) → AreFlat xs × AreFlat ys
flat_parts [] ys f = (tt, f)
flat_parts (x ∷ xs) ys f = let p = flat_parts xs ys f.1 in ((f.0, p.0), p.1)

-- ---- How deep lines reach.

-- the statements round a line, and the one that begins in it
abbrev pub top : Option ℕ → ℕ
top None = 0
top (Some n) = suc n

abbrev pub deepest : List Line → List Line → ℕ
deepest earlier [] = 0
deepest earlier (x ∷ xs) = max (top (beginning x earlier)) (deepest (x ∷ earlier) xs)

max_none : (a : ℕ) → a ≡ max 0 a
max_none a = omega arith

max_more : (t a b c : ℕ) → a ≡ max b c → max t a ≡ max (max t b) c
max_more t a b c h = omega arith

following-append : (earlier xs ys : List Line) → following earlier (xs ++ ys) ≡ following (following earlier xs) ys
following-append earlier [] ys = refl
following-append earlier (x ∷ xs) ys = following-append (x ∷ earlier) xs ys

deepest-append : (earlier xs ys : List Line) → deepest earlier (xs ++ ys) ≡ max (deepest earlier xs) (deepest (following earlier xs) ys)
deepest-append earlier [] ys = max_none (deepest earlier ys)
deepest-append earlier (x ∷ xs) ys = max_more (top (beginning x earlier)) _ _ _ (deepest-append (x ∷ earlier) xs ys)

high-append : (a b : List Stmt) → high (a ++ b) ≡ max (high a) (high b)
high-append [] b = max_none (high b)
high-append (s ∷ a) b = max_more (stmt_height s) _ _ _ (high-append a b)

-- where this many statements stand round them, the lines reach as deep as
-- statements of this height inside
pub record Reaches (m n : ℕ) (earlier xs : List Line) : Type 0 where
  pub is : max m (deepest earlier xs) ≡ m + n

joined : (m n k a b c : ℕ) → max m a ≡ m + n → max m b ≡ m + k → c ≡ max a b → max m c ≡ m + max n k
joined m n k a b c p q h = omega arith

reaches-append : {m n k : ℕ} {earlier xs ys : List Line} → Reaches m n earlier xs → Reaches m k (following earlier xs) ys
    → Reaches m (max n k) earlier (xs ++ ys)
reaches-append {m} {n} {k} {earlier} {xs} {ys} p q =
    record { is = joined m n k (deepest earlier xs) (deepest (following earlier xs) ys) _ p.is q.is (deepest-append earlier xs ys) }

reaches_none : (m : ℕ) (earlier : List Line) → Reaches m 0 earlier []
reaches_none m earlier = record { is = omega arith }

reaches_in : {m r n : ℕ} {earlier xs : List Line} → m ≡ r → Reaches m n earlier xs → Reaches r n earlier xs
reaches_in {n = n} {earlier = earlier} {xs = xs} e p = subst (λ z. Reaches z n earlier xs) e p

reaches_to : {m n k : ℕ} {earlier xs : List Line} → n ≡ k → Reaches m n earlier xs → Reaches m k earlier xs
reaches_to {m} {earlier = earlier} {xs = xs} e p = subst (λ z. Reaches m z earlier xs) e p

-- ---- A header.

-- how many statements stand round the block of a header
abbrev inside : ℕ → Header → List Line → ℕ
inside l h earlier = around l earlier + (elifs (header_kind h) l earlier + own (header_kind h))

-- no other headers than those of clauses are statements of their own
one_own : (k : Kind) → is_clause k ≡ false → own k ≡ 1
one_own CaseLine c = cc
one_own _ c = refl

within : (k : Kind) (a e : ℕ) → top (cond (is_clause k) None (Some (a + e))) ≤ a + (e + own k)
within k a e = by_clause (is_clause k) (one_own k)
  where
    by_clause : (b : Bool) → (b ≡ false → own k ≡ 1) → top (cond b None (Some (a + e))) ≤ a + (e + own k)
    by_clause true h = omega arith
    by_clause false h = let o : own k ≡ 1 = h refl in omega (arith, o)

begins_least : (l : ℕ) (h : Header) (suite : Option (List Stmt)) (earlier : List Line) → is_clause (header_kind h) ≡ false →
    inside l h earlier ≤ top (beginning (line l (header_form h suite)) earlier)
begins_least l h (Some ss) earlier c = omega arith
begins_least l h None earlier c = by_clause (is_clause (header_kind h)) (around l earlier) (elifs (header_kind h) l earlier)
    (own (header_kind h)) (one_own (header_kind h) c) c
  where
    by_clause : (b : Bool) (a e o : ℕ) → o ≡ 1 → b ≡ false → a + (e + o) ≤ top (cond b None (Some (a + e)))
    by_clause true a e o h c = absurd cc
    by_clause false a e o h c = omega (arith, h)

one_inline : (r n : ℕ) → n ≡ 1 → max r (max (suc r) 0) ≡ r + n
one_inline r n h = omega arith

one_indented : (r t w n : ℕ) → t ≤ r → max r w ≡ r + n → max r (max t w) ≡ r + n
one_indented r t w n h e = omega arith

one_whole : (m r t w n : ℕ) → r ≡ suc m → r ≤ t → max r (max t w) ≡ r + n → max m (max t w) ≡ m + max (n + 1) 0
one_whole m r t w n e h k = omega arith

-- the statement that begins in a header's line, with all that is inside
compound : {l : ℕ} (h : Header) {suite : Option (List Stmt)} {rest : List Line} (n m : ℕ) (earlier : List Line)
    → is_clause (header_kind h) ≡ false → inside l h earlier ≡ suc m →
    Reaches (inside l h earlier) n earlier (line l (header_form h suite) ∷ rest)
    → Reaches m (max (n + 1) 0) earlier (line l (header_form h suite) ∷ rest)
compound {l} h {suite} {rest} n m earlier c e p =
    let x : Line = line l (header_form h suite) in
    record {
      is = one_whole m (inside l h earlier) (top (beginning x earlier)) (deepest (x ∷ earlier) rest) n e
          (begins_least l h suite earlier c) p.is;
    }

-- a header, and the lines of its block
over_block : (l n : ℕ) (h : Header) (earlier xs : List Line) → Reaches (inside l h earlier) n (line l (header_form h None) ∷ earlier) xs →
    Reaches (inside l h earlier) n earlier (line l (header_form h None) ∷ xs)
over_block l n h earlier xs p =
    let x : Line = line l (header_form h None) in
    record {
      is = one_indented (inside l h earlier) (top (beginning x earlier)) (deepest (x ∷ earlier) xs) n
          (within (header_kind h) (around l earlier) (elifs (header_kind h) l earlier)) p.is;
    }

-- a header that is no `elif` and no `else`, and one of a case
inside_is : (l : ℕ) (h : Header) (earlier : List Line) → is_chained (header_kind h) ≡ false → own (header_kind h) ≡ 1
    → inside l h earlier ≡ suc (around l earlier)
inside_is l h earlier c o = let e = not_chained (header_kind h) l earlier c in omega (arith, e, o)

inside_case : (l : ℕ) (pattern : Pattern) (guard : Option Expr) (earlier : List Line)
    → inside l (case_header pattern guard) earlier ≡ around l earlier
inside_case l pattern guard earlier = let e = not_chained CaseLine l earlier refl in omega (arith, e)

-- ---- Heights of statements.

loop_height : (head : LoopHead) (body orelse : List Stmt) → max (max (high body) (high orelse) + 1) 0 ≡ high (loop head body orelse ∷ [])
loop_height (while_head test) body orelse = refl
loop_height (for_head false target iter) body orelse = refl
loop_height (for_head true target iter) body orelse = refl

with_height : (is_async : Bool) (items : _) (body : List Stmt) → max (high body + 1) 0 ≡ high (with_of is_async items body ∷ [])
with_height false items body = refl
with_height true items body = refl

definition_height : (es : List Expr) (head : DefHead) (body : List Stmt) → max (high body + 1) 0 ≡ high (definition es head body ∷ [])
definition_height es (function_head false name parameters args returns) body = refl
definition_height es (function_head true name parameters args returns) body = refl
definition_height es (class_head name parameters bases keywords) body = refl

try_height : (star : Bool) (body : List Stmt) (hs : List Handler) (orelse final : List Stmt) →
    max (max (high body) (max (handler_heights (handlers hs)) (max (high orelse) (high final))) + 1) 0 ≡ high
    (try_of star body hs orelse final ∷ [])
try_height false body hs orelse final = refl
try_height true body hs orelse final = refl

plain_try : (a b : ℕ) → max (max a b + 1) 0 ≡ max (max a (max 0 (max 0 b)) + 1) 0
plain_try a b = ap (λ z. max (max a z + 1) 0) (max_none b ∙ max_none (max 0 b))

-- ---- Decorators.

decorated_line : (m t w : ℕ) → t ≡ suc m → w ≤ suc m → max t w ≤ suc m
decorated_line m t w h e = omega arith

decorators_depth : {l : ℕ} {ds : List Line} {es : List Expr} → Decorators l ds es → (earlier : List Line) (m : ℕ) → around l earlier ≡ m
    → deepest earlier ds ≤ suc m
decorators_depth no_decorator earlier m h = omega arith
decorators_depth {l} (decorator {e = e} {xs = xs} p) earlier m h =
    let x : Line = line l (decorator_form e) in
    decorated_line m (suc (around l earlier)) (deepest (x ∷ earlier) xs) (ap suc h)
    (decorators_depth p (x ∷ earlier) m (around_past l x earlier (omega arith) ∙ h))

decorated : (m n a b c : ℕ) → a ≤ suc m → max m b ≡ m + max (n + 1) 0 → c ≡ max a b → max m c ≡ m + max (n + 1) 0
decorated m n a b c h p e = omega arith

-- ---- By the tree.

excepts_after : {l : ℕ} {star : Bool} {xs : List Line} {hs : List Handler} → Excepts l star xs hs → (earlier : List Line)
    → elifs ElseLine l earlier ≡ 0 → elifs ElseLine l (following earlier xs) ≡ 0
excepts_after no_except earlier h = h
excepts_after {l} (except_clause {star = star} {matched = matched} {name = name} {suite = suite} {xs = xs} {ys = ys} p q) earlier h =
    let k : Header = except_header star matched name in
    let x : Line = line l (header_form k suite) in
    ap (elifs ElseLine l) (following-append (x ∷ earlier) xs ys)
    ∙ excepts_after q (following (x ∷ earlier) xs) ((after_body k earlier p).else_count ∙ not_chained (ExceptLine star) l earlier refl)

mutual
  pub block_depth : {l : ℕ} {xs : List Line} {ss : List Stmt} → Block l xs ss → (earlier : List Line) (m : ℕ) → around l earlier ≡ m
      → AreFlat xs → Reaches m (high ss) earlier xs
  block_depth nothing earlier m e f = reaches_none m earlier
  block_depth {l} (and_then {xs = xs} {ys = ys} {ss = ss} {more = more} p q) earlier m e f =
      let g = flat_parts xs ys f in
      reaches_to (sym (high-append ss more))
      (reaches-append (statement_depth p earlier m e g.0)
      (block_depth q (following earlier xs) m (around_after l earlier xs (statement_from p) ∙ e) g.1))

  pub statement_depth : {l : ℕ} {xs : List Line} {ss : List Stmt} → Statement l xs ss → (earlier : List Line) (m : ℕ) → around l earlier ≡ m
      → AreFlat xs → Reaches m (high ss) earlier xs
  statement_depth {l} (simple_line {ss = ss}) earlier m e f = reaches_in e (record { is = one_inline (around l earlier) (high ss) f.0 })
  statement_depth {l} (if_statement {test = test} {suite = suite} {xs = xs} {ys = ys} {body = body} {orelse = orelse} p q) earlier m e f =
      let h : Header = if_header test in
      let g = flat_parts xs ys f.1 in
      let a = after_body h earlier p in
      reaches_in e
      (compound h (max (high body) (high orelse)) (around l earlier) earlier refl (inside_is l h earlier refl refl)
      (reaches-append (body_depth h earlier p f.0 g.0)
      (alternative_depth q (following (line l (header_form h suite) ∷ earlier) xs) (inside l h earlier) (omega (arith, a.round, a.else_count))
      (omega (arith, a.elif_count, a.else_count)) g.1)))
  statement_depth {l} (loop_statement {head = head} {suite = suite} {xs = xs} {ys = ys} {body = body} {orelse = orelse} p q) earlier m e f =
      let h : Header = loop_header head in
      let g = flat_parts xs ys f.1 in
      let a = after_body h earlier p in
      reaches_in e
      (reaches_to (loop_height head body orelse)
      (compound h (max (high body) (high orelse)) (around l earlier) earlier refl (inside_is l h earlier refl refl)
      (reaches-append (body_depth h earlier p f.0 g.0)
      (otherwise_depth q (following (line l (header_form h suite) ∷ earlier) xs) (inside l h earlier)
      (omega (arith, a.round, a.else_count)) g.1))))
  statement_depth {l} (with_statement {is_async = is_async} {items = items} {body = body} p) earlier m e f =
      let h : Header = with_header is_async items in
      reaches_in e
      (reaches_to (with_height is_async items body)
      (compound h (high body) (around l earlier) earlier refl (inside_is l h earlier refl refl) (body_depth h earlier p f.0 f.1)))
  statement_depth {l} (try_finally {suite = suite} {last = last} {xs = xs} {ys = ys} {body = body} {final = final} p q) earlier m e f =
      let g = flat_parts xs (line l (header_form finally_header last) ∷ ys) f.1 in
      let a = after_body try_header earlier p in
      let now : List Line = following (line l (header_form try_header suite) ∷ earlier) xs in
      let i = inside_is l finally_header now refl refl in
      let j = inside_is l try_header earlier refl refl in
      reaches_in e
      (reaches_to (plain_try (high body) (high final))
      (compound try_header (max (high body) (high final)) (around l earlier) earlier refl j
      (reaches-append (body_depth try_header earlier p f.0 g.0)
      (reaches_in (i ∙ ap suc a.round ∙ sym j) (body_depth finally_header now q g.1.0 g.1.1)))))
  statement_depth {l} (try_except {star = star} {suite = suite} {xs = xs} {ys = ys} {zs = zs} {ws = ws} {body = body} {orelse = orelse}
      {final = final} {h = first} {hs = hs} p q o z) earlier m e f =
      let g = flat_parts xs (ys ++ (zs ++ ws)) f.1 in
      let g1 = flat_parts ys (zs ++ ws) g.1 in
      let g2 = flat_parts zs ws g1.1 in
      let a = after_body try_header earlier p in
      let now : List Line = following (line l (header_form try_header suite) ∷ earlier) xs in
      let j = inside_is l try_header earlier refl refl in
      let none : elifs ElseLine l now ≡ 0 = a.else_count ∙ not_chained TryLine l earlier refl in
      let caught = around_after l now ys (excepts_from q) in
      let late = excepts_after q now none in
      let settled = around_after l (following now ys) zs (otherwise_from o) in
      reaches_in e
      (reaches_to (try_height star body (first ∷ hs) orelse final)
      (compound try_header _ (around l earlier) earlier refl j
      (reaches-append (body_depth try_header earlier p f.0 g.0)
      (reaches-append (excepts_depth q now (inside l try_header earlier) (ap suc a.round ∙ sym j) g1.0)
      (reaches-append
      (otherwise_depth o (following now ys) (inside l try_header earlier) (omega (arith, caught, late, a.round, j)) g2.0)
      (ending_depth z (following (following now ys) zs) (inside l try_header earlier) (ap suc (settled ∙ caught ∙ a.round) ∙ sym j) g2.1))))))
  statement_depth {l} (definition_of head {suite = suite} {ds = ds} {xs = xs} {es = es} {body = body} d p) earlier m e f =
      let h : Header = def_header head in
      let x : Line = line l (header_form h suite) in
      let g = flat_parts ds (x ∷ xs) f in
      let now : List Line = following earlier ds in
      let same : around l now ≡ m = around_after l earlier ds (decorators_from d) ∙ e in
      reaches_to (definition_height es head body)
      (record {
        is = decorated m (high body) (deepest earlier ds) (deepest now (x ∷ xs)) _ (decorators_depth d earlier m e)
            (compound h (high body) m now refl (inside_is l h now refl refl ∙ ap suc same) (body_depth h now p g.1.0 g.1.1)).is
            (deepest-append earlier ds (x ∷ xs));
      })
  statement_depth {l} (match_statement {subject = subject} {x = y} {xs = ys} {cs = cs} p) earlier m e f =
      let h : Header = match_header subject in
      let x : Line = line l (header_form h None) in
      reaches_in e
      (compound h (case_heights (cases cs)) (around l earlier) earlier refl (inside_is l h earlier refl refl)
      (over_block l (case_heights (cases cs)) h earlier (y ∷ ys)
      (cases_depth p (x ∷ earlier) (inside l h earlier) (around_inside (suc l) x earlier (omega arith)) f.1)))

  pub body_depth : {l : ℕ} {suite : Option (List Stmt)} {xs : List Line} {ss : List Stmt} (h : Header) (earlier : List Line)
      → Body l suite xs ss →
      IsFlat (header_form h suite) → AreFlat xs → Reaches (inside l h earlier) (high ss) earlier (line l (header_form h suite) ∷ xs)
  body_depth {l} h earlier (inline {ss = ss}) f g = record { is = one_inline (inside l h earlier) (high ss) f }
  body_depth {l} h earlier (indented {x = y} {xs = ys} {ss = ss} p) f g =
      let x : Line = line l (header_form h None) in
      over_block l (high ss) h earlier (y ∷ ys)
      (block_depth p (x ∷ earlier) (inside l h earlier) (around_inside (suc l) x earlier (omega arith)) g)

  pub alternative_depth : {l : ℕ} {xs : List Line} {ss : List Stmt} → Alternative l xs ss → (earlier : List Line) (r : ℕ)
      → around l earlier + (elifs ElseLine l earlier + 1) ≡ r →
      elifs ElifLine l earlier ≡ suc (elifs ElseLine l earlier) → AreFlat xs → Reaches r (high ss) earlier xs
  alternative_depth (an_else p) earlier r e k f = otherwise_depth p earlier r e f
  alternative_depth {l} (an_elif {test = test} {suite = suite} {xs = xs} {ys = ys} {body = body} {orelse = orelse} p q) earlier r e k f =
      let h : Header = elif_header test in
      let g = flat_parts xs ys f.1 in
      let a = after_body h earlier p in
      compound h (max (high body) (high orelse)) r earlier refl (omega (arith, e, k))
      (reaches-append (body_depth h earlier p f.0 g.0)
      (alternative_depth q (following (line l (header_form h suite) ∷ earlier) xs) (inside l h earlier) (omega (arith, a.round, a.else_count))
      (omega (arith, a.elif_count, a.else_count)) g.1))

  pub otherwise_depth : {l : ℕ} {xs : List Line} {ss : List Stmt} → Otherwise l xs ss → (earlier : List Line) (r : ℕ)
      → around l earlier + (elifs ElseLine l earlier + 1) ≡ r → AreFlat xs →
      Reaches r (high ss) earlier xs
  otherwise_depth no_else earlier r e f = reaches_none r earlier
  otherwise_depth (else_clause p) earlier r e f = reaches_in e (body_depth else_header earlier p f.0 f.1)

  pub excepts_depth : {l : ℕ} {star : Bool} {xs : List Line} {hs : List Handler} → Excepts l star xs hs → (earlier : List Line) (r : ℕ)
      → suc (around l earlier) ≡ r → AreFlat xs →
      Reaches r (handler_heights (handlers hs)) earlier xs
  excepts_depth no_except earlier r e f = reaches_none r earlier
  excepts_depth {l} (except_clause {star = star} {matched = matched} {name = name} {suite = suite} {xs = xs} {ys = ys} p q) earlier r e f =
      let h : Header = except_header star matched name in
      let g = flat_parts xs ys f.1 in
      let a = after_body h earlier p in
      reaches-append (reaches_in (inside_is l h earlier refl refl ∙ e) (body_depth h earlier p f.0 g.0))
      (excepts_depth q (following (line l (header_form h suite) ∷ earlier) xs) r (ap suc a.round ∙ e) g.1)

  pub cases_depth : {l : ℕ} {xs : List Line} {cs : List Case} → Cases l xs cs → (earlier : List Line) (r : ℕ) → around l earlier ≡ r
      → AreFlat xs → Reaches r (case_heights (cases cs)) earlier xs
  cases_depth no_case earlier r e f = reaches_none r earlier
  cases_depth {l} (case_clause {pattern = pattern} {guard = guard} {suite = suite} {xs = xs} {ys = ys} p q) earlier r e f =
      let h : Header = case_header pattern guard in
      let g = flat_parts xs ys f.1 in
      let a = after_body h earlier p in
      reaches-append (reaches_in (inside_case l pattern guard earlier ∙ e) (body_depth h earlier p f.0 g.0))
      (cases_depth q (following (line l (header_form h suite) ∷ earlier) xs) r (a.round ∙ e) g.1)

  pub ending_depth : {l : ℕ} {xs : List Line} {ss : List Stmt} → Ending l xs ss → (earlier : List Line) (r : ℕ) → suc (around l earlier) ≡ r
      → AreFlat xs → Reaches r (high ss) earlier xs
  ending_depth no_finally earlier r e f = reaches_none r earlier
  ending_depth {l} (finally_clause p) earlier r e f = reaches_in (inside_is l finally_header earlier refl refl ∙ e)
      (body_depth finally_header earlier p f.0 f.1)
