-- Which lines belong to a derivation of a block: where it begins, and which line ends it.
--
-- Carries: Blocks.
use Rattle.std.proofs.Common.{◌≡◌, refl, sym, ap, ◌∙◌, subst, ℕ, ◌+◌, ◌*◌, ◌<◌, ◌≤◌, arith, List, [], ◌∷◌, ◌++◌, append_assoc}
use Rattle.std.proofs.Common.{Bool, Option}
use Rattle.std.proofs.lemmas.List.{append_cancel_left}
use Rattle.pytree_node.specs.Trees.{Expr, Stmt, Handler, Case}
use Rattle.pygrammar.specs.Lines.{Line, line, Form, header_form, Header, elif_header, finally_header, def_header, DefHead}
use Rattle.pygrammar.specs.Blocks as B
use Rattle.pygrammar.specs.Blocks.{Kind, kind_of}

-- ---- Lines in front of others.

pub rests : {x y : Line} {xs us : List Line} → x ∷ xs ≡ y ∷ us → xs ≡ us
rests e = cc

pub forms : {l : ℕ} {f g : Form} {xs us : List Line} → line l f ∷ xs ≡ line l g ∷ us → f ≡ g
forms {l} {f} {g} e = let k : line l f ≡ line l g = cc in ap (λ (x : Line). x.form) k

pub suites : {h j : Header} {s t : Option (List Stmt)} → header_form h s ≡ header_form j t → s ≡ t
suites e = cc

pub headed : {l : ℕ} {f g : Form} {xs us : List Line} → f ≡ g → xs ≡ us → line l f ∷ xs ≡ line l g ∷ us
headed {l} {g = g} {xs = xs} h k = ap (λ y. line l y ∷ xs) h ∙ ap (λ ys. line l g ∷ ys) k

pub both : {A : Type 0} {a b c d : List A} → a ≡ b → c ≡ d → a ++ c ≡ b ++ d
both {a = a} {d = d} h k = ap (λ z. a ++ z) k ∙ ap (λ z. z ++ d) h

pub following : {xs us r q : List Line} → xs ≡ us → xs ++ r ≡ us ++ q → r ≡ q
following {xs} {us} {r} {q} h e = append_cancel_left xs r q (e ∙ ap (λ z. z ++ q) (sym h))

pub regroup : (xs ys r us vs q : List Line) → (xs ++ ys) ++ r ≡ (us ++ vs) ++ q → xs ++ (ys ++ r) ≡ us ++ (vs ++ q)
regroup xs ys r us vs q e = sym (append_assoc xs ys r) ∙ (e ∙ append_assoc us vs q)

-- ---- Which line ends others.

-- the clauses of a statement in their order, the last the lowest
abbrev rank : Kind → ℕ
rank B.ElifLine = 3
rank (B.ExceptLine _) = 3
rank B.ElseLine = 2
rank B.FinallyLine = 1
rank _ = 0

-- the level of a line and its rank in one number
abbrev reach : Line → ℕ
reach x = 4 * x.level + rank (kind_of x.form)

-- no line follows, or one below what could still go on
pub data Stops (k : ℕ) : List Line → Type 0 where
  at_end : Stops k []
  at_line : {x : Line} {xs : List Line} → reach x < k → Stops k (x ∷ xs)

pub later : {k m : ℕ} {xs : List Line} → k ≤ m → Stops k xs → Stops m xs
later h at_end = at_end
later h (at_line s) = at_line (omega (arith, h, s))

pub stops_both : {k : ℕ} {xs ys : List Line} → Stops k xs → Stops k ys → Stops k (xs ++ ys)
stops_both at_end h = h
stops_both (at_line s) h = at_line s

reached : {k : ℕ} {x : Line} {xs : List Line} → Stops k (x ∷ xs) → reach x < k
reached (at_line s) = s

-- so no other line follows
pub unended : {k : ℕ} {x : Line} {xs ys : List Line} → Stops k ys → ys ≡ x ∷ xs → k ≤ reach x → ⊥
unended {k} s e h = omega (arith, h, reached (subst (Stops k) e s))

-- ---- Where a derivation begins.

pub statement_stops : {l : ℕ} {xs : List Line} {ss : List Stmt} {k : ℕ} (s : B.Statement l xs ss) (ys : List Line) → 4 * l < k
    → Stops k (xs ++ ys)
statement_stops (B.definition_of head B.no_decorator b) ys h = at_line (omega (arith, h))
statement_stops (B.definition_of head (B.decorator d) b) ys h = at_line (omega (arith, h))
statement_stops _ ys h = at_line (omega (arith, h))

pub no_statement : {l : ℕ} {xs : List Line} {ss : List Stmt} {r : List Line} (s : B.Statement l xs ss) (ys : List Line)
    → Stops (4 * l) r → r ≡ xs ++ ys → ⊥
no_statement (B.definition_of head B.no_decorator b) ys s e = unended s e (omega arith)
no_statement (B.definition_of head (B.decorator d) b) ys s e = unended s e (omega arith)
no_statement _ ys s e = unended s e (omega arith)

pub block_stops : {l : ℕ} {xs : List Line} {ss : List Stmt} {k : ℕ} (b : B.Block l xs ss) → 4 * l < k → Stops k xs
block_stops B.nothing h = at_end
block_stops (B.and_then {ys = ys} s b) h = statement_stops s ys h

pub alternative_stops : {l : ℕ} {xs : List Line} {ss : List Stmt} {k : ℕ} (a : B.Alternative l xs ss) → 4 * l + 3 < k → Stops k xs
alternative_stops (B.an_else B.no_else) h = at_end
alternative_stops (B.an_else (B.else_clause b)) h = at_line (omega (arith, h))
alternative_stops (B.an_elif b a) h = at_line (omega (arith, h))

pub otherwise_stops : {l : ℕ} {xs : List Line} {ss : List Stmt} {k : ℕ} (o : B.Otherwise l xs ss) → 4 * l + 2 < k → Stops k xs
otherwise_stops B.no_else h = at_end
otherwise_stops (B.else_clause b) h = at_line (omega (arith, h))

pub ending_stops : {l : ℕ} {xs : List Line} {ss : List Stmt} {k : ℕ} (f : B.Ending l xs ss) → 4 * l + 1 < k → Stops k xs
ending_stops B.no_finally h = at_end
ending_stops (B.finally_clause b) h = at_line (omega (arith, h))

pub handlers_stop : {l : ℕ} {star : Bool} {xs : List Line} {hs : List Handler} {k : ℕ} (e : B.Excepts l star xs hs) → 4 * l + 3 < k
    → Stops k xs
handlers_stop B.no_except h = at_end
handlers_stop (B.except_clause b e) h = at_line (omega (arith, h))

pub cases_stop : {l : ℕ} {xs : List Line} {cs : List Case} {k : ℕ} (c : B.Cases l xs cs) → 4 * l < k → Stops k xs
cases_stop B.no_case h = at_end
cases_stop (B.case_clause b c) h = at_line (omega (arith, h))

-- the clauses of a `try` after its handlers, and all of them
pub last_stop : {l : ℕ} {xs ys : List Line} {ss ts : List Stmt} {k : ℕ} (o : B.Otherwise l xs ss) (f : B.Ending l ys ts)
    → 4 * l + 2 < k → Stops k (xs ++ ys)
last_stop o f h = stops_both (otherwise_stops o h) (ending_stops f (omega (arith, h)))

pub clauses_stop : {l : ℕ} {star : Bool} {xs ys zs : List Line} {hs : List Handler} {ss ts : List Stmt} {k : ℕ}
    (e : B.Excepts l star xs hs) (o : B.Otherwise l ys ss) (f : B.Ending l zs ts) → 4 * l + 3 < k → Stops k (xs ++ (ys ++ zs))
clauses_stop e o f h = stops_both (handlers_stop e h) (last_stop o f (omega (arith, h)))

-- an `elif` is no `else`, and an `except` no `finally`
pub no_elif : {l : ℕ} {xs : List Line} {ss : List Stmt} {test : Expr} {suite : Option (List Stmt)} {us r : List Line}
    (o : B.Otherwise l xs ss) → xs ++ r ≡ line l (header_form (elif_header test) suite) ∷ us → Stops (4 * l + 1) r → ⊥
no_elif B.no_else e s = unended s e (omega arith)
no_elif (B.else_clause b) e s = let k = forms e in cc

pub no_final : {l : ℕ} {star : Bool} {xs : List Line} {h : Handler} {hs : List Handler} {suite : Option (List Stmt)} {us : List Line}
    (e : B.Excepts l star xs (h ∷ hs)) (r : List Line) → line l (header_form finally_header suite) ∷ us ≡ xs ++ r → ⊥
no_final (B.except_clause b h) r e = let k = forms e in cc

-- ---- Which alternative a line begins.

abbrev turn : Kind → ℕ
turn B.SimpleLine = 0
turn B.IfLine = 1
turn B.LoopLine = 2
turn B.WithLine = 3
turn B.TryLine = 4
turn B.DecoratorLine = 5
turn B.DefLine = 5
turn B.MatchLine = 6
turn _ = 7

abbrev pub first : List Line → ℕ
first [] = 7
first (x ∷ xs) = turn (kind_of x.form)

abbrev pub turn_of : {l : ℕ} {xs : List Line} {ss : List Stmt} → B.Statement l xs ss → ℕ
turn_of B.simple_line = 0
turn_of (B.if_statement b a) = 1
turn_of (B.loop_statement b o) = 2
turn_of (B.with_statement b) = 3
turn_of (B.try_finally b f) = 4
turn_of (B.try_except b h o f) = 4
turn_of (B.definition_of head d b) = 5
turn_of (B.match_statement c) = 6

pub first_is : {l : ℕ} {xs : List Line} {ss : List Stmt} (s : B.Statement l xs ss) (ys : List Line) → first (xs ++ ys) ≡ turn_of s
first_is (B.definition_of head B.no_decorator b) ys = refl
first_is (B.definition_of head (B.decorator d) b) ys = refl
first_is _ ys = refl

-- decorators end at the header of their definition
pub decorators_end : {l : ℕ} {xs : List Line} {es : List Expr} {us : List Line} {ns : List Expr} (h j : DefHead)
    (s t : Option (List Stmt)) (r q : List Line) (d : B.Decorators l xs es) (n : B.Decorators l us ns)
    → xs ++ (line l (header_form (def_header h) s) ∷ r) ≡ us ++ (line l (header_form (def_header j) t) ∷ q) → xs ≡ us
decorators_end h j s t r q B.no_decorator B.no_decorator e = refl
decorators_end h j s t r q B.no_decorator (B.decorator n) e = let k = forms e in absurd (cc)
decorators_end h j s t r q (B.decorator d) B.no_decorator e = let k = forms e in absurd (cc)
decorators_end h j s t r q (B.decorator d) (B.decorator n) e = headed (forms e) (decorators_end h j s t r q d n (rests e))
