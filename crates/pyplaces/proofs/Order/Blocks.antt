-- Each block of an accepted source is laid out: by recursion on the derivation.
--
-- Carries: block_in, laid_out, for Law; lists and clauses for LaminarBlocks. On: Together.
use Rattle.std.proofs.Common.{◌≡◌, refl, sym, subst, ℕ, ◌+◌, ◌≤◌, arith, Bool, false, List, [], ◌∷◌, ◌++◌, append_assoc, length}
use Rattle.std.proofs.Common.{take, drop, Option, Some}
use Rattle.pytree_node.specs.declared.profiles.Profile.{Profile}
use Rattle.pytree_node.specs.Trees.{Expr, Stmt, Handler, Case, If, Match, stmts, cases}
use Rattle.pytree_dump_text.specs.Shows.{shown_stmt}
use Rattle.pytree_marked.specs.MarkedNodes.{marked}
use Rattle.pygrammar.specs.Lines.{Line, line, Form, header_form, Header, finally_header, def_header, loop, with_of}
use Rattle.pygrammar.specs.Lines.{DefHead, definition, try_of}
use Rattle.pygrammar.specs.Blocks as B
use Rattle.pyplaces.specs.Stretches.{Span}
use Rattle.pyplaces.specs.BlockPlaces.{LinePlaces, ending, own, block_places, statement_places, definition_places, final_places}
use Rattle.pyplaces.specs.BlockPlaces.{body_places, alternative_places, otherwise_places, handlers_places, cases_places, ending_places}
use Rattle.pyplaces.specs.Spans.{AllLieBetween}
use Rattle.pyplaces.specs.EachBlock.{HandlersLie, CasesLie, InBlock, InStatement, OfBody, OfHeaded, OfAlternative, OfOtherwise}
use Rattle.pyplaces.specs.EachBlock.{OfHandlers}
use Rattle.pyplaces.specs.EachBlock.{OfCases, OfEnding}
use Rattle.pyplaces.specs.Order.{IsLaidOut}
use Rattle.pyplaces.proofs.Laws.Blocks.{count_statement, count_alternative}
use Rattle.pyplaces.proofs.Order.Simples.{three, none_in, order_lower}
use Rattle.pyplaces.proofs.Order.Lines.{LineLies, LinesLie}
use Rattle.pyplaces.proofs.Order.Together.{In, nothing, ◌⊕◌, wide, Given, split, reaches, Head, one_head, head, before_in, suite_lies}
use Rattle.pyplaces.proofs.Order.Together.{own_in}
use Rattle.pyplaces.proofs.Order.Together.{BlockIn, BodyIn, compound, loop_plain, with_plain, try_plain, defined, order_higher, both_in}

pub laid_out : {profile : Profile} {lo hi : ℕ} {ss : List Stmt} {ps : List Span} {I : Type 0} → BlockIn profile lo hi ss ps I
    → IsLaidOut profile ss ps
laid_out {profile} {lo} {hi} r = let l = r.laid in record { rooted = l.rooted; from = lo; to = hi; order = l.order }

pub two : (as_ bs cs : List Span) → as_ ++ (bs ++ cs) ≡ (as_ ++ bs) ++ cs
two as_ bs cs = sym (append_assoc as_ bs cs)

pub four : (as_ bs cs ds es : List Span) → as_ ++ (bs ++ (cs ++ (ds ++ es))) ≡ (as_ ++ (bs ++ (cs ++ ds))) ++ es
four as_ bs cs ds es = simp append_assoc refl

-- statements that stand in the line of their header
suite_laid : {profile : Profile} {x : Header} {ss : List Stmt} {z : LinePlaces} → LineLies profile (header_form x (Some ss)) z
    → IsLaidOut profile ss z.suite
suite_laid {z = z} l = record { rooted = l.rooted; from = z.whole.start; to = z.whole.stop; order = l.order }

-- ---- Handlers and cases.

record ClausesIn (lo hi : ℕ) (ps : List Span) (I O : Type 0) : Type 0 where
  lies : In lo hi ps
  inside : I
  order : O

handlers_lower : {l : ℕ} {star : Bool} {xs : List Line} {hs : List Handler} (low lo hi : ℕ) (zs : List LinePlaces)
    (e : B.Excepts l star xs hs) → low ≤ lo → HandlersLie lo zs e hi → HandlersLie low zs e hi
handlers_lower low lo hi zs B.no_except a h = omega (arith, a, h)
handlers_lower low lo hi [] (B.except_clause b e) a h = omega (arith, a, h)
handlers_lower low lo hi (z ∷ zs) (B.except_clause b e) a h = (omega (arith, a, h.0), h.1, h.2, h.3)

cases_lower : {l : ℕ} {xs : List Line} {cs : List Case} (low lo hi : ℕ) (zs : List LinePlaces) (e : B.Cases l xs cs) → low ≤ lo
    → CasesLie lo zs e hi → CasesLie low zs e hi
cases_lower low lo hi zs B.no_case a h = omega (arith, a, h)
cases_lower low lo hi [] (B.case_clause b e) a h = omega (arith, a, h)
cases_lower low lo hi (z ∷ zs) (B.case_clause b e) a h = (omega (arith, a, h.0), h.1, h.2, h.3)

-- ---- A definition's body, after its header.

headed : (profile : Profile) {l : ℕ} {suite : Option (List Stmt)} {xs : List Line} {ss : List Stmt} (z : LinePlaces)
    (zs : List LinePlaces) (b : B.Body l suite xs ss) → OfBody (IsLaidOut profile) z zs b → OfHeaded (IsLaidOut profile) (z ∷ zs) b
headed profile z zs B.inline i = i
headed profile z zs (B.indented b) i = i

pub some_line : {profile : Profile} {lo hi : ℕ} (ds : List Line) (x : Line) (xs : List Line)
    → LinesLie profile lo (ds ++ (x ∷ xs)) [] hi → ⊥
some_line [] x xs o = elim o [ ]
some_line (d ∷ ds) x xs o = elim o [ ]

-- after its decorators
definition_in : {profile : Profile} {lo mid hi l : ℕ} {suite : Option (List Stmt)} {ds xs : List Line} {es : List Expr} {body : List Stmt}
    {dz : List LinePlaces} (top : DefHead) (d : B.Decorators l ds es) (b : B.Body l suite xs body) → Given profile lo ds dz mid
    → (zs : List LinePlaces) → Given profile mid (line l (header_form (def_header top) suite) ∷ xs) zs hi
    → ((w : LinePlaces) (ws : List LinePlaces) → LineLies profile (header_form (def_header top) suite) w
    → Given profile w.whole.stop xs ws (ending w.whole.start (w ∷ ws)).stop
    → BodyIn w.whole.start (ending w.whole.start (w ∷ ws)).stop (body_places w ws b) (OfHeaded (IsLaidOut profile) (w ∷ ws) b))
    → length (definition_places dz zs b) ≡ marked (shown_stmt profile (definition es top body)) + 0
    → BlockIn profile lo hi (definition es top body ∷ []) (definition_places dz zs b) (OfHeaded (IsLaidOut profile) zs b)
definition_in top d b g [] k p c = elim k.lie [ ]
definition_in top d b g (w ∷ ws) k p c = let h = head k in defined top d b g h (p w ws h.line_lies h.others) c

-- a clause, up to where the last of its own lines ends
pub clause : {profile : Profile} {lo hi mid : ℕ} {f : Form} {xs ys : List Line} {z : LinePlaces} {ws zs : List LinePlaces}
    → Head profile lo f ys z zs hi → Given profile z.whole.stop xs ws mid → Head profile lo f xs z ws mid
clause h g = one_head h.line_lies h.begins g

-- ---- All of them.

mutual
  pub block_in : {profile : Profile} {l lo hi : ℕ} {xs : List Line} {ss : List Stmt} {zs : List LinePlaces} (b : B.Block l xs ss)
      → Given profile lo xs zs hi → BlockIn profile lo hi ss (block_places zs b) (InBlock (IsLaidOut profile) zs b)
  block_in {profile} {lo = lo} {hi = hi} B.nothing g = record { laid = none_in profile lo hi (reaches g.lie); lies = nothing; inside = tt }
  block_in {zs = zs} (B.and_then {xs = xs} {ys = ys} {ss = ss} s b) g =
      let r = split xs ys g in
      let one = r.first in
      let p = statement_in s one in
      let q = block_in b r.others in
      let low = reaches one.lie in
      let rest = r.others in
      let high = reaches rest.lie in
      let c = count_statement s one.counted in
      record {
        laid = both_in ss (statement_places (take (length xs) zs) s) p.laid c.is q.laid;
        lies = wide p.lies (omega arith) high ⊕ wide q.lies low (omega arith);
        inside = (p.inside, q.inside);
      }

  statement_in : {profile : Profile} {l lo hi : ℕ} {xs : List Line} {ss : List Stmt} {zs : List LinePlaces} (s : B.Statement l xs ss)
      → Given profile lo xs zs hi → BlockIn profile lo hi ss (statement_places zs s) (InStatement (IsLaidOut profile) zs s)
  statement_in {zs = []} B.simple_line g = elim g.lie [ ]
  statement_in {profile} {lo = lo} {hi = hi} {zs = z ∷ zs} (B.simple_line {ss = ss}) g =
      let h = head g in
      let l = h.line_lies in
      let a = h.all in
      let high = reaches a.lie in
      record {
        laid = record {
          order = order_lower lo z.whole.start _ hi h.begins (order_higher z.whole.start _ z.whole.stop hi high l.order);
          rooted = l.rooted;
        };
        lies = wide (suite_lies l) h.begins high;
        inside = tt;
      }
  statement_in {zs = []} (B.if_statement b a) g = elim g.lie [ ]
  statement_in {profile} {zs = z ∷ zs} (B.if_statement {test = test} {xs = xs} {ys = ys} {body = body} {orelse = orelse} b a) g =
      let h = head g in
      let l = h.line_lies in
      let r = split xs ys h.others in
      let one = r.first in
      let two = r.others in
      let p = body_in b z (take (length xs) zs) l one in
      let q = alternative_in a two in
      let c = count_statement (B.if_statement {test = test} b a) g.counted in
      compound (If test (stmts body) (stmts orelse)) h
      (three z.before (body_places z (take (length xs) zs) b) (alternative_places (drop (length xs) zs) a) (own z zs))
      (wide (before_in l) (omega arith) h.last ⊕ (wide p.lies (omega arith) (reaches two.lie)
      ⊕ wide q.lies (let k = reaches one.lie in omega (arith, k, l.forward)) (omega arith)))
      c.is refl (p.inside, q.inside)
  statement_in {zs = []} (B.loop_statement b a) g = elim g.lie [ ]
  statement_in {profile} {zs = z ∷ zs} (B.loop_statement {head = top} {xs = xs} {ys = ys} {body = body} {orelse = orelse} b a) g =
      let h = head g in
      let l = h.line_lies in
      let r = split xs ys h.others in
      let one = r.first in
      let two = r.others in
      let p = body_in b z (take (length xs) zs) l one in
      let q = otherwise_in a two in
      let c = count_statement (B.loop_statement {head = top} b a) g.counted in
      compound (loop top body orelse) h
      (three z.before (body_places z (take (length xs) zs) b) (otherwise_places (drop (length xs) zs) a) (own z zs))
      (wide (before_in l) (omega arith) h.last ⊕ (wide p.lies (omega arith) (reaches two.lie)
      ⊕ wide q.lies (let k = reaches one.lie in omega (arith, k, l.forward)) (omega arith)))
      c.is (loop_plain top body orelse) (p.inside, q.inside)
  statement_in {zs = []} (B.with_statement b) g = elim g.lie [ ]
  statement_in {profile} {zs = z ∷ zs} (B.with_statement {is_async = is_async} {items = items} {body = body} b) g =
      let h = head g in
      let l = h.line_lies in
      let p = body_in b z zs l h.others in
      let c = count_statement (B.with_statement {is_async = is_async} {items = items} b) g.counted in
      compound (with_of is_async items body) h (two z.before (body_places z zs b) (own z zs))
      (wide (before_in l) (omega arith) h.last ⊕ p.lies) c.is (with_plain is_async items body) p.inside
  statement_in {zs = []} (B.try_finally b f) g = elim g.lie [ ]
  statement_in {profile} {l = l} {zs = z ∷ zs} (B.try_finally {last = last} {xs = xs} {ys = ys} {body = body} {final = final} b f) g =
      let h = head g in
      let a = h.line_lies in
      let r = split xs (line l (header_form finally_header last) ∷ ys) h.others in
      let one = r.first in
      let two = r.others in
      let p = body_in b z (take (length xs) zs) a one in
      let q = final_in f two in
      let c = count_statement (B.try_finally b f) g.counted in
      compound (try_of false body [] [] final) h
      (sym (append_assoc (body_places z (take (length xs) zs) b) (final_places (drop (length xs) zs) f) (own z zs)))
      (wide p.lies (omega arith) (reaches two.lie)
      ⊕ wide q.lies (let k = reaches one.lie in omega (arith, k, a.forward)) (omega arith))
      c.is refl (p.inside, q.inside)
  statement_in {zs = []} (B.try_except b e o f) g = elim g.lie [ ]
  statement_in {profile} {zs = z ∷ zs} (B.try_except {star = star} {xs = xs} {ys = ys} {zs = others} {ws = ws} {body = body}
      {orelse = orelse} {final = final} {h = first} {hs = hs} b e o f) g =
      let h = head g in
      let l = h.line_lies in
      let following = drop (length xs) zs in
      let last = drop (length ys) following in
      let r = split xs (ys ++ (others ++ ws)) h.others in
      let t = split ys (others ++ ws) r.others in
      let u = split others ws t.others in
      let g1 = r.first in
      let g2 = t.first in
      let g3 = u.first in
      let g4 = u.others in
      let k1 = reaches g1.lie in
      let k2 = reaches g2.lie in
      let k3 = reaches g3.lie in
      let k4 = reaches g4.lie in
      let p = body_in b z (take (length xs) zs) l g1 in
      let q = handlers_in e g2 in
      let v = otherwise_in o g3 in
      let w = ending_in f g4 in
      let c = count_statement (B.try_except b e o f) g.counted in
      compound (try_of star body (first ∷ hs) orelse final) h
      (four (body_places z (take (length xs) zs) b) (handlers_places (take (length ys) following) e)
      (otherwise_places (take (length others) last) o) (ending_places (drop (length others) last) f) (own z zs))
      (wide p.lies (omega arith) (omega (arith, k2, k3, k4)) ⊕ (wide q.lies (omega (arith, k1, l.forward)) (omega (arith, k3, k4))
      ⊕ (wide v.lies (omega (arith, k1, k2, l.forward)) (omega (arith, k4)) ⊕ wide w.lies (omega (arith, k1, k2, k3, l.forward))
      (omega arith))))
      c.is (try_plain star body (first ∷ hs) orelse final) (p.inside, q.inside, (r.middle, t.middle, q.order), v.inside, w.inside)
  statement_in {zs = []} (B.match_statement e) g = elim g.lie [ ]
  statement_in {profile} {zs = z ∷ zs} (B.match_statement {subject = subject} {cs = cs} e) g =
      let h = head g in
      let l = h.line_lies in
      let o = ending z.whole.start (z ∷ zs) in
      let p = cases_in e h.others in
      let c = count_statement (B.match_statement {subject = subject} e) g.counted in
      compound (Match subject (cases cs)) h (two z.before (cases_places zs e) (own z zs))
      (wide (before_in l) (omega arith) h.last ⊕ wide p.lies l.forward (omega arith)) c.is refl
      (p.inside, (z.whole.stop, o.stop, p.order))
  statement_in {profile} {l = l} {zs = []} (B.definition_of top {suite = suite} {ds = ds} {xs = xs} d b) g =
      elim (some_line ds (line l (header_form (def_header top) suite)) xs g.lie) [ ]
  statement_in {profile} {l = l} {zs = z ∷ zs} (B.definition_of top {suite = suite} {ds = ds} {xs = xs} {es = es} {body = body} d b) g =
      let r = split ds (line l (header_form (def_header top) suite) ∷ xs) g in
      let c = count_statement (B.definition_of top d b) g.counted in
      definition_in top d b r.first (drop (length ds) (z ∷ zs)) r.others
      (λ w ws a k. let p = body_in b w ws a k in record { lies = p.lies; inside = headed profile w ws b p.inside }) c.is

  body_in : {profile : Profile} {l hi : ℕ} {x : Header} {suite : Option (List Stmt)} {xs : List Line} {ss : List Stmt}
      (b : B.Body l suite xs ss) (z : LinePlaces) (zs : List LinePlaces) → LineLies profile (header_form x suite) z
      → Given profile z.whole.stop xs zs hi → BodyIn z.whole.start hi (body_places z zs b) (OfBody (IsLaidOut profile) z zs b)
  body_in B.inline z zs a g = record { lies = wide (suite_lies a) (omega arith) (reaches g.lie); inside = suite_laid a }
  body_in (B.indented b) z zs a g =
      let r = block_in b g in record { lies = wide r.lies a.forward (omega arith); inside = (laid_out r, r.inside) }

  final_in : {profile : Profile} {l lo hi : ℕ} {x : Header} {suite : Option (List Stmt)} {xs : List Line} {ss : List Stmt}
      {zs : List LinePlaces} (b : B.Body l suite xs ss) → Given profile lo (line l (header_form x suite) ∷ xs) zs hi
      → BodyIn lo hi (final_places zs b) (OfHeaded (IsLaidOut profile) zs b)
  final_in {zs = []} b g = elim g.lie [ ]
  final_in {zs = z ∷ zs} B.inline g =
      let h = head g in
      let a = h.line_lies in
      let k = h.all in
      record { lies = wide (suite_lies a) h.begins (reaches k.lie); inside = suite_laid a }
  final_in {zs = z ∷ zs} (B.indented b) g =
      let h = head g in
      let a = h.line_lies in
      let r = block_in b h.all in
      record { lies = wide r.lies (omega (arith, h.begins, a.forward)) (omega arith); inside = (laid_out r, r.inside) }

  alternative_in : {profile : Profile} {l lo hi : ℕ} {xs : List Line} {ss : List Stmt} {zs : List LinePlaces} (a : B.Alternative l xs ss)
      → Given profile lo xs zs hi → BodyIn lo hi (alternative_places zs a) (OfAlternative (IsLaidOut profile) zs a)
  alternative_in (B.an_else o) g = otherwise_in o g
  alternative_in {zs = []} (B.an_elif b a) g = elim g.lie [ ]
  alternative_in {profile} {zs = z ∷ zs} (B.an_elif {test = test} {xs = xs} {ys = ys} {body = body} {orelse = orelse} b a) g =
      let h = head g in
      let l = h.line_lies in
      let r = split xs ys h.others in
      let one = r.first in
      let two = r.others in
      let p = body_in b z (take (length xs) zs) l one in
      let q = alternative_in a two in
      let c = count_alternative (B.an_elif {test = test} b a) g.counted in
      let all : BlockIn profile _ _ (If test (stmts body) (stmts orelse) ∷ []) (alternative_places (z ∷ zs) (B.an_elif {test = test} b a))
      (OfBody (IsLaidOut profile) z (take (length xs) zs) b × OfAlternative (IsLaidOut profile) (drop (length xs) zs) a) =
      compound (If test (stmts body) (stmts orelse)) h
      (three z.before (body_places z (take (length xs) zs) b) (alternative_places (drop (length xs) zs) a) (own z zs))
      (wide (before_in l) (omega arith) h.last ⊕ (wide p.lies (omega arith) (reaches two.lie)
      ⊕ wide q.lies (let k = reaches one.lie in omega (arith, k, l.forward)) (omega arith)))
      c.is refl (p.inside, q.inside) in
      record { lies = all.lies; inside = (laid_out all, p.inside, q.inside) }

  otherwise_in : {profile : Profile} {l lo hi : ℕ} {xs : List Line} {ss : List Stmt} {zs : List LinePlaces} (o : B.Otherwise l xs ss)
      → Given profile lo xs zs hi → BodyIn lo hi (otherwise_places zs o) (OfOtherwise (IsLaidOut profile) zs o)
  otherwise_in B.no_else g = record { lies = nothing; inside = tt }
  otherwise_in {zs = []} (B.else_clause b) g = elim g.lie [ ]
  otherwise_in {zs = z ∷ zs} (B.else_clause b) g =
      let h = head g in
      let p = body_in b z zs h.line_lies h.all in
      record { lies = wide p.lies h.begins (omega arith); inside = p.inside }

  handlers_in : {profile : Profile} {l lo hi : ℕ} {star : Bool} {xs : List Line} {hs : List Handler} {zs : List LinePlaces}
      (e : B.Excepts l star xs hs) → Given profile lo xs zs hi
      → ClausesIn lo hi (handlers_places zs e) (OfHandlers (IsLaidOut profile) zs e) (HandlersLie lo zs e hi)
  handlers_in B.no_except g = record { lies = nothing; inside = tt; order = reaches g.lie }
  handlers_in {zs = []} (B.except_clause b e) g = elim g.lie [ ]
  handlers_in {profile} {lo = lo} {hi = hi} {zs = z ∷ zs} (B.except_clause {xs = xs} {ys = ys} b e) g =
      let h = head g in
      let a = h.line_lies in
      let r = split xs ys h.all in
      let one = clause h r.first in
      let two = r.others in
      let high = reaches two.lie in
      let more = handlers_in e two in
      let p = body_in b z (take (length xs) zs) a one.others in
      let o = ending z.whole.start (z ∷ take (length xs) zs) in
      let held = wide (before_in a) (omega arith) one.last ⊕ p.lies in
      let place = own_in one in
      record {
        lies = wide (before_in a) h.begins (omega (arith, one.last, one.ends, high))
            ⊕ (wide p.lies h.begins (omega (arith, one.ends, high))
            ⊕ (wide place h.begins (omega (arith, one.ends, high))
            ⊕ wide more.lies (omega (arith, h.begins, a.forward, one.last, one.ends)) (omega arith)));
        inside = (p.inside, more.inside);
        order = (
          omega (arith, one.start, h.begins),
          omega (arith, one.start, one.last, a.forward),
          subst (λ n. AllLieBetween n o.stop (z.before ++ body_places z (take (length xs) zs) b)) (sym one.start) held.are,
          handlers_lower o.stop r.middle hi (drop (length xs) zs) e one.ends more.order,
        );
      }

  cases_in : {profile : Profile} {l lo hi : ℕ} {xs : List Line} {cs : List Case} {zs : List LinePlaces} (e : B.Cases l xs cs)
      → Given profile lo xs zs hi
      → ClausesIn lo hi (cases_places zs e) (OfCases (IsLaidOut profile) zs e) (CasesLie lo zs e hi)
  cases_in B.no_case g = record { lies = nothing; inside = tt; order = reaches g.lie }
  cases_in {zs = []} (B.case_clause b e) g = elim g.lie [ ]
  cases_in {profile} {lo = lo} {hi = hi} {zs = z ∷ zs} (B.case_clause {xs = xs} {ys = ys} b e) g =
      let h = head g in
      let a = h.line_lies in
      let r = split xs ys h.all in
      let one = clause h r.first in
      let two = r.others in
      let high = reaches two.lie in
      let more = cases_in e two in
      let p = body_in b z (take (length xs) zs) a one.others in
      let o = ending z.whole.start (z ∷ take (length xs) zs) in
      let held = wide (before_in a) (omega arith) one.last ⊕ p.lies in
      record {
        lies = wide (before_in a) h.begins (omega (arith, one.last, one.ends, high))
            ⊕ (wide p.lies h.begins (omega (arith, one.ends, high))
            ⊕ wide more.lies (omega (arith, h.begins, a.forward, one.last, one.ends)) (omega arith));
        inside = (p.inside, more.inside);
        order = (
          omega (arith, one.start, h.begins),
          omega (arith, one.start, one.last, a.forward),
          subst (λ n. AllLieBetween n o.stop (z.before ++ body_places z (take (length xs) zs) b)) (sym one.start) held.are,
          cases_lower o.stop r.middle hi (drop (length xs) zs) e one.ends more.order,
        );
      }

  ending_in : {profile : Profile} {l lo hi : ℕ} {xs : List Line} {ss : List Stmt} {zs : List LinePlaces} (f : B.Ending l xs ss)
      → Given profile lo xs zs hi → BodyIn lo hi (ending_places zs f) (OfEnding (IsLaidOut profile) zs f)
  ending_in B.no_finally g = record { lies = nothing; inside = tt }
  ending_in {zs = []} (B.finally_clause b) g = elim g.lie [ ]
  ending_in {zs = z ∷ zs} (B.finally_clause b) g =
      let h = head g in
      let p = body_in b z zs h.line_lies h.all in
      record { lies = wide p.lies h.begins (omega arith); inside = p.inside }
