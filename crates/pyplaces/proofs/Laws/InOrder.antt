-- In order: each statement of a block ends before the next begins.
--
-- On: Blocks.
use Rattle.std.proofs.Common.{◌≡◌, refl, sym, ap, ◌∙◌, ℕ, zero, suc, ◌+◌, ◌≤◌, arith, List, [], ◌∷◌, ◌++◌, Option, false, length}
use Rattle.std.proofs.Common.{length-append}
use Rattle.std.proofs.Common.{append_assoc, take, drop, subst}
use Rattle.std.proofs.lemmas.List.{take_all}
use Rattle.pytree_node.specs.declared.profiles.Profile.{Profile}
use Rattle.pytree_node.specs.Trees.{Expr, Stmt, If, Match, stmts, cases}
use Rattle.pytree_dump_text.specs.Shows.{shown_stmt}
use Rattle.pytree_marked.specs.MarkedNodes.{marked}
use Rattle.pygrammar.specs.Lines.{Line, line, header_form, DefHead, def_header, definition, loop, with_of, try_of}
use Rattle.pygrammar.specs.Blocks as B
use Rattle.pyplaces.specs.Stretches.{Span}
use Rattle.pyplaces.specs.BlockPlaces.{LinePlaces, ending, own, decorator_places, block_places, statement_places, definition_places}
use Rattle.pyplaces.specs.BlockPlaces.{body_places, alternative_places, otherwise_places, final_places, handlers_places, ending_places}
use Rattle.pyplaces.specs.BlockPlaces.{cases_places}
use Rattle.pyplaces.specs.Laws.{last_of, statement_spans, AreInOrder, LinesInOrder, no_line, a_line}
use Rattle.pyplaces.proofs.Laws.Many.{Many}
use Rattle.pyplaces.proofs.Laws.Blocks as counted
use Rattle.pyplaces.proofs.Laws.Blocks.{LinesCounted, rows, count_statement, definition_is, front, back}

-- ---- Spans in order.

order_both : (lo mid next hi : ℕ) (ps qs : List Span) → AreInOrder lo ps mid → mid ≤ next → AreInOrder next qs hi
    → AreInOrder lo (ps ++ qs) hi
order_both lo mid next hi [] [] h m k = omega (arith, h, k)
order_both lo mid next hi [] (q ∷ qs) h m k = (omega (arith, h, k.0), k.1, k.2)
order_both lo mid next hi (p ∷ ps) qs h m k = (h.0, h.1, order_both p.stop mid next hi ps qs h.2 m k)

order_wide : (lo hi low high : ℕ) (ps : List Span) → low ≤ lo → hi ≤ high → AreInOrder lo ps hi → AreInOrder low ps high
order_wide lo hi low high [] a b h = omega (arith, h)
order_wide lo hi low high (p ∷ ps) a b h = (omega (arith, h.0), h.1, order_wide p.stop hi p.stop high ps (omega arith) b h.2)

-- ---- The spans of statements.

record EndsWith (ps : List Span) (o : Span) : Type 0 where
  fields : List Span
  are : ps ≡ fields ++ (o ∷ [])

ends : {o : Span} → EndsWith (o ∷ []) o
ends = record { fields = []; are = refl }

past : {qs : List Span} {o : Span} (ps : List Span) → EndsWith qs o → EndsWith (ps ++ qs) o
past {o = o} ps e = record {
  fields = ps ++ e.fields;
  are = ap (λ z. ps ++ z) e.are ∙ sym (append_assoc ps e.fields (o ∷ []));
}

last_is : (fs : List Span) (o : Span) → last_of (fs ++ (o ∷ [])) ≡ o ∷ []
last_is [] o = refl
last_is (f ∷ []) o = refl
last_is (f ∷ (g ∷ fs)) o = last_is (g ∷ fs) o

take_front : {A : Type 0} (ps qs : List A) (n : ℕ) → n ≤ length ps → take n (ps ++ qs) ≡ take n ps
take_front ps qs zero h = refl
take_front [] qs (suc n) h = absurd (omega (arith, h))
take_front (p ∷ ps) qs (suc n) h = ap (λ z. p ∷ z) (take_front ps qs n (omega (arith, h)))

drop_front : {A : Type 0} (ps qs : List A) (n : ℕ) → n ≤ length ps → drop n (ps ++ qs) ≡ drop n ps ++ qs
drop_front ps qs zero h = refl
drop_front [] qs (suc n) h = absurd (omega (arith, h))
drop_front (p ∷ ps) qs (suc n) h = drop_front ps qs n (omega (arith, h))

length_drop : {A : Type 0} (ps : List A) (n k : ℕ) → length ps ≡ n + k → length (drop n ps) ≡ k
length_drop ps zero k h = omega (arith, h)
length_drop [] (suc n) k h = absurd (omega (arith, h))
length_drop (p ∷ ps) (suc n) k h = length_drop ps n k (omega (arith, h))

-- those of some statements and of others after them
spans_both : (profile : Profile) (ss more : List Stmt) (ps qs : List Span) → length ps ≡ rows profile ss
    → statement_spans profile (ss ++ more) (ps ++ qs) ≡ statement_spans profile ss ps ++ statement_spans profile more qs
spans_both profile [] more [] qs h = refl
spans_both profile [] more (p ∷ ps) qs h = absurd (omega (arith, h))
spans_both profile (s ∷ ss) more ps qs h =
    let n = marked (shown_stmt profile s) in
    ap (λ z. last_of z ++ statement_spans profile (ss ++ more) (drop n (ps ++ qs))) (take_front ps qs n (omega (arith, h)))
    ∙ (ap (λ z. last_of (take n ps) ++ statement_spans profile (ss ++ more) z) (drop_front ps qs n (omega (arith, h)))
    ∙ (ap (λ z. last_of (take n ps) ++ z) (spans_both profile ss more (drop n ps) qs (length_drop ps n (rows profile ss) h))
    ∙ sym (append_assoc (last_of (take n ps)) (statement_spans profile ss (drop n ps)) (statement_spans profile more qs))))

-- that of one statement
span_one : (profile : Profile) (s : Stmt) (ps : List Span) (o : Span) → length ps ≡ rows profile (s ∷ []) → EndsWith ps o
    → statement_spans profile (s ∷ []) ps ≡ o ∷ []
span_one profile s ps o h e =
    let n = marked (shown_stmt profile s) in
    ap (λ z. last_of z ++ []) (take_all n ps (omega (arith, h)) ∙ e.are)
    ∙ ap (λ z. z ++ []) (last_is e.fields o)

-- ---- Lines in order.

record Split (profile : Profile) (lo : ℕ) (xs ys : List Line) (zs : List LinePlaces) (hi : ℕ) : Type 0 where
  middle : ℕ
  first : LinesInOrder profile lo xs (take (length xs) zs) middle
  others : LinesInOrder profile middle ys (drop (length xs) zs) hi

split : {profile : Profile} {lo hi : ℕ} (xs ys : List Line) {zs : List LinePlaces} → LinesInOrder profile lo (xs ++ ys) zs hi
    → Split profile lo xs ys zs hi
split {lo = lo} [] ys o = record { middle = lo; first = no_line (omega arith); others = o }
split (x ∷ xs) ys (a_line a b c o) =
    let r = split xs ys o in record { middle = r.middle; first = a_line a b c r.first; others = r.others }

-- where the last of some lines ends
ends_within : {profile : Profile} {lo hi : ℕ} {xs : List Line} (n : ℕ) (z : LinePlaces) {zs : List LinePlaces}
    → LinesInOrder profile lo xs zs hi → z.whole.stop ≤ lo
    → (z.whole.stop ≤ (ending n (z ∷ zs)).stop) × ((ending n (z ∷ zs)).stop ≤ hi)
ends_within n z (no_line h) k = (omega arith, omega (arith, h))
ends_within n z (a_line {z = w} a b c o) k =
    let r = ends_within n w o (omega arith) in (omega (arith, a, b, r.0), r.1)

ending_starts : (n : ℕ) (z : LinePlaces) (zs : List LinePlaces) → (ending n (z ∷ zs)).start ≡ n
ending_starts n z [] = refl
ending_starts n z (w ∷ zs) = ending_starts n w zs

-- the span of a compound statement
own_in_order : {profile : Profile} {lo hi : ℕ} {x : Line} {xs : List Line} {z : LinePlaces} {zs : List LinePlaces}
    → LinesInOrder profile lo (x ∷ xs) (z ∷ zs) hi → AreInOrder lo (own z zs) hi
own_in_order {z = z} {zs = zs} (a_line a b c o) =
    let r = ends_within z.whole.start z o (omega arith) in
    let s = ending_starts z.whole.start z zs in (omega (arith, a, s), omega (arith, b, s, r.0), r.1)

compound : {profile : Profile} {lo hi : ℕ} {x : Line} {xs : List Line} {z : LinePlaces} {zs : List LinePlaces} {ps : List Span} (s : Stmt)
    → LinesInOrder profile lo (x ∷ xs) (z ∷ zs) hi → Many ps (rows profile (s ∷ [])) → EndsWith ps (ending z.whole.start (z ∷ zs))
    → AreInOrder lo (statement_spans profile (s ∷ []) ps) hi
compound {profile} {lo} {hi} {z = z} {zs = zs} {ps = ps} s o n e =
    subst (λ r. AreInOrder lo r hi) (sym (span_one profile s ps (ending z.whole.start (z ∷ zs)) n.is e)) (own_in_order o)

-- ---- Definitions.

ends_as : {ps qs : List Span} {o : Span} → ps ≡ qs → EndsWith qs o → EndsWith ps o
ends_as h e = record { fields = e.fields; are = h ∙ e.are }

decorated : {profile : Profile} {lo hi l : ℕ} {suite : Option (List Stmt)} {ds xs : List Line} {es : List Expr} {body : List Stmt}
    (head : DefHead) (e : B.Decorators l ds es) (b : B.Body l suite xs body) (zs : List LinePlaces)
    → LinesCounted profile (ds ++ (line l (header_form (def_header head) suite) ∷ xs)) zs
    → LinesInOrder profile lo (ds ++ (line l (header_form (def_header head) suite) ∷ xs)) zs hi
    → Many (statement_places zs (B.definition_of head e b)) (rows profile (definition es head body ∷ []))
    → AreInOrder lo (statement_spans profile (definition es head body ∷ []) (statement_places zs (B.definition_of head e b))) hi
decorated {l = l} {suite = suite} {ds = ds} {xs = xs} head e b [] c o n =
    let x = line l (header_form (def_header head) suite) in absurd (omega (arith, counted.one_each c, length-append ds (x ∷ xs)))
decorated {profile} {lo} {hi} {l} {suite} {ds} {xs} {es} {body} head e b (z ∷ zs) c o n =
    let following = line l (header_form (def_header head) suite) ∷ xs in
    let r = split ds following o in defined head b (take (length ds) (z ∷ zs)) r.first r.others n
  where
    lower : {lo mid : ℕ} {ds : List Line} {dz : List LinePlaces} → LinesInOrder profile lo ds dz mid → lo ≤ mid
    lower (no_line h) = h
    lower (a_line a b c o) = let k = lower o in omega (arith, a, b, k)

    defined : {mid : ℕ} {suite : Option (List Stmt)} {xs : List Line} {more : List LinePlaces} (head : DefHead) (b : B.Body l suite xs body)
        (dz : List LinePlaces) → LinesInOrder profile lo ds dz mid
        → LinesInOrder profile mid (line l (header_form (def_header head) suite) ∷ xs) more hi
        → Many (definition_places dz more b) (rows profile (definition es head body ∷ []))
        → AreInOrder lo (statement_spans profile (definition es head body ∷ []) (definition_places dz more b)) hi
    defined {mid} {suite = inline} head b dz first (a_line {z = w} {zs = ws} a1 a2 a3 o) n =
        order_wide mid hi lo hi (statement_spans profile (definition es head body ∷ []) (definition_places dz (w ∷ ws) b)) (lower first)
        (omega arith)
        (compound (definition es head body) (a_line {x = line l (header_form (def_header head) inline)} {z = w} a1 a2 a3 o) n
        (ends_as (definition_is dz w ws b) (past w.before (past (body_places w ws b) (past (decorator_places dz) (past w.following ends))))))

-- ---- All statements.

statement_in_order : {profile : Profile} {lo hi l : ℕ} {xs : List Line} {ss : List Stmt} (zs : List LinePlaces) (s : B.Statement l xs ss)
    → LinesCounted profile xs zs → LinesInOrder profile lo xs zs hi → AreInOrder lo (statement_spans profile ss (statement_places zs s)) hi
statement_in_order zs (B.definition_of head e b) c o = decorated head e b zs c o (count_statement (B.definition_of head e b) c)
statement_in_order [] (B.simple_line) c o = elim c [ ]
statement_in_order [] (B.if_statement b a) c o = elim c [ ]
statement_in_order [] (B.loop_statement b a) c o = elim c [ ]
statement_in_order [] (B.with_statement b) c o = elim c [ ]
statement_in_order [] (B.try_finally b f) c o = elim c [ ]
statement_in_order [] (B.try_except b h e f) c o = elim c [ ]
statement_in_order [] (B.match_statement e) c o = elim c [ ]
statement_in_order {profile} {lo} {hi} (z ∷ zs) (B.simple_line {ss = ss}) c (a_line a1 a2 a3 (no_line h)) =
    order_wide z.whole.start z.whole.stop lo hi (statement_spans profile ss z.suite) a1 h a3
statement_in_order (z ∷ zs) (B.if_statement {test = test} {xs = xs} {body = body} {orelse = orelse} b a) c o =
    compound (If test (stmts body) (stmts orelse)) o (count_statement (B.if_statement b a) c)
    (past z.before (past (body_places z (take (length xs) zs) b) (past (alternative_places (drop (length xs) zs) a) ends)))
statement_in_order (z ∷ zs) (B.loop_statement {head = head} {xs = xs} {body = body} {orelse = orelse} b a) c o =
    compound (loop head body orelse) o (count_statement (B.loop_statement b a) c)
    (past z.before (past (body_places z (take (length xs) zs) b) (past (otherwise_places (drop (length xs) zs) a) ends)))
statement_in_order (z ∷ zs) (B.with_statement {is_async = is_async} {items = items} {body = body} b) c o =
    compound (with_of is_async items body) o (count_statement (B.with_statement b) c) (past z.before (past (body_places z zs b) ends))
statement_in_order (z ∷ zs) (B.try_finally {xs = xs} {body = body} {final = final} b f) c o =
    compound (try_of false body [] [] final) o (count_statement (B.try_finally b f) c)
    (past (body_places z (take (length xs) zs) b) (past (final_places (drop (length xs) zs) f) ends))
statement_in_order (z ∷ zs) (B.try_except {star = star} {xs = xs} {ys = ys} {zs = more} {body = body} {orelse =
    orelse} {final = final} {h = x}
    {hs = hs} b h e f) c o =
    let following = drop (length xs) zs in
    let last = drop (length ys) following in
    compound (try_of star body (x ∷ hs) orelse final) o (count_statement (B.try_except b h e f) c)
    (past (body_places z (take (length xs) zs) b) (past (handlers_places (take (length ys) following) h)
    (past (otherwise_places (take (length more) last) e) (past (ending_places (drop (length more) last) f) ends))))
statement_in_order (z ∷ zs) (B.match_statement {subject = subject} {cs = cs} e) c o =
    compound (Match subject (cases cs)) o (count_statement (B.match_statement e) c) (past z.before (past (cases_places zs e) ends))

pub in_order : {profile : Profile} {lo hi l : ℕ} {xs : List Line} {ss : List Stmt} {zs : List LinePlaces} (b : B.Block l xs ss)
    → LinesCounted profile xs zs → LinesInOrder profile lo xs zs hi → AreInOrder lo (statement_spans profile ss (block_places zs b)) hi
in_order B.nothing c (no_line h) = h
in_order {profile} {lo} {hi} {zs = zs} (B.and_then {xs = xs} {ys = ys} {ss = ss} {more = more} s b) c o =
    let r = split xs ys o in
    let n = count_statement s (front xs ys c) in
    let ps : List Span = statement_places (take (length xs) zs) s in
    let qs : List Span = block_places (drop (length xs) zs) b in
    subst (λ t. AreInOrder lo t hi) (sym (spans_both profile ss more ps qs n.is))
    (order_both lo r.middle r.middle hi (statement_spans profile ss ps) (statement_spans profile more qs)
    (statement_in_order (take (length xs) zs) s (front xs ys c) r.first) (omega arith) (in_order {lo = r.middle} b (back xs ys c) r.others))
