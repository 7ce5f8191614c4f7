-- Two derivations of a block from the same lines have the same places.
--
-- Carries: blocks_alike, for Law, Sources. On: BlockLines.
use Rattle.std.proofs.Common.{◌≡◌, refl, sym, ap, ◌∙◌, ℕ, suc, ◌+◌, ◌*◌, arith, Bool, Option, List, [], ◌∷◌, ◌++◌, append_assoc, length}
use Rattle.std.proofs.Common.{take, drop}
use Rattle.pytree_node.specs.Trees.{Stmt, Handler, Case}
use Rattle.pygrammar.specs.Lines.{Line, line, Form, header_form, finally_header, def_header}
use Rattle.pygrammar.specs.Blocks as B
use Rattle.pyplaces.specs.Stretches.{Span}
use Rattle.pyplaces.specs.BlockPlaces.{LinePlaces, own, decorator_places, block_places, statement_places, definition_places}
use Rattle.pyplaces.specs.BlockPlaces.{final_places, body_places, alternative_places, otherwise_places, handlers_places, cases_places}
use Rattle.pyplaces.specs.BlockPlaces.{ending_places}
use Rattle.pyplaces.proofs.Unique.BlockLines.{rests, forms, suites, headed, both, following, regroup, Stops, at_end, at_line, later}
use Rattle.pyplaces.proofs.Unique.BlockLines.{stops_both, unended, no_statement, block_stops, alternative_stops, otherwise_stops}
use Rattle.pyplaces.proofs.Unique.BlockLines.{ending_stops, handlers_stop, cases_stop, last_stop, clauses_stop, no_elif, no_final, first}
use Rattle.pyplaces.proofs.Unique.BlockLines.{turn_of, first_is, decorators_end}

-- ---- Two derivations that agree.

abbrev Places : Type 0
Places = List LinePlaces → List Span

-- they are of the same lines, and have the same places
record Agree (xs us : List Line) (p q : Places) : Type 0 where
  same : xs ≡ us
  places : (zs : List LinePlaces) → p zs ≡ q zs

-- the same of bodies, after the lines of their headers
record BodiesAgree (xs us : List Line) (p q : LinePlaces → Places) : Type 0 where
  same : xs ≡ us
  places : (z : LinePlaces) (zs : List LinePlaces) → p z zs ≡ q z zs

fronts : {xs us : List Line} {p q : Places} → xs ≡ us → ((zs : List LinePlaces) → p zs ≡ q zs) → (zs : List LinePlaces)
    → p (take (length xs) zs) ≡ q (take (length us) zs)
fronts {xs} {us} {p} {q} h k zs = k (take (length xs) zs) ∙ ap (λ x. q (take (length x) zs)) h

backs : {xs us : List Line} {p q : Places} → xs ≡ us → ((zs : List LinePlaces) → p zs ≡ q zs) → (zs : List LinePlaces)
    → p (drop (length xs) zs) ≡ q (drop (length us) zs)
backs {xs} {us} {p} {q} h k zs = k (drop (length xs) zs) ∙ ap (λ x. q (drop (length x) zs)) h

each : (p q : Places) → p [] ≡ q [] → ((z : LinePlaces) (zs : List LinePlaces) → p (z ∷ zs) ≡ q (z ∷ zs)) → (zs : List LinePlaces)
    → p zs ≡ q zs
each p q e n [] = e
each p q e n (z ∷ zs) = n z zs

-- by a first line and those after it
opened : {l : ℕ} {f g : Form} {xs us : List Line} {p q : Places} → f ≡ g → xs ≡ us → p [] ≡ q []
    → ((z : LinePlaces) (zs : List LinePlaces) → p (z ∷ zs) ≡ q (z ∷ zs)) → Agree (line l f ∷ xs) (line l g ∷ us) p q
opened {p = p} {q = q} h k e n = record { same = headed h k; places = each p q e n }

-- ---- Definitions.

undefined : {l : ℕ} {suite : Option (List Stmt)} {xs : List Line} {ss : List Stmt} (ds : List LinePlaces) (b : B.Body l suite xs ss)
    → definition_places ds [] b ≡ []
undefined ds B.inline = refl
undefined ds (B.indented b) = refl

definition_is : {l : ℕ} {suite : Option (List Stmt)} {xs : List Line} {ss : List Stmt} (ds : List LinePlaces) (z : LinePlaces)
    (zs : List LinePlaces) (b : B.Body l suite xs ss) →
    definition_places ds (z ∷ zs) b ≡ z.before ++ (body_places z zs b ++ (decorator_places ds ++ (z.following ++ own z zs)))
definition_is ds z zs B.inline = refl
definition_is ds z zs (B.indented b) = refl

definitions_agree : {l : ℕ} {s t : Option (List Stmt)} {xs us : List Line} {ss ts : List Stmt} (b : B.Body l s xs ss) (c : B.Body l t us ts)
    → ((z : LinePlaces) (zs : List LinePlaces) → body_places z zs b ≡ body_places z zs c) → (ds zs : List LinePlaces)
    → definition_places ds zs b ≡ definition_places ds zs c
definitions_agree b c n ds [] = undefined ds b ∙ sym (undefined ds c)
definitions_agree b c n ds (z ∷ zs) = definition_is ds z zs b ∙ (both refl (both (n z zs) refl) ∙ sym (definition_is ds z zs c))

-- ---- The last clause of a `try` without handlers.

unfinished : {l : ℕ} {suite : Option (List Stmt)} {xs : List Line} {ss : List Stmt} (b : B.Body l suite xs ss) → final_places [] b ≡ []
unfinished B.inline = refl
unfinished (B.indented b) = refl

final_is : {l : ℕ} {suite : Option (List Stmt)} {xs : List Line} {ss : List Stmt} (z : LinePlaces) (zs : List LinePlaces)
    (b : B.Body l suite xs ss) → final_places (z ∷ zs) b ≡ body_places z zs b
final_is z zs B.inline = refl
final_is z zs (B.indented b) = refl

finals_agree : {l : ℕ} {s t : Option (List Stmt)} {xs us : List Line} {ss ts : List Stmt} (b : B.Body l s xs ss) (c : B.Body l t us ts)
    → ((z : LinePlaces) (zs : List LinePlaces) → body_places z zs b ≡ body_places z zs c) → (zs : List LinePlaces)
    → final_places zs b ≡ final_places zs c
finals_agree b c n [] = unfinished b ∙ sym (unfinished c)
finals_agree b c n (z ∷ zs) = final_is z zs b ∙ (n z zs ∙ sym (final_is z zs c))

-- ---- All of them, each in front of lines that end it.

mutual
  blocks_agree : {l : ℕ} {xs : List Line} {ss : List Stmt} {us : List Line} {ts : List Stmt} {r q : List Line} (b : B.Block l xs ss)
      (c : B.Block l us ts) → xs ++ r ≡ us ++ q → Stops (4 * l) r → Stops (4 * l) q
      → Agree xs us (λ zs. block_places zs b) (λ zs. block_places zs c)
  blocks_agree B.nothing B.nothing e f g = record { same = refl; places = λ zs. refl }
  blocks_agree {q = q} B.nothing (B.and_then {xs = us} {ys = vs} t c) e f g =
      absurd (no_statement t (vs ++ q) f (e ∙ append_assoc us vs q))
  blocks_agree {r = r} (B.and_then {xs = xs} {ys = ys} s b) B.nothing e f g =
      absurd (no_statement s (ys ++ r) g (sym e ∙ append_assoc xs ys r))
  blocks_agree {l} {r = r} {q = q} (B.and_then {xs = xs} {ys = ys} s b) (B.and_then {xs = us} {ys = vs} t c) e f g =
      let k = regroup xs ys r us vs q e in
      let m = statements_agree s t (sym (first_is s (ys ++ r)) ∙ (ap first k ∙ first_is t (vs ++ q))) k
      (stops_both (block_stops b (omega arith)) (later (omega arith) f))
      (stops_both (block_stops c (omega arith)) (later (omega arith) g)) in
      let n = blocks_agree b c (following m.same k) f g in
      record { same = both m.same n.same; places = λ zs. both (fronts m.same m.places zs) (backs m.same n.places zs) }

  statements_agree : {l : ℕ} {xs : List Line} {ss : List Stmt} {us : List Line} {ts : List Stmt} {r q : List Line}
      (s : B.Statement l xs ss) (t : B.Statement l us ts) → turn_of s ≡ turn_of t → xs ++ r ≡ us ++ q → Stops (4 * l + 1) r
      → Stops (4 * l + 1) q → Agree xs us (λ zs. statement_places zs s) (λ zs. statement_places zs t)
  statements_agree B.simple_line B.simple_line i e f g = opened (forms e) refl refl (λ z zs. refl)
  statements_agree B.simple_line _ i e f g = absurd (omega (arith, i))
  statements_agree {r = r} {q = q} (B.if_statement {xs = xs} {ys = ys} b a) (B.if_statement {xs = us} {ys = vs} c d) i e f g =
      let k = regroup xs ys r us vs q (rests e) in
      let m = bodies_agree b c (suites (forms e)) k (stops_both (alternative_stops a (omega arith)) (later (omega arith) f))
      (stops_both (alternative_stops d (omega arith)) (later (omega arith) g)) in
      let n = alternatives_agree a d (following m.same k) f g in
      opened (forms e) (both m.same n.same) refl
      (λ z zs. both refl (both (fronts m.same (m.places z) zs) (both (backs m.same n.places zs) refl)))
  statements_agree (B.if_statement b a) _ i e f g = absurd (omega (arith, i))
  statements_agree {r = r} {q = q} (B.loop_statement {xs = xs} {ys = ys} b o) (B.loop_statement {xs = us} {ys = vs} c d) i e f g =
      let k = regroup xs ys r us vs q (rests e) in
      let m = bodies_agree b c (suites (forms e)) k (stops_both (otherwise_stops o (omega arith)) (later (omega arith) f))
      (stops_both (otherwise_stops d (omega arith)) (later (omega arith) g)) in
      let n = others_agree o d (following m.same k) (later (omega arith) f) (later (omega arith) g) in
      opened (forms e) (both m.same n.same) refl
      (λ z zs. both refl (both (fronts m.same (m.places z) zs) (both (backs m.same n.places zs) refl)))
  statements_agree (B.loop_statement b o) _ i e f g = absurd (omega (arith, i))
  statements_agree (B.with_statement b) (B.with_statement c) i e f g =
      let m = bodies_agree b c (suites (forms e)) (rests e) (later (omega arith) f) (later (omega arith) g) in
      opened (forms e) m.same refl (λ z zs. both refl (both (m.places z zs) refl))
  statements_agree (B.with_statement b) _ i e f g = absurd (omega (arith, i))
  statements_agree {l} {r = r} {q = q} (B.try_finally {last = s} {xs = xs} {ys = ys} b o) (B.try_finally {last = t} {xs = us} {ys = vs} c d)
      i e f g =
      let k = regroup xs (line l (header_form finally_header s) ∷ ys) r us (line l (header_form finally_header t) ∷ vs) q (rests e) in
      let m = bodies_agree b c (suites (forms e)) k (at_line (omega arith)) (at_line (omega arith)) in
      let w = following m.same k in
      let n = bodies_agree o d (suites (forms w)) (rests w) (later (omega arith) f) (later (omega arith) g) in
      opened (forms e) (both m.same (headed (forms w) n.same)) refl
      (λ z zs. both (fronts m.same (m.places z) zs) (both (backs m.same (finals_agree o d n.places) zs) refl))
  statements_agree {l} {r = r} {q = q} (B.try_finally {last = s} {xs = xs} {ys = ys} b o)
      (B.try_except {xs = us} {ys = vs} {zs = ws} {ws = js} c h p d) i e f g =
      let k = regroup xs (line l (header_form finally_header s) ∷ ys) r us (vs ++ (ws ++ js)) q (rests e) in
      let m = bodies_agree b c (suites (forms e)) k (at_line (omega arith))
      (stops_both (clauses_stop h p d (omega arith)) (later (omega arith) g)) in
      absurd (no_final h ((ws ++ js) ++ q) (following m.same k ∙ append_assoc vs (ws ++ js) q))
  statements_agree (B.try_finally b o) _ i e f g = absurd (omega (arith, i))
  statements_agree {l} {r = r} {q = q} (B.try_except {xs = xs} {ys = ys} {zs = ws} {ws = js} b h p o)
      (B.try_finally {last = t} {xs = us} {ys = vs} c d) i e f g =
      let k = regroup xs (ys ++ (ws ++ js)) r us (line l (header_form finally_header t) ∷ vs) q (rests e) in
      let m = bodies_agree b c (suites (forms e)) k (stops_both (clauses_stop h p o (omega arith)) (later (omega arith) f))
      (at_line (omega arith)) in
      absurd (no_final h ((ws ++ js) ++ r) (sym (following m.same k) ∙ append_assoc ys (ws ++ js) r))
  statements_agree {r = r} {q = q} (B.try_except {xs = xs} {ys = ys} {zs = zs} {ws = ws} b h p o)
      (B.try_except {xs = us} {ys = vs} {zs = is} {ws = js} c j n d) i e f g =
      let k = regroup xs (ys ++ (zs ++ ws)) r us (vs ++ (is ++ js)) q (rests e) in
      let m = bodies_agree b c (suites (forms e)) k (stops_both (clauses_stop h p o (omega arith)) (later (omega arith) f))
      (stops_both (clauses_stop j n d (omega arith)) (later (omega arith) g)) in
      let k2 = regroup ys (zs ++ ws) r vs (is ++ js) q (following m.same k) in
      let m2 = handlers_agree h j k2 (stops_both (last_stop p o (omega arith)) (later (omega arith) f))
      (stops_both (last_stop n d (omega arith)) (later (omega arith) g)) in
      let k3 = regroup zs ws r is js q (following m2.same k2) in
      let m3 = others_agree p n k3 (stops_both (ending_stops o (omega arith)) (later (omega arith) f))
      (stops_both (ending_stops d (omega arith)) (later (omega arith) g)) in
      let m4 = endings_agree o d (following m3.same k3) f g in
      opened (forms e) (both m.same (both m2.same (both m3.same m4.same))) refl
      (λ y ns. both (fronts m.same (m.places y) ns) (both (backs m.same (fronts m2.same m2.places) ns)
      (both (backs m.same (backs m2.same (fronts m3.same m3.places)) ns)
      (both (backs m.same (backs m2.same (backs m3.same m4.places)) ns) refl))))
  statements_agree (B.try_except b h p o) _ i e f g = absurd (omega (arith, i))
  statements_agree {l} {r = r} {q = q} (B.definition_of head {suite = s} {ds = ds} {xs = xs} n b)
      (B.definition_of other {suite = t} {ds = ns} {xs = us} d c) i e f g =
      let k = regroup ds (line l (header_form (def_header head) s) ∷ xs) r ns (line l (header_form (def_header other) t) ∷ us) q e in
      let m = decorators_end head other s t (xs ++ r) (us ++ q) n d k in
      let w = following m k in
      let p = bodies_agree b c (suites (forms w)) (rests w) (later (omega arith) f) (later (omega arith) g) in
      record {
        same = both m (headed (forms w) p.same);
        places = each (λ zs. statement_places zs (B.definition_of head n b)) (λ zs. statement_places zs (B.definition_of other d c)) refl
            (λ z zs. definitions_agree b c p.places (take (length ds) (z ∷ zs)) (drop (length ds) (z ∷ zs))
            ∙ ap (λ x. definition_places (take (length x) (z ∷ zs)) (drop (length x) (z ∷ zs)) c) m);
      }
  statements_agree (B.definition_of head n b) _ i e f g = absurd (omega (arith, i))
  statements_agree (B.match_statement c) (B.match_statement d) i e f g =
      let n = cases_agree c d (rests e) (later (omega arith) f) (later (omega arith) g) in
      opened (forms e) n.same refl (λ z zs. both refl (both (n.places zs) refl))
  statements_agree (B.match_statement c) _ i e f g = absurd (omega (arith, i))

  bodies_agree : {l : ℕ} {s : Option (List Stmt)} {xs : List Line} {ss : List Stmt} {t : Option (List Stmt)} {us : List Line}
      {ts : List Stmt} {r q : List Line} (b : B.Body l s xs ss) (c : B.Body l t us ts) → s ≡ t → xs ++ r ≡ us ++ q
      → Stops (4 * suc l) r → Stops (4 * suc l) q → BodiesAgree xs us (λ z zs. body_places z zs b) (λ z zs. body_places z zs c)
  bodies_agree B.inline B.inline i e f g = record { same = refl; places = λ z zs. refl }
  bodies_agree B.inline (B.indented c) i e f g = absurd (cc)
  bodies_agree (B.indented b) B.inline i e f g = absurd (cc)
  bodies_agree (B.indented b) (B.indented c) i e f g =
      let n = blocks_agree b c e f g in record { same = n.same; places = λ z. n.places }

  alternatives_agree : {l : ℕ} {xs : List Line} {ss : List Stmt} {us : List Line} {ts : List Stmt} {r q : List Line}
      (a : B.Alternative l xs ss) (d : B.Alternative l us ts) → xs ++ r ≡ us ++ q → Stops (4 * l + 1) r → Stops (4 * l + 1) q
      → Agree xs us (λ zs. alternative_places zs a) (λ zs. alternative_places zs d)
  alternatives_agree (B.an_else o) (B.an_else n) e f g =
      let m = others_agree o n e (later (omega arith) f) (later (omega arith) g) in record { same = m.same; places = m.places }
  alternatives_agree (B.an_else o) (B.an_elif c d) e f g = absurd (no_elif o e f)
  alternatives_agree (B.an_elif b a) (B.an_else n) e f g = absurd (no_elif n (sym e) g)
  alternatives_agree {r = r} {q = q} (B.an_elif {xs = xs} {ys = ys} b a) (B.an_elif {xs = us} {ys = vs} c d) e f g =
      let k = regroup xs ys r us vs q (rests e) in
      let m = bodies_agree b c (suites (forms e)) k (stops_both (alternative_stops a (omega arith)) (later (omega arith) f))
      (stops_both (alternative_stops d (omega arith)) (later (omega arith) g)) in
      let n = alternatives_agree a d (following m.same k) f g in
      opened (forms e) (both m.same n.same) refl
      (λ z zs. both refl (both (fronts m.same (m.places z) zs) (both (backs m.same n.places zs) refl)))

  others_agree : {l : ℕ} {xs : List Line} {ss : List Stmt} {us : List Line} {ts : List Stmt} {r q : List Line} (o : B.Otherwise l xs ss)
      (n : B.Otherwise l us ts) → xs ++ r ≡ us ++ q → Stops (4 * l + 2) r → Stops (4 * l + 2) q
      → Agree xs us (λ zs. otherwise_places zs o) (λ zs. otherwise_places zs n)
  others_agree B.no_else B.no_else e f g = record { same = refl; places = λ zs. refl }
  others_agree B.no_else (B.else_clause c) e f g = absurd (unended f e (omega arith))
  others_agree (B.else_clause b) B.no_else e f g = absurd (unended g (sym e) (omega arith))
  others_agree (B.else_clause b) (B.else_clause c) e f g =
      let m = bodies_agree b c (suites (forms e)) (rests e) (later (omega arith) f) (later (omega arith) g) in
      opened (forms e) m.same refl m.places

  handlers_agree : {l : ℕ} {a : Bool} {xs : List Line} {hs : List Handler} {o : Bool} {us : List Line} {ks : List Handler}
      {r q : List Line} (h : B.Excepts l a xs hs) (j : B.Excepts l o us ks) → xs ++ r ≡ us ++ q → Stops (4 * l + 3) r
      → Stops (4 * l + 3) q → Agree xs us (λ zs. handlers_places zs h) (λ zs. handlers_places zs j)
  handlers_agree B.no_except B.no_except e f g = record { same = refl; places = λ zs. refl }
  handlers_agree B.no_except (B.except_clause c j) e f g = absurd (unended f e (omega arith))
  handlers_agree (B.except_clause b h) B.no_except e f g = absurd (unended g (sym e) (omega arith))
  handlers_agree {r = r} {q = q} (B.except_clause {xs = xs} {ys = ys} b h) (B.except_clause {xs = us} {ys = vs} c j) e f g =
      let k = regroup xs ys r us vs q (rests e) in
      let m = bodies_agree b c (suites (forms e)) k (stops_both (handlers_stop h (omega arith)) (later (omega arith) f))
      (stops_both (handlers_stop j (omega arith)) (later (omega arith) g)) in
      let n = handlers_agree h j (following m.same k) f g in
      opened (forms e) (both m.same n.same) refl
      (λ z zs. both refl (both (fronts m.same (m.places z) zs)
      (both (ap (λ x. own z (take (length x) zs)) m.same) (backs m.same n.places zs))))

  cases_agree : {l : ℕ} {xs : List Line} {cs : List Case} {us : List Line} {ds : List Case} {r q : List Line} (c : B.Cases l xs cs)
      (d : B.Cases l us ds) → xs ++ r ≡ us ++ q → Stops (4 * l) r → Stops (4 * l) q
      → Agree xs us (λ zs. cases_places zs c) (λ zs. cases_places zs d)
  cases_agree B.no_case B.no_case e f g = record { same = refl; places = λ zs. refl }
  cases_agree B.no_case (B.case_clause c d) e f g = absurd (unended f e (omega arith))
  cases_agree (B.case_clause b a) B.no_case e f g = absurd (unended g (sym e) (omega arith))
  cases_agree {r = r} {q = q} (B.case_clause {xs = xs} {ys = ys} b a) (B.case_clause {xs = us} {ys = vs} c d) e f g =
      let k = regroup xs ys r us vs q (rests e) in
      let m = bodies_agree b c (suites (forms e)) k (stops_both (cases_stop a (omega arith)) (later (omega arith) f))
      (stops_both (cases_stop d (omega arith)) (later (omega arith) g)) in
      let n = cases_agree a d (following m.same k) f g in
      opened (forms e) (both m.same n.same) refl
      (λ z zs. both refl (both (fronts m.same (m.places z) zs) (backs m.same n.places zs)))

  endings_agree : {l : ℕ} {xs : List Line} {ss : List Stmt} {us : List Line} {ts : List Stmt} {r q : List Line} (o : B.Ending l xs ss)
      (n : B.Ending l us ts) → xs ++ r ≡ us ++ q → Stops (4 * l + 1) r → Stops (4 * l + 1) q
      → Agree xs us (λ zs. ending_places zs o) (λ zs. ending_places zs n)
  endings_agree B.no_finally B.no_finally e f g = record { same = refl; places = λ zs. refl }
  endings_agree B.no_finally (B.finally_clause c) e f g = absurd (unended f e (omega arith))
  endings_agree (B.finally_clause b) B.no_finally e f g = absurd (unended g (sym e) (omega arith))
  endings_agree (B.finally_clause b) (B.finally_clause c) e f g =
      let m = bodies_agree b c (suites (forms e)) (rests e) (later (omega arith) f) (later (omega arith) g) in
      opened (forms e) m.same refl m.places

-- whole lists of lines
pub blocks_alike : {l : ℕ} {xs us : List Line} {ss ts : List Stmt} → xs ≡ us → (b : B.Block l xs ss) (c : B.Block l us ts)
    (zs : List LinePlaces) → block_places zs b ≡ block_places zs c
blocks_alike e b c = (blocks_agree b c (ap (λ z. z ++ []) e) at_end at_end).places
