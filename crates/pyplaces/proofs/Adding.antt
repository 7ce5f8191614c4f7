-- What lines make of what is kept. Carries: Law. On: Settling.
use Rattle.std.proofs.Common.{◌≡◌, refl, sym, ap, ◌∙◌, ℕ, zero, suc, arith, Bool, true, false, cond, List, [], ◌∷◌, ◌++◌, length, take}
use Rattle.std.proofs.Common.{drop, append_assoc, append-nil, length-append, length-take, length-drop, Option}
use Rattle.pytree_node.specs.Trees.{Stmt}
use Rattle.pygrammar.specs.Lines.{Line, line, Header, header_form}
use Rattle.pygrammar.specs.Blocks.{header_kind, is_except}
use Rattle.pyplaces.specs.Stretches.{Span, span}
use Rattle.pyplaces.specs.BlockPlaces.{LinePlaces, ending, own}
use Rattle.pyplaces.specs.Steps.{OpenNode, node, State, state, is_clause, begins_node, has_parts, is_definition, settle_in, settle}
use Rattle.pyplaces.specs.Steps.{suite_in, place, step, run}
use Rattle.pyplaces.proofs.Settling.{Stays, ended, steady, resumed, later, still, below_within, clause_within, goes_on, ends_here}
use Rattle.pyplaces.proofs.Settling.{lasts}

-- ---- Lines that follow one another.

-- the end of the last line
abbrev pub stops : ℕ → List LinePlaces → ℕ
stops e [] = e
stops e (z ∷ zs) = stops z.whole.stop zs

stops-append : (n : ℕ) (zs : List LinePlaces) (e : ℕ) → stops e zs ≡ stops (stops e (take n zs)) (drop n zs)
stops-append zero zs e = refl
stops-append (suc n) [] e = refl
stops-append (suc n) (z ∷ zs) e = stops-append n zs z.whole.stop

pub ending_stops : (a : ℕ) (z : LinePlaces) (zs : List LinePlaces) → ending a (z ∷ zs) ≡ span a (stops z.whole.stop zs)
ending_stops a z [] = refl
ending_stops a z (w ∷ zs) = ending_stops a w zs

run-none : (xs : List Line) (s : State) → run xs [] s ≡ s
run-none [] s = refl
run-none (x ∷ xs) s = refl

run-append : (xs ys : List Line) (zs : List LinePlaces) (s : State) → run (xs ++ ys) zs s ≡ run ys (drop (length xs) zs)
    (run xs (take (length xs) zs) s)
run-append [] ys zs s = refl
run-append (x ∷ xs) ys [] s = sym (run-none ys s)
run-append (x ∷ xs) ys (z ∷ zs) s = run-append xs ys zs (step s x z)

pub front_fits : (xs ys : List Line) (zs : List LinePlaces) → length zs ≡ length (xs ++ ys) → length (take (length xs) zs) ≡ length xs
front_fits xs ys zs f = omega (arith, f, length-take (length xs) zs, length-append xs ys)

pub back_fits : (xs ys : List Line) (zs : List LinePlaces) → length zs ≡ length (xs ++ ys) → length (drop (length xs) zs) ≡ length ys
back_fits xs ys zs f = omega (arith, f, length-drop (length xs) zs, length-append xs ys)

-- what holds of lines after others holds of all, where it speaks of the end of the last
pub over : (l : ℕ) (c : Bool) (xs ys : List Line) (zs : List LinePlaces) (s : State) (e : ℕ) (X : ℕ → State) →
    settle l c (run ys (drop (length xs) zs) (run xs (take (length xs) zs) s)) ≡ X
    (stops (stops e (take (length xs) zs)) (drop (length xs) zs)) →
    settle l c (run (xs ++ ys) zs s) ≡ X (stops e zs)
over l c xs ys zs s e X h = ap (settle l c) (run-append xs ys zs s) ∙ (h ∙ ap X (sym (stops-append (length xs) zs e)))

-- ---- What lines add. Such a line after them would find what it would have found before them, with these spans after.

abbrev pub Reads : ℕ → Bool → List Line → (List LinePlaces → List Span) → Type 0
Reads l c xs ps = (zs : List LinePlaces) (s : State) (sp : List Span) (os : List OpenNode) (e : ℕ) → length zs ≡ length xs →
    settle l c s ≡ state sp [] os e → settle l c (run xs zs s) ≡ state (sp ++ ps zs) [] os (stops e zs)

pub reads_none : (l : ℕ) (c : Bool) → Reads l c [] (λ zs. [])
reads_none l c [] s sp os e f h = h ∙ ap (λ t. state t [] os e) (sym (append-nil sp))
reads_none l c (z ∷ zs) s sp os e f h = absurd (omega (arith, f))

pub reads_both : (l : ℕ) (c : Bool) (xs ys : List Line) (ps qs : List LinePlaces → List Span) → Reads l c xs ps → Reads l c ys qs →
    Reads l c (xs ++ ys) (λ zs. ps (take (length xs) zs) ++ qs (drop (length xs) zs))
reads_both l c xs ys ps qs p q zs s sp os e f h =
    let front = take (length xs) zs in
    let back = drop (length xs) zs in
    over l c xs ys zs s e (λ t. state ((sp ++ ps front) ++ qs back) [] os t)
    (q back (run xs front s) (sp ++ ps front) os (stops e front) (back_fits xs ys zs f) (p front s sp os e (front_fits xs ys zs f) h))
    ∙ ap (λ t. state t [] os (stops e zs)) (append_assoc sp (ps front) (qs back))

-- the same of a first line and those after it
abbrev pub Leads : ℕ → Bool → Line → List Line → (LinePlaces → List LinePlaces → List Span) → Type 0
Leads l c x xs ps = (z : LinePlaces) (zs : List LinePlaces) (s : State) (sp : List Span) (os : List OpenNode) (e : ℕ)
    → length zs ≡ length xs →
    settle l c s ≡ state sp [] os e → settle l c (run xs zs (step s x z)) ≡ state (sp ++ ps z zs) [] os (stops z.whole.stop zs)

pub leads : (l : ℕ) (c : Bool) (x : Line) (xs : List Line) (ps : LinePlaces → List LinePlaces → List Span)
    (qs : List LinePlaces → List Span) →
    Leads l c x xs ps → ((z : LinePlaces) (zs : List LinePlaces) → ps z zs ≡ qs (z ∷ zs)) → Reads l c (x ∷ xs) qs
leads l c x xs ps qs p h [] s sp os e f k = absurd (omega (arith, f))
leads l c x xs ps qs p h (z ∷ zs) s sp os e f k = p z zs s sp os e (omega (arith, f)) k
    ∙ ap (λ t. state (sp ++ t) [] os (stops z.whole.stop zs)) (h z zs)

pub leads_then : (l : ℕ) (c : Bool) (x : Line) (xs ys : List Line) (ps : LinePlaces → List LinePlaces → List Span)
    (qs : List LinePlaces → List Span) →
    Leads l c x xs ps → Reads l c ys qs → Leads l c x (xs ++ ys) (λ z zs. ps z (take (length xs) zs) ++ qs (drop (length xs) zs))
leads_then l c x xs ys ps qs p q z zs s sp os e f k =
    let front = take (length xs) zs in
    let back = drop (length xs) zs in
    let t = step s x z in
    over l c xs ys zs t z.whole.stop (λ r. state ((sp ++ ps z front) ++ qs back) [] os r)
    (q back (run xs front t) (sp ++ ps z front) os (stops z.whole.stop front) (back_fits xs ys zs f)
    (p z front s sp os e (front_fits xs ys zs f) k))
    ∙ ap (λ t. state t [] os (stops z.whole.stop zs)) (append_assoc sp (ps z front) (qs back))

-- Lines that go on with the statement of a level, before a line that doesn't: its node, and what ends with it, is still to be closed.
abbrev pub GoesOn : ℕ → List Line → (List LinePlaces → List Span) → Type 0
GoesOn l xs ps = (zs : List LinePlaces) (s : State) (sp : List Span) (os : List OpenNode) (e : ℕ) → length zs ≡ length xs →
    settle l true s ≡ state sp [] os e → settle l false (run xs zs s) ≡ settle_in l false (sp ++ ps zs) [] os (stops e zs)

pub goes_on_by : (l : ℕ) (xs : List Line) (ps : List LinePlaces → List Span) → Reads l true xs ps → GoesOn l xs ps
goes_on_by l xs ps p zs s sp os e f h = resumed l true l false (clause_within l) (run xs zs s) (sp ++ ps zs) [] os
    (stops e zs) (p zs s sp os e f h)

-- ---- The body of a header.

-- the lines of a body, after what stands in the header's line
abbrev pub Bodies : ℕ → Option (List Stmt) → List Line → (LinePlaces → List LinePlaces → List Span) → Type 0
Bodies l suite xs ps = (z : LinePlaces) (zs : List LinePlaces) (sp : List Span) (os : List OpenNode) (e : ℕ) → length zs ≡ length xs
    → Stays (suc l) false os →
    settle (suc l) false (run xs zs (state (sp ++ suite_in suite z) [] os e)) ≡ state (sp ++ ps z zs) [] os (stops e zs)

-- the spans of the parts before the body, and of those after it
abbrev pub before_in : Header → LinePlaces → List Span
before_in h z = cond (has_parts (header_kind h)) z.before []

abbrev pub after_in : Header → LinePlaces → List Span
after_in h z = cond (is_definition (header_kind h)) z.following []

-- a header that begins no node, with its body
pub clause_reads : (l : ℕ) (h : Header) (suite : Option (List Stmt)) (xs : List Line) (ps : LinePlaces → List LinePlaces → List Span) →
    begins_node (header_kind h) ≡ false → is_clause (header_kind h) ≡ true → Bodies l suite xs ps →
    (z : LinePlaces) (zs : List LinePlaces) (s : State) (sp : List Span) (os : List OpenNode) (e : ℕ) → length zs ≡ length xs
    → settle l true s ≡ state sp [] os e →
    settle l true (run xs zs (step s (line l (header_form h suite)) z)) ≡ state ((sp ++ before_in h z) ++ ps z zs) []
    os (stops z.whole.stop zs)
clause_reads l h suite xs ps n c p z zs s sp os e f k =
    let all = (sp ++ before_in h z) ++ suite_in suite z in
    let opened = node l (is_except (header_kind h)) z.whole.start ([] ++ after_in h z) in
    let placed : step s (line l (header_form h suite)) z ≡ state all [] os z.whole.stop =
    ap (λ b. place (settle l b s) l (header_form h suite) z) c
    ∙ (ap (λ t. place t l (header_form h suite) z) k
    ∙ ap (λ b. cond b (state all [] (opened ∷ os) z.whole.stop) (state all [] os z.whole.stop)) n) in
    let kept = steady l true s sp [] os e k in
    later (suc l) false l true (below_within l true) (run xs zs (step s (line l (header_form h suite)) z))
    ((sp ++ before_in h z) ++ ps z zs) [] os (stops z.whole.stop zs)
    (ap (λ t. settle (suc l) false (run xs zs t)) placed
    ∙ p z zs (sp ++ before_in h z) os z.whole.stop f (still (suc l) false l true (below_within l true) os kept))
    kept

-- a header that begins a node, with its body
pub node_reads : (l : ℕ) (c : Bool) (h : Header) (suite : Option (List Stmt)) (xs : List Line) (ps : LinePlaces
    → List LinePlaces → List Span) →
    begins_node (header_kind h) ≡ true → is_clause (header_kind h) ≡ c → Bodies l suite xs ps →
    (z : LinePlaces) (zs : List LinePlaces) (s : State) (sp ds : List Span) (os : List OpenNode) (e : ℕ) → length zs ≡ length xs
    → settle l c s ≡ state sp ds os e →
    settle (suc l) false (run xs zs (step s (line l (header_form h suite)) z))
    ≡ state ((sp ++ before_in h z) ++ ps z zs) [] (node l (is_except (header_kind h)) z.whole.start (ds ++ after_in h z) ∷
    os) (stops z.whole.stop zs)
node_reads l c h suite xs ps n i p z zs s sp ds os e f k =
    let all = (sp ++ before_in h z) ++ suite_in suite z in
    let opened = node l (is_except (header_kind h)) z.whole.start (ds ++ after_in h z) in
    let placed : step s (line l (header_form h suite)) z ≡ state all [] (opened ∷ os) z.whole.stop =
    ap (λ b. place (settle l b s) l (header_form h suite) z) i
    ∙ (ap (λ t. place t l (header_form h suite) z) k
    ∙ ap (λ b. cond b (state all [] (opened ∷ os) z.whole.stop) (state all ds os z.whole.stop)) n) in
    ap (λ t. settle (suc l) false (run xs zs t)) placed
    ∙ p z zs (sp ++ before_in h z) (opened ∷ os) z.whole.stop f (lasts l (is_except (header_kind h)) z.whole.start (ds ++ after_in h z))

-- ---- The end of a node.

-- what is still to be closed, with the node of a header whose lines these are
pub closed : (l : ℕ) (z : LinePlaces) (zs : List LinePlaces) (sp bs : List Span) (os : List OpenNode) →
    settle_in l false sp [] (node l false z.whole.start bs ∷ os) (stops z.whole.stop zs) ≡ settle_in l false (sp ++ (bs ++ own z zs)) []
    os (stops z.whole.stop zs)
closed l z zs sp bs os =
    ended l false sp [] (node l false z.whole.start bs) os (stops z.whole.stop zs) (ends_here l z.whole.start bs)
    ∙ ap (λ x. settle_in l false (sp ++ (bs ++ x ∷ [])) [] os (stops z.whole.stop zs)) (sym (ending_stops z.whole.start z zs))

-- a header that begins a statement, its body, and the lines that go on with it
pub choice_goes_on : (l : ℕ) (c : Bool) (h : Header) (suite : Option (List Stmt)) (xs ys : List Line) (ps : LinePlaces → List LinePlaces
    → List Span) (qs : List LinePlaces → List Span) →
    begins_node (header_kind h) ≡ true → is_clause (header_kind h) ≡ c → is_except (header_kind h) ≡ false
    → is_definition (header_kind h) ≡ false →
    Bodies l suite xs ps → GoesOn l ys qs →
    (z : LinePlaces) (zs : List LinePlaces) (s : State) (sp : List Span) (os : List OpenNode) (e : ℕ) → length zs ≡ length (xs ++ ys)
    → settle l c s ≡ state sp [] os e →
    settle l false (run (xs ++ ys) zs (step s (line l (header_form h suite)) z))
    ≡ settle_in l false (sp ++ (before_in h z ++ (ps z (take (length xs) zs) ++ (qs (drop (length xs) zs) ++ own z zs)))) []
    os (stops z.whole.stop zs)
choice_goes_on l c h suite xs ys ps qs n i x d p q z zs s sp os e f k =
    let front = take (length xs) zs in
    let back = drop (length xs) zs in
    let t = step s (line l (header_form h suite)) z in
    let most = (sp ++ before_in h z) ++ ps z front in
    let opened = node l false z.whole.start [] in
    let body : settle (suc l) false (run xs front t) ≡ state most [] (opened ∷ os) (stops z.whole.stop front) =
    node_reads l c h suite xs ps n i p z front s sp [] os e (front_fits xs ys zs f) k
    ∙ (ap (λ b. state most [] (node l b z.whole.start (after_in h z) ∷ os) (stops z.whole.stop front)) x
    ∙ ap (λ b. state most [] (node l false z.whole.start (cond b z.following []) ∷ os) (stops z.whole.stop front)) d) in
    let after = later (suc l) false l true (below_within l true) (run xs front t) most [] (opened ∷ os) (stops z.whole.stop front) body
    (goes_on l z.whole.start []) in
    over l false xs ys zs t z.whole.stop (λ r. settle_in l false (most ++ qs back) [] (opened ∷ os) r)
    (q back (run xs front t) most (opened ∷ os) (stops z.whole.stop front) (back_fits xs ys zs f) after)
    ∙ (closed l z zs (most ++ qs back) [] os
    ∙ ap (λ r. settle_in l false r [] os (stops z.whole.stop zs)) (in_order sp (before_in h z) (ps z front) (qs back) (own z zs)))
  where
    in_order : (a b c d e : List Span) → (((a ++ b) ++ c) ++ d) ++ e ≡ a ++ (b ++ (c ++ (d ++ e)))
    in_order a b c d e = append_assoc ((a ++ b) ++ c) d e ∙ (append_assoc (a ++ b) c (d ++ e) ∙ append_assoc a b (c ++ (d ++ e)))
