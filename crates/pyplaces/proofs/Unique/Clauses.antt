-- Comprehensions, and the targets in them.
--
-- Carries: plain_target .. comps_goes, comps_front, for TargetForms, AtomForms, CurlyForms, TrailerForms, Expressions. On: Levels, Answered.
use Rattle.std.proofs.Common.{◌≡◌, refl, sym, ap, ℕ, ◌+◌, ◌≤◌, arith, List, [], ◌∷◌, ◌++◌, length, append_assoc, length-append}
use Rattle.std.proofs.Common.{Option, Some, None, true, option_map, subst}
use Rattle.pylex_lexeme.specs.declared.kinds.Exact.TheVariants.{Comma, Star}
use Rattle.pytoken.specs.declared.keywords.Keyword.TheVariants as Key
use Rattle.pytree_node.specs.declared.operators.Context.TheVariants.{Load, Store}
use Rattle.pytree_node.specs.Trees
use Rattle.pytree_node.specs.Trees.{Expr, Comprehension}
use Rattle.pytoken.specs.Terminals.{Terminal, Op, Word}
use Rattle.pygrammar.specs.declared.levels.Level.TheVariants.{StarItem, Or, Primary}
use Rattle.pygrammar.specs.Precedence.{starts_comp}
use Rattle.pygrammar.specs.Targets.{stored}
use Rattle.pygrammar.specs.Grammar as G
use Rattle.pyplaces.specs.Stretches.{Stretch, over}
use Rattle.pyplaces.specs.EntryPlaces as E
use Rattle.pyplaces.specs.EntryPlaces.{EntryPlaces, singles}
use Rattle.pyplaces.specs.Inner.Looks.{grip_of, lead_of}
use Rattle.pyplaces.specs.Inner.ListSteps.{clause}
use Rattle.pyplaces.specs.Inner.ExpressionSteps.{Goes}
use Rattle.pyplaces.specs.Inner.Questions.{An, Clauses, Iteration, Conditions, ATarget, LoneTarget, TargetList}
use Rattle.pyplaces.specs.Inner.Steps.{here, on}
use Rattle.pyplaces.proofs.Unique.Leading.{Comes, via, past, miss, untrue, is_true}
use Rattle.pyplaces.proofs.Unique.LookLemmas.{fronted, starts_of, starts_low}
use Rattle.pyplaces.proofs.Unique.Levels.{Reads}
use Rattle.pyplaces.proofs.Unique.Answered.{Answers, counted, shaped, TargetStops, ClauseStops}

-- ---- Targets.

abbrev pub LoneTargets : List Terminal → (ℕ → List Stretch) → Type 0
LoneTargets ts f = Answers LoneTarget ts f (λ r. grip_of r ≤ 22)

abbrev pub PrimaryTargets : List Terminal → (ℕ → List Stretch) → Type 0
PrimaryTargets ts f = Answers (An Primary) ts f (λ r. grip_of r ≤ 22)

pub plain_target : (ts : List Terminal) (f : ℕ → List Stretch) → 9 ≤ lead_of ts → PrimaryTargets ts f → LoneTargets ts f
plain_target ts f l p at rest k s = on (past _ (fronted ts rest 7 (omega (arith, l))) (p at rest k s))

pub starred_target : (ts : List Terminal) (f : ℕ → List Stretch) → PrimaryTargets ts f
    → LoneTargets (Op Star ∷ ts) (λ at. f (1 + at) ++ over at (1 + length ts))
starred_target ts f p at rest k s = on (via (p (1 + at) rest _ s) (counted k rest (omega arith)))

pub lone_target : (ts : List Terminal) (f : ℕ → List Stretch) → LoneTargets ts f → Answers ATarget ts f TargetStops
lone_target ts f p at rest k s = on (via (p at rest _ s.0) (past _ s.1 here))

-- a list of them
abbrev pub TargetListRead : List Terminal → (ℕ → List EntryPlaces) → Type 0
TargetListRead ts g = Answers TargetList ts g TargetStops

pub no_targets : TargetListRead [] (λ at. [])
no_targets at rest k s = on (untrue _ (starts_low StarItem rest (omega (arith, s.2))) here)

pub last_of_targets : (ts : List Terminal) (f : ℕ → List Stretch) → 7 ≤ lead_of ts → LoneTargets ts f → TargetListRead ts (λ at. E.Single (f at) ∷ [])
last_of_targets ts f l p at rest k s =
    on (is_true _ (starts_of StarItem ts rest (omega arith) l) (via (p at rest _ s.0) (past _ s.1 here)))

pub more_target_list : (ts us : List Terminal) (f : ℕ → List Stretch) (g : ℕ → List EntryPlaces) → 7 ≤ lead_of ts → LoneTargets ts f
    → TargetListRead us g → TargetListRead (ts ++ (Op Comma ∷ us)) (λ at. E.Single (f at) ∷ g (at + (length ts + 1)))
more_target_list ts us f g l p q at rest k s = shaped TargetList at k (append_assoc ts (Op Comma ∷ us) rest)
    (on (is_true _ (starts_of StarItem ts (Op Comma ∷ (us ++ rest)) (omega arith) l) (via (p at (Op Comma ∷ (us ++ rest)) _ (omega arith))
    (via (q (at + (length ts + 1)) rest _ s) (counted k rest (omega (arith, length-append ts (Op Comma ∷ us))))))))

pub tuple_target : (ts us : List Terminal) (f : ℕ → List Stretch) (g : ℕ → List EntryPlaces) → LoneTargets ts f → TargetListRead us g
    → Answers ATarget (ts ++ (Op Comma ∷ us))
    (λ at. f at ++ (singles (g (at + (length ts + 1))) ++ over at (length ts + (1 + length us)))) TargetStops
tuple_target ts us f g p q at rest k s = shaped ATarget at k (append_assoc ts (Op Comma ∷ us) rest)
    (on (via (p at (Op Comma ∷ (us ++ rest)) _ (omega arith))
    (via (q (at + (length ts + 1)) rest _ s) (counted k rest (omega (arith, length-append ts (Op Comma ∷ us)))))))

-- what a target is made of
pub mapped_some : {A B : Type 0} (f : A → B) (o : Option A) (b : B) → option_map f o ≡ Some b → (a : A) × (o ≡ Some a)
mapped_some f None b h = absurd (cc)
mapped_some f (Some a) b h = (a, refl)

pub starred_stored : (e s : Expr) → stored (Trees.Starred e Load) ≡ Some s → (a : Expr) × (stored e ≡ Some a)
starred_stored (Trees.Starred e c) s h = absurd (cc)
starred_stored e s h = mapped_some (λ f. Trees.Starred f Store) (stored e) s h

-- ---- Conditions, and one `for`.

abbrev pub IfsStop : List Terminal → Type 0
IfsStop r = grip_of r ≤ 8

pub no_if_goes : Answers Conditions [] (λ at. []) IfsStop
no_if_goes at rest k s = on (miss rest 9 _ (λ q. omega (arith, s, q)) here)

pub ifs_grip : {us : List Terminal} {es : List Expr} → G.Ifs us es → (rest : List Terminal) → grip_of rest ≤ 8 → grip_of (us ++ rest) ≤ 9
ifs_grip G.no_if rest g = omega (arith, g)
ifs_grip (G.if_one p q) rest g = omega arith

pub if_one_goes : (ts us : List Terminal) {es : List Expr} {f g : ℕ → List Stretch} → Reads Or ts f → G.Ifs us es
    → Answers Conditions us g IfsStop
    → Answers Conditions (Word Key.If ∷ (ts ++ us)) (λ at. f (1 + at) ++ g (1 + (at + length ts))) IfsStop
if_one_goes ts us p w q at rest k s = shaped Conditions at k (ap (λ z. Word Key.If ∷ z) (append_assoc ts us rest))
    (on (via (p (1 + at) (us ++ rest) _ (omega (arith, ifs_grip w rest s))) (via (q (1 + (at + length ts)) rest _ s)
    (counted k rest (omega (arith, length-append ts us))))))

pub target_in_goes : (ts us vs : List Terminal) {es : List Expr} {f g h : ℕ → List Stretch} → Answers ATarget ts f TargetStops → Reads Or us g
    → G.Ifs vs es → Answers Conditions vs h IfsStop
    → Answers Iteration (ts ++ (Word Key.In ∷ (us ++ vs)))
    (λ at. f at ++ (g (1 + (at + length ts)) ++ h (1 + (at + (length ts + length us))))) IfsStop
target_in_goes ts us vs p q w r at rest k s = shaped Iteration at k (shape rest)
    (on (via (p at (Word Key.In ∷ (us ++ (vs ++ rest))) _ (omega arith, λ q. absurd (omega (arith, q)), omega arith))
    (via (q (1 + (at + length ts)) (vs ++ rest) _ (omega (arith, ifs_grip w rest s)))
    (via (r (1 + (at + (length ts + length us))) rest _ s)
    (counted k rest (omega (arith, length-append ts (Word Key.In ∷ (us ++ vs)), length-append us vs)))))))
  where
    shape : (rest : List Terminal) → (ts ++ (Word Key.In ∷ (us ++ vs))) ++ rest ≡ ts ++ (Word Key.In ∷ (us ++ (vs ++ rest)))
    shape rest = simp append_assoc refl

-- ---- All of them.

abbrev pub ClauseReads : List Terminal → (ℕ → List Stretch) → Type 0
ClauseReads ts f = (at : ℕ) (rest : List Terminal) (k : Goes) → grip_of rest ≤ 8
    → Comes (clause at (ts ++ rest) k) (k (f at) (length ts) rest)

pub for_goes : (ts : List Terminal) {f : ℕ → List Stretch} → Answers Iteration ts f IfsStop
    → ClauseReads (Word Key.For ∷ ts) (λ at. f (1 + at))
for_goes ts p at rest k s = via (p (1 + at) rest _ s) (counted k rest (omega arith))

pub async_goes : (ts : List Terminal) {f : ℕ → List Stretch} → Answers Iteration ts f IfsStop
    → ClauseReads (Word Key.Async ∷ (Word Key.For ∷ ts)) (λ at. f (2 + at))
async_goes ts p at rest k s = via (p (2 + at) rest _ s) (counted k rest (omega arith))

pub one_comp_goes : (ts : List Terminal) {f : ℕ → List Stretch} → ClauseReads ts f → Answers Clauses ts f ClauseStops
one_comp_goes ts p at rest k s = on (via (p at rest _ s.0) (untrue _ s.1 here))

abbrev IsClause : List Terminal → Type 0
IsClause i = (grip_of i ≡ 0) × (starts_comp i ≡ true)

comp_front : {ts : List Terminal} {g : Comprehension} → G.Comp ts g → (r : List Terminal) → IsClause (ts ++ r)
comp_front (G.for_in p) r = (refl, refl)
comp_front (G.async_for_in p) r = (refl, refl)

pub comps_front : {ts : List Terminal} {gs : List Comprehension} → G.Comps ts gs → (r : List Terminal) → IsClause (ts ++ r)
comps_front (G.one_comp p) r = comp_front p r
comps_front (G.comps {ts = ts} {us = us} p c) r = subst IsClause (sym (append_assoc ts us r)) (comp_front p (us ++ r))

pub comps_goes : (ts us : List Terminal) {gs : List Comprehension} {f g : ℕ → List Stretch} → ClauseReads ts f → G.Comps us gs
    → Answers Clauses us g ClauseStops → Answers Clauses (ts ++ us) (λ at. f at ++ g (at + length ts)) ClauseStops
comps_goes ts us p w q at rest k s = shaped Clauses at k (append_assoc ts us rest)
    (on (via (p at (us ++ rest) _ (omega (arith, (comps_front w rest).0))) (is_true _ ((comps_front w rest).1)
    (via (q (at + length ts) rest _ s) (counted k rest (sym (length-append ts us)))))))
