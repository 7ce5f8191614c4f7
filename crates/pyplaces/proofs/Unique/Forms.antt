-- Forms of the levels without operators.
--
-- Carries: nothing_goes .. slice_step_goes, for Expressions, SimpleForms. On: Levels, Answered.
use Rattle.std.proofs.Common.{◌≡◌, refl, ap, ◌∙◌, ℕ, ◌+◌, ◌≤◌, arith, List, [], ◌∷◌, ◌++◌, length, append_assoc, length-append}
use Rattle.std.proofs.Common.{false}
use Rattle.pylex_lexeme.specs.declared.kinds.Exact.TheVariants.{Colon, Comma, Star, ColonEqual}
use Rattle.pytoken.specs.declared.keywords.Keyword.TheVariants as Key
use Rattle.pytree_node.specs.Trees.{OptionalExpr}
use Rattle.pytoken.specs.Terminals.{Spelled, Terminal, Op, Word, Ident}
use Rattle.pygrammar.specs.declared.levels.Level.{Level}
use Rattle.pygrammar.specs.declared.levels.Level.TheVariants.{Value, Stars, StarItem, Named, Expression, Or, BitOr, Elem, Slices, Part}
use Rattle.pygrammar.specs.declared.levels.Level.TheVariants.{Slice}
use Rattle.pygrammar.specs.declared.levels.Level.TheVariants.{Subject}
use Rattle.pygrammar.specs.Entries.{Of, Parameter}
use Rattle.pygrammar.specs.Precedence.{first}
use Rattle.pygrammar.specs.Grammar as G
use Rattle.pygrammar.proofs.Callers.Terminals.{first_pos}
use Rattle.pyplaces.specs.Stretches.{Stretch, over}
use Rattle.pyplaces.specs.EntryPlaces.{EntryPlaces, singles, arranged}
use Rattle.pyplaces.specs.Inner.Looks.{grip_of, lead_of}
use Rattle.pyplaces.specs.Inner.Questions.{An, Bounds, Yielded, Perhaps, Items, Ask}
use Rattle.pyplaces.specs.Inner.ExpressionSteps.{Goes}
use Rattle.pyplaces.specs.Inner.Steps.{here, on}
use Rattle.pyplaces.proofs.Unique.Leading.{Comes, via, to, past, miss, untrue, is_true}
use Rattle.pyplaces.proofs.Unique.LookLemmas.{fronted, front_grip, starts_of, starts_low}
use Rattle.pyplaces.proofs.Unique.Led.{led}
use Rattle.pyplaces.proofs.Unique.Levels.{Stops, Reads, answers, next_goes}
use Rattle.pyplaces.proofs.Unique.Answered.{Answers, counted, shaped, PerhapsStops, ListEnds}

-- [X]
pub nothing_goes : (l : Level) → Answers (Perhaps l) [] (λ at. []) (PerhapsStops l)
nothing_goes l at rest k s = on (untrue _ s.1 here)

pub something_goes : (l : Level) (ts : List Terminal) (f : ℕ → List Stretch) → first l ≤ lead_of ts → Reads l ts f
    → Answers (Perhaps l) ts f (PerhapsStops l)
something_goes l ts f h p at rest k s = on (is_true _ (starts_of l ts rest (first_pos l) h) (answers l ts f p at rest k s.0))

-- yield
pub yield_from_goes : (ts : List Terminal) {f : ℕ → List Stretch} → Reads Expression ts f
    → Answers Yielded (Word Key.From ∷ ts) (λ at. f (1 + at)) (Stops Value)
yield_from_goes ts p at rest k s = on (via (p (1 + at) rest _ (omega (arith, s.0))) (counted k rest (omega arith)))

not_from : {ts : List Terminal} {a : OptionalExpr} → G.Perhaps Stars ts a → (us : List Terminal) → (grip_of us ≡ 4 → ⊥)
    → grip_of (ts ++ us) ≡ 4 → ⊥
not_from G.nothing us w q = w q
not_from (G.something {ts = ts} p) us w q = (front_grip ts us (omega (arith, led p))).0 q

pub yield_some_goes : (ts : List Terminal) {f : ℕ → List Stretch} {a : OptionalExpr} → G.Perhaps Stars ts a
    → Answers (Perhaps Stars) ts f (PerhapsStops Stars) → Answers Yielded ts f (Stops Value)
yield_some_goes ts w p at rest k s = on (past _ (not_from w rest s.2)
    (p at rest k ((s.0, s.1, s.3), starts_low Stars rest (omega (arith, s.3)))))

pub yields_goes : (ts : List Terminal) {f : ℕ → List Stretch} → Answers Yielded ts f (Stops Value)
    → Reads Value (Word Key.Yield ∷ ts) (λ at. f (1 + at) ++ over at (1 + length ts))
yields_goes ts p at rest k s = on (via (p (1 + at) rest _ s) (counted k rest (omega arith)))

-- stars
pub star_item_goes : (ts : List Terminal) (f : ℕ → List Stretch) → Reads BitOr ts f
    → Reads StarItem (Op Star ∷ ts) (λ at. f (1 + at) ++ over at (1 + length ts))
star_item_goes ts f p at rest k s =
    on (via (answers BitOr ts f p (1 + at) rest _ (omega (arith, s))) (counted k rest (omega arith)))

pub star_elem_goes : (ts : List Terminal) (f : ℕ → List Stretch) → Reads BitOr ts f
    → Reads Elem (Op Star ∷ ts) (λ at. f (1 + at) ++ over at (1 + length ts))
star_elem_goes ts f p at rest k s =
    on (via (answers BitOr ts f p (1 + at) rest _ (omega (arith, s))) (counted k rest (omega arith)))

pub star_part_goes : (ts : List Terminal) {f : ℕ → List Stretch} → Reads Expression ts f
    → Reads Part (Op Star ∷ ts) (λ at. f (1 + at) ++ over at (1 + length ts))
star_part_goes ts p at rest k s = on (via (p (1 + at) rest _ (omega (arith, s.0))) (counted k rest (omega arith)))

pub star_slices_goes : (ts : List Terminal) {f : ℕ → List Stretch} → Reads Expression ts f
    → Reads Slices (Op Star ∷ ts) (λ at. f (1 + at) ++ (over at (1 + length ts) ++ over at (1 + length ts)))
star_slices_goes ts {f} p at rest k s = on (via (star_part_goes ts p at rest _ (omega (arith, s.0), omega (arith, s.1)))
    (miss rest 3 _ (λ q. omega (arith, s.0, q)) (to here (ap (λ z. k z (length (Op Star ∷ ts)) rest) (two (1 + length ts) (omega arith))))))
  where
    two : (n : ℕ) → length (Op Star ∷ ts) ≡ n
        → (f (1 + at) ++ over at n) ++ over at (length (Op Star ∷ ts)) ≡ f (1 + at) ++ (over at n ++ over at n)
    two n e = append_assoc (f (1 + at)) (over at n) (over at (length (Op Star ∷ ts)))
        ∙ ap (λ z. f (1 + at) ++ (over at n ++ over at z)) e

-- tuples without brackets
pub star_tuple_goes : (ts us : List Terminal) {f : ℕ → List Stretch} {g : ℕ → List EntryPlaces} → Reads StarItem ts f
    → Answers (Items (Of StarItem)) us g (ListEnds (Of StarItem))
    → Reads Stars (ts ++ (Op Comma ∷ us)) (λ at. f at ++ (singles (g (at + (length ts + 1))) ++ over at (length ts + (1 + length us))))
star_tuple_goes ts us p c at rest k s = shaped (An Stars) at k (append_assoc ts (Op Comma ∷ us) rest)
    (on (via (p at (Op Comma ∷ (us ++ rest)) _ (omega arith))
    (via (c (at + (length ts + 1)) rest _ (
      starts_low StarItem rest (omega (arith, s.2)),
      s.1,
      s.0,
    )) (counted k rest (omega (arith, length-append ts (Op Comma ∷ us)))))))

pub parts_goes : (ts us : List Terminal) {f : ℕ → List Stretch} {g : ℕ → List EntryPlaces} → Reads Part ts f
    → Answers (Items (Of Part)) us g (ListEnds (Of Part))
    → Reads Slices (ts ++ (Op Comma ∷ us)) (λ at. f at ++ (singles (g (at + (length ts + 1))) ++ over at (length ts + (1 + length us))))
parts_goes ts us p c at rest k s = shaped (An Slices) at k (append_assoc ts (Op Comma ∷ us) rest)
    (on (via (p at (Op Comma ∷ (us ++ rest)) _ (omega arith, omega arith))
    (via (c (at + (length ts + 1)) rest _ (
      starts_low Part rest (omega (arith, s.1)),
      λ q. omega (arith, s.0, q),
      (omega (arith, s.0), omega (arith, s.1)),
    )) (counted k rest (omega (arith, length-append ts (Op Comma ∷ us)))))))

pub subject_tuple_goes : (ts us : List Terminal) {f : ℕ → List Stretch} {g : ℕ → List EntryPlaces} → Reads Elem ts f
    → Answers (Items (Of Elem)) us g (ListEnds (Of Elem))
    → Reads Subject (ts ++ (Op Comma ∷ us)) (λ at. f at ++ (singles (g (at + (length ts + 1))) ++ over at (length ts + (1 + length us))))
subject_tuple_goes ts us p c at rest k s = shaped (An Subject) at k (append_assoc ts (Op Comma ∷ us) rest)
    (on (via (p at (Op Comma ∷ (us ++ rest)) _ (omega arith))
    (via (c (at + (length ts + 1)) rest _ (starts_low Elem rest (omega (arith, s.2)), s.1, s.0))
    (counted k rest (omega (arith, length-append ts (Op Comma ∷ us)))))))

-- names, lambda, conditions
pub named_goes : (x : Spelled) (ts : List Terminal) {f : ℕ → List Stretch} → Reads Expression ts f
    → Reads Named (Ident x ∷ (Op ColonEqual ∷ ts)) (λ at. over at 1 ++ (f (2 + at) ++ over at (2 + length ts)))
named_goes x ts p at rest k s = on (via (p (2 + at) rest _ (omega (arith, s))) (counted k rest (omega arith)))

pub lambda_goes : (ts us : List Terminal) {g : ℕ → List EntryPlaces} {f : ℕ → List Stretch}
    → Answers (Items (Parameter false)) ts g (ListEnds (Parameter false)) → Reads Expression us f
    → Reads Expression (Word Key.Lambda ∷ (ts ++ (Op Colon ∷ us)))
    (λ at. arranged (g (1 + at)) ++ (f (2 + (at + length ts)) ++ over at (2 + (length ts + length us))))
lambda_goes ts us c p at rest k s =
    shaped (An Expression) at k (ap (λ z. Word Key.Lambda ∷ z) (append_assoc ts (Op Colon ∷ us) rest))
    (on (via (c (1 + at) (Op Colon ∷ (us ++ rest)) _ (
      refl,
      λ q. absurd (omega (arith, q)),
      (λ q. absurd (omega (arith, q)), omega arith, omega arith),
    ))
    (via (p (2 + (at + length ts)) rest _ s) (counted k rest (omega (arith, length-append ts (Op Colon ∷ us)))))))

pub if_else_goes : (ts us vs : List Terminal) {f g h : ℕ → List Stretch} → 10 ≤ lead_of ts → Reads Or ts f → Reads Or us g
    → Reads Expression vs h → Reads Expression (ts ++ (Word Key.If ∷ (us ++ (Word Key.Else ∷ vs))))
    (λ at. g (1 + (at + length ts)) ++ (f at ++ (h (2 + (at + (length ts + length us)))
    ++ over at (2 + (length ts + (length us + length vs))))))
if_else_goes ts us vs l p q r at rest k s = shaped (An Expression) at k (shape rest)
    (on (past _ (fronted ts (Word Key.If ∷ (us ++ (Word Key.Else ∷ (vs ++ rest)))) 9 (omega (arith, l)))
    (via (p at (Word Key.If ∷ (us ++ (Word Key.Else ∷ (vs ++ rest)))) _ (omega arith))
    (via (q (1 + (at + length ts)) (Word Key.Else ∷ (vs ++ rest)) _ (omega arith))
    (via (r (2 + (at + (length ts + length us))) rest _ s)
    (counted k rest (omega (
      arith,
      length-append ts (Word Key.If ∷ (us ++ (Word Key.Else ∷ vs))),
      length-append us (Word Key.Else ∷ vs),
    ))))))))
  where
    shape : (rest : List Terminal) → (ts ++ (Word Key.If ∷ (us ++ (Word Key.Else ∷ vs)))) ++ rest ≡ ts ++
        (Word Key.If ∷ (us ++ (Word Key.Else ∷ (vs ++ rest))))
    shape rest = simp append_assoc refl

-- ---- Slices.

-- what stands before the first colon
abbrev pub Front : List Terminal → (ℕ → List Stretch) → Type 0
Front ts f = (at : ℕ) (r : List Terminal) (k : Goes)
    → Comes (Ask (An Slice) at (ts ++ (Op Colon ∷ r)) k) (Ask (Bounds (f at) (length ts)) at (Op Colon ∷ r) k)

pub front_nothing : Front [] (λ at. [])
front_nothing at r k = on here

pub front_something : (ts : List Terminal) (f : ℕ → List Stretch) → 9 ≤ lead_of ts → Reads Expression ts f → Front ts f
front_something ts f l p at r k = on (past _ (fronted ts (Op Colon ∷ r) 5 (omega (arith, l)))
    (via (next_goes Named ts f l tt p at (Op Colon ∷ r) _ (omega arith)) here))

one_bound : (us : List Terminal) {g : ℕ → List Stretch} → Answers (Perhaps Expression) us g (PerhapsStops Expression)
    → (ps : List Stretch) (n at : ℕ) (rest : List Terminal) (k : Goes) → Stops Slice rest
    → Comes (Ask (Bounds ps n) at (Op Colon ∷ (us ++ rest)) k)
    (k (ps ++ (g (1 + (at + n)) ++ over at (1 + (n + length us)))) (1 + (n + length us)) rest)
one_bound us q ps n at rest k s = on (via (q (1 + (at + n)) rest _ (omega (arith, s.0), starts_low Expression rest (omega (arith, s.1))))
    (miss rest 5 _ (λ e. omega (arith, s.0, e)) here))

two_bounds : (us vs : List Terminal) {g h : ℕ → List Stretch} → Answers (Perhaps Expression) us g (PerhapsStops Expression)
    → Answers (Perhaps Expression) vs h (PerhapsStops Expression)
    → (ps : List Stretch) (n at : ℕ) (rest : List Terminal) (k : Goes) → Stops Slice rest
    → Comes (Ask (Bounds ps n) at (Op Colon ∷ (us ++ (Op Colon ∷ (vs ++ rest)))) k)
    (k (ps ++ (g (1 + (at + n)) ++ (h (2 + (at + (n + length us))) ++ over at (2 + (n + (length us + length vs))))))
    (2 + (n + (length us + length vs))) rest)
two_bounds us vs q r ps n at rest k s = on (via (q (1 + (at + n)) (Op Colon ∷ (vs ++ rest)) _ (omega arith, refl))
    (via (r (2 + (at + (n + length us))) rest _ (omega (arith, s.0), starts_low Expression rest (omega (arith, s.1)))) here))

pub slice_goes : (ts us : List Terminal) (f g : ℕ → List Stretch) → Front ts f
    → Answers (Perhaps Expression) us g (PerhapsStops Expression)
    → Reads Slice (ts ++ (Op Colon ∷ us)) (λ at. f at ++ (g (1 + (at + length ts)) ++ over at (1 + (length ts + length us))))
slice_goes ts us f g p q at rest k s = shaped (An Slice) at k (append_assoc ts (Op Colon ∷ us) rest)
    (via (p at (us ++ rest) k) (via (one_bound us q (f at) (length ts) at rest k s)
    (counted k rest (omega (arith, length-append ts (Op Colon ∷ us))))))

pub slice_step_goes : (ts us vs : List Terminal) (f g h : ℕ → List Stretch) → Front ts f
    → Answers (Perhaps Expression) us g (PerhapsStops Expression) → Answers (Perhaps Expression) vs h (PerhapsStops Expression)
    → Reads Slice (ts ++ (Op Colon ∷ (us ++ (Op Colon ∷ vs)))) (λ at. f at ++ (g (1 + (at + length ts)) ++
    (h (2 + (at + (length ts + length us))) ++ over at (2 + (length ts + (length us + length vs))))))
slice_step_goes ts us vs f g h p q r at rest k s = shaped (An Slice) at k (shape rest)
    (via (p at (us ++ (Op Colon ∷ (vs ++ rest))) k) (via (two_bounds us vs q r (f at) (length ts) at rest k s)
    (counted k rest (omega (
      arith,
      length-append ts (Op Colon ∷ (us ++ (Op Colon ∷ vs))),
      length-append us (Op Colon ∷ vs),
    )))))
  where
    shape : (rest : List Terminal) → (ts ++ (Op Colon ∷ (us ++ (Op Colon ∷ vs)))) ++ rest ≡ ts ++
        (Op Colon ∷ (us ++ (Op Colon ∷ (vs ++ rest))))
    shape rest = simp append_assoc refl
