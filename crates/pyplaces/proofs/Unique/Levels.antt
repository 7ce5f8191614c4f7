-- What it means that an expression of a level is read, and that a reading of it is one of the next level outwards.
--
-- Carries: Stops, Reads, Full, answers, name_expression, free, next_goes, for all below. On: Leading, LookLemmas, Led.
use Rattle.std.proofs.Common.{◌≡◌, ap, ◌∙◌, ℕ, ◌≤◌, ◌<◌, arith, List, [], ◌∷◌, ◌++◌, length}
use Rattle.pytoken.specs.Terminals.{Spelled, Terminal, Ident}
use Rattle.pygrammar.specs.declared.levels.Level.{Level}
use Rattle.pygrammar.specs.declared.levels.Level.TheVariants.{Value, Stars, StarItem, Named, Expression, Or, And, Not, Compare, BitOr}
use Rattle.pygrammar.specs.declared.levels.Level.TheVariants.{BitXor, BitAnd, Shift, Sum, Term, Factor, Power, Await, Primary, Atom, Elem}
use Rattle.pygrammar.specs.declared.levels.Level.TheVariants.{Slices, Part, Slice, Subject}
use Rattle.pygrammar.specs.Operators.{below, rank}
use Rattle.pygrammar.specs.Precedence.{first}
use Rattle.pyplaces.specs.Stretches.{Stretch, over}
use Rattle.pyplaces.specs.FormPlaces.{plain_header}
use Rattle.pyplaces.specs.Inner.Looks.{grip_of, lead_of, name_grip}
use Rattle.pyplaces.specs.Inner.Questions.{An, More, Trailers, Reading, Done, Ask}
use Rattle.pyplaces.specs.Inner.ExpressionSteps.{Goes}
use Rattle.pyplaces.specs.Inner.Steps.{here, on}
use Rattle.pyplaces.proofs.Unique.Leading.{Comes, via, from, past, miss, one_end}
use Rattle.pyplaces.proofs.Unique.LookLemmas.{fronted, trailers_end}
use Rattle.pyplaces.proofs.Unique.Led.{NotStar}

-- what may follow an expression of a level, so that its reading ends there
abbrev pub Stops : Level → List Terminal → Type 0
Stops Value r = (grip_of r ≤ 8) × (grip_of r ≡ 3 → ⊥) × (grip_of r ≡ 4 → ⊥) × (lead_of r ≤ 6)
Stops Stars r = (grip_of r ≤ 8) × (grip_of r ≡ 3 → ⊥) × (lead_of r ≤ 6)
Stops Slices r = (grip_of r ≤ 2) × (lead_of r ≤ 4)
Stops Part r = (grip_of r ≤ 4) × (lead_of r ≤ 8)
Stops Slice r = (grip_of r ≤ 4) × (lead_of r ≤ 8)
Stops Subject r = (grip_of r ≤ 7) × (grip_of r ≡ 3 → ⊥) × (lead_of r ≤ 6)
Stops StarItem r = grip_of r ≤ 8
Stops Elem r = grip_of r ≤ 7
Stops Named r = grip_of r ≤ 7
Stops Expression r = grip_of r ≤ 8
Stops Primary r = grip_of r ≤ 22
Stops Atom r = grip_of r ≤ 24
Stops Power r = grip_of r ≤ 19
Stops l r = grip_of r < rank l

-- what ends a Value surely
pub value_stops : (r : List Terminal) → grip_of r ≤ 2 → lead_of r ≤ 6 → Stops Value r
value_stops r g l = (omega (arith, g), λ q. omega (arith, g, q), λ q. omega (arith, g, q), l)

-- at a level whose operators may follow what they make, these may follow too
abbrev pub Before : Level → List Terminal → Type 0
Before BitOr r = grip_of r ≤ 14
Before BitXor r = grip_of r ≤ 15
Before BitAnd r = grip_of r ≤ 16
Before Shift r = grip_of r ≤ 17
Before Sum r = grip_of r ≤ 18
Before Term r = grip_of r ≤ 19
Before Primary r = grip_of r ≤ 23
Before l r = Stops l r

-- and the reading goes on with them
abbrev pub Onward : Level → List Stretch → ℕ → ℕ → List Terminal → Goes → Reading
Onward BitOr ps n at r k = Ask (More BitOr ps n) at r k
Onward BitXor ps n at r k = Ask (More BitXor ps n) at r k
Onward BitAnd ps n at r k = Ask (More BitAnd ps n) at r k
Onward Shift ps n at r k = Ask (More Shift ps n) at r k
Onward Sum ps n at r k = Ask (More Sum ps n) at r k
Onward Term ps n at r k = Ask (More Term ps n) at r k
Onward Primary ps n at r k = Ask (Trailers ps n) at r k
Onward l ps n at r k = k ps n r

abbrev pub Reads : Level → List Terminal → (ℕ → List Stretch) → Type 0
Reads l ts f = (at : ℕ) (rest : List Terminal) (k : Goes) → Before l rest
    → Comes (Ask (An l) at (ts ++ rest) k) (Onward l (f at) (length ts) at rest k)

abbrev pub Full : Level → List Terminal → (ℕ → List Stretch) → Type 0
Full l ts f = (at : ℕ) (rest : List Terminal) (k : Goes) → Stops l rest
    → Comes (Ask (An l) at (ts ++ rest) k) (k (f at) (length ts) rest)

pub answers : (l : Level) (ts : List Terminal) (f : ℕ → List Stretch) → Reads l ts f → Full l ts f
answers BitOr ts f p at rest k s = via (p at rest k (omega (arith, s))) (on (miss rest 14 _ (λ q. omega (arith, s, q)) here))
answers BitXor ts f p at rest k s = via (p at rest k (omega (arith, s))) (on (miss rest 15 _ (λ q. omega (arith, s, q)) here))
answers BitAnd ts f p at rest k s = via (p at rest k (omega (arith, s))) (on (miss rest 16 _ (λ q. omega (arith, s, q)) here))
answers Shift ts f p at rest k s = via (p at rest k (omega (arith, s))) (on (miss rest 17 _ (λ q. omega (arith, s, q)) here))
answers Sum ts f p at rest k s = via (p at rest k (omega (arith, s))) (on (miss rest 18 _ (λ q. omega (arith, s, q)) here))
answers Term ts f p at rest k s = via (p at rest k (omega (arith, s))) (on (miss rest 19 _ (λ q. omega (arith, s, q)) here))
answers Primary ts f p at rest k s =
    via (p at rest k (omega (arith, s))) (on (from (trailers_end (f at) (length ts) at rest k s) here))
answers _ ts f p at rest k s = p at rest k s

-- ---- From Expression to Atom.

inner_goes : (l : Level) (ts : List Terminal) (f : ℕ → List Stretch) → 9 ≤ rank l → first (below l) ≤ lead_of ts
    → Reads (below l) ts f → Reads l ts f
inner_goes Expression ts f w l p at rest k s = on (past _ (fronted ts rest 9 (omega (arith, l)))
    (via (p at rest _ (omega (arith, s))) (miss rest 9 _ (λ q. omega (arith, s, q)) here)))
inner_goes Or ts f w l p at rest k s = on (via (p at rest _ (omega (arith, s))) (miss rest 10 _ (λ q. omega (arith, s, q)) here))
inner_goes And ts f w l p at rest k s = on (via (p at rest _ (omega (arith, s))) (miss rest 11 _ (λ q. omega (arith, s, q)) here))
inner_goes Not ts f w l p at rest k s = on (past _ (fronted ts rest 12 (omega (arith, l))) (p at rest k (omega (arith, s))))
inner_goes Compare ts f w l p at rest k s =
    on (via (answers BitOr ts f p at rest _ (omega (arith, s))) (miss rest 13 _ (λ q. omega (arith, s, q)) here))
inner_goes BitOr ts f w l p at rest k s = on (answers BitXor ts f p at rest _ (omega (arith, s)))
inner_goes BitXor ts f w l p at rest k s = on (answers BitAnd ts f p at rest _ (omega (arith, s)))
inner_goes BitAnd ts f w l p at rest k s = on (answers Shift ts f p at rest _ (omega (arith, s)))
inner_goes Shift ts f w l p at rest k s = on (answers Sum ts f p at rest _ (omega (arith, s)))
inner_goes Sum ts f w l p at rest k s = on (answers Term ts f p at rest _ (omega (arith, s)))
inner_goes Term ts f w l p at rest k s = on (p at rest _ (omega (arith, s)))
inner_goes Factor ts f w l p at rest k s = on (past _ (fronted ts rest 20 (omega (arith, l))) (p at rest k (omega (arith, s))))
inner_goes Power ts f w l p at rest k s = on (via (p at rest _ (omega (arith, s))) (miss rest 21 _ (λ q. omega (arith, s, q)) here))
inner_goes Await ts f w l p at rest k s =
    on (past _ (fronted ts rest 22 (omega (arith, l))) (answers Primary ts f p at rest k (omega (arith, s))))
inner_goes Primary ts f w l p at rest k s = on (p at rest _ (omega (arith, s)))
inner_goes Atom ts f w l p at rest k s = p at rest k s
inner_goes _ ts f w l p at rest k s = absurd (omega (arith, w))

-- a NAME alone is an Expression
abbrev NamedAt : Spelled → Level → Type 0
NamedAt x l = Reads l (Ident x ∷ []) (λ at. over at 1)

up : (x : Spelled) (l : Level) → 9 ≤ rank l → first (below l) ≤ 24 → NamedAt x (below l) → NamedAt x l
up x l w h p = inner_goes l (Ident x ∷ []) (λ at. over at 1) w h p

atom_name : (x : Spelled) → NamedAt x Atom
atom_name x at rest k s = on here

name_factor : (x : Spelled) → NamedAt x Factor
name_factor x = up x Factor (omega arith) (omega arith) (up x Power (omega arith) (omega arith) (up x Await (omega arith) (omega arith)
    (up x Primary (omega arith) (omega arith) (atom_name x))))

name_bits : (x : Spelled) → NamedAt x BitOr
name_bits x = up x BitOr (omega arith) (omega arith) (up x BitXor (omega arith) (omega arith) (up x BitAnd (omega arith) (omega arith)
    (up x Shift (omega arith) (omega arith) (up x Sum (omega arith) (omega arith) (up x Term (omega arith) (omega arith)
    (name_factor x))))))

pub name_expression : (x : Spelled) → NamedAt x Expression
name_expression x = up x Expression (omega arith) (omega arith) (up x Or (omega arith) (omega arith) (up x And (omega arith) (omega arith)
    (up x Not (omega arith) (omega arith) (up x Compare (omega arith) (omega arith) (name_bits x)))))

-- A NAME that is all of an Expression, though a sign follows: so the Expression is that NAME, and the sign is what follows it.
pub free : (ts rest : List Terminal) (f : ℕ → List Stretch) (g : ℕ) → g ≤ 8 → 0 < g → Full Expression ts f → grip_of rest ≤ 8
    → (grip_of rest ≡ g → ⊥) → name_grip (ts ++ rest) ≡ g → ⊥
free ts rest f g w v p s n q = go (ts ++ rest) q (p 0 rest (λ ps m r. Done (plain_header ps) r) s)
  where
    go : (i : List Terminal) → name_grip i ≡ g
        → Comes (Ask (An Expression) 0 i (λ ps m r. Done (plain_header ps) r)) (Done (plain_header (f 0)) rest) → ⊥
    go [] q c = omega (arith, q, v)
    go (Ident x ∷ []) q c = omega (arith, q, v)
    go (Ident x ∷ (t ∷ r)) q c =
        let e = one_end c (name_expression x 0 (t ∷ r) (λ ps m r. Done (plain_header ps) r) (omega (arith, q, w))) in
        n (ap grip_of (e.1) ∙ q)
    go (_ ∷ r) q c = omega (arith, q, v)

-- ---- All levels.

not_seven : (ts us : List Terminal) → 0 < lead_of ts → (lead_of ts ≡ 7 → ⊥) → lead_of (ts ++ us) ≡ 7 → ⊥
not_seven [] us h n q = absurd (omega (arith, h))
not_seven (t ∷ ts) us h n q = n q

pub next_goes : (l : Level) (ts : List Terminal) (f : ℕ → List Stretch) → first (below l) ≤ lead_of ts → NotStar (below l) ts
    → Reads (below l) ts f → Reads l ts f
next_goes Value ts f l n p at rest k s =
    on (past _ (fronted ts rest 1 (omega (arith, l))) (p at rest k (s.0, s.1, s.3)))
next_goes Stars ts f l n p at rest k s = on (via (p at rest _ (omega (arith, s.0))) (miss rest 3 _ s.1 here))
next_goes StarItem ts f l n p at rest k s = on (past _ (fronted ts rest 7 (omega (arith, l))) (p at rest k s))
next_goes Elem ts f l n p at rest k s = on (past _ (fronted ts rest 7 (omega (arith, l))) (p at rest k s))
next_goes Named ts f l n p at rest k s = on (past _ (free ts rest f 8 (omega arith) (omega arith) p (omega (arith, s))
    (λ q. omega (arith, s, q))) (p at rest k (omega (arith, s))))
next_goes Slices ts f l n p at rest k s = on (on (past _ (not_seven ts rest (omega (arith, l)) n)
    (via (p at rest _ (omega (arith, s.0), omega (arith, s.1))) (miss rest 3 _ (λ q. omega (arith, s.0, q))
    (past _ (not_seven ts rest (omega (arith, l)) n) here)))))
next_goes Part ts f l n p at rest k s = on (past _ (not_seven ts rest (omega (arith, l)) n) (p at rest k s))
next_goes Slice ts f l n p at rest k s = on (past _ (fronted ts rest 5 (omega (arith, l)))
    (via (p at rest _ (omega (arith, s.0))) (miss rest 5 _ (λ q. omega (arith, s.0, q)) here)))
next_goes Subject ts f l n p at rest k s = on (on (past _ (fronted ts rest 7 (omega (arith, l)))
    (via (p at rest _ s.0) (past _ s.1 here))))
next_goes l ts f w n p at rest k s = inner_goes l ts f (omega arith) w p at rest k s

-- a NAME that is all of a Named, though a `=` follows
pub free_named : (ts rest : List Terminal) (f : ℕ → List Stretch) → Full Named ts f → grip_of rest ≤ 7 → (grip_of rest ≡ 1 → ⊥)
    → name_grip (ts ++ rest) ≡ 1 → ⊥
free_named ts rest f p s n q = go (ts ++ rest) q (p 0 rest (λ ps m r. Done (plain_header ps) r) s)
  where
    go : (i : List Terminal) → name_grip i ≡ 1
        → Comes (Ask (An Named) 0 i (λ ps m r. Done (plain_header ps) r)) (Done (plain_header (f 0)) rest) → ⊥
    go [] q c = omega (arith, q)
    go (Ident x ∷ []) q c = omega (arith, q)
    go (Ident x ∷ (t ∷ r)) q c =
        let named = next_goes Named (Ident x ∷ []) (λ at. over at 1) (omega arith) tt (name_expression x) in
        let e = one_end c (named 0 (t ∷ r) (λ ps m r. Done (plain_header ps) r) (omega (arith, q))) in
        n (ap grip_of (e.1) ∙ q)
    go (_ ∷ r) q c = omega (arith, q)
