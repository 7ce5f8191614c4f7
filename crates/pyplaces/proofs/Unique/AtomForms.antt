-- Atoms, and what follows them in a Primary.
--
-- Carries: name_goes .. call_generator_goes, for Expressions. On: Levels, Lists, Clauses.
use Rattle.std.proofs.Common.{◌≡◌, refl, ap, ℕ, ◌+◌, ◌≤◌, arith, List, [], ◌∷◌, ◌++◌, length, append_assoc, length-append}
use Rattle.std.proofs.Common.{Some, true, false, cond}
use Rattle.pylex_lexeme.specs.declared.kinds.Exact.{Exact}
use Rattle.pylex_lexeme.specs.declared.kinds.Exact.TheVariants.{LPar, RPar, LSqb, RSqb, LBrace, Comma}
use Rattle.pytoken.specs.declared.keywords.Keyword.TheVariants as Key
use Rattle.pytree_node.specs.Trees.{Comprehension}
use Rattle.pytree_node.specs.Values
use Rattle.pytoken.specs.Terminals.{Spelled, Terminal, Op, Word, Ident, Number}
use Rattle.pygrammar.specs.declared.levels.Level.TheVariants.{Value, Named, Atom, Elem}
use Rattle.pygrammar.specs.Constants.{constant_word}
use Rattle.pygrammar.specs.Entries.{Of}
use Rattle.pygrammar.specs.Precedence.{starts, starts_comp}
use Rattle.pygrammar.specs.Grammar as G
use Rattle.pygrammar.proofs.Callers.Steps.{close_shape, close_two, close_after}
use Rattle.pyplaces.specs.Stretches.{Stretch, over}
use Rattle.pyplaces.specs.EntryPlaces as E
use Rattle.pyplaces.specs.EntryPlaces.{EntryPlaces, singles}
use Rattle.pyplaces.specs.Inner.Looks.{lead_of, after, on_grip}
use Rattle.pyplaces.specs.Inner.ExpressionSteps.{Goes}
use Rattle.pyplaces.specs.Inner.AtomSteps.{square}
use Rattle.pyplaces.specs.Inner.Questions.{An, Yielded, Items, Clauses, Reading, Ask}
use Rattle.pyplaces.specs.Inner.Steps.{here, on}
use Rattle.pyplaces.proofs.Unique.Leading.{Comes, via, miss, is_true}
use Rattle.pyplaces.proofs.Unique.LookLemmas.{starts_of}
use Rattle.pyplaces.proofs.Unique.Levels.{Stops, value_stops, Reads, next_goes}
use Rattle.pyplaces.proofs.Unique.Answered.{Answers, counted, shaped, ClauseStops}
use Rattle.pyplaces.proofs.Unique.Lists.{ListReads, last_item_goes, single_goes}
use Rattle.pyplaces.proofs.Unique.Clauses.{comps_front}

-- ---- One terminal.

pub name_goes : (x : Spelled) → Reads Atom (Ident x ∷ []) (λ at. over at 1)
name_goes x at rest k s = on here

pub number_goes : (v : Values.Value) → Reads Atom (Number v ∷ []) (λ at. over at 1)
number_goes v at rest k s = on here

pub constant_goes : (t : Terminal) (v : Values.Value) → constant_word t ≡ Some v → Reads Atom (t ∷ []) (λ at. over at 1)
constant_goes (Op LPar) v h at rest k s = absurd (cc)
constant_goes (Op LSqb) v h at rest k s = absurd (cc)
constant_goes (Op LBrace) v h at rest k s = absurd (cc)
constant_goes (Op _) v h at rest k s = on here
constant_goes (Word _) v h at rest k s = on here
constant_goes _ v h at rest k s = absurd (cc)

-- ---- Round brackets.

-- an item begins neither as the end of the brackets nor as `yield`
abbrev rounded : ℕ → List Terminal → Goes → Reading
rounded at r k = Ask (An Elem) (1 + at) r (λ ps n r1. on_grip 3 r1
    (Ask (Items (Of Elem)) (2 + (at + n)) (after r1)
    (λ es m r2. k (ps ++ (singles es ++ over at (3 + (n + m)))) (3 + (n + m)) (after r2)))
    (cond (starts_comp r1) (Ask Clauses (1 + (at + n)) r1
    (λ gs m r2. k (ps ++ (gs ++ over at (2 + (n + m)))) (2 + (n + m)) (after r2))) (k ps (2 + n) (after r1))))

round_item : (ts i : List Terminal) (at : ℕ) (k : Goes) {c : Reading} → 7 ≤ lead_of ts → Comes (rounded at (ts ++ i) k) c
    → Comes (Ask (An Atom) at (Op LPar ∷ (ts ++ i)) k) c
round_item [] i at k l p = absurd (omega (arith, l))
round_item (Op RPar ∷ ts) i at k l p = absurd (omega (arith, l))
round_item (Word Key.Yield ∷ ts) i at k l p = absurd (omega (arith, l))
round_item (Op _ ∷ ts) i at k l p = on p
round_item (Word _ ∷ ts) i at k l p = on p
round_item (_ ∷ ts) i at k l p = on p

pub group_goes : (ts : List Terminal) (f : ℕ → List Stretch) → 9 ≤ lead_of ts → Reads Named ts f
    → Reads Atom (Op LPar ∷ (ts ++ (Op RPar ∷ []))) (λ at. f (1 + at))
group_goes ts f l p at rest k s = shaped (An Atom) at k (close_shape ts rest (Op LPar) (Op RPar))
    (round_item ts (Op RPar ∷ rest) at k (omega (arith, l)) (via (next_goes Elem ts f l tt p (1 + at) (Op RPar ∷ rest) _ (omega arith))
    (counted k rest (omega (arith, length-append ts (Op RPar ∷ []))))))

pub yield_group_goes : (ts : List Terminal) {f : ℕ → List Stretch} → Answers Yielded ts f (Stops Value)
    → Reads Atom (Op LPar ∷ (Word Key.Yield ∷ (ts ++ (Op RPar ∷ [])))) (λ at. f (2 + at) ++ over (1 + at) (1 + length ts))
yield_group_goes ts p at rest k s =
    shaped (An Atom) at k (ap (λ z. Op LPar ∷ (Word Key.Yield ∷ z)) (append_assoc ts (Op RPar ∷ []) rest))
    (on (via (p (2 + at) (Op RPar ∷ rest) _ (value_stops (Op RPar ∷ rest) (omega arith) (omega arith)))
    (counted k rest (omega (arith, length-append ts (Op RPar ∷ []))))))

pub empty_tuple_goes : Reads Atom (Op LPar ∷ (Op RPar ∷ [])) (λ at. over at 2)
empty_tuple_goes at rest k s = on here

pub tuple_goes : (ts us : List Terminal) {f : ℕ → List Stretch} {g : ℕ → List EntryPlaces} → 7 ≤ lead_of ts → Reads Elem ts f
    → ListReads (Of Elem) us g → Reads Atom (Op LPar ∷ (ts ++ (Op Comma ∷ (us ++ (Op RPar ∷ [])))))
    (λ at. f (1 + at) ++ (singles (g (2 + (at + length ts))) ++ over at (3 + (length ts + length us))))
tuple_goes ts us l p q at rest k s = shaped (An Atom) at k (close_after ts us rest (Op LPar) (Op Comma) (Op RPar))
    (round_item ts (Op Comma ∷ (us ++ (Op RPar ∷ rest))) at k l
    (via (p (1 + at) (Op Comma ∷ (us ++ (Op RPar ∷ rest))) _ (omega arith))
    (via (q (λ r. omega arith) (2 + (at + length ts)) (Op RPar ∷ rest) _ (refl, λ q. absurd (omega (arith, q)), omega arith))
    (counted k rest (omega (
      arith,
      length-append ts (Op Comma ∷ (us ++ (Op RPar ∷ []))),
      length-append us (Op RPar ∷ []),
    ))))))

pub generator_goes : (ts us : List Terminal) {gs : List Comprehension} (f g : ℕ → List Stretch) → 9 ≤ lead_of ts → Reads Named ts f
    → G.Comps us gs → Answers Clauses us g ClauseStops
    → Reads Atom (Op LPar ∷ (ts ++ (us ++ (Op RPar ∷ []))))
    (λ at. f (1 + at) ++ (g (1 + (at + length ts)) ++ over at (2 + (length ts + length us))))
generator_goes ts us f g l p w q at rest k s = shaped (An Atom) at k (close_two ts us rest (Op LPar) (Op RPar))
    (let c = comps_front w (Op RPar ∷ rest) in
    round_item ts (us ++ (Op RPar ∷ rest)) at k (omega (arith, l))
    (via (next_goes Elem ts f l tt p (1 + at) (us ++ (Op RPar ∷ rest)) _ (omega (arith, c.0)))
    (miss (us ++ (Op RPar ∷ rest)) 3 _ (λ q. omega (arith, q, c.0)) (is_true _ (c.1)
    (via (q (1 + (at + length ts)) (Op RPar ∷ rest) _ (omega arith, refl))
    (counted k rest (omega (arith, length-append ts (us ++ (Op RPar ∷ [])), length-append us (Op RPar ∷ [])))))))))

-- ---- Square brackets.

pub list_goes : (ts : List Terminal) {g : ℕ → List EntryPlaces} → ListReads (Of Elem) ts g
    → Reads Atom (Op LSqb ∷ (ts ++ (Op RSqb ∷ []))) (λ at. singles (g (1 + at)) ++ over at (2 + length ts))
list_goes ts q at rest k s = shaped (An Atom) at k (close_shape ts rest (Op LSqb) (Op RSqb))
    (on (via (q (λ r. omega arith) (1 + at) (Op RSqb ∷ rest) _ (refl, λ q. absurd (omega (arith, q)), omega arith))
    (counted k rest (omega (arith, length-append ts (Op RSqb ∷ []))))))

-- one item before a comprehension
pub one_item : (ts us : List Terminal) {gs : List Comprehension} (f : ℕ → List Stretch) → 9 ≤ lead_of ts → Reads Named ts f → G.Comps us gs
    → (at : ℕ) (r : List Terminal) (k : List EntryPlaces → ℕ → List Terminal → Reading)
    → Comes (Ask (Items (Of Elem)) at (ts ++ (us ++ r)) k) (k (E.Single (f at) ∷ []) (length ts) (us ++ r))
one_item ts us f l p w at r k =
    let c = comps_front w r in
    last_item_goes (Of Elem) ts (λ us. starts_of Elem ts us (omega arith) (omega (arith, l)))
    (single_goes Elem ts f (next_goes Elem ts f l tt p)) (λ r. omega arith) at (us ++ r) k
    (no_start (us ++ r) (c.1), λ q. omega (arith, q, c.0), omega (arith, c.0))
  where
    no_start : (i : List Terminal) → starts_comp i ≡ true → starts (Of Elem) i ≡ false
    no_start [] e = refl
    no_start (Word Key.For ∷ r) e = refl
    no_start (Word Key.Async ∷ r) e = refl
    no_start (Word _ ∷ r) e = absurd (cc)
    no_start (_ ∷ r) e = absurd (cc)

pub bracketed_comp : (ts us : List Terminal) (s : Exact) {gs : List Comprehension} (f g : ℕ → List Stretch) → 9 ≤ lead_of ts
    → Reads Named ts f → G.Comps us gs → Answers Clauses us g ClauseStops → ((r : List Terminal) → ClauseStops (Op s ∷ r))
    → (at : ℕ) (rest : List Terminal) (k : Goes) → Comes (square at (ts ++ (us ++ (Op s ∷ rest))) k)
    (k (f (1 + at) ++ (g (1 + (at + length ts)) ++ over at (2 + (length ts + length us)))) (2 + (length ts + length us)) rest)
bracketed_comp ts us s f g l p w q e at rest k =
    let c = comps_front w (Op s ∷ rest) in
    via (one_item ts us f l p w (1 + at) (Op s ∷ rest) _) (is_true _ (c.1)
    (via (q (1 + (at + length ts)) (Op s ∷ rest) _ (e rest)) here))

pub list_comp_goes : (ts us : List Terminal) {gs : List Comprehension} (f g : ℕ → List Stretch) → 9 ≤ lead_of ts → Reads Named ts f
    → G.Comps us gs → Answers Clauses us g ClauseStops
    → Reads Atom (Op LSqb ∷ (ts ++ (us ++ (Op RSqb ∷ []))))
    (λ at. f (1 + at) ++ (g (1 + (at + length ts)) ++ over at (2 + (length ts + length us))))
list_comp_goes ts us f g l p w q at rest k s = shaped (An Atom) at k (close_two ts us rest (Op LSqb) (Op RSqb))
    (on (via (bracketed_comp ts us RSqb f g l p w q (λ r. (omega arith, refl)) at rest k)
    (counted k rest (omega (arith, length-append ts (us ++ (Op RSqb ∷ [])), length-append us (Op RSqb ∷ []))))))
