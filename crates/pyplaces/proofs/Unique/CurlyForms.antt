-- Dicts and sets.
--
-- Carries: curls_pair .. dict_comp_goes, for Expressions. On: AtomForms.
use Rattle.std.proofs.Common.{◌≡◌, refl, ap, subst, ◌∙◌, ℕ, ◌+◌, ◌≤◌, arith, List, [], ◌∷◌, ◌++◌, length, append_assoc}
use Rattle.std.proofs.Common.{length-append}
use Rattle.std.proofs.Common.{true, false}
use Rattle.pylex_lexeme.specs.declared.kinds.Exact.TheVariants.{LBrace, RBrace, Colon, Comma, DoubleStar}
use Rattle.pytoken.specs.declared.keywords.Keyword.TheVariants as Key
use Rattle.pytree_node.specs.Trees.{Comprehension}
use Rattle.pytoken.specs.Terminals.{Terminal, Op, Word}
use Rattle.pygrammar.specs.declared.levels.Level.TheVariants.{Named, Expression, Atom, Elem}
use Rattle.pygrammar.specs.Entries.{Of, Pair}
use Rattle.pygrammar.specs.Precedence.{starts, starts_comp}
use Rattle.pygrammar.specs.Grammar as G
use Rattle.pygrammar.proofs.Callers.Steps.{close_shape, close_two}
use Rattle.pyplaces.specs.Stretches.{Stretch, over}
use Rattle.pyplaces.specs.EntryPlaces.{EntryPlaces, singles, keys, values}
use Rattle.pyplaces.specs.Inner.Looks.{grip_of, lead_of, on_grip}
use Rattle.pyplaces.specs.Inner.ExpressionSteps.{Goes}
use Rattle.pyplaces.specs.Inner.AtomSteps.{square, paired}
use Rattle.pyplaces.specs.Inner.Questions.{An, Clauses, Reading, Ask}
use Rattle.pyplaces.specs.Inner.Steps.{here, on}
use Rattle.pyplaces.proofs.Unique.Leading.{Comes, via, from, to, miss, is_true}
use Rattle.pyplaces.proofs.Unique.Levels.{Reads, next_goes}
use Rattle.pyplaces.proofs.Unique.Answered.{Answers, counted, shaped, ClauseStops}
use Rattle.pyplaces.proofs.Unique.Lists.{ListReads, last_item_goes, pair_goes}
use Rattle.pyplaces.proofs.Unique.Clauses.{comps_front}
use Rattle.pyplaces.proofs.Unique.AtomForms.{bracketed_comp}

-- an item begins neither as the end of the brackets nor as `**`
abbrev peeked : ℕ → List Terminal → Goes → Reading
peeked at r k = Ask (An Elem) (1 + at) r (λ ps n r1. on_grip 5 r1 (paired at r k) (square at r k))

curly_item : (ts i : List Terminal) (at : ℕ) (k : Goes) {c : Reading} → 7 ≤ lead_of ts → Comes (peeked at (ts ++ i) k) c
    → Comes (Ask (An Atom) at (Op LBrace ∷ (ts ++ i)) k) c
curly_item [] i at k l p = absurd (omega (arith, l))
curly_item (Op RBrace ∷ ts) i at k l p = absurd (omega (arith, l))
curly_item (Op DoubleStar ∷ ts) i at k l p = absurd (omega (arith, l))
curly_item (Op _ ∷ ts) i at k l p = on p
curly_item (_ ∷ ts) i at k l p = on p

-- some terminals in curly brackets begin as a Dict does
abbrev pub Curls : List Terminal → Type 0
Curls ts = (at : ℕ) (r : List Terminal) (k : Goes) (c : Reading) → Comes (paired at (ts ++ r) k) c
    → Comes (Ask (An Atom) at (Op LBrace ∷ (ts ++ r)) k) c

pub curls_pair : (ts us : List Terminal) (f : ℕ → List Stretch) → 9 ≤ lead_of ts → Reads Expression ts f → Curls (ts ++ (Op Colon ∷ us))
curls_pair ts us f l p at r k c q = from (ap (λ z. Ask (An Atom) at (Op LBrace ∷ z) k) (append_assoc ts (Op Colon ∷ us) r))
    (curly_item ts (Op Colon ∷ (us ++ r)) at k (omega (arith, l))
    (via (next_goes Elem ts f l tt (next_goes Named ts f l tt p) (1 + at) (Op Colon ∷ (us ++ r)) _ (omega arith))
    (subst (λ z. Comes (paired at z k) c) (append_assoc ts (Op Colon ∷ us) r) q)))

pub curls_doubled : (ts : List Terminal) → Curls (Op DoubleStar ∷ ts)
curls_doubled ts at r k c q = on q

pub curls_more : (ts us : List Terminal) → Curls ts → Curls (ts ++ us)
curls_more ts us p at r k c q = from (ap (λ z. Ask (An Atom) at (Op LBrace ∷ z) k) (append_assoc ts us r))
    (p at (us ++ r) k c (subst (λ z. Comes (paired at z k) c) (append_assoc ts us r) q))

pub empty_dict_goes : Reads Atom (Op LBrace ∷ (Op RBrace ∷ [])) (λ at. over at 2)
empty_dict_goes at rest k s = on here

pub dict_goes : (ts : List Terminal) {g : ℕ → List EntryPlaces} → Curls ts → ListReads Pair ts g
    → Reads Atom (Op LBrace ∷ (ts ++ (Op RBrace ∷ []))) (λ at. keys (g (1 + at)) ++ (values (g (1 + at)) ++ over at (2 + length ts)))
dict_goes ts c q at rest k s = shaped (An Atom) at k (close_shape ts rest (Op LBrace) (Op RBrace))
    (c at (Op RBrace ∷ rest) k _
    (via (q (λ r. omega arith) (1 + at) (Op RBrace ∷ rest) _ (refl, λ q. absurd (omega (arith, q)), omega arith))
    (counted k rest (omega (arith, length-append ts (Op RBrace ∷ []))))))

no_start : (i : List Terminal) → starts_comp i ≡ true → starts Pair i ≡ false
no_start [] e = refl
no_start (Word Key.For ∷ r) e = refl
no_start (Word Key.Async ∷ r) e = refl
no_start (Word _ ∷ r) e = absurd (cc)
no_start (_ ∷ r) e = absurd (cc)

pub dict_comp_goes : (ts us vs : List Terminal) {gs : List Comprehension} (f g h : ℕ → List Stretch) → 9 ≤ lead_of ts
    → ((r : List Terminal) → starts Pair ((ts ++ (Op Colon ∷ us)) ++ r) ≡ true)
    → Reads Expression ts f → Reads Expression us g → G.Comps vs gs → Answers Clauses vs h ClauseStops
    → Reads Atom (Op LBrace ∷ (ts ++ (Op Colon ∷ (us ++ (vs ++ (Op RBrace ∷ [])))))) (λ at. f (1 + at) ++ (g (2 + (at + length ts)) ++
    (h (2 + (at + (length ts + length us))) ++ over at (3 + (length ts + (length us + length vs))))))
dict_comp_goes ts us vs f g h l st p q w c at rest k s = shaped (An Atom) at k (shape rest)
    (let e = comps_front w (Op RBrace ∷ rest) in
    curls_pair ts us f l p at (vs ++ (Op RBrace ∷ rest)) k _
    (via (last_item_goes Pair (ts ++ (Op Colon ∷ us)) st (pair_goes ts us l p q) (λ r. omega arith) (1 + at) (vs ++ (Op RBrace ∷ rest)) _
    (no_start (vs ++ (Op RBrace ∷ rest)) (e.1), λ q. omega (arith, q, e.0), omega (arith, e.0)))
    (is_true _ (e.1) (via (c (1 + (at + length (ts ++ (Op Colon ∷ us)))) (Op RBrace ∷ rest) _ (omega arith, refl))
    (to here (ap (λ z. k z (2 + (length (ts ++ (Op Colon ∷ us)) + length vs)) rest)
    (same (1 + ((1 + at) + length ts)) (1 + (at + length (ts ++ (Op Colon ∷ us)))) (2 + (length (ts ++ (Op Colon ∷ us)) + length vs))
    (2 + (at + length ts)) (2 + (at + (length ts + length us))) (3 + (length ts + (length us + length vs))) (omega arith)
    (omega (arith, length-append ts (Op Colon ∷ us))) (omega (arith, length-append ts (Op Colon ∷ us))))
    ∙ ap (λ z. k (f (1 + at) ++ (g (2 + (at + length ts)) ++ (h (2 + (at + (length ts + length us)))
    ++ over at (3 + (length ts + (length us + length vs)))))) z rest) (omega (
      arith,
      length-append ts (Op Colon ∷ us),
      length-append ts (Op Colon ∷ (us ++ (vs ++ (Op RBrace ∷ [])))),
      length-append us (vs ++ (Op RBrace ∷ [])),
      length-append vs (Op RBrace ∷ []),
    ))))))))
  where
    shape : (rest : List Terminal) → (Op LBrace ∷ (ts ++ (Op Colon ∷ (us ++ (vs ++ (Op RBrace ∷ [])))))) ++ rest ≡
        Op LBrace ∷ ((ts ++ (Op Colon ∷ us)) ++ (vs ++ (Op RBrace ∷ rest)))
    shape rest = simp append_assoc refl

    same : (x1 x2 x3 y1 y2 y3 : ℕ) → x1 ≡ y1 → x2 ≡ y2 → x3 ≡ y3
        → (f (1 + at) ++ g x1) ++ (h x2 ++ over at x3) ≡ f (1 + at) ++ (g y1 ++ (h y2 ++ over at y3))
    same x1 x2 x3 y1 y2 y3 e1 e2 e3 = append_assoc (f (1 + at)) (g x1) (h x2 ++ over at x3)
        ∙ (ap (λ z. f (1 + at) ++ (g z ++ (h x2 ++ over at x3))) e1
        ∙ (ap (λ z. f (1 + at) ++ (g y1 ++ (h z ++ over at x3))) e2 ∙ ap (λ z. f (1 + at) ++ (g y1 ++ (h y2 ++ over at z))) e3))

-- ---- Sets.

-- and as a Set does, where no colon follows
abbrev pub CurlsSet : List Terminal → Type 0
CurlsSet ts = (at : ℕ) (r : List Terminal) (k : Goes) (c : Reading) → grip_of r ≤ 4 → Comes (square at (ts ++ r) k) c
    → Comes (Ask (An Atom) at (Op LBrace ∷ (ts ++ r)) k) c

pub curls_set : (ts : List Terminal) (f : ℕ → List Stretch) → 7 ≤ lead_of ts → Reads Elem ts f → CurlsSet ts
curls_set ts f l p at r k c g q = curly_item ts r at k l (via (p (1 + at) r _ (omega (arith, g)))
    (miss r 5 _ (λ q. omega (arith, q, g)) q))

pub curls_set_more : (ts us : List Terminal) → CurlsSet ts → CurlsSet (ts ++ (Op Comma ∷ us))
curls_set_more ts us p at r k c g q = from (ap (λ z. Ask (An Atom) at (Op LBrace ∷ z) k) (append_assoc ts (Op Comma ∷ us) r))
    (p at (Op Comma ∷ (us ++ r)) k c (omega arith) (subst (λ z. Comes (square at z k) c) (append_assoc ts (Op Comma ∷ us) r) q))

pub set_goes : (ts : List Terminal) {g : ℕ → List EntryPlaces} → CurlsSet ts → ListReads (Of Elem) ts g
    → Reads Atom (Op LBrace ∷ (ts ++ (Op RBrace ∷ []))) (λ at. singles (g (1 + at)) ++ over at (2 + length ts))
set_goes ts c q at rest k s = shaped (An Atom) at k (close_shape ts rest (Op LBrace) (Op RBrace))
    (c at (Op RBrace ∷ rest) k _ (omega arith)
    (via (q (λ r. omega arith) (1 + at) (Op RBrace ∷ rest) _ (refl, λ q. absurd (omega (arith, q)), omega arith))
    (counted k rest (omega (arith, length-append ts (Op RBrace ∷ []))))))

pub set_comp_goes : (ts us : List Terminal) {gs : List Comprehension} (f g : ℕ → List Stretch) → 9 ≤ lead_of ts → Reads Named ts f
    → G.Comps us gs → Answers Clauses us g ClauseStops
    → Reads Atom (Op LBrace ∷ (ts ++ (us ++ (Op RBrace ∷ []))))
    (λ at. f (1 + at) ++ (g (1 + (at + length ts)) ++ over at (2 + (length ts + length us))))
set_comp_goes ts us f g l p w q at rest k s = shaped (An Atom) at k (close_two ts us rest (Op LBrace) (Op RBrace))
    (curls_set ts f (omega (arith, l)) (next_goes Elem ts f l tt p) at (us ++ (Op RBrace ∷ rest)) k _
    (omega (arith, (comps_front w (Op RBrace ∷ rest)).0))
    (via (bracketed_comp ts us RBrace f g l p w q (λ r. (omega arith, refl)) at rest k)
    (counted k rest (omega (arith, length-append ts (us ++ (Op RBrace ∷ [])), length-append us (Op RBrace ∷ []))))))
