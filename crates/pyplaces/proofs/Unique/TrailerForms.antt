-- What follows an Atom in a Primary.
--
-- Carries: attribute_goes, call_goes, call_generator_goes, subscript_goes, for Expressions. On: Lists, Clauses.
use Rattle.std.proofs.Common.{◌≡◌, refl, ap, ℕ, ◌+◌, ◌≤◌, arith, List, [], ◌∷◌, ◌++◌, length, append_assoc, length-append}
use Rattle.std.proofs.Common.{true, false}
use Rattle.pylex_lexeme.specs.declared.kinds.Exact.TheVariants.{LPar, RPar, LSqb, RSqb, Dot}
use Rattle.pytoken.specs.declared.keywords.Keyword.TheVariants as Key
use Rattle.pytree_node.specs.Trees.{Comprehension}
use Rattle.pytoken.specs.Terminals.{Spelled, Terminal, Op, Word, Ident}
use Rattle.pygrammar.specs.declared.levels.Level.TheVariants.{Named, Primary, Slices}
use Rattle.pygrammar.specs.Entries.{Argument}
use Rattle.pygrammar.specs.Precedence.{starts, starts_comp}
use Rattle.pygrammar.specs.Grammar as G
use Rattle.pyplaces.specs.Stretches.{Stretch, over}
use Rattle.pyplaces.specs.EntryPlaces.{EntryPlaces, positional, keywords}
use Rattle.pyplaces.specs.Inner.Looks.{lead_of}
use Rattle.pyplaces.specs.Inner.ExpressionSteps.{Goes}
use Rattle.pyplaces.specs.Inner.Questions.{An, Trailers, Clauses, Ask}
use Rattle.pyplaces.specs.Inner.Steps.{here, on}
use Rattle.pyplaces.proofs.Unique.Leading.{Comes, via, to, is_true}
use Rattle.pyplaces.proofs.Unique.Levels.{Reads}
use Rattle.pyplaces.proofs.Unique.Answered.{Answers, shaped, ClauseStops}
use Rattle.pyplaces.proofs.Unique.Lists.{ListReads, last_item_goes, argument_goes}
use Rattle.pyplaces.proofs.Unique.Clauses.{comps_front}

trail_counted : {ps : List Stretch} {n m : ℕ} (at : ℕ) (rest : List Terminal) (k : Goes) → n ≡ m
    → Comes (Ask (Trailers ps n) at rest k) (Ask (Trailers ps m) at rest k)
trail_counted {ps} at rest k e = to here (ap (λ z. Ask (Trailers ps z) at rest k) e)

bracket_shape : (ts us rest : List Terminal) (s t : Terminal) → (ts ++ (s ∷ (us ++ (t ∷ [])))) ++ rest ≡ ts ++ (s ∷ (us ++ (t ∷ rest)))
bracket_shape ts us rest s t = simp append_assoc refl

pub attribute_goes : (ts : List Terminal) (x : Spelled) (f : ℕ → List Stretch) → Reads Primary ts f
    → Reads Primary (ts ++ (Op Dot ∷ (Ident x ∷ []))) (λ at. f at ++ over at (2 + length ts))
attribute_goes ts x f p at rest k s = shaped (An Primary) at k (append_assoc ts (Op Dot ∷ (Ident x ∷ [])) rest)
    (via (p at (Op Dot ∷ (Ident x ∷ rest)) k (omega arith))
    (on (trail_counted at rest k (omega (arith, length-append ts (Op Dot ∷ (Ident x ∷ [])))))))

pub subscript_goes : (ts us : List Terminal) {f g : ℕ → List Stretch} → Reads Primary ts f → Reads Slices us g
    → Reads Primary (ts ++ (Op LSqb ∷ (us ++ (Op RSqb ∷ []))))
    (λ at. f at ++ (g (1 + (at + length ts)) ++ over at (2 + (length ts + length us))))
subscript_goes ts us p q at rest k s = shaped (An Primary) at k (bracket_shape ts us rest (Op LSqb) (Op RSqb))
    (via (p at (Op LSqb ∷ (us ++ (Op RSqb ∷ rest))) k (omega arith))
    (on (via (q (1 + (at + length ts)) (Op RSqb ∷ rest) _ (omega arith, omega arith))
    (trail_counted at rest k (omega (
      arith,
      length-append ts (Op LSqb ∷ (us ++ (Op RSqb ∷ []))),
      length-append us (Op RSqb ∷ []),
    ))))))

pub call_goes : (ts us : List Terminal) {f : ℕ → List Stretch} {g : ℕ → List EntryPlaces} → Reads Primary ts f → ListReads Argument us g
    → Reads Primary (ts ++ (Op LPar ∷ (us ++ (Op RPar ∷ [])))) (λ at. f at ++ (positional (g (1 + (at + length ts))) ++
    (keywords (g (1 + (at + length ts))) ++ over at (2 + (length ts + length us)))))
call_goes ts us p q at rest k s = shaped (An Primary) at k (bracket_shape ts us rest (Op LPar) (Op RPar))
    (via (p at (Op LPar ∷ (us ++ (Op RPar ∷ rest))) k (omega arith))
    (on (via (q (λ r. (omega arith, λ q. absurd (omega (arith, q)))) (1 + (at + length ts)) (Op RPar ∷ rest) _ (
      refl,
      λ q. absurd (omega (arith, q)),
      (omega arith, λ q. absurd (omega (arith, q))),
    )) (trail_counted at rest k (omega (
      arith,
      length-append ts (Op LPar ∷ (us ++ (Op RPar ∷ []))),
      length-append us (Op RPar ∷ []),
    ))))))

no_start : (i : List Terminal) → starts_comp i ≡ true → starts Argument i ≡ false
no_start [] e = refl
no_start (Word Key.For ∷ r) e = refl
no_start (Word Key.Async ∷ r) e = refl
no_start (Word _ ∷ r) e = absurd (cc)
no_start (_ ∷ r) e = absurd (cc)

pub call_generator_goes : (ts us vs : List Terminal) {gs : List Comprehension} (f g h : ℕ → List Stretch) → 9 ≤ lead_of us
    → ((r : List Terminal) → starts Argument (us ++ r) ≡ true) → Reads Primary ts f → Reads Named us g → G.Comps vs gs
    → Answers Clauses vs h ClauseStops
    → Reads Primary (ts ++ (Op LPar ∷ (us ++ (vs ++ (Op RPar ∷ [])))))
    (λ at. f at ++ (g (1 + (at + length ts)) ++ (h (1 + (at + (length ts + length us))) ++
    (over (at + length ts) (2 + (length us + length vs)) ++ over at (2 + (length ts + (length us + length vs)))))))
call_generator_goes ts us vs f g h l st p q w c at rest k s = shaped (An Primary) at k (shape rest)
    (let e = comps_front w (Op RPar ∷ rest) in
    via (p at (Op LPar ∷ (us ++ (vs ++ (Op RPar ∷ rest)))) k (omega arith))
    (on (via (last_item_goes Argument us st (argument_goes us g l q) (λ r. (omega arith, λ q. absurd (omega (arith, q))))
    (1 + (at + length ts)) (vs ++ (Op RPar ∷ rest)) _ (
      no_start (vs ++ (Op RPar ∷ rest)) (e.1),
      λ q. omega (arith, q, e.0),
      (omega (arith, e.0), λ q. omega (arith, q, e.0)),
    )) (is_true _ (e.1) (via (c (1 + (at + (length ts + length us))) (Op RPar ∷ rest) _ (omega arith, refl))
    (trail_counted at rest k (omega (
      arith,
      length-append ts (Op LPar ∷ (us ++ (vs ++ (Op RPar ∷ [])))),
      length-append us (vs ++ (Op RPar ∷ [])),
      length-append vs (Op RPar ∷ []),
    ))))))))
  where
    shape : (rest : List Terminal) → (ts ++ (Op LPar ∷ (us ++ (vs ++ (Op RPar ∷ []))))) ++ rest ≡ ts ++
        (Op LPar ∷ (us ++ (vs ++ (Op RPar ∷ rest))))
    shape rest = simp append_assoc refl
