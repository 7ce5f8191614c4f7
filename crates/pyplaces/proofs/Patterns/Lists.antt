-- Lists of patterns.
--
-- Carries: read_entries, read_entry, key_entry, rest_entry, argument_entry, elements, others, alternatives. On: Fronts, Loops.
use Rattle.std.proofs.Common.{◌≡◌, refl, sym, ap, subst, ◌∙◌, ℕ, ◌+◌, arith, List, [], ◌∷◌, ◌++◌, false}
use Rattle.std.proofs.lemmas.List.{append-nil}
use Rattle.pylex_lexeme.specs.declared.kinds.Exact.TheVariants.{Colon, Comma, Equal, DoubleStar, VBar}
use Rattle.pygrammar.specs.declared.pattern_levels.PatternLevel.TheVariants.{StarPattern, AsPattern, ClosedPattern}
use Rattle.pytree_node.specs.Trees.{Expr, Pattern}
use Rattle.pytoken.specs.Terminals.{Terminal, Spelled, Op, Ident}
use Rattle.pygrammar.specs.PatternOperators.{is_wildcard}
use Rattle.pygrammar.specs.PatternEntries.{PatternItem, Element, KeyPattern, ClassArgument, PatternEntry, Alone, Keyed, Rest, Named}
use Rattle.pygrammar.specs.PatternGrammar as P
use Rattle.pyplaces.specs.Stretches.{Stretch}
use Rattle.pyplaces.specs.PatternPlaces as E
use Rattle.pyplaces.specs.PlacedPatterns.{PlacedKey, PlacedPattern, PlacedAlternatives, PlacedEntries, PlacedEntry}
use Rattle.pyplaces.specs.Rests.{Lacks, Bars, no_bar, bars}
use Rattle.pyplaces.proofs.Fronts.{nothing, sign, signs, both, front_of, from, built, ◌⊕◌, entry, cons, tails}
use Rattle.pyplaces.proofs.Loops.{Grows, grows_turn, grows_end}

-- ---- One entry.
pub placed_element : {i r : List Terminal} {at following : ℕ} {ps : List Stretch} {a : Pattern} → PlacedPattern StarPattern i at a r following ps
    → PlacedEntry Element i at (Alone a) r following (E.Alone ps)
placed_element p = built (front_of p) (P.element p.derived) (ap E.Alone p.places_are)

pub placed_key_pattern : {i r s u : List Terminal} {at m following : ℕ} {f : Expr} {ps qs : List Stretch} {a : Pattern}
    → PlacedKey i at f r m ps → r ≡ Op Colon ∷ s → PlacedPattern AsPattern s (m + 1) a u following qs
    → PlacedEntry KeyPattern i at (Keyed f a) u following (E.Keyed ps qs)
placed_key_pattern p h q = built (both (front_of p) (sign h (front_of q))) (P.key_pattern p.derived q.derived)
    (entry E.Keyed p.places_are (from q (omega (arith, p.ends))))

pub placed_rest : {x : Spelled} {i r s : List Terminal} {at : ℕ} → is_wildcard x.form ≡ false → i ≡ Op DoubleStar ∷ r → r ≡ Ident x ∷ s
    → PlacedEntry KeyPattern i at (Rest x.form) s (at + 1 + 1) E.Rest
placed_rest q h k = built (sign h (sign k nothing)) (P.rest q) refl

pub placed_class_argument : {i r : List Terminal} {at following : ℕ} {ps : List Stretch} {a : Pattern}
    → PlacedPattern AsPattern i at a r following ps → PlacedEntry ClassArgument i at (Alone a) r following (E.Alone ps)
placed_class_argument p = built (front_of p) (P.argument p.derived) (ap E.Alone p.places_are)

pub placed_named_argument : {x : Spelled} {i r s : List Terminal} {at following : ℕ} {ps : List Stretch} {a : Pattern}
    → i ≡ Ident x ∷ (Op Equal ∷ r) → PlacedPattern AsPattern r (at + 2) a s following ps
    → PlacedEntry ClassArgument i at (Named x.form a) s following (E.Named ps)
placed_named_argument h p = built (signs h (front_of p)) (P.named_argument p.derived) (ap E.Named (from p (omega arith)))

-- ---- Lists of them: a turn of the loop begins after a comma.
pub placed_no_entry : {r : List Terminal} {at : ℕ} {j : PatternItem} → PlacedEntries j r at [] r at []
placed_no_entry = built nothing P.no_entry refl

pub placed_last_entry : {i r : List Terminal} {at following : ℕ} {j : PatternItem} {e : PatternEntry} {p : E.EntryPlaces}
    → PlacedEntry j i at e r following p → PlacedEntries j i at (e ∷ []) r following (p ∷ [])
placed_last_entry d = built (front_of d) (P.last_entry d.derived) (ap (λ z. z ∷ []) d.places_are)

pub placed_entry : {i r s u : List Terminal} {at m following : ℕ} {j : PatternItem} {e : PatternEntry} {es : List PatternEntry}
    {ps : List E.EntryPlaces} {p : E.EntryPlaces}
    → PlacedEntry j i at e r m p → r ≡ Op Comma ∷ s → PlacedEntries j s (m + 1) es u following ps
    → PlacedEntries j i at (e ∷ es) u following (p ∷ ps)
placed_entry d h c = built (both (front_of d) (sign h (front_of c))) (P.entry d.derived c.derived)
    (cons d.places_are (from c (omega (arith, d.ends))))

pub entries_turn : {i r s u : List Terminal} {at m n : ℕ} {j : PatternItem} {e : PatternEntry} {es : List PatternEntry}
    {ps : List E.EntryPlaces} {p : E.EntryPlaces}
    → Grows (PlacedEntries j) i at es r m ps → PlacedEntry j r m e s n p → s ≡ Op Comma ∷ u
    → Grows (PlacedEntries j) i at (es ++ (e ∷ [])) u (n + 1) (ps ++ (p ∷ []))
entries_turn {e = e} {p = p} g d h = grows_turn (e ∷ []) (p ∷ []) g (λ fs s next qs c. placed_entry d h c)

pub entries_end : {i r : List Terminal} {at m : ℕ} {j : PatternItem} {es : List PatternEntry} {ps : List E.EntryPlaces}
    → Grows (PlacedEntries j) i at es r m ps → PlacedEntries j i at es r m ps
entries_end g = grows_end g placed_no_entry

pub entries_last : {i r s : List Terminal} {at m n : ℕ} {j : PatternItem} {e : PatternEntry} {es : List PatternEntry}
    {ps : List E.EntryPlaces} {p : E.EntryPlaces}
    → Grows (PlacedEntries j) i at es r m ps → PlacedEntry j r m e s n p → PlacedEntries j i at (es ++ (e ∷ [])) s n (ps ++ (p ∷ []))
entries_last {e = e} g d = g.so (e ∷ []) _ _ _ (placed_last_entry d)

pub placed_alternative : {i r s u : List Terminal} {at m following : ℕ} {ps qs : List Stretch} {a : Pattern} {xs : List Pattern}
    → PlacedPattern ClosedPattern i at a r m ps → r ≡ Op VBar ∷ s → PlacedAlternatives s (m + 1) xs u following qs
    → PlacedAlternatives i at (a ∷ xs) u following (ps ++ qs)
placed_alternative p h c = built (both (front_of p) (sign h (front_of c))) (P.alternative p.derived c.derived)
    (p.places_are ⊕ from c (omega (arith, p.ends)))

pub bars_more : {r s u v : List Terminal} {m n k : ℕ} {ps qs : List Stretch} {a : Pattern} {xs : List Pattern} → r ≡ Op VBar ∷ s
    → PlacedPattern ClosedPattern s (m + 1) a u n ps → Bars u n xs v k qs → Bars r m (a ∷ xs) v k (ps ++ qs)
bars_more {ps = ps} h p (no_bar f) = bars h (built (front_of p) (P.last_alternative p.derived) (p.places_are ∙ sym (append-nil ps)))
bars_more h p (bars k c) = bars h (placed_alternative p k c)

pub bars_turn : {i r s u : List Terminal} {at m n : ℕ} {ps qs : List Stretch} {a : Pattern} {xs : List Pattern} → Grows Bars i at xs r m ps
    → r ≡ Op VBar ∷ s → PlacedPattern ClosedPattern s (m + 1) a u n qs → Grows Bars i at (xs ++ (a ∷ [])) u n (ps ++ qs)
bars_turn {qs = qs} {a = a} g h p = grows_turn (a ∷ []) qs g (λ fs s next ws c. bars_more h p c)

pub bars_end : {i r : List Terminal} {at m : ℕ} {ps : List Stretch} {xs : List Pattern} → Grows Bars i at xs r m ps → Lacks (Op VBar) r
    → Bars i at xs r m ps
bars_end g f = grows_end g (no_bar f)

-- where one stood first
pub bars_some : {r s u : List Terminal} {m n : ℕ} {ps : List Stretch} {xs : List Pattern} → Bars r m xs s n ps → r ≡ Op VBar ∷ u
    → PlacedAlternatives u (m + 1) xs s n ps
bars_some (no_bar f) h = absurd (f _ h)
bars_some {s = s} {m = m} {n = n} {ps = ps} {xs = xs} (bars k c) h =
    subst (λ z. PlacedAlternatives z (m + 1) xs s n ps) (tails _ _ _ _ (sym k ∙ h)) c
