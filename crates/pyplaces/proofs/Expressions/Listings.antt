-- Lists with commas.
--
-- Carries: listing, others, tupled, more_pairs, dict_from, more_arguments, call_from, parameters. On: Fronts, Loops.
use Rattle.std.proofs.Common.{◌≡◌, refl, sym, ap, subst, ◌∙◌, ℕ, ◌+◌, arith, List, [], ◌∷◌, ◌++◌}
use Rattle.pylex_lexeme.specs.declared.kinds.Exact.TheVariants.{Comma}
use Rattle.pygrammar.specs.declared.levels.Level.{Level}
use Rattle.pytree_node.specs.Trees.{Expr}
use Rattle.pytoken.specs.Terminals.{Terminal, Op}
use Rattle.pygrammar.specs.Entries.{Item, Of, Entry, Single}
use Rattle.pygrammar.specs.Grammar as G
use Rattle.pyplaces.specs.Stretches.{Stretch}
use Rattle.pyplaces.specs.EntryPlaces as E
use Rattle.pyplaces.specs.EntryPlaces.{EntryPlaces}
use Rattle.pyplaces.specs.Placed.{Placed, PlacedListing, PlacedPiece}
use Rattle.pyplaces.proofs.Fronts.{nothing, sign, both, front_of, from, built, cons, tails}
use Rattle.pyplaces.specs.Rests.{Lacks, Others, no_comma, commas}
use Rattle.pyplaces.proofs.Loops.{Grows, grows_turn, grows_end}

-- an expression between commas
pub placed_single : {l : Level} {i r : List Terminal} {at following : ℕ} {e : Expr} {ps : List Stretch} → Placed l i at e r following ps
    → PlacedPiece (Of l) i at (Single e) r following (E.Single ps)
placed_single p = built (front_of p) (G.single p.derived) (ap E.Single p.places_are)

-- ---- Listings.
pub placed_no_item : {j : Item} {r : List Terminal} {at : ℕ} → PlacedListing j r at [] r at []
placed_no_item = built nothing G.no_item refl

pub placed_last_item : {j : Item} {i r : List Terminal} {at following : ℕ} {e : Entry} {p : EntryPlaces} → PlacedPiece j i at e r following p
    → PlacedListing j i at (e ∷ []) r following (p ∷ [])
placed_last_item d = built (front_of d) (G.last_item d.derived) (ap (λ z. z ∷ []) d.places_are)

pub placed_item : {j : Item} {i r s u : List Terminal} {at m following : ℕ} {e : Entry} {es : List Entry}
    {p : EntryPlaces} {ps : List EntryPlaces}
    → PlacedPiece j i at e r m p → r ≡ Op Comma ∷ s → PlacedListing j s (m + 1) es u following ps
    → PlacedListing j i at (e ∷ es) u following (p ∷ ps)
placed_item d h c = built (both (front_of d) (sign h (front_of c))) (G.item d.derived c.derived)
    (cons d.places_are (from c (omega (arith, d.ends))))

-- ---- A loop whose turns begin after a comma: those of arguments and of parameters.
pub listing_turn : {j : Item} {i r s u : List Terminal} {at m n : ℕ} {e : Entry} {es : List Entry} {p : EntryPlaces} {ps : List EntryPlaces}
    → Grows (PlacedListing j) i at es r m ps → PlacedPiece j r m e s n p → s ≡ Op Comma ∷ u
    → Grows (PlacedListing j) i at (es ++ (e ∷ [])) u (n + 1) (ps ++ (p ∷ []))
listing_turn {e = e} {p = p} g d h = grows_turn (e ∷ []) (p ∷ []) g (λ fs s next qs c. placed_item d h c)

pub listing_end : {j : Item} {i r : List Terminal} {at m : ℕ} {es : List Entry} {ps : List EntryPlaces}
    → Grows (PlacedListing j) i at es r m ps → PlacedListing j i at es r m ps
listing_end g = grows_end g placed_no_item

pub listing_last : {j : Item} {i r s : List Terminal} {at m n : ℕ} {e : Entry} {es : List Entry} {p : EntryPlaces} {ps : List EntryPlaces}
    → Grows (PlacedListing j) i at es r m ps → PlacedPiece j r m e s n p → PlacedListing j i at (es ++ (e ∷ [])) s n (ps ++ (p ∷ []))
listing_last {e = e} g d = g.so (e ∷ []) _ _ _ (placed_last_item d)

-- ---- A loop whose turns begin before a comma: those of expressions and of pairs.
pub others_more : {j : Item} {r s u v : List Terminal} {m n k : ℕ} {e : Entry} {es : List Entry} {p : EntryPlaces} {ps : List EntryPlaces}
    → r ≡ Op Comma ∷ s → PlacedPiece j s (m + 1) e u n p → Others j u n es v k ps → Others j r m (e ∷ es) v k (p ∷ ps)
others_more h d (no_comma f) = commas h (placed_last_item d)
others_more h d (commas k c) = commas h (placed_item d k c)

pub others_turn : {j : Item} {i r s u : List Terminal} {at m n : ℕ} {e : Entry} {es : List Entry} {p : EntryPlaces} {ps : List EntryPlaces}
    → Grows (Others j) i at es r m ps → r ≡ Op Comma ∷ s → PlacedPiece j s (m + 1) e u n p
    → Grows (Others j) i at (es ++ (e ∷ [])) u n (ps ++ (p ∷ []))
others_turn {e = e} {p = p} g h d = grows_turn (e ∷ []) (p ∷ []) g (λ fs s next qs c. others_more h d c)

pub others_end : {j : Item} {i r : List Terminal} {at m : ℕ} {es : List Entry} {ps : List EntryPlaces} → Grows (Others j) i at es r m ps
    → Lacks (Op Comma) r → Others j i at es r m ps
others_end g f = grows_end g (no_comma f)

pub others_comma : {j : Item} {i r s : List Terminal} {at m : ℕ} {es : List Entry} {ps : List EntryPlaces} → Grows (Others j) i at es r m ps
    → r ≡ Op Comma ∷ s → Others j i at es s (m + 1) ps
others_comma g h = grows_end g (commas h placed_no_item)

-- a first item and the others: of a list, a set, a Dict, a call
pub listed : {j : Item} {i r s : List Terminal} {at m n : ℕ} {e : Entry} {es : List Entry} {p : EntryPlaces} {ps : List EntryPlaces}
    → PlacedPiece j i at e r m p → Others j r m es s n ps → PlacedListing j i at (e ∷ es) s n (p ∷ ps)
listed d (no_comma f) = placed_last_item d
listed d (commas h c) = placed_item d h c

-- those after the first comma: of a tuple
pub after_comma : {j : Item} {r s u : List Terminal} {m n : ℕ} {es : List Entry} {ps : List EntryPlaces} → Others j r m es s n ps
    → r ≡ Op Comma ∷ u → PlacedListing j u (m + 1) es s n ps
after_comma (no_comma f) h = absurd (f _ h)
after_comma {j} {s = s} {m = m} {n = n} {es = es} {ps = ps} (commas k c) h =
    subst (λ z. PlacedListing j z (m + 1) es s n ps) (tails _ _ _ _ (sym k ∙ h)) c
