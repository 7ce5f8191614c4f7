-- Literals and f-strings. The place of a row is known at its end: a loop carries these lemmas for each row.
--
-- Carries: strings.rt. On: Fronts, Loops.
use Rattle.std.proofs.Common.{◌≡◌, refl, sym, ap, subst, ◌∙◌, ℕ, ◌+◌, arith, List, [], ◌∷◌, ◌++◌, length, Some, None, Bool, true, Option}
use Rattle.std.proofs.Common.{option_map, map, length-append, ◌<◌}
use Rattle.std.proofs.lemmas.List.{length-map}
use Rattle.pylex_lexeme.specs.declared.kinds.Exact.TheVariants.{LPar}
use Rattle.pyfstring.specs.declared.parts.Conversion.{Conversion}
use Rattle.pygrammar.specs.declared.levels.Level.{Level}
use Rattle.pygrammar.specs.declared.levels.Level.TheVariants.{Atom}
use Rattle.pytree_node.specs.Trees
use Rattle.pytree_node.specs.Trees.{Expr, OptionalExpr, absent, present}
use Rattle.pytree_node.specs.Values
use Rattle.pytoken.specs.Terminals.{Terminal, Op, Word, Literal, FormattedBegin, FormattedEnd, FormattedText, FieldBegin, SpecBegin}
use Rattle.pytoken.specs.Terminals.{FieldEnd}
use Rattle.pygrammar.specs.Operators.{below, chain_word}
use Rattle.pygrammar.specs.Constants.{joined}
use Rattle.pygrammar.specs.FormattedStrings.{StringPart, Text, Field, merged, values_of, spec_values_of, texts_of, begins_unicode}
use Rattle.pygrammar.specs.FormattedStrings.{has_formatted}
use Rattle.pygrammar.specs.Grammar as G
use Rattle.pyplaces.specs.Stretches.{Stretch, stretch}
use Rattle.pyplaces.specs.ExpressionPlaces.{string_places, literals_places, places}
use Rattle.pyplaces.specs.Placed.{Placed, PlacedLiterals, PlacedFormatted, PlacedSpec}
use Rattle.pyplaces.proofs.Fronts.{Front, nothing, sign, both, front_of, from, built, ◌⊕◌, own, cons, tails}
use Rattle.pyplaces.proofs.Loops.{Grows, grows_turn, grows_quiet, grows_end}

-- ---- A row without an f-string.
pub placed_strings : {i r : List Terminal} {at following : ℕ} {a b : Values.Value} (vs : List Values.Value)
    → i ≡ Literal a ∷ (map Literal vs ++ r) → joined a vs ≡ Some b → at + 1 + length vs ≡ following
    → Placed Atom i at (Trees.Constant b) r following (stretch at following ∷ [])
placed_strings vs h q e = built (record { is = h; ends = omega (arith, length-map vs Literal, e) }) (G.strings vs q)
    (own (omega (arith, e)))

-- ---- The parts of an f-string and of a format spec.
pub placed_no_part : {bb : Bool} {r : List Terminal} {at : ℕ} {row : Stretch} → PlacedFormatted bb row r at [] r at []
placed_no_part = built nothing G.no_part refl

pub placed_text_part : {y : List ℕ} {bb : Bool} {i r s : List Terminal} {at following : ℕ} {ss : List StringPart} {row : Stretch}
    {fs : List (List Stretch)}
    → i ≡ FormattedText y ∷ r → PlacedFormatted bb row r (at + 1) ss s following fs → PlacedFormatted bb row i at (Text y ∷ ss) s following fs
placed_text_part h p = built (sign h (front_of p)) (G.text_part p.derived) (from p (omega arith))

pub placed_no_spec : {bb : Bool} {r : List Terminal} {at : ℕ} {row : Stretch} → PlacedSpec bb row r at absent r at []
placed_no_spec = built nothing G.no_spec refl

pub placed_spec : {bb : Bool} {i r s : List Terminal} {at following : ℕ} {ss : List StringPart} {row : Stretch} {fs : List (List Stretch)}
    → i ≡ SpecBegin ∷ r → PlacedFormatted bb row r (at + 1) ss s following fs
    → PlacedSpec bb row i at (present (Trees.JoinedStr (spec_values_of bb (merged ss)))) s following
    (string_places row (merged ss) fs ++ (row ∷ []))
placed_spec {ss = ss} {row = row} h p =
    built (sign h (front_of p)) (G.spec p.derived) (ap (string_places row (merged ss)) (from p (omega arith)) ⊕ refl)

-- an Atom is no empty list
atom_some : {l : Level} {ts : List Terminal} {e : Expr} → G.Derives l ts e → l ≡ Atom → 0 < length ts
atom_some (G.next p) h = atom_some p (ap below h)
atom_some (G.binary {ts = ts} {us = us} t q a b) h = omega (arith, length-append ts (t ∷ us))
atom_some (G.chain {o = o} {ts = ts} {us = us} a b) h = omega (arith, length-append ts (Word (chain_word o) ∷ us))
atom_some (G.unary q p) h = omega arith
atom_some G.name h = omega arith
atom_some (G.constant q) h = omega arith
atom_some G.number h = omega arith
atom_some (G.strings vs q) h = omega arith
atom_some (G.joined_string {ts = []} c b f) h = absurd (cc)
atom_some (G.joined_string {ts = t ∷ ts} c b f) h = omega arith
atom_some (G.group p) h = omega arith
atom_some (G.yield_group p) h = omega arith
atom_some G.empty_tuple h = omega arith
atom_some (G.tuple p c) h = omega arith
atom_some (G.generator_group p c) h = omega arith
atom_some (G.list c) h = omega arith
atom_some (G.list_comp p c) h = omega arith
atom_some (G.dict c) h = omega arith
atom_some (G.dict_comp p q c) h = omega arith
atom_some (G.set c) h = omega arith
atom_some (G.set_comp p c) h = omega arith
atom_some _ h = absurd (cc)

heads : (t y : Terminal) (r s : List Terminal) → t ∷ r ≡ y ∷ s → t ≡ y
heads t y r s h = cc

-- its terminals after the bracket, with the number before the bracket
open_atom : {i r s : List Terminal} {at following : ℕ} {e : Expr} {ps : List Stretch} → Placed Atom i at e r following ps → i ≡ Op LPar ∷ s
    → (ts : List Terminal) × (s ≡ ts ++ r) × (at + 1 + length ts ≡ following) × (d : G.Derives Atom (Op LPar ∷ ts) e) × (places at d ≡ ps)
open_atom {r = r} {s = s} {at = at} {following = following} {e = e} {ps = ps} p h = go p.front p.derived p.ends p.places_are (sym h ∙ p.is)
  where
    go : (ts : List Terminal) (d : G.Derives Atom ts e) → at + length ts ≡ following → places at d ≡ ps → Op LPar ∷ s ≡ ts ++ r
        → (us : List Terminal) × (s ≡ us ++ r) × (at + 1 + length us ≡ following) × (k : G.Derives Atom (Op LPar ∷ us) e) × (places at k ≡ ps)
    go [] d a b q = absurd (omega (arith, atom_some d refl))
    go (t ∷ ts) d a b q = subst (λ z. (k : G.Derives Atom (z ∷ ts) e) → places at k ≡ ps
        → (us : List Terminal) × (s ≡ us ++ r) × (at + 1 + length us ≡ following) × (k : G.Derives Atom (Op LPar ∷ us) e) × (places at k ≡ ps))
        (heads (Op LPar) t s (ts ++ r) q) (λ k w. (ts, tails (Op LPar) t s (ts ++ r) q, omega (arith, a), k, w)) d b

field_part : {bb : Bool} {i r s x1 u v w : List Terminal} {at m n k : ℕ} {e : Expr} {o : OptionalExpr} {c : Conversion}
    {ss : List StringPart} {row : Stretch} {ps qs : List Stretch} {fs : List (List Stretch)}
    → i ≡ FieldBegin c ∷ r → r ≡ Op LPar ∷ x1 → (ts : List Terminal) → Front x1 (at + 1 + 1) ts s m → (d : G.Derives Atom (Op LPar ∷ ts) e)
    → places (at + 1) d ≡ ps → PlacedSpec bb row s m o u n qs → u ≡ FieldEnd ∷ v → PlacedFormatted bb row v (n + 1) ss w k fs
    → PlacedFormatted bb row i at (Field (Trees.FormattedValue e c o) ∷ ss) w k ((ps ++ qs) ∷ fs)
field_part h b ts g d z q f l = built (sign h (sign b (both g (both (front_of q) (sign f (front_of l))))))
    (G.field_part d q.derived l.derived)
    (cons ((ap (λ n. places n d) (omega arith) ∙ z) ⊕ from q (omega (arith, g.ends))) (from l (omega (arith, g.ends, q.ends))))

-- a field, from its begin on
pub placed_field_part : {bb : Bool} {i r s x1 u v w : List Terminal} {at m n k : ℕ} {e : Expr} {o : OptionalExpr} {c : Conversion}
    {ss : List StringPart} {row : Stretch} {ps qs : List Stretch} {fs : List (List Stretch)}
    → i ≡ FieldBegin c ∷ r → Placed Atom r (at + 1) e s m ps → r ≡ Op LPar ∷ x1 → PlacedSpec bb row s m o u n qs → u ≡ FieldEnd ∷ v
    → PlacedFormatted bb row v (n + 1) ss w k fs
    → PlacedFormatted bb row i at (Field (Trees.FormattedValue e c o) ∷ ss) w k ((ps ++ qs) ∷ fs)
placed_field_part h p b q f l = let a = open_atom p b in field_part h b a.0 (record { is = a.1; ends = a.2 }) a.3 a.4 q f l

pub parts_text : {y : List ℕ} {bb : Bool} {i r s : List Terminal} {at m : ℕ} {ss : List StringPart} {row : Stretch}
    {fs : List (List Stretch)}
    → Grows (PlacedFormatted bb row) i at ss r m fs → r ≡ FormattedText y ∷ s
    → Grows (PlacedFormatted bb row) i at (ss ++ (Text y ∷ [])) s (m + 1) fs
parts_text {y = y} g h = grows_quiet (Text y ∷ []) g (λ ys u next gs p. placed_text_part h p)

pub parts_field : {bb : Bool} {i r s u x1 v w : List Terminal} {at m n k : ℕ} {e : Expr} {o : OptionalExpr} {c : Conversion}
    {ss : List StringPart} {row : Stretch} {ps qs : List Stretch} {fs : List (List Stretch)}
    → Grows (PlacedFormatted bb row) i at ss r m fs → r ≡ FieldBegin c ∷ s → Placed Atom s (m + 1) e u n ps → s ≡ Op LPar ∷ x1
    → PlacedSpec bb row u n o v k qs → v ≡ FieldEnd ∷ w
    → Grows (PlacedFormatted bb row) i at (ss ++ (Field (Trees.FormattedValue e c o) ∷ [])) w (k + 1) (fs ++ ((ps ++ qs) ∷ []))
parts_field {e = e} {o = o} {c = c} {ps = ps} {qs = qs} g h p b q f = grows_turn (Field (Trees.FormattedValue e c o) ∷ []) ((ps ++ qs) ∷ [])
    g (λ ys y next gs l. placed_field_part h p b q f l)

pub parts_end : {bb : Bool} {i r : List Terminal} {at m : ℕ} {ss : List StringPart} {row : Stretch} {fs : List (List Stretch)}
    → Grows (PlacedFormatted bb row) i at ss r m fs → PlacedFormatted bb row i at ss r m fs
parts_end g = grows_end g placed_no_part

-- ---- A row with an f-string.
pub placed_no_literal : {bb : Bool} {r : List Terminal} {at : ℕ} {row : Stretch} → PlacedLiterals bb row r at [] r at []
placed_no_literal = built nothing G.no_literal refl

pub placed_text_literal : {y : List ℕ} {d bb : Bool} {i r s : List Terminal} {at following : ℕ} {ss : List StringPart} {row : Stretch}
    {fs : List (List Stretch)}
    → i ≡ Literal (Values.Str y d) ∷ r → PlacedLiterals bb row r (at + 1) ss s following fs
    → PlacedLiterals bb row i at (Text y ∷ ss) s following fs
placed_text_literal h p = built (sign h (front_of p)) (G.text_literal p.derived) (from p (omega arith))

pub placed_formatted_literal : {bb : Bool} {i r s u v : List Terminal} {at m following : ℕ} {ss ys : List StringPart} {row : Stretch}
    {fs gs : List (List Stretch)}
    → i ≡ FormattedBegin ∷ r → PlacedFormatted bb row r (at + 1) ss s m fs → s ≡ FormattedEnd ∷ u
    → PlacedLiterals bb row u (m + 1) ys v following gs → PlacedLiterals bb row i at (ss ++ ys) v following (fs ++ gs)
placed_formatted_literal h p k q = built (sign h (both (front_of p) (sign k (front_of q)))) (G.formatted_literal p.derived q.derived)
    (from p (omega arith) ⊕ from q (omega (arith, p.ends)))

pub literals_text : {y : List ℕ} {bb d : Bool} {i r s : List Terminal} {at m : ℕ} {ss : List StringPart} {row : Stretch}
    {fs : List (List Stretch)}
    → Grows (PlacedLiterals bb row) i at ss r m fs → r ≡ Literal (Values.Str y d) ∷ s
    → Grows (PlacedLiterals bb row) i at (ss ++ (Text y ∷ [])) s (m + 1) fs
literals_text {y = y} g h = grows_quiet (Text y ∷ []) g (λ ys u next gs p. placed_text_literal h p)

pub literals_formatted : {bb : Bool} {i r s u v : List Terminal} {at m n : ℕ} {ss ys : List StringPart} {row : Stretch}
    {fs gs : List (List Stretch)}
    → Grows (PlacedLiterals bb row) i at ss r m fs → r ≡ FormattedBegin ∷ s → PlacedFormatted bb row s (m + 1) ys u n gs
    → u ≡ FormattedEnd ∷ v → Grows (PlacedLiterals bb row) i at (ss ++ ys) v (n + 1) (fs ++ gs)
literals_formatted {ys = ys} {gs = gs} g h p k = grows_turn ys gs g (λ zs w next ws l. placed_formatted_literal h p k l)

pub literals_end : {bb : Bool} {i r : List Terminal} {at m : ℕ} {ss : List StringPart} {row : Stretch} {fs : List (List Stretch)}
    → Grows (PlacedLiterals bb row) i at ss r m fs → PlacedLiterals bb row i at ss r m fs
literals_end g = grows_end g placed_no_literal

pub placed_joined_string : {bb : Bool} {i r : List Terminal} {at following : ℕ} {ss : List StringPart} {fs : List (List Stretch)}
    → (p : PlacedLiterals bb (stretch at following) i at ss r following fs) → begins_unicode p.front ≡ bb → has_formatted p.front ≡ true
    → Placed Atom i at (Trees.JoinedStr (values_of bb (merged ss))) r following
    (string_places (stretch at following) (merged ss) fs ++ (stretch at following ∷ []))
placed_joined_string {at = at} {following = following} {ss = ss} {fs = fs} p b f = built (front_of p) (G.joined_string p.derived b f)
    (subst (λ z. string_places (stretch at z) (merged ss) (literals_places (stretch at z) at p.derived) ++ (stretch at z ∷ [])
    ≡ string_places (stretch at following) (merged ss) fs ++ (stretch at following ∷ [])) (sym p.ends)
    (ap (string_places (stretch at following) (merged ss)) p.places_are ⊕ refl))

some_parts : (a b : List StringPart) → Some a ≡ Some b → a ≡ b
some_parts a b h = cc

-- texts in front of the first f-string
pub placed_texts : {bb : Bool} {row : Stretch} {r s : List Terminal} {n following : ℕ} {ys : List StringPart} {fs : List (List Stretch)}
    (vs : List Values.Value) (ss : List StringPart) (i : List Terminal) (at : ℕ) → texts_of vs ≡ Some ss → i ≡ map Literal vs ++ r
    → at + length vs ≡ n → PlacedLiterals bb row r n ys s following fs → PlacedLiterals bb row i at (ss ++ ys) s following fs
placed_texts {bb} {row} {r} {s} {n} {following} {ys} {fs} [] ss i at h q e c =
    subst (λ z. PlacedLiterals bb row i at (z ++ ys) s following fs) (some_parts [] ss h)
    (subst (λ z. PlacedLiterals bb row z at ys s following fs) (sym q)
    (subst (λ z. PlacedLiterals bb row r z ys s following fs) (omega (arith, e)) c))
placed_texts {bb} {row} {r} {s} {n} {following} {ys} {fs} (Values.Str t k ∷ vs) ss i at h q e c =
    go (texts_of vs) refl h (λ xs f. placed_texts vs xs (map Literal vs ++ r) (at + 1) f refl (omega (arith, e)) c)
  where
    go : (o : Option (List StringPart)) → texts_of vs ≡ o → option_map (λ z. Text t ∷ z) o ≡ Some ss
        → ((xs : List StringPart) → texts_of vs ≡ Some xs → PlacedLiterals bb row (map Literal vs ++ r) (at + 1) (xs ++ ys) s following fs)
        → PlacedLiterals bb row i at (ss ++ ys) s following fs
    go None f w g = absurd (cc)
    go (Some xs) f w g = subst (λ z. PlacedLiterals bb row i at (z ++ ys) s following fs) (some_parts (Text t ∷ xs) ss w)
        (placed_text_literal q (g xs f))
placed_texts (_ ∷ vs) ss i at h q e c = absurd (cc)
