-- What is written of an f-string, with the terminals that it is read as: texts and fields in turn.
--
-- Carries: Elements, After, Specified, string_flat, for Strings, Fields, Readable. On: FieldTexts.
use Rattle.std.proofs.Common.{◌≡◌, ℕ, suc, true, List, [], ◌∷◌, ◌++◌, refl, sym, ap, ◌∙◌, subst, ◌≤◌, append_assoc}
use Rattle.std.specs.List.{list_all, flat_map}
use Rattle.std.proofs.lemmas.Grind.{flat_map-append}
use Rattle.pytree_node.specs.declared.profiles.Extent.TheVariants.{Whole}
use Rattle.pylex_lexeme.specs.declared.kinds.Exact.TheVariants.{LPar, RPar}
use Rattle.pyfstring.specs.declared.parts.Conversion.{Conversion}
use Rattle.pytoken.specs.Terminals.{Terminal, Op, FormattedBegin, FormattedEnd, FormattedText, FieldBegin, SpecBegin, FieldEnd}
use Rattle.pyunparse_text.specs.Brackets.{open_after, most_open}
use Rattle.pyunparse_text.specs.Tokens.{closes_all}
use Rattle.pyunparse_text.specs.Written.{Element, Text, Field, Spec, End}
use Rattle.pyunparse_text.specs.Terminals.{element_terminals, formatted_terminals}
use Rattle.pyunparse_text.specs.Pieces.{Sited}
use Rattle.pyunparse_text.proofs.FieldTexts.Conditions.{IsFieldExpression}
use Rattle.pyunparse_text.proofs.PieceLaws.Places.{Depth, Place, deeper, at, stands, GiveAt, depth_after, Flat, flat_none, flat_both}
use Rattle.pyunparse_text.proofs.PieceLaws.Places.{flat_within}
use Rattle.pyunparse_text.proofs.PieceLaws.Shallow.{Few, Low, low_next, few_at, low_rest, front_low}
use Rattle.pyunparse_text.proofs.PieceLaws.Sound.{is_spec, HasFormatted, HasFields}

-- a place in the whole language
abbrev pub whole : Depth → Place
whole d = record { extent = Whole; depth = d }

-- the pieces of a field's expression, in an f-string of this depth
pub record IsField (d : Depth) (ps : List Sited) (ts : List Terminal) : Type 0 where
  pub expression : IsFieldExpression (at (deeper d) ps)
  pub allowed : list_all (stands (deeper d)) (at (deeper d) ps) ≡ true
  pub closed : closes_all 0 (at (deeper d) ps) ≡ true
  pub gives : GiveAt (whole (deeper d)) (at (deeper d) ps) ts

-- they are a field's where no more brackets are open than a field may have
pub record Promised (d : Depth) (ps : List Sited) (ts : List Terminal) : Type 0 where
  pub is : Few ts → IsField d ps ts
  pub flat : Flat ts

mutual
  -- Texts and fields in turn, in so many format specs, a text first and last; a relation says what fields are.
  pub data Elements (Is : List Sited → List Terminal → Type 0) (d : Depth) : ℕ → List (Element Sited)
      → List (Element Terminal) → Type 0 where
    text : {n : ℕ} {t : List ℕ} {es : List (Element Sited)} {fs : List (Element Terminal)} → HasFormatted d n t → Following Is d n es fs
        → Elements Is d n (Text (is_spec n) t ∷ es) (Text (is_spec n) t ∷ fs)

  -- those after a text
  pub data Following (Is : List Sited → List Terminal → Type 0) (d : Depth) : ℕ → List (Element Sited) → List (Element Terminal) → Type 0 where
    no_field : {n : ℕ} → Following Is d n [] []
    field : {n : ℕ} {c : Conversion} {ps : List Sited} {ts : List Terminal} {ss es : List (Element Sited)} {us fs : List (Element Terminal)}
        → HasFields n → Is ps ts → Specified Is d n ss us → Elements Is d n es fs
        → Following Is d n (Field c ps ∷ ((ss ++ (End ∷ [])) ++ es)) (Field c ts ∷ ((us ++ (End ∷ [])) ++ fs))

  -- a format spec, or none
  pub data Specified (Is : List Sited → List Terminal → Type 0) (d : Depth) : ℕ → List (Element Sited)
      → List (Element Terminal) → Type 0 where
    no_spec : {n : ℕ} → Specified Is d n [] []
    a_spec : {n : ℕ} {es : List (Element Sited)} {fs : List (Element Terminal)} → Elements Is d (suc n) es fs
        → Specified Is d n (Spec ∷ es) (Spec ∷ fs)

-- ---- Its brackets are closed.

flat_front : {ts : List Terminal} (t : Terminal) → ((d : ℕ) → open_after d t ≡ d) → Flat ts → Flat (t ∷ ts)
flat_front {ts} t e f = record { is = λ d. ap (λ n. depth_after n ts) (e d) ∙ f.is d }

flat_elements : (xs ys : List (Element Terminal)) → Flat (flat_map element_terminals xs) → Flat (flat_map element_terminals ys)
    → Flat (flat_map element_terminals (xs ++ ys))
flat_elements xs ys f g = subst Flat (sym (flat_map-append element_terminals xs ys)) (flat_both f g)

flat_end : Flat (flat_map element_terminals (End ∷ []))
flat_end = flat_front FieldEnd (λ d. refl) flat_none

module _ {d : Depth} where
  mutual
    elements_flat : {n : ℕ} {es : List (Element Sited)} {fs : List (Element Terminal)} → Elements (Promised d) d n es fs
        → Flat (flat_map element_terminals fs)
    elements_flat (text {t = t} h b) = flat_front (FormattedText t) (λ d. refl) (after_flat b)

    after_flat : {n : ℕ} {es : List (Element Sited)} {fs : List (Element Terminal)} → Following (Promised d) d n es fs
        → Flat (flat_map element_terminals fs)
    after_flat no_field = flat_none
    after_flat (field {c = c} {us = us} {fs = fs} h f s e) =
        flat_front (FieldBegin c) (λ d. refl)
        (flat_both (flat_within LPar RPar refl refl refl f.flat)
        (flat_elements (us ++ (End ∷ [])) fs (flat_elements us (End ∷ []) (spec_flat s) flat_end) (elements_flat e)))

    spec_flat : {n : ℕ} {es : List (Element Sited)} {fs : List (Element Terminal)} → Specified (Promised d) d n es fs
        → Flat (flat_map element_terminals fs)
    spec_flat no_spec = flat_none
    spec_flat (a_spec e) = flat_front SpecBegin (λ d. refl) (elements_flat e)

pub string_flat : {d : Depth} {es : List (Element Sited)} {fs : List (Element Terminal)} → Elements (Promised d) d 0 es fs
    → Flat (formatted_terminals fs)
string_flat x = flat_front FormattedBegin (λ d. refl) (flat_both (elements_flat x) (flat_front FormattedEnd (λ d. refl) flat_none))

-- ---- Where so few brackets are open, its fields are fields.

module _ {d : Depth} where
  mutual
    pub elements_kept : {n : ℕ} {es : List (Element Sited)} {fs : List (Element Terminal)} (k : ℕ) → Elements (Promised d) d n es fs
        → most_open k (flat_map element_terminals fs) ≤ 599 → Elements (IsField d) d n es fs
    elements_kept k (text {t = t} {fs = fs} h b) low =
        text h (following_kept k b (low_next k (FormattedText t) (flat_map element_terminals fs) low))

    following_kept : {n : ℕ} {es : List (Element Sited)} {fs : List (Element Terminal)} (k : ℕ) → Following (Promised d) d n es fs
        → most_open k (flat_map element_terminals fs) ≤ 599 → Following (IsField d) d n es fs
    following_kept k no_field low = no_field
    following_kept k (field {c = c} {ts = ts} {us = us} {fs = fs} h f s e) low =
        let tail = flat_map element_terminals ((us ++ (End ∷ [])) ++ fs) in
        let inside : most_open (suc k) ((ts ++ (Op RPar ∷ [])) ++ tail) ≤ 599 =
        low_next k (Op LPar) ((ts ++ (Op RPar ∷ [])) ++ tail)
        (low_next k (FieldBegin c) (Op LPar ∷ ((ts ++ (Op RPar ∷ [])) ++ tail)) low) in
        let own : Few ts =
        few_at (suc k) ts ((Op RPar ∷ []) ++ tail) (subst (λ x. most_open (suc k) x ≤ 599) (append_assoc ts (Op RPar ∷ []) tail) inside) in
        let brackets : Flat (Op LPar ∷ (ts ++ (Op RPar ∷ []))) = flat_within LPar RPar refl refl refl f.flat in
        let later : most_open k tail ≤ 599 =
        low_rest k (Op LPar ∷ (ts ++ (Op RPar ∷ []))) tail brackets
        (low_next k (FieldBegin c) ((Op LPar ∷ (ts ++ (Op RPar ∷ []))) ++ tail) low) in
        let parts : most_open k ((flat_map element_terminals us ++ (FieldEnd ∷ [])) ++ flat_map element_terminals fs) ≤ 599 =
        subst (λ x. most_open k x ≤ 599) (flat_map-append element_terminals (us ++ (End ∷ [])) fs
        ∙ ap (λ x. x ++ flat_map element_terminals fs)
        (flat_map-append element_terminals us (End ∷ []))) later in
        let spec : most_open k (flat_map element_terminals us ++ ((FieldEnd ∷ []) ++ flat_map element_terminals fs)) ≤ 599 =
        subst (λ x. most_open k x ≤ 599) (append_assoc (flat_map element_terminals us) (FieldEnd ∷ []) (flat_map element_terminals fs))
        parts in
        let rest : most_open k (flat_map element_terminals fs) ≤ 599 =
        low_next k FieldEnd (flat_map element_terminals fs)
        (low_rest k (flat_map element_terminals us) (FieldEnd ∷ flat_map element_terminals fs) (spec_flat s) spec) in
        field h (f.is own) (spec_kept k s (front_low k (flat_map element_terminals us) (FieldEnd ∷ flat_map element_terminals fs) spec))
        (elements_kept k e rest)

    spec_kept : {n : ℕ} {es : List (Element Sited)} {fs : List (Element Terminal)} (k : ℕ) → Specified (Promised d) d n es fs
        → most_open k (flat_map element_terminals fs) ≤ 599 → Specified (IsField d) d n es fs
    spec_kept k no_spec low = no_spec
    spec_kept k (a_spec {fs = fs} e) low = a_spec (elements_kept k e (low_next k SpecBegin (flat_map element_terminals fs) low))

pub string_kept : {d : Depth} {es : List (Element Sited)} {fs : List (Element Terminal)} → Elements (Promised d) d 0 es fs
    → Low (formatted_terminals fs) → Elements (IsField d) d 0 es fs
string_kept {fs = fs} x low =
    elements_kept 0 x
    (front_low 0 (flat_map element_terminals fs) (FormattedEnd ∷ [])
    (low_next 0 FormattedBegin (flat_map element_terminals fs ++ (FormattedEnd ∷ [])) (low refl)))
