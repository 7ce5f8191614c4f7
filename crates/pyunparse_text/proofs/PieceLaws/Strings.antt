-- A written f-string is one token, and gives the terminals that its texts and fields are read as.
--
-- Carries: strings_read, for Segments. On: Formatted, FieldTexts.
use Rattle.std.proofs.Common.{◌≡◌, ℕ, Bool, true, false, ◌||◌, List, [], ◌∷◌, ◌++◌, Option, Some, None, refl, sym, ap, ap₂, ◌∙◌, subst}
use Rattle.std.proofs.Common.{append-nil}
use Rattle.std.proofs.Common.{append_assoc}
use Rattle.std.specs.List.{list_all, list_any, flat_map}
use Rattle.std.specs.Str.{all_scalars}
use Rattle.std.proofs.lemmas.Bool.{and_parts}
use Rattle.std.proofs.lemmas.Grind.{flat_map-append}
use Rattle.std.proofs.lemmas.List.Folds.{list_any-append}
use Rattle.pyfstring.specs.Parts.{FieldParts, Part, SpecPart, text as text_part, field as field_part}
use Rattle.pyfstring_tokens.proofs.Callers.Law.{tokens_are_own}
use Rattle.pylex_lexeme.specs.declared.kinds.Exact.TheVariants.{LPar, RPar}
use Rattle.pylex_lexeme.specs.Strings.{is_string, is_single_string}
use Rattle.pylex_listing.specs.declared.kind.Kind.{Kind}
use Rattle.pylex_listing.specs.declared.kind.Kind.TheVariants as kinds
use Rattle.pyfstring.specs.declared.parts.Conversion.{Conversion}
use Rattle.pytree_node.specs.declared.profiles.Extent.TheVariants.{Whole}
use Rattle.pytoken.specs.declared.faults.TokenError.{TokenError}
use Rattle.pytoken.specs.Terminals.{Terminal, Op, FormattedBegin, FormattedEnd, FormattedText, FieldBegin, SpecBegin, FieldEnd}
use Rattle.pytoken.specs.Terminals.{terminals_by}
use Rattle.pytoken.specs.Terminals.{nested_expression, single_fault, field_fault}
use Rattle.pyunparse_text.specs.Spacing.{Piece, is_token}
use Rattle.pyunparse_text.specs.Written.{Element, Text, Field, Spec, End}
use Rattle.pyunparse_text.specs.Terminals.{element_terminals, formatted_terminals}
use Rattle.pyunparse_text.specs.Pieces.{Sited, in_field as in_a_field, formatted_text}
use Rattle.pyunparse_text.proofs.FieldTexts.Conditions.{IsFieldExpression, expression_text}
use Rattle.pyunparse_text.proofs.FieldTexts.FieldReadings.{given_by, single_terminal, has_fault_by}
use Rattle.pyunparse_text.proofs.FieldTexts.Texts.{text_source, IsText}
use Rattle.pyunparse_text.proofs.FieldTexts.FormattedCuts as cut
use Rattle.pyunparse_text.proofs.FieldTexts.FormattedCuts.{is_allowed, IsWrittenField, a_written_field, AreParts, a_text, text_and_field}
use Rattle.pyunparse_text.proofs.FieldTexts.FormattedCuts.{IsInner}
use Rattle.pyunparse_text.proofs.FieldTexts.FormattedCuts.{IsInnerField, IsOuter, IsOuterField}
use Rattle.pyunparse_text.proofs.FieldTexts.FormattedTerminals.{padded, as_terminals, all_terminals}
use Rattle.pyunparse_text.proofs.FieldTexts.FormattedTokens.{formatted_token, formatted_scalars, formatted_plain}
use Rattle.pyunparse_text.proofs.FieldTexts.FormattedFaults.{field_of, fields_of}
use Rattle.pyunparse_text.proofs.FieldTexts.FormattedStrings.{string_terminals, nested_string_terminals, string_faultless}
use Rattle.pyunparse_text.proofs.FieldTexts.FormattedStrings.{nested_string_faultless}
use Rattle.pyunparse_text.proofs.PieceLaws.Places.{Depth, outside, in_field, in_two, deeper, is_inside, at, may_stand, stands, GivesIn}
use Rattle.pyunparse_text.proofs.PieceLaws.Places.{GiveAt}
use Rattle.pyunparse_text.proofs.PieceLaws.Places.{none_given, given}
use Rattle.pyunparse_text.proofs.PieceLaws.Sound.{HasStrings, HasFormatted, is_spec}
use Rattle.pyunparse_text.proofs.PieceLaws.Formatted.{whole, IsField, Elements, text, Following, no_field, field, Specified, no_spec, a_spec}

-- an f-string of this depth is one token, and gives these terminals
pub record IsString (d : Depth) (source : List ℕ) (ts : List Terminal) : Type 0 where
  pub token : is_token kinds.String source ≡ true
  pub scalars : all_scalars source ≡ true
  pub gives : GivesIn Whole d kinds.String source ts
  pub stands : may_stand d kinds.String source ≡ true

-- ---- What it is cut into.

-- its depth is that of no field, or of one
pub data IsOpen : Depth → Type 0 where
  out : IsOpen outside
  within : IsOpen in_field

abbrev sited_at : {d : Depth} → IsOpen d → (ps : List Sited) → at (deeper d) ps ≡ in_a_field ps
sited_at out ps = refl
sited_at within ps = refl

text_is : {d : Depth} (o : IsOpen d) (n : ℕ) (t : List ℕ) → HasFormatted d n t → IsText (is_inside d) (is_spec n) t
text_is out n t h = h
text_is within n t h = h

allowed : {d : Depth} (o : IsOpen d) (ps : List Piece) → list_all (stands (deeper d)) ps ≡ true
    → list_all (is_allowed (is_inside d)) ps ≡ true
allowed out [] h = refl
allowed out (p ∷ ps) h =
    let w = and_parts (stands in_field p) (list_all (stands in_field) ps) h in
    let k = always p.kind in
    let r = allowed out ps w.1 in
    rw (k, r) refl
  where
    always : (k : Kind) → elim k [ kinds.String ↦ true | _ ↦ true ] ≡ true
    always kinds.String = refl
    always _ = refl
allowed within ps h = h

-- a field, by what is its spec
written_field : {d : Depth} (o : IsOpen d) {S : Type 0} (Is : List (Element Sited) → Option S → Type 0) {c : Conversion} {ps : List Sited}
    {ts : List Terminal} {es : List (Element Sited)} {s : Option S}
    → IsField d ps ts → Is es s
    → IsWrittenField (is_inside d) Is (Field c ps ∷ (es ++ End ∷ []))
    (record { text = expression_text (in_a_field ps); kept = None; conversion = c; spec = s })
written_field {d} o Is {ps = ps} f i =
    a_written_field (subst IsFieldExpression (sited_at o ps) f.expression)
    (subst (λ qs. list_all (is_allowed (is_inside d)) qs ≡ true) (sited_at o ps) (allowed o (at (deeper d) ps) f.allowed)) i

record Inner (d : Depth) (es : List (Element Sited)) : Type 0 where
  spec : Option (List ℕ)
  is : IsInner (is_inside d) es spec

inner : {d : Depth} (o : IsOpen d) {es : List (Element Sited)} {fs : List (Element Terminal)} → Specified (IsField d) d 1 es fs → Inner d es
inner o no_spec = record { spec = None; is = cut.none }
inner {d} o (a_spec (text {t = t} h no_field)) = record { spec = Some (text_source (is_inside d) true t); is = cut.one (text_is o 2 t h) }
inner o (a_spec (text h (field n f s e))) = absurd n

record Parts {S : Type 0} (d : Depth) (in_spec : Bool) (Is : List (Element Sited) → FieldParts S → Type 0)
    (es : List (Element Sited)) : Type 0 where
  parts : List (Part S)
  is : AreParts (is_inside d) in_spec Is es parts

spec_parts : {d : Depth} (o : IsOpen d) {es : List (Element Sited)} {fs : List (Element Terminal)} → Elements (IsField d) d 1 es fs
    → Parts d true (IsInnerField (is_inside d)) es
spec_parts {d} o (text {t = t} h no_field) = record {
  parts = text_part (text_source (is_inside d) true t) ∷ [];
  is =
      a_text (text_is o 1 t h);
}
spec_parts {d} o (text {t = t} h (field {c = c} {ps = ps} n f s e)) =
    let i = inner o s in
    let r = spec_parts o e in
    record {
      parts = text_part (text_source (is_inside d) true t) ∷ field_part (record {
        text = expression_text (in_a_field ps);
        kept = None;
        conversion = c;
        spec = i.spec;
      }) ∷ r.parts;
      is = text_and_field (text_is o 1 t h) (written_field o (IsInner (is_inside d)) f i.is) r.is;
    }

record Outer (d : Depth) (es : List (Element Sited)) : Type 0 where
  spec : Option (List SpecPart)
  is : IsOuter (is_inside d) es spec

outer : {d : Depth} (o : IsOpen d) {es : List (Element Sited)} {fs : List (Element Terminal)} → Specified (IsField d) d 0 es fs → Outer d es
outer o no_spec = record { spec = None; is = cut.none }
outer o (a_spec e) = let r = spec_parts o e in record { spec = Some r.parts; is = cut.some r.is }

body_parts : {d : Depth} (o : IsOpen d) {es : List (Element Sited)} {fs : List (Element Terminal)} → Elements (IsField d) d 0 es fs
    → Parts d false (IsOuterField (is_inside d)) es
body_parts {d} o (text {t = t} h no_field) = record {
  parts = text_part (text_source (is_inside d) false t) ∷ [];
  is =
      a_text (text_is o 0 t h);
}
body_parts {d} o (text {t = t} h (field {c = c} {ps = ps} n f s e)) =
    let i = outer o s in
    let r = body_parts o e in
    record {
      parts = text_part (text_source (is_inside d) false t) ∷ field_part (record {
        text = expression_text (in_a_field ps);
        kept = None;
        conversion = c;
        spec = i.spec;
      }) ∷ r.parts;
      is = text_and_field (text_is o 0 t h) (written_field o (IsOuter (is_inside d)) f i.is) r.is;
    }

-- ---- Its terminals.

-- what a piece of a field gives, by the f-string's depth
abbrev by_depth : Depth → Kind → List ℕ → List Terminal
by_depth outside = terminals_by true nested_expression
by_depth _ = single_terminal

pieces_give : {d : Depth} (o : IsOpen d) {ps : List Piece} {ts : List Terminal} → GiveAt (whole (deeper d)) ps ts
    → given_by (by_depth d) ps ≡ ts
pieces_give o none_given = refl
pieces_give out (given {us = us} g s c) = ap₂ (λ x y. x ++ y) g.terminals (pieces_give out c)
pieces_give within (given {us = us} g s c) = ap₂ (λ x y. x ++ y) g.terminals (pieces_give within c)

field_gives : {d : Depth} (o : IsOpen d) {ps : List Sited} {ts : List Terminal} → IsField d ps ts
    → given_by (by_depth d) (in_a_field ps) ≡ ts
field_gives {d} o {ps} f = ap (given_by (by_depth d)) (sym (sited_at o ps)) ∙ pieces_give o f.gives

all_both : (g : List Piece → List Terminal) (xs ys : List (Element Sited))
    → all_terminals g (xs ++ ys) ≡ all_terminals g xs ++ all_terminals g ys
all_both g [] ys = refl
all_both g (x ∷ xs) ys = ap (λ es. as_terminals g x ∷ es) (all_both g xs ys)

module _ {d : Depth} (o : IsOpen d) where
  mutual
    elements_give : {n : ℕ} {es : List (Element Sited)} {fs : List (Element Terminal)} → Elements (IsField d) d n es fs
        → all_terminals (given_by (by_depth d)) es ≡ fs
    elements_give (text {n = n} {t = t} h b) = ap (λ fs. Text (is_spec n) t ∷ fs) (after_give b)

    after_give : {n : ℕ} {es : List (Element Sited)} {fs : List (Element Terminal)} → Following (IsField d) d n es fs
        → all_terminals (given_by (by_depth d)) es ≡ fs
    after_give no_field = refl
    after_give (field {c = c} {ss = ss} {es = es} h f s e) =
        let g = given_by (by_depth d) in
        ap₂ (λ ts fs. Field c ts ∷ fs) (field_gives o f)
        (all_both g (ss ++ (End ∷ [])) es ∙ ap₂ (λ x y. x ++ y) (all_both g ss (End ∷ []) ∙ ap (λ x. x ++ (End ∷ [])) (spec_give s))
        (elements_give e))

    spec_give : {n : ℕ} {es : List (Element Sited)} {fs : List (Element Terminal)} → Specified (IsField d) d n es fs
        → all_terminals (given_by (by_depth d)) es ≡ fs
    spec_give no_spec = refl
    spec_give (a_spec e) = ap (λ fs. Spec ∷ fs) (elements_give e)

-- in turn, no text is wanting
abbrev Turns : Bool → List (Element Terminal) → Type 0
Turns b fs = (rest : List (Element Terminal)) → padded b (fs ++ rest) ≡ flat_map element_terminals fs ++ padded false rest

module _ {d : Depth} where
  mutual
    elements_turn : {n : ℕ} {es : List (Element Sited)} {fs : List (Element Terminal)} → Elements (IsField d) d n es fs → Turns true fs
    elements_turn (text {t = t} h b) rest = ap (λ ts. FormattedText t ∷ ts) (after_turn b rest)

    after_turn : {n : ℕ} {es : List (Element Sited)} {fs : List (Element Terminal)} → Following (IsField d) d n es fs → Turns false fs
    after_turn no_field rest = refl
    after_turn (field {c = c} {ts = ts} {us = us} {fs = fs} h f s e) rest =
        let later = flat_map element_terminals fs ++ padded false rest in
        let spec : padded false (((us ++ (End ∷ [])) ++ fs) ++ rest) ≡ flat_map element_terminals us ++ (FieldEnd ∷ later) =
        ap (padded false) (append_assoc (us ++ (End ∷ [])) fs rest ∙ append_assoc us (End ∷ []) (fs ++ rest))
        ∙ (spec_turn s (End ∷ (fs ++ rest)) ∙ ap (λ x. flat_map element_terminals us ++ (FieldEnd ∷ x)) (elements_turn e rest)) in
        let back : flat_map element_terminals ((us ++ (End ∷ [])) ++ fs) ++ padded false rest ≡ flat_map element_terminals
        us ++ (FieldEnd ∷ later) =
        ap (λ x. x ++ padded false rest)
        (flat_map-append element_terminals (us ++ (End ∷ [])) fs ∙ ap (λ x. x ++ flat_map element_terminals fs)
        (flat_map-append element_terminals us (End ∷ [])))
        ∙ (append_assoc (flat_map element_terminals us ++ (FieldEnd ∷ [])) (flat_map element_terminals fs)
        (padded false rest) ∙ append_assoc (flat_map element_terminals us) (FieldEnd ∷ []) later) in
        ap (λ x. FieldBegin c ∷ (Op LPar ∷ (ts ++ (Op RPar ∷ x)))) (spec ∙ sym back)
        ∙ sym (ap (λ x. FieldBegin c ∷ (Op LPar ∷ x))
        (append_assoc (ts ++ (Op RPar ∷ [])) (flat_map element_terminals ((us ++ (End ∷ [])) ++ fs)) (padded false rest)
        ∙ append_assoc ts (Op RPar ∷ []) (flat_map element_terminals ((us ++ (End ∷ [])) ++ fs) ++ padded false rest)))

    spec_turn : {n : ℕ} {es : List (Element Sited)} {fs : List (Element Terminal)} → Specified (IsField d) d n es fs → Turns false fs
    spec_turn no_spec rest = refl
    spec_turn (a_spec e) rest = ap (λ ts. SpecBegin ∷ ts) (elements_turn e rest)

string_gives : {d : Depth} (o : IsOpen d) {es : List (Element Sited)} {fs : List (Element Terminal)} → Elements (IsField d) d 0 es fs
    → FormattedBegin ∷ (padded true (all_terminals (given_by (by_depth d)) es) ++ (FormattedEnd ∷ [])) ≡ formatted_terminals fs
string_gives o {es} {fs} x =
    ap (λ ts. FormattedBegin ∷ (ts ++ (FormattedEnd ∷ [])))
    (ap (padded true) (elements_give o x ∙ sym (append-nil fs)) ∙ (elements_turn x [] ∙ append-nil (flat_map element_terminals fs)))

-- ---- It has no fault.

faults_none : {d : Depth} (o : IsOpen d) (fault : Kind → List ℕ → Option TokenError)
    → ((k : Kind) (t : List ℕ) (ts : List Terminal) → GivesIn Whole (deeper d) k t ts → fault k t ≡ None)
    → {ps : List Piece} {ts : List Terminal} → GiveAt (whole (deeper d)) ps ts → has_fault_by fault ps ≡ false
faults_none o fault h none_given = refl
faults_none o fault h (given {p = p} {ts = ts} g s c) =
    let e = h p.kind p.text ts g in
    let r = faults_none o fault h c in
    rw (e, r) refl

-- the fault of a piece of a field, by the f-string's depth
abbrev fault_at : Depth → Kind → List ℕ → Option TokenError
fault_at outside = field_fault
fault_at _ = single_fault Whole

field_sound : {d : Depth} (o : IsOpen d) {ps : List Sited} {ts : List Terminal} → IsField d ps ts
    → has_fault_by (fault_at d) (in_a_field ps) ≡ false
field_sound out f = faults_none out field_fault (λ k t ts g. g.faultless) f.gives
field_sound within f = faults_none within (single_fault Whole) (λ k t ts g. g.faultless) f.gives

abbrev none_faulty : Depth → List (Element Sited) → Type 0
none_faulty d es = list_any (has_fault_by (fault_at d)) (fields_of es) ≡ false

faulty_both : (d : Depth) (xs ys : List (Element Sited)) → none_faulty d xs → none_faulty d ys → none_faulty d (xs ++ ys)
faulty_both d xs ys a b =
    ap (list_any (has_fault_by (fault_at d))) (flat_map-append field_of xs ys)
    ∙ (list_any-append (has_fault_by (fault_at d)) (fields_of xs) (fields_of ys) ∙ rw (a, b) refl)

module _ {d : Depth} (o : IsOpen d) where
  mutual
    elements_sound : {n : ℕ} {es : List (Element Sited)} {fs : List (Element Terminal)} → Elements (IsField d) d n es fs → none_faulty d es
    elements_sound (text h b) = following_sound b

    following_sound : {n : ℕ} {es : List (Element Sited)} {fs : List (Element Terminal)} → Following (IsField d) d n es fs → none_faulty d es
    following_sound no_field = refl
    following_sound (field {ss = ss} {es = es} h f s e) =
        let a = field_sound o f in
        let b = faulty_both d (ss ++ (End ∷ [])) es (faulty_both d ss (End ∷ []) (spec_sound s) refl) (elements_sound e) in
        rw (a, b) refl

    spec_sound : {n : ℕ} {es : List (Element Sited)} {fs : List (Element Terminal)} → Specified (IsField d) d n es fs → none_faulty d es
    spec_sound no_spec = refl
    spec_sound (a_spec e) = elements_sound e

-- ---- The law of f-strings.

a_string : (t : List ℕ) → is_token kinds.String t ≡ true → is_string t ≡ true
unfolding is_string
a_string t h = let k = (and_parts (is_single_string t) _ h).0 in rw k (or_true _)
  where
    or_true : (b : Bool) → (b || true) ≡ true
    or_true true = refl
    or_true false = refl

pub strings_read : (d : Depth) → HasStrings Whole d → (es : List (Element Sited)) (fs : List (Element Terminal))
    → Elements (IsField d) d 0 es fs
    → IsString d (formatted_text (is_inside d) es) (formatted_terminals fs)
strings_read outside s es fs x =
    let b = body_parts out x in
    let f = string_faultless tokens_are_own es b.parts b.is (elements_sound out x) in
    let t = formatted_token false es b.parts b.is in
    record {
      token = t;
      scalars = formatted_scalars false es b.parts b.is;
      gives = record {
        terminals = string_terminals tokens_are_own es b.parts b.is ∙ string_gives out x;
        sound = record { of_kind = a_string (formatted_text false es) t; faultless = f };
        faultless = f;
      };
      stands = refl;
    }
strings_read in_field s es fs x =
    let b = body_parts within x in
    record {
      token = formatted_token true es b.parts b.is;
      scalars = formatted_scalars true es b.parts b.is;
      gives = record {
        terminals = nested_string_terminals tokens_are_own es b.parts b.is ∙ string_gives within x;
        faultless = nested_string_faultless tokens_are_own es b.parts b.is (elements_sound within x);
      };
      stands = formatted_plain es b.parts b.is;
    }
strings_read in_two s es fs x = absurd s
