-- What stands between the quotes of an f-string ends no literal, and has no U+0000; in a field it stands for itself.
--
-- Carries: IsInString, body_in_string, for FormattedTokens. On: FormattedCuts, FieldTokens, Texts.
use Rattle.std.proofs.Common.{◌≡◌, ℕ, Bool, true, false, not, ◌&&◌, ◌||◌, ◌==◌, List, [], ◌∷◌, ◌++◌, Option, inl, inr, refl, sym, ◌∙◌}
use Rattle.std.proofs.Common.{subst}
use Rattle.std.proofs.Common.{if◌then◌else◌}
use Rattle.std.specs.List.{list_all}
use Rattle.std.specs.Str.{all_scalars}
use Rattle.std.proofs.lemmas.Bool.{and_from, cases_Bool, eqb-true, not-true, and_parts, or_parts}
use Rattle.std.proofs.lemmas.Grind.{flat_map-append}
use Rattle.pyfstring.specs.declared.parts.Conversion.{Conversion}
use Rattle.pyfstring.specs.declared.parts.Conversion.TheVariants as conversions
use Rattle.pyfstring.specs.Texts.{begins_with, is_brace}
use Rattle.pyfstring.specs.Expressions.{is_quote}
use Rattle.pyfstring.specs.Parts.{FieldParts, BodyPart}
use Rattle.pylex_listing.specs.declared.kind.Kind.{Kind}
use Rattle.pylex_listing.specs.declared.kind.Kind.TheVariants as kinds
use Rattle.pylex_lexeme.specs.Chars.{is_comment_part}
use Rattle.pylex_lexeme.specs.Numbers.{is_number}
use Rattle.pylex_lexeme.specs.Operators.{is_operator}
use Rattle.pylex_lexeme.proofs.Callers.Lexemes.{words, by_words}
use Rattle.pylex_lexeme.proofs.Callers.WholeLines.{one_of}
use Rattle.pyunparse_text.specs.Spacing.{Piece, is_token, touches, text_following, all_apart}
use Rattle.pyunparse_text.specs.Written.{Element, End}
use Rattle.pyunparse_text.specs.Pieces.{Sited, in_field, conversion_text, field_text, element_text, quote, character_text}
use Rattle.pyunparse_text.proofs.LexemeFronts.PieceFronts.{ArePieces}
use Rattle.pyunparse_text.proofs.SingleTokens.Literals.{Skips, own_skips, both_skip, none_skip}
use Rattle.pyunparse_text.proofs.Sources.Bytes.{scalars_both}
use Rattle.pyunparse_text.proofs.FieldTexts.Conditions.{is_own, is_inner, is_calm, is_plain, ends_plainly, is_plain_literal, is_plain_piece}
use Rattle.pyunparse_text.proofs.FieldTexts.Conditions.{IsFieldExpression, expression_text}
use Rattle.pyunparse_text.proofs.FieldTexts.NumberCharacters.{number_plain}
use Rattle.pyunparse_text.proofs.FieldTexts.PieceScans.{name_all}
use Rattle.pyunparse_text.proofs.FieldTexts.TextCharacters.{can_stand, is_kept}
use Rattle.pyunparse_text.proofs.FieldTexts.Texts.{text_source, IsText, text_skips, text_scalars, text_kept}
use Rattle.pyunparse_text.proofs.FieldTexts.FormattedCuts.{is_allowed, IsWrittenField, a_written_field, AreParts, no_parts, a_text, a_field}
use Rattle.pyunparse_text.proofs.FieldTexts.FormattedCuts.{text_and_field, IsInner, IsInnerField, IsOuter, IsOuterField, IsBody}
use Rattle.pyunparse_text.proofs.FieldTexts.FormattedCuts.{elements_text}
use Rattle.pyunparse_text.proofs.FieldTexts.FormattedCuts.{field_text_is}
use Rattle.pyunparse_text.proofs.FieldTexts.FormattedCuts as cut
use Rattle.pyunparse_text.proofs.StringTerminals.Bodies.{weaker}
use Rattle.pyunparse_text.proofs.Sources.Decoding.{both_in}

-- characters in an f-string, by whether that stands in a field
pub record IsInString (is_in_field : Bool) (w : List ℕ) : Type 0 where
  pub skips : Skips (quote is_in_field) w
  pub kept : list_all is_kept w ≡ true
  pub scalars : all_scalars w ≡ true
  pub own : is_in_field ≡ true → list_all is_own w ≡ true

both : {is_in_field : Bool} (a b : List ℕ) → IsInString is_in_field a → IsInString is_in_field b → IsInString is_in_field (a ++ b)
both {is_in_field} a b x y = record {
  skips = both_skip (quote is_in_field) a b x.skips y.skips;
  kept = both_in is_kept a b x.kept y.kept;
  scalars = scalars_both a b x.scalars y.scalars;
  own = λ e. both_in is_own a b (x.own e) (y.own e);
}

nothing : (is_in_field : Bool) → IsInString is_in_field []
nothing is_in_field = record { skips = none_skip (quote is_in_field); kept = refl; scalars = refl; own = λ e. refl }

-- ---- Own characters.

-- what is no quote, or in no field a double one
abbrev is_in_quotes : Bool → ℕ → Bool
is_in_quotes is_in_field c = is_own c || (not is_in_field && (c == 34))

record Free (is_in_field : Bool) (c : ℕ) : Type 0 where
  pub skips : Skips (quote is_in_field) (c ∷ [])
  pub kept : is_kept c ≡ true
  pub own : is_in_field ≡ true → is_own c ≡ true

own_free : (is_in_field : Bool) (c : ℕ) → is_own c ≡ true → Free is_in_field c
own_free is_in_field c o =
    let p1 = and_parts (not (is_quote c)) _ o in
    let p2 = and_parts (not (c == 92)) _ p1.1 in
    let p3 = and_parts (is_comment_part c) (not (c == 0)) p2.1 in
    let p4 = and_parts (not (c == 10)) (not (c == 13)) p3.0 in
    let q = or_parts (c == 39) (c == 34) (not-true (is_quote c) p1.0) in
    record {
      skips =
          own_skips (quote is_in_field) c
          (record {
            slash = not-true (c == 92) p2.0;
            quote = which is_in_field q.0 q.1;
            feed = not-true (c == 10) p4.0;
            return = not-true (c == 13) p4.1;
          });
      kept = and_from (not (c == 13)) (not (c == 0)) p4.1 p3.1;
      own = λ e. o;
    }
  where
    which : (b : Bool) → (c == 39) ≡ false → (c == 34) ≡ false → (c == quote b) ≡ false
    which true s d = d
    which false s d = s

free : (is_in_field : Bool) (c : ℕ) → is_in_quotes is_in_field c ≡ true → Free is_in_field c
free is_in_field c e = elim (cases_Bool (is_own c)) [
  | inl o ↦ own_free is_in_field c o
  | inr n ↦ double is_in_field (rw n at e)
]
  where
    double : (b : Bool) → (not b && (c == 34)) ≡ true → Free b c
    double true e = cc
    double false e =
        subst (Free false) (sym (eqb-true c 34 e))
        (record { skips = own_skips 39 34 (record { slash = refl; quote = refl; feed = refl; return = refl }); kept = refl; own = λ f. cc })

-- scalars that are such characters
all_free : (is_in_field : Bool) (t : List ℕ) → all_scalars t ≡ true → list_all (is_in_quotes is_in_field) t ≡ true
    → IsInString is_in_field t
all_free is_in_field [] s a = nothing is_in_field
all_free is_in_field (c ∷ t) s a =
    let p = and_parts (is_in_quotes is_in_field c) (list_all (is_in_quotes is_in_field) t) a in
    let q = and_parts _ (all_scalars t) s in
    let f = free is_in_field c p.0 in
    let r = all_free is_in_field t q.1 p.1 in
    record {
      skips = both_skip (quote is_in_field) (c ∷ []) t f.skips r.skips;
      kept = and_from (is_kept c) (list_all is_kept t) f.kept r.kept;
      scalars = s;
      own = λ e. and_from (is_own c) (list_all is_own t) (f.own e) (r.own e);
    }

own_in_quotes : (is_in_field : Bool) (c : ℕ) → is_own c ≡ true → is_in_quotes is_in_field c ≡ true
own_in_quotes is_in_field c o = rw o refl

-- own characters that are scalars
pub own_in_string : (is_in_field : Bool) (t : List ℕ) → all_scalars t ≡ true → list_all is_own t ≡ true → IsInString is_in_field t
own_in_string is_in_field t s a = all_free is_in_field t s (weaker is_own (is_in_quotes is_in_field) (own_in_quotes is_in_field) t a)

-- ---- The expression of a field.

plain_in_quotes : (is_in_field : Bool) (c : ℕ) → is_plain c ≡ true → is_in_quotes is_in_field c ≡ true
plain_in_quotes is_in_field c e =
    own_in_quotes is_in_field c (and_parts (is_own c) _ (and_parts (is_inner c) _ (and_parts (is_calm c) _ e).0).0).0

operator_own : (t : List ℕ) → is_operator t ≡ true → list_all is_own t ≡ true
operator_own t e = one_of (list_all is_own) t words refl (sym (by_words t) ∙ e)

-- a literal in double quotes
ends_in_quotes : (t : List ℕ) → ends_plainly 34 t ≡ true → list_all (is_in_quotes false) t ≡ true
ends_in_quotes [] e = refl
ends_in_quotes (c ∷ []) e = subst (λ (x : ℕ). list_all (is_in_quotes false) (x ∷ []) ≡ true) (sym (eqb-true c 34 e)) refl
ends_in_quotes (c ∷ d ∷ t) e =
    let p = and_parts (is_own c) (ends_plainly 34 (d ∷ t)) e in
    and_from (is_in_quotes false c) (list_all (is_in_quotes false) (d ∷ t)) (own_in_quotes false c p.0) (ends_in_quotes (d ∷ t) p.1)

literal_in_quotes : (t : List ℕ) → is_plain_literal t ≡ true → list_all (is_in_quotes false) t ≡ true
literal_in_quotes [] e = refl
literal_in_quotes (c ∷ t) e = elim (cases_Bool (c == 34)) [
  | inl h ↦ and_from (is_in_quotes false c) (list_all (is_in_quotes false) t)
      (subst (λ (x : ℕ). is_in_quotes false x ≡ true) (sym (eqb-true c 34 h)) refl)
      (ends_in_quotes t (first (c == 34) (ends_plainly 34 t) (is_plain c && is_plain_literal t) h e))
  | inr h ↦
      let p = and_parts (is_plain c) (is_plain_literal t) (second (c == 34) (ends_plainly 34 t) (is_plain c && is_plain_literal t) h e) in
      and_from (is_in_quotes false c) (list_all (is_in_quotes false) t) (plain_in_quotes false c p.0) (literal_in_quotes t p.1)
]
  where
    first : (b x y : Bool) → b ≡ true → (if b then x else y) ≡ true → x ≡ true
    first true x y h e = e
    first false x y h e = cc

    second : (b x y : Bool) → b ≡ false → (if b then x else y) ≡ true → y ≡ true
    second true x y h e = cc
    second false x y h e = e

token_in_quotes : (is_in_field : Bool) (k : Kind) (t : List ℕ) → is_token k t ≡ true
    → (elim k [ kinds.String ↦ is_plain_literal t | _ ↦ true ]) ≡ true → (elim k [ kinds.String ↦ not is_in_field | _ ↦ true ]) ≡ true
    → list_all (is_in_quotes is_in_field) t ≡ true
token_in_quotes is_in_field kinds.Name t e p a = weaker is_plain (is_in_quotes is_in_field) (plain_in_quotes is_in_field) t (name_all t e)
token_in_quotes is_in_field kinds.Number t e p a =
    weaker is_plain (is_in_quotes is_in_field) (plain_in_quotes is_in_field) t (number_plain t (and_parts _ (is_number t) e).1)
token_in_quotes false kinds.String t e p a = literal_in_quotes t p
token_in_quotes true kinds.String t e p a = cc
token_in_quotes is_in_field kinds.Op t e p a = weaker is_own (is_in_quotes is_in_field) (own_in_quotes is_in_field) t (operator_own t e)
token_in_quotes is_in_field kinds.Encoding t e p a = cc
token_in_quotes is_in_field kinds.Comment t e p a = cc
token_in_quotes is_in_field kinds.Nl t e p a = cc
token_in_quotes is_in_field kinds.Newline t e p a = cc
token_in_quotes is_in_field kinds.Indent t e p a = cc
token_in_quotes is_in_field kinds.Dedent t e p a = cc
token_in_quotes is_in_field kinds.EndMarker t e p a = cc

blank_or_none : (is_in_field b : Bool) → IsInString is_in_field (if b then 32 ∷ [] else [])
blank_or_none is_in_field true = all_free is_in_field (32 ∷ []) refl refl
blank_or_none is_in_field false = nothing is_in_field

none_or_blank : (is_in_field b : Bool) → IsInString is_in_field (if b then [] else 32 ∷ [])
none_or_blank is_in_field true = nothing is_in_field
none_or_blank is_in_field false = all_free is_in_field (32 ∷ []) refl refl

record CanBeIn (is_in_field : Bool) (ps : List Piece) : Type 0 where
  pub pieces : ArePieces ps
  pub plain : list_all is_plain_piece ps ≡ true
  pub allowed : list_all (is_allowed is_in_field) ps ≡ true
  pub scalars : list_all (λ p. all_scalars p.text) ps ≡ true

record FirstCan (is_in_field : Bool) (p : Piece) (ps : List Piece) : Type 0 where
  pub here : IsInString is_in_field p.text
  pub later : CanBeIn is_in_field ps

first_can : (is_in_field : Bool) (p : Piece) (ps : List Piece) → CanBeIn is_in_field (p ∷ ps) → FirstCan is_in_field p ps
first_can is_in_field p ps c =
    let i = and_parts (is_token p.kind p.text) (list_all (λ r. is_token r.kind r.text) ps) c.pieces in
    let k = and_parts (is_plain_piece p) (list_all is_plain_piece ps) c.plain in
    let a = and_parts (is_allowed is_in_field p) (list_all (is_allowed is_in_field) ps) c.allowed in
    let s = and_parts (all_scalars p.text) (list_all (λ p. all_scalars p.text) ps) c.scalars in
    record {
      here = all_free is_in_field p.text s.0 (token_in_quotes is_in_field p.kind p.text i.0 k.0 a.0);
      later = record { pieces = i.1; plain = k.1; allowed = a.1; scalars = s.1 };
    }

after_in : (is_in_field : Bool) (p : Piece) (qs : List Piece) → CanBeIn is_in_field qs → IsInString is_in_field (text_following p qs)
after_in is_in_field p [] c = nothing is_in_field
after_in is_in_field p (q ∷ qs) c =
    let f = first_can is_in_field q qs c in
    both (if touches p q then [] else 32 ∷ []) (q.text ++ text_following q qs) (none_or_blank is_in_field (touches p q))
    (both q.text (text_following q qs) f.here (after_in is_in_field q qs f.later))

expression_in : (is_in_field : Bool) (ps : List Piece) → IsFieldExpression ps → list_all (is_allowed is_in_field) ps ≡ true
    → IsInString is_in_field (expression_text ps)
expression_in is_in_field [] e a = nothing is_in_field
expression_in is_in_field (p ∷ ps) e a =
    let r = and_parts (list_all (λ q. is_token q.kind q.text) (p ∷ ps)) (all_apart p ps) e.readable in
    let f = first_can is_in_field p ps (record { pieces = r.0; plain = e.plain; allowed = a; scalars = e.scalars }) in
    both (if begins_with 123 p.text then 32 ∷ [] else []) (p.text ++ text_following p ps) (blank_or_none is_in_field (begins_with 123 p.text))
    (both p.text (text_following p ps) f.here (after_in is_in_field p ps f.later))

-- ---- Elements.

character_own : (in_spec : Bool) (c : ℕ) → can_stand true in_spec c ≡ true → list_all is_own (character_text true in_spec c) ≡ true
character_own true c e =
    let p = and_parts (is_own c) _ e in
    let q = and_parts (all_scalars (c ∷ [])) (not (is_brace c)) p.1 in
    let b = not-true (is_brace c) q.1 in
    rw (b, q.0) (and_from (is_own c) true p.0 refl)
character_own false c e =
    let p = and_parts (is_own c) _ e in
    let a = (and_parts (all_scalars (c ∷ [])) true p.1).0 in
    elim (cases_Bool (is_brace c)) [
      | inl b ↦ rw b (and_from (is_own c) (list_all is_own (c ∷ [])) p.0 (and_from (is_own c) true p.0 refl))
      | inr b ↦ rw (b, a) (and_from (is_own c) true p.0 refl)
    ]

text_own : (is_in_field in_spec : Bool) (t : List ℕ) → IsText is_in_field in_spec t → is_in_field ≡ true
    → list_all is_own (text_source is_in_field in_spec t) ≡ true
text_own false in_spec t a e = cc
text_own true in_spec [] a e = refl
text_own true in_spec (c ∷ t) a e =
    let p = and_parts (can_stand true in_spec c) (list_all (can_stand true in_spec) t) a in
    both_in is_own (character_text true in_spec c) (text_source true in_spec t) (character_own in_spec c p.0)
    (text_own true in_spec t p.1 e)

text_in : (is_in_field in_spec : Bool) (t : List ℕ) → IsText is_in_field in_spec t
    → IsInString is_in_field (text_source is_in_field in_spec t)
text_in is_in_field in_spec t a = record {
  skips = text_skips is_in_field in_spec t a;
  kept = text_kept is_in_field in_spec t a;
  scalars = text_scalars is_in_field in_spec t a;
  own = text_own is_in_field in_spec t a;
}

conversion_in : (is_in_field : Bool) (c : Conversion) → IsInString is_in_field (conversion_text c)
conversion_in is_in_field conversions.None = nothing is_in_field
conversion_in is_in_field conversions.Str = all_free is_in_field (conversion_text conversions.Str) refl refl
conversion_in is_in_field conversions.Repr = all_free is_in_field (conversion_text conversions.Repr) refl refl
conversion_in is_in_field conversions.Ascii = all_free is_in_field (conversion_text conversions.Ascii) refl refl

elements_both : (is_in_field : Bool) (es fs : List (Element Sited)) → IsInString is_in_field (elements_text is_in_field es)
    → IsInString is_in_field (elements_text is_in_field fs) → IsInString is_in_field (elements_text is_in_field (es ++ fs))
elements_both is_in_field es fs x y =
    subst (IsInString is_in_field) (sym (flat_map-append (element_text is_in_field) es fs))
    (both (elements_text is_in_field es) (elements_text is_in_field fs) x y)

-- what a relation says of elements, their text is in a string
abbrev AreIn : {S : Type 0} → Bool → (List (Element Sited) → S → Type 0) → Type 0
AreIn {S} is_in_field Relation = (es : List (Element Sited)) (s : S) → Relation es s → IsInString is_in_field (elements_text is_in_field es)

field_in : {S : Type 0} (is_in_field : Bool) (IsSpecOf : List (Element Sited) → Option S → Type 0) → AreIn is_in_field IsSpecOf
    → AreIn is_in_field (IsWrittenField is_in_field IsSpecOf)
field_in is_in_field IsSpecOf h es f (a_written_field {c = c} {ps = ps} {es = ss} {s = s} e n i) =
    let qs : List Piece = in_field ps in
    both (field_text qs ++ conversion_text c) (elements_text is_in_field (ss ++ End ∷ []))
    (both (field_text qs) (conversion_text c)
    (subst (IsInString is_in_field) (sym (field_text_is qs))
    (both (123 ∷ []) (expression_text qs) (all_free is_in_field (123 ∷ []) refl refl) (expression_in is_in_field qs e n)))
    (conversion_in is_in_field c))
    (elements_both is_in_field ss (End ∷ []) (h ss s i) (all_free is_in_field (125 ∷ []) refl refl))

parts_in : {S : Type 0} (is_in_field in_spec : Bool) (IsFieldOf : List (Element Sited) → FieldParts S → Type 0)
    → AreIn is_in_field IsFieldOf
    → AreIn is_in_field (AreParts is_in_field in_spec IsFieldOf)
parts_in is_in_field in_spec IsFieldOf h es ps no_parts = nothing is_in_field
parts_in is_in_field in_spec IsFieldOf h es ps (a_text {t = t} a) =
    both (text_source is_in_field in_spec t) [] (text_in is_in_field in_spec t a) (nothing is_in_field)
parts_in is_in_field in_spec IsFieldOf h es ps (a_field {es = gs} {fs = fs} {f = f} {ps = qs} g r) =
    elements_both is_in_field gs fs (h gs f g) (parts_in is_in_field in_spec IsFieldOf h fs qs r)
parts_in is_in_field in_spec IsFieldOf h es ps (text_and_field {t = t} {es = gs} {fs = fs} {f = f} {ps = qs} a g r) =
    both (text_source is_in_field in_spec t) (elements_text is_in_field (gs ++ fs)) (text_in is_in_field in_spec t a)
    (elements_both is_in_field gs fs (h gs f g) (parts_in is_in_field in_spec IsFieldOf h fs qs r))

inner_in : (is_in_field : Bool) → AreIn is_in_field (IsInner is_in_field)
inner_in is_in_field es s cut.none = nothing is_in_field
inner_in is_in_field es s cut.empty = all_free is_in_field (58 ∷ []) refl refl
inner_in is_in_field es s (cut.one {t = t} a) =
    both (58 ∷ []) (text_source is_in_field true t ++ []) (all_free is_in_field (58 ∷ []) refl refl)
    (both (text_source is_in_field true t) [] (text_in is_in_field true t a) (nothing is_in_field))

outer_in : (is_in_field : Bool) → AreIn is_in_field (IsOuter is_in_field)
outer_in is_in_field es s cut.none = nothing is_in_field
outer_in is_in_field es s (cut.some {es = gs} {ps = ps} a) =
    both (58 ∷ []) (elements_text is_in_field gs) (all_free is_in_field (58 ∷ []) refl refl)
    (parts_in is_in_field true (IsInnerField is_in_field) (field_in is_in_field (IsInner is_in_field) (inner_in is_in_field)) gs ps a)

-- The law: what stands between the quotes is in a string.
pub body_in_string : (is_in_field : Bool) (es : List (Element Sited)) (ps : List BodyPart) → IsBody is_in_field es ps
    → IsInString is_in_field (elements_text is_in_field es)
body_in_string is_in_field es ps b =
    parts_in is_in_field false (IsOuterField is_in_field) (field_in is_in_field (IsOuter is_in_field) (outer_in is_in_field)) es ps b
