-- A written f-string is one token, and its elements are those that it is written of (reference 2.4.1 and 2.4.3).
--
-- Carries: formatted_token, formatted_scalars, formatted_plain, formatted_elements and 2 more, for what reads f-strings back. On:
-- FormattedBodies.
use Rattle.std.proofs.Common.{◌≡◌, ℕ, Bool, true, false, not, ◌&&◌, ◌||◌, ◌==◌, List, [], ◌∷◌, ◌++◌, Some, None, refl}
use Rattle.std.proofs.Common.{sym, ◌∙◌}
use Rattle.std.proofs.Common.{ap, ap₂, subst}
use Rattle.std.specs.Prelude.{option_map}
use Rattle.std.specs.List.{list_all, list_any}
use Rattle.std.specs.Str.{all_scalars}
use Rattle.std.proofs.lemmas.Bool.{and_from, eqb-true, false_from_ne_true, not-true, and_parts}
use Rattle.std.proofs.lemmas.List.Folds.{list_all-append}
use Rattle.pyfstring.specs.Parts.{BodyPart}
use Rattle.pyfstring.specs.Cutting.{cut_of}
use Rattle.pylex_listing.specs.declared.kind.Kind.TheVariants as kinds
use Rattle.pylex_lexeme.specs.Chars.{is_comment_part}
use Rattle.pylex_lexeme.specs.Numbers.{is_nil}
use Rattle.pylex_lexeme.specs.Strings.{begins_three, units, ends_by_one, no_units, is_unit, is_single, is_single_string, is_prefix}
use Rattle.pylex_lexeme.proofs.Callers.Strings.{nil_units, unit_one, units_plain}
use Rattle.pytoken.specs.StringValues.{with_line_feeds, is_quote, is_raw, is_formatted, inside, body_of, nul_fault}
use Rattle.pytoken.specs.FormattedStrings.{is_fstring, is_bulky, elements_of, body_part_elements}
use Rattle.pyunparse_text.specs.Spacing.{is_token}
use Rattle.pyunparse_text.specs.Written.{Element}
use Rattle.pyunparse_text.specs.Pieces.{Sited, quote, formatted_text}
use Rattle.pyunparse_text.proofs.Sources.Bytes.{scalars_both}
use Rattle.pyunparse_text.proofs.FieldTexts.Conditions.{is_own, is_plain_literal}
use Rattle.pyunparse_text.proofs.FieldTexts.Enclosures.{literal_plain}
use Rattle.pyunparse_text.proofs.FieldTexts.TextCharacters.{is_kept}
use Rattle.pyunparse_text.proofs.FieldTexts.FormattedCuts.{IsBody, elements_text, body_cut}
use Rattle.pyunparse_text.proofs.FieldTexts.FormattedBodies.{IsInString, body_in_string}
use Rattle.pyunparse_text.proofs.FieldTexts.OperatorScans.{all_but_last}

-- an f-string with this body
abbrev literal : Bool → List ℕ → List ℕ
literal is_in_field w = 102 ∷ quote is_in_field ∷ w ++ quote is_in_field ∷ []

-- ---- It is one token.

pub ends_at_quote : (is_in_field : Bool) (w : List ℕ) → IsInString is_in_field w
    → ends_by_one (quote is_in_field) (units (w ++ quote is_in_field ∷ [])) ≡ true
ends_at_quote false w i = i.skips.1 (39 ∷ [])
ends_at_quote true w i = i.skips.1 (34 ∷ [])

pub in_line : (is_in_field : Bool) (w : List ℕ) → IsInString is_in_field w → list_all is_comment_part (w ++ quote is_in_field ∷ []) ≡ true
in_line false w i = list_all-append is_comment_part w (39 ∷ []) ∙ and_from (list_all is_comment_part w) true i.skips.0 refl
in_line true w i = list_all-append is_comment_part w (34 ∷ []) ∙ and_from (list_all is_comment_part w) true i.skips.0 refl

letter_prefix : is_prefix (102 ∷ []) ≡ true
unfolding is_prefix
letter_prefix = refl

single_string : (is_in_field : Bool) (w : List ℕ) → IsInString is_in_field w → is_single_string (literal is_in_field w) ≡ true
unfolding is_single_string is_single
single_string false w i = let e = ends_at_quote false w i in rw (letter_prefix, e) (right (is_prefix [] && false))
  where
    right : (b : Bool) → (b || true) ≡ true
    right true = refl
    right false = refl
single_string true w i = let e = ends_at_quote true w i in rw (letter_prefix, e) (right (is_prefix [] && false))
  where
    right : (b : Bool) → (b || true) ≡ true
    right true = refl
    right false = refl

literal_token : (is_in_field : Bool) (w : List ℕ) → IsInString is_in_field w → is_token kinds.String (literal is_in_field w) ≡ true
literal_token false w i =
    and_from (is_single_string (literal false w)) (list_all is_comment_part (literal false w)) (single_string false w i) (in_line false w i)
literal_token true w i =
    and_from (is_single_string (literal true w)) (list_all is_comment_part (literal true w)) (single_string true w i) (in_line true w i)

-- ---- Its body.

-- it doesn't begin with the quote
not_first : (q c : ℕ) (w : List ℕ) → (q == 92) ≡ false → ends_by_one q (units (c ∷ w ++ q ∷ [])) ≡ true → (c == q) ≡ false
not_first q c w s e = false_from_ne_true (c == q) (λ h.
    let f : c ≡ q = eqb-true c q h in
    let n : (c == 92) ≡ false = rw f s in
    let g : ends_by_one q ((c ∷ []) ∷ units (w ++ q ∷ [])) ≡ true = subst (λ (u : List (List ℕ)). ends_by_one q u ≡ true)
    (units_plain c (w ++ q ∷ []) n) e in
    let i : is_unit q (c ∷ []) ≡ true = unit_one q c ∙ h in
    let z : no_units (units (w ++ q ∷ [])) ≡ true = rw i at g in
    none w (sym (nil_units (w ++ q ∷ [])) ∙ z))
  where
    none : (w : List ℕ) → is_nil (w ++ q ∷ []) ≡ true → ⊥
    none [] z = cc
    none (d ∷ w) z = cc

not_three : (q : ℕ) (w : List ℕ) → (q == 92) ≡ false → ends_by_one q (units (w ++ q ∷ [])) ≡ true → begins_three (q ∷ w ++ q ∷ []) ≡ false
not_three q [] s e = refl
not_three q (c ∷ []) s e = let n = not_first q c [] s e in rw n (middle ((q == 39) || (q == 34)) (q == q))
  where
    middle : (x y : Bool) → (x && false && y) ≡ false
    middle true y = refl
    middle false y = refl
not_three q (c ∷ d ∷ w) s e = let n = not_first q c (d ∷ w) s e in rw n (middle ((q == 39) || (q == 34)) (d == q))
  where
    middle : (x y : Bool) → (x && false && y) ≡ false
    middle true y = refl
    middle false y = refl

-- what stands between the quotes
pub inside_is : (is_in_field : Bool) (w : List ℕ) → IsInString is_in_field w → inside (quote is_in_field ∷ w ++ quote is_in_field ∷ []) ≡ w
inside_is false w i = let n = not_three 39 w refl (ends_at_quote false w i) in rw n (all_but_last w 39)
inside_is true w i = let n = not_three 34 w refl (ends_at_quote true w i) in rw n (all_but_last w 34)

literal_body : (is_in_field : Bool) (w : List ℕ) → IsInString is_in_field w → body_of (literal is_in_field w) ≡ w
literal_body false w i = inside_is false w i
literal_body true w i = inside_is true w i

-- ---- What its prefix says.

not_raw : (is_in_field : Bool) (w : List ℕ) → is_raw (with_line_feeds (literal is_in_field w)) ≡ false
not_raw false w = refl
not_raw true w = refl

formatted : (is_in_field : Bool) (w : List ℕ) → is_formatted (with_line_feeds (literal is_in_field w)) ≡ true
formatted false w = refl
formatted true w = refl

-- ---- Its elements.

elements_are : (is_in_field : Bool) (w : List ℕ) (ps : List BodyPart) → IsInString is_in_field w
    → cut_of (record { is_raw = false; is_nested = is_in_field }) w ≡ Some ps
    → elements_of is_in_field (literal is_in_field w) ≡ Some (body_part_elements false ps)
unfolding elements_of
elements_are is_in_field w ps i c =
    ap₂ (λ (raw : Bool) (b : List ℕ). option_map (body_part_elements raw) (cut_of (record { is_raw = raw; is_nested = is_in_field }) b))
    (not_raw is_in_field w) (literal_body is_in_field w i)
    ∙ ap (option_map (body_part_elements false)) c

pub no_nul : (t : List ℕ) → list_all is_kept t ≡ true → list_any (λ c. c == 0) t ≡ false
no_nul [] a = refl
no_nul (c ∷ t) a =
    let p = and_parts (is_kept c) (list_all is_kept t) a in
    let q = and_parts (not (c == 13)) (not (c == 0)) p.0 in
    let n = not-true (c == 0) q.1 in
    rw n (no_nul t p.1)

all_kept : (is_in_field : Bool) (w : List ℕ) → list_all is_kept w ≡ true → list_all is_kept (literal is_in_field w) ≡ true
all_kept false w a = list_all-append is_kept w (39 ∷ []) ∙ and_from (list_all is_kept w) true a refl
all_kept true w a = list_all-append is_kept w (34 ∷ []) ∙ and_from (list_all is_kept w) true a refl

pub own_is_no_bulk : (w : List ℕ) → list_all is_own w ≡ true → list_any (λ c. is_quote c || (c == 10)) w ≡ false
own_is_no_bulk [] a = refl
own_is_no_bulk (c ∷ w) a =
    let p = and_parts (is_own c) (list_all is_own w) a in
    let p1 = and_parts (not (is_quote c)) _ p.0 in
    let p2 = and_parts (not (c == 92)) _ p1.1 in
    let p3 = and_parts (is_comment_part c) (not (c == 0)) p2.1 in
    let q = not-true (is_quote c) p1.0 in
    let f = not-true (c == 10) (and_parts (not (c == 10)) (not (c == 13)) p3.0).0 in
    rw (q, f) (own_is_no_bulk w p.1)

-- ---- The laws.

module _ (is_in_field : Bool) (es : List (Element Sited)) (ps : List BodyPart) (b : IsBody is_in_field es ps) where
  in_string : IsInString is_in_field (elements_text is_in_field es)
  in_string = body_in_string is_in_field es ps b

  pub formatted_token : is_token kinds.String (formatted_text is_in_field es) ≡ true
  unfolding in_string
  formatted_token = literal_token is_in_field (elements_text is_in_field es) in_string

  pub formatted_scalars : all_scalars (formatted_text is_in_field es) ≡ true
  unfolding in_string
  formatted_scalars =
      scalars_both (102 ∷ quote is_in_field ∷ []) (elements_text is_in_field es ++ quote is_in_field ∷ []) (two is_in_field)
      (scalars_both (elements_text is_in_field es) (quote is_in_field ∷ []) in_string.scalars (last is_in_field))
    where
      two : (f : Bool) → all_scalars (102 ∷ quote f ∷ []) ≡ true
      two false = refl
      two true = refl

      last : (f : Bool) → all_scalars (quote f ∷ []) ≡ true
      last false = refl
      last true = refl

  pub formatted_is : is_fstring kinds.String (formatted_text is_in_field es) ≡ true
  formatted_is = formatted is_in_field (elements_text is_in_field es)

  pub formatted_elements : elements_of is_in_field (formatted_text is_in_field es) ≡ Some (body_part_elements false ps)
  unfolding in_string
  formatted_elements = elements_are is_in_field (elements_text is_in_field es) ps in_string (body_cut is_in_field is_in_field es ps b)

  pub formatted_no_nul : nul_fault (formatted_text is_in_field es) ≡ None
  unfolding nul_fault in_string
  formatted_no_nul = let n = no_nul (formatted_text is_in_field es) (all_kept is_in_field (elements_text is_in_field es) in_string.kept) in
      rw n refl

-- one in a field is a plain literal, and without quotes in its body
pub formatted_plain : (es : List (Element Sited)) (ps : List BodyPart) → IsBody true es ps
    → is_plain_literal (formatted_text true es) ≡ true
formatted_plain es ps b = literal_plain (102 ∷ []) (elements_text true es) refl ((body_in_string true es ps b).own refl)

pub formatted_not_bulky : (es : List (Element Sited)) (ps : List BodyPart) → IsBody true es ps
    → is_bulky kinds.String (formatted_text true es) ≡ false
formatted_not_bulky es ps b =
    let i = body_in_string true es ps b in
    ap (list_any (λ c. is_quote c || (c == 10))) (literal_body true (elements_text true es) i)
    ∙ own_is_no_bulk (elements_text true es) (i.own refl)
