-- Carries: the laws of the slots. On: the parts of f-strings that fit, and the values that they make.
use Rattle.std.proofs.Common.{◌≡◌, refl, ℕ, zero, suc, List, [], ◌∷◌, ◌++◌, Bool, true, false, ◌&&◌}
use Rattle.std.specs.Prelude.{leb, not, ◌||◌}
use Rattle.std.proofs.lemmas.Bool.{and_parts, and_from, or_left, or_right}
use Rattle.pyfstring.specs.declared.parts.Conversion.{Conversion}
use Rattle.pytree_node.specs.Trees
use Rattle.pytree_node.specs.Trees.{Expr, Exprs, OptionalExpr}
use Rattle.pygrammar.specs.declared.levels.Level.TheVariants.{Expression}
use Rattle.pygrammar.specs.Forms.{is_whole}
use Rattle.pygrammar.specs.FormattedStrings.{StringPart, Text, Field, with_text, merged, values_of, spec_values_of}
use Rattle.pytree_fits.specs.Tests.{Tests, in_field}
use Rattle.std.specs.List.{list_all}
use Rattle.pytoken.specs.Laws.{is_point}
use Rattle.pytree_fits.specs.Literals.{is_no_brace, has_text, has_formatted_text}
use Rattle.pytree_fits.specs.Slots.{fits_at, is_kind, are_apart, is_last, have_kind, spec_has_kind, may_be_joined}
use Rattle.pytree_fits.specs.Slots.{each_value_fits, spec_fits, joined_fits}
use Rattle.pytree_fits.proofs.Fields.Tests.{from3, text_on}
use Rattle.pyunparse_text.proofs.Callers.Strings.{both_in}

-- ---- Texts.

-- a text of a literal is one of an f-string
pub plain_text : (f : ℕ) (t : List ℕ) → has_text f t ≡ true → has_formatted_text f 0 t ≡ true
plain_text zero t h = h
plain_text (suc k) t h = h

-- texts side by side
pub formatted_on : (f d : ℕ) (t s : List ℕ) → has_formatted_text f d t ≡ true → has_formatted_text f d s ≡ true
    → has_formatted_text f d (t ++ s) ≡ true
formatted_on zero d t s h g = both_in is_point t s h g
formatted_on (suc k) zero t s h g = text_on (suc k) t s h g
formatted_on (suc k) (suc d) t s h g =
    let u = and_parts (has_text (suc k) t) (list_all is_no_brace t) h in
    let w = and_parts (has_text (suc k) s) (list_all is_no_brace s) g in
    and_from (has_text (suc k) (t ++ s)) (list_all is_no_brace (t ++ s)) (text_on (suc k) t s u.0 w.0) (both_in is_no_brace t s u.1 w.1)

-- ---- Parts that fit, of texts of this kind, which stand in so many format specs.

pub data PartFits (n : Tests) (u : Bool) (d : ℕ) : StringPart → Type 0 where
  text_part : {t : List ℕ} → has_formatted_text n.fields d t ≡ true → PartFits n u d (Text t)
  field_part : {v : Expr} {c : Conversion} {s : OptionalExpr} → leb d 1 ≡ true → fits_at (in_field n) Expression v ≡ true
      → spec_fits n (suc d) s ≡ true → spec_has_kind u s ≡ true →
      PartFits n u d (Field (Trees.FormattedValue v c s))

pub data PartsFit (n : Tests) (u : Bool) (d : ℕ) : List StringPart → Type 0 where
  no_part : PartsFit n u d []
  a_part : {p : StringPart} {ps : List StringPart} → PartFits n u d p → PartsFit n u d ps → PartsFit n u d (p ∷ ps)

-- none of their texts is empty, and no two stand side by side, after a text or not
data Valued (n : Tests) (u : Bool) (d : ℕ) : Bool → List StringPart → Type 0 where
  no_value : {b : Bool} → Valued n u d b []
  a_text : {c : ℕ} {cs : List ℕ} {ps : List StringPart} → has_formatted_text n.fields d (c ∷ cs) ≡ true → Valued n u d true ps
      → Valued n u d false (Text (c ∷ cs) ∷ ps)
  a_field : {b : Bool} {v : Expr} {c : Conversion} {s : OptionalExpr} {ps : List StringPart} →
      leb d 1 ≡ true → fits_at (in_field n) Expression v ≡ true → spec_fits n (suc d) s ≡ true → spec_has_kind u s ≡ true
      → Valued n u d false ps →
      Valued n u d b (Field (Trees.FormattedValue v c s) ∷ ps)

own_kind : (u : Bool) → is_kind (u && not false) u ≡ true
own_kind true = refl
own_kind false = refl

module _ (n : Tests) (u : Bool) (d : ℕ) where
  pub parts_on : {ps qs : List StringPart} → PartsFit n u d ps → PartsFit n u d qs → PartsFit n u d (ps ++ qs)
  parts_on no_part g = g
  parts_on (a_part p r) g = a_part p (parts_on r g)

  text_before : (t : List ℕ) {ps : List StringPart} → has_formatted_text n.fields d t ≡ true → Valued n u d false ps
      → Valued n u d false (with_text t ps)
  text_before [] h r = r
  text_before (c ∷ cs) h no_value = a_text h no_value
  text_before (c ∷ cs) h (a_text {c = e} {cs = es} g r) = a_text (formatted_on n.fields d (c ∷ cs) (e ∷ es) h g) r
  text_before (c ∷ cs) h (a_field f g x y r) = a_text h (a_field f g x y r)

  merged_values : {ps : List StringPart} → PartsFit n u d ps → Valued n u d false (merged ps)
  merged_values no_part = no_value
  merged_values (a_part (text_part {t = t} h) r) = text_before t h (merged_values r)
  merged_values (a_part (field_part f g x y) r) = a_field f g x y (merged_values r)

  -- ---- Their values.

  apart : {b : Bool} {ps : List StringPart} → Valued n u d b ps → are_apart b (values_of u ps) ≡ true
  apart no_value = refl
  apart (a_text h r) = apart r
  apart {b = true} (a_field f g x y r) = apart r
  apart {b = false} (a_field f g x y r) = apart r

  each : {b : Bool} {ps : List StringPart} → Valued n u d b ps → each_value_fits n d (values_of u ps) ≡ true
  each no_value = refl
  each (a_text {c = c} {cs = cs} {ps = ps} h r) = and_from (has_formatted_text n.fields d (c ∷ cs))
      (each_value_fits n d (values_of u ps)) h (each r)
  each (a_field {v = v} {s = s} {ps = ps} f g x y r) =
      and_from (leb d 1 && fits_at (in_field n) Expression v && spec_fits n (suc d) s) (each_value_fits n d (values_of u ps))
      (from3 (leb d 1) (fits_at (in_field n) Expression v) (spec_fits n (suc d) s) f g x) (each r)

  kinds : {b : Bool} {ps : List StringPart} → Valued n u d b ps → have_kind u false (values_of u ps) ≡ true
  kinds no_value = refl
  kinds (a_text {ps = ps} h r) = and_from (is_kind (u && not false) u) (have_kind u false (values_of u ps)) (own_kind u) (kinds r)
  kinds (a_field {s = s} {ps = ps} f g x y r) = and_from (spec_has_kind u s) (have_kind u false (values_of u ps)) y (kinds r)

  -- ---- Those of a format spec.

  spec_apart : {b : Bool} {ps : List StringPart} → Valued n u d b ps → are_apart b (spec_values_of u ps) ≡ true
  spec_apart no_value = refl
  spec_apart (a_text {ps = []} h r) = refl
  spec_apart (a_text {ps = p ∷ ps} h r) = spec_apart r
  spec_apart {b = true} (a_field f g x y r) = spec_apart r
  spec_apart {b = false} (a_field f g x y r) = spec_apart r

  spec_each : {b : Bool} {ps : List StringPart} → Valued n u d b ps → each_value_fits n d (spec_values_of u ps) ≡ true
  spec_each no_value = refl
  spec_each (a_text {c = c} {cs = cs} {ps = []} h r) = and_from (has_formatted_text n.fields d (c ∷ cs)) true h refl
  spec_each (a_text {c = c} {cs = cs} {ps = p ∷ ps} h r) = and_from (has_formatted_text n.fields d (c ∷ cs))
      (each_value_fits n d (spec_values_of u (p ∷ ps))) h (spec_each r)
  spec_each (a_field {v = v} {s = s} {ps = ps} f g x y r) =
      and_from (leb d 1 && fits_at (in_field n) Expression v && spec_fits n (suc d) s) (each_value_fits n d (spec_values_of u ps))
      (from3 (leb d 1) (fits_at (in_field n) Expression v) (spec_fits n (suc d) s) f g x) (spec_each r)

  no_kind : is_kind (u && false) false ≡ true
  no_kind = by u
    where
      by : (u : Bool) → is_kind (u && false) false ≡ true
      by true = refl
      by false = refl

  -- what a text that isn't the last has after it
  more : {p : StringPart} {ps : List StringPart} → Valued n u d true (p ∷ ps) → is_last (spec_values_of u (p ∷ ps)) ≡ false
  more (a_field f g x y r) = refl

  spec_kinds : {b : Bool} {ps : List StringPart} → Valued n u d b ps → have_kind u true (spec_values_of u ps) ≡ true
  spec_kinds no_value = refl
  spec_kinds (a_text {ps = []} h r) = and_from (is_kind (u && false) false) true no_kind refl
  spec_kinds (a_text {ps = p ∷ ps} h r) =
      rw (more r) (and_from (is_kind (u && true) u) (have_kind u true (spec_values_of u (p ∷ ps))) (own_kind u) (spec_kinds r))
  spec_kinds (a_field {s = s} {ps = ps} f g x y r) = and_from (spec_has_kind u s) (have_kind u true (spec_values_of u ps)) y (spec_kinds r)

  -- ---- Nodes of parts.

  pub spec_of_parts : {ps : List StringPart} → PartsFit n u d ps →
      (spec_fits n d (Trees.present (Trees.JoinedStr (spec_values_of u (merged ps)))) ≡ true) ×
      (spec_has_kind u (Trees.present (Trees.JoinedStr (spec_values_of u (merged ps)))) ≡ true)
  spec_of_parts {ps} r =
      let w = merged_values r in (
        and_from (are_apart false (spec_values_of u (merged ps))) (each_value_fits n d (spec_values_of u (merged ps))) (spec_apart w)
            (spec_each w),
        spec_kinds w,
      )

one_kind : (u : Bool) (es : Exprs) → have_kind u false es ≡ true → (have_kind false false es || have_kind true false es) ≡ true
one_kind true es h = or_right (have_kind false false es) (have_kind true false es) h
one_kind false es h = or_left (have_kind false false es) (have_kind true false es) h

pub joined_of_parts : (n : Tests) (u : Bool) {ps : List StringPart} → (is_whole n.extent && leb n.fields 1) ≡ true → PartsFit n u 0 ps
    → joined_fits n (values_of u (merged ps)) ≡ true
joined_of_parts n u {ps} h r =
    let w = merged_values n u 0 r in
    let es : Exprs = values_of u (merged ps) in
    let k = and_parts (is_whole n.extent) (leb n.fields 1) h in
    from3 (may_be_joined n es) (are_apart false es) (each_value_fits n 0 es)
    (from3 (is_whole n.extent) (leb n.fields 1) (have_kind false false es || have_kind true false es) k.0 k.1
    (one_kind u es (kinds n u 0 w)))
    (apart n u 0 w) (each n u 0 w)
