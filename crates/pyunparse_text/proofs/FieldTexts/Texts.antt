-- A text of an f-string comes back: what it is written in is read as it, and neither ends the literal nor has a fault (reference 2.4.1 and
-- 2.4.3).
--
-- Carries: text_passed, text_comes_back and 3 more, for what reads f-strings back. On: TextCharacters.
use Rattle.std.proofs.Common.{◌≡◌, ℕ, Bool, true, false, not, ◌==◌, List, [], ◌∷◌, ◌++◌, map, refl, sym, ◌∙◌, ap, append-nil}
use Rattle.std.proofs.Common.{if◌then◌else◌}
use Rattle.std.specs.List.{list_all, list_any, flat_map}
use Rattle.std.specs.Str.{all_scalars}
use Rattle.std.proofs.lemmas.Bool.{and_from, and_parts}
use Rattle.std.proofs.lemmas.List.Folds.{list_all-append}
use Rattle.pyfstring.specs.Texts.{begins_with, is_brace, unit_len, units_after, after_text}
use Rattle.pyfstring.specs.Singles.{single, single_after}
use Rattle.pytoken.specs.declared.meanings.Meaning.{Meaning}
use Rattle.pytoken.specs.declared.meanings.Meaning.TheVariants.{Point}
use Rattle.pytoken.specs.Escapes.{meanings_after, meanings, points_in, is_named_escape, is_bad_escape}
use Rattle.pytoken.specs.StringValues.{with_line_feeds}
use Rattle.pytoken.specs.FormattedStrings.{TextPart, text_meanings, text_points}
use Rattle.pyunparse_text.specs.Pieces.{character_text, quote}
use Rattle.pyunparse_text.proofs.SingleTokens.Literals.{Skips, both_skip, none_skip}
use Rattle.pyunparse_text.proofs.Sources.Bytes.{scalars_both}
use Rattle.pyunparse_text.proofs.FieldTexts.TextUnits.{Units, units_none, units_both}
use Rattle.pyunparse_text.proofs.FieldTexts.TextCharacters.{can_stand, is_kept, single_text, character_comes, brace_of}

-- the characters that a text is written in
abbrev pub text_source : Bool → Bool → List ℕ → List ℕ
text_source is_in_field in_spec t = flat_map (character_text is_in_field in_spec) t

abbrev text_single : Bool → Bool → List ℕ → List ℕ
text_single is_in_field in_spec t = flat_map (single_text is_in_field in_spec) t

-- a text that has a writing
abbrev pub IsText : Bool → Bool → List ℕ → Type 0
IsText is_in_field in_spec t = list_all (can_stand is_in_field in_spec) t ≡ true

-- What ends a text: nothing more; in a body a `{` that another doesn't follow; in a format spec a brace.
pub data EndsText : Bool → List ℕ → Type 0 where
  nothing : {in_spec : Bool} → EndsText in_spec []
  opener : {r : List ℕ} → begins_with 123 r ≡ false → EndsText false (123 ∷ r)
  brace_next : {c : ℕ} {r : List ℕ} → is_brace c ≡ true → EndsText true (c ∷ r)

record All (is_in_field in_spec : Bool) (t w v : List ℕ) : Type 0 where
  pub units : Units (not in_spec) w v
  pub read : meanings_after false false 0 v ≡ map (λ c. Point c) t
  pub kept : list_all is_kept v ≡ true
  pub skips : Skips (quote is_in_field) w
  pub scalars : all_scalars w ≡ true
  pub whole : list_all is_kept w ≡ true

both_kept : (a b : List ℕ) → list_all is_kept a ≡ true → list_all is_kept b ≡ true → list_all is_kept (a ++ b) ≡ true
both_kept a b e f = list_all-append is_kept a b ∙ and_from (list_all is_kept a) (list_all is_kept b) e f

all : (is_in_field in_spec : Bool) (t : List ℕ) → IsText is_in_field in_spec t
    → All is_in_field in_spec t (text_source is_in_field in_spec t) (text_single is_in_field in_spec t)
all is_in_field in_spec [] a =
    record {
      units = units_none (not in_spec);
      read = refl;
      kept = refl;
      skips = none_skip (quote is_in_field);
      scalars = refl;
      whole = refl;
    }
all is_in_field in_spec (c ∷ t) a =
    let p = and_parts (can_stand is_in_field in_spec c) (list_all (can_stand is_in_field in_spec) t) a in
    let i = character_comes is_in_field in_spec c p.0 in
    let r = all is_in_field in_spec t p.1 in
    let w : List ℕ = character_text is_in_field in_spec c in
    let v : List ℕ = single_text is_in_field in_spec c in
    let ws : List ℕ = text_source is_in_field in_spec t in
    let vs : List ℕ = text_single is_in_field in_spec t in
    record {
      units = units_both ws vs i.units r.units;
      read = i.read vs ∙ ap (λ (ms : List Meaning). Point c ∷ ms) r.read;
      kept = both_kept v vs i.kept r.kept;
      skips = both_skip (quote is_in_field) w ws i.skips r.skips;
      scalars = scalars_both w ws i.scalars r.scalars;
      whole = both_kept w ws i.whole r.whole;
    }

-- ---- It is read off the front.

ends_there : (in_spec : Bool) (rest : List ℕ) → EndsText in_spec rest → units_after false (not in_spec) 0 rest ≡ rest
unfolding unit_len
ends_there in_spec [] nothing = refl
ends_there false (c ∷ r) (opener e) = rw (e, units_after) refl
ends_there true (c ∷ r) (brace_next b) = brace_of (λ x. units_after false false 0 (x ∷ r) ≡ x ∷ r) c refl refl b

pub text_passed : (is_in_field in_spec : Bool) (t rest : List ℕ) → IsText is_in_field in_spec t → EndsText in_spec rest
    → after_text false (not in_spec) (text_source is_in_field in_spec t ++ rest) ≡ rest
unfolding after_text
text_passed is_in_field in_spec t rest a e = (all is_in_field in_spec t a).units.passed rest ∙ ends_there in_spec rest e

-- ---- It stands for the text.

-- the text as it stands
abbrev pub text_part : Bool → Bool → List ℕ → TextPart
text_part is_in_field in_spec t = record { is_raw = false; has_pairs = not in_spec; source = text_source is_in_field in_spec t }

pub no_returns : (t : List ℕ) → list_all is_kept t ≡ true → with_line_feeds t ≡ t
no_returns [] a = refl
no_returns (c ∷ t) a =
    let p = and_parts (is_kept c) (list_all is_kept t) a in
    let q = and_parts (not (c == 13)) (not (c == 0)) p.0 in
    rw q.0 (ap (λ u. c ∷ u) (no_returns t p.1))

read_single : (is_in_field in_spec : Bool) (t : List ℕ) → IsText is_in_field in_spec t
    → (if not in_spec then single false (text_source is_in_field in_spec t) else text_source is_in_field in_spec t)
    ≡ text_single is_in_field in_spec t
unfolding single
read_single is_in_field true t a = refl
read_single is_in_field false t a =
    let s : List ℕ = text_source is_in_field false t in
    let v : List ℕ = text_single is_in_field false t in
    ap (single_after false 0) (sym (append-nil s)) ∙ (all is_in_field false t a).units.single [] refl ∙ append-nil v

all_read : (is_in_field in_spec : Bool) (t : List ℕ) → IsText is_in_field in_spec t
    → text_meanings (text_part is_in_field in_spec t) ≡ map (λ c. Point c) t
unfolding text_meanings meanings
all_read is_in_field in_spec t a =
    let r = all is_in_field in_spec t a in
    ap (λ u. meanings_after false false 0 (with_line_feeds u)) (read_single is_in_field in_spec t a)
    ∙ ap (meanings_after false false 0) (no_returns (text_single is_in_field in_spec t) r.kept)
    ∙ r.read

pub points_are : (t : List ℕ) → flat_map points_in (map (λ c. Point c) t) ≡ t
points_are [] = refl
points_are (c ∷ t) = ap (λ u. c ∷ u) (points_are t)

pub text_comes_back : (is_in_field in_spec : Bool) (t : List ℕ) → IsText is_in_field in_spec t
    → text_points (text_part is_in_field in_spec t) ≡ t
unfolding text_points
text_comes_back is_in_field in_spec t a = ap (flat_map points_in) (all_read is_in_field in_spec t a) ∙ points_are t

-- ---- It has no fault.

pub none_named : (t : List ℕ) → list_any is_named_escape (map (λ c. Point c) t) ≡ false
none_named [] = refl
none_named (c ∷ t) = none_named t

pub none_bad : (t : List ℕ) → list_any is_bad_escape (map (λ c. Point c) t) ≡ false
none_bad [] = refl
none_bad (c ∷ t) = none_bad t

-- none of what stands in it is an escape with a fault
pub text_sound : (is_in_field in_spec : Bool) (t : List ℕ) → IsText is_in_field in_spec t
    → (list_any is_named_escape (text_meanings (text_part is_in_field in_spec t)) ≡ false) ×
    (list_any is_bad_escape (text_meanings (text_part is_in_field in_spec t)) ≡ false)
text_sound is_in_field in_spec t a =
    let r = all_read is_in_field in_spec t a in (ap (list_any is_named_escape) r ∙ none_named t, ap (list_any is_bad_escape) r ∙ none_bad t)

-- ---- It stands in a literal.

-- it has no line end, and ends no literal in that quote
pub text_skips : (is_in_field in_spec : Bool) (t : List ℕ) → IsText is_in_field in_spec t
    → Skips (quote is_in_field) (text_source is_in_field in_spec t)
text_skips is_in_field in_spec t a = (all is_in_field in_spec t a).skips

pub text_scalars : (is_in_field in_spec : Bool) (t : List ℕ) → IsText is_in_field in_spec t
    → all_scalars (text_source is_in_field in_spec t) ≡ true
text_scalars is_in_field in_spec t a = (all is_in_field in_spec t a).scalars

-- it has neither a CR nor U+0000
pub text_kept : (is_in_field in_spec : Bool) (t : List ℕ) → IsText is_in_field in_spec t
    → list_all is_kept (text_source is_in_field in_spec t) ≡ true
text_kept is_in_field in_spec t a = (all is_in_field in_spec t a).whole
