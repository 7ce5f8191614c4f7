-- Carries: elements. On: the elements of an f-string by the cut of its body.
use Rattle.std.proofs.Common.{◌≡◌, ℕ, Bool, List, Result, Ok, Err, refl, sym, ap, ap₂, subst, ◌∙◌, Option, Some, None}
use Rattle.std.specs.Prelude.{IfErr, IsErrAnd, option_map}
use Rattle.pyfstring.specs.declared.parts.CutError.{CutError}
use Rattle.pyfstring.specs.declared.parts.CutError.TheVariants.{Malformed, Memory}
use Rattle.pyfstring.specs.declared.parts.Manner.{Manner}
use Rattle.pyfstring.specs.Parts.{BodyPart}
use Rattle.pyfstring.specs.Pieces.{IsCut}
use Rattle.pyfstring.specs.Cutting.{cut_of}
use Rattle.pyfstring.specs.Laws.{IsMalformed, Tells}
use Rattle.pyfstring.proofs.Callers.Law.{cut_of_sound, cut_of_complete}
use Rattle.pytoken.specs.StringValues.{with_line_feeds, is_raw, body_of}
use Rattle.pytoken.specs.FormattedStrings.{Element, body_part_elements, elements_of}
use Rattle.pytoken.specs.Inner.Pushing.{IfMalformed}

abbrev from_cut : Bool → Bool → List ℕ → Option (List Element)
from_cut is_nested raw body = option_map (body_part_elements raw) (cut_of (record { is_raw = raw; is_nested = is_nested }) body)

same_cut : (is_nested raw : Bool) (t body : List ℕ) → raw ≡ is_raw (with_line_feeds t) → body ≡ body_of t →
    elements_of is_nested t ≡ from_cut is_nested raw body
unfolding elements_of
same_cut is_nested raw t body marked between = sym (ap₂ (from_cut is_nested) marked between)

pub elements_cut : (is_nested raw : Bool) (t body : List ℕ) (parts : List BodyPart) → raw ≡ is_raw (with_line_feeds t) → body ≡ body_of t →
    IsCut (record { is_raw = raw; is_nested = is_nested }) body parts → elements_of is_nested t ≡ Some (body_part_elements raw parts)
elements_cut is_nested raw t body parts marked between cut =
    same_cut is_nested raw t body marked between ∙ ap (option_map (body_part_elements raw)) (cut_of_complete _ body parts cut)

pub no_cut : (m : Manner) (body : List ℕ) → IsMalformed m body → cut_of m body ≡ None
no_cut m body malformed = by_cut (cut_of m body) refl
  where
    by_cut : (o : Option (List BodyPart)) → cut_of m body ≡ o → o ≡ None
    by_cut None is = refl
    by_cut (Some parts) is = absurd (malformed parts (cut_of_sound m body parts is))

no_elements : (is_nested raw : Bool) (t body : List ℕ) → raw ≡ is_raw (with_line_feeds t) → body ≡ body_of t →
    IsMalformed (record { is_raw = raw; is_nested = is_nested }) body → elements_of is_nested t ≡ None
no_elements is_nested raw t body marked between malformed =
    same_cut is_nested raw t body marked between ∙ ap (option_map (body_part_elements raw)) (no_cut _ body malformed)

-- what a cut that failed tells
pub told_elements : (is_nested raw : Bool) (t body : List ℕ) (e : CutError) → raw ≡ is_raw (with_line_feeds t) → body ≡ body_of t →
    Tells (record { is_raw = raw; is_nested = is_nested }) body e → IfMalformed e (elements_of is_nested t ≡ None)
told_elements is_nested raw t body Malformed marked between malformed = no_elements is_nested raw t body marked between malformed
told_elements is_nested raw t body Memory marked between told = tt

-- and is passed on
pub told_on : {X : Type 0} (P : Type 0) (r : Result X CutError) (e : CutError) → IsErrAnd r (λ d. d ≡ e) → IfMalformed e P →
    IfErr r (λ d. IfMalformed d P)
told_on P (Ok x) e h told = absurd h
told_on P (Err d) e h told = let Q : CutError → Type 0 = λ x. IfMalformed x P in subst Q (sym h) told
