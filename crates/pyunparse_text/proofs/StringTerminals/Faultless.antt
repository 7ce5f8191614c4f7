-- Where an f-string, or a token of a field, has no fault.
--
-- Carries: no_field_wrong, no_nul, no_nul_in, field_faultless, for Brackets, StringsSaid. On: no other file.
use Rattle.std.proofs.Common.{◌≡◌, ◌==◌, ℕ, Bool, true, false, List, Option, Some, None, refl, cond}
use Rattle.std.specs.List.{list_any, flat_map}
use Rattle.std.specs.Option.{option_or}
use Rattle.pylex_listing.specs.declared.kind.Kind.{Kind}
use Rattle.pytoken.specs.declared.faults.TokenError.{TokenError}
use Rattle.pytoken.specs.declared.faults.TokenError.TheVariants.{FString, Nul}
use Rattle.pytoken.specs.Escapes.{escape_fault}
use Rattle.pytoken.specs.StringValues.{nul_fault}
use Rattle.pytoken.specs.FormattedStrings.{Element, is_bulky, elements_fault, element_meanings, is_field_of}
use Rattle.pytoken.specs.Terminals.{fault_by, field_fault, is_nested_faulty}

-- no field of it is wrong, and U+0000 is not in it
pub no_field_wrong : (is_wrong : List ℕ → Bool) (t : List ℕ) (es : List Element) → elements_fault is_wrong t (Some es) ≡ None
    → list_any (is_field_of is_wrong) es ≡ false
unfolding elements_fault
no_field_wrong is_wrong t es n =
    by (list_any (is_field_of is_wrong) es) (option_or (escape_fault (flat_map element_meanings es)) (nul_fault t)) n
  where
    by : (b : Bool) (r : Option TokenError) → cond b (Some FString) r ≡ None → b ≡ false
    by true r n = absurd (cc)
    by false r n = refl

pub no_nul : (t : List ℕ) → nul_fault t ≡ None → list_any (λ c. c == 0) t ≡ false
unfolding nul_fault
no_nul t n = by (list_any (λ c. c == 0) t) n
  where
    by : (b : Bool) → cond b (Some Nul) None ≡ None → b ≡ false
    by true n = absurd (cc)
    by false n = refl

pub second_none : (o r : Option TokenError) → option_or o r ≡ None → r ≡ None
second_none None r n = n
second_none (Some e) r n = absurd (cc)

pub no_nul_in : (is_wrong : List ℕ → Bool) (t : List ℕ) (es : List Element) → elements_fault is_wrong t (Some es) ≡ None
    → list_any (λ c. c == 0) t ≡ false
unfolding elements_fault
no_nul_in is_wrong t es n = by (list_any (is_field_of is_wrong) es) n
  where
    by : (b : Bool) → cond b (Some FString) (option_or (escape_fault (flat_map element_meanings es)) (nul_fault t)) ≡ None
        → list_any (λ c. c == 0) t ≡ false
    by true n = absurd (cc)
    by false n = no_nul t (second_none (escape_fault (flat_map element_meanings es)) (nul_fault t) n)

-- a token of a field is not bulky, and has no fault of its own
pub field_faultless : (k : Kind) (t : List ℕ) → field_fault k t ≡ None
    → (is_bulky k t ≡ false) × (fault_by true is_nested_faulty k t ≡ None)
field_faultless k t n = by (is_bulky k t) n
  where
    by : (b : Bool) → cond b (Some FString) (fault_by true is_nested_faulty k t) ≡ None
        → (b ≡ false) × (fault_by true is_nested_faulty k t ≡ None)
    by true n = absurd (cc)
    by false n = (refl, n)
