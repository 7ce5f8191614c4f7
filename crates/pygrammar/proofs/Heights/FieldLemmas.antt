-- How high the fields of an f-string are, beside its values.
--
-- Carries: fields_join, values_low, joined_fields, spec_fields and their like, for Caps, Bound.
use Rattle.std.proofs.Common.{◌≡◌, refl, ap, ◌∙◌, ℕ, ◌≤◌, arith, List, [], ◌∷◌, ◌++◌, Bool}
use Rattle.std.specs.Prelude.{max}
use Rattle.pygrammar.specs.FormattedStrings.{StringPart, Text, Field, with_text, merged, values_of, spec_values_of}
use Rattle.pytree_height.specs.Heights.{height, heights}
use Rattle.pygrammar.specs.Inner.FieldHeights.{fields_height}

pub fields_join : (ps qs : List StringPart) → fields_height (ps ++ qs) ≡ max (fields_height ps) (fields_height qs)
fields_join [] qs = omega arith
fields_join (Text t ∷ ps) qs = fields_join ps qs
fields_join (Field e ∷ ps) qs = omega (arith, fields_join ps qs)

-- texts that are merged leave the fields
text_fields : (t : List ℕ) (ps : List StringPart) → fields_height (with_text t ps) ≡ fields_height ps
text_fields [] ps = refl
text_fields (c ∷ cs) [] = refl
text_fields (c ∷ cs) (Text t ∷ ps) = refl
text_fields (c ∷ cs) (Field e ∷ ps) = refl

merged_fields : (ps : List StringPart) → fields_height (merged ps) ≡ fields_height ps
merged_fields [] = refl
merged_fields (Text t ∷ ps) = text_fields t (merged ps) ∙ merged_fields ps
merged_fields (Field e ∷ ps) = ap (max (height e)) (merged_fields ps)

-- the values are as high as the fields, and a text has height 1
values_high : (u : Bool) (ps : List StringPart) → fields_height ps ≤ heights (values_of u ps)
values_high u [] = omega arith
values_high u (Text t ∷ ps) = omega (arith, values_high u ps)
values_high u (Field e ∷ ps) = omega (arith, values_high u ps)

values_most : (u : Bool) (ps : List StringPart) → heights (values_of u ps) ≤ max 1 (fields_height ps)
values_most u [] = omega arith
values_most u (Text t ∷ ps) = omega (arith, values_most u ps)
values_most u (Field e ∷ ps) = omega (arith, values_most u ps)

spec_high : (u : Bool) (ps : List StringPart) → fields_height ps ≤ heights (spec_values_of u ps)
spec_high u [] = omega arith
spec_high u (Text t ∷ []) = omega arith
spec_high u (Text t ∷ (p ∷ ps)) = omega (arith, spec_high u (p ∷ ps))
spec_high u (Field e ∷ ps) = omega (arith, spec_high u ps)

spec_most : (u : Bool) (ps : List StringPart) → heights (spec_values_of u ps) ≤ max 1 (fields_height ps)
spec_most u [] = omega arith
spec_most u (Text t ∷ []) = omega arith
spec_most u (Text t ∷ (p ∷ ps)) = omega (arith, spec_most u (p ∷ ps))
spec_most u (Field e ∷ ps) = omega (arith, spec_most u ps)

pub joined_fields : (u : Bool) (ps : List StringPart) → fields_height ps ≤ heights (values_of u (merged ps))
joined_fields u ps = omega (arith, merged_fields ps, values_high u (merged ps))

pub joined_most : (u : Bool) (ps : List StringPart) → heights (values_of u (merged ps)) ≤ max 1 (fields_height ps)
joined_most u ps = omega (arith, merged_fields ps, values_most u (merged ps))

pub spec_fields : (u : Bool) (ps : List StringPart) → fields_height ps ≤ heights (spec_values_of u (merged ps))
spec_fields u ps = omega (arith, merged_fields ps, spec_high u (merged ps))

pub spec_fields_most : (u : Bool) (ps : List StringPart) → heights (spec_values_of u (merged ps)) ≤ max 1 (fields_height ps)
spec_fields_most u ps = omega (arith, merged_fields ps, spec_most u (merged ps))
