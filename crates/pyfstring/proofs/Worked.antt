-- The definition of a cut, worked at bodies.
use Rattle.std.proofs.Common.{◌≡◌, ℕ, true, false, List, [], ◌∷◌, refl, Option, Some, None}
use Rattle.std.specs.Prelude.{codes}
use Rattle.pyfstring.specs.declared.parts.Conversion.{Conversion}
use Rattle.pyfstring.specs.declared.parts.Conversion.TheVariants.{None as Unconverted, Repr}
use Rattle.pyfstring.specs.declared.parts.Manner.{Manner}
use Rattle.pyfstring.specs.Texts.{unit_len, after_text}
use Rattle.pyfstring.specs.Expressions.{step, following_expression}
use Rattle.pyfstring.specs.Parts.{Part, text, field}
use Rattle.pyfstring.specs.Pieces.{IsCut}
use Rattle.pyfstring.specs.Laws.{IsMalformed}
use Rattle.pyfstring.specs.Cutting.{before, text_at, expression_at, kept_at, conversion_at, front_at, spec_at, after_closing, field_at}
use Rattle.pyfstring.specs.Cutting.{cut_at, inner_field_at, spec_pieces_at, body_field_at, body_pieces_at, cut_of}
use Rattle.pyfstring.proofs.Cutting.{cut_of_sound}
use Rattle.pyfstring.proofs.Lawful.{malformed}

plain : Manner
plain = record { is_raw = false; is_nested = false }

raw : Manner
raw = record { is_raw = true; is_nested = false }

nested : Manner
nested = record { is_raw = false; is_nested = true }

a_text : {S : Type 0} → List ℕ → Part S
a_text t = text t

with_conversion : {S : Type 0} → List ℕ → Option (List ℕ) → Conversion → Part S
with_conversion t k c = field (record { text = t; kept = k; conversion = c; spec = None })

a_field : {S : Type 0} → List ℕ → Part S
a_field t = field (record { text = t; kept = None; conversion = Unconverted; spec = None })

with_format : {S : Type 0} → List ℕ → S → Part S
with_format t s = field (record { text = t; kept = None; conversion = Unconverted; spec = Some s })

-- a{x}
text_and_field : cut_of plain (codes "a{x}") ≡ Some (a_text (codes "a") ∷ a_field (codes "x") ∷ a_text [] ∷ [])
unfolding unit_len after_text step following_expression before text_at expression_at kept_at conversion_at front_at spec_at after_closing
    field_at cut_at inner_field_at spec_pieces_at body_field_at body_pieces_at cut_of plain raw nested a_text a_field
    with_conversion with_format
text_and_field = refl

-- {{{x}}}
doubled : cut_of plain (codes "{{{x}}}") ≡ Some (a_text (codes "{{") ∷ a_field (codes "x") ∷ a_text (codes "}}") ∷ [])
unfolding unit_len after_text step following_expression before text_at expression_at kept_at conversion_at front_at spec_at after_closing
    field_at cut_at inner_field_at spec_pieces_at body_field_at body_pieces_at cut_of plain raw nested a_text a_field
    with_conversion with_format
doubled = refl

-- }: malformed
single_brace : cut_of plain (codes "}") ≡ None
unfolding unit_len after_text step following_expression before text_at expression_at kept_at conversion_at front_at spec_at after_closing
    field_at cut_at inner_field_at spec_pieces_at body_field_at body_pieces_at cut_of plain raw nested a_text a_field
    with_conversion with_format
single_brace = refl

-- { }: malformed
blanks_alone : cut_of plain (codes "{ }") ≡ None
unfolding unit_len after_text step following_expression before text_at expression_at kept_at conversion_at front_at spec_at after_closing
    field_at cut_at inner_field_at spec_pieces_at body_field_at body_pieces_at cut_of plain raw nested a_text a_field
    with_conversion with_format
blanks_alone = refl

-- a backslash and {x}: the backslash stands for itself
backslash : cut_of plain (92 ∷ codes "{x}") ≡ Some (a_text (92 ∷ []) ∷ a_field (codes "x") ∷ a_text [] ∷ [])
unfolding unit_len after_text step following_expression before text_at expression_at kept_at conversion_at front_at spec_at after_closing
    field_at cut_at inner_field_at spec_pieces_at body_field_at body_pieces_at cut_of plain raw nested a_text a_field
    with_conversion with_format
backslash = refl

-- N{x} after a backslash, raw or not
by_name : cut_of plain (92 ∷ codes "N{x}") ≡ Some (a_text (92 ∷ codes "N{x}") ∷ [])
unfolding unit_len after_text step following_expression before text_at expression_at kept_at conversion_at front_at spec_at after_closing
    field_at cut_at inner_field_at spec_pieces_at body_field_at body_pieces_at cut_of plain raw nested a_text a_field
    with_conversion with_format
by_name = refl

by_name_raw : cut_of raw (92 ∷ codes "N{x}") ≡ Some (a_text (92 ∷ codes "N") ∷ a_field (codes "x") ∷ a_text [] ∷ [])
unfolding unit_len after_text step following_expression before text_at expression_at kept_at conversion_at front_at spec_at after_closing
    field_at cut_at inner_field_at spec_pieces_at body_field_at body_pieces_at cut_of plain raw nested a_text a_field
    with_conversion with_format
by_name_raw = refl

-- {x=}
equals : cut_of plain (codes "{x=}") ≡ Some (a_text [] ∷ with_conversion (codes "x") (Some (codes "x=")) Repr ∷ a_text [] ∷ [])
unfolding unit_len after_text step following_expression before text_at expression_at kept_at conversion_at front_at spec_at after_closing
    field_at cut_at inner_field_at spec_pieces_at body_field_at body_pieces_at cut_of plain raw nested a_text a_field
    with_conversion with_format
equals = refl

-- {x=} in a literal that stands in a field: malformed
equals_nested : cut_of nested (codes "{x=}") ≡ None
unfolding unit_len after_text step following_expression before text_at expression_at kept_at conversion_at front_at spec_at after_closing
    field_at cut_at inner_field_at spec_pieces_at body_field_at body_pieces_at cut_of plain raw nested a_text a_field
    with_conversion with_format
equals_nested = refl

-- {x!=y!r}
comparison : cut_of plain (codes "{x!=y!r}") ≡ Some (a_text [] ∷ with_conversion (codes "x!=y") None Repr ∷ a_text [] ∷ [])
unfolding unit_len after_text step following_expression before text_at expression_at kept_at conversion_at front_at spec_at after_closing
    field_at cut_at inner_field_at spec_pieces_at body_field_at body_pieces_at cut_of plain raw nested a_text a_field
    with_conversion with_format
comparison = refl

-- {(x:=5)}
in_brackets : cut_of plain (codes "{(x:=5)}") ≡ Some (a_text [] ∷ a_field (codes "(x:=5)") ∷ a_text [] ∷ [])
unfolding unit_len after_text step following_expression before text_at expression_at kept_at conversion_at front_at spec_at after_closing
    field_at cut_at inner_field_at spec_pieces_at body_field_at body_pieces_at cut_of plain raw nested a_text a_field
    with_conversion with_format
in_brackets = refl

-- {x:>{w}}
formatted : cut_of plain (codes "{x:>{w}}") ≡ Some
    (a_text [] ∷ with_format (codes "x") (a_text (codes ">") ∷ a_field (codes "w") ∷ a_text [] ∷ []) ∷ a_text [] ∷ [])
unfolding unit_len after_text step following_expression before text_at expression_at kept_at conversion_at front_at spec_at after_closing
    field_at cut_at inner_field_at spec_pieces_at body_field_at body_pieces_at cut_of plain raw nested a_text a_field
    with_conversion with_format
formatted = refl

-- {x:{{y}}}
no_pair_in_a_spec : cut_of plain (codes "{x:{{y}}}") ≡ Some
    (a_text [] ∷ with_format (codes "x") (a_text [] ∷ a_field (codes "{y}") ∷ a_text [] ∷ []) ∷ a_text [] ∷ [])
unfolding unit_len after_text step following_expression before text_at expression_at kept_at conversion_at front_at spec_at after_closing
    field_at cut_at inner_field_at spec_pieces_at body_field_at body_pieces_at cut_of plain raw nested a_text a_field
    with_conversion with_format
no_pair_in_a_spec = refl

-- {x:{y:{z}}}: malformed
too_deep : cut_of plain (codes "{x:{y:{z}}}") ≡ None
unfolding unit_len after_text step following_expression before text_at expression_at kept_at conversion_at front_at spec_at after_closing
    field_at cut_at inner_field_at spec_pieces_at body_field_at body_pieces_at cut_of plain raw nested a_text a_field
    with_conversion with_format
too_deep = refl

-- as relations
is_cut : IsCut plain (codes "a{x}") (a_text (codes "a") ∷ a_field (codes "x") ∷ a_text [] ∷ [])
is_cut = cut_of_sound plain (codes "a{x}") _ text_and_field

is_malformed : IsMalformed plain (codes "}")
is_malformed = malformed plain (codes "}") single_brace
