-- The cut of a body as functions of what is left of it; each also gives what stands after what it reads.
use Rattle.std.specs.Prelude.{◌≡◌, ℕ, zero, suc, ◌-◌, Bool, true, false, ◌==◌, ◌++◌, if◌then◌else◌, List, [], ◌∷◌, length, take, drop}
use Rattle.std.specs.Prelude.{slice_get, Option, Some, None, is_some, option_map, option_and_then}
use Rattle.std.specs.List.{list_all}
use Rattle.pyfstring.specs.declared.parts.Conversion.{Conversion}
use Rattle.pyfstring.specs.declared.parts.Conversion.TheVariants.{None as Unconverted, Str, Repr, Ascii}
use Rattle.pyfstring.specs.declared.parts.Manner.{Manner}
use Rattle.pyfstring.specs.Characters.{exclamation_mark, colon, equals_sign, small_a, small_r, small_s, left_curly_bracket}
use Rattle.pyfstring.specs.Characters.{right_curly_bracket}
use Rattle.pyfstring.specs.Texts.{begins_with, after_text}
use Rattle.pyfstring.specs.Expressions.{following_expression}
use Rattle.pyfstring.specs.Parts.{FieldParts, Part, text, field, SpecPart, BodyPart}
use Rattle.pyfstring.specs.Pieces.{is_blank, after_blanks, conversion_of}

-- cs ends with rest
abbrev pub EndsWith : List ℕ → List ℕ → Type 0
EndsWith cs rest = (t : List ℕ) × (cs ≡ t ++ rest)

-- what stands in cs before the rest with which it ends
unfoldable pub before : List ℕ → List ℕ → List ℕ
before cs rest = take (length cs - length rest) cs

unfoldable pub text_at : Bool → Bool → List ℕ → Option (List ℕ × List ℕ)
text_at is_raw has_pairs cs = Some (before cs (after_text is_raw has_pairs cs), after_text is_raw has_pairs cs)

unfoldable pub expression_at : List ℕ → Option (List ℕ × List ℕ)
expression_at cs = option_and_then (λ rest. elim (list_all is_blank (before cs rest)) [ true ↦ None | false ↦ Some (before cs rest, rest) ])
    (following_expression cs)

unfoldable pub kept_at : Bool → List ℕ → List ℕ → Option (Option (List ℕ) × List ℕ)
kept_at is_nested cs here =
    elim (begins_with equals_sign here) [
      | false ↦ Some (None, here)
      | true ↦ elim is_nested [ true ↦ None | false ↦ Some (Some (before cs (after_blanks (drop 1 here))), after_blanks (drop 1 here)) ]
    ]

abbrev pub conversion_by : ℕ → Option Conversion
conversion_by c = if c == small_s then Some Str else (if c == small_r then Some Repr else (if c == small_a then Some Ascii else None))

unfoldable pub conversion_at : List ℕ → Option (Conversion × List ℕ)
conversion_at cs =
    elim (begins_with exclamation_mark cs) [
      | false ↦ Some (Unconverted, cs)
      | true ↦ option_map (λ k. (k, drop 2 cs)) (option_and_then conversion_by (slice_get cs 1))
    ]

-- a field up to its spec
pub record FrontParts : Type 0 where
  pub text : List ℕ
  pub kept : Option (List ℕ)
  pub given : Conversion

abbrev pub Read : Type 0 → Type 0
Read X = Option (X × List ℕ)

unfoldable pub front_at : Bool → List ℕ → Read FrontParts
front_at is_nested cs =
    option_and_then (λ (t : List ℕ × List ℕ). option_and_then
    (λ (k : Option (List ℕ) × List ℕ). option_map (λ (g : Conversion × List ℕ). (record { text = t.0; kept = k.0; given = g.0 }, g.1))
    (conversion_at k.1)) (kept_at is_nested cs t.1)) (expression_at cs)

abbrev pub with_spec : {S : Type 0} → FrontParts → Option S → FieldParts S
with_spec f s = record { text = f.text; kept = f.kept; conversion = conversion_of f.given (is_some f.kept) (is_some s); spec = s }

unfoldable pub spec_at : {S : Type 0} → (List ℕ → Read S) → List ℕ → Read (Option S)
spec_at spec cs = elim (begins_with colon cs) [ false ↦ Some (None, cs) | true ↦ option_map (λ s. (Some s.0, s.1)) (spec (drop 1 cs)) ]

unfoldable pub after_closing : List ℕ → Option (List ℕ)
after_closing cs = elim (begins_with right_curly_bracket cs) [ true ↦ Some (drop 1 cs) | false ↦ None ]

unfoldable pub field_at : {S : Type 0} → (List ℕ → Read S) → Bool → List ℕ → Read (FieldParts S)
field_at {S} spec is_nested cs =
    option_and_then (λ (f : FrontParts × List ℕ). option_and_then (λ (s : Option S × List ℕ). option_map (λ rest. (with_spec f.0 s.0, rest))
    (after_closing s.1)) (spec_at spec f.1)) (front_at is_nested cs)

-- of a cut whose first text and field are known
abbrev pub put_first : {S : Type 0} → List ℕ → FieldParts S → Read (List (Part S)) → Read (List (Part S))
put_first t f o = option_map (λ x. (text t ∷ field f ∷ x.0, x.1)) o

-- of a cut whose first parts are known
abbrev pub put_before : {X : Type 0} → List X → Read (List X) → Read (List X)
put_before done o = option_map (λ x. (done ++ x.0, x.1)) o

-- with at most n texts
abbrev pub cut_within : {S : Type 0} → Bool → Bool → (List ℕ → Read (FieldParts S)) → ℕ → List ℕ → Read (List (Part S))
cut_within is_raw has_pairs field_at zero cs = None
cut_within is_raw has_pairs field_at (suc n) cs =
    let rest = after_text is_raw has_pairs cs in
    elim (begins_with left_curly_bracket rest) [
      | false ↦ Some (text (before cs rest) ∷ [], rest)
      | true ↦ option_and_then (λ f. put_first (before cs rest) f.0 (cut_within is_raw has_pairs field_at n f.1)) (field_at (drop 1 rest))
    ]

unfoldable pub cut_at : {S : Type 0} → Bool → Bool → (List ℕ → Read (FieldParts S)) → List ℕ → Read (List (Part S))
cut_at is_raw has_pairs field_at cs = cut_within is_raw has_pairs field_at (suc (length cs)) cs

unfoldable pub inner_field_at : Manner → List ℕ → Read (FieldParts (List ℕ))
inner_field_at m = field_at (text_at m.is_raw false) m.is_nested

unfoldable pub spec_pieces_at : Manner → List ℕ → Read (List SpecPart)
spec_pieces_at m = cut_at m.is_raw false (inner_field_at m)

unfoldable pub body_field_at : Manner → List ℕ → Read (FieldParts (List SpecPart))
body_field_at m = field_at (spec_pieces_at m) m.is_nested

unfoldable pub body_pieces_at : Manner → List ℕ → Read (List BodyPart)
body_pieces_at m = cut_at m.is_raw true (body_field_at m)

abbrev pub to_end : {X : Type 0} → X × List ℕ → Option X
to_end x = elim x.1 [ [] ↦ Some x.0 | c ∷ cs ↦ None ]

-- the cut of a body; none where it is malformed
unfoldable pub cut_of : Manner → List ℕ → Option (List BodyPart)
cut_of m body = option_and_then to_end (body_pieces_at m body)
