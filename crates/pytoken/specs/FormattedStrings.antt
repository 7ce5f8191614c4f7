-- What an f-string is cut into, and what may be wrong with it (reference 2.4.3, "Formatted string literals").
use Rattle.std.specs.Prelude.{ℕ, Bool, true, false, ◌||◌, ◌==◌, List, [], ◌∷◌, ◌++◌, Option, Some, None, is_some, option_map, if◌then◌else◌}
use Rattle.std.specs.Option.{option_or}
use Rattle.std.specs.List.{list_any, flat_map}
use Rattle.pylex_lexeme.specs.Characters.{line_feed}
use Rattle.pylex_listing.specs.declared.kind.Kind.{Kind}
use Rattle.pylex_listing.specs.declared.kind.Kind.TheVariants as kinds
use Rattle.pyfstring.specs.declared.parts.Conversion.{Conversion}
use Rattle.pyfstring.specs.Singles.{single}
use Rattle.pyfstring.specs.Parts.{FieldParts, Part, text, field, SpecPart, BodyPart}
use Rattle.pyfstring.specs.Cutting.{cut_of}
use Rattle.pyfstring_tokens.specs.FieldTokens.{field_tokens, has_fault, closes_outer, has_comment}
use Rattle.pytoken.specs.declared.faults.TokenError.{TokenError}
use Rattle.pytoken.specs.declared.faults.TokenError.TheVariants.{FString}
use Rattle.pytoken.specs.declared.meanings.Meaning.{Meaning}
use Rattle.pytoken.specs.Escapes.{meanings, points_in, escape_fault}
use Rattle.pytoken.specs.StringValues.{with_line_feeds, is_quote, is_raw, is_formatted, body_of, nul_fault}

-- a STRING with f or F in its prefix
abbrev pub is_fstring : Kind → List ℕ → Bool
is_fstring k t = elim k [ kinds.String ↦ is_formatted (with_line_feeds t) | _ ↦ false ]

-- a STRING with a quote or a line feed in its body
abbrev pub is_bulky : Kind → List ℕ → Bool
is_bulky k t = elim k [ kinds.String ↦ list_any (λ c. is_quote c || (c == line_feed)) (body_of t) | _ ↦ false ]

-- ---- Texts.

-- a text as it stands in an f-string, and how it is read: whether escapes stand for themselves, and whether two braces are one
pub record TextPart : Type 0 where
  pub is_raw : Bool
  pub has_pairs : Bool
  pub source : List ℕ

-- what stands in it
unfoldable pub text_meanings : TextPart → List Meaning
text_meanings p = meanings p.is_raw false (with_line_feeds (if p.has_pairs then single p.is_raw p.source else p.source))

-- the points that it stands for
unfoldable pub text_points : TextPart → List ℕ
text_points p = flat_map points_in (text_meanings p)

-- ---- Elements: what stands between the quotes, one after another.

pub data Element : Type 0 where
  Text : TextPart → Element
  Field : Conversion → List ℕ → Element  -- a field begins, whose expression has this source
  Spec : Element  -- its format spec begins
  End : Element  -- it ends

-- a text of a body, or of a format spec, where two braces are no pair
abbrev pub text_element : Bool → Bool → List ℕ → Element
text_element is_raw has_pairs t = Text (record { is_raw = is_raw; has_pairs = has_pairs; source = t })

-- "Expressions with equal signs '=' have the text of the expression, the '=' and the evaluated value in the output": the text stands in
-- front of its field
abbrev pub kept_elements : Option (List ℕ) → List Element
kept_elements None = []
kept_elements (Some t) = text_element true false t ∷ []

abbrev pub spec_elements : {S : Type 0} → (S → List Element) → Option S → List Element
spec_elements elements None = []
spec_elements elements (Some s) = Spec ∷ elements s

abbrev pub field_elements : {S : Type 0} → (S → List Element) → FieldParts S → List Element
field_elements elements f = kept_elements f.kept ++ (Field f.conversion f.text ∷ (spec_elements elements f.spec ++ End ∷ []))

abbrev pub part_elements : {S : Type 0} → Bool → Bool → (S → List Element) → Part S → List Element
part_elements is_raw has_pairs elements (text t) = text_element is_raw has_pairs t ∷ []
part_elements is_raw has_pairs elements (field f) = field_elements elements f

-- those of the spec of a field in a spec, of a spec, and of a body
abbrev pub inner_elements : Bool → List ℕ → List Element
inner_elements is_raw t = text_element is_raw false t ∷ []

abbrev pub spec_part_elements : Bool → List SpecPart → List Element
spec_part_elements is_raw ps = flat_map (part_elements is_raw false (inner_elements is_raw)) ps

abbrev pub body_part_elements : Bool → List BodyPart → List Element
body_part_elements is_raw ps = flat_map (part_elements is_raw true (spec_part_elements is_raw)) ps

-- Those of an f-string, by whether it stands in a field itself; none where its body has no cut. The body is cut with its CRs, each of which
-- stands
-- before an LF, where it counts for nothing.
unfoldable pub elements_of : Bool → List ℕ → Option (List Element)
elements_of is_nested t =
    let raw = is_raw (with_line_feeds t) in
    option_map (body_part_elements raw) (cut_of (record { is_raw = raw; is_nested = is_nested }) (body_of t))

-- ---- Faults.

abbrev pub element_meanings : Element → List Meaning
element_meanings (Text p) = text_meanings p
element_meanings _ = []

-- it is a field whose expression passes a test
abbrev pub is_field_of : (List ℕ → Bool) → Element → Bool
is_field_of test (Field c t) = test t
is_field_of test _ = false

-- The fault of an f-string with these elements, where a test says which expressions are faulty: it is malformed, or the escapes of its
-- texts have a
-- fault, or U+0000 stands in it.
unfoldable pub elements_fault : (List ℕ → Bool) → List ℕ → Option (List Element) → Option TokenError
elements_fault is_faulty t None = Some FString
elements_fault is_faulty t (Some es) =
    if list_any (is_field_of is_faulty) es then Some FString else option_or (escape_fault (flat_map element_meanings es)) (nul_fault t)

-- A field's expression has no tokens: its text in parentheses has a fault. (The text of a field closes no bracket that it doesn't open, and
-- has no
-- comment.)
abbrev pub has_no_tokens : List ℕ → Bool
has_no_tokens t = has_fault t || closes_outer t || has_comment t

-- it has none, or one of them has a fault
unfoldable pub is_faulty_by : (Kind → List ℕ → Option TokenError) → List ℕ → Bool
is_faulty_by fault t = has_no_tokens t || list_any (λ x. is_some (fault x.kind x.text)) (field_tokens t)
