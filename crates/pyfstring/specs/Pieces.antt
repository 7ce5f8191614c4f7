-- The cut of a body into texts and fields (reference 2.4.3, "Formatted string literals").
use Rattle.std.specs.Prelude.{◌≡◌, ℕ, Bool, true, false, not, ◌&&◌, ◌||◌, ◌==◌, List, [], ◌∷◌, ◌++◌, drop, Option, Some, None, is_some}
use Rattle.std.specs.List.{list_all, prefix_len}
use Rattle.pyfstring.specs.declared.parts.Conversion.{Conversion}
use Rattle.pyfstring.specs.declared.parts.Conversion.TheVariants.{None as Unconverted, Str, Repr, Ascii}
use Rattle.pyfstring.specs.declared.parts.Manner.{Manner}
use Rattle.pyfstring.specs.Characters.{tab, line_feed, line_tabulation, form_feed, carriage_return, space, exclamation_mark, colon}
use Rattle.pyfstring.specs.Characters.{equals_sign, small_a, small_r, small_s, left_curly_bracket, right_curly_bracket}
use Rattle.pyfstring.specs.Texts.{begins_with, after_text}
use Rattle.pyfstring.specs.Expressions.{following_expression}
use Rattle.pyfstring.specs.Parts.{FieldParts, Part, text, field, SpecPart, BodyPart}

-- In each relation what is named stands at the front of `cs`, and `rest` is what stands after it.

-- a text: the longest run of units, perhaps empty
pub record IsText (is_raw has_pairs : Bool) (cs t rest : List ℕ) : Type 0 where
  pub whole : cs ≡ t ++ rest
  pub longest : after_text is_raw has_pairs cs ≡ rest

-- a space, tab, form feed, or a character of a line end
abbrev pub is_blank : ℕ → Bool
is_blank c = (c == space) || (c == tab) || (c == form_feed) || (c == line_feed) || (c == carriage_return)

-- f_expression ::= (conditional_expression | "*" or_expr)
--                    ("," conditional_expression | "," "*" or_expr)* [","]
--                  | yield_expression
-- Of it only where it ends is read here, and that it isn't blanks alone.
pub record IsExpression (cs t rest : List ℕ) : Type 0 where
  pub whole : cs ≡ t ++ rest
  pub scanned : following_expression cs ≡ Some rest
  pub some : list_all is_blank t ≡ false

abbrev pub is_blank_or_tabulation : ℕ → Bool
is_blank_or_tabulation c = is_blank c || (c == line_tabulation)

abbrev pub after_blanks : List ℕ → List ℕ
after_blanks cs = drop (prefix_len is_blank_or_tabulation cs) cs

-- ["="]: with it a field keeps its source so far, and the blanks after it too; a field has none in a literal that stands in a field
-- itself.
-- `cs` is the source of the field after its brace, and `here` what is left of it.
pub data Keeps (is_nested : Bool) (cs : List ℕ) : List ℕ → Option (List ℕ) → List ℕ → Type 0 where
  unkept : {here : List ℕ} → begins_with equals_sign here ≡ false → Keeps is_nested cs here None here
  kept : {here k : List ℕ} → is_nested ≡ false → cs ≡ k ++ after_blanks here
      → Keeps is_nested cs (equals_sign ∷ here) (Some k) (after_blanks here)

-- ["!" conversion]
-- conversion ::= "s" | "r" | "a"
pub data Converts : List ℕ → Conversion → List ℕ → Type 0 where
  unconverted : {cs : List ℕ} → begins_with exclamation_mark cs ≡ false → Converts cs Unconverted cs
  by_str : {rest : List ℕ} → Converts (exclamation_mark ∷ small_s ∷ rest) Str rest
  by_repr : {rest : List ℕ} → Converts (exclamation_mark ∷ small_r ∷ rest) Repr rest
  by_ascii : {rest : List ℕ} → Converts (exclamation_mark ∷ small_a ∷ rest) Ascii rest

-- "By default, the '=' causes the repr() of the expression to be provided, unless there is a format specified."
abbrev pub conversion_of : Conversion → Bool → Bool → Conversion
conversion_of Unconverted has_kept has_spec = elim (has_kept && not has_spec) [ true ↦ Repr | false ↦ Unconverted ]
conversion_of Str has_kept has_spec = Str
conversion_of Repr has_kept has_spec = Repr
conversion_of Ascii has_kept has_spec = Ascii

-- [":" format_spec]
pub data Specifies {S : Type 0} (IsSpec : List ℕ → S → List ℕ → Type 0) : List ℕ → Option S → List ℕ → Type 0 where
  unspecified : {cs : List ℕ} → begins_with colon cs ≡ false → Specifies IsSpec cs None cs
  specified : {cs rest : List ℕ} {s : S} → IsSpec cs s rest → Specifies IsSpec (colon ∷ cs) (Some s) rest

-- replacement_field ::= "{" f_expression ["="] ["!" conversion] [":" format_spec] "}"
-- Here the field stands after its "{".
pub record IsField {S : Type 0} (IsSpec : List ℕ → S → List ℕ → Type 0) (is_nested : Bool) (cs : List ℕ) (f : FieldParts S)
    (rest : List ℕ) : Type 0 where
  pub after_expression : List ℕ
  pub after_kept : List ℕ
  pub after_conversion : List ℕ
  pub given : Conversion
  pub expression : IsExpression cs f.text after_expression
  pub keeps : Keeps is_nested cs after_expression f.kept after_kept
  pub converts : Converts after_kept given after_conversion
  pub conversion : f.conversion ≡ conversion_of given (is_some f.kept) (is_some f.spec)
  pub specifies : Specifies IsSpec after_conversion f.spec (right_curly_bracket ∷ rest)

-- texts and fields in turn, a text first and last
-- f_string    ::= (literal_char | "{{" | "}}" | replacement_field)*
-- format_spec ::= (literal_char | replacement_field)*
pub data Cuts {S : Type 0} (is_raw has_pairs : Bool) (IsField : List ℕ → FieldParts S → List ℕ → Type 0) : List ℕ
    → List (Part S) → List ℕ → Type 0 where
  last_text : {cs t rest : List ℕ} → IsText is_raw has_pairs cs t rest → begins_with left_curly_bracket rest ≡ false
      → Cuts is_raw has_pairs IsField cs (text t ∷ []) rest
  and_field : {cs t inside following rest : List ℕ} {f : FieldParts S} {parts : List (Part S)} →
      IsText is_raw has_pairs cs t (left_curly_bracket ∷ inside) → IsField inside f following
      → Cuts is_raw has_pairs IsField following parts rest →
      Cuts is_raw has_pairs IsField cs (text t ∷ field f ∷ parts) rest

-- Specs nest at most once: in a spec stand fields, whose specs are texts. Of a spec two braces are no pair.
abbrev pub IsInnerSpec : Manner → List ℕ → List ℕ → List ℕ → Type 0
IsInnerSpec m = IsText m.is_raw false

abbrev pub IsSpec : Manner → List ℕ → List SpecPart → List ℕ → Type 0
IsSpec m = Cuts m.is_raw false (IsField (IsInnerSpec m) m.is_nested)

-- the body has this cut, which goes to its end
abbrev pub IsCut : Manner → List ℕ → List BodyPart → Type 0
IsCut m body parts = Cuts m.is_raw true (IsField (IsSpec m) m.is_nested) body parts []
