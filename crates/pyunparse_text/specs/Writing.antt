-- The text of a module while it is written, a token after another.
use Rattle.std.specs.Prelude.{ℕ, Bool, true, false, not, ◌&&◌, ◌||◌, List, [], ◌∷◌, ◌++◌, codes, Option, Some, None, if◌then◌else◌}
use Rattle.std.specs.List.{flat_map}
use Rattle.std.specs.Str.{bytes_eq, encode_utf8_all}
use Rattle.pyfstring.specs.Texts.{begins_with}
use Rattle.pylex_lexeme.specs.Characters.{colon, left_curly_bracket, right_curly_bracket}
use Rattle.pylex_listing.specs.declared.kind.Kind.TheVariants as kinds
use Rattle.pyunparse_text.specs.Spacing.{Piece, is_number_kind}
use Rattle.pyunparse_text.specs.Pieces.{Sited, character_text, conversion_text, quote}
use Rattle.pyunparse_text.specs.Folds.{Step, Begin, PutText, BeginField, EndExpression, BeginSpec, EndField}
use Rattle.pyunparse_text.specs.declared.edges.Edge.{Edge}

-- the text in UTF-8, what the last token of its line says of what follows, how many levels are open, and whether a field of an f-string is
pub record Writing : Type 0 where
  pub text : List ℕ
  pub last : Option Edge
  pub level : ℕ
  pub in_field : Bool

-- none
abbrev pub no_text : Writing
no_text = record { text = []; last = None; level = 0; in_field = false }

abbrev pub edge_of : Piece → Edge
edge_of p = record { following = p.following; number = is_number_kind p.kind; comma = bytes_eq p.text (codes ","); brace = false }

-- a token touches the one before it
abbrev pub meets : Edge → Piece → Bool
meets e q =
    not (e.brace && begins_with left_curly_bracket q.text)
    && ((e.following || q.before) && not (e.number && bytes_eq q.text (codes ".")) && not
    (e.comma && (bytes_eq q.text (codes ":") && q.following)))

-- the blank before a token
abbrev pub blank : Option Edge → Piece → List ℕ
blank None q = []
blank (Some e) q = if meets e q then [] else 32 ∷ []

abbrev pub more : Writing → List ℕ → Writing
more w t = record { text = w.text ++ t; last = w.last; level = w.level; in_field = w.in_field }

abbrev pub following : Writing → Piece → Writing
following w p = record { text = w.text ++ (blank w.last p ++ p.text); last = Some (edge_of p); level = w.level; in_field = w.in_field }

abbrev pub after_sited : Writing → Sited → Writing
after_sited w p = following w (p w.in_field)

-- ---- F-strings.

-- a STRING, whose text matters neither to the blank before it nor to what follows
abbrev pub a_string : Piece
a_string = record { kind = kinds.String; text = []; before = false; following = false }

-- what the brace of a field says of what follows: only another brace doesn't touch it
abbrev pub field_edge : Edge
field_edge = record { following = true; number = false; comma = false; brace = true }

-- with another last token, in a field or not
abbrev pub turned : Writing → Edge → Bool → List ℕ → Writing
turned w e is_in_field t = record { text = w.text ++ t; last = Some e; level = w.level; in_field = is_in_field }

-- after a step of the writing of an f-string
abbrev pub stepped : Writing → Step → Writing
stepped w Begin = turned w (edge_of a_string) w.in_field (blank w.last a_string ++ (codes "f" ++ (quote w.in_field ∷ [])))
stepped w (PutText is_in_field in_spec t) = more w (encode_utf8_all (flat_map (character_text is_in_field in_spec) t))
stepped w BeginField = turned w field_edge true (left_curly_bracket ∷ [])
stepped w (EndExpression is_in_field c) = turned w (edge_of a_string) is_in_field (conversion_text c)
stepped w BeginSpec = more w (colon ∷ [])
stepped w EndField = more w (right_curly_bracket ∷ [])
