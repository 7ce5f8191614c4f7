-- The pieces of a line of written source, the blanks between them, and which of them may stand without one (reference 2.1 to 2.6).
use Rattle.std.specs.Prelude.{ℕ, ◌*◌, Bool, true, false, not, ◌&&◌, ◌||◌, nat_eq, List, [], ◌∷◌, ◌++◌, codes, take, replicate}
use Rattle.std.specs.Prelude.{if◌then◌else◌}
use Rattle.std.specs.List.{list_all, list_any, starts_with}
use Rattle.std.specs.Str.{bytes_eq}
use Rattle.pylex_lexeme.specs.Characters.{line_feed, space}
use Rattle.pylex_listing.specs.declared.kind.Kind.{Kind}
use Rattle.pylex_listing.specs.declared.kind.Kind.TheVariants as kinds
use Rattle.pylex_lexeme.specs.Chars.{begins, is_comment_part}
use Rattle.pylex_lexeme.specs.Numbers.{is_decimal_digit, is_number}
use Rattle.pylex_lexeme.specs.Strings.{is_single_string}
use Rattle.pylex_lexeme.specs.Operators.{operators, is_operator}
use Rattle.pylex_lexeme.specs.Lexemes.{is_name}

-- A token as it is written: its kind, its text, and whether it keeps close to what comes before it, and to what comes after it.
pub record Piece : Type 0 where
  pub kind : Kind
  pub text : List ℕ
  pub before : Bool
  pub following : Bool

abbrev pub is_number_kind : Kind → Bool
is_number_kind kinds.Number = true
is_number_kind _ = false

abbrev pub is_operator_kind : Kind → Bool
is_operator_kind kinds.Op = true
is_operator_kind _ = false

-- The text is a token of the kind: a name, a number that begins with a digit (as all that are written do: `0.5`, not `.5`), a literal in
-- one quote and without line ends, or an operator.
abbrev pub is_token : Kind → List ℕ → Bool
is_token kinds.Name t = is_name t
is_token kinds.Number t = begins is_decimal_digit t && is_number t
is_token kinds.String t = is_single_string t && list_all is_comment_part t
is_token kinds.Op t = is_operator t
is_token _ t = false

-- The blanks: there is none where one of the two keeps close, except that a number isn't close to a point, nor a comma to a colon that
-- keeps close to what comes after it, as a slice's does (a header's and a pair's don't).
abbrev pub touches : Piece → Piece → Bool
touches p q =
    (p.following || q.before) && not (is_number_kind p.kind && bytes_eq q.text (codes "."))
    && not (bytes_eq p.text (codes ",") && (bytes_eq q.text (codes ":") && q.following))

-- the text after a piece of its line, up to the line end
abbrev pub text_following : Piece → List Piece → List ℕ
text_following p [] = []
text_following p (q ∷ qs) = (if touches p q then [] else space ∷ []) ++ (q.text ++ text_following q qs)

-- the text of pieces
abbrev pub spaced : List Piece → List ℕ
spaced [] = []
spaced (p ∷ ps) = p.text ++ text_following p ps

-- some operator begins with the text
abbrev pub begins_operator : List ℕ → Bool
begins_operator t = list_any (λ o. starts_with nat_eq o.spelling t) operators

-- Two pieces are told apart without a blank. After a name, a number or a string only an operator is, and after a number none that begins
-- with a point. After an operator each piece is that doesn't make a longer operator of it, or a number of a point.
abbrev pub stay_apart : Piece → Piece → Bool
stay_apart p q =
    if is_operator_kind p.kind then not (begins_operator (p.text ++ take 1 q.text)) && not
    (bytes_eq p.text (codes ".") && is_number_kind q.kind)
    else is_operator_kind q.kind && not (is_number_kind p.kind && bytes_eq (take 1 q.text) (codes "."))

-- two points that are told apart, since no third one touches them
abbrev pub are_two_points : Piece → Piece → List Piece → Bool
are_two_points p q [] = bytes_eq p.text (codes ".") && bytes_eq q.text (codes ".")
are_two_points p q (r ∷ rs) = bytes_eq p.text (codes ".") && bytes_eq q.text (codes ".") && not
    (touches q r && bytes_eq (take 1 r.text) (codes "."))

-- Each piece that touches the one before it is told apart from that.
abbrev pub all_apart : Piece → List Piece → Bool
all_apart p [] = true
all_apart p (q ∷ qs) = (not (touches p q) || (stay_apart p q || are_two_points p q qs)) && all_apart q qs

-- pieces that can be read back: there is at least one, each is a token, and they are told apart
abbrev pub are_readable : List Piece → Bool
are_readable [] = false
are_readable (p ∷ ps) = list_all (λ q. is_token q.kind q.text) (p ∷ ps) && all_apart p ps

-- A line: its level, and its pieces.
pub record Line : Type 0 where
  pub level : ℕ
  pub pieces : List Piece

-- four blanks a level, the pieces, and LF
abbrev pub line_text : Line → List ℕ
line_text l = replicate (4 * l.level) space ++ (spaced l.pieces ++ line_feed ∷ [])

abbrev pub lines_text : List Line → List ℕ
lines_text [] = []
lines_text (l ∷ ls) = line_text l ++ lines_text ls
