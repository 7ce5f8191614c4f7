-- The lexemes that lines of pieces are cut into.
use Rattle.std.specs.Prelude.{ℕ, ◌*◌, zero, suc, List, [], ◌∷◌, ◌++◌, replicate, if◌then◌else◌, Some, None}
use Rattle.pylex_listing.specs.declared.kind.Kind.{Kind}
use Rattle.pylex_listing.specs.declared.kind.Kind.TheVariants as kinds
use Rattle.pylex_lexeme.specs.declared.lexeme.Class.{Class}
use Rattle.pylex_lexeme.specs.declared.lexeme.Class.TheVariants.{Name, Number, String, Operator, Blanks, LineEnd, Join}
use Rattle.pylex_lexeme.specs.Operators.{exact_of}
use Rattle.pylex_lexeme.specs.Lexemes.{Lexeme}
use Rattle.pyunparse_text.specs.Spacing.{Piece, Line, touches}

-- the class of a token's lexeme; a piece is of the first four kinds
abbrev pub class_of : Kind → List ℕ → Class
class_of kinds.Name t = Name
class_of kinds.Number t = Number
class_of kinds.String t = String
class_of _ t = elim (exact_of t) [ Some e ↦ Operator e | None ↦ Join ]

abbrev pub lexeme_of : Piece → Lexeme
lexeme_of p = record { «class» = class_of p.kind p.text; text = p.text }

abbrev pub blanks : List ℕ → Lexeme
blanks t = record { «class» = Blanks; text = t }

abbrev pub feed : Lexeme
feed = record { «class» = LineEnd; text = 10 ∷ [] }

-- the lexemes after a piece of its line: a blank's where one stands, and each piece's own
abbrev pub lexemes_after : Piece → List Piece → List Lexeme
lexemes_after p [] = []
lexemes_after p (q ∷ qs) = (if touches p q then [] else blanks (32 ∷ []) ∷ []) ++ (lexeme_of q ∷ lexemes_after q qs)

abbrev pub lexemes_of : List Piece → List Lexeme
lexemes_of [] = []
lexemes_of (p ∷ ps) = lexeme_of p ∷ lexemes_after p ps

-- the blanks before a line of a level
abbrev pub indent_lexemes : ℕ → List Lexeme
indent_lexemes zero = []
indent_lexemes (suc n) = blanks (replicate (4 * suc n) 32) ∷ []

abbrev pub line_lexemes : Line → List Lexeme
line_lexemes l = indent_lexemes l.level ++ (lexemes_of l.pieces ++ feed ∷ [])

abbrev pub lines_lexemes : List Line → List Lexeme
lines_lexemes [] = []
lines_lexemes (l ∷ ls) = line_lexemes l ++ lines_lexemes ls
