-- Worked lines, by computation: their text, and that they can be read back.
--
-- Carries: no contract; its rows are computed as it is checked.
use Rattle.std.proofs.Common.{◌≡◌, ℕ, ◌&&◌, Bool, true, false, List, [], ◌∷◌, refl}
use Rattle.std.specs.Prelude.{codes}
use Rattle.pylex_listing.specs.declared.kind.Kind.TheVariants as kinds
use Rattle.pylex_lexeme.specs.Operators.{operators, exact_of, is_operator}
use Rattle.pyunparse_text.specs.Spacing.{Piece, Line, lines_text, all_apart}
use Rattle.pyunparse_text.specs.Tokens.{closes_all}

abbrev name : List ℕ → Piece
name t = record { kind = kinds.Name; text = t; before = false; following = false }

-- a name directly after the points of an import
abbrev module_name : List ℕ → Piece
module_name t = record { kind = kinds.Name; text = t; before = true; following = false }

abbrev number : List ℕ → Piece
number t = record { kind = kinds.Number; text = t; before = false; following = false }

abbrev string : List ℕ → Piece
string t = record { kind = kinds.String; text = t; before = false; following = false }

abbrev sign : Bool → Bool → List ℕ → Piece
sign l r t = record { kind = kinds.Op; text = t; before = l; following = r }

-- x = -f(a, *b, c=1)[1:, ::2]
call_line : Line
call_line = record {
  level = 0;
  pieces = name (codes "x") ∷ sign false false (codes "=") ∷ sign false true (codes "-") ∷ name (codes "f") ∷ sign true true (codes "(") ∷
      name (codes "a") ∷ sign true false (codes ",") ∷
      sign false true (codes "*") ∷ name (codes "b") ∷ sign true false (codes ",") ∷ name (codes "c") ∷ sign true true (codes "=") ∷ number
      (codes "1") ∷ sign true false (codes ")") ∷ sign true true (codes "[") ∷
      number (codes "1") ∷ sign true true (codes ":") ∷ sign true false (codes ",") ∷ sign true true (codes ":") ∷ sign true true
      (codes ":") ∷ number (codes "2") ∷ sign true false (codes "]") ∷ [];
}

-- from ..a import b
import_line : Line
import_line = record {
  level = 0;
  pieces = name (codes "from") ∷ sign false false (codes ".") ∷ sign true false (codes ".") ∷ module_name (codes "a") ∷ name
      (codes "import") ∷ name (codes "b") ∷ [];
}

-- if 1 .real:
if_line : Line
if_line = record {
  level = 0;
  pieces = name (codes "if") ∷ number (codes "1") ∷ sign true true (codes ".") ∷ name (codes "real") ∷ sign true false (codes ":") ∷ [];
}

-- {'a': u'b', **d}
dict_line : Line
dict_line = record {
  level = 1;
  pieces = sign false true (codes "{") ∷ string (codes "'a'") ∷ sign true false (codes ":") ∷ string (codes "u'b'") ∷ sign true false
      (codes ",") ∷ sign false true (codes "**") ∷ name (codes "d") ∷ sign true false (codes "}") ∷ [];
}

written : lines_text (call_line ∷ import_line ∷ if_line ∷ dict_line ∷ []) ≡ codes
    "x = -f(a, *b, c=1)[1:, ::2]\nfrom ..a import b\nif 1 .real:\n    {'a': u'b', **d}\n"
unfolding call_line import_line if_line dict_line
written = refl

-- all but that the names are names, which the tables of Unicode say
abbrev told_apart : List Piece → Bool
told_apart [] = false
told_apart (p ∷ ps) = all_apart p ps && closes_all 0 (p ∷ ps)

import_apart : told_apart import_line.pieces ≡ true
unfolding import_line operators exact_of is_operator
import_apart = refl

if_apart : told_apart if_line.pieces ≡ true
unfolding if_line operators exact_of is_operator
if_apart = refl

-- a number and a word, a point and a number, three points: they are not told apart
word_unreadable : told_apart (number (codes "1") ∷ module_name (codes "if") ∷ []) ≡ false
unfolding operators exact_of is_operator
word_unreadable = refl

number_unreadable : told_apart (sign false true (codes ".") ∷ number (codes "1") ∷ []) ≡ false
unfolding operators exact_of is_operator
number_unreadable = refl

points_unreadable : told_apart (sign false true (codes ".") ∷ sign false true (codes ".") ∷ sign false true (codes ".") ∷ []) ≡ false
unfolding operators exact_of is_operator
points_unreadable = refl
