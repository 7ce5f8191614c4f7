-- What the place of a line decides of its form. Whether a line with a form is the header of a `match` is told by its two ends, wherever it
-- stands. And a line has two forms, one in a `match` and another elsewhere, only where it begins with `case` and `[`.
use Rattle.std.specs.Prelude.{◌≡◌, ◌⊎◌, Bool, true, false, List, ◌∷◌}
use Rattle.pylex_lexeme.specs.declared.kinds.Exact.TheVariants.{LSqb}
use Rattle.pytree_node.specs.declared.profiles.Profile.{Profile}
use Rattle.pytree_node.specs.Trees.{Identifier}
use Rattle.pytoken.specs.Terminals.{Terminal, Op}
use Rattle.pygrammar.specs.Lines.{Form}
use Rattle.pygrammar.specs.Forms.{FormAt, case_word}
use Rattle.pygrammar.specs.Blocks.{kind_of, is_match}
use Rattle.pygrammar.specs.LineReader.{is_match_line}

-- a line with a form is the header of a `match` exactly where, in the extent that has them, it begins with that word and ends in a colon
abbrev pub MatchesAreToldByTheirEnds : Type 0
MatchesAreToldByTheirEnds = (profile : Profile) (inside : Bool) (ts : List Terminal) (f : Form) →
    FormAt profile inside ts f → is_match (kind_of f) ≡ is_match_line profile ts

-- the line begins with `case` and `[`
pub data BeginsCaseBracket : List Terminal → Type 0 where
  case_bracket : {ts : List Terminal} (form : Identifier) → BeginsCaseBracket (case_word form ∷ (Op LSqb ∷ ts))

-- A line that has a form in a `match` and one elsewhere has the same in both places, or begins with `case` and `[`: in a `match`
-- `case [x]: y` is the header of a case, elsewhere an annotation of `case[x]`.
abbrev pub FormsDifferAfterCaseBracket : Type 0
FormsDifferAfterCaseBracket = (profile : Profile) (ts : List Terminal) (f g : Form) →
    FormAt profile true ts f → FormAt profile false ts g → (f ≡ g) ⊎ BeginsCaseBracket ts

-- the laws of the places of lines
pub record PlacesAreLawful : Type 0 where
  pub ends : MatchesAreToldByTheirEnds
  pub differ : FormsDifferAfterCaseBracket
