-- The listing as a lister makes it: by a state, which one lexeme after another changes.
use Rattle.std.specs.Prelude.{ℕ, ◌+◌, ◌-◌, nat_lt, Bool, true, false, not, ◌&&◌, ◌||◌, ◌==◌, List, [], ◌∷◌, ◌++◌, length, filter, replicate}
use Rattle.std.specs.Prelude.{count_by, if◌then◌else◌, Option, Some, None}
use Rattle.std.specs.List.{list_all, list_any}
use Rattle.pylex_lexeme.specs.declared.lexeme.Class.TheVariants.{Name, Number, String, Operator, Comment, Blanks, LineEnd, Join}
use Rattle.pylex_lexeme.specs.declared.kinds.Exact.{Exact}
use Rattle.pysource.specs.declared.places.Place.{Place}
use Rattle.pylex_listing.specs.declared.kind.Kind.{Kind}
use Rattle.pylex_listing.specs.declared.kind.Kind.TheVariants as kinds
use Rattle.pylex_listing.specs.declared.entries.ListingFault.{ListingFault}
use Rattle.pylex_listing.specs.declared.entries.ListingError.TheVariants as errors
use Rattle.pylex_listing.specs.declared.entries.Step.{Step}
use Rattle.pylex_listing.specs.declared.entries.Step.TheVariants as steps
use Rattle.pylex_listing.specs.declared.point.Point.{Point}
use Rattle.pylex_listing.specs.declared.leading_char.LeadingChar.{LeadingChar}
use Rattle.pylex_listing.specs.declared.leading_char.LeadingChar.TheVariants.{Nothing, Hash, Other}
use Rattle.pylex_lexeme.specs.Chars.{is_blank_char}
use Rattle.pylex_lexeme.specs.Operators.{is_closer}
use Rattle.pylex_lexeme.specs.Lexemes.{Lexeme, cut, left_by_cut, is_join_class}
use Rattle.pylex_listing.specs.Lines.{is_of_blanks, is_of_line_end, is_significant, opens, closes, count_if}
use Rattle.pylex_listing.specs.Steps.{fault_at}
use Rattle.pylex_listing.specs.Indentation.{width_from}
use Rattle.pylex_lexeme.specs.Chars.{bytes_in}
use Rattle.pylex_listing.specs.Listing.{further, row_after, stop_fault, up_to_end}
use Rattle.pylex_lexeme.specs.Characters.{line_feed, hash}

pub record State : Type 0 where
  pub now : Point
  pub line : Point
  pub depth : ℕ
  pub levels : List ℕ
  pub margin : Bool
  pub width : ℕ
  pub logical : Bool
  pub joined : Bool
  pub lead : LeadingChar

-- the place after a text that begins at a place
abbrev pub place_past : Place → List ℕ → Place
place_past p [] = p
place_past p (c ∷ cs) = place_past (if c == line_feed then record { row = p.row + 1; column = 0 } else record {
  row = p.row;
  column = p.column + 1;
}) cs

abbrev pub lead_after_char : LeadingChar → ℕ → LeadingChar
lead_after_char f c =
    if c == line_feed then Nothing else elim f [
      | Nothing ↦ if is_blank_char c then Nothing else (if c == hash then Hash else Other)
      | Hash ↦ Hash
      | Other ↦ Other
    ]

-- what a line begins with after a character that is neither a blank nor `#`
abbrev pub begun_by : LeadingChar → LeadingChar
begun_by f = elim f [ Nothing ↦ Other | Hash ↦ Hash | Other ↦ Other ]

abbrev pub lead_after : LeadingChar → List ℕ → LeadingChar
lead_after f [] = f
lead_after f (c ∷ cs) = lead_after (lead_after_char f c) cs

abbrev pub past : Point → List ℕ → Point
past p t = record { place = place_past p.place t; offset = p.offset + bytes_in t }

-- the open levels after a line of a width: those below it, and it
abbrev pub pushed : ℕ → List ℕ → List ℕ
pushed w levels = filter (λ v. nat_lt v w) levels ++ w ∷ []

abbrev pub is_of_join : Lexeme → Bool
is_of_join x = is_join_class x.«class»

-- the lexeme ends a measured line, begins a logical one
abbrev pub ends_line : State → Lexeme → Bool
ends_line s x = is_of_line_end x && (s.depth == 0)

abbrev pub begins_line : State → Lexeme → Bool
begins_line s x = s.margin && is_significant x

abbrev pub still : Bool → ℕ → ℕ
still b n = if b then n else 0

-- the state after a lexeme
unfoldable pub after : State → Lexeme → State
after s x = record {
  now = past s.now x.text;
  line = if ends_line s x then past s.now x.text else s.line;
  depth = s.depth + count_if (opens x) - count_if (closes x);
  levels = if begins_line s x then pushed s.width s.levels else s.levels;
  margin = ends_line s x || (is_of_blanks x && s.margin);
  width = if ends_line s x then 0 else still (is_of_blanks x && s.margin) (width_from s.width x.text);
  logical = not (ends_line s x) && (is_significant x || s.logical);
  joined = is_of_join x;
  lead = lead_after s.lead x.text;
}

abbrev pub step_of : Kind → Option Exact → Point → Point → Step
step_of k e p q = steps.Entry (record { kind = k; exact = e; start = p.place; «end» = q.place; «from» = p.offset; to = q.offset })

abbrev pub mark_at : Kind → ℕ → Place → Place → Step
mark_at k o p q = steps.Entry (record { kind = k; exact = None; start = p; «end» = q; «from» = o; to = o })

abbrev pub dedents_at : ℕ → List ℕ → ℕ → Place → List Step
dedents_at w levels o p = replicate (count_by (nat_lt w) levels) (mark_at kinds.Dedent o p p)

-- the layout before the first significant token of a logical line
unfoldable pub layout_of : State → List Step
layout_of s =
    if s.margin then
    (if list_all (λ v. nat_lt v s.width) s.levels then step_of kinds.Indent None s.line s.now ∷ []
    else (if list_any (λ v. v == s.width) s.levels then dedents_at s.width s.levels s.now.offset s.now.place
    else fault_at errors.UnindentMismatch s.now.place ∷ []))
    else []

abbrev pub line_end_kind_of : State → Kind
line_end_kind_of s = if s.logical && (s.depth == 0) then kinds.Newline else kinds.Nl

abbrev pub following : Point → List ℕ → Point
following p t = record { place = further p.place (length t); offset = p.offset + bytes_in t }

-- the entry of a lexeme, or its fault
unfoldable pub entry_by : State → Lexeme → List Step
entry_by s x = elim x.«class» [
  | Name ↦ step_of kinds.Name None s.now (past s.now x.text) ∷ []
  | Number ↦ step_of kinds.Number None s.now (past s.now x.text) ∷ []
  | String ↦ step_of kinds.String None s.now (past s.now x.text) ∷ []
  | Operator o ↦ if is_closer o && (s.depth == 0) then fault_at errors.UnmatchedCloser s.now.place ∷ [] else step_of kinds.Op (Some o) s.now
      (past s.now x.text) ∷ []
  | Comment ↦ step_of kinds.Comment None s.now (past s.now x.text) ∷ []
  | Blanks ↦ []
  | LineEnd ↦ step_of (line_end_kind_of s) None s.now (following s.now x.text) ∷ []
  | Join ↦ []
]

unfoldable pub gives : State → Lexeme → List Step
gives s x = (if is_significant x then layout_of s else []) ++ entry_by s x

abbrev pub is_hash : LeadingChar → Bool
is_hash f = elim f [ Hash ↦ true | _ ↦ false ]

unfoldable pub last_line_end : State → List Step
last_line_end s =
    if s.logical then (if is_hash s.lead then [] else mark_at kinds.Newline s.now.offset s.now.place (further s.now.place 1) ∷ [])
    else (if s.margin then [] else mark_at kinds.Nl s.now.offset s.now.place s.now.place ∷ [])

abbrev pub last_place : State → Place
last_place s = record { row = if s.margin then s.now.place.row else row_after s.now.place; column = 0 }

-- what follows the last lexeme of a text that is cut to its end
unfoldable pub tail_of : State → List Step
tail_of s =
    if not (s.depth == 0) || s.joined then fault_at errors.EofInStatement (record { row = row_after s.now.place; column = 0 }) ∷ []
    else last_line_end s ++ dedents_at 0 s.levels s.now.offset (last_place s) ++ mark_at kinds.EndMarker s.now.offset (last_place s)
    (last_place s) ∷ steps.End ∷ []

unfoldable pub stop_of : Option ListingFault → State → List ℕ → List Step
stop_of fault s left =
    if not (length left == 0) then layout_of s ++ stop_fault fault s.now.place left ∷ []
    else elim fault [ Some f ↦ steps.Fault f ∷ [] | None ↦ tail_of s ]

abbrev pub run : Option ListingFault → List ℕ → State → List Lexeme → List Step
run fault left s [] = stop_of fault s left
run fault left s (x ∷ xs) = gives s x ++ run fault left (after s x) xs

-- what a lister has still to give, by its state and the text that is left
unfoldable pub remaining : Option ListingFault → State → List ℕ → List Step
remaining fault s text = up_to_end (run fault (left_by_cut text) s (cut text))

abbrev pub first_point : Point
first_point = record { place = record { row = 1; column = 0 }; offset = 0 }

abbrev pub first_state : State
first_state = record {
  now = first_point;
  line = first_point;
  depth = 0;
  levels = 0 ∷ [];
  margin = true;
  width = 0;
  logical = false;
  joined = false;
  lead = Nothing;
}

-- steps, and what follows them unless they end
abbrev pub after_steps : List Step → List Step → List Step
after_steps [] r = r
after_steps (steps.Entry e ∷ ss) r = steps.Entry e ∷ after_steps ss r
after_steps (steps.End ∷ ss) r = steps.End ∷ []
after_steps (steps.Fault f ∷ ss) r = steps.Fault f ∷ []
