-- Which nodes of what is shown have a span, and the same with four members more after the fields of each.
use Rattle.std.specs.Prelude.{ℕ, ◌+◌, Bool, true, false, cond, ◌||◌, List, [], ◌∷◌, codes, decimal}
use Rattle.std.specs.Str.{bytes_eq}
use Rattle.pytree_dump_text.specs.Shows.{Shown, Showns, Fields, Scalar, Row, Node, no_shown, a_shown, no_field, a_field, left_out}

-- what is shown of a span: of each of its ends the line, from 1, and the bytes between the line's start and it
pub record Attributes : Type 0 where
  pub line : ℕ
  pub byte : ℕ
  pub end_line : ℕ
  pub end_byte : ℕ

abbrev pub is_one_of : List (List ℕ) → List ℕ → Bool
is_one_of [] name = false
is_one_of (x ∷ xs) name = bytes_eq x name || is_one_of xs name

abbrev pub statements : List (List ℕ)
statements = codes "FunctionDef" ∷ codes "AsyncFunctionDef" ∷ codes "ClassDef" ∷ codes "Return" ∷ codes "Delete" ∷ codes
    "Assign" ∷ codes "TypeAlias"
    ∷ codes "AugAssign" ∷ codes "AnnAssign" ∷ codes "For" ∷ codes "AsyncFor" ∷ codes "While" ∷ codes "If" ∷ codes "With" ∷ codes "AsyncWith"
    ∷ codes "Match" ∷ codes "Raise" ∷ codes "Try" ∷ codes "TryStar" ∷ codes "Assert" ∷ codes "Import" ∷ codes "ImportFrom" ∷ codes "Global"
    ∷ codes "Nonlocal" ∷ codes "Expr" ∷ codes "Pass" ∷ codes "Break" ∷ codes "Continue" ∷ []

abbrev pub expressions : List (List ℕ)
expressions = codes "BoolOp" ∷ codes "NamedExpr" ∷ codes "BinOp" ∷ codes "UnaryOp" ∷ codes "Lambda" ∷ codes "IfExp" ∷
    codes "Dict" ∷ codes "Set"
    ∷ codes "ListComp" ∷ codes "SetComp" ∷ codes "DictComp" ∷ codes "GeneratorExp" ∷ codes "Await" ∷ codes "Yield" ∷ codes "YieldFrom"
    ∷ codes "Compare" ∷ codes "Call" ∷ codes "FormattedValue" ∷ codes "JoinedStr" ∷ codes "Constant" ∷ codes "Attribute" ∷ codes "Subscript"
    ∷ codes "Starred" ∷ codes "Name" ∷ codes "List" ∷ codes "Tuple" ∷ codes "Slice" ∷ []

abbrev pub patterns : List (List ℕ)
patterns = codes "MatchValue" ∷ codes "MatchSingleton" ∷ codes "MatchSequence" ∷ codes "MatchMapping" ∷ codes
    "MatchClass" ∷ codes "MatchStar"
    ∷ codes "MatchAs" ∷ codes "MatchOr" ∷ []

abbrev pub parts : List (List ℕ)
parts = codes "ExceptHandler" ∷ codes "arg" ∷ codes "keyword" ∷ codes "alias" ∷ codes "TypeVar" ∷ codes "ParamSpec" ∷
    codes "TypeVarTuple" ∷ []

-- the classes whose nodes have a span
abbrev pub is_marked : List ℕ → Bool
is_marked name = is_one_of statements name || (is_one_of expressions name || (is_one_of patterns name || is_one_of parts name))

-- how many nodes have a span
abbrev mutual
  pub marked : Shown → ℕ
  marked (Scalar t) = 0
  marked (Row xs) = marked_rows xs
  marked (Node name fs) = cond (is_marked name) (1 + marked_fields fs) (marked_fields fs)

  pub marked_rows : Showns → ℕ
  marked_rows no_shown = 0
  marked_rows (a_shown x xs) = marked x + marked_rows xs

  pub marked_fields : Fields → ℕ
  marked_fields no_field = 0
  marked_fields (a_field name x fs) = marked x + marked_fields fs
  marked_fields (left_out fs) = marked_fields fs

-- ---- The walk. It takes the places from the front of the list and gives what is left of it.

pub record Placed (A : Type 0) : Type 0 where
  pub shown : A
  pub left : List Attributes

abbrev pub placed : {A : Type 0} → A → List Attributes → Placed A
placed x left = record { shown = x; left = left }

abbrev pub number : ℕ → Shown
number n = Scalar (decimal n)

-- the four members; they are named even where the fields before them aren't
abbrev pub members : Attributes → Fields
members p = left_out (a_field (codes "lineno") (number p.line) (a_field (codes "col_offset") (number p.byte)
    (a_field (codes "end_lineno") (number p.end_line) (a_field (codes "end_col_offset") (number p.end_byte) no_field))))

abbrev pub with_members : Fields → Fields → Fields
with_members no_field more = more
with_members (a_field name x fs) more = a_field name x (with_members fs more)
with_members (left_out fs) more = left_out (with_members fs more)

-- the members of a node that is marked or isn't, where so many places are left, and the places after its own
abbrev pub own : Bool → List Attributes → Fields
own false ps = no_field
own true [] = no_field
own true (p ∷ ps) = members p

abbrev pub following : Bool → List Attributes → List Attributes
following false ps = ps
following true [] = []
following true (p ∷ ps) = ps

-- a node whose fields are written
abbrev pub closed : Bool → Placed Fields → Placed Fields
closed is_marked fs = placed (with_members fs.shown (own is_marked fs.left)) (following is_marked fs.left)

abbrev mutual
  pub with_places : List Attributes → Shown → Placed Shown
  with_places ps (Scalar t) = placed (Scalar t) ps
  with_places ps (Row xs) = let rows = rows_with ps xs in placed (Row rows.shown) rows.left
  with_places ps (Node name fs) = let all = closed (is_marked name) (fields_with ps fs) in placed (Node name all.shown) all.left

  pub rows_with : List Attributes → Showns → Placed Showns
  rows_with ps no_shown = placed no_shown ps
  rows_with ps (a_shown x xs) =
      let one = with_places ps x in
      let rest = rows_with one.left xs in
      placed (a_shown one.shown rest.shown) rest.left

  pub fields_with : List Attributes → Fields → Placed Fields
  fields_with ps no_field = placed no_field ps
  fields_with ps (a_field name x fs) =
      let one = with_places ps x in
      let rest = fields_with one.left fs in
      placed (a_field name one.shown rest.shown) rest.left
  fields_with ps (left_out fs) = let rest = fields_with ps fs in placed (left_out rest.shown) rest.left
