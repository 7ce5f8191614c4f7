-- The dump text of what is shown: one layout for all classes.
--
-- On one line, members are parted by a comma and a blank. Else each begins a line of its own, after a comma but for the first; the
-- closing bracket follows the last. The indentation of a line is a newline and as many blanks as its level has.
use Rattle.std.specs.Prelude.{ℕ, ◌+◌, nat_le, Bool, true, false, ◌&&◌, ◌||◌, List, [], ◌++◌, Option, Some, None, codes, replicate}
use Rattle.std.specs.Prelude.{if◌then◌else◌}
use Rattle.pysource.specs.Characters.{space}
use Rattle.pytree_dump_text.specs.declared.styles.Style.{Style}
use Rattle.pytree_dump_text.specs.Shows.{Shown, Showns, Fields, Scalar, Row, Node, no_shown, a_shown, no_field, a_field, left_out}

-- a dump without an indent has one line
abbrev pub is_flat : Option ℕ → Bool
is_flat None = true
is_flat (Some n) = false

-- the indentation of a line one level deeper
abbrev pub deeper : Option ℕ → List ℕ → List ℕ
deeper None indentation = indentation
deeper (Some n) indentation = indentation ++ replicate n space

-- how many fields are shown
abbrev pub shown_count : Fields → ℕ
shown_count no_field = 0
shown_count (a_field name x fs) = shown_count fs + 1
shown_count (left_out fs) = shown_count fs

-- a scalar, an empty list, a node without shown fields
abbrev pub is_simple : Shown → Bool
is_simple (Scalar t) = true
is_simple (Row no_shown) = true
is_simple (Row (a_shown x xs)) = false
is_simple (Node class fs) = nat_le (shown_count fs) 0

abbrev pub all_simple : Fields → Bool
all_simple no_field = true
all_simple (a_field name x fs) = is_simple x && all_simple fs
all_simple (left_out fs) = all_simple fs

-- at most three shown fields, and all simple
abbrev pub is_short : Fields → Bool
is_short fs = nat_le (shown_count fs) 3 && all_simple fs

-- what stands before a member: whether it is on one line with the others, the indentation of a line, whether it is the first
abbrev pub before : Bool → List ℕ → Bool → List ℕ
before true indentation first = if first then [] else codes ", "
before false indentation first = if first then indentation else codes "," ++ indentation

-- a field's name, where it is told
abbrev pub label : Bool → List ℕ → List ℕ
label named name = if named then name ++ codes "=" else []

abbrev mutual
  pub text : Style → List ℕ → Shown → List ℕ
  text s indentation (Scalar t) = t
  text s indentation (Row xs) = codes "[" ++ members s (deeper s.indent indentation) true xs ++ codes "]"
  text s indentation (Node class fs) =
      class ++ codes "(" ++ fields s (deeper s.indent indentation) (is_flat s.indent || is_short fs) s.names true fs ++ codes ")"

  pub members : Style → List ℕ → Bool → Showns → List ℕ
  members s indentation first no_shown = []
  members s indentation first (a_shown x xs) = before (is_flat s.indent) indentation first ++ text s indentation x ++
      members s indentation false xs

  -- once a field is left out, those after it are named
  pub fields : Style → List ℕ → Bool → Bool → Bool → Fields → List ℕ
  fields s indentation one_line named first no_field = []
  fields s indentation one_line named first (left_out fs) = fields s indentation one_line true first fs
  fields s indentation one_line named first (a_field name x fs) =
      before one_line indentation first ++ label named name ++ text s indentation x ++ fields s indentation one_line named false fs

-- the whole text: the indentation of the outermost line has no blanks
abbrev pub dump_text : Style → Shown → List ℕ
dump_text s x = text s (codes "\n") x
