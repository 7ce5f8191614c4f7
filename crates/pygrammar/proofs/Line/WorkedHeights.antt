-- Worked answers for lines within a height: what fits, what is too high, and what has no form.
--
-- Carries: no contract; its rows are computed as it is checked.
use Rattle.std.proofs.Common.{◌≡◌, refl, ℕ, ◌+◌, List, [], ◌∷◌, zero, suc, true, false}
use Rattle.pylex_lexeme.specs.declared.kinds.Exact.TheVariants.{Minus, Dot, Comma, Colon, Equal, Semi, At, LPar, RPar, LSqb, RSqb}
use Rattle.pytoken.specs.declared.keywords.Keyword.TheVariants as Key
use Rattle.pytree_node.specs.declared.profiles.Extent.TheVariants.{Whole}
use Rattle.pytree_node.specs.declared.profiles.Profile.{Profile}
use Rattle.pytree_node.specs.declared.profiles.Version.TheVariants as versions
use Rattle.pytree_node.specs.Profiles.{python, plain_311 as Py311, plain_312 as Py312}
use Rattle.pytoken.specs.Terminals.{Terminal, Op, Word, in_form, whole}
use Rattle.pygrammar.specs.Reader.{Answer, Found, NoForm, TooDeep}
use Rattle.pygrammar.specs.Lines.{Form}
use Rattle.pygrammar.specs.FormHeights.{form_height}
use Rattle.pygrammar.specs.Forms.{match_name, match_word, case_name, case_word}
use Rattle.pygrammar.specs.LimitedLines.{limit_line}

-- 0: something left, 1: no form, 2: too deep; above 2 the height and three
abbrev kind : Answer Form → ℕ
kind (Found f []) = 3 + form_height f
kind (Found f (t ∷ r)) = 0
kind NoForm = 1
kind TooDeep = 2

abbrev times : ℕ → Terminal → List Terminal → List Terminal
times zero t us = us
times (suc n) t us = t ∷ times n t us

abbrev x : Terminal
x = in_form (120 ∷ [])

-- an expression of height n + 1, and what follows it
abbrev signs : ℕ → List Terminal → List Terminal
signs n r = times n (Op Minus) (x ∷ r)

-- no expression, no height
pass_fits : kind (limit_line Py312 false 0 (Word Key.Pass ∷ [])) ≡ 3
pass_fits = refl

import_fits : kind (limit_line Py312 false 0 (Word Key.Import ∷ x ∷ Op Dot ∷ x ∷ Op Dot ∷ x ∷ [])) ≡ 3
import_fits = refl

name_fits : kind (limit_line Py312 false 1 (x ∷ [])) ≡ 4
name_fits = refl

name_high : kind (limit_line Py312 false 0 (x ∷ [])) ≡ 2
name_high = refl

-- x = - - x; x
assign_fits : kind (limit_line Py312 false 3 (x ∷ Op Equal ∷ signs 2 (Op Semi ∷ x ∷ []))) ≡ 6
assign_fits = refl

assign_high : kind (limit_line Py312 false 2 (x ∷ Op Equal ∷ signs 2 (Op Semi ∷ x ∷ []))) ≡ 2
assign_high = refl

-- x: - - x = x
annotation_fits : kind (limit_line Py312 false 3 (x ∷ Op Colon ∷ signs 2 (Op Equal ∷ x ∷ []))) ≡ 6
annotation_fits = refl

annotation_high : kind (limit_line Py312 false 2 (x ∷ Op Colon ∷ signs 2 (Op Equal ∷ x ∷ []))) ≡ 2
annotation_high = refl

-- @ - - x
decorator_fits : kind (limit_line Py312 false 3 (Op At ∷ signs 2 [])) ≡ 6
decorator_fits = refl

decorator_high : kind (limit_line Py312 false 2 (Op At ∷ signs 2 [])) ≡ 2
decorator_high = refl

-- if x: x = - - x: the suite counts with the header
suite_fits : kind (limit_line Py312 false 3 (Word Key.If ∷ x ∷ Op Colon ∷ x ∷ Op Equal ∷ signs 2 [])) ≡ 6
suite_fits = refl

suite_high : kind (limit_line Py312 false 2 (Word Key.If ∷ x ∷ Op Colon ∷ x ∷ Op Equal ∷ signs 2 [])) ≡ 2
suite_high = refl

-- class x[x: - - x](x):, which only the newer version has
class_fits : kind (limit_line Py312 false 3 (Word Key.Class ∷ x ∷ Op LSqb ∷ x ∷ Op Colon ∷ signs 2
    (Op RSqb ∷ Op LPar ∷ x ∷ Op RPar ∷ Op Colon ∷ []))) ≡ 6
class_fits = refl

class_high : kind (limit_line Py312 false 2 (Word Key.Class ∷ x ∷ Op LSqb ∷ x ∷ Op Colon ∷ signs 2
    (Op RSqb ∷ Op LPar ∷ x ∷ Op RPar ∷ Op Colon ∷ []))) ≡ 2
class_high = refl

class_new : kind (limit_line Py311 false 2 (Word Key.Class ∷ x ∷ Op LSqb ∷ x ∷ Op Colon ∷ signs 2
    (Op RSqb ∷ Op LPar ∷ x ∷ Op RPar ∷ Op Colon ∷ []))) ≡ 1
class_new = refl

-- def x(x = - - x):
function_fits : kind (limit_line Py312 false 3 (Word Key.Def ∷ x ∷ Op LPar ∷ x ∷ Op Equal ∷ signs 2 (Op RPar ∷ Op Colon ∷ []))) ≡ 6
function_fits = refl

function_high : kind (limit_line Py312 false 2 (Word Key.Def ∷ x ∷ Op LPar ∷ x ∷ Op Equal ∷ signs 2 (Op RPar ∷ Op Colon ∷ []))) ≡ 2
function_high = refl

-- with (x, - - x): brackets before the colon are no expression
items_fit : kind (limit_line Py312 false 3 (Word Key.With ∷ Op LPar ∷ x ∷ Op Comma ∷ signs 2 (Op RPar ∷ Op Colon ∷ []))) ≡ 6
items_fit = refl

items_high : kind (limit_line Py312 false 2 (Word Key.With ∷ Op LPar ∷ x ∷ Op Comma ∷ signs 2 (Op RPar ∷ Op Colon ∷ []))) ≡ 2
items_high = refl

-- with (x, - - x) as x: the brackets are a Tuple, which is one higher
tuple_fits : kind (limit_line Py312 false 4 (Word Key.With ∷ Op LPar ∷ x ∷ Op Comma ∷ signs 2 (Op RPar ∷ Word Key.As ∷ x ∷ Op Colon ∷ [])))
    ≡ 7
tuple_fits = refl

tuple_high : kind (limit_line Py312 false 3 (Word Key.With ∷ Op LPar ∷ x ∷ Op Comma ∷ signs 2 (Op RPar ∷ Word Key.As ∷ x ∷ Op Colon ∷ [])))
    ≡ 2
tuple_high = refl

-- the same, where the first reading, of items, goes too deep
tuple_higher : kind (limit_line Py312 false 1 (Word Key.With ∷ Op LPar ∷ x ∷ Op Comma ∷ signs 2
    (Op RPar ∷ Word Key.As ∷ x ∷ Op Colon ∷ []))) ≡ 2
tuple_higher = refl

-- for x() in - - x: no form, as x() is no target; but where it is too deep, that is said
target_first : kind (limit_line Py312 false 2 (Word Key.For ∷ x ∷ Op LPar ∷ Op RPar ∷ Word Key.In ∷ signs 2 (Op Colon ∷ []))) ≡ 1
target_first = refl

target_deep : kind (limit_line Py312 false 1 (Word Key.For ∷ x ∷ Op LPar ∷ Op RPar ∷ Word Key.In ∷ signs 2 (Op Colon ∷ []))) ≡ 2
target_deep = refl

-- signs and nothing: no form up to as many as the height, above that too deep
signs_alone : kind (limit_line Py312 false 3 (times 3 (Op Minus) [])) ≡ 1
signs_alone = refl

signs_more : kind (limit_line Py312 false 3 (times 4 (Op Minus) [])) ≡ 2
signs_more = refl

-- a height of at most 500
bound_signs : kind (limit_line Py312 false 500 (Word Key.Return ∷ signs 60 [])) ≡ 64
bound_signs = refl

-- ---- The headers of a `match`.

abbrev extended : Profile
extended = python versions.Py312 Whole

-- match - - x:
subject_fits : kind (limit_line extended false 3 (match_word match_name ∷ signs 2 (Op Colon ∷ []))) ≡ 6
subject_fits = refl

subject_high : kind (limit_line extended false 2 (match_word match_name ∷ signs 2 (Op Colon ∷ []))) ≡ 2
subject_high = refl

-- case - 1: a MatchValue of a UnaryOp of a Constant
pattern_fits : kind (limit_line extended true 3 (case_word case_name ∷ Op Minus ∷ whole 1 ∷ Op Colon ∷ [])) ≡ 6
pattern_fits = refl

pattern_high : kind (limit_line extended true 2 (case_word case_name ∷ Op Minus ∷ whole 1 ∷ Op Colon ∷ [])) ≡ 2
pattern_high = refl

-- case x if - - x:
guard_fits : kind (limit_line extended true 3 (case_word case_name ∷ x ∷ Word Key.If ∷ signs 2 (Op Colon ∷ []))) ≡ 6
guard_fits = refl

guard_high : kind (limit_line extended true 2 (case_word case_name ∷ x ∷ Word Key.If ∷ signs 2 (Op Colon ∷ []))) ≡ 2
guard_high = refl

-- case x: - - x
case_suite_fits : kind (limit_line extended true 3 (case_word case_name ∷ x ∷ Op Colon ∷ signs 2 [])) ≡ 6
case_suite_fits = refl

case_suite_high : kind (limit_line extended true 2 (case_word case_name ∷ x ∷ Op Colon ∷ signs 2 [])) ≡ 2
case_suite_high = refl

-- case [x] x: no form, but where the pattern is too deep, that is said
pattern_first : kind (limit_line extended true 2 (case_word case_name ∷ Op LSqb ∷ x ∷ Op RSqb ∷ x ∷ Op Colon ∷ [])) ≡ 1
pattern_first = refl

pattern_deep : kind (limit_line extended true 0 (case_word case_name ∷ Op LSqb ∷ x ∷ Op RSqb ∷ x ∷ Op Colon ∷ [])) ≡ 2
pattern_deep = refl
