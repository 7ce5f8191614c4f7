-- Carries: the law of accepted modules. On: in no line of a module more brackets are open at once
-- than its highest expression is high, and one more.
use Rattle.std.proofs.Common.{refl, ap, ℕ, zero, suc, ◌+◌, ◌≤◌, arith, List, [], ◌∷◌, ◌++◌, Option, Some, None, Bool, true, false, cond}
use Rattle.std.proofs.Common.{append-nil}
use Rattle.std.specs.Prelude.{max, map, All}
use Rattle.std.proofs.lemmas.List.Elements.{All-nil, All-cons}
use Rattle.pylex_lexeme.specs.declared.kinds.Exact.TheVariants.{LPar, RPar, Star, Equal, Comma, Colon, RArrow}
use Rattle.pytree_node.specs.declared.operators.Operator.{Operator}
use Rattle.pytree_node.specs.declared.operators.Operator.TheVariants as Bin
use Rattle.pygrammar.specs.DottedNames.{names_in}
use Rattle.pygrammar.specs.declared.levels.Level.{Level}
use Rattle.pygrammar.specs.declared.levels.Level.TheVariants.{Value, Stars, Named, Expression, Primary, Subject}
use Rattle.pygrammar.specs.declared.pattern_levels.PatternLevel.TheVariants.{Patterns}
use Rattle.pytree_node.specs.Trees
use Rattle.pytree_node.specs.Trees.{Identifier, Expr, exprs, Keywords, no_keyword, a_keyword, Alias, Item, TypeParam, TypeVar, ParamSpec}
use Rattle.pytree_node.specs.Trees.{TypeVarTuple, Stmt, Stmts, no_stmt, a_stmt, stmts, Cases, no_case, a_case, Handlers, no_handler}
use Rattle.pytree_node.specs.Trees.{a_handler}
use Rattle.pytoken.specs.declared.keywords.Keyword.TheVariants as Key
use Rattle.pytoken.specs.Terminals.{Terminal, Op, Word}
use Rattle.pytree_height.specs.Heights.{height, option_height, list_height, item_heights, type_param_height, type_param_heights}
use Rattle.pytree_height.specs.Heights.{keyword_heights}
use Rattle.pytree_height.specs.Heights.{highest_in, highest_in_all, highest_in_cases, highest_in_handlers, expression_height}
use Rattle.pygrammar.specs.Lines.{Header, if_header, elif_header, else_header, loop_header, with_header, try_header, except_header}
use Rattle.pygrammar.specs.Lines.{finally_header}
use Rattle.pygrammar.specs.Lines.{def_header, match_header, case_header, while_head, for_head, function_head, class_head}
use Rattle.pygrammar.specs.FormHeights.{header_height}
use Rattle.pyunparse_text.specs.Written.{listed, written, each, by_name}
use Rattle.pyunparse_text.specs.Terminals.{terminal}
use Rattle.pyunparse_text.specs.Statements as S
use Rattle.pyunparse_text.specs.Brackets.{brackets}
use Rattle.pyunparse_text.specs.Modules.{WrittenLine, header, decorators, lines_of, statement_lines, alternative, clause, case_lines}
use Rattle.pyunparse_text.specs.Modules.{handler_lines}
use Rattle.pyunparse_text.specs.Modules.{terminal_lines}
use Rattle.pyunparse_text.specs.Laws.{LineBracketsAreWithinHeight}
use Rattle.pyunparse_text.proofs.Patterns.Flat.{flat_pattern}
use Rattle.pyunparse_text.proofs.Fewest.Flat.{Flat, Neutral, flat_none, both, plain, pair, up, neutral, AllFlat, none, one, all_up}
use Rattle.pyunparse_text.proofs.Fewest.Flat.{all_append}
use Rattle.pyunparse_text.proofs.Fewest.Flat.{separated_flat, open_round, open_square, close_round, close_square, flat, flat_each}
use Rattle.pyunparse_text.proofs.Fewest.Flat.{flat_by_name}
use Rattle.pyunparse_text.proofs.Fewest.Flat.{flat_parameters}

listed_flat : {n : ℕ} {tss : List (List Terminal)} → AllFlat n tss → Flat n (listed terminal tss)
listed_flat r = separated_flat (Op Comma) neutral r

-- ---- Parts.

perhaps_flat : (l : Level) (e : Option Expr) → ((e : Expr) → Flat (height e) (written terminal l e))
    → Flat (option_height e) (S.perhaps_written terminal l e)
perhaps_flat l None f = flat_none 0
perhaps_flat l (Some e) f = f e

after_flat : (t : Terminal) (l : Level) (e : Option Expr) → Neutral t → ((e : Expr) → Flat (height e) (written terminal l e))
    → Flat (option_height e) (S.following terminal t l e)
after_flat t l None k f = flat_none 0
after_flat t l (Some e) k f = plain k (f e)

as_flat : (x : Option Identifier) → Flat 0 (S.as_name terminal x)
as_flat None = flat_none 0
as_flat (Some x) = plain (λ d. refl) (plain (λ d. refl) (flat_none 0))

async_flat : {n : ℕ} {ts : List Terminal} (b : Bool) → Flat n ts → Flat n (S.async terminal b ++ ts)
async_flat false f = f
async_flat true f = plain (λ d. refl) f

param_flat : (p : TypeParam) → Flat (type_param_height p) (S.type_param terminal p)
param_flat (TypeVar x bound) = plain (λ d. refl) (after_flat (Op Colon) Expression bound (λ d. refl) (λ e. flat Expression refl e))
param_flat (TypeVarTuple x) = plain (λ d. refl) (plain (λ d. refl) (flat_none 0))
param_flat (ParamSpec x) = plain (λ d. refl) (plain (λ d. refl) (flat_none 0))

params_flat : (ps : List TypeParam) → AllFlat (type_param_heights ps) (map (S.type_param terminal) ps)
params_flat [] = none
params_flat (p ∷ ps) = one (up (param_flat p) (omega arith)) (all_up (params_flat ps) (omega arith))

types_flat : (ps : List TypeParam) → Flat (type_param_heights ps + 1) (S.type_params terminal ps)
types_flat [] = flat_none (0 + 1)
types_flat (p ∷ ps) = pair open_square close_square (listed_flat (params_flat (p ∷ ps)))

-- ---- Imports.

names_flat : (xs : List Identifier) → AllFlat 0 (map (S.one_name terminal) xs)
names_flat [] = none
names_flat (x ∷ xs) = one (plain (λ d. refl) (flat_none 0)) (names_flat xs)

rest_flat : (xs : List Identifier) → Flat 0 (S.dotted_rest terminal xs)
rest_flat [] = flat_none 0
rest_flat (x ∷ xs) = plain (λ d. refl) (plain (λ d. refl) (rest_flat xs))

dotted_flat : (close : Bool) (xs : List Identifier) → Flat 0 (S.dotted_names terminal close xs)
dotted_flat close [] = flat_none 0
dotted_flat close (x ∷ xs) = plain (λ d. refl) (rest_flat xs)

module_flat : (close : Bool) (m : Option Identifier) → Flat 0 (S.module_name terminal close m)
module_flat close None = flat_none 0
module_flat close (Some x) = dotted_flat close (names_in x)

points_flat : (close : Bool) (n : ℕ) → Flat 0 (S.point_signs terminal close (S.points n))
points_flat close zero = flat_none 0
points_flat close (suc zero) = plain (λ d. refl) (flat_none 0)
points_flat close (suc (suc zero)) = plain (λ d. refl) (plain (λ d. refl) (flat_none 0))
points_flat close (suc (suc (suc n))) = plain (λ d. refl) (points_flat true n)

aliases_flat : (names : List Alias) → AllFlat 0 (map (S.dotted_alias terminal) names)
aliases_flat [] = none
aliases_flat (a ∷ names) = one (both (dotted_flat false (names_in a.name)) (as_flat a.asname)) (aliases_flat names)

name_aliases_flat : (names : List Alias) → AllFlat 0 (map (S.name_alias terminal) names)
name_aliases_flat [] = none
name_aliases_flat (a ∷ names) = one (plain (λ d. refl) (as_flat a.asname)) (name_aliases_flat names)

imported_flat : (names : List Alias) → Flat 0 (S.imported terminal names)
imported_flat names = by (S.are_all names)
  where
    by : (b : Bool) → Flat 0 (cond b (Op Star ∷ []) (listed terminal (map (S.name_alias terminal) names)))
    by true = plain (λ d. refl) (flat_none 0)
    by false = listed_flat (name_aliases_flat names)

from_flat : (m : Option Identifier) (names : List Alias) (n : ℕ) → Flat 0 (S.simple_tokens terminal (Trees.ImportFrom m names n))
from_flat m names zero = plain (λ d. refl) (both (module_flat false m) (plain (λ d. refl) (imported_flat names)))
from_flat m names (suc n) =
    plain (λ d. refl) (both (points_flat false (suc n)) (both (module_flat true m) (plain (λ d. refl) (imported_flat names))))

-- ---- Simple statements.

targets_flat : (es : List Expr) → Flat (list_height es) (S.targets terminal es)
targets_flat [] = flat_none 0
targets_flat (e ∷ es) = both (up (flat Stars refl e) (omega arith)) (plain (λ d. refl) (up (targets_flat es) (omega arith)))

augmented_neutral : (o : Operator) → Neutral (Op (S.augmented_sign o))
augmented_neutral Bin.Add d = refl
augmented_neutral Bin.Sub d = refl
augmented_neutral Bin.Mult d = refl
augmented_neutral Bin.MatMult d = refl
augmented_neutral Bin.Div d = refl
augmented_neutral Bin.Mod d = refl
augmented_neutral Bin.Pow d = refl
augmented_neutral Bin.LShift d = refl
augmented_neutral Bin.RShift d = refl
augmented_neutral Bin.BitOr d = refl
augmented_neutral Bin.BitXor d = refl
augmented_neutral Bin.BitAnd d = refl
augmented_neutral Bin.FloorDiv d = refl

annotated_flat : (t : Expr) (b : Bool) → Flat (height t) (S.annotated terminal t b)
annotated_flat (Trees.Name x c) false = pair {n = 0} open_round close_round (plain (λ d. refl) (flat_none 0))
annotated_flat t b = flat Primary refl t

simple_flat : (s : Stmt) → Flat (highest_in s + 1) (S.simple_tokens terminal s)
simple_flat (Trees.ExprOf e) = up (flat Value refl e) (omega arith)
simple_flat (Trees.Assign es e) = both (up (targets_flat es) (omega arith)) (up (flat Value refl e) (omega arith))
simple_flat (Trees.AugAssign t o e) =
    both (up (flat Primary refl t) (omega arith)) (plain (augmented_neutral o) (up (flat Value refl e) (omega arith)))
simple_flat (Trees.AnnAssign t a v b) =
    both (up (annotated_flat t b) (omega arith))
    (plain (λ d. refl) (both (up (flat Expression refl a) (omega arith))
    (up (after_flat (Op Equal) Value v (λ d. refl) (λ e. flat Value refl e)) (omega arith))))
simple_flat (Trees.TypeAlias t ps e) =
    plain (λ d. refl)
    (both (up (flat Primary refl t) (omega arith))
    (both (up (types_flat ps) (omega arith)) (plain (λ d. refl) (up (flat Expression refl e) (omega arith)))))
simple_flat (Trees.Return e) = plain (λ d. refl) (up (perhaps_flat Stars e (λ e. flat Stars refl e)) (omega arith))
simple_flat (Trees.Raise e c) =
    plain (λ d. refl)
    (both (up (perhaps_flat Expression e (λ e. flat Expression refl e)) (omega arith))
    (up (after_flat (Word Key.From) Expression c (λ d. refl) (λ e. flat Expression refl e)) (omega arith)))
simple_flat (Trees.Assert e m) =
    plain (λ d. refl)
    (both (up (flat Expression refl e) (omega arith))
    (up (after_flat (Op Comma) Expression m (λ d. refl) (λ e. flat Expression refl e)) (omega arith)))
simple_flat (Trees.Delete es) = plain (λ d. refl) (listed_flat (all_up (flat_each Expression refl (exprs es)) (omega arith)))
simple_flat (Trees.Global xs) = plain (λ d. refl) (listed_flat (all_up (names_flat xs) (omega arith)))
simple_flat (Trees.Nonlocal xs) = plain (λ d. refl) (listed_flat (all_up (names_flat xs) (omega arith)))
simple_flat Trees.Pass = plain (λ d. refl) (flat_none (0 + 1))
simple_flat Trees.Break = plain (λ d. refl) (flat_none (0 + 1))
simple_flat Trees.Continue = plain (λ d. refl) (flat_none (0 + 1))
simple_flat (Trees.Import names) = plain (λ d. refl) (listed_flat (all_up (aliases_flat names) (omega arith)))
simple_flat (Trees.ImportFrom m names n) = up (from_flat m names n) (omega arith)
simple_flat s = flat_none (highest_in s + 1)

-- ---- Headers.

item_target_flat : (e : Expr) → Flat (height e) (S.item_target terminal e)
item_target_flat (Trees.Starred e c) = plain (λ d. refl) (up (flat Expression refl e) (omega arith))
item_target_flat e = flat Expression refl e

as_target_flat : (o : Option Expr) → Flat (option_height o) (S.as_target terminal o)
as_target_flat None = flat_none 0
as_target_flat (Some e) = plain (λ d. refl) (item_target_flat e)

items_each : (is : List Item) → AllFlat (item_heights is) (map (S.item terminal) is)
items_each [] = none
items_each (i ∷ is) =
    one (both (up (flat Expression refl i.context_expr) (omega arith)) (up (as_target_flat i.optional_vars) (omega arith)))
    (all_up (items_each is) (omega arith))

items_flat : (is : List Item) → Flat (item_heights is + 1) (S.items terminal is)
items_flat is = by (S.need_brackets is)
  where
    by : (b : Bool)
        → Flat (item_heights is + 1) (cond b (Op LPar ∷ (listed terminal (map (S.item terminal) is) ++ (Op RPar ∷ [])))
        (listed terminal (map (S.item terminal) is)))
    by true = pair open_round close_round (listed_flat (items_each is))
    by false = up (listed_flat (items_each is)) (omega arith)

bases_flat : (es : List Expr) (ks : Keywords) → Flat (max (list_height es) (keyword_heights ks) + 1) (S.bases terminal es ks)
unfolding by_name each
bases_flat [] no_keyword = flat_none _
bases_flat [] (a_keyword x e ks) = pair open_round close_round (listed_flat (all_up (flat_by_name (a_keyword x e ks)) (omega arith)))
bases_flat (e ∷ es) ks =
    pair open_round close_round
    (listed_flat (all_append (all_up (flat_each Named refl (exprs (e ∷ es))) (omega arith)) (all_up (flat_by_name ks) (omega arith))))

starred_flat : {n : ℕ} {ts : List Terminal} (b : Bool) → Flat n ts → Flat n (S.starred terminal b ++ ts)
starred_flat false f = f
starred_flat true f = plain (λ d. refl) f

header_flat : (h : Header) → Flat (header_height h + 1) (S.header_tokens terminal h)
header_flat (if_header e) = plain (λ d. refl) (up (flat Named refl e) (omega arith))
header_flat (elif_header e) = plain (λ d. refl) (up (flat Named refl e) (omega arith))
header_flat else_header = plain (λ d. refl) (flat_none (0 + 1))
header_flat (loop_header (while_head e)) = plain (λ d. refl) (up (flat Named refl e) (omega arith))
header_flat (loop_header (for_head b t e)) =
    async_flat b (plain (λ d. refl)
    (both (up (flat Stars refl t) (omega arith)) (plain (λ d. refl) (up (flat Stars refl e) (omega arith)))))
header_flat (with_header b is) = async_flat b (plain (λ d. refl) (items_flat is))
header_flat try_header = plain (λ d. refl) (flat_none (0 + 1))
header_flat (except_header b e x) =
    plain (λ d. refl)
    (starred_flat b (both (up (perhaps_flat Expression e (λ e. flat Expression refl e)) (omega arith)) (up (as_flat x) (omega arith))))
header_flat finally_header = plain (λ d. refl) (flat_none (0 + 1))
header_flat (def_header (function_head b x ps a r)) =
    async_flat b (plain (λ d. refl) (plain (λ d. refl) (both (up (types_flat ps) (omega arith))
    (both (up (pair open_round close_round (listed_flat (flat_parameters a))) (omega arith))
    (up (after_flat (Op RArrow) Expression r (λ d. refl) (λ e. flat Expression refl e)) (omega arith))))))
header_flat (def_header (class_head x ps es ks)) =
    plain (λ d. refl) (plain (λ d. refl) (both (up (types_flat ps) (omega arith)) (up (bases_flat es ks) (omega arith))))
header_flat (match_header e) = plain (λ d. refl) (up (flat Subject refl e) (omega arith))
header_flat (case_header p g) =
    plain (λ d. refl)
    (both (up (flat_pattern Patterns p) (omega arith))
    (up (after_flat (Word Key.If) Named g (λ d. refl) (λ e. flat Named refl e)) (omega arith)))

-- ---- Lines.

abbrev AllWithin : ℕ → List (WrittenLine Terminal) → Type 0
AllWithin n [] = Unit {0}
AllWithin n (w ∷ ws) = Flat n w.tokens × AllWithin n ws

within_both : (n : ℕ) (ws vs : List (WrittenLine Terminal)) → AllWithin n ws → AllWithin n vs → AllWithin n (ws ++ vs)
within_both n [] vs a b = b
within_both n (w ∷ ws) vs a b = (a.0, within_both n ws vs a.1 b)

head_within : (n : ℕ) (h : Header) → header_height h + 1 ≤ n → Flat n (S.header_tokens terminal h ++ (Op Colon ∷ []))
head_within n h e = both (up (header_flat h) e) (plain (λ d. refl) (flat_none n))

decorators_within : (n l : ℕ) (es : List Expr) → list_height es + 1 ≤ n → AllWithin n (decorators terminal l es)
decorators_within n l [] h = tt
decorators_within n l (e ∷ es) h = (
  plain (λ d. refl) (up (flat Named refl e) (omega (arith, h))),
  decorators_within n l es (omega (arith, h)),
)

mutual
  unfolding lines_of statement_lines alternative clause case_lines handler_lines

  lines_within : (n l : ℕ) (ss : Stmts) → highest_in_all ss + 1 ≤ n → AllWithin n (lines_of terminal l ss)
  lines_within n l no_stmt h = tt
  lines_within n l (a_stmt s ss) h =
      within_both n (statement_lines terminal l s) (lines_of terminal l ss) (statement_within n l s (omega (arith, h)))
      (lines_within n l ss (omega (arith, h)))

  statement_within : (n l : ℕ) (s : Stmt) → highest_in s + 1 ≤ n → AllWithin n (statement_lines terminal l s)
  statement_within n l (Trees.If test body orelse) h = (
    head_within n (if_header test) (omega (arith, h)),
    within_both n (lines_of terminal (suc l) body) (alternative terminal l orelse)
        (lines_within n (suc l) body (omega (arith, h))) (alternative_within n l orelse (omega (arith, h))),
  )
  statement_within n l (Trees.While test body orelse) h = (
    head_within n (loop_header (while_head test)) (omega (arith, h)),
    within_both n (lines_of terminal (suc l) body)
        (clause terminal l else_header orelse) (lines_within n (suc l) body (omega (arith, h)))
        (clause_within n l else_header (omega (arith, h)) orelse (omega (arith, h))),
  )
  statement_within n l (Trees.For t e body orelse) h = (
    head_within n (loop_header (for_head false t e)) (omega (arith, h)),
    within_both n (lines_of terminal (suc l) body)
        (clause terminal l else_header orelse) (lines_within n (suc l) body (omega (arith, h)))
        (clause_within n l else_header (omega (arith, h)) orelse (omega (arith, h))),
  )
  statement_within n l (Trees.AsyncFor t e body orelse) h = (
    head_within n (loop_header (for_head true t e)) (omega (arith, h)),
    within_both n (lines_of terminal (suc l) body)
        (clause terminal l else_header orelse) (lines_within n (suc l) body (omega (arith, h)))
        (clause_within n l else_header (omega (arith, h)) orelse (omega (arith, h))),
  )
  statement_within n l (Trees.With is body) h =
      (head_within n (with_header false is) (omega (arith, h)), lines_within n (suc l) body (omega (arith, h)))
  statement_within n l (Trees.AsyncWith is body) h =
      (head_within n (with_header true is) (omega (arith, h)), lines_within n (suc l) body (omega (arith, h)))
  statement_within n l (Trees.Try body hs orelse final) h = (
    head_within n try_header (omega (arith, h)),
    within_both n (lines_of terminal (suc l) body)
        (handler_lines terminal l false hs ++ (clause terminal l else_header orelse ++ clause terminal l finally_header final))
        (lines_within n (suc l) body (omega (arith, h)))
        (within_both n (handler_lines terminal l false hs) (clause terminal l else_header orelse ++ clause terminal l finally_header final)
        (handlers_within n l false hs (omega (arith, h)) (omega (arith, h)))
        (within_both n (clause terminal l else_header orelse) (clause terminal l finally_header final)
        (clause_within n l else_header (omega (arith, h)) orelse (omega (arith, h)))
        (clause_within n l finally_header (omega (arith, h)) final (omega (arith, h))))),
  )
  statement_within n l (Trees.TryStar body hs orelse final) h = (
    head_within n try_header (omega (arith, h)),
    within_both n (lines_of terminal (suc l) body)
        (handler_lines terminal l true hs ++ (clause terminal l else_header orelse ++ clause terminal l finally_header final))
        (lines_within n (suc l) body (omega (arith, h)))
        (within_both n (handler_lines terminal l true hs) (clause terminal l else_header orelse ++ clause terminal l finally_header final)
        (handlers_within n l true hs (omega (arith, h)) (omega (arith, h)))
        (within_both n (clause terminal l else_header orelse) (clause terminal l finally_header final)
        (clause_within n l else_header (omega (arith, h)) orelse (omega (arith, h)))
        (clause_within n l finally_header (omega (arith, h)) final (omega (arith, h))))),
  )
  statement_within n l (Trees.FunctionDef x a body ds r ps) h =
      within_both n (decorators terminal l ds) (header terminal l (def_header (function_head false x ps a r)) ∷
      lines_of terminal (suc l) body)
      (decorators_within n l ds (omega (arith, h)))
      (head_within n (def_header (function_head false x ps a r)) (omega (arith, h)), lines_within n (suc l) body (omega (arith, h)))
  statement_within n l (Trees.AsyncFunctionDef x a body ds r ps) h =
      within_both n (decorators terminal l ds) (header terminal l (def_header (function_head true x ps a r)) ∷
      lines_of terminal (suc l) body)
      (decorators_within n l ds (omega (arith, h)))
      (head_within n (def_header (function_head true x ps a r)) (omega (arith, h)), lines_within n (suc l) body (omega (arith, h)))
  statement_within n l (Trees.ClassDef x es ks body ds ps) h =
      within_both n (decorators terminal l ds) (header terminal l (def_header (class_head x ps es ks)) ∷ lines_of terminal (suc l) body)
      (decorators_within n l ds (omega (arith, h)))
      (head_within n (def_header (class_head x ps es ks)) (omega (arith, h)), lines_within n (suc l) body (omega (arith, h)))
  statement_within n l (Trees.Match e cs) h = (
    head_within n (match_header e) (omega (arith, h)),
    cases_within n (suc l) cs (omega (arith, h)),
  )
  statement_within n l s h = (up (simple_flat s) h, tt)

  alternative_within : (n l : ℕ) (ss : Stmts) → highest_in_all ss + 1 ≤ n → AllWithin n (alternative terminal l ss)
  alternative_within n l no_stmt h = tt
  alternative_within n l (a_stmt (Trees.If test body orelse) no_stmt) h = (
    head_within n (elif_header test) (omega (arith, h)),
    within_both n (lines_of terminal (suc l) body) (alternative terminal l orelse)
        (lines_within n (suc l) body (omega (arith, h))) (alternative_within n l orelse (omega (arith, h))),
  )
  alternative_within n l (a_stmt s ss) h = (
    head_within n else_header (omega (arith, h)),
    within_both n (statement_lines terminal (suc l) s) (lines_of terminal (suc l) ss)
        (statement_within n (suc l) s (omega (arith, h))) (lines_within n (suc l) ss (omega (arith, h))),
  )

  clause_within : (n l : ℕ) (c : Header) → header_height c + 1 ≤ n → (ss : Stmts) → highest_in_all ss + 1 ≤ n
      → AllWithin n (clause terminal l c ss)
  clause_within n l c k no_stmt h = tt
  clause_within n l c k (a_stmt s ss) h = (
    head_within n c k,
    within_both n (statement_lines terminal (suc l) s) (lines_of terminal (suc l) ss)
        (statement_within n (suc l) s (omega (arith, h))) (lines_within n (suc l) ss (omega (arith, h))),
  )

  cases_within : (n l : ℕ) (cs : Cases) → highest_in_cases cs + 1 ≤ n → AllWithin n (case_lines terminal l cs)
  cases_within n l no_case h = tt
  cases_within n l (a_case p g body cs) h = (
    head_within n (case_header p g) (omega (arith, h)),
    within_both n (lines_of terminal (suc l) body) (case_lines terminal l cs)
        (lines_within n (suc l) body (omega (arith, h))) (cases_within n l cs (omega (arith, h))),
  )

  handlers_within : (n l : ℕ) (star : Bool) (hs : Handlers) → highest_in_handlers hs + 1 ≤ n → 1 ≤ n
      → AllWithin n (handler_lines terminal l star hs)
  handlers_within n l star no_handler h k = tt
  handlers_within n l star (a_handler e x body hs) h k = (
    head_within n (except_header star e x) (omega (arith, h)),
    within_both n (lines_of terminal (suc l) body) (handler_lines terminal l star hs)
        (lines_within n (suc l) body (omega (arith, h))) (handlers_within n l star hs (omega (arith, h)) k),
  )

all_within : (n : ℕ) (ws : List (WrittenLine Terminal)) → AllWithin n ws → All (λ w. brackets w.tokens ≤ n) ws
all_within n [] h = All-nil (λ w. brackets w.tokens ≤ n)
all_within n (w ∷ ws) h =
    let b : brackets w.tokens ≤ n = omega (arith, h.0.at 0 [], ap brackets (append-nil w.tokens)) in
    All-cons (λ w. brackets w.tokens ≤ n) w ws b (all_within n ws h.1)

pub line_brackets : LineBracketsAreWithinHeight
line_brackets m = all_within (expression_height m + 1) (terminal_lines m)
    (lines_within (expression_height m + 1) 0 (stmts m.body) (omega arith))
