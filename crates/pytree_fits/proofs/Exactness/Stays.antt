-- Carries: the laws of the slots. On: what fits in an extent, or in a version, fits in more of the
-- language.
use Rattle.std.proofs.Common.{◌≡◌, refl, List, [], ◌∷◌, Bool, true, false}
use Rattle.std.specs.Prelude.{◌&&◌, ◌||◌, ◌^◌, leb}
use Rattle.std.specs.List.{list_all}
use Rattle.std.proofs.lemmas.Bool.{and_parts, and_from, lt-ltb}
use Rattle.pynumber.specs.Readings.{most_digits}
use Rattle.pytree_node.specs.declared.operators.Context.TheVariants.{Store}
use Rattle.pytree_node.specs.declared.profiles.Extent.{Extent}
use Rattle.pytree_node.specs.declared.profiles.Extent.TheVariants.{Plain, Whole}
use Rattle.pytree_node.specs.declared.profiles.Version.TheVariants.{Py312}
use Rattle.pytree_node.specs.declared.profiles.Profile.{Profile}
use Rattle.pytree_node.specs.Profiles.{python, has_types}
use Rattle.pytree_node.specs.Trees
use Rattle.pytree_node.specs.Trees.{exprs, optional, Stmt, Stmts, no_stmt, a_stmt, stmts, Cases, no_case, a_case, Handlers, no_handler}
use Rattle.pytree_node.specs.Trees.{a_handler, TypeParam}
use Rattle.pytree_node.specs.Values
use Rattle.pytree_node.specs.Values.{Value, Int, Float, Imaginary}
use Rattle.pytoken.specs.Terminals.{Terminal, Op, Word, Ident, Number, Literal, FormattedBegin, Layout}
use Rattle.pygrammar.specs.declared.levels.Level.TheVariants.{Stars, Expression, Elem}
use Rattle.pygrammar.specs.declared.pattern_levels.PatternLevel.TheVariants.{AsPattern}
use Rattle.pygrammar.specs.Grammar.{Derives}
use Rattle.pygrammar.specs.Lines.{Line, no_types}
use Rattle.pygrammar.specs.Forms.{FormAt, is_whole}
use Rattle.pygrammar.specs.OpenStrings.{Open, open_following}
use Rattle.pygrammar.specs.Blocks.{stands_in_match}
use Rattle.pytree_fits.specs.Tests.{Tests, tests_in, depth_in, within}
use Rattle.pytree_fits.specs.Literals.{is_value}
use Rattle.pytree_fits.specs.Slots.{is_a_name, fits_at, fits_target, each_fits, perhaps_fits, each_keyword_fits, fits_arguments}
use Rattle.pytree_fits.specs.PatternSlots.{pattern_fits_at}
use Rattle.pytree_fits.specs.Statements.{has_one, has_case, item_fits, type_param_fits, types_fit, caught_fits, clauses_fit, statement_fits}
use Rattle.pytree_fits.specs.Statements.{statements_fit, suite_fits, cases_fit, handlers_fit}
use Rattle.pytree_fits.specs.Given.{is_number, is_literal, passes, all_pass, Given, AreGiven, no_line, a_line}
use Rattle.pytree_fits.specs.Laws.{ExpressionsStay, ModulesStay}
use Rattle.pytree_fits.proofs.Fields.Tests.{never, parts4, parts5, from4}
use Rattle.pytree_fits.proofs.Fitting.FormFits.{from5}
use Rattle.pytree_fits.proofs.Exactness.Exactly.{fits_exactly}
use Rattle.pytree_fits.proofs.Exactness.NumberTokens.{in_whole}
use Rattle.pytree_fits.proofs.Exactness.Modules.{module_exactly, module_given}

-- ---- From an extent to the whole language.

value_stays : (extent : Extent) (o : Open) (v : Value) → is_value (within o (tests_in extent)) v ≡ true
    → is_value (within o (tests_in Whole)) v ≡ true
value_stays extent o (Int n) h = lt-ltb n (10 ^ most_digits) (in_whole extent n h)
value_stays Plain o (Float x) h = absurd (never h)
value_stays Whole o (Float x) h = h
value_stays Plain o (Imaginary x) h = absurd (never h)
value_stays Whole o (Imaginary x) h = h
value_stays extent o (Values.Str t u) h = h
value_stays extent o (Values.Bytes t) h = h
value_stays extent o Values.None h = h
value_stays extent o Values.Ellipsis h = h
value_stays extent o (Values.Bool b) h = h

terminal_stays : (extent : Extent) (o : Open) (t : Terminal) → passes (tests_in extent) o t ≡ true → passes (tests_in Whole) o t ≡ true
terminal_stays extent o (Number v) h =
    let w = and_parts (is_number v) (is_value (within o (tests_in extent)) v) h in
    and_from (is_number v) (is_value (within o (tests_in Whole)) v) w.0 (value_stays extent o v w.1)
terminal_stays extent o (Literal v) h =
    let w = and_parts (is_literal v) (is_value (within o (tests_in extent)) v) h in
    and_from (is_literal v) (is_value (within o (tests_in Whole)) v) w.0 (value_stays extent o v w.1)
terminal_stays extent o FormattedBegin h = (and_parts (is_whole extent) (leb (depth_in o 0) 1) h).1
terminal_stays extent o (Ident x) h = h
terminal_stays extent o (Op e) h = h
terminal_stays extent o (Word w) h = h
terminal_stays extent o Layout h = h
terminal_stays extent [] _ h = h
terminal_stays extent (k ∷ o) _ h = h

terminals_stay : (extent : Extent) (o : Open) (ts : List Terminal) → all_pass (tests_in extent) o ts ≡ true
    → all_pass (tests_in Whole) o ts ≡ true
terminals_stay extent o [] h = refl
terminals_stay extent o (t ∷ ts) h =
    let w = and_parts (passes (tests_in extent) o t) (all_pass (tests_in extent) (open_following o t) ts) h in
    and_from (passes (tests_in Whole) o t) (all_pass (tests_in Whole) (open_following o t) ts) (terminal_stays extent o t w.0)
    (terminals_stay extent (open_following o t) ts w.1)

given_stays : {A : Type 0} (r : List Terminal → A → Type 0) (a : A) (extent : Extent) → Given (tests_in extent) r a
    → Given (tests_in Whole) r a
given_stays r a extent w = (w.0, terminals_stay extent [] w.0 w.1, w.2)

lines_stay : (profile : Profile) (extent : Extent) {earlier xs : List Line} → AreGiven profile (tests_in extent) earlier xs
    → AreGiven profile (tests_in Whole) earlier xs
lines_stay profile extent no_line = no_line
lines_stay profile extent {earlier} (a_line {x = x} w r) =
    a_line (given_stays (FormAt profile (stands_in_match x.level earlier)) x.form extent w) (lines_stay profile extent r)

pub expressions_stay : ExpressionsStay
expressions_stay extent l e h =
    (fits_exactly (tests_in Whole) l e).0 (given_stays (Derives l) e extent ((fits_exactly (tests_in extent) l e).1 h))

-- ---- From a version to one with more.

-- the last of some tests, or the last two
last : (x : Bool) {y z : Bool} → (y ≡ true → z ≡ true) → (x && y) ≡ true → (x && z) ≡ true
last x {y} {z} f h = let p = and_parts x y h in and_from x z p.0 (f p.1)

both : {x y z w : Bool} → (x ≡ true → y ≡ true) → (z ≡ true → w ≡ true) → (x && z) ≡ true → (y && w) ≡ true
both {x} {y} {z} {w} f g h = let p = and_parts x z h in and_from y w (f p.0) (g p.1)

module _ (p q : Profile) (n : Tests) (more : has_types p ≡ true → has_types q ≡ true) (whole : is_whole p.extent ≡ true
    → is_whole q.extent ≡ true) where
  types_stay : (ps : List TypeParam) → types_fit p n ps ≡ true → types_fit q n ps ≡ true
  types_stay ps = both (by (no_types ps)) (λ (h : list_all (type_param_fits n) ps ≡ true). h)
    where
      by : (b : Bool) → (b || has_types p) ≡ true → (b || has_types q) ≡ true
      by true h = refl
      by false h = more h

  mutual
    statement_stays : (s : Stmt) → statement_fits p n s ≡ true → statement_fits q n s ≡ true
    statement_stays (Trees.FunctionDef name args body ds r ps) h =
        both (last (n.name name && fits_arguments n true args && each_fits n Expression (exprs ds) && perhaps_fits n Expression
        (optional r)) (types_stay ps)) (suite_stays body) h
    statement_stays (Trees.AsyncFunctionDef name args body ds r ps) h =
        both (last (n.name name && fits_arguments n true args && each_fits n Expression (exprs ds) && perhaps_fits n Expression
        (optional r)) (types_stay ps)) (suite_stays body) h
    statement_stays (Trees.ClassDef name bases ks body ds ps) h =
        both (last (n.name name && each_fits n Elem (exprs bases) && each_keyword_fits n ks && each_fits n Expression (exprs ds))
        (types_stay ps)) (suite_stays body) h
    statement_stays (Trees.TypeAlias name ps value) h =
        let w = parts5 (has_types p) (is_a_name name) (fits_target n Store name) (list_all (type_param_fits n) ps)
        (fits_at n Expression value) h in
        from5 (has_types q) (is_a_name name) (fits_target n Store name) (list_all (type_param_fits n) ps) (fits_at n Expression value)
        (more w.0) w.1 w.2 w.3 w.4
    statement_stays (Trees.For t i body orelse) h = both (last (fits_target n Store t && fits_at n Stars i) (suite_stays body))
        (statements_stay orelse) h
    statement_stays (Trees.AsyncFor t i body orelse) h = both (last (fits_target n Store t && fits_at n Stars i) (suite_stays body))
        (statements_stay orelse) h
    statement_stays (Trees.While test body orelse) h = both (last (fits_at n Expression test) (suite_stays body)) (statements_stay orelse) h
    statement_stays (Trees.If test body orelse) h = both (last (fits_at n Expression test) (suite_stays body)) (statements_stay orelse) h
    statement_stays (Trees.With is body) h = last (has_one is && list_all (item_fits n) is) (suite_stays body) h
    statement_stays (Trees.AsyncWith is body) h = last (has_one is && list_all (item_fits n) is) (suite_stays body) h
    statement_stays (Trees.Match e cs) h =
        let w = parts4 (is_whole p.extent) (has_case cs) (fits_at n Expression e) (cases_fit p n cs) h in
        from4 (is_whole q.extent) (has_case cs) (fits_at n Expression e) (cases_fit q n cs) (whole w.0) w.1 w.2 (cases_stay cs w.3)
    statement_stays (Trees.Try body hs orelse final) h =
        both (both (both (last (clauses_fit false hs orelse final) (suite_stays body)) (handlers_stay false hs)) (statements_stay orelse))
        (statements_stay final) h
    statement_stays (Trees.TryStar body hs orelse final) h =
        both (both (both (last (clauses_fit true hs orelse final) (suite_stays body)) (handlers_stay true hs)) (statements_stay orelse))
        (statements_stay final) h
    statement_stays (Trees.Return value) h = h
    statement_stays (Trees.Delete ts) h = h
    statement_stays (Trees.Assign ts value) h = h
    statement_stays (Trees.AugAssign t op value) h = h
    statement_stays (Trees.AnnAssign t annotation value simple) h = h
    statement_stays (Trees.Raise exc cause) h = h
    statement_stays (Trees.Assert test msg) h = h
    statement_stays (Trees.Import names) h = h
    statement_stays (Trees.ImportFrom source names level) h = h
    statement_stays (Trees.Global names) h = h
    statement_stays (Trees.Nonlocal names) h = h
    statement_stays (Trees.ExprOf value) h = h
    statement_stays Trees.Pass h = h
    statement_stays Trees.Break h = h
    statement_stays Trees.Continue h = h

    statements_stay : (ss : Stmts) → statements_fit p n ss ≡ true → statements_fit q n ss ≡ true
    statements_stay no_stmt h = refl
    statements_stay (a_stmt s ss) h = both (statement_stays s) (statements_stay ss) h

    suite_stays : (ss : Stmts) → suite_fits p n ss ≡ true → suite_fits q n ss ≡ true
    suite_stays no_stmt h = h
    suite_stays (a_stmt s ss) h = both (statement_stays s) (statements_stay ss) h

    cases_stay : (cs : Cases) → cases_fit p n cs ≡ true → cases_fit q n cs ≡ true
    cases_stay no_case h = refl
    cases_stay (a_case pattern guard body cs) h =
        both (last (pattern_fits_at n AsPattern pattern && perhaps_fits n Expression (optional guard)) (suite_stays body)) (cases_stay cs) h

    handlers_stay : (star : Bool) (hs : Handlers) → handlers_fit p n star hs ≡ true → handlers_fit q n star hs ≡ true
    handlers_stay star no_handler h = refl
    handlers_stay star (a_handler class name body hs) h = both (last (caught_fits n star class name) (suite_stays body))
        (handlers_stay star hs) h

-- ---- Modules.

pub modules_stay : ModulesStay
modules_stay profile m h =
    let latest = python Py312 Whole in
    let w = module_given latest profile.extent m (statements_stay profile latest (tests_in profile.extent) (λ t. refl)
    (λ t. refl) (stmts m.body) h) in
    module_exactly latest Whole m (w.0, lines_stay latest profile.extent w.1, w.2)
