-- Carries: the law of modules. On: statements that fit are given, as lines of any level.
use Rattle.std.proofs.Common.{◌≡◌, refl, ap, subst, ℕ, suc, List, [], ◌∷◌, ◌++◌, Option, None, Bool, true, false}
use Rattle.std.specs.Prelude.{not, ◌&&◌, ◌||◌}
use Rattle.std.specs.List.{list_all}
use Rattle.std.proofs.lemmas.Bool.{and_parts, and_from}
use Rattle.pylex_lexeme.specs.declared.kinds.Exact.TheVariants as Sign
use Rattle.pytoken.specs.declared.keywords.Keyword.TheVariants as Key
use Rattle.pytree_node.specs.declared.operators.Context.TheVariants.{Store, Del}
use Rattle.pytree_node.specs.declared.profiles.Profile.{Profile}
use Rattle.pytree_node.specs.Trees
use Rattle.pytree_node.specs.Trees.{Identifier, Expr, exprs, optional, Stmt, Stmts, no_stmt, a_stmt, stmts, Handler, Handlers, no_handler}
use Rattle.pytree_node.specs.Trees.{a_handler, handlers, Case, Cases, cases, Item}
use Rattle.pytoken.specs.Terminals.{Op, Word}
use Rattle.pygrammar.specs.declared.levels.Level.TheVariants.{Value, Stars, Named, Expression, Elem}
use Rattle.pygrammar.specs.declared.pattern_levels.PatternLevel.TheVariants.{AsPattern}
use Rattle.pygrammar.specs.Lines.{Line, line, simple_form, decorator_form, header_form, if_header, else_header, loop_header, with_header}
use Rattle.pygrammar.specs.Lines.{try_header, except_header, finally_header, def_header, match_header, case_header, LoopHead, while_head}
use Rattle.pygrammar.specs.Lines.{for_head, DefHead, function_head, class_head, loop, with_of, definition, try_of}
use Rattle.pygrammar.specs.Forms as F
use Rattle.pygrammar.specs.Forms.{type_name, match_name, case_name, is_whole}
use Rattle.pytree_node.specs.Profiles.{has_types}
use Rattle.pygrammar.specs.Blocks as B
use Rattle.pygrammar.specs.Blocks.{handler, case_of, Block, Statement, Body, Otherwise, Excepts, Ending, Decorators, nothing, and_then}
use Rattle.pygrammar.specs.Blocks.{simple_line, if_statement, loop_statement, with_statement, try_finally, try_except, definition_of}
use Rattle.pygrammar.specs.Blocks.{match_statement, indented, an_else, no_else, else_clause, no_except, except_clause, no_finally}
use Rattle.pygrammar.specs.Blocks.{finally_clause, no_decorator, decorator}
use Rattle.pytree_fits.specs.Tests.{Tests}
use Rattle.pytree_fits.specs.Slots.{is_a_name, is_single, fits_at, fits_target, each_target_fits, each_fits, perhaps_fits}
use Rattle.pytree_fits.specs.Slots.{each_keyword_fits, fits_arguments}
use Rattle.pytree_fits.specs.PatternSlots.{pattern_fits_at}
use Rattle.pytree_fits.specs.Statements.{has_one, has_stmt, has_case, source_fits, imports_fit, item_fits, type_param_fits, import_fits}
use Rattle.pytree_fits.specs.Statements.{types_fit, caught_fits, clauses_fit, statement_fits, statements_fit, suite_fits, cases_fit}
use Rattle.pytree_fits.specs.Statements.{handlers_fit}
use Rattle.pytree_fits.proofs.Fields.Standing.{outside}
use Rattle.pytree_fits.proofs.Fields.AsSpelled.{GivenAsSpelled}
use Rattle.pytree_fits.proofs.Fields.Tests.{parts3, parts4, parts5, parts6, never}
use Rattle.pytree_fits.proofs.Giving.Places as P
use Rattle.pytree_fits.proofs.Giving.Gives.{made}
use Rattle.pytree_fits.proofs.Fitting.BlockFits.{some_before}
use Rattle.pytree_fits.proofs.Giving.FormGives.{assign_given, delete_given, augmented_given, annotated_given, alias_assigned, raise_given}
use Rattle.pytree_fits.proofs.Giving.FormGives.{assert_given, return_given, value_given, global_given, nonlocal_given, import_given}
use Rattle.pytree_fits.proofs.Giving.FormGives.{import_from_given, if_given, while_given, for_given, with_given, except_given}
use Rattle.pytree_fits.proofs.Giving.FormGives.{function_given, class_given, match_given, case_given}
use Rattle.pytree_fits.proofs.Giving.LinePlaces.{Placed, none_placed, placed_on, block_of, led_on, after_line, headed, headed_by, cased}

-- ---- The statements of a tree's list.

abbrev pub of_stmts : Stmts → List Stmt
of_stmts no_stmt = []
of_stmts (a_stmt s ss) = s ∷ of_stmts ss

pub stmts_back : (ss : Stmts) → stmts (of_stmts ss) ≡ ss
stmts_back no_stmt = refl
stmts_back (a_stmt s ss) = ap (a_stmt s) (stmts_back ss)

pub of_stmts_back : (ss : List Stmt) → of_stmts (stmts ss) ≡ ss
of_stmts_back [] = refl
of_stmts_back (s ∷ ss) = ap (λ z. s ∷ z) (of_stmts_back ss)

abbrev pub of_handlers : Handlers → List Handler
of_handlers no_handler = []
of_handlers (a_handler class name body hs) = handler class name (of_stmts body) ∷ of_handlers hs

handlers_back : (hs : Handlers) → handlers (of_handlers hs) ≡ hs
handlers_back no_handler = refl
handlers_back (a_handler class name body hs) = (λ i. a_handler class name (stmts_back body i) (handlers_back hs i))

abbrev pub of_cases : Cases → List Case
of_cases Trees.no_case = []
of_cases (Trees.a_case pattern guard body cs) = case_of pattern guard (of_stmts body) ∷ of_cases cs

cases_back : (cs : Cases) → cases (of_cases cs) ≡ cs
cases_back Trees.no_case = refl
cases_back (Trees.a_case pattern guard body cs) = (λ i. Trees.a_case pattern guard (stmts_back body i) (cases_back cs i))

-- the names that are words of headers, and no keywords
pub record Words (n : Tests) : Type 0 where
  pub typed : n.name type_name ≡ true
  pub matched : n.name match_name ≡ true
  pub cased : n.name case_name ≡ true

module _ (p : Profile) (n : Tests) (words : Words n) where
  else_given : GivenAsSpelled (outside n) (F.HeaderOf p) else_header
  else_given = (Word Key.Else ∷ [], refl, F.else_line)

  try_given : GivenAsSpelled (outside n) (F.HeaderOf p) try_header
  try_given = (Word Key.Try ∷ [], refl, F.try_line)

  finally_given : GivenAsSpelled (outside n) (F.HeaderOf p) finally_header
  finally_given = (Word Key.Finally ∷ [], refl, F.finally_line)

  -- a statement as lines of a level
  record Drawn (l : ℕ) (s : Stmt) : Type 0 where
    lines : List Line
    some : has_one lines ≡ true
    given : Placed p n l false lines
    is : Statement l lines (s ∷ [])

  -- statements as such
  pub record DrawnAll (l : ℕ) (ss : Stmts) : Type 0 where
    pub lines : List Line
    pub some : has_stmt ss ≡ true → has_one lines ≡ true
    pub given : Placed p n l false lines
    pub is : Block l lines (of_stmts ss)

  record Caught (l : ℕ) (star : Bool) (hs : Handlers) : Type 0 where
    lines : List Line
    given : Placed p n l false lines
    is : Excepts l star lines (of_handlers hs)

  -- the block of a header
  indented_lines : {l : ℕ} {ss : List Stmt} (xs : List Line) → has_one xs ≡ true → Block (suc l) xs ss → Body l None xs ss
  indented_lines [] h b = absurd (never h)
  indented_lines (x ∷ xs) h b = indented b

  body_of : {l : ℕ} {body : Stmts} → has_stmt body ≡ true → (d : DrawnAll (suc l) body) → Body l None d.lines (of_stmts body)
  body_of h d = indented_lines d.lines (d.some h) d.is

  -- a line of one simple statement
  simply : (l : ℕ) (s : Stmt) → GivenAsSpelled (outside n) (F.Simple p) s → Drawn l s
  simply l s w = record {
    lines = line l (simple_form (s ∷ [])) ∷ [];
    some = refl;
    given =
        after_line p n (w.0, w.1, F.simple_statements (F.last_simple w.2)) (none_placed p n);
    is = simple_line;
  }

  -- what may stand after a block
  record Following (l : ℕ) (ss : Stmts) : Type 0 where
    lines : List Line
    given : Placed p n l false lines
    is : Otherwise l lines (of_stmts ss)

  otherwise : (l : ℕ) (ss : Stmts) → DrawnAll (suc l) ss → Following l ss
  otherwise l no_stmt d = record { lines = []; given = none_placed p n; is = no_else }
  otherwise l (a_stmt s ss) d = record {
    lines = line l (header_form else_header None) ∷ d.lines;
    given =
        headed p n l else_header else_given (block_of p n d.given);
    is = else_clause (body_of refl d);
  }

  record Last (l : ℕ) (ss : Stmts) : Type 0 where
    lines : List Line
    given : Placed p n l false lines
    is : Ending l lines (of_stmts ss)

  ending : (l : ℕ) (ss : Stmts) → DrawnAll (suc l) ss → Last l ss
  ending l no_stmt d = record { lines = []; given = none_placed p n; is = no_finally }
  ending l (a_stmt s ss) d = record {
    lines = line l (header_form finally_header None) ∷ d.lines;
    given =
        headed p n l finally_header finally_given (block_of p n d.given);
    is = finally_clause (body_of refl d);
  }

  -- ---- The classes with blocks.

  if_drawn : (l : ℕ) (test : Expr) (body orelse : Stmts) → fits_at n Expression test ≡ true → has_stmt body ≡ true → DrawnAll (suc l) body
      → DrawnAll (suc l) orelse → Drawn l (Trees.If test body orelse)
  if_drawn l test body orelse h f b d =
      let o = otherwise l orelse d in
      let xs = line l (header_form (if_header test) None) ∷ (b.lines ++ o.lines) in
      record {
        lines = xs;
        some = refl;
        given = headed p n l (if_header test) (if_given n p test h) (led_on p n (block_of p n b.given) o.given);
        is = subst (λ z. Statement l xs (Trees.If test z orelse ∷ [])) (stmts_back body)
            (subst (λ z. Statement l xs (Trees.If test (stmts (of_stmts body)) z ∷ [])) (stmts_back orelse)
            (if_statement (body_of f b) (an_else o.is)));
      }

  -- a head and its blocks
  abbrev looped : LoopHead → Stmts → Stmts → Stmt
  looped (while_head test) body orelse = Trees.While test body orelse
  looped (for_head false target iter) body orelse = Trees.For target iter body orelse
  looped (for_head true target iter) body orelse = Trees.AsyncFor target iter body orelse

  looped_is : (head : LoopHead) (body orelse : Stmts) → loop head (of_stmts body) (of_stmts orelse) ≡ looped head body orelse
  looped_is (while_head test) body orelse = (λ i. Trees.While test (stmts_back body i) (stmts_back orelse i))
  looped_is (for_head false target iter) body orelse = (λ i. Trees.For target iter (stmts_back body i) (stmts_back orelse i))
  looped_is (for_head true target iter) body orelse = (λ i. Trees.AsyncFor target iter (stmts_back body i) (stmts_back orelse i))

  loop_drawn : (l : ℕ) (head : LoopHead) (body orelse : Stmts) → GivenAsSpelled (outside n) (F.HeaderOf p) (loop_header head)
      → has_stmt body ≡ true → DrawnAll (suc l) body → DrawnAll (suc l) orelse → Drawn l (looped head body orelse)
  loop_drawn l head body orelse h f b d =
      let o = otherwise l orelse d in
      let xs = line l (header_form (loop_header head) None) ∷ (b.lines ++ o.lines) in
      record {
        lines = xs;
        some = refl;
        given = headed p n l (loop_header head) h (led_on p n (block_of p n b.given) o.given);
        is = subst (λ z. Statement l xs (z ∷ [])) (looped_is head body orelse) (loop_statement (body_of f b) o.is);
      }

  abbrev opened : Bool → List Item → Stmts → Stmt
  opened false items body = Trees.With items body
  opened true items body = Trees.AsyncWith items body

  opened_is : (is_async : Bool) (items : List Item) (body : Stmts) → with_of is_async items (of_stmts body) ≡ opened is_async items body
  opened_is false items body = ap (Trees.With items) (stmts_back body)
  opened_is true items body = ap (Trees.AsyncWith items) (stmts_back body)

  with_drawn : (l : ℕ) (is_async : Bool) (items : List Item) (body : Stmts) → has_one items ≡ true → list_all (item_fits n) items ≡ true
      → has_stmt body ≡ true → DrawnAll (suc l) body → Drawn l (opened is_async items body)
  with_drawn l is_async items body h q f b =
      let xs = line l (header_form (with_header is_async items) None) ∷ b.lines in
      record {
        lines = xs;
        some = refl;
        given = headed p n l (with_header is_async items) (with_given n p is_async items h q) (block_of p n b.given);
        is = subst (λ z. Statement l xs (z ∷ [])) (opened_is is_async items body) (with_statement (body_of f b));
      }

  abbrev tried : Bool → Stmts → Handlers → Stmts → Stmts → Stmt
  tried false body hs orelse final = Trees.Try body hs orelse final
  tried true body hs orelse final = Trees.TryStar body hs orelse final

  tried_is : (star : Bool) (body : Stmts) (hs : Handlers) (orelse final : Stmts)
      → try_of star (of_stmts body) (of_handlers hs) (of_stmts orelse) (of_stmts final) ≡ tried star body hs orelse final
  tried_is false body hs orelse final = (λ i. Trees.Try (stmts_back body i) (handlers_back hs i) (stmts_back orelse i) (stmts_back final i))
  tried_is true body hs orelse final =
      (λ i. Trees.TryStar (stmts_back body i) (handlers_back hs i) (stmts_back orelse i) (stmts_back final i))

  -- `finally` alone
  finally_drawn : (l : ℕ) (body final : Stmts) → has_stmt final ≡ true → has_stmt body ≡ true → DrawnAll (suc l) body
      → DrawnAll (suc l) final → Drawn l (Trees.Try body no_handler no_stmt final)
  finally_drawn l body final h f b d =
      let ys = line l (header_form finally_header None) ∷ d.lines in
      let xs = line l (header_form try_header None) ∷ (b.lines ++ ys) in
      record {
        lines = xs;
        some = refl;
        given = headed p n l try_header try_given
            (led_on p n (block_of p n b.given) (headed p n l finally_header finally_given (block_of p n d.given)));
        is = subst (λ z. Statement l xs (z ∷ [])) (tried_is false body no_handler no_stmt final) (try_finally (body_of f b) (body_of h d));
      }

  except_drawn : (l : ℕ) (star : Bool) (body : Stmts) (class : Option Expr) (name : Option Identifier) (inner : Stmts) (hs : Handlers)
      (orelse final : Stmts) → has_stmt body ≡ true → DrawnAll (suc l) body →
      Caught l star (a_handler class name inner hs) → DrawnAll (suc l) orelse → DrawnAll (suc l) final
      → Drawn l (tried star body (a_handler class name inner hs) orelse final)
  except_drawn l star body class name inner hs orelse final f b c d e =
      let o = otherwise l orelse d in
      let k = ending l final e in
      let xs = line l (header_form try_header None) ∷ (b.lines ++ (c.lines ++ (o.lines ++ k.lines))) in
      record {
        lines = xs;
        some = refl;
        given = headed p n l try_header try_given
            (led_on p n (block_of p n b.given) (placed_on p n c.given (placed_on p n o.given k.given)));
        is = subst (λ z. Statement l xs (z ∷ [])) (tried_is star body (a_handler class name inner hs) orelse final)
            (try_except (body_of f b) c.is o.is k.is);
      }

  try_drawn : (l : ℕ) (star : Bool) (body : Stmts) (hs : Handlers) (orelse final : Stmts) → clauses_fit star hs orelse final ≡ true
      → has_stmt body ≡ true → DrawnAll (suc l) body →
      Caught l star hs → DrawnAll (suc l) orelse → DrawnAll (suc l) final → Drawn l (tried star body hs orelse final)
  try_drawn l true body no_handler orelse final h f b c d e = absurd (never h)
  try_drawn l false body no_handler (a_stmt s ss) final h f b c d e = absurd (never h)
  try_drawn l false body no_handler no_stmt final h f b c d e = finally_drawn l body final h f b e
  try_drawn l star body (a_handler class name inner hs) orelse final h f b c d e =
      except_drawn l star body class name inner hs orelse final f b c d e

  -- ---- Definitions.

  record Decorated (l : ℕ) (es : List Expr) : Type 0 where
    lines : List Line
    given : Placed p n l false lines
    is : Decorators l lines es

  decorated : (l : ℕ) (es : List Expr) → each_fits n Expression (exprs es) ≡ true → Decorated l es
  decorated l [] h = record { lines = []; given = none_placed p n; is = no_decorator }
  decorated l (e ∷ es) h =
      let w = and_parts (fits_at n Expression e) (each_fits n Expression (exprs es)) h in
      let d = decorated l es w.1 in
      let u = P.at (outside n) Named (made (outside n) Expression e w.0) in
      record {
        lines = line l (decorator_form e) ∷ d.lines;
        given = after_line p n (Op Sign.At ∷ u.0, u.1, F.decorator_line u.2)
            d.given;
        is = decorator d.is;
      }

  abbrev defined : List Expr → DefHead → Stmts → Stmt
  defined es (function_head false name parameters args returns) body = Trees.FunctionDef name args body es returns parameters
  defined es (function_head true name parameters args returns) body = Trees.AsyncFunctionDef name args body es returns parameters
  defined es (class_head name parameters bases keywords) body = Trees.ClassDef name bases keywords body es parameters

  defined_is : (es : List Expr) (head : DefHead) (body : Stmts) → definition es head (of_stmts body) ≡ defined es head body
  defined_is es (function_head false name parameters args returns) body =
      ap (λ z. Trees.FunctionDef name args z es returns parameters) (stmts_back body)
  defined_is es (function_head true name parameters args returns) body =
      ap (λ z. Trees.AsyncFunctionDef name args z es returns parameters) (stmts_back body)
  defined_is es (class_head name parameters bases keywords) body =
      ap (λ z. Trees.ClassDef name bases keywords z es parameters) (stmts_back body)

  some_after : (xs : List Line) (y : Line) (ys : List Line) → has_one (xs ++ (y ∷ ys)) ≡ true
  some_after [] y ys = refl
  some_after (x ∷ xs) y ys = refl

  definition_drawn : (l : ℕ) (es : List Expr) (head : DefHead) (body : Stmts) → each_fits n Expression (exprs es) ≡ true
      → GivenAsSpelled (outside n) (F.HeaderOf p) (def_header head) → has_stmt body ≡ true → DrawnAll (suc l) body
      → Drawn l (defined es head body)
  definition_drawn l es head body h g f b =
      let d = decorated l es h in
      let xs = d.lines ++ (line l (header_form (def_header head) None) ∷ b.lines) in
      record {
        lines = xs;
        some = some_after d.lines (line l (header_form (def_header head) None)) b.lines;
        given = placed_on p n d.given (headed p n l (def_header head) g (block_of p n b.given));
        is = subst (λ z. Statement l xs (z ∷ [])) (defined_is es head body) (definition_of head d.is (body_of f b));
      }

  -- ---- Matches.

  -- cases, as lines of a level in a `match`
  record Chosen (l : ℕ) (cs : Cases) : Type 0 where
    lines : List Line
    some : has_case cs ≡ true → has_one lines ≡ true
    given : Placed p n l true lines
    is : B.Cases l lines (of_cases cs)

  matching : {l : ℕ} (subject : Expr) {cs : List Case} (xs : List Line) → has_one xs ≡ true → B.Cases (suc l) xs cs
      → Statement l (line l (header_form (match_header subject) None) ∷ xs) (Trees.Match subject (cases cs) ∷ [])
  matching subject [] h c = absurd (never h)
  matching subject (x ∷ xs) h c = match_statement c

  match_drawn : (l : ℕ) (subject : Expr) (cs : Cases) → is_whole p.extent ≡ true → has_case cs ≡ true → fits_at n Expression subject ≡ true
      → Chosen (suc l) cs → Drawn l (Trees.Match subject cs)
  match_drawn l subject cs q h f c =
      let xs = line l (header_form (match_header subject) None) ∷ c.lines in
      record {
        lines = xs;
        some = refl;
        given = headed_by p n l (match_header subject) (match_given n p subject words.matched q f) (block_of p n c.given);
        is = subst (λ z. Statement l xs (Trees.Match subject z ∷ [])) (cases_back cs) (matching subject c.lines (c.some h) c.is);
      }

  -- ---- All classes.

  suite_parts : (ss : Stmts) → suite_fits p n ss ≡ true → (has_stmt ss ≡ true) × (statements_fit p n ss ≡ true)
  suite_parts no_stmt h = absurd (never h)
  suite_parts (a_stmt s ss) h = (refl, h)

  mutual
    drawn : (l : ℕ) (s : Stmt) → statement_fits p n s ≡ true → Drawn l s
    drawn l (Trees.FunctionDef x a body es r ps) h =
        let w = parts6 (n.name x) (fits_arguments n true a) (each_fits n Expression (exprs es)) (perhaps_fits n Expression (optional r))
        (types_fit p n ps) (suite_fits p n body) h in
        let u = suite_parts body w.5 in
        definition_drawn l es (function_head false x ps a r) body w.2 (function_given n p false x ps a r w.0 w.4 w.1 w.3) u.0
        (drawn_all (suc l) body u.1)
    drawn l (Trees.AsyncFunctionDef x a body es r ps) h =
        let w = parts6 (n.name x) (fits_arguments n true a) (each_fits n Expression (exprs es)) (perhaps_fits n Expression (optional r))
        (types_fit p n ps) (suite_fits p n body) h in
        let u = suite_parts body w.5 in
        definition_drawn l es (function_head true x ps a r) body w.2 (function_given n p true x ps a r w.0 w.4 w.1 w.3) u.0
        (drawn_all (suc l) body u.1)
    drawn l (Trees.ClassDef x bases ks body es ps) h =
        let w = parts6 (n.name x) (each_fits n Elem (exprs bases)) (each_keyword_fits n ks) (each_fits n Expression (exprs es))
        (types_fit p n ps) (suite_fits p n body) h in
        let u = suite_parts body w.5 in
        definition_drawn l es (class_head x ps bases ks) body w.3
        (class_given n p x ps bases ks w.0 w.4 (and_from (each_fits n Elem (exprs bases)) (each_keyword_fits n ks) w.1 w.2)) u.0
        (drawn_all (suc l) body u.1)
    drawn l (Trees.Return e) h = simply l (Trees.Return e) (return_given n p e h)
    drawn l (Trees.Delete es) h = let w = and_parts (has_one es) (each_target_fits n Del (exprs es)) h in
        simply l (Trees.Delete es) (delete_given n p es w.0 w.1)
    drawn l (Trees.Assign ts e) h =
        let w = parts3 (has_one ts) (each_target_fits n Store (exprs ts)) (fits_at n Value e) h in
        simply l (Trees.Assign ts e) (assign_given n p ts e w.0 w.1 w.2)
    drawn l (Trees.TypeAlias t ps e) h =
        let w = parts5 (has_types p) (is_a_name t) (fits_target n Store t) (list_all (type_param_fits n) ps) (fits_at n Expression e) h in
        simply l (Trees.TypeAlias t ps e) (alias_assigned n p words.typed t ps e w.0 w.1 w.2 w.3 w.4)
    drawn l (Trees.AugAssign t o e) h = let w = and_parts (is_single t && fits_target n Store t) (fits_at n Value e) h in
        simply l (Trees.AugAssign t o e) (augmented_given n p t o e w.0 w.1)
    drawn l (Trees.AnnAssign t a v simple) h =
        let w = parts5 (is_single t) (not simple || is_a_name t) (fits_target n Store t) (fits_at n Expression a)
        (perhaps_fits n Value (optional v)) h in
        simply l (Trees.AnnAssign t a v simple)
        (annotated_given n p t a v simple (and_from (is_single t) (fits_target n Store t) w.0 w.2) w.1 w.3 w.4)
    drawn l (Trees.For t e body orelse) h =
        let w = parts4 (fits_target n Store t) (fits_at n Stars e) (suite_fits p n body) (statements_fit p n orelse) h in
        let u = suite_parts body w.2 in
        loop_drawn l (for_head false t e) body orelse (for_given n p false t e w.0 w.1) u.0 (drawn_all (suc l) body u.1)
        (drawn_all (suc l) orelse w.3)
    drawn l (Trees.AsyncFor t e body orelse) h =
        let w = parts4 (fits_target n Store t) (fits_at n Stars e) (suite_fits p n body) (statements_fit p n orelse) h in
        let u = suite_parts body w.2 in
        loop_drawn l (for_head true t e) body orelse (for_given n p true t e w.0 w.1) u.0 (drawn_all (suc l) body u.1)
        (drawn_all (suc l) orelse w.3)
    drawn l (Trees.While e body orelse) h =
        let w = parts3 (fits_at n Expression e) (suite_fits p n body) (statements_fit p n orelse) h in
        let u = suite_parts body w.1 in
        loop_drawn l (while_head e) body orelse (while_given n p e w.0) u.0 (drawn_all (suc l) body u.1) (drawn_all (suc l) orelse w.2)
    drawn l (Trees.If e body orelse) h =
        let w = parts3 (fits_at n Expression e) (suite_fits p n body) (statements_fit p n orelse) h in
        let u = suite_parts body w.1 in
        if_drawn l e body orelse w.0 u.0 (drawn_all (suc l) body u.1) (drawn_all (suc l) orelse w.2)
    drawn l (Trees.With is body) h =
        let w = parts3 (has_one is) (list_all (item_fits n) is) (suite_fits p n body) h in
        let u = suite_parts body w.2 in
        with_drawn l false is body w.0 w.1 u.0 (drawn_all (suc l) body u.1)
    drawn l (Trees.AsyncWith is body) h =
        let w = parts3 (has_one is) (list_all (item_fits n) is) (suite_fits p n body) h in
        let u = suite_parts body w.2 in
        with_drawn l true is body w.0 w.1 u.0 (drawn_all (suc l) body u.1)
    drawn l (Trees.Match e cs) h =
        let w = parts4 (is_whole p.extent) (has_case cs) (fits_at n Expression e) (cases_fit p n cs) h in
        match_drawn l e cs w.0 w.1 w.2 (chosen (suc l) cs w.0 w.3)
    drawn l (Trees.Raise e c) h = simply l (Trees.Raise e c) (raise_given n p e c h)
    drawn l (Trees.Try body hs orelse final) h =
        let w = parts5 (clauses_fit false hs orelse final) (suite_fits p n body) (handlers_fit p n false hs) (statements_fit p n orelse)
        (statements_fit p n final) h in
        let u = suite_parts body w.1 in
        try_drawn l false body hs orelse final w.0 u.0 (drawn_all (suc l) body u.1) (caught l false hs w.2) (drawn_all (suc l) orelse w.3)
        (drawn_all (suc l) final w.4)
    drawn l (Trees.TryStar body hs orelse final) h =
        let w = parts5 (clauses_fit true hs orelse final) (suite_fits p n body) (handlers_fit p n true hs) (statements_fit p n orelse)
        (statements_fit p n final) h in
        let u = suite_parts body w.1 in
        try_drawn l true body hs orelse final w.0 u.0 (drawn_all (suc l) body u.1) (caught l true hs w.2) (drawn_all (suc l) orelse w.3)
        (drawn_all (suc l) final w.4)
    drawn l (Trees.Assert e m) h = let w = and_parts (fits_at n Expression e) (perhaps_fits n Expression (optional m)) h in
        simply l (Trees.Assert e m) (assert_given n p e m w.0 w.1)
    drawn l (Trees.Import as_) h = let w = and_parts (has_one as_) (list_all (import_fits n.name) as_) h in
        simply l (Trees.Import as_) (import_given n p as_ w.0 w.1)
    drawn l (Trees.ImportFrom m as_ k) h = let w = and_parts (source_fits n.name m k) (imports_fit n.name as_) h in
        simply l (Trees.ImportFrom m as_ k) (import_from_given n p m as_ k w.0 w.1)
    drawn l (Trees.Global xs) h = let w = and_parts (has_one xs) (list_all n.name xs) h in
        simply l (Trees.Global xs) (global_given n p xs w.0 w.1)
    drawn l (Trees.Nonlocal xs) h = let w = and_parts (has_one xs) (list_all n.name xs) h in
        simply l (Trees.Nonlocal xs) (nonlocal_given n p xs w.0 w.1)
    drawn l (Trees.ExprOf e) h = simply l (Trees.ExprOf e) (value_given n p e h)
    drawn l Trees.Pass h = simply l Trees.Pass (Word Key.Pass ∷ [], refl, F.pass)
    drawn l Trees.Break h = simply l Trees.Break (Word Key.Break ∷ [], refl, F.break)
    drawn l Trees.Continue h = simply l Trees.Continue (Word Key.Continue ∷ [], refl, F.continue)

    pub drawn_all : (l : ℕ) (ss : Stmts) → statements_fit p n ss ≡ true → DrawnAll l ss
    drawn_all l no_stmt h = record { lines = []; some = λ q. q; given = none_placed p n; is = nothing }
    drawn_all l (a_stmt s ss) h =
        let w = and_parts (statement_fits p n s) (statements_fit p n ss) h in
        let d = drawn l s w.0 in
        let r = drawn_all l ss w.1 in
        record {
          lines = d.lines ++ r.lines;
          some = λ q. some_before d.lines r.lines d.some;
          given = placed_on p n d.given r.given;
          is = and_then d.is r.is;
        }

    caught : (l : ℕ) (star : Bool) (hs : Handlers) → handlers_fit p n star hs ≡ true → Caught l star hs
    caught l star no_handler h = record { lines = []; given = none_placed p n; is = no_except }
    caught l star (a_handler class name body hs) h =
        let w = parts3 (caught_fits n star class name) (suite_fits p n body) (handlers_fit p n star hs) h in
        let u = suite_parts body w.1 in
        let b = drawn_all (suc l) body u.1 in
        let r = caught l star hs w.2 in
        record {
          lines = line l (header_form (except_header star class name) None) ∷ (b.lines ++ r.lines);
          given = headed p n l (except_header star class name) (except_given n p star class name w.0)
              (led_on p n (block_of p n b.given) r.given);
          is = except_clause (body_of u.0 b) r.is;
        }

    chosen : (l : ℕ) (cs : Cases) → is_whole p.extent ≡ true → cases_fit p n cs ≡ true → Chosen l cs
    chosen l Trees.no_case q h = record { lines = []; some = λ e. e; given = none_placed p n; is = B.no_case }
    chosen l (Trees.a_case pattern guard body cs) q h =
        let w = parts4 (pattern_fits_at n AsPattern pattern) (perhaps_fits n Expression (optional guard))
        (suite_fits p n body) (cases_fit p n cs) h in
        let u = suite_parts body w.2 in
        let b = drawn_all (suc l) body u.1 in
        let r = chosen l cs q w.3 in
        record {
          lines = line l (header_form (case_header pattern guard) None) ∷ (b.lines ++ r.lines);
          some = λ e. refl;
          given = cased p n l (case_header pattern guard) q (case_given n p pattern guard words.cased w.0 w.1)
              (led_on p n (block_of p n b.given) r.given);
          is = B.case_clause (body_of u.0 b) r.is;
        }
