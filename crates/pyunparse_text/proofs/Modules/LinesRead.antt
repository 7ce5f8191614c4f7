-- Carries: the law of read modules. On: the lines that statements are written in are read back, and
-- no line stands more than a level deeper than the one before.
use Rattle.std.proofs.Common.{◌≡◌, ℕ, suc, ◌+◌, ◌≤◌, Bool, true, false, ◌==◌, List, [], ◌∷◌, ◌++◌, map, refl, sym, ◌∙◌, subst}
use Rattle.std.proofs.Common.{arith}
use Rattle.std.specs.Prelude.{nat_le, All}
use Rattle.std.specs.List.{list_all, list_any}
use Rattle.std.proofs.lemmas.List.{map-append}
use Rattle.std.proofs.lemmas.List.Folds.{list_all-append}
use Rattle.std.proofs.lemmas.List.Elements.{All-nil, All-cons, All-head, All-tail}
use Rattle.std.proofs.lemmas.Bool.{and_parts, leb-true, le-leb, eqb-true, and_from, or_left, or_right}
use Rattle.std.proofs.lemmas.Bool.Decides.{nat_tests}
use Rattle.pylex_lexeme.specs.declared.kinds.Exact.TheVariants.{At}
use Rattle.pytree_node.specs.declared.profiles.Extent.{Extent}
use Rattle.pytree_node.specs.declared.profiles.Profile.{Profile}
use Rattle.pygrammar.specs.declared.levels.Level.TheVariants.{Named}
use Rattle.pytree_node.specs.Trees.{Expr, Stmt, stmts, Case, cases, Handler, handlers, Module}
use Rattle.pytoken.specs.Terminals.{Terminal}
use Rattle.pytree_height.specs.Heights.{expression_height}
use Rattle.pygrammar.specs.Lines.{Line as FormLine, Header, if_header, elif_header, else_header, try_header, finally_header, decorator_form}
use Rattle.pygrammar.specs.FormattedStrings.{has_formatted}
use Rattle.pygrammar.specs.Forms as F
use Rattle.pyunparse_text.specs.Spacing.{Line}
use Rattle.pyunparse_text.specs.Tokens.{is_written, rise_by_one}
use Rattle.pyunparse_text.proofs.Callers.Lists.{begin_at, rise_both}
use Rattle.pyunparse_text.specs.Written.{leading, written}
use Rattle.pyunparse_text.specs.Terminals.{terminal}
use Rattle.pyunparse_text.specs.Pieces.{Sited, outside, piece}
use Rattle.pyunparse_text.specs.Brackets.{brackets}
use Rattle.pyunparse_text.specs.Statements.{simple_tokens}
use Rattle.pyunparse_text.specs.Modules.{WrittenLine, written_line, terminal_lines, line_of, decorators, lines_of, statement_lines}
use Rattle.pyunparse_text.specs.Modules.{alternative}
use Rattle.pyunparse_text.specs.Modules.{clause, case_lines, handler_lines}
use Rattle.pyunparse_text.specs.Laws.{IsOfTokens, GiveLines, no_line, a_line, HaveForms, no_form, a_form, AreModule, ModuleIsRead}
use Rattle.pyunparse_text.specs.Laws.{ModulesAreRead}
use Rattle.pyunparse_text.proofs.PieceLaws.Shallow.{Low}
use Rattle.pyunparse_text.proofs.PieceLaws.Derived.{Said, front, rest, following}
use Rattle.pyunparse_text.proofs.PieceLaws.OfTokens.{of_tokens}
use Rattle.pyunparse_text.proofs.PieceLaws.Law.{Reads}
use Rattle.pyunparse_text.proofs.Modules.FlatLines.{line_brackets}
use Rattle.pyunparse_text.proofs.PieceLaws.HeaderForms.{ReadHeader, header_read, decorator_read}
use Rattle.pyunparse_text.proofs.PieceLaws.LinesDerived.{simple_read, header_said, decorator_said}
use Rattle.pyunparse_text.proofs.Modules.Wells.{HeadOf, other_head, Well, well_simple, well_if, well_loop, well_with, well_finally}
use Rattle.pyunparse_text.proofs.Modules.Wells.{well_except}
use Rattle.pyunparse_text.proofs.Modules.Wells.{well_definition, well_match, Wells, none, one, Full, full, Handled, none_handled}
use Rattle.pyunparse_text.proofs.Modules.Wells.{one_handled, Cased}
use Rattle.pyunparse_text.proofs.Modules.Wells.{none_cased, one_cased, Decorated, none_decorated, one_decorated, Gives, Formed, none_formed}
use Rattle.pyunparse_text.proofs.Modules.Wells.{one_formed, block_wells}
use Rattle.pyunparse_text.proofs.Modules.Shapes.{lone_if, not_lone, simple_lines, loop_lines, with_lines, try_lines, definition_lines}
use Rattle.pyunparse_text.proofs.Modules.Shapes.{else_lines}

-- a line of terminals that can be said
abbrev pub IsSaid : Extent → WrittenLine Terminal → Type 0
IsSaid extent w = Said extent [] w.tokens

module _ (extent : Extent) where
  -- ---- Lines of a level that are read back.

  -- few brackets are open at once in each
  abbrev LowLines : List (WrittenLine Terminal) → Type 0
  LowLines [] = Unit {0}
  LowLines (q ∷ qs) = Low q.tokens × LowLines qs

  low_first : (qs us : List (WrittenLine Terminal)) → LowLines (qs ++ us) → LowLines qs
  low_first [] us h = tt
  low_first (q ∷ qs) us h = (h.0, low_first qs us h.1)

  low_later : (qs us : List (WrittenLine Terminal)) → LowLines (qs ++ us) → LowLines us
  low_later [] us h = h
  low_later (q ∷ qs) us h = low_later qs us h.1

  record Fine (n : ℕ) (rs : List (WrittenLine Sited)) (qs : List (WrittenLine Terminal)) : Type 0 where
    written : LowLines qs → list_all is_written (map line_of rs) ≡ true
    begins : begin_at n (map line_of rs) ≡ true
    above : list_all (λ (l : Line). nat_le n l.level) (map line_of rs) ≡ true
    rises : rise_by_one n (map line_of rs) ≡ true
    give : LowLines qs → GiveLines extent rs qs

  fine_none : (n : ℕ) → Fine n [] []
  fine_none n = record { written = λ low. refl; begins = refl; above = refl; rises = refl; give = λ low. no_line }

  begin_both : (n : ℕ) (ls ms : List Line) → begin_at n ls ≡ true → begin_at n ms ≡ true → begin_at n (ls ++ ms) ≡ true
  begin_both n [] ms e f = f
  begin_both n (l ∷ ls) ms e f = e

  give_both : {rs ss : List (WrittenLine Sited)} {qs us : List (WrittenLine Terminal)} → GiveLines extent rs qs → GiveLines extent ss us
      → GiveLines extent (rs ++ ss) (qs ++ us)
  give_both no_line h = h
  give_both (a_line g c) h = a_line g (give_both c h)

  fine_both : {n : ℕ} {rs ss : List (WrittenLine Sited)} {qs us : List (WrittenLine Terminal)} → Fine n rs qs → Fine n ss us
      → Fine n (rs ++ ss) (qs ++ us)
  fine_both {n} {rs} {ss} {qs} {us} x y =
      let e = map-append line_of rs ss in
      let xs : List Line = map line_of rs in
      let ys : List Line = map line_of ss in
      record {
        written = λ low. rw e (list_all-append is_written xs ys ∙ and_from (list_all is_written xs) (list_all is_written ys)
            (x.written (low_first qs us low)) (y.written (low_later qs us low)));
        begins = rw e (begin_both n xs ys x.begins y.begins);
        above = rw e (list_all-append (λ (l : Line). nat_le n l.level) xs ys ∙ and_from (list_all (λ (l : Line). nat_le n l.level) xs)
            (list_all (λ (l : Line). nat_le n l.level) ys) x.above y.above);
        rises = rw e (rise_both n n xs ys x.rises x.above (omega arith) y.begins y.rises);
        give = λ low. give_both (x.give (low_first qs us low)) (y.give (low_later qs us low));
      }

  deeper : (n : ℕ) (ls : List Line) → begin_at (suc n) ls ≡ true → rise_by_one (suc n) ls ≡ true → rise_by_one n ls ≡ true
  deeper n [] e f = refl
  deeper n (l ∷ ls) e f =
      let z : l.level ≡ suc n = eqb-true l.level (suc n) e in
      let h = and_parts (nat_le l.level (suc n + 1)) (rise_by_one l.level ls) f in
      and_from (nat_le l.level (n + 1)) (rise_by_one l.level ls) (le-leb l.level (n + 1) (omega arith)) h.1

  lower : (n : ℕ) (ls : List Line) → list_all (λ (l : Line). nat_le (suc n) l.level) ls ≡ true
      → list_all (λ (l : Line). nat_le n l.level) ls ≡ true
  lower n [] e = refl
  lower n (l ∷ ls) e =
      let h = and_parts (nat_le (suc n) l.level) (list_all (λ (l : Line). nat_le (suc n) l.level) ls) e in
      let i = leb-true (suc n) l.level h.0 in
      and_from (nat_le n l.level) (list_all (λ (l : Line). nat_le n l.level) ls) (le-leb n l.level (omega arith)) (lower n ls h.1)

  -- a line, and lines one level deeper after it
  fine_head : {n : ℕ} {ps : List Sited} {ts : List Terminal} {rs : List (WrittenLine Sited)} {qs : List (WrittenLine Terminal)}
      → Reads extent ps ts
      → Fine (suc n) rs qs → Fine n (written_line n ps ∷ rs) (written_line n ts ∷ qs)
  fine_head {n} {ps} {ts} {rs} {qs} x y =
      let ls : List Line = map line_of rs in
      record {
        written = λ low. and_from (is_written (record { level = n; pieces = outside ps })) (list_all is_written ls)
            ((x low.0).line n) (y.written low.1);
        begins = (let e : (n == n) ≡ true = grind (arith, nat_tests) in e);
        above = and_from (nat_le n n) (list_all (λ (l : Line). nat_le n l.level) ls) (le-leb n n (omega arith)) (lower n ls y.above);
        rises = and_from (nat_le n (n + 1)) (rise_by_one n ls) (le-leb n (n + 1) (omega arith)) (deeper n ls y.begins y.rises);
        give = λ low. a_line (x low.0).give (y.give low.1);
      }

  fine_line : {n : ℕ} {ps : List Sited} {ts : List Terminal} → Reads extent ps ts → Fine n (written_line n ps ∷ []) (written_line n ts ∷ [])
  fine_line {n} x = fine_head x (fine_none (suc n))

  moved : {n : ℕ} {rs ss : List (WrittenLine Sited)} {qs us : List (WrittenLine Terminal)} → rs ≡ ss → qs ≡ us → Fine n ss us → Fine n rs qs
  moved {n} {rs} {ss} {qs} {us} e f x = subst (λ z. Fine n z qs) (sym e) (subst (λ z. Fine n ss z) (sym f) x)

  -- ---- Statements, of each of whose lines that is known.

  abbrev ReadSimple : Stmt → Type 0
  ReadSimple s = Reads extent (simple_tokens piece s) (simple_tokens terminal s)

  abbrev ReadDecorator : Expr → Type 0
  ReadDecorator e = Reads extent (leading piece At ∷ written piece Named e) (leading terminal At ∷ written terminal Named e)

  mutual
    unfolding lines_of statement_lines alternative clause case_lines handler_lines

    wells_fine : {ss : List Stmt} → Wells ReadSimple (ReadHeader extent) ReadDecorator ss → (l : ℕ)
        → Fine l (lines_of piece l (stmts ss)) (lines_of terminal l (stmts ss))
    wells_fine none l = fine_none l
    wells_fine (one p c) l = fine_both (well_fine p l) (wells_fine c l)

    full_fine : {ss : List Stmt} → Full ReadSimple (ReadHeader extent) ReadDecorator ss → (l : ℕ)
        → Fine (suc l) (lines_of piece (suc l) (stmts ss)) (lines_of terminal (suc l) (stmts ss))
    full_fine (full p c) l = fine_both (well_fine p (suc l)) (wells_fine c (suc l))

    clause_fine : {ss : List Stmt} → Wells ReadSimple (ReadHeader extent) ReadDecorator ss → (h : Header) → ReadHeader extent h → (l : ℕ)
        → Fine l (clause piece l h (stmts ss)) (clause terminal l h (stmts ss))
    clause_fine none h r l = fine_none l
    clause_fine (one p c) h r l = fine_head r (fine_both (well_fine p (suc l)) (wells_fine c (suc l)))

    alternative_fine : {ss : List Stmt} → Wells ReadSimple (ReadHeader extent) ReadDecorator ss → (l : ℕ)
        → Fine l (alternative piece l (stmts ss)) (alternative terminal l (stmts ss))
    alternative_fine none l = fine_none l
    alternative_fine (one (well_if {test = test} p q b c) none) l = fine_both (fine_head q (full_fine b l)) (alternative_fine c l)
    alternative_fine (one {s = s} {ss = ss} p c) l =
        let e : lone_if s (stmts ss) ≡ false = not_lone p c tt in
        moved (else_lines piece l s (stmts ss) e) (else_lines terminal l s (stmts ss) e)
        (fine_head (header_read else_header tt) (fine_both (well_fine p (suc l)) (wells_fine c (suc l))))

    well_fine : {s : Stmt} → Well ReadSimple (ReadHeader extent) ReadDecorator s → (l : ℕ)
        → Fine l (statement_lines piece l s) (statement_lines terminal l s)
    well_fine (well_simple {s = s} p q) l = moved (simple_lines piece l s p) (simple_lines terminal l s p) (fine_line q)
    well_fine (well_if {test = test} p q b c) l = fine_both (fine_head p (full_fine b l)) (alternative_fine c l)
    well_fine (well_loop head {body = body} {orelse = orelse} p b c) l =
        moved (loop_lines piece l head body orelse) (loop_lines terminal l head body orelse)
        (fine_both (fine_head p (full_fine b l)) (clause_fine c else_header (header_read else_header tt) l))
    well_fine (well_with b is {body = body} p c) l =
        moved (with_lines piece l b is body) (with_lines terminal l b is body) (fine_head p (full_fine c l))
    well_fine (well_finally {body = body} {final = final} b (full p c)) l =
        moved (try_lines piece l false body [] [] final) (try_lines terminal l false body [] [] final)
        (fine_both (fine_head (header_read try_header tt) (full_fine b l))
        (fine_head (header_read finally_header tt) (fine_both (well_fine p (suc l)) (wells_fine c (suc l)))))
    well_fine (well_except star {body = body} {orelse = orelse} {final = final} {h = h} {hs = hs} b c d e) l =
        moved (try_lines piece l star body (h ∷ hs) orelse final) (try_lines terminal l star body (h ∷ hs) orelse final)
        (fine_both (fine_head (header_read try_header tt) (full_fine b l))
        (fine_both (handled_fine c l) (fine_both (clause_fine d else_header (header_read else_header tt) l)
        (clause_fine e finally_header (header_read finally_header tt) l))))
    well_fine (well_definition head {es = es} {body = body} d p b) l =
        moved (definition_lines piece l es head body) (definition_lines terminal l es head body)
        (fine_both (decorated_fine d l) (fine_head p (full_fine b l)))
    well_fine (well_match p c) l = fine_head p (cased_fine c (suc l))

    cased_fine : {cs : List Case} → Cased ReadSimple (ReadHeader extent) ReadDecorator cs → (l : ℕ)
        → Fine l (case_lines piece l (cases cs)) (case_lines terminal l (cases cs))
    cased_fine none_cased l = fine_none l
    cased_fine (one_cased p b c) l = fine_both (fine_head p (full_fine b l)) (cased_fine c l)

    handled_fine : {star : Bool} {hs : List Handler} → Handled ReadSimple (ReadHeader extent) ReadDecorator star hs → (l : ℕ)
        → Fine l (handler_lines piece l star (handlers hs)) (handler_lines terminal l star (handlers hs))
    handled_fine none_handled l = fine_none l
    handled_fine (one_handled p b c) l = fine_both (fine_head p (full_fine b l)) (handled_fine c l)

    decorated_fine : {es : List Expr} → Decorated ReadSimple (ReadHeader extent) ReadDecorator es → (l : ℕ)
        → Fine l (decorators piece l es) (decorators terminal l es)
    decorated_fine none_decorated l = fine_none l
    decorated_fine (one_decorated p c) l = fine_both (fine_line p) (decorated_fine c l)

  -- ---- Modules of tokens.

  head_read : {profile : Profile} {ts : List Terminal} {h : Header} → Said extent [] ts → HeadOf profile ts h → ReadHeader extent h
  head_read {h = h} q p = header_read h (header_said extent p q)

  elif_read : {profile : Profile} {ts : List Terminal} {e : Expr} → Said extent [] ts → F.HeaderOf profile ts (if_header e)
      → ReadHeader extent (elif_header e)
  elif_read {e = e} q p = header_read (elif_header e) (header_said extent (other_head p) q)

  if_read : {profile : Profile} {ts : List Terminal} {e : Expr} → Said extent [] ts → F.HeaderOf profile ts (elif_header e)
      → ReadHeader extent (if_header e)
  if_read {e = e} q p = header_read (if_header e) (header_said extent (other_head p) q)

  decorated_read : {profile : Profile} {ts : List Terminal} {e : Expr} → Said extent [] ts
      → F.FormOf profile ts (decorator_form e) → ReadDecorator e
  decorated_read q (F.decorator_line {ts = ts} {e = e} p) = decorator_read e (decorator_said extent p (rest q))

  all_read : (profile : Profile) → Gives ReadSimple (ReadHeader extent) ReadDecorator profile (Said extent [])
  all_read profile = record {
    simple = λ q p. simple_read extent p q;
    header = λ q p. head_read q p;
    elif_too = λ q p. elif_read q p;
    if_too = λ q p. if_read q p;
    decorator = λ q p. decorated_read q p;
    front = front;
    rest = λ ts us t c n h. subst (λ o. Said extent o us) (n []) (following ts us t c h);
  }

  formed : {profile : Profile} {earlier : List FormLine} {ws : List (WrittenLine Terminal)} {xs : List FormLine} → All (IsSaid extent) ws
      → HaveForms profile earlier ws xs → Formed ReadSimple (ReadHeader extent) ReadDecorator profile (Said extent []) (all_read profile) xs
  formed h no_form = none_formed
  formed h (a_form {l = l} {ts = ts} {ws = ws} p c) =
      one_formed (All-head (IsSaid extent) (written_line l ts) ws h) p (formed (All-tail (IsSaid extent) (written_line l ts) ws h) c)

  -- some line has an f-string
  abbrev has_string : List (WrittenLine Terminal) → Bool
  has_string qs = list_any (λ (w : WrittenLine Terminal). has_formatted w.tokens) qs

  all_low : (n : ℕ) (qs : List (WrittenLine Terminal)) → (has_string qs ≡ true → n ≤ 599)
      → All (λ (w : WrittenLine Terminal). brackets w.tokens ≤ n) qs → LowLines qs
  all_low n [] e h = tt
  all_low n (q ∷ qs) e h =
      let b : brackets q.tokens ≤ n = All-head (λ (w : WrittenLine Terminal). brackets w.tokens ≤ n) q qs h in (
        λ f. (let k = e (or_left (has_formatted q.tokens) (has_string qs) f) in omega (arith, b, k)),
        all_low n qs (λ f. e (or_right (has_formatted q.tokens) (has_string qs) f))
            (All-tail (λ (w : WrittenLine Terminal). brackets w.tokens ≤ n) q qs h),
      )

  read_in : (profile : Profile) (ws : List (WrittenLine Terminal)) (m : Module) → AreModule profile ws m → All (IsSaid extent) ws
      → (has_string (terminal_lines m) ≡ true → expression_height m ≤ 500) → ModuleIsRead extent m
  read_in profile ws m g h low =
      let f =
      wells_fine
      (block_wells ReadSimple (ReadHeader extent) ReadDecorator profile (Said extent []) (all_read profile) g.block (formed h g.formed))
      0 in
      let ls : List Line = map line_of (lines_of piece 0 (stmts m.body)) in
      let few = all_low (expression_height m + 1) (lines_of terminal 0 (stmts m.body))
      (λ f. (let k = low f in omega (arith, k))) (line_brackets m) in
      record { written = and_from (list_all is_written ls) (rise_by_one 0 ls) (f.written few) f.rises; give = f.give few }

  of_lines : (ws : List (WrittenLine Terminal)) → All (IsOfTokens extent) ws → All (IsSaid extent) ws
  of_lines [] h = All-nil (IsSaid extent)
  of_lines (w ∷ ws) h =
      All-cons (IsSaid extent) w ws (of_tokens (All-head (IsOfTokens extent) w ws h)) (of_lines ws (All-tail (IsOfTokens extent) w ws h))

-- what is written for a module that some lines of terminals that can be said give
pub modules_said : (profile : Profile) (ws : List (WrittenLine Terminal)) (m : Module) → AreModule profile ws m
    → All (IsSaid profile.extent) ws
    → (list_any (λ w. has_formatted w.tokens) (terminal_lines m) ≡ true → expression_height m ≤ 500) → ModuleIsRead profile.extent m
modules_said profile ws m g h low = read_in profile.extent profile ws m g h low

pub modules_read : ModulesAreRead
modules_read profile ws m g h low = modules_said profile ws m g (of_lines profile.extent ws h) low
