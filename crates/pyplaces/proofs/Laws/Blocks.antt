-- Count: as many places in a block, and in an accepted source, as nodes of it that have one.
--
-- On: Many, Forms.
use Rattle.std.proofs.Common.{◌≡◌, refl, ap, ◌∙◌, ℕ, suc, ◌+◌, arith, List, [], ◌∷◌, ◌++◌, Option, Bool, true, false}
use Rattle.std.proofs.Common.{codes}
use Rattle.std.proofs.Common.{length, length-append, take, drop}
use Rattle.std.proofs.lemmas.List.{length-map}
use Rattle.pylex_listing.specs.Listing.{Source}
use Rattle.pytree_node.specs.declared.profiles.Profile.{Profile}
use Rattle.pytree_node.specs.Trees.{Expr, Identifier, Pattern, Stmt, Case, Handler, Item, Module, exprs, stmts, cases, handlers}
use Rattle.pytree_dump_text.specs.Shows.{Fields, Row, a_field, no_field, left_out, name_field, shown_exprs, shown_cases, shown_handlers}
use Rattle.pytree_dump_text.specs.Shows.{shown_items, shown_module, shown_pattern, shown_stmts, type_params_field}
use Rattle.pytree_marked.specs.MarkedNodes.{marked, marked_rows}
use Rattle.pytree_marked.specs.MarkedOptions.{marked_option}
use Rattle.pytree_marked.proofs.Callers.Sums.{name_sum, option_sum}
use Rattle.pytoken.specs.Tokens as Tokens
use Rattle.pygrammar.specs.Lines.{Line, line, Form, header_form, LoopHead, while_head, for_head, DefHead, function_head, class_head}
use Rattle.pygrammar.specs.Lines.{loop_header, finally_header, def_header, loop, with_of, definition, try_of}
use Rattle.pygrammar.specs.Blocks as B
use Rattle.pygrammar.specs.Refusals.{Accepted, Formed, formed_end, formed_line}
use Rattle.pyplaces.specs.Stretches.{Span, Stretch, span_of, spans_of}
use Rattle.pyplaces.specs.BlockPlaces.{LinePlaces, own, decorator_places, block_places, statement_places, definition_places}
use Rattle.pyplaces.specs.BlockPlaces.{final_places, body_places, alternative_places, otherwise_places, handlers_places, cases_places}
use Rattle.pyplaces.specs.BlockPlaces.{ending_places}
use Rattle.pyplaces.specs.ModulePlaces.{formed_places, module_places}
use Rattle.pyplaces.proofs.Laws.Many.{Many, many, none, one, ◌⊕◌}
use Rattle.pyplaces.proofs.Laws.Forms.{before_count, after_count, suite_count, line_before, line_following, line_suite}
use Rattle.pyplaces.proofs.Laws.Forms.{count_form}

-- ---- Lines, each with its places.

pub record LineCounted (profile : Profile) (f : Form) (z : LinePlaces) : Type 0 where
  pub before : Many z.before (line_before f)
  pub following : Many z.following (line_following profile f)
  pub suite : Many z.suite (line_suite profile f)

pub data LinesCounted (profile : Profile) : List Line → List LinePlaces → Type 0 where
  no_line : LinesCounted profile [] []
  a_line : {x : Line} {xs : List Line} {z : LinePlaces} {zs : List LinePlaces} → LineCounted profile x.form z → LinesCounted profile xs zs
      → LinesCounted profile (x ∷ xs) (z ∷ zs)

pub front : {profile : Profile} (xs ys : List Line) {zs : List LinePlaces} → LinesCounted profile (xs ++ ys) zs
    → LinesCounted profile xs (take (length xs) zs)
front [] ys c = no_line
front (x ∷ xs) ys (a_line h c) = a_line h (front xs ys c)

pub back : {profile : Profile} (xs ys : List Line) {zs : List LinePlaces} → LinesCounted profile (xs ++ ys) zs
    → LinesCounted profile ys (drop (length xs) zs)
back [] ys c = c
back (x ∷ xs) ys (a_line h c) = back xs ys c

pub one_each : {profile : Profile} {xs : List Line} {zs : List LinePlaces} → LinesCounted profile xs zs → length zs ≡ length xs
one_each no_line = refl
one_each (a_line h c) = ap suc (one_each c)

-- ---- What is shown of statements.

abbrev pub rows : Profile → List Stmt → ℕ
rows profile ss = marked_rows (shown_stmts profile (stmts ss))

rows_both : (profile : Profile) (ss more : List Stmt) → rows profile ss + rows profile more ≡ rows profile (ss ++ more)
rows_both profile [] more = omega arith
rows_both profile (s ∷ ss) more = omega (arith, rows_both profile ss more)

loop_count : (profile : Profile) (head : LoopHead) (body orelse : List Stmt)
    → before_count (loop_header head) + (rows profile body + (rows profile orelse + 1)) ≡ rows profile (loop head body orelse ∷ [])
loop_count profile (while_head e) body orelse = omega arith
loop_count profile (for_head false t e) body orelse = omega arith
loop_count profile (for_head true t e) body orelse = omega arith

with_count : (profile : Profile) (is_async : Bool) (items : List Item) (body : List Stmt)
    → marked_rows (shown_items items) + (rows profile body + 1) ≡ rows profile (with_of is_async items body ∷ [])
with_count profile false items body = omega arith
with_count profile true items body = omega arith

try_count : (profile : Profile) (star : Bool) (body orelse final : List Stmt) (hs : List Handler)
    → rows profile body + (marked_rows (shown_handlers profile (handlers hs)) + (rows profile orelse + (rows profile final + 1)))
    ≡ rows profile (try_of star body hs orelse final ∷ [])
try_count profile false body orelse final hs = omega arith
try_count profile true body orelse final hs = omega arith

handler_count : (profile : Profile) (matched : Option Expr) (name : Option Identifier) (body : List Stmt) (hs : List Handler)
    → marked_option matched + (rows profile body + (1 + marked_rows (shown_handlers profile (handlers hs))))
    ≡ marked_rows (shown_handlers profile (handlers (B.handler matched name body ∷ hs)))
handler_count profile matched name body hs =
    let last : Fields = a_field (codes "body") (Row (shown_stmts profile (stmts body))) no_field in
    let m1 = option_sum (codes "type") matched (name_field (codes "name") name last) in
    let m2 = name_sum (codes "name") name last in omega (arith, m1, m2)

case_count : (profile : Profile) (pattern : Pattern) (guard : Option Expr) (body : List Stmt) (cs : List Case)
    → (marked (shown_pattern pattern) + marked_option guard) + (rows profile body + marked_rows (shown_cases profile (cases cs)))
    ≡ marked_rows (shown_cases profile (cases (B.case_of pattern guard body ∷ cs)))
case_count profile pattern guard body cs =
    let last : Fields = a_field (codes "body") (Row (shown_stmts profile (stmts body))) no_field in
    let m1 = option_sum (codes "guard") guard last in omega (arith, m1)

definition_count : (profile : Profile) (head : DefHead) (es : List Expr) (body : List Stmt)
    → before_count (def_header head) + (rows profile body + (marked_rows (shown_exprs (exprs es)) + (after_count profile (def_header head)
    + 1))) ≡ rows profile (definition es head body ∷ [])
definition_count profile (function_head false x ps a r) es body =
    let m1 = option_sum (codes "returns") r (left_out (type_params_field profile ps)) in omega (arith, m1)
definition_count profile (function_head true x ps a r) es body =
    let m1 = option_sum (codes "returns") r (left_out (type_params_field profile ps)) in omega (arith, m1)
definition_count profile (class_head x ps bases ks) es body = omega arith

-- ---- Definitions.

pub decorators_count : {profile : Profile} {l : ℕ} {ds : List Line} {es : List Expr} {zs : List LinePlaces} → B.Decorators l ds es
    → LinesCounted profile ds zs → Many (decorator_places zs) (marked_rows (shown_exprs (exprs es)))
decorators_count B.no_decorator no_line = none
decorators_count (B.decorator d) (a_line h c) = h.before ⊕ decorators_count d c

as_list : {A : Type 0} {ps qs : List A} {n : ℕ} → ps ≡ qs → Many qs n → Many ps n
as_list h p = record { is = ap length h ∙ p.is }

pub definition_is : {l : ℕ} {suite : Option (List Stmt)} {xs : List Line} {ss : List Stmt} (ds : List LinePlaces) (z : LinePlaces)
    (zs : List LinePlaces) (b : B.Body l suite xs ss) →
    definition_places ds (z ∷ zs) b ≡ z.before ++ (body_places z zs b ++ (decorator_places ds ++ (z.following ++ own z zs)))
definition_is ds z zs B.inline = refl
definition_is ds z zs (B.indented b) = refl

-- what is said of a body
abbrev BodyCounted : Profile → Option (List Stmt) → List Line → List Stmt → (LinePlaces → List LinePlaces → List Span) → Type 0
BodyCounted profile suite xs body ps = (z : LinePlaces) (zs : List LinePlaces) → Many z.suite (suite_count profile suite)
    → LinesCounted profile xs zs → Many (ps z zs) (rows profile body)

definition_counted : {profile : Profile} {l : ℕ} {suite : Option (List Stmt)} {ds xs : List Line} {es : List Expr} {body : List Stmt}
    {dz zs : List LinePlaces} (head : DefHead) (b : B.Body l suite xs body) → BodyCounted profile suite xs body (λ z zs. body_places z zs b)
    → LinesCounted profile ds dz → B.Decorators l ds es → LinesCounted profile (line l (header_form (def_header head) suite) ∷ xs) zs
    → Many (definition_places dz zs b) (rows profile (definition es head body ∷ []))
definition_counted {profile} {es = es} {body = body} {dz = dz} head b p d e (a_line {z = z} {zs = zs} h c) =
    as_list (definition_is dz z zs b)
    (many (h.before ⊕ (p z zs h.suite c ⊕ (decorators_count e d ⊕ (h.following ⊕ one)))) (definition_count profile head es body))

decorated_counted : {profile : Profile} {l : ℕ} {suite : Option (List Stmt)} {ds xs : List Line} {es : List Expr} {body : List Stmt}
    (head : DefHead) (e : B.Decorators l ds es) (b : B.Body l suite xs body)
    → BodyCounted profile suite xs body (λ z zs. body_places z zs b) → (zs : List LinePlaces)
    → LinesCounted profile (ds ++ (line l (header_form (def_header head) suite) ∷ xs)) zs
    → Many (statement_places zs (B.definition_of head e b)) (rows profile (definition es head body ∷ []))
decorated_counted {l = l} {suite = suite} {ds = ds} {xs = xs} head e b p [] c =
    let x = line l (header_form (def_header head) suite) in absurd (omega (arith, one_each c, length-append ds (x ∷ xs)))
decorated_counted {l = l} {suite = suite} {ds = ds} {xs = xs} head e b p (z ∷ zs) c =
    let following = line l (header_form (def_header head) suite) ∷ xs in
    definition_counted head b p (front ds following c) e (back ds following c)

-- ---- All of them.

mutual
  pub count_block : {profile : Profile} {l : ℕ} {xs : List Line} {ss : List Stmt} {zs : List LinePlaces} (b : B.Block l xs ss)
      → LinesCounted profile xs zs → Many (block_places zs b) (rows profile ss)
  count_block B.nothing c = none
  count_block {profile} (B.and_then {xs = xs} {ys = ys} {ss = ss} {more = more} s b) c =
      many (count_statement s (front xs ys c) ⊕ count_block b (back xs ys c)) (rows_both profile ss more)

  pub count_statement : {profile : Profile} {l : ℕ} {xs : List Line} {ss : List Stmt} {zs : List LinePlaces} (s : B.Statement l xs ss)
      → LinesCounted profile xs zs → Many (statement_places zs s) (rows profile ss)
  count_statement B.simple_line (a_line h c) = h.suite
  count_statement (B.if_statement {xs = xs} {ys = ys} b a) (a_line {z = z} h c) =
      many (h.before ⊕ (count_body b z _ h.suite (front xs ys c) ⊕ (count_alternative a (back xs ys c) ⊕ one))) (omega arith)
  count_statement {profile} (B.loop_statement {head = head} {xs = xs} {ys = ys} {body = body} {orelse = orelse} b a) (a_line {z = z} h c) =
      many (h.before ⊕ (count_body b z _ h.suite (front xs ys c) ⊕ (count_otherwise a (back xs ys c) ⊕ one)))
      (loop_count profile head body orelse)
  count_statement {profile} (B.with_statement {is_async = is_async} {items = items} {body = body} b) (a_line {z = z} h c) =
      many (h.before ⊕ (count_body b z _ h.suite c ⊕ one)) (with_count profile is_async items body)
  count_statement {l = l} (B.try_finally {last = last} {xs = xs} {ys = ys} b f) (a_line {z = z} h c) =
      let following = line l (header_form finally_header last) ∷ ys in
      many (count_body b z _ h.suite (front xs following c) ⊕ (count_final (back xs following c) f ⊕ one)) (omega arith)
  count_statement {profile} (B.try_except {star = star} {xs = xs} {ys = ys} {zs = others} {ws = ws} {body = body} {orelse = orelse} {final =
      final} {h = first} {hs = hs} b e o f) (a_line {z = z} h c) =
      let following = back xs (ys ++ (others ++ ws)) c in
      let last = back ys (others ++ ws) following in
      many (count_body b z _ h.suite (front xs (ys ++ (others ++ ws)) c) ⊕ (count_handlers e (front ys (others ++ ws) following) ⊕
      (count_otherwise o (front others ws last) ⊕ (count_ending f (back others ws last) ⊕ one))))
      (try_count profile star body orelse final (first ∷ hs))
  count_statement {zs = zs} (B.definition_of head e b) c = decorated_counted head e b (λ z zs s c. count_body b z zs s c) zs c
  count_statement (B.match_statement e) (a_line h c) = many (h.before ⊕ (count_cases e c ⊕ one)) (omega arith)

  count_body : {profile : Profile} {l : ℕ} {suite : Option (List Stmt)} {xs : List Line} {ss : List Stmt} (b : B.Body l suite xs ss)
      (z : LinePlaces) (zs : List LinePlaces) → Many z.suite (suite_count profile suite) → LinesCounted profile xs zs
      → Many (body_places z zs b) (rows profile ss)
  count_body B.inline z zs s c = s
  count_body (B.indented b) z zs s c = count_block b c

  count_final : {profile : Profile} {l : ℕ} {suite : Option (List Stmt)} {xs : List Line} {ss : List Stmt} {zs : List LinePlaces}
      → LinesCounted profile (line l (header_form finally_header suite) ∷ xs) zs → (b : B.Body l suite xs ss)
      → Many (final_places zs b) (rows profile ss)
  count_final (a_line h c) B.inline = h.suite
  count_final (a_line h c) (B.indented b) = count_block b c

  pub count_alternative : {profile : Profile} {l : ℕ} {xs : List Line} {ss : List Stmt} {zs : List LinePlaces} (a : B.Alternative l xs ss)
      → LinesCounted profile xs zs → Many (alternative_places zs a) (rows profile ss)
  count_alternative (B.an_else o) c = count_otherwise o c
  count_alternative (B.an_elif {xs = xs} {ys = ys} b a) (a_line {z = z} h c) =
      many (h.before ⊕ (count_body b z _ h.suite (front xs ys c) ⊕ (count_alternative a (back xs ys c) ⊕ one))) (omega arith)

  count_otherwise : {profile : Profile} {l : ℕ} {xs : List Line} {ss : List Stmt} {zs : List LinePlaces} (o : B.Otherwise l xs ss)
      → LinesCounted profile xs zs → Many (otherwise_places zs o) (rows profile ss)
  count_otherwise B.no_else c = none
  count_otherwise (B.else_clause b) (a_line {z = z} h c) = count_body b z _ h.suite c

  count_handlers : {profile : Profile} {l : ℕ} {star : Bool} {xs : List Line} {hs : List Handler} {zs : List LinePlaces}
      (e : B.Excepts l star xs hs) → LinesCounted profile xs zs
      → Many (handlers_places zs e) (marked_rows (shown_handlers profile (handlers hs)))
  count_handlers B.no_except c = none
  count_handlers {profile} (B.except_clause {matched = matched} {name = name} {xs = xs} {ys = ys} {body = body} {hs = hs} b
      e) (a_line {z = z} h c) =
      many (h.before ⊕ (count_body b z _ h.suite (front xs ys c) ⊕ (one ⊕ count_handlers e (back xs ys c))))
      (handler_count profile matched name body hs)

  count_cases : {profile : Profile} {l : ℕ} {xs : List Line} {cs : List Case} {zs : List LinePlaces} (e : B.Cases l xs cs)
      → LinesCounted profile xs zs → Many (cases_places zs e) (marked_rows (shown_cases profile (cases cs)))
  count_cases B.no_case c = none
  count_cases {profile} (B.case_clause {pattern = pattern} {guard = guard} {xs = xs} {ys = ys} {body = body} {cs = cs} b
      e) (a_line {z = z} h c) =
      many (h.before ⊕ (count_body b z _ h.suite (front xs ys c) ⊕ count_cases e (back xs ys c)))
      (case_count profile pattern guard body cs)

  count_ending : {profile : Profile} {l : ℕ} {xs : List Line} {ss : List Stmt} {zs : List LinePlaces} (f : B.Ending l xs ss)
      → LinesCounted profile xs zs → Many (ending_places zs f) (rows profile ss)
  count_ending B.no_finally c = none
  count_ending (B.finally_clause b) (a_line {z = z} h c) = count_body b z _ h.suite c

-- ---- Accepted sources.

span_count : {n : ℕ} {ps : List Stretch} (ss : List Span) → Many ps n → Many (spans_of ss ps) n
span_count {ps = ps} ss p = record { is = length-map ps (span_of ss) ∙ p.is }

pub count_formed : {profile : Profile} {earlier : List Line} {xs : List Tokens.Line} {ys : List Line} (spans : Tokens.Line → List Span)
    (f : Formed profile earlier xs ys) → LinesCounted profile ys (formed_places spans f)
count_formed spans formed_end = no_line
count_formed spans (formed_line {x = x} h r) =
    let k = count_form h.is in
    a_line (record {
      before = span_count (spans x) k.before;
      following = span_count (spans x) k.following;
      suite = span_count (spans x) k.suite;
    }) (count_formed spans r)

pub count_module : {profile : Profile} {s : Source} {m : Module} (spans : Tokens.Line → List Span) (a : Accepted profile s m)
    → length (module_places spans a) ≡ marked (shown_module profile m)
count_module spans a = (many (count_block a.block (count_formed spans a.formed)) (omega arith)).is
