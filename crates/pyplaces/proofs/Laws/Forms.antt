-- Count: as many places in each run of a line as nodes of its form that have one.
--
-- On: Many, Contexts, Entries, Expressions, Patterns.
use Rattle.std.proofs.Common.{◌≡◌, refl, sym, ap, ℕ, ◌+◌, arith, List, [], ◌∷◌, ◌++◌, Option, Some, None, Bool, true, false, length}
use Rattle.std.proofs.Common.{codes, if◌then◌else◌}
use Rattle.pytree_node.specs.declared.profiles.Profile.{Profile}
use Rattle.pytree_node.specs.Profiles.{has_types}
use Rattle.pytree_node.specs.declared.operators.Context.TheVariants.{Load}
use Rattle.pytree_node.specs.Trees
use Rattle.pytree_node.specs.Trees.{Expr, Exprs, Keywords, Stmt, Alias, Item, TypeParam, exprs, stmts}
use Rattle.pytree_dump_text.specs.Shows.{Row, a_field, no_field, shown, shown_exprs, shown_keywords, shown_arguments}
use Rattle.pytree_dump_text.specs.Shows.{shown_alias, shown_aliases, shown_item, shown_items, shown_flag, shown_pattern}
use Rattle.pytree_dump_text.specs.Shows.{shown_stmt}
use Rattle.pytree_dump_text.specs.Shows.{shown_stmts, shown_type_param, shown_type_params, type_params_field}
use Rattle.pytree_marked.specs.MarkedNodes.{marked, marked_fields, marked_rows}
use Rattle.pytree_marked.specs.MarkedOptions.{marked_option}
use Rattle.pytree_marked.proofs.Callers.Sums.{operator_none, names_none, name_sum, option_sum}
use Rattle.pytoken.specs.Terminals.{Terminal}
use Rattle.pygrammar.specs.declared.levels.Level.{Level}
use Rattle.pygrammar.specs.Arguments as arguments
use Rattle.pygrammar.specs.Lines.{Form, simple_form, decorator_form, header_form, Header, if_header, elif_header, else_header, loop_header}
use Rattle.pygrammar.specs.Lines.{with_header, try_header, except_header, finally_header, def_header, match_header, case_header, while_head}
use Rattle.pygrammar.specs.Lines.{for_head, function_head, class_head}
use Rattle.pygrammar.specs.Grammar as G
use Rattle.pygrammar.specs.Forms as F
use Rattle.pyplaces.specs.Stretches.{Stretch}
use Rattle.pyplaces.specs.ExpressionPlaces.{target_places, single_target_places, del_target_places, item_target_places}
use Rattle.pyplaces.specs.FormPlaces.{commas_places, ended_places, perhaps_places, after_places, type_param_places, type_params_places}
use Rattle.pyplaces.specs.FormPlaces.{dotted_alias_places, name_alias_places, names_places, targets_places, field_places, simple_places}
use Rattle.pyplaces.specs.FormPlaces.{simples_places, item_places, items_places, bases_places, FormPlaces, header_places, case_places}
use Rattle.pyplaces.specs.FormPlaces.{line_places, places_at}
use Rattle.pyplaces.proofs.Laws.Many.{Many, many, none, one, ◌⊕◌}
use Rattle.pyplaces.proofs.Laws.Contexts.{stored_count, single_count, deleted_count}
use Rattle.pyplaces.proofs.Laws.Entries.{positional_count, keywords_count, arguments_count}
use Rattle.pyplaces.proofs.Laws.Expressions.{count_expr, count_listing}
use Rattle.pyplaces.proofs.Laws.Patterns.{count_pattern}

-- ---- Parts.

-- X,.. with the count of an X
count_commas : (A : Type 0) (X : List Terminal → A → Type 0) (ps : (ts : List Terminal) (a : A) → ℕ → X ts a → List Stretch)
    (count : A → ℕ) (counts : List A → ℕ) → counts [] ≡ 0 → ((a : A) (as_ : List A) → counts (a ∷ as_) ≡ count a + counts as_)
    → ((ts : List Terminal) (a : A) (at : ℕ) (x : X ts a) → Many (ps ts a at x) (count a))
    → {ts : List Terminal} {as_ : List A} (at : ℕ) (d : F.Commas A X ts as_) → Many (commas_places A X ps at d) (counts as_)
count_commas A X ps count counts empty first each at (F.alone {ts = ts} {a = a} p) =
    many (each ts a at p) (omega (arith, empty, first a []))
count_commas A X ps count counts empty first each at (F.comma {ts = ts} {a = a} {as_ = as_} p c) =
    many (each ts a at p ⊕ count_commas A X ps count counts empty first each (1 + (at + length ts)) c) (sym (first a as_))

count_ended : (A : Type 0) (X : List Terminal → A → Type 0) (ps : (ts : List Terminal) (a : A) → ℕ → X ts a → List Stretch)
    (count : A → ℕ) (counts : List A → ℕ) → counts [] ≡ 0 → ((a : A) (as_ : List A) → counts (a ∷ as_) ≡ count a + counts as_)
    → ((ts : List Terminal) (a : A) (at : ℕ) (x : X ts a) → Many (ps ts a at x) (count a))
    → {ts : List Terminal} {as_ : List A} (at : ℕ) (d : F.Commas? A X ts as_) → Many (ended_places A X ps at d) (counts as_)
count_ended A X ps count counts empty first each at (F.ends_bare c) = count_commas A X ps count counts empty first each at c
count_ended A X ps count counts empty first each at (F.ends_comma c) = count_commas A X ps count counts empty first each at c

count_perhaps : {l : Level} {ts : List Terminal} {e : Option Expr} (at : ℕ) (d : F.Perhaps l ts e)
    → Many (perhaps_places at d) (marked_option e)
count_perhaps at F.left_out = none
count_perhaps at (F.given p) = count_expr at p

count_after : {t : Terminal} {l : Level} {ts : List Terminal} {e : Option Expr} (at : ℕ) (d : F.Following t l ts e)
    → Many (after_places at d) (marked_option e)
count_after at F.none_after = none
count_after at (F.following p) = count_expr (1 + at) p

count_type_param : {ts : List Terminal} {p : TypeParam} (at : ℕ) (d : F.TypeParamOf ts p)
    → Many (type_param_places at d) (marked (shown_type_param p))
count_type_param at (F.type_var {bound = bound} b) =
    many (count_after (1 + at) b ⊕ one) (omega (arith, option_sum (codes "bound") bound no_field))
count_type_param at F.type_var_tuple = many one (omega arith)
count_type_param at F.param_spec = many one (omega arith)

count_type_params : {profile : Profile} {ts : List Terminal} {ps : List TypeParam} (at : ℕ) (d : F.TypeParams profile ts ps)
    → Many (type_params_places at d) (marked_rows (shown_type_params ps))
count_type_params at F.no_type_params = none
count_type_params at (F.type_params h c) =
    count_ended TypeParam F.TypeParamOf (λ ts a. type_param_places) (λ p. marked (shown_type_param p))
    (λ ps. marked_rows (shown_type_params ps)) refl (λ p ps. refl) (λ ts a at d. count_type_param at d) (1 + at) c

-- where they aren't shown there are none
no_params_field : (b : Bool)
    → marked_fields (if b then a_field (codes "type_params") (Row (shown_type_params [])) no_field else no_field) ≡ 0
no_params_field true = refl
no_params_field false = refl

some_params_field : (b : Bool) (ps : List TypeParam) → b ≡ true
    → marked_fields (if b then a_field (codes "type_params") (Row (shown_type_params ps)) no_field else no_field)
    ≡ marked_rows (shown_type_params ps)
some_params_field true ps h = omega arith
some_params_field false ps h = absurd (cc)

params_field : {profile : Profile} {ts : List Terminal} {ps : List TypeParam} → F.TypeParams profile ts ps
    → marked_fields (type_params_field profile ps) ≡ marked_rows (shown_type_params ps)
params_field {profile} F.no_type_params = no_params_field (has_types profile)
params_field {profile} {ps = ps} (F.type_params h c) = some_params_field (has_types profile) ps h

count_dotted_alias : {ts : List Terminal} {a : Alias} (at : ℕ) (d : F.DottedAlias ts a)
    → Many (dotted_alias_places at d) (marked (shown_alias a))
count_dotted_alias at (F.dotted_as {a = name} d a) = many one (omega (arith, name_sum (codes "asname") name no_field))

count_name_alias : {ts : List Terminal} {a : Alias} (at : ℕ) (d : F.NameAlias ts a) → Many (name_alias_places at d) (marked (shown_alias a))
count_name_alias at (F.name_as {a = name} a) = many one (omega (arith, name_sum (codes "asname") name no_field))

count_names : {ts : List Terminal} {as_ : List Alias} (at : ℕ) (d : F.Names ts as_)
    → Many (names_places at d) (marked_rows (shown_aliases as_))
count_names at F.all_names = many one (omega arith)
count_names at (F.names c) =
    count_commas Alias F.NameAlias (λ ts a. name_alias_places) (λ a. marked (shown_alias a)) (λ as_. marked_rows (shown_aliases as_)) refl
    (λ a as_. refl) (λ ts a at d. count_name_alias at d) at c
count_names at (F.bracketed_names c) =
    count_ended Alias F.NameAlias (λ ts a. name_alias_places) (λ a. marked (shown_alias a)) (λ as_. marked_rows (shown_aliases as_)) refl
    (λ a as_. refl) (λ ts a at d. count_name_alias at d) (1 + at) c

-- ---- Targets.

count_target : {ts : List Terminal} {e : Expr} (at : ℕ) (d : G.Target ts e) → Many (target_places at d) (marked (shown e))
count_target at (G.target {e = e} {s = s} p h) = many (count_expr at p) (sym (stored_count e s h))

count_single_target : {ts : List Terminal} {e : Expr} (at : ℕ) (d : G.SingleTarget ts e)
    → Many (single_target_places at d) (marked (shown e))
count_single_target at (G.single_target {e = e} {s = s} p h) = many (count_expr at p) (sym (single_count e s h))

count_del_target : {ts : List Terminal} {e : Expr} (at : ℕ) (d : G.DelTarget ts e) → Many (del_target_places at d) (marked (shown e))
count_del_target at (G.del_target {e = e} {s = s} p h) = many (count_expr at p) (sym (deleted_count e s h))

count_item_target : {ts : List Terminal} {e : Expr} (at : ℕ) (d : G.ItemTarget ts e) → Many (item_target_places at d) (marked (shown e))
count_item_target at (G.item_target {e = e} {s = s} p h) = many (count_expr at p) (sym (stored_count e s h))
count_item_target at (G.star_target {e = e} {s = s} p h) =
    many (count_expr (1 + at) p ⊕ one) (omega (arith, stored_count (Trees.Starred e Load) s h))

count_targets : {ts : List Terminal} {es : List Expr} (at : ℕ) (d : F.Targets ts es)
    → Many (targets_places at d) (marked_rows (shown_exprs (exprs es)))
count_targets at (F.last_target t) = many (count_target at t) (omega arith)
count_targets at (F.more_targets {ts = ts} t c) = count_target at t ⊕ count_targets (1 + (at + length ts)) c

-- ---- Simple statements.

simple_count : {profile : Profile} {ts : List Terminal} {s : Stmt} (own : Stretch) (at : ℕ) (d : F.Simple profile ts s)
    → Many (field_places at d ++ (own ∷ [])) (marked (shown_stmt profile s))
simple_count own at (F.value p) = many (count_expr at p ⊕ one) (omega arith)
simple_count own at (F.assign {ts = ts} t p) = many ((count_targets at t ⊕ count_expr (at + length ts) p) ⊕ one) (omega arith)
simple_count own at (F.augmented_assign {ts = ts} x {o = o} t h p) =
    many ((count_single_target at t ⊕ count_expr (1 + (at + length ts)) p) ⊕ one) (omega (arith, operator_none o))
simple_count own at (F.annotated_name {ts = ts} {v = v} p w) =
    many ((one ⊕ (count_expr (2 + at) p ⊕ count_after (2 + (at + length ts)) w)) ⊕ one)
    (omega (arith, option_sum (codes "value") v (a_field (codes "simple") (shown_flag true) no_field)))
simple_count own at (F.annotated_group {ts = ts} {us = us} {v = v} t p w) =
    many ((count_single_target (1 + at) t ⊕ (count_expr (3 + (at + length ts)) p ⊕ count_after (3 + (at + (length ts + length us))) w)) ⊕
    one)
    (omega (arith, option_sum (codes "value") v (a_field (codes "simple") (shown_flag false) no_field)))
simple_count own at (F.annotated_part {ts = ts} {us = us} {v = v} t h p w) =
    many ((count_single_target at t ⊕ (count_expr (1 + (at + length ts)) p ⊕ count_after (1 + (at + (length ts + length us))) w)) ⊕ one)
    (omega (arith, option_sum (codes "value") v (a_field (codes "simple") (shown_flag false) no_field)))
simple_count own at (F.type_alias {ts = ts} h c p) =
    many ((one ⊕ (count_type_params (2 + at) c ⊕ count_expr (3 + (at + length ts)) p)) ⊕ one) (omega arith)
simple_count own at (F.return_of {e = e} p) = many (count_perhaps (1 + at) p ⊕ one) (omega (arith, option_sum (codes "value") e no_field))
simple_count own at F.raise_alone = many one (omega arith)
simple_count own at (F.raise_of {ts = ts} {c = cause} p c) =
    many ((count_expr (1 + at) p ⊕ count_after (1 + (at + length ts)) c) ⊕ one) (omega (arith, option_sum (codes "cause") cause no_field))
simple_count own at (F.assert_of {ts = ts} {m = m} p c) =
    many ((count_expr (1 + at) p ⊕ count_after (1 + (at + length ts)) c) ⊕ one) (omega (arith, option_sum (codes "msg") m no_field))
simple_count own at (F.delete c) =
    many (count_ended Expr G.DelTarget (λ ts a. del_target_places) (λ e. marked (shown e)) (λ es. marked_rows (shown_exprs (exprs es))) refl
    (λ e es. refl) (λ ts a at d. count_del_target at d) (1 + at) c ⊕ one) (omega arith)
simple_count own at (F.global {xs = xs} c) = many one (omega (arith, names_none xs))
simple_count own at (F.nonlocal {xs = xs} c) = many one (omega (arith, names_none xs))
simple_count own at F.pass = many one (omega arith)
simple_count own at F.break = many one (omega arith)
simple_count own at F.continue = many one (omega arith)
simple_count own at (F.import_names c) =
    many (count_commas Alias F.DottedAlias (λ ts a. dotted_alias_places) (λ a. marked (shown_alias a))
    (λ as_. marked_rows (shown_aliases as_)) refl (λ a as_. refl) (λ ts a at d. count_dotted_alias at d) (1 + at) c ⊕ one) (omega arith)
simple_count own at (F.from_module {ts = ts} {us = us} d m c) =
    many (count_names (2 + (at + (length ts + length us))) c ⊕ one) (omega arith)
simple_count own at (F.from_dots {ts = ts} d h c) = many (count_names (2 + (at + length ts)) c ⊕ one) (omega arith)

pub count_simple : {profile : Profile} {ts : List Terminal} {s : Stmt} (at : ℕ) (d : F.Simple profile ts s)
    → Many (simple_places at d) (marked (shown_stmt profile s))
count_simple at d = simple_count _ at d

pub count_simples : {profile : Profile} {ts : List Terminal} {ss : List Stmt} (at : ℕ) (d : F.Simples profile ts ss)
    → Many (simples_places at d) (marked_rows (shown_stmts profile (stmts ss)))
count_simples at (F.last_simple p) = many (count_simple at p) (omega arith)
count_simples at (F.ended_simple p) = many (count_simple at p) (omega arith)
count_simples at (F.more_simples {ts = ts} p c) = count_simple at p ⊕ count_simples (1 + (at + length ts)) c

-- ---- Headers.

-- in a header's parts before the body of its statement, and in those after it
abbrev pub before_count : Header → ℕ
before_count (if_header e) = marked (shown e)
before_count (elif_header e) = marked (shown e)
before_count else_header = 0
before_count (loop_header (while_head e)) = marked (shown e)
before_count (loop_header (for_head is_async t e)) = marked (shown t) + marked (shown e)
before_count (with_header is_async is) = marked_rows (shown_items is)
before_count try_header = 0
before_count (except_header star e x) = marked_option e
before_count finally_header = 0
before_count (def_header (function_head is_async x ps a r)) = marked (shown_arguments a)
before_count (def_header (class_head x ps es ks)) = marked_rows (shown_exprs (exprs es)) + marked_rows (shown_keywords ks)
before_count (match_header e) = marked (shown e)
before_count (case_header p g) = marked (shown_pattern p) + marked_option g

abbrev pub after_count : Profile → Header → ℕ
after_count profile (def_header (function_head is_async x ps a r)) = marked_option r + marked_fields (type_params_field profile ps)
after_count profile (def_header (class_head x ps es ks)) = marked_fields (type_params_field profile ps)
after_count profile _ = 0

count_item : {ts : List Terminal} {i : Item} (at : ℕ) (d : F.ItemOf ts i) → Many (item_places at d) (marked (shown_item i))
count_item at (F.bare_item p) = many (count_expr at p) (omega arith)
count_item at (F.item_as {ts = ts} p t) = many (count_expr at p ⊕ count_item_target (1 + (at + length ts)) t) (omega arith)

count_items : {ts : List Terminal} {is : List Item} (at : ℕ) (d : F.Items ts is) → Many (items_places at d) (marked_rows (shown_items is))
count_items at (F.in_brackets (F.bracketed c)) =
    count_ended Item F.ItemOf (λ ts a. item_places) (λ i. marked (shown_item i)) (λ is. marked_rows (shown_items is)) refl (λ i is. refl)
    (λ ts a at d. count_item at d) (1 + at) c
count_items at (F.without c h) =
    count_commas Item F.ItemOf (λ ts a. item_places) (λ i. marked (shown_item i)) (λ is. marked_rows (shown_items is)) refl (λ i is. refl)
    (λ ts a at d. count_item at d) at c

listed_is : (es : Exprs) → exprs (F.listed es) ≡ es
listed_is Trees.no_exprs = refl
listed_is (Trees.an_expr e es) = ap (Trees.an_expr e) (listed_is es)

count_bases : {ts : List Terminal} {es : List Expr} {ks : Keywords} (at : ℕ) (d : F.Bases ts es ks)
    → Many (bases_places at d) (marked_rows (shown_exprs (exprs es)) + marked_rows (shown_keywords ks))
count_bases at F.no_bases = none
count_bases at (F.bases {es = es} c h) =
    let c1 = count_listing (1 + at) c in
    many (positional_count c1 ⊕ keywords_count c1)
    (ap (λ xs. marked_rows (shown_exprs xs) + marked_rows (shown_keywords (arguments.keywords es)))
    (sym (listed_is (arguments.positional es))))

-- the runs of a header
pub record HeaderCounted (profile : Profile) (h : Header) (p : FormPlaces) : Type 0 where
  pub before : Many p.before (before_count h)
  pub following : Many p.following (after_count profile h)

header_counted : {profile : Profile} {h : Header} {p : FormPlaces} → Many p.before (before_count h) → Many p.following (after_count profile h)
    → HeaderCounted profile h p
header_counted b e = record { before = b; following = e }

count_header : {profile : Profile} {ts : List Terminal} {h : Header} (at : ℕ) (d : F.HeaderOf profile ts h)
    → HeaderCounted profile h (header_places at d)
count_header at (F.if_line p) = header_counted (count_expr (1 + at) p) none
count_header at (F.elif_line p) = header_counted (count_expr (1 + at) p) none
count_header at F.else_line = header_counted none none
count_header at (F.while_line p) = header_counted (count_expr (1 + at) p) none
count_header at (F.for_line {ts = ts} {us = us} a t p) =
    header_counted (count_target (1 + (at + length ts)) t ⊕ count_expr (2 + (at + (length ts + length us))) p) none
count_header at (F.with_line {ts = ts} a i) = header_counted (count_items (1 + (at + length ts)) i) none
count_header at F.try_line = header_counted none none
count_header at F.finally_line = header_counted none none
count_header at F.except_all = header_counted none none
count_header at (F.except_line p a) = header_counted (count_expr (1 + at) p) none
count_header at (F.except_star p a) = header_counted (count_expr (2 + at) p) none
count_header at (F.def_line {ts = ts} {us = us} {vs = vs} x a c ps h r) =
    header_counted (arguments_count (count_listing (3 + (at + (length ts + length us))) ps) h)
    (count_after (4 + (at + (length ts + (length us + length vs)))) r ⊕ many (count_type_params (2 + (at + length ts)) c)
    (sym (params_field c)))
count_header at (F.class_line {ts = ts} c b) =
    header_counted (count_bases (2 + (at + length ts)) b) (many (count_type_params (2 + at) c) (sym (params_field c)))

count_case : {profile : Profile} {ts : List Terminal} {h : Header} (at : ℕ) (d : F.CaseOf ts h) → HeaderCounted profile h (case_places at d)
count_case at (F.case_line {ts = ts} form p g) = header_counted (count_pattern (1 + at) p ⊕ count_after (1 + (at + length ts)) g) none

-- ---- Lines.

abbrev pub suite_count : Profile → Option (List Stmt) → ℕ
suite_count profile None = 0
suite_count profile (Some ss) = marked_rows (shown_stmts profile (stmts ss))

-- in the runs of a line
abbrev pub line_before : Form → ℕ
line_before (simple_form ss) = 0
line_before (decorator_form e) = marked (shown e)
line_before (header_form h suite) = before_count h

abbrev pub line_following : Profile → Form → ℕ
line_following profile (simple_form ss) = 0
line_following profile (decorator_form e) = 0
line_following profile (header_form h suite) = after_count profile h

abbrev pub line_suite : Profile → Form → ℕ
line_suite profile (simple_form ss) = marked_rows (shown_stmts profile (stmts ss))
line_suite profile (decorator_form e) = 0
line_suite profile (header_form h suite) = suite_count profile suite

pub record FormCounted (profile : Profile) (f : Form) (p : FormPlaces) : Type 0 where
  pub before : Many p.before (line_before f)
  pub following : Many p.following (line_following profile f)
  pub suite : Many p.suite (line_suite profile f)

form_counted : {profile : Profile} {f : Form} {p : FormPlaces} → Many p.before (line_before f) → Many p.following (line_following profile f)
    → Many p.suite (line_suite profile f) → FormCounted profile f p
form_counted b e s = record { before = b; following = e; suite = s }

-- a header alone has no statements in its line
alone_suite : {profile : Profile} {ts : List Terminal} {h : Header} (at : ℕ) (d : F.HeaderOf profile ts h)
    → Many (header_places at d).suite 0
alone_suite at (F.if_line p) = none
alone_suite at (F.elif_line p) = none
alone_suite at F.else_line = none
alone_suite at (F.while_line p) = none
alone_suite at (F.for_line a t p) = none
alone_suite at (F.with_line a i) = none
alone_suite at F.try_line = none
alone_suite at F.finally_line = none
alone_suite at F.except_all = none
alone_suite at (F.except_line p a) = none
alone_suite at (F.except_star p a) = none
alone_suite at (F.def_line x a c ps h r) = none
alone_suite at (F.class_line c b) = none

case_suite : {ts : List Terminal} {h : Header} (at : ℕ) (d : F.CaseOf ts h) → Many (case_places at d).suite 0
case_suite at (F.case_line form p g) = none

count_line : {profile : Profile} {ts : List Terminal} {f : Form} (d : F.FormOf profile ts f) → FormCounted profile f (line_places d)
count_line (F.simple_statements c) = form_counted none none (count_simples 0 c)
count_line (F.decorator_line p) = form_counted (count_expr 1 p) none none
count_line (F.header_line h) = let k = count_header 0 h in form_counted k.before k.following (alone_suite 0 h)
count_line (F.header_suite {ts = ts} h c) = let k = count_header 0 h in form_counted k.before k.following (count_simples (1 + length ts) c)
count_line (F.match_line form h p) = form_counted (count_expr 1 p) none none

pub count_form : {profile : Profile} {inside : Bool} {ts : List Terminal} {f : Form} (d : F.FormAt profile inside ts f)
    → FormCounted profile f (places_at d)
count_form (F.other_line h f) = count_line f
count_form {profile} (F.case_alone h c) =
    let k = count_case {profile = profile} 0 c in form_counted k.before k.following (case_suite 0 c)
count_form {profile} (F.case_suite {ts = ts} h c s) =
    let k = count_case {profile = profile} 0 c in form_counted k.before k.following (count_simples (1 + length ts) s)
