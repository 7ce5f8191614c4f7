-- The form of a line is plain where the constants among its terminals are.
--
-- Carries: is_header_plain, is_form_plain, plain_line, for Blocks, Law. On: Terminals, Entries,
-- Parameters, Expressions.
use Rattle.std.proofs.Common.{◌≡◌, refl, sym, ap, ◌∙◌, ℕ, Bool, true, false, ◌&&◌, List, [], ◌∷◌, Option, Some, None}
use Rattle.std.specs.List.{list_all}
use Rattle.std.proofs.Math.Bool.{and-true}
use Rattle.pylex_lexeme.specs.declared.kinds.Exact.TheVariants as Sign
use Rattle.pytree_node.specs.declared.profiles.Extent.TheVariants as extents
use Rattle.pytree_node.specs.declared.profiles.Profile.{Profile}
use Rattle.pytree_node.specs.declared.profiles.Version.{Version}
use Rattle.pytree_node.specs.Profiles.{python}
use Rattle.pygrammar.specs.declared.levels.Level.{Level}
use Rattle.pytree_node.specs.Trees.{Expr, Exprs, no_exprs, an_expr, exprs, Keywords, Identifier, Stmt, stmts, Alias, Item, TypeParam}
use Rattle.pytoken.specs.Terminals.{Terminal}
use Rattle.pygrammar.specs.Arguments.{positional, keywords}
use Rattle.pygrammar.specs.Lines.{Form, simple_form, decorator_form, header_form, Header, if_header, elif_header, else_header, loop_header}
use Rattle.pygrammar.specs.Lines.{with_header, try_header, except_header, finally_header, def_header, match_header, case_header, LoopHead}
use Rattle.pygrammar.specs.Lines.{while_head, for_head, DefHead, function_head, class_head}
use Rattle.pygrammar.specs.Grammar.{DelTarget}
use Rattle.pygrammar.specs.Forms as F
use Rattle.pygrammar.specs.Extents.{is_plain, are_plain, are_keywords_plain, are_arguments_plain, all_plain, is_perhaps_plain}
use Rattle.pygrammar.specs.Extents.{is_item_plain, is_type_param_plain, is_statement_plain, are_statements_plain}
use Rattle.pygrammar.proofs.Plain.Terminals.{is_terminal_plain, Plainness, none, same, alone, front, sign, word, ident, both, ended}
use Rattle.pygrammar.proofs.Plain.Entries.{arguments_plain}
use Rattle.pygrammar.proofs.Plain.Parameters.{arranged_plain}
use Rattle.pygrammar.proofs.Plain.Expressions.{plain, plain_listing, plain_target, plain_single_target, plain_del_target, plain_item_target}

-- ---- Plain forms.

abbrev pub is_loop_plain : LoopHead → Bool
is_loop_plain (while_head test) = is_plain test
is_loop_plain (for_head is_async target iter) = is_plain target && is_plain iter

abbrev pub is_definition_plain : DefHead → Bool
is_definition_plain (function_head is_async name parameters args returns) =
    list_all is_type_param_plain parameters && (are_arguments_plain args && is_perhaps_plain returns)
is_definition_plain (class_head name parameters bases keywords) =
    list_all is_type_param_plain parameters && (all_plain bases && are_keywords_plain keywords)

abbrev pub is_header_plain : Header → Bool
is_header_plain (if_header test) = is_plain test
is_header_plain (elif_header test) = is_plain test
is_header_plain else_header = true
is_header_plain (loop_header head) = is_loop_plain head
is_header_plain (with_header is_async items) = list_all is_item_plain items
is_header_plain try_header = true
is_header_plain (except_header star class name) = is_perhaps_plain class
is_header_plain finally_header = true
is_header_plain (def_header head) = is_definition_plain head
is_header_plain (match_header subject) = false
is_header_plain (case_header pattern guard) = false

abbrev pub is_form_plain : Form → Bool
is_form_plain (simple_form ss) = are_statements_plain (stmts ss)
is_form_plain (decorator_form e) = is_plain e
is_form_plain (header_form h None) = is_header_plain h
is_form_plain (header_form h (Some ss)) = is_header_plain h && are_statements_plain (stmts ss)

-- ---- Parts.

plain_perhaps : {l : Level} {ts : List Terminal} {e : Option Expr} → F.Perhaps l ts e → Plainness ts (is_perhaps_plain e)
plain_perhaps F.left_out = none
plain_perhaps (F.given p) = plain p

plain_after : {t : Terminal} {l : Level} {ts : List Terminal} {e : Option Expr} → is_terminal_plain t ≡ true → F.Following t l ts e
    → Plainness ts (is_perhaps_plain e)
plain_after h F.none_after = none
plain_after h (F.following p) = front h (plain p)

plain_as : {ts : List Terminal} {x : Option Identifier} → F.As ts x → Plainness ts true
plain_as F.no_as = none
plain_as F.as_name = word (ident none)

plain_async : {ts : List Terminal} {b : Bool} → F.Async ts b → Plainness ts true
plain_async F.no_async = none
plain_async F.async = word none

plain_name : (ts : List Terminal) (x : Identifier) → F.Name ts x → Plainness ts true
plain_name ts x F.name = ident none

-- lists with commas, of which each part is plain where its value passes a test
module _ (A : Type 0) (X : List Terminal → A → Type 0) (test : A → Bool) (each : (ts : List Terminal) (a : A) → X ts a
    → Plainness ts (test a)) where
  plain_commas : {ts : List Terminal} {as_ : List A} → F.Commas A X ts as_ → Plainness ts (list_all test as_)
  plain_commas (F.alone {a = a} p) = same (each _ _ p) (alone (test a))
  plain_commas (F.comma p c) = both (each _ _ p) (sign (plain_commas c))

  plain_commas? : {ts : List Terminal} {as_ : List A} → F.Commas? A X ts as_ → Plainness ts (list_all test as_)
  plain_commas? (F.ends_bare c) = plain_commas c
  plain_commas? (F.ends_comma c) = ended Sign.Comma (plain_commas c)

-- and of which no part has a constant
module _ (A : Type 0) (X : List Terminal → A → Type 0) (each : (ts : List Terminal) (a : A) → X ts a → Plainness ts true) where
  all_true : (as_ : List A) → list_all (λ _. true) as_ ≡ true
  all_true [] = refl
  all_true (a ∷ as_) = all_true as_

  no_constants : {ts : List Terminal} {as_ : List A} → F.Commas A X ts as_ → Plainness ts true
  no_constants {as_ = as_} c = same (plain_commas A X (λ _. true) each c) (all_true as_)

  no_constants? : {ts : List Terminal} {as_ : List A} → F.Commas? A X ts as_ → Plainness ts true
  no_constants? {as_ = as_} c = same (plain_commas? A X (λ _. true) each c) (all_true as_)

plain_type_param : (ts : List Terminal) (p : TypeParam) → F.TypeParamOf ts p → Plainness ts (is_type_param_plain p)
plain_type_param ts p (F.type_var k) = ident (plain_after refl k)
plain_type_param ts p F.type_var_tuple = sign (ident none)
plain_type_param ts p F.param_spec = sign (ident none)

plain_type_params : {profile : Profile} {ts : List Terminal} {ps : List TypeParam} → F.TypeParams profile ts ps
    → Plainness ts (list_all is_type_param_plain ps)
plain_type_params F.no_type_params = none
plain_type_params (F.type_params h c) =
    sign (ended Sign.RSqb (plain_commas? TypeParam F.TypeParamOf is_type_param_plain plain_type_param c))

-- ---- Imports.

plain_dotted : {ts : List Terminal} {x : Identifier} → F.Dotted ts x → Plainness ts true
plain_dotted F.one_name = ident none
plain_dotted (F.dot_name p) = ident (sign (plain_dotted p))

plain_dotted_alias : (ts : List Terminal) (a : Alias) → F.DottedAlias ts a → Plainness ts true
plain_dotted_alias ts a (F.dotted_as p q) = both (plain_dotted p) (plain_as q)

plain_name_alias : (ts : List Terminal) (a : Alias) → F.NameAlias ts a → Plainness ts true
plain_name_alias ts a (F.name_as q) = ident (plain_as q)

plain_dots : {ts : List Terminal} {n : ℕ} → F.Dots ts n → Plainness ts true
plain_dots F.no_dot = none
plain_dots (F.dot p) = sign (plain_dots p)
plain_dots (F.dots p) = sign (plain_dots p)

plain_names : {ts : List Terminal} {as_ : List Alias} → F.Names ts as_ → Plainness ts true
plain_names F.all_names = sign none
plain_names (F.names c) = no_constants Alias F.NameAlias plain_name_alias c
plain_names (F.bracketed_names c) = sign (ended Sign.RPar (no_constants? Alias F.NameAlias plain_name_alias c))

-- ---- Simple statements.

plain_targets : {ts : List Terminal} {es : List Expr} → F.Targets ts es → Plainness ts (all_plain es)
plain_targets (F.last_target {e = e} p) = same (ended Sign.Equal (plain_target p)) (alone (is_plain e))
plain_targets (F.more_targets p c) = both (plain_target p) (sign (plain_targets c))

listed_plain : (es : List Expr) → list_all is_plain es ≡ all_plain es
listed_plain [] = refl
listed_plain (e ∷ es) = ap (λ z. is_plain e && z) (listed_plain es)

plain_simple : {profile : Profile} {ts : List Terminal} {s : Stmt} → F.Simple profile ts s → Plainness ts (is_statement_plain s)
plain_simple (F.value p) = plain p
plain_simple (F.assign c p) = both (plain_targets c) (plain p)
plain_simple (F.augmented_assign x c h p) = both (plain_single_target c) (sign (plain p))
plain_simple (F.annotated_name p q) = ident (sign (both (plain p) (plain_after refl q)))
plain_simple (F.annotated_group c p q) = sign (both (plain_single_target c) (sign (sign (both (plain p) (plain_after refl q)))))
plain_simple (F.annotated_part c n p q) = both (plain_single_target c) (sign (both (plain p) (plain_after refl q)))
plain_simple (F.type_alias h c p) = ident (ident (both (plain_type_params c) (sign (plain p))))
plain_simple (F.return_of p) = word (plain_perhaps p)
plain_simple F.raise_alone = word none
plain_simple (F.raise_of p q) = word (both (plain p) (plain_after refl q))
plain_simple (F.assert_of p q) = word (both (plain p) (plain_after refl q))
plain_simple (F.delete {es = es} c) = word (same (plain_commas? Expr DelTarget is_plain (λ ts e p. plain_del_target p) c) (listed_plain es))
plain_simple (F.global c) = word (no_constants Identifier F.Name plain_name c)
plain_simple (F.nonlocal c) = word (no_constants Identifier F.Name plain_name c)
plain_simple F.pass = word none
plain_simple F.break = word none
plain_simple F.continue = word none
plain_simple (F.import_names c) = word (no_constants Alias F.DottedAlias plain_dotted_alias c)
plain_simple (F.from_module d p q) = word (both (plain_dots d) (both (plain_dotted p) (word (plain_names q))))
plain_simple (F.from_dots d h q) = word (both (plain_dots d) (word (plain_names q)))

plain_simples : {profile : Profile} {ts : List Terminal} {ss : List Stmt} → F.Simples profile ts ss
    → Plainness ts (are_statements_plain (stmts ss))
plain_simples (F.last_simple {s = s} p) = same (plain_simple p) (alone (is_statement_plain s))
plain_simples (F.ended_simple {s = s} p) = same (ended Sign.Semi (plain_simple p)) (alone (is_statement_plain s))
plain_simples (F.more_simples p c) = both (plain_simple p) (sign (plain_simples c))

-- ---- Headers.

plain_item : (ts : List Terminal) (i : Item) → F.ItemOf ts i → Plainness ts (is_item_plain i)
plain_item ts i (F.bare_item {e = e} p) = same (plain p) (alone (is_plain e))
plain_item ts i (F.item_as p q) = both (plain p) (word (plain_item_target q))

plain_items : {ts : List Terminal} {is : List Item} → F.Items ts is → Plainness ts (list_all is_item_plain is)
plain_items (F.in_brackets (F.bracketed c)) = sign (ended Sign.RPar (plain_commas? Item F.ItemOf is_item_plain plain_item c))
plain_items (F.without c n) = plain_commas Item F.ItemOf is_item_plain plain_item c

pub exprs_listed : (es : Exprs) → exprs (F.listed es) ≡ es
exprs_listed no_exprs = refl
exprs_listed (an_expr e es) = ap (λ z. an_expr e z) (exprs_listed es)

plain_bases : {ts : List Terminal} {es : List Expr} {ks : Keywords} → F.Bases ts es ks
    → Plainness ts (all_plain es && are_keywords_plain ks)
plain_bases F.no_bases = none
plain_bases (F.bases {es = es} c h) =
    sign (ended Sign.RPar (same (plain_listing c) (arguments_plain c ∙ ap (λ z. are_plain z && are_keywords_plain (keywords es))
    (sym (exprs_listed (positional es))))))

-- in the plain language
plain_header : {version : Version} {ts : List Terminal} {h : Header} → F.HeaderOf (python version extents.Plain) ts h
    → Plainness ts (is_header_plain h)
plain_header (F.if_line p) = word (plain p)
plain_header (F.elif_line p) = word (plain p)
plain_header F.else_line = word none
plain_header (F.while_line p) = word (plain p)
plain_header (F.for_line a c p) = both (plain_async a) (word (both (plain_target c) (word (plain p))))
plain_header (F.with_line a c) = both (plain_async a) (word (plain_items c))
plain_header F.try_line = word none
plain_header F.finally_line = word none
plain_header F.except_all = word none
plain_header (F.except_line {e = e} p a) = word (same (both (plain p) (plain_as a)) (and-true (is_plain e)))
plain_header (F.except_star {e = e} p a) = word (sign (same (both (plain p) (plain_as a)) (and-true (is_plain e))))
plain_header (F.def_line x {ps = ps} {a = a} y g c h r) =
    both (plain_async y)
    (word (ident (both (plain_type_params g)
    (sign (both (same (plain_listing c) (arranged_plain ps a h)) (sign (plain_after refl r)))))))
plain_header (F.class_line g c) = word (ident (both (plain_type_params g) (plain_bases c)))

plain_form : {version : Version} {ts : List Terminal} {f : Form} → F.FormOf (python version extents.Plain) ts f
    → Plainness ts (is_form_plain f)
plain_form (F.simple_statements c) = plain_simples c
plain_form (F.decorator_line p) = sign (plain p)
plain_form (F.header_line p) = ended Sign.Colon (plain_header p)
plain_form (F.header_suite p c) = both (plain_header p) (sign (plain_simples c))
plain_form (F.match_line form h p) = absurd cc

pub plain_line : {version : Version} {inside : Bool} {ts : List Terminal} {f : Form} → F.FormAt (python version extents.Plain) inside ts f
    → Plainness ts (is_form_plain f)
plain_line (F.other_line n p) = plain_form p
plain_line (F.case_alone h c) = absurd cc
plain_line (F.case_suite h c p) = absurd cc
