-- The places of the form of a line, by recursion on its derivation.
use Rattle.std.specs.Prelude.{ℕ, ◌+◌, Bool, Option, List, [], ◌++◌, length}
use Rattle.pytree_node.specs.declared.profiles.Profile.{Profile}
use Rattle.pygrammar.specs.declared.levels.Level.{Level}
use Rattle.pytree_node.specs.Trees.{Expr, Keywords, Stmt, Alias, Item, TypeParam}
use Rattle.pytoken.specs.Terminals.{Terminal}
use Rattle.pygrammar.specs.Forms as F
use Rattle.pygrammar.specs.Grammar as G
use Rattle.pygrammar.specs.Lines.{Form, Header}
use Rattle.pyplaces.specs.Stretches.{Stretch, over}
use Rattle.pyplaces.specs.EntryPlaces as E
use Rattle.pyplaces.specs.ExpressionPlaces.{places, listing_places, target_places, single_target_places, del_target_places}
use Rattle.pyplaces.specs.ExpressionPlaces.{item_target_places}
use Rattle.pyplaces.specs.PatternPlaces.{pattern_places}

-- ---- Parts.

-- X,.. with the places of an X
abbrev pub commas_places : (A : Type 0) (X : List Terminal → A → Type 0) → ((ts : List Terminal) (a : A) → ℕ → X ts a → List Stretch)
    → {ts : List Terminal} {as_ : List A} → ℕ → F.Commas A X ts as_ → List Stretch
commas_places A X one at (F.alone {ts = ts} {a = a} p) = one ts a at p
commas_places A X one at (F.comma {ts = ts} {a = a} p c) = one ts a at p ++ commas_places A X one (1 + (at + length ts)) c

abbrev pub ended_places : (A : Type 0) (X : List Terminal → A → Type 0) → ((ts : List Terminal) (a : A) → ℕ → X ts a → List Stretch)
    → {ts : List Terminal} {as_ : List A} → ℕ → F.Commas? A X ts as_ → List Stretch
ended_places A X one at (F.ends_bare c) = commas_places A X one at c
ended_places A X one at (F.ends_comma c) = commas_places A X one at c

abbrev pub perhaps_places : {l : Level} {ts : List Terminal} {e : Option Expr} → ℕ → F.Perhaps l ts e → List Stretch
perhaps_places at F.left_out = []
perhaps_places at (F.given p) = places at p

abbrev pub after_places : {t : Terminal} {l : Level} {ts : List Terminal} {e : Option Expr} → ℕ → F.Following t l ts e → List Stretch
after_places at F.none_after = []
after_places at (F.following p) = places (1 + at) p

abbrev pub type_param_places : {ts : List Terminal} {p : TypeParam} → ℕ → F.TypeParamOf ts p → List Stretch
type_param_places at (F.type_var {ts = ts} b) = after_places (1 + at) b ++ over at (1 + length ts)
type_param_places at F.type_var_tuple = over at 2
type_param_places at F.param_spec = over at 2

abbrev pub type_params_places : {profile : Profile} {ts : List Terminal} {ps : List TypeParam} → ℕ
    → F.TypeParams profile ts ps → List Stretch
type_params_places at F.no_type_params = []
type_params_places at (F.type_params h c) = ended_places TypeParam F.TypeParamOf (λ ts a. type_param_places) (1 + at) c

-- an alias is all its tokens
abbrev pub dotted_alias_places : {ts : List Terminal} {a : Alias} → ℕ → F.DottedAlias ts a → List Stretch
dotted_alias_places at (F.dotted_as {ts = ts} {us = us} d a) = over at (length ts + length us)

abbrev pub name_alias_places : {ts : List Terminal} {a : Alias} → ℕ → F.NameAlias ts a → List Stretch
name_alias_places at (F.name_as {us = us} a) = over at (1 + length us)

abbrev pub names_places : {ts : List Terminal} {as_ : List Alias} → ℕ → F.Names ts as_ → List Stretch
names_places at F.all_names = over at 1
names_places at (F.names c) = commas_places Alias F.NameAlias (λ ts a. name_alias_places) at c
names_places at (F.bracketed_names c) = ended_places Alias F.NameAlias (λ ts a. name_alias_places) (1 + at) c

abbrev pub targets_places : {ts : List Terminal} {es : List Expr} → ℕ → F.Targets ts es → List Stretch
targets_places at (F.last_target t) = target_places at t
targets_places at (F.more_targets {ts = ts} t c) = target_places at t ++ targets_places (1 + (at + length ts)) c

-- ---- Simple statements.

-- those of the fields of a statement
abbrev pub field_places : {profile : Profile} {ts : List Terminal} {s : Stmt} → ℕ → F.Simple profile ts s → List Stretch
field_places at (F.value p) = places at p
field_places at (F.assign {ts = ts} t p) = targets_places at t ++ places (at + length ts) p
field_places at (F.augmented_assign {ts = ts} x t h p) = single_target_places at t ++ places (1 + (at + length ts)) p
field_places at (F.annotated_name {ts = ts} p v) = over at 1 ++ (places (2 + at) p ++ after_places (2 + (at + length ts)) v)
field_places at (F.annotated_group {ts = ts} {us = us} t p v) =
    single_target_places (1 + at) t ++ (places (3 + (at + length ts)) p ++ after_places (3 + (at + (length ts + length us))) v)
field_places at (F.annotated_part {ts = ts} {us = us} t h p v) =
    single_target_places at t ++ (places (1 + (at + length ts)) p ++ after_places (1 + (at + (length ts + length us))) v)
-- name, type_params, value
field_places at (F.type_alias {ts = ts} h c p) = over (1 + at) 1 ++ (type_params_places (2 + at) c ++ places (3 + (at + length ts)) p)
field_places at (F.return_of p) = perhaps_places (1 + at) p
field_places at F.raise_alone = []
field_places at (F.raise_of {ts = ts} p c) = places (1 + at) p ++ after_places (1 + (at + length ts)) c
field_places at (F.assert_of {ts = ts} p c) = places (1 + at) p ++ after_places (1 + (at + length ts)) c
field_places at (F.delete c) = ended_places Expr G.DelTarget (λ ts a. del_target_places) (1 + at) c
field_places at (F.global c) = []
field_places at (F.nonlocal c) = []
field_places at F.pass = []
field_places at F.break = []
field_places at F.continue = []
field_places at (F.import_names c) = commas_places Alias F.DottedAlias (λ ts a. dotted_alias_places) (1 + at) c
field_places at (F.from_module {ts = ts} {us = us} d m c) = names_places (2 + (at + (length ts + length us))) c
field_places at (F.from_dots {ts = ts} d h c) = names_places (2 + (at + length ts)) c

abbrev pub simple_places : {profile : Profile} {ts : List Terminal} {s : Stmt} → ℕ → F.Simple profile ts s → List Stretch
simple_places {ts = ts} at p = field_places at p ++ over at (length ts)

-- a `;` is part of no statement
abbrev pub simples_places : {profile : Profile} {ts : List Terminal} {ss : List Stmt} → ℕ → F.Simples profile ts ss → List Stretch
simples_places at (F.last_simple p) = simple_places at p
simples_places at (F.ended_simple p) = simple_places at p
simples_places at (F.more_simples {ts = ts} p c) = simple_places at p ++ simples_places (1 + (at + length ts)) c

-- ---- Headers.

abbrev pub item_places : {ts : List Terminal} {i : Item} → ℕ → F.ItemOf ts i → List Stretch
item_places at (F.bare_item p) = places at p
item_places at (F.item_as {ts = ts} p t) = places at p ++ item_target_places (1 + (at + length ts)) t

abbrev pub items_places : {ts : List Terminal} {is : List Item} → ℕ → F.Items ts is → List Stretch
items_places at (F.in_brackets (F.bracketed c)) = ended_places Item F.ItemOf (λ ts a. item_places) (1 + at) c
items_places at (F.without c h) = commas_places Item F.ItemOf (λ ts a. item_places) at c

abbrev pub bases_places : {ts : List Terminal} {es : List Expr} {ks : Keywords} → ℕ → F.Bases ts es ks → List Stretch
bases_places at F.no_bases = []
bases_places at (F.bases c h) = let es = listing_places (1 + at) c in E.positional es ++ E.keywords es

-- What a line gives to its statement: the places of the fields before the body, of those after body and decorators, and of the statements
-- that
-- stand in the line.
pub record FormPlaces : Type 0 where
  pub before : List Stretch
  pub following : List Stretch
  pub suite : List Stretch

abbrev pub form_places : List Stretch → List Stretch → List Stretch → FormPlaces
form_places before following suite = record { before = before; following = following; suite = suite }

abbrev pub with_suite : List Stretch → FormPlaces → FormPlaces
with_suite ps f = form_places f.before f.following ps

abbrev pub plain_header : List Stretch → FormPlaces
plain_header ps = form_places ps [] []

abbrev pub header_places : {profile : Profile} {ts : List Terminal} {h : Header} → ℕ → F.HeaderOf profile ts h → FormPlaces
header_places at (F.if_line p) = plain_header (places (1 + at) p)
header_places at (F.elif_line p) = plain_header (places (1 + at) p)
header_places at F.else_line = plain_header []
header_places at (F.while_line p) = plain_header (places (1 + at) p)
header_places at (F.for_line {ts = ts} {us = us} a t p) =
    plain_header (target_places (1 + (at + length ts)) t ++ places (2 + (at + (length ts + length us))) p)
header_places at (F.with_line {ts = ts} a i) = plain_header (items_places (1 + (at + length ts)) i)
header_places at F.try_line = plain_header []
header_places at F.finally_line = plain_header []
header_places at F.except_all = plain_header []
header_places at (F.except_line p a) = plain_header (places (1 + at) p)
header_places at (F.except_star p a) = plain_header (places (2 + at) p)
-- args; returns, type_params
header_places at (F.def_line {ts = ts} {us = us} {vs = vs} x a c ps h r) =
    form_places (E.arranged (listing_places (3 + (at + (length ts + length us))) ps))
    (after_places (4 + (at + (length ts + (length us + length vs)))) r ++ type_params_places (2 + (at + length ts)) c) []
-- bases, keywords; type_params
header_places at (F.class_line {ts = ts} c b) = form_places (bases_places (2 + (at + length ts)) b) (type_params_places (2 + at) c) []

abbrev pub case_places : {ts : List Terminal} {h : Header} → ℕ → F.CaseOf ts h → FormPlaces
case_places at (F.case_line {ts = ts} form p g) = plain_header (pattern_places (1 + at) p ++ after_places (1 + (at + length ts)) g)

-- ---- Lines.

abbrev pub line_places : {profile : Profile} {ts : List Terminal} {f : Form} → F.FormOf profile ts f → FormPlaces
line_places (F.simple_statements c) = form_places [] [] (simples_places 0 c)
line_places (F.decorator_line p) = plain_header (places 1 p)
line_places (F.header_line h) = header_places 0 h
line_places (F.header_suite {ts = ts} h c) = with_suite (simples_places (1 + length ts) c) (header_places 0 h)
line_places (F.match_line form h p) = plain_header (places 1 p)

abbrev pub places_at : {profile : Profile} {inside : Bool} {ts : List Terminal} {f : Form} → F.FormAt profile inside ts f → FormPlaces
places_at (F.other_line h f) = line_places f
places_at (F.case_alone h c) = case_places 0 c
places_at (F.case_suite {ts = ts} h c s) = with_suite (simples_places (1 + length ts) s) (case_places 0 c)
