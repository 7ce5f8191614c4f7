-- Tokens: the places of a line begin and end at terminals of it.
--
-- On: Within, Tokens of expressions and of patterns.
use Rattle.std.proofs.Common.{ℕ, ◌+◌, ◌<◌, ◌≤◌, arith, List, [], ◌∷◌, Option, Bool, length, length-append}
use Rattle.pytree_node.specs.declared.profiles.Profile.{Profile}
use Rattle.pytree_node.specs.Trees.{Expr, Keywords, Identifier, Stmt, Alias, Item, TypeParam}
use Rattle.pylex_lexeme.specs.declared.kinds.Exact.TheVariants as Sign
use Rattle.pytoken.specs.Terminals.{Terminal, Op}
use Rattle.pygrammar.specs.declared.levels.Level.{Level}
use Rattle.pygrammar.specs.Lines.{Form, Header}
use Rattle.pygrammar.specs.Grammar as G
use Rattle.pygrammar.specs.Forms as F
use Rattle.pyplaces.specs.Stretches.{Stretch}
use Rattle.pyplaces.specs.ExpressionPlaces.{target_places, single_target_places, del_target_places, item_target_places}
use Rattle.pyplaces.specs.FormPlaces.{commas_places, ended_places, perhaps_places, after_places, type_param_places, type_params_places}
use Rattle.pyplaces.specs.FormPlaces.{dotted_alias_places, name_alias_places, names_places, targets_places, field_places, simple_places}
use Rattle.pyplaces.specs.FormPlaces.{simples_places, item_places, items_places, bases_places, FormPlaces, header_places, case_places}
use Rattle.pyplaces.specs.FormPlaces.{line_places, places_at}
use Rattle.pyplaces.proofs.Laws.Within.{Within, none, own, ◌⊕◌, positional_within, keywords_within, arranged_within}
use Rattle.pyplaces.proofs.Laws.Tokens.{tokens, tokens_listing, some_terminal, front_some}
use Rattle.pyplaces.proofs.Laws.PatternTokens.{tokens_pattern}

-- ---- Parts.

commas_tokens : (A : Type 0) (X : List Terminal → A → Type 0) (ps : (ts : List Terminal) (a : A) → ℕ → X ts a → List Stretch) {lo hi : ℕ}
    → ((ts : List Terminal) (a : A) (at : ℕ) (x : X ts a) → lo ≤ at → at + length ts ≤ hi → Within lo hi (ps ts a at x))
    → {ts : List Terminal} {as_ : List A} (at : ℕ) (d : F.Commas A X ts as_) → lo ≤ at → at + length ts ≤ hi
    → Within lo hi (commas_places A X ps at d)
commas_tokens A X ps each at (F.alone {ts = ts} {a = a} p) g h = each ts a at p g h
commas_tokens A X ps each at (F.comma {ts = ts} {a = a} p c) g h =
    let k = simp length-append at h in each ts a at p (omega arith) (omega arith) ⊕ commas_tokens A X ps each (1 + (at + length ts)) c
    (omega arith) (omega arith)

ended_tokens : (A : Type 0) (X : List Terminal → A → Type 0) (ps : (ts : List Terminal) (a : A) → ℕ → X ts a → List Stretch) {lo hi : ℕ}
    → ((ts : List Terminal) (a : A) (at : ℕ) (x : X ts a) → lo ≤ at → at + length ts ≤ hi → Within lo hi (ps ts a at x))
    → {ts : List Terminal} {as_ : List A} (at : ℕ) (d : F.Commas? A X ts as_) → lo ≤ at → at + length ts ≤ hi
    → Within lo hi (ended_places A X ps at d)
ended_tokens A X ps each at (F.ends_bare c) g h = commas_tokens A X ps each at c g h
ended_tokens A X ps each at (F.ends_comma c) g h = let k = simp length-append at h in
    commas_tokens A X ps each at c (omega arith) (omega arith)

tokens_perhaps : {lo hi : ℕ} {l : Level} {ts : List Terminal} {e : Option Expr} (at : ℕ) (d : F.Perhaps l ts e) → lo ≤ at
    → at + length ts ≤ hi → Within lo hi (perhaps_places at d)
tokens_perhaps at F.left_out g h = none
tokens_perhaps at (F.given p) g h = tokens at p g h

tokens_after : {lo hi : ℕ} {t : Terminal} {l : Level} {ts : List Terminal} {e : Option Expr} (at : ℕ) (d : F.Following t l ts e) → lo ≤ at
    → at + length ts ≤ hi → Within lo hi (after_places at d)
tokens_after at F.none_after g h = none
tokens_after at (F.following p) g h = tokens (1 + at) p (omega arith) (omega arith)

tokens_type_param : {lo hi : ℕ} {ts : List Terminal} {p : TypeParam} (at : ℕ) (d : F.TypeParamOf ts p) → lo ≤ at → at + length ts ≤ hi
    → Within lo hi (type_param_places at d)
tokens_type_param at (F.type_var b) g h = tokens_after (1 + at) b (omega arith) (omega arith) ⊕ own (omega arith)
    (omega arith) (omega arith)
tokens_type_param at F.type_var_tuple g h = own (omega arith) (omega arith) (omega arith)
tokens_type_param at F.param_spec g h = own (omega arith) (omega arith) (omega arith)

tokens_type_params : {lo hi : ℕ} {profile : Profile} {ts : List Terminal} {ps : List TypeParam} (at : ℕ) (d : F.TypeParams profile ts ps)
    → lo ≤ at → at + length ts ≤ hi → Within lo hi (type_params_places at d)
tokens_type_params at F.no_type_params g h = none
tokens_type_params at (F.type_params f c) g h =
    let k = simp length-append at h in ended_tokens TypeParam F.TypeParamOf (λ ts a. type_param_places)
    (λ ts a at d. tokens_type_param at d) (1 + at) c (omega arith) (omega arith)

pub dotted_some : {ts : List Terminal} {x : Identifier} → F.Dotted ts x → 0 < length ts
dotted_some F.one_name = omega arith
dotted_some (F.dot_name d) = omega arith

tokens_dotted_alias : {lo hi : ℕ} {ts : List Terminal} {a : Alias} (at : ℕ) (d : F.DottedAlias ts a) → lo ≤ at → at + length ts ≤ hi
    → Within lo hi (dotted_alias_places at d)
tokens_dotted_alias at (F.dotted_as d a) g h = let k = simp length-append at h in let some = dotted_some d in
    own (omega arith) (omega arith) (omega arith)

tokens_name_alias : {lo hi : ℕ} {ts : List Terminal} {a : Alias} (at : ℕ) (d : F.NameAlias ts a) → lo ≤ at → at + length ts ≤ hi
    → Within lo hi (name_alias_places at d)
tokens_name_alias at (F.name_as a) g h = own (omega arith) (omega arith) (omega arith)

tokens_names : {lo hi : ℕ} {ts : List Terminal} {as_ : List Alias} (at : ℕ) (d : F.Names ts as_) → lo ≤ at → at + length ts ≤ hi
    → Within lo hi (names_places at d)
tokens_names at F.all_names g h = own (omega arith) (omega arith) (omega arith)
tokens_names at (F.names c) g h = commas_tokens Alias F.NameAlias (λ ts a. name_alias_places) (λ ts a at d. tokens_name_alias at d) at c g h
tokens_names at (F.bracketed_names c) g h =
    let k = simp length-append at h in ended_tokens Alias F.NameAlias (λ ts a. name_alias_places) (λ ts a at d. tokens_name_alias at d)
    (1 + at) c (omega arith) (omega arith)

-- ---- Targets.

tokens_target : {lo hi : ℕ} {ts : List Terminal} {e : Expr} (at : ℕ) (d : G.Target ts e) → lo ≤ at → at + length ts ≤ hi
    → Within lo hi (target_places at d)
tokens_target at (G.target p f) g h = tokens at p g h

tokens_single_target : {lo hi : ℕ} {ts : List Terminal} {e : Expr} (at : ℕ) (d : G.SingleTarget ts e) → lo ≤ at → at + length ts ≤ hi
    → Within lo hi (single_target_places at d)
tokens_single_target at (G.single_target p f) g h = tokens at p g h

tokens_del_target : {lo hi : ℕ} {ts : List Terminal} {e : Expr} (at : ℕ) (d : G.DelTarget ts e) → lo ≤ at → at + length ts ≤ hi
    → Within lo hi (del_target_places at d)
tokens_del_target at (G.del_target p f) g h = tokens at p g h

tokens_item_target : {lo hi : ℕ} {ts : List Terminal} {e : Expr} (at : ℕ) (d : G.ItemTarget ts e) → lo ≤ at → at + length ts ≤ hi
    → Within lo hi (item_target_places at d)
tokens_item_target at (G.item_target p f) g h = tokens at p g h
tokens_item_target at (G.star_target p f) g h = tokens (1 + at) p (omega arith) (omega arith) ⊕ own (omega arith)
    (omega arith) (omega arith)

tokens_targets : {lo hi : ℕ} {ts : List Terminal} {es : List Expr} (at : ℕ) (d : F.Targets ts es) → lo ≤ at → at + length ts ≤ hi
    → Within lo hi (targets_places at d)
tokens_targets at (F.last_target t) g h = let k = simp length-append at h in tokens_target at t (omega arith) (omega arith)
tokens_targets at (F.more_targets {ts = ts} t c) g h = let k = simp length-append at h in
    tokens_target at t (omega arith) (omega arith) ⊕ tokens_targets (1 + (at + length ts)) c (omega arith) (omega arith)

-- ---- Simple statements.

target_some : {ts : List Terminal} {es : List Expr} → F.Targets ts es → 0 < length ts
target_some (F.last_target {ts = ts} t) = front_some ts _ _
target_some (F.more_targets {ts = ts} t c) = front_some ts _ _

-- a statement has a terminal
pub simple_some : {profile : Profile} {ts : List Terminal} {s : Stmt} → F.Simple profile ts s → 0 < length ts
simple_some (F.value p) = some_terminal p
simple_some (F.assign {ts = ts} {us = us} t p) = let some = target_some t in omega (arith, length-append ts us)
simple_some (F.augmented_assign {ts = ts} x t f p) = front_some ts _ _
simple_some (F.annotated_name p v) = omega arith
simple_some (F.annotated_group t p v) = omega arith
simple_some (F.annotated_part {ts = ts} t f p v) = front_some ts _ _
simple_some (F.type_alias f c p) = omega arith
simple_some (F.return_of p) = omega arith
simple_some F.raise_alone = omega arith
simple_some (F.raise_of p c) = omega arith
simple_some (F.assert_of p c) = omega arith
simple_some (F.delete c) = omega arith
simple_some (F.global c) = omega arith
simple_some (F.nonlocal c) = omega arith
simple_some F.pass = omega arith
simple_some F.break = omega arith
simple_some F.continue = omega arith
simple_some (F.import_names c) = omega arith
simple_some (F.from_module d m c) = omega arith
simple_some (F.from_dots d f c) = omega arith

pub tokens_fields : {lo hi : ℕ} {profile : Profile} {ts : List Terminal} {s : Stmt} (at : ℕ) (d : F.Simple profile ts s) → lo ≤ at
    → at + length ts ≤ hi → Within lo hi (field_places at d)
tokens_fields at (F.value p) g h = tokens at p g h
tokens_fields at (F.assign {ts = ts} t p) g h = let k = simp length-append at h in tokens_targets at t (omega arith) (omega arith) ⊕ tokens
    (at + length ts) p (omega arith) (omega arith)
tokens_fields at (F.augmented_assign {ts = ts} x t f p) g h = let k = simp length-append at h in
    tokens_single_target at t (omega arith) (omega arith) ⊕ tokens (1 + (at + length ts)) p (omega arith) (omega arith)
tokens_fields at (F.annotated_name {ts = ts} p v) g h = let k = simp length-append at h in
    own (omega arith) (omega arith) (omega arith) ⊕ (tokens (2 + at) p (omega arith) (omega arith) ⊕ tokens_after (2 + (at + length ts)) v
    (omega arith) (omega arith))
tokens_fields at (F.annotated_group {ts = ts} {us = us} t p v) g h =
    let k = simp length-append at h in tokens_single_target (1 + at) t (omega arith) (omega arith) ⊕
    (tokens (3 + (at + length ts)) p (omega arith) (omega arith) ⊕ tokens_after (3 + (at + (length ts + length us))) v
    (omega arith) (omega arith))
tokens_fields at (F.annotated_part {ts = ts} {us = us} t f p v) g h =
    let k = simp length-append at h in tokens_single_target at t (omega arith) (omega arith) ⊕
    (tokens (1 + (at + length ts)) p (omega arith) (omega arith) ⊕ tokens_after (1 + (at + (length ts + length us))) v
    (omega arith) (omega arith))
tokens_fields at (F.type_alias {ts = ts} f c p) g h =
    let k = simp length-append at h in
    own (omega arith) (omega arith) (omega arith) ⊕ (tokens_type_params (2 + at) c (omega arith) (omega arith) ⊕ tokens
    (3 + (at + length ts)) p (omega arith) (omega arith))
tokens_fields at (F.return_of p) g h = tokens_perhaps (1 + at) p (omega arith) (omega arith)
tokens_fields at F.raise_alone g h = none
tokens_fields at (F.raise_of {ts = ts} p c) g h = let k = simp length-append at h in
    tokens (1 + at) p (omega arith) (omega arith) ⊕ tokens_after (1 + (at + length ts)) c (omega arith) (omega arith)
tokens_fields at (F.assert_of {ts = ts} p c) g h = let k = simp length-append at h in
    tokens (1 + at) p (omega arith) (omega arith) ⊕ tokens_after (1 + (at + length ts)) c (omega arith) (omega arith)
tokens_fields at (F.delete c) g h =
    ended_tokens Expr G.DelTarget (λ ts a. del_target_places) (λ ts a at d. tokens_del_target at d) (1 + at) c (omega arith) (omega arith)
tokens_fields at (F.global c) g h = none
tokens_fields at (F.nonlocal c) g h = none
tokens_fields at F.pass g h = none
tokens_fields at F.break g h = none
tokens_fields at F.continue g h = none
tokens_fields at (F.import_names c) g h =
    commas_tokens Alias F.DottedAlias (λ ts a. dotted_alias_places) (λ ts a at d. tokens_dotted_alias at d) (1 + at) c
    (omega arith) (omega arith)
tokens_fields at (F.from_module {ts = ts} {us = us} d m c) g h = let k = simp length-append at h in
    tokens_names (2 + (at + (length ts + length us))) c (omega arith) (omega arith)
tokens_fields at (F.from_dots {ts = ts} d f c) g h = let k = simp length-append at h in
    tokens_names (2 + (at + length ts)) c (omega arith) (omega arith)

pub tokens_simple : {lo hi : ℕ} {profile : Profile} {ts : List Terminal} {s : Stmt} (at : ℕ) (d : F.Simple profile ts s) → lo ≤ at
    → at + length ts ≤ hi → Within lo hi (simple_places at d)
tokens_simple at d g h = let some = simple_some d in tokens_fields at d g h ⊕ own (omega arith) (omega arith) (omega arith)

pub tokens_simples : {lo hi : ℕ} {profile : Profile} {ts : List Terminal} {ss : List Stmt} (at : ℕ) (d : F.Simples profile ts ss) → lo ≤ at
    → at + length ts ≤ hi → Within lo hi (simples_places at d)
tokens_simples at (F.last_simple p) g h = tokens_simple at p g h
tokens_simples at (F.ended_simple p) g h = let k = simp length-append at h in tokens_simple at p (omega arith) (omega arith)
tokens_simples at (F.more_simples {ts = ts} p c) g h = let k = simp length-append at h in
    tokens_simple at p (omega arith) (omega arith) ⊕ tokens_simples (1 + (at + length ts)) c (omega arith) (omega arith)

-- ---- Headers.

tokens_item : {lo hi : ℕ} {ts : List Terminal} {i : Item} (at : ℕ) (d : F.ItemOf ts i) → lo ≤ at → at + length ts ≤ hi
    → Within lo hi (item_places at d)
tokens_item at (F.bare_item p) g h = tokens at p g h
tokens_item at (F.item_as {ts = ts} p t) g h = let k = simp length-append at h in
    tokens at p (omega arith) (omega arith) ⊕ tokens_item_target (1 + (at + length ts)) t (omega arith) (omega arith)

tokens_items : {lo hi : ℕ} {ts : List Terminal} {is : List Item} (at : ℕ) (d : F.Items ts is) → lo ≤ at → at + length ts ≤ hi
    → Within lo hi (items_places at d)
tokens_items at (F.in_brackets (F.bracketed c)) g h =
    let k = simp length-append at h in ended_tokens Item F.ItemOf (λ ts a. item_places) (λ ts a at d. tokens_item at d) (1 + at) c
    (omega arith) (omega arith)
tokens_items at (F.without c f) g h = commas_tokens Item F.ItemOf (λ ts a. item_places) (λ ts a at d. tokens_item at d) at c g h

tokens_bases : {lo hi : ℕ} {ts : List Terminal} {es : List Expr} {ks : Keywords} (at : ℕ) (d : F.Bases ts es ks) → lo ≤ at
    → at + length ts ≤ hi → Within lo hi (bases_places at d)
tokens_bases at F.no_bases g h = none
tokens_bases at (F.bases c f) g h = let k = simp length-append at h in let es = tokens_listing (1 + at) c (omega arith) (omega arith) in
    positional_within es ⊕ keywords_within es

-- the runs of a line
pub record RunsWithin (lo hi : ℕ) (p : FormPlaces) : Type 0 where
  pub before : Within lo hi p.before
  pub following : Within lo hi p.following
  pub suite : Within lo hi p.suite

runs : {lo hi : ℕ} {p : FormPlaces} → Within lo hi p.before → Within lo hi p.following → Within lo hi p.suite → RunsWithin lo hi p
runs b e s = record { before = b; following = e; suite = s }

tokens_header : {lo hi : ℕ} {profile : Profile} {ts : List Terminal} {x : Header} (at : ℕ) (d : F.HeaderOf profile ts x) → lo ≤ at
    → at + length ts ≤ hi → RunsWithin lo hi (header_places at d)
tokens_header at (F.if_line p) g h = runs (tokens (1 + at) p (omega arith) (omega arith)) none none
tokens_header at (F.elif_line p) g h = runs (tokens (1 + at) p (omega arith) (omega arith)) none none
tokens_header at F.else_line g h = runs none none none
tokens_header at (F.while_line p) g h = runs (tokens (1 + at) p (omega arith) (omega arith)) none none
tokens_header at (F.for_line {ts = ts} {us = us} a t p) g h =
    let k = simp length-append at h in
    runs (tokens_target (1 + (at + length ts)) t (omega arith) (omega arith) ⊕ tokens (2 + (at + (length ts + length us))) p
    (omega arith) (omega arith)) none none
tokens_header at (F.with_line {ts = ts} a i) g h = let k = simp length-append at h in
    runs (tokens_items (1 + (at + length ts)) i (omega arith) (omega arith)) none none
tokens_header at F.try_line g h = runs none none none
tokens_header at F.finally_line g h = runs none none none
tokens_header at F.except_all g h = runs none none none
tokens_header at (F.except_line p a) g h = let k = simp length-append at h in runs (tokens (1 + at) p (omega arith) (omega arith)) none none
tokens_header at (F.except_star p a) g h = let k = simp length-append at h in runs (tokens (2 + at) p (omega arith) (omega arith)) none none
tokens_header at (F.def_line {ts = ts} {us = us} {vs = vs} x a c ps f r) g h =
    let k = simp length-append at h in
    runs (arranged_within (tokens_listing (3 + (at + (length ts + length us))) ps (omega arith) (omega arith)))
    (tokens_after (4 + (at + (length ts + (length us + length vs)))) r (omega arith) (omega arith) ⊕ tokens_type_params
    (2 + (at + length ts)) c (omega arith) (omega arith)) none
tokens_header at (F.class_line {ts = ts} c b) g h =
    let k = simp length-append at h in runs (tokens_bases (2 + (at + length ts)) b (omega arith) (omega arith))
    (tokens_type_params (2 + at) c (omega arith) (omega arith)) none

tokens_case : {lo hi : ℕ} {ts : List Terminal} {x : Header} (at : ℕ) (d : F.CaseOf ts x) → lo ≤ at → at + length ts ≤ hi
    → RunsWithin lo hi (case_places at d)
tokens_case at (F.case_line {ts = ts} form p q) g h =
    let k = simp length-append at h in runs (tokens_pattern (1 + at) p (omega arith) (omega arith) ⊕ tokens_after (1 + (at + length ts)) q
    (omega arith) (omega arith)) none none

-- ---- Lines.

tokens_line : {profile : Profile} {ts : List Terminal} {f : Form} (d : F.FormOf profile ts f) → RunsWithin 0 (length ts) (line_places d)
tokens_line (F.simple_statements c) = runs none none (tokens_simples 0 c (omega arith) (omega arith))
tokens_line (F.decorator_line p) = runs (tokens 1 p (omega arith) (omega arith)) none none
tokens_line (F.header_line {ts = ts} h) = let k = length-append ts (Op Sign.Colon ∷ []) in tokens_header 0 h (omega arith) (omega arith)
tokens_line (F.header_suite {ts = ts} {us = us} h c) =
    let k = length-append ts (Op Sign.Colon ∷ us) in
    let r = tokens_header 0 h (omega arith) (omega arith) in
    runs r.before r.following (tokens_simples (1 + length ts) c (omega arith) (omega arith))
tokens_line (F.match_line {ts = ts} form h p) = let k = length-append ts (Op Sign.Colon ∷ []) in
    runs (tokens 1 p (omega arith) (omega arith)) none none

pub tokens_form : {profile : Profile} {inside : Bool} {ts : List Terminal} {f : Form} (d : F.FormAt profile inside ts f)
    → RunsWithin 0 (length ts) (places_at d)
tokens_form (F.other_line h f) = tokens_line f
tokens_form (F.case_alone {ts = ts} h c) = let k = length-append ts (Op Sign.Colon ∷ []) in tokens_case 0 c (omega arith) (omega arith)
tokens_form (F.case_suite {ts = ts} {us = us} h c s) =
    let k = length-append ts (Op Sign.Colon ∷ us) in let r = tokens_case 0 c (omega arith) (omega arith) in
    runs r.before r.following (tokens_simples (1 + length ts) s (omega arith) (omega arith))
