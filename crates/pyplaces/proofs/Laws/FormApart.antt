-- Apart: of two places of a line one holds the other, or they are apart.
--
-- On: Laminar, Apart of expressions and of patterns.
use Rattle.std.proofs.Common.{◌⊎◌, inl, inr, ℕ, ◌+◌, arith, List, [], ◌++◌, Option, Bool, length, length-append}
use Rattle.std.proofs.Common.{append-nil}
use Rattle.std.proofs.Common.{sym}
use Rattle.pytree_node.specs.declared.profiles.Profile.{Profile}
use Rattle.pytree_node.specs.Trees.{Expr, Keywords, Stmt, Alias, Item, TypeParam}
use Rattle.pytoken.specs.Terminals.{Terminal}
use Rattle.pygrammar.specs.declared.levels.Level.{Level}
use Rattle.pygrammar.specs.Lines.{Form, Header}
use Rattle.pygrammar.specs.Grammar as G
use Rattle.pygrammar.specs.Forms as F
use Rattle.pyplaces.specs.EntryPlaces as E
use Rattle.pyplaces.specs.Stretches.{Stretch}
use Rattle.pyplaces.specs.ExpressionPlaces.{listing_places, target_places, single_target_places, del_target_places}
use Rattle.pyplaces.specs.ExpressionPlaces.{item_target_places}
use Rattle.pyplaces.specs.FormPlaces.{commas_places, ended_places, perhaps_places, after_places, type_param_places, type_params_places}
use Rattle.pyplaces.specs.FormPlaces.{dotted_alias_places, name_alias_places, names_places, targets_places, field_places, simple_places}
use Rattle.pyplaces.specs.FormPlaces.{simples_places, item_places, items_places, bases_places, FormPlaces, header_places, case_places}
use Rattle.pyplaces.specs.FormPlaces.{line_places, places_at}
use Rattle.pyplaces.specs.Laws.{Contains}
use Rattle.pyplaces.proofs.Laws.Laminar.{Laminar, wide, nothing, seq, root, root0, one_token, arguments_laminar, arranged_laminar, as_list}
use Rattle.pyplaces.proofs.Laws.Laminar.{among, in_both, in_front, in_back}
use Rattle.pyplaces.proofs.Laws.Apart.{laminar, laminar_listing}
use Rattle.pyplaces.proofs.Laws.PatternApart.{laminar_pattern}
use Rattle.pyplaces.proofs.Laws.FormTokens.{simple_some, dotted_some}

-- ---- Parts.

commas_laminar : (A : Type 0) (X : List Terminal → A → Type 0) (ps : (ts : List Terminal) (a : A) → ℕ → X ts a → List Stretch)
    → ((ts : List Terminal) (a : A) (at : ℕ) (x : X ts a) → Laminar at (at + length ts) (ps ts a at x))
    → {ts : List Terminal} {as_ : List A} (at : ℕ) (d : F.Commas A X ts as_) → Laminar at (at + length ts) (commas_places A X ps at d)
commas_laminar A X ps each at (F.alone {ts = ts} {a = a} p) = each ts a at p
commas_laminar A X ps each at (F.comma {ts = ts} {a = a} p c) =
    wide (seq (each ts a at p) (commas_laminar A X ps each (1 + (at + length ts)) c) (omega arith)) (omega arith)
    (simp length-append (omega arith))

ended_laminar : (A : Type 0) (X : List Terminal → A → Type 0) (ps : (ts : List Terminal) (a : A) → ℕ → X ts a → List Stretch)
    → ((ts : List Terminal) (a : A) (at : ℕ) (x : X ts a) → Laminar at (at + length ts) (ps ts a at x))
    → {ts : List Terminal} {as_ : List A} (at : ℕ) (d : F.Commas? A X ts as_) → Laminar at (at + length ts) (ended_places A X ps at d)
ended_laminar A X ps each at (F.ends_bare c) = commas_laminar A X ps each at c
ended_laminar A X ps each at (F.ends_comma c) = wide (commas_laminar A X ps each at c) (omega arith) (simp length-append (omega arith))

laminar_perhaps : {l : Level} {ts : List Terminal} {e : Option Expr} (at : ℕ) (d : F.Perhaps l ts e)
    → Laminar at (at + length ts) (perhaps_places at d)
laminar_perhaps at F.left_out = nothing (omega arith)
laminar_perhaps at (F.given p) = laminar at p

laminar_after : {t : Terminal} {l : Level} {ts : List Terminal} {e : Option Expr} (at : ℕ) (d : F.Following t l ts e)
    → Laminar at (at + length ts) (after_places at d)
laminar_after at F.none_after = nothing (omega arith)
laminar_after at (F.following p) = wide (laminar (1 + at) p) (omega arith) (omega arith)

laminar_type_param : {ts : List Terminal} {p : TypeParam} (at : ℕ) (d : F.TypeParamOf ts p)
    → Laminar at (at + length ts) (type_param_places at d)
laminar_type_param at (F.type_var b) = root (laminar_after (1 + at) b) (omega arith) (omega arith) (omega arith)
    (omega arith) (omega arith)
laminar_type_param at F.type_var_tuple = root0 (omega arith) (omega arith) (omega arith)
laminar_type_param at F.param_spec = root0 (omega arith) (omega arith) (omega arith)

laminar_type_params : {profile : Profile} {ts : List Terminal} {ps : List TypeParam} (at : ℕ) (d : F.TypeParams profile ts ps)
    → Laminar at (at + length ts) (type_params_places at d)
laminar_type_params at F.no_type_params = nothing (omega arith)
laminar_type_params at (F.type_params f c) =
    wide (ended_laminar TypeParam F.TypeParamOf (λ ts a. type_param_places) (λ ts a at d. laminar_type_param at d) (1 + at) c) (omega arith)
    (simp length-append (omega arith))

laminar_dotted_alias : {ts : List Terminal} {a : Alias} (at : ℕ) (d : F.DottedAlias ts a)
    → Laminar at (at + length ts) (dotted_alias_places at d)
laminar_dotted_alias at (F.dotted_as d a) = let some = dotted_some d in root0 (omega arith) (omega arith) (simp length-append (omega arith))

laminar_name_alias : {ts : List Terminal} {a : Alias} (at : ℕ) (d : F.NameAlias ts a) → Laminar at (at + length ts) (name_alias_places at d)
laminar_name_alias at (F.name_as a) = root0 (omega arith) (omega arith) (omega arith)

laminar_names : {ts : List Terminal} {as_ : List Alias} (at : ℕ) (d : F.Names ts as_) → Laminar at (at + length ts) (names_places at d)
laminar_names at F.all_names = root0 (omega arith) (omega arith) (omega arith)
laminar_names at (F.names c) = commas_laminar Alias F.NameAlias (λ ts a. name_alias_places) (λ ts a at d. laminar_name_alias at d) at c
laminar_names at (F.bracketed_names c) =
    wide (ended_laminar Alias F.NameAlias (λ ts a. name_alias_places) (λ ts a at d. laminar_name_alias at d) (1 + at) c) (omega arith)
    (simp length-append (omega arith))

-- ---- Targets.

laminar_target : {ts : List Terminal} {e : Expr} (at : ℕ) (d : G.Target ts e) → Laminar at (at + length ts) (target_places at d)
laminar_target at (G.target p f) = laminar at p

laminar_single_target : {ts : List Terminal} {e : Expr} (at : ℕ) (d : G.SingleTarget ts e)
    → Laminar at (at + length ts) (single_target_places at d)
laminar_single_target at (G.single_target p f) = laminar at p

laminar_del_target : {ts : List Terminal} {e : Expr} (at : ℕ) (d : G.DelTarget ts e) → Laminar at (at + length ts) (del_target_places at d)
laminar_del_target at (G.del_target p f) = laminar at p

laminar_item_target : {ts : List Terminal} {e : Expr} (at : ℕ) (d : G.ItemTarget ts e)
    → Laminar at (at + length ts) (item_target_places at d)
laminar_item_target at (G.item_target p f) = laminar at p
laminar_item_target at (G.star_target p f) = root (laminar (1 + at) p) (omega arith) (omega arith) (omega arith) (omega arith) (omega arith)

laminar_targets : {ts : List Terminal} {es : List Expr} (at : ℕ) (d : F.Targets ts es) → Laminar at (at + length ts) (targets_places at d)
laminar_targets at (F.last_target t) = wide (laminar_target at t) (omega arith) (simp length-append (omega arith))
laminar_targets at (F.more_targets {ts = ts} t c) =
    wide (seq (laminar_target at t) (laminar_targets (1 + (at + length ts)) c) (omega arith)) (omega arith)
    (simp length-append (omega arith))

-- ---- Simple statements.

laminar_fields : {profile : Profile} {ts : List Terminal} {s : Stmt} (at : ℕ) (d : F.Simple profile ts s)
    → Laminar at (at + length ts) (field_places at d)
laminar_fields at (F.value p) = laminar at p
laminar_fields at (F.assign {ts = ts} t p) = wide (seq (laminar_targets at t) (laminar (at + length ts) p) (omega arith)) (omega arith)
    (simp length-append (omega arith))
laminar_fields at (F.augmented_assign {ts = ts} x t f p) =
    wide (seq (laminar_single_target at t) (laminar (1 + (at + length ts)) p) (omega arith)) (omega arith)
    (simp length-append (omega arith))
laminar_fields at (F.annotated_name {ts = ts} p v) =
    wide (seq (one_token at) (seq (laminar (2 + at) p) (laminar_after (2 + (at + length ts)) v) (omega arith)) (omega arith)) (omega arith)
    (simp length-append (omega arith))
laminar_fields at (F.annotated_group {ts = ts} {us = us} t p v) =
    wide (seq (laminar_single_target (1 + at) t)
    (seq (laminar (3 + (at + length ts)) p) (laminar_after (3 + (at + (length ts + length us))) v) (omega arith)) (omega arith))
    (omega arith) (simp length-append (omega arith))
laminar_fields at (F.annotated_part {ts = ts} {us = us} t f p v) =
    wide (seq (laminar_single_target at t)
    (seq (laminar (1 + (at + length ts)) p) (laminar_after (1 + (at + (length ts + length us))) v) (omega arith)) (omega arith))
    (omega arith) (simp length-append (omega arith))
laminar_fields at (F.type_alias {ts = ts} f c p) =
    wide (seq (one_token (1 + at)) (seq (laminar_type_params (2 + at) c) (laminar (3 + (at + length ts)) p) (omega arith)) (omega arith))
    (omega arith) (simp length-append (omega arith))
laminar_fields at (F.return_of p) = wide (laminar_perhaps (1 + at) p) (omega arith) (omega arith)
laminar_fields at F.raise_alone = nothing (omega arith)
laminar_fields at (F.raise_of {ts = ts} p c) = wide (seq (laminar (1 + at) p) (laminar_after (1 + (at + length ts)) c) (omega arith))
    (omega arith) (simp length-append (omega arith))
laminar_fields at (F.assert_of {ts = ts} p c) = wide (seq (laminar (1 + at) p) (laminar_after (1 + (at + length ts)) c) (omega arith))
    (omega arith) (simp length-append (omega arith))
laminar_fields at (F.delete c) =
    wide (ended_laminar Expr G.DelTarget (λ ts a. del_target_places) (λ ts a at d. laminar_del_target at d) (1 + at) c)
    (omega arith) (omega arith)
laminar_fields at (F.global c) = nothing (omega arith)
laminar_fields at (F.nonlocal c) = nothing (omega arith)
laminar_fields at F.pass = nothing (omega arith)
laminar_fields at F.break = nothing (omega arith)
laminar_fields at F.continue = nothing (omega arith)
laminar_fields at (F.import_names c) =
    wide (commas_laminar Alias F.DottedAlias (λ ts a. dotted_alias_places) (λ ts a at d. laminar_dotted_alias at d) (1 + at) c)
    (omega arith) (omega arith)
laminar_fields at (F.from_module {ts = ts} {us = us} d m c) = wide (laminar_names (2 + (at + (length ts + length us))) c) (omega arith)
    (simp length-append (omega arith))
laminar_fields at (F.from_dots {ts = ts} d f c) = wide (laminar_names (2 + (at + length ts)) c) (omega arith)
    (simp length-append (omega arith))

pub laminar_simple : {profile : Profile} {ts : List Terminal} {s : Stmt} (at : ℕ) (d : F.Simple profile ts s)
    → Laminar at (at + length ts) (simple_places at d)
laminar_simple at d = let some = simple_some d in root (laminar_fields at d) (omega arith) (omega arith) (omega arith)
    (omega arith) (omega arith)

laminar_simples : {profile : Profile} {ts : List Terminal} {ss : List Stmt} (at : ℕ) (d : F.Simples profile ts ss)
    → Laminar at (at + length ts) (simples_places at d)
laminar_simples at (F.last_simple p) = laminar_simple at p
laminar_simples at (F.ended_simple p) = wide (laminar_simple at p) (omega arith) (simp length-append (omega arith))
laminar_simples at (F.more_simples {ts = ts} p c) =
    wide (seq (laminar_simple at p) (laminar_simples (1 + (at + length ts)) c) (omega arith)) (omega arith)
    (simp length-append (omega arith))

-- ---- Headers.

laminar_item : {ts : List Terminal} {i : Item} (at : ℕ) (d : F.ItemOf ts i) → Laminar at (at + length ts) (item_places at d)
laminar_item at (F.bare_item p) = laminar at p
laminar_item at (F.item_as {ts = ts} p t) = wide (seq (laminar at p) (laminar_item_target (1 + (at + length ts)) t) (omega arith))
    (omega arith) (simp length-append (omega arith))

laminar_items : {ts : List Terminal} {is : List Item} (at : ℕ) (d : F.Items ts is) → Laminar at (at + length ts) (items_places at d)
laminar_items at (F.in_brackets (F.bracketed c)) =
    wide (ended_laminar Item F.ItemOf (λ ts a. item_places) (λ ts a at d. laminar_item at d) (1 + at) c) (omega arith)
    (simp length-append (omega arith))
laminar_items at (F.without c f) = commas_laminar Item F.ItemOf (λ ts a. item_places) (λ ts a at d. laminar_item at d) at c

laminar_bases : {ts : List Terminal} {es : List Expr} {ks : Keywords} (at : ℕ) (d : F.Bases ts es ks)
    → Laminar at (at + length ts) (bases_places at d)
laminar_bases at F.no_bases = nothing (omega arith)
laminar_bases at (F.bases c f) = wide (arguments_laminar (listing_places (1 + at) c) (laminar_listing (1 + at) c)) (omega arith)
    (simp length-append (omega arith))

-- the places of a header, those before the body and those after it
abbrev head_of : FormPlaces → List Stretch
head_of p = p.before ++ p.following

alone : {lo hi : ℕ} {ps : List Stretch} → Laminar lo hi ps → Laminar lo hi (ps ++ [])
alone {ps = ps} l = as_list (sym (append-nil ps)) l

-- of a `def` the type parameters stand before the parameters, and the returns after
around : {lo hi : ℕ} (ps qs rs : List Stretch) → Laminar lo hi (rs ++ (ps ++ qs)) → Laminar lo hi (ps ++ (qs ++ rs))
around ps qs rs l = among (rs ++ (ps ++ qs)) (ps ++ (qs ++ rs)) (λ s c. turn s (in_both ps (qs ++ rs) c)) l
  where
    next : (s : Stretch) → Contains s qs ⊎ Contains s rs → Contains s (rs ++ (ps ++ qs))
    next s (inl y) = in_back rs (ps ++ qs) (in_back ps qs y)
    next s (inr y) = in_front rs (ps ++ qs) y

    turn : (s : Stretch) → Contains s ps ⊎ Contains s (qs ++ rs) → Contains s (rs ++ (ps ++ qs))
    turn s (inl x) = in_back rs (ps ++ qs) (in_front ps qs x)
    turn s (inr x) = next s (in_both qs rs x)

turned : {lo hi : ℕ} (ps qs : List Stretch) → Laminar lo hi (qs ++ ps) → Laminar lo hi (ps ++ qs)
turned ps qs l = among (qs ++ ps) (ps ++ qs) (λ s c. turn s (in_both ps qs c)) l
  where
    turn : (s : Stretch) → Contains s ps ⊎ Contains s qs → Contains s (qs ++ ps)
    turn s (inl x) = in_back qs ps x
    turn s (inr x) = in_front qs ps x

laminar_header : {profile : Profile} {ts : List Terminal} {h : Header} (at : ℕ) (d : F.HeaderOf profile ts h)
    → Laminar at (at + length ts) (head_of (header_places at d))
laminar_header at (F.if_line p) = alone (wide (laminar (1 + at) p) (omega arith) (omega arith))
laminar_header at (F.elif_line p) = alone (wide (laminar (1 + at) p) (omega arith) (omega arith))
laminar_header at F.else_line = nothing (omega arith)
laminar_header at (F.while_line p) = alone (wide (laminar (1 + at) p) (omega arith) (omega arith))
laminar_header at (F.for_line {ts = ts} {us = us} a t p) =
    alone (wide (seq (laminar_target (1 + (at + length ts)) t) (laminar (2 + (at + (length ts + length us))) p) (omega arith)) (omega arith)
    (simp length-append (omega arith)))
laminar_header at (F.with_line {ts = ts} a i) =
    alone (wide (laminar_items (1 + (at + length ts)) i) (omega arith) (simp length-append (omega arith)))
laminar_header at F.try_line = nothing (omega arith)
laminar_header at F.finally_line = nothing (omega arith)
laminar_header at F.except_all = nothing (omega arith)
laminar_header at (F.except_line p a) = alone (wide (laminar (1 + at) p) (omega arith) (simp length-append (omega arith)))
laminar_header at (F.except_star p a) = alone (wide (laminar (2 + at) p) (omega arith) (simp length-append (omega arith)))
laminar_header at (F.def_line {ts = ts} {us = us} {vs = vs} x a c ps f r) =
    around (E.arranged (listing_places (3 + (at + (length ts + length us))) ps))
    (after_places (4 + (at + (length ts + (length us + length vs)))) r) (type_params_places (2 + (at + length ts)) c)
    (wide (seq (laminar_type_params (2 + (at + length ts)) c)
    (seq (arranged_laminar (listing_places (3 + (at + (length ts + length us))) ps)
    (laminar_listing (3 + (at + (length ts + length us))) ps))
    (laminar_after (4 + (at + (length ts + (length us + length vs)))) r) (omega arith)) (omega arith)) (omega arith)
    (simp length-append (omega arith)))
laminar_header at (F.class_line {ts = ts} c b) =
    turned (bases_places (2 + (at + length ts)) b) (type_params_places (2 + at) c)
    (wide (seq (laminar_type_params (2 + at) c) (laminar_bases (2 + (at + length ts)) b) (omega arith)) (omega arith)
    (simp length-append (omega arith)))

laminar_case : {ts : List Terminal} {h : Header} (at : ℕ) (d : F.CaseOf ts h) → Laminar at (at + length ts) (head_of (case_places at d))
laminar_case at (F.case_line {ts = ts} form p q) =
    alone (wide (seq (laminar_pattern (1 + at) p) (laminar_after (1 + (at + length ts)) q) (omega arith)) (omega arith)
    (simp length-append (omega arith)))

-- ---- Lines.

-- all places of a line
abbrev pub all_of : FormPlaces → List Stretch
all_of p = (p.before ++ p.following) ++ p.suite

-- a header alone has no statements in its line
no_suite : {profile : Profile} {ts : List Terminal} {x : Header} {lo hi : ℕ} (h : F.HeaderOf profile ts x)
    → Laminar lo hi (head_of (header_places 0 h)) → Laminar lo hi (all_of (header_places 0 h))
no_suite (F.if_line p) l = alone l
no_suite (F.elif_line p) l = alone l
no_suite F.else_line l = alone l
no_suite (F.while_line p) l = alone l
no_suite (F.for_line a t p) l = alone l
no_suite (F.with_line a i) l = alone l
no_suite F.try_line l = alone l
no_suite F.finally_line l = alone l
no_suite F.except_all l = alone l
no_suite (F.except_line p a) l = alone l
no_suite (F.except_star p a) l = alone l
no_suite (F.def_line x a c ps f r) l = alone l
no_suite (F.class_line c b) l = alone l

laminar_line : {profile : Profile} {ts : List Terminal} {f : Form} (d : F.FormOf profile ts f)
    → Laminar 0 (length ts) (all_of (line_places d))
laminar_line (F.simple_statements c) = wide (laminar_simples 0 c) (omega arith) (omega arith)
laminar_line (F.decorator_line p) = alone (alone (wide (laminar 1 p) (omega arith) (omega arith)))
laminar_line (F.header_line h) = wide (no_suite h (laminar_header 0 h)) (omega arith) (simp length-append (omega arith))
laminar_line (F.header_suite {ts = ts} h c) = wide (seq (laminar_header 0 h) (laminar_simples (1 + length ts) c) (omega arith))
    (omega arith) (simp length-append (omega arith))
laminar_line (F.match_line form h p) = alone (alone (wide (laminar 1 p) (omega arith) (simp length-append (omega arith))))

pub laminar_form : {profile : Profile} {inside : Bool} {ts : List Terminal} {f : Form} (d : F.FormAt profile inside ts f)
    → Laminar 0 (length ts) (all_of (places_at d))
laminar_form (F.other_line h f) = laminar_line f
laminar_form (F.case_alone h (F.case_line form p q)) =
    alone (wide (laminar_case 0 (F.case_line form p q)) (omega arith) (simp length-append (omega arith)))
laminar_form (F.case_suite {ts = ts} h c s) = wide (seq (laminar_case 0 c) (laminar_simples (1 + length ts) s) (omega arith)) (omega arith)
    (simp length-append (omega arith))
