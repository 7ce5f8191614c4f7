-- Two readings of a line: what each combinator keeps, the reader of lines keeps.
--
-- Carries: r_place, r_case and what goes into them, for Line/Depth, Answered, CapsLines. On: Rules, Related/Expressions.
use Rattle.std.proofs.Common.{◌≡◌, refl, ℕ, zero, suc, ◌≤◌, ◌<◌, arith, List, [], ◌∷◌, ◌++◌, length, Option, Bool, true, false}
use Rattle.std.proofs.Common.{ap, ◌∙◌}
use Rattle.std.specs.Prelude.{max, leb}
use Rattle.pylex_lexeme.specs.declared.kinds.Exact.TheVariants as Sign
use Rattle.pytoken.specs.declared.keywords.Keyword.TheVariants as Key
use Rattle.pytree_node.specs.declared.operators.Context.TheVariants.{Load, Store}
use Rattle.pytree_node.specs.declared.profiles.Profile.{Profile}
use Rattle.pygrammar.specs.declared.levels.Level.{Level}
use Rattle.pygrammar.specs.declared.levels.Level.TheVariants.{Value, Stars, Named, Expression, Subject}
use Rattle.pygrammar.specs.declared.pattern_levels.PatternLevel.TheVariants.{Patterns}
use Rattle.pytree_node.specs.Trees.{Expr, Exprs, exprs, Identifier, Stmt, stmts, Alias, Item, Pattern}
use Rattle.pytree_node.specs.Trees.{TypeParam}
use Rattle.pytree_node.specs.Trees as Trees
use Rattle.pytoken.specs.Terminals.{Terminal, Op, Word}
use Rattle.pytree_height.specs.Heights.{height, heights, option_height, list_height, type_param_height, type_param_heights, highest_in}
use Rattle.pytree_height.specs.Heights.{highest_in_all, item_heights, keyword_heights, pattern_height}
use Rattle.pytree_node.specs.Profiles.{has_types}
use Rattle.pygrammar.specs.Lengths.{weight}
use Rattle.pygrammar.specs.Looks.{is_op, is_word, name_in}
use Rattle.pygrammar.specs.Entries.{Of, Argument, Parameter, Entry}
use Rattle.pygrammar.specs.Inner.EntryHeights.{entries_height}
use Rattle.pygrammar.specs.Arguments.{in_order, positional, keywords}
use Rattle.pygrammar.specs.Parameters.{arranged}
use Rattle.pygrammar.specs.Targets.{stored, deleted, single_stored}
use Rattle.pygrammar.specs.Reader.{Answer, Found, NoForm, and_then, on_first, Reads}
use Rattle.pygrammar.specs.Precedence.{starts}
use Rattle.pygrammar.specs.Lines.{Form, Header}
use Rattle.pygrammar.specs.Lines.{case_header}
use Rattle.pygrammar.specs.FormHeights.{header_height, form_height}
use Rattle.pygrammar.specs.Forms.{listed, is_case_line}
use Rattle.pygrammar.specs.PatternReader.{PatternReads}
use Rattle.pygrammar.specs.LineReader.{on_none, same_as, is_type, on_type, starts_name, starts_type_param, always, commas, commas_of}
use Rattle.pygrammar.specs.LineReader.{read_name, read_as, dotted, dotted_alias, name_alias, read_dots, read_names, import_from}
use Rattle.pygrammar.specs.LineReader.{augmented_sign, Start, Values, Returns, Raises, Asserts, Deletes, Globals, Nonlocals, Passes, Breaks}
use Rattle.pygrammar.specs.LineReader.{Continues, Imports, Froms, start, if_any, after, annotation, end_value, value_loop, value_statement}
use Rattle.pygrammar.specs.LineReader.{deleted_one, read_type_param, read_type_params, alias_rest, statement_of}
use Rattle.pygrammar.specs.LineReader.{statement, statements, item_target, read_item, bracketed, read_items, for_rest, with_rest}
use Rattle.pygrammar.specs.LineReader.{function_rest, bases_rest, def_rest, class_rest, except_of, except_rest, read_header, Opening}
use Rattle.pygrammar.specs.LineReader.{Decorates, Heads, States, opening, suite, is_match_line, line_of, match_rest, line_front}
use Rattle.pygrammar.specs.LineReader.{case_rest, case_front, line_at}
use Rattle.pygrammar.proofs.Depths.Weights.{weight_next, heavy_op, heavy_word, heavy_name, heavy_type, heavy_augmented, heavy_same}
use Rattle.pygrammar.proofs.Heights.HeightLemmas.{stored_height, single_height, deleted_height, arranged_height, ordered_height}
use Rattle.pygrammar.proofs.Related.Sizes.{under, arguments_size, parameters_size, exprs_last}
use Rattle.pygrammar.proofs.Related.Rules.{Relation, Kept, To, found, none, beside, choose, tested, option, first, named_with, closing}
use Rattle.pygrammar.proofs.Related.Rules.{making}
use Rattle.pygrammar.proofs.Related.Expressions.{r_listing_of, r_target}
use Rattle.pygrammar.proofs.Plain.Forms.{exprs_listed}

abbrev pub suite_height : List Stmt → ℕ
suite_height ss = highest_in_all (stmts ss)

abbrev pub item_height : Item → ℕ
item_height i = max (height i.context_expr) (option_height i.optional_vars)

bases_height : (es : List Entry) → in_order false false es ≡ true → entries_height es ≡ max (heights (exprs (listed (positional es))))
    (keyword_heights (keywords es))
bases_height es h = ordered_height false false es h ∙ ap (λ z. max z (keyword_heights (keywords es))) (back (positional es))
  where
    back : (es : Exprs) → heights es ≡ heights (exprs (listed es))
    back es = omega (arith, ap heights (exprs_listed es))

-- what is read of names alone has no height
abbrev flat : {A : Type 0} → A → ℕ
flat a = 0

-- all lists count less than b
module _ {R : Relation} (K : Kept R) (b : ℕ) where
  nothing_left : {A : Type 0} {s : A → ℕ} {t : ℕ} (r : List Terminal) {x x' y y' : Answer A} → R A s t b x x' → R A s t b y y'
      → R A s t b (on_none r x y) (on_none r x' y')
  nothing_left [] h g = h
  nothing_left (z ∷ r) h g = g

  -- lists with commas: as high as the highest of them
  pub r_commas : {A : Type 0} (s : A → ℕ) (u : List A → ℕ) → ((a : A) (as_ : List A) → u (a ∷ as_) ≡ max (s a) (u as_))
      → (one two : List Terminal → Answer A) (more : List Terminal → Bool)
      → ((r : List Terminal) → weight r < b → R A (under s) 0 b (one r) (two r)) → (m : ℕ) (r : List Terminal) → weight r < b
      → R (List A) (under u) 0 b (commas one more m r) (commas two more m r)
  r_commas s u join one two more f zero r w = none K
  r_commas s u join one two more f (suc m) r w =
      beside K (f r w)
      (λ v a r1 g p. first K (is_op Sign.Comma) (heavy_op Sign.Comma) r1
      (λ _ r2 q. choose K (more r2)
      (beside K (r_commas s u join one two more f m r2 (omega (arith, p, q)))
      (λ x as_ r3 k z. found K (omega (arith, g, k, join a as_)) z)) (found K (omega (arith, g, join a [])) (omega (arith, p, q))))
      (found K (omega (arith, g, join a [])) p))

  -- ---- Names.
  r_name : (i : List Terminal) → weight i < b → R Identifier (under flat) 0 b (read_name i) (read_name i)
  r_name i w = first K name_in heavy_name i (λ x r q. found K (omega arith) (omega (arith, w, q))) (none K)

  r_as : (i : List Terminal) → weight i < b → R (Option Identifier) (under flat) 0 b (read_as i) (read_as i)
  r_as i w = first K (is_word Key.As) (heavy_word Key.As) i
      (λ _ r q. first K name_in heavy_name r (λ x r1 p. found K (omega arith) (omega (arith, w, q, p))) (none K)) (found K (omega arith) w)

  r_dotted : (m : ℕ) (i : List Terminal) → weight i < b → R Identifier (under flat) 0 b (dotted m i) (dotted m i)
  r_dotted zero i w = none K
  r_dotted (suc m) i w =
      first K name_in heavy_name i
      (λ x r q. first K (is_op Sign.Dot) (heavy_op Sign.Dot) r
      (λ _ r1 p. beside K (r_dotted m r1 (omega (arith, w, q, p))) (λ v y r2 g z. found K (omega (arith, g)) z))
      (found K (omega arith) (omega (arith, w, q)))) (none K)

  r_dotted_alias : (i : List Terminal) → weight i < b → R Alias (under flat) 0 b (dotted_alias i) (dotted_alias i)
  r_dotted_alias i w = beside K (r_dotted (suc (length i)) i w)
      (λ v x r g p. beside K (r_as r p) (λ u a r1 k q. found K (omega (arith, g, k)) q))

  r_name_alias : (i : List Terminal) → weight i < b → R Alias (under flat) 0 b (name_alias i) (name_alias i)
  r_name_alias i w = first K name_in heavy_name i
      (λ x r q. beside K (r_as r (omega (arith, w, q))) (λ u a r1 k p. found K (omega (arith, k)) p)) (none K)

  r_dots : (i : List Terminal) → weight i < b → R ℕ (under flat) 0 b (read_dots i) (read_dots i)
  r_dots (Op Sign.Dot ∷ r) w = beside K (r_dots r (omega (arith, w))) (λ v n r1 g p. found K (omega (arith, g)) p)
  r_dots (Op Sign.Ellipsis ∷ r) w = beside K (r_dots r (omega (arith, w))) (λ v n r1 g p. found K (omega (arith, g)) p)
  r_dots (Op _ ∷ r) w = found K (omega arith) w
  r_dots [] w = found K (omega arith) w
  r_dots (_ ∷ r) w = found K (omega arith) w

  r_names : (i : List Terminal) → weight i < b → R (List Alias) (under flat) 0 b (read_names i) (read_names i)
  r_names i w =
      first K (is_op Sign.Star) (heavy_op Sign.Star) i (λ _ r q. found K (omega arith) (omega (arith, w, q)))
      (first K (is_op Sign.LPar) (heavy_op Sign.LPar) i
      (λ _ r q. beside K (r_commas flat flat (λ a as_. omega arith) name_alias name_alias starts_name r_name_alias (suc (length r)) r
      (omega (arith, w, q))) (λ v as_ r1 g p. closing K Sign.RPar r1 as_ (omega (arith, g)) p))
      (r_commas flat flat (λ a as_. omega arith) name_alias name_alias always r_name_alias (suc (length i)) i w))

  r_from : (i : List Terminal) → weight i < b → R Stmt (under highest_in) 0 b (import_from i) (import_from i)
  r_from i w =
      beside K (r_dots i w)
      (λ v n r g p. first K (is_word Key.Import) (heavy_word Key.Import) r
      (λ _ r1 q. choose K (leb 1 n)
      (beside K (r_names r1 (omega (arith, p, q))) (λ u as_ r2 k z. found K (omega (arith, g, k)) z)) (none K))
      (beside K (r_dotted (suc (length r)) r p)
      (λ u m r1 k q. first K (is_word Key.Import) (heavy_word Key.Import) r1
      (λ _ r2 z. beside K (r_names r2 (omega (arith, q, z))) (λ x as_ r3 c y. found K (omega (arith, g, k, c)) y)) (none K))))

-- ---- Statements.
module _ {R : Relation} (K : Kept R) (self other : Reads) (b : ℕ) (all : To R b self other) where
  one : {B : Type 0} {u : B → ℕ} {t : ℕ} (l : Level) (i : List Terminal) {k j : Expr → List Terminal → Answer B} → weight i < b
      → ((v : ℕ) (e : Expr) (r : List Terminal) → v ≤ max t (suc (height e)) → weight r < b → R B u v b (k e r) (j e r))
      → R B u t b (and_then (self l i) k) (and_then (other l i) j)
  one l i w f = beside K (all l i w) (λ v e r g p. f v e r g (omega (arith, w, p)))

  r_if_any : (l : Level) (i : List Terminal) → weight i < b → R (Option Expr) (under option_height) 0 b (if_any self l i) (if_any other l i)
  r_if_any l i w = choose K (starts (Of l) i) (one l i w (λ v e r g p. found K (omega (arith, g)) p)) (found K (omega arith) w)

  r_after : (z : Terminal) (l : Level) (i : List Terminal) → weight i < b
      → R (Option Expr) (under option_height) 0 b (after self z l i) (after other z l i)
  r_after z l i w = first K (same_as z) (heavy_same z) i
      (λ _ r q. one l r (omega (arith, w, q)) (λ v e r1 g p. found K (omega (arith, g)) p)) (found K (omega arith) w)

  r_annotation : (t : ℕ) (e : Expr) (c : Bool) (i : List Terminal) → t ≤ suc (height e) → weight i < b
      → R Stmt (under highest_in) t b (annotation self e c i) (annotation other e c i)
  r_annotation t e c i h w = one Expression i w
      (λ v a r g p. beside K (r_after (Op Sign.Equal) Value r p) (λ u x r1 k q. found K (omega (arith, h, g, k)) q))

  r_end : (t : ℕ) (acc : List Expr) (e : Expr) (r : List Terminal) → t ≤ suc (max (list_height acc) (height e)) → weight r < b
      → R Stmt (under highest_in) t b (end_value self acc e r) (end_value other acc e r)
  r_end t (a ∷ as_) e r h w = found K h w
  r_end t [] e r h w =
      first K augmented_sign heavy_augmented r
      (λ o s q. option K (single_stored e)
      (λ a z. one Value s (omega (arith, w, q)) (λ v x r2 g p. found K (omega (arith, h, g, single_height e a z)) p)) (none K))
      (first K (is_op Sign.Colon) (heavy_op Sign.Colon) r
      (λ _ s q. option K (single_stored e)
      (λ a z. r_annotation t a false s (omega (arith, h, single_height e a z)) (omega (arith, w, q))) (none K))
      (found K (omega (arith, h)) w))

  r_loop : (t m : ℕ) (acc : List Expr) (i : List Terminal) → t ≤ suc (list_height acc) → weight i < b
      → R Stmt (under highest_in) t b (value_loop self m acc i) (value_loop other m acc i)
  r_loop t zero acc i h w = none K
  r_loop t (suc m) acc i h w = one Value i w
      (λ v e r g p. first K (is_op Sign.Equal) (heavy_op Sign.Equal) r
      (λ _ s q. option K (stored e)
      (λ a z. r_loop v m (acc ++ (a ∷ [])) s (omega (arith, h, g, stored_height e a z, exprs_last acc a)) (omega (arith, p, q))) (none K))
      (r_end v acc e r (omega (arith, h, g)) p))

  r_value : (i : List Terminal) → weight i < b → R Stmt (under highest_in) 0 b (value_statement self i) (value_statement other i)
  r_value i w = named_with K Sign.Colon i (λ x s q. r_annotation 0 (Trees.Name x Store) true s (omega arith) (omega (arith, w, q)))
      (r_loop 0 (suc (length i)) [] i (omega arith) w)

  r_deleted : (i : List Terminal) → weight i < b → R Expr (under height) 0 b (deleted_one self i) (deleted_one other i)
  r_deleted i w = one Expression i w (λ v e r g p. making K (deleted e) r (λ a q. omega (arith, g, deleted_height e a q)) p)

  r_type_param : (i : List Terminal) → weight i < b
      → R TypeParam (under type_param_height) 0 b (read_type_param self i) (read_type_param other i)
  r_type_param i w =
      first K name_in heavy_name i
      (λ x r q. beside K (r_after (Op Sign.Colon) Expression r (omega (arith, w, q))) (λ v e r1 g p. found K (omega (arith, g)) p))
      (first K (is_op Sign.Star) (heavy_op Sign.Star) i
      (λ _ r q. first K name_in heavy_name r (λ x r1 p. found K (omega arith) (omega (arith, w, q, p))) (none K))
      (first K (is_op Sign.DoubleStar) (heavy_op Sign.DoubleStar) i
      (λ _ r q. first K name_in heavy_name r (λ x r1 p. found K (omega arith) (omega (arith, w, q, p))) (none K)) (none K)))

  r_type_params : (profile : Profile) (i : List Terminal) → weight i < b
      → R (List TypeParam) (under type_param_heights) 0 b (read_type_params profile self i) (read_type_params profile other i)
  r_type_params profile i w =
      choose K (has_types profile)
      (first K (is_op Sign.LSqb) (heavy_op Sign.LSqb) i
      (λ _ r q. beside K (r_commas K b type_param_height type_param_heights (λ a as_. refl) (read_type_param self) (read_type_param other)
      starts_type_param r_type_param (suc (length r)) r (omega (arith, w, q)))
      (λ v ps r1 g p. closing K Sign.RSqb r1 ps (omega (arith, g)) p)) (found K (omega arith) w)) (found K (omega arith) w)

  r_alias : (profile : Profile) (x : Identifier) (i : List Terminal) → weight i < b
      → R Stmt (under highest_in) 0 b (alias_rest profile self x i) (alias_rest profile other x i)
  r_alias profile x i w =
      beside K (r_type_params profile i w)
      (λ v ps r g p. first K (is_op Sign.Equal) (heavy_op Sign.Equal) r
      (λ _ r1 q. one Expression r1 (omega (arith, p, q)) (λ u e r2 k z. found K (omega (arith, g, k)) z)) (none K))

  r_type : (profile : Profile) (i : List Terminal) → weight i < b
      → R Stmt (under highest_in) 0 b (on_type profile i (alias_rest profile self) (value_statement self i))
      (on_type profile i (alias_rest profile other) (value_statement other i))
  r_type profile i w =
      choose K (has_types profile)
      (first K is_type heavy_type i
      (λ _ r q. first K name_in heavy_name r (λ x r1 p. r_alias profile x r1 (omega (arith, w, q, p))) (r_value i w)) (r_value i w))
      (r_value i w)

  r_start : (profile : Profile) (z : Start) (i r : List Terminal) → weight i < b → weight r < b
      → R Stmt (under highest_in) 0 b (statement_of profile self z i r) (statement_of profile other z i r)
  r_start profile Values i r v w = r_type profile i v
  r_start profile Returns i r v w = beside K (r_if_any Stars r w) (λ u e r1 g p. found K (omega (arith, g)) p)
  r_start profile Raises i r v w =
      choose K (starts (Of Expression) r)
      (one Expression r w (λ u e r1 g p. beside K (r_after (Word Key.From) Expression r1 p)
      (λ x c r2 k q. found K (omega (arith, g, k)) q)))
      (found K (omega arith) w)
  r_start profile Asserts i r v w =
      one Expression r w (λ u e r1 g p. beside K (r_after (Op Sign.Comma) Expression r1 p) (λ x m r2 k q. found K (omega (arith, g, k)) q))
  r_start profile Deletes i r v w =
      beside K (r_commas K b height list_height (λ a as_. refl) (deleted_one self) (deleted_one other) (starts (Of Expression)) r_deleted
      (suc (length r)) r w) (λ u es r1 g p. found K (omega (arith, g)) p)
  r_start profile Globals i r v w =
      beside K (r_commas K b flat flat (λ a as_. omega arith) read_name read_name always (r_name K b) (suc (length r)) r w)
      (λ u xs r1 g p. found K (omega (arith, g)) p)
  r_start profile Nonlocals i r v w =
      beside K (r_commas K b flat flat (λ a as_. omega arith) read_name read_name always (r_name K b) (suc (length r)) r w)
      (λ u xs r1 g p. found K (omega (arith, g)) p)
  r_start profile Passes i r v w = found K (omega arith) w
  r_start profile Breaks i r v w = found K (omega arith) w
  r_start profile Continues i r v w = found K (omega arith) w
  r_start profile Imports i r v w =
      beside K (r_commas K b flat flat (λ a as_. omega arith) dotted_alias dotted_alias always (r_dotted_alias K b) (suc (length r)) r w)
      (λ u xs r1 g p. found K (omega (arith, g)) p)
  r_start profile Froms i r v w = r_from K b r w

  r_statement : (profile : Profile) (i : List Terminal) → weight i < b
      → R Stmt (under highest_in) 0 b (statement profile self i) (statement profile other i)
  r_statement profile [] w = none K
  r_statement profile (t ∷ r) w = r_start profile (start t) (t ∷ r) r w (omega (arith, w, weight_next t r))

  r_statements : (profile : Profile) (m : ℕ) (i : List Terminal) → weight i < b
      → R (List Stmt) (under suite_height) 0 b (statements profile self m i) (statements profile other m i)
  r_statements profile zero i w = none K
  r_statements profile (suc m) i w =
      beside K (r_statement profile i w)
      (λ v s r g p. first K (is_op Sign.Semi) (heavy_op Sign.Semi) r
      (λ _ r1 q. nothing_left K b r1 (found K (omega (arith, g)) (omega (arith, p)))
      (beside K (r_statements profile m r1 (omega (arith, p, q))) (λ u ss r2 k z. found K (omega (arith, g, k)) z)))
      (found K (omega (arith, g)) p))

  -- ---- Headers.
  r_item_target : (i : List Terminal) → weight i < b → R Expr (under height) 0 b (item_target self i) (item_target other i)
  r_item_target i w =
      first K (is_op Sign.Star) (heavy_op Sign.Star) i
      (λ _ s q. one Expression s (omega (arith, w, q)) (λ v e r g p. making K (stored (Trees.Starred e Load)) r
      (λ a z. omega (arith, g, stored_height (Trees.Starred e Load) a z)) p))
      (one Expression i w (λ v e r g p. making K (stored e) r (λ a z. omega (arith, g, stored_height e a z)) p))

  pub r_item : (i : List Terminal) → weight i < b → R Item (under item_height) 0 b (read_item self i) (read_item other i)
  r_item i w = one Expression i w
      (λ v e r g p. first K (is_word Key.As) (heavy_word Key.As) r
      (λ _ s q. beside K (r_item_target s (omega (arith, p, q))) (λ u t r2 k z. found K (omega (arith, g, k)) z))
      (found K (omega (arith, g)) p))

  pub r_bracketed : (i : List Terminal) → weight i < b → R (List Item) (under item_heights) 0 b (bracketed self i) (bracketed other i)
  r_bracketed i w =
      first K (is_op Sign.LPar) (heavy_op Sign.LPar) i
      (λ _ r q. beside K (r_commas K b item_height item_heights (λ a as_. refl) (read_item self) (read_item other) (starts (Of Expression))
      r_item (suc (length r)) r (omega (arith, w, q)))
      (λ v is r1 g p. first K (is_op Sign.RPar) (heavy_op Sign.RPar) r1
      (λ _ r2 z. first K (is_op Sign.Colon) (heavy_op Sign.Colon) r2 (λ _ _ _. found K (omega (arith, g)) (omega (arith, p, z))) (none K))
      (none K))) (none K)

  pub r_bare_items : (i : List Terminal) → weight i < b
      → R (List Item) (under item_heights) 0 b (commas_of (read_item self) always i) (commas_of (read_item other) always i)
  r_bare_items i w =
      r_commas K b item_height item_heights (λ a as_. refl) (read_item self) (read_item other) always r_item (suc (length i)) i w

  r_for : (c : Bool) (i : List Terminal) → weight i < b → R Header (under header_height) 0 b (for_rest self c i) (for_rest other c i)
  r_for c i w =
      beside K (r_target K self other b all b i (omega (arith, w)) w)
      (λ v t r g p. first K (is_word Key.In) (heavy_word Key.In) r
      (λ _ s q. one Stars s (omega (arith, p, q))
      (λ u e r2 k z. option K (stored t) (λ a y. found K (omega (arith, g, k, stored_height t a y)) z) (none K))) (none K))

  r_except_of : (c : Bool) (i : List Terminal) → weight i < b
      → R Header (under header_height) 0 b (except_of self c i) (except_of other c i)
  r_except_of c i w = one Expression i w (λ v e r g p. beside K (r_as K b r p) (λ u x r1 k q. found K (omega (arith, g, k)) q))

  r_except : (i : List Terminal) → weight i < b → R Header (under header_height) 0 b (except_rest self i) (except_rest other i)
  r_except i w =
      first K (is_op Sign.Star) (heavy_op Sign.Star) i (λ _ s q. r_except_of true s (omega (arith, w, q)))
      (choose K (starts (Of Expression) i) (r_except_of false i w) (found K (omega arith) w))

  r_function : (t : ℕ) (c : Bool) (x : Identifier) (tps : List TypeParam) (i : List Terminal) → t ≤ suc (type_param_heights tps)
      → weight i < b → R Header (under header_height) t b (function_rest self c x tps i) (function_rest other c x tps i)
  r_function t c x tps i h w =
      first K (is_op Sign.LPar) (heavy_op Sign.LPar) i
      (λ _ r q. beside K (r_listing_of K self other b all 0 b (Parameter true) [] r (omega arith)
      (omega (arith, w, q)) (omega (arith, w, q)))
      (λ v ps r1 g p. first K (is_op Sign.RPar) (heavy_op Sign.RPar) r1
      (λ _ r2 z. option K (arranged ps)
      (λ a y. beside K (r_after (Op Sign.RArrow) Expression r2 (omega (arith, p, z)))
      (λ u e r3 k n. found K (omega (arith, h, g, k, arranged_height ps a y, parameters_size true ps)) n)) (none K)) (none K))) (none K)

  r_def : (profile : Profile) (c : Bool) (i : List Terminal) → weight i < b
      → R Header (under header_height) 0 b (def_rest profile self c i) (def_rest profile other c i)
  r_def profile c i w =
      first K name_in heavy_name i
      (λ x r q. beside K (r_type_params profile r (omega (arith, w, q))) (λ v tps r1 g p. r_function v c x tps r1 (omega (arith, g)) p))
      (none K)

  r_bases : (t : ℕ) (x : Identifier) (tps : List TypeParam) (i : List Terminal) → t ≤ suc (type_param_heights tps)
      → weight i < b → R Header (under header_height) t b (bases_rest self x tps i) (bases_rest other x tps i)
  r_bases t x tps i h w =
      first K (is_op Sign.LPar) (heavy_op Sign.LPar) i
      (λ _ r q. beside K (r_listing_of K self other b all 0 b Argument [] r (omega arith) (omega (arith, w, q)) (omega (arith, w, q)))
      (λ v es r1 g p. first K (is_op Sign.RPar) (heavy_op Sign.RPar) r1
      (λ _ r2 z. tested K (in_order false false es)
      (λ y. found K (omega (arith, h, g, arguments_size es, bases_height es y)) (omega (arith, p, z))) (none K)) (none K)))
      (found K (omega (arith, h)) w)

  r_class : (profile : Profile) (i : List Terminal) → weight i < b
      → R Header (under header_height) 0 b (class_rest profile self i) (class_rest profile other i)
  r_class profile i w =
      first K name_in heavy_name i
      (λ x r q. beside K (r_type_params profile r (omega (arith, w, q))) (λ v tps r1 g p. r_bases v x tps r1 (omega (arith, g)) p)) (none K)

  r_suite : (profile : Profile) (t : ℕ) (h : Header) (i : List Terminal) → t ≤ suc (header_height h) → weight i < b
      → R Form (under form_height) t b (suite profile self h i) (suite profile other h i)
  r_suite profile t h [] g w = found K g w
  r_suite profile t h (z ∷ r) g w = beside K (r_statements profile (suc (length (z ∷ r))) (z ∷ r) w)
      (λ v ss r1 k p. found K (omega (arith, g, k)) p)

  -- after the pattern of a case
  pub r_after_pattern : (profile : Profile) (t : ℕ) (m : Pattern) (r : List Terminal) → t ≤ suc (pattern_height m) → weight r < b
      → R Form (under form_height) t b
      (and_then (after self (Word Key.If) Named r)
      (λ g r1. on_first (is_op Sign.Colon) r1 (λ _ u. suite profile self (case_header m g) u) NoForm))
      (and_then (after other (Word Key.If) Named r)
      (λ g r1. on_first (is_op Sign.Colon) r1 (λ _ u. suite profile other (case_header m g) u) NoForm))
  r_after_pattern profile t m r h w =
      beside K (r_after (Word Key.If) Named r w)
      (λ v g r1 k p. first K (is_op Sign.Colon) (heavy_op Sign.Colon) r1
      (λ _ u q. r_suite profile v (case_header m g) u (omega (arith, h, k)) (omega (arith, p, q))) (none K))

  pub r_case_rest : (profile : Profile) (patterns others : PatternReads) (i : List Terminal)
      → R Pattern (under pattern_height) 0 b (patterns Patterns i) (others Patterns i)
      → R Form (under form_height) 0 b (case_rest profile self patterns i) (case_rest profile other others i)
  r_case_rest profile patterns others i h = beside K h (λ v m u g p. r_after_pattern profile v m u (omega (arith, g)) p)

  pub r_case : (profile : Profile) (patterns others : PatternReads) (i : List Terminal)
      → ((r : List Terminal) → weight r ≤ weight i → R Pattern (under pattern_height) 0 b (patterns Patterns r) (others Patterns r))
      → R Form (under form_height) 0 b (case_front profile self patterns i) (case_front profile other others i)
  r_case profile patterns others [] h = none K
  r_case profile patterns others (t ∷ r) h = r_case_rest profile patterns others r (h r (weight_next t r))

  r_whole : {x y : Answer Form} → 0 < b → R Form (under form_height) 0 b x y
      → R Form (under form_height) 0 b (and_then x (λ f r. on_none r (Found f []) NoForm))
      (and_then y (λ f r. on_none r (Found f []) NoForm))
  r_whole w h = beside K h (λ v f r g p. nothing_left K b r (found K (omega (arith, g)) (omega (arith, w))) (none K))

  -- with the items of `with`, in brackets or not, and the patterns of cases
  module _ (items : (i : List Terminal) → weight i < b → R (List Item) (under item_heights) 0 b (read_items self i) (read_items other i))
    where
      r_with : (c : Bool) (i : List Terminal) → weight i < b → R Header (under header_height) 0 b (with_rest self c i) (with_rest other c i)
      r_with c i w = beside K (items i w) (λ v is r g p. found K (omega (arith, g)) p)

      r_header : (profile : Profile) (i : List Terminal) → weight i < b
          → R Header (under header_height) 0 b (read_header profile self i) (read_header profile other i)
      r_header profile (Word Key.If ∷ r) w = one Named r (omega (arith, w)) (λ v e r1 g p. found K (omega (arith, g)) p)
      r_header profile (Word Key.Elif ∷ r) w = one Named r (omega (arith, w)) (λ v e r1 g p. found K (omega (arith, g)) p)
      r_header profile (Word Key.While ∷ r) w = one Named r (omega (arith, w)) (λ v e r1 g p. found K (omega (arith, g)) p)
      r_header profile (Word Key.Else ∷ r) w = found K (omega arith) (omega (arith, w))
      r_header profile (Word Key.Try ∷ r) w = found K (omega arith) (omega (arith, w))
      r_header profile (Word Key.Finally ∷ r) w = found K (omega arith) (omega (arith, w))
      r_header profile (Word Key.For ∷ r) w = r_for false r (omega (arith, w))
      r_header profile (Word Key.With ∷ r) w = r_with false r (omega (arith, w))
      r_header profile (Word Key.Except ∷ r) w = r_except r (omega (arith, w))
      r_header profile (Word Key.Def ∷ r) w = r_def profile false r (omega (arith, w))
      r_header profile (Word Key.Class ∷ r) w = r_class profile r (omega (arith, w))
      r_header profile (Word Key.Async ∷ (Word Key.For ∷ r)) w = r_for true r (omega (arith, w))
      r_header profile (Word Key.Async ∷ (Word Key.With ∷ r)) w = r_with true r (omega (arith, w))
      r_header profile (Word Key.Async ∷ (Word Key.Def ∷ r)) w = r_def profile true r (omega (arith, w))
      r_header profile (Word Key.Async ∷ (Word _ ∷ r)) w = none K
      r_header profile (Word Key.Async ∷ (_ ∷ r)) w = none K
      r_header profile (Word _ ∷ r) w = none K
      r_header profile _ w = none K

      r_line_of : (profile : Profile) (z : Opening) (i r : List Terminal) → weight i < b → weight r < b
          → R Form (under form_height) 0 b (line_of profile self z i r) (line_of profile other z i r)
      r_line_of profile Decorates i r v w = one Named r w (λ u e r1 g p. found K (omega (arith, g)) p)
      r_line_of profile Heads i r v w =
          beside K (r_header profile i v)
          (λ x h r1 g p. first K (is_op Sign.Colon) (heavy_op Sign.Colon) r1
          (λ _ u q. r_suite profile x h u (omega (arith, g)) (omega (arith, p, q))) (none K))
      r_line_of profile States i r v w = beside K (r_statements profile (suc (length i)) i v) (λ u ss r1 g p. found K (omega (arith, g)) p)

      r_match : (profile : Profile) (i : List Terminal) → weight i < b
          → R Form (under form_height) 0 b (match_rest profile self i) (match_rest profile other i)
      r_match profile i w = one Subject i w
          (λ v e r g p. first K (is_op Sign.Colon) (heavy_op Sign.Colon) r
          (λ _ r1 q. found K (omega (arith, g)) (omega (arith, p, q))) (none K))

      pub r_front : (profile : Profile) (i : List Terminal) → weight i < b
          → R Form (under form_height) 0 b (line_front profile self i) (line_front profile other i)
      r_front profile [] w = none K
      r_front profile (t ∷ r) w = choose K (is_match_line profile (t ∷ r)) (r_match profile r (omega (arith, w, weight_next t r)))
          (r_line_of profile (opening t) (t ∷ r) r w (omega (arith, w, weight_next t r)))

      pub r_place : (patterns others : PatternReads) (profile : Profile) (inside : Bool) (i : List Terminal) → weight i < b
          → R Form (under form_height) 0 b (case_front profile self patterns i) (case_front profile other others i)
          → R Form (under form_height) 0 b (line_at profile self patterns inside i) (line_at profile other others inside i)
      r_place patterns others profile inside i w h =
          choose K (is_case_line profile inside i) (r_whole (omega (arith, w)) h) (r_whole (omega (arith, w)) (r_front profile i w))
