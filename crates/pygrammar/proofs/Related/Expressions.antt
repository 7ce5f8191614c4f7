-- Two readings of the parts of an expression: what each combinator keeps, each part of the reader keeps.
--
-- Carries: r_one, r_listing_of, r_target, r_call, r_operation and 15 more, for Related/Strings, Levels, Capped, Lines. On: Rules, Sizes.
use Rattle.std.proofs.Common.{◌≡◌, ◌⊎◌, inl, inr, refl, ℕ, zero, suc, ◌≤◌, ◌<◌, arith, List, [], ◌∷◌, ◌++◌, length, Option, Some, None}
use Rattle.std.proofs.Common.{Bool, true, false, cond}
use Rattle.std.specs.Prelude.{max}
use Rattle.pylex_lexeme.specs.declared.kinds.Exact.{Exact}
use Rattle.pylex_lexeme.specs.declared.kinds.Exact.TheVariants.{LPar, RPar, LSqb, RSqb, RBrace, Colon, Comma, Star, Slash, Equal}
use Rattle.pylex_lexeme.specs.declared.kinds.Exact.TheVariants.{Dot, DoubleStar}
use Rattle.pytoken.specs.declared.keywords.Keyword.TheVariants as Key
use Rattle.pytree_node.specs.declared.operators.BoolOperator.{BoolOperator}
use Rattle.pytree_node.specs.declared.operators.Comparison.{Comparison}
use Rattle.pytree_node.specs.declared.operators.Comparison.TheVariants as Is
use Rattle.pytree_node.specs.declared.operators.Context.TheVariants.{Load}
use Rattle.pygrammar.specs.declared.levels.Level.{Level}
use Rattle.pygrammar.specs.declared.levels.Level.TheVariants.{Stars, StarItem, Named, Expression, Or, BitOr, Factor, Primary}
use Rattle.pygrammar.specs.declared.levels.Level.TheVariants.{Elem, Slices}
use Rattle.pytree_node.specs.Trees
use Rattle.pytree_node.specs.Trees.{Expr, OptionalExpr, Arguments, Comprehension}
use Rattle.pytoken.specs.Terminals.{Terminal}
use Rattle.pytree_height.specs.Heights.{height, optional_height}
use Rattle.pygrammar.specs.Lengths.{weight}
use Rattle.pygrammar.specs.Looks.{is_op, is_word, name_in}
use Rattle.pygrammar.specs.Operators.{below, chain_level, chain_word, comparison}
use Rattle.pygrammar.specs.Entries.{Item, Of, Pair, Argument, Parameter, Entry, Single, Paired, Doubled}
use Rattle.pygrammar.specs.Arguments.{called}
use Rattle.pygrammar.specs.Parameters.{arranged}
use Rattle.pygrammar.specs.Targets.{stored}
use Rattle.pygrammar.specs.Inner.EntryHeights.{entry_height, entries_height}
use Rattle.pygrammar.specs.Reader.{Answer, made, generator_of, lambda_of, Reads, perhaps, suffixed, starred}
use Rattle.pygrammar.specs.Reader.{star_annotated, read_pair, read_argument, read_parameter, piece, listing_loop, listing_of, others_of}
use Rattle.pygrammar.specs.Reader.{tupled, target_item, target_piece, read_target, ifs_loop, for_in_step, comps_loop, comps_closed}
use Rattle.pygrammar.specs.Reader.{yield_step, square, dict_from, curly, called_with, generator_call, call_step, primary_loop}
use Rattle.pygrammar.specs.Reader.{chain_loop, on_comparison, compare_loop, operation, climb_loop, prefixed, slice_rest, lambda_step}
use Rattle.pygrammar.specs.Reader.{if_else_step, and_then}
use Rattle.pygrammar.specs.Precedence.{Infix, Left, Raise, Joins, Compares, Prefix, Signed, Awaits, starts, starts_comp, infix_from}
use Rattle.pygrammar.proofs.Depths.Weights.{heavy_op, heavy_word, heavy_name, heavy_comparison}
use Rattle.pygrammar.proofs.Depths.Weights.{heavy_infix}
use Rattle.pygrammar.proofs.Heights.HeightLemmas.{stored_height, called_height, arranged_height}
use Rattle.pygrammar.proofs.Related.Sizes.{under, entry_size, list_size, list_last, singles_size, pairs_size, arguments_size}
use Rattle.pygrammar.proofs.Related.Sizes.{parameters_size, exprs_size, exprs_last, gen_size, gens_size, gens_last}
use Rattle.pygrammar.proofs.Related.Rules.{Relation, Kept, To, found, none, held, beside, choose, first, named_with}
use Rattle.pygrammar.proofs.Related.Rules.{not_starred, not_named, closing, making, either}

-- the parts of two readers whose lists count less than b
module _ {R : Relation} (K : Kept R) (self other : Reads) (b : ℕ) (all : To R b self other) where
  pub r_one : {B : Type 0} {u : B → ℕ} {t n : ℕ} (l : Level) (i : List Terminal) {k j : Expr → List Terminal → Answer B} → weight i < b
      → ((v : ℕ) (e : Expr) (r : List Terminal) → v ≤ max t (suc (height e)) → weight r < weight i → R B u v n (k e r) (j e r))
      → R B u t n (and_then (self l i) k) (and_then (other l i) j)
  r_one l i w f = beside K (all l i w) f

  pub r_perhaps : (n : ℕ) (l : Level) (r : List Terminal) → weight r < n → weight r < b
      → R OptionalExpr (under optional_height) 0 n (perhaps self l r) (perhaps other l r)
  r_perhaps n l r h w = choose K (starts (Of l) r) (r_one l r w (λ v e r1 f p. found K (omega (arith, f)) (omega (arith, h, p))))
      (found K (omega arith) h)

  r_suffixed : (n : ℕ) (x : Option Exact) (r : List Terminal) → weight r < n → weight r < b
      → R OptionalExpr (under optional_height) 0 n (suffixed self x r) (suffixed other x r)
  r_suffixed n None r h w = found K (omega arith) h
  r_suffixed n (Some x) r h w =
      first K (is_op x) (heavy_op x) r
      (λ _ s q. r_one Expression s (omega (arith, q, w)) (λ v e r1 f p. found K (omega (arith, f)) (omega (arith, h, q, p))))
      (found K (omega arith) h)

  pub r_starred : {u : Expr → ℕ} (n : ℕ) (l : Level) (r : List Terminal) {x y : Answer Expr}
      → ((e : Expr) → suc (height e) ≤ u (Trees.Starred e Load)) → weight r ≤ n → weight r ≤ b → R Expr u 0 n x y
      → R Expr u 0 n (starred self l r x) (starred other l r y)
  r_starred n l r g h w m =
      first K (is_op Star) (heavy_op Star) r
      (λ _ s q. r_one l s (omega (arith, q, w)) (λ v e r1 f p. found K (omega (arith, f, g e)) (omega (arith, h, q, p)))) m

  r_star_annotated : (n : ℕ) (c : Bool) (r : List Terminal) → weight r < n → weight r < b
      → R OptionalExpr (under optional_height) 0 n (star_annotated self c r) (star_annotated other c r)
  r_star_annotated n false r h w = found K (omega arith) h
  r_star_annotated n true r h w =
      first K (is_op Colon) (heavy_op Colon) r
      (λ _ s q. first K (is_op Star) (heavy_op Star) s
      (λ _ u p. r_one BitOr u (omega (arith, w, q, p)) (λ v e r1 f z. found K (omega (arith, f)) (omega (arith, h, q, p, z))))
      (r_one Expression s (omega (arith, w, q)) (λ v e r1 f p. found K (omega (arith, f)) (omega (arith, h, q, p)))))
      (found K (omega arith) h)

  r_pair : (n : ℕ) (r : List Terminal) → weight r ≤ n → weight r < b
      → R Entry (under (entry_size Pair)) 0 n (read_pair self r) (read_pair other r)
  r_pair n r h w =
      first K (is_op DoubleStar) (heavy_op DoubleStar) r
      (λ _ s q. r_one BitOr s (omega (arith, w, q)) (λ v e r1 f p. found K (omega (arith, f)) (omega (arith, h, q, p))))
      (r_one Expression r w (λ v k r1 f p. first K (is_op Colon) (heavy_op Colon) r1
      (λ _ s q. r_one Expression s (omega (arith, w, p, q))
      (λ x e r2 g z. found K (omega (arith, f, g)) (omega (arith, h, p, q, z)))) (none K)))

  r_argument : (n : ℕ) (r : List Terminal) → weight r ≤ n → weight r < b
      → R Entry (under (entry_size Argument)) 0 n (read_argument self r) (read_argument other r)
  r_argument n r h w =
      first K (is_op Star) (heavy_op Star) r
      (λ _ s q. r_one Expression s (omega (arith, w, q)) (λ v e r1 f p. found K (omega (arith, f)) (omega (arith, h, q, p))))
      (first K (is_op DoubleStar) (heavy_op DoubleStar) r
      (λ _ s q. r_one Expression s (omega (arith, w, q)) (λ v e r1 f p. found K (omega (arith, f)) (omega (arith, h, q, p))))
      (named_with K Equal r
      (λ x s q. r_one Expression s (omega (arith, w, q)) (λ v e r1 f p. found K (omega (arith, f)) (omega (arith, h, q, p))))
      (r_one Named r w (λ v e r1 f p. found K (omega (arith, f)) (omega (arith, h, p))))))

  r_parameter : (n : ℕ) (c : Bool) (r : List Terminal) → weight r ≤ n → weight r < b
      → R Entry (under (entry_size (Parameter c))) 0 n (read_parameter self c r) (read_parameter other c r)
  r_parameter n c r h w =
      first K name_in heavy_name r
      (λ x r1 q. beside K (r_suffixed (suc (weight r1)) (cond c (Some Colon) None) r1 (omega arith) (omega (arith, w, q)))
      (λ v a r2 f p. beside K (r_suffixed n (Some Equal) r2 (omega (arith, h, q, p)) (omega (arith, w, q, p)))
      (λ u d r3 g z. found K (omega (arith, f, g)) z)))
      (first K (is_op Star) (heavy_op Star) r
      (λ _ r1 q. first K name_in heavy_name r1
      (λ x r2 p. beside K (r_star_annotated n c r2 (omega (arith, h, q, p)) (omega (arith, w, q, p)))
      (λ v a r3 f z. found K (omega (arith, f)) z)) (found K (omega arith) (omega (arith, h, q))))
      (first K (is_op DoubleStar) (heavy_op DoubleStar) r
      (λ _ r1 q. first K name_in heavy_name r1
      (λ x r2 p. beside K (r_suffixed n (cond c (Some Colon) None) r2 (omega (arith, h, q, p)) (omega (arith, w, q, p)))
      (λ v a r3 f z. found K (omega (arith, f)) z)) (none K))
      (first K (is_op Slash) (heavy_op Slash) r (λ _ r1 q. found K (omega arith) (omega (arith, h, q))) (none K))))

  r_piece : (n : ℕ) (i : Item) (r : List Terminal) → weight r ≤ n → weight r < b
      → R Entry (under (entry_size i)) 0 n (piece self i r) (piece other i r)
  r_piece n (Of l) r h w = r_one l r w (λ v e r1 f p. found K (omega (arith, f)) (omega (arith, h, p)))
  r_piece n Pair r h w = r_pair n r h w
  r_piece n Argument r h w = r_argument n r h w
  r_piece n (Parameter c) r h w = r_parameter n c r h w

r_listing : {R : Relation} (K : Kept R) (one two : List Terminal → Answer Entry) (i : Item) (b : ℕ)
    → ((r : List Terminal) → weight r < b → R Entry (under (entry_size i)) 0 (weight r) (one r) (two r))
    → (t n m : ℕ) (acc : List Entry) (r : List Terminal) → t ≤ suc (list_size i acc) → weight r < n → weight r < b
    → R (List Entry) (under (list_size i)) t n (listing_loop one i m acc r) (listing_loop two i m acc r)
r_listing K one two i b f t n zero acc r g h w = found K g h
r_listing K one two i b f t n (suc m) acc r g h w =
    choose K (starts i r)
    (beside K (f r w) (λ v e r1 q p. first K (is_op Comma) (heavy_op Comma) r1
    (λ _ r2 z. r_listing K one two i b f v n m (acc ++ (e ∷ [])) r2 (omega (arith, g, q, list_last i acc e)) (omega (arith, h, p, z))
    (omega (arith, w, p, z))) (found K (omega (arith, g, q, list_last i acc e)) (omega (arith, h, p))))) (found K g h)

module _ {R : Relation} (K : Kept R) (self other : Reads) (b : ℕ) (all : To R b self other) where
  pub r_listing_of : (t n : ℕ) (i : Item) (acc : List Entry) (r : List Terminal) → t ≤ suc (list_size i acc) → weight r < n → weight r < b
      → R (List Entry) (under (list_size i)) t n (listing_of self i acc r) (listing_of other i acc r)
  r_listing_of t n i acc r g h w = r_listing K (piece self i) (piece other i) i b
      (λ u q. r_piece K self other b all (weight u) i u (omega arith) q) t n (length r) acc r g h w

  r_others : (t n : ℕ) (i : Item) (e : Entry) (r : List Terminal) → t ≤ suc (entry_size i e) → weight r < n → weight r < b
      → R (List Entry) (under (list_size i)) t n (others_of self i e r) (others_of other i e r)
  r_others t n i e r g h w =
      first K (is_op Comma) (heavy_op Comma) r
      (λ _ r1 q. r_listing_of t n i (e ∷ []) r1 (omega (arith, g)) (omega (arith, h, q)) (omega (arith, w, q)))
      (found K (omega (arith, g)) h)

  pub r_tupled : (t n : ℕ) (l : Level) (e : Expr) (r : List Terminal) {x y : Answer Expr} → t ≤ height e → weight r < n → weight r ≤ b
      → R Expr height t n x y → R Expr height t n (tupled self (Of l) e r x) (tupled other (Of l) e r y)
  r_tupled t n l e r g h w m =
      first K (is_op Comma) (heavy_op Comma) r
      (λ _ r1 q. beside K (r_listing_of 0 n (Of l) [] r1 (omega arith) (omega (arith, h, q)) (omega (arith, w, q)))
      (λ v es r2 f p. found K (omega (arith, g, f, singles_size l es)) p)) m

  r_target_item : (r : List Terminal) → weight r < b → R Expr (under height) 0 (weight r) (target_item self r) (target_item other r)
  r_target_item r w = r_starred K self other b all (weight r) Primary r (λ e. omega arith) (omega arith)
      (omega (arith, w)) (all Primary r w)

  r_target_piece : (r : List Terminal) → weight r < b
      → R Entry (under (entry_size (Of StarItem))) 0 (weight r) (target_piece self r) (target_piece other r)
  r_target_piece r w = beside K (r_target_item r w) (λ v e r1 f p. found K (omega (arith, f)) p)

  pub r_target : (n : ℕ) (r : List Terminal) → weight r ≤ n → weight r < b
      → R Expr (under height) 0 n (read_target self r) (read_target other r)
  r_target n r h w =
      beside K (r_target_item r w)
      (λ v e r1 f p. first K (is_op Comma) (heavy_op Comma) r1
      (λ _ r2 q. beside K (r_listing K (target_piece self) (target_piece other) (Of StarItem) b r_target_piece 0 n (length r2) [] r2
      (omega arith) (omega (arith, h, p, q)) (omega (arith, w, p, q)))
      (λ u es r3 g z. found K (omega (arith, f, g, singles_size StarItem es)) z)) (found K (omega (arith, f)) (omega (arith, h, p))))

  r_ifs : (t n m : ℕ) (acc : List Expr) (r : List Terminal) → t ≤ suc (exprs_size acc) → weight r < n → weight r < b
      → R (List Expr) (under exprs_size) t n (ifs_loop self m acc r) (ifs_loop other m acc r)
  r_ifs t n zero acc r g h w = found K g h
  r_ifs t n (suc m) acc r g h w =
      first K (is_word Key.If) (heavy_word Key.If) r
      (λ _ r1 q. r_one K self other b all Or r1 (omega (arith, w, q))
      (λ v e r2 f p. r_ifs v n m (acc ++ (e ∷ [])) r2 (omega (arith, g, f, exprs_last acc e)) (omega (arith, h, q, p))
      (omega (arith, w, q, p))))
      (found K g h)

  r_generator : (t n : ℕ) (e d : Expr) (cs : List Expr) (c : Bool) (r : List Terminal)
      → t ≤ suc (max (height e) (max (height d) (exprs_size cs))) → weight r < n
      → R Comprehension (under gen_size) t n (made (generator_of (stored e) d cs c) r) (made (generator_of (stored e) d cs c) r)
  r_generator t n e d cs c r g h = go (stored e) refl
    where
      go : (o : Option Expr) → stored e ≡ o
          → R Comprehension (under gen_size) t n (made (generator_of o d cs c) r) (made (generator_of o d cs c) r)
      go None q = none K
      go (Some s) q = found K (omega (arith, g, stored_height e s q)) h

  r_for_in : (n : ℕ) (c : Bool) (r : List Terminal) → weight r ≤ n → weight r < b
      → R Comprehension (under gen_size) 0 n (for_in_step self c r) (for_in_step other c r)
  r_for_in n c r h w =
      beside K (r_target (weight r) r (omega arith) w)
      (λ v e r1 f p. first K (is_word Key.In) (heavy_word Key.In) r1
      (λ _ r2 q. r_one K self other b all Or r2 (omega (arith, w, p, q))
      (λ u d r3 g z. beside K (r_ifs 0 n (length r3) [] r3 (omega arith) (omega (arith, h, p, q, z)) (omega (arith, w, p, q, z)))
      (λ x cs r4 k y. r_generator x n e d cs c r4 (omega (arith, f, g, k)) y))) (none K))

  r_comps : (t n m : ℕ) (acc : List Comprehension) (r : List Terminal) → t ≤ suc (gens_size acc) → weight r < n → weight r < b
      → R (List Comprehension) (under gens_size) t n (comps_loop self m acc r) (comps_loop other m acc r)
  r_comps t n zero acc r g h w = found K g h
  r_comps t n (suc m) acc r g h w =
      first K (is_word Key.For) (heavy_word Key.For) r
      (λ _ r1 q. beside K (r_for_in (weight r1) false r1 (omega arith) (omega (arith, w, q)))
      (λ v c r2 f p. r_comps v n m (acc ++ (c ∷ [])) r2 (omega (arith, g, f, gens_last acc c)) (omega (arith, h, q, p))
      (omega (arith, w, q, p))))
      (first K (is_word Key.Async) (heavy_word Key.Async) r
      (λ _ r1 q. first K (is_word Key.For) (heavy_word Key.For) r1
      (λ _ r2 p. beside K (r_for_in (weight r2) true r2 (omega arith) (omega (arith, w, q, p)))
      (λ v c r3 f z. r_comps v n m (acc ++ (c ∷ [])) r3 (omega (arith, g, f, gens_last acc c)) (omega (arith, h, q, p, z))
      (omega (arith, w, q, p, z)))) (none K)) (found K g h))

  pub r_comps_closed : (t n : ℕ) (s : Exact) (r : List Terminal) (make : List Comprehension → Expr)
      → ((gs : List Comprehension) → max t (suc (gens_size gs)) ≤ height (make gs)) → weight r < n → weight r < b
      → R Expr height t n (comps_closed self s r make) (comps_closed other s r make)
  r_comps_closed t n s r make g h w = beside K (r_comps 0 n (length r) [] r (omega arith) h w)
      (λ v gs r1 f p. closing K s r1 (make gs) (omega (arith, f, g gs)) p)

  pub r_yield : (n : ℕ) (r : List Terminal) → weight r < n → weight r < b → R Expr height 0 n (yield_step self r) (yield_step other r)
  r_yield n r h w =
      first K (is_word Key.From) (heavy_word Key.From) r
      (λ _ r1 q. r_one K self other b all Expression r1 (omega (arith, w, q))
      (λ v e r2 f p. found K (omega (arith, f)) (omega (arith, h, q, p))))
      (beside K (r_perhaps K self other b all n Stars r h w) (λ v e r1 f p. found K (omega (arith, f)) p))

  pub r_square : (n : ℕ) (r : List Terminal) → weight r < n → weight r < b → R Expr height 0 n (square self r) (square other r)
  r_square n r h w =
      choose K (starts (Of Elem) r)
      (r_one K self other b all Elem r w
      (λ v e r1 f p. choose K (starts_comp r1)
      (not_starred K r (r_comps_closed v n RSqb r1 _ (λ gs. omega (arith, f)) (omega (arith, h, p)) (omega (arith, w, p))))
      (held K (r_others v n (Of Elem) (Single e) r1 (omega (arith, f)) (omega (arith, h, p)) (omega (arith, w, p)))
      (λ u es r2 g q. closing K RSqb r2 _ (omega (arith, g, singles_size Elem es)) q))))
      (closing K RSqb r _ (omega arith) h)

  r_dict : (t n : ℕ) (e : Entry) (r : List Terminal) → t ≤ suc (entry_size Pair e) → weight r < n → weight r < b
      → R Expr height t n (dict_from self e r) (dict_from other e r)
  r_dict t n e r g h w = held K (r_others t n Pair e r g h w)
      (λ v fs r1 f p. closing K RBrace r1 _ (omega (arith, f, pairs_size fs)) p)

  pub r_curly : (n : ℕ) (r : List Terminal) → weight r < n → weight r < b → R Expr height 0 n (curly self r) (curly other r)
  r_curly n r h w =
      first K (is_op RBrace) (heavy_op RBrace) r (λ _ r1 q. found K (omega arith) (omega (arith, h, q)))
      (first K (is_op DoubleStar) (heavy_op DoubleStar) r
      (λ _ r1 q. r_one K self other b all BitOr r1 (omega (arith, w, q))
      (λ v e r2 f p. r_dict v n (Doubled e) r2 (omega (arith, f)) (omega (arith, h, q, p)) (omega (arith, w, q, p))))
      (r_one K self other b all Elem r w
      (λ v e r1 f p. first K (is_op Colon) (heavy_op Colon) r1
      (λ _ r2 q. not_starred K r
      (not_named K r (r_one K self other b all Expression r2 (omega (arith, w, p, q))
      (λ u d r3 g z. choose K (starts_comp r3)
      (r_comps_closed u n RBrace r3 _ (λ gs. omega (arith, f, g)) (omega (arith, h, p, q, z)) (omega (arith, w, p, q, z)))
      (r_dict u n (Paired e d) r3 (omega (arith, f, g)) (omega (arith, h, p, q, z)) (omega (arith, w, p, q, z)))))))
      (choose K (starts_comp r1)
      (not_starred K r (r_comps_closed v n RBrace r1 _ (λ gs. omega (arith, f)) (omega (arith, h, p)) (omega (arith, w, p))))
      (held K (r_others v n (Of Elem) (Single e) r1 (omega (arith, f)) (omega (arith, h, p)) (omega (arith, w, p)))
      (λ u es r2 g q. closing K RBrace r2 _ (omega (arith, g, singles_size Elem es)) q))))))

  -- calls
  r_called : (t n : ℕ) (f : Expr) (es : List Entry) (r : List Terminal) → t ≤ suc (max (height f) (entries_height es)) → weight r < n
      → R Expr height t n (called_with self f es r) (called_with other f es r)
  r_called t n f es r g h =
      first K (is_op RPar) (heavy_op RPar) r
      (λ _ r1 q. making K (called f es) r1 (λ e z. omega (arith, g, called_height f e es z)) (omega (arith, h, q))) (none K)

  r_generator_call : (t n : ℕ) (f : Expr) (a : Entry) (r : List Terminal) → t ≤ suc (max (height f) (entry_height a)) → weight r < n
      → weight r < b → R Expr height t n (generator_call self f a r) (generator_call other f a r)
  r_generator_call t n f (Single e) r g h w = r_comps_closed t n RPar r _ (λ gs. omega (arith, g)) h w
  r_generator_call t n f _ r g h w = none K

  r_more_arguments : (t n : ℕ) (f : Expr) (a : Entry) (r : List Terminal) → (t ≤ height f) ⊎ (t ≤ suc (entry_size Argument a))
      → weight r < n → weight r < b
      → R Expr height t n (and_then (others_of self Argument a r) (λ es r2. called_with self f es r2))
      (and_then (others_of other Argument a r) (λ es r2. called_with other f es r2))
  r_more_arguments t n f a r (inl g) h w = beside K (r_others 0 n Argument a r (omega arith) h w)
      (λ v es r2 k q. r_called v n f es r2 (omega (arith, g, k, arguments_size es)) q)
  r_more_arguments t n f a r (inr g) h w = held K (r_others t n Argument a r g h w)
      (λ v es r2 k q. r_called v n f es r2 (omega (arith, k, arguments_size es)) q)

  pub r_call : (t n : ℕ) (f : Expr) (r : List Terminal) → t ≤ height f → weight r < n → weight r < b
      → R Expr height t n (call_step self f r) (call_step other f r)
  r_call t n f r g h w =
      choose K (starts Argument r)
      (beside K (r_piece K self other b all (weight r) Argument r (omega arith) w)
      (λ v a r1 k p. choose K (starts_comp r1)
      (r_generator_call v n f a r1 (omega (arith, g, k)) (omega (arith, h, p)) (omega (arith, w, p)))
      (r_more_arguments v n f a r1 (either v (height f) (suc (entry_size Argument a)) (omega (arith, g, k))) (omega (arith, h, p))
      (omega (arith, w, p))))) (r_called t n f [] r (omega (arith, g)) h)

  pub r_primary : (t n m : ℕ) (e : Expr) (r : List Terminal) → t ≤ height e → weight r < n → weight r ≤ b
      → R Expr height t n (primary_loop self m e r) (primary_loop other m e r)
  r_primary t n zero e r g h w = found K g h
  r_primary t n (suc m) e r g h w =
      first K (is_op Dot) (heavy_op Dot) r
      (λ _ r1 q. first K name_in heavy_name r1
      (λ x r2 p. r_primary t n m (Trees.Attribute e x Load) r2 (omega (arith, g)) (omega (arith, h, q, p)) (omega (arith, w, q, p)))
      (none K))
      (first K (is_op LPar) (heavy_op LPar) r
      (λ _ r1 q. held K (r_call t (weight r) e r1 g (omega (arith, q)) (omega (arith, w, q)))
      (λ v f r2 k p. r_primary v n m f r2 k (omega (arith, h, p)) (omega (arith, w, p))))
      (first K (is_op LSqb) (heavy_op LSqb) r
      (λ _ r1 q. r_one K self other b all Slices r1 (omega (arith, w, q))
      (λ v s r2 k p. first K (is_op RSqb) (heavy_op RSqb) r2
      (λ _ r3 z. r_primary v n m (Trees.Subscript e s Load) r3 (omega (arith, g, k)) (omega (arith, h, q, p, z))
      (omega (arith, w, q, p, z)))
      (none K))) (found K g h)))

  -- operators
  r_chain : (t n : ℕ) (o : BoolOperator) (m : ℕ) (acc : List Expr) (r : List Terminal) → t ≤ suc (exprs_size acc) → weight r < n
      → weight r ≤ b → R (List Expr) (under exprs_size) t n (chain_loop self o m acc r) (chain_loop other o m acc r)
  r_chain t n o zero acc r g h w = found K g h
  r_chain t n o (suc m) acc r g h w =
      first K (is_word (chain_word o)) (heavy_word (chain_word o)) r
      (λ _ r1 q. r_one K self other b all (below (chain_level o)) r1 (omega (arith, w, q))
      (λ v e r2 f p. r_chain v n o m (acc ++ (e ∷ [])) r2 (omega (arith, g, f, exprs_last acc e)) (omega (arith, h, q, p))
      (omega (arith, w, q, p)))) (found K g h)

  r_comparison : {B : Type 0} {s : B → ℕ} {t n : ℕ} (r : List Terminal) {k j : Comparison → List Terminal → Answer B} {x y : Answer B}
      → ((o : Comparison) (u : List Terminal) → suc (weight u) ≤ weight r → R B s t n (k o u) (j o u)) → R B s t n x y
      → R B s t n (on_comparison self r k x) (on_comparison other r j y)
  r_comparison r f g =
      first K comparison heavy_comparison r f
      (first K (is_word Key.Not) (heavy_word Key.Not) r
      (λ _ r1 q. first K (is_word Key.In) (heavy_word Key.In) r1 (λ _ r2 p. f Is.NotIn r2 (omega (arith, q, p))) (none K))
      (first K (is_word Key.Is) (heavy_word Key.Is) r
      (λ _ r1 q. first K (is_word Key.Not) (heavy_word Key.Not) r1 (λ _ r2 p. f Is.IsNot r2 (omega (arith, q, p))) (f Is.Is r1 q)) g))

  -- where what follows has t in hand
  r_compare : (t n z m : ℕ) (os : List Comparison) (es : List Expr) (r : List Terminal)
      (k j : List Comparison → List Expr → List Terminal → Answer Expr)
      → ((v : ℕ) (xs : List Comparison) (ys : List Expr) (u : List Terminal) → v ≤ max t (suc (exprs_size ys)) → weight u < n
      → R Expr height v n (k xs ys u) (j xs ys u)) → z ≤ max t (suc (exprs_size es)) → weight r < n → weight r ≤ b
      → R Expr height z n (compare_loop self m os es r k) (compare_loop other m os es r j)
  r_compare t n z zero os es r k j c g h w = c z os es r g h
  r_compare t n z (suc m) os es r k j c g h w =
      r_comparison r
      (λ o r1 q. r_one K self other b all BitOr r1 (omega (arith, w, q))
      (λ v e r2 f p. r_compare t n v m (os ++ (o ∷ [])) (es ++ (e ∷ [])) r2 k j c (omega (arith, g, f, exprs_last es e))
      (omega (arith, h, q, p)) (omega (arith, w, q, p)))) (c z os es r g h)

  pub r_operation : (t n : ℕ) (e : Expr) (o : Infix) (r r1 : List Terminal) → t ≤ height e → suc (weight r1) ≤ weight r → weight r < n
      → weight r ≤ b → R Expr height t n (operation self e o r r1) (operation other e o r r1)
  r_operation t n e (Left l o) r r1 g q h w = r_one K self other b all (below l) r1 (omega (arith, w, q))
      (λ v d r2 f p. found K (omega (arith, g, f)) (omega (arith, h, q, p)))
  r_operation t n e Raise r r1 g q h w = r_one K self other b all Factor r1 (omega (arith, w, q))
      (λ v d r2 f p. found K (omega (arith, g, f)) (omega (arith, h, q, p)))
  r_operation t n e (Joins o) r r1 g q h w = beside K (r_chain 0 n o (length r) [] r (omega arith) h w)
      (λ v es r2 f p. found K (omega (arith, g, f)) p)
  r_operation t n e Compares r r1 g q h w = r_compare t n t (length r) [] [] r _ _ (λ v xs ys u f p. found K (omega (arith, g, f)) p)
      (omega arith) h w

  pub r_climb_loop : (t n k m : ℕ) (e : Expr) (r : List Terminal) → t ≤ height e → weight r < n → weight r ≤ b
      → R Expr height t n (climb_loop self k m e r) (climb_loop other k m e r)
  r_climb_loop t n k zero e r g h w = found K g h
  r_climb_loop t n k (suc m) e r g h w =
      first K (infix_from k) (heavy_infix k) r
      (λ o r1 q. held K (r_operation t (suc (weight r)) e o r r1 g q (omega arith) w)
      (λ v f r2 d p. r_climb_loop v n k m f r2 d (omega (arith, h, p)) (omega (arith, w, p)))) (found K g h)

  pub r_prefixed : (n : ℕ) (p : Prefix) (r : List Terminal) → weight r < n → weight r < b
      → R Expr height 0 n (prefixed self p r) (prefixed other p r)
  r_prefixed n (Signed l o) r h w = r_one K self other b all l r w (λ v e r1 f p. found K (omega (arith, f)) (omega (arith, h, p)))
  r_prefixed n Awaits r h w = r_one K self other b all Primary r w (λ v e r1 f p. found K (omega (arith, f)) (omega (arith, h, p)))

  pub r_slice_rest : (t n : ℕ) (a : OptionalExpr) (r : List Terminal) → t ≤ suc (optional_height a) → weight r < n → weight r < b
      → R Expr height t n (slice_rest self a r) (slice_rest other a r)
  r_slice_rest t n a r g h w =
      beside K (r_perhaps K self other b all (suc (weight r)) Expression r (omega arith) w)
      (λ v c r1 f p. first K (is_op Colon) (heavy_op Colon) r1
      (λ _ r2 q. beside K (r_perhaps K self other b all n Expression r2 (omega (arith, h, p, q)) (omega (arith, w, p, q)))
      (λ u d r3 k z. found K (omega (arith, g, f, k)) z)) (found K (omega (arith, g, f)) (omega (arith, h, p))))

  r_lambda_of : (t n : ℕ) (ps : List Entry) (e : Expr) (r : List Terminal) → t ≤ suc (max (entries_height ps) (height e)) → weight r < n
      → R Expr height t n (made (lambda_of (arranged ps) e) r) (made (lambda_of (arranged ps) e) r)
  r_lambda_of t n ps e r g h = go (arranged ps) refl
    where
      go : (o : Option Arguments) → arranged ps ≡ o → R Expr height t n (made (lambda_of o e) r) (made (lambda_of o e) r)
      go None q = none K
      go (Some a) q = found K (omega (arith, g, arranged_height ps a q)) h

  pub r_lambda : (n : ℕ) (r : List Terminal) → weight r < n → weight r < b → R Expr height 0 n (lambda_step self r) (lambda_step other r)
  r_lambda n r h w =
      beside K (r_listing_of 0 (suc (weight r)) (Parameter false) [] r (omega arith) (omega arith) w)
      (λ v ps r1 f p. first K (is_op Colon) (heavy_op Colon) r1
      (λ _ r2 q. r_one K self other b all Expression r2 (omega (arith, w, p, q))
      (λ u e r3 g z. r_lambda_of u n ps e r3 (omega (arith, f, g, parameters_size false ps)) (omega (arith, h, p, q, z)))) (none K))

  pub r_if_else : (t n : ℕ) (e : Expr) (r : List Terminal) → t ≤ height e → weight r < n → weight r ≤ b
      → R Expr height t n (if_else_step self e r) (if_else_step other e r)
  r_if_else t n e r g h w =
      first K (is_word Key.If) (heavy_word Key.If) r
      (λ _ r1 q. r_one K self other b all Or r1 (omega (arith, w, q))
      (λ v a r2 f p. first K (is_word Key.Else) (heavy_word Key.Else) r2
      (λ _ r3 z. r_one K self other b all Expression r3 (omega (arith, w, q, p, z))
      (λ u c r4 k y. found K (omega (arith, g, f, k)) (omega (arith, h, q, p, z, y)))) (none K))) (found K g h)
