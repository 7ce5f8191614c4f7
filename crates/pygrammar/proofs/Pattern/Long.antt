-- Room and steps above what the terminals count are enough: then the reader of patterns never says
-- that it went too deep.
--
-- Carries: long, for Law. On: Sizes, Sound of expressions.
use Rattle.std.proofs.Common.{◌≡◌, refl, sym, ap, subst, ℕ, zero, suc, ◌+◌, ◌≤◌, ◌<◌, arith, List, [], ◌∷◌, ◌++◌, length, Option, Some}
use Rattle.std.proofs.Common.{None, Bool, true, false, cond}
use Rattle.std.proofs.lemmas.Bool.{le-leb}
use Rattle.pylex_lexeme.specs.declared.kinds.Exact.{Exact}
use Rattle.pylex_lexeme.specs.declared.kinds.Exact.TheVariants.{LPar, RPar, LSqb, RSqb, LBrace, RBrace, Colon, Comma, Star, Equal, Dot}
use Rattle.pylex_lexeme.specs.declared.kinds.Exact.TheVariants.{DoubleStar, Minus, VBar}
use Rattle.pytoken.specs.declared.keywords.Keyword.TheVariants as Key
use Rattle.pytree_node.specs.declared.operators.UnaryOperator.TheVariants as Un
use Rattle.pytree_node.specs.declared.operators.Context.TheVariants.{Load}
use Rattle.pygrammar.specs.Lengths.{weight}
use Rattle.pygrammar.proofs.Depths.Weights.{Heavy, weight_append, counted, heavy_op, heavy_word, heavy_name, heavy_sum, heavy_singleton}
use Rattle.pygrammar.proofs.Depths.Weights.{heavy_number, heavy_imaginary}
use Rattle.pygrammar.specs.declared.levels.Level.TheVariants.{Sum, Atom}
use Rattle.pygrammar.specs.declared.pattern_levels.PatternLevel.{PatternLevel}
use Rattle.pygrammar.specs.declared.pattern_levels.PatternLevel.TheVariants.{Patterns, StarPattern, AsPattern, OrPattern, ClosedPattern}
use Rattle.pytree_node.specs.Trees
use Rattle.pytree_node.specs.Trees.{Expr, Identifier, Pattern, MatchSingleton, MatchSequence, MatchOr, a_pattern, patterns}
use Rattle.pytree_node.specs.Values
use Rattle.pytoken.specs.Terminals.{Terminal, Op, Ident, Number, Literal, FormattedBegin}
use Rattle.pytree_height.specs.Heights.{height, pattern_height}
use Rattle.pygrammar.specs.Looks.{is_op, is_word, name_in}
use Rattle.pygrammar.specs.Operators.{left_operator}
use Rattle.pygrammar.specs.Reader.{Answer, Found, NoForm, TooDeep, and_then, on_some, on_first, closed, made, Reads, joined_step, literals}
use Rattle.pygrammar.specs.Capped.{capped}
use Rattle.pygrammar.specs.Grammar as G
use Rattle.pygrammar.specs.PatternOperators.{is_imaginary, is_wildcard, singleton_word}
use Rattle.pygrammar.specs.PatternEntries.{PatternItem, Element, KeyPattern, ClassArgument, PatternEntry, Alone, Rest, elements, mapped}
use Rattle.pygrammar.specs.PatternEntries.{class_of, as_named}
use Rattle.pygrammar.specs.PatternReader.{PatternReads, cap_by, starts_entry, imaginary_in, number_in, number_rest, literal_or, dotted_loop}
use Rattle.pygrammar.specs.PatternReader.{dotted_from, named_key, read_key, read_entry, entries_loop, entries_of, alternatives_loop}
use Rattle.pygrammar.specs.PatternReader.{sequence_or, round_pattern, square_pattern, mapping_pattern, class_arguments, dotted_pattern}
use Rattle.pygrammar.specs.PatternReader.{name_pattern, literal_pattern, closed_pattern, read_closed, read_or, read_as_pattern, read_star}
use Rattle.pygrammar.specs.PatternReader.{read_patterns, pattern_step, capped_pattern}
use Rattle.pygrammar.proofs.Soundness.Says.{Says, found, no_form, deep, SoundAt}
use Rattle.pygrammar.proofs.Soundness.SoundStrings.{FitsAt, joined_sound, literals_sound}
use Rattle.pygrammar.proofs.Depths.Enough.{Good, GoodTo, good_kept}
use Rattle.pygrammar.proofs.Related.Strings.{r_joined, r_literals}
use Rattle.pygrammar.proofs.Heights.Bound.{tall}
use Rattle.pygrammar.proofs.Heights.Room.{good_capped, sound_capped}
use Rattle.pygrammar.proofs.Pattern.Sizes.{entry_size, entries_size, entry_some, entries_some, entries_last, elements_low}
use Rattle.pygrammar.proofs.Pattern.Sizes.{mapped_low, class_low, as_low, alternatives_size, alternatives_some, alternatives_last}
use Rattle.pygrammar.proofs.Pattern.Sizes.{alternatives_low}
use Rattle.pygrammar.proofs.Pattern.ReadLevels.{pattern_some}

-- ---- An answer that fits: what is found has, with what the terminals after it count, a size of at most n.

abbrev Fits : {A : Type 0} → (A → ℕ) → ℕ → Answer A → Type 0
Fits s n (Found a r) = s a + weight r ≤ n
Fits s n NoForm = Unit {0}
Fits s n TooDeep = ⊥

fits_then : {A B : Type 0} (s : A → ℕ) (t : B → ℕ) (m n : ℕ) (x : Answer A) (k : A → List Terminal → Answer B) → Fits s m x
    → ((a : A) (r : List Terminal) → s a + weight r ≤ m → Fits t n (k a r)) → Fits t n (and_then x k)
fits_then s t m n (Found a r) k g h = h a r g
fits_then s t m n NoForm k g h = tt
fits_then s t m n TooDeep k g h = g

fits_first : {A B : Type 0} (t : B → ℕ) (n : ℕ) (f : Terminal → Option A) → Heavy f → (r : List Terminal) (k : A → List Terminal → Answer B)
    (x : Answer B) → ((a : A) (u : List Terminal) → suc (weight u) ≤ weight r → Fits t n (k a u)) → Fits t n x → Fits t n (on_first f r k x)
fits_first t n f v [] k x h g = g
fits_first {A} {B} t n f v (c ∷ r) k x h g = go (f c) refl
  where
    go : (o : Option A) → f c ≡ o → Fits {A = B} t n (on_some o (λ a. k a r) x)
    go (Some a) e = h a r (omega (arith, counted c r (v c a e)))
    go None e = g

fits_cond : {B : Type 0} (t : B → ℕ) (n : ℕ) (b : Bool) (x y : Answer B) → Fits t n x → Fits t n y → Fits t n (cond b x y)
fits_cond t n true x y h k = h
fits_cond t n false x y h k = k

fits_made : {B : Type 0} (t : B → ℕ) (n : ℕ) (o : Option B) (r : List Terminal)
    → ((b : B) → o ≡ Some b → t b + weight r ≤ n) → Fits t n (made o r)
fits_made t n (Some b) r h = h b refl
fits_made t n None r h = tt

fits_closed : {B : Type 0} (t : B → ℕ) (n : ℕ) (x : Exact) (r : List Terminal) (b : B) → t b + weight r ≤ suc n → Fits t n (closed x r b)
fits_closed t n x r b h = fits_first t n (is_op x) (heavy_op x) r _ _ (λ _ u q. omega (arith, h, q)) tt

-- what fits in d is no higher
fits_cap : {A : Type 0} (s : A → ℕ) (n d : ℕ) (x : Answer A) → n ≤ d → Fits s n x → Fits s n (cap_by s d x)
fits_cap s n d (Found a r) w h = subst (λ b. Fits s n (cond b (Found a r) TooDeep)) (sym (le-leb (s a) d (omega (arith, w, h)))) h
fits_cap s n d NoForm w h = h
fits_cap s n d TooDeep w h = h

-- ---- Values.

f_number : (n : ℕ) (v : Values.Value) (e : Expr) (r : List Terminal) → 0 < height e → height e + weight r ≤ n
    → Fits height n (number_rest v e r)
f_number n v e r p h = fits_cond height n (is_imaginary v) (Found e r) _ h (fits_first height n (left_operator Sum) heavy_sum r _
    (Found e r) (λ o r1 q. fits_first height n imaginary_in heavy_imaginary r1 _ NoForm (λ w r2 z. omega (arith, p, h, q, z)) tt) h)

-- a run of literals, whose fields another reader reads: b terminals, and fewer in each field
module _ (self : Reads) (b : ℕ) (all : GoodTo b self) (sound : SoundAt self) where
  f_said : (n : ℕ) (i : List Terminal) (x : Answer Expr) → Good n x → Says (FitsAt (G.Derives Atom) i) x → Fits height (weight i) x
  f_said n i x g (found {a = e} {r = r} p) = omega (arith, tall p.2, ap weight p.1, weight_append p.0 r)
  f_said n i x g no_form = tt
  f_said n i x g deep = g

  f_literal : (i : List Terminal) (x : Answer Expr) → weight i ≤ b → Fits height (weight i) x → Fits height (weight i) (literal_or self i x)
  f_literal (Number v ∷ r) x w h = f_number (suc (weight r)) v (Trees.Constant v) r (omega arith) (omega arith)
  f_literal (Literal v ∷ r) x w h = f_said (suc (weight r)) (Literal v ∷ r) (literals self v r)
      (r_literals good_kept self self b all (suc (weight r)) v r (omega arith) (omega (arith, w)))
      (literals_sound self sound (G.Derives Atom) (λ u ts ps l b h. G.joined_string l b h) (λ v w vs h. G.strings vs h) v r)
  f_literal (FormattedBegin ∷ r) x w h = f_said (suc (weight r)) (FormattedBegin ∷ r) (joined_step self false [] r)
      (r_joined good_kept self self b all (suc (weight r)) false [] r (omega arith) (omega (arith, w)))
      (joined_sound self sound (G.Derives Atom) (λ u ts ps l b h. G.joined_string l b h) r)
  f_literal (Op Minus ∷ r) x w h = fits_first height (suc (weight r)) number_in heavy_number r _ NoForm
      (λ v r1 q. f_number (suc (weight r)) v (Trees.UnaryOp Un.USub (Trees.Constant v)) r1 (omega arith) (omega (arith, q))) tt
  f_literal (Op _ ∷ r) x w h = h
  f_literal [] x w h = h
  f_literal (_ ∷ r) x w h = h

f_dotted : (n d m : ℕ) (e : Expr) (r : List Terminal) → n ≤ d → height e + weight r ≤ n → Fits height n (dotted_loop d m e r)
f_dotted n d zero e r w h = h
f_dotted n d (suc m) e r w h = fits_first height n (is_op Dot) (heavy_op Dot) r _ (Found e r)
    (λ _ r1 q. fits_first height n name_in heavy_name r1 _ NoForm
    (λ x r2 z. fits_then height height n n (cap_by height d (Found (Trees.Attribute e x Load) r2)) (λ f r3. dotted_loop d m f r3)
    (fits_cap height n d (Found (Trees.Attribute e x Load) r2) w (omega (arith, h, q, z))) (λ f r3 y. f_dotted n d m f r3 w y)) tt) h

f_named_key : (n : ℕ) (e : Expr) (r : List Terminal) → height e + weight r ≤ n → Fits height n (named_key e r)
f_named_key n (Trees.Name x c) r h = tt
f_named_key n _ r h = h

f_key : (d b : ℕ) (self : Reads) → GoodTo b self → SoundAt self → (i : List Terminal) → weight i ≤ b → b ≤ d
    → Fits height (weight i) (read_key d self i)
f_key d b self all sound i w le = fits_cap height (weight i) d _ (omega (arith, w, le))
    (f_literal self b all sound i _ w (fits_first height (weight i) singleton_word heavy_singleton i _ _ (λ v r q. omega (arith, q))
    (fits_first height (weight i) name_in heavy_name i _ NoForm (λ x r q. fits_then height height (weight i) (weight i) (dotted_from d x r)
    named_key (f_dotted (weight i) d (length r) (Trees.Name x Load) r (omega (arith, w, le)) (omega (arith, q)))
    (λ e r1 z. f_named_key (weight i) e r1 z)) tt)))

-- ---- Patterns whose terminals count less than b, with room for b.

abbrev FitsTo : ℕ → PatternReads → Type 0
FitsTo b self = (l : PatternLevel) (i : List Terminal) → weight i < b → Fits pattern_height (suc (weight i)) (self l i)

module _ (d b : ℕ) (le : b ≤ d) (self : Reads) (good : GoodTo b self) (fields : SoundAt self) (inner : PatternReads)
    (all : FitsTo b inner) where
  f_one : {B : Type 0} (t : B → ℕ) (n : ℕ) (l : PatternLevel) (i : List Terminal) (k : Pattern → List Terminal → Answer B) → weight i < b
      → ((p : Pattern) (r : List Terminal) → pattern_height p + weight r ≤ suc (weight i) → Fits t n (k p r))
      → Fits t n (and_then (inner l i) k)
  f_one t n l i k w h = fits_then pattern_height t (suc (weight i)) n (inner l i) k (all l i w) h

  f_entry : (i : PatternItem) (r : List Terminal) → weight r < b → Fits entry_size (suc (weight r)) (read_entry d self inner i r)
  f_entry Element r w = f_one entry_size (suc (weight r)) StarPattern r _ w (λ p u h. h)
  f_entry KeyPattern r w =
      fits_first entry_size (suc (weight r)) (is_op DoubleStar) (heavy_op DoubleStar) r _ _
      (λ _ u h. fits_first entry_size (suc (weight r)) name_in heavy_name u _ NoForm
      (λ x v k. fits_cond entry_size (suc (weight r)) (is_wildcard x) NoForm (Found (Rest x) v) tt (omega (arith, h, k))) tt)
      (fits_then height entry_size (weight r) (suc (weight r)) (read_key d self r) _ (f_key d b self good fields r (omega (arith, w)) le)
      (λ k u h. fits_first entry_size (suc (weight r)) (is_op Colon) (heavy_op Colon) u _ NoForm
      (λ _ v z. f_one entry_size (suc (weight r)) AsPattern v _ (omega (arith, w, h, z))
      (λ p y q. omega (arith, h, z, q, pattern_some p))) tt))
  f_entry ClassArgument r w = fits_first entry_size (suc (weight r)) name_in heavy_name r _ _
      (λ x u h. fits_first entry_size (suc (weight r)) (is_op Equal) (heavy_op Equal) u _ _
      (λ _ v k. f_one entry_size (suc (weight r)) AsPattern v _ (omega (arith, w, h, k)) (λ p y q. omega (arith, h, k, q))) alone) alone
    where
      alone : Fits entry_size (suc (weight r)) (and_then (inner AsPattern r) (λ p u. Found (Alone p) u))
      alone = f_one entry_size (suc (weight r)) AsPattern r _ w (λ p u h. h)

  f_entries : (i : PatternItem) (n m : ℕ) (acc : List PatternEntry) (r : List Terminal) → entries_size acc + weight r ≤ n → weight r < b
      → Fits entries_size n (entries_loop d self inner i m acc r)
  f_entries i n zero acc r h w = h
  f_entries i n (suc m) acc r h w = fits_cond entries_size n (starts_entry i r) _ _ (fits_then entry_size entries_size (suc (weight r)) n
      (read_entry d self inner i r) _ (f_entry i r w) (λ e r1 k. fits_first entries_size n (is_op Comma) (heavy_op Comma) r1 _ _
      (λ _ r2 q. f_entries i n m (acc ++ (e ∷ [])) r2 (omega (arith, longer n acc e r r1 h k, q)) (omega (arith, w, k, q, entry_some e)))
      (longer n acc e r r1 h k))) h
    where
      longer : (n : ℕ) (acc : List PatternEntry) (e : PatternEntry) (r u : List Terminal) → entries_size acc + weight r ≤ n
          → entry_size e + weight u ≤ suc (weight r) → entries_size (acc ++ (e ∷ [])) + weight u ≤ n
      longer n acc e r u h k = omega (arith, h, k, entries_last acc e, entry_some e, entries_some acc)

  f_entries_of : (i : PatternItem) (r : List Terminal) → weight r < b → Fits entries_size (suc (weight r)) (entries_of d self inner i r)
  f_entries_of i r w = f_entries i (suc (weight r)) (length r) [] r (omega arith) w

  f_alternatives : (n m : ℕ) (acc : List Pattern) (r : List Terminal) → alternatives_size acc + weight r ≤ n → weight r ≤ b
      → Fits alternatives_size n (alternatives_loop d self inner m acc r)
  f_alternatives n zero acc r h w = h
  f_alternatives n (suc m) acc r h w = fits_first alternatives_size n (is_op VBar) (heavy_op VBar) r _ (Found acc r)
      (λ _ r1 q. f_one alternatives_size n ClosedPattern r1 _ (omega (arith, w, q)) (λ p r2 k. f_alternatives n m (acc ++ (p ∷ [])) r2
      (omega (arith, h, k, q, alternatives_last acc p, alternatives_some acc, pattern_some p)) (omega (arith, w, k, q, pattern_some p)))) h

  -- one alternative at least
  f_joined : (n : ℕ) (r : List Terminal) (k : List Pattern → List Terminal → Answer Pattern) (x : Answer Pattern) → weight r ≤ b
      → ((ps : List Pattern) (u : List Terminal) → alternatives_size ps + weight u ≤ weight r → Fits pattern_height n (k ps u))
      → Fits pattern_height n x
      → Fits pattern_height n (on_first (is_op VBar) r (λ _ _. and_then (alternatives_loop d self inner (length r) [] r) k) x)
  f_joined n [] k x w h g = g
  f_joined n (t ∷ r) k x w h g = go (is_op VBar t) refl
    where
      go : (o : Option ℕ) → is_op VBar t ≡ o
          → Fits pattern_height n
          (on_some o (λ _. and_then
          (on_some o (λ _. and_then (inner ClosedPattern r) (λ p u. alternatives_loop d self inner (length r) (p ∷ []) u))
          (Found [] (t ∷ r))) k) x)
      go (Some a) e = let c : weight (t ∷ r) ≡ suc (weight r) = counted t r (heavy_op VBar t a e) in
          fits_then alternatives_size pattern_height (suc (weight r)) n
          (and_then (inner ClosedPattern r) (λ p u. alternatives_loop d self inner (length r) (p ∷ []) u)) k
          (f_one alternatives_size (suc (weight r)) ClosedPattern r _ (omega (arith, w, c))
          (λ p u q. f_alternatives (suc (weight r)) (length r) (p ∷ []) u (omega (arith, q, pattern_some p))
          (omega (arith, w, c, q, pattern_some p)))) (λ ps u q. h ps u (omega (arith, q, c)))
      go None e = g

  f_sequence : (n : ℕ) (p : Pattern) (r : List Terminal) (hit : List PatternEntry → List Terminal → Answer Pattern) (x : Answer Pattern)
      → weight r ≤ b → ((es : List PatternEntry) (u : List Terminal) → entries_size es + weight u ≤ weight r
      → Fits pattern_height n (hit es u)) → Fits pattern_height n x → Fits pattern_height n (sequence_or d self inner p r hit x)
  f_sequence n p r hit x w h g = fits_first pattern_height n (is_op Comma) (heavy_op Comma) r _ x
      (λ _ r1 q. fits_then entries_size pattern_height (suc (weight r1)) n (entries_of d self inner Element r1) hit
      (f_entries_of Element r1 (omega (arith, w, q))) (λ es u k. h es u (omega (arith, k, q)))) g

  f_square : (r : List Terminal) → weight r < b → Fits pattern_height (suc (suc (weight r))) (square_pattern d self inner r)
  f_square r w = fits_then entries_size pattern_height (suc (weight r)) (suc (suc (weight r))) (entries_of d self inner Element r) _
      (f_entries_of Element r w) (λ es u h. fits_closed pattern_height (suc (suc (weight r))) RSqb u (MatchSequence (elements es))
      (omega (arith, h, elements_low es)))

  f_mapping : (r : List Terminal) → weight r < b → Fits pattern_height (suc (suc (weight r))) (mapping_pattern d self inner r)
  f_mapping r w = fits_then entries_size pattern_height (suc (weight r)) (suc (suc (weight r))) (entries_of d self inner KeyPattern r) _
      (f_entries_of KeyPattern r w) (λ es u h. fits_first pattern_height (suc (suc (weight r))) (is_op RBrace) (heavy_op RBrace) u _ NoForm
      (λ _ v q. fits_made pattern_height (suc (suc (weight r))) (mapped es) v (λ p z. omega (arith, h, q, mapped_low es p z))) tt)

  f_class : (n : ℕ) (f : Expr) (r : List Terminal) → weight r < b → suc (height f) + weight r ≤ n → suc (suc (weight r)) ≤ n
      → Fits pattern_height n (class_arguments d self inner f r)
  f_class n f r w a c = fits_then entries_size pattern_height (suc (weight r)) n (entries_of d self inner ClassArgument r) _
      (f_entries_of ClassArgument r w) (λ es u h. fits_first pattern_height n (is_op RPar) (heavy_op RPar) u _ NoForm
      (λ _ v q. fits_made pattern_height n (class_of f es) v (λ p z. omega (arith, a, c, h, q, entries_some es, class_low f es p z))) tt)

  f_after_dots : (n : ℕ) (f : Expr) (r : List Terminal) → weight r ≤ b → suc (height f) + weight r ≤ n
      → Fits pattern_height n (dotted_pattern d self inner f r)
  f_after_dots n (Trees.Name x c) r w a = fits_first pattern_height n (is_op LPar) (heavy_op LPar) r _ _
      (λ _ u q. f_class n (Trees.Name x c) u (omega (arith, w, q)) (omega (arith, a, q)) (omega (arith, a, q))) (omega (arith, a))
  f_after_dots n f r w a = fits_first pattern_height n (is_op LPar) (heavy_op LPar) r _ _
      (λ _ u q. f_class n f u (omega (arith, w, q)) (omega (arith, a, q)) (omega (arith, a, q))) (omega (arith, a))

  f_name : (x : Identifier) (r : List Terminal) → weight r < b → Fits pattern_height (suc (suc (weight r))) (name_pattern d self inner x r)
  f_name x r w = fits_cond pattern_height (suc (suc (weight r))) (is_wildcard x) _ _ (omega arith)
      (fits_then height pattern_height (suc (weight r)) (suc (suc (weight r))) (dotted_from d x r) _
      (f_dotted (suc (weight r)) d (length r) (Trees.Name x Load) r (omega (arith, w, le)) (omega arith))
      (λ f u h. f_after_dots (suc (suc (weight r))) f u (omega (arith, w, h)) (omega (arith, h))))

  f_value : (i : List Terminal) → weight i ≤ b → Fits pattern_height (suc (weight i)) (literal_pattern d self inner i)
  f_value i w = fits_then height pattern_height (weight i) (suc (weight i)) (literal_or self i NoForm) _
      (f_literal self b good fields i NoForm w tt) (λ e r h. omega (arith, h))

  f_constant : (i : List Terminal) → weight i ≤ b
      → Fits pattern_height (suc (weight i)) (on_first singleton_word i (λ v r. Found (MatchSingleton v) r)
      (literal_pattern d self inner i))
  f_constant i w = fits_first pattern_height (suc (weight i)) singleton_word heavy_singleton i _ _ (λ v r q. omega (arith, q)) (f_value i w)

  module _ (same : PatternReads) (equal : FitsTo b same) where
    f_round : (r : List Terminal) → weight r < b → Fits pattern_height (suc (suc (weight r))) (round_pattern d self inner same r)
    f_round r w =
        fits_first pattern_height (suc (suc (weight r))) (is_op RPar) (heavy_op RPar) r _ _ (λ _ u q. omega (arith, q))
        (fits_then pattern_height pattern_height (suc (weight r)) (suc (suc (weight r))) (same StarPattern r) _
        (equal StarPattern r w) (λ p u h.
        f_sequence (suc (suc (weight r))) p u _ _ (omega (arith, w, h, pattern_some p))
        (λ es v q. fits_closed pattern_height (suc (suc (weight r))) RPar v (MatchSequence (a_pattern p (elements es)))
        (omega (arith, h, q, elements_low es, entries_some es, pattern_some p)))
        (fits_first pattern_height (suc (suc (weight r))) (is_op Star) (heavy_op Star) r _ _ (λ _ _ _. tt)
        (fits_closed pattern_height (suc (suc (weight r))) RPar u p (omega (arith, h))))))

    f_closed : (i : List Terminal) → weight i ≤ b → Fits pattern_height (suc (weight i)) (closed_pattern d self inner same i)
    f_closed [] w = tt
    f_closed (Ident x ∷ r) w = f_name x.form r (omega (arith, w))
    f_closed (Op LPar ∷ r) w = f_round r (omega (arith, w))
    f_closed (Op LSqb ∷ r) w = f_square r (omega (arith, w))
    f_closed (Op LBrace ∷ r) w = f_mapping r (omega (arith, w))
    f_closed (Op x ∷ r) w = f_constant (Op x ∷ r) w
    f_closed (t ∷ r) w = f_constant (t ∷ r) w

    f_read_closed : (i : List Terminal) → weight i ≤ b → Fits pattern_height (suc (weight i)) (read_closed d self inner same i)
    f_read_closed i w = fits_cap pattern_height (suc (weight i)) (suc d) (closed_pattern d self inner same i)
        (omega (arith, w, le)) (f_closed i w)

    f_or : (i : List Terminal) → weight i ≤ b → Fits pattern_height (suc (weight i)) (read_or d self inner same i)
    f_or i w = fits_then pattern_height pattern_height (suc (weight i)) (suc (weight i)) (read_closed d self inner same i) _
        (f_read_closed i w) (λ p r h. f_joined (suc (weight i)) r _ (Found p r) (omega (arith, w, h, pattern_some p))
        (λ ps u q. fits_cap pattern_height (suc (weight i)) (suc d) (Found (MatchOr (patterns (p ∷ ps))) u) (omega (arith, w, le))
        (omega (arith, h, q, alternatives_low ps, alternatives_some ps, pattern_some p))) h)

    f_as : (i : List Terminal) → weight i ≤ b → Fits pattern_height (suc (weight i)) (read_as_pattern d self inner same i)
    f_as i w = fits_then pattern_height pattern_height (suc (weight i)) (suc (weight i)) (read_or d self inner same i) _ (f_or i w)
        (λ p r h. fits_first pattern_height (suc (weight i)) (is_word Key.As) (heavy_word Key.As) r _ (Found p r)
        (λ _ r1 q. fits_first pattern_height (suc (weight i)) name_in heavy_name r1 _ NoForm
        (λ x r2 z. fits_cap pattern_height (suc (weight i)) (suc d) (made (as_named p x) r2) (omega (arith, w, le))
        (fits_made pattern_height (suc (weight i)) (as_named p x) r2 (λ f k. omega (arith, h, q, z, as_low p f x k)))) tt) h)

    f_star : (i : List Terminal) → weight i ≤ b → Fits pattern_height (suc (weight i)) (read_star d self inner same i)
    f_star i w = fits_first pattern_height (suc (weight i)) (is_op Star) (heavy_op Star) i _ _
        (λ _ r q. fits_first pattern_height (suc (weight i)) name_in heavy_name r _ NoForm (λ x u h. omega (arith, q, h)) tt) (f_as i w)

    f_patterns : (i : List Terminal) → weight i ≤ b → Fits pattern_height (suc (weight i)) (read_patterns d self inner same i)
    f_patterns i w = fits_then pattern_height pattern_height (suc (weight i)) (suc (weight i)) (read_star d self inner same i) _
        (f_star i w) (λ p r h. f_sequence (suc (weight i)) p r _ _ (omega (arith, w, h, pattern_some p))
        (λ es u q. fits_cap pattern_height (suc (weight i)) (suc d) (Found (MatchSequence (a_pattern p (elements es))) u)
        (omega (arith, w, le)) (omega (arith, h, q, elements_low es, entries_some es, pattern_some p)))
        (fits_first pattern_height (suc (weight i)) (is_op Star) (heavy_op Star) i _ (Found p r) (λ _ _ _. tt) h))

    f_step : (l : PatternLevel) (i : List Terminal) → weight i ≤ b
        → Fits pattern_height (suc (weight i)) (pattern_step d self inner same l i)
    f_step Patterns i w = f_patterns i w
    f_step StarPattern i w = f_star i w
    f_step AsPattern i w = f_as i w
    f_step OrPattern i w = f_or i w
    f_step ClosedPattern i w = f_read_closed i w

f_capped : (g d b : ℕ) → b ≤ g → b ≤ d → FitsTo b (capped_pattern g d)
f_capped zero d b x y l i w = absurd (omega (arith, x, w))
f_capped (suc g) zero b x y l i w = absurd (omega (arith, y, w))
f_capped (suc g) (suc d) zero x y l i w = absurd (omega (arith, w))
f_capped (suc g) (suc d) (suc b) x y l i w =
    f_step d b (omega (arith, y)) (capped g d) (good_capped g d b (omega (arith, x)) (omega (arith, y))) (sound_capped g d)
    (capped_pattern g d) (f_capped g d b (omega (arith, x)) (omega (arith, y))) (capped_pattern g (suc d))
    (f_capped g (suc d) b (omega (arith, x)) (omega (arith, y))) l i (omega (arith, w))

-- the law
pub long : (g d : ℕ) (l : PatternLevel) (i : List Terminal) → weight i < g → capped_pattern g d l i ≡ TooDeep → d ≤ weight i
long g d l i w h = least (λ v. subst (Fits pattern_height (suc (weight i))) h (f_capped g d (suc (weight i)) w v l i (omega arith)))
  where
    least : (weight i < d → ⊥) → d ≤ weight i
    least f = omega (arith, f)
