-- More room and more steps keep an answer of the reader of patterns, if it isn't that it went too
-- deep.
--
-- Carries: keeps, for Law. On: Keeps of expressions.
use Rattle.std.proofs.Common.{◌≡◌, inl, inr, refl, sym, ap, ◌∙◌, ℕ, zero, suc, ◌≤◌, arith, List, [], ◌∷◌, ◌++◌, length, Bool, true, false}
use Rattle.std.proofs.Common.{cond, leb}
use Rattle.std.proofs.lemmas.Bool.{leb-true, le-leb}
use Rattle.pylex_lexeme.specs.declared.kinds.Exact.TheVariants.{LPar, RPar, LSqb, LBrace, Colon, Comma, Star, Equal, Dot, DoubleStar, Minus}
use Rattle.pylex_lexeme.specs.declared.kinds.Exact.TheVariants.{VBar}
use Rattle.pytoken.specs.declared.keywords.Keyword.TheVariants as Key
use Rattle.pytree_node.specs.declared.operators.Context.TheVariants.{Load}
use Rattle.pygrammar.specs.declared.pattern_levels.PatternLevel.{PatternLevel}
use Rattle.pygrammar.specs.declared.pattern_levels.PatternLevel.TheVariants.{Patterns, StarPattern, AsPattern, OrPattern, ClosedPattern}
use Rattle.pytree_node.specs.Trees
use Rattle.pytree_node.specs.Trees.{Expr, Identifier, Pattern, MatchValue, MatchSingleton, MatchSequence, MatchOr, a_pattern, patterns}
use Rattle.pytoken.specs.Terminals.{Terminal, Op, Ident, Number, Literal, FormattedBegin}
use Rattle.pytree_height.specs.Heights.{height, pattern_height}
use Rattle.pygrammar.specs.Looks.{is_op, is_word, name_in}
use Rattle.pygrammar.specs.Reader.{Answer, Found, NoForm, TooDeep, and_then, on_first, made, Reads}
use Rattle.pygrammar.specs.Capped.{capped}
use Rattle.pygrammar.specs.PatternOperators.{is_wildcard, singleton_word}
use Rattle.pygrammar.specs.PatternEntries.{PatternItem, Element, KeyPattern, ClassArgument, PatternEntry, elements, as_named}
use Rattle.pygrammar.specs.PatternReader.{PatternReads, cap_by, literal_or, dotted_loop, read_key, starts_entry, read_entry, entries_loop}
use Rattle.pygrammar.specs.PatternReader.{entries_of, alternatives_loop, sequence_or, round_pattern, square_pattern, mapping_pattern}
use Rattle.pygrammar.specs.PatternReader.{class_arguments, dotted_pattern, name_pattern, literal_pattern, closed_pattern, read_closed}
use Rattle.pygrammar.specs.PatternReader.{read_or, read_as_pattern, read_star, read_patterns, pattern_step, capped_pattern}
use Rattle.pygrammar.proofs.Depths.Keeps.{Keeps, AllKeep, Lighter, keeps_then, keeps_first, keeps_cond, k_joined, k_literals}
use Rattle.pygrammar.proofs.Heights.KeepsCapped.{keeps_capped, light_capped}

-- ---- What is checked, with room e in place of d.

keeps_cap : {A : Type 0} (s : A → ℕ) (d e : ℕ) → d ≤ e → (x y : Answer A) → Keeps x y → Keeps (cap_by s d x) (cap_by s e y)
keeps_cap s d e w x y (inl q) = inl (ap (cap_by s d) q)
keeps_cap s d e w NoForm y (inr q) = inr (ap (cap_by s e) q)
keeps_cap s d e w TooDeep y (inr q) = inl refl
keeps_cap {A} s d e w (Found a r) y (inr q) = go (leb (s a) d) refl
  where
    go : (b : Bool) → leb (s a) d ≡ b → Keeps {A = A} (cond b (Found a r) TooDeep) (cap_by s e y)
    go true h = inr (sym (ap (λ c. cond c (Found a r) TooDeep) (le-leb (s a) e (omega (arith, w, leb-true (s a) d h)))) ∙ ap (cap_by s e) q)
    go false h = inl refl

-- the same, checked twice
keeps_checked : {A : Type 0} (s : A → ℕ) (d e : ℕ) → d ≤ e → (x : Answer A) → Keeps (cap_by s d x) (cap_by s e x)
keeps_checked s d e w x = keeps_cap s d e w x x (inr refl)

-- a value: what is read by the other reader depends on the room, and the fields of f-strings
module _ (self reader : Reads) (fields : AllKeep self reader) (calm : Lighter self) where
  k_literal : (i : List Terminal) (x y : Answer Expr) → Keeps x y → Keeps (literal_or self i x) (literal_or reader i y)
  k_literal (Number v ∷ r) x y h = inr refl
  k_literal (Literal v ∷ r) x y h = k_literals self reader fields calm v r
  k_literal (FormattedBegin ∷ r) x y h = k_joined self reader fields calm false [] r
  k_literal (Op Minus ∷ r) x y h = inr refl
  k_literal (Op _ ∷ r) x y h = h
  k_literal [] x y h = h
  k_literal (_ ∷ r) x y h = h

module _ (d e : ℕ) (le : d ≤ e) where
  k_dotted : (m : ℕ) (f : Expr) (r : List Terminal) → Keeps (dotted_loop d m f r) (dotted_loop e m f r)
  k_dotted zero f r = inr refl
  k_dotted (suc m) f r =
      keeps_first (is_op Dot) r _ _ _ _
      (λ _ r1. keeps_first name_in r1 _ _ _ _
      (λ x r2. keeps_then _ _ _ _ (keeps_checked height d e le (Found (Trees.Attribute f x Load) r2)) (λ g r3. k_dotted m g r3)) (inr refl))
      (inr refl)

  k_key : (self reader : Reads) → AllKeep self reader → Lighter self → (i : List Terminal) → Keeps (read_key d self i) (read_key e reader i)
  k_key self reader fields calm i =
      keeps_cap height d e le _ _
      (k_literal self reader fields calm i _ _ (keeps_first singleton_word i _ _ _ _ (λ v r. inr refl)
      (keeps_first name_in i _ _ _ _ (λ x r. keeps_then _ _ _ _ (k_dotted (length r) (Trees.Name x Load) r) (λ f r1. inr refl))
      (inr refl))))

-- ---- Patterns.

abbrev KeepsAt : PatternReads → PatternReads → Type 0
KeepsAt self other = (l : PatternLevel) (i : List Terminal) → Keeps (self l i) (other l i)

module _ (d e : ℕ) (le : d ≤ e) (self reader : Reads) (fields : AllKeep self reader) (calm : Lighter self) (inner other : PatternReads)
    (all : KeepsAt inner other) where
  k_entry : (i : PatternItem) (r : List Terminal) → Keeps (read_entry d self inner i r) (read_entry e reader other i r)
  k_entry Element r = keeps_then _ _ _ _ (all StarPattern r) (λ p r1. inr refl)
  k_entry KeyPattern r = keeps_first (is_op DoubleStar) r _ _ _ _ (λ _ r1. inr refl)
      (keeps_then _ _ _ _ (k_key d e le self reader fields calm r)
      (λ k r1. keeps_first (is_op Colon) r1 _ _ _ _ (λ _ r2. keeps_then _ _ _ _ (all AsPattern r2) (λ p r3. inr refl)) (inr refl)))
  k_entry ClassArgument r =
      keeps_first name_in r _ _ _ _
      (λ x r1. keeps_first (is_op Equal) r1 _ _ _ _ (λ _ r2. keeps_then _ _ _ _ (all AsPattern r2) (λ p r3. inr refl)) k_alone) k_alone
    where
      k_alone : Keeps (and_then (inner AsPattern r) (λ p r1. Found (PatternEntry.Alone p) r1))
          (and_then (other AsPattern r) (λ p r1. Found (PatternEntry.Alone p) r1))
      k_alone = keeps_then _ _ _ _ (all AsPattern r) (λ p r1. inr refl)

  k_entries : (i : PatternItem) (m : ℕ) (acc : List PatternEntry) (r : List Terminal)
      → Keeps (entries_loop d self inner i m acc r) (entries_loop e reader other i m acc r)
  k_entries i zero acc r = inr refl
  k_entries i (suc m) acc r =
      keeps_cond (starts_entry i r) _ _ _ _
      (keeps_then _ _ _ _ (k_entry i r)
      (λ a r1. keeps_first (is_op Comma) r1 _ _ _ _ (λ _ r2. k_entries i m (acc ++ (a ∷ [])) r2) (inr refl))) (inr refl)

  k_entries_of : (i : PatternItem) (r : List Terminal) → Keeps (entries_of d self inner i r) (entries_of e reader other i r)
  k_entries_of i r = k_entries i (length r) [] r

  k_alternatives : (m : ℕ) (acc : List Pattern) (r : List Terminal)
      → Keeps (alternatives_loop d self inner m acc r) (alternatives_loop e reader other m acc r)
  k_alternatives zero acc r = inr refl
  k_alternatives (suc m) acc r =
      keeps_first (is_op VBar) r _ _ _ _ (λ _ r1. keeps_then _ _ _ _ (all ClosedPattern r1) (λ p r2. k_alternatives m (acc ++ (p ∷ [])) r2))
      (inr refl)

  k_sequence : (p : Pattern) (r : List Terminal) (k j : List PatternEntry → List Terminal → Answer Pattern) (x y : Answer Pattern)
      → ((es : List PatternEntry) (u : List Terminal) → Keeps (k es u) (j es u)) → Keeps x y
      → Keeps (sequence_or d self inner p r k x) (sequence_or e reader other p r j y)
  k_sequence p r k j x y h m = keeps_first (is_op Comma) r _ _ _ _ (λ _ r1. keeps_then _ _ _ _ (k_entries_of Element r1) h) m

  k_square : (r : List Terminal) → Keeps (square_pattern d self inner r) (square_pattern e reader other r)
  k_square r = keeps_then _ _ _ _ (k_entries_of Element r) (λ es r1. inr refl)

  k_mapping : (r : List Terminal) → Keeps (mapping_pattern d self inner r) (mapping_pattern e reader other r)
  k_mapping r = keeps_then _ _ _ _ (k_entries_of KeyPattern r) (λ es r1. inr refl)

  k_class : (f : Expr) (r : List Terminal) → Keeps (class_arguments d self inner f r) (class_arguments e reader other f r)
  k_class f r = keeps_then _ _ _ _ (k_entries_of ClassArgument r) (λ es r1. inr refl)

  k_after_dots : (f : Expr) (r : List Terminal) → Keeps (dotted_pattern d self inner f r) (dotted_pattern e reader other f r)
  k_after_dots (Trees.Name x c) r = keeps_first (is_op LPar) r _ _ _ _ (λ _ r1. k_class (Trees.Name x c) r1) (inr refl)
  k_after_dots f r = keeps_first (is_op LPar) r _ _ _ _ (λ _ r1. k_class f r1) (inr refl)

  k_name : (x : Identifier) (r : List Terminal) → Keeps (name_pattern d self inner x r) (name_pattern e reader other x r)
  k_name x r = keeps_cond (is_wildcard x) _ _ _ _ (inr refl) (keeps_then _ _ _ _ (k_dotted d e le (length r) (Trees.Name x Load) r)
      (λ f r1. k_after_dots f r1))

  k_value : (i : List Terminal) → Keeps (literal_pattern d self inner i) (literal_pattern e reader other i)
  k_value i = keeps_then _ _ (λ v r. Found (MatchValue v) r) (λ v r. Found (MatchValue v) r)
      (k_literal self reader fields calm i NoForm NoForm (inr refl)) (λ v r. inr refl)

  k_constant : (i : List Terminal) → Keeps (on_first singleton_word i (λ v r. Found (MatchSingleton v) r) (literal_pattern d self inner i))
      (on_first singleton_word i (λ v r. Found (MatchSingleton v) r) (literal_pattern e reader other i))
  k_constant i = keeps_first singleton_word i (λ v r. Found (MatchSingleton v) r) (λ v r. Found (MatchSingleton v) r) _ _
      (λ v r. inr refl) (k_value i)

  module _ (same alike : PatternReads) (equal : KeepsAt same alike) where
    k_round : (r : List Terminal) → Keeps (round_pattern d self inner same r) (round_pattern e reader other alike r)
    k_round r = keeps_first (is_op RPar) r _ _ _ _ (λ _ r1. inr refl)
        (keeps_then _ _ _ _ (equal StarPattern r) (λ p r1. k_sequence p r1 _ _ _ _ (λ es r2. inr refl) (inr refl)))

    k_closed : (i : List Terminal) → Keeps (closed_pattern d self inner same i) (closed_pattern e reader other alike i)
    k_closed [] = inr refl
    k_closed (Ident x ∷ r) = k_name x.form r
    k_closed (Op LPar ∷ r) = k_round r
    k_closed (Op LSqb ∷ r) = k_square r
    k_closed (Op LBrace ∷ r) = k_mapping r
    k_closed (Op x ∷ r) = k_constant (Op x ∷ r)
    k_closed (t ∷ r) = k_constant (t ∷ r)

    k_read_closed : (i : List Terminal) → Keeps (read_closed d self inner same i) (read_closed e reader other alike i)
    k_read_closed i = keeps_cap pattern_height (suc d) (suc e) (omega (arith, le)) _ _ (k_closed i)

    k_or : (i : List Terminal) → Keeps (read_or d self inner same i) (read_or e reader other alike i)
    k_or i = keeps_then _ _ _ _ (k_read_closed i)
        (λ p r. keeps_first (is_op VBar) r _ _ _ _ (λ _ _. keeps_then _ _ _ _ (k_alternatives (length r) [] r)
        (λ ps r1. keeps_checked pattern_height (suc d) (suc e) (omega (arith, le)) (Found (MatchOr (patterns (p ∷ ps))) r1))) (inr refl))

    k_as : (i : List Terminal) → Keeps (read_as_pattern d self inner same i) (read_as_pattern e reader other alike i)
    k_as i = keeps_then _ _ _ _ (k_or i)
        (λ p r. keeps_first (is_word Key.As) r _ _ _ _
        (λ _ r1. keeps_first name_in r1 _ _ _ _ (λ x r2. keeps_checked pattern_height (suc d) (suc e) (omega (arith, le))
        (made (as_named p x) r2)) (inr refl)) (inr refl))

    k_star : (i : List Terminal) → Keeps (read_star d self inner same i) (read_star e reader other alike i)
    k_star i = keeps_first (is_op Star) i _ _ _ _ (λ _ r. inr refl) (k_as i)

    k_patterns : (i : List Terminal) → Keeps (read_patterns d self inner same i) (read_patterns e reader other alike i)
    k_patterns i = keeps_then _ _ _ _ (k_star i)
        (λ p r. k_sequence p r _ _ _ _ (λ es r1. keeps_checked pattern_height (suc d) (suc e) (omega (arith, le))
        (Found (MatchSequence (a_pattern p (elements es))) r1)) (inr refl))

    k_step : KeepsAt (pattern_step d self inner same) (pattern_step e reader other alike)
    k_step Patterns i = k_patterns i
    k_step StarPattern i = k_star i
    k_step AsPattern i = k_as i
    k_step OrPattern i = k_or i
    k_step ClosedPattern i = k_read_closed i

-- the law
pub keeps : (g h d e : ℕ) → g ≤ h → d ≤ e → (l : PatternLevel) (i : List Terminal) → Keeps (capped_pattern g d l i) (capped_pattern h e l i)
keeps zero h d e a b l i = inl refl
keeps (suc g) h zero e a b l i = inl refl
keeps (suc g) zero (suc d) e a b l i = absurd (omega (arith, a))
keeps (suc g) (suc h) (suc d) zero a b l i = absurd (omega (arith, b))
keeps (suc g) (suc h) (suc d) (suc e) a b l i = k_step d e (omega (arith, b)) (capped g d) (capped h e)
    (keeps_capped g h d e (omega (arith, a)) (omega (arith, b))) (light_capped g d) (capped_pattern g d) (capped_pattern h e)
    (keeps g h d e (omega (arith, a)) (omega (arith, b))) (capped_pattern g (suc d)) (capped_pattern h (suc e))
    (keeps g h (suc d) (suc e) (omega (arith, a)) b) l i
