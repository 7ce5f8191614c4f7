-- What the reader of patterns answers is derived, and no higher than its room.
--
-- Carries: sound, closed_sound, capped_sound. On: Says, SoundLists and Sound of expressions,
-- SoundValues, SoundLists.
use Rattle.std.proofs.Common.{◌≡◌, ◌⊎◌, inl, inr, refl, sym, ap, subst, ◌∙◌, ℕ, zero, suc, ◌≤◌, arith, List, [], ◌∷◌, ◌++◌, Option, Some}
use Rattle.std.proofs.Common.{None, Bool, false, if◌then◌else◌, append_assoc}
use Rattle.pylex_lexeme.specs.declared.kinds.Exact.TheVariants.{LPar, RPar, LSqb, RSqb, LBrace, RBrace, Comma, Star, Dot, VBar}
use Rattle.pytoken.specs.declared.keywords.Keyword.TheVariants as Key
use Rattle.pytree_node.specs.declared.operators.Context.TheVariants.{Load}
use Rattle.pygrammar.specs.declared.pattern_levels.PatternLevel.{PatternLevel}
use Rattle.pygrammar.specs.declared.pattern_levels.PatternLevel.TheVariants.{Patterns, StarPattern, AsPattern, OrPattern, ClosedPattern}
use Rattle.pytree_node.specs.Trees
use Rattle.pytree_node.specs.Trees.{Expr, Identifier, Pattern, MatchAs, MatchSequence, a_pattern, absent_pattern}
use Rattle.pytoken.specs.Terminals.{Spelled, Terminal, Op, Word, Ident}
use Rattle.pytree_height.specs.Heights.{pattern_height}
use Rattle.pygrammar.specs.PatternOperators.{below_pattern, captured, is_wildcard, singleton_word}
use Rattle.pygrammar.specs.PatternEntries.{Element, KeyPattern, ClassArgument, elements, mapped, class_of}
use Rattle.pygrammar.specs.Capped.{capped}
use Rattle.pygrammar.specs.Reader.{Reads, Answer, Found, on_first}
use Rattle.pygrammar.specs.PatternGrammar as P
use Rattle.pygrammar.specs.PatternReader.{PatternReads, round_pattern, square_pattern, mapping_pattern, class_arguments, dotted_pattern}
use Rattle.pygrammar.specs.PatternReader.{name_pattern, literal_pattern, closed_pattern, read_closed, read_or, read_as_pattern, read_star}
use Rattle.pygrammar.specs.PatternReader.{read_patterns, pattern_step, cap_pattern, capped_pattern}
use Rattle.pygrammar.proofs.Heights.Room.{sound_capped}
use Rattle.pygrammar.proofs.Soundness.Says.{Says, SoundAt, found, no_form, deep, says_then, says_first, says_op, says_word, says_name}
use Rattle.pygrammar.proofs.Soundness.Says.{says_found, says_made, says_is}
use Rattle.pygrammar.proofs.Soundness.SoundLists.{says_closed, NoStar, no_star}
use Rattle.pygrammar.proofs.Pattern.SoundValues.{says_cap, says_choice, literal_sound, dotted_sound}
use Rattle.pygrammar.proofs.Pattern.SoundLists.{PatternAt, SoundBelow, entries_sound, alternatives_sound}

-- ---- StarPattern without a star.

abbrev StarForms : PatternLevel → List Terminal → Pattern → Type 0
StarForms StarPattern ts p = (P.DerivesPattern AsPattern ts p) ⊎ ((us : List Terminal) × (ts ≡ Op Star ∷ us))
StarForms l ts p = Unit {0}

next_forms : (l : PatternLevel) (ts : List Terminal) (p : Pattern) → P.DerivesPattern (below_pattern l) ts p → StarForms l ts p
next_forms StarPattern ts p d = inl d
next_forms _ ts p d = tt

star_forms : {l : PatternLevel} {ts : List Terminal} {p : Pattern} → P.DerivesPattern l ts p → StarForms l ts p
star_forms (P.next {l = l} {ts = ts} {p = p} d) = next_forms l ts p d
star_forms (P.star {x = x}) = inr (Ident x ∷ [], refl)
star_forms _ = tt

starless : (i ts r : List Terminal) (p : Pattern) → i ≡ ts ++ r → NoStar i → P.DerivesPattern StarPattern ts p
    → P.DerivesPattern AsPattern ts p
starless i ts r p q f d = elim (star_forms d) [ inl a ↦ a | inr u ↦ absurd (no_star i (u.0 ++ r) f (q ∙ ap (λ z. z ++ r) u.1)) ]

-- ---- Names.

-- `captured` by its test
abbrev caught : Bool → Identifier → Option Identifier
caught b x = if b then None else Some x

capture_sound : (x : Spelled) (o : Option Identifier) → captured x.form ≡ o
    → P.DerivesPattern ClosedPattern (Ident x ∷ []) (MatchAs absent_pattern o)
capture_sound x o h = subst (λ z. P.DerivesPattern ClosedPattern (Ident x ∷ []) (MatchAs absent_pattern z)) h P.capture

module _ (d : ℕ) (self : Reads) (fields : SoundAt self) (inner : PatternReads) (all : SoundBelow inner) where
  class_sound : (i ts s : List Terminal) (e : Expr) → i ≡ ts ++ (Op LPar ∷ s) → P.ClassOf ts e
      → Says (PatternAt ClosedPattern i) (class_arguments d self inner e s)
  class_sound i ts s e q c = says_then _ _ (entries_sound d self fields inner all ClassArgument s) (λ es r y. says_op RPar r _ _
      (λ a u v. says_made _ u (λ p h. (
        ts ++ (Op LPar ∷ (y.0 ++ (Op RPar ∷ []))),
        rw (q, y.3, v) (simp append_assoc refl),
        P.class_pattern c y.4 (ap (class_of e) (sym y.2) ∙ h),
      )))
      (λ _. no_form))

  dotted_pattern_sound : {f : Identifier} {ts : List Terminal} {e : Expr} (i r : List Terminal) → i ≡ ts ++ r → is_wildcard f ≡ false
      → P.Dotted f ts e → Says (PatternAt ClosedPattern i) (dotted_pattern d self inner e r)
  dotted_pattern_sound i r q h (P.first_name {x = x}) = says_op LPar r _ _
      (λ a s v. class_sound i (Ident x ∷ []) s (Trees.Name x.form Load) (q ∙ ap (λ z. Ident x ∷ z) v) (P.class_name P.first_name h))
      (λ _. found (Ident x ∷ [], q, capture_sound x (Some x.form) (ap (λ b. caught b x.form) h)))
  dotted_pattern_sound i r q h (P.dot_name {ts = ts} {e = e} x p) = says_op LPar r _ _
      (λ a s v. class_sound i (ts ++ (Op Dot ∷ (Ident x ∷ []))) s (Trees.Attribute e x.form Load) (q
      ∙ ap (λ z. (ts ++ (Op Dot ∷ (Ident x ∷ []))) ++ z) v) (P.class_name (P.dot_name x p) h))
      (λ _. found (ts ++ (Op Dot ∷ (Ident x ∷ [])), q, P.value x (P.class_name p h)))

  name_sound : (x : Spelled) (r : List Terminal) → Says (PatternAt ClosedPattern (Ident x ∷ r)) (name_pattern d self inner x.form r)
  name_sound x r =
      says_choice (is_wildcard x.form) _ _
      (λ h. found (Ident x ∷ [], refl, capture_sound x None (ap (λ b. caught b x.form) h)))
      (λ h. says_then _ _ (dotted_sound d x r) (λ e s p. dotted_pattern_sound (Ident x ∷ r) s p.1 h p.2))

  -- ---- Brackets.

  square_sound : (r : List Terminal) → Says (PatternAt ClosedPattern (Op LSqb ∷ r)) (square_pattern d self inner r)
  square_sound r = says_then _ _ (entries_sound d self fields inner all Element r) (λ es s y. says_closed RSqb s _ (λ u v. (
    Op LSqb ∷ (y.0 ++ (Op RSqb ∷ [])),
    rw (y.3, v) (simp append_assoc refl),
    subst (λ z. P.DerivesPattern ClosedPattern (Op LSqb ∷ (y.0 ++ (Op RSqb ∷ []))) (MatchSequence (elements z))) (sym y.2)
        (P.square_sequence y.4),
  )))

  mapping_sound : (r : List Terminal) → Says (PatternAt ClosedPattern (Op LBrace ∷ r)) (mapping_pattern d self inner r)
  mapping_sound r = says_then _ _ (entries_sound d self fields inner all KeyPattern r) (λ es s y. says_op RBrace s _ _
      (λ a u v. says_made _ u (λ p h. (
        Op LBrace ∷ (y.0 ++ (Op RBrace ∷ [])),
        rw (y.3, v) (simp append_assoc refl),
        P.mapping y.4 (ap mapped (sym y.2) ∙ h),
      )))
      (λ _. no_form))

  literal_pattern_sound : (i : List Terminal) → Says (PatternAt ClosedPattern i) (literal_pattern d self inner i)
  literal_pattern_sound i = says_then _ _ (literal_sound self fields {Q = λ e r. (ts : List Terminal) × (i ≡ ts ++ r) × P.LiteralOf ts e} i
      _ (λ e r ts q p. (ts, q, p)) no_form) (λ e r p. found (p.0, p.1, P.literal p.2))

  other_sound : (t : Terminal) (r : List Terminal)
      → Says (PatternAt ClosedPattern (t ∷ r)) (on_first singleton_word (t ∷ r) (λ v s. Found (Trees.MatchSingleton v) s)
      (literal_pattern d self inner (t ∷ r)))
  other_sound t r = says_first singleton_word (t ∷ r) _ _ (λ u v s h q. found (u ∷ [], q, P.singleton h))
      (λ _. literal_pattern_sound (t ∷ r))

  module _ (same : PatternReads) (whole : SoundBelow same) where
    round_sound : (r : List Terminal) → Says (PatternAt ClosedPattern (Op LPar ∷ r)) (round_pattern d self inner same r)
    round_sound r =
        says_op RPar r _ _ (λ a s q. found (Op LPar ∷ (Op RPar ∷ []), ap (λ z. Op LPar ∷ z) q, P.empty_sequence)) (λ _.
        says_then _ _ (whole StarPattern r) (λ e s p. says_op Comma s _ _
        (λ a u q. says_then _ _ (entries_sound d self fields inner all Element u) (λ es r1 y. says_closed RPar r1 _ (λ r2 v. (
          Op LPar ∷ (p.0 ++ (Op Comma ∷ (y.0 ++ (Op RPar ∷ [])))),
          rw (p.1, q, y.3, v) (simp append_assoc refl),
          subst (λ z. P.DerivesPattern ClosedPattern (Op LPar ∷ (p.0 ++ (Op Comma ∷ (y.0 ++ (Op RPar ∷ [])))))
              (MatchSequence (a_pattern e (elements z)))) (sym y.2) (P.round_sequence p.2 y.4),
        ))))
        (λ _. says_op Star r _ _ (λ _ _ _. no_form) (λ f. says_closed RPar s e (λ r2 v.
        (Op LPar ∷ (p.0 ++ (Op RPar ∷ [])), rw (p.1, v) (simp append_assoc refl), P.group (starless r p.0 s e p.1 f p.2)))))))

    -- before the height is asked
    pub closed_sound : (i : List Terminal) → Says (PatternAt ClosedPattern i) (closed_pattern d self inner same i)
    closed_sound [] = no_form
    closed_sound (Ident x ∷ r) = name_sound x r
    closed_sound (Op LPar ∷ r) = round_sound r
    closed_sound (Op LSqb ∷ r) = square_sound r
    closed_sound (Op LBrace ∷ r) = mapping_sound r
    closed_sound (Op x ∷ r) = other_sound (Op x) r
    closed_sound (t ∷ r) = other_sound t r

-- ---- The levels.

-- derived, and no higher than n
abbrev pub LowAt : ℕ → PatternLevel → List Terminal → Pattern → List Terminal → Type 0
LowAt n l i p r = (ts : List Terminal) × (i ≡ ts ++ r) × P.DerivesPattern l ts p × (pattern_height p ≤ n)

abbrev pub SoundWithin : ℕ → PatternReads → Type 0
SoundWithin n self = (l : PatternLevel) (i : List Terminal) → Says (LowAt n l i) (self l i)

below_sound : (n : ℕ) (self : PatternReads) → SoundWithin n self → SoundBelow self
below_sound n self f l i = says_is _ (f l i) (λ p r y. (y.0, y.1, y.2))

-- a level of the next one
one_up : (n : ℕ) (l : PatternLevel) (i : List Terminal) (p : Pattern) (r : List Terminal)
    → LowAt n (below_pattern l) i p r → LowAt n l i p r
one_up n l i p r y = (y.0, y.1, P.next y.2, y.3)

low_cap : {l : PatternLevel} {i : List Terminal} (n : ℕ) (x : Answer Pattern) → Says (PatternAt l i) x
    → Says (LowAt n l i) (cap_pattern n x)
low_cap n x h = says_is _ (says_cap pattern_height n x h) (λ p r y. (y.0.0, y.0.1, y.0.2, y.1))

module _ (d : ℕ) (self : Reads) (fields : SoundAt self) (inner same : PatternReads) (all : SoundBelow inner) (whole : SoundBelow same) where
  read_closed_sound : (i : List Terminal) → Says (LowAt (suc d) ClosedPattern i) (read_closed d self inner same i)
  read_closed_sound i = low_cap (suc d) _ (closed_sound d self fields inner all same whole i)

  read_or_sound : (i : List Terminal) → Says (LowAt (suc d) OrPattern i) (read_or d self inner same i)
  read_or_sound i = says_then _ _ (read_closed_sound i) (λ e r p. says_op VBar r _ _
      (λ a s q. says_then _ _ (alternatives_sound d self fields inner all r s q)
      (λ es r1 y. low_cap (suc d) _ (found (
        p.0 ++ (Op VBar ∷ y.0),
        rw (p.1, q, y.1) (simp append_assoc refl),
        P.alternatives p.2 y.2,
      ))))
      (λ _. found (one_up (suc d) OrPattern i e r p)))

  read_as_sound : (i : List Terminal) → Says (LowAt (suc d) AsPattern i) (read_as_pattern d self inner same i)
  read_as_sound i = says_then _ _ (read_or_sound i) (λ e r p. says_word Key.As r _ _
      (λ a s q. says_name s _ _
      (λ x u v. low_cap (suc d) _
      (says_made _ u (λ g h. (p.0 ++ (Word Key.As ∷ (Ident x ∷ [])), rw (p.1, q, v) (simp append_assoc refl), P.as_name x p.2 h))))
      no_form)
      (λ _. found (one_up (suc d) AsPattern i e r p)))

  read_star_sound : (i : List Terminal) → Says (LowAt (suc d) StarPattern i) (read_star d self inner same i)
  read_star_sound i = says_op Star i _ _
      (λ a s q. says_name s _ _ (λ x u v. found (Op Star ∷ (Ident x ∷ []), q ∙ ap (λ z. Op Star ∷ z) v, P.star, omega arith)) no_form)
      (λ _. says_is _ (read_as_sound i) (λ e r p. one_up (suc d) StarPattern i e r p))

  read_patterns_sound : (i : List Terminal) → Says (LowAt (suc d) Patterns i) (read_patterns d self inner same i)
  read_patterns_sound i = says_then _ _ (read_star_sound i) (λ e r p. says_op Comma r _ _
      (λ a s q. says_then _ _ (entries_sound d self fields inner all Element s)
      (λ es r1 y. low_cap (suc d) _ (found (
        p.0 ++ (Op Comma ∷ y.0),
        rw (p.1, q, y.3) (simp append_assoc refl),
        subst (λ z. P.DerivesPattern Patterns (p.0 ++ (Op Comma ∷ y.0)) (MatchSequence (a_pattern e (elements z)))) (sym y.2)
            (P.open_sequence p.2 y.4),
      ))))
      (λ _. says_op Star i _ _ (λ _ _ _. no_form) (λ f. found (p.0, p.1, P.next (starless i p.0 r e p.1 f p.2), p.3))))

  step_sound : SoundWithin (suc d) (pattern_step d self inner same)
  step_sound Patterns i = read_patterns_sound i
  step_sound StarPattern i = read_star_sound i
  step_sound AsPattern i = read_as_sound i
  step_sound OrPattern i = read_or_sound i
  step_sound ClosedPattern i = read_closed_sound i

pub capped_sound : (g d : ℕ) → SoundWithin d (capped_pattern g d)
capped_sound zero d l i = deep
capped_sound (suc g) zero l i = deep
capped_sound (suc g) (suc d) l i = step_sound d (capped g d) (sound_capped g d) (capped_pattern g d) (capped_pattern g (suc d))
    (below_sound d _ (capped_sound g d)) (below_sound (suc d) _ (capped_sound g (suc d))) l i

-- the law
pub sound : (g d : ℕ) (l : PatternLevel) (i r : List Terminal) (p : Pattern) → capped_pattern g d l i ≡ Found p r
    → (ts : List Terminal) × (i ≡ ts ++ r) × P.DerivesPattern l ts p × (pattern_height p ≤ d)
sound g d l i r p h = says_found p r (subst (Says (LowAt d l i)) h (capped_sound g d l i))
