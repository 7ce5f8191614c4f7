-- The patterns of several: alternatives, sequences, mappings and class patterns; and groups.
--
-- Carries: alternatives_finds, open_sequence_finds, group_finds, empty_sequence_finds and 4 more, for
-- Complete. On: Atoms, Ends, ReadValues, ReadLevels and 1 more.
use Rattle.std.proofs.Common.{◌≡◌, refl, ap, ◌∙◌, ℕ, suc, ◌+◌, ◌≤◌, arith, List, [], ◌∷◌, ◌++◌, length, Some, None, Bool, true, false}
use Rattle.std.proofs.Common.{if◌then◌else◌, append_assoc, length-append}
use Rattle.std.specs.Prelude.{max}
use Rattle.pylex_lexeme.specs.declared.kinds.Exact.TheVariants.{LPar, RPar, LSqb, RSqb, LBrace, RBrace, Comma, Star, VBar}
use Rattle.pygrammar.specs.declared.pattern_levels.PatternLevel.TheVariants.{Patterns, StarPattern, OrPattern, ClosedPattern}
use Rattle.pytree_node.specs.Trees
use Rattle.pytree_node.specs.Trees.{Expr, Pattern, MatchSequence, MatchMapping, MatchClass, MatchOr, no_pattern, a_pattern, patterns}
use Rattle.pytoken.specs.Terminals.{Spelled, Terminal, Op, Ident}
use Rattle.pytree_height.specs.Heights.{height, list_height, pattern_height, pattern_heights}
use Rattle.pygrammar.specs.Reader.{Found, made, Reads}
use Rattle.pygrammar.specs.Capped.{capped}
use Rattle.pygrammar.specs.PatternOperators.{is_wildcard}
use Rattle.pygrammar.specs.PatternEntries.{Element, KeyPattern, ClassArgument, PatternEntry, elements, is_mapping, pattern_keys}
use Rattle.pygrammar.specs.PatternEntries.{key_patterns, rest_of, mapped, are_class_arguments, named_attributes, named_patterns, class_of}
use Rattle.pygrammar.specs.PatternGrammar as P
use Rattle.pygrammar.specs.PatternReader.{PatternReads, starts_entry, dotted_from, entries_of, alternatives_loop, round_pattern}
use Rattle.pygrammar.specs.PatternReader.{square_pattern, mapping_pattern, class_arguments, dotted_pattern, closed_pattern, read_closed}
use Rattle.pygrammar.specs.PatternReader.{read_or, read_star, read_patterns, capped_pattern}
use Rattle.pygrammar.proofs.Completeness.Atoms.{close_shape, close_after}
use Rattle.pygrammar.proofs.Pattern.Ends.{pass_start}
use Rattle.pygrammar.proofs.Pattern.ReadValues.{fits, class_reads}
use Rattle.pygrammar.proofs.Pattern.ReadLevels.{FindsPattern, by_step, by_closed}
use Rattle.pygrammar.proofs.Pattern.ReadEntries.{elements_hold, mapping_holds, arguments_hold, ListingFinds, AlternativesFind}
use Rattle.pygrammar.proofs.Completeness.Complete.{bracket_shape}

-- ---- Lists with brackets.

one_more : (ts us : List Terminal) (t : Terminal) → length (ts ++ (t ∷ us)) ≡ suc (length ts + length us)
one_more ts us t = omega (arith, length-append ts (t ∷ us))

-- ---- Heights.

pub chosen : (b : Bool) (p q : Pattern) → (if b then Some p else None) ≡ Some q → p ≡ q
chosen true p q h = same p q h
  where
    same : (p q : Pattern) → Some p ≡ Some q → p ≡ q
    same p q h = cc
chosen false p q h = absurd (cc)

mapped_height : (es : List PatternEntry) (p : Pattern) → mapped es ≡ Some p
    → pattern_height p ≡ suc (max (list_height (pattern_keys es)) (pattern_heights (key_patterns es)))
mapped_height es p h =
    omega (arith, ap pattern_height (chosen (is_mapping es) (MatchMapping (pattern_keys es) (key_patterns es) (rest_of es)) p h))

class_height : (e : Expr) (es : List PatternEntry) (p : Pattern) → class_of e es ≡ Some p
    → pattern_height p ≡ suc (max (height e) (max (pattern_heights (elements es)) (pattern_heights (named_patterns es))))
class_height e es p h =
    omega (
      arith,
      ap pattern_height
          (chosen (are_class_arguments false es) (MatchClass e (elements es) (named_attributes es) (named_patterns es)) p h),
    )

-- ---- The steps of the reader.

module _ (d : ℕ) (self : Reads) (inner same : PatternReads) where
  alternatives_step : (i s r : List Terminal) (p : Pattern) (ps : List Pattern) → read_closed d self inner same i ≡ Found p (Op VBar ∷ s)
      → alternatives_loop d self inner (length (Op VBar ∷ s)) [] (Op VBar ∷ s) ≡ Found ps r
      → pattern_height (MatchOr (patterns (p ∷ ps))) ≤ suc d → read_or d self inner same i ≡ Found (MatchOr (patterns (p ∷ ps))) r
  alternatives_step i s r p ps h k w = rw h (rw k (fits pattern_height (suc d) (MatchOr (patterns (p ∷ ps))) r w))

  open_sequence_step : (i s r : List Terminal) (p : Pattern) (es : List PatternEntry)
      → read_star d self inner same i ≡ Found p (Op Comma ∷ s) → entries_of d self inner Element s ≡ Found es r
      → pattern_height (MatchSequence (a_pattern p (elements es))) ≤ suc d
      → read_patterns d self inner same i ≡ Found (MatchSequence (a_pattern p (elements es))) r
  open_sequence_step i s r p es h k w = rw h (rw k (fits pattern_height (suc d) (MatchSequence (a_pattern p (elements es))) r w))

  group_step : (ts r : List Terminal) (p : Pattern) → starts_entry ClassArgument ts ≡ true
      → same StarPattern (ts ++ (Op RPar ∷ r)) ≡ Found p (Op RPar ∷ r) → round_pattern d self inner same (ts ++ (Op RPar ∷ r)) ≡ Found p r
  group_step ts r p s h = pass_start ClassArgument RPar ts (Op RPar ∷ r) _ _ refl s
      ∙ rw h (pass_start ClassArgument Star ts (Op RPar ∷ r) _ _ refl s)

  round_step : (ts i r : List Terminal) (p : Pattern) (es : List PatternEntry) → starts_entry Element ts ≡ true
      → same StarPattern (ts ++ (Op Comma ∷ i)) ≡ Found p (Op Comma ∷ i) → entries_of d self inner Element i ≡ Found es (Op RPar ∷ r)
      → round_pattern d self inner same (ts ++ (Op Comma ∷ i)) ≡ Found (MatchSequence (a_pattern p (elements es))) r
  round_step ts i r p es s h k = pass_start Element RPar ts (Op Comma ∷ i) _ _ refl s ∙ rw h (rw k refl)

  square_step : (i r : List Terminal) (es : List PatternEntry) → entries_of d self inner Element i ≡ Found es (Op RSqb ∷ r)
      → square_pattern d self inner i ≡ Found (MatchSequence (elements es)) r
  square_step i r es h = rw h refl

  mapping_step : (i r : List Terminal) (es : List PatternEntry) (p : Pattern) → entries_of d self inner KeyPattern i ≡ Found es
      (Op RBrace ∷ r) → mapped es ≡ Some p → mapping_pattern d self inner i ≡ Found p r
  mapping_step i r es p h k = rw h (ap (λ o. made o r) k)

  arguments_step : (i r : List Terminal) (e : Expr) (es : List PatternEntry) (p : Pattern) → entries_of d self inner ClassArgument i ≡ Found
      es (Op RPar ∷ r) → class_of e es ≡ Some p → class_arguments d self inner e i ≡ Found p r
  arguments_step i r e es p h k = rw h (ap (λ o. made o r) k)

  called : (e : Expr) (i : List Terminal) → dotted_pattern d self inner e (Op LPar ∷ i) ≡ class_arguments d self inner e i
  called (Trees.Name x c) i = refl
  called _ i = refl

  class_step : (x : Spelled) (us i : List Terminal) (e : Expr) → is_wildcard x.form ≡ false
      → dotted_from d x.form us ≡ Found e (Op LPar ∷ i) → closed_pattern d self inner same (Ident x ∷ us) ≡ class_arguments d self inner e i
  class_step x us i e w h = rw (w, h) (called e i)

-- ---- What they find.

pub alternatives_finds : (ts us : List Terminal) (p : Pattern) (ps : List Pattern) → FindsPattern ClosedPattern ts p
    → AlternativesFind us ps → FindsPattern OrPattern (ts ++ (Op VBar ∷ us)) (MatchOr (patterns (p ∷ ps)))
alternatives_finds ts us p ps f k = by_step OrPattern (ts ++ (Op VBar ∷ us)) (MatchOr (patterns (p ∷ ps))) (λ g d r w h e.
    let n = one_more ts us (Op VBar) in
    let rest = Op VBar ∷ (us ++ r) in
    ap (read_or d (capped g d) (capped_pattern g d) (capped_pattern g (suc d))) (append_assoc ts (Op VBar ∷ us) r) ∙
    alternatives_step d (capped g d) (capped_pattern g d) (capped_pattern g (suc d)) (ts ++ rest) (us ++ r) r p ps
    (f (suc g) (suc d) rest (omega (arith, w, n, length-append us r)) (omega (arith, h)) (omega arith))
    (k g d r (omega (arith, w, n)) (omega (arith, h)) e (suc (length (us ++ r))) (omega (arith, length-append us r)) []) h)

pub open_sequence_finds : (ts us : List Terminal) (p : Pattern) (es : List PatternEntry) → FindsPattern StarPattern ts p
    → P.PatternListing Element us es → ListingFinds Element us es
    → FindsPattern Patterns (ts ++ (Op Comma ∷ us)) (MatchSequence (a_pattern p (elements es)))
open_sequence_finds ts us p es f c k = by_step Patterns (ts ++ (Op Comma ∷ us)) (MatchSequence (a_pattern p (elements es))) (λ g d r w h e.
    let n = one_more ts us (Op Comma) in
    let rest = Op Comma ∷ (us ++ r) in
    ap (read_patterns d (capped g d) (capped_pattern g d) (capped_pattern g (suc d))) (append_assoc ts (Op Comma ∷ us) r) ∙
    open_sequence_step d (capped g d) (capped_pattern g d) (capped_pattern g (suc d)) (ts ++ rest) (us ++ r) r p es
    (f (suc g) (suc d) rest (omega (arith, w, n, length-append us r)) (omega (arith, h)) (omega arith))
    (k g d r (omega (arith, w, n)) (omega (arith, h, elements_hold c)) e (length (us ++ r)) (omega (arith, length-append us r)) []) h)

pub group_finds : (ts : List Terminal) (p : Pattern) → starts_entry ClassArgument ts ≡ true → FindsPattern StarPattern ts p
    → FindsPattern ClosedPattern (Op LPar ∷ (ts ++ (Op RPar ∷ []))) p
group_finds ts p s f = by_closed (Op LPar ∷ (ts ++ (Op RPar ∷ []))) p (λ g d r w h e.
    ap (closed_pattern d (capped g d) (capped_pattern g d) (capped_pattern g (suc d))) (close_shape ts r (Op LPar) (Op RPar)) ∙
    group_step d (capped g d) (capped_pattern g d) (capped_pattern g (suc d)) ts r p s
    (f g (suc d) (Op RPar ∷ r) (omega (arith, w, one_more ts [] (Op RPar))) h (omega arith)))

pub empty_sequence_finds : FindsPattern ClosedPattern (Op LPar ∷ (Op RPar ∷ [])) (MatchSequence no_pattern)
empty_sequence_finds = by_closed (Op LPar ∷ (Op RPar ∷ [])) (MatchSequence no_pattern) (λ g d r w h e. refl)

pub round_sequence_finds : (ts us : List Terminal) (p : Pattern) (es : List PatternEntry) → starts_entry Element ts ≡ true
    → FindsPattern StarPattern ts p → P.PatternListing Element us es → ListingFinds Element us es
    → FindsPattern ClosedPattern (Op LPar ∷ (ts ++ (Op Comma ∷ (us ++ (Op RPar ∷ []))))) (MatchSequence (a_pattern p (elements es)))
round_sequence_finds ts us p es s f c k = by_closed (Op LPar ∷ (ts ++ (Op Comma ∷ (us ++ (Op RPar ∷ [])))))
    (MatchSequence (a_pattern p (elements es))) (λ g d r w h e.
    let n = one_more ts (us ++ (Op RPar ∷ [])) (Op Comma) in
    let m = one_more us [] (Op RPar) in
    let rest = us ++ (Op RPar ∷ r) in
    ap (closed_pattern d (capped g d) (capped_pattern g d) (capped_pattern g (suc d)))
    (close_after ts us r (Op LPar) (Op Comma) (Op RPar)) ∙
    round_step d (capped g d) (capped_pattern g d) (capped_pattern g (suc d)) ts rest r p es s
    (f g (suc d) (Op Comma ∷ rest) (omega (arith, w, n, m, length-append us (Op RPar ∷ r))) (omega (arith, h)) (omega arith))
    (k g d (Op RPar ∷ r) (omega (arith, w, n, m)) (omega (arith, h, elements_hold c)) (omega arith) (length rest)
    (omega (arith, length-append us (Op RPar ∷ r))) []))

pub square_sequence_finds : (ts : List Terminal) (es : List PatternEntry) → P.PatternListing Element ts es → ListingFinds Element ts es
    → FindsPattern ClosedPattern (Op LSqb ∷ (ts ++ (Op RSqb ∷ []))) (MatchSequence (elements es))
square_sequence_finds ts es c k = by_closed (Op LSqb ∷ (ts ++ (Op RSqb ∷ []))) (MatchSequence (elements es)) (λ g d r w h e.
    let rest = ts ++ (Op RSqb ∷ r) in
    ap (closed_pattern d (capped g d) (capped_pattern g d) (capped_pattern g (suc d))) (close_shape ts r (Op LSqb) (Op RSqb)) ∙
    square_step d (capped g d) (capped_pattern g d) (capped_pattern g (suc d)) rest r es
    (k g d (Op RSqb ∷ r) (omega (arith, w, one_more ts [] (Op RSqb))) (omega (arith, h, elements_hold c)) (omega arith) (length rest)
    (omega (arith, length-append ts (Op RSqb ∷ r))) []))

pub mapping_finds : (ts : List Terminal) (es : List PatternEntry) (p : Pattern) → P.PatternListing KeyPattern ts es → mapped es ≡ Some p
    → ListingFinds KeyPattern ts es → FindsPattern ClosedPattern (Op LBrace ∷ (ts ++ (Op RBrace ∷ []))) p
mapping_finds ts es p c q k = by_closed (Op LBrace ∷ (ts ++ (Op RBrace ∷ []))) p (λ g d r w h e.
    let rest = ts ++ (Op RBrace ∷ r) in
    ap (closed_pattern d (capped g d) (capped_pattern g d) (capped_pattern g (suc d))) (close_shape ts r (Op LBrace) (Op RBrace)) ∙
    mapping_step d (capped g d) (capped_pattern g d) (capped_pattern g (suc d)) rest r es p
    (k g d (Op RBrace ∷ r) (omega (arith, w, one_more ts [] (Op RBrace))) (omega (arith, h, mapping_holds c, mapped_height es p q))
    (omega arith) (length rest) (omega (arith, length-append ts (Op RBrace ∷ r))) []) q)

pub class_pattern_finds : (ts us : List Terminal) (e : Expr) (es : List PatternEntry) (p : Pattern) → P.ClassOf ts e
    → P.PatternListing ClassArgument us es → class_of e es ≡ Some p → ListingFinds ClassArgument us es
    → FindsPattern ClosedPattern (ts ++ (Op LPar ∷ (us ++ (Op RPar ∷ [])))) p
class_pattern_finds ts us e es p q c o k = by_closed (ts ++ (Op LPar ∷ (us ++ (Op RPar ∷ [])))) p (λ g d r w h _.
    let n = one_more ts (us ++ (Op RPar ∷ [])) (Op LPar) in
    let m = one_more us [] (Op RPar) in
    let v = class_height e es p o in
    let rest = us ++ (Op RPar ∷ r) in
    let b = class_reads q d (Op LPar ∷ rest) (omega (arith, h, v)) (omega arith) in
    ap (closed_pattern d (capped g d) (capped_pattern g d) (capped_pattern g (suc d))) (bracket_shape ts us r (Op LPar) (Op RPar) ∙ b.2.0) ∙
    (class_step d (capped g d) (capped_pattern g d) (capped_pattern g (suc d)) b.0 b.1 rest e b.3 b.2.1 ∙
    arguments_step d (capped g d) (capped_pattern g d) (capped_pattern g (suc d)) rest r e es p
    (k g d (Op RPar ∷ r) (omega (arith, w, n, m)) (omega (arith, h, v, arguments_hold c)) (omega arith) (length rest)
    (omega (arith, length-append us (Op RPar ∷ r))) []) o))
