-- Carries: the laws of patterns. On: names that patterns capture, entries of their lists, and the
-- patterns that these make.
use Rattle.std.proofs.Common.{◌≡◌, refl, sym, ap, subst, ◌+◌, arith, List, [], ◌∷◌, length, Option, Some, None, Bool, true, false}
use Rattle.std.specs.Prelude.{eqb, not, ◌&&◌, ◌||◌, if◌then◌else◌}
use Rattle.std.specs.List.{list_all}
use Rattle.std.proofs.lemmas.Bool.{and_parts, and_from, or_right, eqb-true, eq-eqb, not-true}
use Rattle.pylex_lexeme.specs.Characters.{low_line}
use Rattle.pytree_node.specs.Trees
use Rattle.pytree_node.specs.Trees.{Identifier, Expr, Pattern, absent_pattern, present_pattern}
use Rattle.pygrammar.specs.declared.pattern_levels.PatternLevel.{PatternLevel}
use Rattle.pygrammar.specs.declared.pattern_levels.PatternLevel.TheVariants.{Patterns, StarPattern, AsPattern, OrPattern, ClosedPattern}
use Rattle.pygrammar.specs.PatternOperators.{below_pattern, captured, is_wildcard}
use Rattle.pygrammar.specs.PatternEntries.{PatternItem, Element, KeyPattern, ClassArgument, PatternEntry, Alone, Keyed, Rest, Named}
use Rattle.pygrammar.specs.PatternEntries.{elements, is_mapping, pattern_keys, key_patterns, rest_of, mapped, all_named}
use Rattle.pygrammar.specs.PatternEntries.{are_class_arguments, named_attributes, named_patterns, class_of}
use Rattle.pytree_fits.specs.Tests.{Tests}
use Rattle.pytree_fits.specs.PatternSlots.{wildcard, target_fits, perhaps_target_fits, begins_with_wildcard, class_fits, key_fits}
use Rattle.pytree_fits.specs.PatternSlots.{takes_star_pattern, count_patterns, pattern_fits_at, each_pattern_fits}
use Rattle.pytree_fits.proofs.Fields.Tests.{from3, from4, never}
use Rattle.pyunparse_text.proofs.Callers.Trees.{given}
use Rattle.pyunparse_text.proofs.Callers.Said.{none_alone}

-- ---- Names.

pub wildcard_is : (x : Identifier) → is_wildcard x ≡ true → x ≡ wildcard
wildcard_is [] h = absurd (never h)
wildcard_is (c ∷ []) h = ap (λ z. z ∷ []) (eqb-true c low_line h)
wildcard_is (c ∷ (d ∷ cs)) h = absurd (never h)

pub captured_name : (x : Identifier) → is_wildcard x ≡ false → captured x ≡ Some x
captured_name x h = rw h refl

module _ (n : Tests) where
  pub other_fits : (x : Identifier) → n.name x ≡ true → is_wildcard x ≡ false → target_fits n x ≡ true
  other_fits x h e = and_from (n.name x) (not (is_wildcard x)) h (rw e refl)

  pub captured_fits : (x : Identifier) → n.name x ≡ true → perhaps_target_fits n (captured x) ≡ true
  captured_fits x h = by (is_wildcard x) refl
    where
      by : (b : Bool) → is_wildcard x ≡ b → perhaps_target_fits n (if b then None else Some x) ≡ true
      by true e = subst (λ z. n.name z ≡ true) (wildcard_is x e) h
      by false e = other_fits x h e

  pub bound_fits : (x y : Identifier) → captured x ≡ Some y → n.name x ≡ true → target_fits n y ≡ true
  bound_fits x y q h = by (is_wildcard x) refl q
    where
      by : (b : Bool) → is_wildcard x ≡ b → (if b then None else Some x) ≡ Some y → target_fits n y ≡ true
      by true e q = absurd (cc)
      by false e q = given (λ z. target_fits n z ≡ true) q (other_fits x h e)

  -- the NAME that captures this
  pub name_of : (x : Identifier) → target_fits n x ≡ true → (n.name x ≡ true) × (is_wildcard x ≡ false)
  name_of x h = let w = and_parts (n.name x) (not (is_wildcard x)) h in (w.0, not-true (is_wildcard x) w.1)

  pub capture_of : (o : Option Identifier) → perhaps_target_fits n o ≡ true → (x : Identifier) × (n.name x ≡ true) × (captured x ≡ o)
  capture_of None h = (wildcard, h, refl)
  capture_of (Some x) h = let w = name_of x h in (x, w.0, captured_name x w.1)

  -- ---- Levels.

  -- what fits at a level without a star, fits at every level
  pub fits_anywhere : (l m : PatternLevel) (p : Pattern) → takes_star_pattern l ≡ false → pattern_fits_at n l p ≡ true
      → pattern_fits_at n m p ≡ true
  fits_anywhere l m (Trees.MatchStar name) e h = at (takes_star_pattern l) e h
    where
      at : (b : Bool) → b ≡ false → (b && perhaps_target_fits n name) ≡ true → pattern_fits_at n m (Trees.MatchStar name) ≡ true
      at true e h = absurd (cc)
      at false e h = absurd (never h)
  fits_anywhere l m (Trees.MatchMapping keys inner None) e h = h
  fits_anywhere l m (Trees.MatchMapping keys inner (Some rest)) e h = h
  fits_anywhere l m (Trees.MatchAs absent_pattern name) e h = h
  fits_anywhere l m (Trees.MatchAs (present_pattern p) None) e h = h
  fits_anywhere l m (Trees.MatchAs (present_pattern p) (Some name)) e h = h
  fits_anywhere l m _ e h = h

  pub fits_below : (l : PatternLevel) (p : Pattern) → pattern_fits_at n (below_pattern l) p ≡ true → pattern_fits_at n l p ≡ true
  fits_below l p h = fits_anywhere (below_pattern l) l p (by l) h
    where
      by : (l : PatternLevel) → takes_star_pattern (below_pattern l) ≡ false
      by Patterns = refl
      by StarPattern = refl
      by AsPattern = refl
      by OrPattern = refl
      by ClosedPattern = refl

-- ---- Entries.

abbrev pub entry_fits : Tests → PatternItem → PatternEntry → Bool
entry_fits n Element (Alone p) = pattern_fits_at n StarPattern p
entry_fits n KeyPattern (Keyed k p) = key_fits n k && pattern_fits_at n AsPattern p
entry_fits n KeyPattern (Rest x) = target_fits n x
entry_fits n ClassArgument (Alone p) = pattern_fits_at n AsPattern p
entry_fits n ClassArgument (Named x p) = n.name x && pattern_fits_at n AsPattern p
entry_fits n _ _ = false

abbrev pub all_fit : Tests → PatternItem → List PatternEntry → Bool
all_fit n i [] = true
all_fit n i (e ∷ es) = entry_fits n i e && all_fit n i es

module _ (n : Tests) where
  pub elements_fit : (es : List PatternEntry) → all_fit n Element es ≡ true → each_pattern_fits n StarPattern (elements es) ≡ true
  elements_fit [] h = refl
  elements_fit (Alone p ∷ es) h =
      let w = and_parts (pattern_fits_at n StarPattern p) (all_fit n Element es) h in
      and_from (pattern_fits_at n StarPattern p) (each_pattern_fits n StarPattern (elements es)) w.0 (elements_fit es w.1)
  elements_fit (_ ∷ es) h = absurd (cc)

  -- ---- Mappings.

  keys_fit : (es : List PatternEntry) → all_fit n KeyPattern es ≡ true → list_all (key_fits n) (pattern_keys es) ≡ true
  keys_fit [] h = refl
  keys_fit (Keyed k p ∷ es) h =
      let w = and_parts (key_fits n k && pattern_fits_at n AsPattern p) (all_fit n KeyPattern es) h in
      and_from (key_fits n k) (list_all (key_fits n) (pattern_keys es)) (and_parts (key_fits n k) (pattern_fits_at n AsPattern p)
      w.0).0 (keys_fit es w.1)
  keys_fit (Rest x ∷ es) h = keys_fit es (and_parts (target_fits n x) (all_fit n KeyPattern es) h).1
  keys_fit (_ ∷ es) h = absurd (cc)

  key_patterns_fit : (es : List PatternEntry) → all_fit n KeyPattern es ≡ true → each_pattern_fits n AsPattern (key_patterns es) ≡ true
  key_patterns_fit [] h = refl
  key_patterns_fit (Keyed k p ∷ es) h =
      let w = and_parts (key_fits n k && pattern_fits_at n AsPattern p) (all_fit n KeyPattern es) h in
      and_from (pattern_fits_at n AsPattern p) (each_pattern_fits n AsPattern (key_patterns es))
      (and_parts (key_fits n k) (pattern_fits_at n AsPattern p) w.0).1 (key_patterns_fit es w.1)
  key_patterns_fit (Rest x ∷ es) h = key_patterns_fit es (and_parts (target_fits n x) (all_fit n KeyPattern es) h).1
  key_patterns_fit (_ ∷ es) h = absurd (cc)

  as_many_keys : (es : List PatternEntry) → length (pattern_keys es) ≡ count_patterns (key_patterns es)
  as_many_keys [] = refl
  as_many_keys (Keyed k p ∷ es) = omega (arith, as_many_keys es)
  as_many_keys (_ ∷ es) = as_many_keys es

  rest_target : (es : List PatternEntry) (x : Identifier) → all_fit n KeyPattern es ≡ true → rest_of es ≡ Some x → target_fits n x ≡ true
  rest_target [] x h q = absurd (cc)
  rest_target (Keyed k p ∷ es) x h q =
      rest_target es x (and_parts (key_fits n k && pattern_fits_at n AsPattern p) (all_fit n KeyPattern es) h).1 q
  rest_target (Rest y ∷ es) x h q = given (λ z. target_fits n z ≡ true) q (and_parts (target_fits n y) (all_fit n KeyPattern es) h).0
  rest_target (_ ∷ es) x h q = absurd (cc)

  mapping_fits : (l : PatternLevel) (es : List PatternEntry) (o : Option Identifier) → all_fit n KeyPattern es ≡ true → rest_of es ≡ o
      → pattern_fits_at n l (Trees.MatchMapping (pattern_keys es) (key_patterns es) o) ≡ true
  mapping_fits l es None h q =
      from3 (eqb (length (pattern_keys es)) (count_patterns (key_patterns es))) (list_all (key_fits n) (pattern_keys es))
      (each_pattern_fits n AsPattern (key_patterns es))
      (eq-eqb (length (pattern_keys es)) (count_patterns (key_patterns es)) (as_many_keys es)) (keys_fit es h) (key_patterns_fit es h)
  mapping_fits l es (Some x) h q =
      from4 (eqb (length (pattern_keys es)) (count_patterns (key_patterns es))) (list_all (key_fits n) (pattern_keys es))
      (each_pattern_fits n AsPattern (key_patterns es)) (target_fits n x)
      (eq-eqb (length (pattern_keys es)) (count_patterns (key_patterns es)) (as_many_keys es)) (keys_fit es h)
      (key_patterns_fit es h) (rest_target es x h q)

  pub mapped_fits : (l : PatternLevel) (es : List PatternEntry) (p : Pattern) → all_fit n KeyPattern es ≡ true → mapped es ≡ Some p
      → pattern_fits_at n l p ≡ true
  mapped_fits l es p h q = by (is_mapping es) q
    where
      by : (b : Bool) → (if b then Some (Trees.MatchMapping (pattern_keys es) (key_patterns es) (rest_of es)) else None) ≡ Some p
          → pattern_fits_at n l p ≡ true
      by true q = given (λ z. pattern_fits_at n l z ≡ true) q (mapping_fits l es (rest_of es) h refl)
      by false q = absurd (cc)

  -- ---- Class patterns.

  alone_fit : (es : List PatternEntry) → all_fit n ClassArgument es ≡ true → each_pattern_fits n AsPattern (elements es) ≡ true
  alone_fit [] h = refl
  alone_fit (Alone p ∷ es) h =
      let w = and_parts (pattern_fits_at n AsPattern p) (all_fit n ClassArgument es) h in
      and_from (pattern_fits_at n AsPattern p) (each_pattern_fits n AsPattern (elements es)) w.0 (alone_fit es w.1)
  alone_fit (Named x p ∷ es) h = alone_fit es (and_parts (n.name x && pattern_fits_at n AsPattern p) (all_fit n ClassArgument es) h).1
  alone_fit (_ ∷ es) h = absurd (cc)

  attributes_fit : (es : List PatternEntry) → all_fit n ClassArgument es ≡ true → list_all n.name (named_attributes es) ≡ true
  attributes_fit [] h = refl
  attributes_fit (Alone p ∷ es) h = attributes_fit es (and_parts (pattern_fits_at n AsPattern p) (all_fit n ClassArgument es) h).1
  attributes_fit (Named x p ∷ es) h =
      let w = and_parts (n.name x && pattern_fits_at n AsPattern p) (all_fit n ClassArgument es) h in
      and_from (n.name x) (list_all n.name (named_attributes es)) (and_parts (n.name x) (pattern_fits_at n AsPattern p)
      w.0).0 (attributes_fit es w.1)
  attributes_fit (_ ∷ es) h = absurd (cc)

  named_fit : (es : List PatternEntry) → all_fit n ClassArgument es ≡ true → each_pattern_fits n AsPattern (named_patterns es) ≡ true
  named_fit [] h = refl
  named_fit (Alone p ∷ es) h = named_fit es (and_parts (pattern_fits_at n AsPattern p) (all_fit n ClassArgument es) h).1
  named_fit (Named x p ∷ es) h =
      let w = and_parts (n.name x && pattern_fits_at n AsPattern p) (all_fit n ClassArgument es) h in
      and_from (pattern_fits_at n AsPattern p) (each_pattern_fits n AsPattern (named_patterns es))
      (and_parts (n.name x) (pattern_fits_at n AsPattern p) w.0).1 (named_fit es w.1)
  named_fit (_ ∷ es) h = absurd (cc)

  as_many_named : (es : List PatternEntry) → length (named_attributes es) ≡ count_patterns (named_patterns es)
  as_many_named [] = refl
  as_many_named (Named x p ∷ es) = omega (arith, as_many_named es)
  as_many_named (_ ∷ es) = as_many_named es

  after_alone : (es : List PatternEntry) → are_class_arguments true es ≡ true → not (begins_with_wildcard (named_attributes es)) ≡ true
  after_alone [] h = refl
  after_alone (Alone p ∷ es) h = after_alone es h
  after_alone (Named x p ∷ es) h = (and_parts (not (is_wildcard x)) (all_named es) h).0
  after_alone (_ ∷ es) h = absurd (never h)

  first_named : (es : List PatternEntry) → are_class_arguments false es ≡ true
      → (eqb (count_patterns (elements es)) 0 || not (begins_with_wildcard (named_attributes es))) ≡ true
  first_named [] h = refl
  first_named (Alone p ∷ es) h = or_right (eqb (count_patterns (elements es) + 1) 0)
      (not (begins_with_wildcard (named_attributes es))) (after_alone es h)
  first_named (Named x p ∷ es) h = subst (λ z. (eqb (count_patterns z) 0 || not (is_wildcard x)) ≡ true) (sym (none_alone es h)) refl
  first_named (_ ∷ es) h = absurd (never h)

  pub class_of_fits : (l : PatternLevel) (e : Expr) (es : List PatternEntry) (p : Pattern) → class_fits n e ≡ true
      → all_fit n ClassArgument es ≡ true → class_of e es ≡ Some p → pattern_fits_at n l p ≡ true
  class_of_fits l e es p c h q = by (are_class_arguments false es) refl q
    where
      by : (b : Bool) → are_class_arguments false es ≡ b
          → (if b then Some (Trees.MatchClass e (elements es) (named_attributes es) (named_patterns es)) else None) ≡ Some p
          → pattern_fits_at n l p ≡ true
      by true o q =
          let t : Bool = class_fits n e && each_pattern_fits n AsPattern (elements es) && eqb (length (named_attributes es))
          (count_patterns (named_patterns es)) in
          given (λ z. pattern_fits_at n l z ≡ true) q
          (from4 t (list_all n.name (named_attributes es)) (each_pattern_fits n AsPattern (named_patterns es))
          (eqb (count_patterns (elements es)) 0 || not (begins_with_wildcard (named_attributes es)))
          (from3 (class_fits n e) (each_pattern_fits n AsPattern (elements es))
          (eqb (length (named_attributes es)) (count_patterns (named_patterns es))) c (alone_fit es h)
          (eq-eqb (length (named_attributes es)) (count_patterns (named_patterns es)) (as_many_named es))) (attributes_fit es h)
          (named_fit es h) (first_named es o))
      by false o q = absurd (cc)
