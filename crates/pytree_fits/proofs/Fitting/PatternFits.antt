-- Carries: the laws of patterns. On: a pattern that the grammar gives to terminals that pass, fits.
use Rattle.std.proofs.Common.{◌≡◌, refl, subst, ◌+◌, ◌≤◌, arith, List, [], ◌∷◌, ◌++◌, map, Some, true, false}
use Rattle.std.specs.Prelude.{leb, not, ◌&&◌, ◌||◌}
use Rattle.std.proofs.lemmas.Bool.{and_parts, and_from, or_left, or_right, le-leb}
use Rattle.pylex_lexeme.specs.declared.kinds.Exact.TheVariants.{RPar, RSqb, RBrace, Colon, Comma, Dot, LPar, Plus, Minus, VBar}
use Rattle.pytoken.specs.declared.keywords.Keyword.TheVariants as Key
use Rattle.pytree_node.specs.declared.operators.Operator.{Operator}
use Rattle.pytree_node.specs.declared.operators.Context.TheVariants.{Load}
use Rattle.pytree_node.specs.Trees
use Rattle.pytree_node.specs.Trees.{Identifier, Expr, Pattern, present_pattern, patterns}
use Rattle.pytree_node.specs.Values
use Rattle.pytoken.specs.Terminals.{Terminal, Op, Word, Ident, Number, Literal}
use Rattle.pygrammar.specs.declared.levels.Level.TheVariants.{Sum}
use Rattle.pygrammar.specs.declared.pattern_levels.PatternLevel.{PatternLevel}
use Rattle.pygrammar.specs.declared.pattern_levels.PatternLevel.TheVariants.{StarPattern, AsPattern, OrPattern, ClosedPattern}
use Rattle.pygrammar.specs.Constants.{joined}
use Rattle.pygrammar.specs.Operators.{left_operator}
use Rattle.pygrammar.specs.PatternOperators.{is_imaginary, is_wildcard, singleton_word, captured}
use Rattle.pygrammar.specs.PatternEntries.{PatternItem, PatternEntry, elements, as_named}
use Rattle.pygrammar.specs.PatternGrammar as G
use Rattle.pygrammar.proofs.Callers.OpenStrings.{class_closes, entry_closes, key_closes, pattern_closes}
use Rattle.pytree_fits.specs.Tests.{Tests}
use Rattle.pytree_fits.specs.Literals.{is_value}
use Rattle.pytree_fits.specs.Given.{is_number, is_literal, passes}
use Rattle.pytree_fits.specs.PatternSlots.{is_sum, imaginary_fits, real_fits, literal_fits, dotted_fits, starts_wild, class_fits}
use Rattle.pytree_fits.specs.PatternSlots.{is_attribute, is_singleton, singleton_fits, key_fits, count_patterns, target_fits}
use Rattle.pytree_fits.specs.PatternSlots.{pattern_fits_at, each_pattern_fits}
use Rattle.pytree_fits.proofs.Fields.Standing.{outside, pass_at, left, right, following}
use Rattle.pytree_fits.proofs.Fields.Closings.{quiet_left, dotted_closes, signed_closes}
use Rattle.pytree_fits.proofs.Fields.Tests.{from3, joined_value}
use Rattle.pytree_fits.proofs.Fitting.Fits.{joined_of}
use Rattle.pytree_fits.proofs.Fields.PatternFields.{captured_fits, bound_fits, other_fits, fits_below, fits_anywhere, entry_fits, all_fit}
use Rattle.pytree_fits.proofs.Fields.PatternFields.{elements_fit, mapped_fits, class_of_fits}
use Rattle.pyunparse_text.proofs.Callers.Trees.{given, mapped_is}

-- ---- Values.

sum_operator : (t : Terminal) (o : Operator) → left_operator Sum t ≡ Some o → is_sum o ≡ true
sum_operator (Op Plus) o h = given (λ z. is_sum z ≡ true) h refl
sum_operator (Op Minus) o h = given (λ z. is_sum z ≡ true) h refl
sum_operator _ o h = absurd (cc)

singleton_is : (t : Terminal) (v : Values.Value) → singleton_word t ≡ Some v → is_singleton v ≡ true
singleton_is (Word Key.None) v h = given (λ z. is_singleton z ≡ true) h refl
singleton_is (Word Key.True) v h = given (λ z. is_singleton z ≡ true) h refl
singleton_is (Word Key.False) v h = given (λ z. is_singleton z ≡ true) h refl
singleton_is _ v h = absurd (cc)

-- literals side by side are a text or bytes
joined_literal : (v w : Values.Value) (vs : List Values.Value) → is_literal v ≡ true → joined v vs ≡ Some w → is_literal w ≡ true
joined_literal v w [] p h = given (λ z. is_literal z ≡ true) h p
joined_literal (Values.Str t u) w (Values.Str s x ∷ vs) p h = joined_literal (Values.Str (t ++ s) u) w vs refl h
joined_literal (Values.Bytes t) w (Values.Bytes s ∷ vs) p h = joined_literal (Values.Bytes (t ++ s)) w vs refl h
joined_literal _ w (_ ∷ vs) p h = absurd (cc)

module _ (n : Tests) where
  -- the test of a NUMBER
  number_passes : (v : Values.Value) → pass_at (outside n) (Number v ∷ []) ≡ true → (is_number v ≡ true) × (is_value n v ≡ true)
  number_passes v s = and_parts (is_number v) (is_value n v) (and_parts (passes n [] (Number v)) true s).0

  signed_fits : {v : Values.Value} {ts : List Terminal} {e : Expr} → G.SignedNumber v ts e → pass_at (outside n) ts ≡ true
      → literal_fits n e ≡ true
  signed_fits (G.unsigned {v = v}) s =
      let w = number_passes v s in
      and_from (is_number v || is_literal v) (is_value n v) (or_left (is_number v) (is_literal v) w.0) w.1
  signed_fits (G.negative {v = v}) s = let w = number_passes v s in and_from (is_number v) (is_value n v) w.0 w.1

  signed_real : {v : Values.Value} {ts : List Terminal} {e : Expr} → G.SignedNumber v ts e → is_imaginary v ≡ false
      → pass_at (outside n) ts ≡ true → real_fits n e ≡ true
  signed_real (G.unsigned {v = v}) h s = let w = number_passes v s in
      from3 (is_number v) (not (is_imaginary v)) (is_value n v) w.0 (rw h refl) w.1
  signed_real (G.negative {v = v}) h s = let w = number_passes v s in
      from3 (is_number v) (not (is_imaginary v)) (is_value n v) w.0 (rw h refl) w.1

  literal : {ts : List Terminal} {e : Expr} → G.LiteralOf ts e → pass_at (outside n) ts ≡ true → literal_fits n e ≡ true
  literal (G.number p) s = signed_fits p s
  literal (G.complex {w = w} {ts = ts} {a = a} {o = o} t p h q k) s =
      let u = number_passes w (following (outside n) t (quiet_left Sum t o q []) (Number w ∷ [])
      (right (outside n) ts (signed_closes p) (t ∷ (Number w ∷ [])) s)) in
      from3 (is_sum o) (real_fits n a) (imaginary_fits n (Trees.Constant w)) (sum_operator t o q)
      (signed_real p h (left (outside n) ts (t ∷ (Number w ∷ [])) s))
      (and_from (is_imaginary w) (is_value n w) k u.1)
  literal (G.strings {v = v} {w = w} vs h) s =
      let u = and_parts (passes n [] (Literal v)) (pass_at (outside n) (map Literal vs)) s in
      and_from (is_number w || is_literal w) (is_value n w)
      (or_right (is_number w) (is_literal w) (joined_literal v w vs (and_parts (is_literal v) (is_value n v) u.0).0 h))
      (joined_value (outside n) v w vs u.0 u.1 h)
  literal (G.joined_string c h q) s = joined_of (outside n) c q s

  record DottedFits (f : Identifier) (e : Expr) : Type 0 where
    each : dotted_fits n e ≡ true
    first : starts_wild e ≡ is_wildcard f

  dotted : {f : Identifier} {ts : List Terminal} {e : Expr} → G.Dotted f ts e → pass_at (outside n) ts ≡ true → DottedFits f e
  dotted (G.first_name {x = x}) s = record { each = (and_parts (n.name x.form) true s).0; first = refl }
  dotted (G.dot_name {ts = ts} {e = e} x p) s =
      let w = dotted p (left (outside n) ts (Op Dot ∷ (Ident x ∷ [])) s) in
      record {
        each = and_from (n.name x.form) (dotted_fits n e)
            (and_parts (n.name x.form) true (right (outside n) ts (dotted_closes p) (Op Dot ∷ (Ident x ∷ [])) s)).0 w.each;
        first = w.first;
      }

  class : {ts : List Terminal} {e : Expr} → G.ClassOf ts e → pass_at (outside n) ts ≡ true → class_fits n e ≡ true
  class (G.class_name {e = e} p h) s = let w = dotted p s in and_from (dotted_fits n e) (not (starts_wild e)) w.each (rw (w.first, h) refl)

  -- with one more NAME
  class_dot : (e : Expr) (x : Identifier) → n.name x ≡ true → class_fits n e ≡ true → class_fits n (Trees.Attribute e x Load) ≡ true
  class_dot e x h c =
      let w = and_parts (dotted_fits n e) (not (starts_wild e)) c in
      and_from (n.name x && dotted_fits n e) (not (starts_wild e)) (and_from (n.name x) (dotted_fits n e) h w.0) w.1

  key : {ts : List Terminal} {e : Expr} → G.KeyOf ts e → pass_at (outside n) ts ≡ true → key_fits n e ≡ true
  key (G.literal_key {e = e} p) s = or_left (literal_fits n e || singleton_fits e) (is_attribute e && dotted_fits n e)
      (or_left (literal_fits n e) (singleton_fits e) (literal p s))
  key (G.singleton_key {t = t} {v = v} h) s =
      let e : Expr = Trees.Constant v in
      or_left (literal_fits n e || is_singleton v) false (or_right (literal_fits n e) (is_singleton v) (singleton_is t v h))
  key (G.name_key {ts = ts} {e = e} x p) s =
      and_from (n.name x.form) (dotted_fits n e)
      (and_parts (n.name x.form) true (right (outside n) ts (dotted_closes p) (Op Dot ∷ (Ident x ∷ [])) s)).0
      (dotted p (left (outside n) ts (Op Dot ∷ (Ident x ∷ [])) s)).each

  -- ---- Patterns.

  -- what follows the first of some alternatives
  record Choices (ps : List Pattern) : Type 0 where
    each : each_pattern_fits n AsPattern (patterns ps) ≡ true
    some : 1 ≤ count_patterns (patterns ps)

  as_fits : (l : PatternLevel) (p q : Pattern) (x : Identifier) → pattern_fits_at n OrPattern p ≡ true → n.name x ≡ true
      → as_named p x ≡ Some q → pattern_fits_at n l q ≡ true
  as_fits l p q x f h k =
      let w = mapped_is (λ y. Trees.MatchAs (present_pattern p) (Some y)) (captured x) q k in
      subst (λ z. pattern_fits_at n l z ≡ true) w.2
      (and_from (target_fits n w.0) (pattern_fits_at n AsPattern p) (bound_fits n x w.0 w.1 h)
      (fits_anywhere n OrPattern AsPattern p refl f))

  mutual
    pub fits : {l : PatternLevel} {ts : List Terminal} {p : Pattern} → G.DerivesPattern l ts p → pass_at (outside n) ts ≡ true
        → pattern_fits_at n l p ≡ true
    fits (G.next {l = l} {p = p} d) s = fits_below n l p (fits d s)
    fits (G.open_sequence {ts = ts} {us = us} {p = p} {es = es} d c) s =
        and_from (pattern_fits_at n StarPattern p) (each_pattern_fits n StarPattern (elements es))
        (fits d (left (outside n) ts (Op Comma ∷ us) s))
        (elements_fit n es (listing c (right (outside n) ts (pattern_closes d) (Op Comma ∷ us) s)))
    fits (G.star {x = x}) s = captured_fits n x.form (and_parts (n.name x.form) true s).0
    fits (G.as_name {ts = ts} {p = p} {q = q} x d h) s =
        as_fits AsPattern p q x.form (fits d (left (outside n) ts (Word Key.As ∷ (Ident x ∷ [])) s))
        (and_parts (n.name x.form) true (right (outside n) ts (pattern_closes d) (Word Key.As ∷ (Ident x ∷ [])) s)).0 h
    fits (G.alternatives {ts = ts} {us = us} {p = p} {ps = ps} d c) s =
        let w = choices c (right (outside n) ts (pattern_closes d) (Op VBar ∷ us) s) in
        and_from (leb 2 (count_patterns (patterns ps) + 1)) (pattern_fits_at n AsPattern p && each_pattern_fits n AsPattern (patterns ps))
        (le-leb 2 (count_patterns (patterns ps) + 1) (omega (arith, w.some)))
        (and_from (pattern_fits_at n AsPattern p) (each_pattern_fits n AsPattern (patterns ps))
        (fits_anywhere n ClosedPattern AsPattern p refl (fits d (left (outside n) ts (Op VBar ∷ us) s))) w.each)
    fits (G.literal {e = e} p) s = or_left (literal_fits n e) (is_attribute e && class_fits n e) (literal p s)
    fits (G.singleton {t = t} {v = v} h) s = singleton_is t v h
    fits (G.capture {x = x}) s = captured_fits n x.form (and_parts (n.name x.form) true s).0
    fits (G.value {ts = ts} {e = e} x p) s =
        class_dot e x.form (and_parts (n.name x.form) true (right (outside n) ts (class_closes p) (Op Dot ∷ (Ident x ∷ [])) s)).0
        (class p (left (outside n) ts (Op Dot ∷ (Ident x ∷ [])) s))
    fits (G.group {ts = ts} {p = p} d) s = fits_anywhere n AsPattern ClosedPattern p refl (fits d (left (outside n) ts (Op RPar ∷ []) s))
    fits G.empty_sequence s = refl
    fits (G.round_sequence {ts = ts} {us = us} {p = p} {es = es} d c) s =
        and_from (pattern_fits_at n StarPattern p) (each_pattern_fits n StarPattern (elements es))
        (fits d (left (outside n) ts (Op Comma ∷ (us ++ (Op RPar ∷ []))) s))
        (elements_fit n es (listing c
        (left (outside n) us (Op RPar ∷ []) (right (outside n) ts (pattern_closes d) (Op Comma ∷ (us ++ (Op RPar ∷ []))) s))))
    fits (G.square_sequence {ts = ts} {es = es} c) s = elements_fit n es (listing c (left (outside n) ts (Op RSqb ∷ []) s))
    fits (G.mapping {ts = ts} {es = es} {p = p} c h) s =
        mapped_fits n ClosedPattern es p (listing c (left (outside n) ts (Op RBrace ∷ []) s)) h
    fits (G.class_pattern {ts = ts} {us = us} {e = e} {es = es} {p = p} k c h) s =
        class_of_fits n ClosedPattern e es p (class k (left (outside n) ts (Op LPar ∷ (us ++ (Op RPar ∷ []))) s))
        (listing c (left (outside n) us (Op RPar ∷ []) (right (outside n) ts (class_closes k) (Op LPar ∷ (us ++ (Op RPar ∷ []))) s))) h

    choices : {ts : List Terminal} {ps : List Pattern} → G.Alternatives ts ps → pass_at (outside n) ts ≡ true → Choices ps
    choices (G.last_alternative {p = p} d) s =
        record {
          each = and_from (pattern_fits_at n AsPattern p) true (fits_anywhere n ClosedPattern AsPattern p refl (fits d s))
              refl;
          some = omega arith;
        }
    choices (G.alternative {ts = ts} {us = us} {p = p} {ps = ps} d c) s =
        let w = choices c (right (outside n) ts (pattern_closes d) (Op VBar ∷ us) s) in
        record {
          each = and_from (pattern_fits_at n AsPattern p) (each_pattern_fits n AsPattern (patterns ps))
              (fits_anywhere n ClosedPattern AsPattern p refl (fits d (left (outside n) ts (Op VBar ∷ us) s))) w.each;
          some = omega arith;
        }

    listing : {i : PatternItem} {ts : List Terminal} {es : List PatternEntry} → G.PatternListing i ts es
        → pass_at (outside n) ts ≡ true → all_fit n i es ≡ true
    listing G.no_entry s = refl
    listing (G.last_entry {i = i} {e = e} p) s = and_from (entry_fits n i e) true (piece p s) refl
    listing (G.entry {i = i} {ts = ts} {us = us} {e = e} {es = es} p c) s =
        and_from (entry_fits n i e) (all_fit n i es) (piece p (left (outside n) ts (Op Comma ∷ us) s))
        (listing c (right (outside n) ts (entry_closes p) (Op Comma ∷ us) s))

    piece : {i : PatternItem} {ts : List Terminal} {e : PatternEntry} → G.PatternPiece i ts e → pass_at (outside n) ts ≡ true
        → entry_fits n i e ≡ true
    piece (G.element d) s = fits d s
    piece (G.key_pattern {ts = ts} {us = us} {k = k} {p = p} q d) s =
        and_from (key_fits n k) (pattern_fits_at n AsPattern p) (key q (left (outside n) ts (Op Colon ∷ us) s))
        (fits d (right (outside n) ts (key_closes q) (Op Colon ∷ us) s))
    piece (G.rest {x = x} h) s = other_fits n x.form (and_parts (n.name x.form) true s).0 h
    piece (G.argument d) s = fits d s
    piece (G.named_argument {x = x} {ts = ts} {p = p} d) s =
        let w = and_parts (n.name x.form) (pass_at (outside n) ts) s in
        and_from (n.name x.form) (pattern_fits_at n AsPattern p) w.0 (fits d w.1)
