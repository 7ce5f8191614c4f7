-- Carries: the laws of patterns. On: a pattern that fits is given.
use Rattle.std.proofs.Common.{◌≡◌, refl, ap, subst, inl, inr, ◌+◌, ◌≤◌, arith, List, [], ◌∷◌, ◌++◌, length, Option, Some, None, Bool, true}
use Rattle.std.proofs.Common.{false}
use Rattle.std.specs.Prelude.{eqb, leb, not, ◌&&◌, ◌||◌}
use Rattle.std.specs.List.{list_all}
use Rattle.std.proofs.lemmas.Bool.{and_parts, and_from, or_cases, eqb-true, leb-true}
use Rattle.pylex_lexeme.specs.declared.kinds.Exact.TheVariants.{LPar, RPar, LSqb, RSqb, LBrace, RBrace, Colon, Comma, Star, Equal}
use Rattle.pylex_lexeme.specs.declared.kinds.Exact.TheVariants.{DoubleStar, VBar}
use Rattle.pytoken.specs.declared.keywords.Keyword.TheVariants as Key
use Rattle.pytree_node.specs.Trees
use Rattle.pytree_node.specs.Trees.{Identifier, Expr, Pattern, Patterns, no_pattern, a_pattern, absent_pattern, present_pattern, patterns}
use Rattle.pytoken.specs.Terminals.{Terminal, Op, Word, in_form}
use Rattle.pygrammar.specs.declared.pattern_levels.PatternLevel.{PatternLevel}
use Rattle.pygrammar.specs.declared.pattern_levels.PatternLevel.TheVariants as Level
use Rattle.pygrammar.specs.declared.pattern_levels.PatternLevel.TheVariants.{StarPattern, AsPattern, OrPattern, ClosedPattern}
use Rattle.pygrammar.specs.PatternOperators.{is_wildcard}
use Rattle.pygrammar.specs.PatternEntries.{PatternItem, Element, KeyPattern, ClassArgument, PatternEntry, Alone, Keyed, Rest, Named}
use Rattle.pygrammar.specs.PatternEntries.{elements, is_mapping, pattern_keys, key_patterns, rest_of, mapped, all_named}
use Rattle.pygrammar.specs.PatternEntries.{are_class_arguments, named_attributes, named_patterns, class_of, as_named}
use Rattle.pygrammar.specs.PatternGrammar as G
use Rattle.pytree_fits.specs.Tests.{Tests}
use Rattle.pytree_fits.specs.PatternSlots.{target_fits, perhaps_target_fits, begins_with_wildcard, class_fits, key_fits, takes_star_pattern}
use Rattle.pytree_fits.specs.PatternSlots.{count_patterns, pattern_fits_at, each_pattern_fits}
use Rattle.pytree_fits.proofs.Fields.Standing.{outside}
use Rattle.pytree_fits.proofs.Fields.AsSpelled.{GivenAsSpelled, pass_on}
use Rattle.pytree_fits.proofs.Fields.Tests.{parts3, parts4, never}
use Rattle.pytree_fits.proofs.Fields.PatternFields.{captured_name, name_of, capture_of}
use Rattle.pytree_fits.proofs.Giving.Places.{named_pass}
use Rattle.pytree_fits.proofs.Giving.PatternValues.{class_given, value_given, singleton_given, key_given}

-- ---- Levels.

-- given at a level
abbrev At : Tests → PatternLevel → Pattern → Type 0
At n l p = GivenAsSpelled (outside n) (G.DerivesPattern l) p

-- a closed pattern stands at every level
climb : {ts : List Terminal} {p : Pattern} (l : PatternLevel) → G.DerivesPattern ClosedPattern ts p → G.DerivesPattern l ts p
climb ClosedPattern d = d
climb OrPattern d = G.next {l = OrPattern} d
climb AsPattern d = G.next {l = AsPattern} (G.next {l = OrPattern} d)
climb StarPattern d = G.next {l = StarPattern} (G.next {l = AsPattern} (G.next {l = OrPattern} d))
climb Level.Patterns d = G.next {l = Level.Patterns} (G.next {l = AsPattern} (G.next {l = OrPattern} d))

abbrev is_star : Pattern → Bool
is_star (Trees.MatchStar name) = true
is_star _ = false

unstarred : (n : Tests) (l : PatternLevel) (p : Pattern) → is_star p ≡ false → pattern_fits_at n l p ≡ true
    → pattern_fits_at n AsPattern p ≡ true
unstarred n l (Trees.MatchStar name) e h = absurd (cc)
unstarred n l (Trees.MatchMapping keys inner None) e h = h
unstarred n l (Trees.MatchMapping keys inner (Some rest)) e h = h
unstarred n l (Trees.MatchAs absent_pattern name) e h = h
unstarred n l (Trees.MatchAs (present_pattern p) None) e h = h
unstarred n l (Trees.MatchAs (present_pattern p) (Some name)) e h = h
unstarred n l _ e h = h

-- each of some
data Each (n : Tests) : Patterns → Type 0 where
  no_more : Each n no_pattern
  one_more : {p : Pattern} {ps : Patterns} → At n ClosedPattern p → Each n ps → Each n (a_pattern p ps)

-- ---- Lists with commas.

data Pieces (n : Tests) (i : PatternItem) : List PatternEntry → Type 0 where
  no_piece : Pieces n i []
  a_piece : {e : PatternEntry} {es : List PatternEntry} → GivenAsSpelled (outside n) (G.PatternPiece i) e
      → Pieces n i es → Pieces n i (e ∷ es)

abbrev alone : Patterns → List PatternEntry
alone no_pattern = []
alone (a_pattern p ps) = Alone p ∷ alone ps

alone_are : (ps : Patterns) → elements (alone ps) ≡ ps
alone_are no_pattern = refl
alone_are (a_pattern p ps) = ap (a_pattern p) (alone_are ps)

abbrev rest_entry : Option Identifier → List PatternEntry
rest_entry None = []
rest_entry (Some x) = Rest x ∷ []

module _ (n : Tests) where
  lifted : {p : Pattern} (l : PatternLevel) → At n ClosedPattern p → At n l p
  lifted l w = (w.0, w.1, climb l w.2)

  grouped : {p : Pattern} → At n AsPattern p → At n ClosedPattern p
  grouped w = (Op LPar ∷ (w.0 ++ (Op RPar ∷ [])), pass_on (outside n) w.0 (Op RPar ∷ []) w.1 refl, G.group w.2)

  listing : {i : PatternItem} {es : List PatternEntry} → Pieces n i es → GivenAsSpelled (outside n) (G.PatternListing i) es
  listing no_piece = ([], refl, G.no_entry)
  listing (a_piece p r) = let w = listing r in (p.0 ++ (Op Comma ∷ w.0), pass_on (outside n) p.0 (Op Comma ∷ w.0) p.1 w.1, G.entry p.2 w.2)

  -- ---- Names.

  capture_given : (o : Option Identifier) → perhaps_target_fits n o ≡ true → At n ClosedPattern (Trees.MatchAs absent_pattern o)
  capture_given o h =
      let c = capture_of n o h in
      subst (λ z. At n ClosedPattern (Trees.MatchAs absent_pattern z)) c.2 (
        in_form c.0 ∷ [],
        named_pass (outside n) c.0 [] c.1 refl,
        G.capture,
      )

  star_given : (o : Option Identifier) → perhaps_target_fits n o ≡ true → At n StarPattern (Trees.MatchStar o)
  star_given o h =
      let c = capture_of n o h in
      subst (λ z. At n StarPattern (Trees.MatchStar z)) c.2 (Op Star ∷ (in_form c.0 ∷ []), named_pass (outside n) c.0 [] c.1 refl, G.star)

  as_given : (p : Pattern) (x : Identifier) → target_fits n x ≡ true → At n ClosedPattern p
      → At n ClosedPattern (Trees.MatchAs (present_pattern p) (Some x))
  as_given p x h w =
      let u = name_of n x h in
      let e : as_named p x ≡ Some (Trees.MatchAs (present_pattern p) (Some x)) = rw (captured_name x u.1) refl in
      grouped (
        w.0 ++ (Word Key.As ∷ (in_form x ∷ [])),
        pass_on (outside n) w.0 (Word Key.As ∷ (in_form x ∷ [])) w.1
            (named_pass (outside n) x [] u.0 refl),
        G.as_name _ (climb OrPattern w.2) e,
      )

  -- ---- Sequences and alternatives.

  sequence_given : (ps : Patterns) → Pieces n Element (alone ps) → At n ClosedPattern (Trees.MatchSequence ps)
  sequence_given ps r =
      let w = listing r in
      subst (λ z. At n ClosedPattern (Trees.MatchSequence z)) (alone_are ps) (
        Op LSqb ∷ (w.0 ++ (Op RSqb ∷ [])),
        pass_on (outside n) w.0 (Op RSqb ∷ []) w.1 refl,
        G.square_sequence w.2,
      )

  record Choices (ps : Patterns) : Type 0 where
    list : List Pattern
    are : patterns list ≡ ps
    given : GivenAsSpelled (outside n) G.Alternatives list

  choices : {p : Pattern} {ps : Patterns} → At n ClosedPattern p → Each n ps → Choices (a_pattern p ps)
  choices {p = p} w no_more = record { list = p ∷ []; are = refl; given = (w.0, w.1, G.last_alternative w.2) }
  choices {p = p} w (one_more v r) =
      let c = choices v r in
      let u = c.given in
      record {
        list = p ∷ c.list;
        are = ap (a_pattern p) c.are;
        given =
            (w.0 ++ (Op VBar ∷ u.0), pass_on (outside n) w.0 (Op VBar ∷ u.0) w.1 u.1, G.alternative w.2 u.2);
      }

  or_given : (ps : Patterns) → 2 ≤ count_patterns ps → Each n ps → At n ClosedPattern (Trees.MatchOr ps)
  or_given no_pattern h no_more = absurd (omega (arith, h))
  or_given (a_pattern p no_pattern) h (one_more w no_more) = absurd (omega (arith, h))
  or_given (a_pattern p (a_pattern q ps)) h (one_more w (one_more v r)) =
      let c = choices v r in
      let u = c.given in
      let d : At n OrPattern (Trees.MatchOr (a_pattern p (a_pattern q ps))) =
      subst (λ z. At n OrPattern (Trees.MatchOr (a_pattern p z))) c.are (
        w.0 ++ (Op VBar ∷ u.0),
        pass_on (outside n) w.0 (Op VBar ∷ u.0) w.1 u.1,
        G.alternatives w.2 u.2,
      ) in
      grouped (d.0, d.1, G.next {l = AsPattern} d.2)

  -- ---- Mappings.

  record Mapping (keys : List Expr) (ps : Patterns) (o : Option Identifier) : Type 0 where
    list : List PatternEntry
    pieces : Pieces n KeyPattern list
    order : is_mapping list ≡ true
    keys_are : pattern_keys list ≡ keys
    patterns_are : key_patterns list ≡ ps
    rest_is : rest_of list ≡ o

  rest_alone : (o : Option Identifier) → Pieces n KeyPattern (rest_entry o) → Mapping [] no_pattern o
  rest_alone None r = record { list = []; pieces = r; order = refl; keys_are = refl; patterns_are = refl; rest_is = refl }
  rest_alone (Some x) r = record { list = Rest x ∷ []; pieces = r; order = refl; keys_are = refl; patterns_are = refl; rest_is = refl }

  mapping : (keys : List Expr) (ps : Patterns) (o : Option Identifier) → length keys ≡ count_patterns ps → list_all (key_fits n) keys ≡ true
      → Each n ps → Pieces n KeyPattern (rest_entry o) → Mapping keys ps o
  mapping [] no_pattern o e h no_more r = rest_alone o r
  mapping [] (a_pattern p ps) o e h s r = absurd (omega (arith, e))
  mapping (k ∷ ks) no_pattern o e h s r = absurd (omega (arith, e))
  mapping (k ∷ ks) (a_pattern p ps) o e h (one_more w s) r =
      let v = and_parts (key_fits n k) (list_all (key_fits n) ks) h in
      let m = mapping ks ps o (omega (arith, e)) v.1 s r in
      let u = key_given n k v.0 in
      record {
        list = Keyed k p ∷ m.list;
        pieces = a_piece (
          u.0 ++ (Op Colon ∷ w.0),
          pass_on (outside n) u.0 (Op Colon ∷ w.0) u.1 w.1,
          G.key_pattern u.2 (climb AsPattern w.2),
        ) m.pieces;
        order = m.order;
        keys_are = ap (λ z. k ∷ z) m.keys_are;
        patterns_are = ap (a_pattern p) m.patterns_are;
        rest_is = m.rest_is;
      }

  mapping_given : (keys : List Expr) (ps : Patterns) (o : Option Identifier) → length keys ≡ count_patterns ps
      → list_all (key_fits n) keys ≡ true → Each n ps → Pieces n KeyPattern (rest_entry o) →
      At n ClosedPattern (Trees.MatchMapping keys ps o)
  mapping_given keys ps o e h s r =
      let m = mapping keys ps o e h s r in
      let w = listing m.pieces in
      let q : mapped m.list ≡ Some (Trees.MatchMapping keys ps o) = rw (m.order, m.keys_are, m.patterns_are, m.rest_is) refl in
      (Op LBrace ∷ (w.0 ++ (Op RBrace ∷ [])), pass_on (outside n) w.0 (Op RBrace ∷ []) w.1 refl, G.mapping w.2 q)

  rest_piece : (x : Identifier) → target_fits n x ≡ true → Pieces n KeyPattern (rest_entry (Some x))
  rest_piece x h = let u = name_of n x h in
      a_piece (Op DoubleStar ∷ (in_form x ∷ []), named_pass (outside n) x [] u.0 refl, G.rest u.1) no_piece

  -- ---- Class patterns.

  record ByName (names : List Identifier) (named : Patterns) : Type 0 where
    list : List PatternEntry
    pieces : Pieces n ClassArgument list
    all : all_named list ≡ true
    first : are_class_arguments false list ≡ true
    following : not (begins_with_wildcard names) ≡ true → are_class_arguments true list ≡ true
    none_alone : elements list ≡ no_pattern
    names_are : named_attributes list ≡ names
    patterns_are : named_patterns list ≡ named

  by_name : (names : List Identifier) (named : Patterns) → length names ≡ count_patterns named → list_all n.name names ≡ true
      → Each n named → ByName names named
  by_name [] no_pattern e h no_more = record {
    list = [];
    pieces = no_piece;
    all = refl;
    first = refl;
    following = λ q. refl;
    none_alone =
        refl;
    names_are = refl;
    patterns_are = refl;
  }
  by_name [] (a_pattern p ps) e h s = absurd (omega (arith, e))
  by_name (x ∷ xs) no_pattern e h s = absurd (omega (arith, e))
  by_name (x ∷ xs) (a_pattern p ps) e h (one_more w s) =
      let v = and_parts (n.name x) (list_all n.name xs) h in
      let m = by_name xs ps (omega (arith, e)) v.1 s in
      record {
        list = Named x p ∷ m.list;
        pieces = a_piece (
          in_form x ∷ (Op Equal ∷ w.0),
          named_pass (outside n) x (Op Equal ∷ w.0) v.0 w.1,
          G.named_argument (climb AsPattern w.2),
        ) m.pieces;
        all = m.all;
        first = m.all;
        following = λ q. and_from (not (is_wildcard x)) (all_named m.list) q m.all;
        none_alone = m.none_alone;
        names_are = ap (λ z. x ∷ z) m.names_are;
        patterns_are = ap (a_pattern p) m.patterns_are;
      }

  record Arguments (inner : Patterns) (names : List Identifier) (named : Patterns) : Type 0 where
    list : List PatternEntry
    pieces : Pieces n ClassArgument list
    following : not (begins_with_wildcard names) ≡ true → are_class_arguments true list ≡ true
    alone_are : elements list ≡ inner
    names_are : named_attributes list ≡ names
    patterns_are : named_patterns list ≡ named

  arguments : (inner : Patterns) (names : List Identifier) (named : Patterns) → Each n inner → ByName names named
      → Arguments inner names named
  arguments no_pattern names named no_more b =
      record {
        list = b.list;
        pieces = b.pieces;
        following = b.following;
        alone_are = b.none_alone;
        names_are = b.names_are;
        patterns_are = b.patterns_are;
      }
  arguments (a_pattern p ps) names named (one_more w s) b =
      let m = arguments ps names named s b in
      record {
        list = Alone p ∷ m.list;
        pieces = a_piece (w.0, w.1, G.argument (climb AsPattern w.2)) m.pieces;
        following = m.following;
        alone_are = ap (a_pattern p) m.alone_are;
        names_are = m.names_are;
        patterns_are = m.patterns_are;
      }

  listed_class : {inner : Patterns} {names : List Identifier} {named : Patterns} (cls : Expr) → class_fits n cls ≡ true
      → (a : Arguments inner names named) → are_class_arguments false a.list ≡ true →
      At n ClosedPattern (Trees.MatchClass cls inner names named)
  listed_class {inner} {names} {named} cls c a o =
      let u = class_given n cls c in
      let w = listing a.pieces in
      let q : class_of cls a.list ≡ Some (Trees.MatchClass cls inner names named) =
      rw (o, a.alone_are, a.names_are, a.patterns_are) refl in (
        u.0 ++ (Op LPar ∷ (w.0 ++ (Op RPar ∷ []))),
        pass_on (outside n) u.0 (Op LPar ∷ (w.0 ++ (Op RPar ∷ []))) u.1
            (pass_on (outside n) w.0 (Op RPar ∷ []) w.1 refl),
        G.class_pattern u.2 w.2 q,
      )

  class_pattern_given : (cls : Expr) (inner : Patterns) (names : List Identifier) (named : Patterns) → class_fits n cls ≡ true
      → Each n inner → ByName names named →
      (eqb (count_patterns inner) 0 || not (begins_with_wildcard names)) ≡ true
      → At n ClosedPattern (Trees.MatchClass cls inner names named)
  unfolding arguments
  class_pattern_given cls no_pattern names named c s b o = listed_class cls c (arguments no_pattern names named s b) (by s)
    where
      by : (s : Each n no_pattern) → are_class_arguments false (arguments no_pattern names named s b).list ≡ true
      by no_more = b.first
  class_pattern_given cls (a_pattern p ps) names named c (one_more w s) b o =
      listed_class cls c (arguments (a_pattern p ps) names named (one_more w s) b)
      ((arguments ps names named s b).following (elim (or_cases (eqb (count_patterns ps + 1) 0) (not (begins_with_wildcard names)) o) [
        | inl z ↦ absurd (omega (arith, eqb-true (count_patterns ps + 1) 0 z))
        | inr z ↦ z
      ]))

  -- ---- All classes.

  mutual
    given_closed : (p : Pattern) → pattern_fits_at n AsPattern p ≡ true → At n ClosedPattern p
    given_closed (Trees.MatchValue e) h = value_given n e h
    given_closed (Trees.MatchSingleton v) h = singleton_given n v h
    given_closed (Trees.MatchSequence inner) h = sequence_given inner (elements_given inner h)
    given_closed (Trees.MatchMapping keys inner None) h =
        let w = parts3 (eqb (length keys) (count_patterns inner)) (list_all (key_fits n) keys) (each_pattern_fits n AsPattern inner) h in
        mapping_given keys inner None (eqb-true (length keys) (count_patterns inner) w.0) w.1 (each_given inner w.2) no_piece
    given_closed (Trees.MatchMapping keys inner (Some x)) h =
        let w = parts4 (eqb (length keys) (count_patterns inner)) (list_all (key_fits n) keys)
        (each_pattern_fits n AsPattern inner) (target_fits n x) h in
        mapping_given keys inner (Some x) (eqb-true (length keys) (count_patterns inner) w.0) w.1 (each_given inner w.2) (rest_piece x w.3)
    given_closed (Trees.MatchClass cls inner names named) h =
        let t : Bool = class_fits n cls && each_pattern_fits n AsPattern inner && eqb (length names) (count_patterns named) in
        let w = parts4 t (list_all n.name names) (each_pattern_fits n AsPattern named)
        (eqb (count_patterns inner) 0 || not (begins_with_wildcard names)) h in
        let v = parts3 (class_fits n cls) (each_pattern_fits n AsPattern inner) (eqb (length names) (count_patterns named)) w.0 in
        class_pattern_given cls inner names named v.0 (each_given inner v.1)
        (by_name names named (eqb-true (length names) (count_patterns named) v.2) w.1 (each_given named w.2)) w.3
    given_closed (Trees.MatchStar o) h = absurd (never h)
    given_closed (Trees.MatchAs absent_pattern o) h = capture_given o h
    given_closed (Trees.MatchAs (present_pattern p) None) h = absurd (never h)
    given_closed (Trees.MatchAs (present_pattern p) (Some x)) h = let w = and_parts (target_fits n x) (pattern_fits_at n AsPattern p) h in
        as_given p x w.0 (given_closed p w.1)
    given_closed (Trees.MatchOr inner) h =
        let w = and_parts (leb 2 (count_patterns inner)) (each_pattern_fits n AsPattern inner) h in
        or_given inner (leb-true 2 (count_patterns inner) w.0) (each_given inner w.1)

    each_given : (ps : Patterns) → each_pattern_fits n AsPattern ps ≡ true → Each n ps
    each_given no_pattern h = no_more
    each_given (a_pattern p ps) h = let w = and_parts (pattern_fits_at n AsPattern p) (each_pattern_fits n AsPattern ps) h in
        one_more (given_closed p w.0) (each_given ps w.1)

    elements_given : (ps : Patterns) → each_pattern_fits n StarPattern ps ≡ true → Pieces n Element (alone ps)
    elements_given no_pattern h = no_piece
    elements_given (a_pattern (Trees.MatchStar o) ps) h =
        let w = and_parts (perhaps_target_fits n o) (each_pattern_fits n StarPattern ps) h in
        let u = star_given o w.0 in
        a_piece (u.0, u.1, G.element u.2) (elements_given ps w.1)
    elements_given (a_pattern p ps) h =
        let w = and_parts (pattern_fits_at n StarPattern p) (each_pattern_fits n StarPattern ps) h in
        let u = lifted StarPattern (given_closed p (unstarred n StarPattern p refl w.0)) in
        a_piece (u.0, u.1, G.element u.2) (elements_given ps w.1)

  pub pattern_given : (l : PatternLevel) (p : Pattern) → pattern_fits_at n l p ≡ true → At n l p
  pattern_given l (Trees.MatchStar o) h = at l h
    where
      at : (l : PatternLevel) → (takes_star_pattern l && perhaps_target_fits n o) ≡ true → At n l (Trees.MatchStar o)
      at StarPattern h = star_given o h
      at _ h = absurd (never h)
  pattern_given l p h = lifted l (given_closed p (unstarred n l p refl h))
