-- Patterns: one lemma for each alternative.
--
-- Carries: read_patterns, read_star, read_as, named, read_or, read_closed, name_pattern, round, square, finish_mapping, finish_class. On:
-- Fronts.
use Rattle.std.proofs.Common.{◌≡◌, refl, ap, ℕ, ◌+◌, arith, List, [], ◌∷◌, ◌++◌, Some}
use Rattle.pylex_lexeme.specs.declared.kinds.Exact.TheVariants.{LPar, RPar, LSqb, RSqb, LBrace, RBrace, Comma, Star, VBar}
use Rattle.pytoken.specs.declared.keywords.Keyword.TheVariants as Key
use Rattle.pygrammar.specs.declared.pattern_levels.PatternLevel.{PatternLevel}
use Rattle.pygrammar.specs.declared.pattern_levels.PatternLevel.TheVariants.{Patterns, StarPattern, AsPattern, OrPattern, ClosedPattern}
use Rattle.pytree_node.specs.Trees
use Rattle.pytree_node.specs.Trees.{Expr, Pattern, MatchValue, MatchSingleton, MatchSequence, MatchStar, MatchAs, MatchOr}
use Rattle.pytree_node.specs.Trees.{no_pattern, a_pattern, absent_pattern, patterns}
use Rattle.pytree_node.specs.Values
use Rattle.pytoken.specs.Terminals.{Terminal, Spelled, Op, Word, Ident}
use Rattle.pygrammar.specs.PatternOperators.{below_pattern, captured, singleton_word}
use Rattle.pygrammar.specs.PatternEntries.{Element, KeyPattern, ClassArgument, PatternEntry, elements, mapped, class_of, as_named}
use Rattle.pygrammar.specs.PatternGrammar as P
use Rattle.pyplaces.specs.Stretches.{Stretch, stretch}
use Rattle.pyplaces.specs.PatternPlaces as E
use Rattle.pyplaces.specs.PlacedPatterns.{PlacedLiteral, PlacedClass, PlacedPattern, PlacedAlternatives, PlacedEntries}
use Rattle.pyplaces.proofs.Fronts.{nothing, sign, both, front_of, from, built, ◌⊕◌, own}

-- the next level
pub placed_pattern_next : {i r : List Terminal} {at following : ℕ} {ps : List Stretch} {l : PatternLevel} {a : Pattern}
    → PlacedPattern (below_pattern l) i at a r following ps → PlacedPattern l i at a r following ps
placed_pattern_next p = built (front_of p) (P.next p.derived) p.places_are

pub placed_open_sequence : {i r s u : List Terminal} {at m following : ℕ} {ps : List Stretch} {a : Pattern} {es : List PatternEntry}
    {fs : List E.EntryPlaces}
    → PlacedPattern StarPattern i at a r m ps → r ≡ Op Comma ∷ s → PlacedEntries Element s (m + 1) es u following fs
    → PlacedPattern Patterns i at (MatchSequence (a_pattern a (elements es))) u following (ps ++ (E.alone fs ++ (stretch at following ∷ [])))
placed_open_sequence p h c = built (both (front_of p) (sign h (front_of c))) (P.open_sequence p.derived c.derived)
    (p.places_are ⊕ ap E.alone (from c (omega (arith, p.ends))) ⊕ own (omega (arith, p.ends, c.ends)))

pub placed_star : {x : Spelled} {i r s : List Terminal} {at : ℕ} → i ≡ Op Star ∷ r → r ≡ Ident x ∷ s
    → PlacedPattern StarPattern i at (MatchStar (captured x.form)) s (at + 1 + 1) (stretch at (at + 1 + 1) ∷ [])
placed_star h k = built (sign h (sign k nothing)) P.star (own (omega arith))

pub placed_as_name : {x : Spelled} {i r s u : List Terminal} {at m : ℕ} {ps : List Stretch} {a b : Pattern}
    → PlacedPattern OrPattern i at a r m ps → r ≡ Word Key.As ∷ s → s ≡ Ident x ∷ u → as_named a x.form ≡ Some b
    → PlacedPattern AsPattern i at b u (m + 1 + 1) (ps ++ (stretch at (m + 1 + 1) ∷ []))
placed_as_name {x = x} p h k q = built (both (front_of p) (sign h (sign k nothing))) (P.as_name x p.derived q)
    (p.places_are ⊕ own (omega (arith, p.ends)))

pub placed_alternatives : {i r s u : List Terminal} {at m following : ℕ} {ps qs : List Stretch} {a : Pattern} {xs : List Pattern}
    → PlacedPattern ClosedPattern i at a r m ps → r ≡ Op VBar ∷ s → PlacedAlternatives s (m + 1) xs u following qs
    → PlacedPattern OrPattern i at (MatchOr (patterns (a ∷ xs))) u following (ps ++ (qs ++ (stretch at following ∷ [])))
placed_alternatives p h c = built (both (front_of p) (sign h (front_of c))) (P.alternatives p.derived c.derived)
    (p.places_are ⊕ from c (omega (arith, p.ends)) ⊕ own (omega (arith, p.ends, c.ends)))

-- ---- Closed patterns.
pub placed_literal : {i r : List Terminal} {at following : ℕ} {e : Expr} {ps : List Stretch} → PlacedLiteral i at e r following ps
    → PlacedPattern ClosedPattern i at (MatchValue e) r following (ps ++ (stretch at following ∷ []))
placed_literal p = built (front_of p) (P.literal p.derived) (p.places_are ⊕ own p.ends)

pub placed_singleton : {t : Terminal} {i r : List Terminal} {at : ℕ} {y : Values.Value} → singleton_word t ≡ Some y → i ≡ t ∷ r
    → PlacedPattern ClosedPattern i at (MatchSingleton y) r (at + 1) (stretch at (at + 1) ∷ [])
placed_singleton q h = built (sign h nothing) (P.singleton q) refl

pub placed_capture : {x : Spelled} {i r : List Terminal} {at : ℕ} → i ≡ Ident x ∷ r
    → PlacedPattern ClosedPattern i at (MatchAs absent_pattern (captured x.form)) r (at + 1) (stretch at (at + 1) ∷ [])
placed_capture h = built (sign h nothing) P.capture refl

pub placed_pattern_group : {i r s u : List Terminal} {at m : ℕ} {ps : List Stretch} {a : Pattern} → i ≡ Op LPar ∷ r
    → PlacedPattern AsPattern r (at + 1) a s m ps → s ≡ Op RPar ∷ u → PlacedPattern ClosedPattern i at a u (m + 1) ps
placed_pattern_group h p k = built (sign h (both (front_of p) (sign k nothing))) (P.group p.derived) (from p (omega arith))

pub placed_empty_sequence : {i r s : List Terminal} {at : ℕ} → i ≡ Op LPar ∷ r → r ≡ Op RPar ∷ s
    → PlacedPattern ClosedPattern i at (MatchSequence no_pattern) s (at + 1 + 1) (stretch at (at + 1 + 1) ∷ [])
placed_empty_sequence h k = built (sign h (sign k nothing)) P.empty_sequence (own (omega arith))

pub placed_round_sequence : {i r s u v w : List Terminal} {at m n : ℕ} {ps : List Stretch} {a : Pattern} {es : List PatternEntry}
    {fs : List E.EntryPlaces}
    → i ≡ Op LPar ∷ r → PlacedPattern StarPattern r (at + 1) a s m ps → s ≡ Op Comma ∷ u → PlacedEntries Element u (m + 1) es v n fs
    → v ≡ Op RPar ∷ w
    → PlacedPattern ClosedPattern i at (MatchSequence (a_pattern a (elements es))) w (n + 1)
    (ps ++ (E.alone fs ++ (stretch at (n + 1) ∷ [])))
placed_round_sequence h p k c y = built (sign h (both (front_of p) (sign k (both (front_of c) (sign y nothing)))))
    (P.round_sequence p.derived c.derived)
    (from p (omega arith) ⊕ ap E.alone (from c (omega (arith, p.ends))) ⊕ own (omega (arith, p.ends, c.ends)))

pub placed_square_sequence : {i r s u : List Terminal} {at m : ℕ} {es : List PatternEntry} {fs : List E.EntryPlaces} → i ≡ Op LSqb ∷ r
    → PlacedEntries Element r (at + 1) es s m fs → s ≡ Op RSqb ∷ u
    → PlacedPattern ClosedPattern i at (MatchSequence (elements es)) u (m + 1) (E.alone fs ++ (stretch at (m + 1) ∷ []))
placed_square_sequence h c k = built (sign h (both (front_of c) (sign k nothing))) (P.square_sequence c.derived)
    (ap E.alone (from c (omega arith)) ⊕ own (omega (arith, c.ends)))

-- all keys come before all patterns
pub placed_mapping : {i r s u : List Terminal} {at m : ℕ} {a : Pattern} {es : List PatternEntry} {fs : List E.EntryPlaces}
    → i ≡ Op LBrace ∷ r → PlacedEntries KeyPattern r (at + 1) es s m fs → mapped es ≡ Some a → s ≡ Op RBrace ∷ u
    → PlacedPattern ClosedPattern i at a u (m + 1) (E.pattern_keys fs ++ (E.key_patterns fs ++ (stretch at (m + 1) ∷ [])))
placed_mapping h c q k = built (sign h (both (front_of c) (sign k nothing))) (P.mapping c.derived q)
    (ap E.pattern_keys (from c (omega arith)) ⊕ ap E.key_patterns (from c (omega arith)) ⊕ own (omega (arith, c.ends)))

pub placed_class_pattern : {i r s u v : List Terminal} {at m n : ℕ} {e : Expr} {ps : List Stretch} {a : Pattern} {es : List PatternEntry}
    {fs : List E.EntryPlaces}
    → PlacedClass i at e r m ps → r ≡ Op LPar ∷ s → PlacedEntries ClassArgument s (m + 1) es u n fs → class_of e es ≡ Some a
    → u ≡ Op RPar ∷ v → PlacedPattern ClosedPattern i at a v (n + 1) (ps ++ (E.alone fs ++ (E.named fs ++ (stretch at (n + 1) ∷ []))))
placed_class_pattern p h c q k = built (both (front_of p) (sign h (both (front_of c) (sign k nothing))))
    (P.class_pattern p.derived c.derived q)
    (p.places_are ⊕ ap E.alone (from c (omega (arith, p.ends))) ⊕ ap E.named (from c (omega (arith, p.ends)))
    ⊕ own (omega (arith, p.ends, c.ends)))
