-- What the entries of a list are, of all of them: their order, their parts, their heights.
--
-- Carries: is_mapping, are_class_arguments, make_mapping, make_class. On: Entries.
use Rattle.std.proofs.Common.{◌≡◌, refl, sym, ap, ◌∙◌, arith, ℕ, suc, ◌+◌, ◌-◌, ◌<◌, max, List, [], ◌∷◌, ◌++◌, length, map, drop, get_or}
use Rattle.std.proofs.Common.{length-drop, append-nil, Option, None, Bool, true, false, eqb, ◌≤◌, Global, Result, Ok, Err, MatchResult}
use Rattle.std.specs.Prelude.{◌&&◌, not}
use Rattle.std.specs.declared.boxed.Box.{Box}
use Rattle.std.specs.declared.vec.Vec.{Vec}
use Rattle.std.proofs.Math.Seq.{drop-cons}
use Rattle.std.proofs.lemmas.Bool.{eq-eqb, ne_eqb}
use Rattle.pytree_node.specs.declared.expressions.Expr as given_expr
use Rattle.pytree_node.specs.declared.patterns.Pattern as given
use Rattle.pytree_node.specs.declared.patterns.Pattern.TheVariants as variant
use Rattle.pytree_node.specs.Trees.{Expr, Identifier, MatchClass, MatchMapping, Pattern, a_pattern, patterns}
use Rattle.pytree_node.specs.TreeOf.{pattern_of, tree_of}
use Rattle.pytree_node.proofs.Callers.PatternShapes.{match_class_tree, match_mapping_tree}
use Rattle.pytree_height.specs.Heights.{height, list_height, pattern_height, pattern_heights}
use Rattle.pygrammar.specs.PatternEntries.{PatternEntry, Alone, Keyed, Rest, Named, elements, is_mapping, pattern_keys, key_patterns}
use Rattle.pygrammar.specs.PatternEntries.{rest_of, all_named, are_class_arguments, named_attributes, named_patterns}
use Rattle.pygrammar.specs.PatternOperators.{is_wildcard}
use Rattle.pyparse_pattern.specs.declared.entries.PatternEntry as given_entry
use Rattle.pyparse_nodes.specs.declared.stop.Stop.{Stop}
use Rattle.pyparse_nodes.specs.declared.stop.Stop.TheVariants as stop
use Rattle.pyparse_pattern.specs.declared.found.ReadPattern.{ReadPattern}
use Rattle.pyparse_pattern.specs.Inner.Entries.{alone_in, entry_heights, entry_of, keyed_in, named_in, rest_from}
use Rattle.pyparse_pattern.specs.Inner.Made.{MadePattern, MakesPattern}

-- ---- Lists of patterns.

pub alone_elements : (es : List PatternEntry) → patterns (alone_in es) ≡ elements es
alone_elements [] = refl
alone_elements (Alone p ∷ es) = ap (λ ps. a_pattern p ps) (alone_elements es)
alone_elements (Keyed k p ∷ es) = alone_elements es
alone_elements (Rest x ∷ es) = alone_elements es
alone_elements (Named x p ∷ es) = alone_elements es

pub keyed_patterns : (es : List PatternEntry) → patterns (keyed_in es) ≡ key_patterns es
keyed_patterns [] = refl
keyed_patterns (Alone p ∷ es) = keyed_patterns es
keyed_patterns (Keyed k p ∷ es) = ap (λ ps. a_pattern p ps) (keyed_patterns es)
keyed_patterns (Rest x ∷ es) = keyed_patterns es
keyed_patterns (Named x p ∷ es) = keyed_patterns es

pub named_list : (es : List PatternEntry) → patterns (named_in es) ≡ named_patterns es
named_list [] = refl
named_list (Alone p ∷ es) = named_list es
named_list (Keyed k p ∷ es) = named_list es
named_list (Rest x ∷ es) = named_list es
named_list (Named x p ∷ es) = ap (λ ps. a_pattern p ps) (named_list es)

-- ---- Mappings.

pub mapping_rest : (es : List PatternEntry) → is_mapping es ≡ true → rest_from None es ≡ rest_of es
mapping_rest [] h = refl
mapping_rest (Alone p ∷ es) h = absurd (cc)
mapping_rest (Keyed k p ∷ es) h = mapping_rest es h
mapping_rest (Rest x ∷ []) h = refl
mapping_rest (Rest x ∷ e ∷ es) h = absurd (cc)
mapping_rest (Named x p ∷ es) h = absurd (cc)

pub mapping_height : (es : List PatternEntry) → is_mapping es ≡ true → entry_heights es ≡ max (list_height (pattern_keys es))
    (pattern_heights (key_patterns es))
mapping_height [] h = refl
mapping_height (Alone p ∷ es) h = absurd (cc)
mapping_height (Keyed k p ∷ es) h = omega (arith, mapping_height es h)
mapping_height (Rest x ∷ []) h = refl
mapping_height (Rest x ∷ e ∷ es) h = absurd (cc)
mapping_height (Named x p ∷ es) h = absurd (cc)

-- ---- Class patterns.

named_height : (es : List PatternEntry) → all_named es ≡ true → entry_heights es ≡ max (pattern_heights (elements es))
    (pattern_heights (named_patterns es))
named_height [] h = refl
named_height (Alone p ∷ es) h = absurd (cc)
named_height (Keyed k p ∷ es) h = absurd (cc)
named_height (Rest x ∷ es) h = absurd (cc)
named_height (Named x p ∷ es) h = omega (arith, named_height es h)

pub class_height : (b : Bool) (es : List PatternEntry) → are_class_arguments b es ≡ true
    → entry_heights es ≡ max (pattern_heights (elements es)) (pattern_heights (named_patterns es))
class_height b [] h = refl
class_height b (Alone p ∷ es) h = omega (arith, class_height true es h)
class_height true (Keyed k p ∷ es) h = absurd (cc)
class_height false (Keyed k p ∷ es) h = absurd (cc)
class_height true (Rest x ∷ es) h = absurd (cc)
class_height false (Rest x ∷ es) h = absurd (cc)
class_height false (Named x p ∷ es) h = omega (arith, named_height es h)
class_height true (Named x p ∷ es) h = omega (arith, named_height es (go (is_wildcard x) h))
  where
    go : (w : Bool) → (not w && all_named es) ≡ true → all_named es ≡ true
    go false q = q
    go true q = absurd (cc)

-- ---- The order, entry by entry.

-- a `**` ends a mapping exactly where nothing follows it
pub rest_last : (items : List given_entry.PatternEntry) (at : ℕ) (e : given_entry.PatternEntry) (x : Identifier) → at < length items
    → e ≡ get_or items at e → entry_of e ≡ Rest x → eqb (at + 1) (length items) ≡ is_mapping (map entry_of (drop at items))
rest_last items at e x l g r = go (drop (suc at) items) (length-drop (suc at) items)
    ∙ ap (λ y. is_mapping (y ∷ map entry_of (drop (suc at) items))) (sym (ap entry_of (sym g) ∙ r))
    ∙ ap (λ ys. is_mapping (map entry_of ys)) (sym (drop-cons items at e l))
  where
    go : (t : List given_entry.PatternEntry) → length t ≡ length items - suc at
        → eqb (at + 1) (length items) ≡ is_mapping (Rest x ∷ map entry_of t)
    go [] q = eq-eqb (at + 1) (length items) (omega (arith, l, q))
    go (u ∷ t) q = ne_eqb (at + 1) (length items) (λ h. omega (arith, h, q))

-- ---- Patterns of lists of entries.

-- after the last entry
pub ended : {B : Type 0} (xs ys : List B) (f : List PatternEntry → List B) (rest : List given_entry.PatternEntry) → length rest ≡ 0
    → f [] ≡ [] → xs ++ f (map entry_of rest) ≡ ys → xs ≡ ys
ended xs ys f [] l n h = sym (append-nil xs) ∙ ap (λ z. xs ++ z) (sym n) ∙ h
ended xs ys f (e ∷ rest) l n h = absurd (omega (arith, l))

pub ended_rest : (o p : Option Identifier) (rest : List given_entry.PatternEntry) → length rest ≡ 0
    → rest_from o (map entry_of rest) ≡ p → o ≡ p
ended_rest o p [] l h = h
ended_rest o p (e ∷ rest) l h = absurd (omega (arith, l))

-- a pattern of this value, where there is room for it
pub made_of : (room h : ℕ) (p q : Pattern) (next : ℕ) (z : Result ReadPattern Stop) → h ≤ room → q ≡ p
    → MatchResult z (λ r. MadePattern h q next r) (λ s. s ≡ stop.Memory) → MakesPattern room p next z
made_of room h p q next (Ok r) l e m = record { pattern = m.pattern ∙ e; next_is = m.next_is; low = omega (arith, l, m.low) }
made_of room h p q next (Err stop.NoForm) l e m = absurd (cc)
made_of room h p q next (Err stop.TooDeep) l e m = absurd (cc)
made_of room h p q next (Err stop.Memory) l e m = tt

pub class_shape : (cls : Box given_expr.Expr Global) (inner : Vec given.Pattern Global) (names : Vec Identifier Global)
    (named : Vec given.Pattern Global) (es : List PatternEntry) → map pattern_of inner.items ≡ alone_in es
    → names.items ≡ named_attributes es → map pattern_of named.items ≡ named_in es → pattern_of (variant.MatchClass cls inner names named) ≡
    MatchClass (tree_of cls.value) (elements es) (named_attributes es) (named_patterns es)
class_shape cls inner names named es p q r = match_class_tree cls inner names named
    ∙ (λ i. MatchClass (tree_of cls.value) (patterns (p i)) (q i) (patterns (r i)))
    ∙ (λ i. MatchClass (tree_of cls.value) (alone_elements es i) (named_attributes es) (named_list es i))

pub class_tall : (e : Expr) (es : List PatternEntry) (h k : ℕ) → are_class_arguments false es ≡ true → h ≡ height e → k ≡ entry_heights es
    → pattern_height (MatchClass e (elements es) (named_attributes es) (named_patterns es)) ≡ max h k + 1
class_tall e es h k a p q = omega (arith, p, q, class_height false es a)

pub mapping_shape : (keys : Vec given_expr.Expr Global) (inner : Vec given.Pattern Global) (rest : Option Identifier)
    (es : List PatternEntry) → is_mapping es ≡ true → map tree_of keys.items ≡ pattern_keys es → map pattern_of inner.items ≡ keyed_in es
    → rest ≡ rest_from None es → pattern_of (variant.MatchMapping keys inner rest) ≡ MatchMapping (pattern_keys es)
    (key_patterns es) (rest_of es)
mapping_shape keys inner rest es a p q r = match_mapping_tree keys inner rest ∙ (λ i. MatchMapping (p i) (patterns (q i)) (r i))
    ∙ (λ i. MatchMapping (pattern_keys es) (keyed_patterns es i) (mapping_rest es a i))

pub mapping_tall : (es : List PatternEntry) (k : ℕ) → is_mapping es ≡ true → k ≡ entry_heights es
    → pattern_height (MatchMapping (pattern_keys es) (key_patterns es) (rest_of es)) ≡ k + 1
mapping_tall es k a q = omega (arith, q, mapping_height es a)
