-- Lists of patterns, of keys and of names that grow.
--
-- Carries: push, with_elements, with_entry, the parts of mappings and classes. On: Entries.
use Rattle.std.proofs.Common.{◌≡◌, refl, ap, ◌∙◌, arith, ℕ, max, List, [], ◌∷◌, ◌++◌, map, append_assoc, true}
use Rattle.std.proofs.lemmas.List.{map-append}
use Rattle.pytree_node.specs.declared.expressions.Expr as given_expr
use Rattle.pytree_node.specs.declared.patterns.Pattern as given
use Rattle.pytree_node.specs.Trees.{Expr, Identifier, Pattern, patterns}
use Rattle.pytree_node.specs.TreeOf.{pattern_of, tree_of}
use Rattle.pytree_height.specs.Heights.{pattern_height, pattern_heights}
use Rattle.pygrammar.specs.PatternEntries.{PatternEntry, Alone, Keyed, Rest, Named}
use Rattle.pyparse_pattern.specs.declared.entries.PatternEntry as given_entry
use Rattle.pyparse_pattern.specs.Inner.Entries.{alone_in, are_alone, entry_height, entry_heights, entry_of}

-- ---- Patterns.

pub pushed : (xs ys : List given.Pattern) (p : given.Pattern) → ys ≡ xs ++ (p ∷ [])
    → map pattern_of ys ≡ map pattern_of xs ++ (pattern_of p ∷ [])
pushed xs ys p h = ap (λ l. map pattern_of l) h ∙ map-append pattern_of xs (p ∷ [])

joined_heights : (xs ys : List Pattern) → pattern_heights (patterns (xs ++ ys)) ≡ max (pattern_heights (patterns xs))
    (pattern_heights (patterns ys))
joined_heights [] ys = omega arith
joined_heights (x ∷ xs) ys = omega (arith, joined_heights xs ys)

pub pushed_height : (xs ys : List given.Pattern) (p : given.Pattern) (h k : ℕ) → ys ≡ xs ++ (p ∷ [])
    → h ≡ pattern_heights (patterns (map pattern_of xs)) → k ≡ pattern_height (pattern_of p)
    → max h k ≡ pattern_heights (patterns (map pattern_of ys))
pushed_height xs ys p h k q a b = omega (
  arith,
  a,
  b,
  ap (λ l. pattern_heights (patterns l)) (pushed xs ys p q),
  joined_heights (map pattern_of xs) (pattern_of p ∷ []),
)

alone_height : (es : List PatternEntry) → are_alone es ≡ true → entry_heights es ≡ pattern_heights (patterns (alone_in es))
alone_height [] h = refl
alone_height (Alone p ∷ es) h = ap (λ n. max (pattern_height p) n) (alone_height es h)
alone_height (Keyed k p ∷ es) h = absurd (cc)
alone_height (Rest x ∷ es) h = absurd (cc)
alone_height (Named x p ∷ es) h = absurd (cc)

-- patterns after others
pub alone_heights : (xs ys : List Pattern) (es : List PatternEntry) (h k : ℕ) → ys ≡ xs ++ alone_in es → are_alone es ≡ true
    → h ≡ pattern_heights (patterns xs) → k ≡ entry_heights es → max h k ≡ pattern_heights (patterns ys)
alone_heights xs ys es h k q s a b = omega (
  arith,
  a,
  b,
  alone_height es s,
  ap (λ l. pattern_heights (patterns l)) q,
  joined_heights xs (alone_in es),
)

-- ---- Entries.

higher : (es : List PatternEntry) (e : PatternEntry) → entry_heights (es ++ (e ∷ [])) ≡ max (entry_heights es) (entry_height e)
higher [] e = omega arith
higher (x ∷ es) e = omega (arith, higher es e)

pub entry_pushed : (xs ys : List given_entry.PatternEntry) (e : given_entry.PatternEntry) → ys ≡ xs ++ (e ∷ [])
    → map entry_of ys ≡ map entry_of xs ++ (entry_of e ∷ [])
entry_pushed xs ys e h = ap (λ l. map entry_of l) h ∙ map-append entry_of xs (e ∷ [])

pub entry_pushed_height : (xs ys : List given_entry.PatternEntry) (e : given_entry.PatternEntry) (h k : ℕ) → ys ≡ xs ++ (e ∷ [])
    → h ≡ entry_heights (map entry_of xs) → k ≡ entry_height (entry_of e) → max h k ≡ entry_heights (map entry_of ys)
entry_pushed_height xs ys e h k q a b = omega (
  arith,
  a,
  b,
  ap entry_heights (entry_pushed xs ys e q),
  higher (map entry_of xs) (entry_of e),
)

-- ---- Parts, whichever follow.

pub grown_patterns : (xs ys : List given.Pattern) (p : given.Pattern) (zs : List Pattern) → ys ≡ xs ++ (p ∷ [])
    → map pattern_of ys ++ zs ≡ map pattern_of xs ++ (pattern_of p ∷ zs)
grown_patterns xs ys p zs h = ap (λ l. l ++ zs) (pushed xs ys p h) ∙ append_assoc (map pattern_of xs) (pattern_of p ∷ []) zs

pub grown_keys : (xs ys : List given_expr.Expr) (k : given_expr.Expr) (zs : List Expr) → ys ≡ xs ++ (k ∷ [])
    → map tree_of ys ++ zs ≡ map tree_of xs ++ (tree_of k ∷ zs)
grown_keys xs ys k zs h = ap (λ l. map tree_of l ++ zs) h ∙ ap (λ l. l ++ zs) (map-append tree_of xs (k ∷ []))
    ∙ append_assoc (map tree_of xs) (tree_of k ∷ []) zs

pub grown_names : (xs ys : List Identifier) (x : Identifier) (zs : List Identifier) → ys ≡ xs ++ (x ∷ []) → ys ++ zs ≡ xs ++ (x ∷ zs)
grown_names xs ys x zs h = ap (λ l. l ++ zs) h ∙ append_assoc xs (x ∷ []) zs
