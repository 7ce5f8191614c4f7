-- Carries: write_pattern and the functions that it calls. What is written for each class of
-- pattern, part by part.
use Rattle.std.proofs.Common.{◌≡◌, ◌∙◌, ◌==◌, ◌||◌, Bool, true, false, not, if◌then◌else◌, List, [], ◌∷◌, ◌++◌, Option, None, length, map}
use Rattle.std.proofs.Common.{refl, ap, sym, arith, append-nil}
use Rattle.std.proofs.lemmas.Bool.{eqb-true, false≢true}
use Rattle.std.specs.Str.{chars}
use Rattle.pylex_lexeme.specs.Characters.{low_line}
use Rattle.pylex_lexeme.specs.declared.kinds.Exact.TheVariants.{Colon, Comma, Equal, LBrace, LPar, LSqb, RBrace, RPar, RSqb, Star, VBar}
use Rattle.pytoken.specs.declared.keywords.Keyword.TheVariants as Key
use Rattle.pytoken.specs.Terminals.{Op, in_form}
use Rattle.pytree_node.specs.declared.expressions.Expr as given_expr
use Rattle.pytree_node.specs.declared.patterns.Pattern as given
use Rattle.pytree_node.specs.Trees as plain
use Rattle.pytree_node.specs.Trees.{Identifier, Pattern, Patterns, patterns, present_pattern}
use Rattle.pytree_node.specs.TreeOf.{pattern_of, tree_of}
use Rattle.pygrammar.specs.declared.levels.Level.TheVariants.{Primary, Sum}
use Rattle.pygrammar.specs.declared.pattern_levels.PatternLevel.{PatternLevel}
use Rattle.pygrammar.specs.declared.pattern_levels.PatternLevel.TheVariants as Level
use Rattle.pyunparse_text.specs.Pieces.{Sited, piece, pieces, sited}
use Rattle.pyunparse_text.specs.Written.{bracketed, enclosed, free, leading, listed, separated, tight, trailing, word}
use Rattle.pyunparse_text.specs.WrittenPatterns.{each_pattern, fit_pattern, key_patterns, named_patterns, pattern_reaches, rest_name}
use Rattle.pyunparse_text.specs.WrittenPatterns.{sequence_of, target, target_name, written_pattern}
use Rattle.pyunparse_text.specs.Folds.{closed, opened, puts}
use Rattle.pyunparse.specs.Inner.Elements.{last}
use Rattle.pyunparse.specs.Inner.Members.{members}
use Rattle.pyunparse.specs.Inner.PatternParts.{is_bare, key_pattern, named_pattern}
use Rattle.pyunparse_text.proofs.Callers.Writing.{not_zero}
use Rattle.pyunparse.proofs.Sequences.FoldLemmas.{enclosed_on, four, in_brackets, three, two}
use Rattle.pyunparse.proofs.Sequences.MemberLemmas.{is_nil, members_both}

abbrev comma : Sited
comma = trailing piece Comma

-- the wildcard as it stands in the code
wildcard_text : chars (95 ∷ []) ≡ low_line ∷ []
unfolding chars
wildcard_text = refl

-- ---- Patterns of a mapping after their keys, and of a class after their names: one more.

abbrev pub keyed : List given_expr.Expr → List given.Pattern → List (List Sited)
keyed ks ps = key_patterns piece (map tree_of ks) (patterns (map pattern_of ps))

abbrev pub by_names : List Identifier → List given.Pattern → List (List Sited)
by_names xs ps = named_patterns piece xs (patterns (map pattern_of ps))

pub keyed_more : (k : given_expr.Expr) (p : given.Pattern) (ks : List given_expr.Expr) (ps : List given.Pattern)
    → keyed (k ∷ ks) (p ∷ ps) ≡ key_pattern (tree_of k) (pattern_of p) ∷ keyed ks ps
unfolding written_pattern
keyed_more k p ks ps = refl

pub no_keys : (ps : List given.Pattern) → keyed [] ps ≡ []
unfolding written_pattern
no_keys ps = refl

pub no_values : (ks : List given_expr.Expr) → keyed ks [] ≡ []
unfolding written_pattern
no_values [] = refl
no_values (k ∷ ks) = refl

pub by_names_more : (x : Identifier) (p : given.Pattern) (xs : List Identifier) (ps : List given.Pattern)
    → by_names (x ∷ xs) (p ∷ ps) ≡ named_pattern x (pattern_of p) ∷ by_names xs ps
unfolding written_pattern
by_names_more x p xs ps = refl

pub no_names : (ps : List given.Pattern) → by_names [] ps ≡ []
unfolding written_pattern
no_names ps = refl

pub no_named : (xs : List Identifier) → by_names xs [] ≡ []
unfolding written_pattern
no_named [] = refl
no_named (x ∷ xs) = refl

-- ---- Which lists are empty.

pub some_bare : (ps : List given.Pattern) (b : Bool) → b ≡ (length ps == 0) → not b ≡ is_bare Level.Patterns (patterns (map pattern_of ps))
some_bare [] b h = ap not h
some_bare (p ∷ ps) b h = ap not (h ∙ not_zero (length ps))

pub none_keyed : (ks : List given_expr.Expr) (ps : List given.Pattern) (b d : Bool) → b ≡ (length ks == 0) → d ≡ (length ps == 0)
    → (b || d) ≡ is_nil (keyed ks ps)
unfolding written_pattern
none_keyed [] ps b d h k = ap (λ z. z || d) h
none_keyed (x ∷ ks) [] b d h k = λ i. (h ∙ not_zero (length ks)) i || k i
none_keyed (x ∷ ks) (p ∷ ps) b d h k = λ i. (h ∙ not_zero (length ks)) i || (k ∙ not_zero (length ps)) i

pub none_each : (ps : List given.Pattern) (b : Bool) → b ≡ (length ps == 0)
    → b ≡ is_nil (each_pattern piece Level.AsPattern (patterns (map pattern_of ps)))
unfolding written_pattern
none_each [] b h = h
none_each (p ∷ ps) b h = h ∙ not_zero (length ps)

-- ---- Sequences.

-- two patterns or more
not_one : {A : Type 0} (x y : A) (xs : List A) (b : Bool) → (length (x ∷ (y ∷ xs)) == 1) ≡ b → b ≡ false
not_one x y xs true e = absurd (omega (arith, eqb-true (length (x ∷ (y ∷ xs))) 1 e))
not_one x y xs false e = refl

-- without brackets
without : (l : PatternLevel) (ps : List given.Pattern) → is_bare l (patterns (map pattern_of ps)) ≡ true →
    separated comma (each_pattern piece Level.StarPattern (patterns (map pattern_of ps))) ++ last (length ps == 1) ≡ sequence_of piece l
    (each_pattern piece Level.StarPattern (patterns (map pattern_of ps)))
unfolding written_pattern
without Level.Patterns [] h = absurd (false≢true h)
without Level.Patterns (p ∷ []) h = refl
without Level.Patterns (p ∷ (q ∷ ps)) h =
    let tss : List (List Sited) = each_pattern piece Level.StarPattern (patterns (map pattern_of (p ∷ (q ∷ ps)))) in
    ap (λ b. separated comma tss ++ last b) (not_one p q ps _ refl) ∙ append-nil (separated comma tss)
without _ ps h = absurd (false≢true h)

-- and with them
within_brackets : (l : PatternLevel) (ps : List given.Pattern) → is_bare l (patterns (map pattern_of ps)) ≡ false →
    enclosed piece (leading piece LSqb) RSqb (listed piece (each_pattern piece Level.StarPattern (patterns (map pattern_of ps)))) ≡
    sequence_of piece l (each_pattern piece Level.StarPattern (patterns (map pattern_of ps)))
unfolding written_pattern
within_brackets Level.Patterns [] h = refl
within_brackets Level.Patterns (p ∷ ps) h = absurd (false≢true (sym h))
within_brackets _ ps h = refl

-- members after others, with commas between
listed_both : {S : Type 0} (after : S → Sited → S) (s s1 : S) (xss yss : List (List Sited)) (b : Bool) → b ≡ is_nil xss
    → s1 ≡ puts after s (listed piece xss) →
    puts after s1 (members b comma yss) ≡ puts after s (listed piece (xss ++ yss))
listed_both after s s1 xss yss b h e =
    two after s (separated comma xss) (members b comma yss) s1 e
    ∙ ap (λ z. puts after s (separated comma xss ++ members z comma yss)) h
    ∙ ap (puts after s) (sym (members_both true comma xss yss))

module _ {S : Type 0} (after : S → Sited → S) (s : S) where
  -- ---- Names.

  pub wildcard_on : (x : Option Identifier) → x ≡ None → puts after s (sited (in_form (chars (95 ∷ []))) false false ∷ []) ≡ puts
      after s (target piece x ∷ [])
  wildcard_on x e = ap (λ z. puts after s (free piece (in_form z) ∷ [])) (wildcard_text ∙ ap target_name (sym e))

  -- ---- Members of lists.

  pub key_on : (k : plain.Expr) (p : Pattern) (s1 s2 : S) → s1 ≡ puts after s (pieces Sum k)
      → s2 ≡ puts after s1 (trailing piece Colon ∷ []) →
      puts after s2 (written_pattern piece Level.AsPattern p) ≡ puts after s (key_pattern k p)
  key_on k p s1 s2 e1 e2 = three after s (pieces Sum k) (trailing piece Colon ∷ []) (written_pattern piece Level.AsPattern p) s1 s2 e1 e2

  pub name_on : (x : Identifier) (p : Pattern) (s1 s2 : S) → s1 ≡ puts after s (free piece (in_form x) ∷ [])
      → s2 ≡ puts after s1 (tight piece Equal ∷ []) →
      puts after s2 (written_pattern piece Level.AsPattern p) ≡ puts after s (named_pattern x p)
  name_on x p s1 s2 e1 e2 = three after s (free piece (in_form x) ∷ []) (tight piece Equal ∷ [])
      (written_pattern piece Level.AsPattern p) s1 s2 e1 e2

  -- ---- Classes of patterns.

  module _ (l : PatternLevel) where
    -- a form in its brackets, if it needs them
    within : (k : PatternLevel) (b : Bool) (ts : List Sited) (s1 u : S) → b ≡ pattern_reaches l k → s1 ≡ puts after s (opened b)
        → u ≡ puts after s1 ts →
        puts after u (closed b) ≡ puts after s (fit_pattern piece l k ts)
    unfolding fit_pattern
    within k b ts s1 u h e f =
        ap (λ z. puts after z (closed b)) (f ∙ ap (λ z. puts after z ts) e)
        ∙ sym (in_brackets after s b ts)
        ∙ ap (λ z. puts after s (if z then ts else bracketed piece ts)) h

    pub star_on : (x : Option Identifier) (s1 : S) → s1 ≡ puts after s (leading piece Star ∷ [])
        → puts after s1 (target piece x ∷ []) ≡ puts after s (written_pattern piece l (plain.MatchStar x))
    unfolding written_pattern
    star_on x s1 e1 = two after s (leading piece Star ∷ []) (target piece x ∷ []) s1 e1

    pub as_on : (b : Bool) (p : Pattern) (x : Option Identifier) (s1 s2 s3 s4 : S) → b ≡ pattern_reaches l Level.AsPattern
        → s1 ≡ puts after s (opened b) →
        s2 ≡ puts after s1 (written_pattern piece Level.OrPattern p) → s3 ≡ puts after s2 (word piece Key.As ∷ [])
        → s4 ≡ puts after s3 (target piece x ∷ []) →
        puts after s4 (closed b) ≡ puts after s (written_pattern piece l (plain.MatchAs (present_pattern p) x))
    unfolding written_pattern
    as_on b p x s1 s2 s3 s4 h e1 e2 e3 e4 =
        within Level.AsPattern b (written_pattern piece Level.OrPattern p ++ (word piece Key.As ∷ (target piece x ∷ []))) s1 s4 h e1
        (e4 ∙ three after s1 (written_pattern piece Level.OrPattern p) (word piece Key.As ∷ []) (target piece x ∷ []) s2 s3 e2 e3)

    pub or_on : (b : Bool) (ps : Patterns) (s1 s2 : S) → b ≡ pattern_reaches l Level.OrPattern → s1 ≡ puts after s (opened b) →
        s2 ≡ puts after s1 (separated (free piece (Op VBar)) (each_pattern piece Level.ClosedPattern ps)) →
        puts after s2 (closed b) ≡ puts after s (written_pattern piece l (plain.MatchOr ps))
    unfolding written_pattern
    or_on b ps s1 s2 h e1 e2 =
        within Level.OrPattern b (separated (free piece (Op VBar)) (each_pattern piece Level.ClosedPattern ps)) s1 s2 h e1 e2

    pub bare_on : (ps : List given.Pattern) (b : Bool) (s1 : S) → is_bare l (patterns (map pattern_of ps)) ≡ true → b ≡ (length ps == 1) →
        s1 ≡ puts after s (listed piece (each_pattern piece Level.StarPattern (patterns (map pattern_of ps)))) →
        puts after s1 (last b) ≡ puts after s (written_pattern piece l (plain.MatchSequence (patterns (map pattern_of ps))))
    unfolding written_pattern
    bare_on ps b s1 h k e1 =
        let tss : List (List Sited) = each_pattern piece Level.StarPattern (patterns (map pattern_of ps)) in
        two after s (separated comma tss) (last b) s1 e1
        ∙ ap (λ z. puts after s (separated comma tss ++ last z)) k
        ∙ ap (puts after s) (without l ps h)

    pub sequence_on : (ps : List given.Pattern) (s1 s2 : S) → is_bare l (patterns (map pattern_of ps)) ≡ false →
        s1 ≡ puts after s (leading piece LSqb ∷ [])
        → s2 ≡ puts after s1 (listed piece (each_pattern piece Level.StarPattern (patterns (map pattern_of ps)))) →
        puts after s2 (trailing piece RSqb ∷ []) ≡ puts after s
        (written_pattern piece l (plain.MatchSequence (patterns (map pattern_of ps))))
    unfolding written_pattern
    sequence_on ps s1 s2 h e1 e2 =
        enclosed_on after s (leading piece LSqb) RSqb (listed piece (each_pattern piece Level.StarPattern (patterns (map pattern_of ps))))
        s1 s2 e1 e2
        ∙ ap (puts after s) (within_brackets l ps h)

    pub mapping_on : (ks : List given_expr.Expr) (ps : List given.Pattern) (x : Option Identifier) (b d : Bool) (s1 s2 s3 : S)
        → b ≡ (length ks == 0) → d ≡ (length ps == 0) →
        s1 ≡ puts after s (leading piece LBrace ∷ []) → s2 ≡ puts after s1 (listed piece (keyed ks ps))
        → s3 ≡ puts after s2 (members (b || d) comma (rest_name piece x)) →
        puts after s3 (trailing piece RBrace ∷ []) ≡ puts after s
        (written_pattern piece l (plain.MatchMapping (map tree_of ks) (patterns (map pattern_of ps)) x))
    unfolding written_pattern
    mapping_on ks ps x b d s1 s2 s3 h k e1 e2 e3 =
        enclosed_on after s (leading piece LBrace) RBrace (listed piece (keyed ks ps ++ rest_name piece x)) s1 s3 e1
        (e3 ∙ listed_both after s1 s2 (keyed ks ps) (rest_name piece x) (b || d) (none_keyed ks ps b d h k) e2)

    pub class_on : (e : plain.Expr) (ps : List given.Pattern) (xs : List Identifier) (qs : List given.Pattern) (b : Bool) (s1 s2 s3 s4 : S)
        → b ≡ (length ps == 0) →
        s1 ≡ puts after s (pieces Primary e) → s2 ≡ puts after s1 (tight piece LPar ∷ [])
        → s3 ≡ puts after s2 (listed piece (each_pattern piece Level.AsPattern (patterns (map pattern_of ps)))) →
        s4 ≡ puts after s3 (members b comma (by_names xs qs)) →
        puts after s4 (trailing piece RPar ∷ []) ≡ puts after s
        (written_pattern piece l (plain.MatchClass e (patterns (map pattern_of ps)) xs (patterns (map pattern_of qs))))
    unfolding written_pattern
    class_on e ps xs qs b s1 s2 s3 s4 h e1 e2 e3 e4 =
        let tss : List (List Sited) = each_pattern piece Level.AsPattern (patterns (map pattern_of ps)) in
        four after s (pieces Primary e) (tight piece LPar ∷ []) (listed piece (tss ++ by_names xs qs))
        (trailing piece RPar ∷ []) s1 s2 s4 e1 e2
        (e4 ∙ listed_both after s2 s3 tss (by_names xs qs) b (none_each ps b h) e3)
