-- The reader of patterns: what is read at the front of a list of terminals, by one look at the next one or two of them, within a height.
-- The
-- first number only ends the recursion (more than there are terminals). The second is the room: how high a pattern may be that is read
-- here.
-- What stands in a pattern is read with one level less; what is alone in round brackets with the same room. What would be higher is refused
-- on the spot, with TooDeep. Each loop takes a number that is at least the number of terminals.
use Rattle.std.specs.Prelude.{ℕ, zero, suc, List, [], ◌∷◌, ◌++◌, length, Option, Some, None, Bool, true, false, cond, leb}
use Rattle.pylex_lexeme.specs.declared.kinds.Exact.TheVariants.{LPar, RPar, LSqb, RSqb, LBrace, RBrace, Colon, Comma, Star, Equal, Dot}
use Rattle.pylex_lexeme.specs.declared.kinds.Exact.TheVariants.{DoubleStar, Minus, VBar}
use Rattle.pytoken.specs.declared.keywords.Keyword.TheVariants as Key
use Rattle.pytree_node.specs.declared.operators.UnaryOperator.TheVariants as Un
use Rattle.pytree_node.specs.declared.operators.Context.TheVariants.{Load}
use Rattle.pygrammar.specs.declared.levels.Level.TheVariants.{Sum}
use Rattle.pygrammar.specs.declared.pattern_levels.PatternLevel.{PatternLevel}
use Rattle.pygrammar.specs.declared.pattern_levels.PatternLevel.TheVariants.{Patterns, StarPattern, AsPattern, OrPattern, ClosedPattern}
use Rattle.pytree_node.specs.Trees
use Rattle.pytree_node.specs.Trees.{Expr, Identifier, Pattern, MatchValue, MatchSingleton, MatchSequence, MatchStar, MatchAs, MatchOr}
use Rattle.pytree_node.specs.Trees.{no_pattern, a_pattern, absent_pattern, patterns}
use Rattle.pytree_node.specs.Values
use Rattle.pytoken.specs.Terminals.{Terminal, Op, Word, Ident, Number, Literal, FormattedBegin}
use Rattle.pytree_height.specs.Heights.{height, pattern_height}
use Rattle.pygrammar.specs.Looks.{is_op, is_word, name_in}
use Rattle.pygrammar.specs.Operators.{left_operator}
use Rattle.pygrammar.specs.Reader.{Answer, Found, NoForm, TooDeep, and_then, on_first, on_name_with, closed, made, unstarred, Reads}
use Rattle.pygrammar.specs.Reader.{literals, joined_step}
use Rattle.pygrammar.specs.Capped.{capped}
use Rattle.pygrammar.specs.PatternOperators.{captured, is_imaginary, is_wildcard, singleton_word}
use Rattle.pygrammar.specs.PatternEntries.{PatternItem, Element, KeyPattern, ClassArgument, PatternEntry, Alone, Keyed, Rest, Named}
use Rattle.pygrammar.specs.PatternEntries.{elements, mapped, class_of, as_named}

abbrev pub PatternReads : Type 0
PatternReads = PatternLevel → List Terminal → Answer Pattern

-- what is higher than d is refused
abbrev pub cap_by : {A : Type 0} → (A → ℕ) → ℕ → Answer A → Answer A
cap_by f d (Found a r) = cond (leb (f a) d) (Found a r) TooDeep
cap_by f d NoForm = NoForm
cap_by f d TooDeep = TooDeep

abbrev pub cap_pattern : ℕ → Answer Pattern → Answer Pattern
cap_pattern d a = cap_by pattern_height d a

abbrev pub cap_value : ℕ → Answer Expr → Answer Expr
cap_value d a = cap_by height d a

-- ---- What begins.

-- the terminals that begin an AsPattern
abbrev pub begins_pattern : Terminal → Bool
begins_pattern (Ident x) = true
begins_pattern (Number v) = true
begins_pattern (Literal v) = true
begins_pattern FormattedBegin = true
begins_pattern (Word Key.None) = true
begins_pattern (Word Key.True) = true
begins_pattern (Word Key.False) = true
begins_pattern (Op LPar) = true
begins_pattern (Op LSqb) = true
begins_pattern (Op LBrace) = true
begins_pattern (Op Minus) = true
begins_pattern _ = false

-- the terminals that begin an item
abbrev pub begins_entry : PatternItem → Terminal → Bool
begins_entry Element (Op Star) = true
begins_entry KeyPattern (Op DoubleStar) = true
begins_entry i t = begins_pattern t

abbrev pub starts_entry : PatternItem → List Terminal → Bool
starts_entry i [] = false
starts_entry i (t ∷ r) = begins_entry i t

-- ---- Values.

abbrev pub imaginary_in : Terminal → Option Values.Value
imaginary_in (Number v) = cond (is_imaginary v) (Some v) None
imaginary_in _ = None

abbrev pub number_in : Terminal → Option Values.Value
number_in (Number v) = Some v
number_in _ = None

-- after ["-"] NUMBER: a sum has an imaginary number on its right alone
abbrev pub number_rest : Values.Value → Expr → List Terminal → Answer Expr
number_rest v e r =
    cond (is_imaginary v) (Found e r)
    (on_first (left_operator Sum) r (λ o r1. on_first imaginary_in r1 (λ w r2. Found (Trees.BinOp e o (Trees.Constant w)) r2) NoForm)
    (Found e r))

-- a Literal, if the list begins with one; else the other reader. `self` reads the fields of f-strings
abbrev pub literal_or : Reads → List Terminal → Answer Expr → Answer Expr
literal_or self (Number v ∷ r) other = number_rest v (Trees.Constant v) r
literal_or self (Literal v ∷ r) other = literals self v r
literal_or self (FormattedBegin ∷ r) other = joined_step self false [] r
literal_or self (Op Minus ∷ r) other = on_first number_in r (λ v r1. number_rest v (Trees.UnaryOp Un.USub (Trees.Constant v)) r1) NoForm
literal_or self r other = other

-- the NAMEs after points
abbrev pub dotted_loop : ℕ → ℕ → Expr → List Terminal → Answer Expr
dotted_loop d zero e r = Found e r
dotted_loop d (suc m) e r =
    on_first (is_op Dot) r
    (λ _ r1. on_first name_in r1 (λ x r2. and_then (cap_value d (Found (Trees.Attribute e x Load) r2)) (λ f r3. dotted_loop d m f r3))
    NoForm) (Found e r)

abbrev pub dotted_from : ℕ → Identifier → List Terminal → Answer Expr
dotted_from d x r = dotted_loop d (length r) (Trees.Name x Load) r

-- a Key names something by a point at least
abbrev pub named_key : Expr → List Terminal → Answer Expr
named_key (Trees.Name x c) r = NoForm
named_key e r = Found e r

abbrev pub read_key : ℕ → Reads → List Terminal → Answer Expr
read_key d self i = cap_value d
    (literal_or self i (on_first singleton_word i (λ v r. Found (Trees.Constant v) r)
    (on_first name_in i (λ x r. and_then (dotted_from d x r) named_key) NoForm)))

-- ---- Patterns. `self` reads expressions and `inner` patterns that stand in a pattern, with room d; `same` what is alone in brackets.

module _ (d : ℕ) (self : Reads) (inner : PatternReads) where
  abbrev pub read_entry : PatternItem → List Terminal → Answer PatternEntry
  read_entry Element i = and_then (inner StarPattern i) (λ p r. Found (Alone p) r)
  read_entry KeyPattern i =
      on_first (is_op DoubleStar) i (λ _ r. on_first name_in r (λ x r1. cond (is_wildcard x) NoForm (Found (Rest x) r1)) NoForm)
      (and_then (read_key d self i)
      (λ k r. on_first (is_op Colon) r (λ _ r1. and_then (inner AsPattern r1) (λ p r2. Found (Keyed k p) r2)) NoForm))
  read_entry ClassArgument i =
      on_name_with Equal i (λ x r. and_then (inner AsPattern r) (λ p r1. Found (Named x p) r1))
      (and_then (inner AsPattern i) (λ p r. Found (Alone p) r))

  -- X,.. [,] or nothing
  abbrev pub entries_loop : PatternItem → ℕ → List PatternEntry → List Terminal → Answer (List PatternEntry)
  entries_loop i zero acc r = Found acc r
  entries_loop i (suc m) acc r =
      cond (starts_entry i r) (and_then (read_entry i r) (λ e r1. on_first (is_op Comma) r1 (λ _ r2. entries_loop i m (acc ++ (e ∷ [])) r2)
      (Found (acc ++ (e ∷ [])) r1))) (Found acc r)

  abbrev pub entries_of : PatternItem → List Terminal → Answer (List PatternEntry)
  entries_of i r = entries_loop i (length r) [] r

  -- ClosedPattern,.. with `|` between
  abbrev pub alternatives_loop : ℕ → List Pattern → List Terminal → Answer (List Pattern)
  alternatives_loop zero acc r = Found acc r
  alternatives_loop (suc m) acc r =
      on_first (is_op VBar) r (λ _ r1. and_then (inner ClosedPattern r1) (λ p r2. alternatives_loop m (acc ++ (p ∷ [])) r2)) (Found acc r)

  -- a sequence, if a comma follows its first pattern
  abbrev pub sequence_or : Pattern → List Terminal → (List PatternEntry → List Terminal → Answer Pattern) → Answer Pattern → Answer Pattern
  sequence_or p r hit other = on_first (is_op Comma) r (λ _ r1. and_then (entries_of Element r1) hit) other

  -- after `(`: the first pattern may be the whole one
  abbrev pub round_pattern : PatternReads → List Terminal → Answer Pattern
  round_pattern same i =
      on_first (is_op RPar) i (λ _ r. Found (MatchSequence no_pattern) r)
      (and_then (same StarPattern i) (λ p r. sequence_or p r (λ es r1. closed RPar r1 (MatchSequence (a_pattern p (elements es))))
      (unstarred i (closed RPar r p))))

  -- after `[`, `{`, and the `(` of a class pattern
  abbrev pub square_pattern : List Terminal → Answer Pattern
  square_pattern i = and_then (entries_of Element i) (λ es r. closed RSqb r (MatchSequence (elements es)))

  abbrev pub mapping_pattern : List Terminal → Answer Pattern
  mapping_pattern i = and_then (entries_of KeyPattern i) (λ es r. on_first (is_op RBrace) r (λ _ r1. made (mapped es) r1) NoForm)

  abbrev pub class_arguments : Expr → List Terminal → Answer Pattern
  class_arguments e i = and_then (entries_of ClassArgument i) (λ es r. on_first (is_op RPar) r (λ _ r1. made (class_of e es) r1) NoForm)

  -- after a NAME that is no wildcard, and the NAMEs after points after it: a class pattern, a value or a capture
  abbrev pub dotted_pattern : Expr → List Terminal → Answer Pattern
  dotted_pattern (Trees.Name x c) r = on_first (is_op LPar) r (λ _ r1. class_arguments (Trees.Name x c) r1)
      (Found (MatchAs absent_pattern (Some x)) r)
  dotted_pattern e r = on_first (is_op LPar) r (λ _ r1. class_arguments e r1) (Found (MatchValue e) r)

  abbrev pub name_pattern : Identifier → List Terminal → Answer Pattern
  name_pattern x r = cond (is_wildcard x) (Found (MatchAs absent_pattern None) r) (and_then (dotted_from d x r) dotted_pattern)

  abbrev pub literal_pattern : List Terminal → Answer Pattern
  literal_pattern i = and_then (literal_or self i NoForm) (λ e r. Found (MatchValue e) r)

  abbrev pub closed_pattern : PatternReads → List Terminal → Answer Pattern
  closed_pattern same [] = NoForm
  closed_pattern same (Ident x ∷ r) = name_pattern x.form r
  closed_pattern same (Op LPar ∷ r) = round_pattern same r
  closed_pattern same (Op LSqb ∷ r) = square_pattern r
  closed_pattern same (Op LBrace ∷ r) = mapping_pattern r
  closed_pattern same (t ∷ r) = on_first singleton_word (t ∷ r) (λ v r1. Found (MatchSingleton v) r1) (literal_pattern (t ∷ r))

  -- `*` NAME
  abbrev pub star_pattern : List Terminal → Answer Pattern
  star_pattern r = on_first name_in r (λ x r1. Found (MatchStar (captured x)) r1) NoForm

  -- the levels, each over the one below; d is what `inner` has, so a pattern here may be one higher
  module _ (same : PatternReads) where
    abbrev pub read_closed : List Terminal → Answer Pattern
    read_closed i = cap_pattern (suc d) (closed_pattern same i)

    abbrev pub read_or : List Terminal → Answer Pattern
    read_or i = and_then (read_closed i)
        (λ p r. on_first (is_op VBar) r (λ _ _. and_then (alternatives_loop (length r) [] r)
        (λ ps r1. cap_pattern (suc d) (Found (MatchOr (patterns (p ∷ ps))) r1))) (Found p r))

    abbrev pub read_as_pattern : List Terminal → Answer Pattern
    read_as_pattern i = and_then (read_or i)
        (λ p r. on_first (is_word Key.As) r (λ _ r1. on_first name_in r1 (λ x r2. cap_pattern (suc d) (made (as_named p x) r2)) NoForm)
        (Found p r))

    abbrev pub read_star : List Terminal → Answer Pattern
    read_star i = on_first (is_op Star) i (λ _ r. star_pattern r) (read_as_pattern i)

    abbrev pub read_patterns : List Terminal → Answer Pattern
    read_patterns i = and_then (read_star i)
        (λ p r. sequence_or p r (λ es r1. cap_pattern (suc d) (Found (MatchSequence (a_pattern p (elements es))) r1))
        (unstarred i (Found p r)))

    abbrev pub pattern_step : PatternReads
    pattern_step Patterns i = read_patterns i
    pattern_step StarPattern i = read_star i
    pattern_step AsPattern i = read_as_pattern i
    pattern_step OrPattern i = read_or i
    pattern_step ClosedPattern i = read_closed i

-- with room d
abbrev pub capped_pattern : ℕ → ℕ → PatternReads
capped_pattern zero d l i = TooDeep
capped_pattern (suc g) zero l i = TooDeep
capped_pattern (suc g) (suc d) l i = pattern_step d (capped g d) (capped_pattern g d) (capped_pattern g (suc d)) l i

abbrev pub limited_pattern : ℕ → PatternReads
limited_pattern d l ts = capped_pattern (suc (length ts)) d l ts

-- up to height d: read with one level more of room, and checked last
abbrev pub limit_pattern : ℕ → PatternReads
limit_pattern d l ts = cap_pattern d (limited_pattern (suc d) l ts)
