-- Which lists of terminals give which patterns: the table of the grammar, a constructor for each alternative (language reference, 8.6.4 and
-- 10).
use Rattle.std.specs.Prelude.{◌≡◌, Bool, List, [], ◌∷◌, ◌++◌, map, Some, true, false}
use Rattle.pylex_lexeme.specs.declared.kinds.Exact.TheVariants.{LPar, RPar, LSqb, RSqb, LBrace, RBrace, Colon, Comma, Star, Equal, Dot}
use Rattle.pylex_lexeme.specs.declared.kinds.Exact.TheVariants.{DoubleStar, Minus, VBar}
use Rattle.pytoken.specs.declared.keywords.Keyword.TheVariants as Key
use Rattle.pytree_node.specs.declared.operators.Operator.{Operator}
use Rattle.pytree_node.specs.declared.operators.UnaryOperator.TheVariants as Un
use Rattle.pytree_node.specs.declared.operators.Context.TheVariants.{Load}
use Rattle.pygrammar.specs.declared.levels.Level.TheVariants.{Sum}
use Rattle.pygrammar.specs.declared.pattern_levels.PatternLevel.{PatternLevel}
use Rattle.pygrammar.specs.declared.pattern_levels.PatternLevel.TheVariants.{Patterns, StarPattern, AsPattern, OrPattern, ClosedPattern}
use Rattle.pytree_node.specs.Trees
use Rattle.pytree_node.specs.Trees.{Expr, Identifier, Pattern, MatchValue, MatchSingleton, MatchSequence, MatchStar, MatchAs, MatchOr}
use Rattle.pytree_node.specs.Trees.{no_pattern, a_pattern, absent_pattern, patterns}
use Rattle.pytree_node.specs.Values
use Rattle.pytoken.specs.Terminals.{Terminal, Spelled, Op, Word, Ident, Number, Literal}
use Rattle.pygrammar.specs.Constants.{joined}
use Rattle.pygrammar.specs.FormattedStrings.{StringPart, merged, values_of, begins_unicode, has_formatted}
use Rattle.pygrammar.specs.Grammar.{Literals}
use Rattle.pygrammar.specs.Operators.{left_operator}
use Rattle.pygrammar.specs.PatternOperators.{below_pattern, captured, is_imaginary, is_wildcard, singleton_word}
use Rattle.pygrammar.specs.PatternEntries.{PatternItem, Element, KeyPattern, ClassArgument, PatternEntry, Alone, Keyed, Rest, Named}
use Rattle.pygrammar.specs.PatternEntries.{elements, mapped, class_of, as_named}

-- ---- Values.

-- ["-"] NUMBER, with what the NUMBER stands for
pub data SignedNumber : Values.Value → List Terminal → Expr → Type 0 where
  unsigned : {v : Values.Value} → SignedNumber v (Number v ∷ []) (Trees.Constant v)
  negative : {v : Values.Value} → SignedNumber v (Op Minus ∷ (Number v ∷ [])) (Trees.UnaryOp Un.USub (Trees.Constant v))

-- Literal = ["-"] NUMBER | Real ("+" | "-") Imaginary | (STRING | f_string)+
pub data LiteralOf : List Terminal → Expr → Type 0 where
  number : {v : Values.Value} {ts : List Terminal} {e : Expr} → SignedNumber v ts e → LiteralOf ts e
  complex : {v w : Values.Value} {ts : List Terminal} {a : Expr} {o : Operator} (t : Terminal)
      → SignedNumber v ts a → is_imaginary v ≡ false → left_operator Sum t ≡ Some o → is_imaginary w ≡ true
      → LiteralOf (ts ++ (t ∷ (Number w ∷ []))) (Trees.BinOp a o (Trees.Constant w))
  strings : {v w : Values.Value} (vs : List Values.Value)
      → joined v vs ≡ Some w
      → LiteralOf (Literal v ∷ map Literal vs) (Trees.Constant w)
  joined_string : {u : Bool} {ts : List Terminal} {ps : List StringPart}
      → Literals u ts ps → begins_unicode ts ≡ u → has_formatted ts ≡ true
      → LiteralOf ts (Trees.JoinedStr (values_of u (merged ps)))

-- Dotted = NAME | Dotted "." NAME, with the form of its first NAME
pub data Dotted : Identifier → List Terminal → Expr → Type 0 where
  first_name : {x : Spelled} → Dotted x.form (Ident x ∷ []) (Trees.Name x.form Load)
  dot_name : {f : Identifier} {ts : List Terminal} {e : Expr} (x : Spelled)
      → Dotted f ts e
      → Dotted f (ts ++ (Op Dot ∷ (Ident x ∷ []))) (Trees.Attribute e x.form Load)

-- Class = Capture | Class "." NAME
pub data ClassOf : List Terminal → Expr → Type 0 where
  class_name : {f : Identifier} {ts : List Terminal} {e : Expr} → Dotted f ts e → is_wildcard f ≡ false → ClassOf ts e

-- Key = Literal | Singleton | Dotted "." NAME
pub data KeyOf : List Terminal → Expr → Type 0 where
  literal_key : {ts : List Terminal} {e : Expr} → LiteralOf ts e → KeyOf ts e
  singleton_key : {t : Terminal} {v : Values.Value} → singleton_word t ≡ Some v → KeyOf (t ∷ []) (Trees.Constant v)
  name_key : {f : Identifier} {ts : List Terminal} {e : Expr} (x : Spelled)
      → Dotted f ts e
      → KeyOf (ts ++ (Op Dot ∷ (Ident x ∷ []))) (Trees.Attribute e x.form Load)

-- ---- Patterns.

mutual
  pub data DerivesPattern : PatternLevel → List Terminal → Pattern → Type 0 where
    -- the last alternative of each line but ClosedPattern: the next level
    next : {l : PatternLevel} {ts : List Terminal} {p : Pattern} → DerivesPattern (below_pattern l) ts p → DerivesPattern l ts p
    -- Patterns = StarPattern "," | StarPattern ("," StarPattern)+ [,]
    open_sequence : {ts us : List Terminal} {p : Pattern} {es : List PatternEntry}
        → DerivesPattern StarPattern ts p → PatternListing Element us es
        → DerivesPattern Patterns (ts ++ (Op Comma ∷ us)) (MatchSequence (a_pattern p (elements es)))
    -- StarPattern = "*" Wildcard | "*" Capture
    star : {x : Spelled} → DerivesPattern StarPattern (Op Star ∷ (Ident x ∷ [])) (MatchStar (captured x.form))
    -- AsPattern = OrPattern "as" Capture
    as_name : {ts : List Terminal} {p q : Pattern} (x : Spelled)
        → DerivesPattern OrPattern ts p → as_named p x.form ≡ Some q
        → DerivesPattern AsPattern (ts ++ (Word Key.As ∷ (Ident x ∷ []))) q
    -- OrPattern = ClosedPattern ("|" ClosedPattern)+
    alternatives : {ts us : List Terminal} {p : Pattern} {ps : List Pattern}
        → DerivesPattern ClosedPattern ts p → Alternatives us ps
        → DerivesPattern OrPattern (ts ++ (Op VBar ∷ us)) (MatchOr (patterns (p ∷ ps)))
    -- ClosedPattern = Literal
    literal : {ts : List Terminal} {e : Expr} → LiteralOf ts e → DerivesPattern ClosedPattern ts (MatchValue e)
    -- ClosedPattern = Singleton
    singleton : {t : Terminal} {v : Values.Value} → singleton_word t ≡ Some v → DerivesPattern ClosedPattern (t ∷ []) (MatchSingleton v)
    -- ClosedPattern = Wildcard | Capture
    capture : {x : Spelled} → DerivesPattern ClosedPattern (Ident x ∷ []) (MatchAs absent_pattern (captured x.form))
    -- ClosedPattern = Class "." NAME
    value : {ts : List Terminal} {e : Expr} (x : Spelled)
        → ClassOf ts e
        → DerivesPattern ClosedPattern (ts ++ (Op Dot ∷ (Ident x ∷ []))) (MatchValue (Trees.Attribute e x.form Load))
    -- ClosedPattern = "(" AsPattern ")": no node of its own
    group : {ts : List Terminal} {p : Pattern}
        → DerivesPattern AsPattern ts p
        → DerivesPattern ClosedPattern (Op LPar ∷ (ts ++ (Op RPar ∷ []))) p
    -- ClosedPattern = "(" ")"
    empty_sequence : DerivesPattern ClosedPattern (Op LPar ∷ (Op RPar ∷ [])) (MatchSequence no_pattern)
    -- ClosedPattern = "(" StarPattern "," ")" | "(" StarPattern ("," StarPattern)+ [,] ")"
    round_sequence : {ts us : List Terminal} {p : Pattern} {es : List PatternEntry}
        → DerivesPattern StarPattern ts p → PatternListing Element us es
        → DerivesPattern ClosedPattern (Op LPar ∷ (ts ++ (Op Comma ∷ (us ++ (Op RPar ∷ []))))) (MatchSequence (a_pattern p (elements es)))
    -- ClosedPattern = "[" "]" | "[" StarPattern,.. [,] "]"
    square_sequence : {ts : List Terminal} {es : List PatternEntry}
        → PatternListing Element ts es
        → DerivesPattern ClosedPattern (Op LSqb ∷ (ts ++ (Op RSqb ∷ []))) (MatchSequence (elements es))
    -- ClosedPattern = "{" "}" | "{" KeyPattern,.. [,] "}" | "{" "**" Capture [,] "}" | "{" KeyPattern,.. "," "**" Capture [,] "}"
    mapping : {ts : List Terminal} {es : List PatternEntry} {p : Pattern}
        → PatternListing KeyPattern ts es → mapped es ≡ Some p
        → DerivesPattern ClosedPattern (Op LBrace ∷ (ts ++ (Op RBrace ∷ []))) p
    -- ClosedPattern = Class "(" ")" | Class "(" Argument,.. [,] ")"
    class_pattern : {ts us : List Terminal} {e : Expr} {es : List PatternEntry} {p : Pattern}
        → ClassOf ts e → PatternListing ClassArgument us es → class_of e es ≡ Some p
        → DerivesPattern ClosedPattern (ts ++ (Op LPar ∷ (us ++ (Op RPar ∷ [])))) p

  -- ClosedPattern ("|" ClosedPattern)*, after a `|`
  pub data Alternatives : List Terminal → List Pattern → Type 0 where
    last_alternative : {ts : List Terminal} {p : Pattern} → DerivesPattern ClosedPattern ts p → Alternatives ts (p ∷ [])
    alternative : {ts us : List Terminal} {p : Pattern} {ps : List Pattern}
        → DerivesPattern ClosedPattern ts p → Alternatives us ps
        → Alternatives (ts ++ (Op VBar ∷ us)) (p ∷ ps)

  -- X,.. [,] or nothing
  pub data PatternListing : PatternItem → List Terminal → List PatternEntry → Type 0 where
    no_entry : {i : PatternItem} → PatternListing i [] []
    last_entry : {i : PatternItem} {ts : List Terminal} {e : PatternEntry} → PatternPiece i ts e → PatternListing i ts (e ∷ [])
    entry : {i : PatternItem} {ts us : List Terminal} {e : PatternEntry} {es : List PatternEntry}
        → PatternPiece i ts e → PatternListing i us es
        → PatternListing i (ts ++ (Op Comma ∷ us)) (e ∷ es)

  -- X
  pub data PatternPiece : PatternItem → List Terminal → PatternEntry → Type 0 where
    -- StarPattern
    element : {ts : List Terminal} {p : Pattern} → DerivesPattern StarPattern ts p → PatternPiece Element ts (Alone p)
    -- KeyPattern = Key ":" AsPattern
    key_pattern : {ts us : List Terminal} {k : Expr} {p : Pattern}
        → KeyOf ts k → DerivesPattern AsPattern us p
        → PatternPiece KeyPattern (ts ++ (Op Colon ∷ us)) (Keyed k p)
    -- "**" Capture
    rest : {x : Spelled} → is_wildcard x.form ≡ false → PatternPiece KeyPattern (Op DoubleStar ∷ (Ident x ∷ [])) (Rest x.form)
    -- Argument = AsPattern
    argument : {ts : List Terminal} {p : Pattern} → DerivesPattern AsPattern ts p → PatternPiece ClassArgument ts (Alone p)
    -- Argument = NAME "=" AsPattern
    named_argument : {x : Spelled} {ts : List Terminal} {p : Pattern}
        → DerivesPattern AsPattern ts p
        → PatternPiece ClassArgument (Ident x ∷ (Op Equal ∷ ts)) (Named x.form p)
