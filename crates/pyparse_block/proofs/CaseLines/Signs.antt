-- The operators, comparisons, constants and literals open and close nothing.
--
-- Carries: no_some, left_plain, prefix_plain, chain_plain, compared, constant_plain, augmented_plain, literals, for Expressions, Patterns,
-- Trailers, Statements. On: Machine.
use Rattle.std.proofs.Common.{◌≡◌, refl, List, [], ◌∷◌, map, Option, Some, None}
use Rattle.pylex_lexeme.specs.declared.kinds.Exact.{Exact}
use Rattle.pylex_lexeme.specs.declared.kinds.Exact.TheVariants as Sign
use Rattle.pytoken.specs.declared.keywords.Keyword.TheVariants as Key
use Rattle.pytree_node.specs.declared.operators.Operator.{Operator}
use Rattle.pytree_node.specs.declared.operators.UnaryOperator.{UnaryOperator}
use Rattle.pytree_node.specs.declared.operators.BoolOperator.{BoolOperator}
use Rattle.pytree_node.specs.declared.operators.BoolOperator.TheVariants as Join
use Rattle.pytree_node.specs.declared.operators.Comparison.{Comparison}
use Rattle.pygrammar.specs.declared.levels.Level.{Level}
use Rattle.pygrammar.specs.declared.levels.Level.TheVariants.{Not, BitOr, BitXor, BitAnd, Shift, Sum, Term, Factor}
use Rattle.pytree_node.specs.Values
use Rattle.pytoken.specs.Terminals.{Terminal, Op, Word, Literal}
use Rattle.pygrammar.specs.Operators.{left_operator, prefix_operator, chain_word, comparison}
use Rattle.pygrammar.specs.Constants.{constant_word}
use Rattle.pygrammar.specs.Grammar as G
use Rattle.pygrammar.specs.Forms.{augmented}
use Rattle.pyparse_block.proofs.CaseLines.Machine.{Open, plain, act, Takes, none, neutral}

pub no_some : {A C : Type 0} {a : A} → ◌≡◌ {A = Option A} None (Some a) → C
no_some h = absurd (cc)

pub left_plain : (l : Level) (t : Terminal) {o : Operator} → left_operator l t ≡ Some o → act t ≡ plain
left_plain BitOr (Op Sign.VBar) h = refl
left_plain BitXor (Op Sign.Circumflex) h = refl
left_plain BitAnd (Op Sign.Amper) h = refl
left_plain Shift (Op Sign.LeftShift) h = refl
left_plain Shift (Op Sign.RightShift) h = refl
left_plain Sum (Op Sign.Plus) h = refl
left_plain Sum (Op Sign.Minus) h = refl
left_plain Term (Op Sign.Star) h = refl
left_plain Term (Op Sign.Slash) h = refl
left_plain Term (Op Sign.DoubleSlash) h = refl
left_plain Term (Op Sign.Percent) h = refl
left_plain Term (Op Sign.At) h = refl
left_plain _ _ h = no_some h

pub prefix_plain : (l : Level) (t : Terminal) {o : UnaryOperator} → prefix_operator l t ≡ Some o → act t ≡ plain
prefix_plain Not (Word Key.Not) h = refl
prefix_plain Factor (Op Sign.Plus) h = refl
prefix_plain Factor (Op Sign.Minus) h = refl
prefix_plain Factor (Op Sign.Tilde) h = refl
prefix_plain _ _ h = no_some h

pub chain_plain : (o : BoolOperator) → act (Word (chain_word o)) ≡ plain
chain_plain Join.And = refl
chain_plain Join.Or = refl

comparison_plain : (t : Terminal) {o : Comparison} → comparison t ≡ Some o → act t ≡ plain
comparison_plain (Op Sign.EqEqual) h = refl
comparison_plain (Op Sign.NotEqual) h = refl
comparison_plain (Op Sign.Less) h = refl
comparison_plain (Op Sign.LessEqual) h = refl
comparison_plain (Op Sign.Greater) h = refl
comparison_plain (Op Sign.GreaterEqual) h = refl
comparison_plain (Word Key.In) h = refl
comparison_plain _ h = no_some h

pub compared : {s : List Open} {ts : List Terminal} {o : Comparison} → G.Compared ts o → Takes s s ts
compared (G.one_sign {t = t} h) = neutral t (comparison_plain t h) none
compared G.not_in = neutral (Word Key.Not) refl (neutral (Word Key.In) refl none)
compared G.is = neutral (Word Key.Is) refl none
compared G.is_not = neutral (Word Key.Is) refl (neutral (Word Key.Not) refl none)

pub constant_plain : (t : Terminal) {v : Values.Value} → constant_word t ≡ Some v → act t ≡ plain
constant_plain (Word Key.None) h = refl
constant_plain (Word Key.True) h = refl
constant_plain (Word Key.False) h = refl
constant_plain (Op Sign.Ellipsis) h = refl
constant_plain _ h = no_some h

pub augmented_plain : (x : Exact) {o : Operator} → augmented x ≡ Some o → act (Op x) ≡ plain
augmented_plain Sign.LPar h = no_some h
augmented_plain Sign.LSqb h = no_some h
augmented_plain Sign.LBrace h = no_some h
augmented_plain Sign.RPar h = no_some h
augmented_plain Sign.RSqb h = no_some h
augmented_plain Sign.RBrace h = no_some h
augmented_plain Sign.Colon h = no_some h
augmented_plain Sign.Semi h = no_some h
augmented_plain _ h = refl

pub literals : {s : List Open} (vs : List Values.Value) → Takes s s (map Literal vs)
literals [] = none
literals (v ∷ vs) = neutral (Literal v) refl (literals vs)
