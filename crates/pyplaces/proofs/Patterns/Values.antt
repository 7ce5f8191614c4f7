-- The values of patterns: literals, names with points, keys.
--
-- Carries: read_number and what it calls, dotted, read_key, dotted_key. On: Fronts.
use Rattle.std.proofs.Common.{◌≡◌, refl, ℕ, ◌+◌, arith, List, [], ◌∷◌, ◌++◌, Some, true, false}
use Rattle.pylex_lexeme.specs.declared.kinds.Exact.TheVariants.{Dot, Minus}
use Rattle.pytree_node.specs.declared.operators.Operator.{Operator}
use Rattle.pytree_node.specs.declared.operators.UnaryOperator.TheVariants as Un
use Rattle.pytree_node.specs.declared.operators.Context.TheVariants.{Load}
use Rattle.pygrammar.specs.declared.levels.Level.TheVariants.{Sum}
use Rattle.pytree_node.specs.Trees
use Rattle.pytree_node.specs.Trees.{Expr, Identifier}
use Rattle.pytree_node.specs.Values
use Rattle.pytoken.specs.Terminals.{Terminal, Spelled, Op, Ident, Number}
use Rattle.pygrammar.specs.Operators.{left_operator}
use Rattle.pygrammar.specs.PatternOperators.{is_imaginary, is_wildcard, singleton_word}
use Rattle.pygrammar.specs.PatternGrammar as P
use Rattle.pyplaces.specs.Stretches.{Stretch, stretch}
use Rattle.pyplaces.specs.PlacedPatterns.{PlacedNumber, PlacedLiteral, PlacedDotted, PlacedClass, PlacedKey}
use Rattle.pyplaces.proofs.Fronts.{nothing, sign, both, front_of, built, ◌⊕◌, own, reaches}

-- ---- Literals.
pub placed_unsigned : {i r : List Terminal} {at : ℕ} {y : Values.Value} → i ≡ Number y ∷ r
    → PlacedNumber y i at (Trees.Constant y) r (at + 1) (stretch at (at + 1) ∷ [])
placed_unsigned h = built (sign h nothing) P.unsigned refl

pub placed_negative : {i r s : List Terminal} {at : ℕ} {y : Values.Value} → i ≡ Op Minus ∷ r → r ≡ Number y ∷ s
    → PlacedNumber y i at (Trees.UnaryOp Un.USub (Trees.Constant y)) s (at + 1 + 1)
    (stretch (at + 1) (at + 1 + 1) ∷ (stretch at (at + 1 + 1) ∷ []))
placed_negative h k = built (sign h (sign k nothing)) P.negative (reaches (omega arith) (omega arith) ⊕ own (omega arith))

pub placed_number : {i r : List Terminal} {at following : ℕ} {e : Expr} {y : Values.Value} {ps : List Stretch}
    → PlacedNumber y i at e r following ps → PlacedLiteral i at e r following ps
placed_number p = built (front_of p) (P.number p.derived) p.places_are

pub placed_complex : {t : Terminal} {o : Operator} {i r s u : List Terminal} {at m : ℕ} {a : Expr} {y z : Values.Value} {ps : List Stretch}
    → PlacedNumber y i at a r m ps → is_imaginary y ≡ false → left_operator Sum t ≡ Some o → r ≡ t ∷ s → s ≡ Number z ∷ u
    → is_imaginary z ≡ true → PlacedLiteral i at (Trees.BinOp a o (Trees.Constant z)) u (m + 1 + 1)
    (ps ++ (stretch (m + 1) (m + 1 + 1) ∷ (stretch at (m + 1 + 1) ∷ [])))
placed_complex {t = t} p a b h k c = built (both (front_of p) (sign h (sign k nothing))) (P.complex t p.derived a b c)
    (p.places_are ⊕ reaches (omega (arith, p.ends)) (omega (arith, p.ends)) ⊕ own (omega (arith, p.ends)))

-- ---- Names with points, classes and keys.
pub placed_first_name : {x : Spelled} {i r : List Terminal} {at : ℕ} → i ≡ Ident x ∷ r
    → PlacedDotted x.form i at (Trees.Name x.form Load) r (at + 1) (stretch at (at + 1) ∷ [])
placed_first_name h = built (sign h nothing) P.first_name refl

pub placed_dot_name : {x : Spelled} {i r s u : List Terminal} {at m : ℕ} {e : Expr} {ps : List Stretch} {f : Identifier}
    → PlacedDotted f i at e r m ps → r ≡ Op Dot ∷ s → s ≡ Ident x ∷ u
    → PlacedDotted f i at (Trees.Attribute e x.form Load) u (m + 1 + 1) (ps ++ (stretch at (m + 1 + 1) ∷ []))
placed_dot_name {x = x} p h k = built (both (front_of p) (sign h (sign k nothing))) (P.dot_name x p.derived)
    (p.places_are ⊕ own (omega (arith, p.ends)))

pub placed_class : {i r : List Terminal} {at following : ℕ} {e : Expr} {ps : List Stretch} {f : Identifier} → PlacedDotted f i at e r following ps
    → is_wildcard f ≡ false → PlacedClass i at e r following ps
placed_class p h = built (front_of p) (P.class_name p.derived h) p.places_are

pub placed_literal_key : {i r : List Terminal} {at following : ℕ} {e : Expr} {ps : List Stretch} → PlacedLiteral i at e r following ps
    → PlacedKey i at e r following ps
placed_literal_key p = built (front_of p) (P.literal_key p.derived) p.places_are

pub placed_singleton_key : {t : Terminal} {i r : List Terminal} {at : ℕ} {y : Values.Value} → singleton_word t ≡ Some y → i ≡ t ∷ r
    → PlacedKey i at (Trees.Constant y) r (at + 1) (stretch at (at + 1) ∷ [])
placed_singleton_key q h = built (sign h nothing) (P.singleton_key q) refl
