-- Pieces of an expression that may stand in a field of an f-string: outside brackets they have no operator that ends it.
--
-- Carries: Shut, shut_both and 11 more, for Readable. On: Enclosures, Segments.
use Rattle.std.proofs.Common.{◌≡◌, Bool, true, false, List, [], ◌∷◌, ◌++◌, map, refl, sym, subst}
use Rattle.std.specs.Prelude.{cond}
use Rattle.pylex_lexeme.specs.declared.kinds.Exact.{Exact}
use Rattle.pylex_lexeme.specs.declared.kinds.Exact.TheVariants.{LPar, RPar, LSqb, RSqb, LBrace, RBrace, Less, Greater, Dot, EqEqual}
use Rattle.pylex_lexeme.specs.declared.kinds.Exact.TheVariants.{NotEqual}
use Rattle.pylex_lexeme.specs.declared.kinds.Exact.TheVariants.{LessEqual, GreaterEqual, Ellipsis}
use Rattle.pylex_lexeme.specs.Operators.{exact_of, exact_text, operators}
use Rattle.pytree_node.specs.declared.operators.Comparison.{Comparison}
use Rattle.pytree_node.specs.declared.operators.Comparison.TheVariants as Is
use Rattle.pytree_node.specs.declared.operators.Operator.{Operator}
use Rattle.pytree_node.specs.declared.operators.Operator.TheVariants as Bin
use Rattle.pytree_node.specs.declared.operators.UnaryOperator.{UnaryOperator}
use Rattle.pytree_node.specs.declared.operators.UnaryOperator.TheVariants as Un
use Rattle.pytree_node.specs.declared.operators.BoolOperator.{BoolOperator}
use Rattle.pytree_node.specs.declared.operators.BoolOperator.TheVariants as Join
use Rattle.pygrammar.specs.declared.levels.Level.{Level}
use Rattle.pygrammar.specs.declared.levels.Level.TheVariants.{Value, Named, Expression, Or, And, Not, Compare, BitOr, BitXor, BitAnd, Shift}
use Rattle.pygrammar.specs.declared.levels.Level.TheVariants.{Sum}
use Rattle.pygrammar.specs.declared.levels.Level.TheVariants.{Term, Factor, Power, Await, Primary, Atom, Slice}
use Rattle.pygrammar.specs.Operators.{below, chain_level}
use Rattle.pytoken.specs.declared.keywords.Keyword.{Keyword}
use Rattle.pytoken.specs.declared.keywords.Keyword.TheVariants as Key
use Rattle.pytoken.specs.Terminals.{Op, Word}
use Rattle.pyunparse_text.specs.Tokens.{opens, closes}
use Rattle.pyunparse_text.specs.Levels.{leads, reaches, left_level, right_level, operator_sign, unary_level, comparison_signs}
use Rattle.pyunparse_text.specs.Written.{separated, free, leading, tight, enclosed, bracketed, fit, unary}
use Rattle.pyunparse_text.specs.Pieces.{Sited, sited, piece}
use Rattle.pyunparse_text.proofs.FieldTexts.Conditions.{is_pair, ends_field}
use Rattle.pyunparse_text.proofs.FieldTexts.Enclosures.{Enclosed, Kept, enclosed_none, enclosed_one, enclosed_both, enclosed_kept}
use Rattle.pyunparse_text.proofs.FieldTexts.Enclosures.{kept_within}
use Rattle.pyunparse_text.proofs.PieceLaws.Places.{Depth, is_inside, at, at_both}
use Rattle.pyunparse_text.proofs.PieceLaws.Segments.{enclosed_at}

pub record Shut (d : Depth) (xs : List Sited) : Type 0 where
  pub is : Enclosed (at d xs)

-- within brackets
pub record Held (d : Depth) (xs : List Sited) : Type 0 where
  pub is : Kept (at d xs)

pub shut_none : {d : Depth} → Shut d []
shut_none = record { is = enclosed_none }

pub shut_both : {d : Depth} {xs ys : List Sited} → Shut d xs → Shut d ys → Shut d (xs ++ ys)
shut_both {d} {xs} {ys} x y = record { is = subst Enclosed (sym (at_both d xs ys)) (enclosed_both (at d xs) (at d ys) x.is y.is) }

pub shut_held : {d : Depth} {xs : List Sited} → Shut d xs → Held d xs
shut_held {d} {xs} x = record { is = enclosed_kept (at d xs) x.is }

pub shut_one : {d : Depth} (p : Sited) → opens (p (is_inside d)) ≡ false → closes (p (is_inside d)) ≡ false
    → ends_field (p (is_inside d)) ≡ false
    → Shut d (p ∷ [])
shut_one {d} p o c e = record { is = enclosed_one (p (is_inside d)) o c e }

pub shut_within : {d : Depth} {xs : List Sited} (o s : Exact) (h : Bool) → opens (sited (Op o) h true (is_inside d)) ≡ true
    → opens (sited (Op s) true false (is_inside d)) ≡ false
    → closes (sited (Op s) true false (is_inside d)) ≡ true → is_pair (exact_text o) (exact_text s) ≡ true → Held d xs
    → Shut d (enclosed piece (sited (Op o) h true) s xs)
shut_within {d} {xs} o s h i j k m x = record {
  is =
      enclosed_at d (sited (Op o) h true) (sited (Op s) true false) xs Enclosed (kept_within (sited (Op o) h true (is_inside d))
      (sited (Op s) true false (is_inside d)) (at d xs) i j k m x.is);
}

-- the three kinds of brackets
pub shut_group : {d : Depth} {xs : List Sited} → Held d xs → Shut d (bracketed piece xs)
unfolding exact_of operators
shut_group x = shut_within LPar RPar false refl refl refl refl x

pub shut_square : {d : Depth} {xs : List Sited} → Held d xs → Shut d (enclosed piece (leading piece LSqb) RSqb xs)
unfolding exact_of operators
shut_square x = shut_within LSqb RSqb false refl refl refl refl x

pub shut_braces : {d : Depth} {xs : List Sited} → Held d xs → Shut d (enclosed piece (leading piece LBrace) RBrace xs)
unfolding exact_of operators
shut_braces x = shut_within LBrace RBrace false refl refl refl refl x

pub shut_called : {d : Depth} {xs : List Sited} → Held d xs → Shut d (enclosed piece (tight piece LPar) RPar xs)
unfolding exact_of operators
shut_called x = shut_within LPar RPar true refl refl refl refl x

pub shut_indexed : {d : Depth} {xs : List Sited} → Held d xs → Shut d (enclosed piece (tight piece LSqb) RSqb xs)
unfolding exact_of operators
shut_indexed x = shut_within LSqb RSqb true refl refl refl refl x

-- ---- At the levels of operands.

abbrev pub is_operand : Level → Bool
is_operand Or = true
is_operand And = true
is_operand Not = true
is_operand Compare = true
is_operand BitOr = true
is_operand BitXor = true
is_operand BitAnd = true
is_operand Shift = true
is_operand Sum = true
is_operand Term = true
is_operand Factor = true
is_operand Power = true
is_operand Await = true
is_operand Primary = true
is_operand Atom = true
is_operand _ = false

pub shut_fit : {d : Depth} {xs : List Sited} (l k : Level) → Shut d xs → Shut d (fit piece l k xs)
unfolding fit
shut_fit {d} {xs} l k x = by (reaches l k)
  where
    by : (b : Bool) → Shut d (cond b xs (bracketed piece xs))
    by true = x
    by false = shut_group (shut_held x)

-- forms that stand there in brackets alone
abbrev pub is_outer : Level → Bool
is_outer Value = true
is_outer Named = true
is_outer Expression = true
is_outer Slice = true
is_outer _ = false

record Far (l : Level) : Type 0 where
  value : reaches l Value ≡ false
  named : reaches l Named ≡ false
  expression : reaches l Expression ≡ false
  slice : reaches l Slice ≡ false

far : (l : Level) → is_operand l ≡ true → Far l
unfolding reaches leads
far Or o = record { value = refl; named = refl; expression = refl; slice = refl }
far And o = record { value = refl; named = refl; expression = refl; slice = refl }
far Not o = record { value = refl; named = refl; expression = refl; slice = refl }
far Compare o = record { value = refl; named = refl; expression = refl; slice = refl }
far BitOr o = record { value = refl; named = refl; expression = refl; slice = refl }
far BitXor o = record { value = refl; named = refl; expression = refl; slice = refl }
far BitAnd o = record { value = refl; named = refl; expression = refl; slice = refl }
far Shift o = record { value = refl; named = refl; expression = refl; slice = refl }
far Sum o = record { value = refl; named = refl; expression = refl; slice = refl }
far Term o = record { value = refl; named = refl; expression = refl; slice = refl }
far Factor o = record { value = refl; named = refl; expression = refl; slice = refl }
far Power o = record { value = refl; named = refl; expression = refl; slice = refl }
far Await o = record { value = refl; named = refl; expression = refl; slice = refl }
far Primary o = record { value = refl; named = refl; expression = refl; slice = refl }
far Atom o = record { value = refl; named = refl; expression = refl; slice = refl }
far _ o = absurd (cc)

outer_far : (l k : Level) → is_operand l ≡ true → is_outer k ≡ true → reaches l k ≡ false
outer_far l Value o u = (far l o).value
outer_far l Named o u = (far l o).named
outer_far l Expression o u = (far l o).expression
outer_far l Slice o u = (far l o).slice
outer_far l _ o u = absurd (cc)

pub shut_outer : {d : Depth} {xs : List Sited} (l k : Level) → is_operand l ≡ true → is_outer k ≡ true → Held d xs
    → Shut d (fit piece l k xs)
unfolding fit
shut_outer {d} {xs} l k o u x = by (reaches l k) (outer_far l k o u)
  where
    by : (b : Bool) → b ≡ false → Shut d (cond b xs (bracketed piece xs))
    by true e = absurd (cc)
    by false e = shut_group x

pub below_operand : (o : BoolOperator) → is_operand (below (chain_level o)) ≡ true
below_operand Join.And = refl
below_operand Join.Or = refl

pub unary_operand : (o : UnaryOperator) → is_operand (unary_level o) ≡ true
unary_operand Un.Not = refl
unary_operand _ = refl

pub left_operand : (o : Operator) → is_operand (left_level o) ≡ true
left_operand Bin.Add = refl
left_operand Bin.Sub = refl
left_operand Bin.Mult = refl
left_operand Bin.MatMult = refl
left_operand Bin.Div = refl
left_operand Bin.Mod = refl
left_operand Bin.Pow = refl
left_operand Bin.LShift = refl
left_operand Bin.RShift = refl
left_operand Bin.BitOr = refl
left_operand Bin.BitXor = refl
left_operand Bin.BitAnd = refl
left_operand Bin.FloorDiv = refl

pub right_operand : (o : Operator) → is_operand (right_level o) ≡ true
right_operand Bin.Add = refl
right_operand Bin.Sub = refl
right_operand Bin.Mult = refl
right_operand Bin.MatMult = refl
right_operand Bin.Div = refl
right_operand Bin.Mod = refl
right_operand Bin.Pow = refl
right_operand Bin.LShift = refl
right_operand Bin.RShift = refl
right_operand Bin.BitOr = refl
right_operand Bin.BitXor = refl
right_operand Bin.BitAnd = refl
right_operand Bin.FloorDiv = refl

-- ---- Lists with a piece between each two.

pub data AllShut (d : Depth) : List (List Sited) → Type 0 where
  none : AllShut d []
  also : {xs : List Sited} {xss : List (List Sited)} → Shut d xs → AllShut d xss → AllShut d (xs ∷ xss)

pub shut_separated : {d : Depth} {xs : List Sited} {xss : List (List Sited)} {p : Sited} → Shut d (p ∷ []) → Shut d xs → AllShut d xss
    → Shut d (separated p (xs ∷ xss))
shut_separated p x none = x
shut_separated p x (also y ys) = shut_both x (shut_both p (shut_separated p y ys))

-- ---- Operators.

pub shut_word : {d : Depth} (k : Keyword) → Shut d (free piece (Word k) ∷ [])
shut_word k = shut_one (free piece (Word k)) refl refl refl

pub shut_unary : {d : Depth} (o : UnaryOperator) → Shut d (unary piece o ∷ [])
unfolding exact_of operators
shut_unary Un.Not = shut_one (unary piece Un.Not) refl refl refl
shut_unary Un.UAdd = shut_one (unary piece Un.UAdd) refl refl refl
shut_unary Un.USub = shut_one (unary piece Un.USub) refl refl refl
shut_unary Un.Invert = shut_one (unary piece Un.Invert) refl refl refl

pub shut_binary : {d : Depth} (o : Operator) → Shut d (free piece (operator_sign o) ∷ [])
unfolding exact_of operators
shut_binary Bin.Add = shut_one (free piece (operator_sign Bin.Add)) refl refl refl
shut_binary Bin.Sub = shut_one (free piece (operator_sign Bin.Sub)) refl refl refl
shut_binary Bin.Mult = shut_one (free piece (operator_sign Bin.Mult)) refl refl refl
shut_binary Bin.MatMult = shut_one (free piece (operator_sign Bin.MatMult)) refl refl refl
shut_binary Bin.Div = shut_one (free piece (operator_sign Bin.Div)) refl refl refl
shut_binary Bin.Mod = shut_one (free piece (operator_sign Bin.Mod)) refl refl refl
shut_binary Bin.Pow = shut_one (free piece (operator_sign Bin.Pow)) refl refl refl
shut_binary Bin.LShift = shut_one (free piece (operator_sign Bin.LShift)) refl refl refl
shut_binary Bin.RShift = shut_one (free piece (operator_sign Bin.RShift)) refl refl refl
shut_binary Bin.BitOr = shut_one (free piece (operator_sign Bin.BitOr)) refl refl refl
shut_binary Bin.BitXor = shut_one (free piece (operator_sign Bin.BitXor)) refl refl refl
shut_binary Bin.BitAnd = shut_one (free piece (operator_sign Bin.BitAnd)) refl refl refl
shut_binary Bin.FloorDiv = shut_one (free piece (operator_sign Bin.FloorDiv)) refl refl refl

pub shut_signs : {d : Depth} (o : Comparison) → Shut d (map (free piece) (comparison_signs o))
unfolding exact_of operators
shut_signs Is.IsNot = shut_both (shut_word Key.Is) (shut_word Key.Not)
shut_signs Is.NotIn = shut_both (shut_word Key.Not) (shut_word Key.In)
shut_signs Is.Is = shut_word Key.Is
shut_signs Is.Within = shut_word Key.In
shut_signs Is.Eq = shut_one (free piece (Op EqEqual)) refl refl refl
shut_signs Is.NotEq = shut_one (free piece (Op NotEqual)) refl refl refl
shut_signs Is.Lt = shut_one (free piece (Op Less)) refl refl refl
shut_signs Is.LtE = shut_one (free piece (Op LessEqual)) refl refl refl
shut_signs Is.Gt = shut_one (free piece (Op Greater)) refl refl refl
shut_signs Is.GtE = shut_one (free piece (Op GreaterEqual)) refl refl refl

pub shut_point : {d : Depth} → Shut d (tight piece Dot ∷ [])
unfolding exact_of operators
shut_point = shut_one (tight piece Dot) refl refl refl

pub shut_ellipsis : {d : Depth} → Shut d (free piece (Op Ellipsis) ∷ [])
unfolding exact_of operators
shut_ellipsis = shut_one (free piece (Op Ellipsis)) refl refl refl
