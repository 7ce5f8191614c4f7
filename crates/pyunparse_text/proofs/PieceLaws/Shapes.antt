-- Carries: the laws of pieces. On: the forms of expressions, each from its parts.
use Rattle.std.proofs.Common.{true, false, List, [], ◌∷◌, ◌++◌, map, refl}
use Rattle.pylex_lexeme.specs.declared.kinds.Exact.TheVariants.{Colon, Plus, Minus, Star, Slash, VBar, Amper, Less, Greater, Equal, Dot}
use Rattle.pylex_lexeme.specs.declared.kinds.Exact.TheVariants.{Percent}
use Rattle.pylex_lexeme.specs.declared.kinds.Exact.TheVariants.{EqEqual, NotEqual, LessEqual, GreaterEqual, Tilde, Circumflex, LeftShift}
use Rattle.pylex_lexeme.specs.declared.kinds.Exact.TheVariants.{RightShift}
use Rattle.pylex_lexeme.specs.declared.kinds.Exact.TheVariants.{DoubleStar, DoubleSlash, At, ColonEqual}
use Rattle.pytoken.specs.declared.keywords.Keyword.{Keyword}
use Rattle.pytoken.specs.declared.keywords.Keyword.TheVariants as Key
use Rattle.pytree_node.specs.declared.operators.Operator.{Operator}
use Rattle.pytree_node.specs.declared.operators.Operator.TheVariants as Bin
use Rattle.pytree_node.specs.declared.operators.UnaryOperator.{UnaryOperator}
use Rattle.pytree_node.specs.declared.operators.UnaryOperator.TheVariants as Un
use Rattle.pytree_node.specs.declared.operators.BoolOperator.{BoolOperator}
use Rattle.pytree_node.specs.declared.operators.BoolOperator.TheVariants as Join
use Rattle.pytree_node.specs.declared.operators.Comparison.{Comparison}
use Rattle.pytree_node.specs.declared.operators.Comparison.TheVariants as Is
use Rattle.pygrammar.specs.declared.levels.Level.{Level}
use Rattle.pygrammar.specs.declared.levels.Level.TheVariants.{Value, Stars, Named, Slices, Part, Slice, Subject}
use Rattle.pytree_node.specs.Values
use Rattle.pytree_node.specs.Trees.{Identifier}
use Rattle.pytoken.specs.Terminals.{Terminal, Op, Word, in_form, Number, Literal}
use Rattle.pygrammar.specs.Operators.{below, chain_level, chain_word}
use Rattle.pyunparse_text.specs.Levels.{left_level, right_level, operator_sign, unary_level, comparison_signs}
use Rattle.pyunparse_text.specs.Written.{separated, star_level, constant_terminal, free, leading, trailing, tight, unary, compared}
use Rattle.pyunparse_text.specs.Terminals.{terminal}
use Rattle.pyunparse_text.specs.Pieces.{Sited, piece}
use Rattle.pylex_lexeme.specs.Operators.{operators}
use Rattle.pytoken.specs.Laws.{IsProper}
use Rattle.pyunparse_text.proofs.PieceLaws.Places.{Place}
use Rattle.pyunparse_text.proofs.PieceLaws.Sorts.{a_word, starts_plain, starts_item, ends_plain, ends_comma, starts, ends, more_part}
use Rattle.pyunparse_text.proofs.PieceLaws.Sorts.{more_comma}
use Rattle.pyunparse_text.proofs.PieceLaws.Sorts.{more_colon}
use Rattle.pyunparse_text.proofs.PieceLaws.Fair.{IsConstant, fair_word, fair_name, fair_constant}
use Rattle.pyunparse_text.proofs.PieceLaws.Segments.{Closed, Perhaps, nothing, some, Each, none, more, join, widen, token, sign, tail}
use Rattle.pyunparse_text.proofs.PieceLaws.Segments.{between}
use Rattle.pyunparse_text.proofs.PieceLaws.Segments.{separated_some}

abbrev pub Plain : Place → List Sited → List Terminal → Type 0
Plain place ps ts = Closed place starts_plain ends_plain ps ts

abbrev pub Item : Place → List Sited → List Terminal → Type 0
Item place ps ts = Closed place starts_item ends_plain ps ts

-- what parameters begin and end with
abbrev pub starts_parameter : List Sited
starts_parameter = free piece (Op Slash) ∷ starts_item

abbrev pub ends_parameter : List Sited
ends_parameter = free piece (Op Slash) ∷ leading piece Star ∷ ends_plain

-- comparisons
abbrev pub starts_after : List Sited
starts_after =
    a_word ∷ free piece (Op EqEqual) ∷ free piece (Op NotEqual) ∷ free piece (Op Less) ∷ free piece (Op LessEqual) ∷ free piece (Op Greater)
    ∷ free piece (Op GreaterEqual) ∷ []

module _ {place : Place} where
  pub keyword : (k : Keyword) → Plain place (free piece (Word k) ∷ []) (free terminal (Word k) ∷ [])
  keyword k = token starts_plain ends_plain (Word k) false false (fair_word k) refl refl refl refl

  pub name : (x : Identifier) → IsProper x → Closed place (a_word ∷ []) ends_plain (free piece (in_form x) ∷ [])
      (free terminal (in_form x) ∷ [])
  name x i = token (a_word ∷ []) ends_plain (in_form x) false false (fair_name x i) refl refl refl refl

  pub plain_name : (x : Identifier) → IsProper x → Plain place (free piece (in_form x) ∷ []) (free terminal (in_form x) ∷ [])
  plain_name x i = token starts_plain ends_plain (in_form x) false false (fair_name x i) refl refl refl refl

  pub constant : (v : Values.Value) → IsConstant place v
      → Plain place (free piece (constant_terminal v) ∷ []) (free terminal (constant_terminal v) ∷ [])
  constant (Values.Int n) h = token starts_plain ends_plain (Number (Values.Int n)) false false
      (fair_constant (Values.Int n) h) refl refl refl refl
  constant (Values.Float x) h =
      token starts_plain ends_plain (Number (Values.Float x)) false false (fair_constant (Values.Float x) h) refl refl refl refl
  constant (Values.Imaginary x) h =
      token starts_plain ends_plain (Number (Values.Imaginary x)) false false (fair_constant (Values.Imaginary x) h) refl refl refl refl
  constant (Values.Bool true) h = keyword Key.True
  constant (Values.Bool false) h = keyword Key.False
  constant Values.None h = keyword Key.None
  constant Values.Ellipsis h = sign starts_plain ends_plain _ false false refl refl refl
  constant (Values.Str points b) h =
      token starts_plain ends_plain (Literal (Values.Str points b)) false false (fair_constant (Values.Str points b) h) refl refl refl refl
  constant (Values.Bytes bytes) h =
      token starts_plain ends_plain (Literal (Values.Bytes bytes)) false false (fair_constant (Values.Bytes bytes) h) refl refl refl refl

  -- two plain lists, and two with a a_word between
  pub plain_both : {xs ys : List Sited} {ts us : List Terminal} → Plain place xs ts → Plain place ys us → Plain place (xs ++ ys) (ts ++ us)
  unfolding operators
  plain_both x y = join x y refl

  pub yield_form : {xs : List Sited} {ts : List Terminal} → Perhaps place starts_item ends_comma xs ts
      → Closed place starts_plain ends_comma (free piece (Word Key.Yield) ∷ xs) (free terminal (Word Key.Yield) ∷ ts)
  unfolding operators
  yield_form x = tail (widen (λ p e. e) more_comma (keyword Key.Yield)) x refl

  pub yield_from_form : {xs : List Sited} {ts : List Terminal} → Plain place xs ts
      → Closed place starts_plain ends_comma (free piece (Word Key.Yield) ∷ (free piece (Word Key.From) ∷ xs))
      (free terminal (Word Key.Yield) ∷ (free terminal (Word Key.From) ∷ ts))
  yield_from_form x = widen (λ p e. e) more_comma (plain_both (keyword Key.Yield) (plain_both (keyword Key.From) x))

  -- stars
  star_sign : Closed place starts_item (leading piece Star ∷ []) (leading piece Star ∷ []) (leading terminal Star ∷ [])
  star_sign = sign starts_item (leading piece Star ∷ []) Star false true refl refl refl

  pub double_star : {xs : List Sited} {ts : List Terminal} → Plain place xs ts
      → Item place (leading piece DoubleStar ∷ xs) (leading terminal DoubleStar ∷ ts)
  unfolding operators
  double_star x = join (sign starts_item (leading piece DoubleStar ∷ []) DoubleStar false true refl refl refl) x refl

  star_item : {xs : List Sited} {ts : List Terminal} → Plain place xs ts → Item place (leading piece Star ∷ xs) (leading terminal Star ∷ ts)
  unfolding operators
  star_item x = join star_sign x refl

  star_value : (l : Level) {xs : List Sited} {ts : List Terminal} → Closed place (starts false (star_level l)) (ends (star_level l)) xs ts
      → Plain place xs ts
  star_value Part x = x
  star_value Named x = x
  star_value l x = x

  item_at : (l : Level) {xs : List Sited} {ts : List Terminal} → Item place xs ts → Closed place (starts true l) (ends l) xs ts
  item_at Slices x = widen more_part (λ p e. more_colon p (more_comma p e)) x
  item_at Part x = widen more_part (λ p e. more_colon p (more_comma p e)) x
  item_at Slice x = widen more_part (λ p e. more_colon p (more_comma p e)) x
  item_at Value x = widen (λ p e. e) more_comma x
  item_at Stars x = widen (λ p e. e) more_comma x
  item_at Subject x = widen (λ p e. e) more_comma x
  item_at l x = x

  pub starred_form : (l : Level) {xs : List Sited} {ts : List Terminal}
      → Closed place (starts false (star_level l)) (ends (star_level l)) xs ts
      → Closed place (starts true l) (ends l) (leading piece Star ∷ xs) (leading terminal Star ∷ ts)
  starred_form l x = item_at l (star_item (star_value l x))

  pub named_form : {xs ys : List Sited} {ts us : List Terminal} → Plain place xs ts → Plain place ys us
      → Plain place (xs ++ (free piece (Op ColonEqual) ∷ ys)) (ts ++ (free terminal (Op ColonEqual) ∷ us))
  unfolding operators
  named_form x y =
      join x (join (sign (free piece (Op ColonEqual) ∷ []) (free piece (Op ColonEqual) ∷ []) ColonEqual false false refl refl refl) y refl)
      refl

  -- a colon that keeps close to what stands before it
  pub colon : Closed place (trailing piece Colon ∷ []) (trailing piece Colon ∷ []) (trailing piece Colon ∷ [])
      (trailing terminal Colon ∷ [])
  colon = sign (trailing piece Colon ∷ []) (trailing piece Colon ∷ []) Colon true false refl refl refl

  pub equal : Closed place (tight piece Equal ∷ []) (tight piece Equal ∷ []) (tight piece Equal ∷ []) (tight terminal Equal ∷ [])
  equal = sign (tight piece Equal ∷ []) (tight piece Equal ∷ []) Equal true true refl refl refl

  pub paired_form : {xs ys : List Sited} {ts us : List Terminal} → Plain place xs ts → Plain place ys us
      → Plain place (xs ++ (trailing piece Colon ∷ ys)) (ts ++ (trailing terminal Colon ∷ us))
  unfolding operators
  paired_form x y = join x (join colon y refl) refl

  pub lambda_form : {xs ys : List Sited} {ts us : List Terminal} → Perhaps place starts_parameter ends_parameter xs ts → Plain place ys us
      → Plain place (free piece (Word Key.Lambda) ∷ (xs ++ (trailing piece Colon ∷ ys)))
      (free terminal (Word Key.Lambda) ∷ (ts ++ (trailing terminal Colon ∷ us)))
  unfolding operators
  lambda_form x y = between (keyword Key.Lambda) x (join colon y refl) refl refl refl

  pub if_form : {xs ys zs : List Sited} {ts us vs : List Terminal} → Plain place xs ts → Plain place ys us → Plain place zs vs
      → Plain place (xs ++ (free piece (Word Key.If) ∷ (ys ++ (free piece (Word Key.Else) ∷ zs))))
      (ts ++ (free terminal (Word Key.If) ∷ (us ++ (free terminal (Word Key.Else) ∷ vs))))
  if_form x y z = plain_both x (plain_both (keyword Key.If) (plain_both y (plain_both (keyword Key.Else) z)))

  -- operators
  pub chain_parts : (o : BoolOperator) {xs : List Sited} {ts : List Terminal}
      → Closed place (starts false (below (chain_level o))) (ends (below (chain_level o))) xs ts → Plain place xs ts
  chain_parts Join.And x = x
  chain_parts Join.Or x = x

  pub chain_form : (o : BoolOperator) {xs : List Sited} {ts : List Terminal} {xss : List (List Sited)} {tss : List (List Terminal)}
      → Plain place xs ts → Each place starts_plain ends_plain xss tss
      → Plain place (separated (free piece (Word (chain_word o))) (xs ∷ xss)) (separated (free terminal (Word (chain_word o))) (ts ∷ tss))
  unfolding operators
  chain_form o x xs = separated_some (free piece (Word (chain_word o))) (free terminal (Word (chain_word o)))
      (keyword (chain_word o)) refl refl x xs

  pub unary_form : (o : UnaryOperator) {xs : List Sited} {ts : List Terminal}
      → Closed place (starts false (unary_level o)) (ends (unary_level o)) xs ts → Plain place (unary piece o ∷ xs) (unary terminal o ∷ ts)
  unfolding operators
  unary_form Un.Not x = plain_both (keyword Key.Not) x
  unary_form Un.UAdd x = join (sign starts_plain (leading piece Plus ∷ []) Plus false true refl refl refl) x refl
  unary_form Un.USub x = join (sign starts_plain (leading piece Minus ∷ []) Minus false true refl refl refl) x refl
  unary_form Un.Invert x = join (sign starts_plain (leading piece Tilde ∷ []) Tilde false true refl refl refl) x refl

  pub binary_form : (o : Operator) {xs ys : List Sited} {ts us : List Terminal}
      → Closed place (starts false (left_level o)) (ends (left_level o)) xs ts
      → Closed place (starts false (right_level o)) (ends (right_level o)) ys us
      → Plain place (xs ++ (free piece (operator_sign o) ∷ ys)) (ts ++ (free terminal (operator_sign o) ∷ us))
  unfolding operators
  binary_form Bin.BitOr x y =
      join x (join (sign (free piece (Op VBar) ∷ []) (free piece (Op VBar) ∷ []) VBar false false refl refl refl) y refl) refl
  binary_form Bin.BitXor x y =
      join x (join (sign (free piece (Op Circumflex) ∷ []) (free piece (Op Circumflex) ∷ []) Circumflex false false refl refl refl) y refl)
      refl
  binary_form Bin.BitAnd x y =
      join x (join (sign (free piece (Op Amper) ∷ []) (free piece (Op Amper) ∷ []) Amper false false refl refl refl) y refl) refl
  binary_form Bin.LShift x y =
      join x (join (sign (free piece (Op LeftShift) ∷ []) (free piece (Op LeftShift) ∷ []) LeftShift false false refl refl refl) y refl)
      refl
  binary_form Bin.RShift x y =
      join x (join (sign (free piece (Op RightShift) ∷ []) (free piece (Op RightShift) ∷ []) RightShift false false refl refl refl) y refl)
      refl
  binary_form Bin.Add x y =
      join x (join (sign (free piece (Op Plus) ∷ []) (free piece (Op Plus) ∷ []) Plus false false refl refl refl) y refl) refl
  binary_form Bin.Sub x y =
      join x (join (sign (free piece (Op Minus) ∷ []) (free piece (Op Minus) ∷ []) Minus false false refl refl refl) y refl) refl
  binary_form Bin.Mult x y =
      join x (join (sign (free piece (Op Star) ∷ []) (free piece (Op Star) ∷ []) Star false false refl refl refl) y refl) refl
  binary_form Bin.MatMult x y =
      join x (join (sign (free piece (Op At) ∷ []) (free piece (Op At) ∷ []) At false false refl refl refl) y refl) refl
  binary_form Bin.Div x y =
      join x (join (sign (free piece (Op Slash) ∷ []) (free piece (Op Slash) ∷ []) Slash false false refl refl refl) y refl) refl
  binary_form Bin.Mod x y =
      join x (join (sign (free piece (Op Percent) ∷ []) (free piece (Op Percent) ∷ []) Percent false false refl refl refl) y refl) refl
  binary_form Bin.FloorDiv x y =
      join x (join (sign (free piece (Op DoubleSlash) ∷ []) (free piece (Op DoubleSlash) ∷ []) DoubleSlash false false refl refl refl) y
      refl) refl
  binary_form Bin.Pow x y =
      join x (join (sign (free piece (Op DoubleStar) ∷ []) (free piece (Op DoubleStar) ∷ []) DoubleStar false false refl refl refl) y refl)
      refl

  pub signs_form : (o : Comparison)
      → Closed place starts_after starts_after (map (free piece) (comparison_signs o)) (map (free terminal) (comparison_signs o))
  unfolding operators
  signs_form Is.Eq = sign starts_after starts_after EqEqual false false refl refl refl
  signs_form Is.NotEq = sign starts_after starts_after NotEqual false false refl refl refl
  signs_form Is.Lt = sign starts_after starts_after Less false false refl refl refl
  signs_form Is.LtE = sign starts_after starts_after LessEqual false false refl refl refl
  signs_form Is.Gt = sign starts_after starts_after Greater false false refl refl refl
  signs_form Is.GtE = sign starts_after starts_after GreaterEqual false false refl refl refl
  signs_form Is.Is = token starts_after starts_after (Word Key.Is) false false (fair_word Key.Is) refl refl refl refl
  signs_form Is.Within = token starts_after starts_after (Word Key.In) false false (fair_word Key.In) refl refl refl refl
  signs_form Is.IsNot =
      join (token starts_after starts_after (Word Key.Is) false false (fair_word Key.Is) refl refl refl refl)
      (token starts_after starts_after (Word Key.Not) false false (fair_word Key.Not) refl refl refl refl) refl
  signs_form Is.NotIn =
      join (token starts_after starts_after (Word Key.Not) false false (fair_word Key.Not) refl refl refl refl)
      (token starts_after starts_after (Word Key.In) false false (fair_word Key.In) refl refl refl refl) refl

  -- a comparison's signs, each with what stands after it
  pub compared_more : (o : Comparison) {xs ys : List Sited} {ts us : List Terminal} → Plain place xs ts
      → Perhaps place starts_after ends_plain ys us
      → Closed place starts_after ends_plain (map (free piece) (comparison_signs o) ++ (xs ++ ys))
      (map (free terminal) (comparison_signs o) ++ (ts ++ us))
  unfolding operators
  compared_more o x y = join (signs_form o) (tail x y refl) refl

  pub compare_form : {xs ys : List Sited} {ts us : List Terminal} → Plain place xs ts → Perhaps place starts_after ends_plain ys us
      → Plain place (xs ++ ys) (ts ++ us)
  unfolding operators
  compare_form x y = tail x y refl

  pub compared_are : (os : List Comparison) {xss : List (List Sited)} {tss : List (List Terminal)}
      → Each place starts_plain ends_plain xss tss
      → Perhaps place starts_after ends_plain (compared piece os xss) (compared terminal os tss)
  compared_are [] none = nothing
  compared_are [] (more x xs) = nothing
  compared_are (o ∷ os) none = nothing
  compared_are (o ∷ os) (more x xs) = some (compared_more o x (compared_are os xs))

  -- primaries
  pub attribute_form : (x : Identifier) → IsProper x → {xs : List Sited} {ts : List Terminal} → Plain place xs ts
      → Plain place (xs ++ (tight piece Dot ∷ (free piece (in_form x) ∷ [])))
      (ts ++ (tight terminal Dot ∷ (free terminal (in_form x) ∷ [])))
  unfolding operators
  attribute_form x i y =
      join y (join (sign (tight piece Dot ∷ []) (tight piece Dot ∷ []) Dot true true refl refl refl) (name x i) refl) refl
