-- Carries: the laws of the slots. On: nodes of what is given are given:
-- operators, displays, primaries.
use Rattle.std.proofs.Common.{◌≡◌, refl, ap, subst, ◌≤◌, arith, List, [], ◌∷◌, ◌++◌, length, Some, true, false}
use Rattle.std.proofs.lemmas.Bool.{and_from}
use Rattle.pylex_lexeme.specs.declared.kinds.Exact.TheVariants.{LPar, RPar, LSqb, RSqb, LBrace, RBrace, Colon, Comma, Star, Slash, Dot}
use Rattle.pylex_lexeme.specs.declared.kinds.Exact.TheVariants.{DoubleStar, ColonEqual, VBar, Circumflex, Amper, LeftShift, RightShift}
use Rattle.pylex_lexeme.specs.declared.kinds.Exact.TheVariants.{Plus, Minus, DoubleSlash, Percent, At, Tilde, EqEqual, NotEqual, Less}
use Rattle.pylex_lexeme.specs.declared.kinds.Exact.TheVariants.{LessEqual, Greater, GreaterEqual, Ellipsis}
use Rattle.pytoken.specs.declared.keywords.Keyword.TheVariants as Key
use Rattle.pytree_node.specs.declared.operators.Operator.{Operator}
use Rattle.pytree_node.specs.declared.operators.Operator.TheVariants as Bin
use Rattle.pytree_node.specs.declared.operators.UnaryOperator.{UnaryOperator}
use Rattle.pytree_node.specs.declared.operators.UnaryOperator.TheVariants as Un
use Rattle.pytree_node.specs.declared.operators.BoolOperator.{BoolOperator}
use Rattle.pytree_node.specs.declared.operators.BoolOperator.TheVariants as Join
use Rattle.pytree_node.specs.declared.operators.Comparison.{Comparison}
use Rattle.pytree_node.specs.declared.operators.Comparison.TheVariants as Is
use Rattle.pytree_node.specs.declared.operators.Context.TheVariants.{Load, Store}
use Rattle.pytree_node.specs.Trees
use Rattle.pytree_node.specs.Trees.{Identifier, Expr, Exprs, no_exprs, an_expr, OptionalExpr}
use Rattle.pytree_node.specs.Trees.{absent, present, exprs}
use Rattle.pytree_node.specs.Values
use Rattle.pytoken.specs.Terminals.{Terminal, Op, Word, in_form, Number, Literal}
use Rattle.pygrammar.specs.declared.levels.Level.{Level}
use Rattle.pygrammar.specs.declared.levels.Level.TheVariants.{Stars, Named, Expression, Or, Not, Compare, BitOr, BitXor, BitAnd, Shift, Sum}
use Rattle.pygrammar.specs.declared.levels.Level.TheVariants.{Term, Factor, Power, Await, Primary, Atom, Elem, Slices, Part, Slice}
use Rattle.pygrammar.specs.Operators.{below, left_operator, prefix_operator, chain_level, chain_word}
use Rattle.pygrammar.specs.Entries.{Item, Of, Entry, Single, singles}
use Rattle.pygrammar.specs.Grammar as G
use Rattle.pytree_fits.specs.Literals.{is_value}
use Rattle.pytree_fits.specs.Slots.{member_level, takes_slice, count}
use Rattle.pytree_fits.specs.Given.{is_number}
use Rattle.pytree_fits.proofs.Fields.Standing.{Standing, here}
use Rattle.pytree_fits.proofs.Fields.AsSpelled.{Passed, GivenAsSpelled, pass_on, pass_in_front}
use Rattle.pytree_fits.proofs.Fields.Levels.{inner}
use Rattle.pytree_fits.proofs.Giving.Places as P
use Rattle.pytree_fits.proofs.Giving.Places.{MayBe, left_out, there, Each, no_more, one_more, lifted, anywhere_at, at, named_pass}

-- ---- Lists with commas.

pub data Pieces (n : Standing) (i : Item) : List Entry → Type 0 where
  no_piece : Pieces n i []
  a_piece : {e : Entry} {es : List Entry} → GivenAsSpelled n (G.Piece i) e → Pieces n i es → Pieces n i (e ∷ es)

abbrev pub single_entries : Exprs → List Entry
single_entries no_exprs = []
single_entries (an_expr e es) = Single e ∷ single_entries es

pub singles_are : (es : Exprs) → singles (single_entries es) ≡ es
singles_are no_exprs = refl
singles_are (an_expr e es) = ap (an_expr e) (singles_are es)

module _ (n : Standing) where
  pub listing : {i : Item} {es : List Entry} → Pieces n i es → GivenAsSpelled n (G.Listing i) es
  listing no_piece = ([], refl, G.no_item)
  listing (a_piece p r) = let w = listing r in (p.0 ++ (Op Comma ∷ w.0), pass_on n p.0 (Op Comma ∷ w.0) p.1 w.1, G.item p.2 w.2)

  pub single_pieces : {l : Level} {es : Exprs} → Each n l es → Pieces n (Of l) (single_entries es)
  single_pieces no_more = no_piece
  single_pieces (one_more w r) = a_piece (w.0, w.1, G.single w.2) (single_pieces r)

  -- ---- Names and constants.

  pub name_given : (l : Level) (x : Identifier) → n.tests.name x ≡ true → P.At n l (Trees.Name x Load)
  name_given l x h = lifted n l (in_form x ∷ [], named_pass n x [] h refl, G.name)

  number_given : (l : Level) (v : Values.Value) → is_number v ≡ true → is_value (here n) v ≡ true → P.At n l (Trees.Constant v)
  number_given l v k h =
      lifted n l (Number v ∷ [], pass_in_front n (Number v) [] (and_from (is_number v) (is_value (here n) v) k h) refl refl, G.number)

  pub constant_given : (l : Level) (v : Values.Value) → is_value (here n) v ≡ true → P.At n l (Trees.Constant v)
  constant_given l Values.None h = lifted n l (Word Key.None ∷ [], refl, G.constant refl)
  constant_given l Values.Ellipsis h = lifted n l (Op Ellipsis ∷ [], refl, G.constant refl)
  constant_given l (Values.Bool true) h = lifted n l (Word Key.True ∷ [], refl, G.constant refl)
  constant_given l (Values.Bool false) h = lifted n l (Word Key.False ∷ [], refl, G.constant refl)
  constant_given l (Values.Int k) h = number_given l (Values.Int k) refl h
  constant_given l (Values.Float x) h = number_given l (Values.Float x) refl h
  constant_given l (Values.Imaginary x) h = number_given l (Values.Imaginary x) refl h
  constant_given l (Values.Str t u) h =
      lifted n l (Literal (Values.Str t u) ∷ [], pass_in_front n (Literal (Values.Str t u)) [] h refl refl, G.strings [] refl)
  constant_given l (Values.Bytes t) h =
      lifted n l (Literal (Values.Bytes t) ∷ [], pass_in_front n (Literal (Values.Bytes t)) [] h refl refl, G.strings [] refl)

  -- ---- Operators.

  -- a and b at their levels, with a terminal between
  joined : {a b : Expr} (t : Terminal) (l m : Level) → Passed n (t ∷ []) → P.At n Expression a → P.At n Expression b →
      (ts us : List Terminal) × Passed n (ts ++ (t ∷ us)) × G.Derives l ts a × G.Derives m us b
  joined t l m h f g =
      let u = at n l f in
      let v = at n m g in
      (u.0, v.0, pass_on n u.0 (t ∷ v.0) u.1 (pass_on n (t ∷ []) v.0 h v.1), u.2, v.2)

  binary : {a b : Expr} {o : Operator} (l : Level) (t : Terminal) → inner l ≡ true → Passed n (t ∷ []) → left_operator l t ≡ Some o →
      P.At n Expression a → P.At n Expression b → (m : Level) → P.At n m (Trees.BinOp a o b)
  binary l t i h q f g = let w = joined t l (below l) h f g in anywhere_at n l i (w.0 ++ (t ∷ w.1), w.2, G.binary t q w.3 w.4)

  pub binary_given : (l : Level) (a : Expr) (o : Operator) (b : Expr) → P.At n Expression a → P.At n Expression b
      → P.At n l (Trees.BinOp a o b)
  binary_given l a Bin.BitOr b f g = binary BitOr (Op VBar) refl refl refl f g l
  binary_given l a Bin.BitXor b f g = binary BitXor (Op Circumflex) refl refl refl f g l
  binary_given l a Bin.BitAnd b f g = binary BitAnd (Op Amper) refl refl refl f g l
  binary_given l a Bin.LShift b f g = binary Shift (Op LeftShift) refl refl refl f g l
  binary_given l a Bin.RShift b f g = binary Shift (Op RightShift) refl refl refl f g l
  binary_given l a Bin.Add b f g = binary Sum (Op Plus) refl refl refl f g l
  binary_given l a Bin.Sub b f g = binary Sum (Op Minus) refl refl refl f g l
  binary_given l a Bin.Mult b f g = binary Term (Op Star) refl refl refl f g l
  binary_given l a Bin.Div b f g = binary Term (Op Slash) refl refl refl f g l
  binary_given l a Bin.FloorDiv b f g = binary Term (Op DoubleSlash) refl refl refl f g l
  binary_given l a Bin.Mod b f g = binary Term (Op Percent) refl refl refl f g l
  binary_given l a Bin.MatMult b f g = binary Term (Op At) refl refl refl f g l
  binary_given l a Bin.Pow b f g = let w = joined (Op DoubleStar) Await Factor refl f g in
      anywhere_at n Power refl (w.0 ++ (Op DoubleStar ∷ w.1), w.2, G.power w.3 w.4) l

  prefixed : {e : Expr} {o : UnaryOperator} (l : Level) (t : Terminal) → inner l ≡ true → Passed n (t ∷ []) → prefix_operator l t ≡ Some o →
      P.At n Expression e → (m : Level) → P.At n m (Trees.UnaryOp o e)
  prefixed l t i h q f = let u = at n l f in anywhere_at n l i (t ∷ u.0, pass_on n (t ∷ []) u.0 h u.1, G.unary q u.2)

  pub unary_given : (l : Level) (o : UnaryOperator) (e : Expr) → P.At n Expression e → P.At n l (Trees.UnaryOp o e)
  unary_given l Un.Not e f = prefixed Not (Word Key.Not) refl refl refl f l
  unary_given l Un.UAdd e f = prefixed Factor (Op Plus) refl refl refl f l
  unary_given l Un.USub e f = prefixed Factor (Op Minus) refl refl refl f l
  unary_given l Un.Invert e f = prefixed Factor (Op Tilde) refl refl refl f l

  pub await_given : (l : Level) (e : Expr) → P.At n Expression e → P.At n l (Trees.Await e)
  await_given l e f = let u = at n Primary f in anywhere_at n Await refl (Word Key.Await ∷ u.0, u.1, G.await u.2) l

  -- a chain of `and` or of `or`
  record Linked (o : BoolOperator) (es : Exprs) : Type 0 where
    list : List Expr
    is : exprs list ≡ es
    links : GivenAsSpelled n (G.Chain o) list

  linked : (o : BoolOperator) {e : Expr} {es : Exprs} → P.At n Expression e → Each n Expression es → Linked o (an_expr e es)
  linked o {e = e} f no_more = let u = at n (below (chain_level o)) f in
      record { list = e ∷ []; is = refl; links = (u.0, u.1, G.last_link u.2) }
  linked o {e = e} f (one_more g r) =
      let u = at n (below (chain_level o)) f in
      let w = linked o g r in
      record {
        list = e ∷ w.list;
        is = ap (an_expr e) w.is;
        links =
            (u.0 ++ (Word (chain_word o) ∷ w.links.0), pass_on n u.0 (Word (chain_word o) ∷ w.links.0) u.1 w.links.1, G.link u.2 w.links.2);
      }

  level_inner : (o : BoolOperator) → inner (chain_level o) ≡ true
  level_inner Join.And = refl
  level_inner Join.Or = refl

  pub chain_given : (l : Level) (o : BoolOperator) (es : Exprs) → 2 ≤ count es → Each n Expression es → P.At n l (Trees.BoolOp o es)
  chain_given l o no_exprs h no_more = absurd (omega (arith, h))
  chain_given l o (an_expr e no_exprs) h (one_more f no_more) = absurd (omega (arith, h))
  chain_given l o (an_expr e (an_expr a es)) h (one_more f (one_more g r)) =
      let u = at n (below (chain_level o)) f in
      let w = linked o g r in
      anywhere_at n (chain_level o) (level_inner o) (subst (λ z. P.At n (chain_level o) (Trees.BoolOp o (an_expr e z))) w.is
      (u.0 ++ (Word (chain_word o) ∷ w.links.0), pass_on n u.0 (Word (chain_word o) ∷ w.links.0) u.1 w.links.1, G.chain u.2 w.links.2)) l

  -- comparisons
  pub compared : (o : Comparison) → GivenAsSpelled n G.Compared o
  compared Is.Eq = (Op EqEqual ∷ [], refl, G.one_sign refl)
  compared Is.NotEq = (Op NotEqual ∷ [], refl, G.one_sign refl)
  compared Is.Lt = (Op Less ∷ [], refl, G.one_sign refl)
  compared Is.LtE = (Op LessEqual ∷ [], refl, G.one_sign refl)
  compared Is.Gt = (Op Greater ∷ [], refl, G.one_sign refl)
  compared Is.GtE = (Op GreaterEqual ∷ [], refl, G.one_sign refl)
  compared Is.Is = (Word Key.Is ∷ [], refl, G.is)
  compared Is.IsNot = (Word Key.Is ∷ (Word Key.Not ∷ []), refl, G.is_not)
  compared Is.Within = (Word Key.In ∷ [], refl, G.one_sign refl)
  compared Is.NotIn = (Word Key.Not ∷ (Word Key.In ∷ []), refl, G.not_in)

  record Rightwards (os : List Comparison) (es : Exprs) : Type 0 where
    list : List Expr
    is : exprs list ≡ es
    right : (ts : List Terminal) × Passed n ts × G.Compares ts os list

  rightwards : (o : Comparison) (os : List Comparison) {e : Expr} {es : Exprs} → length os ≡ count es → P.At n Expression e
      → Each n Expression es → Rightwards (o ∷ os) (an_expr e es)
  rightwards o [] {e = e} h f no_more =
      let s = compared o in
      let u = at n BitOr f in
      record { list = e ∷ []; is = refl; right = (s.0 ++ u.0, pass_on n s.0 u.0 s.1 u.1, G.last_compare s.2 u.2) }
  rightwards o [] h f (one_more g r) = absurd (omega (arith, h))
  rightwards o (p ∷ os) h f no_more = absurd (omega (arith, h))
  rightwards o (p ∷ os) {e = e} h f (one_more g r) =
      let s = compared o in
      let u = at n BitOr f in
      let w = rightwards p os (omega (arith, h)) g r in
      record {
        list = e ∷ w.list;
        is = ap (an_expr e) w.is;
        right = (
          s.0 ++ (u.0 ++ w.right.0),
          pass_on n s.0 (u.0 ++ w.right.0) s.1 (pass_on n u.0 w.right.0 u.1 w.right.1),
          G.compares s.2 u.2 w.right.2,
        );
      }

  pub compare_given : (l : Level) (a : Expr) (os : List Comparison) (es : Exprs) → 1 ≤ length os → length os ≡ count es
      → P.At n Expression a → Each n Expression es → P.At n l (Trees.Compare a os es)
  compare_given l a [] es h q f r = absurd (omega (arith, h))
  compare_given l a (o ∷ os) no_exprs h q f no_more = absurd (omega (arith, q))
  compare_given l a (o ∷ os) (an_expr e es) h q f (one_more g r) =
      let u = at n BitOr f in
      let w = rightwards o os (omega (arith, q)) g r in
      anywhere_at n Compare refl (subst (λ z. P.At n Compare (Trees.Compare a (o ∷ os) z)) w.is (
        u.0 ++ w.right.0,
        pass_on n u.0 w.right.0 u.1 w.right.1,
        G.compare u.2 w.right.2,
      )) l

  pub if_given : (l : Level) (a b c : Expr) → P.At n Expression a → P.At n Expression b → P.At n Expression c → P.At n l (Trees.IfExp a b c)
  if_given l a b c f g h =
      let u = at n Or g in
      let v = at n Or f in
      let w = at n Expression h in
      anywhere_at n Expression refl (
        u.0 ++ (Word Key.If ∷ (v.0 ++ (Word Key.Else ∷ w.0))),
        pass_on n u.0 (Word Key.If ∷ (v.0 ++ (Word Key.Else ∷ w.0))) u.1
            (pass_on n v.0 (Word Key.Else ∷ w.0) v.1 w.1),
        G.if_else u.2 v.2 w.2,
      ) l

  pub named_given : (l : Level) (x : Identifier) (e : Expr) → n.tests.name x ≡ true → P.At n Expression e
      → P.At n l (Trees.NamedExpr (Trees.Name x Store) e)
  named_given l x e h f = anywhere_at n Named refl (
    in_form x ∷ (Op ColonEqual ∷ f.0),
    named_pass n x (Op ColonEqual ∷ f.0) h f.1,
    G.named f.2,
  ) l

  -- ---- Yields.

  yields : {e : Expr} (l : Level) → GivenAsSpelled n G.Yields e → P.At n l e
  yields l w = lifted n l (Op LPar ∷ (Word Key.Yield ∷ (w.0 ++ (Op RPar ∷ []))), pass_on n w.0 (Op RPar ∷ []) w.1 refl, G.yield_group w.2)

  pub yield_from_given : (l : Level) (e : Expr) → P.At n Expression e → P.At n l (Trees.YieldFrom e)
  yield_from_given l e f = yields l (Word Key.From ∷ f.0, f.1, G.yield_from f.2)

  pub yield_given : (l : Level) (e : OptionalExpr) → MayBe n Stars e → P.At n l (Trees.Yield e)
  yield_given l absent left_out = yields l ([], refl, G.yield_some G.nothing)
  yield_given l (present e) (there f) = yields l (f.0, f.1, G.yield_some (G.something f.2))

  -- ---- Displays.

  pub tuple_given : (l : Level) (es : Exprs) → Each n (member_level l) es → P.At n l (Trees.Tuple es Load)
  tuple_given l no_exprs r = lifted n l (Op LPar ∷ (Op RPar ∷ []), refl, G.empty_tuple)
  tuple_given l (an_expr e es) r = by l r
    where
      elems : Each n Elem (an_expr e es) → P.At n Atom (Trees.Tuple (an_expr e es) Load)
      elems (one_more f r) =
          let w = listing (single_pieces r) in
          subst (λ z. P.At n Atom (Trees.Tuple (an_expr e z) Load)) (singles_are es) (
            Op LPar ∷ (f.0 ++ (Op Comma ∷ (w.0 ++ (Op RPar ∷ [])))),
            pass_on n f.0 (Op Comma ∷ (w.0 ++ (Op RPar ∷ []))) f.1
                (pass_on n w.0 (Op RPar ∷ []) w.1 refl),
            G.tuple f.2 w.2,
          )

      parts : Each n Part (an_expr e es) → P.At n Slices (Trees.Tuple (an_expr e es) Load)
      parts (one_more f r) =
          let w = listing (single_pieces r) in
          subst (λ z. P.At n Slices (Trees.Tuple (an_expr e z) Load)) (singles_are es)
          (f.0 ++ (Op Comma ∷ w.0), pass_on n f.0 (Op Comma ∷ w.0) f.1 w.1, G.parts f.2 w.2)

      by : (l : Level) → Each n (member_level l) (an_expr e es) → P.At n l (Trees.Tuple (an_expr e es) Load)
      by Slices r = parts r
      by l r = lifted n l (elems r)

  pub list_given : (l : Level) (es : Exprs) → Each n Elem es → P.At n l (Trees.ListOf es Load)
  list_given l es r =
      let w = listing (single_pieces r) in
      lifted n l (subst (λ z. P.At n Atom (Trees.ListOf z Load)) (singles_are es) (
        Op LSqb ∷ (w.0 ++ (Op RSqb ∷ [])),
        pass_on n w.0 (Op RSqb ∷ []) w.1 refl,
        G.list w.2,
      ))

  pub set_given : (l : Level) (es : Exprs) → 1 ≤ count es → Each n Elem es → P.At n l (Trees.Set es)
  set_given l no_exprs h no_more = absurd (omega (arith, h))
  set_given l (an_expr e es) h (one_more f r) =
      let w = listing (single_pieces (one_more f r)) in
      lifted n l (subst (λ z. P.At n Atom (Trees.Set (an_expr e z))) (singles_are es) (
        Op LBrace ∷ (w.0 ++ (Op RBrace ∷ [])),
        pass_on n w.0 (Op RBrace ∷ []) w.1 refl,
        G.set w.2,
      ))

  -- ---- Attributes, subscripts, slices.

  pub attribute_given : (l : Level) (e : Expr) (x : Identifier) → n.tests.name x ≡ true → P.At n Expression e
      → P.At n l (Trees.Attribute e x Load)
  attribute_given l e x h f =
      let u = at n Primary f in
      anywhere_at n Primary refl (
        u.0 ++ (Op Dot ∷ (in_form x ∷ [])),
        pass_on n u.0 (Op Dot ∷ (in_form x ∷ [])) u.1 (named_pass n x [] h refl),
        G.attribute _ u.2,
      ) l

  pub subscript_given : (l : Level) (e s : Expr) → P.At n Expression e → P.At n Slices s → P.At n l (Trees.Subscript e s Load)
  subscript_given l e s f g =
      let u = at n Primary f in
      anywhere_at n Primary refl (
        u.0 ++ (Op LSqb ∷ (g.0 ++ (Op RSqb ∷ []))),
        pass_on n u.0 (Op LSqb ∷ (g.0 ++ (Op RSqb ∷ []))) u.1
            (pass_on n g.0 (Op RSqb ∷ []) g.1 refl),
        G.subscript u.2 g.2,
      ) l

  may_be : {l : Level} {e : OptionalExpr} → MayBe n l e → GivenAsSpelled n (G.Perhaps l) e
  may_be left_out = ([], refl, G.nothing)
  may_be (there f) = (f.0, f.1, G.something f.2)

  slice_at : {e : Expr} (l : Level) → takes_slice l ≡ true → P.At n Slice e → P.At n l e
  slice_at Slices h w = (w.0, w.1, G.next {l = Slices} w.2)
  slice_at Part h w = (w.0, w.1, G.next {l = Part} w.2)
  slice_at Slice h w = w
  slice_at _ h w = absurd (cc)

  pub slice_given : (l : Level) (a b c : OptionalExpr) → takes_slice l ≡ true → MayBe n Expression a → MayBe n Expression b
      → MayBe n Expression c → P.At n l (Trees.Slice a b c)
  slice_given l a b c h f g k =
      let u = may_be f in
      let v = may_be g in
      let w = may_be k in
      slice_at l h (
        u.0 ++ (Op Colon ∷ (v.0 ++ (Op Colon ∷ w.0))),
        pass_on n u.0 (Op Colon ∷ (v.0 ++ (Op Colon ∷ w.0))) u.1
            (pass_on n v.0 (Op Colon ∷ w.0) v.1 w.1),
        G.slice_step u.2 v.2 w.2,
      )
