-- Carries: the functions of the walk that have no loop. What is written for each class of
-- expression, part by part.
use Rattle.std.proofs.Common.{◌≡◌, ◌∙◌, Bool, false, if◌then◌else◌, List, [], ◌∷◌, ◌++◌, ap, refl, sym, append_assoc}
use Rattle.pylex_lexeme.specs.declared.kinds.Exact.{Exact}
use Rattle.pylex_lexeme.specs.declared.kinds.Exact.TheVariants.{LPar, RPar, LSqb, RSqb, LBrace, RBrace, Colon, ColonEqual, Dot}
use Rattle.pytoken.specs.declared.keywords.Keyword.TheVariants as Key
use Rattle.pytree_node.specs.declared.operators.Operator.{Operator}
use Rattle.pytree_node.specs.declared.operators.UnaryOperator.{UnaryOperator}
use Rattle.pytree_node.specs.declared.operators.BoolOperator.{BoolOperator}
use Rattle.pytree_node.specs.declared.operators.Comparison.{Comparison}
use Rattle.pytree_node.specs.declared.operators.Context.{Context}
use Rattle.pygrammar.specs.declared.levels.Level.{Level}
use Rattle.pygrammar.specs.declared.levels.Level.TheVariants.{Value, Stars, Named, Expression, Or, Compare, BitOr, Await, Primary, Slices}
use Rattle.pygrammar.specs.declared.levels.Level.TheVariants.{Slice}
use Rattle.pygrammar.specs.Operators.{below, chain_level, chain_word}
use Rattle.pytree_node.specs.Trees
use Rattle.pytree_node.specs.Trees.{Identifier, Expr, Exprs, OptionalExpr, OptionalExprs, Keywords, Comprehensions, Arguments}
use Rattle.pytoken.specs.Terminals.{Op, in_form}
use Rattle.pyunparse_text.specs.Levels.{reaches, operator_level, left_level, right_level, operator_sign, unary_level}
use Rattle.pyunparse_text.specs.Pieces.{Sited, piece, pieces, sited}
use Rattle.pyunparse_text.specs.Written.{enclosed, fit, written, free, word, leading, trailing, tight, separated, listed, unary, compared}
use Rattle.pyunparse_text.specs.Written.{each, pairs, perhaps, suffixed, parameters, clauses, alone, by_name, lone_generator, written_keys}
use Rattle.pyunparse_text.specs.Folds.{puts, opened, closed}
use Rattle.pyunparse.proofs.Sequences.FoldLemmas.{fits, five, four, six, three, two}

module _ {S : Type 0} (after : S → Sited → S) (s : S) (l : Level) where
  -- a form in its brackets, if it needs them, by the states before and after it
  within : (k : Level) (b : Bool) (ts : List Sited) (s1 u : S) → b ≡ reaches l k → s1 ≡ puts after s (opened b) → u ≡ puts after s1 ts
      → puts after u (closed b) ≡ puts after s (fit piece l k ts)
  within k b ts s1 u h e f =
      ap (λ z. puts after z (closed b)) (f ∙ ap (λ z. puts after z ts) e)
      ∙ (λ i. puts after (puts after (puts after s (opened (h i))) ts) (closed (h i)))
      ∙ sym (fits after s l k ts)

  pub chain : (b : Bool) (o : BoolOperator) (es : Exprs) (k : Level) (m : Sited) (s1 s2 : S) →
      b ≡ reaches l (chain_level o) →
      k ≡ below (chain_level o) →
      m ≡ word piece (chain_word o) →
      s1 ≡ puts after s (opened b) →
      s2 ≡ puts after s1 (separated m (each piece k es)) →
      puts after s2 (closed b) ≡ puts after s (pieces l (Trees.BoolOp o es))
  unfolding written
  chain b o es k m s1 s2 h h1 h2 e1 e2 =
      within (chain_level o) b (separated (word piece (chain_word o)) (each piece (below (chain_level o)) es)) s1 s2 h e1 (e2
      ∙ ap (λ z. puts after s1 ((separated m (each piece z es)))) h1
      ∙ ap (λ z. puts after s1 ((separated z (each piece (below (chain_level o)) es)))) h2)

  pub named : (b : Bool) (t e : Expr) (s1 s2 s3 s4 : S) →
      b ≡ reaches l Named →
      s1 ≡ puts after s (opened b) →
      s2 ≡ puts after s1 (pieces Primary t) →
      s3 ≡ puts after s2 (free piece (Op ColonEqual) ∷ []) →
      s4 ≡ puts after s3 (pieces Expression e) →
      puts after s4 (closed b) ≡ puts after s (pieces l (Trees.NamedExpr t e))
  unfolding written
  named b t e s1 s2 s3 s4 h e1 e2 e3 e4 =
      within Named b ((pieces Primary t) ++ ((free piece (Op ColonEqual) ∷ []) ++ ((pieces Expression e)))) s1 s4 h e1 (e4
      ∙ three after s1 (pieces Primary t) (free piece (Op ColonEqual) ∷ []) (pieces Expression e) s2 s3 e2 e3)

  pub prefixed : (b : Bool) (o : UnaryOperator) (e : Expr) (k : Level) (s1 s2 s3 : S) →
      b ≡ reaches l (unary_level o) →
      k ≡ unary_level o →
      s1 ≡ puts after s (opened b) →
      s2 ≡ puts after s1 (unary piece o ∷ []) →
      s3 ≡ puts after s2 (pieces k e) →
      puts after s3 (closed b) ≡ puts after s (pieces l (Trees.UnaryOp o e))
  unfolding written
  prefixed b o e k s1 s2 s3 h h1 e1 e2 e3 = within (unary_level o) b ((unary piece o ∷ []) ++ ((pieces (unary_level o) e))) s1 s3 h e1 (e3
      ∙ two after s1 (unary piece o ∷ []) (pieces k e) s2 e2 ∙ ap (λ z. puts after s1 ((unary piece o ∷ []) ++ ((pieces z e)))) h1)

  pub lambda : (b : Bool) (a : Arguments) (e : Expr) (s1 s2 s3 s4 s5 : S) →
      b ≡ reaches l Expression →
      s1 ≡ puts after s (opened b) →
      s2 ≡ puts after s1 (word piece Key.Lambda ∷ []) →
      s3 ≡ puts after s2 (listed piece (parameters piece a)) →
      s4 ≡ puts after s3 (trailing piece Colon ∷ []) →
      s5 ≡ puts after s4 (pieces Expression e) →
      puts after s5 (closed b) ≡ puts after s (pieces l (Trees.Lambda a e))
  unfolding written
  lambda b a e s1 s2 s3 s4 s5 h e1 e2 e3 e4 e5 =
      within Expression b ((word piece Key.Lambda ∷ []) ++
      ((listed piece (parameters piece a)) ++ ((trailing piece Colon ∷ []) ++ ((pieces Expression e))))) s1 s5 h e1 (e5
      ∙ four after s1 (word piece Key.Lambda ∷ []) (listed piece (parameters piece a)) (trailing piece Colon ∷ [])
      (pieces Expression e) s2 s3 s4 e2 e3 e4)

  pub conditional : (b : Bool) (a b1 c : Expr) (s1 s2 s3 s4 s5 s6 : S) →
      b ≡ reaches l Expression →
      s1 ≡ puts after s (opened b) →
      s2 ≡ puts after s1 (pieces Or b1) →
      s3 ≡ puts after s2 (word piece Key.If ∷ []) →
      s4 ≡ puts after s3 (pieces Or a) →
      s5 ≡ puts after s4 (word piece Key.Else ∷ []) →
      s6 ≡ puts after s5 (pieces Expression c) →
      puts after s6 (closed b) ≡ puts after s (pieces l (Trees.IfExp a b1 c))
  unfolding written
  conditional b a b1 c s1 s2 s3 s4 s5 s6 h e1 e2 e3 e4 e5 e6 =
      within Expression b ((pieces Or b1) ++
      ((word piece Key.If ∷ []) ++ ((pieces Or a) ++ ((word piece Key.Else ∷ []) ++ ((pieces Expression c)))))) s1 s6 h e1 (e6
      ∙ five after s1 (pieces Or b1) (word piece Key.If ∷ []) (pieces Or a) (word piece Key.Else ∷ []) (pieces Expression c)
      s2 s3 s4 s5 e2 e3 e4 e5)

  pub awaited : (b : Bool) (e : Expr) (s1 s2 s3 : S) →
      b ≡ reaches l Await →
      s1 ≡ puts after s (opened b) →
      s2 ≡ puts after s1 (word piece Key.Await ∷ []) →
      s3 ≡ puts after s2 (pieces Primary e) →
      puts after s3 (closed b) ≡ puts after s (pieces l (Trees.Await e))
  unfolding written
  awaited b e s1 s2 s3 h e1 e2 e3 = within Await b ((word piece Key.Await ∷ []) ++ ((pieces Primary e))) s1 s3 h e1 (e3
      ∙ two after s1 (word piece Key.Await ∷ []) (pieces Primary e) s2 e2)

  pub yielded : (b : Bool) (e : OptionalExpr) (s1 s2 s3 : S) →
      b ≡ reaches l Value →
      s1 ≡ puts after s (opened b) →
      s2 ≡ puts after s1 (word piece Key.Yield ∷ []) →
      s3 ≡ puts after s2 (perhaps piece Stars e) →
      puts after s3 (closed b) ≡ puts after s (pieces l (Trees.Yield e))
  unfolding written
  yielded b e s1 s2 s3 h e1 e2 e3 = within Value b ((word piece Key.Yield ∷ []) ++ ((perhaps piece Stars e))) s1 s3 h e1 (e3
      ∙ two after s1 (word piece Key.Yield ∷ []) (perhaps piece Stars e) s2 e2)

  pub yielded_from : (b : Bool) (e : Expr) (s1 s2 s3 s4 : S) →
      b ≡ reaches l Value →
      s1 ≡ puts after s (opened b) →
      s2 ≡ puts after s1 (word piece Key.Yield ∷ []) →
      s3 ≡ puts after s2 (word piece Key.From ∷ []) →
      s4 ≡ puts after s3 (pieces Expression e) →
      puts after s4 (closed b) ≡ puts after s (pieces l (Trees.YieldFrom e))
  unfolding written
  yielded_from b e s1 s2 s3 s4 h e1 e2 e3 e4 =
      within Value b ((word piece Key.Yield ∷ []) ++ ((word piece Key.From ∷ []) ++ ((pieces Expression e)))) s1 s4 h e1 (e4
      ∙ three after s1 (word piece Key.Yield ∷ []) (word piece Key.From ∷ []) (pieces Expression e) s2 s3 e2 e3)

  pub comparison : (b : Bool) (e : Expr) (os : List Comparison) (es : Exprs) (s1 s2 s3 : S) →
      b ≡ reaches l Compare →
      s1 ≡ puts after s (opened b) →
      s2 ≡ puts after s1 (pieces BitOr e) →
      s3 ≡ puts after s2 (compared piece os (each piece BitOr es)) →
      puts after s3 (closed b) ≡ puts after s (pieces l (Trees.Compare e os es))
  unfolding written
  comparison b e os es s1 s2 s3 h e1 e2 e3 = within Compare b ((pieces BitOr e) ++ ((compared piece os (each piece BitOr es)))) s1 s3 h e1
      (e3 ∙ two after s1 (pieces BitOr e) (compared piece os (each piece BitOr es)) s2 e2)

  pub attribute : (b : Bool) (e : Expr) (x : Identifier) (c : Context) (s1 s2 s3 s4 : S) →
      b ≡ reaches l Primary →
      s1 ≡ puts after s (opened b) →
      s2 ≡ puts after s1 (pieces Primary e) →
      s3 ≡ puts after s2 (tight piece Dot ∷ []) →
      s4 ≡ puts after s3 (free piece (in_form x) ∷ []) →
      puts after s4 (closed b) ≡ puts after s (pieces l (Trees.Attribute e x c))
  unfolding written
  attribute b e x c s1 s2 s3 s4 h e1 e2 e3 e4 =
      within Primary b ((pieces Primary e) ++ ((tight piece Dot ∷ []) ++ ((free piece (in_form x) ∷ [])))) s1 s4 h e1 (e4
      ∙ three after s1 (pieces Primary e) (tight piece Dot ∷ []) (free piece (in_form x) ∷ []) s2 s3 e2 e3)

  pub subscript : (b : Bool) (e f : Expr) (c : Context) (s1 s2 s3 s4 s5 : S) →
      b ≡ reaches l Primary →
      s1 ≡ puts after s (opened b) →
      s2 ≡ puts after s1 (pieces Primary e) →
      s3 ≡ puts after s2 (tight piece LSqb ∷ []) →
      s4 ≡ puts after s3 (pieces Slices f) →
      s5 ≡ puts after s4 (trailing piece RSqb ∷ []) →
      puts after s5 (closed b) ≡ puts after s (pieces l (Trees.Subscript e f c))
  unfolding written
  subscript b e f c s1 s2 s3 s4 s5 h e1 e2 e3 e4 e5 =
      within Primary b ((pieces Primary e) ++ ((tight piece LSqb ∷ []) ++ ((pieces Slices f) ++ ((trailing piece RSqb ∷ []))))) s1 s5 h e1
      (e5 ∙ four after s1 (pieces Primary e) (tight piece LSqb ∷ []) (pieces Slices f) (trailing piece RSqb ∷ []) s2 s3 s4 e2 e3 e4)

  pub call : (b : Bool) (f : Expr) (es : Exprs) (ks : Keywords) (s1 s2 s3 s4 s5 : S) →
      b ≡ reaches l Primary →
      s1 ≡ puts after s (opened b) →
      s2 ≡ puts after s1 (pieces Primary f) →
      s3 ≡ puts after s2 (tight piece LPar ∷ []) →
      s4 ≡ puts after s3 (if lone_generator es ks then alone piece es else listed piece (each piece Named es ++ by_name piece ks)) →
      s5 ≡ puts after s4 (trailing piece RPar ∷ []) →
      puts after s5 (closed b) ≡ puts after s (pieces l (Trees.Call f es ks))
  unfolding written
  call b f es ks s1 s2 s3 s4 s5 h e1 e2 e3 e4 e5 =
      within Primary b ((pieces Primary f) ++
      ((tight piece LPar ∷ []) ++ ((if lone_generator es ks then alone piece es else listed piece (each piece Named es ++ by_name piece ks))
      ++ ((trailing piece RPar ∷ []))))) s1 s5 h e1 (e5 ∙ four after s1 (pieces Primary f) (tight piece LPar ∷ [])
      (if lone_generator es ks then alone piece es else listed piece (each piece Named es ++ by_name piece ks))
      (trailing piece RPar ∷ []) s2 s3 s4 e2 e3 e4)

  pub slice : (b : Bool) (a b1 c : OptionalExpr) (s1 s2 s3 s4 s5 : S) →
      b ≡ reaches l Slice →
      s1 ≡ puts after s (opened b) →
      s2 ≡ puts after s1 (perhaps piece Expression a) →
      s3 ≡ puts after s2 (tight piece Colon ∷ []) →
      s4 ≡ puts after s3 (perhaps piece Expression b1) →
      s5 ≡ puts after s4 (suffixed piece (tight piece Colon) c) →
      puts after s5 (closed b) ≡ puts after s (pieces l (Trees.Slice a b1 c))
  unfolding written
  slice b a b1 c s1 s2 s3 s4 s5 h e1 e2 e3 e4 e5 =
      within Slice b ((perhaps piece Expression a) ++
      ((tight piece Colon ∷ []) ++ ((perhaps piece Expression b1) ++ ((suffixed piece (tight piece Colon) c))))) s1 s5 h e1 (e5
      ∙ four after s1 (perhaps piece Expression a) (tight piece Colon ∷ []) (perhaps piece Expression b1)
      (suffixed piece (tight piece Colon) c) s2 s3 s4 e2 e3 e4)

  binary_of : (b : Bool) (a : Expr) (o : Operator) (e : Expr) (s1 s2 s3 s4 : S) →
      b ≡ reaches l (operator_level o) →
      s1 ≡ puts after s (opened b) →
      s2 ≡ puts after s1 (pieces (left_level o) a) →
      s3 ≡ puts after s2 (free piece (operator_sign o) ∷ []) →
      s4 ≡ puts after s3 (pieces (right_level o) e) →
      puts after s4 (closed b) ≡ puts after s (pieces l (Trees.BinOp a o e))
  unfolding written
  binary_of b a o e s1 s2 s3 s4 h e1 e2 e3 e4 =
      within (operator_level o) b ((pieces (left_level o) a) ++ ((free piece (operator_sign o) ∷ []) ++ ((pieces (right_level o) e)))) s1 s4
      h e1 (e4 ∙ three after s1 (pieces (left_level o) a) (free piece (operator_sign o) ∷ []) (pieces (right_level o) e) s2 s3 e2 e3)

  pub binary : (b : Bool) (a : Expr) (o : Operator) (e : Expr) (j k : Level) (x : Exact) (s1 s2 s3 s4 : S) →
      b ≡ reaches l (operator_level o) → j ≡ left_level o → k ≡ right_level o → Op x ≡ operator_sign o →
      s1 ≡ puts after s (opened b) → s2 ≡ puts after s1 (pieces j a) → s3 ≡ puts after s2 (sited (Op x) false false ∷ [])
      → s4 ≡ puts after s3 (pieces k e) →
      puts after s4 (closed b) ≡ puts after s (pieces l (Trees.BinOp a o e))
  binary b a o e j k x s1 s2 s3 s4 hb hj hk hx e1 e2 e3 e4 = binary_of b a o e s1 s2 s3 s4 hb e1
      (e2 ∙ ap (λ z. puts after s1 (pieces z a)) hj) (e3 ∙ ap (λ z. puts after s2 (sited z false false ∷ [])) hx) (e4
      ∙ ap (λ z. puts after s3 (pieces z e)) hk)

-- a dictionary needs no brackets
pub dict_pieces : (l : Level) (ks : OptionalExprs) (es : Exprs) →
    pieces l (Trees.Dict ks es) ≡ enclosed piece (leading piece LBrace) RBrace (listed piece (pairs piece (written_keys piece ks) es))
unfolding written
dict_pieces l ks es = refl

pub dict_comprehension : {S : Type 0} (after : S → Sited → S) (s : S) (k e : Expr) (gs : Comprehensions) (s1 s2 s3 s4 s5 : S) →
    s1 ≡ puts after s (leading piece LBrace ∷ []) → s2 ≡ puts after s1 (pieces Expression k)
    → s3 ≡ puts after s2 (trailing piece Colon ∷ []) →
    s4 ≡ puts after s3 (pieces Expression e) → s5 ≡ puts after s4 (clauses piece gs) →
    puts after s5 (trailing piece RBrace ∷ []) ≡ puts after s
    (enclosed piece (leading piece LBrace) RBrace
    (pieces Expression k ++ (trailing piece Colon ∷ (pieces Expression e ++ clauses piece gs))))
dict_comprehension after s k e gs s1 s2 s3 s4 s5 e1 e2 e3 e4 e5 =
    six after s (leading piece LBrace ∷ []) (pieces Expression k) (trailing piece Colon ∷ []) (pieces Expression e) (clauses piece gs)
    (trailing piece RBrace ∷ []) s1 s2 s3 s4 s5 e1 e2 e3 e4 e5
    ∙ ap (λ z. puts after s (leading piece LBrace ∷ z)) (regroup (pieces Expression k) (pieces Expression e) (clauses piece gs)
    (trailing piece Colon) (trailing piece RBrace ∷ []))
  where
    regroup : (a b c : List Sited) (x : Sited) (d : List Sited) → a ++ (x ∷ (b ++ (c ++ d))) ≡ (a ++ (x ∷ (b ++ c))) ++ d
    regroup a b c x d = ap (λ z. a ++ (x ∷ z)) (sym (append_assoc b c d)) ∙ sym (append_assoc a (x ∷ (b ++ c)) d)
