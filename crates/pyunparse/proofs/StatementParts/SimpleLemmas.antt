-- Carries: write_simple and the functions that it calls. What is written for each simple
-- statement, part by part.
use Rattle.std.proofs.Common.{◌≡◌, ◌∙◌, ℕ, Bool, true, false, not, List, [], ◌∷◌, ◌++◌, map, Global, Option, refl, ap, sym, append-nil}
use Rattle.std.specs.Str.{chars}
use Rattle.std.specs.declared.vec.Vec.{Vec}
use Rattle.std.specs.declared.boxed.Box.{Box}
use Rattle.pylex_lexeme.specs.declared.kinds.Exact.{Exact}
use Rattle.pylex_lexeme.specs.declared.kinds.Exact.TheVariants.{Colon, Comma, Equal}
use Rattle.pytoken.specs.declared.keywords.Keyword.TheVariants as Key
use Rattle.pytree_node.specs.declared.operators.Operator.{Operator}
use Rattle.pytree_node.specs.declared.expressions.Expr.{Expr}
use Rattle.pytree_node.specs.declared.statements.Alias.{Alias}
use Rattle.pytree_node.specs.declared.statements.Stmt.{Stmt}
use Rattle.pytree_node.specs.declared.statements.Stmt.TheVariants as statement
use Rattle.pytree_node.specs.declared.statements.TypeParam.{TypeParam}
use Rattle.pytree_node.specs.Trees as plain
use Rattle.pytree_node.specs.Trees.{Identifier, exprs}
use Rattle.pytree_node.specs.TreeOf.{alias_of, boxed_of, option_of, stmt_of, tree_of, type_param_of}
use Rattle.pytree_node.proofs.Callers.StmtShapes.{ann_assign_tree, assert_tree, assign_tree, aug_assign_tree, break_tree, continue_tree}
use Rattle.pytree_node.proofs.Callers.StmtShapes.{delete_tree, expr_stmt_tree, global_tree, import_from_tree, import_tree, nonlocal_tree}
use Rattle.pytree_node.proofs.Callers.StmtShapes.{pass_tree, raise_tree, return_tree, type_alias_tree}
use Rattle.pygrammar.specs.declared.levels.Level.TheVariants as Level
use Rattle.pygrammar.specs.Forms.{type_name}
use Rattle.pytoken.specs.Terminals.{in_form, Op}
use Rattle.pyunparse_text.specs.Pieces.{Sited, piece, pieces, sited}
use Rattle.pyunparse_text.specs.Statements.{annotated, annotated_in_brackets, augmented_sign, following, dotted_alias, one_name}
use Rattle.pyunparse_text.specs.Statements.{perhaps_written, simple_tokens, targets, type_params}
use Rattle.pyunparse_text.specs.Written.{each, free, listed, trailing, word, written}
use Rattle.pyunparse_text.specs.Folds.{closed, opened, puts}
use Rattle.pyunparse.proofs.Sequences.FoldLemmas.{five, four, three, two}

-- `type` as it stands in the code
type_text : chars (116 ∷ 121 ∷ 112 ∷ 101 ∷ []) ≡ type_name
unfolding chars
type_text = refl

annotated_parts : (t : plain.Expr) (simple : Bool) →
    opened (not (annotated_in_brackets t simple)) ++ (pieces Level.Primary t ++ closed (not (annotated_in_brackets t simple))) ≡
    annotated piece t simple
unfolding written
annotated_parts (plain.Name x c) false = refl
annotated_parts (plain.Name x c) true = append-nil (pieces Level.Primary (plain.Name x c))
annotated_parts t simple = append-nil (pieces Level.Primary t)

module _ {S : Type 0} (after : S → Sited → S) (s : S) where
  pub raise_on : (e c : Option plain.Expr) (s1 s2 : S) → s1 ≡ puts after s (word piece Key.Raise ∷ [])
      → s2 ≡ puts after s1 (perhaps_written piece Level.Expression e) →
      puts after s2 (following piece (word piece Key.From) Level.Expression c) ≡ puts after s (simple_tokens piece (plain.Raise e c))
  raise_on e c s1 s2 e1 e2 = three after s (word piece Key.Raise ∷ []) (perhaps_written piece Level.Expression e)
      (following piece (word piece Key.From) Level.Expression c) s1 s2 e1 e2

  pub assert_on : (e : plain.Expr) (m : Option plain.Expr) (s1 s2 : S) → s1 ≡ puts after s (word piece Key.Assert ∷ [])
      → s2 ≡ puts after s1 (pieces Level.Expression e) →
      puts after s2 (following piece (trailing piece Comma) Level.Expression m) ≡ puts after s (simple_tokens piece (plain.Assert e m))
  assert_on e m s1 s2 e1 e2 = three after s (word piece Key.Assert ∷ []) (pieces Level.Expression e)
      (following piece (trailing piece Comma) Level.Expression m) s1 s2 e1 e2

  -- the target of an annotation, in its brackets or without
  pub annotated_on : (t : plain.Expr) (simple r : Bool) (s1 s2 : S) → r ≡ annotated_in_brackets t simple →
      s1 ≡ puts after s (opened (not r)) → s2 ≡ puts after s1 (pieces Level.Primary t) →
      puts after s2 (closed (not r)) ≡ puts after s (annotated piece t simple)
  annotated_on t simple r s1 s2 h e1 e2 =
      three after s (opened (not r)) (pieces Level.Primary t) (closed (not r)) s1 s2 e1 e2
      ∙ ap (λ z. puts after s (opened (not z) ++ (pieces Level.Primary t ++ closed (not z)))) h
      ∙ ap (puts after s) (annotated_parts t simple)

  -- by the class of a statement
  module _ (r : Stmt) where
    same : (t : plain.Stmt) → stmt_of r ≡ t → puts after s (simple_tokens piece t) ≡ puts after s (simple_tokens piece (stmt_of r))
    same t e = ap (λ z. puts after s (simple_tokens piece z)) (sym e)

    pub expression_is : (e : Expr) → r ≡ statement.Expr e → puts after s (pieces Level.Value (tree_of e)) ≡ puts after s
        (simple_tokens piece (stmt_of r))
    expression_is e is = same (plain.ExprOf (tree_of e)) (ap stmt_of is ∙ expr_stmt_tree e)

    pub assign_on : (ts : Vec Expr Global) (e : Expr) (es : List Expr) (s1 : S) → r ≡ statement.Assign ts e → es ≡ ts.items →
        s1 ≡ puts after s (targets piece (map tree_of es)) → puts after s1 (pieces Level.Value (tree_of e)) ≡ puts after s
        (simple_tokens piece (stmt_of r))
    assign_on ts e es s1 is same_targets e1 =
        two after s (targets piece (map tree_of es)) (pieces Level.Value (tree_of e)) s1 e1
        ∙ ap (λ z. puts after s (simple_tokens piece (plain.Assign (map tree_of z) (tree_of e)))) same_targets
        ∙ same (plain.Assign (map tree_of ts.items) (tree_of e)) (ap stmt_of is ∙ assign_tree ts e)

    pub augmented_on : (t : Box Expr Global) (o : Operator) (e u : Expr) (x : Exact) (s1 s2 : S) → r ≡ statement.AugAssign t o e
        → u ≡ t.value → x ≡ augmented_sign o →
        s1 ≡ puts after s (pieces Level.Primary (tree_of u)) → s2 ≡ puts after s1 (sited (Op x) false false ∷ []) →
        puts after s2 (pieces Level.Value (tree_of e)) ≡ puts after s (simple_tokens piece (stmt_of r))
    augmented_on t o e u x s1 s2 is same_target sign e1 e2 =
        three after s (pieces Level.Primary (tree_of u)) (free piece (Op (augmented_sign o)) ∷ []) (pieces Level.Value (tree_of e)) s1 s2 e1
        (e2 ∙ ap (λ z. puts after s1 (free piece (Op z) ∷ [])) sign)
        ∙ (λ i. puts after s (simple_tokens piece (plain.AugAssign (tree_of (same_target i)) o (tree_of e))))
        ∙ same (plain.AugAssign (tree_of t.value) o (tree_of e)) (ap stmt_of is ∙ aug_assign_tree t o e)

    pub annotation_on : {t a : Box Expr Global} {v : Option (Box Expr Global)} {simple : Bool} {u b : Expr} {s1 s2 s3 : S}
        → r ≡ statement.AnnAssign t a v simple → u ≡ t.value → b ≡ a.value →
        s1 ≡ puts after s (annotated piece (tree_of u) simple) → s2 ≡ puts after s1 (trailing piece Colon ∷ [])
        → s3 ≡ puts after s2 (pieces Level.Expression (tree_of b)) →
        puts after s3 (following piece (free piece (Op Equal)) Level.Value (boxed_of v)) ≡ puts after s (simple_tokens piece (stmt_of r))
    annotation_on {t} {a} {v} {simple} {u} {b} {s1} {s2} {s3} is same_target same_annotation e1 e2 e3 =
        four after s (annotated piece (tree_of u) simple) (trailing piece Colon ∷ []) (pieces Level.Expression (tree_of b))
        (following piece (free piece (Op Equal)) Level.Value (boxed_of v)) s1 s2 s3 e1 e2 e3
        ∙ (λ i. puts after s
        (simple_tokens piece (plain.AnnAssign (tree_of (same_target i)) (tree_of (same_annotation i)) (boxed_of v) simple)))
        ∙ same (plain.AnnAssign (tree_of t.value) (tree_of a.value) (boxed_of v) simple) (ap stmt_of is ∙ ann_assign_tree t a v simple)

    pub alias_on : {t : Box Expr Global} {ps : Vec TypeParam Global} {e : Box Expr Global} {u v : Expr} {qs : List TypeParam}
        {s1 s2 s3 s4 : S} → r ≡ statement.TypeAlias t ps e → u ≡ t.value → qs ≡ ps.items → v ≡ e.value →
        s1 ≡ puts after s (sited (in_form (chars (116 ∷ 121 ∷ 112 ∷ 101 ∷ []))) false false ∷ [])
        → s2 ≡ puts after s1 (pieces Level.Primary (tree_of u)) →
        s3 ≡ puts after s2 (type_params piece (map type_param_of qs)) → s4 ≡ puts after s3 (free piece (Op Equal) ∷ []) →
        puts after s4 (pieces Level.Expression (tree_of v)) ≡ puts after s (simple_tokens piece (stmt_of r))
    alias_on {t} {ps} {e} {u} {v} {qs} {s1} {s2} {s3} {s4} is same_name same_parameters same_value e1 e2 e3 e4 =
        five after s (free piece (in_form type_name) ∷ []) (pieces Level.Primary (tree_of u)) (type_params piece (map type_param_of qs))
        (free piece (Op Equal) ∷ []) (pieces Level.Expression (tree_of v)) s1 s2 s3 s4
        (e1 ∙ ap (λ z. puts after s (free piece (in_form z) ∷ [])) type_text) e2 e3 e4
        ∙ (λ i. puts after s (simple_tokens piece
        (plain.TypeAlias (tree_of (same_name i)) (map type_param_of (same_parameters i)) (tree_of (same_value i)))))
        ∙ same (plain.TypeAlias (tree_of t.value) (map type_param_of ps.items) (tree_of e.value)) (ap stmt_of is ∙ type_alias_tree t ps e)

    pub return_on : (e : Option Expr) (s1 : S) → r ≡ statement.Return e → s1 ≡ puts after s (word piece Key.Return ∷ []) →
        puts after s1 (perhaps_written piece Level.Stars (option_of e)) ≡ puts after s (simple_tokens piece (stmt_of r))
    return_on e s1 is e1 =
        two after s (word piece Key.Return ∷ []) (perhaps_written piece Level.Stars (option_of e)) s1 e1
        ∙ same (plain.Return (option_of e)) (ap stmt_of is ∙ return_tree e)

    pub raise_is : (e c : Option (Box Expr Global)) → r ≡ statement.Raise e c
        → puts after s (simple_tokens piece (plain.Raise (boxed_of e) (boxed_of c))) ≡ puts after s (simple_tokens piece (stmt_of r))
    raise_is e c is = same (plain.Raise (boxed_of e) (boxed_of c)) (ap stmt_of is ∙ raise_tree e c)

    pub assert_is : (e : Expr) (m : Option (Box Expr Global)) → r ≡ statement.Assert e m
        → puts after s (simple_tokens piece (plain.Assert (tree_of e) (boxed_of m))) ≡ puts after s (simple_tokens piece (stmt_of r))
    assert_is e m is = same (plain.Assert (tree_of e) (boxed_of m)) (ap stmt_of is ∙ assert_tree e m)

    pub delete_on : (ts : Vec Expr Global) (es : List Expr) (s1 : S) → r ≡ statement.Delete ts → es ≡ ts.items
        → s1 ≡ puts after s (word piece Key.Del ∷ []) →
        puts after s1 (listed piece (each piece Level.Expression (exprs (map tree_of es)))) ≡ puts after s (simple_tokens piece (stmt_of r))
    delete_on ts es s1 is same_targets e1 =
        two after s (word piece Key.Del ∷ []) (listed piece (each piece Level.Expression (exprs (map tree_of es)))) s1 e1
        ∙ ap (λ z. puts after s (simple_tokens piece (plain.Delete (map tree_of z)))) same_targets
        ∙ same (plain.Delete (map tree_of ts.items)) (ap stmt_of is ∙ delete_tree ts)

    pub global_on : (xs : Vec Identifier Global) (ys : List Identifier) (s1 : S) → r ≡ statement.Global xs → ys ≡ xs.items
        → s1 ≡ puts after s (word piece Key.Global ∷ []) →
        puts after s1 (listed piece (map (one_name piece) ys)) ≡ puts after s (simple_tokens piece (stmt_of r))
    global_on xs ys s1 is same_names e1 =
        two after s (word piece Key.Global ∷ []) (listed piece (map (one_name piece) ys)) s1 e1
        ∙ ap (λ z. puts after s (simple_tokens piece (plain.Global z))) same_names
        ∙ same (plain.Global xs.items) (ap stmt_of is ∙ global_tree xs)

    pub nonlocal_on : (xs : Vec Identifier Global) (ys : List Identifier) (s1 : S) → r ≡ statement.Nonlocal xs → ys ≡ xs.items
        → s1 ≡ puts after s (word piece Key.Nonlocal ∷ []) →
        puts after s1 (listed piece (map (one_name piece) ys)) ≡ puts after s (simple_tokens piece (stmt_of r))
    nonlocal_on xs ys s1 is same_names e1 =
        two after s (word piece Key.Nonlocal ∷ []) (listed piece (map (one_name piece) ys)) s1 e1
        ∙ ap (λ z. puts after s (simple_tokens piece (plain.Nonlocal z))) same_names
        ∙ same (plain.Nonlocal xs.items) (ap stmt_of is ∙ nonlocal_tree xs)

    pub pass_is : r ≡ statement.Pass → puts after s (word piece Key.Pass ∷ []) ≡ puts after s (simple_tokens piece (stmt_of r))
    pass_is is = same plain.Pass (ap stmt_of is ∙ pass_tree)

    pub break_is : r ≡ statement.Break → puts after s (word piece Key.Break ∷ []) ≡ puts after s (simple_tokens piece (stmt_of r))
    break_is is = same plain.Break (ap stmt_of is ∙ break_tree)

    pub continue_is : r ≡ statement.Continue → puts after s (word piece Key.Continue ∷ []) ≡ puts after s (simple_tokens piece (stmt_of r))
    continue_is is = same plain.Continue (ap stmt_of is ∙ continue_tree)

    pub import_on : (names : Vec Alias Global) (ns : List Alias) (s1 : S) → r ≡ statement.Import names → ns ≡ names.items
        → s1 ≡ puts after s (word piece Key.Import ∷ []) →
        puts after s1 (listed piece (map (dotted_alias piece) (map alias_of ns))) ≡ puts after s (simple_tokens piece (stmt_of r))
    import_on names ns s1 is same_names e1 =
        two after s (word piece Key.Import ∷ []) (listed piece (map (dotted_alias piece) (map alias_of ns))) s1 e1
        ∙ ap (λ z. puts after s (simple_tokens piece (plain.Import (map alias_of z)))) same_names
        ∙ same (plain.Import (map alias_of names.items)) (ap stmt_of is ∙ import_tree names)

    pub import_from_is : (m : Option Identifier) (names : Vec Alias Global) (n : ℕ) (ns : List Alias)
        → r ≡ statement.ImportFrom m names n → ns ≡ names.items →
        puts after s (simple_tokens piece (plain.ImportFrom m (map alias_of ns) n)) ≡ puts after s (simple_tokens piece (stmt_of r))
    import_from_is m names n ns is same_names =
        ap (λ z. puts after s (simple_tokens piece (plain.ImportFrom m (map alias_of z) n))) same_names
        ∙ same (plain.ImportFrom m (map alias_of names.items) n) (ap stmt_of is ∙ import_from_tree m names n)
