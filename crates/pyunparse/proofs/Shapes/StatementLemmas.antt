-- Carries: is_if, write_elif, write_alternative, write_stmt, write_simple. A statement of the
-- program has the shape that its value has.
use Rattle.std.proofs.Common.{◌≡◌, ◌∙◌, ℕ, Bool, true, false, List, [], ◌∷◌, length, get_or, map, Global, Option, refl, ap, sym, subst}
use Rattle.std.specs.declared.vec.Vec.{Vec}
use Rattle.std.specs.declared.boxed.Box.{Box}
use Rattle.pytree_node.specs.declared.operators.Operator.{Operator}
use Rattle.pytree_node.specs.declared.expressions.Expr.{Expr}
use Rattle.pytree_node.specs.declared.statements.Alias.{Alias}
use Rattle.pytree_node.specs.declared.statements.Item.{Item}
use Rattle.pytree_node.specs.declared.statements.TypeParam.{TypeParam}
use Rattle.pytree_node.specs.declared.statements.Case.{Case}
use Rattle.pytree_node.specs.declared.statements.ClassDef.{ClassDef}
use Rattle.pytree_node.specs.declared.statements.FunctionDef.{FunctionDef}
use Rattle.pytree_node.specs.declared.statements.Try.{Try}
use Rattle.pytree_node.specs.declared.statements.Stmt.{Stmt}
use Rattle.pytree_node.specs.declared.statements.Stmt.TheVariants as variant
use Rattle.pytree_node.specs.Trees as plain
use Rattle.pytree_node.specs.Trees.{Identifier}
use Rattle.pytree_node.specs.TreeOf.{stmt_of}
use Rattle.pytree_node.proofs.Callers.StmtClasses.{HasClass, has_class}
use Rattle.pygrammar.specs.Lines.{else_header}
use Rattle.pyunparse_text.specs.Modules.{alternative, clause, lines_of, statement_lines, written_line}
use Rattle.pyunparse_text.specs.Pieces.{piece}
use Rattle.pyunparse_text.specs.Statements.{simple_tokens}
use Rattle.pyunparse.specs.Inner.Lines.{elif_lines, is_if}
use Rattle.pyunparse_text.proofs.Callers.Writing.{one_item}

-- any other statement than one with a block, on its line
module _ (s : Stmt)
    (no_if : (test : Box Expr Global) (body : Vec Stmt Global) (orelse : Vec Stmt Global) → s ≡ variant.If test body orelse → ⊥)
    (no_while : (test : Box Expr Global) (body : Vec Stmt Global) (orelse : Vec Stmt Global) → s ≡ variant.While test body orelse → ⊥)
    (no_for : (target : Box Expr Global) (iter : Box Expr Global) (body : Vec Stmt Global) (orelse : Vec Stmt Global)
    → s ≡ variant.For target iter body orelse → ⊥)
    (no_async_for : (target : Box Expr Global) (iter : Box Expr Global) (body : Vec Stmt Global) (orelse : Vec Stmt Global)
    → s ≡ variant.AsyncFor target iter body orelse → ⊥)
    (no_with : (items : Vec Item Global) (body : Vec Stmt Global) → s ≡ variant.With items body → ⊥)
    (no_async_with : (items : Vec Item Global) (body : Vec Stmt Global) → s ≡ variant.AsyncWith items body → ⊥)
    (no_match : (subject : Expr) (clauses : Vec Case Global) → s ≡ variant.Match subject clauses → ⊥)
    (no_try : (parts : Box Try Global) → s ≡ variant.Try parts → ⊥)
    (no_try_star : (parts : Box Try Global) → s ≡ variant.TryStar parts → ⊥)
    (no_function_def : (def : Box FunctionDef Global) → s ≡ variant.FunctionDef def → ⊥)
    (no_async_function_def : (def : Box FunctionDef Global) → s ≡ variant.AsyncFunctionDef def → ⊥)
    (no_class_def : (class : Box ClassDef Global) → s ≡ variant.ClassDef class → ⊥) where
  none_compound : (t : plain.Stmt) → HasClass t s → (l : ℕ) → written_line l (simple_tokens piece t) ∷ [] ≡ statement_lines piece l t
  unfolding lines_of
  none_compound (plain.If _ _ _) h l = absurd (no_if h.0 h.1 h.2 h.3)
  none_compound (plain.While _ _ _) h l = absurd (no_while h.0 h.1 h.2 h.3)
  none_compound (plain.For _ _ _ _) h l = absurd (no_for h.0 h.1 h.2 h.3 h.4)
  none_compound (plain.AsyncFor _ _ _ _) h l = absurd (no_async_for h.0 h.1 h.2 h.3 h.4)
  none_compound (plain.With _ _) h l = absurd (no_with h.0 h.1 h.2)
  none_compound (plain.AsyncWith _ _) h l = absurd (no_async_with h.0 h.1 h.2)
  none_compound (plain.Match _ _) h l = absurd (no_match h.0 h.1 h.2)
  none_compound (plain.Try _ _ _ _) h l = absurd (no_try h.0 h.1)
  none_compound (plain.TryStar _ _ _ _) h l = absurd (no_try_star h.0 h.1)
  none_compound (plain.FunctionDef _ _ _ _ _ _) h l = absurd (no_function_def h.0 h.1)
  none_compound (plain.AsyncFunctionDef _ _ _ _ _ _) h l = absurd (no_async_function_def h.0 h.1)
  none_compound (plain.ClassDef _ _ _ _ _ _) h l = absurd (no_class_def h.0 h.1)
  none_compound _ h l = refl

  pub not_compound : (l : ℕ) → written_line l (simple_tokens piece (stmt_of s)) ∷ [] ≡ statement_lines piece l (stmt_of s)
  not_compound = none_compound (stmt_of s) (has_class s)

-- any other statement than a simple one has no tokens of its own
module _ (s : Stmt)
    (no_expr_stmt : (value : Expr) → s ≡ variant.Expr value → ⊥)
    (no_assign : (targets : Vec Expr Global) (value : Expr) → s ≡ variant.Assign targets value → ⊥)
    (no_aug_assign : (target : Box Expr Global) (op : Operator) (value : Expr) → s ≡ variant.AugAssign target op value → ⊥)
    (no_ann_assign : (target : Box Expr Global) (annotation : Box Expr Global) (value : Option (Box Expr Global)) (simple : Bool)
    → s ≡ variant.AnnAssign target annotation value simple → ⊥)
    (no_type_alias : (name : Box Expr Global) (parameters : Vec TypeParam Global) (value : Box Expr Global)
    → s ≡ variant.TypeAlias name parameters value → ⊥)
    (no_return : (value : Option Expr) → s ≡ variant.Return value → ⊥)
    (no_raise : (exc : Option (Box Expr Global)) (cause : Option (Box Expr Global)) → s ≡ variant.Raise exc cause → ⊥)
    (no_assert : (test : Expr) (msg : Option (Box Expr Global)) → s ≡ variant.Assert test msg → ⊥)
    (no_delete : (targets : Vec Expr Global) → s ≡ variant.Delete targets → ⊥)
    (no_global : (names : Vec Identifier Global) → s ≡ variant.Global names → ⊥)
    (no_nonlocal : (names : Vec Identifier Global) → s ≡ variant.Nonlocal names → ⊥)
    (no_pass : s ≡ variant.Pass → ⊥)
    (no_break : s ≡ variant.Break → ⊥)
    (no_continue : s ≡ variant.Continue → ⊥)
    (no_import : (names : Vec Alias Global) → s ≡ variant.Import names → ⊥)
    (no_import_from : (source : Option Identifier) (names : Vec Alias Global) (level : ℕ)
    → s ≡ variant.ImportFrom source names level → ⊥) where
  none_simple : (t : plain.Stmt) → HasClass t s → simple_tokens piece t ≡ []
  none_simple (plain.ExprOf _) h = absurd (no_expr_stmt h.0 h.1)
  none_simple (plain.Assign _ _) h = absurd (no_assign h.0 h.1 h.2)
  none_simple (plain.AugAssign _ _ _) h = absurd (no_aug_assign h.0 h.1 h.2 h.3)
  none_simple (plain.AnnAssign _ _ _ _) h = absurd (no_ann_assign h.0 h.1 h.2 h.3 h.4)
  none_simple (plain.TypeAlias _ _ _) h = absurd (no_type_alias h.0 h.1 h.2 h.3)
  none_simple (plain.Return _) h = absurd (no_return h.0 h.1)
  none_simple (plain.Raise _ _) h = absurd (no_raise h.0 h.1 h.2)
  none_simple (plain.Assert _ _) h = absurd (no_assert h.0 h.1 h.2)
  none_simple (plain.Delete _) h = absurd (no_delete h.0 h.1)
  none_simple (plain.Global _) h = absurd (no_global h.0 h.1)
  none_simple (plain.Nonlocal _) h = absurd (no_nonlocal h.0 h.1)
  none_simple plain.Pass h = absurd (no_pass h)
  none_simple plain.Break h = absurd (no_break h)
  none_simple plain.Continue h = absurd (no_continue h)
  none_simple (plain.Import _) h = absurd (no_import h.0 h.1)
  none_simple (plain.ImportFrom _ _ _) h = absurd (no_import_from h.0 h.1 h.2 h.3)
  none_simple _ h = refl

  pub not_simple : simple_tokens piece (stmt_of s) ≡ []
  not_simple = none_simple (stmt_of s) (has_class s)

-- no `if`
module _ (s : Stmt) (no_if : (test : Box Expr Global) (body : Vec Stmt Global) (orelse : Vec Stmt Global)
    → s ≡ variant.If test body orelse → ⊥) where
  none_if : (t : plain.Stmt) → HasClass t s → is_if t ≡ false
  none_if (plain.If _ _ _) h = absurd (no_if h.0 h.1 h.2 h.3)
  none_if _ h = refl

  pub not_if : is_if (stmt_of s) ≡ false
  not_if = none_if (stmt_of s) (has_class s)

  none_elif : (l : ℕ) (t : plain.Stmt) → HasClass t s → elif_lines l t ≡ []
  none_elif l (plain.If _ _ _) h = absurd (no_if h.0 h.1 h.2 h.3)
  none_elif l _ h = refl

  pub not_elif : (l : ℕ) → elif_lines l (stmt_of s) ≡ []
  not_elif l = none_elif l (stmt_of s) (has_class s)

-- an `if` alone, and any other statements
pub lone_if : (l : ℕ) (s : plain.Stmt) → is_if s ≡ true → elif_lines l s ≡ alternative piece l (plain.a_stmt s plain.no_stmt)
unfolding lines_of
lone_if l (plain.If _ _ _) e = refl
lone_if l _ e = cc

pub lone_other : (l : ℕ) (s : plain.Stmt) → is_if s ≡ false → clause piece l else_header (plain.a_stmt s plain.no_stmt) ≡ alternative piece
    l (plain.a_stmt s plain.no_stmt)
unfolding lines_of
lone_other l (plain.If _ _ _) e = cc
lone_other l _ e = refl

pub more_others : (l : ℕ) (s r : plain.Stmt) (ss : plain.Stmts) → clause piece l else_header (plain.a_stmt s (plain.a_stmt r ss)) ≡
    alternative piece l (plain.a_stmt s (plain.a_stmt r ss))
unfolding lines_of
more_others l (plain.If _ _ _) r ss = refl
more_others l _ r ss = refl

pub no_others : (l : ℕ) → clause piece l else_header plain.no_stmt ≡ alternative piece l plain.no_stmt
unfolding lines_of
no_others l = refl

-- of the program's statements
pub not_one : (l : ℕ) (ss : List Stmt) → (length ss ≡ 1 → ⊥) → clause piece l else_header (plain.stmts (map stmt_of ss)) ≡ alternative piece
    l (plain.stmts (map stmt_of ss))
not_one l [] n = no_others l
not_one l (s ∷ []) n = absurd (n refl)
not_one l (s ∷ (r ∷ ss)) n = more_others l (stmt_of s) (stmt_of r) (plain.stmts (map stmt_of ss))

pub one_if : (l : ℕ) (ss : List Stmt) (s : Stmt) → length ss ≡ 1 → s ≡ get_or ss 0 s → is_if (stmt_of s) ≡ true
    → elif_lines l (stmt_of s) ≡ alternative piece l (plain.stmts (map stmt_of ss))
one_if l ss s e read h = lone_if l (stmt_of s) h ∙ ap (λ z. alternative piece l (plain.stmts (map stmt_of z))) (sym (one_item ss s e read))

pub one_other : (l : ℕ) (ss : List Stmt) (s : Stmt) → length ss ≡ 1 → s ≡ get_or ss 0 s → is_if (stmt_of s) ≡ false →
    clause piece l else_header (plain.stmts (map stmt_of ss)) ≡ alternative piece l (plain.stmts (map stmt_of ss))
one_other l ss s e read h =
    ap (λ z. clause piece l else_header (plain.stmts (map stmt_of z))) (one_item ss s e read) ∙ lone_other l (stmt_of s) h
    ∙ ap (λ z. alternative piece l (plain.stmts (map stmt_of z))) (sym (one_item ss s e read))
