-- A statement of the program is of the class of its value.
--
-- Carries: what is proved of a match on statements in the crates above.
use Rattle.std.proofs.Common.{◌≡◌, ℕ, Bool, Global, Option, refl, sym, subst}
use Rattle.std.specs.declared.vec.Vec.{Vec}
use Rattle.std.specs.declared.boxed.Box.{Box}
use Rattle.pytree_node.specs.declared.operators.Operator.{Operator}
use Rattle.pytree_node.specs.declared.expressions.Arguments.{Arguments}
use Rattle.pytree_node.specs.declared.expressions.Expr.{Expr}
use Rattle.pytree_node.specs.declared.expressions.Keyword.{Keyword}
use Rattle.pytree_node.specs.declared.statements.Alias.{Alias}
use Rattle.pytree_node.specs.declared.statements.Item.{Item}
use Rattle.pytree_node.specs.declared.statements.TypeParam.{TypeParam}
use Rattle.pytree_node.specs.declared.statements.Case.{Case}
use Rattle.pytree_node.specs.declared.statements.ClassDef.{ClassDef}
use Rattle.pytree_node.specs.declared.statements.FunctionDef.{FunctionDef}
use Rattle.pytree_node.specs.declared.statements.Handler.{Handler}
use Rattle.pytree_node.specs.declared.statements.Try.{Try}
use Rattle.pytree_node.specs.declared.statements.Stmt as given
use Rattle.pytree_node.specs.declared.statements.Stmt.{Stmt}
use Rattle.pytree_node.specs.declared.statements.Stmt.TheVariants as variant
use Rattle.pytree_node.specs.declared.statements.Stmt.TheOpen as layer
use Rattle.pytree_node.specs.Trees as plain
use Rattle.pytree_node.specs.Trees.{Identifier}
use Rattle.pytree_node.specs.TreeOf.{stmt_of, case_of, class_def_of, function_def_of, handler_of, try_of}
use Rattle.pytree_node.specs.TreeOf.{stmt_step, case_step, class_def_step, function_def_step, handler_step, try_step}
use Rattle.pytree_node.proofs.Callers.StmtShapes.{Layer, valued, class_def_shape}

opened : (s : Stmt) → stmt_of s ≡ stmt_step (valued (given.out-Stmt s))
unfolding stmt_of case_of class_def_of function_def_of handler_of try_of
opened = given.fold_out-Stmt plain.Stmt plain.Case plain.Stmt plain.FunctionDefFields plain.Handler plain.TryFields
    stmt_step case_step class_def_step function_def_step handler_step try_step

-- it is of the class of this value
abbrev pub HasClass : plain.Stmt → Stmt → Type 0
HasClass (plain.FunctionDef _ _ _ _ _ _) given = (def : Box FunctionDef Global) × (given ≡ variant.FunctionDef def)
HasClass (plain.AsyncFunctionDef _ _ _ _ _ _) given = (def : Box FunctionDef Global) × (given ≡ variant.AsyncFunctionDef def)
HasClass (plain.ClassDef _ _ _ _ _ _) given = (class : Box ClassDef Global) × (given ≡ variant.ClassDef class)
HasClass (plain.Return _) given = (value : Option Expr) × (given ≡ variant.Return value)
HasClass (plain.Delete _) given = (targets : Vec Expr Global) × (given ≡ variant.Delete targets)
HasClass (plain.Assign _ _) given = (targets : Vec Expr Global) × (value : Expr) × (given ≡ variant.Assign targets value)
HasClass (plain.TypeAlias _ _ _) given = (name : Box Expr Global) × (parameters : Vec TypeParam Global) × (value : Box Expr Global) ×
    (given ≡ variant.TypeAlias name parameters value)
HasClass (plain.AugAssign _ _ _) given = (target : Box Expr Global) × (op : Operator) × (value : Expr) ×
    (given ≡ variant.AugAssign target op value)
HasClass (plain.AnnAssign _ _ _ _) given = (target : Box Expr Global) × (annotation : Box Expr Global) × (value : Option (Box Expr Global))
    × (simple : Bool) × (given ≡ variant.AnnAssign target annotation value simple)
HasClass (plain.For _ _ _ _) given = (target : Box Expr Global) × (iter : Box Expr Global) × (body : Vec Stmt Global) ×
    (orelse : Vec Stmt Global) × (given ≡ variant.For target iter body orelse)
HasClass (plain.AsyncFor _ _ _ _) given = (target : Box Expr Global) × (iter : Box Expr Global) × (body : Vec Stmt Global) ×
    (orelse : Vec Stmt Global) × (given ≡ variant.AsyncFor target iter body orelse)
HasClass (plain.While _ _ _) given = (test : Box Expr Global) × (body : Vec Stmt Global) × (orelse : Vec Stmt Global) ×
    (given ≡ variant.While test body orelse)
HasClass (plain.If _ _ _) given = (test : Box Expr Global) × (body : Vec Stmt Global) × (orelse : Vec Stmt Global) ×
    (given ≡ variant.If test body orelse)
HasClass (plain.With _ _) given = (items : Vec Item Global) × (body : Vec Stmt Global) × (given ≡ variant.With items body)
HasClass (plain.AsyncWith _ _) given = (items : Vec Item Global) × (body : Vec Stmt Global) × (given ≡ variant.AsyncWith items body)
HasClass (plain.Match _ _) given = (subject : Expr) × (clauses : Vec Case Global) × (given ≡ variant.Match subject clauses)
HasClass (plain.Raise _ _) given = (exc : Option (Box Expr Global)) × (cause : Option (Box Expr Global)) × (given ≡ variant.Raise exc cause)
HasClass (plain.Try _ _ _ _) given = (parts : Box Try Global) × (given ≡ variant.Try parts)
HasClass (plain.TryStar _ _ _ _) given = (parts : Box Try Global) × (given ≡ variant.TryStar parts)
HasClass (plain.Assert _ _) given = (test : Expr) × (msg : Option (Box Expr Global)) × (given ≡ variant.Assert test msg)
HasClass (plain.Import _) given = (names : Vec Alias Global) × (given ≡ variant.Import names)
HasClass (plain.ImportFrom _ _ _) given = (source : Option Identifier) × (names : Vec Alias Global) × (level : ℕ) ×
    (given ≡ variant.ImportFrom source names level)
HasClass (plain.Global _) given = (names : Vec Identifier Global) × (given ≡ variant.Global names)
HasClass (plain.Nonlocal _) given = (names : Vec Identifier Global) × (given ≡ variant.Nonlocal names)
HasClass (plain.ExprOf _) given = (value : Expr) × (given ≡ variant.Expr value)
HasClass plain.Pass given = (given ≡ variant.Pass)
HasClass plain.Break given = (given ≡ variant.Break)
HasClass plain.Continue given = (given ≡ variant.Continue)

layer_has_class : (node : Layer) → HasClass (stmt_step (valued node)) (given.roll-Stmt node)
unfolding given.roll-Stmt denote.Hole.Carrier.roll
layer_has_class (layer.FunctionDef def) = (def, refl)
layer_has_class (layer.AsyncFunctionDef def) = (def, refl)
layer_has_class (layer.ClassDef class) = subst (λ t. HasClass t (variant.ClassDef class)) (sym (class_def_shape class.value)) (class, refl)
layer_has_class (layer.Return value) = (value, refl)
layer_has_class (layer.Delete targets) = (targets, refl)
layer_has_class (layer.Assign targets value) = (targets, value, refl)
layer_has_class (layer.TypeAlias name parameters value) = (name, parameters, value, refl)
layer_has_class (layer.AugAssign target op value) = (target, op, value, refl)
layer_has_class (layer.AnnAssign target annotation value simple) = (target, annotation, value, simple, refl)
layer_has_class (layer.For target iter body orelse) = (target, iter, body, orelse, refl)
layer_has_class (layer.AsyncFor target iter body orelse) = (target, iter, body, orelse, refl)
layer_has_class (layer.While test body orelse) = (test, body, orelse, refl)
layer_has_class (layer.If test body orelse) = (test, body, orelse, refl)
layer_has_class (layer.With items body) = (items, body, refl)
layer_has_class (layer.AsyncWith items body) = (items, body, refl)
layer_has_class (layer.Match subject clauses) = (subject, clauses, refl)
layer_has_class (layer.Raise exc cause) = (exc, cause, refl)
layer_has_class (layer.Try parts) = (parts, refl)
layer_has_class (layer.TryStar parts) = (parts, refl)
layer_has_class (layer.Assert test msg) = (test, msg, refl)
layer_has_class (layer.Import names) = (names, refl)
layer_has_class (layer.ImportFrom source names level) = (source, names, level, refl)
layer_has_class (layer.Global names) = (names, refl)
layer_has_class (layer.Nonlocal names) = (names, refl)
layer_has_class (layer.Expr value) = (value, refl)
layer_has_class layer.Pass = refl
layer_has_class layer.Break = refl
layer_has_class layer.Continue = refl

pub has_class : (s : Stmt) → HasClass (stmt_of s) s
has_class s = subst (λ given. HasClass (stmt_of s) given) (given.roll-out-Stmt s)
    (subst (λ t. HasClass t (given.roll-Stmt (given.out-Stmt s))) (sym (opened s)) (layer_has_class (given.out-Stmt s)))
