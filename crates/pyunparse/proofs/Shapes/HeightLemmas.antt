-- Carries: write_function, write_class, write_try, write_handler, write_case. How high the parts of a statement are.
use Rattle.std.proofs.Common.{◌≡◌, ◌∙◌, ◌+◌, List, map, ap, sym}
use Rattle.pytree_node.specs.declared.expressions.Expr.{Expr}
use Rattle.pytree_node.specs.declared.statements.Case as given_case
use Rattle.pytree_node.specs.declared.statements.Case.{Case}
use Rattle.pytree_node.specs.declared.statements.ClassDef as given_class_def
use Rattle.pytree_node.specs.declared.statements.ClassDef.{ClassDef}
use Rattle.pytree_node.specs.declared.statements.FunctionDef as given_function_def
use Rattle.pytree_node.specs.declared.statements.FunctionDef.{FunctionDef}
use Rattle.pytree_node.specs.declared.statements.Handler as given_handler
use Rattle.pytree_node.specs.declared.statements.Handler.{Handler}
use Rattle.pytree_node.specs.declared.statements.Stmt.{Stmt}
use Rattle.pytree_node.specs.declared.statements.Try as given_try
use Rattle.pytree_node.specs.declared.statements.Try.{Try}
use Rattle.pytree_node.specs.Trees.{handlers, stmts}
use Rattle.pytree_node.specs.TreeOf.{case_of, class_def_of, function_def_of, handler_of, stmt_of, tree_of, try_of}
use Rattle.pytree_height.specs.Heights.{handler_heights, stmt_height, stmt_heights}
use Rattle.pytree_node.proofs.Callers.StmtShapes.{case_tree, class_def_shape, function_def_shape, handler_tree, try_shape}

-- the body of a handler
pub handler_height : (h : Handler) (body : List Stmt) → body ≡ (given_handler.out-Handler h).body.items
    → stmt_heights (stmts (map stmt_of body)) ≡ stmt_heights (stmts (handler_of h).body)
handler_height h body e = ap (λ z. stmt_heights (stmts (map stmt_of z))) e ∙ sym (ap (λ z. stmt_heights (stmts z.body)) (handler_tree h))

-- the body of a function, of a class, and the blocks of a `try`
pub function_height : (d : FunctionDef) (body : List Stmt) → body ≡ (given_function_def.out-FunctionDef d).body.items
    → stmt_heights (stmts (map stmt_of body)) ≡ stmt_heights (stmts (function_def_of d).body)
function_height d body e =
    ap (λ z. stmt_heights (stmts (map stmt_of z))) e ∙ sym (ap (λ z. stmt_heights (stmts z.body)) (function_def_shape d))

pub function_decorators : (d : FunctionDef) (es : List Expr) → es ≡ (given_function_def.out-FunctionDef d).decorator_list.items
    → map tree_of es ≡ (function_def_of d).decorator_list
function_decorators d es e = ap (map tree_of) e ∙ sym (ap (λ z. z.decorator_list) (function_def_shape d))

pub class_height : (c : ClassDef) (body : List Stmt) → body ≡ (given_class_def.out-ClassDef c).body.items
    → stmt_height (class_def_of c) ≡ stmt_heights (stmts (map stmt_of body)) + 1
class_height c body e = ap stmt_height (class_def_shape c) ∙ ap (λ z. stmt_heights (stmts (map stmt_of z)) + 1) (sym e)

pub try_body_height : (t : Try) (body : List Stmt) → body ≡ (given_try.out-Try t).body.items
    → stmt_heights (stmts (map stmt_of body)) ≡ stmt_heights (stmts (try_of t).body)
try_body_height t body e = ap (λ z. stmt_heights (stmts (map stmt_of z))) e ∙ sym (ap (λ z. stmt_heights (stmts z.body)) (try_shape t))

pub try_orelse_height : (t : Try) (body : List Stmt) → body ≡ (given_try.out-Try t).orelse.items
    → stmt_heights (stmts (map stmt_of body)) ≡ stmt_heights (stmts (try_of t).orelse)
try_orelse_height t body e = ap (λ z. stmt_heights (stmts (map stmt_of z))) e ∙ sym (ap (λ z. stmt_heights (stmts z.orelse)) (try_shape t))

pub try_final_height : (t : Try) (body : List Stmt) → body ≡ (given_try.out-Try t).finalbody.items
    → stmt_heights (stmts (map stmt_of body)) ≡ stmt_heights (stmts (try_of t).finalbody)
try_final_height t body e =
    ap (λ z. stmt_heights (stmts (map stmt_of z))) e ∙ sym (ap (λ z. stmt_heights (stmts z.finalbody)) (try_shape t))

pub try_handlers_height : (t : Try) (caught : List Handler) → caught ≡ (given_try.out-Try t).handlers.items
    → handler_heights (handlers (map handler_of caught)) ≡ handler_heights (handlers (try_of t).handlers)
try_handlers_height t caught e =
    ap (λ z. handler_heights (handlers (map handler_of z))) e ∙ sym (ap (λ z. handler_heights (handlers z.handlers)) (try_shape t))

-- the body of a case
pub case_height : (c : Case) (body : List Stmt) → body ≡ (given_case.out-Case c).body.items
    → stmt_heights (stmts (map stmt_of body)) ≡ stmt_heights (stmts (case_of c).body)
case_height c body e = ap (λ z. stmt_heights (stmts (map stmt_of z))) e ∙ sym (ap (λ z. stmt_heights (stmts z.body)) (case_tree c))
