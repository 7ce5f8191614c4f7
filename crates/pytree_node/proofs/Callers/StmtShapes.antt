-- The value of each class of statement, of its children's values.
--
-- Carries: what is proved of `stmt_of` in the crates above.
use Rattle.std.proofs.Common.{◌≡◌, ℕ, Bool, map, Global, Option}
use Rattle.std.specs.declared.vec.Vec.{Vec}
use Rattle.std.specs.declared.boxed.Box.{Box}
use Rattle.pytree_node.specs.declared.operators.Operator.{Operator}
use Rattle.pytree_node.specs.declared.expressions.Arguments.{Arguments}
use Rattle.pytree_node.specs.declared.expressions.Expr.{Expr}
use Rattle.pytree_node.specs.declared.expressions.Keyword.{Keyword}
use Rattle.pytree_node.specs.declared.statements.Alias.{Alias}
use Rattle.pytree_node.specs.declared.statements.Item.{Item}
use Rattle.pytree_node.specs.declared.statements.TypeParam.{TypeParam}
use Rattle.pytree_node.specs.declared.statements.Case as given_case
use Rattle.pytree_node.specs.declared.statements.Case.{Case}
use Rattle.pytree_node.specs.declared.statements.ClassDef as given_class_def
use Rattle.pytree_node.specs.declared.statements.ClassDef.{ClassDef}
use Rattle.pytree_node.specs.declared.statements.FunctionDef as given_function_def
use Rattle.pytree_node.specs.declared.statements.FunctionDef.{FunctionDef}
use Rattle.pytree_node.specs.declared.statements.Handler as given_handler
use Rattle.pytree_node.specs.declared.statements.Handler.{Handler}
use Rattle.pytree_node.specs.declared.statements.Stmt as given_stmt
use Rattle.pytree_node.specs.declared.statements.Stmt.{Stmt}
use Rattle.pytree_node.specs.declared.statements.Stmt.TheVariants as variant
use Rattle.pytree_node.specs.declared.statements.Stmt.TheOpen as layer
use Rattle.pytree_node.specs.declared.statements.Try as given_try
use Rattle.pytree_node.specs.declared.statements.Try.{Try}
use Rattle.pytree_node.specs.Trees as plain
use Rattle.pytree_node.specs.Trees.{Identifier, keywords, stmts, cases, handlers}
use Rattle.pytree_node.specs.TreeOf.{tree_of, arguments_of, keyword_of, option_of, boxed_of, alias_of, item_of, type_param_of, pattern_of}
use Rattle.pytree_node.specs.TreeOf.{stmt_of, case_of, class_def_of, function_def_of, handler_of, try_of}
use Rattle.pytree_node.specs.TreeOf.{stmt_step, case_step, class_def_step, function_def_step, handler_step, try_step}

-- one statement, whose inner statements are statements of the program
abbrev pub Layer : Type 0
Layer = layer.Stmt-F Stmt Case ClassDef FunctionDef Handler Try

-- the statement with its inner statements' values in their places
abbrev pub valued : Layer → layer.Stmt-F plain.Stmt plain.Case plain.Stmt plain.FunctionDefFields plain.Handler plain.TryFields
valued = given_stmt.map-Stmt Stmt Case ClassDef FunctionDef Handler Try plain.Stmt plain.Case plain.Stmt plain.FunctionDefFields
    plain.Handler plain.TryFields stmt_of case_of class_def_of function_def_of handler_of try_of

rolls : (node : Layer) → stmt_of (given_stmt.roll-Stmt node) ≡ stmt_step (valued node)
unfolding stmt_of case_of class_def_of function_def_of handler_of try_of
rolls = given_stmt.fold-roll-Stmt plain.Stmt plain.Case plain.Stmt plain.FunctionDefFields plain.Handler plain.TryFields stmt_step case_step
    class_def_step function_def_step handler_step try_step

pub function_def_shape : (d : FunctionDef) → let o : layer.FunctionDef-F Stmt Case ClassDef FunctionDef Handler Try =
    given_function_def.out-FunctionDef d in
    function_def_of d ≡ record {
      name = o.name;
      args = arguments_of o.args.value;
      body = map stmt_of o.body.items;
      decorator_list = map tree_of o.decorator_list.items;
      returns = boxed_of o.returns;
      type_params = map type_param_of o.type_params.items;
    }
unfolding stmt_of case_of class_def_of function_def_of handler_of try_of
function_def_shape = given_function_def.fold_out-FunctionDef plain.Stmt plain.Case plain.Stmt plain.FunctionDefFields plain.Handler
    plain.TryFields stmt_step case_step class_def_step function_def_step handler_step try_step

pub function_def_tree : (d : Box FunctionDef Global) → stmt_of (variant.FunctionDef d) ≡ plain.function_def (function_def_of d.value)
unfolding given_stmt.roll-Stmt denote.Hole.Carrier.roll
function_def_tree d = rolls (layer.FunctionDef d)

pub async_function_def_tree : (d : Box FunctionDef Global) →
    stmt_of (variant.AsyncFunctionDef d) ≡ plain.async_function_def (function_def_of d.value)
unfolding given_stmt.roll-Stmt denote.Hole.Carrier.roll
async_function_def_tree d = rolls (layer.AsyncFunctionDef d)

pub class_def_shape : (c : ClassDef) → let o : layer.ClassDef-F Stmt Case ClassDef FunctionDef Handler Try =
    given_class_def.out-ClassDef c in
    class_def_of c ≡ plain.ClassDef o.name (map tree_of o.bases.items) (keywords (map keyword_of o.keywords.items))
    (stmts (map stmt_of o.body.items)) (map tree_of o.decorator_list.items) (map type_param_of o.type_params.items)
unfolding stmt_of case_of class_def_of function_def_of handler_of try_of
class_def_shape = given_class_def.fold_out-ClassDef plain.Stmt plain.Case plain.Stmt plain.FunctionDefFields plain.Handler plain.TryFields
    stmt_step case_step class_def_step function_def_step handler_step try_step

pub class_def_tree : (c : Box ClassDef Global) → stmt_of (variant.ClassDef c) ≡ class_def_of c.value
unfolding given_stmt.roll-Stmt denote.Hole.Carrier.roll
class_def_tree c = rolls (layer.ClassDef c)

pub return_tree : (value : Option Expr) →
    stmt_of (variant.Return value) ≡ plain.Return (option_of value)
unfolding given_stmt.roll-Stmt denote.Hole.Carrier.roll
return_tree value = rolls (layer.Return value)

pub delete_tree : (targets : Vec Expr Global) →
    stmt_of (variant.Delete targets) ≡ plain.Delete (map tree_of targets.items)
unfolding given_stmt.roll-Stmt denote.Hole.Carrier.roll
delete_tree targets = rolls (layer.Delete targets)

pub assign_tree : (targets : Vec Expr Global) (value : Expr) →
    stmt_of (variant.Assign targets value) ≡ plain.Assign (map tree_of targets.items) (tree_of value)
unfolding given_stmt.roll-Stmt denote.Hole.Carrier.roll
assign_tree targets value = rolls (layer.Assign targets value)

pub type_alias_tree : (name : Box Expr Global) (parameters : Vec TypeParam Global) (value : Box Expr Global) →
    stmt_of (variant.TypeAlias name parameters value) ≡ plain.TypeAlias (tree_of name.value) (map type_param_of parameters.items)
    (tree_of value.value)
unfolding given_stmt.roll-Stmt denote.Hole.Carrier.roll
type_alias_tree name parameters value = rolls (layer.TypeAlias name parameters value)

pub aug_assign_tree : (target : Box Expr Global) (op : Operator) (value : Expr) →
    stmt_of (variant.AugAssign target op value) ≡ plain.AugAssign (tree_of target.value) op (tree_of value)
unfolding given_stmt.roll-Stmt denote.Hole.Carrier.roll
aug_assign_tree target op value = rolls (layer.AugAssign target op value)

pub ann_assign_tree : (target : Box Expr Global) (annotation : Box Expr Global) (value : Option (Box Expr Global)) (simple : Bool) →
    stmt_of (variant.AnnAssign target annotation value simple) ≡ plain.AnnAssign (tree_of target.value)
    (tree_of annotation.value) (boxed_of value) simple
unfolding given_stmt.roll-Stmt denote.Hole.Carrier.roll
ann_assign_tree target annotation value simple = rolls (layer.AnnAssign target annotation value simple)

pub for_tree : (target : Box Expr Global) (iter : Box Expr Global) (body : Vec Stmt Global) (orelse : Vec Stmt Global) →
    stmt_of (variant.For target iter body orelse) ≡ plain.For (tree_of target.value) (tree_of iter.value) (stmts (map stmt_of body.items))
    (stmts (map stmt_of orelse.items))
unfolding given_stmt.roll-Stmt denote.Hole.Carrier.roll
for_tree target iter body orelse = rolls (layer.For target iter body orelse)

pub async_for_tree : (target : Box Expr Global) (iter : Box Expr Global) (body : Vec Stmt Global) (orelse : Vec Stmt Global) →
    stmt_of (variant.AsyncFor target iter body orelse) ≡ plain.AsyncFor (tree_of target.value) (tree_of iter.value)
    (stmts (map stmt_of body.items)) (stmts (map stmt_of orelse.items))
unfolding given_stmt.roll-Stmt denote.Hole.Carrier.roll
async_for_tree target iter body orelse = rolls (layer.AsyncFor target iter body orelse)

pub while_tree : (test : Box Expr Global) (body : Vec Stmt Global) (orelse : Vec Stmt Global) →
    stmt_of (variant.While test body orelse) ≡ plain.While (tree_of test.value) (stmts (map stmt_of body.items))
    (stmts (map stmt_of orelse.items))
unfolding given_stmt.roll-Stmt denote.Hole.Carrier.roll
while_tree test body orelse = rolls (layer.While test body orelse)

pub if_tree : (test : Box Expr Global) (body : Vec Stmt Global) (orelse : Vec Stmt Global) →
    stmt_of (variant.If test body orelse) ≡ plain.If (tree_of test.value) (stmts (map stmt_of body.items))
    (stmts (map stmt_of orelse.items))
unfolding given_stmt.roll-Stmt denote.Hole.Carrier.roll
if_tree test body orelse = rolls (layer.If test body orelse)

pub with_tree : (items : Vec Item Global) (body : Vec Stmt Global) →
    stmt_of (variant.With items body) ≡ plain.With (map item_of items.items) (stmts (map stmt_of body.items))
unfolding given_stmt.roll-Stmt denote.Hole.Carrier.roll
with_tree items body = rolls (layer.With items body)

pub async_with_tree : (items : Vec Item Global) (body : Vec Stmt Global) →
    stmt_of (variant.AsyncWith items body) ≡ plain.AsyncWith (map item_of items.items) (stmts (map stmt_of body.items))
unfolding given_stmt.roll-Stmt denote.Hole.Carrier.roll
async_with_tree items body = rolls (layer.AsyncWith items body)

pub match_tree : (subject : Expr) (clauses : Vec Case Global) →
    stmt_of (variant.Match subject clauses) ≡ plain.Match (tree_of subject) (cases (map case_of clauses.items))
unfolding given_stmt.roll-Stmt denote.Hole.Carrier.roll
match_tree subject clauses = rolls (layer.Match subject clauses)

pub raise_tree : (exc : Option (Box Expr Global)) (cause : Option (Box Expr Global)) →
    stmt_of (variant.Raise exc cause) ≡ plain.Raise (boxed_of exc) (boxed_of cause)
unfolding given_stmt.roll-Stmt denote.Hole.Carrier.roll
raise_tree exc cause = rolls (layer.Raise exc cause)

pub try_shape : (t : Try) → let o : layer.Try-F Stmt Case ClassDef FunctionDef Handler Try = given_try.out-Try t in
    try_of t ≡ record {
      body = map stmt_of o.body.items;
      handlers = map handler_of o.handlers.items;
      orelse = map stmt_of o.orelse.items;
      finalbody = map stmt_of o.finalbody.items;
    }
unfolding stmt_of case_of class_def_of function_def_of handler_of try_of
try_shape = given_try.fold_out-Try plain.Stmt plain.Case plain.Stmt plain.FunctionDefFields plain.Handler plain.TryFields stmt_step
    case_step class_def_step function_def_step handler_step try_step

pub try_tree : (t : Box Try Global) → stmt_of (variant.Try t) ≡ plain.try_block (try_of t.value)
unfolding given_stmt.roll-Stmt denote.Hole.Carrier.roll
try_tree t = rolls (layer.Try t)

pub try_star_tree : (t : Box Try Global) → stmt_of (variant.TryStar t) ≡ plain.try_star_block (try_of t.value)
unfolding given_stmt.roll-Stmt denote.Hole.Carrier.roll
try_star_tree t = rolls (layer.TryStar t)

pub assert_tree : (test : Expr) (msg : Option (Box Expr Global)) →
    stmt_of (variant.Assert test msg) ≡ plain.Assert (tree_of test) (boxed_of msg)
unfolding given_stmt.roll-Stmt denote.Hole.Carrier.roll
assert_tree test msg = rolls (layer.Assert test msg)

pub import_tree : (names : Vec Alias Global) →
    stmt_of (variant.Import names) ≡ plain.Import (map alias_of names.items)
unfolding given_stmt.roll-Stmt denote.Hole.Carrier.roll
import_tree names = rolls (layer.Import names)

pub import_from_tree : (source : Option Identifier) (names : Vec Alias Global) (level : ℕ) →
    stmt_of (variant.ImportFrom source names level) ≡ plain.ImportFrom source (map alias_of names.items) level
unfolding given_stmt.roll-Stmt denote.Hole.Carrier.roll
import_from_tree source names level = rolls (layer.ImportFrom source names level)

pub global_tree : (names : Vec Identifier Global) →
    stmt_of (variant.Global names) ≡ plain.Global names.items
unfolding given_stmt.roll-Stmt denote.Hole.Carrier.roll
global_tree names = rolls (layer.Global names)

pub nonlocal_tree : (names : Vec Identifier Global) →
    stmt_of (variant.Nonlocal names) ≡ plain.Nonlocal names.items
unfolding given_stmt.roll-Stmt denote.Hole.Carrier.roll
nonlocal_tree names = rolls (layer.Nonlocal names)

pub expr_stmt_tree : (value : Expr) →
    stmt_of (variant.Expr value) ≡ plain.ExprOf (tree_of value)
unfolding given_stmt.roll-Stmt denote.Hole.Carrier.roll
expr_stmt_tree value = rolls (layer.Expr value)

pub pass_tree : stmt_of variant.Pass ≡ plain.Pass
unfolding given_stmt.roll-Stmt denote.Hole.Carrier.roll
pass_tree = rolls layer.Pass

pub break_tree : stmt_of variant.Break ≡ plain.Break
unfolding given_stmt.roll-Stmt denote.Hole.Carrier.roll
break_tree = rolls layer.Break

pub continue_tree : stmt_of variant.Continue ≡ plain.Continue
unfolding given_stmt.roll-Stmt denote.Hole.Carrier.roll
continue_tree = rolls layer.Continue

pub case_tree : (c : Case) → let o : layer.Case-F Stmt Case ClassDef FunctionDef Handler Try = given_case.out-Case c in
    case_of c ≡ record { pattern = pattern_of o.pattern; guard = option_of o.guard; body = map stmt_of o.body.items }
unfolding stmt_of case_of class_def_of function_def_of handler_of try_of
case_tree = given_case.fold_out-Case plain.Stmt plain.Case plain.Stmt plain.FunctionDefFields plain.Handler plain.TryFields stmt_step
    case_step class_def_step function_def_step handler_step try_step

pub handler_tree : (h : Handler) → let o : layer.Handler-F Stmt Case ClassDef FunctionDef Handler Try = given_handler.out-Handler h in
    handler_of h ≡ record { class = option_of o.class; name = o.name; body = map stmt_of o.body.items }
unfolding stmt_of case_of class_def_of function_def_of handler_of try_of
handler_tree = given_handler.fold_out-Handler plain.Stmt plain.Case plain.Stmt plain.FunctionDefFields plain.Handler plain.TryFields
    stmt_step case_step class_def_step function_def_step handler_step try_step

-- the value of every statement and of its parts
pub ruleset stmt_shapes = (
  function_def_tree,
  function_def_shape,
  async_function_def_tree,
  class_def_tree,
  class_def_shape,
  return_tree,
  delete_tree,
  assign_tree,
  type_alias_tree,
  aug_assign_tree,
  ann_assign_tree,
  for_tree,
  async_for_tree,
  while_tree,
  if_tree,
  with_tree,
  async_with_tree,
  match_tree,
  raise_tree,
  try_tree,
  try_shape,
  try_star_tree,
  assert_tree,
  import_tree,
  import_from_tree,
  global_tree,
  nonlocal_tree,
  expr_stmt_tree,
  pass_tree,
  break_tree,
  continue_tree,
  case_tree,
  handler_tree,
)
