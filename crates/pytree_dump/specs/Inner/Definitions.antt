-- What a statement that stands in a box shows, by its fields.
use Rattle.std.specs.Prelude.{codes}
use Rattle.pytree_node.specs.declared.profiles.Profile.{Profile}
use Rattle.pytree_node.specs.Trees.{FunctionDefFields, TryFields, exprs, handlers, stmts}
use Rattle.pytree_dump_text.specs.Shows.{Fields, Row, a_field, expr_field, left_out, no_field, shown_arguments, shown_exprs, shown_handlers}
use Rattle.pytree_dump_text.specs.Shows.{shown_name, shown_stmts, type_params_field}

-- a FunctionDef or an AsyncFunctionDef
abbrev pub function_def_fields : Profile → FunctionDefFields → Fields
function_def_fields p f = a_field (codes "name") (shown_name f.name)
    (a_field (codes "args") (shown_arguments f.args) (a_field (codes "body") (Row (shown_stmts p (stmts f.body)))
    (a_field (codes "decorator_list") (Row (shown_exprs (exprs f.decorator_list)))
    (expr_field (codes "returns") f.returns (left_out (type_params_field p f.type_params))))))

-- a Try or a TryStar
abbrev pub try_fields : Profile → TryFields → Fields
try_fields p f = a_field (codes "body") (Row (shown_stmts p (stmts f.body)))
    (a_field (codes "handlers") (Row (shown_handlers p (handlers f.handlers)))
    (a_field (codes "orelse") (Row (shown_stmts p (stmts f.orelse))) (a_field (codes "finalbody") (Row (shown_stmts p (stmts f.finalbody)))
    no_field)))
