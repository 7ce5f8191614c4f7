use Rattle.std.proofs.Common.{◌≡◌, true, map, drop}
use Rattle.pylex_lexeme.specs.declared.kinds.Exact.TheVariants.{Comma}
use Rattle.pytree_node.specs.TreeOf.{type_param_of}
use Rattle.pyunparse_text.specs.Statements.{type_param}
use Rattle.pyunparse_text.specs.Pieces.{piece}
use Rattle.pyunparse_text.specs.Written.{trailing}
use Rattle.pyunparse_text.specs.Folds.{puts}
use Rattle.pyunparse.specs.Inner.Members.{members}
use Rattle.pyunparse.proofs.types.write_listed_params.Given as goal

abbrev pub invariant-loop-param : goal.invariant-loop-param
invariant-loop-param g l =
    puts g.W.Writer.after l.out
    (members l.first (trailing piece Comma) (map (type_param piece) (map type_param_of (drop l.param-index l.params))))
    ≡ puts g.W.Writer.after l.initial.out (members true (trailing piece Comma) (map (type_param piece) (map type_param_of l.params)))
