use Rattle.std.proofs.Common.{◌≡◌, true, map, drop}
use Rattle.pylex_lexeme.specs.declared.kinds.Exact.TheVariants.{Comma}
use Rattle.pytree_node.specs.TreeOf.{alias_of}
use Rattle.pyunparse_text.specs.Statements.{dotted_alias}
use Rattle.pyunparse_text.specs.Pieces.{piece}
use Rattle.pyunparse_text.specs.Written.{trailing}
use Rattle.pyunparse_text.specs.Folds.{puts}
use Rattle.pyunparse.specs.Inner.Members.{members}
use Rattle.pyunparse.proofs.imports.write_modules.Given as goal

abbrev pub invariant-loop-alias : goal.invariant-loop-alias
invariant-loop-alias g l =
    puts g.W.Writer.after l.out
    (members l.first (trailing piece Comma) (map (dotted_alias piece) (map alias_of (drop l.alias-index l.names))))
    ≡ puts g.W.Writer.after l.initial.out (members true (trailing piece Comma) (map (dotted_alias piece) (map alias_of l.names)))
