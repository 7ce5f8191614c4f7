use Rattle.std.proofs.Common.{◌≡◌, true, map, drop}
use Rattle.pylex_lexeme.specs.declared.kinds.Exact.TheVariants.{Comma}
use Rattle.pyunparse_text.specs.Statements.{one_name}
use Rattle.pyunparse_text.specs.Pieces.{piece}
use Rattle.pyunparse_text.specs.Written.{trailing}
use Rattle.pyunparse_text.specs.Folds.{puts}
use Rattle.pyunparse.specs.Inner.Members.{members}
use Rattle.pyunparse.proofs.statements.write_names.Given as goal

abbrev pub invariant-loop-name : goal.invariant-loop-name
invariant-loop-name g l =
    puts g.W.Writer.after l.out (members l.first (trailing piece Comma) (map (one_name piece) (drop l.name-index l.names)))
    ≡ puts g.W.Writer.after l.initial.out (members true (trailing piece Comma) (map (one_name piece) l.names))
