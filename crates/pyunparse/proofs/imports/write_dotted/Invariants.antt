use Rattle.std.proofs.Common.{◌≡◌, length}
use Rattle.std.specs.Str.{chars, IsUtf8}
use Rattle.pyunparse_text.specs.Pieces.{piece}
use Rattle.pyunparse_text.specs.Statements.{dotted}
use Rattle.pyunparse_text.specs.Folds.{puts}
use Rattle.pyunparse.proofs.imports.write_dotted.Given as goal

-- what is left is text, and is still to be written
abbrev pub invariant-loop-part : goal.invariant-loop-part
invariant-loop-part g l = IsUtf8 l.rest × (puts g.W.Writer.after l.out (dotted piece l.before (chars l.rest)) ≡ puts g.W.Writer.after
    l.initial.out (dotted piece l.fn.close (chars l.fn.name)))

abbrev pub decreases-loop-part : goal.decreases-loop-part
decreases-loop-part g l = length l.rest
