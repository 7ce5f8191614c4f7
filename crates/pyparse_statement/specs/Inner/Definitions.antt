-- The headers of `def` and `class`, after their brackets, as the program reads them.
use Rattle.std.specs.Prelude.{List, Bool}
use Rattle.pylex_lexeme.specs.declared.kinds.Exact.TheVariants.{RArrow, RPar}
use Rattle.pytree_node.specs.Trees.{Identifier, TypeParam}
use Rattle.pytoken.specs.Terminals.{Terminal, Op}
use Rattle.pygrammar.specs.declared.levels.Level.TheVariants.{Expression}
use Rattle.pygrammar.specs.Forms.{listed}
use Rattle.pygrammar.specs.LineReader.{after}
use Rattle.pygrammar.specs.Lines.{Header, class_head, def_header, function_head}
use Rattle.pygrammar.specs.Looks.{is_op}
use Rattle.pygrammar.specs.Reader.{Answer, Found, NoForm, and_then, on_first}
use Rattle.pyparse_reads.specs.declared.depth.Depth.{Depth}
use Rattle.pyparse_reads.specs.Readings.{read_arguments, read_parameters, reads}

-- the parameters of a `def`, their bracket, and what is returned
abbrev pub function_from : Depth → Bool → Identifier → List TypeParam → List Terminal → Answer Header
function_from d b x tps i =
    and_then (read_parameters d i)
    (λ a r. on_first (is_op RPar) r (λ _ r1. and_then (after (reads d) (Op RArrow) Expression r1)
    (λ e r2. Found (def_header (function_head b x tps a e)) r2)) NoForm)

-- the arguments of a `class`, and their bracket
abbrev pub class_from : Depth → Identifier → List TypeParam → List Terminal → Answer Header
class_from d x tps i =
    and_then (read_arguments d i)
    (λ p r. on_first (is_op RPar) r (λ _ r1. Found (def_header (class_head x tps (listed p.0) p.1)) r1) NoForm)
