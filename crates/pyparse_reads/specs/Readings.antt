-- What is read at a depth.
use Rattle.std.specs.Prelude.{◌≡◌, ◌<◌, ◌+◌, List, [], false, true, cond}
use Rattle.pytree_node.specs.Trees.{Arguments, Exprs, Keywords}
use Rattle.pytoken.specs.Terminals.{Terminal}
use Rattle.pygrammar.specs.declared.levels.Level.{Level}
use Rattle.pygrammar.specs.declared.pattern_levels.PatternLevel.{PatternLevel}
use Rattle.pygrammar.specs.Arguments.{in_order, keywords, positional}
use Rattle.pygrammar.specs.Capped.{capped}
use Rattle.pygrammar.specs.Entries.{Argument, Parameter}
use Rattle.pygrammar.specs.Parameters.{arranged}
use Rattle.pygrammar.specs.PatternReader.{capped_pattern}
use Rattle.pygrammar.specs.Reader.{Answer, Found, NoForm, Reads, and_then, listing_of, made}
use Rattle.pyparse_nodes.specs.declared.stop.Stop.{Stop}
use Rattle.pyparse_nodes.specs.Answers.{Failed}
use Rattle.pyparse_reads.specs.declared.depth.Depth.{Depth}

-- the reader of expressions, with the steps and the room of a depth
abbrev pub reads : Depth → Reads
reads d = capped d.steps d.room

-- there are steps and room
pub record IsOpen (d : Depth) : Type 0 where
  pub steps : 0 < d.steps
  pub room : 0 < d.room

-- nothing is read at this depth
pub record IsShut (d : Depth) (s : Stop) : Type 0 where
  pub no_expression : (l : Level) (i : List Terminal) → Failed s (reads d l i)
  pub no_pattern : (l : PatternLevel) (i : List Terminal) → Failed s (capped_pattern d.steps d.room l i)

-- the parameters of a `def`, if they are in order
abbrev pub read_parameters : Depth → List Terminal → Answer Arguments
read_parameters d i = and_then (listing_of (reads d) (Parameter true) [] i) (λ ps r. made (arranged ps) r)

-- the arguments of a call or a `class`, if they are in order: those without a name, and the others
abbrev pub read_arguments : Depth → List Terminal → Answer (Exprs × Keywords)
read_arguments d i =
    and_then (listing_of (reads d) Argument [] i) (λ es r. cond (in_order false false es) (Found (positional es, keywords es) r) NoForm)

-- the parts of an expression of this depth have that one
pub record IsOuter (outer d : Depth) : Type 0 where
  pub steps : outer.steps ≡ d.steps + 1
  pub room : outer.room ≡ d.room + 1
