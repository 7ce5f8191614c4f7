-- What the answer for a source says: its module, or why it has none.
use Rattle.pylex_listing.specs.Listing.{Source}
use Rattle.pytree_node.specs.declared.profiles.Profile.{Profile}
use Rattle.pygrammar.specs.Blocks as block
use Rattle.pygrammar.specs.Refusals.{Code, Indentation, in_tokens, at, Refused}
use Rattle.pygrammar.specs.Refusals as code
use Rattle.pyparse_tokens.specs.declared.faults.GrammarError.{GrammarError}
use Rattle.pyparse_tokens.specs.declared.faults.GrammarError.TheVariants as error
use Rattle.pyparse_tokens.specs.declared.faults.ParseFault.{ParseFault}
use Rattle.pyparse_tokens.specs.declared.faults.ParseFault.TheVariants as fault

-- what an error says of a line, or of the end
abbrev pub code_of : GrammarError → Code
code_of error.Syntax = code.Syntax
code_of error.MatchStatement = code.MatchStatement
code_of error.ExpectedIndent = Indentation block.ExpectedIndent
code_of error.UnexpectedIndent = Indentation block.UnexpectedIndent
code_of error.MisplacedClause = Indentation block.MisplacedClause
code_of error.TooDeep = code.TooDeep

-- a source is refused for this reason, or memory was wanting, as it may be at any point
abbrev pub Refuses : Profile → Source → ParseFault → Type 0
Refuses profile s (fault.Refused r) = Refused profile s (in_tokens r)
Refuses profile s (fault.Grammar e p) = Refused profile s (at p (code_of e))
Refuses profile s fault.Memory = Unit {0}
