-- What the parts of the words are, and why they give no part of a command.
use Rattle.std.specs.Prelude.{◌≡◌, ◌≢◌, ℕ, false, List, [], Option, Some, ⊤, codes}
use Rattle.clap.specs.Simple.{Shape, app_of}
use Rattle.clap.specs.Walk.{Row, Rule, first_of, rule_of}
use Rattle.clap.specs.declared.builder.arg.Arg.{Arg}
use Rattle.clap.specs.declared.builder.command.Command.{Command as ClapCommand}
use Rattle.clap.specs.declared.builder.command.Command.TheViews.{out-Command}
use Rattle.clap.specs.declared.error.kind.ErrorKind.{ErrorKind}
use Rattle.clap.specs.declared.error.kind.ErrorKind.TheVariants.{DisplayHelp, DisplayVersion, OutOfMemory}
use Rattle.pyast_words.specs.declared.command.Check.{Check}
use Rattle.pyast_words.specs.declared.command.Command.{Command}
use Rattle.pyast_words.specs.declared.command.Dump.{Dump}
use Rattle.pyast_words.specs.declared.command.Tokens.{Tokens}
use Rattle.pyast_words.specs.declared.command.Unparse.{Unparse}
use Rattle.pyast_words.specs.declared.command.UsageFault.{UsageFault}
use Rattle.pyast_words.specs.declared.command.UsageFault.TheVariants as faults
use Rattle.pyast_words.specs.Words.{IsCheck, IsCommand, IsDump, IsNoCursor, IsNumber, IsSource, IsTokens, IsUnparse, LacksCursor}

-- an argument of this rule, of one subcommand alone
pub record IsRule (rule : Rule) (arg : Arg) : Type 0 where
  pub is : rule_of arg ≡ rule
  pub local : arg.global ≡ false

-- a subcommand of this shape, whose arguments are its own
pub record IsForm (shape : Shape) (command : ClapCommand) : Type 0 where
  pub is : app_of command ≡ record { top = shape; subs = [] }
  pub local : (out-Command command).has_globals ≡ false

-- why a word gives no number
abbrev pub MissesNumber : ℕ → Option (List ℕ) → UsageFault → Type 0
MissesNumber largest word faults.BadArguments = (number : Option ℕ) → IsNumber largest word number → ⊥
MissesNumber largest word fault = ⊥

-- why what was found gives no cursor
abbrev pub MissesCursor : List Row → UsageFault → Type 0
MissesCursor found faults.MalformedCursor = (word : List ℕ) × (first_of (codes "resume") found ≡ Some word) × IsNoCursor word
MissesCursor found faults.Memory = ⊤
MissesCursor found fault = ⊥

-- why what was found gives no source
abbrev pub MissesSource : List Row → UsageFault → Type 0
MissesSource found faults.BadArguments = (file stdin_name : Option (List ℕ)) → IsSource found file stdin_name → ⊥
MissesSource found faults.Memory = ⊤
MissesSource found fault = ⊥

-- why what was found gives no arguments of `tokens`
abbrev pub MissesTokens : List Row → UsageFault → Type 0
MissesTokens found faults.BadArguments = ((asked : Tokens) → IsTokens found asked → ⊥) × (LacksCursor found → ⊥)
MissesTokens found faults.MalformedCursor = LacksCursor found
MissesTokens found faults.Memory = ⊤
MissesTokens found fault = ⊥

-- why what was found gives no arguments of `dump`
abbrev pub MissesDump : List Row → UsageFault → Type 0
MissesDump found faults.BadArguments = (asked : Dump) → IsDump found asked → ⊥
MissesDump found faults.Memory = ⊤
MissesDump found fault = ⊥

-- why what was found gives no arguments of `unparse`
abbrev pub MissesUnparse : List Row → UsageFault → Type 0
MissesUnparse found faults.BadArguments = (asked : Unparse) → IsUnparse found asked → ⊥
MissesUnparse found faults.Memory = ⊤
MissesUnparse found fault = ⊥

-- why what was found gives no arguments of `check`
abbrev pub MissesCheck : List Row → UsageFault → Type 0
MissesCheck found faults.BadArguments = (asked : Check) → IsCheck found asked → ⊥
MissesCheck found faults.Memory = ⊤
MissesCheck found fault = ⊥

-- why a subcommand's name and what was found after it give no command
abbrev pub MissesCommand : Option (List ℕ × List Row) → UsageFault → Type 0
MissesCommand sub faults.BadArguments = ((command : Command) → IsCommand sub command → ⊥) × ((found : List Row)
    → sub ≡ Some (codes "tokens", found) → LacksCursor found → ⊥)
MissesCommand sub faults.MalformedCursor = (found : List Row) × (sub ≡ Some (codes "tokens", found)) × LacksCursor found
MissesCommand sub faults.Memory = ⊤
MissesCommand sub fault = ⊥

-- what a refusal of this kind is told as
abbrev pub Explains : ErrorKind → UsageFault → Type 0
Explains kind faults.BadArguments = (kind ≢ DisplayHelp) × (kind ≢ DisplayVersion) × (kind ≢ OutOfMemory)
Explains kind (faults.HelpAsked text) = kind ≡ DisplayHelp
Explains kind (faults.VersionAsked text) = kind ≡ DisplayVersion
Explains kind faults.Memory = ⊤
Explains kind faults.MalformedCursor = ⊥
Explains kind (faults.BadWord word) = ⊥
Explains kind faults.WordMissing = ⊥

-- how words that are bad are told: by the word that no others make good, or as too few
abbrev pub Names : UsageFault → Type 0
Names faults.BadArguments = ⊥
Names (faults.BadWord word) = ⊤
Names faults.WordMissing = ⊤
Names (faults.HelpAsked text) = ⊥
Names (faults.VersionAsked text) = ⊥
Names faults.MalformedCursor = ⊥
Names faults.Memory = ⊤
