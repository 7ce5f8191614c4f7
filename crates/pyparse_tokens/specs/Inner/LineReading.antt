-- What a reader of lines keeps between its calls.
use Rattle.std.specs.Prelude.{◌≡◌, ℕ, Bool, false, length, Some, None, Result, Ok, Err, map}
use Rattle.pysource.specs.declared.places.Place.{Place}
use Rattle.pylex_listing.specs.Listing.{Source, in_characters}
use Rattle.pytree_node.specs.declared.profiles.Extent.{Extent}
use Rattle.pytoken.specs.Tokens.{lines}
use Rattle.pytoken.specs.Refusals.{refusal}
use Rattle.pytoken.specs.TerminalOf.{terminal}
use Rattle.pyparse_tokens.specs.declared.faults.ParseFault.{ParseFault}
use Rattle.pyparse_tokens.specs.declared.logical_lines.LogicalLines.TheInside.{Inside}
use Rattle.pyparse_tokens.specs.Answers.{Tells}
use Rattle.pyparse_tokens.specs.LineReadings.{LineReading, EndsAt}
use Rattle.pyparse_tokens.specs.Inner.OpenLines.{keeps_match}
use Rattle.pyparse_tokens.specs.Inner.LineGathering.{StandsBetween, lines_given}

-- what a reader shows
abbrev pub reading : Inside → LineReading
reading l = record {
  source = l.source.now;
  extent = l.gather.pass.extent;
  given = lines_given l.source.now l.lister;
  level = l.gather.level;
  start = l.gather.line.start;
  terminals = map terminal l.gather.line.terminals.items;
  is_match = keeps_match l.gather.line;
  marker = l.gather.marker;
  outcome = l.outcome;
}

-- what is answered where no line comes, after so many, with ENDMARKER here
abbrev pub Ends : Extent → Source → ℕ → Place → Result Bool ParseFault → Type 0
Ends extent s k p (Ok more) = (more ≡ false) × (k ≡ length (lines s)) × (refusal extent s ≡ None) × EndsAt s p
Ends extent s k p (Err fault) = Tells (refusal extent s) fault

-- it stands between two lines until it has told the end or a fault
pub record IsReading (l : Inside) : Type 0 where
  pub between : l.outcome ≡ None → StandsBetween l.source.now l.lister l.gather
  pub ended : (answer : Result Bool ParseFault) → l.outcome ≡ Some answer
      → Ends l.gather.pass.extent (in_characters l.source.now) (lines_given l.source.now l.lister) l.gather.marker answer
