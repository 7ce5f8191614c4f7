-- What is known of a source after some of its lines, and where a further line stands.
use Rattle.std.specs.Prelude.{ℕ, List, []}
use Rattle.pylex_listing.specs.Listing.{Source}
use Rattle.pytree_node.specs.declared.profiles.Profile.{Profile}
use Rattle.pytoken.specs.Inner.Following.{following}
use Rattle.pygrammar.specs.Lines.{Line}
use Rattle.pyparse_block.specs.Known.{IsKnown}
use Rattle.pyparse_block.specs.LastLines.{HoldsLastLines}
use Rattle.pyparse.specs.declared.progress.Progress.{Progress}

pub record IsProgress (profile : Profile) (s : Source) (k : ℕ) (p : Progress) : Type 0 where
  pub forms : List Line
  pub known : IsKnown profile s k forms p.known
  pub last_lines : HoldsLastLines (following [] forms) p.last_lines
