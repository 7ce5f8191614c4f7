-- On: the laws of the reader of a logical line within a height; the ends of the header of a `match`; items in brackets.
--
-- Carries: what pyparse_line cites.
use Rattle.std.proofs.Common.{◌≡◌, List, Bool}
use Rattle.pytree_node.specs.declared.profiles.Profile.{Profile}
use Rattle.pytoken.specs.Terminals.{Terminal}
use Rattle.pygrammar.specs.Lines.{Form}
use Rattle.pygrammar.specs.Forms.{FormAt}
use Rattle.pygrammar.specs.Blocks.{kind_of, is_match}
use Rattle.pygrammar.specs.LineLaws.{LineLimitIsExact, LineLimitMeets, LinesAreLawful}
pub use Rattle.pygrammar.proofs.Line.Brackets.{brackets_are_read}
use Rattle.pygrammar.proofs.Line.Answered.{enough, read_or_not}
use Rattle.pygrammar.proofs.Line.Depth.{at_depth}
use Rattle.pygrammar.proofs.Line.SoundLines.{exactly}
use Rattle.pygrammar.proofs.Line.Limit
use Rattle.pygrammar.proofs.Line.MatchLines
use Rattle.pygrammar.proofs.Line.MatchLines.{has_match_ends}
pub use Rattle.pygrammar.proofs.Line.SoundParts.{headed, joins, type_is}
pub use Rattle.pygrammar.proofs.Line.Invert.{called_name, stored_name}

pub line_limit_is_exact : LineLimitIsExact
line_limit_is_exact = Limit.line_limit_exactly

pub line_limit_meets : LineLimitMeets
line_limit_meets = Limit.line_limit_meets

pub lines_are_lawful : LinesAreLawful
lines_are_lawful = record {
  exact = exactly;
  decided = read_or_not;
  deep = λ profile inside d ts. (at_depth profile inside d ts, enough profile inside d ts);
  limited = line_limit_is_exact;
  meets = line_limit_meets;
}

-- a line has the form of the header of a `match` exactly where it begins with that word and ends in a colon
pub match_by_ends : (profile : Profile) (inside : Bool) (ts : List Terminal) (f : Form) → FormAt profile inside ts f
    → is_match (kind_of f) ≡ has_match_ends ts
match_by_ends profile inside ts f p = MatchLines.match_by_ends p
