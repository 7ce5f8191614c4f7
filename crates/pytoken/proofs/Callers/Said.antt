-- On: what the text of a tree writes for names and constants comes back; faults of numbers by their
-- class; the points of literals;
-- the tokens of a source that isn't refused; what is refused in the plain language alone; the
-- widths of margins.
--
-- Carries: what pyparse_tokens, pytree_fits, pytoken, pyunparse_text cite.
use Rattle.pytoken.specs.Laws.{AreLawful}
pub use Rattle.pytoken.proofs.Words.{same_word, names_are_proper, come_back}
pub use Rattle.pytoken.proofs.Extents.{plain_is_whole, extents_differ_in_numbers}
pub use Rattle.pytoken.proofs.MarginWidths.{margins_are_widths}
pub use Rattle.pytoken.proofs.Sound.{tokens_are_sound}
pub use Rattle.pytoken.proofs.NumberClasses.{faults_are_by_class}
pub use Rattle.pytoken.proofs.SmallBytes.{points_small, bytes_are_small}
pub use Rattle.pytoken.proofs.TextPoints.{points_are_in_range}

pub values_are_lawful : AreLawful
values_are_lawful =
    record {
      constants = come_back;
      names = names_are_proper;
      numbers = faults_are_by_class;
      bytes = bytes_are_small;
      points = points_are_in_range;
      margins = margins_are_widths;
    }
