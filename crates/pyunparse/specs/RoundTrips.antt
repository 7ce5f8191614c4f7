-- That a text is accepted as a module, and gives it back.
use Rattle.std.specs.Prelude.{◌≡◌, ℕ, ◌≤◌, List}
use Rattle.pylex_listing.specs.Listing.{in_characters}
use Rattle.pytree_node.specs.declared.profiles.Profile.{Profile}
use Rattle.pytree_node.specs.Trees.{Module}
use Rattle.pytree_height.specs.Heights.{expression_height, statement_height}
use Rattle.pygrammar.specs.Refusals.{Accepted}
use Rattle.pytree_fits.specs.Given.{Stated}
use Rattle.pyunparse_text.specs.SpacingLaws.{ReadsBack}
use Rattle.pyunparse_text.specs.Modules.{piece_lines}

-- Bytes are a source in UTF-8, without a mark, a cookie or a fault, whose tokens and lines are those that the module is written in; it is
-- accepted as this module, and as no other.
pub record GivesBack (profile : Profile) (bytes : List ℕ) (m : Module) : Type 0 where
  pub back : ReadsBack bytes (piece_lines m)
  pub accepted : Accepted profile (in_characters back.parts) m
  pub only : (n : Module) → Accepted profile (in_characters back.parts) n → n ≡ m

-- They give the module back wherever the grammar gives it to some tokens, in a version and an extent of Python, and it is no higher than
-- 500.
abbrev pub RoundTrips : List ℕ → Module → Type 0
RoundTrips bytes m = (profile : Profile) → Stated profile m → expression_height m ≤ 500 → statement_height m ≤ 500
    → GivesBack profile bytes m
