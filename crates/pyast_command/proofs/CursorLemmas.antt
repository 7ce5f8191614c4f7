-- Where a listing begins that goes on from a cursor.
--
-- Carries: starts_after, starts_nowhere, for StartLemmas.
use Rattle.std.proofs.Common.{◌≡◌, Bool, true, false, refl, Some, None}
use Rattle.pylex.specs.Cursors.{CursorParts}
use Rattle.pylex_listing.specs.Listing.{Source}
use Rattle.pylex.specs.Standing.{is_cursor_of, IsCursorOf}
use Rattle.pyast_command.specs.Listings.{start_in}

-- a cursor of a source: the listing begins after the entries that it gives
pub starts_after : (c : CursorParts) (s : Source) → IsCursorOf c s → start_in (Some c) s ≡ Some c.given
starts_after c s own = rw own refl

-- no cursor of a source: the listing begins nowhere
pub starts_nowhere : (c : CursorParts) (s : Source) → (IsCursorOf c s → ⊥) → start_in (Some c) s ≡ None
starts_nowhere c s other = by_test (is_cursor_of c s) refl
  where
    by_test : (b : Bool) → is_cursor_of c s ≡ b → start_in (Some c) s ≡ None
    by_test true e = absurd (other e)
    by_test false e = rw e refl
