-- `unfolding listings cursors` lets `refl` compute a listing and a cursor.
--
-- Carries: listings, cursors, standings, for Examples.
use lib.Utf8.{encode}
use Rattle.std.specs.Fmt.{digits}
use Rattle.pysource.specs.Places.{place_after}
use Rattle.pylex_listing.specs.Lines.{depth, line_so_far, is_at_margin, is_logical}
use Rattle.pylex_listing.specs.Indentation.{width_from, width_at, widths, open_levels, layout_by, layout}
use Rattle.pylex_listing.specs.Listing.{entry_of, steps_of, stop_fault, last_line, line_end_of_last, end_place, tail, stop, listing}
use Rattle.pylex.specs.Cursors.{given_last_first, with_text, cursor_at, cursor, cursor_text}
use Rattle.pylex_listing.specs.Machine.{layout_of, entry_by, gives, last_line_end, tail_of, stop_of, after, remaining}
use Rattle.pylex.specs.Standing.{front_to, standing_by, resumed, to_give}
use Rattle.pylex_lexeme.proofs.Callers.Lexemes.{lexemes}

unfoldable pub listings : Unit {0}
unfolding lexemes encode place_after depth line_so_far is_at_margin is_logical width_from width_at widths open_levels layout_by layout
    entry_of steps_of stop_fault last_line line_end_of_last end_place tail stop listing
listings = tt

unfoldable pub cursors : Unit {0}
unfolding digits given_last_first with_text cursor_at cursor cursor_text
cursors = tt

unfoldable pub standings : Unit {0}
unfolding listings cursors layout_of entry_by gives last_line_end tail_of stop_of after remaining front_to standing_by resumed to_give
standings = tt
