use Rattle.std.proofs.Common.{◌≡◌, ℕ, ◌+◌, ◌-◌, ◌*◌, ◌^◌, ◌≤◌, List, length, [], map}
use Rattle.pygrammar.specs.FormattedStrings.{StringPart}
use Rattle.pyparse_nodes.specs.JoinedStates.{gathered, state_of}
use Rattle.pyparse_expr.proofs.Formatted.Parts.{Literals, Parts}
use Rattle.pygrammar.specs.Reader.{comps_loop, ifs_loop, literals_loop, operation, parts_loop}
use Rattle.pyparse_expr.proofs.Reader.ChainSteps.{Links, Sides}
use Rattle.pyparse_expr.proofs.Calls.ArgumentSteps.{Reaches}
use Rattle.pyparse_expr.specs.Inner.Arguments.{arguments_of}
use Rattle.pyparse_expr.specs.Inner.Chains.{links_of}
use Rattle.pytree_node.specs.TreeOf.{tree_of}
use Rattle.pygrammar.specs.Capped.{capped_climb}
use Rattle.pyparse_reads.specs.Readings.{reads}
use Rattle.pyparse_expr.specs.Inner.Readings.{same_reads, inner_reads}
use Rattle.pyparse_nodes.specs.Views.{seen}
use Rattle.pyparse_expr.proofs.Reader.Climbs.{Climbs}
use Rattle.pyparse_expr.proofs.Lists.ListSteps.{Lists}
use Rattle.pyparse_expr.proofs.FormalParameters.ParameterSteps.{Parameters, listed}
use Rattle.pyparse_expr.specs.Inner.Found.{entries_of}
use Rattle.pyparse_expr.specs.Inner.Lists.{more_at, item_of}
use Rattle.pyparse_expr.proofs.Reader.Trails.{Trails, primary_step}
use Rattle.pyparse_expr.specs.Inner.Pairs.{more_pairs_at, pairs_of}
use Rattle.pyparse_expr.proofs.Lists.PairSteps.{HasPairs}
use Rattle.pyparse_expr.proofs.ForClauses.ClauseSteps.{Reached}
use Rattle.pyparse_expr.proofs.ForClauses.CompSteps.{Tests}
use Rattle.pygrammar.specs.declared.levels.Level.TheVariants.{Primary}
use Rattle.pyparse_expr.proofs.Recorders.Made.{Whole, Stood}
use Rattle.pyparse_expr.proofs.Recorders.Chains.{LinksRead, SidesRead}
use Rattle.pyparse_expr.proofs.Lists.ListPlaces.{Grown}
use Rattle.pyparse_expr.proofs.Lists.PairPlaces.{PairsGrown}
use Rattle.pyparse_expr.proofs.ForClauses.ClausePlaces.{ClausesGrown, TestsGrown}
use Rattle.pyparse_expr.proofs.Recorders.Calls.{ArgumentsGrow}
use Rattle.pyparse_expr.proofs.Recorders.Signatures.{SignatureGrows}
use Rattle.pyparse_expr.specs.Inner.PlacedStrings.{PartsPlaced}
use Rattle.pyplaces.specs.Placed.{PlacedLiterals, PlacedFormatted}
use Rattle.pyplaces.specs.Recording.{Alike}
use Rattle.pyplaces.specs.Stretches.{Stretch, stretch}
use Rattle.pygrammar.specs.Precedence as precedence
use Rattle.pyparse_expr.specs.Inner.Arguments as actuals
use Rattle.pyparse_expr.proofs.+reading.Given as goal

abbrev pub decreases-atoms::group_tuple : goal.decreases-atoms::group_tuple
decreases-atoms::group_tuple g l = 2 ^ 65 * (20 * (l.depth.steps - 1) + 12)

abbrev pub decreases-atoms::read_atom : goal.decreases-atoms::read_atom
decreases-atoms::read_atom g l = 2 ^ 65 * (20 * l.depth.steps + 1)

abbrev pub decreases-atoms::round : goal.decreases-atoms::round
decreases-atoms::round g l = 2 ^ 65 * (20 * (l.depth.steps - 1) + 17)

abbrev pub decreases-atoms::square : goal.decreases-atoms::square
decreases-atoms::square g l = 2 ^ 65 * (20 * (l.depth.steps - 1) + 17)

abbrev pub decreases-climbing::climb : goal.decreases-climbing::climb
decreases-climbing::climb g l = 2 ^ 65 * (20 * l.depth.steps + 4)

abbrev pub decreases-climbing::operation : goal.decreases-climbing::operation
decreases-climbing::operation g l = 2 ^ 65 * (20 * (l.depth.steps - 1) + 12)

abbrev pub decreases-climbing::prefixed : goal.decreases-climbing::prefixed
decreases-climbing::prefixed g l = 2 ^ 65 * (20 * (l.depth.steps - 1) + 9)

abbrev pub decreases-levels::if_else_step : goal.decreases-levels::if_else_step
decreases-levels::if_else_step g l = 2 ^ 65 * (20 * (l.depth.steps - 1) + 9)

abbrev pub decreases-levels::read_elem : goal.decreases-levels::read_elem
decreases-levels::read_elem g l = 2 ^ 65 * (20 * l.depth.steps + 7)

abbrev pub decreases-levels::read_expression : goal.decreases-levels::read_expression
decreases-levels::read_expression g l = 2 ^ 65 * (20 * l.depth.steps + 5)

abbrev pub decreases-levels::read_named : goal.decreases-levels::read_named
decreases-levels::read_named g l = 2 ^ 65 * (20 * l.depth.steps + 6)

abbrev pub decreases-levels::read_star_item : goal.decreases-levels::read_star_item
decreases-levels::read_star_item g l = 2 ^ 65 * (20 * l.depth.steps + 7)

abbrev pub decreases-levels::read_stars : goal.decreases-levels::read_stars
decreases-levels::read_stars g l = 2 ^ 65 * (20 * l.depth.steps + 8)

abbrev pub decreases-levels::yield_step : goal.decreases-levels::yield_step
decreases-levels::yield_step g l = 2 ^ 65 * (20 * (l.depth.steps - 1) + 13)

abbrev pub decreases-primaries::index_step : goal.decreases-primaries::index_step
decreases-primaries::index_step g l = 2 ^ 65 * (20 * (l.depth.steps - 1) + 10)

abbrev pub decreases-primaries::read_primary : goal.decreases-primaries::read_primary
decreases-primaries::read_primary g l = 2 ^ 65 * (20 * l.depth.steps + 2)

abbrev pub invariant-climbing::climb-loop-o : goal.invariant-climbing::climb-loop-o
invariant-climbing::climb-loop-o g l = record {
  ahead : l.at + 1 ≤ l.left.next;
  is : Climbs l.tokens l.depth l.least (capped_climb l.depth.room (reads l.depth) (same_reads l.depth) (inner_reads l.depth) l.least
      (seen l.tokens l.at)) l.left;
  placed : Stood g.R.Recorder.after l.tokens l.least (seen l.tokens l.at) l.at l.fn.recorder l.recorder l.left;
}

abbrev pub decreases-climbing::climb-loop-o : goal.decreases-climbing::climb-loop-o
decreases-climbing::climb-loop-o g l = length l.tokens - l.left.next

abbrev pub invariant-primaries::read_primary-tails : goal.invariant-primaries::read_primary-tails
invariant-primaries::read_primary-tails g l = record {
  ahead : l.at + 1 ≤ l.e.next;
  is : Trails l.tokens l.depth (primary_step (reads l.depth) (inner_reads l.depth) l.depth.room (seen l.tokens l.at)) l.e;
  placed : Whole g.R.Recorder.after l.tokens Primary (seen l.tokens l.at) l.at l.fn.recorder l.recorder l.e;
}

abbrev pub decreases-primaries::read_primary-tails : goal.decreases-primaries::read_primary-tails
decreases-primaries::read_primary-tails g l = length l.tokens - l.e.next

abbrev pub decreases-climbing::climb_first : goal.decreases-climbing::climb_first
decreases-climbing::climb_first g l = 2 ^ 65 * (20 * l.depth.steps + 3)

abbrev pub decreases-climbing::signed : goal.decreases-climbing::signed
decreases-climbing::signed g l = 2 ^ 65 * (20 * (l.depth.steps - 1) + 8)

abbrev pub decreases-climbing::binary : goal.decreases-climbing::binary
decreases-climbing::binary g l = 2 ^ 65 * (20 * (l.depth.steps - 1) + 11)

abbrev pub decreases-atoms::atom_of : goal.decreases-atoms::atom_of
decreases-atoms::atom_of g l = 2 ^ 65 * (20 * l.depth.steps)

abbrev pub decreases-atoms::other_atom : goal.decreases-atoms::other_atom
decreases-atoms::other_atom g l = 2 ^ 65 * (20 * (l.depth.steps - 1) + 19)

abbrev pub invariant-chains::links-sides : goal.invariant-chains::links-sides
invariant-chains::links-sides g l = record {
  ahead : l.fn.first.next ≤ l.items.next;
  is : Links l.tokens l.depth l.o (links_of l.depth l.o (map tree_of l.fn.first.exprs.items) (seen l.tokens l.fn.first.next)) l.items;
  placed : LinksRead g.R.Recorder.after l.tokens l.o l.fn.first l.items l.fn.recorder l.recorder;
}

abbrev pub decreases-chains::links-sides : goal.decreases-chains::links-sides
decreases-chains::links-sides g l = length l.tokens - l.items.next

abbrev pub invariant-chains::compare-sides : goal.invariant-chains::compare-sides
invariant-chains::compare-sides g l = record {
  ahead : l.fn.left.next ≤ l.items.next;
  is : Sides l.tokens l.depth (tree_of l.fn.left.expr.value) (operation (inner_reads l.depth) (tree_of l.fn.left.expr.value)
      precedence.Compares (seen l.tokens l.fn.left.next) (seen l.tokens (l.fn.left.next + 1))) l.ops.items l.items;
  placed : SidesRead g.R.Recorder.after l.tokens l.fn.left.next l.ops.items l.items l.fn.recorder l.recorder;
}

abbrev pub decreases-chains::compare-sides : goal.decreases-chains::compare-sides
decreases-chains::compare-sides g l = length l.tokens - l.items.next

abbrev pub decreases-chains::chain : goal.decreases-chains::chain
decreases-chains::chain g l = 2 ^ 65 * (20 * (l.depth.steps - 1) + 10)

abbrev pub decreases-chains::links : goal.decreases-chains::links
decreases-chains::links g l = 2 ^ 65 * (20 * (l.depth.steps - 1) + 9)

abbrev pub decreases-chains::compare : goal.decreases-chains::compare
decreases-chains::compare g l = 2 ^ 65 * (20 * (l.depth.steps - 1) + 10)

abbrev pub decreases-atoms::generator_group : goal.decreases-atoms::generator_group
decreases-atoms::generator_group g l = 2 ^ 65 * (20 * (l.depth.steps - 1) + 16)

abbrev pub decreases-atoms::list_comp : goal.decreases-atoms::list_comp
decreases-atoms::list_comp g l = 2 ^ 65 * (20 * (l.depth.steps - 1) + 16)

abbrev pub decreases-listings::listing : goal.decreases-listings::listing
decreases-listings::listing g l = 2 ^ 65 * (20 * (l.depth.steps - 1) + 10)

abbrev pub decreases-listings::others : goal.decreases-listings::others
decreases-listings::others g l = 2 ^ 65 * (20 * (l.depth.steps - 1) + 11)

abbrev pub decreases-listings::read_item : goal.decreases-listings::read_item
decreases-listings::read_item g l = 2 ^ 65 * (20 * (l.depth.steps - 1) + 9)

abbrev pub decreases-listings::tupled : goal.decreases-listings::tupled
decreases-listings::tupled g l = 2 ^ 65 * (20 * (l.depth.steps - 1) + 12)

abbrev pub decreases-slices::perhaps : goal.decreases-slices::perhaps
decreases-slices::perhaps g l = 2 ^ 65 * (20 * (l.depth.steps - 1) + 9)

abbrev pub decreases-slices::read_part : goal.decreases-slices::read_part
decreases-slices::read_part g l = 2 ^ 65 * (20 * l.depth.steps + 8)

abbrev pub decreases-slices::read_slice : goal.decreases-slices::read_slice
decreases-slices::read_slice g l = 2 ^ 65 * (20 * l.depth.steps + 7)

abbrev pub decreases-slices::read_slices : goal.decreases-slices::read_slices
decreases-slices::read_slices g l = 2 ^ 65 * (20 * l.depth.steps + 9)

abbrev pub invariant-listings::listing-more : goal.invariant-listings::listing-more
invariant-listings::listing-more g l = record {
  ahead : l.fn.items.next ≤ l.items.next;
  is : Lists l.tokens l.depth l.item (more_at l.depth l.item (entries_of l.fn.items) (seen l.tokens l.fn.items.next)) l.items;
  grown : Grown g.R.Recorder.after l.tokens (item_of l.item) l.fn.items l.items l.initial.recorder l.recorder;
}

abbrev pub decreases-listings::listing-more : goal.decreases-listings::listing-more
decreases-listings::listing-more g l = length l.tokens - l.items.next

abbrev pub decreases-slices::slice_rest : goal.decreases-slices::slice_rest
decreases-slices::slice_rest g l = 2 ^ 65 * (20 * (l.depth.steps - 1) + 10)

abbrev pub decreases-comprehensions::target_item : goal.decreases-comprehensions::target_item
decreases-comprehensions::target_item g l = 2 ^ 65 * (20 * (l.depth.steps - 1) + 8)

abbrev pub decreases-braces::curly : goal.decreases-braces::curly
decreases-braces::curly g l = 2 ^ 65 * (20 * (l.depth.steps - 1) + 18)

abbrev pub decreases-braces::keyed : goal.decreases-braces::keyed
decreases-braces::keyed g l = 2 ^ 65 * (20 * (l.depth.steps - 1) + 17)

abbrev pub decreases-braces::dict_from : goal.decreases-braces::dict_from
decreases-braces::dict_from g l = 2 ^ 65 * (20 * (l.depth.steps - 1) + 16)

abbrev pub decreases-braces::set_from : goal.decreases-braces::set_from
decreases-braces::set_from g l = 2 ^ 65 * (20 * (l.depth.steps - 1) + 16)

abbrev pub decreases-braces::more_pairs : goal.decreases-braces::more_pairs
decreases-braces::more_pairs g l = 2 ^ 65 * (20 * (l.depth.steps - 1) + 15)

abbrev pub decreases-braces::read_pair : goal.decreases-braces::read_pair
decreases-braces::read_pair g l = 2 ^ 65 * (20 * (l.depth.steps - 1) + 14)

abbrev pub invariant-braces::more_pairs-more : goal.invariant-braces::more_pairs-more
invariant-braces::more_pairs-more g l = record {
  ahead : l.fn.pairs.next ≤ l.pairs.next;
  is : HasPairs l.tokens l.depth (more_pairs_at l.depth (pairs_of l.fn.pairs) (seen l.tokens l.fn.pairs.next)) l.pairs;
  grown : PairsGrown g.R.Recorder.after g.R.Recorder.beside l.tokens l.fn.pairs l.pairs l.initial.recorder l.recorder;
}

abbrev pub decreases-braces::more_pairs-more : goal.decreases-braces::more_pairs-more
decreases-braces::more_pairs-more g l = length l.tokens - l.pairs.next

abbrev pub decreases-comprehensions::read_target : goal.decreases-comprehensions::read_target
decreases-comprehensions::read_target g l = 2 ^ 65 * (20 * (l.depth.steps - 1) + 13)

abbrev pub decreases-comprehensions::target_tuple : goal.decreases-comprehensions::target_tuple
decreases-comprehensions::target_tuple g l = 2 ^ 65 * (20 * (l.depth.steps - 1) + 12)

abbrev pub decreases-comprehensions::ifs : goal.decreases-comprehensions::ifs
decreases-comprehensions::ifs g l = 2 ^ 65 * (20 * (l.depth.steps - 1) + 10)

abbrev pub decreases-comprehensions::for_in : goal.decreases-comprehensions::for_in
decreases-comprehensions::for_in g l = 2 ^ 65 * (20 * (l.depth.steps - 1) + 14)

abbrev pub decreases-comprehensions::comps : goal.decreases-comprehensions::comps
decreases-comprehensions::comps g l = 2 ^ 65 * (20 * (l.depth.steps - 1) + 15)

abbrev pub invariant-comprehensions::ifs-tests : goal.invariant-comprehensions::ifs-tests
invariant-comprehensions::ifs-tests g l = record {
  ahead : l.at ≤ l.items.next;
  is : Tests l.tokens l.depth (ifs_loop (inner_reads l.depth) (length (seen l.tokens l.at)) [] (seen l.tokens l.at)) l.items;
  grown : TestsGrown g.R.Recorder.after l.tokens l.at l.items l.initial.recorder l.recorder;
}

abbrev pub decreases-comprehensions::ifs-tests : goal.decreases-comprehensions::ifs-tests
decreases-comprehensions::ifs-tests g l = length l.tokens - l.items.next

abbrev pub invariant-comprehensions::comps-more : goal.invariant-comprehensions::comps-more
invariant-comprehensions::comps-more g l = record {
  ahead : l.at ≤ l.clauses.next;
  is : Reached l.tokens l.depth (comps_loop (inner_reads l.depth) (length (seen l.tokens l.at)) [] (seen l.tokens l.at)) l.clauses;
  grown : ClausesGrown g.R.Recorder.after l.tokens l.at l.clauses l.initial.recorder l.recorder;
}

abbrev pub decreases-comprehensions::comps-more : goal.decreases-comprehensions::comps-more
decreases-comprehensions::comps-more g l = length l.tokens - l.clauses.next

abbrev pub decreases-braces::set_comp : goal.decreases-braces::set_comp
decreases-braces::set_comp g l = 2 ^ 65 * (20 * (l.depth.steps - 1) + 16)

abbrev pub decreases-braces::dict_comp : goal.decreases-braces::dict_comp
decreases-braces::dict_comp g l = 2 ^ 65 * (20 * (l.depth.steps - 1) + 16)

abbrev pub decreases-arguments::read_argument : goal.decreases-arguments::read_argument
decreases-arguments::read_argument g l = 2 ^ 65 * (20 * (l.depth.steps - 1) + 7)

abbrev pub decreases-arguments::one_more : goal.decreases-arguments::one_more
decreases-arguments::one_more g l = 2 ^ 65 * (20 * (l.depth.steps - 1) + 8)

abbrev pub decreases-arguments::more_arguments : goal.decreases-arguments::more_arguments
decreases-arguments::more_arguments g l = 2 ^ 65 * (20 * (l.depth.steps - 1) + 9)

abbrev pub decreases-arguments::call_from : goal.decreases-arguments::call_from
decreases-arguments::call_from g l = 2 ^ 65 * (20 * (l.depth.steps - 1) + 10)

abbrev pub decreases-arguments::call_step : goal.decreases-arguments::call_step
decreases-arguments::call_step g l = 2 ^ 65 * (20 * (l.depth.steps - 1) + 18)

abbrev pub invariant-arguments::more_arguments-more : goal.invariant-arguments::more_arguments-more
invariant-arguments::more_arguments-more g l = record {
  ahead : l.fn.actual.next ≤ l.actual.next;
  is : Reaches l.tokens l.depth (actuals.state_of l.fn.actual) (arguments_of l.depth [] (seen l.tokens l.fn.actual.next)) l.actual;
  placed : ArgumentsGrow g.R.Recorder.after g.R.Recorder.beside l.tokens l.fn.actual.next
      (actuals.state_of l.fn.actual) l.actual l.initial.recorder l.recorder;
}

abbrev pub decreases-arguments::more_arguments-more : goal.decreases-arguments::more_arguments-more
decreases-arguments::more_arguments-more g l = length l.tokens - l.actual.next

abbrev pub decreases-signatures::suffixed : goal.decreases-signatures::suffixed
decreases-signatures::suffixed g l = 2 ^ 65 * (20 * (l.depth.steps - 1) + 9)

abbrev pub decreases-signatures::star_annotation : goal.decreases-signatures::star_annotation
decreases-signatures::star_annotation g l = 2 ^ 65 * (20 * (l.depth.steps - 1) + 9)

abbrev pub decreases-signatures::plain_parameter : goal.decreases-signatures::plain_parameter
decreases-signatures::plain_parameter g l = 2 ^ 65 * (20 * (l.depth.steps - 1) + 10)

abbrev pub decreases-signatures::gathered_parameter : goal.decreases-signatures::gathered_parameter
decreases-signatures::gathered_parameter g l = 2 ^ 65 * (20 * (l.depth.steps - 1) + 10)

abbrev pub decreases-signatures::collected_parameter : goal.decreases-signatures::collected_parameter
decreases-signatures::collected_parameter g l = 2 ^ 65 * (20 * (l.depth.steps - 1) + 10)

abbrev pub decreases-signatures::read_parameter : goal.decreases-signatures::read_parameter
decreases-signatures::read_parameter g l = 2 ^ 65 * (20 * (l.depth.steps - 1) + 11)

abbrev pub decreases-signatures::parameters : goal.decreases-signatures::parameters
decreases-signatures::parameters g l = 2 ^ 65 * (20 * (l.depth.steps - 1) + 12)

abbrev pub decreases-signatures::lambda_step : goal.decreases-signatures::lambda_step
decreases-signatures::lambda_step g l = 2 ^ 65 * (20 * (l.depth.steps - 1) + 13)

abbrev pub decreases-signatures::lambda_body : goal.decreases-signatures::lambda_body
decreases-signatures::lambda_body g l = 2 ^ 65 * (20 * (l.depth.steps - 1) + 12)

abbrev pub invariant-signatures::parameters-more : goal.invariant-signatures::parameters-more
invariant-signatures::parameters-more g l = record {
  ahead : l.at ≤ l.signature.next;
  is : Parameters l.tokens l.depth l.annotated (listed l.depth l.annotated (seen l.tokens l.at)) l.signature;
  aside : l.aside ≡ g.R.Recorder.aside_count l.initial.recorder;
  placed : SignatureGrows g.R.Recorder.after g.R.Recorder.beside g.R.Recorder.aside_count l.tokens l.annotated l.at
      l.signature.formal l.signature.next l.count l.initial.recorder l.recorder;
}

abbrev pub decreases-signatures::parameters-more : goal.decreases-signatures::parameters-more
decreases-signatures::parameters-more g l = length l.tokens - l.signature.next

abbrev pub decreases-arguments::generator_call : goal.decreases-arguments::generator_call
decreases-arguments::generator_call g l = 2 ^ 65 * (20 * (l.depth.steps - 1) + 16)

abbrev pub decreases-strings::string_atom : goal.decreases-strings::string_atom
decreases-strings::string_atom g l = 2 ^ 65 * (20 * (l.depth.steps - 1) + 14)

abbrev pub decreases-strings::formatted_atom : goal.decreases-strings::formatted_atom
decreases-strings::formatted_atom g l = 2 ^ 65 * (20 * (l.depth.steps - 1) + 14)

abbrev pub decreases-strings::read_literals : goal.decreases-strings::read_literals
decreases-strings::read_literals g l = 2 ^ 65 * (20 * (l.depth.steps - 1) + 13)

abbrev pub decreases-strings::read_joined : goal.decreases-strings::read_joined
decreases-strings::read_joined g l = 2 ^ 65 * (20 * (l.depth.steps - 1) + 12)

abbrev pub decreases-strings::more_literals : goal.decreases-strings::more_literals
decreases-strings::more_literals g l = 2 ^ 65 * (20 * (l.depth.steps - 1) + 11)

abbrev pub decreases-strings::read_formatted : goal.decreases-strings::read_formatted
decreases-strings::read_formatted g l = 2 ^ 65 * (20 * (l.depth.steps - 1) + 10)

-- within an f-string the terminals that are left count too: format specs stand in fields
abbrev pub decreases-strings::read_parts : goal.decreases-strings::read_parts
decreases-strings::read_parts g l = 2 ^ 65 * (20 * (l.depth.steps - 1) + 9) + (2 * (length l.tokens.now - l.before.next) + 1)

abbrev pub decreases-strings::with_part : goal.decreases-strings::with_part
decreases-strings::with_part g l = 2 ^ 65 * (20 * (l.depth.steps - 1) + 9) + 2 * (length l.tokens.now - l.before.next)

abbrev pub decreases-strings::read_field : goal.decreases-strings::read_field
decreases-strings::read_field g l = 2 ^ 65 * (20 * (l.depth.steps - 1) + 9) + (2 * (length l.tokens.now - l.at) + 1)

abbrev pub decreases-strings::read_spec : goal.decreases-strings::read_spec
decreases-strings::read_spec g l = 2 ^ 65 * (20 * (l.depth.steps - 1) + 9) + (2 * (length l.tokens.now - l.at) + 1)

abbrev pub invariant-strings::more_literals-more : goal.invariant-strings::more_literals-more
invariant-strings::more_literals-more g l = record {
  ahead : l.fn.before.next ≤ l.values.next;
  within : l.values.next ≤ length l.tokens;
  is : (acc : List StringPart) → state_of l.fn.before ≡ gathered l.unicode acc
      → Literals l.tokens l.depth l.unicode (literals_loop (inner_reads l.depth) l.unicode (length (seen l.tokens l.fn.before.next)) acc
      (seen l.tokens l.fn.before.next)) l.values;
  placed : (whole : Stretch) → Alike g.R.Recorder.after (stretch l.row.first l.row.following) whole
      → PartsPlaced g.R.Recorder.after (PlacedLiterals l.unicode whole) l.tokens l.unicode whole l.fn.before l.values
      l.initial.recorder l.recorder;
}

abbrev pub decreases-strings::more_literals-more : goal.decreases-strings::more_literals-more
decreases-strings::more_literals-more g l = length l.tokens - l.values.next

abbrev pub invariant-strings::read_parts-parts : goal.invariant-strings::read_parts-parts
invariant-strings::read_parts-parts g l = record {
  ahead : l.fn.before.next ≤ l.values.next;
  within : l.values.next ≤ length l.tokens;
  is : (most : ℕ) (acc : List StringPart) → length (seen l.tokens l.fn.before.next) ≤ most → state_of l.fn.before ≡ gathered l.unicode acc
      → Parts l.tokens l.depth l.unicode (parts_loop (inner_reads l.depth) l.unicode most acc (seen l.tokens l.fn.before.next)) l.values;
  placed : (whole : Stretch) → Alike g.R.Recorder.after (stretch l.row.first l.row.following) whole
      → PartsPlaced g.R.Recorder.after (PlacedFormatted l.unicode whole) l.tokens l.unicode whole l.fn.before l.values
      l.initial.recorder l.recorder;
}

abbrev pub decreases-strings::read_parts-parts : goal.decreases-strings::read_parts-parts
decreases-strings::read_parts-parts g l = length l.tokens - l.values.next
