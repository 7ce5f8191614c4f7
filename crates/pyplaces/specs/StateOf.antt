-- What is kept of lines in the program, and of which lines.
use Rattle.std.specs.Prelude.{◌≡◌, List, map, reverse, length}
use Rattle.pygrammar.specs.Lines.{Line}
use Rattle.pyplaces.specs.BlockPlaces.{LinePlaces}
use Rattle.pyplaces.specs.Recording.{told}
use Rattle.pyplaces.specs.Steps.{OpenNode, node, State, state, start, run}
use Rattle.pyplaces.specs.declared.line_spans.LineSpans as given_line
use Rattle.pyplaces.specs.declared.nodes.OpenNode as given_node
use Rattle.pyplaces.specs.declared.place_stack.PlaceStack as given_stack

-- the places of a line
abbrev pub places_of : given_line.LineSpans → LinePlaces
places_of z = record { whole = told z.whole; before = map told z.before.now; following = map told z.following.now; suite = map told z.suite.now }

abbrev pub node_of : given_node.OpenNode → OpenNode
node_of n = node n.level n.is_handler n.«from» (map told n.following.items)

-- the innermost node stands last there
abbrev pub state_of : given_stack.PlaceStack → State
state_of p = state (map told p.spans.items) (map told p.decorators.items) (reverse (map node_of p.nodes.items)) p.to

-- it is what is kept of these lines, each of which has its places
pub record Follows (xs : List Line) (zs : List LinePlaces) (p : given_stack.PlaceStack) : Type 0 where
  pub one_each : length zs ≡ length xs
  pub read : run xs zs start ≡ state_of p
