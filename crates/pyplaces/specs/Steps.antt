-- The places of statements line by line: what is kept of those of the lines so far, and what the next line makes of it.
use Rattle.std.specs.Prelude.{ℕ, Bool, true, false, not, ◌&&◌, nat_lt, nat_le, cond, List, [], ◌∷◌, ◌++◌, Option, Some, None}
use Rattle.pytree_node.specs.Trees.{Stmt}
use Rattle.pygrammar.specs.Lines.{Line, Form, simple_form, decorator_form, header_form}
use Rattle.pygrammar.specs.Blocks.{Kind, ElifLine, ElseLine, TryLine, ExceptLine, FinallyLine, DefLine, CaseLine, header_kind, kind_of}
use Rattle.pygrammar.specs.Blocks.{is_except}
use Rattle.pyplaces.specs.Stretches.{Span, span}
use Rattle.pyplaces.specs.BlockPlaces.{LinePlaces}

-- ---- Kinds of lines.

-- whether a line goes on with a statement of its level
abbrev pub is_clause : Kind → Bool
is_clause ElifLine = true
is_clause ElseLine = true
is_clause (ExceptLine _) = true
is_clause FinallyLine = true
is_clause CaseLine = true
is_clause _ = false

-- whether a header begins a node with a span of its own: a statement, or the handler of an `except`
abbrev pub begins_node : Kind → Bool
begins_node ElseLine = false
begins_node FinallyLine = false
begins_node CaseLine = false
begins_node _ = true

-- whether it has parts that stand before its body
abbrev pub has_parts : Kind → Bool
has_parts TryLine = false
has_parts ElseLine = false
has_parts FinallyLine = false
has_parts _ = true

-- whether it has parts that stand after its body
abbrev pub is_definition : Kind → Bool
is_definition DefLine = true
is_definition _ = false

-- ---- What is kept.

-- a statement or handler whose last line may be still to come: the level of its header, where it begins, and the spans of its parts that
-- stand after
-- its body
pub record OpenNode : Type 0 where
  pub level : ℕ
  pub is_handler : Bool
  pub start : ℕ
  pub following : List Span

abbrev pub node : ℕ → Bool → ℕ → List Span → OpenNode
node level is_handler start following = record { level = level; is_handler = is_handler; start = start; following = following }

-- the spans so far, those of decorators whose definition is still to come, the open nodes, the innermost first, and the end of the last
-- line
pub record State : Type 0 where
  pub spans : List Span
  pub decorators : List Span
  pub nodes : List OpenNode
  pub stop : ℕ

abbrev pub state : List Span → List Span → List OpenNode → ℕ → State
state spans decorators nodes stop = record { spans = spans; decorators = decorators; nodes = nodes; stop = stop }

abbrev pub start : State
start = state [] [] [] 0

-- ---- The next line.

-- Whether a node ends before a line: where its header is deeper, or of the same level, but for the statement that a clause goes on with.
abbrev pub ends : ℕ → Bool → OpenNode → Bool
ends l clause n = cond (clause && not n.is_handler) (nat_lt l n.level) (nat_le l n.level)

-- what a node adds that ends here
abbrev pub closing : ℕ → OpenNode → List Span
closing stop n = n.following ++ (span n.start stop ∷ [])

-- the nodes that end before a line
abbrev pub settle_in : ℕ → Bool → List Span → List Span → List OpenNode → ℕ → State
settle_in l clause spans decorators [] stop = state spans decorators [] stop
settle_in l clause spans decorators (n ∷ ns) stop =
    cond (ends l clause n) (settle_in l clause (spans ++ closing stop n) decorators ns stop) (state spans decorators (n ∷ ns) stop)

abbrev pub settle : ℕ → Bool → State → State
settle l clause s = settle_in l clause s.spans s.decorators s.nodes s.stop

abbrev pub suite_in : Option (List Stmt) → LinePlaces → List Span
suite_in None z = []
suite_in (Some _) z = z.suite

-- the spans of a line, and the node that it begins
abbrev pub place : State → ℕ → Form → LinePlaces → State
place s l (simple_form _) z = state (s.spans ++ z.suite) s.decorators s.nodes z.whole.stop
place s l (decorator_form _) z = state s.spans (s.decorators ++ z.before) s.nodes z.whole.stop
place s l (header_form h suite) z =
    let k = header_kind h in
    let spans = (s.spans ++ cond (has_parts k) z.before []) ++ suite_in suite z in
    let following = s.decorators ++ cond (is_definition k) z.following [] in
    cond (begins_node k) (state spans [] (node l (is_except k) z.whole.start following ∷ s.nodes) z.whole.stop)
    (state spans s.decorators s.nodes z.whole.stop)

abbrev pub step : State → Line → LinePlaces → State
step s x z = place (settle x.level (is_clause (kind_of x.form)) s) x.level x.form z

-- some lines, each with its places
abbrev pub run : List Line → List LinePlaces → State → State
run [] zs s = s
run (x ∷ xs) [] s = s
run (x ∷ xs) (z ∷ zs) s = run xs zs (step s x z)

-- all nodes end
abbrev pub finish : State → List Span
finish s = (settle 0 false s).spans
