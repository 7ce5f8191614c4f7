-- The next step of an expression of a level, and of what stands in one without brackets. What is counted, and which places are put
-- together, is as in `places`: n, m, w are the numbers of terminals of the parts.
use Rattle.std.specs.Prelude.{ℕ, ◌+◌, ◌==◌, List, [], ◌∷◌, ◌++◌, cond, Option, Some, None, false}
use Rattle.pylex_lexeme.specs.declared.kinds.Exact.{Exact}
use Rattle.pytoken.specs.declared.keywords.Keyword.TheVariants as Key
use Rattle.pytree_node.specs.declared.operators.BoolOperator.{BoolOperator}
use Rattle.pytree_node.specs.declared.operators.BoolOperator.TheVariants as Join
use Rattle.pytoken.specs.Terminals.{Terminal, Op, Word}
use Rattle.pygrammar.specs.declared.levels.Level.{Level}
use Rattle.pygrammar.specs.declared.levels.Level.TheVariants.{Value, Stars, StarItem, Named, Expression, Or, And, Not, Compare, BitOr}
use Rattle.pygrammar.specs.declared.levels.Level.TheVariants.{Factor, Power, Await, Primary, Atom, Elem, Slices, Part, Slice, Subject}
use Rattle.pygrammar.specs.Operators.{below, chain_level, rank}
use Rattle.pygrammar.specs.Entries.{Of, Parameter}
use Rattle.pygrammar.specs.Precedence.{starts}
use Rattle.pyplaces.specs.Stretches.{Stretch, over}
use Rattle.pyplaces.specs.EntryPlaces.{singles, arranged}
use Rattle.pyplaces.specs.Inner.Looks.{grip, after, name_grip, on_grip, on_lead}
use Rattle.pyplaces.specs.Inner.Questions.{An, More, Trailers, Bounds, Yielded, Perhaps, Links, Signs, Items, Reading, Ask}
use Rattle.pyplaces.specs.Inner.AtomSteps.{atom_step}

-- how the answer of a question goes on that is answered by places
abbrev pub Goes : Type 0
Goes = List Stretch → ℕ → List Terminal → Reading

-- a sign or a word, and what is one node with it
abbrev prefixed : Level → ℕ → List Terminal → Goes → Reading
prefixed l at r k = Ask (An l) (1 + at) r (λ ps n r1. k (ps ++ over at (1 + n)) (1 + n) r1)

-- a tuple without brackets, if a comma follows
abbrev tupled : Level → List Stretch → ℕ → ℕ → List Terminal → Goes → Reading → Reading
tupled l ps n at r k other = on_grip 3 r
    (Ask (Items (Of l)) (at + (n + 1)) (after r) (λ es m r1. k (ps ++ (singles es ++ over at (n + (1 + m)))) (n + (1 + m)) r1)) other

-- `or` or `and`, if it follows
abbrev linked : BoolOperator → ℕ → List Terminal → Goes → Reading
linked o at i k = Ask (An (below (chain_level o))) at i (λ ps n r. on_grip (rank (chain_level o)) r
    (Ask (Links o) (1 + (at + n)) (after r) (λ qs m r1. k (ps ++ (qs ++ over at (1 + (n + m)))) (1 + (n + m)) r1)) (k ps n r))

-- an operator of this grip, if it follows
abbrev raised : Level → ℕ → List Stretch → ℕ → ℕ → List Terminal → Goes → Reading
raised l g ps n at r k = on_grip g r
    (Ask (An l) (1 + (at + n)) (after r) (λ qs m r1. k (ps ++ (qs ++ over at (1 + (n + m)))) (1 + (n + m)) r1)) (k ps n r)

abbrev pub level_step : Level → ℕ → List Terminal → Goes → Reading
level_step Value at i k = on_lead 1 i
    (Ask Yielded (1 + at) (after i) (λ ps n r. k (ps ++ over at (1 + n)) (1 + n) r)) (Ask (An Stars) at i k)
level_step Stars at i k = Ask (An StarItem) at i (λ ps n r. tupled StarItem ps n at r k (k ps n r))
level_step StarItem at i k = on_lead 7 i (prefixed BitOr at (after i) k) (Ask (An Expression) at i k)
level_step Elem at i k = on_lead 7 i (prefixed BitOr at (after i) k) (Ask (An Named) at i k)
level_step Named at i k = cond (name_grip i == 8)
    (Ask (An Expression) (2 + at) (after (after i)) (λ ps n r. k (over at 1 ++ (ps ++ over at (2 + n))) (2 + n) r))
    (Ask (An Expression) at i k)
level_step Expression at i k = on_lead 9 i
    (Ask (Items (Parameter false)) (1 + at) (after i) (λ es n r. Ask (An Expression) (2 + (at + n)) (after r)
    (λ ps m r1. k (arranged es ++ (ps ++ over at (2 + (n + m)))) (2 + (n + m)) r1)))
    (Ask (An Or) at i (λ ps n r. on_grip 9 r
    (Ask (An Or) (1 + (at + n)) (after r) (λ qs m r1. Ask (An Expression) (2 + (at + (n + m))) (after r1)
    (λ rs w r2. k (qs ++ (ps ++ (rs ++ over at (2 + (n + (m + w)))))) (2 + (n + (m + w))) r2)))
    (k ps n r)))
level_step Or at i k = linked Join.Or at i k
level_step And at i k = linked Join.And at i k
level_step Not at i k = on_lead 12 i (prefixed Not at (after i) k) (Ask (An Compare) at i k)
level_step Compare at i k = Ask (An BitOr) at i (λ ps n r. on_grip 13 r
    (Ask Signs (at + n) r (λ qs m r1. k (ps ++ (qs ++ over at (n + m))) (n + m) r1)) (k ps n r))
level_step Factor at i k = on_lead 20 i (prefixed Factor at (after i) k) (Ask (An Power) at i k)
level_step Power at i k = Ask (An Await) at i (λ ps n r. raised Factor 21 ps n at r k)
level_step Await at i k = on_lead 22 i (prefixed Primary at (after i) k) (Ask (An Primary) at i k)
level_step Primary at i k = Ask (An Atom) at i (λ ps n r. Ask (Trailers ps n) at r k)
level_step Atom at i k = atom_step at i k
level_step Slices at i k =
    Ask (An Part) at i (λ ps n r. tupled Part ps n at r k (on_lead 7 i (k (ps ++ over at n) n r) (k ps n r)))
level_step Part at i k = on_lead 7 i (prefixed Expression at (after i) k) (Ask (An Slice) at i k)
level_step Slice at i k = on_lead 5 i (Ask (Bounds [] 0) at i k)
    (Ask (An Named) at i (λ ps n r. on_grip 5 r (Ask (Bounds ps n) at r k) (k ps n r)))
level_step Subject at i k = Ask (An Elem) at i (λ ps n r. tupled Elem ps n at r k (k ps n r))
level_step l at i k = Ask (An (below l)) at i (λ ps n r. Ask (More l ps n) at r k)

-- ---- Parts of these.

abbrev pub more_step : Level → List Stretch → ℕ → ℕ → List Terminal → Goes → Reading
more_step l ps n at r k = on_grip (rank l) r
    (Ask (An (below l)) (1 + (at + n)) (after r)
    (λ qs m r1. Ask (More l (ps ++ (qs ++ over at (1 + (n + m)))) (1 + (n + m))) at r1 k)) (k ps n r)

abbrev pub bounds_step : List Stretch → ℕ → ℕ → List Terminal → Goes → Reading
bounds_step ps n at r k = Ask (Perhaps Expression) (1 + (at + n)) (after r) (λ qs m r1. on_grip 5 r1
    (Ask (Perhaps Expression) (2 + (at + (n + m))) (after r1)
    (λ rs w r2. k (ps ++ (qs ++ (rs ++ over at (2 + (n + (m + w)))))) (2 + (n + (m + w))) r2))
    (k (ps ++ (qs ++ over at (1 + (n + m)))) (1 + (n + m)) r1))

abbrev pub yielded_step : ℕ → List Terminal → Goes → Reading
yielded_step at i k = on_grip 4 i (Ask (An Expression) (1 + at) (after i) (λ ps n r. k ps (1 + n) r)) (Ask (Perhaps Stars) at i k)

abbrev pub perhaps_step : Level → ℕ → List Terminal → Goes → Reading
perhaps_step l at i k = cond (starts (Of l) i) (Ask (An l) at i k) (k [] 0 i)

abbrev pub suffixed_step : Option Exact → ℕ → List Terminal → Goes → Reading
suffixed_step None at i k = k [] 0 i
suffixed_step (Some x) at i k = on_grip (grip (Op x)) i (Ask (An Expression) (1 + at) (after i) (λ ps n r. k ps (1 + n) r)) (k [] 0 i)

abbrev pub links_step : BoolOperator → ℕ → List Terminal → Goes → Reading
links_step o at i k = Ask (An (below (chain_level o))) at i (λ ps n r. on_grip (rank (chain_level o)) r
    (Ask (Links o) (1 + (at + n)) (after r) (λ qs m r1. k (ps ++ qs) (1 + (n + m)) r1)) (k ps n r))

-- after the sign of a comparison, which is so many terminals
abbrev pub signed : ℕ → ℕ → List Terminal → Goes → Reading
signed s at i k = Ask (An BitOr) (at + s) i (λ ps n r. on_grip 13 r
    (Ask Signs (at + (s + n)) r (λ qs m r1. k (ps ++ qs) (s + (n + m)) r1)) (k ps (s + n) r))

abbrev pub signs_step : ℕ → List Terminal → Goes → Reading
signs_step at (Word Key.Not ∷ (t ∷ r)) k = signed 2 at r k
signs_step at (Word Key.Is ∷ r) k = on_lead 12 r (signed 2 at (after r) k) (signed 1 at r k)
signs_step at i k = signed 1 at (after i) k
