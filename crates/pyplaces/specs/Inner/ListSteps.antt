-- The next step of a list with commas, of what stands between these, and of a comprehension.
use Rattle.std.specs.Prelude.{ℕ, ◌+◌, ◌==◌, List, [], ◌∷◌, ◌++◌, cond, Bool, false, Some, None}
use Rattle.pylex_lexeme.specs.declared.kinds.Exact.TheVariants.{Colon, Star, Slash, Equal, DoubleStar}
use Rattle.pytoken.specs.declared.keywords.Keyword.TheVariants as Key
use Rattle.pytoken.specs.Terminals.{Terminal, Op, Word}
use Rattle.pygrammar.specs.declared.levels.Level.TheVariants.{StarItem, Named, Expression, Or, BitOr, Primary}
use Rattle.pygrammar.specs.Entries.{Item, Of, Pair, Argument, Parameter}
use Rattle.pygrammar.specs.Precedence.{starts, starts_comp}
use Rattle.pyplaces.specs.Stretches.{Stretch, stretch, over}
use Rattle.pyplaces.specs.EntryPlaces as E
use Rattle.pyplaces.specs.EntryPlaces.{EntryPlaces, singles}
use Rattle.pyplaces.specs.Inner.Looks.{after, name_grip, is_named, has_starred, on_grip, on_lead}
use Rattle.pyplaces.specs.Inner.Questions.{An, Suffixed, Items, Piece, Clauses, Iteration, Conditions, ATarget, LoneTarget, TargetList, Reading}
use Rattle.pyplaces.specs.Inner.Questions.{Ask}

-- ---- Lists.

abbrev pub items_step : Item → ℕ → List Terminal → (List EntryPlaces → ℕ → List Terminal → Reading) → Reading
items_step i at r k = cond (starts i r)
    (Ask (Piece i) at r (λ e n r1. on_grip 3 r1
    (Ask (Items i) (at + (n + 1)) (after r1) (λ es m r2. k (e ∷ es) (n + (1 + m)) r2)) (k (e ∷ []) n r1)))
    (k [] 0 r)

-- `*` or `**`, and an expression
abbrev pair_step : ℕ → List Terminal → (EntryPlaces → ℕ → List Terminal → Reading) → Reading
pair_step at i k = on_grip 21 i
    (Ask (An BitOr) (1 + at) (after i) (λ ps n r. k (E.Doubled ps (stretch at (1 + (at + n)))) (1 + n) r))
    (Ask (An Expression) at i (λ ps n r. Ask (An Expression) (1 + (at + n)) (after r)
    (λ qs m r1. k (E.Paired ps qs) (1 + (n + m)) r1)))

abbrev argument_step : ℕ → List Terminal → (EntryPlaces → ℕ → List Terminal → Reading) → Reading
argument_step at i k = on_lead 7 i
    (Ask (An Expression) (1 + at) (after i) (λ ps n r. k (E.Spread ps (stretch at (1 + (at + n)))) (1 + n) r))
    (on_grip 21 i
    (Ask (An Expression) (1 + at) (after i) (λ ps n r. k (E.Doubled ps (stretch at (1 + (at + n)))) (1 + n) r))
    (cond (name_grip i == 1)
    (Ask (An Expression) (2 + at) (after (after i)) (λ ps n r. k (E.Keyed ps (stretch at (2 + (at + n)))) (2 + n) r))
    (Ask (An Named) at i (λ ps n r. k (E.Single ps) n r))))

abbrev starred_parameter : Bool → ℕ → List Terminal → (EntryPlaces → ℕ → List Terminal → Reading) → Reading
starred_parameter b at r k = cond (is_named r)
    (cond (cond b (has_starred (after r)) false)
    (Ask (An BitOr) (4 + at) (after (after (after r)))
    (λ ps n r1. k (E.Gathered (ps ++ (over (3 + at) (1 + n) ++ over (1 + at) (3 + n)))) (4 + n) r1))
    (Ask (Suffixed (cond b (Some Colon) None)) (2 + at) (after r)
    (λ ps n r1. k (E.Gathered (ps ++ over (1 + at) (1 + n))) (2 + n) r1)))
    (k E.Bare 1 r)

abbrev parameter_step : Bool → ℕ → List Terminal → (EntryPlaces → ℕ → List Terminal → Reading) → Reading
parameter_step b at (Op Slash ∷ r) k = k E.Slashed 1 r
parameter_step b at (Op Star ∷ r) k = starred_parameter b at r k
parameter_step b at (Op DoubleStar ∷ r) k = Ask (Suffixed (cond b (Some Colon) None)) (2 + at) (after r)
    (λ ps n r1. k (E.Collected (ps ++ over (1 + at) (1 + n))) (2 + n) r1)
parameter_step b at r k = Ask (Suffixed (cond b (Some Colon) None)) (1 + at) (after r) (λ ps n r1.
    Ask (Suffixed (Some Equal)) (1 + (at + n)) r1 (λ qs m r2. k (E.Plain (ps ++ over at (1 + n)) qs) (1 + (n + m)) r2))

abbrev pub piece_step : Item → ℕ → List Terminal → (EntryPlaces → ℕ → List Terminal → Reading) → Reading
piece_step (Of l) at i k = Ask (An l) at i (λ ps n r. k (E.Single ps) n r)
piece_step Pair at i k = pair_step at i k
piece_step Argument at i k = argument_step at i k
piece_step (Parameter b) at i k = parameter_step b at i k

-- ---- Comprehensions.

abbrev pub clause : ℕ → List Terminal → (List Stretch → ℕ → List Terminal → Reading) → Reading
clause at (Word Key.Async ∷ r) k = Ask Iteration (2 + at) (after r) (λ ps n r1. k ps (2 + n) r1)
clause at r k = Ask Iteration (1 + at) (after r) (λ ps n r1. k ps (1 + n) r1)

abbrev pub clauses_step : ℕ → List Terminal → (List Stretch → ℕ → List Terminal → Reading) → Reading
clauses_step at i k = clause at i (λ ps n r.
    cond (starts_comp r) (Ask Clauses (at + n) r (λ qs m r1. k (ps ++ qs) (n + m) r1)) (k ps n r))

abbrev pub iteration_step : ℕ → List Terminal → (List Stretch → ℕ → List Terminal → Reading) → Reading
iteration_step at i k = Ask ATarget at i (λ ps n r. Ask (An Or) (1 + (at + n)) (after r) (λ qs m r1.
    Ask Conditions (1 + (at + (n + m))) r1 (λ rs w r2. k (ps ++ (qs ++ rs)) (1 + (n + (m + w))) r2)))

abbrev pub conditions_step : ℕ → List Terminal → (List Stretch → ℕ → List Terminal → Reading) → Reading
conditions_step at i k = on_grip 9 i
    (Ask (An Or) (1 + at) (after i) (λ ps n r. Ask Conditions (1 + (at + n)) r (λ qs m r1. k (ps ++ qs) (1 + (n + m)) r1)))
    (k [] 0 i)

-- ---- Targets in front of `in`, where a comparison can't follow.

abbrev pub lone_target_step : ℕ → List Terminal → (List Stretch → ℕ → List Terminal → Reading) → Reading
lone_target_step at i k = on_lead 7 i
    (Ask (An Primary) (1 + at) (after i) (λ ps n r. k (ps ++ over at (1 + n)) (1 + n) r)) (Ask (An Primary) at i k)

abbrev pub target_step : ℕ → List Terminal → (List Stretch → ℕ → List Terminal → Reading) → Reading
target_step at i k = Ask LoneTarget at i (λ ps n r. on_grip 3 r
    (Ask TargetList (at + (n + 1)) (after r) (λ es m r1. k (ps ++ (singles es ++ over at (n + (1 + m)))) (n + (1 + m)) r1)) (k ps n r))

abbrev pub target_list_step : ℕ → List Terminal → (List EntryPlaces → ℕ → List Terminal → Reading) → Reading
target_list_step at r k = cond (starts (Of StarItem) r)
    (Ask LoneTarget at r (λ ps n r1. on_grip 3 r1
    (Ask TargetList (at + (n + 1)) (after r1) (λ es m r2. k (E.Single ps ∷ es) (n + (1 + m)) r2)) (k (E.Single ps ∷ []) n r1)))
    (k [] 0 r)
