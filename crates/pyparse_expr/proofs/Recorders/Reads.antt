-- What was read and recorded, with the places around it.
--
-- Carries: all readers of listings, braces, comprehensions and slices. On: Answers of pyplaces.
pub use Rattle.pyparse_reads.proofs.Callers.Looks.{with_places, records_as, placed_at}
use Rattle.std.proofs.Common.{◌≡◌, sym, ap, ◌∙◌, subst, ℕ, List, ◌++◌, Result, Ok, Err}
use Rattle.std.specs.Prelude.{IfOk}
use Rattle.pytree_node.specs.Trees.{Expr}
use Rattle.pytree_node.specs.TreeOf.{tree_of}
use Rattle.pytoken.specs.Terminals.{Terminal}
use Rattle.pytoken.specs.declared.values.terminals.Terminal as given
use Rattle.pygrammar.specs.declared.levels.Level.{Level}
use Rattle.pyparse_nodes.specs.declared.found.Read.{Read}
use Rattle.pyparse_nodes.specs.declared.stop.Stop.{Stop}
use Rattle.pyparse_nodes.specs.Answers.{Makes}
use Rattle.pyparse_nodes.specs.Views.{seen}
use Rattle.pyplaces.specs.Stretches.{Stretch}
use Rattle.pyplaces.specs.Placed.{ReadAs, Placed}
use Rattle.pyplaces.specs.Recording.{afters, Records}
use Rattle.pyplaces.proofs.Answers.{placed_as, records_more}

-- an expression of a level, read at a place
abbrev pub ReadPlaced : {S : Type 0} (after : S → Stretch → S) (ts : List given.Terminal) (l : Level) (at : ℕ) (old new : S) → Read
    → Type 0
ReadPlaced after ts l at old new r =
    (ps : List Stretch) × Placed l (seen ts at) at (tree_of r.expr.value) (seen ts r.next) r.next ps × Records after old ps new

-- the same, after what was read already with such places
abbrev pub LeftPlaced : {S : Type 0} (after : S → Stretch → S) (ts : List given.Terminal) (l : Level) (i : List Terminal) (at : ℕ)
    (ps : List Stretch) (old new : S) → Read → Type 0
LeftPlaced after ts l i at ps old new r =
    (qs : List Stretch) × Placed l i at (tree_of r.expr.value) (seen ts r.next) r.next (ps ++ qs) × Records after old qs new

-- what is made of its parts, which is of this tree, is recorded before it is made
pub made_left : {S : Type 0} {after : S → Stretch → S} {l : Level} {i : List Terminal} {at : ℕ} {qs : List Stretch} {e f : Expr}
    {u v : S} (ts : List given.Terminal) (ps : List Stretch) (room n : ℕ) (z : Result Read Stop) → Makes room f n z → f ≡ e
    → Placed l i at e (seen ts n) n (ps ++ qs) → Records after u qs v → IfOk z (λ r. LeftPlaced after ts l i at ps u v r)
made_left {qs = qs} ts ps room n (Ok r) m q p h = (qs, placed_as (seen ts) (m.tree ∙ q) m.next_is p, h)
made_left ts ps room n (Err e) m q p h = tt

pub made_whole : {S : Type 0} {after : S → Stretch → S} {l : Level} {i : List Terminal} {at : ℕ} {ps : List Stretch} {e f : Expr}
    {u v : S} (ts : List given.Terminal) (room n : ℕ) (z : Result Read Stop) → Makes room f n z → f ≡ e
    → Placed l i at e (seen ts n) n ps → Records after u ps v
    → IfOk z (λ r. (qs : List Stretch) × Placed l i at (tree_of r.expr.value) (seen ts r.next) r.next qs × Records after u qs v)
made_whole {ps = ps} ts room n (Ok r) m q p h = (ps, placed_as (seen ts) (m.tree ∙ q) m.next_is p, h)
made_whole ts room n (Err e) m q p h = tt

-- a part that was recorded, and the whole after it
pub after_left : {S : Type 0} {after : S → Stretch → S} {ps : List Stretch} {u v : S} (ts : List given.Terminal) (l : Level)
    (i : List Terminal) (at : ℕ) (w : S) (z : Result Read Stop) → Records after u ps v → IfOk z (λ r. LeftPlaced after ts l i at ps v w r)
    → IfOk z (λ r. (qs : List Stretch) × Placed l i at (tree_of r.expr.value) (seen ts r.next) r.next qs × Records after u qs w)
after_left {ps = ps} ts l i at w (Ok r) h p = (ps ++ p.0, p.1, records_more h p.2)
after_left ts l i at w (Err e) h p = tt
