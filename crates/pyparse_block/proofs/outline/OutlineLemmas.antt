-- Carries: Outline. On: what an outline says of the lines that it follows.
use Rattle.std.proofs.Common.{◌≡◌, ℕ, List, [], ◌∷◌, ◌++◌, map, Bool, true, refl, sym, ap, ◌∙◌, subst}
use Rattle.pytree_node.specs.Trees.{Stmt}
use Rattle.pygrammar.specs.Lines.{Line, line, Form, are_proper}
use Rattle.pygrammar.specs.Blocks.{Block, Fault}
use Rattle.pygrammar.specs.Reading.{Answer, Fine, Faulty, State, start, run}
use Rattle.pygrammar.specs.Reading as reading
use Rattle.pygrammar.specs.Depths.{Depth, count, innermost, is_deep}
use Rattle.pygrammar.proofs.Callers.Blocks.{step_on, fault_found, end_fault_found, block_found, count_on}
use Rattle.pyparse_block.specs.declared.outline.faults.BlockStop.{BlockStop}
use Rattle.pyparse_block.specs.declared.outline.faults.BlockStop.TheVariants as stop
use Rattle.pyparse_block.specs.declared.outline.shapes.Shape.{Shape}
use Rattle.pyparse_block.specs.declared.outline.outlines.Outline.{Outline}
use Rattle.pyparse_block.specs.Faults.{fault_of, Tells, Blames}
use Rattle.pyparse_block.specs.Outlines.{Levels, outline, outlined, capped, levels_of, lasts_of, Follows}
use Rattle.pyparse_block.specs.Inner.Shapes.{shape_of}
use Rattle.pyparse_block.specs.Inner.Steps.{step, finish}
use Rattle.pyparse_block.specs.Inner.Counting.{Counts}
use Rattle.pyparse_block.proofs.outline.Forgetting.{bare_end, step_outlined, finish_outlined}
use Rattle.pyparse_block.proofs.outline.DepthLemmas.{line_counted, line_deep}

-- ---- What an answer without trees says of one with them.

record Reads (a : Answer State) (t : Levels) : Type 0 where
  state : State
  is : a ≡ Fine state
  kept : outline state ≡ t

reads : (a : Answer State) (t : Levels) → outlined a ≡ Fine t → Reads a t
reads (Fine s) t h = record { state = s; is = refl; kept = cc }
reads (Faulty f) t h = absurd cc

faulty : (a : Answer State) (f : Fault) → outlined a ≡ Faulty f → a ≡ Faulty f
faulty (Fine s) f h = absurd cc
faulty (Faulty e) f h = let i : e ≡ f = cc in ap Faulty i

ends : (a : Answer (List Stmt)) → bare_end a ≡ Fine tt → (ss : List Stmt) × (a ≡ Fine ss)
ends (Fine ss) h = (ss, refl)
ends (Faulty f) h = absurd cc

ends_faulty : (a : Answer (List Stmt)) (f : Fault) → bare_end a ≡ Faulty f → a ≡ Faulty f
ends_faulty (Fine ss) f h = absurd cc
ends_faulty (Faulty e) f h = let i : e ≡ f = cc in ap Faulty i

-- ---- Outlines.

pub follows_none : (o : Outline) → levels_of o.levels ≡ outline start → lasts_of o.depths.lasts.items ≡ [] → Follows [] o
follows_none o l d = record { read = ap Fine (sym l); counted = d }

step_of : (xs : List Line) (o : Outline) (l : ℕ) (f : Form) → (k : Follows xs o) →
    outlined (reading.step (reads (run xs start) (levels_of o.levels) k.read).state (line l f)) ≡ step l (shape_of f) (levels_of o.levels)
step_of xs o l f k =
    let r = reads (run xs start) (levels_of o.levels) k.read in
    step_outlined r.state (line l f) ∙ ap (step l (shape_of f)) r.kept

counted_by : (l : ℕ) (x y : Shape) (ds es new : List Depth) (deep : Bool) → x ≡ y → ds ≡ es → Counts l x ds new deep
    → Counts l y es new deep
counted_by l x y ds es new deep e d c =
    let P : Shape → Type 0 = λ z. Counts l z es new deep in
    let Q : List Depth → Type 0 = λ z. Counts l x z new deep in
    subst P e (subst Q d c)

-- a line more
pub follows_on : (xs : List Line) (old new : Outline) (l : ℕ) (f : Form) (x : Shape) (deep : Bool) → x ≡ shape_of f → Follows xs old →
    step l x (levels_of old.levels) ≡ Fine (levels_of new.levels)
    → Counts l x (lasts_of old.depths.lasts.items) (lasts_of new.depths.lasts.items) deep → Follows (xs ++ line l f ∷ []) new
follows_on xs old new l f x deep e k s c =
    let r = reads (run xs start) (levels_of old.levels) k.read in
    let t = reads (reading.step r.state (line l f)) (levels_of new.levels) (step_of xs old l f k
    ∙ ap (λ z. step l z (levels_of old.levels)) (sym e) ∙ s) in
    record {
      read = ap outlined (step_on xs (line l f) r.state t.state r.is t.is) ∙ ap Fine t.kept;
      counted = line_counted l f (count [] xs) (lasts_of new.depths.lasts.items) deep
          (counted_by l x (shape_of f) _ _ (lasts_of new.depths.lasts.items) deep e k.counted c)
          ∙ ap (map capped) (sym (count_on [] xs (line l f)));
    }

-- and whether a statement begins in it that stands too deep
pub deep_told : (xs : List Line) (old : Outline) (new : List Depth) (l : ℕ) (f : Form) (x : Shape) (deep : Bool)
    → x ≡ shape_of f → Follows xs old →
    Counts l x (lasts_of old.depths.lasts.items) new deep → deep ≡ is_deep (innermost (line l f) (count [] xs))
deep_told xs old new l f x deep e k c = line_deep l f (count [] xs) new deep (counted_by l x (shape_of f) _ _ new deep e k.counted c)

-- a line that is refused is the first faulty one
pub line_blamed : (xs more : List Line) (o : Outline) (l : ℕ) (f : Form) (e : BlockStop) → Follows xs o
    → Tells (step l (shape_of f) (levels_of o.levels)) e →
    Blames (xs ++ line l f ∷ more) (line l f ∷ more) e
line_blamed xs more o l f stop.Memory k t = tt
line_blamed xs more o l f (stop.Faulty x) k t =
    let r = reads (run xs start) (levels_of o.levels) k.read in
    fault_found xs (line l f) r.state (fault_of x) r.is (faulty (reading.step r.state (line l f)) (fault_of x) (step_of xs o l f k ∙ t))
    more

finish_of : (xs : List Line) (o : Outline) → (k : Follows xs o) →
    bare_end (reading.finish (reads (run xs start) (levels_of o.levels) k.read).state) ≡ finish (levels_of o.levels)
finish_of xs o k =
    let r = reads (run xs start) (levels_of o.levels) k.read in
    finish_outlined r.state ∙ ap finish r.kept

-- an end that is refused
pub end_blamed : (xs : List Line) (o : Outline) (e : BlockStop) → Follows xs o → Tells (finish (levels_of o.levels)) e → Blames xs [] e
end_blamed xs o stop.Memory k t = tt
end_blamed xs o (stop.Faulty x) k t =
    let r = reads (run xs start) (levels_of o.levels) k.read in
    end_fault_found xs r.state (fault_of x) r.is (ends_faulty (reading.finish r.state) (fault_of x) (finish_of xs o k ∙ t))

-- lines that come to their end are statements
pub end_read : (xs : List Line) (o : Outline) → are_proper xs ≡ true → Follows xs o → finish (levels_of o.levels) ≡ Fine tt
    → (ss : List Stmt) × Block 0 xs ss
end_read xs o p k t =
    let r = reads (run xs start) (levels_of o.levels) k.read in
    let e = ends (reading.finish r.state) (finish_of xs o k ∙ t) in
    (e.0, block_found xs r.state e.0 p r.is e.1)

-- what an outline says of its lines
pub ruleset outline_follows = (follows_none, follows_on, deep_told, line_blamed, end_blamed, end_read)
