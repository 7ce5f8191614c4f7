-- Carries: what an error tells. On: the reading's answers.
use Rattle.std.proofs.Common.{◌≡◌, List, [], ◌∷◌, ◌++◌, true, map, Global, Result, IfErr, IfOk, ap}
use Rattle.std.proofs.lemmas.Result.{IfErr-weaker, IfOk-weaker}
use Rattle.std.specs.declared.vec.Vec.{Vec}
use Rattle.pytree_node.specs.declared.statements.Stmt.{Stmt}
use Rattle.pytree_node.specs.TreeOf.{stmt_of}
use Rattle.pygrammar.specs.Lines.{Line, are_proper}
use Rattle.pygrammar.specs.Blocks.{Block}
use Rattle.pygrammar.specs.Reading.{Answer, Fine, then, State, start, step, run, finish}
use Rattle.pygrammar.proofs.Callers.Blocks.{fault_found, end_fault_found, block_found}
use Rattle.pyparse_block.specs.declared.outline.faults.BlockStop.{BlockStop}
use Rattle.pyparse_block.specs.declared.outline.faults.BlockStop.TheVariants as stop
use Rattle.pyparse_block.specs.Faults.{fault_of, Blames, Tells}

-- what stops the first of two steps stops both
pub tells_then : {A B : Type 0} (a : Answer A) (f : A → Answer B) (e : BlockStop) → Tells a e → Tells (then a f) e
tells_then a f (stop.Faulty x) h = ap (λ z. then z f) h
tells_then a f stop.Memory h = tt

-- a line that is refused is the first faulty one
pub line_blamed : (xs more : List Line) (x : Line) (s : State) (e : BlockStop) → run xs start ≡ Fine s → Tells (step s x) e
    → Blames (xs ++ x ∷ more) (x ∷ more) e
line_blamed xs more x s (stop.Faulty f) h t = fault_found xs x s (fault_of f) h t more
line_blamed xs more x s stop.Memory h t = tt

-- and so is an end
pub end_blamed : (xs : List Line) (s : State) (e : BlockStop) → run xs start ≡ Fine s → Tells (finish s) e → Blames xs [] e
end_blamed xs s (stop.Faulty f) h t = end_fault_found xs s (fault_of f) h t
end_blamed xs s stop.Memory h t = tt

-- what answers say of the lines so far
pub end_told : (xs : List Line) (s : State) (r : Result (Vec Stmt Global) BlockStop) → run xs start ≡ Fine s → IfErr r (Tells (finish s))
    → IfErr r (Blames xs [])
end_told xs s r h = IfErr-weaker r (Tells (finish s)) (Blames xs []) (λ e. end_blamed xs s e h)

pub end_read : (xs : List Line) (s : State) (r : Result (Vec Stmt Global) BlockStop) → are_proper xs ≡ true → run xs start ≡ Fine s
    → IfOk r (λ v. finish s ≡ Fine (map stmt_of v.items)) →
    IfOk r (λ v. Block 0 xs (map stmt_of v.items))
end_read xs s r o h = IfOk-weaker r (λ v. finish s ≡ Fine (map stmt_of v.items)) (λ v. Block 0 xs (map stmt_of v.items))
    (λ v. block_found xs s (map stmt_of v.items) o h)
