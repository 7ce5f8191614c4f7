-- What a header finds, and where decorators stand.
--
-- Carries: meet, mark.
use Rattle.std.proofs.Common.{◌≡◌, List, [], ◌++◌, Some, None, Bool, true, false, cond, refl, ap, append-nil}
use Rattle.pytree_node.specs.Trees.{Stmt}
use Rattle.pytree_node.specs.declared.expressions.Expr as given_expr
use Rattle.pygrammar.specs.Lines.{Header, DefHead, if_header, elif_header, else_header, loop_header, with_header, try_header, except_header}
use Rattle.pygrammar.specs.Lines.{finally_header, def_header, match_header, case_header}
use Rattle.pygrammar.specs.Blocks.{MisplacedClause, same_bool}
use Rattle.pygrammar.specs.Reading.{Answer, Fine, Faulty, then, Group, Idle, Marked, Choice, Loop, Trial, Caught, Settled, Matching}
use Rattle.pygrammar.specs.Reading.{PartialBlock}
use Rattle.pygrammar.specs.Reading.{part, ended}
use Rattle.pyparse_block.specs.declared.groups.Group as given_group
use Rattle.pyparse_block.specs.declared.groups.Group.TheVariants as variant
use Rattle.pyparse_block.specs.Inner.Meeting.{begins, closed, continues, met}

-- what a header finds, by two tests
abbrev pub by_tests : List Stmt → Group → Header → Answer PartialBlock
by_tests d g h = cond (continues h g) (Fine (part d g)) (cond (begins h) (then (closed d g) (λ ss. Fine (part ss Idle)))
    (Faulty MisplacedClause))

on : (d : List Stmt) (g : Group) → Fine (part (d ++ []) g) ≡ Fine (part d g)
on d g = ap (λ z. Fine (part z g)) (append-nil d)

new : (d : List Stmt) (g : Group)
    → ◌≡◌ {A = Answer PartialBlock} (elim (ended g) [ None ↦ Faulty MisplacedClause | Some p ↦ Fine (part (d ++ p.done) p.group) ])
    (then (closed d g) (λ ss. Fine (part ss Idle)))
new d Idle = refl
new d _ = refl

kind : (d : List Stmt) (g : Group) (b : Bool)
    → ◌≡◌ {A = Answer PartialBlock} (elim (cond b (Some (part [] g)) None) [
      | None ↦ Faulty MisplacedClause
      | Some p ↦ Fine (part (d ++ p.done) p.group)
    ]) (cond b (Fine (part d g)) (Faulty MisplacedClause))
kind d g true = on d g
kind d g false = refl

defines : (d : List Stmt) (g : Group) (t : DefHead) → met d g (def_header t) ≡ by_tests d g (def_header t)
defines d (Marked es) t = on d (Marked es)
defines d Idle t = new d Idle
defines d (Choice x) t = new d (Choice x)
defines d (Loop x y) t = new d (Loop x y)
defines d (Trial x) t = new d (Trial x)
defines d (Caught x y z) t = new d (Caught x y z)
defines d (Settled x y z w) t = new d (Settled x y z w)
defines d (Matching x) t = new d (Matching x)

pub met_is : (d : List Stmt) (g : Group) (h : Header) → met d g h ≡ by_tests d g h
met_is d g (if_header t) = new d g
met_is d g (loop_header t) = new d g
met_is d g (with_header a t) = new d g
met_is d g try_header = new d g
met_is d (Choice arms) (elif_header t) = on d (Choice arms)
met_is d _ (elif_header t) = refl
met_is d (Choice arms) else_header = on d (Choice arms)
met_is d (Loop h b) else_header = on d (Loop h b)
met_is d (Caught s b hs) else_header = on d (Caught s b hs)
met_is d _ else_header = refl
met_is d (Trial b) (except_header s m n) = on d (Trial b)
met_is d (Caught s b hs) (except_header t m n) = kind d (Caught s b hs) (same_bool t s)
met_is d _ (except_header s m n) = refl
met_is d (Trial b) finally_header = on d (Trial b)
met_is d (Caught s b hs) finally_header = on d (Caught s b hs)
met_is d (Settled s b hs o) finally_header = on d (Settled s b hs o)
met_is d _ finally_header = refl
met_is d g (def_header t) = defines d g t
met_is d g (match_header t) = new d g
met_is d (Matching cs) (case_header p t) = on d (Matching cs)
met_is d _ (case_header p t) = refl
