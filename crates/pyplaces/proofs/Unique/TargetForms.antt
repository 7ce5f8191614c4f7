-- What is shown of targets, by levels.
--
-- Carries: next_good .. more_good, for Expressions. On: Levels, Clauses.
use Rattle.std.proofs.Common.{◌≡◌, ℕ, ◌+◌, ◌≤◌, arith, List, [], ◌∷◌, ◌++◌, length, Some, None}
use Rattle.pylex_lexeme.specs.declared.kinds.Exact.TheVariants.{Comma, Star}
use Rattle.pytree_node.specs.declared.operators.Context.TheVariants.{Load}
use Rattle.pytree_node.specs.Trees
use Rattle.pytree_node.specs.Trees.{Expr, Exprs, no_exprs, an_expr}
use Rattle.pytoken.specs.Terminals.{Terminal, Op}
use Rattle.pygrammar.specs.declared.levels.Level.{Level}
use Rattle.pygrammar.specs.declared.levels.Level.TheVariants.{Value, Stars, StarItem, Named, BitOr, Primary, Elem, Slices, Part}
use Rattle.pygrammar.specs.declared.levels.Level.TheVariants.{Slice}
use Rattle.pygrammar.specs.declared.levels.Level.TheVariants.{Subject}
use Rattle.pygrammar.specs.Operators.{below}
use Rattle.pygrammar.specs.Entries.{Item, Of, Entry, Single, singles}
use Rattle.pygrammar.specs.Precedence.{first}
use Rattle.pygrammar.specs.Targets.{all_stored, both, stored}
use Rattle.pygrammar.proofs.Callers.Steps.{both_some}
use Rattle.pyplaces.specs.Stretches.{Stretch, over}
use Rattle.pyplaces.specs.EntryPlaces as E
use Rattle.pyplaces.specs.EntryPlaces.{EntryPlaces}
use Rattle.pyplaces.specs.Inner.Looks.{lead_of}
use Rattle.pyplaces.proofs.Unique.Levels.{Reads, answers}
use Rattle.pyplaces.proofs.Unique.Answered.{ATargetAt, Good, no_lone_target}
use Rattle.pyplaces.proofs.Unique.Clauses.{plain_target, starred_target, lone_target, TargetListRead, no_targets, last_of_targets, more_target_list, tuple_target, mapped_some}
use Rattle.pyplaces.proofs.Unique.Clauses.{starred_stored}

next_target : (l : Level) (ts : List Terminal) (e : Expr) (f : ℕ → List Stretch) → first (below l) ≤ lead_of ts → Reads l ts f
    → ((s : Expr) → stored e ≡ Some s → ATargetAt (below l) ts f) → (s : Expr) → stored e ≡ Some s → ATargetAt l ts f
next_target Value ts e f l r g s h = tt
next_target Stars ts e f l r g s h = lone_target ts f (g s h)
next_target StarItem ts e f l r g s h = plain_target ts f (omega (arith, l)) (g s h)
next_target Primary ts e f l r g s h = λ at rest k w. answers Primary ts f r at rest k w
next_target Elem ts e f l r g s h = tt
next_target Named ts e f l r g s h = tt
next_target Slices ts e f l r g s h = tt
next_target Part ts e f l r g s h = tt
next_target Slice ts e f l r g s h = tt
next_target Subject ts e f l r g s h = tt
next_target _ ts e f l r g s h = g s h

pub next_good : (l : Level) (ts : List Terminal) (e : Expr) (f : ℕ → List Stretch) → first (below l) ≤ lead_of ts → Reads l ts f
    → Good (below l) ts e f → Good l ts e f
next_good l ts e f w r g = (r, next_target l ts e f w r g.1)

pub no_target : (l : Level) (ts : List Terminal) (e : Expr) (f : ℕ → List Stretch) → stored e ≡ None → Reads l ts f → Good l ts e f
no_target l ts e f h r = (r, no_lone_target l ts e f h)

pub primary : (ts : List Terminal) (e : Expr) (f : ℕ → List Stretch) → Reads Primary ts f → Good Primary ts e f
primary ts e f r = (r, λ s h at rest k w. answers Primary ts f r at rest k w)

pub star_item_good : (ts : List Terminal) (e : Expr) (f : ℕ → List Stretch)
    → Reads StarItem (Op Star ∷ ts) (λ at. f (1 + at) ++ over at (1 + length ts)) → Good BitOr ts e f
    → Good StarItem (Op Star ∷ ts) (Trees.Starred e Load) (λ at. f (1 + at) ++ over at (1 + length ts))
star_item_good ts e f r g = (r, λ s h. let w = starred_stored e s h in starred_target ts f (g.1 w.0 w.1))

-- ---- Lists.

abbrev pub ListTarget : Item → List Terminal → (ℕ → List EntryPlaces) → Type 0
ListTarget (Of StarItem) ts g = TargetListRead ts g
ListTarget i ts g = Unit {0}

pub star_tuple_good : (ts us : List Terminal) (e : Expr) (es : List Entry) (f : ℕ → List Stretch) (g : ℕ → List EntryPlaces)
    → Reads Stars (ts ++ (Op Comma ∷ us)) (λ at. f at ++ (E.singles (g (at + (length ts + 1))) ++ over at (length ts + (1 + length us))))
    → Good StarItem ts e f → ((z : Exprs) → all_stored (singles es) ≡ Some z → ListTarget (Of StarItem) us g)
    → Good Stars (ts ++ (Op Comma ∷ us)) (Trees.Tuple (an_expr e (singles es)) Load)
    (λ at. f at ++ (E.singles (g (at + (length ts + 1))) ++ over at (length ts + (1 + length us))))
star_tuple_good ts us e es f g r p c = (
  r,
  λ s h.
      let v = mapped_some _ (both (stored e) (all_stored (singles es))) s h in
      let w = both_some (stored e) (all_stored (singles es)) v.0 v.1 in
      tuple_target ts us f g (p.1 w.0.0 w.0.1) (c w.1.0 w.1.1),
)

pub none_targeted : (i : Item) → ListTarget i [] (λ at. [])
none_targeted (Of StarItem) = no_targets
none_targeted _ = tt

pub last_targeted : (l : Level) (ts : List Terminal) (e : Expr) (f : ℕ → List Stretch) → first l ≤ lead_of ts → Good l ts e f
    → (z : Exprs) → all_stored (singles (Single e ∷ [])) ≡ Some z → ListTarget (Of l) ts (λ at. E.Single (f at) ∷ [])
last_targeted StarItem ts e f l p z h =
    let w = both_some (stored e) (Some no_exprs) z h in
    last_of_targets ts f (omega (arith, l)) (p.1 w.0.0 w.0.1)
last_targeted _ ts e f l p z h = tt

pub more_targeted : (l : Level) (ts us : List Terminal) (e : Expr) (es : List Entry) (f : ℕ → List Stretch) (g : ℕ → List EntryPlaces)
    → first l ≤ lead_of ts → Good l ts e f → ((z : Exprs) → all_stored (singles es) ≡ Some z → ListTarget (Of l) us g)
    → (z : Exprs) → all_stored (singles (Single e ∷ es)) ≡ Some z
    → ListTarget (Of l) (ts ++ (Op Comma ∷ us)) (λ at. E.Single (f at) ∷ g (at + (length ts + 1)))
more_targeted StarItem ts us e es f g l p c z h =
    let w = both_some (stored e) (all_stored (singles es)) z h in
    more_target_list ts us f g (omega (arith, l)) (p.1 w.0.0 w.0.1) (c w.1.0 w.1.1)
more_targeted _ ts us e es f g l p c z h = tt
