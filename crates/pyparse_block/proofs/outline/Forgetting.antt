-- Carries: Outline. On: the reading of blocks, whose steps are those of its outline:
-- `step_outlined`, `finish_outlined`.
use Rattle.std.proofs.Common.{◌≡◌, ℕ, suc, List, [], ◌∷◌, ◌++◌, length, map, Option, Some, None, Bool, true, false, cond, refl, sym, ap}
use Rattle.std.proofs.Common.{◌∙◌}
use Rattle.std.specs.Prelude.{nat_lt}
use Rattle.std.proofs.lemmas.List.{length-map}
use Rattle.pytree_node.specs.Trees.{Expr, Stmt}
use Rattle.pygrammar.specs.Lines.{Line, Header, DefHead, if_header, elif_header, else_header, loop_header, with_header, try_header}
use Rattle.pygrammar.specs.Lines.{except_header, finally_header, def_header, match_header, case_header, Form, simple_form, decorator_form}
use Rattle.pygrammar.specs.Lines.{header_form}
use Rattle.pygrammar.specs.Blocks.{Fault, ExpectedIndent, UnexpectedIndent, MisplacedClause, same_bool}
use Rattle.pygrammar.specs.Reading.{Answer, Fine, Faulty, then, Group, Idle, Marked, Choice, Loop, Trial, Caught, Settled, Matching, closes}
use Rattle.pygrammar.specs.Reading.{PartialBlock, part, meets, grows, decorated, or_misplaced, place_header, Waiting, waiting, State, state}
use Rattle.pygrammar.specs.Reading.{start}
use Rattle.pygrammar.specs.Reading.{joined}
use Rattle.pygrammar.specs.Reading as reading
use Rattle.pyparse_block.specs.declared.outline.shapes.Shape as bare_shape
use Rattle.pyparse_block.specs.declared.outline.shapes.Shape.TheVariants as shape
use Rattle.pyparse_block.specs.declared.outline.groups.GroupKind.TheVariants as group
use Rattle.pyparse_block.specs.declared.outline.groups.GroupKind as bare
use Rattle.pyparse_block.specs.Outlines.{group_of, awaited, Levels, levels, outline, outlined}
use Rattle.pyparse_block.specs.Inner.Shapes.{clause_of, shape_of}
use Rattle.pyparse_block.specs.Inner.Steps.{is_whole, ended, first, above, goes_on, next, opens, settle_in, place, placed, step, finish}
use Rattle.pyparse_block.proofs.outline.LevelLemmas.{left}

-- a reading that is done, without its statements
abbrev pub bare_end : Answer (List Stmt) → Answer (Unit {0})
bare_end a = then a (λ ss. Fine tt)

-- ---- What is open.

-- what is open after a header and its block is the same for all blocks
grown_alike : (g : Group) (h : Header) (body : List Stmt) → group_of (grows g h body).group ≡ group_of (grows g h []).group
grown_alike g (if_header t) body = refl
grown_alike Idle (elif_header t) body = refl
grown_alike _ (elif_header t) body = refl
grown_alike Idle else_header body = refl
grown_alike _ else_header body = refl
grown_alike g (loop_header t) body = refl
grown_alike g (with_header a t) body = refl
grown_alike g try_header body = refl
grown_alike Idle (except_header s m n) body = refl
grown_alike _ (except_header s m n) body = refl
grown_alike Idle finally_header body = refl
grown_alike _ finally_header body = refl
grown_alike Idle (def_header t) body = refl
grown_alike _ (def_header t) body = refl
grown_alike g (match_header t) body = refl
grown_alike Idle (case_header p t) body = refl
grown_alike _ (case_header p t) body = refl

-- what is open after a header that was met
abbrev met : Option PartialBlock → Header → Option bare.GroupKind
met o h = elim o [ None ↦ None | Some p ↦ Some (group_of (grows p.group h []).group) ]

met_new : (g : Group) (h : Header) (b : bare.GroupKind) → group_of (grows Idle h []).group ≡ b
    → met (reading.ended g) h ≡ ended (group_of g) b
met_new (Marked es) h b e = refl
met_new (Trial body) h b e = refl
met_new (Matching cs) h b e = refl
met_new Idle h b e = ap Some e
met_new _ h b e = ap Some e

met_kind : (g : Group) (h : Header) (t : Bool) → met (cond t (Some (part [] g)) None) h ≡ cond t (Some (group_of (grows g h []).group)) None
met_kind g h true = refl
met_kind g h false = refl

met_def : (g : Group) (t : DefHead) → met (meets g (def_header t)) (def_header t) ≡ goes_on (clause_of (def_header t)) (group_of g)
met_def (Marked es) t = refl
met_def Idle t = refl
met_def _ t = refl

met_is : (g : Group) (h : Header) → met (meets g h) h ≡ goes_on (clause_of h) (group_of g)
met_is g (if_header t) = met_new g (if_header t) group.Choice refl
met_is g (loop_header t) = met_new g (loop_header t) group.Loop refl
met_is g (with_header a t) = met_new g (with_header a t) group.Idle refl
met_is g try_header = met_new g try_header group.Trial refl
met_is (Choice arms) (elif_header t) = refl
met_is _ (elif_header t) = refl
met_is (Choice arms) else_header = refl
met_is (Loop head body) else_header = refl
met_is (Caught star body hs) else_header = refl
met_is _ else_header = refl
met_is (Trial body) (except_header star m n) = refl
met_is (Caught other body hs) (except_header star m n) = met_kind (Caught other body hs) (except_header star m n) (same_bool star other)
met_is _ (except_header star m n) = refl
met_is (Trial body) finally_header = refl
met_is (Caught star body hs) finally_header = refl
met_is (Settled star body hs o) finally_header = refl
met_is _ finally_header = refl
met_is g (def_header t) = met_def g t
met_is g (match_header t) = met_new g (match_header t) group.Idle refl
met_is (Matching cs) (case_header p t) = refl
met_is _ (case_header p t) = refl

-- ---- Levels that end.

abbrev is_some : {A : Type 0} → Option A → Bool
is_some None = false
is_some (Some a) = true

whole_is : (g : Group) → is_whole (group_of g) ≡ is_some (closes g)
whole_is Idle = refl
whole_is _ = refl

-- what is open in the level below a level that ends, if it may
abbrev open_in : Option PartialBlock → Option bare.GroupKind
open_in o = elim o [ None ↦ None | Some p ↦ Some (group_of p.group) ]

above_alike : (w : Waiting) (done : List Stmt) (g : Group) → open_in (reading.above w done g) ≡ above (group_of g) (awaited w)
above_alike w done (Matching cs) = refl
above_alike w done g = by_closes (closes g) ∙ ap (λ b. cond b (Some (awaited w)) None) (sym (whole_is g))
  where
    by_closes : (o : Option (List Stmt)) → open_in (elim o [ None ↦ None | Some ss ↦ Some (joined w.done w.group w.header (done ++ ss)) ]) ≡
        cond (is_some o) (Some (awaited w)) None
    by_closes None = refl
    by_closes (Some ss) = ap Some (grown_alike w.group w.header (done ++ ss))

settled : (l : ℕ) (below : List Waiting) (o : Option PartialBlock) →
    ((d : List Stmt) (g : Group) → outlined (reading.settle_in l d g false below) ≡ settle_in l (group_of g) false (map awaited below)) →
    outlined (elim o [ None ↦ Faulty MisplacedClause | Some p ↦ reading.settle_in l p.done p.group false below ])
    ≡ left l (map awaited below) (open_in o)
settled l below None ih = refl
settled l below (Some p) ih = ih p.done p.group

outlined_cond : (b : Bool) (x y : Answer State) → outlined (cond b x y) ≡ cond b (outlined x) (outlined y)
outlined_cond true x y = refl
outlined_cond false x y = refl

settle_outlined : (l : ℕ) (done : List Stmt) (g : Group) (fresh : Bool) (below : List Waiting) →
    outlined (reading.settle_in l done g fresh below) ≡ settle_in l (group_of g) fresh (map awaited below)
settle_outlined l done g fresh [] = refl
settle_outlined l done g fresh (w ∷ below) =
    let gone : Answer State = elim (reading.above w done g) [
      | None ↦ Faulty MisplacedClause
      | Some p ↦ reading.settle_in l p.done p.group false below
    ] in
    let here : Answer Levels = Fine (levels (group_of g) fresh (map awaited (w ∷ below))) in
    let ends : outlined gone ≡ left l (map awaited below) (above (group_of g) (awaited w)) =
    settled l below (reading.above w done g) (λ d h. settle_outlined l d h false below)
    ∙ ap (left l (map awaited below)) (above_alike w done g) in
    outlined_cond (nat_lt l (length (w ∷ below))) (cond fresh (Faulty ExpectedIndent) gone) (Fine (state done g fresh (w ∷ below)))
    ∙ ap (λ a. cond (nat_lt l (length (w ∷ below))) a here) (outlined_cond fresh (Faulty ExpectedIndent) gone
    ∙ ap (λ a. cond fresh (Faulty ExpectedIndent) a) ends)
    ∙ ap (λ n. cond (nat_lt l n) (cond fresh (Faulty ExpectedIndent) (left l (map awaited below) (above (group_of g) (awaited w)))) here)
    (sym (length-map (w ∷ below) awaited))

-- ---- A line of the deepest level.

-- what a line makes of the levels, by what is then open
abbrev following : bare_shape.Shape → Levels → Option bare.GroupKind → Answer Levels
following x s o = elim o [
  | None ↦ Faulty MisplacedClause
  | Some g ↦ Fine (cond (opens x) (levels (first x) true (g ∷ s.below)) (levels g false s.below))
]

simple_outlined : (s : State) (ss : List Stmt) (g : Group) →
    outlined (or_misplaced (closes g) (λ more. state ((s.done ++ more) ++ ss) Idle false s.below)) ≡ following shape.Simple (outline s)
    (next shape.Simple (group_of g))
simple_outlined s ss Idle = refl
simple_outlined s ss _ = refl

decorator_outlined : (s : State) (e : Expr) (g : Group) →
    outlined (or_misplaced (decorated g e) (λ p. state (s.done ++ p.done) p.group false s.below)) ≡ following shape.Decorator (outline s)
    (next shape.Decorator (group_of g))
decorator_outlined s e (Marked es) = refl
decorator_outlined s e Idle = refl
decorator_outlined s e _ = refl

first_alike : (h : Header) → group_of (reading.first_group h) ≡ first (shape_of (header_form h None))
first_alike (match_header e) = refl
first_alike _ = refl

header_outlined : (s : State) (h : Header) (suite : Option (List Stmt)) (o : Option PartialBlock) →
    outlined (or_misplaced o (place_header s h suite)) ≡ following (shape_of (header_form h suite)) (outline s) (met o h)
header_outlined s h None None = refl
header_outlined s h (Some ss) None = refl
header_outlined s h None (Some p) =
    ap (λ g. Fine (levels g true (awaited (waiting (s.done ++ p.done) p.group h) ∷ map awaited s.below))) (first_alike h)
header_outlined s h (Some ss) (Some p) = ap (λ g. Fine (levels g false (map awaited s.below))) (grown_alike p.group h ss)

place_outlined : (s : State) (f : Form) → outlined (reading.place s f) ≡ place (shape_of f) (outline s)
place_outlined s (simple_form ss) = simple_outlined s ss s.group
place_outlined s (decorator_form e) = decorator_outlined s e s.group
place_outlined s (header_form h None) = header_outlined s h None (meets s.group h)
    ∙ ap (following (shape_of (header_form h None)) (outline s)) (met_is s.group h)
place_outlined s (header_form h (Some ss)) = header_outlined s h (Some ss) (meets s.group h)
    ∙ ap (following (shape_of (header_form h (Some ss))) (outline s)) (met_is s.group h)

-- ---- Lines and their end.

placed_outlined : (l : ℕ) (f : Form) (s : State) → outlined (reading.placed l f s) ≡ placed l (shape_of f) (outline s)
placed_outlined l f s =
    outlined_cond (nat_lt (length s.below) l) (Faulty UnexpectedIndent) (reading.place s f)
    ∙ ap (λ a. cond (nat_lt (length s.below) l) (Faulty UnexpectedIndent) a) (place_outlined s f)
    ∙ ap (λ n. cond (nat_lt n l) (Faulty UnexpectedIndent) (place (shape_of f) (outline s))) (sym (length-map s.below awaited))

then_outlined : {A B : Type 0} (a : Answer State) (f : State → Answer A) (out : Answer A → Answer B) (g : Levels → Answer B) →
    ((e : Fault) → out (Faulty e) ≡ Faulty e) → ((s : State) → out (f s) ≡ g (outline s)) → out (then a f) ≡ then (outlined a) g
then_outlined (Fine s) f out g e h = h s
then_outlined (Faulty x) f out g e h = e x

pub step_outlined : (s : State) (x : Line) → outlined (reading.step s x) ≡ step x.level (shape_of x.form) (outline s)
step_outlined s x =
    then_outlined (reading.settle x.level s) (reading.placed x.level x.form) outlined (placed x.level (shape_of x.form)) (λ e. refl)
    (placed_outlined x.level x.form)
    ∙ ap (λ a. then a (placed x.level (shape_of x.form))) (settle_outlined x.level s.done s.group s.fresh s.below)

ended_outlined : (d : List Stmt) (o : Option (List Stmt)) → bare_end (elim o [ None ↦ Faulty MisplacedClause | Some ss ↦ Fine (d ++ ss) ]) ≡
    cond (is_some o) (Fine tt) (Faulty MisplacedClause)
ended_outlined d None = refl
ended_outlined d (Some ss) = refl

pub finish_outlined : (s : State) → bare_end (reading.finish s) ≡ finish (outline s)
finish_outlined s =
    then_outlined (reading.settle 0 s) (λ t. elim (closes t.group) [ None ↦ Faulty MisplacedClause | Some ss ↦ Fine (t.done ++ ss) ])
    bare_end
    (λ t. cond (is_whole t.group) (Fine tt) (Faulty MisplacedClause)) (λ e. refl)
    (λ t. ended_outlined t.done (closes t.group) ∙ ap (λ b. cond b (Fine tt) (Faulty MisplacedClause)) (sym (whole_is t.group)))
    ∙ ap (λ a. then a (λ t. cond (is_whole t.group) (Fine tt) (Faulty MisplacedClause))) (settle_outlined 0 s.done s.group s.fresh s.below)
