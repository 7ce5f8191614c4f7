-- The levels above the operators, and yield forms.
--
-- Carries: read_value, read_subject, yield_step, read_stars, read_star_item, read_elem, read_named, read_expression, if_else_step,
-- lambda_step,
-- perhaps; of read_slices and read_part the Tuple and the Starred. On: Fronts.
use Rattle.std.proofs.Common.{◌≡◌, refl, ap, ℕ, ◌+◌, arith, List, [], ◌∷◌, ◌++◌, Some, false}
use Rattle.pylex_lexeme.specs.declared.kinds.Exact.TheVariants.{Colon, Comma, Star, ColonEqual}
use Rattle.pytoken.specs.declared.keywords.Keyword.TheVariants as Key
use Rattle.pytree_node.specs.declared.operators.Context.TheVariants.{Load, Store}
use Rattle.pygrammar.specs.declared.levels.Level.{Level}
use Rattle.pygrammar.specs.declared.levels.Level.TheVariants.{Value, Stars, StarItem, Named, Expression, Or, BitOr}
use Rattle.pygrammar.specs.declared.levels.Level.TheVariants.{Elem, Slices, Part, Subject}
use Rattle.pytree_node.specs.Trees
use Rattle.pytree_node.specs.Trees.{Expr, an_expr, OptionalExpr, absent, present, Arguments}
use Rattle.pytoken.specs.Terminals.{Terminal, Spelled, Op, Word, Ident}
use Rattle.pygrammar.specs.Operators.{below}
use Rattle.pygrammar.specs.Entries.{Of, Parameter, Entry, singles}
use Rattle.pygrammar.specs.Parameters.{arranged}
use Rattle.pygrammar.specs.Grammar as G
use Rattle.pyplaces.specs.Stretches.{Stretch, stretch}
use Rattle.pyplaces.specs.EntryPlaces as E
use Rattle.pyplaces.specs.EntryPlaces.{EntryPlaces}
use Rattle.pyplaces.specs.Placed.{Placed, PlacedYields, PlacedPerhaps, PlacedListing}
use Rattle.pyplaces.proofs.Fronts.{nothing, sign, signs, both, front_of, from, built, ◌⊕◌, own}

-- the next level
pub placed_next : {l : Level} {i r : List Terminal} {at following : ℕ} {e : Expr} {ps : List Stretch} → Placed (below l) i at e r following ps
    → Placed l i at e r following ps
placed_next p = built (front_of p) (G.next p.derived) p.places_are

-- `yield`, and what is after it
pub placed_yields : {i r s : List Terminal} {at following : ℕ} {e : Expr} {ps : List Stretch} → i ≡ Word Key.Yield ∷ r
    → PlacedYields r (at + 1) e s following ps → Placed Value i at e s following (ps ++ (stretch at following ∷ []))
placed_yields h p = built (sign h (front_of p)) (G.yields p.derived) (from p (omega arith) ⊕ own (omega (arith, p.ends)))

pub placed_yield_from : {i r s : List Terminal} {at following : ℕ} {e : Expr} {ps : List Stretch} → i ≡ Word Key.From ∷ r
    → Placed Expression r (at + 1) e s following ps → PlacedYields i at (Trees.YieldFrom e) s following ps
placed_yield_from h p = built (sign h (front_of p)) (G.yield_from p.derived) (from p (omega arith))

pub placed_yield_some : {i r : List Terminal} {at following : ℕ} {e : OptionalExpr} {ps : List Stretch}
    → PlacedPerhaps Stars i at e r following ps → PlacedYields i at (Trees.Yield e) r following ps
placed_yield_some p = built (front_of p) (G.yield_some p.derived) p.places_are

pub placed_nothing : {l : Level} {r : List Terminal} {at : ℕ} → PlacedPerhaps l r at absent r at []
placed_nothing = built nothing G.nothing refl

pub placed_something : {l : Level} {i r : List Terminal} {at following : ℕ} {e : Expr} {ps : List Stretch} → Placed l i at e r following ps
    → PlacedPerhaps l i at (present e) r following ps
placed_something p = built (front_of p) (G.something p.derived) p.places_are

-- a Tuple without brackets: of a value, of a subject, of a subscript
pub placed_star_tuple : {i r s u : List Terminal} {at m following : ℕ} {e : Expr} {es : List Entry} {fs : List EntryPlaces} {ps : List Stretch}
    → Placed StarItem i at e r m ps → r ≡ Op Comma ∷ s → PlacedListing (Of StarItem) s (m + 1) es u following fs
    → Placed Stars i at (Trees.Tuple (an_expr e (singles es)) Load) u following (ps ++ (E.singles fs ++ (stretch at following ∷ [])))
placed_star_tuple p h c = built (both (front_of p) (sign h (front_of c))) (G.star_tuple p.derived c.derived)
    (p.places_are ⊕ ap E.singles (from c (omega (arith, p.ends))) ⊕ own (omega (arith, p.ends, c.ends)))

pub placed_subject_tuple : {i r s u : List Terminal} {at m following : ℕ} {e : Expr} {es : List Entry}
    {fs : List EntryPlaces} {ps : List Stretch}
    → Placed Elem i at e r m ps → r ≡ Op Comma ∷ s → PlacedListing (Of Elem) s (m + 1) es u following fs
    → Placed Subject i at (Trees.Tuple (an_expr e (singles es)) Load) u following (ps ++ (E.singles fs ++ (stretch at following ∷ [])))
placed_subject_tuple p h c = built (both (front_of p) (sign h (front_of c))) (G.subject_tuple p.derived c.derived)
    (p.places_are ⊕ ap E.singles (from c (omega (arith, p.ends))) ⊕ own (omega (arith, p.ends, c.ends)))

pub placed_parts : {i r s u : List Terminal} {at m following : ℕ} {e : Expr} {es : List Entry} {fs : List EntryPlaces} {ps : List Stretch}
    → Placed Part i at e r m ps → r ≡ Op Comma ∷ s → PlacedListing (Of Part) s (m + 1) es u following fs
    → Placed Slices i at (Trees.Tuple (an_expr e (singles es)) Load) u following (ps ++ (E.singles fs ++ (stretch at following ∷ [])))
placed_parts p h c = built (both (front_of p) (sign h (front_of c))) (G.parts p.derived c.derived)
    (p.places_are ⊕ ap E.singles (from c (omega (arith, p.ends))) ⊕ own (omega (arith, p.ends, c.ends)))

-- a Starred
pub placed_star_item : {i r s : List Terminal} {at following : ℕ} {e : Expr} {ps : List Stretch} → i ≡ Op Star ∷ r
    → Placed BitOr r (at + 1) e s following ps → Placed StarItem i at (Trees.Starred e Load) s following (ps ++ (stretch at following ∷ []))
placed_star_item h p = built (sign h (front_of p)) (G.star_item p.derived) (from p (omega arith) ⊕ own (omega (arith, p.ends)))

pub placed_star_elem : {i r s : List Terminal} {at following : ℕ} {e : Expr} {ps : List Stretch} → i ≡ Op Star ∷ r
    → Placed BitOr r (at + 1) e s following ps → Placed Elem i at (Trees.Starred e Load) s following (ps ++ (stretch at following ∷ []))
placed_star_elem h p = built (sign h (front_of p)) (G.star_elem p.derived) (from p (omega arith) ⊕ own (omega (arith, p.ends)))

pub placed_star_part : {i r s : List Terminal} {at following : ℕ} {e : Expr} {ps : List Stretch} → i ≡ Op Star ∷ r
    → Placed Expression r (at + 1) e s following ps → Placed Part i at (Trees.Starred e Load) s following (ps ++ (stretch at following ∷ []))
placed_star_part h p = built (sign h (front_of p)) (G.star_part p.derived) (from p (omega arith) ⊕ own (omega (arith, p.ends)))

-- the Name stands first
pub placed_named : {x : Spelled} {i r s : List Terminal} {at following : ℕ} {e : Expr} {ps : List Stretch} → i ≡ Ident x ∷ (Op ColonEqual ∷ r)
    → Placed Expression r (at + 2) e s following ps
    → Placed Named i at (Trees.NamedExpr (Trees.Name x.form Store) e) s following (stretch at (at + 1) ∷ (ps ++ (stretch at following ∷ [])))
placed_named {at = at} h p = built (signs h (front_of p)) (G.named p.derived)
    (ap (λ z. stretch at (at + 1) ∷ z) (from p (omega arith) ⊕ own (omega (arith, p.ends))))

-- a Lambda
pub placed_lambda : {i r s u v : List Terminal} {at m following : ℕ} {e : Expr} {es : List Entry} {a : Arguments}
    {fs : List EntryPlaces} {ps : List Stretch}
    → i ≡ Word Key.Lambda ∷ r → PlacedListing (Parameter false) r (at + 1) es s m fs → arranged es ≡ Some a → s ≡ Op Colon ∷ u
    → Placed Expression u (m + 1) e v following ps
    → Placed Expression i at (Trees.Lambda a e) v following (E.arranged fs ++ (ps ++ (stretch at following ∷ [])))
placed_lambda h c q k p = built (sign h (both (front_of c) (sign k (front_of p)))) (G.lambda c.derived q p.derived)
    (ap E.arranged (from c (omega arith)) ⊕ from p (omega (arith, c.ends)) ⊕ own (omega (arith, c.ends, p.ends)))

-- an IfExp: the test's places come before the body's
pub placed_if_else : {i r s u v w : List Terminal} {at m n following : ℕ} {b a c : Expr} {ps qs ws : List Stretch} → Placed Or i at b r m ps
    → r ≡ Word Key.If ∷ s → Placed Or s (m + 1) a u n qs → u ≡ Word Key.Else ∷ v → Placed Expression v (n + 1) c w following ws
    → Placed Expression i at (Trees.IfExp a b c) w following (qs ++ (ps ++ (ws ++ (stretch at following ∷ []))))
placed_if_else p h q k d = built (both (front_of p) (sign h (both (front_of q) (sign k (front_of d)))))
    (G.if_else p.derived q.derived d.derived)
    (from q (omega (arith, p.ends)) ⊕ p.places_are ⊕ from d (omega (arith, p.ends, q.ends)) ⊕ own (omega (arith, p.ends, q.ends, d.ends)))
