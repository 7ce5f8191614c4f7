-- The reader with two numbers. The first only ends the recursion (more than there are terminals). The second is the room: how high an
-- expression may be that is read here. A child is read with one level less; what stands at the front, or alone in round brackets, with
-- the same room. What would be higher is refused on the spot, with TooDeep. The expression of an f-string's field is read as a child of the
-- f-string, which is checked as a whole.
use Rattle.std.specs.Prelude.{ℕ, zero, suc, List, [], length, cond, leb}
use Rattle.pylex_lexeme.specs.declared.kinds.Exact.TheVariants.{LPar, RPar, LSqb, RSqb, Colon, Comma, Star, Dot, ColonEqual}
use Rattle.pytoken.specs.declared.keywords.Keyword.TheVariants as Key
use Rattle.pytree_node.specs.declared.operators.Context.TheVariants.{Load, Store}
use Rattle.pygrammar.specs.declared.levels.Level.{Level}
use Rattle.pygrammar.specs.declared.levels.Level.TheVariants.{Value, Stars, StarItem, Named, Expression, Or, BitOr, Primary, Atom, Elem}
use Rattle.pygrammar.specs.declared.levels.Level.TheVariants.{Slices, Part, Slice, Subject}
use Rattle.pytree_node.specs.Trees
use Rattle.pytree_node.specs.Trees.{Expr, no_exprs, an_expr, absent, present, comprehensions}
use Rattle.pytoken.specs.Terminals.{Terminal}
use Rattle.pygrammar.specs.Looks.{is_op, is_word, name_in}
use Rattle.pygrammar.specs.Entries.{Of, singles}
use Rattle.pytree_height.specs.Heights.{height}
use Rattle.pygrammar.specs.Reader.{Answer, Found, NoForm, TooDeep, and_then, on_first, on_name_with, closed, Reads, starred, listing_of}
use Rattle.pygrammar.specs.Reader.{tupled, comps_closed, unstarred, unnamed, yield_step, atom, call_step, operation, prefixed, slice_rest}
use Rattle.pygrammar.specs.Reader.{lambda_step, if_else_step, levels_from}
use Rattle.pygrammar.specs.Operators.{rank}
use Rattle.pygrammar.specs.Precedence.{starts_comp, infix_from, prefix_from}

-- what is higher than d is refused
abbrev pub cap : ℕ → Answer Expr → Answer Expr
cap d (Found e r) = cond (leb (height e) d) (Found e r) TooDeep
cap d NoForm = NoForm
cap d TooDeep = TooDeep

-- after `(`: the first element may be the whole expression
module _ (same inner : Reads) where
  abbrev pub capped_round : List Terminal → Answer Expr
  capped_round r =
      on_first (is_op RPar) r (λ _ r1. Found (Trees.Tuple no_exprs Load) r1)
      (on_first (is_word Key.Yield) r (λ _ r1. and_then (yield_step inner r1) (λ e r2. closed RPar r2 e))
      (and_then (same Elem r) (λ e r1.
      on_first (is_op Comma) r1 (λ _ r2. and_then (listing_of inner (Of Elem) [] r2)
      (λ es r3. closed RPar r3 (Trees.Tuple (an_expr e (singles es)) Load)))
      (unstarred r (cond (starts_comp r1) (comps_closed inner RPar r1 (λ gs. Trees.GeneratorExp e (comprehensions gs)))
      (closed RPar r1 e))))))

  abbrev pub capped_atom : List Terminal → Answer Expr
  capped_atom r = on_first (is_op LPar) r (λ _ r1. capped_round r1) (atom inner r)

-- the loops: each expression that they make is checked
module _ (d : ℕ) (inner : Reads) where
  abbrev pub capped_primary : ℕ → Expr → List Terminal → Answer Expr
  capped_primary zero e r = Found e r
  capped_primary (suc m) e r =
      on_first (is_op Dot) r
      (λ _ r1. on_first name_in r1 (λ x r2. and_then (cap d (Found (Trees.Attribute e x Load) r2)) (λ f r3. capped_primary m f r3))
      NoForm)
      (on_first (is_op LPar) r (λ _ r1. and_then (cap d (call_step inner e r1)) (λ f r2. capped_primary m f r2))
      (on_first (is_op LSqb) r
      (λ _ r1. and_then (inner Slices r1)
      (λ s r2. on_first (is_op RSqb) r2 (λ _ r3. and_then (cap d (Found (Trees.Subscript e s Load) r3)) (λ f r4. capped_primary m f r4))
      NoForm))
      (Found e r)))

  abbrev pub capped_loop : ℕ → ℕ → Expr → List Terminal → Answer Expr
  capped_loop k zero e r = Found e r
  capped_loop k (suc m) e r =
      on_first (infix_from k) r (λ o r1. and_then (cap d (operation inner e o r r1)) (λ f r2. capped_loop k m f r2)) (Found e r)

module _ (d : ℕ) (next same inner : Reads) where
  abbrev pub capped_climb : ℕ → List Terminal → Answer Expr
  capped_climb k i = and_then (on_first (prefix_from k) i (λ p r. prefixed inner p r) (next Primary i))
      (λ e r. capped_loop d inner k (length r) e r)

  abbrev pub capped_step : Level → List Terminal → Answer Expr
  capped_step Value i = on_first (is_word Key.Yield) i (λ _ r. yield_step inner r) (next Stars i)
  capped_step Stars i = and_then (next StarItem i) (λ e r. tupled inner (Of StarItem) e r (Found e r))
  capped_step StarItem i = starred inner BitOr i (next Expression i)
  capped_step Elem i = starred inner BitOr i (next Named i)
  capped_step Named i =
      on_name_with ColonEqual i (λ x r. and_then (inner Expression r) (λ e r1. Found (Trees.NamedExpr (Trees.Name x Store) e) r1))
      (next Expression i)
  capped_step Expression i = on_first (is_word Key.Lambda) i (λ _ r. lambda_step inner r)
      (and_then (next Or i) (λ b r. if_else_step inner b r))
  capped_step Primary i = and_then (next Atom i) (λ e r. capped_primary d inner (length r) e r)
  capped_step Atom i = capped_atom same inner i
  capped_step Slices i =
      and_then (next Part i)
      (λ e r. tupled inner (Of Part) e r (on_first (is_op Star) i (λ _ _. Found (Trees.Tuple (an_expr e no_exprs) Load) r) (Found e r)))
  capped_step Part i = starred inner Expression i (next Slice i)
  capped_step Slice i = on_first (is_op Colon) i (λ _ r. slice_rest inner absent r)
      (and_then (next Named i) (λ e r. on_first (is_op Colon) r (λ _ r1. unnamed i (slice_rest inner (present e) r1)) (Found e r)))
  capped_step Subject i = and_then (next Elem i) (λ e r. tupled inner (Of Elem) e r (unstarred i (Found e r)))
  capped_step l i = capped_climb (rank l) i

abbrev pub capped_descend : ℕ → Reads → Reads → ℕ → Reads
capped_descend d same inner zero l i = NoForm
capped_descend d same inner (suc k) l i = cap d (capped_step d (capped_descend d same inner k) same inner l i)

abbrev pub capped : ℕ → ℕ → Reads
capped zero d l i = TooDeep
capped (suc g) zero l i = TooDeep
capped (suc g) (suc d) l i = capped_descend (suc d) (capped g (suc d)) (capped g d) (levels_from l) l i

-- with room d
abbrev pub limited : ℕ → Reads
limited d l ts = capped (suc (length ts)) d l ts

-- up to height d: read with one level more of room, and checked last
abbrev pub limit : ℕ → Reads
limit d l ts = cap d (limited (suc d) l ts)
