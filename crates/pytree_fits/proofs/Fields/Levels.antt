-- Carries: the laws of the slots. On: what fits at one level fits at another.
use Rattle.std.proofs.Common.{◌≡◌, refl, Some, Bool, true, false}
use Rattle.std.specs.Prelude.{◌&&◌}
use Rattle.std.proofs.lemmas.Bool.{and_parts, and_from}
use Rattle.pytree_node.specs.declared.operators.Operator.{Operator}
use Rattle.pytree_node.specs.declared.operators.UnaryOperator.{UnaryOperator}
use Rattle.pytree_node.specs.declared.operators.BoolOperator.{BoolOperator}
use Rattle.pytree_node.specs.declared.operators.BoolOperator.TheVariants as Join
use Rattle.pytree_node.specs.declared.operators.Context.TheVariants.{Load}
use Rattle.pytree_node.specs.Trees
use Rattle.pytree_node.specs.Trees.{Expr, Exprs, no_exprs, an_expr}
use Rattle.pytoken.specs.Terminals.{Terminal}
use Rattle.pygrammar.specs.declared.levels.Level.{Level}
use Rattle.pygrammar.specs.declared.levels.Level.TheVariants.{Value, Stars, StarItem, Expression, Not, BitOr, BitXor, BitAnd, Shift, Sum}
use Rattle.pygrammar.specs.declared.levels.Level.TheVariants.{Term, Factor, Elem, Slices, Part, Slice, Subject}
use Rattle.pygrammar.specs.Operators.{below, left_operator, prefix_operator, chain_level}
use Rattle.pytree_fits.specs.Tests.{Tests}
use Rattle.pytree_fits.specs.Slots.{takes_star, takes_slice, member_level, is_context, fits_at, each_fits, perhaps_fits}
use Rattle.pytree_fits.proofs.Fields.Tests.{parts3, from3, parts4, from4}

-- the levels that take neither a Starred nor a Slice, nor a Tuple without brackets
abbrev pub inner : Level → Bool
inner Value = false
inner Stars = false
inner StarItem = false
inner Elem = false
inner Slices = false
inner Part = false
inner Slice = false
inner Subject = false
inner _ = true

pub star_below : (l : Level) → takes_star (below l) ≡ true → takes_star l ≡ true
star_below Value h = refl
star_below Stars h = refl
star_below StarItem h = refl
star_below Elem h = refl
star_below Part h = refl
star_below _ h = h

pub slice_below : (l : Level) → takes_slice (below l) ≡ true → takes_slice l ≡ true
slice_below Slices h = refl
slice_below Part h = refl
slice_below Slice h = refl
slice_below _ h = h

pub inner_star : (l : Level) → inner l ≡ true → takes_star l ≡ true → ⊥
inner_star Value i h = absurd (cc)
inner_star Stars i h = absurd (cc)
inner_star StarItem i h = absurd (cc)
inner_star Elem i h = absurd (cc)
inner_star Part i h = absurd (cc)
inner_star _ i h = absurd (cc)

pub inner_slice : (l : Level) → inner l ≡ true → takes_slice l ≡ true → ⊥
inner_slice Slices i h = absurd (cc)
inner_slice Part i h = absurd (cc)
inner_slice Slice i h = absurd (cc)
inner_slice _ i h = absurd (cc)

pub chain_inner : (o : BoolOperator) → inner (below (chain_level o)) ≡ true
chain_inner Join.And = refl
chain_inner Join.Or = refl

pub prefix_inner : (l : Level) (t : Terminal) (o : UnaryOperator) → prefix_operator l t ≡ Some o → inner l ≡ true
prefix_inner Not t o h = refl
prefix_inner Factor t o h = refl
prefix_inner _ t o h = absurd (cc)

pub left_inner : (l : Level) (t : Terminal) (o : Operator) → left_operator l t ≡ Some o → (inner l ≡ true) × (inner (below l) ≡ true)
left_inner BitOr t o h = (refl, refl)
left_inner BitXor t o h = (refl, refl)
left_inner BitAnd t o h = (refl, refl)
left_inner Shift t o h = (refl, refl)
left_inner Sum t o h = (refl, refl)
left_inner Term t o h = (refl, refl)
left_inner _ t o h = absurd (cc)

module _ (n : Tests) where
  pub elem_part : (e : Expr) → fits_at n Elem e ≡ true → fits_at n Part e ≡ true
  elem_part (Trees.Starred e c) h = h
  elem_part (Trees.Slice a b c) h = absurd (cc)
  elem_part (Trees.Tuple es c) h = h
  elem_part _ h = h

  pub star_elem : (e : Expr) → fits_at n StarItem e ≡ true → fits_at n Elem e ≡ true
  star_elem (Trees.Starred e c) h = h
  star_elem (Trees.Slice a b c) h = h
  star_elem (Trees.Tuple es c) h = h
  star_elem _ h = h

  pub each_moved : (l m : Level) → ((e : Expr) → fits_at n l e ≡ true → fits_at n m e ≡ true) → (es : Exprs) → each_fits n l es ≡ true
      → each_fits n m es ≡ true
  each_moved l m f no_exprs h = refl
  each_moved l m f (an_expr e es) h = let w = and_parts (fits_at n l e) (each_fits n l es) h in
      and_from (fits_at n m e) (each_fits n m es) (f e w.0) (each_moved l m f es w.1)

  -- the members of a Tuple
  pub members_at : (m : Level) (es : Exprs) → each_fits n Elem es ≡ true → each_fits n (member_level m) es ≡ true
  members_at Slices es h = each_moved Elem Part elem_part es h
  members_at _ es h = h

  pub fits_below : (l : Level) (e : Expr) → fits_at n (below l) e ≡ true → fits_at n l e ≡ true
  fits_below l (Trees.Starred e c) h = let w = parts3 (takes_star (below l)) (is_context Load c) (fits_at n Expression e) h in
      from3 (takes_star l) (is_context Load c) (fits_at n Expression e) (star_below l w.0) w.1 w.2
  fits_below l (Trees.Slice a b c) h = let w = parts4 (takes_slice (below l)) (perhaps_fits n Expression a) (perhaps_fits n Expression b)
      (perhaps_fits n Expression c) h in from4 (takes_slice l) (perhaps_fits n Expression a) (perhaps_fits n Expression b)
      (perhaps_fits n Expression c) (slice_below l w.0) w.1 w.2 w.3
  fits_below l (Trees.Tuple es c) h = at l h
    where
      at : (l : Level) → (is_context Load c && each_fits n (member_level (below l)) es) ≡ true
          → (is_context Load c && each_fits n (member_level l) es) ≡ true
      at Slices h = let w = and_parts (is_context Load c) (each_fits n Elem es) h in and_from (is_context Load c) (each_fits n Part es) w.0
          (each_moved Elem Part elem_part es w.1)
      at _ h = h
  fits_below l _ h = h

  -- what fits at an inner level fits everywhere
  pub anywhere : (l m : Level) (e : Expr) → inner l ≡ true → fits_at n l e ≡ true → fits_at n m e ≡ true
  anywhere l m (Trees.Starred e c) i h = absurd (inner_star l i (parts3 (takes_star l) _ _ h).0)
  anywhere l m (Trees.Slice a b c) i h = absurd (inner_slice l i (parts4 (takes_slice l) _ _ _ h).0)
  anywhere l m (Trees.Tuple es c) i h = let w = and_parts (is_context Load c) (each_fits n (member_level l) es) h in
      and_from (is_context Load c) (each_fits n (member_level m) es) w.0 (members_at m es (at l i w.1))
    where
      at : (l : Level) → inner l ≡ true → each_fits n (member_level l) es ≡ true → each_fits n Elem es ≡ true
      at Slices i h = absurd (cc)
      at _ i h = h
  anywhere l m _ i h = h

  pub plain : (l : Level) (e : Expr) → inner l ≡ true → fits_at n l e ≡ true → fits_at n Expression e ≡ true
  plain l e i h = anywhere l Expression e i h

  -- the subject of a `match` is what fits at Expression, without brackets where that is a Tuple
  pub subject_plain : (e : Expr) → fits_at n Subject e ≡ true → fits_at n Expression e ≡ true
  subject_plain (Trees.Starred e c) h = absurd (cc)
  subject_plain (Trees.Slice a b c) h = absurd (cc)
  subject_plain _ h = h

  pub stars_elem : (e : Expr) → fits_at n Stars e ≡ true → fits_at n Elem e ≡ true
  stars_elem (Trees.Starred e c) h = h
  stars_elem (Trees.Slice a b c) h = h
  stars_elem (Trees.Tuple es c) h = h
  stars_elem _ h = h
