-- How many tokens an expression takes at one level and at another.
--
-- Carries: star_place, allowed, total, length_separated and 12 more, for Claims, Entries, With,
-- Calls and 5 more. On: Reach.
use Rattle.std.proofs.Common.{◌≡◌, refl, ℕ, ◌+◌, ◌≤◌, arith, List, [], ◌∷◌, length, Bool, true, false, length-append}
use Rattle.std.specs.Prelude.{◌-◌, not}
use Rattle.pygrammar.specs.declared.levels.Level.{Level}
use Rattle.pygrammar.specs.declared.levels.Level.TheVariants.{Value, Stars, StarItem, Named, Expression, BitOr, Atom, Elem, Slices, Part}
use Rattle.pygrammar.specs.declared.levels.Level.TheVariants.{Slice}
use Rattle.pygrammar.specs.declared.levels.Level.TheVariants.{Subject}
use Rattle.pytree_node.specs.Trees
use Rattle.pytree_node.specs.Trees.{Expr, Exprs, no_exprs, an_expr}
use Rattle.pygrammar.specs.Operators.{below}
use Rattle.pyunparse_text.specs.Levels.{reaches}
use Rattle.pyunparse_text.specs.Written.{Maker, separated, some_named, lone_star, element_level, tuple_level, fit, with_comma, tuple_of}
use Rattle.pyunparse_text.specs.Written.{written}
use Rattle.pyunparse_text.specs.Written.{each}
use Rattle.pyunparse_text.proofs.Fewest.Counted.{one}
use Rattle.pyunparse_text.proofs.Fewest.Reach.{implied, from_below, to_expression, length_bracketed, fit_less, fit_more, operator_deep}
use Rattle.pyunparse_text.proofs.Fewest.Reach.{chain_deep}
use Rattle.pyunparse_text.proofs.Fewest.Reach.{unary_deep, deep_expression, deep_compare, deep_await, deep_primary, part_elem_value}
use Rattle.pyunparse_text.proofs.Fewest.Reach.{part_elem_named}
use Rattle.pyunparse_text.proofs.Fewest.Reach.{part_elem_slice, elem_star_value, elem_star_named, elem_star_slice, star_elem_value}
use Rattle.pyunparse_text.proofs.Fewest.Reach.{star_elem_slice}
use Rattle.pyunparse_text.proofs.Fewest.Reach.{star_named_not, elem_named_is, fit_two}

-- what may stand at a level: a Starred, a Slice and a Tuple with Slices have their own places
abbrev pub star_place : Level → Bool
star_place Value = true
star_place Stars = true
star_place StarItem = true
star_place Elem = true
star_place Part = true
star_place _ = false

abbrev pub slice_place : Level → Bool
slice_place Slices = true
slice_place Part = true
slice_place Slice = true
slice_place _ = false

abbrev pub some_slice : Exprs → Bool
some_slice no_exprs = false
some_slice (an_expr (Trees.Slice a b c) es) = true
some_slice (an_expr _ es) = some_slice es

abbrev pub tuple_place : Level → Bool → Bool
tuple_place Slices b = true
tuple_place _ b = not b

abbrev pub allowed : Level → Expr → Bool
allowed l (Trees.Starred e c) = star_place l
allowed l (Trees.Slice a b c) = slice_place l
allowed l (Trees.Tuple es c) = tuple_place l (some_slice es)
allowed l _ = true

abbrev pub inner : Level → Bool
inner Value = false
inner Stars = false
inner StarItem = false
inner Elem = false
inner Slices = false
inner Part = false
inner Slice = false
inner _ = true

pub allowed_below : (l : Level) (e : Expr) → allowed (below l) e ≡ true → allowed l e ≡ true
allowed_below l (Trees.Starred e c) h = star l h
  where
    star : (l : Level) → star_place (below l) ≡ true → star_place l ≡ true
    star Value h = refl
    star Stars h = refl
    star StarItem h = refl
    star Elem h = refl
    star Part h = refl
    star _ h = h
allowed_below l (Trees.Slice a b c) h = at l h
  where
    at : (l : Level) → slice_place (below l) ≡ true → slice_place l ≡ true
    at Slices h = refl
    at Part h = refl
    at Slice h = refl
    at _ h = h
allowed_below l (Trees.Tuple es c) h = at l (some_slice es) h
  where
    at : (l : Level) (b : Bool) → tuple_place (below l) b ≡ true → tuple_place l b ≡ true
    at Slices b h = refl
    at _ b h = h
allowed_below l _ h = refl

-- an expression of an inner level may stand everywhere
pub allowed_all : (l m : Level) (e : Expr) → inner l ≡ true → allowed l e ≡ true → allowed m e ≡ true
allowed_all l m (Trees.Starred e c) i h = at l i h
  where
    at : (l : Level) → inner l ≡ true → star_place l ≡ true → star_place m ≡ true
    at Value i h = absurd (cc)
    at Stars i h = absurd (cc)
    at StarItem i h = absurd (cc)
    at Elem i h = absurd (cc)
    at Part i h = absurd (cc)
    at _ i h = absurd (cc)
allowed_all l m (Trees.Slice a b c) i h = at l i h
  where
    at : (l : Level) → inner l ≡ true → slice_place l ≡ true → slice_place m ≡ true
    at Slices i h = absurd (cc)
    at Part i h = absurd (cc)
    at Slice i h = absurd (cc)
    at _ i h = absurd (cc)
allowed_all l m (Trees.Tuple es c) i h = at l m (some_slice es) i h
  where
    to : (m : Level) (b : Bool) → not b ≡ true → tuple_place m b ≡ true
    to Slices b h = refl
    to _ b h = h

    at : (l m : Level) (b : Bool) → inner l ≡ true → tuple_place l b ≡ true → tuple_place m b ≡ true
    at Slices m b i h = absurd (cc)
    at _ m b i h = to m b h
allowed_all l m _ i h = refl

-- the tokens of lists, with a comma for each list
abbrev pub total : List (List (Unit {0})) → ℕ
total [] = 0
total (ts ∷ tss) = length ts + 1 + total tss

pub length_separated : (t : Unit {0}) (tss : List (List (Unit {0}))) → length (separated t tss) ≡ total tss - 1
length_separated t [] = refl
length_separated t (ts ∷ []) = omega arith
length_separated t (ts ∷ (us ∷ tss)) = simp length-append (omega (arith, length_separated t (us ∷ tss)))

pub length_with_comma : (ts : List (Unit {0})) (tss : List (List (Unit {0})))
    → length (with_comma one (ts ∷ tss)) ≡ length ts + 1 + (total tss - 1)
length_with_comma ts tss = simp length-append (omega (arith, length_separated tt tss))

pub total_less : (l m : Level) → ((e : Expr) → length (written one l e) ≤ length (written one m e)) → (es : Exprs)
    → total (each one l es) ≤ total (each one m es)
unfolding each
total_less l m f no_exprs = omega arith
total_less l m f (an_expr e es) = omega (arith, f e, total_less l m f es)

deep_less : (l m k : Level) (ts : List (Unit {0})) → reaches l k ≡ true → length (fit one l k ts) ≤ length (fit one m k ts)
deep_less l m k ts h = fit_less l m k ts (true_implied (reaches m k) (reaches l k) h)
  where
    true_implied : (b c : Bool) → c ≡ true → implied b c ≡ true
    true_implied true c h = h
    true_implied false c h = refl

-- a star's value at Expression and at BitOr
pub at_expression : (e : Expr) → length (written one Expression e) ≤ length (written one BitOr e)
unfolding written
at_expression (Trees.Yield _) = fit_less Expression BitOr _ _ (to_expression _)
at_expression (Trees.YieldFrom _) = fit_less Expression BitOr _ _ (to_expression _)
at_expression (Trees.NamedExpr _ _) = fit_less Expression BitOr _ _ (to_expression _)
at_expression (Trees.Lambda _ _) = fit_less Expression BitOr _ _ (to_expression _)
at_expression (Trees.IfExp _ _ _) = fit_less Expression BitOr _ _ (to_expression _)
at_expression (Trees.BoolOp _ _) = fit_less Expression BitOr _ _ (to_expression _)
at_expression (Trees.UnaryOp _ _) = fit_less Expression BitOr _ _ (to_expression _)
at_expression (Trees.Compare _ _ _) = fit_less Expression BitOr _ _ (to_expression _)
at_expression (Trees.BinOp _ _ _) = fit_less Expression BitOr _ _ (to_expression _)
at_expression (Trees.Await _) = fit_less Expression BitOr _ _ (to_expression _)
at_expression (Trees.Attribute _ _ _) = fit_less Expression BitOr _ _ (to_expression _)
at_expression (Trees.Call _ _ _) = fit_less Expression BitOr _ _ (to_expression _)
at_expression (Trees.Subscript _ _ _) = fit_less Expression BitOr _ _ (to_expression _)
at_expression (Trees.Slice _ _ _) = fit_less Expression BitOr _ _ (to_expression _)
at_expression _ = omega arith

-- elements: as a part of Slices, and of a Tuple with and without brackets
pub part_elem : (e : Expr) → length (written one Part e) ≤ length (written one Elem e)
unfolding written
part_elem (Trees.Yield _) = fit_less Part Elem _ _ part_elem_value
part_elem (Trees.YieldFrom _) = fit_less Part Elem _ _ part_elem_value
part_elem (Trees.NamedExpr _ _) = fit_less Part Elem _ _ part_elem_named
part_elem (Trees.Lambda _ _) = deep_less Part Elem _ _ deep_expression.part
part_elem (Trees.IfExp _ _ _) = deep_less Part Elem _ _ deep_expression.part
part_elem (Trees.BoolOp o _) = deep_less Part Elem _ _ (chain_deep o).part
part_elem (Trees.UnaryOp o _) = deep_less Part Elem _ _ (unary_deep o).part
part_elem (Trees.Compare _ _ _) = deep_less Part Elem _ _ deep_compare.part
part_elem (Trees.BinOp _ o _) = deep_less Part Elem _ _ (operator_deep o).part
part_elem (Trees.Await _) = deep_less Part Elem _ _ deep_await.part
part_elem (Trees.Attribute _ _ _) = deep_less Part Elem _ _ deep_primary.part
part_elem (Trees.Call _ _ _) = deep_less Part Elem _ _ deep_primary.part
part_elem (Trees.Subscript _ _ _) = deep_less Part Elem _ _ deep_primary.part
part_elem (Trees.Slice _ _ _) = fit_less Part Elem _ _ part_elem_slice
part_elem (Trees.Starred e c) = omega (arith, at_expression e)
part_elem _ = omega arith

pub elem_star : (e : Expr) → length (written one Elem e) ≤ length (written one StarItem e)
unfolding written
elem_star (Trees.Yield _) = fit_less Elem StarItem _ _ elem_star_value
elem_star (Trees.YieldFrom _) = fit_less Elem StarItem _ _ elem_star_value
elem_star (Trees.NamedExpr _ _) = fit_less Elem StarItem _ _ elem_star_named
elem_star (Trees.Lambda _ _) = deep_less Elem StarItem _ _ deep_expression.elem_too
elem_star (Trees.IfExp _ _ _) = deep_less Elem StarItem _ _ deep_expression.elem_too
elem_star (Trees.BoolOp o _) = deep_less Elem StarItem _ _ (chain_deep o).elem_too
elem_star (Trees.UnaryOp o _) = deep_less Elem StarItem _ _ (unary_deep o).elem_too
elem_star (Trees.Compare _ _ _) = deep_less Elem StarItem _ _ deep_compare.elem_too
elem_star (Trees.BinOp _ o _) = deep_less Elem StarItem _ _ (operator_deep o).elem_too
elem_star (Trees.Await _) = deep_less Elem StarItem _ _ deep_await.elem_too
elem_star (Trees.Attribute _ _ _) = deep_less Elem StarItem _ _ deep_primary.elem_too
elem_star (Trees.Call _ _ _) = deep_less Elem StarItem _ _ deep_primary.elem_too
elem_star (Trees.Subscript _ _ _) = deep_less Elem StarItem _ _ deep_primary.elem_too
elem_star (Trees.Slice _ _ _) = fit_less Elem StarItem _ _ elem_star_slice
elem_star _ = omega arith

-- all but a NamedExpr
abbrev pub is_named : Expr → Bool
is_named (Trees.NamedExpr t e) = true
is_named _ = false

pub star_elem : (e : Expr) → is_named e ≡ false → length (written one StarItem e) ≤ length (written one Elem e)
unfolding written
star_elem (Trees.Yield _) h = fit_less StarItem Elem _ _ star_elem_value
star_elem (Trees.YieldFrom _) h = fit_less StarItem Elem _ _ star_elem_value
star_elem (Trees.NamedExpr _ _) h = absurd (cc)
star_elem (Trees.Lambda _ _) h = deep_less StarItem Elem _ _ deep_expression.starred
star_elem (Trees.IfExp _ _ _) h = deep_less StarItem Elem _ _ deep_expression.starred
star_elem (Trees.BoolOp o _) h = deep_less StarItem Elem _ _ (chain_deep o).starred
star_elem (Trees.UnaryOp o _) h = deep_less StarItem Elem _ _ (unary_deep o).starred
star_elem (Trees.Compare _ _ _) h = deep_less StarItem Elem _ _ deep_compare.starred
star_elem (Trees.BinOp _ o _) h = deep_less StarItem Elem _ _ (operator_deep o).starred
star_elem (Trees.Await _) h = deep_less StarItem Elem _ _ deep_await.starred
star_elem (Trees.Attribute _ _ _) h = deep_less StarItem Elem _ _ deep_primary.starred
star_elem (Trees.Call _ _ _) h = deep_less StarItem Elem _ _ deep_primary.starred
star_elem (Trees.Subscript _ _ _) h = deep_less StarItem Elem _ _ deep_primary.starred
star_elem (Trees.Slice _ _ _) h = fit_less StarItem Elem _ _ star_elem_slice
star_elem _ h = omega arith

pub named_star : (t e : Expr) → length (written one StarItem (Trees.NamedExpr t e)) ≡ length (written one Elem (Trees.NamedExpr t e)) + 2
unfolding written
named_star t e = fit_two StarItem Elem Named _ star_named_not elem_named_is

unnamed_first : (e : Expr) (es : Exprs) → some_named (an_expr e es) ≡ false → is_named e ≡ false
unnamed_first (Trees.NamedExpr t e) es h = absurd (cc)
unnamed_first _ es h = refl

unnamed_rest : (e : Expr) (es : Exprs) → some_named (an_expr e es) ≡ false → some_named es ≡ false
unnamed_rest (Trees.NamedExpr t e) es h = absurd (cc)
unnamed_rest _ es h = h

pub total_unnamed : (es : Exprs) → some_named es ≡ false → total (each one StarItem es) ≤ total (each one Elem es)
unfolding each
total_unnamed no_exprs h = omega arith
total_unnamed (an_expr e es) h = omega (arith, star_elem e (unnamed_first e es h), total_unnamed es (unnamed_rest e es h))

pub total_named : (es : Exprs) → some_named es ≡ true → total (each one Elem es) + 2 ≤ total (each one StarItem es)
unfolding each
total_named no_exprs h = absurd (cc)
total_named (an_expr (Trees.NamedExpr t e) es) h = omega (arith, named_star t e, total_less Elem StarItem elem_star es)
total_named (an_expr e es) h = omega (arith, elem_star e, total_named es h)

pub length_part : (b : Bool) (ts : List (Unit {0})) (tss : List (List (Unit {0})))
    → length (tuple_of one Part b (ts ∷ tss)) ≤ length (with_comma one (ts ∷ tss))
length_part true ts tss = omega (arith, length_with_comma ts tss, length_separated tt (ts ∷ tss))
length_part false ts tss = omega arith

-- what a Tuple is written in at a level
abbrev pub tuple_text : {A : Type 0} → Maker A → Level → Bool → Exprs → List A
tuple_text make l b es = tuple_of make (tuple_level l b) (lone_star es) (each make (element_level l b) es)

-- sizes of tuples
stars : (es : Exprs) (b : Bool) → some_named es ≡ b → length (tuple_text one Stars b es) ≤ length (tuple_text one Elem b es)
unfolding each
stars no_exprs true q = omega arith
stars no_exprs false q = omega arith
stars (an_expr e es) true q = omega arith
stars (an_expr e es) false q =
    omega (
      arith,
      length_bracketed (with_comma one (written one Elem e ∷ each one Elem es)),
      length_with_comma (written one StarItem e)
          (each one StarItem es),
      length_with_comma (written one Elem e)
          (each one Elem es),
      total_unnamed (an_expr e es) q,
      total_unnamed es (unnamed_rest e es q),
      star_elem e (unnamed_first e es q),
    )

slices : (es : Exprs) (b : Bool) → length (tuple_text one Slices b es) ≤ length (tuple_text one Elem b es)
unfolding each
slices no_exprs b = omega arith
slices (an_expr e es) b =
    omega (
      arith,
      length_part (lone_star (an_expr e es)) (written one Part e) (each one Part es),
      length_with_comma (written one Part e)
          (each one Part es),
      length_bracketed (with_comma one (written one Elem e ∷ each one Elem es)),
      length_with_comma (written one Elem e)
          (each one Elem es),
      part_elem e,
      total_less Part Elem part_elem es,
    )

subject : (es : Exprs) (b : Bool) → length (tuple_text one Subject b es) ≤ length (tuple_text one Elem b es)
unfolding each
subject no_exprs b = omega arith
subject (an_expr e es) b = omega (arith, length_bracketed (with_comma one (written one Elem e ∷ each one Elem es)))

-- at the next level there are no fewer brackets
tuple_step : (l : Level) (es : Exprs) → length (tuple_text one l (some_named es) es) ≤ length (tuple_text one (below l) (some_named es) es)
tuple_step Value es = value (some_named es)
  where
    value : (b : Bool) → length (tuple_text one Value b es) ≤ length (tuple_text one Stars b es)
    value true = omega arith
    value false = omega arith
tuple_step Stars es = stars es (some_named es) refl
tuple_step Slices es = slices es (some_named es)
tuple_step Subject es = subject es (some_named es)
tuple_step _ es = omega arith

pub step_less : (l : Level) (e : Expr) → allowed (below l) e ≡ true → length (written one l e) ≤ length (written one (below l) e)
unfolding written
step_less l (Trees.Yield _) h = fit_less l (below l) _ _ (from_below l _)
step_less l (Trees.YieldFrom _) h = fit_less l (below l) _ _ (from_below l _)
step_less l (Trees.NamedExpr _ _) h = fit_less l (below l) _ _ (from_below l _)
step_less l (Trees.Lambda _ _) h = fit_less l (below l) _ _ (from_below l _)
step_less l (Trees.IfExp _ _ _) h = fit_less l (below l) _ _ (from_below l _)
step_less l (Trees.BoolOp _ _) h = fit_less l (below l) _ _ (from_below l _)
step_less l (Trees.UnaryOp _ _) h = fit_less l (below l) _ _ (from_below l _)
step_less l (Trees.Compare _ _ _) h = fit_less l (below l) _ _ (from_below l _)
step_less l (Trees.BinOp _ _ _) h = fit_less l (below l) _ _ (from_below l _)
step_less l (Trees.Await _) h = fit_less l (below l) _ _ (from_below l _)
step_less l (Trees.Attribute _ _ _) h = fit_less l (below l) _ _ (from_below l _)
step_less l (Trees.Call _ _ _) h = fit_less l (below l) _ _ (from_below l _)
step_less l (Trees.Subscript _ _ _) h = fit_less l (below l) _ _ (from_below l _)
step_less l (Trees.Slice _ _ _) h = fit_less l (below l) _ _ (from_below l _)
step_less l (Trees.Starred e c) h = star l h
  where
    star : (l : Level) → star_place (below l) ≡ true → length (written one l (Trees.Starred e c)) ≤ length
        (written one (below l) (Trees.Starred e c))
    star Value h = omega arith
    star Stars h = omega arith
    star _ h = absurd (cc)
step_less l (Trees.Tuple es c) h = tuple_step l es
step_less l _ h = omega arith

-- in brackets
pub group_more : (e : Expr) → allowed Named e ≡ true → length (written one Atom e) ≤ length (written one Named e) + 2
unfolding written
group_more (Trees.Yield _) h = fit_more Atom Named _ _
group_more (Trees.YieldFrom _) h = fit_more Atom Named _ _
group_more (Trees.NamedExpr _ _) h = fit_more Atom Named _ _
group_more (Trees.Lambda _ _) h = fit_more Atom Named _ _
group_more (Trees.IfExp _ _ _) h = fit_more Atom Named _ _
group_more (Trees.BoolOp _ _) h = fit_more Atom Named _ _
group_more (Trees.UnaryOp _ _) h = fit_more Atom Named _ _
group_more (Trees.Compare _ _ _) h = fit_more Atom Named _ _
group_more (Trees.BinOp _ _ _) h = fit_more Atom Named _ _
group_more (Trees.Await _) h = fit_more Atom Named _ _
group_more (Trees.Attribute _ _ _) h = fit_more Atom Named _ _
group_more (Trees.Call _ _ _) h = fit_more Atom Named _ _
group_more (Trees.Subscript _ _ _) h = fit_more Atom Named _ _
group_more (Trees.Slice _ _ _) h = fit_more Atom Named _ _
group_more (Trees.Starred e c) h = absurd (cc)
group_more _ h = omega arith
