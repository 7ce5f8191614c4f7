-- How high is what the parts of an expression have in hand.
--
-- Carries: list_size, gens_size and their like, for Related/Expressions, Related/Lines, Bound, Caps, CapsBrackets.
use Rattle.std.proofs.Common.{◌≡◌, refl, ap, ℕ, suc, ◌≤◌, arith, List, [], ◌∷◌, ◌++◌, Bool}
use Rattle.std.specs.Prelude.{max}
use Rattle.pygrammar.specs.declared.levels.Level.{Level}
use Rattle.pytree_node.specs.Trees
use Rattle.pytree_node.specs.Trees.{Expr, exprs, comprehensions, Comprehension}
use Rattle.pygrammar.specs.Entries.{singles, keys, values, Item, Of, Pair, Argument, Parameter, Entry, Single, Paired, Doubled}
use Rattle.pytree_height.specs.Heights.{height, heights, optional_heights, comprehension_heights}
use Rattle.pygrammar.specs.Inner.EntryHeights.{entry_height, entries_height}

-- the size of a part, one level further up
abbrev pub under : {A : Type 0} → (A → ℕ) → A → ℕ
under s a = suc (s a)

abbrev pub entry_size : Item → Entry → ℕ
entry_size (Of l) (Single e) = height e
entry_size (Of l) a = 0
entry_size Pair (Paired k e) = max (height k) (height e)
entry_size Pair (Doubled e) = height e
entry_size Pair a = 0
entry_size Argument a = entry_height a
entry_size (Parameter b) a = entry_height a

abbrev pub list_size : Item → List Entry → ℕ
list_size i [] = 0
list_size i (a ∷ es) = max (entry_size i a) (list_size i es)

pub list_last : (i : Item) (es : List Entry) (a : Entry) → list_size i (es ++ (a ∷ [])) ≡ max (list_size i es) (entry_size i a)
list_last i [] a = omega arith
list_last i (e ∷ es) a = omega (arith, list_last i es a)

pub singles_size : (l : Level) (es : List Entry) → list_size (Of l) es ≤ heights (singles es)
singles_size l [] = omega arith
singles_size l (Single e ∷ es) = omega (arith, singles_size l es)
singles_size l (_ ∷ es) = omega (arith, singles_size l es)

pub pairs_size : (es : List Entry) → list_size Pair es ≤ max (optional_heights (keys es)) (heights (values es))
pairs_size [] = omega arith
pairs_size (Paired k e ∷ es) = omega (arith, pairs_size es)
pairs_size (Doubled e ∷ es) = omega (arith, pairs_size es)
pairs_size (_ ∷ es) = omega (arith, pairs_size es)

pub arguments_size : (es : List Entry) → list_size Argument es ≡ entries_height es
arguments_size [] = refl
arguments_size (a ∷ es) = ap (max (entry_height a)) (arguments_size es)

pub parameters_size : (b : Bool) (es : List Entry) → list_size (Parameter b) es ≡ entries_height es
parameters_size b [] = refl
parameters_size b (a ∷ es) = ap (max (entry_height a)) (parameters_size b es)

abbrev pub exprs_size : List Expr → ℕ
exprs_size es = heights (exprs es)

pub exprs_last : (es : List Expr) (e : Expr) → exprs_size (es ++ (e ∷ [])) ≡ max (exprs_size es) (height e)
exprs_last [] e = omega arith
exprs_last (a ∷ es) e = omega (arith, exprs_last es e)

abbrev pub gen_size : Comprehension → ℕ
gen_size g = max (height g.target) (max (height g.iter) (heights (exprs g.ifs)))

abbrev pub gens_size : List Comprehension → ℕ
gens_size gs = comprehension_heights (comprehensions gs)

pub gens_last : (gs : List Comprehension) (g : Comprehension) → gens_size (gs ++ (g ∷ [])) ≡ max (gens_size gs) (gen_size g)
gens_last [] g = omega arith
gens_last (f ∷ gs) g = omega (arith, gens_last gs g)

pub height_some : (e : Expr) → 1 ≤ height e
height_some (Trees.Await e) = omega arith
height_some _ = omega arith
