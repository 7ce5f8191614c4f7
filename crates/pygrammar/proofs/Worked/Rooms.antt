-- Worked answers with room: what counts, and what does not.
--
-- Carries: no contract; its rows are computed as it is checked.
use Rattle.std.proofs.Common.{◌≡◌, refl, ℕ, List, [], ◌∷◌, ◌++◌, zero, suc}
use Rattle.pylex_lexeme.specs.declared.kinds.Exact.TheVariants.{Plus, Minus, Star, Dot, LPar, RPar, LSqb, RSqb}
use Rattle.pygrammar.specs.declared.levels.Level.TheVariants.{Value}
use Rattle.pytree_node.specs.Trees.{Expr}
use Rattle.pytoken.specs.Terminals.{Terminal, Op, in_form}
use Rattle.pytree_height.specs.Heights.{height}
use Rattle.pygrammar.specs.Reader.{Answer, Found, NoForm, TooDeep}
use Rattle.pygrammar.specs.Capped.{limited, limit}

-- 0: found in full, 1: no form or something left, 2: too deep; above 2 the height and two
abbrev kind : Answer Expr → ℕ
kind (Found e []) = suc (suc (height e))
kind (Found e (t ∷ r)) = 1
kind NoForm = 1
kind TooDeep = 2

abbrev times : ℕ → List Terminal → List Terminal → List Terminal
times zero ts us = us
times (suc n) ts us = ts ++ times n ts us

abbrev x : Terminal
x = in_form (120 ∷ [])

-- x + x + .. and x.x.x..: higher by one with each
abbrev sums : ℕ → List Terminal
sums n = x ∷ times n (Op Plus ∷ x ∷ []) []

abbrev dots : ℕ → List Terminal
dots n = x ∷ times n (Op Dot ∷ x ∷ []) []

sum_fits : kind (limit 21 Value (sums 20)) ≡ 23
sum_fits = refl

sum_high : kind (limit 20 Value (sums 20)) ≡ 2
sum_high = refl

dots_fit : kind (limit 21 Value (dots 20)) ≡ 23
dots_fit = refl

dots_high : kind (limit 20 Value (dots 20)) ≡ 2
dots_high = refl

-- refused on the spot, though no form follows; and the same that is short enough
dots_open : kind (limit 20 Value (dots 21 ++ (Op LPar ∷ []))) ≡ 2
dots_open = refl

dots_short : kind (limit 20 Value (dots 20 ++ (Op LPar ∷ []))) ≡ 1
dots_short = refl

-- groups need no room
groups : kind (limit 1 Value (times 20 (Op LPar ∷ []) (in_form (120 ∷ []) ∷ times 20 (Op RPar ∷ []) []))) ≡ 3
groups = refl

-- a list, a sign, a star in a subscript
lists_fit : kind (limit 21 Value (times 20 (Op LSqb ∷ []) (in_form (120 ∷ []) ∷ times 20 (Op RSqb ∷ []) []))) ≡ 23
lists_fit = refl

lists_high : kind (limit 20 Value (times 20 (Op LSqb ∷ []) (in_form (120 ∷ []) ∷ times 20 (Op RSqb ∷ []) []))) ≡ 2
lists_high = refl

star_fits : kind (limit 4 Value (in_form (120 ∷ []) ∷ Op LSqb ∷ Op Star ∷ in_form (121 ∷ []) ∷ Op RSqb ∷ [])) ≡ 6
star_fits = refl

star_high : kind (limit 3 Value (in_form (120 ∷ []) ∷ Op LSqb ∷ Op Star ∷ in_form (121 ∷ []) ∷ Op RSqb ∷ [])) ≡ 2
star_high = refl

-- twenty signs and nothing: with room 20 alone this is too deep, with the last check it is no form
signs_alone : kind (limited 20 Value (times 20 (Op Minus ∷ []) [])) ≡ 2
signs_alone = refl

signs_checked : kind (limit 20 Value (times 20 (Op Minus ∷ []) [])) ≡ 1
signs_checked = refl

signs_more : kind (limit 20 Value (times 21 (Op Minus ∷ []) [])) ≡ 2
signs_more = refl

-- a height of at most 500
bound_sums : kind (limit 500 Value (sums 40)) ≡ 43
bound_sums = refl

bound_signs : kind (limit 500 Value (times 60 (Op Minus ∷ []) (in_form (120 ∷ []) ∷ []))) ≡ 63
bound_signs = refl
