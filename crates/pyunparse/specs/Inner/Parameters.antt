-- Parameters, one by one.
use Rattle.std.specs.Prelude.{ℕ, zero, suc, ◌-◌, nat_lt, if◌then◌else◌, List, [], ◌∷◌, ◌++◌, drop, map}
use Rattle.pylex_lexeme.specs.declared.kinds.Exact.TheVariants.{Colon, Comma, Equal, Slash}
use Rattle.pytree_node.specs.Trees.{Arg, Args, arg, Arguments, arguments, Expr, Exprs}
use Rattle.pygrammar.specs.declared.levels.Level.TheVariants.{Expression}
use Rattle.pytoken.specs.Terminals.{in_form, Op}
use Rattle.pyunparse_text.specs.Written.{after_equal, each, free, names, suffixed, tight, trailing, with_defaults, with_slash}
use Rattle.pyunparse_text.specs.Pieces.{Sited, piece, pieces}

-- a name with its annotation
abbrev pub named : Arg → List Sited
named (arg x a) = free piece (in_form x) ∷ suffixed piece (trailing piece Colon) a

-- those that may be given by their places
abbrev pub by_places : Args → Args → Exprs → List (List Sited)
by_places ps qs ds =
    with_slash piece (names piece ps)
    (with_defaults (names piece ps ++ names piece qs) (map (after_equal piece) (each piece Expression ds)))

abbrev pub positional : Arguments → List (List Sited)
positional (arguments ps qs v ks kds k ds) = by_places ps qs ds

-- the `/` that stands after so many
abbrev pub slash_following : ℕ → List Sited
slash_following zero = []
slash_following (suc n) = trailing piece Comma ∷ (free piece (Op Slash) ∷ [])

-- the default of the one at a place, where so many have none
abbrev pub head_default : List Expr → List Sited
head_default [] = []
head_default (e ∷ es) = tight piece Equal ∷ pieces Expression e

abbrev pub default_at : ℕ → ℕ → List Expr → List Sited
default_at bare i es = if nat_lt i bare then [] else head_default (drop (i - bare) es)
