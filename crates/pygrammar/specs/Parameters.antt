-- The order of parameters (language reference, 8.7).
use Rattle.std.specs.Prelude.{List, [], ◌∷◌, Option, Some, None, Bool, true, false, cond, option_map}
use Rattle.pytree_node.specs.Trees.{Exprs, no_exprs, an_expr, OptionalExpr, absent, present, no_optional, an_optional, Arg, no_arg, an_arg}
use Rattle.pytree_node.specs.Trees.{absent_arg, present_arg, Arguments, arguments}
use Rattle.pygrammar.specs.Entries.{Entry, Plain, Slashed, Bare, Gathered, Collected}

-- Parameters, in this order: plain ones, and `/` after at least one; plain ones; `*` NAME, or a bare `*` that a keyword-only one follows;
-- keyword-only ones; `**` NAME. No plain one without a default follows one with.
abbrev pub with_kwarg : Arg → Arguments
with_kwarg a = arguments no_arg no_arg absent_arg no_arg no_optional (present_arg a) no_exprs

abbrev pub no_arguments : Arguments
no_arguments = arguments no_arg no_arg absent_arg no_arg no_optional absent_arg no_exprs

abbrev pub with_default : OptionalExpr → Exprs → Exprs
with_default absent ds = ds
with_default (present d) ds = an_expr d ds

abbrev pub add_keyword_only : Arg → OptionalExpr → Arguments → Arguments
add_keyword_only a d (arguments ps qs v ks kds k ds) = arguments ps qs v (an_arg a ks) (an_optional d kds) k ds

abbrev pub set_vararg : Arg → Arguments → Arguments
set_vararg a (arguments ps qs v ks kds k ds) = arguments ps qs (present_arg a) ks kds k ds

abbrev pub add_plain : Arg → OptionalExpr → Arguments → Arguments
add_plain a d (arguments ps qs v ks kds k ds) = arguments ps (an_arg a qs) v ks kds k (with_default d ds)

abbrev pub add_before_slash : Arg → OptionalExpr → Arguments → Arguments
add_before_slash a d (arguments ps qs v ks kds k ds) = arguments (an_arg a ps) qs v ks kds k (with_default d ds)

abbrev pub after_star : List Entry → Option Arguments
after_star [] = Some no_arguments
after_star (Plain a d ∷ es) = option_map (add_keyword_only a d) (after_star es)
after_star (Collected a ∷ []) = Some (with_kwarg a)
after_star _ = None

abbrev pub at_star : List Entry → Option Arguments
at_star [] = Some no_arguments
at_star (Gathered a ∷ es) = option_map (set_vararg a) (after_star es)
at_star (Bare ∷ (Plain a d ∷ es)) = after_star (Plain a d ∷ es)
at_star (Collected a ∷ []) = Some (with_kwarg a)
at_star _ = None

-- whether a default must stand, as one stood before
abbrev pub plain_ones : Bool → List Entry → Option Arguments
plain_ones true (Plain a absent ∷ es) = None
plain_ones false (Plain a absent ∷ es) = option_map (add_plain a absent) (plain_ones false es)
plain_ones b (Plain a (present d) ∷ es) = option_map (add_plain a (present d)) (plain_ones true es)
plain_ones b es = at_star es

abbrev pub defaulted : Bool → OptionalExpr → Bool
defaulted b absent = b
defaulted b (present d) = true

abbrev pub before_slash : Bool → List Entry → Option Arguments
before_slash true (Plain a absent ∷ es) = None
before_slash b (Plain a d ∷ (Slashed ∷ es)) = option_map (add_before_slash a d) (plain_ones (defaulted b d) es)
before_slash b (Plain a absent ∷ es) = option_map (add_before_slash a absent) (before_slash b es)
before_slash b (Plain a (present d) ∷ es) = option_map (add_before_slash a (present d)) (before_slash true es)
before_slash b _ = None

abbrev pub has_slash : List Entry → Bool
has_slash [] = false
has_slash (Slashed ∷ es) = true
has_slash (_ ∷ es) = has_slash es

abbrev pub arranged : List Entry → Option Arguments
arranged es = cond (has_slash es) (before_slash false es) (plain_ones false es)
