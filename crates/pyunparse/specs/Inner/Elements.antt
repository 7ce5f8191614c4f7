-- The elements of a tuple.
use Rattle.std.specs.Prelude.{Bool, true, false, not, ◌&&◌, List, [], ◌∷◌}
use Rattle.pylex_lexeme.specs.declared.kinds.Exact.TheVariants.{Comma}
use Rattle.pytree_node.specs.Trees.{Exprs, no_exprs, an_expr}
use Rattle.pygrammar.specs.declared.levels.Level.{Level}
use Rattle.pygrammar.specs.declared.levels.Level.TheVariants.{Elem, Part}
use Rattle.pyunparse_text.specs.Written.{lone_star, trailing}
use Rattle.pyunparse_text.specs.Pieces.{Sited, piece}

-- the comma after an element that stands alone
abbrev pub last : Bool → List Sited
last true = trailing piece Comma ∷ []
last false = []

-- they need no brackets, by their level
abbrev pub is_elem : Level → Bool
is_elem Elem = true
is_elem _ = false

abbrev pub are_bare : Exprs → Level → Bool
are_bare no_exprs k = false
are_bare (an_expr e es) k = not (is_elem k)

-- one stands alone with a comma after it
abbrev pub is_part : Level → Bool
is_part Part = true
is_part _ = false

abbrev pub is_alone : Exprs → Level → Bool
is_alone (an_expr e no_exprs) k = not (is_part k && lone_star (an_expr e no_exprs))
is_alone _ k = false
