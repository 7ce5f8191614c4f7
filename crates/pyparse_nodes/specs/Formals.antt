-- Parameters as they are read, one after the other.
use Rattle.std.specs.Prelude.{List, [], ◌∷◌, ◌++◌, Option, Some, None, Bool, true, false}
use Rattle.pytree_node.specs.Trees.{Expr, Exprs, an_expr, OptionalExpr, absent, present, OptionalExprs, an_optional, Arg, Args, an_arg}
use Rattle.pytree_node.specs.Trees.{OptionalArg, present_arg, Arguments, arguments}
use Rattle.pygrammar.specs.Entries.{Entry, Plain, Slashed, Bare, Gathered, Collected}
use Rattle.pygrammar.specs.Parameters.{no_arguments}
use Rattle.pyparse_nodes.specs.declared.parameters.Stage.{Stage}
use Rattle.pyparse_nodes.specs.declared.parameters.Stage.TheVariants as stage

-- the stage, whether a default stood before, and the parts of the node in its order
pub data State : Type 0 where
  state : Stage → Bool → List Arg → List Arg → Option Arg → List Arg → List OptionalExpr → Option Arg → List Expr → State

abbrev pub start : State
start = state stage.Open false [] [] None [] [] None []

-- the same at another stage
abbrev pub staged : Stage → State → State
staged h (state g b ps qs v ks kds k ds) = state h b ps qs v ks kds k ds

abbrev pub spoilt : State → State
spoilt s = staged stage.Wrong s

-- what stood so far, as positional only
abbrev pub swapped : State → State
swapped (state g b ps qs v ks kds k ds) = state stage.Closed b qs ps v ks kds k ds

abbrev pub plainly : State → Arg → OptionalExpr → State
plainly (state g true ps qs v ks kds k ds) a absent = state stage.Wrong true ps qs v ks kds k ds
plainly (state g false ps qs v ks kds k ds) a absent = state g false ps (qs ++ (a ∷ [])) v ks kds k ds
plainly (state g b ps qs v ks kds k ds) a (present e) = state g true ps (qs ++ (a ∷ [])) v ks kds k (ds ++ (e ∷ []))

abbrev pub keyworded : State → Arg → OptionalExpr → State
keyworded (state g b ps qs v ks kds k ds) a d = state stage.Starred b ps qs v (ks ++ (a ∷ [])) (kds ++ (d ∷ [])) k ds

-- one more parameter
abbrev pub step : State → Entry → State
step (state stage.Open b ps qs v ks kds k ds) (Plain a d) = plainly (state stage.Open b ps qs v ks kds k ds) a d
step (state stage.Closed b ps qs v ks kds k ds) (Plain a d) = plainly (state stage.Closed b ps qs v ks kds k ds) a d
step (state stage.Lone b ps qs v ks kds k ds) (Plain a d) = keyworded (state stage.Lone b ps qs v ks kds k ds) a d
step (state stage.Starred b ps qs v ks kds k ds) (Plain a d) = keyworded (state stage.Starred b ps qs v ks kds k ds) a d
step (state stage.Open b ps (q ∷ qs) v ks kds k ds) Slashed = state stage.Closed b (q ∷ qs) ps v ks kds k ds
step (state stage.Open b ps qs v ks kds k ds) Bare = state stage.Lone b ps qs v ks kds k ds
step (state stage.Closed b ps qs v ks kds k ds) Bare = state stage.Lone b ps qs v ks kds k ds
step (state stage.Open b ps qs v ks kds k ds) (Gathered a) = state stage.Starred b ps qs (Some a) ks kds k ds
step (state stage.Closed b ps qs v ks kds k ds) (Gathered a) = state stage.Starred b ps qs (Some a) ks kds k ds
step (state stage.Open b ps qs v ks kds k ds) (Collected a) = state stage.Ended b ps qs v ks kds (Some a) ds
step (state stage.Closed b ps qs v ks kds k ds) (Collected a) = state stage.Ended b ps qs v ks kds (Some a) ds
step (state stage.Starred b ps qs v ks kds k ds) (Collected a) = state stage.Ended b ps qs v ks kds (Some a) ds
step s e = spoilt s

abbrev pub steps : State → List Entry → State
steps s [] = s
steps s (e ∷ es) = steps (step s e) es

-- lists in front of those of a node
abbrev pub args_before : List Arg → Args → Args
args_before [] r = r
args_before (a ∷ xs) r = an_arg a (args_before xs r)

abbrev pub optionals_before : List OptionalExpr → OptionalExprs → OptionalExprs
optionals_before [] r = r
optionals_before (d ∷ ds) r = an_optional d (optionals_before ds r)

abbrev pub exprs_before : List Expr → Exprs → Exprs
exprs_before [] r = r
exprs_before (e ∷ es) r = an_expr e (exprs_before es r)

abbrev pub arg_or : Option Arg → OptionalArg → OptionalArg
arg_or None r = r
arg_or (Some a) r = present_arg a

abbrev pub before : State → Arguments → Arguments
before (state g b ps qs v ks kds k ds) (arguments ps2 qs2 v2 ks2 kds2 k2 ds2) =
    arguments (args_before ps ps2) (args_before qs qs2) (arg_or v v2) (args_before ks ks2) (optionals_before kds kds2)
    (arg_or k k2) (exprs_before ds ds2)

-- the node, where they may end here
abbrev pub outcome : State → Option Arguments
outcome (state stage.Lone b ps qs v ks kds k ds) = None
outcome (state stage.Wrong b ps qs v ks kds k ds) = None
outcome s = Some (before s no_arguments)
