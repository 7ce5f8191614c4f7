-- The parameters so far, as values.
use Rattle.std.specs.Prelude.{◌≡◌, None, map}
use Rattle.pytree_node.specs.Trees.{optional}
use Rattle.pytree_node.specs.TreeOf.{tree_of, arg_of, arg_option_of, boxed_of, option_of}
use Rattle.pygrammar.specs.Entries.{Entry, Plain, Slashed, Bare, Gathered, Collected}
use Rattle.pyparse_nodes.specs.declared.parameters.Formal.{Formal}
use Rattle.pyparse_nodes.specs.declared.parameters.Parameter.{Parameter}
use Rattle.pyparse_nodes.specs.declared.parameters.Parameter.TheVariants as parameter
use Rattle.pyparse_nodes.specs.declared.stop.Stop.{Stop}
use Rattle.pyparse_nodes.specs.declared.stop.Stop.TheVariants as stop
use Rattle.pyparse_nodes.specs.Formals.{State, outcome, state}

abbrev pub state_of : Formal → State
state_of f = state f.stage f.defaulted (map arg_of f.posonlyargs.items) (map arg_of f.args.items) (arg_option_of f.vararg)
    (map arg_of f.kwonlyargs.items) (map optional (map option_of f.kw_defaults.items)) (arg_option_of f.kwarg)
    (map tree_of f.defaults.items)

-- the grammar's entry for one of them
abbrev pub entry_of : Parameter → Entry
entry_of (parameter.Plain a d) = Plain (arg_of a) (optional (boxed_of d))
entry_of parameter.Slashed = Slashed
entry_of parameter.Bare = Bare
entry_of (parameter.Gathered a) = Gathered (arg_of a)
entry_of (parameter.Collected a) = Collected (arg_of a)

-- they may not end here
pub record IsDisarranged (x : State) (s : Stop) : Type 0 where
  pub why : s ≡ stop.NoForm
  pub is : outcome x ≡ None
