-- What the operators of the program are to the grammar, and of which levels they are.
use Rattle.std.specs.Prelude.{◌≡◌, Bool, true, false}
use Rattle.pygrammar.specs.declared.levels.Level.{Level}
use Rattle.pygrammar.specs.declared.levels.Level.TheVariants.{Or, And, Not, Compare, BitOr, BitXor, BitAnd, Shift, Sum, Term, Factor, Power}
use Rattle.pygrammar.specs.declared.levels.Level.TheVariants.{Await}
use Rattle.pygrammar.specs.Operators.{below}
use Rattle.pygrammar.specs.Precedence as precedence
use Rattle.pyparse_nodes.specs.declared.operators.Infix.{Infix}
use Rattle.pyparse_nodes.specs.declared.operators.Infix.TheVariants.{Left, Raise, Joins, Compares}
use Rattle.pyparse_nodes.specs.declared.operators.Prefix.{Prefix}
use Rattle.pyparse_nodes.specs.declared.operators.Prefix.TheVariants.{Signed, Awaits}

-- what an operator of the program is to the grammar
abbrev pub infix_value : Infix → precedence.Infix
infix_value (Left l o) = precedence.Left l o
infix_value Raise = precedence.Raise
infix_value (Joins o) = precedence.Joins o
infix_value Compares = precedence.Compares

abbrev pub prefix_value : Prefix → precedence.Prefix
prefix_value (Signed l o) = precedence.Signed l o
prefix_value Awaits = precedence.Awaits

-- the levels that are read by climbing
abbrev pub climbing : Level → Bool
climbing Or = true
climbing And = true
climbing Not = true
climbing Compare = true
climbing BitOr = true
climbing BitXor = true
climbing BitAnd = true
climbing Shift = true
climbing Sum = true
climbing Term = true
climbing Factor = true
climbing Power = true
climbing Await = true
climbing _ = false

-- what stands after such an operator is read by climbing
abbrev pub IsPrefix : precedence.Prefix → Type 0
IsPrefix (precedence.Signed l o) = climbing l ≡ true
IsPrefix _ = Unit {0}

abbrev pub IsInfix : precedence.Infix → Type 0
IsInfix (precedence.Left l o) = climbing (below l) ≡ true
IsInfix _ = Unit {0}
